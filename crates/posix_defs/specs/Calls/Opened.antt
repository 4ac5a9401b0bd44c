-- The open description that a call names by a descriptor.
use Rattle.std.specs.Prelude.{ℕ, ℤ, if◌then◌else◌, Option, None, Some}
use Rattle.std.specs.Option.{option_map}
use Rattle.kabi_types.specs.declared.errnos.Errno.TheVariants.{EBADF}
use Rattle.kabi_types.specs.declared.scripts.Script.{Script}
use Rattle.posix_defs.specs.Plain.{Plain, with_files}
use Rattle.posix_defs.specs.Answer.{Answer, failed}
use Rattle.posix_defs.specs.Files.Descriptors.{Descriptor, descriptor_of}
use Rattle.posix_defs.specs.Files.Descriptions.{Description, description_at, at_offset, may_read, may_write}
use Rattle.posix_defs.specs.Files.State.{Files, descriptors_of, described_as}

-- a description, and its place
pub record Opened : Type 0 where
  pub place : ℕ
  pub is : Description

-- the description that a descriptor names, with its place; None where it isn't open
abbrev pub opened_by : Files → Option Descriptor → Option Opened
opened_by files None = None
opened_by files (Some descriptor) =
    option_map (λ description. record { place = descriptor.description; is = description }) (description_at files.descriptions descriptor.description)

-- what a descriptor of a process names; None where it isn't open
abbrev pub opened_at : Files → ℕ → ℤ → Option Opened
opened_at files pid fd = opened_by files (descriptor_of (descriptors_of files pid) fd)

-- an answer that goes by what is open; EBADF where nothing is
abbrev pub answer_on : Script → Plain → ℕ → (Opened → Answer) → Option Opened → Answer
answer_on script plain pid answer None = failed script plain pid EBADF
answer_on script plain pid answer (Some opened) = answer opened

-- an answer that goes by what a descriptor names; EBADF where it isn't open
abbrev pub on_open : Script → Plain → ℕ → ℤ → (Opened → Answer) → Answer
on_open script plain pid fd answer = answer_on script plain pid answer (opened_at plain.files pid fd)

-- an answer for who may read; EBADF where the description isn't open for reading
abbrev pub if_readable : Script → Plain → ℕ → Opened → Answer → Answer
if_readable script plain pid opened answer = if may_read opened.is.access then answer else failed script plain pid EBADF

-- an answer for who may write; EBADF where the description isn't open for writing
abbrev pub if_writable : Script → Plain → ℕ → Opened → Answer → Answer
if_writable script plain pid opened answer = if may_write opened.is.access then answer else failed script plain pid EBADF

-- the machine, where a description is at another offset
abbrev pub moved_to : Plain → Opened → ℕ → Plain
moved_to plain opened offset = with_files plain (described_as plain.files opened.place (at_offset opened.is offset))
