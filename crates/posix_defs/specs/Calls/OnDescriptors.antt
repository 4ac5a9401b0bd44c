-- The calls on descriptors: `close`, `dup`, `dup2` and `fcntl`.
use Rattle.std.specs.Prelude.{ℕ, zero, suc, ◌==◌, ℤ, pos, Bool, false, if◌then◌else◌, Option, None, Some}
use Rattle.kabi_types.specs.Arguments.{count_of, may_be_descriptor}
use Rattle.kabi_types.specs.declared.errnos.Errno.TheVariants.{EBADF, EINVAL, EMFILE}
use Rattle.kabi_types.specs.declared.replies.Reply.TheVariants.{Val}
use Rattle.kabi_types.specs.declared.scripts.Script.{Script}
use Rattle.posix_defs.specs.Plain.{Plain, with_files}
use Rattle.posix_defs.specs.Answer.{Answer, failed, replied}
use Rattle.posix_defs.specs.Files.Descriptors.{Descriptor, descriptor_at, lowest_free, lowest_free_from, is_cloexec}
use Rattle.posix_defs.specs.Files.Descriptions.{has_flag, status_bits, with_status}
use Rattle.posix_defs.specs.Files.State.{Files, descriptors_of, with_open, described_as}
use Rattle.posix_defs.specs.Files.Closing.{after_close}
use Rattle.posix_defs.specs.Calls.Opened.{Opened, on_open}

-- the descriptor is closed (POSIX close)
unfoldable pub close : Script → Plain → ℕ → ℤ → Answer
close script plain pid fd =
    on_open script plain pid fd (λ opened. replied script (with_files plain (after_close plain.files pid (count_of fd))) pid (Val (pos 0)))

-- a further descriptor of what is open already, which `exec` doesn't close
abbrev pub shared_at : Files → ℕ → Opened → ℕ → Files
shared_at files pid opened fd = with_open files pid fd (Some (record { description = opened.place; cloexec = false }))

-- the free descriptor, by which the same description is named; EMFILE where none is free
abbrev pub duplicated : Script → Plain → ℕ → Opened → Option ℕ → Answer
duplicated script plain pid opened None = failed script plain pid EMFILE
duplicated script plain pid opened (Some fd) = replied script (with_files plain (shared_at plain.files pid opened fd)) pid (Val (pos fd))

-- the lowest descriptor that is free names the same description (POSIX dup)
unfoldable pub dup : Script → Plain → ℕ → ℤ → Answer
dup script plain pid fd =
    on_open script plain pid fd (λ opened. duplicated script plain pid opened (lowest_free (descriptors_of plain.files pid)))

-- a given descriptor, closed before if it is open, names the same description; the same one stays as it is
abbrev pub duplicated_to : Script → Plain → ℕ → Opened → ℕ → ℕ → Answer
duplicated_to script plain pid opened fd to =
    if fd == to then replied script plain pid (Val (pos to))
    else replied script (with_files plain (shared_at (after_close plain.files pid to) pid opened to)) pid (Val (pos to))

-- EBADF where the second isn't a number that a descriptor may have (POSIX dup2)
unfoldable pub dup2 : Script → Plain → ℕ → ℤ → ℤ → Answer
dup2 script plain pid fd to =
    on_open script plain pid fd (λ opened.
    if may_be_descriptor to then duplicated_to script plain pid opened (count_of fd) (count_of to) else failed script plain pid EBADF)

-- the descriptor with or without FD_CLOEXEC, if it is open
abbrev pub cloexec_set : Bool → Option Descriptor → Option Descriptor
cloexec_set cloexec None = None
cloexec_set cloexec (Some descriptor) = Some (record descriptor { cloexec = cloexec })

-- F_GETFD: 1 where `exec` closes the descriptor, else 0
abbrev pub cloexec_bit : Bool → ℕ
cloexec_bit cloexec = if cloexec then 1 else 0

-- F_DUPFD 0, F_GETFD 1, F_SETFD 2, F_GETFL 3, F_SETFL 4
abbrev pub controlled : Script → Plain → ℕ → ℕ → ℕ → ℤ → Opened → Answer
controlled script plain pid fd zero arg opened =
    duplicated script plain pid opened (lowest_free_from (descriptors_of plain.files pid) (count_of arg))
controlled script plain pid fd (suc zero) arg opened =
    replied script plain pid (Val (pos (cloexec_bit (is_cloexec (descriptors_of plain.files pid) fd))))
controlled script plain pid fd (suc (suc zero)) arg opened =
    replied script (with_files plain (with_open plain.files pid fd (cloexec_set (has_flag arg 1) (descriptor_at (descriptors_of plain.files pid) fd)))) pid (Val (pos 0))
controlled script plain pid fd (suc (suc (suc zero))) arg opened = replied script plain pid (Val (pos (status_bits opened.is)))
controlled script plain pid fd (suc (suc (suc (suc zero)))) arg opened =
    replied script (with_files plain (described_as plain.files opened.place (with_status opened.is arg))) pid (Val (pos 0))
controlled script plain pid fd (suc (suc (suc (suc (suc _))))) arg opened = failed script plain pid EINVAL

-- a descriptor's or a description's flags, and the lowest free descriptor from one on (POSIX fcntl)
unfoldable pub fcntl : Script → Plain → ℕ → ℤ → ℤ → ℤ → Answer
fcntl script plain pid fd cmd arg = on_open script plain pid fd (controlled script plain pid (count_of fd) (count_of cmd) arg)
