-- `pipe`: a new pipe, with a descriptor for each end.
use Rattle.std.specs.Prelude.{ℕ, ◌++◌, [], ◌∷◌, false, length, Option, None, Some}
use Rattle.kabi_types.specs.declared.errnos.Errno.TheVariants.{EMFILE}
use Rattle.kabi_types.specs.declared.replies.Reply.TheVariants.{Pair}
use Rattle.kabi_types.specs.declared.scripts.Script.{Script}
use Rattle.posix_defs.specs.Pipe.{new_pipe}
use Rattle.posix_defs.specs.Plain.{Plain, with_files}
use Rattle.posix_defs.specs.Answer.{Answer, failed, replied}
use Rattle.posix_defs.specs.Files.Descriptors.{Two, two_lowest_free}
use Rattle.posix_defs.specs.Files.Descriptions.{OnPipe, ReadOnly, WriteOnly, new_description}
use Rattle.posix_defs.specs.Files.State.{Files, descriptors_of, opened_as, with_pipes}

-- a new pipe, with its read end under the first descriptor and its write end under the second
abbrev pub piped : Files → ℕ → Two → Files
piped files pid two =
    opened_as
    (opened_as (with_pipes files (files.pipes ++ Some new_pipe ∷ [])) pid two.first false (new_description (OnPipe (length files.pipes)) ReadOnly))
    pid two.second false (new_description (OnPipe (length files.pipes)) WriteOnly)

-- both ends of a new pipe, the read end first; EMFILE where two descriptors aren't free
abbrev pub piped_under : Script → Plain → ℕ → Option Two → Answer
piped_under script plain pid None = failed script plain pid EMFILE
piped_under script plain pid (Some two) = replied script (with_files plain (piped plain.files pid two)) pid (Pair two.first two.second)

-- the two lowest descriptors that are free are the ends of a new pipe; EMFILE where fewer are (POSIX pipe)
unfoldable pub pipe : Script → Plain → ℕ → Answer
pipe script plain pid = piped_under script plain pid (two_lowest_free (descriptors_of plain.files pid))
