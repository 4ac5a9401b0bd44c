-- What a close of a number leaves of the machine's files, and what of its locks, which go by themselves.
use Rattle.std.specs.Prelude.{ℕ, Option, None, Some}
use Rattle.posix_defs.specs.Files.Closing.{released, unlocked_by}
use Rattle.posix_defs.specs.Files.Descriptions.{description_at}
use Rattle.posix_defs.specs.Files.Descriptors.{Descriptor, descriptor_at}
use Rattle.posix_defs.specs.Files.State.{Files, descriptors_of, with_open}
use Rattle.posix_defs.specs.Locks.{Locks}

-- the files without this descriptor of a process, if it is one, but with the locks that they had
abbrev pub without_in : Files → ℕ → ℕ → Option Descriptor → Files
without_in files pid fd None = files
without_in files pid fd (Some descriptor) = released (with_open files pid fd None) descriptor.description

-- the same by the number of the descriptor
abbrev pub without_number : Files → ℕ → ℕ → Files
without_number files pid fd = without_in files pid fd (descriptor_at (descriptors_of files pid) fd)

-- the locks that stay with this descriptor's close
abbrev pub locks_without : Files → ℕ → Option Descriptor → Locks
locks_without files pid None = files.locks
locks_without files pid (Some descriptor) = unlocked_by files pid (description_at files.descriptions descriptor.description)

-- the same by its number
abbrev pub locks_left : Files → ℕ → ℕ → Locks
locks_left files pid fd = locks_without files pid (descriptor_at (descriptors_of files pid) fd)
