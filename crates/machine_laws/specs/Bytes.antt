-- Of bytes in memory, pipes and sockets, what every machine that is reached keeps.
use Rattle.std.specs.Prelude.{ℕ, ◌<◌, ◌^◌, ◌≡◌, List, Option, None, Some}
use Rattle.std.specs.List.{All}
use Rattle.posix_defs.specs.Memory.{Memory}
use Rattle.posix_defs.specs.Pipe.{Pipe}
use Rattle.posix_defs.specs.Plain.{Plain}
use Rattle.posix_defs.specs.Process.{memory_of}
use Rattle.posix_defs.specs.Sockets.{socket_at}
use Rattle.posix_defs.specs.Files.State.{pipe_there}

-- each is below 256
abbrev pub AreBytes : List ℕ → Type 0
AreBytes bytes = All (λ byte. byte < 2 ^ 8) bytes

-- a page that is mapped has bytes
abbrev pub HasPageBytes : Option (List ℕ) → Type 0
HasPageBytes None = Unit {0}
HasPageBytes (Some bytes) = AreBytes bytes

abbrev pub HasMemoryBytes : Memory → Type 0
HasMemoryBytes memory = All HasPageBytes memory

-- What processes have in memory, and what pipes and sockets hold, are bytes.
pub record HasBytes (plain : Plain) : Type 0 where
  pub memory : (pid : ℕ) → HasMemoryBytes (memory_of plain.table pid)
  pub pipes : (place : ℕ) → (pipe : Pipe) → pipe_there plain.files place ≡ Some pipe → AreBytes pipe.bytes
  pub sockets : (place : ℕ) → AreBytes (socket_at plain.files.sockets place).bytes
