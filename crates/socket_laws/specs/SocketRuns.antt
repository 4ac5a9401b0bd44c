-- What goes from one socket to another in a row of writes and reads.
use Rattle.std.specs.Prelude.{ℕ, List, [], ◌∷◌, length}
use Rattle.socket_laws.specs.QueueRuns.{QueueStep, Puts, Takes}
use Rattle.posix_defs.specs.Sockets.{Sockets, after_read, after_write}

-- a writer writes bytes, all of which go, or a reader reads so many
abbrev pub after_steps : Sockets → ℕ → ℕ → List QueueStep → Sockets
after_steps sockets writer reader [] = sockets
after_steps sockets writer reader (Puts bytes ∷ steps) = after_steps (after_write sockets writer bytes (length bytes)) writer reader steps
after_steps sockets writer reader (Takes n ∷ steps) = after_steps (after_read sockets reader n) writer reader steps
