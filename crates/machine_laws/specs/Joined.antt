-- Of sockets and the descriptions that name them, what every machine that is reached keeps.
use Rattle.std.specs.Prelude.{ℕ, ◌≡◌, Some}
use Rattle.posix_defs.specs.SocketLinks.{AreLinked, AreHeld, NoneTwice}
use Rattle.posix_defs.specs.Sockets.{Sockets}
use Rattle.posix_defs.specs.Files.Descriptions.{OnSocket, ReadWrite, Description, Descriptions, description_at}
use Rattle.posix_defs.specs.Files.Whole.{named_sockets}

-- Sockets are linked; each one that is there is named by a description or waits, and none does both; no two descriptions
-- name one; and the description of a socket reads and writes.
pub record AreJoined (descriptions : Descriptions) (sockets : Sockets) : Type 0 where
  pub linked : AreLinked sockets
  pub held : AreHeld sockets (named_sockets descriptions)
  pub once : NoneTwice (named_sockets descriptions)
  pub both_ways : (place socket : ℕ) (description : Description) → description_at descriptions place ≡ Some description → description.target ≡ OnSocket socket
      → description.access ≡ ReadWrite
