-- What the calls answer, as the plain machine says it.
use Rattle.std.specs.Prelude.{◌≡◌, ℕ, Bool, true, false, List, ◌∷◌, Option, None, Some, Result, Err, IsOk}
use Rattle.kabi_types.specs.declared.errnos.Errno.{Errno}
use Rattle.kheap_slabs.specs.Objects.{object, InUse}
use Rattle.kheap_slabs.specs.Heap.{Heap}
use Rattle.posix_defs.specs.Socket.{Accepting, Takes, Waits, Refuses}
use Rattle.posix_defs.specs.Sockets.{Sockets, after_connect, after_accept}
use Rattle.usock_core.specs.Standing.{StandsFor}
use Rattle.usock_core.specs.declared.accepted.Accepted.{Accepted}
use Rattle.usock_core.specs.declared.accepted.Accepted.TheVariants as accepted

-- the call is refused with just this fault, and is Ok where there is none
abbrev pub Answers : {X : Type 0} → Result X Errno → Option Errno → Type 0
Answers result None = IsOk result
Answers result (Some errno) = result ≡ Err errno

-- a new socket was made, which is the peer of this one and waits for the listener
pub record IsConnectedBy (old new : Heap) (key listener : ℕ) : Type 0 where
  pub made : ℕ
  pub vacant : object old.socks made ≡ None
  pub used : InUse new.socks made
  pub stands : (sockets : Sockets) → StandsFor old sockets → StandsFor new (after_connect sockets key listener made)

-- the plain answer that an answer of accept stands for
abbrev pub accepting_of : Accepted → Accepting
accepting_of (accepted.Took key) = Takes key
accepting_of accepted.Blocked = Waits
accepting_of (accepted.Fault errno) = Refuses errno

-- the sockets after an accept that was answered so
abbrev pub after_answer : Sockets → ℕ → Accepted → Sockets
after_answer sockets listener (accepted.Took key) = after_accept sockets listener
after_answer sockets listener accepted.Blocked = sockets
after_answer sockets listener (accepted.Fault errno) = sockets

-- those that are named after an accept that was answered so
abbrev pub named_after : Accepted → List ℕ → List ℕ
named_after (accepted.Took key) named = key ∷ named
named_after accepted.Blocked named = named
named_after (accepted.Fault errno) named = named

-- this holds unless a socket was taken: the call would have to wait, or was refused
abbrev pub UnlessTook : Accepted → Type 0 → Type 0
UnlessTook (accepted.Took key) Holds = Unit {0}
UnlessTook accepted.Blocked Holds = Holds
UnlessTook (accepted.Fault errno) Holds = Holds

-- whether an accept that is answered so would have to wait
abbrev pub accept_would_wait : Accepting → Bool
accept_would_wait (Takes key) = false
accept_would_wait Waits = true
accept_would_wait (Refuses errno) = false
