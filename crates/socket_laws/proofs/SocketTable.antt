-- What a change of one socket leaves of the others.
use Rattle.std.proofs.Common.{◌≡◌, ◌≢◌, inl, inr, ℕ, zero, suc, ◌<◌, ◌≤◌, [], ◌∷◌, ◌++◌, length, Option, None, IsSome, unwrap_or, refl, ap, arith}
use Rattle.std.proofs.lemmas.List.{get_or_past}
use Rattle.std.proofs.lemmas.Bool.{cases_lt}
use Rattle.posix_defs.specs.Socket.{Socket, new_socket}
use Rattle.posix_defs.specs.Sockets.{Sockets, sock_at, socket_at, with_socket}

pub sock_at-with : (sockets : Sockets) (place : ℕ) (socket : Option Socket) → place ≤ length sockets → sock_at (with_socket sockets place socket) place ≡ socket
sock_at-with [] zero socket within = refl
sock_at-with [] (suc place) socket within = absurd (omega arith)
sock_at-with (other ∷ rest) zero socket within = refl
sock_at-with (other ∷ rest) (suc place) socket within = sock_at-with rest place socket (omega arith)

pub sock_at-with_other : (sockets : Sockets) (place other : ℕ) (socket : Option Socket) → place ≤ length sockets → other ≢ place → sock_at (with_socket sockets place socket) other ≡ sock_at sockets other
sock_at-with_other [] zero zero socket within differs = absurd (differs refl)
sock_at-with_other [] zero (suc other) socket within differs = refl
sock_at-with_other [] (suc place) other socket within differs = absurd (omega arith)
sock_at-with_other (first ∷ rest) zero zero socket within differs = absurd (differs refl)
sock_at-with_other (first ∷ rest) zero (suc other) socket within differs = refl
sock_at-with_other (first ∷ rest) (suc place) zero socket within differs = refl
sock_at-with_other (first ∷ rest) (suc place) (suc other) socket within differs = sock_at-with_other rest place other socket (omega arith) (λ same. differs (ap suc same))

pub length-with : (sockets : Sockets) (place : ℕ) (socket : Option Socket) → length sockets ≤ length (with_socket sockets place socket)
length-with [] place socket = omega arith
length-with (other ∷ rest) zero socket = omega arith
length-with (other ∷ rest) (suc place) socket = let behind = length-with rest place socket in omega (arith, behind)

pub length-with_there : (sockets : Sockets) (place : ℕ) (socket : Option Socket) → place < length sockets → length (with_socket sockets place socket) ≡ length sockets
length-with_there [] place socket within = absurd (omega arith)
length-with_there (other ∷ rest) zero socket within = refl
length-with_there (other ∷ rest) (suc place) socket within = let behind = length-with_there rest place socket (omega arith) in omega (arith, behind)

-- what is put behind the last place stands last
pub with-length : (sockets : Sockets) (socket : Option Socket) → with_socket sockets (length sockets) socket ≡ sockets ++ socket ∷ []
with-length [] socket = refl
with-length (other ∷ rest) socket = ap (λ list. other ∷ list) (with-length rest socket)

-- a socket that is there stands within the list
pub there_within : (sockets : Sockets) (place : ℕ) → IsSome (sock_at sockets place) → place < length sockets
there_within sockets place there = elim (cases_lt place (length sockets)) [
  | inl lt ↦ lt
  | inr le ↦ absurd (let none : sock_at sockets place ≡ None = get_or_past sockets place None le in grind arith)
]

-- one place has this socket from now on, as far as sockets are looked at, and every other what it had
pub record Changed (old new : Sockets) (place : ℕ) (socket : Socket) : Type 0 where
  pub at : socket_at new place ≡ socket
  pub others : (other : ℕ) → other ≢ place → socket_at new other ≡ socket_at old other

pub Changed-with : (sockets : Sockets) (place : ℕ) (socket : Option Socket) → place ≤ length sockets → Changed sockets (with_socket sockets place socket) place (unwrap_or socket new_socket)
Changed-with sockets place socket within = record {
  at = ap (λ o. unwrap_or o new_socket) (sock_at-with sockets place socket within);
  others = λ other differs. ap (λ o. unwrap_or o new_socket) (sock_at-with_other sockets place other socket within differs);
}
