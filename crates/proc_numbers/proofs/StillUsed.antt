-- A socket that was in use is in use still, whatever is made or taken beside it.
use Rattle.std.proofs.Common.{◌≡◌, ℕ, zero, suc, [], ◌∷◌, Option, None, Some, IsSome, List, refl, subst, sym}
use Rattle.kheap_slabs.specs.Objects.{InUse, object}
use Rattle.kheap_slabs.specs.declared.objects.Sock.{Sock}
use Rattle.kheap_slabs.specs.Heap.{Heap}
use Rattle.open_laws.specs.Owned.{HasItsOwners}
use Rattle.posix_defs.specs.Socket.{Socket, connected_to, new_socket, without_first}
use Rattle.posix_defs.specs.Sockets.{Sockets, after_accept, sock_at, stage_at, socket_at, with_new, with_pair, with_socket}
use Rattle.usock_core.specs.Standing.{StandsFor as SocketsStandFor}
use Rattle.usock_core.proofs.StandingLemmas.{found, used_from}
use Rattle.proc_numbers.specs.SocketOpening.{StillUsed}

-- a place that has a socket has one where one is put anywhere
pub there_with : (sockets : Sockets) (place other : ℕ) (socket : Socket) → IsSome (sock_at sockets other) → IsSome (sock_at (with_socket sockets place (Some socket)) other)
there_with [] place other socket there = cc
there_with (first ∷ rest) zero zero socket there = refl
there_with (first ∷ rest) zero (suc other) socket there = there
there_with (first ∷ rest) (suc place) zero socket there = there
there_with (first ∷ rest) (suc place) (suc other) socket there = there_with rest place other socket there

-- and where sockets are those of the heap before
pub still_on : (old mid new : Heap) → new.socks ≡ mid.socks → StillUsed old mid → StillUsed old new
still_on old mid new same still key used = subst (λ (socks : List (Option Sock)). InUse socks key) (sym same) (still key used)

module _ (old new : Heap) (owners : HasItsOwners old []) where
  -- the heap's sockets stand for some, of which each is there afterwards
  still : (after : Sockets → Sockets) → ((sockets : Sockets) → SocketsStandFor old sockets → SocketsStandFor new (after sockets))
      → ((sockets : Sockets) (key : ℕ) → IsSome (sock_at sockets key) → IsSome (sock_at (after sockets) key)) → StillUsed old new
  still after stands stay key used = by_object (object old.socks key) refl used
    where
      by_object : (o : Option Sock) → object old.socks key ≡ o → IsSome o → InUse new.socks key
      by_object None is there = cc
      by_object (Some sock) is there =
          used_from new (after owners.held.socks.sockets) key (stands owners.held.socks.sockets owners.held.socks.stands).table
          (stay owners.held.socks.sockets key (found old owners.held.socks.sockets key sock owners.held.socks.stands.table is).there)

  pub still_made : (made : ℕ) → ((sockets : Sockets) → SocketsStandFor old sockets → SocketsStandFor new (with_new sockets made)) → StillUsed old new
  still_made made stands = still (λ sockets. with_new sockets made) stands (λ sockets key. there_with sockets made key new_socket)

  pub still_paired : (one other : ℕ) → ((sockets : Sockets) → SocketsStandFor old sockets → SocketsStandFor new (with_pair sockets one other)) → StillUsed old new
  still_paired one other stands =
      still (λ sockets. with_pair sockets one other) stands
      (λ sockets key there. there_with (with_socket sockets one (Some (connected_to other))) other key (connected_to one) (there_with sockets one key (connected_to other) there))

  pub still_taken : (listener : ℕ) → ((sockets : Sockets) → SocketsStandFor old sockets → SocketsStandFor new (after_accept sockets listener)) → StillUsed old new
  still_taken listener stands =
      still (λ sockets. after_accept sockets listener) stands
      (λ sockets key. there_with sockets listener key (record (socket_at sockets listener) { stage = without_first (stage_at sockets listener) }))
