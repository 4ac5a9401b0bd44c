-- Sockets of the heap that no Desc is open on yet: those that were just made or taken.
use Rattle.std.specs.Prelude.{ℕ, ◌≡◌, ◌≢◌, false, List, ◌++◌, Some}
use Rattle.std.specs.List.{Contains}
use Rattle.kheap_slabs.specs.Objects.{InUse, object}
use Rattle.kheap_slabs.specs.declared.objects.Access.TheVariants as mode
use Rattle.kheap_slabs.specs.declared.objects.Desc.{Desc}
use Rattle.kheap_slabs.specs.declared.objects.Pipe.{Pipe}
use Rattle.kheap_slabs.specs.declared.objects.Target.TheVariants as target
use Rattle.kheap_slabs.specs.Heap.{Heap}
use Rattle.kheap_slabs.specs.Owners.{OwnsItsObjects}
use Rattle.open_laws.specs.Owned.{CountsItsNames, HasItsEnds, IsThereFor, sock_in, socks_named}
use Rattle.pipe_ends.specs.Standing.{IsPipeAt}
use Rattle.posix_defs.specs.SocketLinks.{NoneTwice}
use Rattle.usock_core.specs.Standing.{IsHeldIn, LeavesOthers}

-- a new description of a socket, which one descriptor names
abbrev pub desc_on : ℕ → Desc
desc_on sock = record {
  target = target.Sock sock;
  offset = 0;
  access = mode.Both;
  flags = record { append = false; nonblock = false };
  count = 1;
}

-- All objects of the heap have their owners, but for these sockets, each of which waits for a Desc to be open on it.
pub record HasOwnersBut (h : Heap) (hand loose : List ℕ) : Type 0 where
  pub objects : OwnsItsObjects h
  pub named : CountsItsNames h hand
  pub targets : (key : ℕ) (desc : Desc) → object h.descs key ≡ Some desc → IsThereFor h desc.access desc.target
  pub pipes : (key : ℕ) (pipe : Pipe) → object h.pipes key ≡ Some pipe → HasItsEnds h.descs key pipe
  pub stand : (key : ℕ) → InUse h.pipes key → IsPipeAt h key
  pub socks : IsHeldIn h (loose ++ socks_named h.descs)
  pub once : (one other sock : ℕ) → sock_in (object h.descs one) ≡ Some sock → sock_in (object h.descs other) ≡ Some sock → one ≡ other
  pub apart : (sock : ℕ) → Contains loose sock → (key : ℕ) → sock_in (object h.descs key) ≢ Some sock
  pub single : NoneTwice loose

-- Sockets are others, of which these have no Desc yet; of the other objects only chunks are others.
pub record SocketsChange (old new : Heap) (loose : List ℕ) : Type 0 where
  pub others : LeavesOthers old new
  pub objects : OwnsItsObjects new
  pub held : (named : List ℕ) → IsHeldIn old named → IsHeldIn new (loose ++ named)
