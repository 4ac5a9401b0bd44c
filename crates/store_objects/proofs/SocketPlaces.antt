-- The sockets of the heap have the places of the machine's, with as many bytes.
use Rattle.std.proofs.Common.{◌≡◌, ℕ, length, Option, None, Some, is_some, refl, ap, sym, ◌∙◌, subst}
use Rattle.kheap_slabs.specs.Objects.{InUse, object}
use Rattle.kheap_slabs.proofs.ObjectLemmas.{object_of}
use Rattle.kheap_slabs.specs.declared.objects.Sock.{Sock}
use Rattle.kheap_slabs.specs.Heap.{Heap}
use Rattle.open_laws.specs.Socketed.{AreSocketed, socket_by}
use Rattle.open_laws.specs.Placed.{ArePlaced, Numbers}
use Rattle.posix_defs.specs.Socket.{Socket}
use Rattle.posix_defs.specs.Sockets.{Sockets, sock_at}
use Rattle.usock_core.specs.Standing.{IsKept, StandsAt}

-- What a socket of the heap is by its key, and what by its place.
pub record SockThere (numbers : Numbers) (h : Heap) (sockets : Sockets) (key : ℕ) (sock : Sock) : Type 0 where
  pub socket : Socket
  pub there : object sockets (numbers.socks key) ≡ Some socket
  pub len : sock.queue.len ≡ length socket.bytes
  pub empty : sock.queue.len ≡ 0 → sock.queue.place ≡ 0

module _ (numbers : Numbers) (h : Heap) (sockets : Sockets) (are : AreSocketed numbers h sockets) where
  -- it is there by key, where it is in the heap
  by_key : (key : ℕ) (sock : Sock) → object h.socks key ≡ Some sock → (keyed : Socket) × (object are.keyed key ≡ Some keyed) × IsKept h sock keyed
  by_key key sock is = at (object are.keyed key) refl (subst (λ o. StandsAt h o (sock_at are.keyed key)) is (are.stands.table.each key))
    where
      at : (o : Option Socket) → object are.keyed key ≡ o → StandsAt h (Some sock) (object are.keyed key) → (keyed : Socket) × (object are.keyed key ≡ Some keyed) × IsKept h sock keyed
      at None none stands = absurd (subst (StandsAt h (Some sock)) none stands)
      at (Some keyed) some stands = (keyed, some, subst (StandsAt h (Some sock)) some stands)

  -- and the other way round
  in_heap : (key : ℕ) → InUse are.keyed key → InUse h.socks key
  in_heap key used = at (object h.socks key) refl (are.stands.table.each key)
    where
      at : (o : Option Sock) → object h.socks key ≡ o → StandsAt h (object h.socks key) (sock_at are.keyed key) → InUse h.socks key
      at None none stands = absurd (
          let keyed = object_of are.keyed key used in
          subst (StandsAt h None) keyed.1 (subst (λ o. StandsAt h o (sock_at are.keyed key)) none stands))
      at (Some sock) some stands = ap is_some some

  used_key : (key : ℕ) → InUse h.socks key → InUse are.keyed key
  used_key key used = let sock = object_of h.socks key used in let keyed = by_key key sock.0 sock.1 in ap is_some keyed.1

  pub sock_there : (key : ℕ) (sock : Sock) → object h.socks key ≡ Some sock → SockThere numbers h sockets key sock
  sock_there key sock is =
      let keyed = by_key key sock is in
      let placed = are.renamed.there key keyed.0 keyed.1 in
      let means : placed.0 ≡ socket_by numbers.socks keyed.0 = are.renamed.means key keyed.0 placed.0 keyed.1 placed.1 in
      let kept = keyed.2 in
      let owns = kept.bytes.owns in
      record {
        socket = placed.0;
        there = placed.1;
        len = kept.len ∙ sym (ap (λ (s : Socket). length s.bytes) means);
        empty = owns.empty;
      }

  -- The sockets of the heap have the machine's places.
  pub socks_placed : ArePlaced (λ key sock socket. sock.queue.len ≡ length socket.bytes) numbers.socks h.socks (object sockets)
  socks_placed = record {
    there = λ key sock is. let it = sock_there key sock is in (it.socket, it.there);
    means = λ key sock socket is at. let it = sock_there key sock is in it.len ∙ ap (λ (s : Socket). length s.bytes) (same it.socket socket it.there at);
    once = λ one other used also alike. are.renamed.once one other (used_key one used) (used_key other also) alike;
    found = λ place socket is. let it = are.renamed.found place socket is in (it.0, in_heap it.0 it.1, it.2);
  }
    where
      same : {o : Option Socket} (one other : Socket) → o ≡ Some one → o ≡ Some other → one ≡ other
      same one other e f = cc
