-- The sockets of a heap stand for one table alone, and those of a new heap for none.
use Rattle.std.proofs.Common.{◌≡◌, inl, inr, ℕ, suc, ◌≤◌, ◌/◌, List, [], ◌∷◌, length, replicate, Option, None, Some, unwrap_or, refl, sym, ap, subst, ◌∙◌, arith, Contains}
use Rattle.std.proofs.lemmas.Bool.{cases_lt}
use Rattle.std.proofs.lemmas.List.{get_or_past, get_or-replicate, length-replicate}
use Rattle.kabi_types.specs.Class.{size}
use Rattle.kabi_types.specs.declared.classes.Class.TheVariants as class
use Rattle.kheap_slabs.specs.Objects.{object}
use Rattle.kheap_slabs.specs.declared.objects.Sock.{Sock}
use Rattle.kheap_slabs.specs.Heap.{Heap, empty_heap}
use Rattle.kheap_slabs.specs.Spaces.{keys_in}
use Rattle.posix_defs.specs.Socket.{Stage, Idle, Listening, Connected, Socket, new_socket, peer_of, waiting_of}
use Rattle.posix_defs.specs.Sockets.{Sockets, sock_at, socket_at, backlog}
use Rattle.posix_defs.specs.SocketLinks.{NoneTwice, room_of, WaitsFor, WaitsNowhere, AreLinked}
use Rattle.chunk_queue.proofs.HeldLemmas.{HasBytes-unique}
use Rattle.usock_core.specs.Standing.{state_of, IsKept, StandsAt, StandsFor, IsClosableIn, IsHeldIn}
use Rattle.usock_core.proofs.CloseLemmas.{keys_in_row}

-- no socket is anywhere in a list of none
none_at : {X : Type 0} (n key : ℕ) → object {X = X} (replicate n None) key ≡ None
none_at n key = elim (cases_lt key n) [
  | inl lt ↦ get_or-replicate n key None None lt
  | inr le ↦ get_or_past (replicate n None) key None (rw length-replicate le)
]

no_socket : (n place : ℕ) → socket_at (replicate n None) place ≡ new_socket
no_socket n place = ap (λ o. unwrap_or o new_socket) (none_at n place)

none_linked : (n : ℕ) → AreLinked (replicate n None)
none_linked n = record {
  paired = λ place peer is. absurd (let none = ap (λ s. peer_of s.stage) (no_socket n place) in cc);
  apart = λ place is. let none = ap (λ s. peer_of s.stage) (no_socket n place) in cc;
  waiting = λ listener place there. absurd (nobody listener place there);
  once = λ listener. subst (λ (s : Socket). NoneTwice (waiting_of s.stage)) (sym (no_socket n listener)) tt;
  one_place = λ one other place here there. absurd (nobody one place here);
  backlog = λ place. subst (λ (s : Socket). length (waiting_of s.stage) ≤ backlog) (sym (no_socket n place)) (omega arith);
  room = λ place. subst (λ (s : Socket). length s.bytes ≤ room_of s.stage) (sym (no_socket n place)) (omega arith);
}
  where
    nobody : (listener place : ℕ) → WaitsFor (replicate n None) listener place → ⊥
    nobody listener place there = let it : Contains [] place = subst (λ (s : Socket). Contains (waiting_of s.stage) place) (no_socket n listener) there in omega (arith, it.1)

pub empty_held : (heap : ℕ) → IsHeldIn (empty_heap heap) []
empty_held heap = record {
  sockets = replicate (heap / size class.Sock) None;
  stands = record {
    table = record {
      places = length-replicate (heap / size class.Sock) None ∙ sym (length-replicate (heap / size class.Sock) None);
      each = λ key. nothing (object {X = Sock} (replicate (heap / size class.Sock) None) key) (sock_at (replicate (heap / size class.Sock) None) key) (none_at (heap / size class.Sock) key) (none_at (heap / size class.Sock) key);
    };
    linked = none_linked (heap / size class.Sock);
  };
  held = record {
    held = λ place there. absurd (let none = none_at {X = Socket} (heap / size class.Sock) place in grind arith);
    there = λ place here. absurd (omega (arith, here.1));
    apart = λ place here listener waits. omega (arith, here.1);
  };
}
  where
    nothing : (held : Option Sock) (socket : Option Socket) → held ≡ None → socket ≡ None → StandsAt (empty_heap heap) held socket
    nothing None None a b = tt
    nothing (Some sock) socket a b = absurd (cc)
    nothing None (Some socket) a b = absurd (cc)

-- a stage is told by what is kept of it
one_stage : (first second : Stage) → state_of first ≡ state_of second → peer_of first ≡ peer_of second → waiting_of first ≡ waiting_of second → first ≡ second
one_stage Idle Idle is peer waiting = refl
one_stage Idle (Listening places) is peer waiting = absurd (cc)
one_stage Idle (Connected other read write) is peer waiting = absurd (cc)
one_stage (Listening places) Idle is peer waiting = absurd (cc)
one_stage (Listening places) (Listening others) is peer waiting = ap Listening waiting
one_stage (Listening places) (Connected other read write) is peer waiting = absurd (cc)
one_stage (Connected other read write) Idle is peer waiting = absurd (cc)
one_stage (Connected other read write) (Listening places) is peer waiting = absurd (cc)
one_stage (Connected other read write) (Connected another reads writes) is peer waiting =
    let first : read ≡ reads = cc in
    let second : write ≡ writes = cc in
    rw (first, second, peer) refl

abbrev with_all : Stage → List ℕ → Option ℕ → Socket
with_all stage bytes bound = record { stage = stage; bytes = bytes; node = bound }

same_socket : (s t : Stage) (b c : List ℕ) (m n : Option ℕ) → s ≡ t → b ≡ c → m ≡ n → with_all s b m ≡ with_all t c n
same_socket s t b c m n stage bytes bound = rw (stage, bytes, bound) refl

one_socket : (h : Heap) (sock : Sock) (first second : Socket) → length (waiting_of first.stage) ≤ 8 → length (waiting_of second.stage) ≤ 8 → IsKept h sock first → IsKept h sock second → first ≡ second
one_socket h sock first second few few_too one other =
    same_socket first.stage second.stage first.bytes second.bytes first.node second.node
    (one_stage first.stage second.stage (sym one.shape.state ∙ other.shape.state) (sym one.shape.peer ∙ other.shape.peer)
    (sym (keys_in_row 8 (waiting_of first.stage) few) ∙ ap keys_in (sym one.shape.waiting ∙ other.shape.waiting) ∙ keys_in_row 8 (waiting_of second.stage) few_too))
    (HasBytes-unique h sock.queue first.bytes second.bytes one.bytes other.bytes)
    (sym one.shape.node ∙ other.shape.node)

few_of : (sockets : Sockets) (place : ℕ) (socket : Socket) → AreLinked sockets → sock_at sockets place ≡ Some socket → length (waiting_of socket.stage) ≤ 8
few_of sockets place socket linked is = subst (λ (s : Socket). length (waiting_of s.stage) ≤ 8) (ap (λ o. unwrap_or o new_socket) is) (linked.backlog place)

one_at : (h : Heap) (held : Option Sock) (first second : Option Socket) → ((socket : Socket) → first ≡ Some socket → length (waiting_of socket.stage) ≤ 8) → ((socket : Socket) → second ≡ Some socket → length (waiting_of socket.stage) ≤ 8) → StandsAt h held first → StandsAt h held second → first ≡ second
one_at h None None None few few_too one other = refl
one_at h None None (Some socket) few few_too one other = absurd other
one_at h None (Some socket) second few few_too one other = absurd one
one_at h (Some sock) None second few few_too one other = absurd one
one_at h (Some sock) (Some socket) None few few_too one other = absurd other
one_at h (Some sock) (Some socket) (Some another) few few_too one other = ap Some (one_socket h sock socket another (few socket refl) (few_too another refl) one other)

-- lists with the same at each place are the same
one_list : (first second : Sockets) → length first ≡ length second → ((place : ℕ) → sock_at first place ≡ sock_at second place) → first ≡ second
one_list [] [] long same = refl
one_list [] (socket ∷ rest) long same = absurd (omega (arith, long))
one_list (socket ∷ rest) [] long same = absurd (omega (arith, long))
one_list (socket ∷ rest) (other ∷ others) long same =
    let head : socket ≡ other = same 0 in
    let behind = one_list rest others (omega (arith, long)) (λ place. same (suc place)) in
    cc

pub one_table : (h : Heap) (first second : Sockets) → StandsFor h first → StandsFor h second → first ≡ second
one_table h first second one other =
    one_list first second (one.table.places ∙ sym other.table.places) (λ place. one_at h (object h.socks place) (sock_at first place) (sock_at second place) (λ socket is. few_of first place socket one.linked is) (λ socket is. few_of second place socket other.linked is) (one.table.each place) (other.table.each place))

-- one that can be closed waits nowhere, whichever table is spoken of
pub nowhere_in : (h : Heap) (key : ℕ) (sockets : Sockets) → IsClosableIn h key → StandsFor h sockets → WaitsNowhere sockets key
nowhere_in h key sockets closable stands =
    subst (λ (table : Sockets). WaitsNowhere table key) (one_table h closable.sockets sockets closable.stands stands) closable.nowhere
