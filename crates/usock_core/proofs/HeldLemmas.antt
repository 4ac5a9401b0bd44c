-- The sockets of a heap are those that descriptions name and those that wait, before and after each call.
use Rattle.std.proofs.Common.{inl, inr, ◌≡◌, ◌≢◌, ℕ, zero, suc, get_or, ℤ, ◌<◌, ◌≤◌, List, [], ◌∷◌, length, Option, None, Some, IsSome, refl, sym, ap, ◌∙◌, arith, Contains}
use Rattle.kheap_slabs.specs.Objects.{object}
use Rattle.kheap_slabs.specs.declared.objects.Sock.{Sock}
use Rattle.kheap_slabs.specs.declared.objects.SockState.TheVariants as state
use Rattle.kheap_slabs.specs.Heap.{Heap}
use Rattle.kheap_slabs.proofs.ObjectLemmas.{object_of}
use Rattle.posix_defs.specs.Socket.{Listening, new_socket, connected_to, waiting_of}
use Rattle.posix_defs.specs.Sockets.{Sockets, sock_at, stage_at, with_socket, with_name, with_new, with_pair, after_listen, after_connect, after_accept, after_read, after_write, after_shut, after_close}
use Rattle.posix_defs.specs.SocketLinks.{AreHeld}
use Rattle.socket_laws.proofs.SocketTable.{length-with, length-with_there}
use Rattle.socket_laws.proofs.SocketHeld.{new_held, pair_held, named_held, listen_held, read_held, write_held, shut_held, connect_held, accept_held, close_held}
use Rattle.usock_core.specs.Standing.{in_row, IsShape, StandsFor, IsSocketIn, IsIdleIn, IsListeningIn, IsClosableIn, IsHeldIn}
use Rattle.usock_core.specs.Steps.{Comes}
use Rattle.usock_core.proofs.StandingLemmas.{found, free_from, used_from}
use Rattle.usock_core.proofs.ConnectLemmas.{backlog_of, idle_now, listens_still}

-- what descriptions name are sockets, and can be closed
pub socket_held : (h : Heap) (named : List ℕ) (key : ℕ) → Contains named key → IsHeldIn h named → IsSocketIn h key
socket_held h named key there is = record {
  sockets = is.sockets;
  stands = is.stands;
  used = used_from h is.sockets key is.stands.table (is.held.there key there);
}

pub closable_held : (h : Heap) (named : List ℕ) (key : ℕ) → Contains named key → IsHeldIn h named → IsClosableIn h key
closable_held h named key there is = record {
  sockets = is.sockets;
  stands = is.stands;
  used = used_from h is.sockets key is.stands.table (is.held.there key there);
  nowhere = is.held.apart key there;
}

-- one that is kept as listening listens
pub listening_in : (h : Heap) (key : ℕ) (sock : Sock) → object h.socks key ≡ Some sock → sock.state ≡ state.Listening → IsSocketIn h key → IsListeningIn h key
listening_in h key sock there listens is = record {
  sockets = is.sockets;
  stands = is.stands;
  waiting = waiting_of (stage_at is.sockets key);
  listens = (backlog_of h key sock is.sockets there listens is.stands).stage;
}

there_in : (h : Heap) (key : ℕ) (sockets : Sockets) → IsSocketIn h key → StandsFor h sockets → IsSome (sock_at sockets key)
there_in h key sockets is stands =
    let named = object_of h.socks key is.used in
    (found h sockets key named.0 stands.table named.1).there

-- a call that changes one socket
pub held_after : (old new : Heap) (next : Sockets → Sockets) → ((sockets : Sockets) → StandsFor old sockets → StandsFor new (next sockets)) → ((sockets : Sockets) (named : List ℕ) → StandsFor old sockets → AreHeld sockets named → AreHeld (next sockets) named) → (named : List ℕ) → IsHeldIn old named → IsHeldIn new named
held_after old new next stands holds named is = record {
  sockets = next is.sockets;
  stands = stands is.sockets is.stands;
  held = holds is.sockets named is.stands is.held;
}

pub held_named : (old new : Heap) (key : ℕ) (bound : Option ℕ) → IsSocketIn old key → ((sockets : Sockets) → StandsFor old sockets → StandsFor new (with_name sockets key bound)) → (named : List ℕ) → IsHeldIn old named → IsHeldIn new named
held_named old new key bound there stands =
    held_after old new (λ sockets. with_name sockets key bound) stands (λ sockets named stood held. named_held sockets named key bound (there_in old key sockets there stood) held)

pub held_listening : (old new : Heap) (key : ℕ) → IsSocketIn old key → ((sockets : Sockets) → StandsFor old sockets → StandsFor new (after_listen sockets key)) → (named : List ℕ) → IsHeldIn old named → IsHeldIn new named
held_listening old new key there stands =
    held_after old new (λ sockets. after_listen sockets key) stands (λ sockets named stood held. listen_held sockets named key (there_in old key sockets there stood) held)

pub held_read : (old new : Heap) (key k : ℕ) → IsSocketIn old key → ((sockets : Sockets) → StandsFor old sockets → StandsFor new (after_read sockets key k)) → (named : List ℕ) → IsHeldIn old named → IsHeldIn new named
held_read old new key k there stands =
    held_after old new (λ sockets. after_read sockets key k) stands (λ sockets named stood held. read_held sockets named key k (there_in old key sockets there stood) held)

pub held_written : (old new : Heap) (key : ℕ) (bytes : List ℕ) (k : ℕ) → ((sockets : Sockets) → StandsFor old sockets → StandsFor new (after_write sockets key bytes k)) → (named : List ℕ) → IsHeldIn old named → IsHeldIn new named
held_written old new key bytes k stands =
    held_after old new (λ sockets. after_write sockets key bytes k) stands (λ sockets named stood held. write_held sockets named key bytes k stood.linked held)

pub held_shut : (old new : Heap) (key : ℕ) (how : ℤ) → IsSocketIn old key → ((sockets : Sockets) → StandsFor old sockets → StandsFor new (after_shut sockets key how)) → (named : List ℕ) → IsHeldIn old named → IsHeldIn new named
held_shut old new key how there stands =
    held_after old new (λ sockets. after_shut sockets key how) stands (λ sockets named stood held. shut_held sockets named key how (there_in old key sockets there stood) held)

pub held_made : (old new : Heap) (key : ℕ) (sock : Sock) → Comes old new key sock → ((sockets : Sockets) → StandsFor old sockets → StandsFor new (with_new sockets key)) → (named : List ℕ) → IsHeldIn old named → IsHeldIn new (key ∷ named)
held_made old new key sock comes stands named is =
    let within = comes.within in
    let places = is.stands.table.places in
    record {
      sockets = with_new is.sockets key;
      stands = stands is.sockets is.stands;
      held = new_held is.sockets named key is.stands.linked (free_from old is.sockets key is.stands.table comes.vacant) (omega (arith, within, places)) is.held;
    }

pub held_pair : (old mid later new : Heap) (one other : ℕ) (first second : Sock) → Comes old mid one first → IsShape first new_socket → Comes mid later other second → ((sockets : Sockets) → StandsFor old sockets → StandsFor new (with_pair sockets one other)) → (named : List ℕ) → IsHeldIn old named → IsHeldIn new (other ∷ one ∷ named)
held_pair old mid later new one other first second comes shape comes_too stands named is =
    let places = is.stands.table.places in
    let one_within : one < length is.sockets = let within = comes.within in omega (arith, within, places) in
    let table_one = comes.table is.sockets new_socket is.stands.table shape refl in
    let places_one = table_one.places in
    let long_one = length-with_there is.sockets one (Some new_socket) one_within in
    let differ : one ≢ other = λ same. let some = comes.stored in let none : object mid.socks one ≡ None = ap (object mid.socks) same ∙ comes_too.vacant in cc in
    let other_free : object old.socks other ≡ None = sym (comes.kept other (λ same. differ (sym same))) ∙ comes_too.vacant in
    let longer = length-with is.sockets one (Some (connected_to other)) in
    let other_within : other ≤ length (with_socket is.sockets one (Some (connected_to other))) = let within = comes_too.within in omega (arith, within, places_one, long_one, longer) in
    record {
      sockets = with_pair is.sockets one other;
      stands = stands is.sockets is.stands;
      held = pair_held is.sockets named one other is.stands.linked differ (free_from old is.sockets one is.stands.table comes.vacant) (free_from old is.sockets other is.stands.table other_free) (omega (arith, one_within)) other_within is.held;
    }

pub held_connected : (old new : Heap) (key listener made : ℕ) (sock : Sock) → made < length old.socks → object old.socks made ≡ None → IsIdleIn old key → object old.socks listener ≡ Some sock → IsListeningIn old listener → ((sockets : Sockets) → StandsFor old sockets → StandsFor new (after_connect sockets key listener made)) → (named : List ℕ) → IsHeldIn old named → IsHeldIn new named
held_connected old new key listener made sock within free idle there listens stands =
    held_after old new (λ sockets. after_connect sockets key listener made) stands (λ sockets named stood held.
    let behind = backlog_of old listener sock sockets there (listens_still old listener sock there listens) stood in
    let places = stood.table.places in
    connect_held sockets named key listener made (waiting_of (stage_at sockets listener)) stood.linked (idle_now old key sockets idle stood) (there_in old key sockets (record { sockets = idle.sockets; stands = idle.stands; used = idle.used }) stood)
    (free_from old sockets made stood.table free) (omega (arith, within, places)) behind.stage held)

row_first : (n : ℕ) (places : List ℕ) (first : ℕ) → get_or (in_row n places) 0 None ≡ Some first → (rest : List ℕ) × (places ≡ first ∷ rest)
row_first zero places first is = absurd (cc)
row_first (suc n) [] first is = absurd (cc)
row_first (suc n) (place ∷ rest) first is = (rest, let same : place ≡ first = cc in ap (λ (one : ℕ). one ∷ rest) same)

-- the first that waits is taken, and named from then on
pub held_taken : (old new : Heap) (key first : ℕ) (sock : Sock) → object old.socks key ≡ Some sock → sock.state ≡ state.Listening → get_or sock.waiting 0 None ≡ Some first → ((sockets : Sockets) → StandsFor old sockets → StandsFor new (after_accept sockets key)) → (named : List ℕ) → IsHeldIn old named → IsHeldIn new (first ∷ named)
held_taken old new key first sock there listens is_first stands named is =
    let behind = backlog_of old key sock is.sockets there listens is.stands in
    let row = row_first 8 (waiting_of (stage_at is.sockets key)) first (ap (λ (list : List (Option ℕ)). get_or list 0 None) (sym behind.row) ∙ is_first) in
    record {
      sockets = after_accept is.sockets key;
      stands = stands is.sockets is.stands;
      held = accept_held is.sockets named key first row.0 is.stands.linked (behind.stage ∙ ap Listening row.1) is.held;
    }

pub held_closed : (old new : Heap) (key : ℕ) → ((sockets : Sockets) → StandsFor old sockets → StandsFor new (after_close sockets key)) → (named : List ℕ) → IsHeldIn old (key ∷ named) → (Contains named key → ⊥) → IsHeldIn new named
held_closed old new key stands named is absent = record {
  sockets = after_close is.sockets key;
  stands = stands is.sockets is.stands;
  held = close_held is.sockets named key is.stands.linked absent is.held;
}

-- the order of those that are named doesn't matter
pub held_moved : (h : Heap) (named other : List ℕ) → ((key : ℕ) → Contains named key → Contains other key) → ((key : ℕ) → Contains other key → Contains named key) → IsHeldIn h named → IsHeldIn h other
held_moved h named other there back is = record {
  sockets = is.sockets;
  stands = is.stands;
  held = record {
    held = λ place used. elim (is.held.held place used) [
      | inl here ↦ inl (there place here)
      | inr waits ↦ inr waits
    ];
    there = λ place here. is.held.there place (back place here);
    apart = λ place here. is.held.apart place (back place here);
  };
}
