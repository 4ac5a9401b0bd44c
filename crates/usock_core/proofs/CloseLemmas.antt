-- What sockets that go leave.
use Rattle.std.proofs.Common.{◌≡◌, ℕ, zero, suc, ◌<◌, ◌≤◌, List, [], ◌∷◌, drop, length, get_or, Option, None, Some, refl, sym, ap, subst, ◌∙◌, arith}
use Rattle.kheap_slabs.specs.Objects.{object}
use Rattle.kheap_slabs.specs.declared.objects.Sock.{Sock}
use Rattle.kheap_slabs.specs.Heap.{Heap}
use Rattle.kheap_slabs.specs.Owners.{OwnsItsObjects}
use Rattle.kheap_slabs.specs.Paid.{TakesNothing}
use Rattle.kheap_slabs.specs.Spaces.{keys_in}
use Rattle.kheap_laws.proofs.PaidLemmas.{TakesNothing-refl, TakesNothing-trans}
use Rattle.posix_defs.specs.Socket.{Stage, Idle, Listening, Connected, peer_of, waiting_of, without_peer}
use Rattle.posix_defs.specs.Sockets.{Sockets, socket_at, stage_at, with_socket, left_alone, gone, all_gone, after_close}
use Rattle.posix_defs.specs.SocketLinks.{AreLoose, WaitsNowhere}
use Rattle.socket_laws.proofs.SocketCalls.{gone_linked, first_loose, rest_loose, waiting_loose}
use Rattle.usock_core.specs.Standing.{in_row, IsShape, IsTable, StandsFor, IsClosableIn, AreLooseIn, QueuesStay, LeavesOthers}
use Rattle.usock_core.specs.Steps.{Becomes, Goes}
use Rattle.usock_core.proofs.StandingLemmas.{found, used_from, LeavesOthers-refl, LeavesOthers-trans}

alone_shape : (sock : Sock) (stage : Stage) (bytes : List ℕ) (bound : Option ℕ) → IsShape sock (record { stage = stage; bytes = bytes; node = bound }) → IsShape (record sock { peer = None }) (record { stage = without_peer stage; bytes = bytes; node = bound })
alone_shape sock Idle bytes bound shape = record { state = shape.state; peer = refl; waiting = shape.waiting; node = shape.node }
alone_shape sock (Listening places) bytes bound shape = record { state = shape.state; peer = refl; waiting = shape.waiting; node = shape.node }
alone_shape sock (Connected other shut_read shut_write) bytes bound shape = record { state = shape.state; peer = refl; waiting = shape.waiting; node = shape.node }

-- one goes whose peer is there
pub gone_stands : (old mid new : Heap) (key peer : ℕ) (sock left : Sock) (sockets : Sockets) → object old.socks key ≡ Some sock → sock.peer ≡ Some peer → Goes old mid key → object mid.socks peer ≡ Some left → Becomes mid new peer (record left { peer = None }) (λ bytes. bytes) → StandsFor old sockets → WaitsNowhere sockets key → StandsFor new (gone sockets key)
gone_stands old mid new key peer sock left sockets there peer_is goes left_there becomes stands nowhere =
    let was = found old sockets key sock stands.table there in
    let without = with_socket sockets key None in
    let table = goes.table sockets stands.table in
    let then = found mid without peer left table left_there in
    let at = socket_at without peer in
    let named : peer_of (stage_at sockets key) ≡ Some peer = sym was.kept.shape.peer ∙ peer_is in
    record {
      table = subst (λ other. IsTable new (left_alone without other)) (sym named) (becomes.table without (record at { stage = without_peer at.stage }) table (alone_shape left at.stage at.bytes at.node then.kept.shape) refl);
      linked = gone_linked sockets key stands.linked was.there nowhere;
    }

-- one goes that has no peer
pub gone_stands_alone : (old new : Heap) (key : ℕ) (sock : Sock) (sockets : Sockets) → object old.socks key ≡ Some sock → sock.peer ≡ None → Goes old new key → StandsFor old sockets → WaitsNowhere sockets key → StandsFor new (gone sockets key)
gone_stands_alone old new key sock sockets there peer_is goes stands nowhere =
    let was = found old sockets key sock stands.table there in
    record {
      table = subst (λ other. IsTable new (left_alone (with_socket sockets key None) other)) (sym (sym was.kept.shape.peer ∙ peer_is)) (goes.table sockets stands.table);
      linked = gone_linked sockets key stands.linked was.there nowhere;
    }

pub QueuesStay-trans : (a b c : Heap) → QueuesStay a b → QueuesStay b c → QueuesStay a c
QueuesStay-trans a b c first second key some =
    let there = second key some in
    there ∙ first key (subst (λ q. 0 < q.len) there some)

-- what has been done of a row of sockets that go, and what is left of them
pub record Leaves (old now : Heap) (all left : List ℕ) : Type 0 where
  pub owns : OwnsItsObjects now
  pub others : LeavesOthers old now
  pub queues : QueuesStay old now
  pub takes : TakesNothing old now
  pub there : AreLooseIn now left
  pub goes_on : (sockets : Sockets) → StandsFor old sockets → AreLoose sockets all
      → (between : Sockets) × StandsFor now between × AreLoose between left × (all_gone between left ≡ all_gone sockets all)

pub leaves_first : (old : Heap) (all : List ℕ) → OwnsItsObjects old → AreLooseIn old all → Leaves old old all all
leaves_first old all is there = record {
  owns = is;
  others = LeavesOthers-refl old;
  queues = λ key some. refl;
  takes = TakesNothing-refl old;
  there = there;
  goes_on = λ sockets stands loose. (sockets, stands, loose, refl);
}

-- one more of them goes
pub leaves_next : (old now new : Heap) (all rest : List ℕ) (key : ℕ) → Leaves old now all (key ∷ rest) → OwnsItsObjects new → LeavesOthers now new → QueuesStay now new → TakesNothing now new → ((sockets : Sockets) → StandsFor now sockets → WaitsNowhere sockets key → StandsFor new (gone sockets key)) → Leaves old new all rest
leaves_next old now new all rest key leaves is others queues takes stands = record {
  owns = is;
  others = LeavesOthers-trans old now new leaves.others others;
  queues = QueuesStay-trans old now new leaves.queues queues;
  takes = TakesNothing-trans old now new leaves.takes takes;
  there = record {
    sockets = gone leaves.there.sockets key;
    stands = stands leaves.there.sockets leaves.there.stands (leaves.there.loose.nowhere key (0, omega arith, refl));
    loose = rest_loose leaves.there.sockets key rest leaves.there.stands.linked leaves.there.loose;
  };
  goes_on = λ sockets stood loose.
      let between = leaves.goes_on sockets stood loose in
      (gone between.0 key, stands between.0 between.1 (between.2.nowhere key (0, omega arith, refl)), rest_loose between.0 key rest between.1.linked between.2, between.3);
}

pub closable_first : (h : Heap) (key : ℕ) (rest : List ℕ) → AreLooseIn h (key ∷ rest) → IsClosableIn h key
closable_first h key rest there = record {
  sockets = there.sockets;
  stands = there.stands;
  used = used_from h there.sockets key there.stands.table (first_loose there.sockets key rest there.loose);
  nowhere = there.loose.nowhere key (0, omega arith, refl);
}

-- the keys that are left of a row
pub keys_behind : (keys : List (Option ℕ)) (i : ℕ) (entry : Option ℕ) → i < length keys → get_or keys i None ≡ entry → keys_in (drop i keys) ≡ keys_in (entry ∷ drop (suc i) keys)
keys_behind [] i entry within is = absurd (omega arith)
keys_behind (first ∷ rest) zero entry within is = ap (λ one. keys_in (one ∷ rest)) is
keys_behind (first ∷ rest) (suc i) entry within is = keys_behind rest i entry (omega arith) is

pub keys_in_row : (n : ℕ) (places : List ℕ) → length places ≤ n → keys_in (in_row n places) ≡ places
keys_in_row zero [] fits = refl
keys_in_row zero (first ∷ rest) fits = absurd (omega arith)
keys_in_row (suc n) [] fits = keys_in_row n [] (omega arith)
keys_in_row (suc n) (first ∷ rest) fits = ap (λ list. first ∷ list) (keys_in_row n rest (omega arith))

-- those that wait for a socket are those that its backlog names
pub waiting_named : (h : Heap) (key : ℕ) (sock : Sock) (sockets : Sockets) → object h.socks key ≡ Some sock → StandsFor h sockets → keys_in sock.waiting ≡ waiting_of (stage_at sockets key)
waiting_named h key sock sockets there stands =
    let was = found h sockets key sock stands.table there in
    ap keys_in was.kept.shape.waiting ∙ keys_in_row 8 (waiting_of (stage_at sockets key)) (stands.linked.backlog key)

-- and once it has gone they wait nowhere
pub waiting_loose_in : (old new : Heap) (key : ℕ) (sock : Sock) → object old.socks key ≡ Some sock → IsClosableIn old key → ((sockets : Sockets) → StandsFor old sockets → WaitsNowhere sockets key → StandsFor new (gone sockets key)) → AreLooseIn new (keys_in sock.waiting)
waiting_loose_in old new key sock there closable stands = record {
  sockets = gone closable.sockets key;
  stands = stands closable.sockets closable.stands closable.nowhere;
  loose = subst (AreLoose (gone closable.sockets key)) (sym (waiting_named old key sock closable.sockets there closable.stands)) (waiting_loose closable.sockets key closable.stands.linked (found old closable.sockets key sock closable.stands.table there).there closable.nowhere);
}

pub close_stands : (old mid new : Heap) (key : ℕ) (sock : Sock) (sockets : Sockets) → object old.socks key ≡ Some sock → StandsFor old sockets → WaitsNowhere sockets key → StandsFor mid (gone sockets key) → ((between : Sockets) → StandsFor mid between → AreLoose between (keys_in sock.waiting) → StandsFor new (all_gone between (keys_in sock.waiting))) → StandsFor new (after_close sockets key)
close_stands old mid new key sock sockets there stands nowhere first second =
    let named = waiting_named old key sock sockets there stands in
    let loose = waiting_loose sockets key stands.linked (found old sockets key sock stands.table there).there nowhere in
    subst (λ places. StandsFor new (all_gone (gone sockets key) places)) named (second (gone sockets key) first (subst (AreLoose (gone sockets key)) (sym named) loose))

-- what is no place is none
pub none_but : (peer : Option ℕ) → ((place : ℕ) → peer ≡ Some place → ⊥) → peer ≡ None
none_but None isnt = refl
none_but (Some place) isnt = absurd (isnt place refl)
