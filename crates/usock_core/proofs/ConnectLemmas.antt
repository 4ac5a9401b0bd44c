-- What a connection leaves, and two sockets that are made for each other.
use Rattle.std.proofs.Common.{◌≡◌, ◌≢◌, inl, inr, ℕ, zero, suc, ◌+◌, ◌<◌, ◌≤◌, true, false, List, [], ◌∷◌, ◌++◌, length, Option, None, Some, is_none, refl, sym, ap, ◌∙◌, arith}
use Rattle.std.proofs.lemmas.Bool.{cases_eq, le-leb, lt-leb}
use Rattle.std.proofs.lemmas.Iterator.Adapters.{position_from-zero}
use Rattle.std.specs.List.{position, position_from}
use Rattle.std.specs.Prelude.{MatchOption, MatchBool, Result, Ok, Err, IsOk, slice_set}
use Rattle.std.proofs.Common.{Fits, w64, ◌*◌}
use Rattle.kabi_types.specs.declared.errnos.Errno.{Errno}
use Rattle.kabi_types.specs.declared.errnos.Errno.TheVariants as errno
use Rattle.kheap_slabs.specs.Objects.{object, InUse}
use Rattle.kheap_slabs.specs.declared.objects.Sock.{Sock}
use Rattle.kheap_slabs.specs.declared.objects.SockState.TheVariants as state
use Rattle.kheap_slabs.specs.Heap.{Heap}
use Rattle.kheap_slabs.proofs.ObjectLemmas.{object_of}
use Rattle.posix_defs.specs.Socket.{Stage, Idle, Listening, Connected, new_socket, connected_to, peer_of, waiting_of, connect_fault}
use Rattle.posix_defs.specs.Sockets.{Sockets, socket_at, stage_at, with_socket, with_stage, with_pair, is_refused, after_connect, backlog}
use Rattle.socket_laws.proofs.SocketTable.{sock_at-with, sock_at-with_other, length-with_there, there_within, Changed-with}
use Rattle.socket_laws.proofs.SocketCalls.{pair_linked, connect_linked, listening_there, none_there}
use Rattle.usock_core.specs.Standing.{state_of, in_row, IsShape, IsTable, StandsFor, IsIdleIn, IsListeningIn}
use Rattle.usock_core.specs.Steps.{Becomes, Comes}
use Rattle.usock_core.proofs.StandingLemmas.{found, free_from, used_from, table_same}

matched : (o : Option ℕ) (P Q : Type 0) (R S : ℕ → Type 0) → (P → Q) → ((k : ℕ) → R k → S k) → MatchOption o P R → MatchOption o Q S
matched None P Q R S f g is = f is
matched (Some k) P Q R S f g is = g k is

-- the first free place of a row is behind those that wait
row_free_from : (n i : ℕ) (places : List ℕ) → length places ≤ n → MatchOption (position_from is_none i (in_row n places)) (length places ≡ n) (λ at. (at ≡ i + length places) × (length places < n))
row_free_from zero i [] fits = refl
row_free_from zero i (first ∷ rest) fits = absurd (omega arith)
row_free_from (suc n) i [] fits = (omega arith, omega arith)
row_free_from (suc n) i (first ∷ rest) fits =
    matched (position_from is_none (i + 1) (in_row n rest)) (length rest ≡ n) (suc (length rest) ≡ suc n) (λ at. (at ≡ (i + 1) + length rest) × (length rest < n)) (λ at. (at ≡ i + suc (length rest)) × (suc (length rest) < suc n))
    (λ same. ap suc same) (λ at is. (omega (arith, is.0), omega (arith, is.1))) (row_free_from n (i + 1) rest (omega arith))

pub row_free : (row : List (Option ℕ)) (free : Option ℕ) (places : List ℕ) → row ≡ in_row 8 places → length places ≤ 8 → free ≡ position is_none row → MatchOption free (length places ≡ 8) (λ at. (at ≡ length places) × (length places < 8))
row_free row free places is fits found_at =
    let same : free ≡ position_from is_none 0 (in_row 8 places) = found_at ∙ position_from-zero is_none row ∙ ap (position_from is_none 0) is in
    rw same (matched (position_from is_none 0 (in_row 8 places)) (length places ≡ 8) (length places ≡ 8) (λ at. (at ≡ 0 + length places) × (length places < 8)) (λ at. (at ≡ length places) × (length places < 8)) (λ full. full) (λ at is. (omega (arith, is.0), is.1)) (row_free_from 8 0 places fits))

-- one more in a row
row_pushed : (n : ℕ) (places : List ℕ) (added : ℕ) → length places < n → slice_set (in_row n places) (length places) (Some added) ≡ in_row n (places ++ added ∷ [])
row_pushed zero places added fits = absurd (omega arith)
row_pushed (suc n) [] added fits = refl
row_pushed (suc n) (first ∷ rest) added fits = ap (λ list. Some first ∷ list) (row_pushed n rest added (omega arith))

-- a listening socket's backlog, as it is kept
pub record Backlog (h : Heap) (listener : ℕ) (sock : Sock) (sockets : Sockets) (waiting : List ℕ) : Type 0 where
  pub stage : stage_at sockets listener ≡ Listening waiting
  pub row : sock.waiting ≡ in_row 8 waiting
  pub few : length waiting ≤ 8

pub backlog_of : (h : Heap) (listener : ℕ) (sock : Sock) (sockets : Sockets) → object h.socks listener ≡ Some sock → sock.state ≡ state.Listening → StandsFor h sockets → Backlog h listener sock sockets (waiting_of (stage_at sockets listener))
backlog_of h listener sock sockets there listens stands =
    let was = found h sockets listener sock stands.table there in
    record {
      stage = go (stage_at sockets listener) was.kept.shape.state;
      row = was.kept.shape.waiting;
      few = stands.linked.backlog listener;
    }
  where
    go : (stage : Stage) → sock.state ≡ state_of stage → stage ≡ Listening (waiting_of stage)
    go Idle is = absurd (let it = sym listens ∙ is in cc)
    go (Listening places) is = refl
    go (Connected other shut_read shut_write) is = absurd (let it = sym listens ∙ is in cc)

-- the listener that a caller names listens, whichever sockets the heap stands for
pub listens_still : (h : Heap) (listener : ℕ) (sock : Sock) → object h.socks listener ≡ Some sock → IsListeningIn h listener → sock.state ≡ state.Listening
listens_still h listener sock there is =
    (found h is.sockets listener sock is.stands.table there).kept.shape.state ∙ ap state_of is.listens

pub listener_used : (h : Heap) (listener : ℕ) → IsListeningIn h listener → InUse h.socks listener
listener_used h listener is = used_from h is.sockets listener is.stands.table (listening_there is.sockets listener is.waiting is.listens)

pub refused_at : (h : Heap) (listener : ℕ) (sock : Sock) (free : Option ℕ) (sockets : Sockets) → object h.socks listener ≡ Some sock → IsListeningIn h listener → StandsFor h sockets → free ≡ position is_none sock.waiting → free ≡ None → is_refused sockets (Some listener) ≡ true
refused_at h listener sock free sockets there is stands found_at none =
    let behind = backlog_of h listener sock sockets there (listens_still h listener sock there is) stands in
    let full : length (waiting_of (stage_at sockets listener)) ≡ 8 = rw none at (row_free sock.waiting free (waiting_of (stage_at sockets listener)) behind.row behind.few found_at) in
    le-leb backlog (length (waiting_of (stage_at sockets listener))) (omega (arith, full))

pub room_at : (h : Heap) (listener : ℕ) (sock : Sock) (free : Option ℕ) (place : ℕ) (sockets : Sockets) → object h.socks listener ≡ Some sock → IsListeningIn h listener → StandsFor h sockets → free ≡ position is_none sock.waiting → free ≡ Some place → (place ≡ length (waiting_of (stage_at sockets listener))) × (length (waiting_of (stage_at sockets listener)) < 8)
room_at h listener sock free place sockets there is stands found_at at =
    let behind = backlog_of h listener sock sockets there (listens_still h listener sock there is) stands in
    rw at at (row_free sock.waiting free (waiting_of (stage_at sockets listener)) behind.row behind.few found_at)

idle_stage : (stage : Stage) → connect_fault stage ≡ None → stage ≡ Idle
idle_stage Idle is = refl
idle_stage (Listening places) is = absurd (cc)
idle_stage (Connected other shut_read shut_write) is = absurd (cc)

-- the client is connected to the socket that was made, which waits behind the others
pub connected_stands : (h0 h1 h2 h3 : Heap) (key listener made place : ℕ) (first second client listening : Sock) (sockets : Sockets) → Comes h0 h1 made first → IsShape first (connected_to key) → object h1.socks key ≡ Some client → IsShape second (connected_to made) → Becomes h1 h2 key (record { state = second.state; queue = client.queue; peer = second.peer; node = client.node; waiting = second.waiting }) (λ bytes. bytes) → object h2.socks listener ≡ Some listening → Becomes h2 h3 listener (record listening { waiting = slice_set listening.waiting place (Some made) }) (λ bytes. bytes) → InUse h0.socks key → stage_at sockets key ≡ Idle → stage_at sockets listener ≡ Listening (waiting_of (stage_at sockets listener)) → place ≡ length (waiting_of (stage_at sockets listener)) → length (waiting_of (stage_at sockets listener)) < 8 → StandsFor h0 sockets → StandsFor h3 (after_connect sockets key listener made)
connected_stands h0 h1 h2 h3 key listener made place first second client listening sockets comes made_shape client_there client_shape joined listening_there_now queued used idle listens place_is few stands =
    let places = stands.table.places in
    let within_made : made < length sockets = let is = comes.within in omega (arith, is, places) in
    let free = free_from h0 sockets made stands.table comes.vacant in
    let named = object_of h0.socks key used in
    let was = found h0 sockets key named.0 stands.table named.1 in
    let one = with_socket sockets made (Some (connected_to key)) in
    let table_one : IsTable h1 one = comes.table sockets (connected_to key) stands.table made_shape refl in
    let client_kept = found h1 one key client table_one client_there in
    let two = with_stage one key (Connected (Some made) false false) in
    let table_two : IsTable h2 two = joined.table one (record (socket_at one key) { stage = Connected (Some made) false false }) table_one (record {
      state = client_shape.state;
      peer = client_shape.peer;
      waiting = client_shape.waiting;
      node = client_kept.kept.shape.node;
    }) refl in
    let made_new = Changed-with sockets made (Some (connected_to key)) (omega (arith, within_made)) in
    let client_within = there_within one key client_kept.there in
    let client_now = Changed-with one key (Some (record (socket_at one key) { stage = Connected (Some made) false false })) (omega (arith, client_within)) in
    let apart : listener ≢ key = λ same. let it : stage_at sockets listener ≡ Idle = ap (stage_at sockets) same ∙ idle in cc in
    let apart_too : listener ≢ made = λ same. let it : stage_at sockets listener ≡ Idle = ap (stage_at sockets) same ∙ ap (λ s. s.stage) (none_there sockets made free) in cc in
    let still : stage_at two listener ≡ Listening (waiting_of (stage_at sockets listener)) = ap (λ s. s.stage) (client_now.others listener apart ∙ made_new.others listener apart_too) ∙ listens in
    let kept = found h2 two listener listening table_two listening_there_now in
    let row : listening.waiting ≡ in_row 8 (waiting_of (stage_at sockets listener)) = kept.kept.shape.waiting ∙ ap (λ stage. in_row 8 (waiting_of stage)) still in
    record {
      table = queued.table two (record (socket_at two listener) { stage = Listening (waiting_of (stage_at sockets listener) ++ made ∷ []) }) table_two (record {
        state = kept.kept.shape.state ∙ ap state_of still;
        peer = kept.kept.shape.peer ∙ ap peer_of still;
        waiting = ap (λ list. slice_set list place (Some made)) row ∙ ap (λ (n : ℕ). slice_set (in_row 8 (waiting_of (stage_at sockets listener))) n (Some made)) place_is ∙ row_pushed 8 (waiting_of (stage_at sockets listener)) made few;
        node = kept.kept.shape.node;
      }) refl;
      linked = connect_linked sockets key listener made stands.linked idle was.there free (omega (arith, within_made)) (lt-leb backlog (length (waiting_of (stage_at sockets listener))) few) (waiting_of (stage_at sockets listener)) listens;
    }

-- two sockets are made for each other
pub pair_stands : (h0 h1 h2 h3 : Heap) (one other : ℕ) (first second now : Sock) (sockets : Sockets) → Comes h0 h1 one first → IsShape first new_socket → Comes h1 h2 other second → IsShape second (connected_to one) → Becomes h2 h3 one now (λ bytes. bytes) → IsShape now (connected_to other) → StandsFor h0 sockets → StandsFor h3 (with_pair sockets one other)
pair_stands h0 h1 h2 h3 one other first second now sockets comes first_shape comes_too second_shape becomes now_shape stands =
    let t1 = with_socket sockets one (Some new_socket) in
    let table_one : IsTable h1 t1 = comes.table sockets new_socket stands.table first_shape refl in
    let t2 = with_socket t1 other (Some (connected_to one)) in
    let table_two : IsTable h2 t2 = comes_too.table t1 (connected_to one) table_one second_shape refl in
    let differ : one ≢ other = λ same. let some = comes.stored in let none : object h1.socks one ≡ None = ap (object h1.socks) same ∙ comes_too.vacant in cc in
    let places = stands.table.places in
    let places_one = table_one.places in
    let one_within : one < length sockets = let is = comes.within in omega (arith, is, places) in
    let long_one : length t1 ≡ length sockets = length-with_there sockets one (Some new_socket) one_within in
    let other_within : other < length t1 = let is = comes_too.within in omega (arith, is, places_one) in
    let long_two : length t2 ≡ length t1 = length-with_there t1 other (Some (connected_to one)) other_within in
    let p1 = with_socket sockets one (Some (connected_to other)) in
    let long_p1 : length p1 ≡ length sockets = length-with_there sockets one (Some (connected_to other)) one_within in
    let long_p2 : length (with_pair sockets one other) ≡ length p1 = length-with_there p1 other (Some (connected_to one)) (omega (arith, other_within, long_one, long_p1)) in
    let fresh : socket_at t2 one ≡ new_socket = (Changed-with t1 other (Some (connected_to one)) (omega (arith, other_within))).others one differ ∙ (Changed-with sockets one (Some new_socket) (omega (arith, one_within))).at in
    let t3 = with_socket t2 one (Some (connected_to other)) in
    let table_three : IsTable h3 t3 = becomes.table t2 (connected_to other) table_two now_shape (sym (ap (λ s. s.bytes) fresh)) in
    let long_three : length t3 ≡ length t2 = length-with_there t2 one (Some (connected_to other)) (omega (arith, one_within, long_one, long_two)) in
    let le_one : one ≤ length sockets = omega (arith, one_within) in
    let le_other : other ≤ length t1 = omega (arith, other_within) in
    let le_other_p : other ≤ length p1 = omega (arith, other_within, long_one, long_p1) in
    let le_one_t : one ≤ length t2 = omega (arith, one_within, long_one, long_two) in
    record {
      table = table_same h3 t3 (with_pair sockets one other) (omega (arith, long_one, long_two, long_p1, long_p2, long_three)) (λ place. elim (cases_eq place other) [
        | inl same ↦ rw same (sock_at-with p1 other (Some (connected_to one)) le_other_p ∙ sym (sock_at-with_other t2 one other (Some (connected_to other)) le_one_t (λ is. differ (sym is)) ∙ sock_at-with t1 other (Some (connected_to one)) le_other))
        | inr differs ↦ elim (cases_eq place one) [
          | inl same ↦ rw same (sock_at-with_other p1 other one (Some (connected_to one)) le_other_p differ ∙ sock_at-with sockets one (Some (connected_to other)) le_one ∙ sym (sock_at-with t2 one (Some (connected_to other)) le_one_t))
          | inr differs_too ↦
              sock_at-with_other p1 other place (Some (connected_to one)) le_other_p differs ∙ sock_at-with_other sockets one place (Some (connected_to other)) le_one differs_too
              ∙ sym (sock_at-with_other t2 one place (Some (connected_to other)) le_one_t differs_too ∙ sock_at-with_other t1 other place (Some (connected_to one)) le_other differs ∙ sock_at-with_other sockets one place (Some new_socket) le_one differs_too)
        ]
      ]) table_three;
      linked = pair_linked sockets one other stands.linked differ (free_from h0 sockets one stands.table comes.vacant) (free_from h0 sockets other stands.table (sym (comes.kept other (λ same. differ (sym same))) ∙ comes_too.vacant)) le_one le_other_p;
    }

idle_of : (stage : Stage) → state_of stage ≡ state.Idle → stage ≡ Idle
idle_of Idle is = refl
idle_of (Listening places) is = absurd (cc)
idle_of (Connected other shut_read shut_write) is = absurd (cc)

-- the socket that can be connected is idle, whichever sockets the heap stands for
pub idle_now : (h : Heap) (key : ℕ) (sockets : Sockets) → IsIdleIn h key → StandsFor h sockets → stage_at sockets key ≡ Idle
idle_now h key sockets is stands =
    let named = object_of h.socks key is.used in
    let once = found h is.sockets key named.0 is.stands.table named.1 in
    let now = found h sockets key named.0 stands.table named.1 in
    idle_of (stage_at sockets key) (sym now.kept.shape.state ∙ once.kept.shape.state ∙ ap state_of (idle_stage (stage_at is.sockets key) is.idle))

pub taken_at : (sockets : Sockets) (named : Option ℕ) (listener : ℕ) → named ≡ Some listener → length (waiting_of (stage_at sockets listener)) < 8 → MatchBool (is_refused sockets named) (◌≡◌ {A = Result (Unit {0}) Errno} (Ok (tt {0})) (Err errno.ECONNREFUSED)) (IsOk {E = Errno} (Ok (tt {0})))
taken_at sockets named listener is few =
    let free : is_refused sockets (Some listener) ≡ false = lt-leb backlog (length (waiting_of (stage_at sockets listener))) few in
    rw (is, free) refl

pub in_words : (place : ℕ) → place < 8 → Fits w64 (place * 8)
in_words place within = omega (arith, within)

-- a free key is none in use
free_apart : (socks : List (Option Sock)) (made other : ℕ) → object socks made ≡ None → InUse socks other → made ≢ other
free_apart socks made other vacant used same = let gone : object socks other ≡ None = ap (object socks) (sym same) ∙ vacant in grind arith

-- the socket that was made is there still where the client and the listener were changed after it
pub made_used : (old one two three : Heap) (key listener made : ℕ) (added : Sock) → object old.socks made ≡ None → InUse old.socks key → InUse old.socks listener → object one.socks made ≡ Some added
    → ((other : ℕ) → other ≢ key → object two.socks other ≡ object one.socks other) → ((other : ℕ) → other ≢ listener → object three.socks other ≡ object two.socks other) → InUse three.socks made
made_used old one two three key listener made added vacant client listens stored second third =
    let there : object three.socks made ≡ Some added = third made (free_apart old.socks made listener vacant listens) ∙ second made (free_apart old.socks made key vacant client) ∙ stored in
    rw there refl
