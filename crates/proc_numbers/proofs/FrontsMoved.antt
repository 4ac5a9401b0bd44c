-- The account has the front of each queue, once lengths have changed.
use Rattle.std.proofs.Common.{◌≡◌, ℕ, zero, suc, ◌+◌, ◌-◌, ◌%◌, ◌<◌, ◌≤◌, ◌==◌, cond, List, length, Option, None, Some, is_some, refl, ap, sym, ◌∙◌, arith, ne_eqb, inl, inr}
use Rattle.std.specs.Prelude.{nat_lt, slice_index}
use Rattle.std.proofs.lemmas.Bool.{le-ltb, lt-ltb}
use Rattle.std.proofs.lemmas.Bool.Decides.{eqb_tells, leb_tells}
use Rattle.std.proofs.lemmas.List.{length-map}
use Rattle.std.proofs.lemmas.List.FromFn.{get_or-map-range_with_len}
use Rattle.std.proofs.Math.ListN.{get_or-map}
use Rattle.kheap_slabs.specs.Objects.{object}
use Rattle.kheap_slabs.specs.declared.objects.Pipe.{Pipe as HeldPipe}
use Rattle.kheap_slabs.specs.declared.objects.Sock.{Sock}
use Rattle.kheap_slabs.proofs.ObjectLemmas.{InUse-within}
use Rattle.kheap_slabs.specs.Heap.{Heap}
use Rattle.open_laws.specs.Piped.{ArePiped}
use Rattle.open_laws.specs.Socketed.{AreSocketed}
use Rattle.pipe_ends.specs.Standing.{StandsFor}
use Rattle.pipe_ends.proofs.StandingLemmas.{held_place}
use Rattle.open_laws.specs.Placed.{Numbers}
use Rattle.posix_defs.specs.Account.{Account, front_after, fronts_after, pipe_lengths, socket_lengths, unread_in_pipe, unread_in_socket}
use Rattle.posix_defs.specs.Files.State.{Files}
use Rattle.posix_defs.specs.Pipe.{Pipe}
use Rattle.posix_defs.specs.QueuePlace.{after_take, at_front}
use Rattle.posix_defs.specs.Socket.{Socket}
use Rattle.posix_defs.specs.Sockets.{Sockets, socket_at}
use Rattle.usock_core.proofs.StandingLemmas.{found}

-- ---- one front

-- a queue that isn't shorter has the front that it had
pub front_stays : (old new front place : ℕ) → old ≤ new → front ≡ place → (new ≡ 0 → place ≡ 0) → front_after old new front ≡ place
front_stays old new front place longer same empty = elim (eqb_tells new 0) [
  | inl none ↦ ap (λ b. cond b 0 (cond (nat_lt new old) ((front + (old - new)) % 512) front)) none.0 ∙ sym (empty none.1)
  | inr some ↦
      ap (λ b. cond b 0 (cond (nat_lt new old) ((front + (old - new)) % 512) front)) some.0
      ∙ ap (λ b. cond b ((front + (old - new)) % 512) front) (le-ltb new old longer)
      ∙ same
]

-- one that k bytes were taken from has the front that its place has then
pub front_moves : (old k front at : ℕ) → k ≤ old → (k ≡ 0 → old ≡ 0) → front ≡ at → front_after old (old - k) front ≡ (after_take (record { place = at; len = old }) k).place
front_moves old k front at within some same = elim (leb_tells old k) [
  | inl all ↦
      ap (λ b. cond b 0 (cond (nat_lt (old - k) old) ((front + (old - (old - k))) % 512) front)) (ap (λ n. n == 0) (let none = all.1 in let e : old - k ≡ 0 = omega (arith, none) in e))
      ∙ sym (ap (λ b. (cond b at_front (record { place = (at + k) % 512; len = old - k })).place) all.0)
  | inr part ↦
      let less = part.1 in
      ap (λ b. cond b 0 (cond (nat_lt (old - k) old) ((front + (old - (old - k))) % 512) front)) (ne_eqb (old - k) 0 (λ none. omega (arith, less, none)))
      ∙ ap (λ b. cond b ((front + (old - (old - k))) % 512) front) (lt-ltb (old - k) old (moved k refl less))
      ∙ ap (λ n. n % 512) (ap (λ n. n + (old - (old - k))) same ∙ ap (λ n. at + n) (let e : old - (old - k) ≡ k = omega (arith, less) in e))
      ∙ sym (ap (λ b. (cond b at_front (record { place = (at + k) % 512; len = old - k })).place) part.0)
]
  where
    moved : (n : ℕ) → k ≡ n → k < old → old - k < old
    moved zero is less = absurd (let none = some is in omega (arith, none, less, is))
    moved (suc n) is less = omega (arith, less, is)

-- ---- those of all queues

front_at : (old new fronts : List ℕ) (place : ℕ) → place < length new
    → slice_index (fronts_after old new fronts) place ≡ front_after (slice_index old place) (slice_index new place) (slice_index fronts place)
front_at old new fronts place within =
    get_or-map-range_with_len (λ p. front_after (slice_index old p) (slice_index new p) (slice_index fronts p)) 0 (length new) place place 0 within (omega arith)

pub pipe_length : (files : Files) (place : ℕ) → slice_index (pipe_lengths files) place ≡ unread_in_pipe (object files.pipes place)
pipe_length files place = get_or-map unread_in_pipe files.pipes place None

pub socket_length : (files : Files) (place : ℕ) → slice_index (socket_lengths files) place ≡ unread_in_socket (object files.sockets place)
socket_length files place = get_or-map unread_in_socket files.sockets place None

within_list : {X : Type 0} (objects : List (Option X)) (place : ℕ) (x : X) → object objects place ≡ Some x → place < length objects
within_list objects place x is = InUse-within objects place (ap is_some is)

-- the front of a pipe that is there, by its length before
pub pipe_front : (before after : Files) (fronts : List ℕ) (place n : ℕ) (pipe : Pipe) → object after.pipes place ≡ Some pipe → unread_in_pipe (object before.pipes place) ≡ n
    → slice_index (fronts_after (pipe_lengths before) (pipe_lengths after) fronts) place ≡ front_after n (length pipe.bytes) (slice_index fronts place)
pipe_front before after fronts place n pipe is was =
    front_at (pipe_lengths before) (pipe_lengths after) fronts place
    (let within = within_list after.pipes place pipe is in let long = length-map after.pipes unread_in_pipe in omega (arith, within, long))
    ∙ ap (λ m. front_after m (slice_index (pipe_lengths after) place) (slice_index fronts place)) (pipe_length before place ∙ was)
    ∙ ap (λ m. front_after n m (slice_index fronts place)) (pipe_length after place ∙ ap unread_in_pipe is)

-- and of a socket that has as many bytes as it had
pub socket_front : (before after : Files) (fronts : List ℕ) (place front : ℕ) (socket : Socket) → after.sockets ≡ before.sockets → object after.sockets place ≡ Some socket
    → slice_index fronts place ≡ front → (length socket.bytes ≡ 0 → front ≡ 0)
    → slice_index (fronts_after (socket_lengths before) (socket_lengths after) fronts) place ≡ front
socket_front before after fronts place front socket same is was empty =
    front_at (socket_lengths before) (socket_lengths after) fronts place
    (let within = within_list after.sockets place socket is in let long = length-map after.sockets unread_in_socket in omega (arith, within, long))
    ∙ ap (λ m. front_after m (slice_index (socket_lengths after) place) (slice_index fronts place))
    (socket_length before place ∙ ap (λ (s : List (Option Socket)). unread_in_socket (object s place)) (sym same) ∙ ap unread_in_socket is)
    ∙ ap (λ m. front_after (length socket.bytes) m (slice_index fronts place)) (socket_length after place ∙ ap unread_in_socket is)
    ∙ front_stays (length socket.bytes) (length socket.bytes) (slice_index fronts place) front (omega arith) was empty

-- ---- those that stay

-- a pipe without bytes has its front at 0
pub empty_pipe : (h : Heap) (key : ℕ) (pipe : Pipe) (at : ℕ) → StandsFor h key pipe at → length pipe.bytes ≡ 0 → at ≡ 0
empty_pipe h key pipe at stands none = sym stands.place ∙ stands.bytes.owns.empty (stands.len ∙ none)

-- A socket is at its place with as many bytes, and has its front at 0 where that is none.
pub record SocketAt (h : Heap) (numbers : Numbers) (sockets : Sockets) (key : ℕ) (sock : Sock) : Type 0 where
  pub socket : Socket
  pub there : object sockets (numbers.socks key) ≡ Some socket
  pub empty : length socket.bytes ≡ 0 → sock.queue.place ≡ 0

pub socket_at_place : (numbers : Numbers) (h : Heap) (sockets : Sockets) (key : ℕ) (sock : Sock) → AreSocketed numbers h sockets → object h.socks key ≡ Some sock → SocketAt h numbers sockets key sock
socket_at_place numbers h sockets key sock are is =
    let it = found h are.keyed key sock are.stands.table is in
    let there = are.renamed.there key (socket_at are.keyed key) it.at in
    let means = are.renamed.means key (socket_at are.keyed key) there.0 it.at there.1 in
    record {
      socket = there.0;
      there = there.1;
      empty = λ none. it.kept.bytes.owns.empty (it.kept.len ∙ sym (ap (λ (s : Socket). length s.bytes) means) ∙ none);
    }

-- the fronts of sockets stay where sockets do
pub socket_fronts : (numbers : Numbers) (old new : Heap) (before after : Files) (account : Account) → new.socks ≡ old.socks → after.sockets ≡ before.sockets
    → AreSocketed numbers new after.sockets → ((key : ℕ) (sock : Sock) → object old.socks key ≡ Some sock → slice_index account.sockets (numbers.socks key) ≡ sock.queue.place)
    → (key : ℕ) (sock : Sock) → object new.socks key ≡ Some sock
    → slice_index (fronts_after (socket_lengths before) (socket_lengths after) account.sockets) (numbers.socks key) ≡ sock.queue.place
socket_fronts numbers old new before after account socks sockets are fronts key sock is =
    let at = socket_at_place numbers new after.sockets key sock are is in
    socket_front before after account.sockets (numbers.socks key) sock.queue.place at.socket sockets at.there
    (fronts key sock (ap (λ (s : List (Option Sock)). object s key) (sym socks) ∙ is)) at.empty

-- and those of pipes
pub pipe_fronts : (numbers : Numbers) (h : Heap) (before after : Files) (account : Account) → after.pipes ≡ before.pipes → ArePiped numbers h after.pipes
    → ((key : ℕ) (held : HeldPipe) → object h.pipes key ≡ Some held → slice_index account.pipes (numbers.pipes key) ≡ held.queue.place)
    → (key : ℕ) (held : HeldPipe) → object h.pipes key ≡ Some held
    → slice_index (fronts_after (pipe_lengths before) (pipe_lengths after) account.pipes) (numbers.pipes key) ≡ held.queue.place
pipe_fronts numbers h before after account same are fronts key held is =
    let there = are.there key held is in
    let means = are.means key held there.0 is there.1 in
    pipe_front before after account.pipes (numbers.pipes key) (length there.0.bytes) there.0 there.1
    (ap (λ (p : List (Option Pipe)). unread_in_pipe (object p (numbers.pipes key))) (sym same) ∙ ap unread_in_pipe there.1)
    ∙ front_stays (length there.0.bytes) (length there.0.bytes) (slice_index account.pipes (numbers.pipes key)) held.queue.place (omega arith)
    (fronts key held is)
    (λ none. held_place h key held there.0 means.0 is means.1 ∙ empty_pipe h key there.0 means.0 means.1 none)
