-- Queues whose bytes stand where they stood: through a drop, through one change after another, and in the account.
use Rattle.std.proofs.Common.{◌≡◌, ◌≢◌, ◌⊎◌, ℕ, zero, suc, ◌+◌, ◌-◌, ◌%◌, ◌<◌, ◌==◌, nat_lt, Bool, true, false, cond, List, [], ◌∷◌, map, length, Option, None, Some, is_some, refl, ap, sym, ◌∙◌, subst, arith, ne_eqb, inl, inr}
use Rattle.std.specs.Prelude.{slice_index}
use Rattle.std.proofs.Math.ListN.{get_or-map}
use Rattle.std.proofs.lemmas.Bool.{cases_eq}
use Rattle.std.proofs.lemmas.List.FromFn.{get_or-map-range_with_len}
use Rattle.chunk_queue.specs.Chained.{place_of}
use Rattle.kheap_laws.proofs.OnceLemmas.{Contains-single}
use Rattle.kheap_slabs.specs.Objects.{InUse, object}
use Rattle.kheap_slabs.proofs.ObjectLemmas.{InUse-within}
use Rattle.kheap_slabs.specs.declared.objects.Desc.{Desc}
use Rattle.kheap_slabs.specs.declared.objects.Pipe.{Pipe as HeldPipe}
use Rattle.kheap_slabs.specs.declared.objects.Sock.{Sock}
use Rattle.kheap_slabs.specs.declared.objects.Target.{Target}
use Rattle.kheap_slabs.specs.declared.objects.Target.TheVariants as target
use Rattle.kheap_slabs.specs.Heap.{Heap}
use Rattle.open_laws.specs.Closing.{Drops, TargetCloses}
use Rattle.pipe_ends.specs.Links.{AreRelinked}
use Rattle.pipe_ends.proofs.RelinkLemmas.{relinked_back, relinked_kept}
use Rattle.open_laws.specs.Described.{CountedList, access_in}
use Rattle.open_laws.specs.Open.{AreOpen, HaveFronts}
use Rattle.open_laws.specs.Owned.{IsHeldOpen, IsThereFor}
use Rattle.pipe_ends.specs.Standing.{IsPipeAt}
use Rattle.pipe_ends.proofs.StandingLemmas.{held_bytes, held_len, held_place}
use Rattle.open_laws.specs.Placed.{Numbers}
use Rattle.posix_defs.specs.Account.{Account, front_after, fronts_after, pipe_lengths, socket_lengths, unread_in_pipe, unread_in_socket}
use Rattle.posix_defs.specs.Files.Descriptions.{may_write}
use Rattle.posix_defs.specs.Files.State.{Files}
use Rattle.posix_defs.specs.Pipe.{Pipe, after_close, without_reader, without_writer}
use Rattle.posix_defs.specs.QueuePlace.{QueuePlace}
use Rattle.posix_defs.specs.Socket.{Socket}
use Rattle.usock_core.specs.Standing.{queue_at, queue_in}
use Rattle.usock_core.proofs.StandingLemmas.{found}
use Rattle.proc_numbers.specs.Queues.{QueuesStand, fronts_on}

-- ---- one change after another

pub queues_same : (old new : Heap) → new.pipes ≡ old.pipes → new.socks ≡ old.socks → QueuesStand old new
queues_same old new pipes socks = record {
  pipes = λ key pipe is some. (pipe, ap (λ (p : List (Option HeldPipe)). object p key) (sym pipes) ∙ is, refl);
  socks = λ key some. ap (λ (s : List (Option Sock)). queue_in (object s key)) socks;
}

pub queues_then : (old mid new : Heap) → QueuesStand old mid → QueuesStand mid new → QueuesStand old new
queues_then old mid new first second = record {
  pipes = λ key pipe is some.
      let between = second.pipes key pipe is some in
      let len : between.0.queue.len ≡ pipe.queue.len = ap (λ (q : QueuePlace). q.len) between.2 in
      let was = first.pipes key between.0 between.1 (subst (λ n. 0 < n) (sym len) some) in
      (was.0, was.1, was.2 ∙ between.2);
  socks = λ key some.
      let between = second.socks key some in
      between ∙ first.socks key (subst (λ (q : QueuePlace). 0 < q.len) between some);
}

-- ---- a drop

abbrev place_at : ℕ → ℕ → QueuePlace
place_at place len = record { place = place; len = len }

placed : (a b m n : ℕ) → a ≡ b → m ≡ n → place_at a m ≡ place_at b n
placed a b m n p q = rw (p, q) refl

-- an end that is closed leaves the bytes, or none
left_bytes : (pipe : Pipe) (writing : Bool) (left : Pipe) → after_close pipe writing ≡ Some left → 0 < length left.bytes → left.bytes ≡ pipe.bytes
left_bytes pipe writing left is some = by_end writing is
  where
    while_there : (b : Bool) (p : Pipe) → cond b None (Some p) ≡ Some left → p ≡ left
    while_there true p e = cc
    while_there false p e = cc

    kept : (b : Bool) → 0 < length (cond b [] pipe.bytes) → cond b [] pipe.bytes ≡ pipe.bytes
    kept true some = absurd (omega (arith, some))
    kept false some = refl

    by_end : (writing : Bool) → after_close pipe writing ≡ Some left → left.bytes ≡ pipe.bytes
    by_end true e = ap (λ (p : Pipe). p.bytes) (sym (while_there _ (without_writer pipe) e))
    by_end false e =
        let same = while_there _ (without_reader pipe) e in
        ap (λ (p : Pipe). p.bytes) (sym same) ∙ kept (pipe.readers == 1) (subst (λ (p : Pipe). 0 < length p.bytes) (sym same) some)

-- a pipe that stands before another one has its queue
pub queues_relinked : (old new : Heap) → AreRelinked old new → QueuesStand old new
queues_relinked old new relinked = record {
  pipes = λ other now at full.
      let was = relinked_back old new other now relinked at in
      (was.0, was.1, ap (λ (p : HeldPipe). place_of p.queue) (sym was.3));
  socks = λ other full. ap (λ (h : Heap). queue_in (object h.socks other)) (relinked_kept old new relinked);
}

module _ (old new : Heap) (key : ℕ) (desc : Desc) (is : object old.descs key ≡ Some desc) (some : 0 < desc.count) (held : IsHeldOpen old) (drops : Drops old new key desc) where
  end_closed : (pipe : ℕ) → desc.target ≡ target.Pipe pipe → TargetCloses old new desc.access (target.Pipe pipe) → QueuesStand old new
  end_closed pipe on closes = record {
    pipes = λ other now at full. by_key other now at full (cases_eq other pipe);
    socks = λ other full. ap (λ (s : List (Option Sock)). queue_in (object s other)) (ap (λ (h : Heap). h.socks) closes.others.kept);
  }
    where
      there : InUse old.pipes pipe
      there = let it : IsThereFor old desc.access (target.Pipe pipe) = subst (IsThereFor old desc.access) on (held.targets key desc is) in it.0

      stood : IsPipeAt old pipe
      stood = held.stand pipe there

      of_it : (now : HeldPipe) → object new.pipes pipe ≡ Some now → 0 < now.queue.len → (left : Option Pipe) → after_close stood.0 (may_write (access_in desc.access)) ≡ left
          → (was : HeldPipe) × (object old.pipes pipe ≡ Some was) × (place_of was.queue ≡ place_of now.queue)
      of_it now at full None e = absurd (let none = closes.gone stood.0 stood.1 stood.2 e in cc)
      of_it now at full (Some left) e =
          let then = closes.stands stood.0 stood.1 left stood.2 e in
          let len = held_len new pipe now left _ at then in
          let bytes = left_bytes stood.0 (may_write (access_in desc.access)) left e (subst (λ n. 0 < n) len full) in
          let place = held_place new pipe now left _ at then in
          let some_left : (length left.bytes == 0) ≡ false = ne_eqb (length left.bytes) 0 (λ none. (let l = len in omega (arith, full, l, none))) in
          let at_same : now.queue.place ≡ stood.1 = place ∙ ap (λ b. cond b 0 stood.1) some_left in
          let was = stood.2.held in
          let len_same : was.queue.len ≡ now.queue.len = stood.2.len ∙ ap length (sym bytes) ∙ sym len in
          (was, stood.2.there, placed was.queue.place now.queue.place was.queue.len now.queue.len (stood.2.place ∙ sym at_same) len_same)

      by_key : (other : ℕ) (now : HeldPipe) → object new.pipes other ≡ Some now → 0 < now.queue.len → (other ≡ pipe) ⊎ (other ≢ pipe)
          → (was : HeldPipe) × (object old.pipes other ≡ Some was) × (place_of was.queue ≡ place_of now.queue)
      by_key other now at full (inl same) =
          subst (λ k. (was : HeldPipe) × (object old.pipes k ≡ Some was) × (place_of was.queue ≡ place_of now.queue)) (sym same)
          (of_it now (ap (object new.pipes) (sym same) ∙ at) full (after_close stood.0 (may_write (access_in desc.access))) refl)
      by_key other now at full (inr apart) = (now, sym (closes.others.objects other (λ among. apart (sym (Contains-single pipe other among)))) ∙ at, refl)

  pub queues_dropped : QueuesStand old new
  queues_dropped = by_count (cases_eq desc.count 1)
    where
      by_target : (what : Target) → desc.target ≡ what → TargetCloses old new desc.access what → QueuesStand old new
      by_target (target.Inode number) on closes = queues_same old new (ap (λ (h : Heap). h.pipes) closes) (ap (λ (h : Heap). h.socks) closes)
      by_target (target.Pipe pipe) on closes = end_closed pipe on closes
      by_target (target.Sock sock) on closes = record {
        pipes = λ other now at full. (now, ap (λ (p : List (Option HeldPipe)). object p other) (sym (ap (λ (h : Heap). h.pipes) closes.others.kept)) ∙ at, refl);
        socks = closes.queues;
      }

      by_count : (desc.count ≡ 1) ⊎ (desc.count ≢ 1) → QueuesStand old new
      by_count (inl last) = by_target desc.target refl (drops.closes last)
      by_count (inr more) =
          let still = drops.stays (omega (arith, some, more)) in
          queues_same old new (ap (λ (h : Heap). h.pipes) still) (ap (λ (h : Heap). h.socks) still)

-- ---- the account

front_at : (before now fronts : List ℕ) (place : ℕ) → place < length now
    → slice_index (fronts_after before now fronts) place ≡ front_after (slice_index before place) (slice_index now place) (slice_index fronts place)
front_at before now fronts place within =
    get_or-map-range_with_len (λ k. front_after (slice_index before k) (slice_index now k) (slice_index fronts k)) 0 (length now) place place 0 within (omega arith)

-- a queue without bytes begins at its front, and one that has those that it had stays
settled : (was now front place : ℕ) → (now ≡ 0 → place ≡ 0) → (0 < now → (was ≡ now) × (front ≡ place)) → front_after was now front ≡ place
settled was zero front place empty stays = sym (empty refl)
settled was (suc n) front place empty stays =
    let stay = stays (omega arith) in
    ap (λ w. cond (suc n == 0) 0 (cond (nat_lt (suc n) w) ((front + (w - suc n)) % 512) front)) stay.0
    ∙ ap (λ b. cond b 0 (cond (nat_lt (suc n) (suc n)) ((front + (suc n - suc n)) % 512) front)) (ne_eqb (suc n) 0 (λ e. omega (arith, e)))
    ∙ ap (λ b. cond b ((front + (suc n - suc n)) % 512) front) (never (suc n))
    ∙ stay.1
  where
    never : (k : ℕ) → nat_lt k k ≡ false
    never k = grind arith

length_map : {X : Type 0} (f : X → ℕ) (xs : List X) → length (map f xs) ≡ length xs
length_map f [] = refl
length_map f (x ∷ xs) = ap (λ n. suc n) (length_map f xs)

module _ (numbers now : Numbers) (old new : Heap) (list later : CountedList) (files next : Files) (account : Account)
    (are : AreOpen numbers old list files) (will : AreOpen now new later next) (stand : QueuesStand old new)
    (pipes_keep : (key : ℕ) → InUse old.pipes key → now.pipes key ≡ numbers.pipes key) (socks_keep : (key : ℕ) → InUse old.socks key → now.socks key ≡ numbers.socks key)
    (have : HaveFronts numbers old account) where
  -- how many bytes a pipe has in the machine
  pipe_length : (n : Numbers) (h : Heap) (l : CountedList) (f : Files) → AreOpen n h l f → (key : ℕ) (pipe : HeldPipe) → object h.pipes key ≡ Some pipe
      → (slice_index (pipe_lengths f) (n.pipes key) ≡ pipe.queue.len) × (n.pipes key < length (pipe_lengths f)) × (pipe.queue.len ≡ 0 → pipe.queue.place ≡ 0)
  pipe_length n h l f opened key pipe at =
      let there = opened.piped.there key pipe at in
      let stands = opened.piped.means key pipe there.0 at there.1 in (
        get_or-map unread_in_pipe f.pipes (n.pipes key) None ∙ ap unread_in_pipe there.1 ∙ sym (held_len h key pipe there.0 stands.0 at stands.1),
        subst (λ k. n.pipes key < k) (sym (length_map unread_in_pipe f.pipes)) (InUse-within f.pipes (n.pipes key) (ap is_some there.1)),
        (held_bytes h key pipe there.0 stands.0 at stands.1).owns.empty,
      )

  -- and a socket
  sock_length : (n : Numbers) (h : Heap) (l : CountedList) (f : Files) → AreOpen n h l f → (key : ℕ) (sock : Sock) → object h.socks key ≡ Some sock
      → (slice_index (socket_lengths f) (n.socks key) ≡ sock.queue.len) × (n.socks key < length (socket_lengths f)) × (sock.queue.len ≡ 0 → sock.queue.place ≡ 0)
  sock_length n h l f opened key sock at =
      let it = found h opened.socketed.keyed key sock opened.socketed.stands.table at in
      let there = opened.socketed.renamed.there key _ it.at in
      let same = opened.socketed.renamed.means key _ there.0 it.at there.1 in (
        get_or-map unread_in_socket f.sockets (n.socks key) None ∙ ap unread_in_socket there.1 ∙ ap (λ (s : Socket). length s.bytes) same ∙ sym it.kept.len,
        subst (λ k. n.socks key < k) (sym (length_map unread_in_socket f.sockets)) (InUse-within f.sockets (n.socks key) (ap is_some there.1)),
        it.kept.bytes.owns.empty,
      )

  pub fronts_follow : HaveFronts now new (fronts_on files next account)
  fronts_follow = record { pipes = pipe_front; socks = sock_front }
    where
      pipe_front : (key : ℕ) (pipe : HeldPipe) → object new.pipes key ≡ Some pipe → slice_index (fronts_on files next account).pipes (now.pipes key) ≡ pipe.queue.place
      pipe_front key pipe at =
          let it = pipe_length now new later next will key pipe at in
          front_at (pipe_lengths files) (pipe_lengths next) account.pipes (now.pipes key) it.1
          ∙ settled (slice_index (pipe_lengths files) (now.pipes key)) (slice_index (pipe_lengths next) (now.pipes key)) (slice_index account.pipes (now.pipes key)) pipe.queue.place
          (λ none. it.2 (sym it.0 ∙ none)) (λ some. stays it.0 (subst (λ n. 0 < n) it.0 some))
        where
          stays : slice_index (pipe_lengths next) (now.pipes key) ≡ pipe.queue.len → 0 < pipe.queue.len
              → (slice_index (pipe_lengths files) (now.pipes key) ≡ slice_index (pipe_lengths next) (now.pipes key)) × (slice_index account.pipes (now.pipes key) ≡ pipe.queue.place)
          stays len some =
              let was = stand.pipes key pipe at some in
              let before = pipe_length numbers old list files are key was.0 was.1 in
              let number = pipes_keep key (ap is_some was.1) in (
                ap (slice_index (pipe_lengths files)) number ∙ before.0 ∙ ap (λ (q : QueuePlace). q.len) was.2 ∙ sym len,
                ap (slice_index account.pipes) number ∙ have.pipes key was.0 was.1 ∙ ap (λ (q : QueuePlace). q.place) was.2,
              )

      sock_front : (key : ℕ) (sock : Sock) → object new.socks key ≡ Some sock → slice_index (fronts_on files next account).sockets (now.socks key) ≡ sock.queue.place
      sock_front key sock at =
          let it = sock_length now new later next will key sock at in
          front_at (socket_lengths files) (socket_lengths next) account.sockets (now.socks key) it.1
          ∙ settled (slice_index (socket_lengths files) (now.socks key)) (slice_index (socket_lengths next) (now.socks key)) (slice_index account.sockets (now.socks key)) sock.queue.place
          (λ none. it.2 (sym it.0 ∙ none)) (λ some. stays it.0 (subst (λ n. 0 < n) it.0 some))
        where
          stays : slice_index (socket_lengths next) (now.socks key) ≡ sock.queue.len → 0 < sock.queue.len
              → (slice_index (socket_lengths files) (now.socks key) ≡ slice_index (socket_lengths next) (now.socks key)) × (slice_index account.sockets (now.socks key) ≡ sock.queue.place)
          stays len some =
              by_old (object old.socks key) refl (sym (ap queue_in at) ∙ stand.socks key (subst (λ (q : QueuePlace). 0 < q.len) (sym (ap queue_in at)) some))
            where
              by_old : (o : Option Sock) → object old.socks key ≡ o → place_of sock.queue ≡ queue_at old key
                  → (slice_index (socket_lengths files) (now.socks key) ≡ slice_index (socket_lengths next) (now.socks key)) × (slice_index account.sockets (now.socks key) ≡ sock.queue.place)
              by_old None none same = absurd (let len : sock.queue.len ≡ 0 = ap (λ (q : QueuePlace). q.len) (same ∙ ap queue_in none) in omega (arith, len, some))
              by_old (Some was) there same =
                  let whole : place_of sock.queue ≡ place_of was.queue = same ∙ ap queue_in there in
                  let before = sock_length numbers old list files are key was there in
                  let number = socks_keep key (ap is_some there) in (
                    ap (slice_index (socket_lengths files)) number ∙ before.0 ∙ sym (ap (λ (q : QueuePlace). q.len) whole) ∙ sym len,
                    ap (slice_index account.sockets) number ∙ have.socks key was there ∙ sym (ap (λ (q : QueuePlace). q.place) whole),
                  )
