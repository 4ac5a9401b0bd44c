-- The fronts of queues, where queues that have bytes to read have them where they stood.
use Rattle.std.proofs.Common.{◌≡◌, ◌≢◌, ◌⊎◌, ℕ, zero, suc, ◌+◌, ◌-◌, ◌%◌, ◌<◌, ◌==◌, nat_lt, Bool, true, false, cond, List, [], ◌∷◌, map, length, Option, None, Some, is_some, refl, ap, sym, ◌∙◌, subst, inl, inr, arith, ltb-true}
use Rattle.std.specs.Prelude.{slice_index}
use Rattle.std.specs.List.{range_with_len}
use Rattle.std.proofs.lemmas.Bool.Decides.{eqb_tells}
use Rattle.std.proofs.lemmas.List.{length-map}
use Rattle.kheap_slabs.specs.Objects.{object}
use Rattle.kheap_slabs.proofs.ObjectLemmas.{InUse-within}
use Rattle.kheap_slabs.specs.declared.objects.Pipe.{Pipe as HeldPipe}
use Rattle.kheap_slabs.specs.declared.objects.Sock.{Sock}
use Rattle.kheap_slabs.specs.Heap.{Heap}
use Rattle.chunk_queue.specs.Chained.{place_of}
use Rattle.open_laws.specs.Open.{HaveFronts}
use Rattle.open_laws.specs.Piped.{ArePiped}
use Rattle.open_laws.specs.Socketed.{AreSocketed}
use Rattle.open_laws.specs.Placed.{Numbers}
use Rattle.posix_defs.specs.Account.{Account, account_on, front_after, fronts_after, pipe_lengths, socket_lengths, unread_in_pipe, unread_in_socket}
use Rattle.posix_defs.specs.Plain.{Plain}
use Rattle.posix_defs.specs.QueuePlace.{QueuePlace, at_front}
use Rattle.proc_table.proofs.PlaceLemmas.{some_same}
use Rattle.usock_core.specs.Standing.{queue_at, queue_in}
use Rattle.proc_numbers.specs.Queues.{QueuesStand}
use Rattle.store_objects.specs.Files.{AreSettled}
use Rattle.store_objects.proofs.SocketPlaces.{sock_there}

-- ---- lists by place

range_at : (f : ℕ → ℕ) (first n i : ℕ) → i < n → slice_index (map f (range_with_len first n)) i ≡ f (first + i)
range_at f first zero i less = absurd (omega arith)
range_at f first (suc n) zero less = ap f (let e : first ≡ first + 0 = omega arith in e)
range_at f first (suc n) (suc i) less = range_at f (first + 1) n i (omega arith) ∙ ap f (let e : first + 1 + i ≡ first + suc i = omega arith in e)

range_same : (f g : ℕ → ℕ) (first n : ℕ) → ((i : ℕ) → i < n → f (first + i) ≡ g (first + i)) → map f (range_with_len first n) ≡ map g (range_with_len first n)
range_same f g first zero same = refl
range_same f g first (suc n) same =
    ap (λ m. m ∷ map f (range_with_len (first + 1) n)) (ap f (let e : first ≡ first + 0 = omega arith in e) ∙ same 0 (omega arith) ∙ ap g (let e : first + 0 ≡ first = omega arith in e))
    ∙ ap (λ ns. g first ∷ ns)
    (range_same f g (first + 1) n (λ i less. ap f (let e : first + 1 + i ≡ first + suc i = omega arith in e) ∙ same (suc i) (omega arith) ∙ ap g (let e : first + suc i ≡ first + 1 + i = omega arith in e)))

-- the front of each queue that is there
pub front_at : (old new fronts : List ℕ) (place : ℕ) → place < length new
    → slice_index (fronts_after old new fronts) place ≡ front_after (slice_index old place) (slice_index new place) (slice_index fronts place)
front_at old new fronts place less =
    range_at (λ at. front_after (slice_index old at) (slice_index new at) (slice_index fronts at)) 0 (length new) place less
    ∙ ap (λ at. front_after (slice_index old at) (slice_index new at) (slice_index fronts at)) (let e : 0 + place ≡ place = omega arith in e)

-- ---- fronts stay while lengths stay

not_less : (n : ℕ) → nat_lt n n ≡ false
not_less n = by_test (nat_lt n n) refl
  where
    by_test : (b : Bool) → nat_lt n n ≡ b → nat_lt n n ≡ false
    by_test false is = is
    by_test true is = absurd (let less : n < n = ltb-true n n is in omega (arith, less))

stays_once : (old new front : ℕ) → front_after new new (front_after old new front) ≡ front_after old new front
stays_once old new front = by_length (new == 0) (nat_lt new new) (not_less new)
  where
    by_length : (empty less : Bool) → less ≡ false
        → cond empty 0 (cond less ((cond empty 0 (cond (nat_lt new old) ((front + (old - new)) % 512) front) + (new - new)) % 512) (cond empty 0 (cond (nat_lt new old) ((front + (old - new)) % 512) front)))
        ≡ cond empty 0 (cond (nat_lt new old) ((front + (old - new)) % 512) front)
    by_length true less isnt = refl
    by_length false less isnt =
        ap (λ b. cond b ((cond (nat_lt new old) ((front + (old - new)) % 512) front + (new - new)) % 512) (cond (nat_lt new old) ((front + (old - new)) % 512) front)) isnt

settled_once : (old new fronts : List ℕ) → fronts_after new new (fronts_after old new fronts) ≡ fronts_after old new fronts
settled_once old new fronts =
    range_same (λ at. front_after (slice_index new at) (slice_index new at) (slice_index (fronts_after old new fronts) at))
    (λ at. front_after (slice_index old at) (slice_index new at) (slice_index fronts at)) 0 (length new)
    (λ i less.
    let at : 0 + i < length new = omega arith in
    ap (front_after (slice_index new (0 + i)) (slice_index new (0 + i))) (front_at old new fronts (0 + i) at)
    ∙ stays_once (slice_index old (0 + i)) (slice_index new (0 + i)) (slice_index fronts (0 + i)))

-- an account that has gone on with the machine is settled
pub settled_after : (old new : Plain) (account : Account) → AreSettled new.files (account_on old new account)
settled_after old new account = record {
  pipes = settled_once (pipe_lengths old.files) (pipe_lengths new.files) account.pipes;
  sockets = settled_once (socket_lengths old.files) (socket_lengths new.files) account.sockets;
}

-- ---- fronts of queues that stand

-- an empty queue has its front at 0, and one that is as long as it was has it where it was
front_none : (old new front : ℕ) → new ≡ 0 → front_after old new front ≡ 0
front_none old new front none = ap (λ n. front_after old n front) none

front_kept : (n front : ℕ) → (n == 0) ≡ false → front_after n n front ≡ front
front_kept n front some =
    ap (λ b. cond b 0 (cond (nat_lt n n) ((front + (n - n)) % 512) front)) some ∙ ap (λ b. cond b ((front + (n - n)) % 512) front) (not_less n)

-- what a thing has at its place, where it is there
unread_at : {Y : Type 0} (unread : Option Y → ℕ) (things : List (Option Y)) (place : ℕ) (y : Y) → object things place ≡ Some y → slice_index (map unread things) place ≡ unread (Some y)
unread_at unread [] zero y is = absurd (cc)
unread_at unread [] (suc place) y is = absurd (cc)
unread_at unread (thing ∷ things) zero y is = ap unread is
unread_at unread (thing ∷ things) (suc place) y is = unread_at unread things place y is

within : {Y : Type 0} (unread : Option Y → ℕ) (things : List (Option Y)) (place : ℕ) (y : Y) → object things place ≡ Some y → place < length (map unread things)
within unread things place y is =
    let less = InUse-within things place (ap is_some is) in let same = length-map things unread in omega (arith, less, same)

-- a queue of a heap and of the machine, before and after
queue_stands : (before after : QueuePlace) (lengths now fronts : List ℕ) (place : ℕ) → place < length now → slice_index now place ≡ after.len → (after.len ≡ 0 → after.place ≡ 0)
    → (0 < after.len → after ≡ before) → (0 < before.len → (slice_index lengths place ≡ before.len) × (slice_index fronts place ≡ before.place))
    → slice_index (fronts_after lengths now fronts) place ≡ after.place
queue_stands before after lengths now fronts place less is empty stands was =
    front_at lengths now fronts place less ∙ ap (λ n. front_after (slice_index lengths place) n (slice_index fronts place)) is ∙ by_length (eqb_tells after.len 0)
  where
    by_length : (((after.len == 0) ≡ true) × (after.len ≡ 0)) ⊎ (((after.len == 0) ≡ false) × (after.len ≢ 0))
        → front_after (slice_index lengths place) after.len (slice_index fronts place) ≡ after.place
    by_length (inl none) = front_none (slice_index lengths place) after.len (slice_index fronts place) none.1 ∙ sym (empty none.1)
    by_length (inr some) =
        let same : after ≡ before = stands (let isnt = some.1 in omega arith) in
        let its = was (subst (λ (q : QueuePlace). 0 < q.len) same (let isnt = some.1 in omega arith)) in
        ap (λ n. front_after n after.len (slice_index fronts place)) (its.0 ∙ sym (ap (λ (q : QueuePlace). q.len) same))
        ∙ front_kept after.len (slice_index fronts place) some.0 ∙ its.1 ∙ sym (ap (λ (q : QueuePlace). q.place) same)

-- where the bytes stand that are to be read from a pipe, and how many they are
abbrev pipe_queue_in : Option HeldPipe → QueuePlace
pipe_queue_in None = at_front
pipe_queue_in (Some pipe) = place_of pipe.queue

abbrev pipe_queue_at : Heap → ℕ → QueuePlace
pipe_queue_at h key = pipe_queue_in (object h.pipes key)

stands_at : (old new : Heap) (key : ℕ) → QueuesStand old new → 0 < (pipe_queue_at new key).len → pipe_queue_at new key ≡ pipe_queue_at old key
stands_at old new key stand some = by_pipe (object new.pipes key) refl some
  where
    by_pipe : (o : Option HeldPipe) → object new.pipes key ≡ o → 0 < (pipe_queue_in o).len → pipe_queue_in o ≡ pipe_queue_at old key
    by_pipe None is some = absurd (omega (arith, some))
    by_pipe (Some pipe) is some = let was = stand.pipes key pipe is some in sym was.2 ∙ sym (ap pipe_queue_in was.1)

module _ (numbers : Numbers) (old new : Heap) (before now : Plain) (account : Account) (stand : QueuesStand old new) (fronts : HaveFronts numbers old account) where
  -- ---- pipes

  module _ (was : ArePiped numbers old before.files.pipes) (is : ArePiped numbers new now.files.pipes) where
    pipe_before : (key : ℕ) → 0 < (pipe_queue_at old key).len
        → (slice_index (pipe_lengths before.files) (numbers.pipes key) ≡ (pipe_queue_at old key).len) × (slice_index account.pipes (numbers.pipes key) ≡ (pipe_queue_at old key).place)
    pipe_before key some = by_pipe (object old.pipes key) refl
      where
        by_pipe : (o : Option HeldPipe) → object old.pipes key ≡ o
            → (slice_index (pipe_lengths before.files) (numbers.pipes key) ≡ (pipe_queue_at old key).len) × (slice_index account.pipes (numbers.pipes key) ≡ (pipe_queue_at old key).place)
        by_pipe None none = absurd (let nothing : (pipe_queue_at old key).len ≡ 0 = ap (λ o. (pipe_queue_in o).len) none in omega (arith, some, nothing))
        by_pipe (Some pipe) there =
            let plain = was.there key pipe there in
            let means = was.means key pipe plain.0 there plain.1 in
            let held = means.1 in
            let same : held.held ≡ pipe = some_same (object old.pipes key) held.held pipe held.there there in
            let queue : pipe_queue_at old key ≡ place_of pipe.queue = ap pipe_queue_in there in (
              unread_at unread_in_pipe before.files.pipes (numbers.pipes key) plain.0 plain.1 ∙ sym held.len ∙ ap (λ (p : HeldPipe). p.queue.len) same ∙ sym (ap (λ (q : QueuePlace). q.len) queue),
              fronts.pipes key pipe there ∙ sym (ap (λ (q : QueuePlace). q.place) queue),
            )

    pub pipe_fronts : (key : ℕ) (pipe : HeldPipe) → object new.pipes key ≡ Some pipe → slice_index (account_on before now account).pipes (numbers.pipes key) ≡ pipe.queue.place
    pipe_fronts key pipe there =
        let plain = is.there key pipe there in
        let means = is.means key pipe plain.0 there plain.1 in
        let held = means.1 in
        let same : held.held ≡ pipe = some_same (object new.pipes key) held.held pipe held.there there in
        let queue : pipe_queue_at new key ≡ place_of pipe.queue = ap pipe_queue_in there in
        let owns = held.bytes.owns in
        queue_stands (pipe_queue_at old key) (place_of pipe.queue) (pipe_lengths before.files) (pipe_lengths now.files) account.pipes (numbers.pipes key)
        (within unread_in_pipe now.files.pipes (numbers.pipes key) plain.0 plain.1)
        (unread_at unread_in_pipe now.files.pipes (numbers.pipes key) plain.0 plain.1 ∙ sym held.len ∙ ap (λ (p : HeldPipe). p.queue.len) same)
        (λ none. ap (λ (p : HeldPipe). p.queue.place) (sym same) ∙ owns.empty (ap (λ (p : HeldPipe). p.queue.len) same ∙ none))
        (λ some. sym queue ∙ stands_at old new key stand (subst (λ (q : QueuePlace). 0 < q.len) (sym queue) some))
        (pipe_before key)

  -- ---- sockets

  module _ (was : AreSocketed numbers old before.files.sockets) (is : AreSocketed numbers new now.files.sockets) where
    sock_before : (key : ℕ) → 0 < (queue_at old key).len
        → (slice_index (socket_lengths before.files) (numbers.socks key) ≡ (queue_at old key).len) × (slice_index account.sockets (numbers.socks key) ≡ (queue_at old key).place)
    sock_before key some = by_sock (object old.socks key) refl
      where
        by_sock : (o : Option Sock) → object old.socks key ≡ o
            → (slice_index (socket_lengths before.files) (numbers.socks key) ≡ (queue_at old key).len) × (slice_index account.sockets (numbers.socks key) ≡ (queue_at old key).place)
        by_sock None none = absurd (let nothing : (queue_at old key).len ≡ 0 = ap (λ o. (queue_in o).len) none in omega (arith, some, nothing))
        by_sock (Some sock) there =
            let plain = sock_there numbers old before.files.sockets was key sock there in
            let queue : queue_at old key ≡ place_of sock.queue = ap queue_in there in (
              unread_at unread_in_socket before.files.sockets (numbers.socks key) plain.socket plain.there ∙ sym plain.len ∙ sym (ap (λ (q : QueuePlace). q.len) queue),
              fronts.socks key sock there ∙ sym (ap (λ (q : QueuePlace). q.place) queue),
            )

    pub sock_fronts : (key : ℕ) (sock : Sock) → object new.socks key ≡ Some sock → slice_index (account_on before now account).sockets (numbers.socks key) ≡ sock.queue.place
    sock_fronts key sock there =
        let plain = sock_there numbers new now.files.sockets is key sock there in
        let queue : queue_at new key ≡ place_of sock.queue = ap queue_in there in
        queue_stands (queue_at old key) (place_of sock.queue) (socket_lengths before.files) (socket_lengths now.files) account.sockets (numbers.socks key)
        (within unread_in_socket now.files.sockets (numbers.socks key) plain.socket plain.there)
        (unread_at unread_in_socket now.files.sockets (numbers.socks key) plain.socket plain.there ∙ sym plain.len)
        plain.empty
        (λ some. sym queue ∙ stand.socks key (subst (λ (q : QueuePlace). 0 < q.len) (sym queue) some))
        (sock_before key)

  -- Where queues stand, the account that has gone on with the machine has their fronts.
  pub fronts_stand : ArePiped numbers old before.files.pipes → ArePiped numbers new now.files.pipes → AreSocketed numbers old before.files.sockets → AreSocketed numbers new now.files.sockets
      → HaveFronts numbers new (account_on before now account)
  fronts_stand pipes_were pipes_are socks_were socks_are = record { pipes = pipe_fronts pipes_were pipes_are; socks = sock_fronts socks_were socks_are }
