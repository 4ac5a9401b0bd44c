-- What is open goes on where a call is about something else, and what its owners give.
use Rattle.std.proofs.Common.{◌≡◌, ◌≢◌, ◌⊎◌, ℕ, zero, suc, ◌+◌, ◌*◌, ◌/◌, ◌<◌, ◌≤◌, Bool, true, false, List, [], ◌∷◌, ◌++◌, map, replicate, length, cond, eqb, count_by, is_some, Option, None, Some, IsSome, refl, sym, ap, subst, ◌∙◌, arith, eq-eqb, inl, inr, Contains}
use Rattle.std.specs.Prelude.{sum_by}
use Rattle.std.proofs.lemmas.Bool.{cases_lt}
use Rattle.std.proofs.lemmas.List.{get_or_past, get_or-replicate, length-replicate}
use Rattle.std.proofs.lemmas.List.Folds.{sum_by-replicate}
use Rattle.std.proofs.lemmas.List.Sums.{count_by-le-length, sum_by-cons}
use Rattle.kabi_types.specs.Class.{size}
use Rattle.kabi_types.specs.declared.classes.Class.TheVariants as class
use Rattle.kheap_slabs.specs.Objects.{count, object, InUse}
use Rattle.kheap_slabs.proofs.ObjectLemmas.{object_of}
use Rattle.kheap_slabs.specs.declared.objects.Access.{Access}
use Rattle.kheap_slabs.specs.declared.objects.Access.TheVariants as mode
use Rattle.kheap_slabs.specs.declared.objects.Chunk.{Chunk}
use Rattle.kheap_slabs.specs.declared.objects.Desc.{Desc}
use Rattle.kheap_slabs.specs.declared.objects.Pipe.{Pipe as HeldPipe}
use Rattle.kheap_slabs.specs.declared.objects.Leaf.{Leaf}
use Rattle.kheap_slabs.specs.declared.objects.Proc.{Proc}
use Rattle.kheap_slabs.specs.declared.objects.Sock.{Sock}
use Rattle.kheap_slabs.specs.declared.objects.Target.{Target}
use Rattle.kheap_slabs.specs.declared.objects.Target.TheVariants as target
use Rattle.kheap_slabs.specs.declared.objects.QueueParts.{QueueParts}
use Rattle.kheap_slabs.specs.Heap.{Heap, IsWellFormed, empty_heap}
use Rattle.kheap_slabs.specs.Owners.{chunk_keys, each_of, sock_queues}
use Rattle.kheap_slabs.specs.Queues.{OwnedQueue}
use Rattle.kheap_laws.proofs.OwnerLemmas.{empty_heap-owned}
use Rattle.posix_defs.specs.Files.Descriptions.{may_read, may_write}
use Rattle.posix_defs.specs.Files.Bare.{IsBare}
use Rattle.posix_defs.specs.Files.State.{Files}
use Rattle.posix_defs.specs.Pipe.{Pipe}
use Rattle.posix_defs.specs.Socket.{Stage, Idle, Listening, Connected, is_connected, waiting_of}
use Rattle.posix_defs.specs.SocketLinks.{AreHeld, AreLinked, WaitsFor}
use Rattle.posix_defs.specs.Sockets.{Sockets, stage_at}
use Rattle.socket_laws.proofs.SocketCalls.{listening_there}
use Rattle.chunk_queue.proofs.HeldLemmas.{HasBytes-same}
use Rattle.pipe_ends.specs.Standing.{HasEndAt, IsPipeAt, StandsFor}
use Rattle.pipe_ends.proofs.StandingLemmas.{stands_same as pipe_stands_same}
use Rattle.usock_core.specs.Standing.{IsHeldIn}
use Rattle.usock_core.proofs.HeldLemmas.{closable_held, socket_held}
use Rattle.usock_core.proofs.OneTable.{empty_held}
use Rattle.usock_core.proofs.StandingLemmas.{found, free_from, held_on}
use Rattle.open_laws.specs.Placed.{ArePlaced, Numbers}
use Rattle.open_laws.specs.Closing.{IsClosable, IsDroppable}
use Rattle.open_laws.specs.Described.{CountedList, access_in, AreDescribed, counted_in}
use Rattle.open_laws.specs.Open.{AreOpen}
use Rattle.open_laws.specs.Owned.{CountsItsNames, HasItsEnds, HasItsOwners, IsHeldOpen, IsThereFor, all_namings, desc_count, desc_count_at, has_read_end, has_write_end, is_on_pipe, leaf_namings_in, leaf_namings_of, names_desc, namings_in, namings_of, sock_in, sock_of, socks_named}
use Rattle.open_laws.specs.Piped.{ArePiped}
use Rattle.open_laws.specs.Polled.{IsTargetIn}
use Rattle.open_laws.specs.Socketed.{AreSocketed, socket_by}
use Rattle.open_laws.proofs.DropLemmas.{piped_on, socketed_on}
use Rattle.open_laws.proofs.OwnerLemmas.{count_some, in_hand, named_by, names, one_if}

-- ---- elsewhere

-- what is open stands for the same where its objects are the same, and the machine has the same of it
pub open_on : (numbers : Numbers) (old new : Heap) (list : CountedList) (files now : Files) → new.descs ≡ old.descs → new.pipes ≡ old.pipes → new.socks ≡ old.socks → new.chunks ≡ old.chunks
    → now.descriptions ≡ files.descriptions → now.pipes ≡ files.pipes → now.sockets ≡ files.sockets → AreOpen numbers old list files → AreOpen numbers new list now
open_on numbers old new list files now descs pipes socks chunks descriptions plain_pipes sockets are = record {
  described = subst (λ (d : List (Option Desc)). AreDescribed numbers d list) (sym descs) are.described;
  descriptions = descriptions ∙ are.descriptions;
  piped = subst (ArePiped numbers new) (sym plain_pipes) (piped_on numbers old new files.pipes pipes (λ key held bytes is has. HasBytes-same old new held.queue bytes chunks has) are.piped);
  socketed = subst (AreSocketed numbers new) (sym sockets) (socketed_on numbers old new files.sockets socks (λ key held bytes is has. HasBytes-same old new held.queue bytes chunks has) are.socketed);
}

pub held_open_on : (old new : Heap) → new.descs ≡ old.descs → new.pipes ≡ old.pipes → new.socks ≡ old.socks → new.chunks ≡ old.chunks → IsHeldOpen old → IsHeldOpen new
held_open_on old new descs pipes socks chunks held = record {
  targets = λ key desc is. there desc.access desc.target (held.targets key desc (ap (λ (d : List (Option Desc)). object d key) (sym descs) ∙ is));
  pipes = λ key pipe is. subst (λ (d : List (Option Desc)). HasItsEnds d key pipe) (sym descs) (held.pipes key pipe (ap (λ (p : List (Option HeldPipe)). object p key) (sym pipes) ∙ is));
  stand = λ key used.
      let same = ap (λ (p : List (Option HeldPipe)). object p key) pipes in
      let before = held.stand key (subst IsSome same used) in
      (before.0, before.1, pipe_stands_same old new key before.0 before.1 same chunks before.2);
  socks = subst (λ (d : List (Option Desc)). IsHeldIn new (socks_named d)) (sym descs)
      (held_on old new (socks_named old.descs) socks (λ key sock bytes is has. HasBytes-same old new sock.queue bytes chunks has) held.socks);
  once = λ one other sock first second. held.once one other sock
      (ap (λ (d : List (Option Desc)). sock_in (object d one)) (sym descs) ∙ first) (ap (λ (d : List (Option Desc)). sock_in (object d other)) (sym descs) ∙ second);
}
  where
    there : (access : Access) (what : Target) → IsThereFor old access what → IsThereFor new access what
    there access (target.Inode number) so = tt
    there access (target.Pipe key) so = (subst (λ (p : List (Option HeldPipe)). InUse p key) (sym pipes) so.0, so.1)
    there access (target.Sock key) so = subst (λ (s : List (Option Sock)). InUse s key) (sym socks) so

pub named_on : (old new : Heap) (hand : List ℕ) → new.descs ≡ old.descs → ((key : ℕ) → all_namings new key ≡ all_namings old key) → CountsItsNames old hand → CountsItsNames new hand
named_on old new hand descs same named = record {
  counts = λ key. ap (λ (d : List (Option Desc)). desc_count_at d key) descs ∙ (named.counts key ∙ ap (λ (n : ℕ). n + count_by (λ other. eqb other key) hand) (sym (same key)));
  named = λ key used. subst (λ (d : List (Option Desc)). 0 < desc_count_at d key) (sym descs) (named.named key (subst (λ (d : List (Option Desc)). InUse d key) descs used));
}

-- ---- what is named

counted_there : (o : Option Desc) → 0 < desc_count o → (desc : Desc) × (o ≡ Some desc) × (0 < desc.count)
counted_there None some = absurd (omega (arith, some))
counted_there (Some desc) some = (desc, refl, some)

-- what a Desc is open on is there
pub target_there : (h : Heap) (key : ℕ) (desc : Desc) → IsHeldOpen h → object h.descs key ≡ Some desc → IsTargetIn h desc.target
target_there h key desc held is = go desc.target refl (held.targets key desc is)
  where
    go : (what : Target) → desc.target ≡ what → IsThereFor h desc.access what → IsTargetIn h what
    go (target.Inode number) on there = tt
    go (target.Pipe pipe) on there = held.stand pipe there.0
    go (target.Sock sock) on there = socket_held h (socks_named h.descs) sock (named_by h.descs key sock (ap sock_in is ∙ ap sock_of on)) held.socks

-- and can be closed
target_closable : (h : Heap) (key : ℕ) (desc : Desc) → IsHeldOpen h → object h.descs key ≡ Some desc → IsClosable h desc.access desc.target
target_closable h key desc held is = go desc.target refl (held.targets key desc is)
  where
    end : (pipe : ℕ) → is_on_pipe pipe desc.target ≡ true → (stood : IsPipeAt h pipe) → (access : Access) → desc.access ≡ access → access ≢ mode.Both → HasEndAt h pipe (may_write (access_in access))
    end pipe on stood mode.Read e apart =
        let ends = held.pipes pipe stood.2.held stood.2.there in
        let some = count_some (has_read_end pipe) h.descs key desc is (rw (on, e) refl) in
        let reads = ends.readers in
        let same = stood.2.readers in
        (stood.0, stood.1, stood.2, omega (arith, some, reads, same))
    end pipe on stood mode.Write e apart =
        let ends = held.pipes pipe stood.2.held stood.2.there in
        let some = count_some (has_write_end pipe) h.descs key desc is (rw (on, e) refl) in
        let writes = ends.writers in
        let same = stood.2.writers in
        (stood.0, stood.1, stood.2, omega (arith, some, writes, same))
    end pipe on stood mode.Both e apart = absurd (apart refl)

    go : (what : Target) → desc.target ≡ what → IsThereFor h desc.access what → IsClosable h desc.access what
    go (target.Inode number) on there = tt
    go (target.Pipe pipe) on there = end pipe (ap (is_on_pipe pipe) on ∙ eq-eqb pipe pipe refl) (held.stand pipe there.0) desc.access refl there.1
    go (target.Sock sock) on there = closable_held h (socks_named h.descs) sock (named_by h.descs key sock (ap sock_in is ∙ ap sock_of on)) held.socks

-- a descriptor in hand can be dropped
pub droppable : (h : Heap) (hand : List ℕ) (key : ℕ) → HasItsOwners h (key ∷ hand) → IsDroppable h key
droppable h hand key owners =
    let counts = owners.named.counts key in
    let one = in_hand hand key key in
    let here = ap one_if (eq-eqb key key refl) in
    let it = counted_there (object h.descs key) (omega (arith, counts, one, here)) in
    record { desc = it.0; there = it.1; named = it.2; closable = target_closable h key it.0 owners.held it.1 }

-- what a process's descriptor names is there
pub named_there : (h : Heap) (hand : List ℕ) (key : ℕ) → HasItsOwners h hand → 0 < all_namings h key → (desc : Desc) × (object h.descs key ≡ Some desc) × IsTargetIn h desc.target
named_there h hand key owners some =
    let counts = owners.named.counts key in
    let it = counted_there (object h.descs key) (omega (arith, counts, some)) in
    (it.0, it.1, target_there h key it.0 owners.held it.1)

-- ---- counts have room

namings_few : (procs : List (Option Proc)) (key : ℕ) → ((at : ℕ) (proc : Proc) → object procs at ≡ Some proc → length proc.descriptors ≡ 32) → namings_of procs key ≤ 32 * count procs
namings_few [] key long = omega arith
namings_few (None ∷ procs) key long =
    let behind = namings_few procs key (λ at. long (suc at)) in
    let whole = sum_by-cons (namings_in key) None procs in
    let counted = sum_by-cons (λ (o : Option Proc). one_if (is_some o)) None procs in
    omega (arith, behind, whole, counted)
namings_few (Some proc ∷ procs) key long =
    let behind = namings_few procs key (λ at. long (suc at)) in
    let whole = sum_by-cons (namings_in key) (Some proc) procs in
    let counted = sum_by-cons (λ (o : Option Proc). one_if (is_some o)) (Some proc) procs in
    let here = count_by-le-length (names_desc key) proc.descriptors in
    let size = long 0 proc refl in
    omega (arith, behind, whole, counted, here, size)

leaf_namings_few : (leaves : List (Option Leaf)) (key : ℕ) → ((at : ℕ) (leaf : Leaf) → object leaves at ≡ Some leaf → length leaf.descriptors ≡ 32) → leaf_namings_of leaves key ≤ 32 * count leaves
leaf_namings_few [] key long = omega arith
leaf_namings_few (None ∷ leaves) key long =
    let behind = leaf_namings_few leaves key (λ at. long (suc at)) in
    let whole = sum_by-cons (leaf_namings_in key) None leaves in
    let counted = sum_by-cons (λ (o : Option Leaf). one_if (is_some o)) None leaves in
    omega (arith, behind, whole, counted)
leaf_namings_few (Some leaf ∷ leaves) key long =
    let behind = leaf_namings_few leaves key (λ at. long (suc at)) in
    let whole = sum_by-cons (leaf_namings_in key) (Some leaf) leaves in
    let counted = sum_by-cons (λ (o : Option Leaf). one_if (is_some o)) (Some leaf) leaves in
    let here = count_by-le-length (names_desc key) leaf.descriptors in
    let size = long 0 leaf refl in
    omega (arith, behind, whole, counted, here, size)

pub counts_few : (h : Heap) (hand : List ℕ) (key : ℕ) → IsWellFormed h → HasItsOwners h hand → desc_count_at h.descs key ≤ 1572864 + length hand
counts_few h hand key whole owners =
    let counts = owners.named.counts key in
    let few = namings_few h.procs key (λ at proc is. whole.descriptors at proc is) in
    let further = leaf_namings_few h.leaves key (λ at leaf is. whole.leaf_rows at leaf is) in
    let held = count_by-le-length (λ other. eqb other key) hand in
    let live = whole.live_within in
    let high = whole.high_within in
    let limit = whole.limit in
    omega (arith, counts, few, further, held, live, high, limit)

-- ---- nothing is left

none_used : {X : Type 0} (objects : List (Option X)) (key : ℕ) → (InUse objects key → ⊥) → object objects key ≡ None
none_used objects key unused = by_case (object objects key) refl
  where
    by_case : (o : Option _) → object objects key ≡ o → object objects key ≡ None
    by_case None is = is
    by_case (Some x) is = absurd (unused (subst IsSome (sym is) refl))

count_none : (test : Option Desc → Bool) (descs : List (Option Desc)) → test None ≡ false → ((key : ℕ) → object descs key ≡ None) → count_by test descs ≡ 0
count_none test [] fails none = refl
count_none test (first ∷ descs) fails none =
    let here = ap one_if (ap test (none 0) ∙ fails) in
    let behind = count_none test descs fails (λ key. none (suc key)) in
    let whole = sum_by-cons (λ o. one_if (test o)) first descs in
    omega (arith, here, behind, whole)

each_none : {X Y : Type 0} (f : X → Y) (objects : List (Option X)) → ((key : ℕ) → object objects key ≡ None) → each_of f objects ≡ []
each_none f [] none = refl
each_none f (None ∷ objects) none = each_none f objects (λ key. none (suc key))
each_none f (Some x ∷ objects) none = absurd (let first : Some x ≡ None = none 0 in cc)

no_more : {X Y : Type 0} (f : X → Y) (xs : List X) → map f xs ≡ [] → xs ≡ []
no_more f [] is = refl
no_more f (x ∷ xs) is = absurd (cc)

module _ (h : Heap) (owners : HasItsOwners h []) (unnamed : (key : ℕ) → all_namings h key ≡ 0) where
  pub no_desc : (key : ℕ) → object h.descs key ≡ None
  no_desc key = none_used h.descs key (λ used.
      let some = owners.named.named key used in
      let counts = owners.named.counts key in
      let none = unnamed key in
      omega (arith, some, counts, none))

  pub no_pipe : (key : ℕ) → object h.pipes key ≡ None
  no_pipe key = none_used h.pipes key (λ used.
      let it = object_of h.pipes key used in
      let ends = owners.held.pipes key it.0 it.1 in
      let reads = count_none (has_read_end key) h.descs refl no_desc in
      let writes = count_none (has_write_end key) h.descs refl no_desc in
      let some = ends.some_end in
      let r = ends.readers in
      let w = ends.writers in
      omega (arith, some, r, w, reads, writes))

  not_named : (sock : ℕ) → Contains (socks_named h.descs) sock → ⊥
  not_named sock among = let by = names h.descs sock among in let none : sock_in (object h.descs by.0) ≡ None = ap sock_in (no_desc by.0) in let is = by.1 in cc

  none_in : (place : ℕ) → Contains [] place → ⊥
  none_in place there = omega (arith, there.1)

  -- nobody listens, since who listens would be named
  nobody : (sockets : Sockets) → AreLinked sockets → AreHeld sockets (socks_named h.descs) → (listener place : ℕ) → WaitsFor sockets listener place → ⊥
  nobody sockets linked held listener place waits = by_stage (stage_at sockets listener) refl waits
    where
      by_stage : (stage : Stage) → stage_at sockets listener ≡ stage → Contains (waiting_of (stage_at sockets listener)) place → ⊥
      by_stage Idle is there = none_in place (subst (λ (s : Stage). Contains (waiting_of s) place) is there)
      by_stage (Connected peer shut_read shut_write) is there = none_in place (subst (λ (s : Stage). Contains (waiting_of s) place) is there)
      by_stage (Listening waiting) is there = elim (held.held listener (listening_there sockets listener waiting is)) [
        | inl named ↦ not_named listener named
        | inr waits_too ↦
            let connected : is_connected (stage_at sockets listener) ≡ true = linked.waiting waits_too.0 listener waits_too.1 in
            let isnt : is_connected (stage_at sockets listener) ≡ false = ap is_connected is in
            absurd (let both : true ≡ false = sym connected ∙ isnt in cc)
      ]

  pub no_sock_left : (key : ℕ) → object h.socks key ≡ None
  no_sock_left key = none_used h.socks key (λ used.
      let it = object_of h.socks key used in
      let sockets = owners.held.socks.sockets in
      let stands = owners.held.socks.stands in
      elim (owners.held.socks.held.held key (found h sockets key it.0 stands.table it.1).there) [
        | inl named ↦ not_named key named
        | inr waits ↦ nobody sockets stands.linked owners.held.socks.held waits.0 key waits.1
      ])

  pub no_chunk : (key : ℕ) → object h.chunks key ≡ None
  no_chunk key = none_used h.chunks key (λ used.
      let own = owners.objects in
      let queues : map (λ (q : OwnedQueue). q.parts) own.0.queues ≡ [] =
      own.1.queues ∙ (ap (λ (p : List QueueParts). p ++ sock_queues h.socks) (each_none (λ (p : HeldPipe). p.queue) h.pipes no_pipe) ∙ each_none (λ (s : Sock). s.queue) h.socks no_sock_left) in
      let none : own.0.queues ≡ [] = no_more (λ (q : OwnedQueue). q.parts) own.0.queues queues in
      none_in key (subst (λ (q : List OwnedQueue). Contains (chunk_keys q) key) none (own.2.chunks.listed key used)))

-- ---- at boot

no_names : (descs : List (Option Desc)) → ((key : ℕ) → object descs key ≡ None) → socks_named descs ≡ []
no_names [] none = refl
no_names (None ∷ descs) none = no_names descs (λ key. none (suc key))
no_names (Some desc ∷ descs) none = absurd (let first : Some desc ≡ None = none 0 in cc)

no_object : {X : Type 0} (n key : ℕ) → object {X = X} (replicate n None) key ≡ None
no_object n key = elim (cases_lt key n) [
  | inl lt ↦ get_or-replicate n key None None lt
  | inr le ↦ get_or_past (replicate n None) key None (rw length-replicate le)
]

no_use : {X : Type 0} (n key : ℕ) (x : X) → object {X = X} (replicate n None) key ≡ Some x → ⊥
no_use n key x is = let both : None ≡ Some x = sym (no_object n key) ∙ is in cc

unused : (X : Type 0) (n key : ℕ) → InUse {X = X} (replicate n None) key → ⊥
unused X n key used = let it = object_of {X = X} (replicate n None) key used in no_use n key it.0 it.1

nobody_names : (n m key : ℕ) → namings_of (replicate n None) key + leaf_namings_of (replicate m None) key + 0 ≡ 0
nobody_names n m key =
    let none = sum_by-replicate (namings_in key) n None in
    let nor = sum_by-replicate (leaf_namings_in key) m None in
    omega (arith, none, nor)

pub boot_owners : (heap : ℕ) → HasItsOwners (empty_heap heap) []
boot_owners heap = record {
  objects = empty_heap-owned heap;
  named = record {
    counts = λ key. ap desc_count (no_object (heap / size class.Desc) key) ∙ sym (nobody_names (heap / size class.Proc) (heap / size class.Leaf) key);
    named = λ key used. absurd (unused Desc (heap / size class.Desc) key used);
  };
  held = record {
    targets = λ key desc is. absurd (no_use (heap / size class.Desc) key desc is);
    pipes = λ key pipe is. absurd (no_use (heap / size class.Pipe) key pipe is);
    stand = λ key used. absurd (unused HeldPipe (heap / size class.Pipe) key used);
    socks = subst (λ (named : List ℕ). IsHeldIn (empty_heap heap) named) (sym (no_names (replicate (heap / size class.Desc) None) (no_object (heap / size class.Desc)))) (empty_held heap);
    once = λ one other sock first second. absurd (let none : sock_in (object (replicate (heap / size class.Desc) None) one) ≡ None = ap sock_in (no_object (heap / size class.Desc) one) in let is = first in cc);
  };
}

nothing_at : {Y : Type 0} (place : ℕ) (y : Y) → object {X = Y} [] place ≡ Some y → ⊥
nothing_at zero y is = cc
nothing_at (suc place) y is = cc

-- where nothing is there, nothing stands for nothing
none_placed : {X Y : Type 0} (says : ℕ → X → Y → Type 0) (number : ℕ → ℕ) (objects : List (Option X)) → ((key : ℕ) → object objects key ≡ None) → ArePlaced says number objects (object [])
none_placed {X} says number objects none = record {
  there = λ key x is. absurd (nothing key x is);
  means = λ key x y is said. absurd (nothing key x is);
  once = λ one other used also same. absurd (let it = object_of objects one used in nothing one it.0 it.1);
  found = λ place y is. absurd (nothing_at place y is);
}
  where
    nothing : (key : ℕ) (x : X) → object objects key ≡ Some x → ⊥
    nothing key x is = let both : None ≡ Some x = sym (none key) ∙ is in cc

pub boot_open : (numbers : Numbers) (heap : ℕ) (files : Files) → IsBare files → AreOpen numbers (empty_heap heap) [] files
boot_open numbers heap files bare = record {
  described = none_placed (λ key desc counted. counted ≡ counted_in numbers desc) numbers.descs (replicate (heap / size class.Desc) None) (no_object (heap / size class.Desc));
  descriptions = bare.descriptions;
  piped = subst (λ (pipes : List (Option Pipe)). ArePiped numbers (empty_heap heap) pipes) (sym bare.pipes)
      (none_placed (λ key held pipe. (at : ℕ) × StandsFor (empty_heap heap) key pipe at) numbers.pipes (replicate (heap / size class.Pipe) None) (no_object (heap / size class.Pipe)));
  socketed = subst (λ (sockets : Sockets). AreSocketed numbers (empty_heap heap) sockets) (sym bare.sockets) (
      let held = empty_held heap in record {
        keyed = held.sockets;
        stands = held.stands;
        renamed = none_placed (λ key socket placed. placed ≡ socket_by numbers.socks socket) numbers.socks held.sockets
            (λ key. free_from (empty_heap heap) held.sockets key held.stands.table (no_object (heap / size class.Sock) key));
      });
}
