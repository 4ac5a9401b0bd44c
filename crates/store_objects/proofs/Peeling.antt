-- The processes of a heap, by key and by pid: sums over them are the same, and their spaces own the same.
use Rattle.std.proofs.Common.{◌≡◌, ◌≢◌, ℕ, suc, ◌+◌, List, [], ◌∷◌, ◌++◌, map, Option, None, Some, IsSome, is_some, refl, ap, sym, ◌∙◌, subst, inl, inr, arith, append_assoc, append-nil}
use Rattle.std.specs.Prelude.{sum_by}
use Rattle.std.specs.List.{Contains, cons_option}
use Rattle.std.proofs.lemmas.Bool.Decides.{eqb_tells}
use Rattle.std.proofs.lemmas.List.{get_or-set_same}
use Rattle.std.proofs.lemmas.List.Sums.{sum_by-cons, sum_by-set}
use Rattle.kheap_slabs.specs.Objects.{InUse, object, without}
use Rattle.kheap_slabs.proofs.ObjectLemmas.{InUse-within}
use Rattle.kheap_slabs.specs.declared.objects.Proc.{Proc}
use Rattle.kheap_slabs.specs.Heap.{Heap}
use Rattle.kheap_slabs.specs.Keys.{AreKeysOf, Splits}
use Rattle.kheap_slabs.specs.Owners.{AreOwnersOf, IsOwned, Owners, OwnsItsObjects, SameOwners, pipe_queues, sock_queues, spaces_of}
use Rattle.kheap_slabs.specs.Queues.{OwnedQueue}
use Rattle.kheap_laws.proofs.OnceLemmas.{IsOnce-head, IsOnce-tail}
use Rattle.kheap_laws.proofs.TableLemmas.{SameOwners-spaces, each_of-splits}
use Rattle.proc_numbers.specs.Having.{AreListed}
use Rattle.proc_table.specs.Table.{AreBetween, AreStored, TableView, keys_of, processes, procs_at, with_procs}
use Rattle.proc_table.specs.declared.places.Place.{Place}
use Rattle.proc_table.proofs.PlaceLemmas.{AreStored-missed, Contains-behind, Contains-cases, IsAt, Misses, Misses-lower, object_missed, procs_at-missed, stored_is}

-- The process of the first place is there; without it the heap has those of the others.
record Peels (objects : List (Option Proc)) (place : Place) (places : List Place) : Type 0 where
  pub proc : Proc
  pub is : object objects place.key ≡ Some proc
  pub stored : AreStored (without objects place.key) places
  pub all : AreKeysOf (without objects place.key) (keys_of places)
  pub same : procs_at (without objects place.key) places ≡ procs_at objects places

not_there : (o : Option Proc) → o ≡ None → IsSome o → ⊥
not_there None e some = cc
not_there (Some proc) e some = cc

peels : (objects : List (Option Proc)) (place : Place) (places : List Place) (before last : ℕ) → AreStored objects (place ∷ places) → AreBetween before (place ∷ places) last
    → AreKeysOf objects (keys_of (place ∷ places)) → Peels objects place places
peels objects place places before last stored rising all = record {
  proc = at.proc;
  is = at.is;
  stored = AreStored-missed objects places place.key None misses stored.1;
  all = record { used = used; listed = listed; once = IsOnce-tail place.key (keys_of places) all.once };
  same = procs_at-missed objects places place.key None misses;
}
  where
    at : IsAt objects place
    at = stored_is objects place stored.0

    misses : Misses place.key places
    misses = Misses-lower objects places place.pid last place.key at.proc stored.1 rising.1 at.is (let e : at.proc.pid ≡ place.pid = at.pid in omega arith)

    still : (key : ℕ) → key ≢ place.key → object (without objects place.key) key ≡ object objects key
    still key apart = object_missed objects place.key key None apart

    used : (key : ℕ) → Contains (keys_of places) key → InUse (without objects place.key) key
    used key there =
        subst IsSome (sym (still key (λ same. IsOnce-head place.key (keys_of places) all.once (subst (Contains (keys_of places)) same there))))
        (all.used key (Contains-behind place.key key (keys_of places) there))

    listed : (key : ℕ) → InUse (without objects place.key) key → Contains (keys_of places) key
    listed key in_use = elim (eqb_tells key place.key) [
      | inl same ↦ absurd (not_there (object (without objects place.key) place.key)
          (get_or-set_same objects place.key None None (InUse-within objects place.key (ap is_some at.is)))
          (subst (InUse (without objects place.key)) same.1 in_use))
      | inr apart ↦ elim (Contains-cases place.key key (keys_of places) (all.listed key (subst IsSome (still key apart.1) in_use))) [
        | inl same ↦ absurd (apart.1 (sym same))
        | inr behind ↦ behind
      ]
    ]

-- nobody is there where no key is in use
none_used : (objects : List (Option Proc)) → AreKeysOf objects [] → (key : ℕ) → InUse objects key → ⊥
none_used objects all key used = let there = all.listed key used in omega (arith, there.1)

-- ---- sums

module _ (f : Option Proc → ℕ) (none : f None ≡ 0) where
  nothing : (objects : List (Option Proc)) → ((key : ℕ) → InUse objects key → ⊥) → sum_by f objects ≡ 0
  nothing [] unused = refl
  nothing (None ∷ objects) unused =
      let whole = sum_by-cons f None objects in let rest = nothing objects (λ key. unused (suc key)) in omega (arith, whole, rest, none)
  nothing (Some proc ∷ objects) unused = absurd (unused 0 refl)

  -- What all processes of the heap sum up to, those of the table do.
  pub sum_listed : (objects : List (Option Proc)) (places : List Place) (before last : ℕ) → AreStored objects places → AreBetween before places last
      → AreKeysOf objects (keys_of places) → sum_by f objects ≡ sum_by (λ proc. f (Some proc)) (procs_at objects places)
  sum_listed objects [] before last stored rising all = nothing objects (none_used objects all)
  sum_listed objects (place ∷ places) before last stored rising all =
      let one = peels objects place places before last stored rising all in
      let rest = sum_listed (without objects place.key) places place.pid last one.stored rising.1 one.all in
      let taken = sum_by-set f objects place.key None None (InUse-within objects place.key (ap is_some one.is)) in
      let it : f (object objects place.key) ≡ f (Some one.proc) = ap f one.is in
      let first : sum_by (λ proc. f (Some proc)) (procs_at objects (place ∷ places)) ≡ f (Some one.proc) + sum_by (λ proc. f (Some proc)) (procs_at objects places) =
      ap (λ o. sum_by (λ proc. f (Some proc)) (cons_option o (procs_at objects places))) one.is ∙ sum_by-cons (λ proc. f (Some proc)) one.proc (procs_at objects places) in
      let same : sum_by (λ proc. f (Some proc)) (procs_at (without objects place.key) places) ≡ sum_by (λ proc. f (Some proc)) (procs_at objects places) = ap (sum_by (λ proc. f (Some proc))) one.same in
      omega (arith, rest, taken, it, first, same, none)

-- ---- owners

same_back : {one other : Owners} → SameOwners one other → SameOwners other one
same_back same = record { there = same.back; back = same.there }

same_on : {one two three : Owners} → SameOwners one two → SameOwners two three → SameOwners one three
same_on first second = record { there = λ h owned. second.there h (first.there h owned); back = λ h owned. first.back h (second.back h owned) }

same_as : (one other : Owners) → one ≡ other → SameOwners one other
same_as one other is = record { there = λ h. subst (IsOwned h) is; back = λ h. subst (IsOwned h) (sym is) }

no_spaces : (objects : List (Option Proc)) → ((key : ℕ) → InUse objects key → ⊥) → spaces_of objects ≡ []
no_spaces [] unused = refl
no_spaces (None ∷ objects) unused = no_spaces objects (λ key. unused (suc key))
no_spaces (Some proc ∷ objects) unused = absurd (unused 0 refl)

nodes_of : List Proc → List (List (Option ℕ))
nodes_of procs = map (λ proc. proc.nodes) procs

owning : List (List (Option ℕ)) → List OwnedQueue → Owners
owning spaces queues = record { spaces = spaces; queues = queues }

-- the spaces of the processes by key own what they own by pid
spaces_listed : (queues : List OwnedQueue) (front : List (List (Option ℕ))) (objects : List (Option Proc)) (places : List Place) (before last : ℕ) → AreStored objects places
    → AreBetween before places last → AreKeysOf objects (keys_of places)
    → SameOwners (owning (front ++ spaces_of objects) queues) (owning (front ++ nodes_of (procs_at objects places)) queues)
unfolding nodes_of owning
spaces_listed queues front objects [] before last stored rising all =
    same_as (owning (front ++ spaces_of objects) queues) (owning (front ++ []) queues)
    (ap (λ spaces. owning (front ++ spaces) queues) (no_spaces objects (none_used objects all)))
spaces_listed queues front objects (place ∷ places) before last stored rising all =
    let one = peels objects place places before last stored rising all in
    let nodes = one.proc.nodes in
    let rest = spaces_of (without objects place.key) in
    let split = each_of-splits (λ (proc : Proc). proc.nodes) objects place.key one.proc one.is in
    let out : Splits (front ++ spaces_of objects) nodes (front ++ rest) = record {
      before = front ++ split.before;
      after = split.after;
      whole_is = ap (λ spaces. front ++ spaces) split.whole_is ∙ sym (append_assoc front split.before (nodes ∷ split.after));
      rest_is = ap (λ spaces. front ++ spaces) split.rest_is ∙ sym (append_assoc front split.before split.after);
    } in
    let back : Splits ((front ++ nodes ∷ []) ++ rest) nodes (front ++ rest) = record {
      before = front;
      after = rest;
      whole_is = append_assoc front (nodes ∷ []) rest;
      rest_is = refl;
    } in
    let later = spaces_listed queues (front ++ nodes ∷ []) (without objects place.key) places place.pid last one.stored rising.1 one.all in
    let is : (front ++ nodes ∷ []) ++ nodes_of (procs_at (without objects place.key) places) ≡ front ++ nodes_of (procs_at objects (place ∷ places)) =
    append_assoc front (nodes ∷ []) (nodes_of (procs_at (without objects place.key) places))
    ∙ ap (λ procs. front ++ nodes ∷ nodes_of procs) one.same
    ∙ ap (λ o. front ++ nodes_of (cons_option o (procs_at objects places))) (sym one.is) in
    same_on (SameOwners-spaces (owning (front ++ spaces_of objects) queues) nodes (front ++ rest) out)
    (same_on (same_back (SameOwners-spaces (owning ((front ++ nodes ∷ []) ++ rest) queues) nodes (front ++ rest) back))
    (same_on later (same_as _ _ (ap (λ spaces. owning spaces queues) is))))

-- The spaces of the processes by pid, and the queues of pipes and sockets, own all nodes and chunks.
pub record OwnedByPid (h : Heap) (kept : TableView) : Type 0 where
  pub queues : List OwnedQueue
  pub are : map (λ queue. queue.parts) queues ≡ pipe_queues h.pipes ++ sock_queues h.socks
  pub owned : IsOwned h (with_procs (processes h kept) (record { spaces = []; queues = queues }))

-- it is the same as owning by key
pub by_pid : (h : Heap) (kept : TableView) → AreListed h kept → OwnsItsObjects h → OwnedByPid h kept
unfolding nodes_of owning
by_pid h kept listed owns =
    let queues = owns.0.queues in
    let are : AreOwnersOf h owns.0 = owns.1 in
    let same = spaces_listed queues [] h.procs kept.listed 0 kept.last listed.stored listed.rising listed.all in
    record {
      queues = queues;
      are = are.queues;
      owned = subst (λ spaces. IsOwned h (owning spaces queues)) (sym (append-nil (nodes_of (processes h kept))))
          (same.there h (subst (λ spaces. IsOwned h (owning spaces queues)) are.spaces owns.2));
    }

pub by_key : (h : Heap) (kept : TableView) → AreListed h kept → OwnedByPid h kept → OwnsItsObjects h
unfolding nodes_of owning
by_key h kept listed by =
    let same = spaces_listed by.queues [] h.procs kept.listed 0 kept.last listed.stored listed.rising listed.all in (
      owning (spaces_of h.procs) by.queues,
      record { spaces = refl; queues = by.are },
      same.back h (subst (λ spaces. IsOwned h (owning spaces by.queues)) (append-nil (nodes_of (processes h kept))) by.owned),
    )
