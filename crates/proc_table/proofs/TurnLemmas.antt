-- One process's space changes, or a child comes with a space of its own.
use Rattle.std.proofs.Common.{◌≡◌, ◌≢◌, ◌⊎◌, ℕ, ◌≤◌, ◌==◌, Bool, true, false, cond, List, [], ◌∷◌, filter, map, Option, None, Some, is_some, refl, sym, ap, ◌∙◌, subst, inl, inr, arith, Contains, slice_set}
use Rattle.std.specs.List.{AllByRecursion, filter_map}
use Rattle.std.specs.Option.{option_and_then}
use Rattle.std.proofs.lemmas.Bool.Decides.{eqb_tells}
use Rattle.kheap_slabs.specs.Objects.{object, put}
use Rattle.kheap_slabs.specs.declared.objects.Node.{Node}
use Rattle.kheap_slabs.specs.declared.objects.Page.{Page}
use Rattle.kheap_slabs.specs.declared.objects.Proc.{Proc}
use Rattle.kheap_slabs.specs.Heap.{Heap}
use Rattle.kheap_slabs.specs.Keys.{ChangesKeys}
use Rattle.kheap_slabs.specs.Owners.{Owners, with_space, IsOwned}
use Rattle.kheap_slabs.specs.Spaces.{keys_in}
use Rattle.kheap_laws.proofs.OwnerLemmas.{IsOwned-same, IsOwned-space_from_front, IsOwned-space_to_front}
use Rattle.page_space.specs.Contents.{content_at, IsOwnedWith}
use Rattle.proc_table.specs.Changes.{is_other, with_nodes}
use Rattle.proc_table.specs.Moves.{MemoryStays, TableMoves}
use Rattle.proc_table.specs.Procs.{IsAwakeOnce, IsClosed, IsLight, HasNoMemoryOnce, HasNoneOpenOnce, proc_of}
use Rattle.proc_table.specs.Table.{AreStored, Holds, TableView, key_of, keys_of, places_kept, processes, procs_at, with_procs}
use Rattle.proc_table.specs.declared.places.Place.{Place}
use Rattle.proc_table.proofs.PlaceLemmas.{Follows, IsAt, Misses, eqb_other, eqb_same, follows_keys, follows_one, follows_procs, follows_stored, key_of-misses, key_of-proc, object_missed, some_same, stored_is}
use Rattle.proc_table.proofs.OwnLemmas.{AreRising, HasOut, all_weaker, has_out, rising_procs, with_nodes-above}
use Rattle.proc_table.proofs.HoldLemmas.{content_kept}

-- a change that keeps all keeps their places
pub all_kept : (change : Proc → Proc) (objects : List (Option Proc)) (places : List Place) → AreStored objects places → places_kept (λ proc. Some (change proc)) objects places ≡ places
all_kept change objects [] stored = refl
all_kept change objects (place ∷ places) stored = by_case (stored_is objects place stored.0) (all_kept change objects places stored.1)
  where
    by_case : IsAt objects place → places_kept (λ proc. Some (change proc)) objects places ≡ places → places_kept (λ proc. Some (change proc)) objects (place ∷ places) ≡ place ∷ places
    by_case at rest =
        ap (λ o. cond (is_some (option_and_then (λ proc. Some (change proc)) o)) (place ∷ places_kept (λ proc. Some (change proc)) objects places) (places_kept (λ proc. Some (change proc)) objects places)) at.is
        ∙ ap (λ kept. place ∷ kept) rest

pub all_changed : (change : Proc → Proc) (procs : List Proc) → filter_map (λ proc. Some (change proc)) procs ≡ map change procs
all_changed change [] = refl
all_changed change (proc ∷ procs) = ap (λ rest. change proc ∷ rest) (all_changed change procs)

with_nodes_same : (pid : ℕ) (nodes : List (Option ℕ)) (proc : Proc) → proc.pid ≡ pid → with_nodes pid nodes proc ≡ record proc { nodes = nodes }
with_nodes_same pid nodes proc e = ap (λ b. cond b (record proc { nodes = nodes }) proc) (eqb_same proc.pid pid e)

with_nodes_other : (pid : ℕ) (nodes : List (Option ℕ)) (proc : Proc) → proc.pid ≢ pid → with_nodes pid nodes proc ≡ proc
with_nodes_other pid nodes proc e = ap (λ b. cond b (record proc { nodes = nodes }) proc) (eqb_other proc.pid pid e)

abbrev pid_in : Proc → ℕ
pid_in proc = proc.pid

pub with_nodes_pid : (pid : ℕ) (nodes : List (Option ℕ)) (proc : Proc) → pid_in (with_nodes pid nodes proc) ≡ proc.pid
with_nodes_pid pid nodes proc = by_case (proc.pid == pid)
  where
    by_case : (b : Bool) → pid_in (cond b (record proc { nodes = nodes }) proc) ≡ proc.pid
    by_case true = refl
    by_case false = refl

-- a live process may have any nodes
pub light_with : (procs : List Proc) (before pid : ℕ) (proc : Proc) (nodes : List (Option ℕ)) → AreRising before procs → proc_of procs pid ≡ Some proc → proc.status ≡ None
    → AllByRecursion IsLight procs → AllByRecursion IsLight (map (with_nodes pid nodes) procs)
light_with [] before pid proc nodes rising is runs light = tt
light_with (first ∷ procs) before pid proc nodes rising is runs light =
    by_case (eqb_tells first.pid pid) (light_with procs first.pid pid proc nodes rising.1)
  where
    by_case : (((first.pid == pid) ≡ true) × (first.pid ≡ pid)) ⊎ (((first.pid == pid) ≡ false) × (first.pid ≢ pid))
        → (proc_of procs pid ≡ Some proc → proc.status ≡ None → AllByRecursion IsLight procs → AllByRecursion IsLight (map (with_nodes pid nodes) procs))
        → AllByRecursion IsLight (map (with_nodes pid nodes) (first ∷ procs))
    by_case (inl same) rest =
        let one : first ≡ proc = some_same (proc_of (first ∷ procs) pid) first proc (ap (λ b. cond b (Some first) (proc_of procs pid)) same.0) is in (
          subst IsLight (sym (with_nodes_same pid nodes first same.1))
              (record { memory = subst (λ status. HasNoMemoryOnce status nodes) (sym (ap (λ p. p.status) one ∙ runs)) tt; descriptors = light.0.descriptors; awake = light.0.awake }),
          subst (AllByRecursion IsLight) (sym (with_nodes-above procs first.pid pid nodes rising.1 (let e = same.1 in omega arith))) light.1,
        )
    by_case (inr other) rest = (
      subst IsLight (sym (with_nodes_other pid nodes first other.1)) light.0,
      rest (sym (ap (λ b. cond b (Some first) (proc_of procs pid)) other.0) ∙ is) runs light.1,
    )

-- a process of that pid has no nodes and nothing open, and sleeps in no open
pub record GoesLight (pid : ℕ) (proc : Proc) : Type 0 where
  pub light : IsLight proc
  pub empty : proc.pid ≡ pid → keys_in proc.nodes ≡ []
  pub closed : proc.pid ≡ pid → IsClosed proc

empty_once : (status : Option ℕ) (nodes : List (Option ℕ)) (over : ℕ) → status ≡ Some over → HasNoMemoryOnce status nodes → keys_in nodes ≡ []
empty_once None nodes over is memory = cc
empty_once (Some status) nodes over is memory = memory

pub closed_once : (status : Option ℕ) (proc : Proc) (over : ℕ) → status ≡ Some over → HasNoneOpenOnce status proc.descriptors proc.leaves → IsAwakeOnce status proc.opening → IsClosed proc
closed_once None proc over is closed awake = absurd (cc)
closed_once (Some status) proc over is closed awake = record { opens = closed; awake = awake }

none_above : (procs : List Proc) (before pid : ℕ) → AreRising before procs → pid ≤ before → AllByRecursion IsLight procs → AllByRecursion (GoesLight pid) procs
none_above [] before pid rising low light = tt
none_above (proc ∷ procs) before pid rising low light = (
  record { light = light.0; empty = λ same. absurd (omega (arith, rising.0)); closed = λ same. absurd (omega (arith, rising.0)) },
  none_above procs proc.pid pid rising.1 (omega (arith, rising.0)) light.1,
)

pub goes_light : (procs : List Proc) (before pid : ℕ) (proc : Proc) (over : ℕ) → AreRising before procs → proc_of procs pid ≡ Some proc → proc.status ≡ Some over
    → AllByRecursion IsLight procs → AllByRecursion (GoesLight pid) procs
goes_light [] before pid proc over rising is ended light = tt
goes_light (first ∷ procs) before pid proc over rising is ended light =
    by_case (eqb_tells first.pid pid) (goes_light procs first.pid pid proc over rising.1)
  where
    by_case : (((first.pid == pid) ≡ true) × (first.pid ≡ pid)) ⊎ (((first.pid == pid) ≡ false) × (first.pid ≢ pid))
        → (proc_of procs pid ≡ Some proc → proc.status ≡ Some over → AllByRecursion IsLight procs → AllByRecursion (GoesLight pid) procs)
        → AllByRecursion (GoesLight pid) (first ∷ procs)
    by_case (inl same) rest =
        let one : first ≡ proc = some_same (proc_of (first ∷ procs) pid) first proc (ap (λ b. cond b (Some first) (proc_of procs pid)) same.0) is in (
          record {
            light = light.0;
            empty = λ it. empty_once first.status first.nodes over (ap (λ p. p.status) one ∙ ended) light.0.memory;
            closed = λ it. closed_once first.status first over (ap (λ p. p.status) one ∙ ended) light.0.descriptors light.0.awake;
          },
          none_above procs first.pid pid rising.1 (let e = same.1 in omega arith) light.1,
        )
    by_case (inr other) rest = (
      record { light = light.0; empty = λ same. absurd (other.1 same); closed = λ same. absurd (other.1 same) },
      rest (sym (ap (λ b. cond b (Some first) (proc_of procs pid)) other.0) ∙ is) ended light.1,
    )

-- A live process's space becomes another, and its Proc names that one's nodes.
module _ (old mid new : Heap) (kept : TableView) (holds : Holds old kept) (pid key : ℕ) (proc : Proc) (now : List (Option ℕ))
    (found : key_of kept.listed pid ≡ Some key) (there : object old.procs key ≡ Some proc) (runs : proc.status ≡ None)
    (turn : (others : Owners) → IsOwned old (with_space proc.nodes others) → IsOwned mid (with_space now others))
    (stays : (others : Owners) (other : List (Option ℕ)) → IsOwned old (with_space proc.nodes others) → Contains others.spaces other
    → (page : ℕ) → content_at mid other page ≡ content_at old other page)
    (between : mid ≡ record old { nodes = mid.nodes; pages = mid.pages; high = mid.high })
    (after : new ≡ record mid { procs = put mid.procs key (record proc { nodes = now }) }) where
  named : (p : Proc) × (object old.procs key ≡ Some p) × (p.pid ≡ pid) × (proc_of (processes old kept) pid ≡ Some p)
  named = key_of-proc old.procs kept.listed pid key holds.stored found

  same_proc : named.0 ≡ proc
  same_proc = some_same (object old.procs key) named.0 proc named.1 there

  has_pid : proc.pid ≡ pid
  has_pid = ap (λ p. p.pid) (sym same_proc) ∙ named.2

  pub listed_proc : proc_of (processes old kept) pid ≡ Some proc
  listed_proc = named.3 ∙ ap Some same_proc

  procs_are : new.procs ≡ slice_set old.procs key (Some (record proc { nodes = now }))
  procs_are = ap (λ (h : Heap). h.procs) after ∙ ap (λ procs. put procs key (record proc { nodes = now })) (ap (λ (h : Heap). h.procs) between)

  abbrev becomes_it : Proc → Option Proc
  becomes_it p = Some (with_nodes pid now p)

  follows : Follows becomes_it old.procs new.procs kept.listed
  follows = subst (λ procs. Follows becomes_it old.procs procs kept.listed) (sym procs_are)
      (follows_one becomes_it old.procs key pid proc (Some (record proc { nodes = now })) kept.listed 0 kept.last
      (λ other apart. ap Some (with_nodes_other pid now other apart)) there (ap Some (with_nodes_same pid now proc has_pid)) holds.stored holds.rising found)

  pub turned-procs : processes new kept ≡ map (with_nodes pid now) (processes old kept)
  turned-procs =
      ap (procs_at new.procs) (sym (all_kept (with_nodes pid now) old.procs kept.listed holds.stored))
      ∙ follows_procs becomes_it old.procs new.procs kept.listed holds.stored follows
      ∙ all_changed (with_nodes pid now) (processes old kept)

  rising : AreRising 0 (processes old kept)
  rising = rising_procs old.procs kept.listed 0 kept.last holds.stored holds.rising

  out : (others : Owners) → HasOut (processes old kept) pid proc.nodes others.spaces
  out others = has_out (processes old kept) 0 pid proc others.spaces rising listed_proc

  in_hand : (others : Owners) → IsOwned old (with_procs (processes old kept) others) → IsOwned old (with_space proc.nodes (record others { spaces = (out others).spaces }))
  in_hand others owned = IsOwned-space_to_front old (with_procs (processes old kept) others) proc.nodes (out others).spaces (out others).out owned

  owned_on : (others : Owners) → IsOwned old (with_procs (processes old kept) others) → IsOwned new (with_procs (processes new kept) others)
  owned_on others owned =
      subst (λ procs. IsOwned new (with_procs procs others)) (sym turned-procs)
      (IsOwned-same mid new (with_procs (map (with_nodes pid now) (processes old kept)) others)
      (ap (λ (h : Heap). h.nodes) after) (ap (λ (h : Heap). h.pages) after) (ap (λ (h : Heap). h.chunks) after)
      (IsOwned-space_from_front mid (with_procs (map (with_nodes pid now) (processes old kept)) others) now (out others).spaces ((out others).back now)
      (turn (record others { spaces = (out others).spaces }) (in_hand others owned))))

  others_stay : (others : Owners) (other : List (Option ℕ)) → IsOwned old (with_procs (processes old kept) others) → Contains (out others).spaces other
      → (page : ℕ) → content_at new other page ≡ content_at old other page
  others_stay others other owned its page =
      content_kept mid new other page (ap (λ (h : Heap). h.nodes) after) (ap (λ (h : Heap). h.pages) after)
      ∙ stays (record others { spaces = (out others).spaces }) other (in_hand others owned) its page

  all_stay : (others : Owners) (procs : List Proc) → IsOwned old (with_procs (processes old kept) others) → AllByRecursion (λ p. Contains (out others).spaces p.nodes) procs → MemoryStays old new procs
  all_stay others procs owned its =
      all_weaker (λ p. Contains (out others).spaces p.nodes) (λ p. (page : ℕ) → content_at new p.nodes page ≡ content_at old p.nodes page) procs
      (λ p here page. others_stay others p.nodes owned here page) its

  pub turned-memory : MemoryStays old new (filter (is_other pid) (processes old kept))
  turned-memory = all_stay holds.owned.0 (filter (is_other pid) (processes old kept)) holds.owned.1 (out holds.owned.0).others_in

  missed : (other : ℕ) → Misses other kept.listed → object new.procs other ≡ object old.procs other
  missed other misses =
      ap (λ procs. object procs other) procs_are
      ∙ object_missed old.procs key other (Some (record proc { nodes = now })) (λ same. key_of-misses kept.listed pid key found (subst (λ k. Misses k kept.listed) same misses))

  pub turned-moves : TableMoves old kept new kept
  turned-moves = record {
    holds = record {
      stored = subst (AreStored new.procs) (all_kept (with_nodes pid now) old.procs kept.listed holds.stored)
          (follows_stored becomes_it old.procs new.procs kept.listed
          (λ p q is. ap pid_in (sym (some_same (Some q) (with_nodes pid now p) q (sym is) refl)) ∙ with_nodes_pid pid now p) holds.stored follows);
      rising = holds.rising;
      light = subst (AllByRecursion IsLight) (sym turned-procs) (light_with (processes old kept) 0 pid proc now rising listed_proc runs holds.light);
      owned = (holds.owned.0, owned_on holds.owned.0 holds.owned.1);
    };
    owners = owned_on;
    others = λ others other owned its page. others_stay others other owned ((out others).rest_in other its) page;
    keys = subst (λ places. ChangesKeys old.procs new.procs (keys_of kept.listed) (keys_of places)) (all_kept (with_nodes pid now) old.procs kept.listed holds.stored)
        (follows_keys becomes_it old.procs new.procs kept.listed follows missed);
    kept = after ∙ ap (λ (h : Heap). record h { procs = put mid.procs key (record proc { nodes = now }) }) between
        ∙ ap (λ (procs : List (Option Proc)). record old { procs = procs; nodes = mid.nodes; pages = mid.pages; high = mid.high }) (sym (ap (λ (h : Heap). h.procs) after))
        ∙ ap (λ (nodes : List (Option Node)). record old { procs = new.procs; nodes = nodes; pages = mid.pages; high = mid.high }) (sym (ap (λ (h : Heap). h.nodes) after))
        ∙ ap (λ (pages : List (Option Page)). record old { procs = new.procs; nodes = new.nodes; pages = pages; high = mid.high }) (sym (ap (λ (h : Heap). h.pages) after))
        ∙ ap (λ (high : ℕ). record old { procs = new.procs; nodes = new.nodes; pages = new.pages; high = high }) (sym (ap (λ (h : Heap). h.high) after));
  }

  pub space_in_hand : IsOwnedWith old proc.nodes
  space_in_hand = (record holds.owned.0 { spaces = (out holds.owned.0).spaces }, in_hand holds.owned.0 holds.owned.1)
