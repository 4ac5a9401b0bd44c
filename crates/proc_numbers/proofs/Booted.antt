-- The first process alone: it is in its table, and nothing is open.
use Rattle.std.proofs.Common.{◌≡◌, ◌⊎◌, ℕ, zero, suc, ◌+◌, ◌/◌, ◌<◌, ◌==◌, ◌++◌, cond, List, [], ◌∷◌, map, length, replicate, count_by, Option, None, Some, IsSome, is_some, refl, ap, sym, ◌∙◌, subst, arith, inl, inr}
use Rattle.std.specs.List.{Contains, cons_option}
use Rattle.kabi_types.specs.Class.{size}
use Rattle.kabi_types.specs.declared.classes.Class.TheVariants as class
use Rattle.kheap_laws.proofs.KeyLemmas.{contains_or_not}
use Rattle.kheap_laws.proofs.OnceLemmas.{Contains-single}
use Rattle.kheap_slabs.specs.Objects.{InUse, object}
use Rattle.kheap_slabs.specs.declared.objects.Proc.{Proc}
use Rattle.kheap_slabs.specs.Heap.{Heap, empty_heap}
use Rattle.kheap_slabs.specs.Keys.{IsOnce}
use Rattle.kheap_slabs.specs.Leaves.{leaf_keys}
use Rattle.kheap_slabs.specs.Owners.{IsOwned, Owners, OwnsItsObjects, pipe_queues, sock_queues, spaces_of}
use Rattle.open_laws.specs.Owned.{HasItsOwners, all_namings, desc_count, leaf_namings_in, leaf_namings_of, namings_in, namings_of}
use Rattle.open_laws.proofs.GoingLemmas.{boot_owners, held_open_on}
use Rattle.proc_table.specs.Moves.{TableMoves}
use Rattle.proc_table.specs.Procs.{first_proc, no_nodes}
use Rattle.proc_table.specs.Table.{AreStored, TableView, key_of, keys_of, no_table, processes, procs_at, with_procs}
use Rattle.proc_table.specs.declared.places.Place.{Place}
use Rattle.proc_table.proofs.PlaceLemmas.{eqb_same, some_same, stored_is}
use Rattle.proc_numbers.specs.Having.{AreListed}
use Rattle.proc_numbers.proofs.Sums.{some_adds}

-- ---- one object alone

no_space : (objects : List (Option Proc)) → ((key : ℕ) → InUse objects key → ⊥) → spaces_of objects ≡ []
no_space [] none = refl
no_space (None ∷ objects) none = no_space objects (λ key used. none (suc key) used)
no_space (Some proc ∷ objects) none = absurd (none zero refl)

one_space : (objects : List (Option Proc)) (key : ℕ) (proc : Proc) → object objects key ≡ Some proc → ((other : ℕ) → InUse objects other → other ≡ key) → spaces_of objects ≡ proc.nodes ∷ []
one_space [] zero proc is only = cc
one_space [] (suc key) proc is only = cc
one_space (None ∷ objects) zero proc is only = cc
one_space (Some first ∷ objects) zero proc is only =
    let same : first ≡ proc = cc in
    ap (λ (rest : List (List (Option ℕ))). first.nodes ∷ rest) (no_space objects (λ other used. (let e : suc other ≡ 0 = only (suc other) used in omega (arith, e))))
    ∙ ap (λ (p : Proc). p.nodes ∷ []) same
one_space (None ∷ objects) (suc key) proc is only = one_space objects key proc is (λ other used. (let e : suc other ≡ suc key = only (suc other) used in omega (arith, e)))
one_space (Some first ∷ objects) (suc key) proc is only = absurd (let e : 0 ≡ suc key = only zero refl in omega (arith, e))

-- ---- the table

pub record Alone (objects : List (Option Proc)) (places : List Place) : Type 0 where
  pub place : Place
  pub listed : places ≡ place ∷ []
  pub there : object objects place.key ≡ Some first_proc
  pub pid : place.pid ≡ 1

alone : (objects : List (Option Proc)) (places : List Place) → AreStored objects places → procs_at objects places ≡ first_proc ∷ [] → Alone objects places
alone objects [] stored is = absurd (let e : [] ≡ first_proc ∷ [] = is in cc)
alone objects (place ∷ places) stored is =
    let at = stored_is objects place stored.0 in
    let whole : at.proc ∷ procs_at objects places ≡ first_proc ∷ [] = sym (ap (λ o. cons_option o (procs_at objects places)) at.is) ∙ is in
    let same : at.proc ≡ first_proc = cc in
    let rest : procs_at objects places ≡ [] = cc in
    record {
      place = place;
      listed = ap (λ (more : List Place). place ∷ more) (none_more places stored.1 rest);
      there = at.is ∙ ap (λ (p : Proc). Some p) same;
      pid = sym at.pid ∙ ap (λ (p : Proc). p.pid) same;
    }
  where
    none_more : (places : List Place) → AreStored objects places → procs_at objects places ≡ [] → places ≡ []
    none_more [] stored is = refl
    none_more (other ∷ places) stored is =
        let at = stored_is objects other stored.0 in
        absurd (let more : at.proc ∷ procs_at objects places ≡ [] = sym (ap (λ o. cons_option o (procs_at objects places)) at.is) ∙ is in cc)

no_object : {X : Type 0} (n key : ℕ) → object {X = X} (replicate n None) key ≡ None
no_object zero key = refl
no_object (suc n) zero = refl
no_object (suc n) (suc key) = no_object n key

nothing_used : {X : Type 0} (o : Option X) → o ≡ None → IsSome o → ⊥
nothing_used None none some = cc
nothing_used (Some x) none some = cc

none_named : (key : ℕ) → namings_in key (Some first_proc) ≡ 0
none_named key = refl

module _ (bytes : ℕ) (old new : Heap) (kept : TableView) (empty : old ≡ empty_heap bytes) (moves : (others : Owners) → IsOwned old others → TableMoves old no_table new kept)
    (first : processes new kept ≡ first_proc ∷ []) where
  before : HasItsOwners old []
  before = subst (λ (h : Heap). HasItsOwners h []) (sym empty) (boot_owners bytes)

  moved : TableMoves old no_table new kept
  moved = moves before.objects.0 before.objects.2

  its : Alone new.procs kept.listed
  its = alone new.procs kept.listed moved.holds.stored first

  outside : (other : ℕ) → (Contains (keys_of kept.listed) other → ⊥) → object new.procs other ≡ None
  outside other apart = moved.keys.outside other apart ∙ ap (λ (h : Heap). object h.procs other) empty ∙ no_object (bytes / size class.Proc) other

  is_it : (other : ℕ) → Contains (keys_of kept.listed) other → other ≡ its.place.key
  is_it other among = sym (Contains-single its.place.key other (subst (λ (l : List Place). Contains (keys_of l) other) its.listed among))

  listed_if : (other : ℕ) → InUse new.procs other → Contains (keys_of kept.listed) other
  listed_if other used = by_key (contains_or_not (keys_of kept.listed) other)
    where
      by_key : Contains (keys_of kept.listed) other ⊎ (Contains (keys_of kept.listed) other → ⊥) → Contains (keys_of kept.listed) other
      by_key (inl among) = among
      by_key (inr apart) = absurd (nothing_used (object new.procs other) (outside other apart) used)

  no_leaf : (key : ℕ) → object new.leaves key ≡ None
  no_leaf key = ap (λ (h : Heap). object h.leaves key) moved.kept ∙ ap (λ (h : Heap). object h.leaves key) empty ∙ no_object (bytes / size class.Leaf) key

  none_inside : (key : ℕ) → Contains (leaf_keys (first_proc ∷ [])) key → ⊥
  none_inside key there = omega (arith, there.1)

  pub boot_listed : AreListed new kept
  boot_listed = record {
    stored = moved.holds.stored;
    rising = moved.holds.rising;
    all = record {
      used = λ key among. ap is_some (ap (object new.procs) (is_it key among) ∙ its.there);
      listed = listed_if;
      once = λ i j below within same. absurd (let long : length (keys_of kept.listed) ≡ 1 = ap (λ (l : List Place). length (keys_of l)) its.listed in omega (arith, below, within, long));
    };
    leaves = record {
      keys = record {
        used = λ key among. absurd (none_inside key (subst (λ (p : List Proc). Contains (leaf_keys p) key) first among));
        listed = λ key used. absurd (nothing_used (object new.leaves key) (no_leaf key) used);
        once = subst (λ (p : List Proc). IsOnce (leaf_keys p)) (sym first) (λ i j below within same. (omega (arith, within)));
      };
      filled = λ key leaf is. absurd (nothing_used (object new.leaves key) (no_leaf key) (ap is_some is));
    };
  }

  pub boot_there : IsSome (key_of kept.listed 1)
  boot_there = ap is_some (ap (λ (l : List Place). key_of l 1) its.listed ∙ ap (λ b. cond b (Some its.place.key) None) (eqb_same its.place.pid 1 its.pid))

  owns_now : OwnsItsObjects new
  owns_now =
      let base = before.objects.0 in
      let are = before.objects.1 in
      let none : base.spaces ≡ [] = are.spaces ∙ no_space old.procs (λ key used. nothing_used (object old.procs key) (ap (λ (h : Heap). object h.procs key) empty ∙ no_object (bytes / size class.Proc) key) used) in (
        with_procs (processes new kept) base,
        record {
          spaces =
              ap (λ (p : List Proc). map (λ (proc : Proc). proc.nodes) p ++ base.spaces) first
              ∙ ap (λ (s : List (List (Option ℕ))). no_nodes ∷ s) none
              ∙ sym (one_space new.procs its.place.key first_proc its.there (λ other used. is_it other (listed_if other used)));
          queues = are.queues ∙ ap (λ (h : Heap). pipe_queues h.pipes ++ sock_queues h.socks) (sym moved.kept);
        },
        moved.owners base before.objects.2,
      )

  procs_none : (key : ℕ) → namings_of new.procs key ≡ 0
  procs_none key = by_sum (namings_of new.procs key) refl
    where
      by_sum : (n : ℕ) → namings_of new.procs key ≡ n → n ≡ 0
      by_sum zero is = refl
      by_sum (suc n) is = absurd (
          let adds = some_adds (namings_in key) new.procs refl (omega (arith, is)) in
          let at : adds.key ≡ its.place.key = is_it adds.key (listed_if adds.key (ap is_some adds.is)) in
          let same : adds.value ≡ first_proc = some_same (object new.procs its.place.key) adds.value first_proc (ap (object new.procs) (sym at) ∙ adds.is) its.there in
          let some : 0 < namings_in key (Some first_proc) = subst (λ (p : Proc). 0 < namings_in key (Some p)) same adds.adds in
          let none = none_named key in omega (arith, some, none))

  leaves_none : (key : ℕ) → leaf_namings_of new.leaves key ≡ 0
  leaves_none key = by_sum (leaf_namings_of new.leaves key) refl
    where
      by_sum : (n : ℕ) → leaf_namings_of new.leaves key ≡ n → n ≡ 0
      by_sum zero is = refl
      by_sum (suc n) is = absurd (
          let adds = some_adds (leaf_namings_in key) new.leaves refl (omega (arith, is)) in
          nothing_used (object new.leaves adds.key) (no_leaf adds.key) (ap is_some adds.is))

  namings_none : (key : ℕ) → all_namings new key ≡ 0
  namings_none key = let procs = procs_none key in let leaves = leaves_none key in omega (arith, procs, leaves)

  pub boot_owned : HasItsOwners new []
  boot_owned = record {
    objects = owns_now;
    named = record {
      counts = λ key. ap desc_count (no_desc key) ∙ sym (let none = namings_none key in let zero : count_by (λ other. other == key) [] ≡ 0 = refl in let e : all_namings new key + count_by (λ other. other == key) [] ≡ 0 = omega (arith, none, zero) in e);
      named = λ key used. absurd (nothing_used (object new.descs key) (no_desc key) used);
    };
    held = held_open_on old new (ap (λ (h : Heap). h.descs) moved.kept) (ap (λ (h : Heap). h.pipes) moved.kept) (ap (λ (h : Heap). h.socks) moved.kept) (ap (λ (h : Heap). h.chunks) moved.kept) before.held;
  }
    where
      no_desc : (key : ℕ) → object new.descs key ≡ None
      no_desc key = ap (λ (h : Heap). object h.descs key) moved.kept ∙ ap (λ (h : Heap). object h.descs key) empty ∙ no_object (bytes / size class.Desc) key
