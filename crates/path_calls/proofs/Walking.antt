-- A walk over the processes of a table puts the nodes that they hold into a set.
use Rattle.std.proofs.Common.{◌≡◌, ℕ, ◌+◌, ◌<◌, ◌&&◌, ◌||◌, Bool, true, false, List, [], ◌∷◌, length, get_or, drop, Option, Some, is_some, nat_lt, refl, ap, sym, ◌∙◌, subst}
use Rattle.std.specs.List.{cons_option}
use Rattle.std.proofs.lemmas.List.{at_drop_more, drop_more}
use Rattle.kheap_slabs.specs.Objects.{InUse, object}
use Rattle.kheap_slabs.specs.declared.objects.Proc.{Proc}
use Rattle.kheap_slabs.specs.Heap.{Heap}
use Rattle.kheap_slabs.specs.Leaves.{OwnsLeaves}
use Rattle.proc_numbers.specs.Having.{AreListed}
use Rattle.proc_numbers.proofs.Listing.{key_listed}
use Rattle.proc_numbers.proofs.PlacedLeaves.{owns_placed}
use Rattle.proc_table.specs.Table.{AreStored, TableView, procs_at}
use Rattle.proc_table.specs.declared.places.Place.{Place}
use Rattle.proc_table.proofs.PlaceLemmas.{stored_is}
use Rattle.path_calls.specs.Nodes.{Adds, has_node, holds_node, most_nodes, some_holds}
use Rattle.path_calls.specs.declared.node_set.NodeSet.{NodeSet}
use Rattle.path_calls.proofs.Adding.{both_more}

-- a set may have the node, and it passes a test
abbrev may_and : ℕ → Bool → Bool
may_and number test = nat_lt number most_nodes && test

-- The places that are left have their processes; what these hold and what is in the set is all that somebody holds.
pub record AreAdded (set : NodeSet) (h : Heap) (objects : List (Option Proc)) (all left : List Place) : Type 0 where
  pub stored : AreStored objects left
  pub same : (number : ℕ) → (has_node set number || may_and number (some_holds h (procs_at objects left) number)) ≡ may_and number (some_holds h (procs_at objects all) number)

abbrev pub no_place : Place
no_place = record { pid = 0; key = 0 }

-- nothing is in it
pub none_added : (set : NodeSet) (h : Heap) (objects : List (Option Proc)) (all : List Place) → ((number : ℕ) → has_node set number ≡ false) → AreStored objects all
    → AreAdded set h objects all all
none_added set h objects all none stored =
    record { stored = stored; same = λ number. ap (λ b. b || may_and number (some_holds h (procs_at objects all) number)) (none number) }

-- nobody is left
pub all_added : (set : NodeSet) (h : Heap) (objects : List (Option Proc)) (all left : List Place) → AreAdded set h objects all left → left ≡ []
    → (number : ℕ) → has_node set number ≡ may_and number (some_holds h (procs_at objects all) number)
all_added set h objects all left added none number =
    sym (either (has_node set number) (nat_lt number most_nodes))
    ∙ ap (λ places. has_node set number || may_and number (some_holds h (procs_at objects places) number)) (sym none) ∙ added.same number
  where
    either : (b may : Bool) → (b || (may && false)) ≡ b
    either true may = refl
    either false true = refl
    either false false = refl

-- who is in the heap owns its Leaves
pub owns_key : (h : Heap) (kept : TableView) (key : ℕ) (proc : Proc) → AreListed h kept → object h.procs key ≡ Some proc → OwnsLeaves h.leaves proc.leaves
owns_key h kept key proc listed is =
    let at = key_listed kept.listed 0 kept.last key listed.rising (listed.all.listed key (ap is_some is)) in
    owns_placed h kept at.0 key proc listed at.1 is

module _ (h : Heap) (objects : List (Option Proc)) (all places : List Place) (at : ℕ) (within : at < length places) where
  abbrev rest : List Place
  rest = drop (at + 1) places

  abbrev pub here : Place
  here = get_or places at no_place

  -- its process is there
  pub is_there : (set : NodeSet) → AreAdded set h objects all (drop at places) → InUse objects here.key
  is_there set added =
      let both : AreStored objects (here ∷ rest) = subst (AreStored objects) (drop_more places at no_place within) added.stored in
      let it = stored_is objects here both.0 in
      let used : InUse objects here.key = rw it.is refl in used

  -- so it goes on with the rest
  pub one_added : (set now : NodeSet) → AreAdded set h objects all (drop at places) → (proc : Proc) → object objects here.key ≡ Some proc
      → Adds set now (λ number. holds_node h number proc) → AreAdded now h objects all rest
  one_added set now added proc is adds = record { stored = stored_on; same = same }
    where
      stored_on : AreStored objects rest
      stored_on = let both : AreStored objects (here ∷ rest) = subst (AreStored objects) (drop_more places at no_place within) added.stored in both.1

      first : procs_at objects (drop at places) ≡ proc ∷ procs_at objects rest
      first = at_drop_more (procs_at objects) places at no_place within ∙ ap (λ o. cons_option o (procs_at objects rest)) is

      same : (number : ℕ) → (has_node now number || may_and number (some_holds h (procs_at objects rest) number)) ≡ may_and number (some_holds h (procs_at objects all) number)
      same number =
          ap (λ b. b || may_and number (some_holds h (procs_at objects rest) number)) (adds number)
          ∙ both_more (has_node set number) (holds_node h number proc) (some_holds h (procs_at objects rest) number) (nat_lt number most_nodes)
          ∙ ap (λ procs. has_node set number || may_and number (some_holds h procs number)) (sym first)
          ∙ added.same number
