-- The weights so far, in a walk over the table.
use Rattle.std.proofs.Common.{◌≡◌, ℕ, ◌+◌, ◌≤◌, Bool, true, false, cond, drop, List, [], ◌∷◌, ◌++◌, length, Some, is_some, refl, ap, sym, ◌∙◌, subst, arith, append-nil, append_assoc}
use Rattle.std.specs.List.{All, AllByRecursion, Contains, cons_option}
use Rattle.std.proofs.lemmas.List.Elements.{All-nil}
use Rattle.kabi_types.specs.declared.classes.Weight.{Weight}
use Rattle.kheap_slabs.specs.Objects.{object}
use Rattle.kheap_slabs.specs.declared.objects.Proc.{Proc}
use Rattle.kheap_slabs.specs.Heap.{Heap}
use Rattle.proc_table.proofs.AmongLemmas.{Contains-cons}
use Rattle.kheap_slabs.specs.Leaves.{HoldLeaves, OwnsLeaves}
use Rattle.kheap_laws.proofs.LeafOwners.{HoldLeaves-owns}
use Rattle.proc_table.specs.Table.{AreStored, Holds, TableView, processes, procs_at}
use Rattle.proc_table.specs.declared.places.Place.{Place}
use Rattle.proc_table.proofs.AccountLemmas.{all_both}
use Rattle.proc_table.proofs.LeaveLemmas.{StandsAt}
use Rattle.proc_table.proofs.OwnLemmas.{all_weaker}
use Rattle.proc_table.proofs.PlaceLemmas.{IsAt, stored_is}
use Rattle.victim_core.specs.Victims.{IsInRange}
use Rattle.call_run.specs.Weights.{weight_in, weights_in}
use Rattle.call_run.proofs.Owning.{Owns, all_own}

-- a process owns its nodes, in four groups
pub record IsWhole (h : Heap) (proc : Proc) : Type 0 where
  pub owns : Owns h.nodes proc
  pub groups : length proc.nodes ≡ 4
  pub leaves : OwnsLeaves h.leaves proc.leaves

-- The processes before this place are weighed, those from there on are to be.
pub record AreWeighed (h : Heap) (all : List Weight) (places : List Place) (at : ℕ) (weights : List Weight) : Type 0 where
  pub stored : AreStored h.procs (drop at places)
  pub whole : AllByRecursion (IsWhole h) (procs_at h.procs (drop at places))
  pub so_far : weights ++ weights_in h (procs_at h.procs (drop at places)) ≡ all
  pub few : length weights ≤ at
  pub in_range : All IsInRange weights

-- each owns its Leaves
own_leaves : (h : Heap) (procs among : List Proc) → HoldLeaves h.leaves procs → ((p : Proc) → Contains among p → Contains procs p) → AllByRecursion (λ p. OwnsLeaves h.leaves p.leaves) among
own_leaves h procs [] hold inside = tt
own_leaves h procs (first ∷ among) hold inside =
    (HoldLeaves-owns h.leaves procs first hold (inside first (0, omega arith, refl)), own_leaves h procs among hold (λ p there. inside p (Contains-cons first p among there)))

-- at the beginning all are to be
pub none_yet : (h : Heap) (kept : TableView) → Holds h kept → AllByRecursion (λ proc. length proc.nodes ≡ 4) (processes h kept) → HoldLeaves h.leaves (processes h kept) → AreWeighed h (weights_in h (processes h kept)) kept.listed 0 []
none_yet h kept holds four hold = record {
  stored = holds.stored;
  whole = all_weaker (λ (p : Proc). (Owns h.nodes p × (length p.nodes ≡ 4)) × OwnsLeaves h.leaves p.leaves) (IsWhole h) (processes h kept)
      (λ p both. record { owns = both.0.0; groups = both.0.1; leaves = both.1 })
      (all_both (λ p. Owns h.nodes p × (length p.nodes ≡ 4)) (λ p. OwnsLeaves h.leaves p.leaves) (processes h kept)
      (all_both (Owns h.nodes) (λ p. length p.nodes ≡ 4) (processes h kept) (all_own h kept holds) four)
      (own_leaves h (processes h kept) (processes h kept) hold (λ p there. there)));
  so_far = refl;
  few = omega arith;
  in_range = All-nil IsInRange;
}

-- the place has a process in the heap
pub here : (h : Heap) (all : List Weight) (places : List Place) (at : ℕ) (weights : List Weight) → AreWeighed h all places at weights → (stands : StandsAt places at)
    → IsAt h.procs stands.place
here h all places at weights weighed stands = stored_is h.procs stands.place (let s = subst (λ ps. AreStored h.procs ps) stands.is weighed.stored in s.0)

module _ (h : Heap) (all : List Weight) (places : List Place) (at : ℕ) (weights : List Weight) (weighed : AreWeighed h all places at weights) (stands : StandsAt places at)
    (proc : Proc) (is : object h.procs stands.place.key ≡ Some proc) where
  procs_here : procs_at h.procs (drop at places) ≡ proc ∷ procs_at h.procs stands.rest
  procs_here = ap (procs_at h.procs) stands.is ∙ ap (λ o. cons_option o (procs_at h.procs stands.rest)) is

  pub is_whole : IsWhole h proc
  is_whole = let both = subst (λ ps. AllByRecursion (IsWhole h) ps) procs_here weighed.whole in both.0

  joined : (b : Bool) (w : Weight) (ws : List Weight) → (weights ++ cond b [] (w ∷ [])) ++ ws ≡ weights ++ cond b ws (w ∷ ws)
  joined true w ws = ap (λ front. front ++ ws) (append-nil weights)
  joined false w ws = append_assoc weights (w ∷ []) ws

  pub next : (now : List Weight) → now ≡ weights ++ cond (is_some proc.status) [] (weight_in h proc ∷ []) → length now ≤ at + 1 → All IsInRange now → AreWeighed h all places (at + 1) now
  next now same few in_range = record {
    stored = let s = subst (λ ps. AreStored h.procs ps) stands.is weighed.stored in subst (λ ps. AreStored h.procs ps) (sym stands.next) s.1;
    whole = let both = subst (λ ps. AllByRecursion (IsWhole h) ps) procs_here weighed.whole in
        subst (λ ps. AllByRecursion (IsWhole h) (procs_at h.procs ps)) (sym stands.next) both.1;
    so_far = ap (λ ps. now ++ weights_in h (procs_at h.procs ps)) stands.next
        ∙ ap (λ ws. ws ++ weights_in h (procs_at h.procs stands.rest)) same
        ∙ joined (is_some proc.status) (weight_in h proc) (weights_in h (procs_at h.procs stands.rest))
        ∙ sym (ap (λ ps. weights ++ weights_in h ps) procs_here)
        ∙ weighed.so_far;
    few = few;
    in_range = in_range;
  }
