-- Who owns which Leaves: where the numbers of one process change, all others own what they owned, and what they have open is the same.
use Rattle.std.proofs.Common.{◌≡◌, ◌≢◌, ◌⊎◌, ℕ, zero, suc, ◌+◌, ◌<◌, List, [], ◌∷◌, ◌++◌, map, length, get_or, replicate, count_by, Option, Some, None, is_some, IsSome, refl, sym, ap, ◌∙◌, inl, inr, subst, arith, Contains}
use Rattle.std.specs.List.{concat}
use Rattle.std.proofs.lemmas.List.Elements.{Contains-append_left, Contains-append_right, Contains-append_cases}
use Rattle.slab.proofs.SlabLemmas.{Contains-cons, Contains-cons_cases}
use Rattle.kheap_slabs.specs.Objects.{object, InUse}
use Rattle.kheap_slabs.specs.declared.objects.Descriptor.{Descriptor}
use Rattle.kheap_slabs.specs.declared.objects.Leaf.{Leaf}
use Rattle.kheap_slabs.specs.declared.objects.Proc.{Proc}
use Rattle.kheap_slabs.specs.Keys.{Apart, AreKeysOf, ChangesKeys, IsOnce, Splits}
use Rattle.kheap_slabs.specs.Leaves.{HoldLeaves, IsFilled, LeavesChange, OwnsLeaves, leaf_keys, numbers_by}
use Rattle.kheap_slabs.specs.Spaces.{keys_in}
use Rattle.kheap_laws.proofs.KeyLemmas.{AreKeysOf-changes, AreKeysOf-from_front, AreKeysOf-to_front, ChangesKeys-apart, Splits-from_front, contains_or_not}
use Rattle.kheap_laws.proofs.LeafLemmas.{numbers_by-stay}
use Rattle.kheap_laws.proofs.OnceLemmas.{IsOnce-left, IsOnce-right}
use Rattle.kheap_laws.proofs.OwnerLemmas.{Contains-concat}

abbrev pub keys_of_leaves : Proc → List ℕ
keys_of_leaves proc = keys_in proc.leaves

once_inside : (procs : List Proc) (one : Proc) → Contains procs one → IsOnce (leaf_keys procs) → IsOnce (keys_in one.leaves)
once_inside [] one there once = absurd (omega (arith, there.1))
once_inside (first ∷ procs) one there once = elim (Contains-cons_cases first one procs there) [
  | inl same ↦ subst (λ (p : Proc). IsOnce (keys_in p.leaves)) same (IsOnce-left (keys_in first.leaves) (leaf_keys procs) once)
  | inr behind ↦ once_inside procs one behind (IsOnce-right (keys_in first.leaves) (leaf_keys procs) once)
]

-- each of these processes owns its Leaves
pub HoldLeaves-owns : (leaves : List (Option Leaf)) (procs : List Proc) (one : Proc) → HoldLeaves leaves procs → Contains procs one → OwnsLeaves leaves one.leaves
HoldLeaves-owns leaves procs one hold there = record {
  used = λ key mine. hold.keys.used key (Contains-concat keys_of_leaves procs one key there mine);
  filled = λ key leaf mine is. hold.filled key leaf is;
  once = once_inside procs one there hold.keys.once;
}

module _ (old new : List (Option Leaf)) (was now : Proc) (whole rest : List Proc) (split : Splits whole was rest)
    (hold : HoldLeaves old whole) (change : LeavesChange old new was.leaves now.leaves) where
  front : AreKeysOf old (keys_in was.leaves ++ leaf_keys rest)
  front = AreKeysOf-to_front old keys_of_leaves whole was rest split hold.keys

  apart : Apart (keys_in was.leaves ++ keys_in now.leaves) (leaf_keys rest)
  apart = ChangesKeys-apart old new (keys_in was.leaves) (keys_in now.leaves) (leaf_keys rest) front change.keys

  -- another process has open what it had: the one law of what hangs on the heap
  pub LeavesChange-others : (other : Proc) → Contains rest other → (first : List (Option Descriptor)) → numbers_by new first other.leaves ≡ numbers_by old first other.leaves
  LeavesChange-others other there first =
      numbers_by-stay old new (keys_in was.leaves ++ keys_in now.leaves) first other.leaves change.keys.outside
      (λ key named mine. apart key named (Contains-concat keys_of_leaves rest other key there mine))

  -- all hold their Leaves again, wherever among them that one stands
  pub LeavesChange-hold : (after : List Proc) → Splits after now rest → HoldLeaves new after
  LeavesChange-hold after back = record {
    keys = AreKeysOf-from_front new keys_of_leaves after now rest back
        (AreKeysOf-changes old new (keys_in was.leaves) (keys_in now.leaves) (leaf_keys rest) front change.keys change.owns.used change.owns.once);
    filled = λ key leaf is. elim (contains_or_not (keys_in now.leaves) key) [
      | inl mine ↦ change.owns.filled key leaf mine is
      | inr other ↦ hold.filled key leaf (sym (change.keys.outside key (λ named. neither key other (rw is refl) named)) ∙ is)
    ];
  }
    where
      neither : (key : ℕ) → (Contains (keys_in now.leaves) key → ⊥) → InUse new key → Contains (keys_in was.leaves ++ keys_in now.leaves) key → ⊥
      neither key other used named = elim (Contains-append_cases (keys_in was.leaves) (keys_in now.leaves) key named) [
        | inl before ↦ other (change.keys.left key before used)
        | inr mine ↦ other mine
      ]

-- processes whose keys are the same hold the same
pub HoldLeaves-same : (leaves : List (Option Leaf)) (procs now : List Proc) → leaf_keys now ≡ leaf_keys procs → HoldLeaves leaves procs → HoldLeaves leaves now
HoldLeaves-same leaves procs now same hold = record { keys = subst (AreKeysOf leaves) (sym same) hold.keys; filled = hold.filled }
