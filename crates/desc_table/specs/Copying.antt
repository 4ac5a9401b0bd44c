-- A Leaf is there once more, for a process that is being made.
use Rattle.std.specs.Prelude.{◌≡◌, ℕ, List, [], ◌∷◌, Option, None, Some}
use Rattle.kabi_types.specs.Counts.{with_count}
use Rattle.kabi_types.specs.declared.classes.Class.TheVariants as class
use Rattle.kheap_slabs.specs.Objects.{object, put}
use Rattle.kheap_slabs.specs.Purse.{Purse}
use Rattle.kheap_slabs.specs.declared.objects.Leaf.{Leaf}

-- none of a process's Leaves is there
abbrev pub no_leaves : List (Option ℕ)
no_leaves = None ∷ None ∷ None ∷ []

-- the Leaf of a key has a copy under another one, which was free; where there is no Leaf, nothing changes
abbrev pub CopiesLeaf : List (Option Leaf) → List (Option Leaf) → Option ℕ → Option ℕ → Type 0
CopiesLeaf old new None copy = (new ≡ old) × (copy ≡ None)
CopiesLeaf old new (Some key) copy =
    (at : ℕ) × (leaf : Leaf) × (copy ≡ Some at) × (object old key ≡ Some leaf) × (object old at ≡ None) × (new ≡ put old at leaf) × (object new at ≡ Some leaf)

-- a purse that has paid for Leaves alone, so many that this is left
abbrev pub spends_leaves : Purse → Purse → Purse
spends_leaves before after = record before { left = with_count before.left class.Leaf after.left.leaf }
