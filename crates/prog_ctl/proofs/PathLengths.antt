-- No component of a path is longer than the path.
use Rattle.std.proofs.Common.{◌≡◌, ℕ, zero, suc, ◌≤◌, Bool, true, false, cond, ◌||◌, List, [], ◌∷◌, length, refl, ap, ◌∙◌, arith}
use Rattle.std.specs.List.{filter, list_any, onto_first, slice_split}
use Rattle.std.proofs.lemmas.Bool.{le-ltb}
use Rattle.kabi_types.specs.PathParts.{components, has_bytes, is_long, is_slash}

-- none of these parts is longer
abbrev AreWithin : ℕ → List (List ℕ) → Type 0
AreWithin most [] = Unit {0}
AreWithin most (part ∷ parts) = (length part ≤ most) × AreWithin most parts

one_more : (most : ℕ) (parts : List (List ℕ)) → AreWithin most parts → AreWithin (suc most) parts
one_more most [] within = tt
one_more most (part ∷ parts) within = (omega (arith, within.0), one_more most parts within.1)

onto : (most byte : ℕ) (parts : List (List ℕ)) → AreWithin most parts → AreWithin (suc most) (onto_first byte parts)
onto most byte [] within = (omega arith, tt)
onto most byte (part ∷ parts) within = (omega (arith, within.0), one_more most parts within.1)

cut : (most byte : ℕ) (slash : Bool) (parts : List (List ℕ)) → AreWithin most parts → AreWithin (suc most) (cond slash ([] ∷ parts) (onto_first byte parts))
cut most byte true parts within = (omega arith, one_more most parts within)
cut most byte false parts within = onto most byte parts within

split_within : (most : ℕ) (path : List ℕ) → length path ≤ most → AreWithin most (slice_split is_slash path)
split_within most [] le = (omega arith, tt)
split_within zero (byte ∷ path) le = absurd (omega (arith, le))
split_within (suc most) (byte ∷ path) le = cut most byte (is_slash byte) (slice_split is_slash path) (split_within most path (omega (arith, le)))

kept : (most : ℕ) (part : List ℕ) (some : Bool) (parts : List (List ℕ)) → length part ≤ most → AreWithin most parts → AreWithin most (cond some (part ∷ parts) parts)
kept most part true parts here within = (here, within)
kept most part false parts here within = within

filter_within : (most : ℕ) (parts : List (List ℕ)) → AreWithin most parts → AreWithin most (filter has_bytes parts)
filter_within most [] within = tt
filter_within most (part ∷ parts) within = kept most part (has_bytes part) (filter has_bytes parts) within.0 (filter_within most parts within.1)

none_among : (parts : List (List ℕ)) → AreWithin 27 parts → list_any is_long parts ≡ false
none_among [] within = refl
none_among (part ∷ parts) within = ap (λ (long : Bool). long || list_any is_long parts) (le-ltb 27 (length part) within.0) ∙ none_among parts within.1

-- so a path that is no longer than a name has no component that is longer than one
pub none_long : (path : List ℕ) → length path ≤ 27 → list_any is_long (components path) ≡ false
none_long path le = none_among (components path) (filter_within 27 (slice_split is_slash path) (split_within 27 path le))
