-- Keys that compare as equal are the same.
use Rattle.std.specs.Prelude.{◌≡◌, ℕ, Bool, true, false, ◌&&◌, ◌==◌, List, [], ◌∷◌, refl}
use Rattle.std.proofs.Common.{eqb-true}
use Rattle.std.specs.Cmp.Lexicographic.{pointwise}
use Rattle.lru_index.specs.declared.keys.NameKey.{NameKey}

both : (a b : Bool) → a && b ≡ true → (a ≡ true) × (b ≡ true)
both true b h = (refl, h)
both false b h = cc

same_bytes : (xs ys : List ℕ) → pointwise (λ x y. x == y) xs ys ≡ true → xs ≡ ys
same_bytes [] [] h = refl
same_bytes [] (y ∷ ys) h = cc
same_bytes (x ∷ xs) [] h = cc
same_bytes (x ∷ xs) (y ∷ ys) h =
    let parts = both (x == y) (pointwise (λ x y. x == y) xs ys) h in
    let head : x ≡ y = eqb-true x y parts.0 in
    let tail : xs ≡ ys = same_bytes xs ys parts.1 in
    λ i. head i ∷ tail i

-- Names with the same directory, length and bytes are the same name.
pub same_name : (a b : NameKey) → (a.dir == b.dir) && ((a.len == b.len) && pointwise (λ x y. x == y) a.name b.name) ≡ true → a ≡ b
same_name a b h =
    let parts = both (a.dir == b.dir) _ h in
    let rest = both (a.len == b.len) _ parts.1 in
    let dir : a.dir ≡ b.dir = eqb-true a.dir b.dir parts.0 in
    let len : a.len ≡ b.len = eqb-true a.len b.len rest.0 in
    let name : a.name ≡ b.name = same_bytes a.name b.name rest.1 in
    λ i. record { dir = dir i; len = len i; name = name i }
