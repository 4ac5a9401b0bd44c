-- Lists of the same elements, in whatever order.
use Rattle.std.specs.Prelude.{List, [], ◌∷◌}

-- neighbours have changed places, any number of times
pub data IsReordered {X : Type 0} : List X → List X → Type 0 where
  empty : IsReordered [] []
  more : (x : X) (xs ys : List X) → IsReordered xs ys → IsReordered (x ∷ xs) (x ∷ ys)
  swap : (x y : X) (xs : List X) → IsReordered (x ∷ y ∷ xs) (y ∷ x ∷ xs)
  trans : (xs ys zs : List X) → IsReordered xs ys → IsReordered ys zs → IsReordered xs zs
