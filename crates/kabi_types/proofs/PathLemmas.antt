-- The last item of a list, seen through what its items stand for.
use Rattle.std.proofs.Common.{◌≡◌, List, [], ◌∷◌, map, Option, Some, refl}
use Rattle.std.specs.List.{last_or}
use Rattle.std.specs.Option.{option_map}

pub last_or-map : {A B : Type 0} (v : A → B) (o : Option A) (xs : List A) → last_or (option_map v o) (map v xs) ≡ option_map v (last_or o xs)
last_or-map v o [] = refl
last_or-map v o (x ∷ xs) = last_or-map v (Some x) xs
