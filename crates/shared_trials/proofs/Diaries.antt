-- What the diary of the tests stands for after one turn more.
use Rattle.std.proofs.Common.{◌≡◌, ℕ, List, [], ◌∷◌, ◌++◌, map, refl, ap, sym, ◌∙◌, append-nil}
use Rattle.turn_words.specs.declared.items.Item.{Item}
use Rattle.turn_words.specs.declared.items.Item.TheVariants.{Live, Quiet}
use Rattle.turn_words.specs.Items.{heard}
use Rattle.turn_words.proofs.Notes.{heard_more}

pub nothing_told : (seen : List Item) (told : List ℕ) → heard seen ≡ map Live told → heard (seen ++ Quiet ∷ []) ≡ map Live told
nothing_told seen told stands = heard_more seen Quiet ∙ append-nil (heard seen) ∙ stands

map_more : (told : List ℕ) (n : ℕ) → map Live told ++ Live n ∷ [] ≡ map Live (told ++ n ∷ [])
map_more [] n = refl
map_more (x ∷ told) n = ap (λ l. Live x ∷ l) (map_more told n)

pub one_told : (seen : List Item) (told after : List ℕ) (n : ℕ) → heard seen ≡ map Live told → after ≡ told ++ n ∷ [] → heard (seen ++ Live n ∷ []) ≡ map Live after
one_told seen told after n stands is = heard_more seen (Live n) ∙ (ap (λ l. l ++ Live n ∷ []) stands ∙ map_more told n ∙ ap (λ l. map Live l) (sym is))
