-- What is found among things whose places rise, and that a search finds just that.
use Rattle.std.proofs.Common.{◌≡◌, ◌≢◌, ℕ, zero, suc, ◌+◌, ◌<◌, ◌≤◌, ◌==◌, true, List, [], ◌∷◌, length, get_or, None, Some, Result, Ok, Err, refl, ◌∙◌, subst, inl, inr, arith}
use Rattle.std.specs.List.Sorted.{IsBinarySearchResult, IsSearchInRange}
use Rattle.std.specs.declared.cmp.Ordering.TheVariants.{Less, Equal, Greater}
use Rattle.std.specs.Ordering.{nat_cmp, ordering_index, MatchOrdering}
use Rattle.std.specs.declared.cmp.Ordering.{Ordering}
use Rattle.std.specs.Cmp.{ranks}
use Rattle.std.specs.Result.{result_ok}
use Rattle.std.proofs.lemmas.Bool.{cases_lt, cond-false, cond-true, ne_eqb}
use Rattle.std.proofs.lemmas.Bool.Decides.{Decides-eqb, nat_tests}
use Rattle.kept_places.specs.declared.search.Kept.{Kept}
use Rattle.kept_places.specs.Rising.{AreRising, IsFoundAt, found}

same_eqb : (a b : ℕ) → a ≡ b → (a == b) ≡ true
same_eqb a b h = (Decides-eqb a b).1 h

higher : (a b place : ℕ) → a ≤ b → ordering_index (nat_cmp a place) ≤ ordering_index (nat_cmp b place)
higher a b place le = grind (arith, nat_tests)

ranked : (a place : ℕ) (o : Ordering) → nat_cmp a place ≡ o → MatchOrdering o (a < place) (a ≡ place) (place < a)
ranked a place o h = subst (λ r. MatchOrdering r (a < place) (a ≡ place) (place < a)) h (ranks a place)

module _ {X : Type 0} where
  -- what is found at the first place, and behind it
  pub found_here : (kept : Kept X) (rest : List (Kept X)) (place : ℕ) → kept.place ≡ place → found (kept ∷ rest) place ≡ Some kept.what
  found_here kept rest place h = cond-true (kept.place == place) _ _ (same_eqb kept.place place h)

  pub found_later : (kept : Kept X) (rest : List (Kept X)) (place : ℕ) → kept.place ≢ place → found (kept ∷ rest) place ≡ found rest place
  found_later kept rest place h = cond-false (kept.place == place) _ _ (ne_eqb kept.place place h)

  -- nothing stands below the first place, and none from the number of places on
  pub found_below : (from made : ℕ) (there : List (Kept X)) (place : ℕ) → AreRising from made there → place < from → found there place ≡ None
  found_below from made [] place rising lt = refl
  found_below from made (kept ∷ rest) place rising lt =
      let first : from ≤ kept.place = rising.0 in
      found_later kept rest place (λ same. omega arith) ∙ found_below (kept.place + 1) made rest place rising.2 (omega arith)

  pub found_past : (from made : ℕ) (there : List (Kept X)) (place : ℕ) → AreRising from made there → made ≤ place → found there place ≡ None
  found_past from made [] place rising le = refl
  found_past from made (kept ∷ rest) place rising le =
      let last : kept.place < made = rising.1 in
      found_later kept rest place (λ same. omega arith) ∙ found_past (kept.place + 1) made rest place rising.2 le

  -- a thing's place is one of those
  pub place_within : (from made : ℕ) (there : List (Kept X)) (index : ℕ) (none : Kept X) → AreRising from made there → index < length there
      → (from ≤ (get_or there index none).place) × ((get_or there index none).place < made)
  place_within from made [] index none rising lt = absurd (omega arith)
  place_within from made (kept ∷ rest) zero none rising lt = (rising.0, rising.1)
  place_within from made (kept ∷ rest) (suc index) none rising lt =
      let first : from ≤ kept.place = rising.0 in
      let later = place_within (kept.place + 1) made rest index none rising.2 (omega arith) in (omega (arith, later.0), later.1)

  places_rise : (from made : ℕ) (there : List (Kept X)) (i j : ℕ) (none : Kept X) → AreRising from made there → i ≤ j → j < length there
      → (get_or there i none).place ≤ (get_or there j none).place
  places_rise from made [] i j none rising le lt = absurd (omega arith)
  places_rise from made (kept ∷ rest) zero zero none rising le lt = omega arith
  places_rise from made (kept ∷ rest) zero (suc j) none rising le lt =
      let later = place_within (kept.place + 1) made rest j none rising.2 (omega arith) in omega (arith, later.0)
  places_rise from made (kept ∷ rest) (suc i) zero none rising le lt = absurd (omega arith)
  places_rise from made (kept ∷ rest) (suc i) (suc j) none rising le lt = places_rise (kept.place + 1) made rest i j none rising.2 (omega arith) (omega arith)

  -- a thing is found at its place
  pub found_at : (from made : ℕ) (there : List (Kept X)) (index : ℕ) (none : Kept X) → AreRising from made there → index < length there
      → found there (get_or there index none).place ≡ Some (get_or there index none).what
  found_at from made [] index none rising lt = absurd (omega arith)
  found_at from made (kept ∷ rest) zero none rising lt = found_here kept rest kept.place refl
  found_at from made (kept ∷ rest) (suc index) none rising lt =
      let later = place_within (kept.place + 1) made rest index none rising.2 (omega arith) in
      found_later kept rest (get_or rest index none).place (λ same. omega (arith, later.0))
      ∙ found_at (kept.place + 1) made rest index none rising.2 (omega arith)

  -- where no thing has the place nothing is found there
  nowhere : (there : List (Kept X)) (place : ℕ) → ((index : ℕ) (none : Kept X) → index < length there → (get_or there index none).place ≢ place) → found there place ≡ None
  nowhere [] place apart = refl
  nowhere (kept ∷ rest) place apart =
      found_later kept rest place (apart 0 kept (omega arith)) ∙ nowhere rest place (λ index none lt. apart (suc index) none (omega arith))

  -- what a search by place answers is where the thing of that place stands
  pub searched : (made : ℕ) (there : List (Kept X)) (place : ℕ) (answer : Result ℕ ℕ) → AreRising 0 made there → IsSearchInRange answer (length there)
      → IsBinarySearchResult (λ kept. nat_cmp kept.place place) there answer → IsFoundAt there place (result_ok answer)
  searched made there place (Ok index) rising bound h = (bound, λ none. ranked (get_or there index none).place place Equal (h none))
  searched made there place (Err index) rising bound h =
      let parted = h (λ i j none le lt. higher (get_or there i none).place (get_or there j none).place place (places_rise 0 made there i j none rising le lt)) in
      nowhere there place (λ i none lt same. elim (cases_lt i index) [
        | inl before ↦ let less : (get_or there i none).place < place = ranked (get_or there i none).place place Less (parted.0 i none (omega arith) before) in omega arith
        | inr behind ↦ let greater : place < (get_or there i none).place = ranked (get_or there i none).place place Greater (parted.1 i none behind lt) in omega arith
      ])
