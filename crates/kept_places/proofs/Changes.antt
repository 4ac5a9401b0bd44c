-- What the list of all places is after a push, a removal and a change of what is there.
use Rattle.std.proofs.Common.{◌≡◌, ◌≢◌, ℕ, zero, suc, ◌+◌, ◌<◌, ◌≤◌, List, [], ◌∷◌, ◌++◌, length, get_or, set, map, Option, None, Some, refl, ap, sym, ◌∙◌, subst, inl, inr, arith}
use Rattle.std.specs.List.{range_with_len, remove}
use Rattle.std.proofs.lemmas.Bool.{cases_eq, cases_lt}
use Rattle.std.proofs.lemmas.List.{get_or-set_same, get_or-set_other, get_or_past, length-set, same_lists, set-get_or}
use Rattle.std.proofs.lemmas.List.FromFn.{get_or-map-range_with_len, length-map-range_with_len, map-range_with_len_more}
use Rattle.kept_places.specs.declared.search.Kept.{Kept}
use Rattle.kept_places.specs.Places.{at, put, there_from, without}
use Rattle.kept_places.specs.Rising.{AreRising, found, spread}
use Rattle.kept_places.proofs.Findings.{found_at, found_below, found_here, found_later, found_past, place_within}

module _ {X : Type 0} where
  -- a thing with its place
  abbrev pub kept_of : ℕ → X → Kept X
  kept_of place what = record { place = place; what = what }

  -- ---- the list of all places

  pub length-spread : (made : ℕ) (there : List (Kept X)) → length (spread made there) ≡ made
  length-spread made there = length-map-range_with_len (found there) 0 made

  get_or-spread : (made : ℕ) (there : List (Kept X)) (place : ℕ) (none : Option X) → place < made → get_or (spread made there) place none ≡ found there place
  get_or-spread made there place none lt = get_or-map-range_with_len (found there) 0 made place place none lt (omega arith)

  -- what is at a place is what is found there
  pub at-spread : (made : ℕ) (there : List (Kept X)) (place : ℕ) → AreRising 0 made there → at (spread made there) place ≡ found there place
  at-spread made there place rising = elim (cases_lt place made) [
    | inl lt ↦ get_or-spread made there place None lt
    | inr le ↦ get_or_past (spread made there) place None (omega (arith, length-spread made there)) ∙ sym (found_past 0 made there place rising le)
  ]

  -- where two lists of things find the same but at one place, they stand for the same places but that one
  spread_apart : (made : ℕ) (old new : List (Kept X)) (place : ℕ) (now : Option X) → found new place ≡ now
      → ((other : ℕ) → other ≢ place → found new other ≡ found old other) → spread made new ≡ set (spread made old) place now
  spread_apart made old new place now here apart =
      same_lists _ _ (length-spread made new ∙ sym (length-set (spread made old) place now ∙ length-spread made old)) (λ k none lt.
      let within : k < made = omega (arith, lt, length-spread made new) in
      elim (cases_eq k place) [
        | inl same ↦
            get_or-spread made new k none within ∙ ap (found new) same ∙ here
            ∙ sym (ap (λ i. get_or (set (spread made old) place now) i none) same ∙ get_or-set_same (spread made old) place now none (omega (arith, length-spread made old)))
        | inr differs ↦
            get_or-spread made new k none within ∙ apart k differs ∙ sym (get_or-spread made old k none within)
            ∙ sym (get_or-set_other (spread made old) place k now none differs)
      ])

  -- ---- a push

  rising_pushed : (from made : ℕ) (there : List (Kept X)) (what : X) → from ≤ made → AreRising from made there → AreRising from (made + 1) (there ++ kept_of made what ∷ [])
  rising_pushed from made [] what le rising = (le, omega arith, tt)
  rising_pushed from made (kept ∷ rest) what le rising =
      let last : kept.place < made = rising.1 in
      (rising.0, omega arith, rising_pushed (kept.place + 1) made rest what (omega arith) rising.2)

  pub AreRising-pushed : (made : ℕ) (there : List (Kept X)) (what : X) → AreRising 0 made there → AreRising 0 (made + 1) (there ++ kept_of made what ∷ [])
  AreRising-pushed made there what rising = rising_pushed 0 made there what (omega arith) rising

  found_pushed : (from made : ℕ) (there : List (Kept X)) (what : X) (place : ℕ) → AreRising from made there → place < made → found (there ++ kept_of made what ∷ []) place ≡ found there place
  found_pushed from made [] what place rising lt = found_later (kept_of made what) [] place (λ same. omega arith)
  found_pushed from made (kept ∷ rest) what place rising lt = elim (cases_eq kept.place place) [
    | inl same ↦ found_here kept (rest ++ kept_of made what ∷ []) place same ∙ sym (found_here kept rest place same)
    | inr differs ↦
        found_later kept (rest ++ kept_of made what ∷ []) place differs ∙ found_pushed (kept.place + 1) made rest what place rising.2 lt ∙ sym (found_later kept rest place differs)
  ]

  found_last : (from made : ℕ) (there : List (Kept X)) (what : X) → AreRising from made there → found (there ++ kept_of made what ∷ []) made ≡ Some what
  found_last from made [] what rising = found_here (kept_of made what) [] made refl
  found_last from made (kept ∷ rest) what rising =
      let last : kept.place < made = rising.1 in
      found_later kept (rest ++ kept_of made what ∷ []) made (λ same. omega arith) ∙ found_last (kept.place + 1) made rest what rising.2

  -- two functions that agree below a number give the same list there
  agree_below : (f g : ℕ → Option X) (made : ℕ) → ((k : ℕ) → k < made → f k ≡ g k) → map f (range_with_len 0 made) ≡ map g (range_with_len 0 made)
  agree_below f g made same =
      same_lists _ _ (length-map-range_with_len f 0 made ∙ sym (length-map-range_with_len g 0 made)) (λ k none lt.
      let within : k < made = omega (arith, lt, length-map-range_with_len f 0 made) in
      get_or-map-range_with_len f 0 made k k none within (omega arith) ∙ same k within ∙ sym (get_or-map-range_with_len g 0 made k k none within (omega arith)))

  pub spread-pushed : (made : ℕ) (there : List (Kept X)) (what : X) → AreRising 0 made there
      → spread (made + 1) (there ++ kept_of made what ∷ []) ≡ spread made there ++ Some what ∷ []
  spread-pushed made there what rising =
      map-range_with_len_more (found (there ++ kept_of made what ∷ [])) 0 made made (omega arith)
      ∙ ap (λ xs. xs ++ found (there ++ kept_of made what ∷ []) made ∷ []) (agree_below (found (there ++ kept_of made what ∷ [])) (found there) made (λ k lt. found_pushed 0 made there what k rising lt))
      ∙ ap (λ o. spread made there ++ o ∷ []) (found_last 0 made there what rising)

  -- ---- a removal

  rising_from : (low from made : ℕ) (there : List (Kept X)) → low ≤ from → AreRising from made there → AreRising low made there
  rising_from low from made [] le rising = tt
  rising_from low from made (kept ∷ rest) le rising = let first : from ≤ kept.place = rising.0 in (omega arith, rising.1, rising.2)

  rising_removed : (from made : ℕ) (there : List (Kept X)) (index : ℕ) → AreRising from made there → index < length there → AreRising from made (remove there index)
  rising_removed from made [] index rising lt = absurd (omega arith)
  rising_removed from made (kept ∷ rest) zero rising lt =
      let first : from ≤ kept.place = rising.0 in rising_from from (kept.place + 1) made rest (omega arith) rising.2
  rising_removed from made (kept ∷ rest) (suc index) rising lt =
      (rising.0, rising.1, rising_removed (kept.place + 1) made rest index rising.2 (omega arith))

  pub AreRising-removed : (made : ℕ) (there : List (Kept X)) (index : ℕ) → AreRising 0 made there → index < length there → AreRising 0 made (remove there index)
  AreRising-removed made there index rising lt = rising_removed 0 made there index rising lt

  found_removed : (from made : ℕ) (there : List (Kept X)) (index : ℕ) (none : Kept X) → AreRising from made there → index < length there
      → found (remove there index) (get_or there index none).place ≡ None
  found_removed from made [] index none rising lt = absurd (omega arith)
  found_removed from made (kept ∷ rest) zero none rising lt = found_below (kept.place + 1) made rest kept.place rising.2 (omega arith)
  found_removed from made (kept ∷ rest) (suc index) none rising lt =
      let later = place_within (kept.place + 1) made rest index none rising.2 (omega arith) in
      found_later kept (remove rest index) (get_or rest index none).place (λ same. omega (arith, later.0))
      ∙ found_removed (kept.place + 1) made rest index none rising.2 (omega arith)

  found_other : (there : List (Kept X)) (index place : ℕ) (none : Kept X) → index < length there → place ≢ (get_or there index none).place
      → found (remove there index) place ≡ found there place
  found_other [] index place none lt differs = absurd (omega arith)
  found_other (kept ∷ rest) zero place none lt differs = sym (found_later kept rest place (λ same. differs (sym same)))
  found_other (kept ∷ rest) (suc index) place none lt differs = elim (cases_eq kept.place place) [
    | inl same ↦ found_here kept (remove rest index) place same ∙ sym (found_here kept rest place same)
    | inr apart ↦ found_later kept (remove rest index) place apart ∙ found_other rest index place none (omega arith) differs ∙ sym (found_later kept rest place apart)
  ]

  pub spread-removed : (made : ℕ) (there : List (Kept X)) (index : ℕ) (none : Kept X) (place : ℕ) → AreRising 0 made there → index < length there
      → (get_or there index none).place ≡ place → spread made (remove there index) ≡ without (spread made there) place
  spread-removed made there index none place rising lt is =
      spread_apart made there (remove there index) place None
      (subst (λ p. found (remove there index) p ≡ None) is (found_removed 0 made there index none rising lt))
      (λ other differs. found_other there index other none lt (λ same. differs (same ∙ is)))

  -- ---- a change

  -- another thing at the same place
  pub changed : List (Kept X) → ℕ → Kept X → X → List (Kept X)
  changed there index none what = set there index (kept_of (get_or there index none).place what)

  rising_changed : (from made : ℕ) (there : List (Kept X)) (index : ℕ) (none : Kept X) (what : X) → AreRising from made there → index < length there
      → AreRising from made (changed there index none what)
  unfolding changed
  rising_changed from made [] index none what rising lt = absurd (omega arith)
  rising_changed from made (kept ∷ rest) zero none what rising lt = (rising.0, rising.1, rising.2)
  rising_changed from made (kept ∷ rest) (suc index) none what rising lt =
      (rising.0, rising.1, rising_changed (kept.place + 1) made rest index none what rising.2 (omega arith))

  pub AreRising-changed : (made : ℕ) (there : List (Kept X)) (index : ℕ) (none : Kept X) (what : X) → AreRising 0 made there → index < length there
      → AreRising 0 made (changed there index none what)
  AreRising-changed made there index none what rising lt = rising_changed 0 made there index none what rising lt

  found_changed : (from made : ℕ) (there : List (Kept X)) (index : ℕ) (none : Kept X) (what : X) → AreRising from made there → index < length there
      → found (changed there index none what) (get_or there index none).place ≡ Some what
  unfolding changed
  found_changed from made [] index none what rising lt = absurd (omega arith)
  found_changed from made (kept ∷ rest) zero none what rising lt = found_here (kept_of kept.place what) rest kept.place refl
  found_changed from made (kept ∷ rest) (suc index) none what rising lt =
      let later = place_within (kept.place + 1) made rest index none rising.2 (omega arith) in
      found_later kept (changed rest index none what) (get_or rest index none).place (λ same. omega (arith, later.0))
      ∙ found_changed (kept.place + 1) made rest index none what rising.2 (omega arith)

  found_unchanged : (there : List (Kept X)) (index place : ℕ) (none : Kept X) (what : X) → index < length there → place ≢ (get_or there index none).place
      → found (changed there index none what) place ≡ found there place
  unfolding changed
  found_unchanged [] index place none what lt differs = absurd (omega arith)
  found_unchanged (kept ∷ rest) zero place none what lt differs =
      found_later (kept_of kept.place what) rest place (λ same. differs (sym same)) ∙ sym (found_later kept rest place (λ same. differs (sym same)))
  found_unchanged (kept ∷ rest) (suc index) place none what lt differs = elim (cases_eq kept.place place) [
    | inl same ↦ found_here kept (changed rest index none what) place same ∙ sym (found_here kept rest place same)
    | inr apart ↦ found_later kept (changed rest index none what) place apart ∙ found_unchanged rest index place none what (omega arith) differs ∙ sym (found_later kept rest place apart)
  ]

  pub spread-changed : (made : ℕ) (there : List (Kept X)) (index : ℕ) (none : Kept X) (what : X) (place : ℕ) → AreRising 0 made there → index < length there
      → (get_or there index none).place ≡ place → spread made (changed there index none what) ≡ put (spread made there) place what
  spread-changed made there index none what place rising lt is =
      spread_apart made there (changed there index none what) place (Some what)
      (subst (λ p. found (changed there index none what) p ≡ Some what) is (found_changed 0 made there index none what rising lt))
      (λ other differs. found_unchanged there index other none what lt (λ same. differs (same ∙ is)))

  -- ---- all that is there

  there_first : (from : ℕ) (o : Option X) (rest : List (Option X)) → o ≡ None → there_from from (o ∷ rest) ≡ there_from (from + 1) rest
  there_first from o rest h = ap (λ first. there_from from (first ∷ rest)) h

  there_next : (from : ℕ) (o : Option X) (what : X) (rest : List (Option X)) → o ≡ Some what → there_from from (o ∷ rest) ≡ kept_of from what ∷ there_from (from + 1) rest
  there_next from o what rest h = ap (λ first. there_from from (first ∷ rest)) h

  kept_again : (kept : Kept X) (place : ℕ) → kept.place ≡ place → kept_of place kept.what ≡ kept
  kept_again kept place h = ap (λ p. record { place = p; what = kept.what }) (sym h)

  there_is : (n from made : ℕ) (f : ℕ → Option X) (there : List (Kept X)) → from + n ≡ made → AreRising from made there
      → ((k : ℕ) → from ≤ k → k < made → f k ≡ found there k) → there_from from (map f (range_with_len from n)) ≡ there
  there_is zero from made f [] ends rising same = refl
  there_is zero from made f (kept ∷ rest) ends rising same =
      let first : from ≤ kept.place = rising.0 in let last : kept.place < made = rising.1 in absurd (omega arith)
  there_is (suc n) from made f [] ends rising same =
      there_first from (f from) (map f (range_with_len (from + 1) n)) (same from (omega arith) (omega arith))
      ∙ there_is n (from + 1) made f [] (omega arith) tt (λ k le lt. same k (omega arith) lt)
  there_is (suc n) from made f (kept ∷ rest) ends rising same = elim (cases_eq kept.place from) [
    | inl here ↦
        there_next from (f from) kept.what (map f (range_with_len (from + 1) n)) (same from (omega arith) (omega arith) ∙ found_here kept rest from here)
        ∙ ap (λ k. k ∷ there_from (from + 1) (map f (range_with_len (from + 1) n))) (kept_again kept from here)
        ∙ ap (λ xs. kept ∷ xs) (there_is n (from + 1) made f rest (omega arith) (subst (λ p. AreRising (p + 1) made rest) here rising.2)
        (λ k le lt. same k (omega arith) lt ∙ found_later kept rest k (λ at_once. omega arith)))
    | inr later ↦
        let first : from ≤ kept.place = rising.0 in
        there_first from (f from) (map f (range_with_len (from + 1) n)) (same from (omega arith) (omega arith) ∙ found_below (from + 1) made (kept ∷ rest) from (omega arith, rising.1, rising.2) (omega arith))
        ∙ there_is n (from + 1) made f (kept ∷ rest) (omega arith) (omega arith, rising.1, rising.2) (λ k le lt. same k (omega arith) lt)
  ]

  pub there-spread : (made : ℕ) (there : List (Kept X)) → AreRising 0 made there → there_from 0 (spread made there) ≡ there
  there-spread made there rising = there_is made 0 made (found there) there (omega arith) rising (λ k le lt. refl)

  -- ---- as calls have it

  -- a thing that stands at an index is at its place
  pub at_index : (made : ℕ) (there : List (Kept X)) (index : ℕ) (none : Kept X) (place : ℕ) → AreRising 0 made there → index < length there
      → (get_or there index none).place ≡ place → at (spread made there) place ≡ Some (get_or there index none).what
  at_index made there index none place rising lt is =
      at-spread made there place rising ∙ subst (λ p. found there p ≡ Some (get_or there index none).what) is (found_at 0 made there index none rising lt)

  -- a place at which nothing is stays empty
  pub without_none : (places : List (Option X)) (place : ℕ) → at places place ≡ None → places ≡ without places place
  without_none places place none = sym (set-get_or places place None) ∙ ap (set places place) none

  -- another thing at the same place
  pub AreRising-written : (made : ℕ) (there : List (Kept X)) (index : ℕ) (now : Kept X) (what : X) → AreRising 0 made there → index < length there
      → now ≡ get_or there index now → AreRising 0 made (set there index (kept_of now.place what))
  unfolding changed
  AreRising-written made there index now what rising lt is =
      subst (λ p. AreRising 0 made (set there index (kept_of p what))) (ap (λ k. k.place) (sym is)) (AreRising-changed made there index now what rising lt)

  pub spread-written : (made : ℕ) (there : List (Kept X)) (index : ℕ) (now : Kept X) (what : X) (place : ℕ) → AreRising 0 made there → index < length there
      → now ≡ get_or there index now → (get_or there index now).place ≡ place → spread made (set there index (kept_of now.place what)) ≡ put (spread made there) place what
  unfolding changed
  spread-written made there index now what place rising lt is at_place =
      ap (λ k. spread made (set there index (kept_of k.place what))) is ∙ spread-changed made there index now what place rising lt at_place
