-- The keys that were given out, beside those that never were.
use Rattle.std.proofs.Common.{◌≡◌, ℕ, zero, suc, ◌+◌, ◌-◌, ◌<◌, ◌≤◌, List, [], ◌∷◌, ◌++◌, length, get_or, set, Option, Some, None, replicate, refl, sym, ap, ◌∙◌, inl, inr, arith, length-append}
use Rattle.std.proofs.lemmas.Bool.{cases_lt}
use Rattle.std.proofs.lemmas.List.{append_assoc, append-nil, length-replicate, get_or-replicate, length-set, get_or_past, get_or_append_left, get_or-append_right, get_or_push, set-append_left, set-append_right, length_push}
use Rattle.kheap_slabs.specs.Places.{falling, all_places, all_free, TakesKey}

pub length-falling : (n from : ℕ) → length (falling n from) ≡ n
length-falling zero from = refl
length-falling (suc n) from = ap suc (length-falling n from)

pub get_or-falling : (n from i : ℕ) → i < n → get_or (falling n from) i 0 + i + 1 ≡ from + n
get_or-falling zero from i lt = absurd (omega (arith, lt))
get_or-falling (suc n) from zero lt = omega arith
get_or-falling (suc n) from (suc i) lt = let rest = get_or-falling n from i (omega (arith, lt)) in omega (arith, rest)

-- the lowest stands last
falling_last : (n from : ℕ) → falling (suc n) from ≡ falling n (from + 1) ++ from ∷ []
falling_last zero from = let same : from + 0 ≡ from = omega arith in λ i. same i ∷ []
falling_last (suc n) from =
    let top : from + suc n ≡ from + 1 + n = omega arith in
    let rest = falling_last n from in
    λ i. top i ∷ rest i

-- what is free behind a key that was never given out
never_given : (limit given : ℕ) → given < limit → all_free limit given [] ≡ all_free limit (given + 1) [] ++ given ∷ []
never_given limit given lt =
    let one : limit - given ≡ suc (limit - (given + 1)) = omega (arith, lt) in
    append-nil (falling (limit - given) given) ∙ ap (λ n. falling n given) one ∙ falling_last (limit - (given + 1)) given
    ∙ ap (λ keys. keys ++ given ∷ []) (sym (append-nil (falling (limit - (given + 1)) (given + 1))))

pub free_again : (limit given : ℕ) (free : List ℕ) (key : ℕ) → all_free limit given (free ++ key ∷ []) ≡ all_free limit given free ++ key ∷ []
free_again limit given free key = sym (append_assoc (falling (limit - given) given) free (key ∷ []))

pub none_given : (limit : ℕ) (places : List (Option ℕ)) → places ≡ [] → all_places limit places ≡ replicate limit None
none_given limit places none = let all : limit - 0 ≡ limit = omega arith in ap (all_places limit) none ∙ ap (λ n. replicate n None) all

pub length-all : (limit : ℕ) (places : List (Option ℕ)) → length places ≤ limit → length (all_places limit places) ≡ limit
length-all limit places le = length-append places (replicate (limit - length places) None) ∙ ap (λ n. length places + n) (length-replicate (limit - length places) None) ∙ omega (arith, le)

none_beyond : (n i : ℕ) → get_or (replicate {A = Option ℕ} n None) i None ≡ None
none_beyond n i = elim (cases_lt i n) [
  | inl lt ↦ get_or-replicate n i None None lt
  | inr le ↦ get_or_past _ i None (rw length-replicate le)
]

-- a key that was never given out has no place
pub get_or-all : (limit : ℕ) (places : List (Option ℕ)) (key : ℕ) → get_or (all_places limit places) key None ≡ get_or places key None
get_or-all limit places key = elim (cases_lt key (length places)) [
  | inl lt ↦ get_or_append_left places (replicate (limit - length places) None) None key lt
  | inr le ↦ get_or-append_right places (replicate (limit - length places) None) (length places) key None refl le ∙ none_beyond (limit - length places) (key - length places) ∙ sym (get_or_past places key None le)
]

pub set-all : (limit : ℕ) (places : List (Option ℕ)) (key : ℕ) (place : Option ℕ) → key < length places → all_places limit (set places key place) ≡ set (all_places limit places) key place
set-all limit places key place lt =
    ap (λ n. set places key place ++ replicate (limit - n) None) (length-set places key place) ∙ sym (set-append_left places (replicate (limit - length places) None) key place lt)

push-all : (limit : ℕ) (places : List (Option ℕ)) (place : Option ℕ) → length places < limit → all_places limit (places ++ place ∷ []) ≡ set (all_places limit places) (length places) place
push-all limit places place lt =
    let long : limit - length (places ++ place ∷ []) ≡ limit - (length places + 1) = ap (λ n. limit - n) (length_push places place) in
    let one : limit - length places ≡ suc (limit - (length places + 1)) = omega (arith, lt) in
    let none : length places - length places ≡ 0 = omega arith in
    append_assoc places (place ∷ []) (replicate (limit - length (places ++ place ∷ [])) None)
    ∙ ap (λ n. places ++ place ∷ replicate n None) long
    ∙ sym (set-append_right places (replicate (limit - length places) None) (length places) (length places) place refl (omega arith)
    ∙ ap (λ n. places ++ set (replicate (limit - length places) None) n place) none
    ∙ ap (λ n. places ++ set (replicate n None) 0 place) one)

-- What is free, and where keys have their places, once a key was given out.
module _ (limit : ℕ) (old new : List (Option ℕ)) (free rest : List ℕ) (key place : ℕ) (given : (i : ℕ) → i < length free → get_or free i 0 < length old) (room : length free ≡ 0 → length old < limit) (takes : TakesKey old new free rest key place) where
  last_given : free ≡ rest ++ key ∷ [] → key < length old
  last_given popped =
      let long : length rest < length free = rw popped (rw length-append (omega arith)) in
      let last : get_or free (length rest) 0 ≡ key = rw popped (get_or_push rest key 0 (length rest) refl) in
      rw last at (given (length rest) long)

  pub next_free : all_free limit (length old) free ≡ all_free limit (length new) rest ++ key ∷ []
  next_free = elim takes.from [
    | inl again ↦ ap (all_free limit (length old)) again.0 ∙ free_again limit (length old) rest key ∙ ap (λ n. all_free limit n rest ++ key ∷ []) (sym (ap length again.1 ∙ length-set old key (Some place)))
    | inr fresh ↦
        let empty : length free ≡ 0 = ap length fresh.0 in
        let long : length new ≡ length old + 1 = ap length fresh.3 ∙ length_push old (Some place) in
        ap (all_free limit (length old)) fresh.0 ∙ never_given limit (length old) (room empty) ∙ ap (λ n. all_free limit n [] ++ length old ∷ []) (sym long)
        ∙ ap (λ keys. all_free limit (length new) keys ++ length old ∷ []) (sym fresh.1) ∙ ap (λ k. all_free limit (length new) rest ++ k ∷ []) (sym fresh.2)
  ]

  pub next_places : all_places limit new ≡ set (all_places limit old) key (Some place)
  next_places = elim takes.from [
    | inl again ↦ ap (all_places limit) again.1 ∙ set-all limit old key (Some place) (last_given again.0)
    | inr fresh ↦
        let empty : length free ≡ 0 = ap length fresh.0 in
        ap (all_places limit) fresh.3 ∙ push-all limit old (Some place) (room empty) ∙ ap (λ k. set (all_places limit old) k (Some place)) (sym fresh.2)
  ]

  pub still_within : length old ≤ limit → length new ≤ limit
  still_within le = elim takes.from [
    | inl again ↦ omega (arith, le, ap length again.1, length-set old key (Some place))
    | inr fresh ↦ omega (arith, room (ap length fresh.0), ap length fresh.3, length_push old (Some place))
  ]

  pub still_given : (i : ℕ) → i < length rest → get_or rest i 0 < length new
  still_given i lt = elim takes.from [
    | inl again ↦
        let same : get_or free i 0 ≡ get_or rest i 0 = rw again.0 (get_or_append_left rest (key ∷ []) 0 i lt) in
        let long : i < length free = rw again.0 (rw length-append (omega (arith, lt))) in
        rw (ap length again.1 ∙ length-set old key (Some place)) (rw same at (given i long))
    | inr fresh ↦ let none : length rest ≡ 0 = ap length fresh.1 in absurd (omega (arith, lt, none))
  ]
