-- One owner's keys among those of all.
use Rattle.std.proofs.Common.{◌≡◌, ◌⊎◌, ℕ, List, [], ◌∷◌, ◌++◌, Option, None, map, ap, ◌∙◌, inl, inr, arith, Contains}
use Rattle.std.proofs.lemmas.Bool.{cases_eq}
use Rattle.std.proofs.lemmas.List.{map-append}
use Rattle.std.proofs.lemmas.List.Folds.{concat-append}
use Rattle.std.proofs.lemmas.List.Elements.{Contains-append_left, Contains-append_right, Contains-append_cases}
use Rattle.std.specs.List.{concat}
use Rattle.slab.proofs.SlabLemmas.{Contains-cons, Contains-cons_cases}
use Rattle.kheap_slabs.specs.Objects.{object, InUse}
use Rattle.kheap_slabs.specs.Keys.{IsOnce, Apart, AreKeysOf, ChangesKeys, Splits}
use Rattle.kheap_laws.proofs.OnceLemmas.{IsOnce-append, IsOnce-left, IsOnce-right, IsOnce-apart}

pub contains_or_not : (keys : List ℕ) (key : ℕ) → Contains keys key ⊎ (Contains keys key → ⊥)
contains_or_not [] key = inr (λ there. omega (arith, there.1))
contains_or_not (first ∷ rest) key = elim (cases_eq first key) [
  | inl same ↦ inl (0, omega arith, same)
  | inr differs ↦ elim (contains_or_not rest key) [
    | inl there ↦ inl (Contains-cons first key rest there)
    | inr absent ↦ inr (λ there. neither first rest key differs absent there)
  ]
]
  where
    neither : (first : ℕ) (rest : List ℕ) (key : ℕ) → (first ≡ key → ⊥) → (Contains rest key → ⊥) → Contains (first ∷ rest) key → ⊥
    neither first rest key differs absent there = elim (Contains-cons_cases first key rest there) [
      | inl same ↦ differs same
      | inr behind ↦ absent behind
    ]

module _ {Y : Type 0} where
  -- the first two of three parts change places
  pub Contains-swap : (a b c : List Y) (x : Y) → Contains (a ++ (b ++ c)) x → Contains (b ++ (a ++ c)) x
  Contains-swap a b c x there = elim (Contains-append_cases a (b ++ c) x there) [
    | inl first ↦ Contains-append_right b (a ++ c) x (Contains-append_left a c x first)
    | inr behind ↦ elim (Contains-append_cases b c x behind) [
      | inl second ↦ Contains-append_left b (a ++ c) x second
      | inr third ↦ Contains-append_right b (a ++ c) x (Contains-append_right a c x third)
    ]
  ]

  -- what is in a whole is the one that was split off or among the others
  pub Splits-to_front : (whole : List Y) (one : Y) (rest : List Y) → Splits whole one rest → (x : Y) → Contains whole x → Contains (one ∷ rest) x
  Splits-to_front whole one rest split x there =
      rw split.rest_is (Contains-swap split.before (one ∷ []) split.after x (rw split.whole_is at there))

  pub Splits-from_front : (whole : List Y) (one : Y) (rest : List Y) → Splits whole one rest → (x : Y) → Contains (one ∷ rest) x → Contains whole x
  Splits-from_front whole one rest split x there =
      rw split.whole_is (Contains-swap (one ∷ []) split.before split.after x (rw split.rest_is at there))

  -- the keys of a whole by its parts
  keys_of_whole : (f : Y → List ℕ) (whole : List Y) (one : Y) (rest : List Y) (split : Splits whole one rest) → concat (map f whole) ≡ concat (map f split.before) ++ (f one ++ concat (map f split.after))
  keys_of_whole f whole one rest split =
      ap (λ items. concat (map f items)) split.whole_is ∙ ap concat (map-append f split.before (one ∷ split.after)) ∙ concat-append (map f split.before) (f one ∷ map f split.after)

  keys_of_rest : (f : Y → List ℕ) (whole : List Y) (one : Y) (rest : List Y) (split : Splits whole one rest) → concat (map f rest) ≡ concat (map f split.before) ++ concat (map f split.after)
  keys_of_rest f whole one rest split =
      ap (λ items. concat (map f items)) split.rest_is ∙ ap concat (map-append f split.before split.after) ∙ concat-append (map f split.before) (map f split.after)

pub IsOnce-swap : (a b c : List ℕ) → IsOnce (a ++ (b ++ c)) → IsOnce (b ++ (a ++ c))
IsOnce-swap a b c once =
    let behind = IsOnce-right a (b ++ c) once in
    let apart = IsOnce-apart a (b ++ c) once in
    IsOnce-append b (a ++ c) (IsOnce-left b c behind)
    (IsOnce-append a c (IsOnce-left a (b ++ c) once) (IsOnce-right b c behind) (λ key here there. apart key here (Contains-append_right b c key there)))
    (λ key here there. elim (Contains-append_cases a c key there) [
      | inl first ↦ apart key first (Contains-append_left b c key here)
      | inr third ↦ IsOnce-apart b c behind key here third
    ])

module _ {X : Type 0} where
  pub AreKeysOf-swap : (objects : List (Option X)) (a b c : List ℕ) → AreKeysOf objects (a ++ (b ++ c)) → AreKeysOf objects (b ++ (a ++ c))
  AreKeysOf-swap objects a b c are = record {
    used = λ key there. are.used key (Contains-swap b a c key there);
    listed = λ key used. Contains-swap a b c key (are.listed key used);
    once = IsOnce-swap a b c are.once;
  }

  module _ {Y : Type 0} where
    -- one owner's keys move to the front of all, and back to their place
    pub AreKeysOf-to_front : (objects : List (Option X)) (f : Y → List ℕ) (whole : List Y) (one : Y) (rest : List Y) → Splits whole one rest → AreKeysOf objects (concat (map f whole)) → AreKeysOf objects (f one ++ concat (map f rest))
    AreKeysOf-to_front objects f whole one rest split are =
        rw (keys_of_rest f whole one rest split) (AreKeysOf-swap objects (concat (map f split.before)) (f one) (concat (map f split.after)) (rw (keys_of_whole f whole one rest split) at are))

    pub AreKeysOf-from_front : (objects : List (Option X)) (f : Y → List ℕ) (whole : List Y) (one : Y) (rest : List Y) → Splits whole one rest → AreKeysOf objects (f one ++ concat (map f rest)) → AreKeysOf objects (concat (map f whole))
    AreKeysOf-from_front objects f whole one rest split are =
        rw (keys_of_whole f whole one rest split) (AreKeysOf-swap objects (f one) (concat (map f split.before)) (concat (map f split.after)) (rw (keys_of_rest f whole one rest split) at are))

  -- a key of another owner is none of those that the changing one has now
  pub ChangesKeys-apart : (old new : List (Option X)) (had has others : List ℕ) → AreKeysOf old (had ++ others) → ChangesKeys old new had has → Apart (had ++ has) others
  ChangesKeys-apart old new had has others are changes key named there =
      let mine = IsOnce-apart had others are.once in
      elim (Contains-append_cases had has key named) [
        | inl here ↦ mine key here there
        | inr here ↦ elim (changes.fresh key here) [
          | inl before ↦ mine key before there
          | inr vacant ↦ unused vacant (are.used key (Contains-append_right had others key there))
        ]
      ]
    where
      unused : object old key ≡ None → InUse old key → ⊥
      unused vacant used = grind arith

  -- one owner changes its keys, and all are listed again
  pub AreKeysOf-changes : (old new : List (Option X)) (had has others : List ℕ) → AreKeysOf old (had ++ others) → ChangesKeys old new had has → ((key : ℕ) → Contains has key → InUse new key) → IsOnce has → AreKeysOf new (has ++ others)
  AreKeysOf-changes old new had has others are changes used once =
      let apart = ChangesKeys-apart old new had has others are changes in
      record {
        used = λ key there. elim (Contains-append_cases has others key there) [
          | inl mine ↦ used key mine
          | inr behind ↦ rw (changes.outside key (λ named. apart key named behind)) (are.used key (Contains-append_right had others key behind))
        ];
        listed = λ key there. elim (contains_or_not (had ++ has) key) [
          | inl named ↦ elim (Contains-append_cases had has key named) [
            | inl before ↦ Contains-append_left has others key (changes.left key before there)
            | inr now ↦ Contains-append_left has others key now
          ]
          | inr outside ↦ elim (Contains-append_cases had others key (are.listed key (rw (← changes.outside key outside) there))) [
            | inl before ↦ absurd (outside (Contains-append_left had has key before))
            | inr behind ↦ Contains-append_right has others key behind
          ]
        ];
        once = IsOnce-append has others once (IsOnce-right had others are.once) (λ key here there. apart key (Contains-append_right had has key here) there);
      }
