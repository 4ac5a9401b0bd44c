-- Lists of the same elements: what is so of both.
use Rattle.std.proofs.Common.{◌≡◌, ℕ, ◌+◌, Bool, true, false, ◌||◌, cond, suc, List, [], ◌∷◌, ◌++◌, append_assoc, length, map, refl, ap, sym, subst, ◌∙◌, inl, inr, ◌⊎◌, arith}
use Rattle.std.specs.List.{AllByRecursion, filter, list_any}
use Rattle.std.proofs.lemmas.List.{append-nil}
use Rattle.lock_ranges.specs.Widening.{IsAmong}
use Rattle.kabi_types.specs.declared.ranges.Range.{Range}
use Rattle.lock_table.specs.Reordered.{IsReordered, empty, more, swap, trans}

abbrev pub one_if : Bool → ℕ
one_if true = 1
one_if false = 0

or_swap : (a b c : Bool) → (a || (b || c)) ≡ (b || (a || c))
or_swap true true c = refl
or_swap true false c = refl
or_swap false true c = refl
or_swap false false c = refl

module _ {X : Type 0} where
  pub same_list : (xs : List X) → IsReordered xs xs
  same_list [] = empty
  same_list (x ∷ xs) = more x xs xs (same_list xs)

  pub same_lists : (xs ys : List X) → xs ≡ ys → IsReordered xs ys
  same_lists xs ys is = subst (IsReordered xs) is (same_list xs)

  pub back : {xs ys : List X} → IsReordered xs ys → IsReordered ys xs
  back empty = empty
  back (more x xs ys so) = more x ys xs (back so)
  back (swap x y xs) = swap y x xs
  back (trans xs ys zs so also) = trans zs ys xs (back also) (back so)

  pub as_long : {xs ys : List X} → IsReordered xs ys → length xs ≡ length ys
  as_long empty = refl
  as_long (more x xs ys so) = ap (λ n. suc n) (as_long so)
  as_long (swap x y xs) = refl
  as_long (trans xs ys zs so also) = as_long so ∙ as_long also

  -- ---- one list behind another

  pub before_others : (zs : List X) {xs ys : List X} → IsReordered xs ys → IsReordered (xs ++ zs) (ys ++ zs)
  before_others zs empty = same_list zs
  before_others zs (more x xs ys so) = more x (xs ++ zs) (ys ++ zs) (before_others zs so)
  before_others zs (swap x y xs) = swap x y (xs ++ zs)
  before_others zs (trans xs ys us so also) = trans (xs ++ zs) (ys ++ zs) (us ++ zs) (before_others zs so) (before_others zs also)

  pub behind_others : (zs : List X) {xs ys : List X} → IsReordered xs ys → IsReordered (zs ++ xs) (zs ++ ys)
  behind_others [] {xs} {ys} so = so
  behind_others (z ∷ zs) {xs} {ys} so = more z (zs ++ xs) (zs ++ ys) (behind_others zs so)

  pub from_middle : (xs : List X) (x : X) (ys : List X) → IsReordered (xs ++ x ∷ ys) (x ∷ (xs ++ ys))
  from_middle [] x ys = same_list (x ∷ ys)
  from_middle (z ∷ xs) x ys =
      trans (z ∷ (xs ++ x ∷ ys)) (z ∷ x ∷ (xs ++ ys)) (x ∷ z ∷ (xs ++ ys)) (more z (xs ++ x ∷ ys) (x ∷ (xs ++ ys)) (from_middle xs x ys)) (swap z x (xs ++ ys))

  pub exchanged : (xs ys : List X) → IsReordered (xs ++ ys) (ys ++ xs)
  exchanged [] ys = same_lists ys (ys ++ []) (sym (append-nil ys))
  exchanged (x ∷ xs) ys = trans (x ∷ (xs ++ ys)) (x ∷ (ys ++ xs)) (ys ++ x ∷ xs) (more x (xs ++ ys) (ys ++ xs) (exchanged xs ys)) (back (from_middle ys x xs))

  -- the second of three parts goes to the front
  pub to_front : (xs ys zs : List X) → IsReordered (xs ++ (ys ++ zs)) (ys ++ (xs ++ zs))
  to_front xs ys zs =
      subst (λ l. IsReordered l (ys ++ (xs ++ zs))) (append_assoc xs ys zs)
      (subst (IsReordered ((xs ++ ys) ++ zs)) (append_assoc ys xs zs) (before_others zs (exchanged xs ys)))

  -- two lists of two parts each
  pub interleaved : (xs ys us vs : List X) → IsReordered ((xs ++ ys) ++ (us ++ vs)) ((xs ++ us) ++ (ys ++ vs))
  interleaved xs ys us vs =
      subst (λ l. IsReordered l ((xs ++ us) ++ (ys ++ vs))) (sym (append_assoc xs ys (us ++ vs)))
      (subst (IsReordered (xs ++ (ys ++ (us ++ vs)))) (sym (append_assoc xs us (ys ++ vs))) (behind_others xs (to_front ys us vs)))

  -- ---- tests

  filter_one : (p : X → Bool) (x : X) {xs ys : List X} → IsReordered xs ys → (b : Bool) → IsReordered (cond b (x ∷ xs) xs) (cond b (x ∷ ys) ys)
  filter_one p x {xs} {ys} so true = more x xs ys so
  filter_one p x {xs} {ys} so false = so

  filter_two : (x y : X) (xs : List X) (b c : Bool) → IsReordered (cond b (x ∷ cond c (y ∷ xs) xs) (cond c (y ∷ xs) xs)) (cond c (y ∷ cond b (x ∷ xs) xs) (cond b (x ∷ xs) xs))
  filter_two x y xs true true = swap x y xs
  filter_two x y xs true false = same_list (x ∷ xs)
  filter_two x y xs false true = same_list (y ∷ xs)
  filter_two x y xs false false = same_list xs

  pub filtered : (p : X → Bool) {xs ys : List X} → IsReordered xs ys → IsReordered (filter p xs) (filter p ys)
  filtered p empty = empty
  filtered p (more x xs ys so) = filter_one p x (filtered p so) (p x)
  filtered p (swap x y xs) = filter_two x y (filter p xs) (p x) (p y)
  filtered p (trans xs ys zs so also) = trans (filter p xs) (filter p ys) (filter p zs) (filtered p so) (filtered p also)

  pub any_same : (p : X → Bool) {xs ys : List X} → IsReordered xs ys → list_any p xs ≡ list_any p ys
  any_same p empty = refl
  any_same p (more x xs ys so) = ap (λ b. p x || b) (any_same p so)
  any_same p (swap x y xs) = or_swap (p x) (p y) (list_any p xs)
  any_same p (trans xs ys zs so also) = any_same p so ∙ any_same p also

  pub all_still : (P : X → Type 0) {xs ys : List X} → IsReordered xs ys → AllByRecursion P xs → AllByRecursion P ys
  all_still P empty all = tt
  all_still P (more x xs ys so) all = (all.0, all_still P so all.1)
  all_still P (swap x y xs) all = (all.1.0, (all.0, all.1.1))
  all_still P (trans xs ys zs so also) all = all_still P also (all_still P so all)

  -- ---- how many pass a test

  abbrev pub times : (X → Bool) → List X → ℕ
  times p [] = 0
  times p (x ∷ xs) = one_if (p x) + times p xs

  pub as_often : (p : X → Bool) {xs ys : List X} → IsReordered xs ys → times p xs ≡ times p ys
  as_often p empty = refl
  as_often p (more x xs ys so) = ap (λ n. one_if (p x) + n) (as_often p so)
  as_often p (swap x y xs) = omega arith
  as_often p (trans xs ys zs so also) = as_often p so ∙ as_often p also

  pub times_more : (p : X → Bool) (x : X) (xs : List X) → times p (x ∷ xs) ≡ one_if (p x) + times p xs
  times_more p x xs = refl

  pub times_none : (p : X → Bool) → times p [] ≡ 0
  times_none p = refl

  -- ---- members

  -- it is one of them
  abbrev pub IsIn : List X → X → Type 0
  IsIn [] x = ⊥
  IsIn (y ∷ ys) x = (y ≡ x) ⊎ IsIn ys x

  pub in_still : {xs ys : List X} (z : X) → IsReordered xs ys → IsIn xs z → IsIn ys z
  in_still z empty there = there
  in_still z (more x xs ys so) (inl here) = inl here
  in_still z (more x xs ys so) (inr later) = inr (in_still z so later)
  in_still z (swap x y xs) (inl here) = inr (inl here)
  in_still z (swap x y xs) (inr (inl here)) = inl here
  in_still z (swap x y xs) (inr (inr later)) = inr (inr later)
  in_still z (trans xs ys zs so also) there = in_still z also (in_still z so there)

  pub all_at : (P : X → Type 0) (xs : List X) (x : X) → AllByRecursion P xs → IsIn xs x → P x
  all_at P [] x all there = absurd there
  all_at P (y ∷ ys) x all (inl same) = subst P same all.0
  all_at P (y ∷ ys) x all (inr later) = all_at P ys x all.1 later

  in_one : (p : X → Bool) (y : X) (ys : List X) (x : X) (b : Bool) → p y ≡ b → IsIn (cond b (y ∷ filter p ys) (filter p ys)) x → ((y ≡ x) × (p x ≡ true)) ⊎ IsIn (filter p ys) x
  in_one p y ys x true passes (inl same) = inl (same, subst (λ z. p z ≡ true) same passes)
  in_one p y ys x true passes (inr later) = inr later
  in_one p y ys x false passes there = inr there

  pub in_filter : (p : X → Bool) (xs : List X) (x : X) → IsIn (filter p xs) x → IsIn xs x × (p x ≡ true)
  in_filter p [] x there = absurd there
  in_filter p (y ∷ ys) x there = elim (in_one p y ys x (p y) refl there) [
    | inl here ↦ (inl here.0, here.1)
    | inr later ↦ let it = in_filter p ys x later in (inr it.0, it.1)
  ]

  in_passed : (p : X → Bool) (y : X) (ys : List X) (x : X) (b : Bool) → p y ≡ b → p x ≡ true → (y ≡ x) ⊎ IsIn (filter p ys) x → IsIn (cond b (y ∷ filter p ys) (filter p ys)) x
  in_passed p y ys x true is passes there = there
  in_passed p y ys x false is passes (inl same) = absurd (let wrong : false ≡ true = sym is ∙ (ap p same ∙ passes) in cc)
  in_passed p y ys x false is passes (inr later) = later

  pub into_filter : (p : X → Bool) (xs : List X) (x : X) → IsIn xs x → p x ≡ true → IsIn (filter p xs) x
  into_filter p [] x there passes = there
  into_filter p (y ∷ ys) x (inl same) passes = in_passed p y ys x (p y) refl passes (inl same)
  into_filter p (y ∷ ys) x (inr later) passes = in_passed p y ys x (p y) refl passes (inr (into_filter p ys x later passes))

-- ---- each becomes some others

module _ {X Y : Type 0} where
  pub mapped : (f : X → Y) {xs ys : List X} → IsReordered xs ys → IsReordered (map f xs) (map f ys)
  mapped f empty = empty
  mapped f (more x xs ys so) = more (f x) (map f xs) (map f ys) (mapped f so)
  mapped f (swap x y xs) = swap (f x) (f y) (map f xs)
  mapped f (trans xs ys zs so also) = trans (map f xs) (map f ys) (map f zs) (mapped f so) (mapped f also)

  pub in_map : (f : X → Y) (xs : List X) (x : X) → IsIn xs x → IsIn (map f xs) (f x)
  in_map f [] x there = there
  in_map f (y ∷ ys) x (inl same) = inl (ap f same)
  in_map f (y ∷ ys) x (inr later) = inr (in_map f ys x later)

  abbrev pub each_to : (X → List Y) → List X → List Y
  each_to f [] = []
  each_to f (x ∷ xs) = f x ++ each_to f xs

  pub each_still : (f : X → List Y) {xs ys : List X} → IsReordered xs ys → IsReordered (each_to f xs) (each_to f ys)
  each_still f empty = empty
  each_still f (more x xs ys so) = behind_others (f x) (each_still f so)
  each_still f (swap x y xs) = to_front (f x) (f y) (each_to f xs)
  each_still f (trans xs ys zs so also) = trans (each_to f xs) (each_to f ys) (each_to f zs) (each_still f so) (each_still f also)

-- ---- ranges

pub among_still : (P : Range → Type 0) {xs ys : List Range} → IsReordered xs ys → IsAmong P xs → IsAmong P ys
among_still P empty among = among
among_still P (more x xs ys so) (inl here) = inl here
among_still P (more x xs ys so) (inr later) = inr (among_still P so later)
among_still P (swap x y xs) (inl here) = inr (inl here)
among_still P (swap x y xs) (inr (inl here)) = inl here
among_still P (swap x y xs) (inr (inr later)) = inr (inr later)
among_still P (trans xs ys zs so also) among = among_still P also (among_still P so among)
