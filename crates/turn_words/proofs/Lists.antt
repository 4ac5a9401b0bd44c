-- Beginnings of one list, and reads by place.
use Rattle.std.proofs.Common.{◌≡◌, ℕ, zero, suc, ◌<◌, ◌≤◌, ◌⊎◌, cond, List, [], ◌∷◌, ◌++◌, length, refl, ap, sym, ◌∙◌, subst, inl, inr, ⊎_elim, arith, append_assoc, length-append}
use Rattle.std.proofs.lemmas.Bool.Decides.{leb_tells}
use mathlib.Core.List.{IsPrefix}
use mathlib.Core.Option.{some, some-injective, some-ne-none}
use lib.ListN.{get_elem?}
use Rattle.atomic_table.proofs.Lists.{at_longer}
use Rattle.turn_words.specs.declared.items.Item.{Item}
use Rattle.turn_words.specs.Rule.{longer, shorter}

-- each list begins with itself
pub prefix_self : {A : Type 0} (xs : List A) → IsPrefix xs xs
prefix_self [] = ([], refl)
prefix_self (x ∷ xs) = (let r = prefix_self xs in r.0, ap (λ ys. x ∷ ys) (prefix_self xs).1)

pub prefix_trans : {A : Type 0} (xs ys zs : List A) → IsPrefix xs ys → IsPrefix ys zs → IsPrefix xs zs
prefix_trans xs ys zs p q = (p.0 ++ q.0, sym (append_assoc xs p.0 q.0) ∙ (ap (λ w. w ++ q.0) p.1 ∙ q.1))

-- what begins a list begins the list with one element more
pub prefix_more : {A : Type 0} (xs ys : List A) (y : A) → IsPrefix xs ys → IsPrefix xs (ys ++ y ∷ [])
prefix_more xs ys y p = prefix_trans xs ys (ys ++ y ∷ []) p (y ∷ [], refl)

-- of two beginnings of one list the shorter begins the longer
pub prefix_shorter : {A : Type 0} (xs ys zs : List A) → IsPrefix xs zs → IsPrefix ys zs → length xs ≤ length ys → IsPrefix xs ys
prefix_shorter [] ys zs p q le = (ys, refl)
prefix_shorter (x ∷ xs) [] zs p q le = absurd (omega arith)
prefix_shorter (x ∷ xs) (y ∷ ys) [] p q le = absurd (cc (p.1))
prefix_shorter (x ∷ xs) (y ∷ ys) (z ∷ zs) p q le =
    let heads : x ≡ y = cc (p.1, q.1) in
    let rest = prefix_shorter xs ys zs (p.0, cc (p.1)) (q.0, cc (q.1)) (omega arith) in
    (rest.0, cc (heads, rest.1))

-- a beginning as long as the whole is the whole
pub prefix_whole : {A : Type 0} (xs ys : List A) → IsPrefix xs ys → length ys ≤ length xs → xs ≡ ys
prefix_whole [] [] p le = refl
prefix_whole [] (y ∷ ys) p le = absurd (omega arith)
prefix_whole (x ∷ xs) [] p le = absurd (cc (p.1))
prefix_whole (x ∷ xs) (y ∷ ys) p le =
    let rest = prefix_whole xs ys (p.0, cc (p.1)) (omega arith) in cc (p.1, rest)

pub prefix_length : {A : Type 0} (xs ys : List A) → IsPrefix xs ys → length xs ≤ length ys
prefix_length xs ys p = omega (arith, sym (ap length p.1) ∙ length-append xs p.0)

-- what stands in a beginning stands in the whole, at the same place
pub prefix_get : {A : Type 0} (xs ys : List A) (k : ℕ) (x : A) → IsPrefix xs ys → get_elem? xs k ≡ some x → get_elem? ys k ≡ some x
prefix_get xs ys k x p at = subst (λ l. get_elem? l k ≡ some x) p.1 (at_longer xs p.0 k x at)

pub at_below : {A : Type 0} (xs : List A) (k : ℕ) (x : A) → get_elem? xs k ≡ some x → k < length xs
at_below [] k x at = absurd (some-ne-none x (sym at))
at_below (y ∷ xs) zero x at = omega arith
at_below (y ∷ xs) (suc k) x at = let r = at_below xs k x at in omega arith

-- what stands in a list with one element more stands in the list, or is that one at its end
pub at_end : {A : Type 0} (xs : List A) (z y : A) (k : ℕ) → get_elem? (xs ++ z ∷ []) k ≡ some y → (get_elem? xs k ≡ some y) ⊎ ((k ≡ length xs) × (z ≡ y))
at_end [] z y zero at = inr (refl, some-injective z y at)
at_end [] z y (suc k) at = absurd (some-ne-none y (sym at))
at_end (x ∷ xs) z y zero at = inl at
at_end (x ∷ xs) z y (suc k) at = ⊎_elim
    (λ (h : get_elem? xs k ≡ some y). inl h)
    (λ (h : (k ≡ length xs) × (z ≡ y)). inr (ap suc h.0, h.1))
    (at_end xs z y k at)

-- the longer and the shorter of two lists are the two lists
pub by_length : (P : List Item → List Item → Type 0) (xs ys : List Item) → (length ys ≤ length xs → P xs ys) → (length xs < length ys → P ys xs) → P (longer xs ys) (shorter xs ys)
by_length P xs ys first second = ⊎_elim
    (λ h. subst (λ b. P (cond b xs ys) (cond b ys xs)) (sym h.0) (first h.1))
    (λ h. subst (λ b. P (cond b xs ys) (cond b ys xs)) (sym h.0) (second (let n = h.1 in omega arith)))
    (leb_tells (length ys) (length xs))

-- two beginnings of one list begin the longer of them, which is one too
pub longer_begins : (xs ys history : List Item) → IsPrefix xs history → IsPrefix ys history
    → IsPrefix xs (longer xs ys) × IsPrefix ys (longer xs ys) × IsPrefix (longer xs ys) history × IsPrefix (shorter xs ys) (longer xs ys)
longer_begins xs ys history p q = by_length
    (λ long short. IsPrefix xs long × IsPrefix ys long × IsPrefix long history × IsPrefix short long) xs ys
    (λ le. (prefix_self xs, prefix_shorter ys xs history q p le, p, prefix_shorter ys xs history q p le))
    (λ lt. let le : length xs ≤ length ys = omega arith in (prefix_shorter xs ys history p q le, prefix_self ys, q, prefix_shorter xs ys history p q le))

-- where both begin the longer and the shorter begins the longer, each of the two does
pub each_begins : (xs ys : List Item) → IsPrefix (shorter xs ys) (longer xs ys) → IsPrefix xs (longer xs ys) × IsPrefix ys (longer xs ys)
each_begins xs ys = by_length (λ long short. IsPrefix short long → IsPrefix xs long × IsPrefix ys long) xs ys
    (λ _ p. (prefix_self xs, p))
    (λ _ p. (p, prefix_self ys))

pub longer_whole_left : (xs ys history : List Item) → xs ≡ history → IsPrefix ys history → longer xs ys ≡ history
longer_whole_left xs ys history is q = by_length (λ long short. long ≡ history) xs ys
    (λ _. is)
    (λ lt. let same = ap length is in let le = prefix_length ys history q in absurd (omega arith))

pub longer_whole_right : (xs ys history : List Item) → IsPrefix xs history → ys ≡ history → longer xs ys ≡ history
longer_whole_right xs ys history p is = by_length (λ long short. long ≡ history) xs ys
    (λ le. prefix_whole xs history p (let same = ap length is in omega arith))
    (λ _. is)
