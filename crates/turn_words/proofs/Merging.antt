-- The items of two seats, put together by their places.
use Rattle.std.proofs.Common.{◌≡◌, ◌≢◌, ℕ, suc, ◌+◌, ◌<◌, ◌≤◌, ◌⊎◌, cond, List, [], ◌∷◌, refl, sym, subst, inl, inr, ⊎_elim, arith}
use Rattle.std.proofs.lemmas.Bool.Decides.{leb_tells}
use Rattle.turn_words.specs.declared.items.Item.{Item}
use Rattle.turn_words.specs.Items.{Placed, Has, Rises, insert_by_place, merged}
use Rattle.turn_words.proofs.Held.{risen}

-- one more among others: it or one of them
insert_cases : (P : List Placed → Type 0) (p q : Placed) (placed : List Placed) → (p.0 < q.0 → P (p ∷ q ∷ placed)) → (q.0 ≤ p.0 → P (q ∷ insert_by_place p placed)) → P (insert_by_place p (q ∷ placed))
insert_cases P p q placed before behind = ⊎_elim
    (λ h. subst (λ b. P (cond b (p ∷ q ∷ placed) (q ∷ insert_by_place p placed))) (sym h.0) (before (let n = h.1 in omega arith)))
    (λ h. subst (λ b. P (cond b (p ∷ q ∷ placed) (q ∷ insert_by_place p placed))) (sym h.0) (behind (let n = h.1 in omega arith)))
    (leb_tells (suc p.0) q.0)

inserted : (p : Placed) (placed : List Placed) (place : ℕ) (x : Item) → Has (insert_by_place p placed) place x → ((p.0 ≡ place) × (p.1 ≡ x)) ⊎ Has placed place x
inserted p [] place x = λ has. has
inserted p (q ∷ placed) place x = insert_cases (λ l. Has l place x → ((p.0 ≡ place) × (p.1 ≡ x)) ⊎ Has (q ∷ placed) place x) p q placed
    (λ _ has. has)
    (λ _ has. ⊎_elim
    (λ (is : (q.0 ≡ place) × (q.1 ≡ x)). inr (inl is))
    (λ (rest : Has (insert_by_place p placed) place x). ⊎_elim
    (λ (is : (p.0 ≡ place) × (p.1 ≡ x)). inl is)
    (λ (old : Has placed place x). inr (inr old))
    (inserted p placed place x rest))
    has)

inserts : (p : Placed) (placed : List Placed) (place : ℕ) (x : Item) → ((p.0 ≡ place) × (p.1 ≡ x)) ⊎ Has placed place x → Has (insert_by_place p placed) place x
inserts p [] place x = λ has. has
inserts p (q ∷ placed) place x = insert_cases (λ l. ((p.0 ≡ place) × (p.1 ≡ x)) ⊎ Has (q ∷ placed) place x → Has l place x) p q placed
    (λ _ has. has)
    (λ _ has. ⊎_elim
    (λ (is : (p.0 ≡ place) × (p.1 ≡ x)). inr (inserts p placed place x (inl is)))
    (λ (old : Has (q ∷ placed) place x). ⊎_elim
    (λ (is : (q.0 ≡ place) × (q.1 ≡ x)). inl is)
    (λ (rest : Has placed place x). inr (inserts p placed place x (inr rest)))
    old)
    has)

insert_rises : (low : ℕ) (p : Placed) (placed : List Placed) → Rises low placed → low ≤ p.0 → ((x : Item) → Has placed p.0 x → ⊥) → Rises low (insert_by_place p placed)
insert_rises low p [] up le apart = (le, tt)
insert_rises low p (q ∷ placed) up le apart = insert_cases (Rises low) p q placed
    (λ lt. let more : p.0 + 1 ≤ q.0 = omega arith in (le, (more, up.1)))
    (λ ge.
    let other : q.0 ≢ p.0 = λ e. apart q.1 (inl (e, refl)) in
    let more : q.0 + 1 ≤ p.0 = omega arith in
    (up.0, insert_rises (q.0 + 1) p placed up.1 more (λ x has. apart x (inr has))))

-- what is among the items of both is among those of one
pub merged_has : (mine more : List Placed) (place : ℕ) (x : Item) → Has (merged mine more) place x → Has mine place x ⊎ Has more place x
merged_has mine [] place x has = inl has
merged_has mine (p ∷ more) place x has = ⊎_elim
    (λ (is : (p.0 ≡ place) × (p.1 ≡ x)). inr (inl is))
    (λ (rest : Has (merged mine more) place x). ⊎_elim
    (λ (old : Has mine place x). inl old)
    (λ (new : Has more place x). inr (inr new))
    (merged_has mine more place x rest))
    (inserted p (merged mine more) place x has)

pub merged_left : (mine more : List Placed) (place : ℕ) (x : Item) → Has mine place x → Has (merged mine more) place x
merged_left mine [] place x has = has
merged_left mine (p ∷ more) place x has = inserts p (merged mine more) place x (inr (merged_left mine more place x has))

pub merged_right : (mine more : List Placed) (place : ℕ) (x : Item) → Has more place x → Has (merged mine more) place x
merged_right mine [] place x has = absurd has
merged_right mine (p ∷ more) place x has = inserts p (merged mine more) place x (⊎_elim
    (λ (is : (p.0 ≡ place) × (p.1 ≡ x)). inl is)
    (λ (rest : Has more place x). inr (merged_right mine more place x rest))
    has)

-- where no place is in both, the places rise
pub merged_rises : (low low' : ℕ) (mine more : List Placed) → Rises low mine → Rises low' more → low ≤ low' → ((place : ℕ) (x y : Item) → Has mine place x → Has more place y → ⊥) → Rises low (merged mine more)
merged_rises low low' mine [] up up' le apart = up
merged_rises low low' mine (p ∷ more) up up' le apart =
    let first = up'.0 in
    insert_rises low p (merged mine more)
    (merged_rises low (p.0 + 1) mine more up up'.1 (omega arith) (λ place x y has has'. apart place x y has (inr has')))
    (omega arith)
    (λ x has. ⊎_elim
    (λ (old : Has mine p.0 x). apart p.0 x p.1 old (inl (refl, refl)))
    (λ (new : Has more p.0 x). let above = risen (p.0 + 1) more p.0 x up'.1 new in absurd (omega arith))
    (merged_has mine more p.0 x has))
