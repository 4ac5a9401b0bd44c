-- Each kind of step keeps the charge rule.
use Rattle.std.proofs.Common.{◌≡◌, ◌≢◌, ℕ, zero, suc, ◌+◌, ◌-◌, ◌%◌, ◌^◌, ◌<◌, ◌≤◌, Bool, true, false, true≢false, cond, eqb, List, [], ◌∷◌, ◌++◌, length, set, get_or, refl, sym, ap, ◌∙◌, subst, ⊎_elim, arith, length-set, get_or-set_same, eq-eqb, ne_eqb}
use Rattle.std.specs.Prelude.{slice_index}
use mathlib.Core.Logic.{dite}
use mathlib.Core.Option.{none, some, some-ne-none}
use native.Mathlib.Decide.{ℕ_discrete}
use lib.ListN.{get_elem?}
use prog.Atomic.{either}
use Rattle.atomic_table.specs.Table.{step, keeps, stepped, Allows, Splits, Joins}
use Rattle.atomic_table.proofs.Lists.{at_set, at_snoc, set_else, set_here}
use Rattle.charge_words.specs.declared.rule.ChargeView.{ChargeView}
use Rattle.charge_words.specs.Rule.{Cells, Mine, total, counted, in_use, as_boot, IsViewOf, IsCharged, holding, reserving, loaded, Tells, Loads, Reserves, GivesBack, with_one_more, newcomer, taken_in, spent}
use Rattle.charge_words.proofs.Totals.{total_set, total_snoc, total_at_least, one_counts}

unspent : (v : ChargeView) → v.is_spent ≡ false → (counted v ≡ v.holds) × (in_use v ≡ 1)
unspent v e = (ap (λ (b : Bool). cond b 0 v.holds) e, ap (λ (b : Bool). cond b 0 1) e)

-- a seat's view becomes one that holds more or less by as much as the word changes
placed : (heap : ℕ) (s : Cells) (id n : ℕ) (c : List (ℕ × Unit {0})) (v w : ChargeView) → IsCharged heap s → get_elem? s.views id ≡ some v → v.is_spent ≡ false
    → w.heap ≡ v.heap → w.is_boot ≡ v.is_boot → w.is_spent ≡ false → w.others ≡ v.others
    → n + v.holds ≡ slice_index s.words 0 + w.holds → n ≤ heap → IsCharged heap (stepped s 0 n id c w keeps)
placed heap s id n c v w r at live same_heap same_boot live' same_others moved room =
    let counts = total_set counted s.views id v w at in
    let seats = total_set in_use s.views id v w at in
    let boots = total_set as_boot s.views id v w at in
    let before = unspent v live in
    let after = unspent w live' in
    let boot : as_boot w ≡ as_boot v = ap (λ (b : Bool). cond b 1 0) same_boot in
    let word : get_or (set s.words 0 n) 0 0 ≡ n = get_or-set_same s.words 0 n 0 (let one = r.one_word in omega arith) in
    let sum = r.sum in
    let one_boot = r.one_boot in
    let here = r.each id v at in
    let in_use_before = before.1 in
    let in_use_after = after.1 in
    let counted_before = before.0 in
    let counted_after = after.0 in
    let same : total in_use (set s.views id w) ≡ total in_use s.views = omega arith in
    let mine : IsViewOf heap (total in_use (set s.views id w)) w = (
      λ _. same_heap ∙ here.0 live,
      λ is. let known = here.1 (sym same_boot ∙ is) in (live', (ap (λ (k : ℕ). k + 1) same_others ∙ known.1 ∙ sym same)),
    ) in
    record {
      one_word = length-set s.words 0 n ∙ r.one_word;
      sum = word ∙ omega arith;
      room = subst (λ (k : ℕ). k ≤ heap) (sym word) room;
      one_boot = omega arith;
      each = λ by u e. ⊎_elim
          (λ (x : (by ≡ id) × (w ≡ u)). subst (IsViewOf heap (total in_use (set s.views id w))) x.1 mine)
          (λ (x : (by ≢ id) × (get_elem? s.views by ≡ some u)). subst (λ (k : ℕ). IsViewOf heap k u) (sym same) (r.each by u x.1))
          (at_set s.views id by w u e);
    }

tells : (heap : ℕ) (s : Cells) (id : ℕ) (v : ChargeView) → IsCharged heap s → get_elem? s.views id ≡ some v → v.is_spent ≡ false → Tells v (slice_index s.words 0)
tells heap s id v r at live =
    let here = r.each id v at in
    let mine = unspent v live in
    let part = total_at_least counted s.views id v at in
    let sum = r.sum in
    let counts = mine.0 in (
      subst (λ (k : ℕ). slice_index s.words 0 ≤ k) (sym (here.0 live)) r.room,
      omega arith,
      λ is alone. let known = (here.1 is).1 in r.sum ∙ one_counts s.views id v at mine.1 (omega arith) ∙ mine.0,
    )

pub loads : (heap slots id : ℕ) (me : Mine) → me.0.is_spent ≡ false → Allows (IsCharged heap) slots id me 0 (λ n. n) (Loads (step slots 0 0 0 none) me)
loads heap slots id me live s r _ at _ =
    let word : ℕ = slice_index s.words 0 in
    let w = loaded me.0 word in
    (w, keeps, tt, placed heap s id word me.1 me.0 w r at live refl refl live refl refl r.room, (refl, tells heap s id me.0 r at live))

-- the word is the expected one, and both it and the seat get the difference more; or it is another, and is loaded
pub reserves : (heap slots id : ℕ) (me : Mine) (old new : ℕ) → me.0.is_spent ≡ false → old ≤ new → new ≤ heap
    → Allows (IsCharged heap) slots id me 0 (λ n. either (eqb n old) new n) (Reserves (step slots 0 old new none) me)
reserves heap slots id me old new live more room s r _ at _ =
    let word : ℕ = slice_index s.words 0 in
    let told = tells heap s id me.0 r at live in
    dite (ℕ_discrete word old)
    (λ hit. let w = reserving me.0 (new - old) in (
      w,
      keeps,
      tt,
      subst (λ b. IsCharged heap (stepped s 0 (either b new word) id me.1 w keeps)) (sym (eq-eqb word old hit))
          (placed heap s id new me.1 me.0 w r at live refl refl live refl (omega arith) room),
      ((λ _. (refl, told)), λ not. absurd (not hit)),
    ))
    (λ miss. let w = loaded me.0 word in (
      w,
      keeps,
      tt,
      subst (λ b. IsCharged heap (stepped s 0 (either b new word) id me.1 w keeps)) (sym (ne_eqb word old miss))
          (placed heap s id word me.1 me.0 w r at live refl refl live refl refl r.room),
      ((λ hit. absurd (miss hit)), λ _. (refl, told)),
    ))

-- the word and the seat lose as much, of what the seat holds
pub gives_back : (heap slots id : ℕ) (me : Mine) (k : ℕ) → me.0.is_spent ≡ false → k ≤ me.0.holds
    → Allows (IsCharged heap) slots id me 0 (λ n. (n + (2 ^ 64 - k)) % 2 ^ 64) (GivesBack (step slots 0 k 0 none) me)
gives_back heap slots id me k live held s r _ at small =
    let word : ℕ = slice_index s.words 0 in
    let told = tells heap s id me.0 r at live in
    let part = told.1 in
    let room = r.room in
    let fits : word < 18446744073709551616 = small in
    let w = holding me.0 (me.0.holds - k) in
    let less : word - k ≡ (word + (2 ^ 64 - k)) % 2 ^ 64 = omega arith in (
      w,
      keeps,
      tt,
      subst (λ (n : ℕ). IsCharged heap (stepped s 0 n id me.1 w keeps)) less (placed heap s id (word - k) me.1 me.0 w r at live refl refl live refl (omega arith) (omega arith)),
      (refl, told),
    )

there_is : (views : List ChargeView) (i : ℕ) (v : ChargeView) → get_elem? views i ≡ some v → i < length views
there_is [] i v e = absurd (some-ne-none v (sym e))
there_is (x ∷ xs) zero v e = omega arith
there_is (x ∷ xs) (suc i) v e = let r = there_is xs i v e in omega arith

not_true : (b : Bool) → (b ≡ true → ⊥) → b ≡ false
not_true true n = absurd (n refl)
not_true false n = refl

-- no other view than that of `boot` is one
only_boot : (views : List ChargeView) (id by : ℕ) (v u : ChargeView) → total as_boot views ≡ 1 → get_elem? views id ≡ some v → v.is_boot ≡ true → by ≢ id → get_elem? views by ≡ some u → u.is_boot ≡ false
only_boot views id by v u one at boot apart there = not_true u.is_boot
    (λ also. let without = total_set as_boot views id v spent at in
    let mine : as_boot v ≡ 1 = ap (λ (b : Bool). cond b 1 0) boot in
    let theirs : as_boot u ≡ 1 = ap (λ (b : Bool). cond b 1 0) also in
    let part = total_at_least as_boot (set views id spent) by u (set_else views id by spent apart ∙ there) in
    omega arith)

-- a view that isn't of `boot` says nothing of the number of seats
any_seats : (heap seats others : ℕ) (u : ChargeView) → u.is_boot ≡ false → IsViewOf heap seats u → IsViewOf heap others u
any_seats heap seats others u not fits = (fits.0, λ is. absurd (true≢false (sym is ∙ not)))

pub splits : (heap id : ℕ) (v : ChargeView) → v.is_spent ≡ false → v.is_boot ≡ true → Splits (IsCharged heap) id v (with_one_more v) (newcomer v)
splits heap id v live boot s r at =
    let left = with_one_more v in
    let right = newcomer v in
    let views = set s.views id left in
    let grown : (f : ChargeView → ℕ) → f left ≡ f v → total f (views ++ right ∷ []) ≡ total f s.views + f right =
    λ f same. let a = total_snoc f views right in let b = total_set f s.views id v left at in omega arith in
    let here = r.each id v at in
    let seats : total in_use (views ++ right ∷ []) ≡ total in_use s.views + 1 = grown in_use refl in
    let mine : IsViewOf heap (total in_use (views ++ right ∷ [])) left = (here.0, λ is. (live, let known = (here.1 is).1 in omega arith)) in
    record {
      one_word = r.one_word;
      sum = let a = grown counted refl in let b = r.sum in omega arith;
      room = r.room;
      one_boot = let a = grown as_boot refl in let b = r.one_boot in omega arith;
      each = λ by u e. ⊎_elim
          (λ (was : get_elem? views by ≡ some u). ⊎_elim
          (λ (x : (by ≡ id) × (left ≡ u)). subst (IsViewOf heap (total in_use (views ++ right ∷ []))) x.1 mine)
          (λ (x : (by ≢ id) × (get_elem? s.views by ≡ some u)). any_seats heap (total in_use s.views) (total in_use (views ++ right ∷ [])) u (only_boot s.views id by v u r.one_boot at boot x.0 x.1) (r.each by u x.1))
          (at_set s.views id by left u was))
          (λ (new : right ≡ u). subst (IsViewOf heap (total in_use (views ++ right ∷ []))) new ((λ _. here.0 live), (λ is. absurd (true≢false (sym is)))))
          (at_snoc views right u by e);
    }

pub joins : (heap id : ℕ) (v : ChargeView) (other : ℕ) (u : ChargeView) → v.is_spent ≡ false → v.is_boot ≡ true → u.is_spent ≡ false → Joins (IsCharged heap) id v other u (taken_in v u) spent
joins heap id v other u live boot live' s r at apart there =
    let both = taken_in v u in
    let views = set s.views id both in
    let final = set views other spent in
    let was : get_elem? s.views other ≡ some u = sym (set_else s.views id other both apart) ∙ there in
    let here = r.each id v at in
    let mine = unspent v live in
    let theirs = unspent u live' in
    let ours = unspent both live in
    let mine_in_use = mine.1 in
    let theirs_in_use = theirs.1 in
    let ours_in_use = ours.1 in
    let mine_counts = mine.0 in
    let theirs_count = theirs.0 in
    let ours_count = ours.0 in
    let a = total_set in_use s.views id v both at in
    let b = total_set in_use views other u spent there in
    let seats : total in_use final + 1 ≡ total in_use s.views = omega arith in
    let stays : get_elem? final id ≡ some both = set_else views other id spent (λ e. apart (sym e)) ∙ set_here s.views id both (there_is s.views id v at) in
    let some_left = total_at_least in_use final id both stays in
    let fits : IsViewOf heap (total in_use final) both = (here.0, λ is. (live, let known = (here.1 is).1 in omega arith)) in
    record {
      one_word = r.one_word;
      sum =
          let c = total_set counted s.views id v both at in
          let d = total_set counted views other u spent there in
          let e = r.sum in
          omega arith;
      room = r.room;
      one_boot =
          let c = total_set as_boot s.views id v both at in
          let d = total_set as_boot views other u spent there in
          let e = r.one_boot in
          let not : as_boot u ≡ 0 = ap (λ (b : Bool). cond b 1 0) (only_boot s.views id other v u r.one_boot at boot apart was) in
          omega arith;
      each = λ by w e. ⊎_elim
          (λ (x : (by ≡ other) × (spent ≡ w)). subst (IsViewOf heap (total in_use final)) x.1 ((λ no. absurd (true≢false no)), (λ is. absurd (true≢false (sym is)))))
          (λ (x : (by ≢ other) × (get_elem? views by ≡ some w)). ⊎_elim
          (λ (y : (by ≡ id) × (both ≡ w)). subst (IsViewOf heap (total in_use final)) y.1 fits)
          (λ (y : (by ≢ id) × (get_elem? s.views by ≡ some w)). any_seats heap (total in_use s.views) (total in_use final) w (only_boot s.views id by v w r.one_boot at boot y.0 y.1) (r.each by w y.1))
          (at_set s.views id by both w x.1))
          (at_set views other by spent w e);
    }
