-- The rule before the first step, and what it tells when all seats are joined.
use Rattle.std.proofs.Common.{◌≡◌, ◌≢◌, ℕ, zero, suc, ◌+◌, ◌<◌, ◌≤◌, true, false, true≢false, List, [], ◌∷◌, set, refl, sym, ap, ◌∙◌, subst, ⊎_elim, arith}
use Rattle.std.specs.Prelude.{Option, Some, IsSome}
use mathlib.Core.Logic.{dite}
use mathlib.Core.Option.{some, some-injective, some-ne-none}
use native.Mathlib.Decide.{ℕ_discrete}
use lib.ListN.{get_elem?}
use Rattle.atomic_table.specs.Table.{opening, Final, Seen}
use Rattle.atomic_table.proofs.Lists.{set_else}
use Rattle.turn_words.specs.declared.items.Item.{Item}
use Rattle.turn_words.specs.declared.rule.TurnView.{TurnView}
use Rattle.turn_words.specs.Items.{heard}
use Rattle.turn_words.specs.Rule.{AreIn, Cells, total, in_use, Fits, IsHome, IsTurns, IsKept, Told, opened, spent}
use Rattle.turn_words.proofs.Counts.{total_at_least, total_set}
use Rattle.turn_words.proofs.Held.{contrary, decide, not_true}
use Rattle.turn_words.proofs.Views.{live_counts, not_out}

module _ {T : Type 0} where
  -- the one view of a list of one
  one_view : (w v : TurnView T) (by : ℕ) (P : ℕ → TurnView T → Type 0) → P zero w → get_elem? (w ∷ []) by ≡ some v → P by v
  one_view w v zero P p e = subst (P zero) (some-injective w v e) p
  one_view w v (suc by) P p e = absurd (some-ne-none v (sym e))

  -- where one seat is in use, no other view is
  only_live : (views : List (TurnView T)) (id by : ℕ) (v u : TurnView T) → total in_use views ≡ 1 → get_elem? views id ≡ some v → v.is_spent ≡ false → by ≢ id → get_elem? views by ≡ some u → u.is_spent ≡ true
  only_live views id by v u one at live other there = ⊎_elim
      (λ (is : u.is_spent ≡ true). is)
      (λ (not : u.is_spent ≡ false).
      let without = total_set in_use views id v spent at in
      let mine = live_counts v live in
      let theirs = live_counts u not in
      let part = total_at_least in_use (set views id spent) by u (set_else views id by spent other ∙ there) in
      absurd (omega arith))
      (decide u.is_spent)

module _ {T : Type 0} (stands : T → List Item → Type 0) where
  opened_fits : Fits stands [] opened
  opened_fits = record {
    spent = λ is. absurd (true≢false (sym is));
    seen = ([], refl);
    met = ([], refl);
    mine = (tt, λ place x has. absurd has);
    held = λ pid is. absurd (true≢false (sym is));
    turn = λ is. absurd (true≢false (sym is));
    out = λ is. absurd (true≢false (sym is));
    put = λ is. absurd (true≢false (sym is));
  }

  -- a value that stands for nothing, with the seat of `boot`
  opens_with : (value : T) → stands value [] → IsTurns stands [] (opening (0 ∷ 0 ∷ []) (Some value ∷ []) opened)
  opens_with value st = record {
    two_words = refl;
    serving = refl;
    ticket = refl;
    few = omega arith;
    one_boot = refl;
    boot = λ by v e. one_view opened v by (λ _ u. u.is_boot ≡ true → (u.is_spent ≡ false) × (u.others + 1 ≡ 1)) (λ _. (refl, refl)) e;
    tickets = λ by v e. one_view opened v by (λ _ u. u.has_ticket ≡ true → (0 ≤ u.ticket) × (u.ticket < 0)) (λ is. absurd (true≢false (sym is))) e;
    each = λ by v e. one_view opened v by (λ _ u. Fits stands [] u) opened_fits e;
    apart = λ by other v w ne e f. absurd (ne (one_view opened v by (λ k _. k ≡ other) (one_view opened w other (λ k _. 0 ≡ k) refl f) e));
    knower = (0, opened, refl, refl, refl);
    home = λ _. (value, refl, st);
    back = λ by v e. one_view opened v by (λ _ u. u.has_put ≡ true → u.is_out ≡ false → (x : T) × (u.value ≡ Some x) × IsHome stands (opening (0 ∷ 0 ∷ []) (Some value ∷ []) opened) x)
        (λ is. absurd (true≢false (sym is))) e;
  }

  pub opens : (value : T) (slots : List (Option T)) → slots ≡ Some value ∷ [] → stands value [] → IsKept stands (opening (0 ∷ 0 ∷ []) slots opened)
  opens value slots is st = ([], subst (λ l. IsTurns stands [] (opening (0 ∷ 0 ∷ []) l opened)) (sym is) (opens_with value st))

  -- where one seat is left, the value is at home and stands for all that this seat has seen
  closed_state : (s : Cells T) (id : ℕ) (v : TurnView T) → IsKept stands s → get_elem? s.views id ≡ some v → v.is_spent ≡ false → v.is_boot ≡ true → v.others ≡ 0 → v.has_ticket ≡ false
      → (value : T) × IsHome stands s value × stands value (heard v.seen)
  closed_state s id v kept at live boot none_else free =
      let history = kept.0 in
      let r = kept.1 in
      let number = (r.boot id v at boot).1 in
      let one : total in_use s.views ≡ 1 = omega arith in
      let idle : (u : TurnView T) → Fits stands history u → u.has_ticket ≡ false → (u.is_out ≡ false) × (u.has_put ≡ false) =
      λ u f no_ticket. not_out stands history u f (not_true u.has_turn (λ is. contrary u.has_ticket (f.turn is).0 no_ticket)) in
      let same : (by : ℕ) (u : TurnView T) → by ≡ id → get_elem? s.views by ≡ some u → v ≡ u =
      λ by u is e. some-injective v u (sym at ∙ subst (λ (j : ℕ). get_elem? s.views j ≡ some u) is e) in
      let home = r.home (λ by u e. dite (ℕ_discrete by id)
      (λ (is : by ≡ id). subst (λ z. (z.is_out ≡ false) × (z.has_put ≡ false)) (same by u is e) (idle v (r.each id v at) free))
      (λ (other : by ≢ id). let f = r.each by u e in idle u f (f.spent (only_live s.views id by v u one at live other e)))) in
      let knower : ℕ = r.knower.0 in
      let seen : v.seen ≡ history = dite (ℕ_discrete knower id)
      (λ (is : knower ≡ id). ap (λ z. z.seen) (same knower r.knower.1 is r.knower.2) ∙ r.knower.4)
      (λ (other : knower ≢ id). contrary r.knower.1.is_spent (only_live s.views id knower v r.knower.1 one at live other r.knower.2) r.knower.3) in
      (home.0, home.1, subst (λ l. stands home.0 (heard l)) (sym seen) home.2)

  -- the slot has a value, which stands for all that the one seat left has seen
  pub closes : (id : ℕ) (v : TurnView T) (words : List ℕ) (slots : List (Option T)) (slot : Option T) → Final (Seen (IsKept stands) id v) words slots → get_elem? slots 0 ≡ some slot
      → v.is_spent ≡ false → v.is_boot ≡ true → v.others ≡ 0 → v.has_ticket ≡ false → IsSome slot × Told stands slot (heard v.seen)
  closes id v words slots slot end at_slot live boot none_else free =
      let known = closed_state end.0 id v end.1.0 end.1.1 live boot none_else free in
      let is : Some known.0 ≡ slot = some-injective (Some known.0) slot (sym (end.4 0 (Some known.0) known.1) ∙ at_slot) in
      (subst (λ (o : Option T). IsSome o) is refl, subst (λ (o : Option T). Told stands o (heard v.seen)) is known.2)

  pub closes_in : (id : ℕ) (v : TurnView T) (words : List ℕ) (slots : List (Option T)) → Final (Seen (IsKept stands) id v) words slots → AreIn v.mine v.seen
  closes_in id v words slots end = (end.1.0.1.each id v end.1.1).mine
