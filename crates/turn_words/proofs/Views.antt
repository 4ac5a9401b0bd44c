-- All views after one of them has changed, and what the rule says of two of them.
use Rattle.std.proofs.Common.{◌≡◌, ◌≢◌, ℕ, ◌+◌, ◌%◌, ◌^◌, ◌<◌, ◌≤◌, Bool, true, false, cond, List, length, set, sym, ap, ◌∙◌, subst, ⊎_elim, arith, length-set}
use Rattle.std.specs.Prelude.{slice_index, Option, Some}
use mathlib.Core.Logic.{dite}
use mathlib.Core.Option.{some, some-injective}
use native.Mathlib.Decide.{ℕ_discrete}
use lib.ListN.{get_elem?}
use Rattle.atomic_table.specs.Table.{Act, stepped}
use Rattle.atomic_table.proofs.Lists.{at_set, set_else, set_here}
use Rattle.turn_words.specs.declared.items.Item.{Item}
use Rattle.turn_words.specs.declared.rule.TurnView.{TurnView}
use Rattle.turn_words.specs.Items.{heard}
use Rattle.turn_words.specs.Rule.{Cells, total, in_use, as_boot, waiting, Each, Apart, Fits, IsHome, IsTurns, spent}
use Rattle.turn_words.proofs.Lists.{at_below}
use Rattle.turn_words.proofs.Counts.{total_set, total_at_least, total_below}
use Rattle.turn_words.proofs.Held.{contrary, decide, not_true}

module _ {T : Type 0} where
  -- what holds of the new view and of all others holds of each
  pub each_set : (P : TurnView T → Type 0) (views : List (TurnView T)) (id : ℕ) (w : TurnView T) → P w
      → ((by : ℕ) (u : TurnView T) → by ≢ id → get_elem? views by ≡ some u → P u) → Each (set views id w) P
  each_set P views id w here there by u e = ⊎_elim
      (λ (x : (by ≡ id) × (w ≡ u)). subst P x.1 here)
      (λ (x : (by ≢ id) × (get_elem? views by ≡ some u)). there by u x.0 x.1)
      (at_set views id by w u e)

  -- and the other way round
  pub each_was : (P : TurnView T → Type 0) (views : List (TurnView T)) (id : ℕ) (v w : TurnView T) → get_elem? views id ≡ some v → (P w → P v)
      → Each (set views id w) P → Each views P
  each_was P views id v w at back all by u e = dite (ℕ_discrete by id)
      (λ (is : by ≡ id).
      let same : v ≡ u = some-injective v u (sym at ∙ subst (λ (k : ℕ). get_elem? views k ≡ some u) is e) in
      subst P same (back (all id w (set_here views id w (at_below views id v at)))))
      (λ (other : by ≢ id). all by u (set_else views id by w other ∙ e))

  pub apart_back : (v w : TurnView T) → Apart v w → Apart w v
  apart_back v w a = record {
    tickets = λ x y e. a.tickets y x (sym e);
    places = λ place x y has has'. a.places place y x has' has;
  }

  -- two different views are apart, where the new one is apart from each other one
  pub apart_set : (views : List (TurnView T)) (id : ℕ) (w : TurnView T)
      → ((by other : ℕ) (v u : TurnView T) → by ≢ other → get_elem? views by ≡ some v → get_elem? views other ≡ some u → Apart v u)
      → ((by : ℕ) (u : TurnView T) → by ≢ id → get_elem? views by ≡ some u → Apart w u)
      → (by other : ℕ) (v u : TurnView T) → by ≢ other → get_elem? (set views id w) by ≡ some v → get_elem? (set views id w) other ≡ some u → Apart v u
  apart_set views id w all new by other v u ne e f = ⊎_elim
      (λ (x : (by ≡ id) × (w ≡ v)). ⊎_elim
      (λ (y : (other ≡ id) × (w ≡ u)). absurd (ne (x.0 ∙ sym y.0)))
      (λ (y : (other ≢ id) × (get_elem? views other ≡ some u)). subst (λ z. Apart z u) x.1 (new other u y.0 y.1))
      (at_set views id other w u f))
      (λ (x : (by ≢ id) × (get_elem? views by ≡ some v)). ⊎_elim
      (λ (y : (other ≡ id) × (w ≡ u)). subst (λ z. Apart v z) y.1 (apart_back w v (new by v x.0 x.1)))
      (λ (y : (other ≢ id) × (get_elem? views other ≡ some u)). all by other v u ne x.1 y.1)
      (at_set views id other w u f))
      (at_set views id by w v e)

  pub live_counts : (v : TurnView T) → v.is_spent ≡ false → in_use v ≡ 1
  live_counts v e = ap (λ (b : Bool). cond b 0 1) e

  pub spent_counts : (v : TurnView T) → v.is_spent ≡ true → in_use v ≡ 0
  spent_counts v e = ap (λ (b : Bool). cond b 0 1) e

  pub waiting_is : (v : TurnView T) → v.has_ticket ≡ true → waiting v ≡ 1
  waiting_is v e = ap (λ (b : Bool). cond b 1 0) e

  pub waiting_not : (v : TurnView T) → v.has_ticket ≡ false → waiting v ≡ 0
  waiting_not v e = ap (λ (b : Bool). cond b 1 0) e

  -- where a live view is put in place of a live one
  pub in_use_same : (views : List (TurnView T)) (id : ℕ) (v w : TurnView T) → get_elem? views id ≡ some v → v.is_spent ≡ false → w.is_spent ≡ false
      → total in_use (set views id w) ≡ total in_use views
  in_use_same views id v w at live live' =
      let t = total_set in_use views id v w at in
      let a = live_counts v live in
      let b = live_counts w live' in
      omega arith

  pub boots_same : (views : List (TurnView T)) (id : ℕ) (v w : TurnView T) → get_elem? views id ≡ some v → w.is_boot ≡ v.is_boot → total as_boot (set views id w) ≡ total as_boot views
  boots_same views id v w at same =
      let t = total_set as_boot views id v w at in
      let a : as_boot w ≡ as_boot v = ap (λ (b : Bool). cond b 1 0) same in
      omega arith

  -- no other view than that of `boot` is one
  pub only_boot : (views : List (TurnView T)) (id by : ℕ) (v u : TurnView T) → total as_boot views ≡ 1 → get_elem? views id ≡ some v → v.is_boot ≡ true → by ≢ id → get_elem? views by ≡ some u → u.is_boot ≡ false
  only_boot views id by v u one at boot other there = not_true u.is_boot
      (λ also. let without = total_set as_boot views id v spent at in
      let mine : as_boot v ≡ 1 = ap (λ (b : Bool). cond b 1 0) boot in
      let theirs : as_boot u ≡ 1 = ap (λ (b : Bool). cond b 1 0) also in
      let part = total_at_least as_boot (set views id spent) by u (set_else views id by spent other ∙ there) in
      omega arith)

module _ {T : Type 0} (stands : T → List Item → Type 0) where
  waits_in_use : (history : List Item) (v : TurnView T) → Fits stands history v → waiting v ≤ in_use v
  waits_in_use history v f = ⊎_elim
      (λ (is : v.is_spent ≡ true). let a = spent_counts v is in let b = waiting_not v (f.spent is) in omega arith)
      (λ (not : v.is_spent ≡ false). let a = live_counts v not in ⊎_elim
      (λ (has : v.has_ticket ≡ true). let b = waiting_is v has in omega arith)
      (λ (none : v.has_ticket ≡ false). let b = waiting_not v none in omega arith)
      (decide v.has_ticket))
      (decide v.is_spent)

  -- so few tickets are out that none wraps round
  pub few_wait : (history : List Item) (s : Cells T) → IsTurns stands history s → total waiting s.views ≤ 2 ^ 32 + 1
  few_wait history s r =
      let below = total_below waiting in_use s.views (λ by v at. waits_in_use history v (r.each by v at)) in
      let few = r.few in
      omega arith

  -- one seat at most has the turn
  pub alone : (history : List Item) (s : Cells T) (id : ℕ) (v : TurnView T) → IsTurns stands history s → get_elem? s.views id ≡ some v → v.has_turn ≡ true
      → (by : ℕ) (u : TurnView T) → by ≢ id → get_elem? s.views by ≡ some u → u.has_turn ≡ false
  alone history s id v r at turn by u other there = not_true u.has_turn (λ also.
      let mine = (r.each id v at).turn turn in
      let theirs = (r.each by u there).turn also in
      (r.apart by id u v other there at).tickets theirs.0 mine.0 (theirs.1 ∙ sym mine.1))

  pub not_out : (history : List Item) (u : TurnView T) → Fits stands history u → u.has_turn ≡ false → (u.is_out ≡ false) × (u.has_put ≡ false)
  not_out history u f none = (
    not_true u.is_out (λ is. contrary u.has_turn (f.out is).0 none),
    not_true u.has_put (λ is. contrary u.has_turn (f.put is).0 none),
  )

  -- the rule after a step of the seat id, whose view becomes w, where the history becomes `later`
  pub changed : (history later : List Item) (s : Cells T) (id i n drawn : ℕ) (c : List (ℕ × Option T)) (v w : TurnView T) (a : Act (Option T))
      → IsTurns stands history s → get_elem? s.views id ≡ some v
      → v.is_spent ≡ false → w.is_spent ≡ false → w.is_boot ≡ v.is_boot → w.others ≡ v.others
      → slice_index (set s.words i n) 0 ≡ length later % 2 ^ 64
      → slice_index (set s.words i n) 1 ≡ drawn % 2 ^ 64
      → drawn + waiting v ≡ length later + total waiting s.views + waiting w
      → Fits stands later w
      → ((by : ℕ) (u : TurnView T) → by ≢ id → get_elem? s.views by ≡ some u → Fits stands later u)
      → (w.has_ticket ≡ true → (length later ≤ w.ticket) × (w.ticket < drawn))
      → ((by : ℕ) (u : TurnView T) → by ≢ id → get_elem? s.views by ≡ some u → u.has_ticket ≡ true → (length later ≤ u.ticket) × (u.ticket < drawn))
      → ((by : ℕ) (u : TurnView T) → by ≢ id → get_elem? s.views by ≡ some u → Apart w u)
      → ((by : ℕ) × (u : TurnView T) × (get_elem? (set s.views id w) by ≡ some u) × (u.is_spent ≡ false) × (u.seen ≡ later))
      → (Each (set s.views id w) (λ u. (u.is_out ≡ false) × (u.has_put ≡ false)) → (value : T) × IsHome stands (stepped s i n id c w a) value × stands value (heard later))
      → Each (set s.views id w) (λ u. u.has_put ≡ true → u.is_out ≡ false → (value : T) × (u.value ≡ Some value) × IsHome stands (stepped s i n id c w a) value)
      → IsTurns stands later (stepped s i n id c w a)
  changed history later s id i n drawn c v w a r at live live' same_boot same_others serving ticket count fits others_fit mine theirs apart knower home back =
      let views = set s.views id w in
      let sum = total_set waiting s.views id v w at in
      let is : drawn ≡ length later + total waiting views = omega arith in
      let live_same = in_use_same s.views id v w at live live' in
      record {
        two_words = length-set s.words i n ∙ r.two_words;
        serving = serving;
        ticket = ticket ∙ ap (λ (k : ℕ). k % 2 ^ 64) is;
        few = subst (λ (k : ℕ). k ≤ 2 ^ 32 + 1) (sym live_same) r.few;
        one_boot = boots_same s.views id v w at same_boot ∙ r.one_boot;
        boot = each_set (λ u. u.is_boot ≡ true → (u.is_spent ≡ false) × (u.others + 1 ≡ total in_use views)) s.views id w
            (λ boot. (live', ap (λ (k : ℕ). k + 1) same_others ∙ (r.boot id v at (sym same_boot ∙ boot)).1 ∙ sym live_same))
            (λ by u _ there boot. let known = r.boot by u there boot in (known.0, known.1 ∙ sym live_same));
        tickets = each_set (λ u. u.has_ticket ≡ true → (length later ≤ u.ticket) × (u.ticket < length later + total waiting views)) s.views id w
            (λ has. subst (λ (k : ℕ). (length later ≤ w.ticket) × (w.ticket < k)) is (mine has))
            (λ by u other there has. subst (λ (k : ℕ). (length later ≤ u.ticket) × (u.ticket < k)) is (theirs by u other there has));
        each = each_set (Fits stands later) s.views id w fits others_fit;
        apart = apart_set s.views id w r.apart apart;
        knower = knower;
        home = home;
        back = back;
      }

  -- the seat that has seen all still has, where the changed view has seen as much as before
  pub still_knows : (history : List Item) (s : Cells T) (id : ℕ) (v w : TurnView T) → IsTurns stands history s → get_elem? s.views id ≡ some v → w.is_spent ≡ false → (v.seen ≡ history → w.seen ≡ history)
      → (by : ℕ) × (u : TurnView T) × (get_elem? (set s.views id w) by ≡ some u) × (u.is_spent ≡ false) × (u.seen ≡ history)
  still_knows history s id v w r at live' same =
      let by : ℕ = r.knower.0 in
      let u = r.knower.1 in
      let there = r.knower.2 in
      dite (ℕ_discrete by id)
      (λ (is : by ≡ id).
      let view : v ≡ u = some-injective v u (sym at ∙ subst (λ (k : ℕ). get_elem? s.views k ≡ some u) is there) in
      (id, w, set_here s.views id w (at_below s.views id v at), live', same (ap (λ z. z.seen) view ∙ r.knower.4)))
      (λ (other : by ≢ id). (by, u, set_else s.views id by w other ∙ there, r.knower.3, r.knower.4))
