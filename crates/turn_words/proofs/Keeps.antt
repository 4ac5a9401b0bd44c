-- Each kind of step on a word keeps the turn rule.
use Rattle.std.proofs.Common.{◌≡◌, ◌≢◌, ℕ, ◌+◌, ◌%◌, ◌^◌, ◌<◌, ◌≤◌, Bool, true, false, true≢false, cond, List, length, set, refl, sym, ap, ◌∙◌, subst, arith, get_or-set_other, get_or-set_same, eq-eqb}
use Rattle.std.proofs.lemmas.Bool.{eqb-true}
use Rattle.std.specs.Prelude.{slice_index, Option, Some}
use mathlib.Core.List.{IsPrefix}
use mathlib.Core.Logic.{dite}
use mathlib.Core.Option.{none, some}
use native.Mathlib.Decide.{ℕ_discrete}
use lib.ListN.{get_elem?}
use Rattle.atomic_table.specs.Table.{step, keeps, stepped, Allows}
use Rattle.turn_words.specs.declared.items.Item.{Item}
use Rattle.turn_words.specs.declared.rule.TurnView.{TurnView}
use Rattle.turn_words.specs.Items.{heard, Has, holds}
use Rattle.turn_words.specs.Rule.{AreIn, IsLast, Cells, Mine, total, waiting, Apart, Fits, IsHome, IsTurns, IsKept, IsPutBack, drawing, looking, Draws, Looks, Compares}
use Rattle.turn_words.proofs.Lists.{prefix_length}
use Rattle.turn_words.proofs.Held.{contrary, not_true}
use Rattle.turn_words.proofs.Views.{changed, each_set, each_was, few_wait, not_out, still_knows, waiting_not}

module _ {T : Type 0} (stands : T → List Item → Type 0) where
  -- a word that is written as it was
  pub unchanged : (words : List ℕ) (i j n : ℕ) → i < length words → n ≡ slice_index words i → slice_index (set words i n) j ≡ slice_index words j
  unchanged words i j n fits is = dite (ℕ_discrete j i)
      (λ (same : j ≡ i). subst (λ (k : ℕ). slice_index (set words i n) k ≡ slice_index words k) (sym same) (get_or-set_same words i n 0 fits ∙ is))
      (λ (other : j ≢ i). get_or-set_other words i j n 0 other)

  -- a view whose looks, ticket and turn alone have changed
  same_but_turn : (history : List Item) (v w : TurnView T) → Fits stands history v
      → w.is_spent ≡ false → w.seen ≡ v.seen → w.met ≡ v.met → w.mine ≡ v.mine → w.is_out ≡ v.is_out → w.has_put ≡ v.has_put → w.value ≡ v.value → w.names ≡ v.names
      → (w.has_turn ≡ true → (w.has_ticket ≡ true) × (w.ticket ≡ length history)) → (v.has_turn ≡ true → w.has_turn ≡ true) → Fits stands history w
  same_but_turn history v w f live seen met mine out put value names turn still = record {
    spent = λ is. contrary w.is_spent is live;
    seen = subst (λ l. IsPrefix l history) (sym seen) f.seen;
    met = subst (λ l. IsPrefix l w.seen) (sym met) (subst (λ l. IsPrefix v.met l) (sym seen) f.met);
    mine = subst (λ l. AreIn l w.seen) (sym mine) (subst (λ l. AreIn v.mine l) (sym seen) f.mine);
    held = λ pid h. subst (λ l. IsLast pid history l) (sym mine) (f.held pid (subst (λ l. holds pid l ≡ true) mine h));
    turn = turn;
    out = λ is. let known = f.out (sym out ∙ is) in (still known.0, seen ∙ known.1);
    put = λ is. let known = f.put (sym put ∙ is) in
        (still known.0, seen ∙ known.1, (known.2.0, value ∙ known.2.1, subst (λ l. IsPutBack stands (heard history) known.2.0 l) (sym names) known.2.2));
  }

  -- a step that leaves the history and the slot: draw, look, compare
  quietly : (history : List Item) (s : Cells T) (id i n drawn : ℕ) (c : List (ℕ × Option T)) (v w : TurnView T) → IsTurns stands history s → get_elem? s.views id ≡ some v
      → v.is_spent ≡ false → w.is_spent ≡ false → w.is_boot ≡ v.is_boot → w.others ≡ v.others → w.seen ≡ v.seen → w.is_out ≡ v.is_out → w.has_put ≡ v.has_put → w.value ≡ v.value
      → slice_index (set s.words i n) 0 ≡ length history % 2 ^ 64
      → slice_index (set s.words i n) 1 ≡ drawn % 2 ^ 64
      → drawn + waiting v ≡ length history + total waiting s.views + waiting w
      → Fits stands history w
      → (w.has_ticket ≡ true → (length history ≤ w.ticket) × (w.ticket < drawn))
      → (length history + total waiting s.views ≤ drawn)
      → ((by : ℕ) (u : TurnView T) → by ≢ id → get_elem? s.views by ≡ some u → Apart w u)
      → IsTurns stands history (stepped s i n id c w keeps)
  quietly history s id i n drawn c v w r at live live' boot others seen out put value serving ticket count fits mine more apart =
      changed stands history history s id i n drawn c v w keeps r at live live' boot others serving ticket count fits
      (λ by u _ there. r.each by u there)
      mine
      (λ by u _ there has. let known = r.tickets by u there has in let below = known.1 in (known.0, omega arith))
      apart
      (still_knows stands history s id v w r at live' (λ e. seen ∙ e))
      (λ all. r.home (each_was (λ u. (u.is_out ≡ false) × (u.has_put ≡ false)) s.views id v w at (λ h. (sym out ∙ h.0, sym put ∙ h.1)) all))
      (each_set (λ u. u.has_put ≡ true → u.is_out ≡ false → (x : T) × (u.value ≡ Some x) × IsHome stands s x) s.views id w
      (λ is not. let known = r.back id v at (sym put ∙ is) (sym out ∙ not) in (known.0, value ∙ known.1, known.2))
      (λ by u _ there. r.back by u there))

  -- a ticket is drawn: its number is that of the tickets and items so far
  pub draws : (slots id : ℕ) (me : Mine T) → me.0.is_spent ≡ false → me.0.has_ticket ≡ false → Allows (IsKept stands) slots id me 1 (λ n. (n + 1) % 2 ^ 64) (Draws (step slots 1 1 0 none) me)
  draws slots id me live free s k _ at _ =
      let history = k.0 in
      let r = k.1 in
      let v = me.0 in
      let n : ℕ = length history + total waiting s.views in
      let word : ℕ = slice_index s.words 1 in
      let found : word ≡ n % 2 ^ 64 = r.ticket in
      let next : ℕ = (word + 1) % 2 ^ 64 in
      let w = drawing v n in
      let f = r.each id v at in
      let two = r.two_words in
      let free_counts = waiting_not v free in
      let seen = prefix_length v.seen history f.seen in
      let no_turn : v.has_turn ≡ false = not_true v.has_turn (λ e. contrary v.has_ticket (f.turn e).0 free) in
      let idle = not_out stands history v f no_turn in (
        w,
        keeps,
        tt,
        (
          history,
          quietly history s id 1 next (n + 1) me.1 v w r at live live refl refl refl (sym idle.0) (sym idle.1) refl
              (get_or-set_other s.words 1 0 next 0 (λ e. omega arith) ∙ r.serving)
              (get_or-set_same s.words 1 next 0 (omega arith) ∙ omega arith)
              (omega arith)
              (same_but_turn history v w f live refl refl refl (sym idle.0) (sym idle.1) refl refl (λ e. absurd (true≢false (sym e))) (λ e. contrary v.has_turn e no_turn))
              (λ _. (omega arith, omega arith))
              (omega arith)
              (λ by u other there. let a = r.apart id by v u (λ e. other (sym e)) at there in record {
                tickets = λ _ has e. let known = r.tickets by u there has in let below = known.1 in let same : n ≡ u.ticket = e in omega arith;
                places = a.places;
              }),
        ),
        (n, refl, found, omega arith),
      )

  -- a load of the serving word, whose view w has the same but for looks and turn
  loads : (history : List Item) (s : Cells T) (id : ℕ) (c : List (ℕ × Option T)) (v w : TurnView T) → IsTurns stands history s → get_elem? s.views id ≡ some v
      → v.is_spent ≡ false → w.is_spent ≡ false → w.is_boot ≡ v.is_boot → w.others ≡ v.others → w.seen ≡ v.seen → w.is_out ≡ v.is_out → w.has_put ≡ v.has_put → w.value ≡ v.value
      → w.has_ticket ≡ v.has_ticket → w.ticket ≡ v.ticket → w.mine ≡ v.mine → Fits stands history w
      → IsTurns stands history (stepped s 0 (slice_index s.words 0) id c w keeps)
  loads history s id c v w r at live live' boot others seen out put value has number mine fits =
      let word : ℕ = slice_index s.words 0 in
      let two = r.two_words in
      let same : waiting w ≡ waiting v = ap (λ (b : Bool). cond b 1 0) has in
      quietly history s id 0 word (length history + total waiting s.views) c v w r at live live' boot others seen out put value
      (unchanged s.words 0 0 word (omega arith) refl ∙ r.serving)
      (unchanged s.words 0 1 word (omega arith) refl ∙ r.ticket)
      (omega arith)
      fits
      (λ h. let known = r.tickets id v at (sym has ∙ h) in let low = known.0 in let high = known.1 in (omega arith, omega arith))
      (omega arith)
      (λ by u other there. let a = r.apart id by v u (λ e. other (sym e)) at there in record {
        tickets = λ h h' e. a.tickets (sym has ∙ h) h' (sym number ∙ e);
        places = λ place x y h h'. a.places place x y (subst (λ l. Has l place x) mine h) h';
      })

  -- the word is the ticket just where the ticket is the number of items
  is_served : (length_now waits ticket word : ℕ) → word ≡ length_now % 2 ^ 64 → length_now ≤ ticket → ticket < length_now + waits → waits ≤ 2 ^ 32 + 1 → word ≡ ticket % 2 ^ 64 → ticket ≡ length_now
  is_served length_now waits ticket word found low high few same = omega arith

  pub looks : (slots id : ℕ) (me : Mine T) → me.0.is_spent ≡ false → me.0.has_ticket ≡ true → Allows (IsKept stands) slots id me 0 (λ n. n) (Looks (step slots 0 0 0 none) me)
  looks slots id me live has s k _ at _ =
      let history = k.0 in
      let r = k.1 in
      let v = me.0 in
      let word : ℕ = slice_index s.words 0 in
      let w = looking v word in
      let f = r.each id v at in
      let known = r.tickets id v at has in
      let served : w.has_turn ≡ true → (v.has_ticket ≡ true) × (v.ticket ≡ length history) =
      λ e. (has, is_served (length history) (total waiting s.views) v.ticket word r.serving known.0 known.1 (few_wait stands history s r) (eqb-true word (v.ticket % 2 ^ 64) e)) in
      let still : v.has_turn ≡ true → word ≡ v.ticket % 2 ^ 64 = λ e. r.serving ∙ ap (λ (n : ℕ). n % 2 ^ 64) (sym (f.turn e).1) in (
        w,
        keeps,
        tt,
        (
          history,
          loads history s id me.1 v w r at live live refl refl refl refl refl refl refl refl refl
              (same_but_turn history v w f live refl refl refl refl refl refl refl served (λ e. eq-eqb word (v.ticket % 2 ^ 64) (still e))),
        ),
        (refl, (length history, r.serving, prefix_length v.seen history f.seen, known.0, still)),
      )

  pub compares : (slots id : ℕ) (me : Mine T) → me.0.is_spent ≡ false → Allows (IsKept stands) slots id me 0 (λ n. n) (Compares (step slots 0 0 0 none) me)
  compares slots id me live s k _ at _ =
      let history = k.0 in
      let r = k.1 in
      let v = me.0 in
      let f = r.each id v at in
      (v, keeps, tt, (history, loads history s id me.1 v v r at live live refl refl refl refl refl refl refl refl refl f), (refl, f.met, f.mine))
