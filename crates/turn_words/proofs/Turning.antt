-- The steps of the seat with the turn keep the turn rule.
use Rattle.std.proofs.Common.{◌≡◌, ◌≢◌, ℕ, suc, ◌+◌, ◌%◌, ◌^◌, ◌<◌, ◌≤◌, ◌⊎◌, Bool, true, false, true≢false, cond, List, [], ◌∷◌, ◌++◌, length, refl, sym, ap, ◌∙◌, subst, inl, inr, ⊎_elim, arith, length-append, get_or-set_other, get_or-set_same}
use Rattle.std.proofs.lemmas.Bool.Decides.{leb_tells}
use Rattle.std.specs.Prelude.{slice_index, Option, Some}
use mathlib.Core.List.{IsPrefix}
use mathlib.Core.Option.{none, some, some-injective}
use lib.ListN.{get_elem?}
use Rattle.atomic_table.specs.Table.{Act, step, keeps, takes, gives, stepped, put_back, rest, Allows}
use Rattle.atomic_table.proofs.Lists.{at_last, at_longer, set_here}
use Rattle.turn_words.specs.declared.items.Item.{Item}
use Rattle.turn_words.specs.declared.items.Item.TheVariants.{Given}
use Rattle.turn_words.specs.declared.rule.TurnView.{TurnView}
use Rattle.turn_words.specs.Items.{Placed, is_of, gives as gives_pid, is_given, heard, Has, holds}
use Rattle.turn_words.specs.Rule.{AreIn, MayReturn, MayGive, IsLast, Cells, Mine, total, waiting, Fits, IsHome, IsTurns, IsKept, IsPutBack, MayPut, Told, taking, noting, laying, passing, TakesOut, Notes, PutsIn, PassesOn}
use Rattle.turn_words.proofs.Lists.{at_below, at_end, prefix_get, prefix_more, prefix_self, prefix_trans}
use Rattle.turn_words.proofs.Held.{contrary, decide, given_by_last, given_heard, given_is_of, given_where_last, has_end, has_last, has_more, holds_more, only_given, rises_more}
use Rattle.turn_words.proofs.Keeps.{unchanged}
use Rattle.turn_words.proofs.Views.{alone, changed, each_set, not_out, waiting_is}

-- a number below another, equal to it or above it
in_order : {A : Type 0} (a b : ℕ) → (a < b → A) → (a ≡ b → A) → (b < a → A) → A
in_order a b below same above = ⊎_elim
    (λ h. below (let n = h.1 in omega arith))
    (λ h. ⊎_elim
    (λ g. above (let n = g.1 in omega arith))
    (λ g. same (let n = h.1 in let m = g.1 in omega arith))
    (leb_tells (suc b) a))
    (leb_tells (suc a) b)

module _ {T : Type 0} (stands : T → List Item → Type 0) where
  -- a load by the seat with the turn, which then has the value out or has put one
  turning : (history : List Item) (s : Cells T) (id : ℕ) (c : List (ℕ × Option T)) (v w : TurnView T) (a : Act (Option T)) → IsTurns stands history s → get_elem? s.views id ≡ some v
      → v.is_spent ≡ false → w.is_spent ≡ false → w.is_boot ≡ v.is_boot → w.others ≡ v.others → v.has_turn ≡ true
      → w.has_ticket ≡ v.has_ticket → w.ticket ≡ v.ticket → w.mine ≡ v.mine → w.seen ≡ history → Fits stands history w
      → (w.is_out ≡ true) ⊎ (w.has_put ≡ true)
      → (w.has_put ≡ true → w.is_out ≡ false → (value : T) × (w.value ≡ Some value) × IsHome stands (stepped s 0 (slice_index s.words 0) id c w a) value)
      → IsTurns stands history (stepped s 0 (slice_index s.words 0) id c w a)
  turning history s id c v w a r at live live' boot others turn has number mine seen fits has_it back =
      let word : ℕ = slice_index s.words 0 in
      let two = r.two_words in
      let same : waiting w ≡ waiting v = ap (λ (b : Bool). cond b 1 0) has in
      changed stands history history s id 0 word (length history + total waiting s.views) c v w a r at live live' boot others
      (unchanged stands s.words 0 0 word (omega arith) refl ∙ r.serving)
      (unchanged stands s.words 0 1 word (omega arith) refl ∙ r.ticket)
      (omega arith)
      fits
      (λ by u _ there. r.each by u there)
      (λ h. subst (λ (k : ℕ). (length history ≤ k) × (k < length history + total waiting s.views)) (sym number) (r.tickets id v at (sym has ∙ h)))
      (λ by u _ there h. r.tickets by u there h)
      (λ by u other there. let a = r.apart id by v u (λ e. other (sym e)) at there in record {
        tickets = λ h h' e. a.tickets (sym has ∙ h) h' (sym number ∙ e);
        places = λ place x y h h'. a.places place x y (subst (λ l. Has l place x) mine h) h';
      })
      (id, w, set_here s.views id w (at_below s.views id v at), live', seen)
      (λ all. let mine = all id w (set_here s.views id w (at_below s.views id v at)) in ⊎_elim
      (λ (is : w.is_out ≡ true). contrary w.is_out is mine.0)
      (λ (is : w.has_put ≡ true). contrary w.has_put is mine.1)
      has_it)
      (each_set (λ u. u.has_put ≡ true → u.is_out ≡ false → (value : T) × (u.value ≡ Some value) × IsHome stands (stepped s 0 word id c w a) value) s.views id w
      back
      (λ by u other there is _. contrary u.has_put is (not_out stands history u (r.each by u there) (alone stands history s id v r at turn by u other there)).1))

  -- what stands in what was seen stands in the history
  stand_in : (history : List Item) (v : TurnView T) → Fits stands history v → (place : ℕ) (x : Item) → Has v.mine place x → get_elem? history place ≡ some x
  stand_in history v f place x has = prefix_get v.seen history place x f.seen (f.mine.1 place x has)

  pub takes_out : (slots id : ℕ) (me : Mine T) → me.0.is_spent ≡ false → me.0.has_turn ≡ true → me.0.is_out ≡ false → me.0.has_put ≡ false
      → Allows (IsKept stands) slots id me 0 (λ n. n) (TakesOut stands (step slots 0 0 0 none) me)
  takes_out slots id me live turn not_taken not_put s k _ at _ =
      let history = k.0 in
      let r = k.1 in
      let v = me.0 in
      let f = r.each id v at in
      let mine : AreIn v.mine history = (f.mine.0, stand_in history v f) in
      let at_home = r.home (λ by u there. in_order by id
      (λ lt. not_out stands history u (r.each by u there) (alone stands history s id v r at turn by u (λ e. omega arith) there))
      (λ is. subst (λ z. (z.is_out ≡ false) × (z.has_put ≡ false)) (some-injective v u (sym at ∙ subst (λ (j : ℕ). get_elem? s.views j ≡ some u) is there)) (not_taken, not_put))
      (λ gt. not_out stands history u (r.each by u there) (alone stands history s id v r at turn by u (λ e. omega arith) there))) in
      let value : T = at_home.0 in
      let w = taking v history in
      let fits : Fits stands history w = record {
        spent = λ is. contrary v.is_spent is live;
        seen = prefix_self history;
        met = prefix_trans v.met v.seen history f.met f.seen;
        mine = mine;
        held = f.held;
        turn = f.turn;
        out = λ _. (turn, refl);
        put = λ is. contrary v.has_put is not_put;
      } in (
        w,
        takes 0 (Some value),
        at_home.1,
        (history, turning history s id me.1 v w (takes 0 (Some value)) r at live live refl refl turn refl refl refl refl fits (inl refl) (λ is. contrary v.has_put is not_put)),
        (value, history, refl, at_home.2, f.seen, sym (f.turn turn).1, mine, λ pid h. given_heard pid history ∙ given_where_last pid history v.mine (stand_in history v f) (f.held pid h), f.held),
      )

  pub notes : (slots id : ℕ) (me : Mine T) (value : T) → me.1 ≡ (0, Some value) ∷ [] → me.0.is_spent ≡ false → me.0.is_out ≡ true → MayPut stands (heard me.0.seen) value
      → Allows (IsKept stands) slots id me 0 (λ n. n) (Notes stands (step slots 0 0 0 none) me)
  notes slots id me value carried live out may s k _ at _ =
      let history = k.0 in
      let r = k.1 in
      let v = me.0 in
      let f = r.each id v at in
      let known = f.out out in
      let w = noting v value may.0 in
      let fits : Fits stands history w = record {
        spent = λ is. contrary v.is_spent is live;
        seen = f.seen;
        met = f.met;
        mine = f.mine;
        held = f.held;
        turn = f.turn;
        out = f.out;
        put = λ _. (known.0, known.1, (value, refl, subst (λ l. IsPutBack stands (heard l) value may.0) known.1 may.1));
      } in (
        w,
        keeps,
        tt,
        (history, turning history s id me.1 v w keeps r at live live refl refl known.0 refl refl refl known.1 fits (inr refl) (λ _ is. contrary v.is_out out is)),
        (value, may.0, carried, refl, may.1),
      )

  pub lays : (slots id : ℕ) (me : Mine T) → 0 < slots → me.1 ≡ (0, me.0.value) ∷ [] → me.0.is_spent ≡ false → me.0.is_out ≡ true → me.0.has_put ≡ true
      → Allows (IsKept stands) slots id me 0 (λ n. n) (PutsIn (step slots 0 0 0 none) me)
  lays slots id me some_slot carried live out put s k sized at _ =
      let history = k.0 in
      let r = k.1 in
      let v = me.0 in
      let f = r.each id v at in
      let known = f.put put in
      let w = laying v in
      let fits : Fits stands history w = record {
        spent = λ is. contrary v.is_spent is live;
        seen = f.seen;
        met = f.met;
        mine = f.mine;
        held = f.held;
        turn = f.turn;
        out = λ is. absurd (true≢false (sym is));
        put = f.put;
      } in
      let room : 0 < length s.homes = omega arith in
      let home : get_elem? (put_back s.homes me.1) 0 ≡ some (some (Some known.2.0)) =
      ap (λ c. get_elem? (put_back s.homes c) 0) carried ∙ set_here s.homes 0 (some v.value) room ∙ ap (λ (z : Option T). some (some z)) known.2.1 in (
        w,
        gives,
        tt,
        (history, turning history s id me.1 v w gives r at live live refl refl known.0 refl refl refl known.1 fits (inr put) (λ _ _. (known.2.0, known.2.1, home))),
        ap (λ c. (w, rest c)) carried,
      )

  -- nobody else holds a process of which the seat with the turn passes an item on
  not_its : (history : List Item) (s : Cells T) (id by : ℕ) (v u : TurnView T) (x : Item) → IsTurns stands history s → get_elem? s.views id ≡ some v → v.seen ≡ history
      → MayReturn v.mine x → MayGive (heard v.seen) x → by ≢ id → get_elem? s.views by ≡ some u → (pid : ℕ) → holds pid u.mine ≡ true → is_of pid x ≡ false
  not_its history s id by v u x r at seen returns may_give other there pid held = ⊎_elim
      (λ (of : is_of pid x ≡ true).
      let f = r.each id v at in
      let g = r.each by u there in
      let theirs = g.held pid held in
      let given = stand_in history u g theirs.0 (Given pid) theirs.1 in
      ⊎_elim
      (λ (gave : gives_pid pid x ≡ true).
      contrary (is_given pid history) (given_by_last pid false history theirs.0 given theirs.2)
      (ap (λ l. is_given pid l) (sym seen) ∙ (sym (given_heard pid v.seen) ∙ may_give pid gave)))
      (λ (not : gives_pid pid x ≡ false).
      let ours = f.held pid (returns pid of not) in
      let given' = stand_in history v f ours.0 (Given pid) ours.1 in
      in_order theirs.0 ours.0
      (λ lt. contrary (is_of pid (Given pid)) (given_is_of pid) (theirs.2 ours.0 (Given pid) lt given'))
      (λ same. absurd ((r.apart id by v u (λ e. other (sym e)) at there).places ours.0 (Given pid) (Given pid) ours.1 (subst (λ (k : ℕ). Has u.mine k (Given pid)) same theirs.1)))
      (λ gt. contrary (is_of pid (Given pid)) (given_is_of pid) (ours.2 theirs.0 (Given pid) gt given)))
      (decide (gives_pid pid x)))
      (λ (not : is_of pid x ≡ false). not)
      (decide (is_of pid x))

  -- what the seat holds after the turn, it holds by an item behind which none of that process stands
  holds_after : (history : List Item) (v : TurnView T) (x : Item) → Fits stands history v → v.seen ≡ history
      → (pid : ℕ) → holds pid (v.mine ++ (length v.seen, x) ∷ []) ≡ true → IsLast pid (history ++ x ∷ []) (v.mine ++ (length v.seen, x) ∷ [])
  holds_after history v x f seen pid held =
      let p : Placed = (length v.seen, x) in
      let n : length v.seen ≡ length history = ap length seen in
      let now : cond (is_of pid x) (gives_pid pid x) (holds pid v.mine) ≡ true = sym (holds_more pid v.mine p) ∙ held in
      ⊎_elim
      (λ (of : is_of pid x ≡ true).
      let gave : gives_pid pid x ≡ true = sym (ap (λ (b : Bool). cond b (gives_pid pid x) (holds pid v.mine)) of) ∙ now in (
        length v.seen,
        subst (λ y. Has (v.mine ++ p ∷ []) (length v.seen) y) (only_given pid x gave) (has_last v.mine p),
        λ later y lt there. ⊎_elim
            (λ (old : get_elem? history later ≡ some y). let below = at_below history later y old in absurd (omega arith))
            (λ (last : (later ≡ length history) × (x ≡ y)). let is = last.0 in absurd (omega arith))
            (at_end history x y later there),
      ))
      (λ (not : is_of pid x ≡ false).
      let before : holds pid v.mine ≡ true = sym (ap (λ (b : Bool). cond b (gives_pid pid x) (holds pid v.mine)) not) ∙ now in
      let known = f.held pid before in (
        known.0,
        has_more v.mine p known.0 (Given pid) known.1,
        λ later y lt there. ⊎_elim
            (λ (old : get_elem? history later ≡ some y). known.2 later y lt old)
            (λ (last : (later ≡ length history) × (x ≡ y)). subst (λ z. is_of pid z ≡ false) last.1 not)
            (at_end history x y later there),
      ))
      (decide (is_of pid x))

  passed_fits : (history : List Item) (v : TurnView T) (x : Item) → Fits stands history v → v.is_spent ≡ false → v.is_out ≡ false → v.seen ≡ history → Fits stands (history ++ x ∷ []) (passing v x)
  passed_fits history v x f live not_out seen =
      let p : Placed = (length v.seen, x) in
      let now : v.seen ++ x ∷ [] ≡ history ++ x ∷ [] = ap (λ l. l ++ x ∷ []) seen in
      record {
        spent = λ is. contrary v.is_spent is live;
        seen = subst (λ l. IsPrefix l (history ++ x ∷ [])) (sym now) (prefix_self (history ++ x ∷ []));
        met = prefix_more v.met v.seen x f.met;
        mine = (
          rises_more 0 v.mine p f.mine.0 (omega arith) (λ place y has. at_below v.seen place y (f.mine.1 place y has)),
          λ place y has. ⊎_elim
              (λ (old : Has v.mine place y). at_longer v.seen (x ∷ []) place y (f.mine.1 place y old))
              (λ (last : (length v.seen ≡ place) × (x ≡ y)).
              subst (λ (k : ℕ). get_elem? (v.seen ++ x ∷ []) k ≡ some y) last.0 (at_last v.seen x (length v.seen) refl ∙ ap some last.1))
              (has_end v.mine p place y has),
        );
        held = holds_after history v x f seen;
        turn = λ is. absurd (true≢false (sym is));
        out = λ is. contrary v.is_out is not_out;
        put = λ is. absurd (true≢false (sym is));
      }

  others_fit : (history : List Item) (u : TurnView T) (x : Item) → Fits stands history u → u.has_turn ≡ false → ((pid : ℕ) → holds pid u.mine ≡ true → is_of pid x ≡ false) → Fits stands (history ++ x ∷ []) u
  others_fit history u x g idle not_theirs = record {
    spent = g.spent;
    seen = prefix_more u.seen history x g.seen;
    met = g.met;
    mine = g.mine;
    held = λ pid held. let known = g.held pid held in (
      known.0,
      known.1,
      λ later y lt there. ⊎_elim
          (λ (old : get_elem? history later ≡ some y). known.2 later y lt old)
          (λ (last : (later ≡ length history) × (x ≡ y)). subst (λ z. is_of pid z ≡ false) last.1 (not_theirs pid held))
          (at_end history x y later there),
    );
    turn = λ is. contrary u.has_turn is idle;
    out = λ is. contrary u.is_out is (not_out stands history u g idle).0;
    put = λ is. contrary u.has_put is (not_out stands history u g idle).1;
  }

  pub passes_on : (x : Item) (slots id : ℕ) (me : Mine T) → me.0.is_spent ≡ false → me.0.is_out ≡ false → me.0.has_put ≡ true → Told stands me.0.value (heard (me.0.seen ++ x ∷ []))
      → MayReturn me.0.mine x → MayGive (heard me.0.seen) x → Allows (IsKept stands) slots id me 0 (λ n. (n + 1) % 2 ^ 64) (PassesOn x (step slots 0 1 0 none) me)
  passes_on x slots id me live not_taken put told returns may_give s k _ at _ =
      let history = k.0 in
      let r = k.1 in
      let v = me.0 in
      let f = r.each id v at in
      let known = f.put put in
      let turn = f.turn known.0 in
      let seen : v.seen ≡ history = known.1 in
      let later : List Item = history ++ x ∷ [] in
      let now : v.seen ++ x ∷ [] ≡ later = ap (λ l. l ++ x ∷ []) seen in
      let longer : length later ≡ length history + 1 = length-append history (x ∷ []) ∙ omega arith in
      let n : length v.seen ≡ length history = ap length seen in
      let word : ℕ = slice_index s.words 0 in
      let next : ℕ = (word + 1) % 2 ^ 64 in
      let w = passing v x in
      let two = r.two_words in
      let serving : word ≡ length history % 2 ^ 64 = r.serving in
      let had = waiting_is v turn.0 in
      let drawn : ℕ = length history + total waiting s.views in
      let laid = r.back id v at put not_taken in
      let nobody = λ (by : ℕ) (u : TurnView T) (other : by ≢ id) (there : get_elem? s.views by ≡ some u). alone stands history s id v r at known.0 by u other there in (
        w,
        keeps,
        tt,
        (
          later,
          changed stands history later s id 0 next drawn me.1 v w keeps r at live live refl refl
              (get_or-set_same s.words 0 next 0 (omega arith) ∙ omega arith)
              (get_or-set_other s.words 0 1 next 0 (λ e. omega arith) ∙ r.ticket)
              (omega arith)
              (passed_fits history v x f live not_taken seen)
              (λ by u other there. others_fit history u x (r.each by u there) (nobody by u other there) (not_its history s id by v u x r at seen returns may_give other there))
              (λ is. absurd (true≢false (sym is)))
              (λ by u other there has.
              let range = r.tickets by u there has in
              let low = range.0 in
              let high = range.1 in
              let is = turn.1 in
              let ne : u.ticket ≢ v.ticket = λ e. (r.apart by id u v other there at).tickets has turn.0 e in
              (omega arith, high))
              (λ by u other there. record {
                tickets = λ is. absurd (true≢false (sym is));
                places = λ place y z has has'. ⊎_elim
                    (λ (old : Has v.mine place y). (r.apart id by v u (λ e. other (sym e)) at there).places place y z old has')
                    (λ (last : (length v.seen ≡ place) × (x ≡ y)).
                    let is = last.0 in
                    let g = r.each by u there in
                    let below = at_below history place z (stand_in history u g place z has') in
                    omega arith)
                    (has_end v.mine (length v.seen, x) place y has);
              })
              (id, w, set_here s.views id w (at_below s.views id v at), live, now)
              (λ _. (laid.0, laid.2, subst (λ l. stands laid.0 (heard l)) now (subst (λ (o : Option T). Told stands o (heard (v.seen ++ x ∷ []))) laid.1 told)))
              (each_set (λ u. u.has_put ≡ true → u.is_out ≡ false → (value : T) × (u.value ≡ Some value) × IsHome stands s value) s.views id w
              (λ is. absurd (true≢false (sym is)))
              (λ by u other there is _. contrary u.has_put is (not_out stands history u (r.each by u there) (nobody by u other there)).1)),
        ),
        refl,
      )
