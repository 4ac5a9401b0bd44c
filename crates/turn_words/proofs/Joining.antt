-- Splits and joins keep the turn rule.
use Rattle.std.proofs.Common.{◌≡◌, ◌≢◌, ℕ, ◌+◌, ◌%◌, ◌^◌, ◌<◌, ◌≤◌, Bool, true, false, true≢false, cond, List, [], ◌∷◌, ◌++◌, length, set, refl, sym, ap, ◌∙◌, subst, ⊎_elim, arith}
use Rattle.std.specs.Prelude.{Some}
use mathlib.Core.Logic.{dite}
use mathlib.Core.Option.{some, some-injective}
use native.Mathlib.Decide.{ℕ_discrete}
use lib.ListN.{get_elem?}
use Rattle.atomic_table.specs.Table.{Splits, Joins}
use Rattle.atomic_table.proofs.Lists.{at_longer, at_set, set_else, set_here}
use Rattle.turn_words.specs.declared.items.Item.{Item}
use Rattle.turn_words.specs.declared.items.Item.TheVariants.{Given}
use Rattle.turn_words.specs.declared.rule.TurnView.{TurnView}
use Rattle.turn_words.specs.Items.{Has, holds, merged}
use Rattle.turn_words.specs.Rule.{IsLast, Cells, total, in_use, as_boot, waiting, Each, Apart, Fits, IsHome, IsTurns, IsKept, longer, with_one_more, newcomer, taken_in, spent}
use Rattle.turn_words.proofs.Lists.{at_below, at_end, longer_begins, longer_whole_left, longer_whole_right, prefix_get}
use Rattle.turn_words.proofs.Counts.{total_at_least, total_set, total_snoc}
use Rattle.turn_words.proofs.Held.{contrary, held_at, held_by, not_true}
use Rattle.turn_words.proofs.Merging.{merged_has, merged_left, merged_right, merged_rises}
use Rattle.turn_words.proofs.Views.{apart_back, apart_set, each_set, each_was, live_counts, not_out, only_boot, waiting_not}

module _ {T : Type 0} where
  -- what holds of each view and of a new one holds of each
  each_more : (P : TurnView T → Type 0) (views : List (TurnView T)) (w : TurnView T) → P w → Each views P → Each (views ++ w ∷ []) P
  each_more P views w new all by u e = ⊎_elim
      (λ (old : get_elem? views by ≡ some u). all by u old)
      (λ (last : (by ≡ length views) × (w ≡ u)). subst P last.1 new)
      (at_end views w u by e)

  apart_more : (views : List (TurnView T)) (w : TurnView T)
      → ((by other : ℕ) (v u : TurnView T) → by ≢ other → get_elem? views by ≡ some v → get_elem? views other ≡ some u → Apart v u)
      → ((u : TurnView T) → Apart w u)
      → (by other : ℕ) (v u : TurnView T) → by ≢ other → get_elem? (views ++ w ∷ []) by ≡ some v → get_elem? (views ++ w ∷ []) other ≡ some u → Apart v u
  apart_more views w all new by other v u ne e f = ⊎_elim
      (λ (x : get_elem? views by ≡ some v). ⊎_elim
      (λ (y : get_elem? views other ≡ some u). all by other v u ne x y)
      (λ (y : (other ≡ length views) × (w ≡ u)). subst (λ z. Apart v z) y.1 (apart_back w v (new v)))
      (at_end views w u other f))
      (λ (x : (by ≡ length views) × (w ≡ v)). ⊎_elim
      (λ (y : get_elem? views other ≡ some u). subst (λ z. Apart z u) x.1 (new u))
      (λ (y : (other ≡ length views) × (w ≡ u)). absurd (ne (x.0 ∙ sym y.0)))
      (at_end views w u other f))
      (at_end views w v by e)

  -- a view with no ticket and no item of its own has nothing in common with any
  apart_blank : (w u : TurnView T) → w.has_ticket ≡ false → w.mine ≡ [] → Apart w u
  apart_blank w u free blank = record {
    tickets = λ has. contrary w.has_ticket has free;
    places = λ place x y has. absurd (subst (λ l. Has l place x) blank has);
  }

module _ {T : Type 0} (stands : T → List Item → Type 0) where
  -- a seat that has drawn nothing and passed on nothing
  newcomer_fits : (history : List Item) (v : TurnView T) → Fits stands history v → Fits stands history (newcomer v)
  newcomer_fits history v f = record {
    spent = λ is. absurd (true≢false (sym is));
    seen = f.seen;
    met = (v.seen, refl);
    mine = (tt, λ place x has. absurd has);
    held = λ pid is. absurd (true≢false (sym is));
    turn = λ is. absurd (true≢false (sym is));
    out = λ is. absurd (true≢false (sym is));
    put = λ is. absurd (true≢false (sym is));
  }

  spent_fits : (history : List Item) → Fits stands history spent
  spent_fits history = record {
    spent = λ _. refl;
    seen = (history, refl);
    met = ([], refl);
    mine = (tt, λ place x has. absurd has);
    held = λ pid is. absurd (true≢false (sym is));
    turn = λ is. absurd (true≢false (sym is));
    out = λ is. absurd (true≢false (sym is));
    put = λ is. absurd (true≢false (sym is));
  }

  counting_fits : (history : List Item) (v : TurnView T) → Fits stands history v → Fits stands history (with_one_more v)
  counting_fits history v f = record { spent = f.spent; seen = f.seen; met = f.met; mine = f.mine; held = f.held; turn = f.turn; out = f.out; put = f.put }

  pub splits : (id : ℕ) (v : TurnView T) → v.is_spent ≡ false → v.is_boot ≡ true → v.others < 2 ^ 32 → Splits (IsKept stands) id v (with_one_more v) (newcomer v)
  splits id v live boot few s k at =
      let history = k.0 in
      let r = k.1 in
      let left = with_one_more v in
      let right = newcomer v in
      let views = set s.views id left in
      let all = views ++ right ∷ [] in
      let f = r.each id v at in
      let counted = r.boot id v at boot in
      let grown : (g : TurnView T → ℕ) → g left ≡ g v → total g all ≡ total g s.views + g right =
      λ g same. let a = total_snoc g views right in let b = total_set g s.views id v left at in omega arith in
      let seats : total in_use all ≡ total in_use s.views + 1 = grown in_use refl in
      let waits : total waiting all ≡ total waiting s.views = (let a = grown waiting refl in omega arith) in
      let number = counted.1 in (
        history,
        record {
          two_words = r.two_words;
          serving = r.serving;
          ticket = r.ticket ∙ ap (λ (n : ℕ). (length history + n) % 2 ^ 64) (sym waits);
          few = omega arith;
          one_boot = (let a = grown as_boot refl in let b = r.one_boot in omega arith);
          boot = each_more (λ u. u.is_boot ≡ true → (u.is_spent ≡ false) × (u.others + 1 ≡ total in_use all)) views right
              (λ is. absurd (true≢false (sym is)))
              (each_set (λ u. u.is_boot ≡ true → (u.is_spent ≡ false) × (u.others + 1 ≡ total in_use all)) s.views id left
              (λ _. (live, omega arith))
              (λ by u other there is. contrary u.is_boot is (only_boot s.views id by v u r.one_boot at boot other there)));
          tickets = subst (λ (n : ℕ). Each all (λ u. u.has_ticket ≡ true → (length history ≤ u.ticket) × (u.ticket < length history + n))) (sym waits)
              (each_more (λ u. u.has_ticket ≡ true → (length history ≤ u.ticket) × (u.ticket < length history + total waiting s.views)) views right
              (λ is. absurd (true≢false (sym is)))
              (each_set (λ u. u.has_ticket ≡ true → (length history ≤ u.ticket) × (u.ticket < length history + total waiting s.views)) s.views id left
              (r.tickets id v at)
              (λ by u _ there. r.tickets by u there)));
          each = each_more (Fits stands history) views right (newcomer_fits history v f)
              (each_set (Fits stands history) s.views id left (counting_fits history v f) (λ by u _ there. r.each by u there));
          apart = apart_more views right
              (apart_set s.views id left r.apart (λ by u other there. let a = r.apart id by v u (λ e. other (sym e)) at there in record { tickets = a.tickets; places = a.places }))
              (λ u. apart_blank right u refl refl);
          knower = (
              let by : ℕ = r.knower.0 in
              dite (ℕ_discrete by id)
              (λ (is : by ≡ id).
              let same : v ≡ r.knower.1 = some-injective v r.knower.1 (sym at ∙ subst (λ (j : ℕ). get_elem? s.views j ≡ some r.knower.1) is r.knower.2) in
              (id, left, at_longer views (right ∷ []) id left (set_here s.views id left (at_below s.views id v at)), live, ap (λ z. z.seen) same ∙ r.knower.4))
              (λ (other : by ≢ id). (by, r.knower.1, at_longer views (right ∷ []) by r.knower.1 (set_else s.views id by left other ∙ r.knower.2), r.knower.3, r.knower.4))
              );
          home = λ none_out. r.home (each_was (λ u. (u.is_out ≡ false) × (u.has_put ≡ false)) s.views id v left at (λ h. h)
              (λ by u there. none_out by u (at_longer views (right ∷ []) by u there)));
          back = each_more (λ u. u.has_put ≡ true → u.is_out ≡ false → (value : T) × (u.value ≡ Some value) × IsHome stands s value) views right
              (λ is. absurd (true≢false (sym is)))
              (each_set (λ u. u.has_put ≡ true → u.is_out ≡ false → (value : T) × (u.value ≡ Some value) × IsHome stands s value) s.views id left
              (r.back id v at)
              (λ by u _ there. r.back by u there));
        },
      )

  -- what two seats hold together each of them holds
  merged_holds : (history : List Item) (v u : TurnView T) → Fits stands history v → Fits stands history u → Apart v u
      → (pid : ℕ) → holds pid (merged v.mine u.mine) ≡ true → IsLast pid history (merged v.mine u.mine)
  merged_holds history v u f g a pid held =
      let both = merged v.mine u.mine in
      let rises = merged_rises 0 0 v.mine u.mine f.mine.0 g.mine.0 (omega arith) a.places in
      let last = held_at pid 0 both rises held in
      ⊎_elim
      (λ (ours : Has v.mine last.0 (Given pid)).
      let known = f.held pid (held_by pid false 0 v.mine last.0 f.mine.0 ours (λ later x has lt. last.2 later x (merged_left v.mine u.mine later x has) lt)) in
      (known.0, merged_left v.mine u.mine known.0 (Given pid) known.1, known.2))
      (λ (theirs : Has u.mine last.0 (Given pid)).
      let known = g.held pid (held_by pid false 0 u.mine last.0 g.mine.0 theirs (λ later x has lt. last.2 later x (merged_right v.mine u.mine later x has) lt)) in
      (known.0, merged_right v.mine u.mine known.0 (Given pid) known.1, known.2))
      (merged_has v.mine u.mine last.0 (Given pid) last.1)

  joined_fits : (history : List Item) (v u : TurnView T) → Fits stands history v → Fits stands history u → Apart v u → v.is_spent ≡ false → Fits stands history (taken_in v u)
  joined_fits history v u f g a live =
      let seen = longer_begins v.seen u.seen history f.seen g.seen in
      let whole : v.seen ≡ history → longer v.seen u.seen ≡ history = λ is. longer_whole_left v.seen u.seen history is g.seen in
      record {
        spent = λ is. contrary v.is_spent is live;
        seen = seen.2;
        met = seen.3;
        mine = (
          merged_rises 0 0 v.mine u.mine f.mine.0 g.mine.0 (omega arith) a.places,
          λ place x has. ⊎_elim
              (λ (ours : Has v.mine place x). prefix_get v.seen (longer v.seen u.seen) place x seen.0 (f.mine.1 place x ours))
              (λ (theirs : Has u.mine place x). prefix_get u.seen (longer v.seen u.seen) place x seen.1 (g.mine.1 place x theirs))
              (merged_has v.mine u.mine place x has),
        );
        held = merged_holds history v u f g a;
        turn = f.turn;
        out = λ is. let known = f.out is in (known.0, whole known.1);
        put = λ is. let known = f.put is in (known.0, whole known.1, known.2);
      }

  joined_apart : (v u w : TurnView T) → Apart v w → Apart u w → Apart (taken_in v u) w
  joined_apart v u w a b = record {
    tickets = a.tickets;
    places = λ place x y has has'. ⊎_elim
        (λ (ours : Has v.mine place x). a.places place x y ours has')
        (λ (theirs : Has u.mine place x). b.places place x y theirs has')
        (merged_has v.mine u.mine place x has);
  }

  -- what holds of the two changed views and of all others holds of each
  each_joined : (P : TurnView T → Type 0) (views : List (TurnView T)) (id other : ℕ) (both : TurnView T) → P both → P spent
      → ((by : ℕ) (w : TurnView T) → by ≢ id → by ≢ other → get_elem? views by ≡ some w → P w) → Each (set (set views id both) other spent) P
  each_joined P views id other both here gone there by w e = ⊎_elim
      (λ (x : (by ≡ other) × (spent ≡ w)). subst P x.1 gone)
      (λ (x : (by ≢ other) × (get_elem? (set views id both) by ≡ some w)). ⊎_elim
      (λ (y : (by ≡ id) × (both ≡ w)). subst P y.1 here)
      (λ (y : (by ≢ id) × (get_elem? views by ≡ some w)). there by w y.0 x.0 y.1)
      (at_set views id by both w x.1))
      (at_set (set views id both) other by spent w e)

  -- two views that the join has left or changed have nothing in common
  apart_joined : (views : List (TurnView T)) (id other : ℕ) (v u : TurnView T)
      → ((by one : ℕ) (x y : TurnView T) → by ≢ one → get_elem? views by ≡ some x → get_elem? views one ≡ some y → Apart x y)
      → get_elem? views id ≡ some v → get_elem? views other ≡ some u
      → (by one : ℕ) (x y : TurnView T) → by ≢ one → get_elem? (set (set views id (taken_in v u)) other spent) by ≡ some x → get_elem? (set (set views id (taken_in v u)) other spent) one ≡ some y → Apart x y
  apart_joined views id other v u all at was by one x y ne e h =
      let both = taken_in v u in
      let old : (k : ℕ) (w : TurnView T) → k ≢ id → k ≢ other → get_elem? views k ≡ some w → Apart both w =
      λ k w not_id not_other there. joined_apart v u w (all id k v w (λ q. not_id (sym q)) at there) (all other k u w (λ q. not_other (sym q)) was there) in
      ⊎_elim
      (λ (is : (by ≡ other) × (spent ≡ x)). subst (λ z. Apart z y) is.1 (apart_blank spent y refl refl))
      (λ (a : (by ≢ other) × (get_elem? (set views id both) by ≡ some x)). ⊎_elim
      (λ (is : (one ≡ other) × (spent ≡ y)). subst (λ z. Apart x z) is.1 (apart_back spent x (apart_blank spent x refl refl)))
      (λ (b : (one ≢ other) × (get_elem? (set views id both) one ≡ some y)). ⊎_elim
      (λ (c : (by ≡ id) × (both ≡ x)). ⊎_elim
      (λ (d : (one ≡ id) × (both ≡ y)). absurd (ne (c.0 ∙ sym d.0)))
      (λ (d : (one ≢ id) × (get_elem? views one ≡ some y)). subst (λ z. Apart z y) c.1 (old one y d.0 b.0 d.1))
      (at_set views id one both y b.1))
      (λ (c : (by ≢ id) × (get_elem? views by ≡ some x)). ⊎_elim
      (λ (d : (one ≡ id) × (both ≡ y)). subst (λ z. Apart x z) d.1 (apart_back both x (old by x c.0 a.0 c.1)))
      (λ (d : (one ≢ id) × (get_elem? views one ≡ some y)). all by one x y ne c.1 d.1)
      (at_set views id one both y b.1))
      (at_set views id by both x a.1))
      (at_set (set views id both) other one spent y h))
      (at_set (set views id both) other by spent x e)

  joined_knower : (history : List Item) (s : Cells T) (id other : ℕ) (v u : TurnView T) → IsTurns stands history s → get_elem? s.views id ≡ some v → get_elem? s.views other ≡ some u
      → other ≢ id → v.is_spent ≡ false
      → (by : ℕ) × (w : TurnView T) × (get_elem? (set (set s.views id (taken_in v u)) other spent) by ≡ some w) × (w.is_spent ≡ false) × (w.seen ≡ history)
  joined_knower history s id other v u r at was apart live =
      let both = taken_in v u in
      let f = r.each id v at in
      let g = r.each other u was in
      let stays : get_elem? (set (set s.views id both) other spent) id ≡ some both =
      set_else (set s.views id both) other id spent (λ e. apart (sym e)) ∙ set_here s.views id both (at_below s.views id v at) in
      let by : ℕ = r.knower.0 in
      let w = r.knower.1 in
      let there = r.knower.2 in
      dite (ℕ_discrete by id)
      (λ (is : by ≡ id).
      let same : v ≡ w = some-injective v w (sym at ∙ subst (λ (j : ℕ). get_elem? s.views j ≡ some w) is there) in
      (id, both, stays, live, longer_whole_left v.seen u.seen history (ap (λ z. z.seen) same ∙ r.knower.4) g.seen))
      (λ (ne : by ≢ id). dite (ℕ_discrete by other)
      (λ (is : by ≡ other).
      let same : u ≡ w = some-injective u w (sym was ∙ subst (λ (j : ℕ). get_elem? s.views j ≡ some w) is there) in
      (id, both, stays, live, longer_whole_right v.seen u.seen history f.seen (ap (λ z. z.seen) same ∙ r.knower.4)))
      (λ (ne' : by ≢ other). (by, w, set_else (set s.views id both) other by spent ne' ∙ (set_else s.views id by both ne ∙ there), r.knower.3, r.knower.4)))

  pub joins : (id : ℕ) (v : TurnView T) (other : ℕ) (u : TurnView T) → v.is_spent ≡ false → v.is_boot ≡ true → u.is_spent ≡ false → u.has_ticket ≡ false
      → Joins (IsKept stands) id v other u (taken_in v u) spent
  joins id v other u live boot live' free s k at apart there =
      let history = k.0 in
      let r = k.1 in
      let both = taken_in v u in
      let views = set s.views id both in
      let final = set views other spent in
      let was : get_elem? s.views other ≡ some u = sym (set_else s.views id other both apart) ∙ there in
      let f = r.each id v at in
      let g = r.each other u was in
      let two = r.apart id other v u (λ e. apart (sym e)) at was in
      let idle = not_out stands history u g (not_true u.has_turn (λ is. contrary u.has_ticket (g.turn is).0 free)) in
      let counted = r.boot id v at boot in
      let number = counted.1 in
      let stays : get_elem? final id ≡ some both = set_else views other id spent (λ e. apart (sym e)) ∙ set_here s.views id both (at_below s.views id v at) in
      let lost : (h : TurnView T → ℕ) → h both ≡ h v → h (spent {T = T}) ≡ 0 → total h final + h u ≡ total h s.views =
      λ h same none_left. let a = total_set h s.views id v both at in let b = total_set h views other u spent there in omega arith in
      let counts = live_counts u live' in
      let ours = live_counts both live in
      let some_left = total_at_least in_use final id both stays in
      let seats : total in_use final + 1 ≡ total in_use s.views = (let a = lost in_use refl refl in omega arith) in
      let waits : total waiting final ≡ total waiting s.views = (let a = lost waiting refl refl in let b = waiting_not u free in omega arith) in
      let others = λ (by : ℕ) (w : TurnView T) (ne : by ≢ id) (at_w : get_elem? s.views by ≡ some w). only_boot s.views id by v w r.one_boot at boot ne at_w in (
        history,
        record {
          two_words = r.two_words;
          serving = r.serving;
          ticket = r.ticket ∙ ap (λ (n : ℕ). (length history + n) % 2 ^ 64) (sym waits);
          few = (let b = r.few in omega arith);
          one_boot =
              let a = lost as_boot refl refl in
              let b = r.one_boot in
              let c : as_boot u ≡ 0 = ap (λ (x : Bool). cond x 1 0) (others other u apart was) in
              omega arith;
          boot = each_joined (λ w. w.is_boot ≡ true → (w.is_spent ≡ false) × (w.others + 1 ≡ total in_use final)) s.views id other both
              (λ _. (live, omega arith))
              (λ is. absurd (true≢false (sym is)))
              (λ by w ne _ at_w is. contrary w.is_boot is (others by w ne at_w));
          tickets = subst (λ (n : ℕ). Each final (λ w. w.has_ticket ≡ true → (length history ≤ w.ticket) × (w.ticket < length history + n))) (sym waits)
              (each_joined (λ w. w.has_ticket ≡ true → (length history ≤ w.ticket) × (w.ticket < length history + total waiting s.views)) s.views id other both
              (r.tickets id v at)
              (λ is. absurd (true≢false (sym is)))
              (λ by w _ _ at_w. r.tickets by w at_w));
          each = each_joined (Fits stands history) s.views id other both (joined_fits history v u f g two live) (spent_fits history) (λ by w _ _ at_w. r.each by w at_w);
          apart = apart_joined s.views id other v u r.apart at was;
          knower = joined_knower history s id other v u r at was apart live;
          home = λ none_out. r.home (λ by w at_w. dite (ℕ_discrete by id)
              (λ (is : by ≡ id).
              let same : v ≡ w = some-injective v w (sym at ∙ subst (λ (j : ℕ). get_elem? s.views j ≡ some w) is at_w) in
              subst (λ z. (z.is_out ≡ false) × (z.has_put ≡ false)) same (none_out id both stays))
              (λ (ne : by ≢ id). dite (ℕ_discrete by other)
              (λ (is : by ≡ other).
              let same : u ≡ w = some-injective u w (sym was ∙ subst (λ (j : ℕ). get_elem? s.views j ≡ some w) is at_w) in
              subst (λ z. (z.is_out ≡ false) × (z.has_put ≡ false)) same idle)
              (λ (ne' : by ≢ other). none_out by w (set_else views other by spent ne' ∙ (set_else s.views id by both ne ∙ at_w)))));
          back = each_joined (λ w. w.has_put ≡ true → w.is_out ≡ false → (value : T) × (w.value ≡ Some value) × IsHome stands s value) s.views id other both
              (r.back id v at)
              (λ is. absurd (true≢false (sym is)))
              (λ by w _ _ at_w. r.back by w at_w);
        },
      )
