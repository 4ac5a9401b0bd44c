-- What is given out after a history, and what a seat holds.
use Rattle.std.proofs.Common.{◌≡◌, ℕ, zero, suc, ◌+◌, ◌<◌, ◌≤◌, ◌⊎◌, Bool, true, false, true≢false, cond, eqb, List, [], ◌∷◌, ◌++◌, refl, ap, sym, ◌∙◌, subst, inl, inr, ⊎_elim, arith, eq-eqb}
use Rattle.std.proofs.lemmas.Bool.{eqb-true}
use mathlib.Core.Option.{some, some-injective, some-ne-none}
use lib.ListN.{get_elem?}
use Rattle.turn_words.specs.declared.items.Item.{Item}
use Rattle.turn_words.specs.declared.items.Item.TheVariants.{Noted, Cleared, Given, Back, Starved, Live, Quiet}
use Rattle.turn_words.specs.Items.{is_of, gives, given_after, is_given, heard, Placed, Has, Rises, items_of, holds}
use Rattle.turn_words.specs.Rule.{IsLast}

-- each of two truth values
pub decide : (b : Bool) → (b ≡ true) ⊎ (b ≡ false)
decide true = inl refl
decide false = inr refl

pub not_true : (b : Bool) → (b ≡ true → ⊥) → b ≡ false
not_true true n = absurd (n refl)
not_true false n = refl

pub contrary : {A : Type 0} (b : Bool) → b ≡ true → b ≡ false → A
contrary b is not = absurd (true≢false (sym is ∙ not))

-- an item that gives a process is its Given
pub only_given : (pid : ℕ) (x : Item) → gives pid x ≡ true → x ≡ Given pid
only_given pid (Noted e) h = absurd (true≢false (sym h))
only_given pid (Cleared what live) h = absurd (true≢false (sym h))
only_given pid (Given other) h = ap Given (eqb-true other pid h)
only_given pid (Back other) h = absurd (true≢false (sym h))
only_given pid Starved h = absurd (true≢false (sym h))
only_given pid (Live n) h = absurd (true≢false (sym h))
only_given pid Quiet h = absurd (true≢false (sym h))

pub given_gives : (pid : ℕ) → gives pid (Given pid) ≡ true
given_gives pid = eq-eqb pid pid refl

pub given_is_of : (pid : ℕ) → is_of pid (Given pid) ≡ true
given_is_of pid = eq-eqb pid pid refl

-- what gives a process is an item of it
pub gives_is_of : (pid : ℕ) (x : Item) → gives pid x ≡ true → is_of pid x ≡ true
gives_is_of pid x h = subst (λ y. is_of pid y ≡ true) (sym (only_given pid x h)) (given_is_of pid)

-- one item more decides, where it is one of the process
pub given_more : (pid : ℕ) (before : Bool) (items : List Item) (x : Item)
    → given_after pid before (items ++ x ∷ []) ≡ cond (is_of pid x) (gives pid x) (given_after pid before items)
given_more pid before [] x = refl
given_more pid before (y ∷ items) x = given_more pid (cond (is_of pid y) (gives pid y) before) items x

-- items that are none of the process change nothing
pub given_stays : (pid : ℕ) (before : Bool) (items : List Item) → ((k : ℕ) (x : Item) → get_elem? items k ≡ some x → is_of pid x ≡ false) → given_after pid before items ≡ before
given_stays pid before [] none_of = refl
given_stays pid before (y ∷ items) none_of =
    ap (λ (b : Bool). given_after pid (cond b (gives pid y) before) items) (none_of zero y refl)
    ∙ given_stays pid before items (λ k x at. none_of (suc k) x at)

-- after a Given behind which no item of the process stands it is given out
pub given_by_last : (pid : ℕ) (before : Bool) (items : List Item) (place : ℕ) → get_elem? items place ≡ some (Given pid)
    → ((later : ℕ) (x : Item) → place < later → get_elem? items later ≡ some x → is_of pid x ≡ false) → given_after pid before items ≡ true
given_by_last pid before [] place at none_later = absurd (some-ne-none (Given pid) (sym at))
given_by_last pid before (y ∷ items) zero at none_later =
    let is : y ≡ Given pid = some-injective y (Given pid) at in
    let of : is_of pid y ≡ true = subst (λ x. is_of pid x ≡ true) (sym is) (given_is_of pid) in
    let given : gives pid y ≡ true = subst (λ x. gives pid x ≡ true) (sym is) (given_gives pid) in
    ap (λ (b : Bool). given_after pid (cond b (gives pid y) before) items) of
    ∙ given_stays pid (gives pid y) items (λ k x at_k. none_later (suc k) x (omega arith) at_k)
    ∙ given
given_by_last pid before (y ∷ items) (suc place) at none_later =
    given_by_last pid (cond (is_of pid y) (gives pid y) before) items place at (λ later x lt at_later. none_later (suc later) x (omega arith) at_later)

-- Quiet is of no process
heard_after : (pid : ℕ) (before : Bool) (items : List Item) → given_after pid before (heard items) ≡ given_after pid before items
heard_after pid before [] = refl
heard_after pid before (Noted e ∷ items) = heard_after pid (cond (is_of pid (Noted e)) false before) items
heard_after pid before (Cleared what live ∷ items) = heard_after pid before items
heard_after pid before (Given other ∷ items) = heard_after pid (cond (eqb other pid) (eqb other pid) before) items
heard_after pid before (Back other ∷ items) = heard_after pid (cond (eqb other pid) false before) items
heard_after pid before (Starved ∷ items) = heard_after pid before items
heard_after pid before (Live n ∷ items) = heard_after pid before items
heard_after pid before (Quiet ∷ items) = heard_after pid before items

pub given_heard : (pid : ℕ) (items : List Item) → is_given pid (heard items) ≡ is_given pid items
given_heard pid items = heard_after pid false items

-- a place among rising ones is at least the lowest
pub risen : (low : ℕ) (mine : List Placed) (place : ℕ) (x : Item) → Rises low mine → Has mine place x → low ≤ place
risen low [] place x up has = absurd has
risen low (p ∷ mine) place x up has =
    let first = up.0 in
    ⊎_elim
    (λ (h : (p.0 ≡ place) × (p.1 ≡ x)). let is = h.0 in omega arith)
    (λ (h : Has mine place x). let rest = risen (p.0 + 1) mine place x up.1 h in omega arith)
    has

-- None of these items is one of the process, or a last one is, which decides whether it is given out.
-- The last one is a Given where it is.
holds_at : (pid : ℕ) (before : Bool) (low : ℕ) (mine : List Placed) → Rises low mine → given_after pid before (items_of mine) ≡ true
    → ((before ≡ true) × ((place : ℕ) (x : Item) → Has mine place x → is_of pid x ≡ false))
    ⊎ ((place : ℕ) × Has mine place (Given pid) × ((later : ℕ) (x : Item) → Has mine later x → place < later → is_of pid x ≡ false))
holds_at pid before low [] up given = inl (given, λ place x has. absurd has)
holds_at pid before low (p ∷ mine) up given =
    let now : Bool = cond (is_of pid p.1) (gives pid p.1) before in
    ⊎_elim
    (λ (h : (now ≡ true) × ((place : ℕ) (x : Item) → Has mine place x → is_of pid x ≡ false)). ⊎_elim
    (λ (of : is_of pid p.1 ≡ true).
    let gave : gives pid p.1 ≡ true = sym (ap (λ (b : Bool). cond b (gives pid p.1) before) of) ∙ h.0 in
    inr (
      p.0,
      inl (refl, only_given pid p.1 gave),
      λ later x has lt. ⊎_elim
          (λ (is : (p.0 ≡ later) × (p.1 ≡ x)). let same = is.0 in absurd (omega arith))
          (λ (rest : Has mine later x). h.1 later x rest)
          has,
    ))
    (λ (not : is_of pid p.1 ≡ false).
    inl (
      sym (ap (λ (b : Bool). cond b (gives pid p.1) before) not) ∙ h.0,
      λ place x has. ⊎_elim
          (λ (is : (p.0 ≡ place) × (p.1 ≡ x)). subst (λ y. is_of pid y ≡ false) is.1 not)
          (λ (rest : Has mine place x). h.1 place x rest)
          has,
    ))
    (decide (is_of pid p.1)))
    (λ (h : (place : ℕ) × Has mine place (Given pid) × ((later : ℕ) (x : Item) → Has mine later x → place < later → is_of pid x ≡ false)).
    inr (
      h.0,
      inr h.1,
      λ later x has lt. ⊎_elim
          (λ (is : (p.0 ≡ later) × (p.1 ≡ x)). let same = is.0 in let above = risen (p.0 + 1) mine h.0 (Given pid) up.1 h.1 in absurd (omega arith))
          (λ (rest : Has mine later x). h.2 later x rest lt)
          has,
    ))
    (holds_at pid now (p.0 + 1) mine up.1 given)

-- a seat that holds a process has its Given, and no later item of it
pub held_at : (pid low : ℕ) (mine : List Placed) → Rises low mine → holds pid mine ≡ true
    → (place : ℕ) × Has mine place (Given pid) × ((later : ℕ) (x : Item) → Has mine later x → place < later → is_of pid x ≡ false)
held_at pid low mine up held = ⊎_elim
    (λ (h : (false ≡ true) × ((place : ℕ) (x : Item) → Has mine place x → is_of pid x ≡ false)). absurd (true≢false (sym h.0)))
    (λ (h : (place : ℕ) × Has mine place (Given pid) × ((later : ℕ) (x : Item) → Has mine later x → place < later → is_of pid x ≡ false)). h)
    (holds_at pid false low mine up held)

none_changes : (pid : ℕ) (before : Bool) (mine : List Placed) → ((place : ℕ) (x : Item) → Has mine place x → is_of pid x ≡ false) → given_after pid before (items_of mine) ≡ before
none_changes pid before [] none_of = refl
none_changes pid before (p ∷ mine) none_of =
    ap (λ (b : Bool). given_after pid (cond b (gives pid p.1) before) (items_of mine)) (none_of p.0 p.1 (inl (refl, refl)))
    ∙ none_changes pid before mine (λ place x has. none_of place x (inr has))

-- and the other way round
pub held_by : (pid : ℕ) (before : Bool) (low : ℕ) (mine : List Placed) (place : ℕ) → Rises low mine → Has mine place (Given pid)
    → ((later : ℕ) (x : Item) → Has mine later x → place < later → is_of pid x ≡ false) → given_after pid before (items_of mine) ≡ true
held_by pid before low [] place up has none_later = absurd has
held_by pid before low (p ∷ mine) place up has none_later = ⊎_elim
    (λ (is : (p.0 ≡ place) × (p.1 ≡ Given pid)).
    let same = is.0 in
    let of : is_of pid p.1 ≡ true = subst (λ x. is_of pid x ≡ true) (sym is.1) (given_is_of pid) in
    let given : gives pid p.1 ≡ true = subst (λ x. gives pid x ≡ true) (sym is.1) (given_gives pid) in
    ap (λ (b : Bool). given_after pid (cond b (gives pid p.1) before) (items_of mine)) of
    ∙ none_changes pid (gives pid p.1) mine (λ later x rest. none_later later x (inr rest) (let above = risen (p.0 + 1) mine later x up.1 rest in omega arith))
    ∙ given)
    (λ (rest : Has mine place (Given pid)).
    held_by pid (cond (is_of pid p.1) (gives pid p.1) before) (p.0 + 1) mine place up.1 rest (λ later x has_later lt. none_later later x (inr has_later) lt))
    has

items_more : (mine : List Placed) (p : Placed) → items_of (mine ++ p ∷ []) ≡ items_of mine ++ p.1 ∷ []
items_more [] p = refl
items_more (q ∷ mine) p = ap (λ items. q.1 ∷ items) (items_more mine p)

-- one item more of the seat's own
pub holds_more : (pid : ℕ) (mine : List Placed) (p : Placed) → holds pid (mine ++ p ∷ []) ≡ cond (is_of pid p.1) (gives pid p.1) (holds pid mine)
holds_more pid mine p = ap (λ items. is_given pid items) (items_more mine p) ∙ given_more pid false (items_of mine) p.1

pub has_more : (mine : List Placed) (p : Placed) (place : ℕ) (x : Item) → Has mine place x → Has (mine ++ p ∷ []) place x
has_more [] p place x has = absurd has
has_more (q ∷ mine) p place x has = ⊎_elim
    (λ (is : (q.0 ≡ place) × (q.1 ≡ x)). inl is)
    (λ (rest : Has mine place x). inr (has_more mine p place x rest))
    has

pub has_last : (mine : List Placed) (p : Placed) → Has (mine ++ p ∷ []) p.0 p.1
has_last [] p = inl (refl, refl)
has_last (q ∷ mine) p = inr (has_last mine p)

pub has_end : (mine : List Placed) (p : Placed) (place : ℕ) (x : Item) → Has (mine ++ p ∷ []) place x → Has mine place x ⊎ ((p.0 ≡ place) × (p.1 ≡ x))
has_end [] p place x has = ⊎_elim (λ (is : (p.0 ≡ place) × (p.1 ≡ x)). inr is) (λ (no : ⊥). absurd no) has
has_end (q ∷ mine) p place x has = ⊎_elim
    (λ (is : (q.0 ≡ place) × (q.1 ≡ x)). inl (inl is))
    (λ (rest : Has (mine ++ p ∷ []) place x). ⊎_elim
    (λ (old : Has mine place x). inl (inr old))
    (λ (is : (p.0 ≡ place) × (p.1 ≡ x)). inr is)
    (has_end mine p place x rest))
    has

-- places rise on where a later one comes behind them
pub rises_more : (low : ℕ) (mine : List Placed) (p : Placed) → Rises low mine → low ≤ p.0 → ((place : ℕ) (x : Item) → Has mine place x → place < p.0) → Rises low (mine ++ p ∷ [])
rises_more low [] p up le below = (le, tt)
rises_more low (q ∷ mine) p up le below =
    (up.0, rises_more (q.0 + 1) mine p up.1 (let lt = below q.0 q.1 (inl (refl, refl)) in omega arith) (λ place x has. below place x (inr has)))

-- a seat that holds a process by its own items: it is given out after the history
pub given_where_last : (pid : ℕ) (history : List Item) (mine : List Placed) → ((place : ℕ) (x : Item) → Has mine place x → get_elem? history place ≡ some x)
    → IsLast pid history mine → is_given pid history ≡ true
given_where_last pid history mine stand last = given_by_last pid false history last.0 (stand last.0 (Given pid) last.1) last.2
