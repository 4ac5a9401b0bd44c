-- The charge rule, and what each kind of atomic step tells its seat.
use Rattle.std.specs.Prelude.{◌≡◌, ◌≢◌, ℕ, ◌+◌, ◌-◌, ◌≤◌, true, false, cond, List, [], ◌∷◌, length, slice_index}
use mathlib.Core.Option.{some}
use lib.ListN.{get_elem?}
use Rattle.atomic_table.specs.Table.{State, Me, Step}
use Rattle.charge_words.specs.declared.rule.ChargeView.{ChargeView}

-- the table of one word and no slot, and what a seat of it has
abbrev pub Cells : Type 0
Cells = State (Unit {0}) ChargeView

abbrev pub Mine : Type 0
Mine = Me (Unit {0}) ChargeView

-- a weight of all views, added up
abbrev pub total : (ChargeView → ℕ) → List ChargeView → ℕ
total weight [] = 0
total weight (v ∷ views) = weight v + total weight views

-- what a view counts: a spent one counts 0
abbrev pub counted : ChargeView → ℕ
counted v = cond v.is_spent 0 v.holds

-- 1 for the view of a seat that can still step
abbrev pub in_use : ChargeView → ℕ
in_use v = cond v.is_spent 0 1

-- 1 for the view of the seat of `boot`
abbrev pub as_boot : ChargeView → ℕ
as_boot v = cond v.is_boot 1 0

-- a view that isn't spent names the heap, and that of `boot` has the number of the other views that aren't spent
abbrev pub IsViewOf : ℕ → ℕ → ChargeView → Type 0
IsViewOf heap seats v = (v.is_spent ≡ false → v.heap ≡ heap) × (v.is_boot ≡ true → (v.is_spent ≡ false) × (v.others + 1 ≡ seats))

-- The rule: the word is the sum of what all views hold, and it is at most the heap.
pub record IsCharged (heap : ℕ) (s : Cells) : Type 0 where
  pub one_word : length s.words ≡ 1
  pub sum : slice_index s.words 0 ≡ total counted s.views
  pub room : slice_index s.words 0 ≤ heap
  pub one_boot : total as_boot s.views ≡ 1
  pub each : (by : ℕ) (v : ChargeView) → get_elem? s.views by ≡ some v → IsViewOf heap (total in_use s.views) v

-- the view of the seat of `boot`, before any step
abbrev pub opened : ℕ → ChargeView
opened heap = record { heap = heap; is_boot = true; is_spent = false; holds = 2816; others = 0; loads = 0; last = 0; earlier = 0; held = 0; reserves = 0; raised = 0 }

-- a new seat's view
abbrev pub fresh : ℕ → ChargeView
fresh heap = record { heap = heap; is_boot = false; is_spent = false; holds = 0; others = 0; loads = 0; last = 0; earlier = 0; held = 0; reserves = 0; raised = 0 }

-- what a seat that splits makes
abbrev pub newcomer : ChargeView → ChargeView
newcomer v = fresh v.heap

-- the view that a join leaves
abbrev pub spent : ChargeView
spent = record { heap = 0; is_boot = false; is_spent = true; holds = 0; others = 0; loads = 0; last = 0; earlier = 0; held = 0; reserves = 0; raised = 0 }

-- the seat now holds this much
abbrev pub holding : ChargeView → ℕ → ChargeView
holding v n = record v { holds = n }

-- the seat holds so much more, and one more step has reserved
abbrev pub reserving : ChargeView → ℕ → ChargeView
reserving v n = record v { holds = v.holds + n; reserves = v.reserves + 1; raised = v.raised + n }

-- a load found this word
abbrev pub loaded : ChargeView → ℕ → ChargeView
loaded v word = record v { loads = v.loads + 1; last = word; earlier = v.last; held = v.holds }

-- one more seat was split
abbrev pub with_one_more : ChargeView → ChargeView
with_one_more v = record v { others = v.others + 1 }

-- another seat was joined, with all that it held and had reserved
abbrev pub taken_in : ChargeView → ChargeView → ChargeView
taken_in v other = record v {
  holds = v.holds + other.holds;
  others = v.others - 1;
  reserves = v.reserves + other.reserves;
  raised = v.raised + other.raised;
}

-- another seat was joined, a new one was split, and this much is held of what both held
abbrev pub settled : ChargeView → ChargeView → ℕ → ChargeView
settled v other kept = record v { holds = kept; reserves = v.reserves + other.reserves; raised = v.raised + other.raised }

-- what the rule tells at a word: it is at most the heap and at least what the seat holds, and just that where no other seat is left
abbrev pub Tells : ChargeView → ℕ → Type 0
Tells v word = (word ≤ v.heap) × (v.holds ≤ word) × (v.is_boot ≡ true → v.others ≡ 0 → word ≡ v.holds)

-- the word was found, and only the view changes
abbrev pub Loads : Step (Unit {0}) → Mine → ℕ → Mine → Type 0
Loads step before found after = (after ≡ (loaded before.0 found, before.1)) × Tells before.0 found

-- the word was the expected one, and the seat holds what was added; or it was another, and is loaded
abbrev pub Reserves : Step (Unit {0}) → Mine → ℕ → Mine → Type 0
Reserves step before found after =
    (found ≡ step.first → (after ≡ (reserving before.0 (step.second - step.first), before.1)) × Tells before.0 found)
    × (found ≢ step.first → (after ≡ (loaded before.0 found, before.1)) × Tells before.0 found)

-- the seat holds so much less
abbrev pub GivesBack : Step (Unit {0}) → Mine → ℕ → Mine → Type 0
GivesBack step before found after = (after ≡ (holding before.0 (before.0.holds - step.first), before.1)) × Tells before.0 found
