-- What the laws say.
use Rattle.std.specs.Prelude.{◌≡◌, ℕ, ◌+◌, ◌<◌, ◌≤◌, true, List, [], ◌∷◌, ◌++◌, length}
use mathlib.Core.Option.{some}
use lib.ListN.{get_elem?}
use Rattle.turn_words.specs.declared.items.Item.{Item}
use Rattle.turn_words.specs.declared.rule.TurnView.{TurnView}
use Rattle.turn_words.specs.Items.{entry_of, heard, noted, said}
use Rattle.turn_words.specs.Rule.{Cells, IsTurns, total, waiting}

-- a view has the ticket of this number, and every view that has it is the same
abbrev pub StandsInOne : {T : Type 0} → List (TurnView T) → ℕ → Type 0
StandsInOne {T} views n =
    (by : ℕ) × ((v : TurnView T) × (get_elem? views by ≡ some v) × (v.has_ticket ≡ true) × (v.ticket ≡ n))
    × ((other : ℕ) (w : TurnView T) → get_elem? views other ≡ some w → w.has_ticket ≡ true → w.ticket ≡ n → other ≡ by)

abbrev pub EachTicketStandsInOneView : {T : Type 0} → (T → List Item → Type 0) → Type 0
EachTicketStandsInOneView {T} stands =
    (history : List Item) (s : Cells T) → IsTurns stands history s
    → (n : ℕ) → length history ≤ n → n < length history + total waiting s.views → StandsInOne s.views n

abbrev pub NotedGoesOn : Type 0
NotedGoesOn =
    (history : List Item) (x : Item)
    → (noted (history ++ x ∷ []) ≡ noted history ++ entry_of x) × (heard (history ++ x ∷ []) ≡ heard history ++ said x)
