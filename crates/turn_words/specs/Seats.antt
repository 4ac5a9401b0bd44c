-- What contracts see of the turns and of a seat.
use Rattle.std.specs.Prelude.{◌≡◌, ℕ, ◌%◌, ◌^◌, true, false, cond, List, [], ◌∷◌, Option, None}
use Rattle.atomic_table.specs.Seated.{TableId}
use Rattle.atomic_table.specs.Table.{Me}
use Rattle.turn_words.specs.declared.rule.TurnView.{TurnView}

-- the turns that a seat belongs to, and what the seat knows
pub record SeatState (T : Type 0) : Type 0 where
  pub turns : TableId
  pub known : TurnView T

abbrev pub seat_of : {T : Type 0} → TableId → TurnView T → SeatState T
seat_of turns known = record { turns = turns; known = known }

-- the slot that is out with a seat, which is empty then
abbrev pub slots_of : {T : Type 0} → TurnView T → List (ℕ × Option T)
slots_of v = cond v.is_out ((0, None) ∷ []) []

-- what a seat keeps beside its view: the number of its ticket, modulo 2^64, and the slot while the value is out
pub record IsSeat {T : Type 0} (kept : ℕ) (me : Me (Option T) (TurnView T)) : Type 0 where
  pub in_use : me.0.is_spent ≡ false
  pub turn : me.0.has_turn ≡ true → me.0.has_ticket ≡ true
  pub out : me.0.is_out ≡ true → (me.0.has_turn ≡ true) × (me.0.has_put ≡ false)
  pub put : me.0.has_put ≡ true → me.0.has_turn ≡ true
  pub slots : me.1 ≡ slots_of me.0
  pub number : me.0.has_ticket ≡ true → kept ≡ me.0.ticket % 2 ^ 64
