-- What contracts see of a charge word and of a seat.
use Rattle.std.specs.Prelude.{ℕ}
use Rattle.atomic_table.specs.Seated.{TableId}
use Rattle.charge_words.specs.declared.rule.ChargeView.{ChargeView}

-- which charge word it is, and what it may hold at most
pub record ChargeWord : Type 0 where
  pub table : TableId
  pub heap : ℕ

-- the charge word that a seat belongs to, and what the seat knows
pub record SeatState : Type 0 where
  pub charge : ChargeWord
  pub known : ChargeView

abbrev pub word_of : TableId → ℕ → ChargeWord
word_of table heap = record { table = table; heap = heap }

abbrev pub seat_of : ChargeWord → ChargeView → SeatState
seat_of charge known = record { charge = charge; known = known }
