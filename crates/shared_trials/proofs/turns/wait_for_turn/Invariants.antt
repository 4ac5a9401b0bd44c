use Rattle.std.proofs.Common.{◌≡◌, true, false}
use Rattle.shared_trials.proofs.turns.wait_for_turn.Given as goal

abbrev pub invariant-loop : goal.invariant-loop
invariant-loop g l =
    (l.seat.turns ≡ l.turns) × (l.seat.known.has_ticket ≡ true) × (l.seat.known.is_out ≡ false) × (l.seat.known.has_put ≡ false)
