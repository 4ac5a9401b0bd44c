use Rattle.std.proofs.Common.{◌≡◌, ◌-◌, ◌≤◌, length, true, vec_capacity}
use Rattle.std.specs.List.{AllByRecursion}
use Rattle.kern_shared.specs.Closing.{IsEmpty}
use Rattle.kern_shared.proofs.boot.split_charge.Given as goal

abbrev pub invariant-loop-owns : goal.invariant-loop-owns
invariant-loop-owns l =
    record {
      charge : l.seat.charge ≡ l.word;
      boot : l.seat.known.is_boot ≡ true;
      holds : l.seat.known.holds ≡ l.initial.seat.known.holds;
      reserves : l.seat.known.reserves ≡ l.initial.seat.known.reserves;
      room : l.count ≤ vec_capacity l.owns;
      many : length l.owns.items ≤ l.count;
      each : AllByRecursion (IsEmpty l.word) l.owns.items;
    }

abbrev pub decreases-loop-owns : goal.decreases-loop-owns
decreases-loop-owns l = l.count - length l.owns.items
