use Rattle.std.proofs.Common.{◌≡◌, ◌≤◌}
use Rattle.kern_shared.specs.Attends.{ReservesNothing}
use Rattle.kern_shared.proofs.kernel.Kernel.reserve.Given as goal

abbrev pub invariant-loop : goal.invariant-loop
invariant-loop g l =
    record {
      charge : l.own.charge ≡ g.L.RunName.charge;
      empty : l.own.known.holds ≡ 0;
      loads : l.fn.own.known.loads ≤ l.own.known.loads;
      nothing : ReservesNothing l.fn.own.known l.own.known;
    }
