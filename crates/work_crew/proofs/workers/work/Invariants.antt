use Rattle.std.proofs.Common.{◌≡◌, None}
use Rattle.kern_shared.specs.Passes.{IsAtRest}
use Rattle.work_crew.specs.Working.{GoesOn}
use Rattle.work_crew.proofs.workers.work.Given as goal

abbrev pub invariant-loop : goal.invariant-loop
invariant-loop g l =
    record {
      pass : IsAtRest g.L.RunName.script g.L.RunName.steps g.L.RunName.charge l.kernel.turns l.pass.turn l.pass.own l.pass.given;
      none : l.pass.given ≡ None;
      goes_on : GoesOn l.fn.pass.turn.known l.pass.turn.known;
    }
