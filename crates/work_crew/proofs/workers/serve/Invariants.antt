use Rattle.std.proofs.Common.{◌≡◌, Some}
use Rattle.turn_words.specs.Items.{heard}
use Rattle.kern_shared.specs.Attends.{HoldsCall}
use Rattle.kern_shared.specs.Passes.{IsAtRest}
use Rattle.work_crew.specs.Working.{GoesOn, ServesOn}
use Rattle.work_crew.proofs.workers.serve.Given as goal

abbrev pub invariant-loop : goal.invariant-loop
invariant-loop g l =
    record {
      pass : IsAtRest g.L.RunName.script g.L.RunName.steps g.L.RunName.charge l.kernel.turns l.pass.turn l.pass.own l.pass.given;
      given : l.pass.given ≡ Some l.pid;
      holds : HoldsCall g.L.RunName.script g.L.RunName.steps (heard l.pass.turn.known.seen) l.pid l.call;
      goes_on : GoesOn l.fn.pass.turn.known l.pass.turn.known;
      serves : ServesOn g.L.RunName.script g.L.RunName.steps l.pid l.call l.fn.pass.turn l.fn.pass.own.known l.pass.turn l.pass.own.known;
    }
