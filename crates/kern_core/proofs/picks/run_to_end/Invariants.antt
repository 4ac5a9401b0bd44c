use Rattle.std.proofs.Common.{◌≡◌, ◌-◌, length}
use Rattle.kern_tasks.specs.View.{GoesInside}
use Rattle.kern_core.specs.RunOver.{HasRunOver}
use Rattle.kern_core.proofs.PickedRuns.{ChoosesFrom}
use Rattle.kern_core.proofs.picks.run_to_end.Given as goal

-- the run so far went by the rule of choice
abbrev pub invariant-loop-end : goal.invariant-loop-end
invariant-loop-end g l = record {
  script : g.T.Turner.script l.core.store ≡ g.T.Turner.script l.initial.core.store;
  steps : l.core.steps ≡ l.initial.core.steps;
  ran : HasRunOver g.T.Turner.stands g.T.Turner.marks g.T.Turner.high (g.T.Turner.script l.initial.core.store) l.core;
  chooses : ChoosesFrom l.choosing (g.T.Turner.script l.initial.core.store).chooser (length l.core.run);
  inside : GoesInside g.T.Turner.stands g.T.Turner.marks g.T.Turner.high (g.T.Turner.script l.initial.core.store) l.initial.core l.core;
}

abbrev pub decreases-loop-end : goal.decreases-loop-end
decreases-loop-end g l = l.core.steps - length l.core.run
