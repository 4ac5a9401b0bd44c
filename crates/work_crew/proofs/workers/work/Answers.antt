use Rattle.work_crew.proofs.Working.{by_pick, goes_further, sees_end}
use Rattle.work_crew.proofs.workers.work.Goals as goal

pub returns-in-Over-clause-worked : goal.returns-in-Over-clause-worked
returns-in-Over-clause-worked g c = record {
  goes_on = goes_further _ _ _ c.loop.invariant.goes_on (by_pick _ g.L.RunName.script g.L.RunName.steps _ _ c.pick.result c.pick.ensures.picks);
  saw = sees_end _ g.L.RunName.script g.L.RunName.steps _ _ c.in-Over.field-0 c.pick.ensures.pass.shared c.in-Over.ensures.picks;
}
