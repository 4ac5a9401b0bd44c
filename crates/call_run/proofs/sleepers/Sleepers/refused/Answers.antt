use Rattle.std.proofs.Common.{◌≡◌, ◌∙◌, ap, sym, subst}
use Rattle.posix_defs.specs.Relief.{refused_in}
use Rattle.call_run.specs.Sleepers.{AreMinded, without}
use Rattle.call_run.specs.Stores.{SleepersView}
use Rattle.call_run.proofs.Minding.{refused_minded}
use Rattle.call_run.proofs.NoLock.{free_behind, none_is}
use Rattle.call_run.proofs.sleepers.Sleepers.refused.Goals as goal

pub returns-else-not-is_empty-clause-minded : goal.returns-else-not-is_empty-clause-minded
returns-else-not-is_empty-clause-minded c = λ world reached minded stands reaches.
    let script = c.args.script.now in
    let told : c.get_up.new.self.told ≡ without c.args.self.now.told c.args.pid = c.get_up.ensures.told ∙ ap (λ (s : SleepersView). without s.told c.args.pid) c.self.view_is in
    let channels : c.get_up.new.self.channels ≡ c.args.self.now.channels = c.get_up.ensures.channels ∙ ap (λ (s : SleepersView). s.channels) c.self.view_is in
    subst (λ ts. AreMinded script (refused_in script world c.args.pid).plain ts c.get_up.new.self.channels) (sym told)
    (subst (AreMinded script (refused_in script world c.args.pid).plain (without c.args.self.now.told c.args.pid)) (sym channels)
    (refused_minded script world c.args.pid c.args.self.now.told c.args.self.now.channels reached
    (free_behind script c.args.objects.now (refused_in script world c.args.pid) stands (none_is c.args.objects.now.locks c.is_empty.result c.is_empty.ensures c.if-not-is_empty.false)) minded))

pub returns-then-not-is_empty-clause-minded : goal.returns-then-not-is_empty-clause-minded
returns-then-not-is_empty-clause-minded c = λ world reached minded stands reaches. c.ask_all.ensures.minded (refused_in c.args.script.now world c.args.pid) stands reaches
