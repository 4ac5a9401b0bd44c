use Rattle.std.proofs.Common.{◌≡◌, ap}
use Rattle.call_run.specs.Stores.{SleepersView}
use Rattle.call_run.proofs.Channels.{none_told}
use Rattle.call_run.proofs.Minding.{nobody_minded}
use Rattle.call_run.proofs.sleepers.Sleepers.keep_in_mind.Goals as goal

pub returns-else-not-is_empty-2-clause-minded : goal.returns-else-not-is_empty-2-clause-minded
returns-else-not-is_empty-2-clause-minded c = λ old new behind.
    let told : c.self.inside.told.items ≡ c.args.self.now.told = ap (λ (s : SleepersView). s.told) c.self.view_is in
    nobody_minded c.args.script.now new.plain c.args.self.now.told c.args.self.now.channels
    (none_told c.self.inside.told.items c.args.self.now.told c.is_empty.result told c.is_empty.ensures c.if-not-is_empty.false)
