use Rattle.std.proofs.Common.{◌≡◌, ◌∙◌, map, ap}
use Rattle.call_run.specs.Sleepers.{doubted}
use Rattle.call_run.specs.Stores.{SleepersView}
use Rattle.call_run.proofs.Channels.{all_doubted, some_told}
use Rattle.call_run.proofs.sleepers.Sleepers.doubt.Goals as goal

pub returns-then-self-clause-channels : goal.returns-then-self-clause-channels
returns-then-self-clause-channels c =
    let told : c.self.inside.told.items ≡ c.args.self.now.told = ap (λ (s : SleepersView). s.told) c.self.view_is in
    let channels : c.self.inside.channels ≡ c.args.self.now.channels = ap (λ (s : SleepersView). s.channels) c.self.view_is in
    all_doubted c.args.self.now.told c.args.self.now.channels c.doubt_all.new.channels
    (some_told c.self.inside.told.items c.args.self.now.told c.is_empty.result told c.is_empty.ensures c.if-is_empty.false)
    (c.doubt_all.ensures ∙ ap (map doubted) channels)
