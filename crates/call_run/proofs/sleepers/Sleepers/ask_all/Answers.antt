use Rattle.std.proofs.Common.{◌≡◌, ◌∙◌, length, ap, arith}
use Rattle.call_run.specs.Sleepers.{channel_at}
use Rattle.call_run.specs.Stores.{SleepersView}
use Rattle.call_run.proofs.Minding.{minded_alone}
use Rattle.call_run.proofs.sleepers.Sleepers.ask_all.Goals as goal

pub ask_each-requires-clause-room : goal.ask_each-requires-clause-room
ask_each-requires-clause-room c =
    let stirred : c.self.inside.stirred.items ≡ c.args.self.now.stirred = ap (λ (s : SleepersView). s.stirred) c.self.view_is ∙ c.forget_channels.ensures.stirred in
    let many = ap length stirred in
    omega (arith, c.requires.room)

pub returns-clause-minded : goal.returns-clause-minded
returns-clause-minded c = λ world stands reached.
    minded_alone c.args.script.now world.plain c.ask_each.new.told.items c.self.inside.channels
    (λ place. ap (λ (s : SleepersView). channel_at s.channels place) c.self.view_is ∙ c.forget_channels.ensures.channels place) (c.ask_each.ensures.truly world stands reached)

pub returns-clause-room : goal.returns-clause-room
returns-clause-room c =
    let stirred : c.self.inside.stirred.items ≡ c.args.self.now.stirred = ap (λ (s : SleepersView). s.stirred) c.self.view_is ∙ c.forget_channels.ensures.stirred in
    let many = ap length stirred in
    omega (arith, c.ask_each.ensures.room, c.requires.room)
