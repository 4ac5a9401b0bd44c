use Rattle.std.proofs.Common.{true, sym, subst, inl, inr}
use Rattle.call_run.specs.Sleepers.{AreMinded}
use Rattle.call_run.proofs.Minding.{doubted_minded, lain_minded}
use Rattle.call_run.proofs.sleepers.Sleepers.sleep_on.Goals as goal

pub returns-then-is_none-clause-minded : goal.returns-then-is_none-clause-minded
returns-then-is_none-clause-minded c = λ script world asleep.
    elim c.lie_down.ensures.told [
      | inl lain ↦
          subst (λ ts. AreMinded script world.plain ts c.lie_down.new.self.channels) (sym lain)
          (lain_minded script world.plain c.args.self.now.told c.args.self.now.channels c.lie_down.new.self.channels asleep.minded c.lie_down.ensures.channels c.args.pid true asleep.alive asleep.blocks)
      | inr same ↦
          subst (λ ts. AreMinded script world.plain ts c.lie_down.new.self.channels) (sym same)
          (doubted_minded script world.plain c.args.self.now.told c.args.self.now.channels c.lie_down.new.self.channels asleep.minded c.lie_down.ensures.channels)
    ]
