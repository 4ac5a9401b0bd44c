use Rattle.std.proofs.Common.{◌≡◌, true, refl, subst, ◌∙◌}
use Rattle.posix_defs.specs.Plain.{call_of}
use Rattle.posix_defs.specs.Process.{is_alive}
use Rattle.posix_defs.specs.World.{World}
use Rattle.shared_trials.specs.Pair.{pair, world_at}
use Rattle.shared_trials.proofs.PairSteps.{pair_since, pair_turned, turned_high}
use Rattle.shared_trials.proofs.pair.PairTurner.turn.Goals as goal

pub returns-clause-turned : goal.returns-clause-turned
returns-clause-turned c = λ world is. (
  world_at c.lead.new.self.scene c.lead.new.self.cached,
  refl,
  pair_turned c.args.self.now.heap c.args.self.now.scene c.args.self.now.cached c.args.pid c.args._call.now _ _ _ _ _ world is
      c.who-one.ensures c.act_of-act.ensures (c.lead.ensures.scene ∙ c.scene_after.ensures) (c.lead.ensures.cached ∙ c.cached_by-cached.ensures) c.told_of.ensures
      (subst (λ (w : World). is_alive w.plain.table c.args.pid ≡ true → c.args._call.now ≡ call_of (pair c.args.self.now.heap) w.plain c.args.pid) c.requires.may.1 c.requires.may.2),
)

pub returns-clause-high : goal.returns-clause-high
returns-clause-high c = λ world is.
    turned_high (pair c.args.self.now.heap) c.args.self.now.scene c.args.self.now.cached c.args.pid c.args._call.now c.scene_after.result c.cached_by-cached.result c.told_of.result world
    c.lead.new.self.high is
    (pair_turned c.args.self.now.heap c.args.self.now.scene c.args.self.now.cached c.args.pid c.args._call.now _ _ _ _ _ world is
    c.who-one.ensures c.act_of-act.ensures c.scene_after.ensures c.cached_by-cached.ensures c.told_of.ensures
    (subst (λ (w : World). is_alive w.plain.table c.args.pid ≡ true → c.args._call.now ≡ call_of (pair c.args.self.now.heap) w.plain c.args.pid) c.requires.may.1 c.requires.may.2))
    c.lead.ensures.high

pub returns-clause-since : goal.returns-clause-since
returns-clause-since c = λ world is. pair_since c.args.self.now.scene c.args.self.now.cached _ _ world c.lead.new.self.high is c.lead.ensures.high
