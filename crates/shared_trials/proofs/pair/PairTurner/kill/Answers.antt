use Rattle.std.proofs.Common.{refl, ◌∙◌}
use Rattle.shared_trials.specs.Pair.{world_at}
use Rattle.shared_trials.proofs.PairSteps.{first_spared, killed_high, pair_killed, pair_since, pair_spared}
use Rattle.shared_trials.proofs.pair.PairTurner.kill.Goals as goal

pub returns-clause-killed : goal.returns-clause-killed
returns-clause-killed c = λ world is lives other. (
  world_at c.lead.new.self.scene c.lead.new.self.cached,
  refl,
  pair_killed c.args.self.now.scene c.args.self.now.cached c.args.pid _ _ _ world is c.who.ensures (c.lead.ensures.scene ∙ c.scene_killed.ensures) c.lead.ensures.cached lives other,
)

pub returns-clause-gone : goal.returns-clause-gone
returns-clause-gone c = λ world is ended.
    pair_spared c.args.self.now.scene c.args.self.now.cached c.args.pid _ _ _ world is c.who.ensures (c.lead.ensures.scene ∙ c.scene_killed.ensures) c.lead.ensures.cached ended

pub returns-clause-first : goal.returns-clause-first
returns-clause-first c = λ world is first.
    first_spared c.args.self.now.scene c.args.self.now.cached c.args.pid _ _ _ world is c.who.ensures (c.lead.ensures.scene ∙ c.scene_killed.ensures) c.lead.ensures.cached first

pub returns-clause-since : goal.returns-clause-since
returns-clause-since c = λ world is. pair_since c.args.self.now.scene c.args.self.now.cached _ _ world c.lead.new.self.high is c.lead.ensures.high

pub returns-clause-high : goal.returns-clause-high
returns-clause-high c = λ world is.
    killed_high c.args.self.now.scene c.args.self.now.cached c.args.pid _ c.scene_killed.result c.args.self.now.cached world c.lead.new.self.high is c.who.ensures c.scene_killed.ensures refl c.lead.ensures.high
