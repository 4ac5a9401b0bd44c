use Rattle.std.proofs.Common.{◌∙◌, refl}
use Rattle.shared_trials.proofs.PairSteps.{pair_refused, pair_since, refused_high}
use Rattle.shared_trials.proofs.pair.PairTurner.refuse.Goals as goal

pub returns-clause-refused : goal.returns-clause-refused
returns-clause-refused c = λ world is lives.
    pair_refused c.args.self.now.heap c.args.self.now.scene c.args.self.now.cached c.args.pid _ _ _ world is c.who.ensures (c.lead.ensures.scene ∙ c.scene_refused.ensures) c.lead.ensures.cached lives

pub returns-clause-since : goal.returns-clause-since
returns-clause-since c = λ world is. pair_since c.args.self.now.scene c.args.self.now.cached _ _ world c.lead.new.self.high is c.lead.ensures.high

pub returns-clause-high : goal.returns-clause-high
returns-clause-high c = λ world is.
    refused_high c.args.self.now.scene c.args.self.now.cached c.args.pid _ c.scene_refused.result c.args.self.now.cached world c.lead.new.self.high is c.who.ensures c.scene_refused.ensures refl c.lead.ensures.high
