use Rattle.std.proofs.Common.{refl, subst, sym, ◌∙◌, ap}
use Rattle.shared_trials.specs.Pair.{world_at}
use Rattle.shared_trials.proofs.PairSteps.{evicted_high, pair_evicts, pair_keeps, pair_since}
use Rattle.posix_defs.specs.Relief.{Evicts}
use Rattle.shared_trials.proofs.pair.PairTurner.evict.Goals as goal

pub returns-clause-evicted : goal.returns-clause-evicted
returns-clause-evicted c = λ world is can. (
  world_at c.lead.new.self.scene c.lead.new.self.cached,
  refl,
  subst (λ s. Evicts world c.args.what (world_at s c.lead.new.self.cached)) (sym c.lead.ensures.scene)
      (pair_evicts c.args.self.now.scene c.args.self.now.cached c.args.what _ world is (c.lead.ensures.cached ∙ c.cached_without.ensures) can),
)

pub returns-clause-kept : goal.returns-clause-kept
returns-clause-kept c = λ world is none.
    pair_keeps c.args.self.now.scene c.args.self.now.cached c.args.what _ world is (c.lead.ensures.cached ∙ c.cached_without.ensures) none
    ∙ ap (λ s. world_at s c.lead.new.self.cached) (sym c.lead.ensures.scene)

pub returns-clause-since : goal.returns-clause-since
returns-clause-since c = λ world is. pair_since c.args.self.now.scene c.args.self.now.cached _ _ world c.lead.new.self.high is c.lead.ensures.high

pub returns-clause-high : goal.returns-clause-high
returns-clause-high c = λ world is.
    evicted_high c.args.self.now.scene c.args.self.now.cached c.args.what c.cached_without.result world c.lead.new.self.high is c.cached_without.ensures c.lead.ensures.high
