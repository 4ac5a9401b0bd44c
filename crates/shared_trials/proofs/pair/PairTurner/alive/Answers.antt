use Rattle.std.proofs.Common.{sym, ap, ◌∙◌}
use Rattle.std.specs.Prelude.{is_some}
use Rattle.shared_trials.proofs.PairSteps.{next_some}
use Rattle.shared_trials.proofs.pair.PairTurner.alive.Goals as goal

pub returns : goal.returns
returns c = λ world is. c.is_some.ensures ∙ ap is_some c.act_of.ensures ∙ sym (next_some c.args.self.now.scene c.args.self.now.cached c.args.pid _ world is c.who.ensures)
