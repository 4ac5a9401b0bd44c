use Rattle.kern_events.proofs.Known.{none_starves}
use Rattle.kern_events.proofs.cores.Core.starves_for.Goals as goal

pub returns-then-all_fit : goal.returns-then-all_fit
returns-then-all_fit g c = λ s at.
    let fit = c.all_fit.ensures c.if-all_fit.true in none_starves (g.T.Turner.script c.args.self.now.store) s fit.room _ _ at.tasks at.charged fit.whole fit.each
