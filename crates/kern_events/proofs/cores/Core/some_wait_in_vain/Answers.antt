use Rattle.std.proofs.Common.{not, ap, ◌∙◌}
use Rattle.kern_events.proofs.Known.{none_in_vain}
use Rattle.kern_events.proofs.cores.Core.some_wait_in_vain.Goals as goal

pub returns-else-not-all_fit : goal.returns-else-not-all_fit
returns-else-not-all_fit g c = λ s at.
    let fit = c.all_fit.ensures c.if-not-all_fit.false in
    ap not c.if-not-all_fit.false ∙ none_in_vain (g.T.Turner.script c.args.self.now.store) s fit.room _ _ at.tasks at.charged fit.whole fit.each
