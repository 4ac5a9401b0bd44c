use Rattle.std.proofs.Common.{◌≡◌, ◌∙◌, length, ap, sym, subst, arith}
use Rattle.kern_core.specs.RunOver.{HasEndedOver}
use Rattle.run_report.proofs.Telling.{summed}
use Rattle.run_report.proofs.summaries.sum_up_core.Goals as goal

pub summary-requires : goal.summary-requires
summary-requires g c =
    let same : c.run_to_end-end.new.core.steps ≡ c.args.script.now.steps = c.run_to_end-end.ensures.steps ∙ c.requires.steps in
    let few : length c.run.result.now ≡ length c.run_to_end-end.new.core.run = ap length c.run.ensures.same in
    let within = c.run.ensures.runs.within in
    let most = c.requires.valid.most_steps in
    omega arith

pub returns-clause-summed : goal.returns-clause-summed
returns-clause-summed g c =
    let core = c.run_to_end-end.new.core in
    let ended : HasEndedOver g.T.Turner.stands g.T.Turner.marks g.T.Turner.high c.args.script.now core c.run_to_end-end.result =
    subst (λ s. HasEndedOver g.T.Turner.stands g.T.Turner.marks g.T.Turner.high s core c.run_to_end-end.result) (sym c.requires.script) c.run_to_end-end.ensures.ended in
    summed g.T.Turner.stands g.T.Turner.marks g.T.Turner.high c.args.script.now core c.run_to_end-end.result c.run.result.now c.args.rounds _ ended
    (c.run_to_end-end.ensures.steps ∙ c.requires.steps) c.run.ensures.same c.in_ok-text.ensures
