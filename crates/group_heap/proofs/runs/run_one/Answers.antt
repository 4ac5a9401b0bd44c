use Rattle.std.proofs.Common.{◌≡◌, ◌∙◌, length, ap, sym, subst, arith}
use Rattle.kern_core.specs.RunOver.{HasEndedOver}
use Rattle.group_heap.proofs.Telling.{run_report, tells_run}
use Rattle.group_heap.proofs.runs.run_one.Goals as goal

pub report-requires : goal.report-requires
report-requires g c =
    let same : c.run_to_end-end.new.core.steps ≡ c.args.script.now.steps = c.run_to_end-end.ensures.steps ∙ c.requires.steps in
    let few : length c.run.result.now ≡ length c.run_to_end-end.new.core.run = ap length c.run.ensures.same in
    let within = c.run.ensures.runs.within in
    let most = c.requires.valid.most_steps in
    omega arith

tells : goal.returns-clause-tells
tells g c =
    let core = c.run_to_end-end.new.core in
    let ended : HasEndedOver g.T.Turner.stands g.T.Turner.marks g.T.Turner.high c.args.script.now core c.run_to_end-end.result =
    subst (λ s. HasEndedOver g.T.Turner.stands g.T.Turner.marks g.T.Turner.high s core c.run_to_end-end.result) (sym c.requires.script) c.run_to_end-end.ensures.ended in
    tells_run g.T.Turner.stands g.T.Turner.marks g.T.Turner.high c.args.script.now core c.run_to_end-end.result c.run.result.now c.charged.result c.peak.result c.reads.result c.from_vec.result
    ended (c.run_to_end-end.ensures.steps ∙ c.requires.steps) c.run.ensures.same c.charged.ensures.value
    (c.peak.ensures ∙ c.run.ensures.runs.peak) (c.reads.ensures ended.state ended.is_at)
    (c.from_vec.ensures ∙ ap (λ v. v.items) c.into_bytes.ensures.value ∙ c.in_ok-text.ensures)

pub returns-clause-tells : goal.returns-clause-tells
returns-clause-tells g c = tells g c

pub returns-clause-reported : goal.returns-clause-reported
returns-clause-reported g c = run_report g.T.Turner.stands g.T.Turner.marks g.T.Turner.high c.args.script.now c.run_to_end-end.new.core c.run_to_end-end.result c.from_vec.result (tells g c)
