use Rattle.std.proofs.Common.{◌<◌, ◌^◌, ◌∙◌, ap, length, subst, sym}
use Rattle.run_report.specs.Histories.{report_threads}
use Rattle.kres_tool.proofs.threads.report_closed.Goals as goal

pub report_history-requires : goal.report_history-requires
report_history-requires g c = subst (λ entries. length entries < 2 ^ 32) (sym c.items-entries.ensures) c.requires.few

pub returns-clause-text : goal.returns-clause-text
returns-clause-text g c = λ world stands.
    c.in_ok-text.ensures ∙ ap (λ entries. report_threads entries c.in-Some.end c.args.closed.now.charged c.reads.result) c.items-entries.ensures
    ∙ ap (λ n. report_threads c.args.closed.now.history c.in-Some.end c.args.closed.now.charged n) (c.reads.ensures world stands)
