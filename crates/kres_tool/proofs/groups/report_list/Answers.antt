use Rattle.std.proofs.Common.{ℕ, IfOk, ap, sym, ◌∙◌, subst}
use Rattle.std.specs.List.{AllByRecursion}
use Rattle.group_heap.specs.Reports.{IsGroupReport}
use Rattle.group_heap.specs.Runs.{IsAtStart, sections_of}
use Rattle.kres_tool.specs.Run.{high, marks, stands}
use Rattle.kres_tool.proofs.groups.report_list.Goals as goal

pub report_ran-requires-clause-start : goal.report_ran-requires-clause-start
report_ran-requires-clause-start g c = λ κs live.
    subst (AllByRecursion (IsAtStart stands (λ store. store.script))) (sym c.as_mut_slice.ensures.value) c.in_ok-groups.ensures.start

pub returns : goal.returns
returns g c =
    subst (λ (whole : ℕ). IfOk c.report_ran.result (IsGroupReport stands marks high whole c.args.list.now.sections)) c.whole.ensures
    (subst (λ sections. IfOk c.report_ran.result (IsGroupReport stands marks high c.whole.result sections)) (ap sections_of c.as_mut_slice.ensures.value ∙ c.in_ok-groups.ensures.sections)
    c.report_ran.ensures)
