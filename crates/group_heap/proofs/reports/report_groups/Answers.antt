use Rattle.std.proofs.Common.{◌++◌, string_bytes, ap, ◌∙◌}
use Rattle.group_heap.specs.Reports.{all_lines}
use Rattle.group_heap.specs.Telling.{told_each}
use Rattle.group_heap.proofs.Telling.{is_report, report_is}
use Rattle.group_heap.proofs.reports.report_groups.Goals as goal

is_text : goal.returns-clause-text
is_text g c =
    report_is c.args.groups.now c.from_vec.result c.push_groups.new.out.items (string_bytes c.in_ok-line.line) c.refused_in.result
    (c.from_vec.ensures ∙ c.in_ok-extend_from_slice.ensures.items ∙ ap (λ t. c.push_groups.new.out.items ++ t) c.as_bytes.ensures.value)
    (c.in_ok-push_groups.ensures ∙ ap (λ f. f ++ all_lines (told_each c.args.groups.now)) c.new-out.ensures.items)
    c.in_ok-line.ensures c.refused_in.ensures

pub returns-clause-text : goal.returns-clause-text
returns-clause-text g c = is_text g c

pub returns-clause-report : goal.returns-clause-report
returns-clause-report g c = λ whole done. is_report g.T.Turner.stands g.T.Turner.marks g.T.Turner.high whole c.args.groups.now c.from_vec.result (is_text g c) done
