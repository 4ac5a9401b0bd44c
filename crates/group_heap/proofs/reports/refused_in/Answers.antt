use Rattle.std.proofs.Common.{◌≡◌, ◌∙◌, ◌+◌, Bool, sym, ap, arith}
use Rattle.std.proofs.lemmas.List.Sums.{count_by_more_no, count_by_more_yes}
use Rattle.std.proofs.Math.ListN.{get_or}
use Rattle.group_heap.specs.Reports as spec
use Rattle.group_heap.specs.Telling.{told_of}
use Rattle.group_heap.proofs.reports.refused_in.Goals.{then-is_refused, else-is_refused}
use Rattle.group_heap.proofs.reports.refused_in.Goals as goal

-- src/reports.rt:84:5
pub loop-group-preserved : goal.loop-group-preserved
loop-group-preserved g c = elim c.if-is_refused.branch [
  | then-is_refused w ↦ record {
    refused = w.refused-is ∙ ap (λ n. n + 1) c.loop-group.invariant.refused
        ∙ sym (count_by_more_yes (λ group. spec.is_refused (told_of group)) c.args.groups.now c.loop-group.group-index c.group-item.result c.loop-group-test.true
        (is w.if-is_refused.true));
    few = omega (arith, w.refused-is, c.loop-group.invariant.few);
  }
  | else-is_refused w ↦ record {
    refused = w.refused-is ∙ c.loop-group.invariant.refused
        ∙ sym (count_by_more_no (λ group. spec.is_refused (told_of group)) c.args.groups.now c.loop-group.group-index c.group-item.result c.loop-group-test.true
        (is w.if-is_refused.false));
    few = omega (arith, w.refused-is, c.loop-group.invariant.few);
  }
]
  where
    is : {so : Bool} → c.is_refused.result ≡ so → spec.is_refused (told_of (get_or c.args.groups.now c.loop-group.group-index c.group-item.result)) ≡ so
    is so = sym (ap (λ group. spec.is_refused (told_of group)) c.group-item.is) ∙ sym c.is_refused.ensures ∙ so
