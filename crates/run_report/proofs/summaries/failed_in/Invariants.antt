use Rattle.std.proofs.Common.{◌≡◌, ◌≤◌, count_by, take}
use Rattle.run_report.specs.Summaries.{fails}
use Rattle.run_report.proofs.summaries.failed_in.Given as goal

-- those before the event are counted
abbrev pub invariant-loop-noted : goal.invariant-loop-noted
invariant-loop-noted l = record {
  failed : l.failed ≡ count_by (λ noted. fails noted.entry) (take l.noted-index l.run);
  few : l.failed ≤ l.noted-index;
}
