use Rattle.std.proofs.Common.{◌≡◌, ◌≤◌, count_by, take}
use Rattle.run_report.specs.Summaries.{answers}
use Rattle.run_report.proofs.summaries.answered_in.Given as goal

-- the answers before the event are counted
abbrev pub invariant-loop-noted : goal.invariant-loop-noted
invariant-loop-noted l = record {
  calls : l.calls ≡ count_by (λ noted. answers noted.entry) (take l.noted-index l.run);
  few : l.calls ≤ l.noted-index;
}
