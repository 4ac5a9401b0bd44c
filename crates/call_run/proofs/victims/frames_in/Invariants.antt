use Rattle.std.proofs.Common.{◌≡◌, ◌≤◌, count_by, take}
use Rattle.call_run.specs.Weights.{has_frame}
use Rattle.call_run.proofs.victims.frames_in.Given as goal

-- the frames before the entry are counted
abbrev pub invariant-loop-entry : goal.invariant-loop-entry
invariant-loop-entry l = record {
  frames : l.frames ≡ count_by has_frame (take l.entry-index l.node.entries);
  few : l.frames ≤ l.entry-index;
}
