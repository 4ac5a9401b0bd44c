use Rattle.std.proofs.Common.{◌≡◌, ◌≤◌, ◌+◌, ◌*◌, drop, length}
use Rattle.std.specs.Prelude.{sum_by}
use Rattle.kheap_slabs.specs.Objects.{object}
use Rattle.kheap_slabs.specs.Spaces.{keys_in}
use Rattle.call_run.specs.Weights.{frames_under}
use Rattle.call_run.proofs.victims.weight_of.Given as goal

-- what the groups before weigh, with those to come, is the whole
abbrev pub invariant-loop-group : goal.invariant-loop-group
invariant-loop-group l = record {
  nodes : l.nodes + length (keys_in (drop l.group-index l.proc.nodes)) ≡ length (keys_in l.proc.nodes);
  frames : l.frames + sum_by (λ key. frames_under (object l.heap.nodes key)) (keys_in (drop l.group-index l.proc.nodes))
      ≡ sum_by (λ key. frames_under (object l.heap.nodes key)) (keys_in l.proc.nodes);
  few_nodes : l.nodes ≤ l.group-index;
  few_frames : l.frames ≤ 64 * l.group-index;
}
