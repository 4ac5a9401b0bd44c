use Rattle.std.proofs.Common.{◌≡◌, ◌*◌, ◌^◌, ◌≤◌, take}
use Rattle.std.specs.List.{sum_by}
use Rattle.kabi_types.specs.Counts.{class_bytes}
use Rattle.need_table.proofs.bounds.total.Given as goal

-- the bytes of the classes so far
abbrev pub invariant-loop-class : goal.invariant-loop-class
invariant-loop-class l = record {
  bytes : l.bytes ≡ sum_by (class_bytes l.need) (take l.class-index l.classes);
  few : l.bytes ≤ l.class-index * 2 ^ 44;
}
