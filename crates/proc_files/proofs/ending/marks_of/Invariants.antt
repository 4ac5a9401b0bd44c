use Rattle.std.proofs.Common.{◌≡◌, ◌<◌, ◌≤◌, ℕ, false, length}
use Rattle.proc_table.specs.Procs.{numbers_in}
use Rattle.proc_files.specs.Ending.{goes_at_exec, is_marked}
use Rattle.proc_files.proofs.ending.marks_of.Given as goal
use Rattle.kabi_types.specs.Arguments.{most_descriptors}

-- the numbers below are marked
abbrev pub invariant-loop-fd : goal.invariant-loop-fd
invariant-loop-fd l = record {
  below : (k : ℕ) → k < l.fd → is_marked l.marks k ≡ goes_at_exec (numbers_in l.heap l.proc) k;
  behind : (k : ℕ) → l.fd ≤ k → is_marked l.marks k ≡ false;
  long : length l.marks ≡ most_descriptors;
}
