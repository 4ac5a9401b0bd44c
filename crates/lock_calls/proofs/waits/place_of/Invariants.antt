use Rattle.std.proofs.Common.{◌≡◌, IsSome, drop}
use Rattle.proc_table.specs.Table.{key_of}
use Rattle.lock_calls.proofs.waits.place_of.Given as goal

-- who isn't found yet is among the rest
abbrev pub invariant-loop-place : goal.invariant-loop-place
invariant-loop-place l = record {
  at : l.at ≡ l.place-index;
  there : IsSome (key_of (drop l.place-index l.listed) l.pid);
}
