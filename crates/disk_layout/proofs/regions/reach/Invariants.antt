use Rattle.std.proofs.Common.{◌≡◌, ◌+◌, ◌-◌, ◌≤◌, ◌++◌, length, replicate}
use Rattle.std.specs.Prelude.{vec_capacity}
use Rattle.posix_defs.specs.DiskContents.{zeros}
use Rattle.disk_layout.proofs.regions.reach.Given as goal

abbrev pub invariant-loop : goal.invariant-loop
invariant-loop l = record { blocks : l.written.items ≡ l.fn.written.items ++ replicate (l.counter - length l.fn.written.items) (zeros 1024); room : vec_capacity l.written ≡ vec_capacity l.fn.written; most : l.counter ≤ length l.fn.written.items + (l.fn.place - length l.fn.written.items) }
