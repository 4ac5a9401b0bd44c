use Rattle.std.proofs.Common.{◌≡◌, ◌≤◌, ◌+◌, length}
use Rattle.posix_defs.specs.Plain as plain
use Rattle.call_run.proofs.store.place_of.Given as goal

abbrev pub invariant-loop-program : goal.invariant-loop-program
invariant-loop-program l =
    (l.place + plain.place_of l.name l.rest ≡ plain.place_of l.name l.programs) × (l.place + length l.rest ≤ 64)

abbrev pub decreases-loop-program : goal.decreases-loop-program
decreases-loop-program l = length l.rest
