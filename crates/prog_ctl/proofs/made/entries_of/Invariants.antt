use Rattle.std.proofs.Common.{◌≡◌, ◌+◌, ◌*◌, ◌≤◌, ◌++◌, drop, length}
use Rattle.posix_defs.specs.Made.{pairs_of}
use Rattle.prog_ctl.proofs.made.entries_of.Given as goal

abbrev pub invariant-loop-fd : goal.invariant-loop-fd
invariant-loop-fd l = (l.entries.items ++ pairs_of l.rest ≡ pairs_of (drop 1 l.numbers)) × (2 * length l.entries.items + length l.rest ≤ 16)

abbrev pub decreases-loop-fd : goal.decreases-loop-fd
decreases-loop-fd l = length l.rest
