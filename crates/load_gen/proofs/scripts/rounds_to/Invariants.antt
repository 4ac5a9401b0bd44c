use Rattle.std.proofs.Common.{◌≡◌, ◌+◌, ◌*◌, ◌≤◌, length}
use Rattle.posix_defs.specs.Generated.{rounds_to}
use Rattle.posix_defs.specs.Generator.{state_after}
use Rattle.load_gen.proofs.scripts.rounds_to.Given as goal

-- the rounds so far, and the state of the generator behind them
abbrev pub invariant-loop-i : goal.invariant-loop-i
invariant-loop-i l = record {
  rounds : l.body.items ≡ rounds_to l.fn.n l.i;
  state : l.state ≡ state_after l.fn.n l.i;
  short : length l.body.items ≤ 1 + 8 * l.i;
}
