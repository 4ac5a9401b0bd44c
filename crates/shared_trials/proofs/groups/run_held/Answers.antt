use Rattle.std.proofs.Common.{lit≤, sym, subst}
use Rattle.posix_defs.specs.ValidScript.{IsValid}
use Rattle.shared_trials.proofs.ValidPair.{pair_valid}
use Rattle.shared_trials.proofs.groups.run_held.Goals as goal

pub run_one-requires-clause-valid : goal.run_one-requires-clause-valid
run_one-requires-clause-valid c = subst IsValid (sym c.in_ok-script.ensures) (pair_valid 8192 (lit≤ tt) (lit≤ tt))
