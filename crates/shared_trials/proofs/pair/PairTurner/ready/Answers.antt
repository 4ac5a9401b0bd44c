use Rattle.std.proofs.Common.{◌≡◌, true, not, sym, subst}
use Rattle.posix_defs.specs.Machine.{would_block}
use Rattle.posix_defs.specs.Process.{is_alive}
use Rattle.posix_defs.specs.World.{World}
use Rattle.shared_trials.specs.Pair.{pair}
use Rattle.shared_trials.proofs.PairSteps.{pair_ready}
use Rattle.shared_trials.proofs.pair.PairTurner.ready.Goals as goal

pub returns : goal.returns
returns c = λ world is lives.
    subst (λ (w : World). true ≡ not (would_block (pair c.args.self.now.heap) w.plain c.args._pid)) (sym is)
    (pair_ready c.args.self.now.heap c.args.self.now.scene c.args.self.now.cached c.args._pid (subst (λ (w : World). is_alive w.plain.table c.args._pid ≡ true) is lives))
