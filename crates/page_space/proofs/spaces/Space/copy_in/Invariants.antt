use Rattle.std.proofs.Common.{◌-◌, length}
use Rattle.page_space.proofs.PutLemmas.{IsPutting}
use Rattle.page_space.proofs.spaces.Space.copy_in.Given as goal

abbrev pub invariant-loop-done : goal.invariant-loop-done
invariant-loop-done l = IsPutting l.initial.heap l.initial.purse l.heap l.purse l.self l.addr l.bytes l.done

abbrev pub decreases-loop-done : goal.decreases-loop-done
decreases-loop-done l = length l.bytes - l.done
