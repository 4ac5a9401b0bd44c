use Rattle.std.proofs.Common.{◌-◌, length}
use Rattle.page_space.proofs.TakeLemmas.{IsTaking}
use Rattle.proc_numbers.proofs.spaces.fetch.Given as goal

abbrev pub invariant-loop-done : goal.invariant-loop-done
invariant-loop-done l = IsTaking l.heap l.space l.addr l.initial.out l.out l.done

abbrev pub decreases-loop-done : goal.decreases-loop-done
decreases-loop-done l = length l.initial.out - l.done
