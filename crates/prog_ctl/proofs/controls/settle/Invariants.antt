use Rattle.std.proofs.Common.{◌-◌, ◌<◌, length}
use Rattle.prog_ctl.proofs.Settling.{SettlesAs}
use Rattle.prog_ctl.proofs.controls.settle.Given as goal

abbrev pub invariant-loop-statement : goal.invariant-loop-statement
invariant-loop-statement l = SettlesAs l.body l.initial.control l.control × (l.control.place < 4294967296)

abbrev pub decreases-loop-statement : goal.decreases-loop-statement
decreases-loop-statement l = length l.body - l.control.place
