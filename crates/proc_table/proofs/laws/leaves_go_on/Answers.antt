use Rattle.proc_table.proofs.LeafEnds.{hold_booted, hold_ended, hold_nodes, hold_turned, hold_waited}
use Rattle.proc_table.proofs.LeafTurns.{forked_all, turned_hold, turned_others}
use Rattle.proc_table.proofs.laws.leaves_go_on.Goals as goal

pub returns : goal.returns
returns c = record {
  booted = hold_booted;
  turned = λ old new kept pid key proc now holds hold turns. turned_hold old new kept pid key proc now holds.stored holds.rising hold turns;
  others = λ old new kept pid key proc now q other holds hold turns. turned_others old new kept pid key proc now holds.stored holds.rising hold turns q other;
  forked = forked_all;
  ended = hold_ended;
  waited = hold_waited;
  remembers = hold_nodes;
  replaced = hold_turned;
}
