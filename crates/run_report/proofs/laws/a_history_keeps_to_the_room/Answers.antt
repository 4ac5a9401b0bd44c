use Rattle.run_report.proofs.Headlines.{entry_keeps}
use Rattle.run_report.proofs.laws.a_history_keeps_to_the_room.Goals as goal

pub returns : goal.returns
returns c = λ script entries past legal. entry_keeps script entries past legal
