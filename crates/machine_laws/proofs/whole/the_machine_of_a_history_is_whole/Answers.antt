use Rattle.machine_laws.proofs.Histories.{run_reached}
use Rattle.machine_laws.proofs.Texting.{valid_texts}
use Rattle.machine_laws.proofs.Wholeness.{is_whole}
use Rattle.machine_laws.proofs.whole.the_machine_of_a_history_is_whole.Goals as goal

pub returns-clause-reached : goal.returns-clause-reached
returns-clause-reached c = λ script history past run. run_reached run

pub returns-clause-whole : goal.returns-clause-whole
returns-clause-whole c = λ script history past valid run. is_whole script past.plain (valid_texts script valid) (run_reached run)
