use Rattle.answer_laws.proofs.Failing.{fails_alone}
use Rattle.answer_laws.proofs.answers.an_error_changes_the_control_alone_of_all_calls.Goals as goal

pub returns : goal.returns
returns c = fails_alone
