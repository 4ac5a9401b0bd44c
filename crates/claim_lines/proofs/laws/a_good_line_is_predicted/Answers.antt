use Rattle.claim_lines.proofs.Leading.{good_line, predicted_line}
use Rattle.claim_lines.proofs.laws.a_good_line_is_predicted.Goals as goal

pub returns-clause-good : goal.returns-clause-good
returns-clause-good c = good_line

pub returns-clause-predicted : goal.returns-clause-predicted
returns-clause-predicted c = predicted_line
