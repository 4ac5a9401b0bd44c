use Rattle.answer_laws.proofs.Blocking.{blocked_may}
use Rattle.answer_laws.proofs.answers.seven_calls_alone_may_block.Goals as goal

pub returns : goal.returns
returns c = blocked_may
