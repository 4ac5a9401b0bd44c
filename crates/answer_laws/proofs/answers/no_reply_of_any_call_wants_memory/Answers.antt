use Rattle.answer_laws.proofs.Failing.{never_wants}
use Rattle.answer_laws.proofs.answers.no_reply_of_any_call_wants_memory.Goals as goal

pub returns : goal.returns
returns c = never_wants
