use Rattle.machine_laws.proofs.FrameAnswers.{follows_unwritten}
use Rattle.machine_laws.proofs.frames.a_shared_frame_is_written_by_nobody.Goals as goal

pub returns : goal.returns
returns c = λ script history past added next run follows. follows_unwritten added next run follows
