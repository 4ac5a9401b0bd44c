use Rattle.machine_laws.proofs.FrameAnswers.{run_framed}
use Rattle.machine_laws.proofs.frames.pages_of_a_frame_have_its_bytes.Goals as goal

pub returns : goal.returns
returns c = λ script history past run. run_framed run
