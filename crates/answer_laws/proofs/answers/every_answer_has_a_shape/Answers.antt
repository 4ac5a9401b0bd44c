use Rattle.answer_laws.proofs.Shapes.{machine_shape}
use Rattle.answer_laws.proofs.answers.every_answer_has_a_shape.Goals as goal

pub returns : goal.returns
returns c = machine_shape
