use Rattle.kern_laws.proofs.Errors.{fails_alone, wants_no_memory}
use Rattle.kern_laws.proofs.processes.an_error_changes_the_control_alone.Goals as goal

pub returns : goal.returns
returns c = λ script plain pid call errno next e. (fails_alone script plain pid call errno next e, wants_no_memory script plain pid call errno next e)
