use Rattle.machine_laws.proofs.Wholeness.{has_bytes, is_whole}
use Rattle.machine_laws.proofs.whole.every_machine_that_is_reached_is_whole.Goals as goal

pub returns-clause-whole : goal.returns-clause-whole
returns-clause-whole c = is_whole

pub returns-clause-bytes : goal.returns-clause-bytes
returns-clause-bytes c = has_bytes
