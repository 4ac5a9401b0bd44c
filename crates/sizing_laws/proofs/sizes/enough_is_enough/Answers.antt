use Rattle.sizing_laws.proofs.Runs.{any_same, picked_same}
use Rattle.sizing_laws.proofs.sizes.enough_is_enough.Goals as goal

pub returns-clause-chosen : goal.returns-clause-chosen
returns-clause-chosen c = picked_same

pub returns-clause-anyhow : goal.returns-clause-anyhow
returns-clause-anyhow c = any_same
