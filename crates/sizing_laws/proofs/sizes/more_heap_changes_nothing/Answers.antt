use Rattle.sizing_laws.proofs.Runs.{more_is_same}
use Rattle.sizing_laws.proofs.sizes.more_heap_changes_nothing.Goals as goal

pub returns : goal.returns
returns c = more_is_same
