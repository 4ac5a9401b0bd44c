use Rattle.store_objects.proofs.OpenMoving.{kept_opened, runs_opened, stands_opened}
use Rattle.store_objects.proofs.open_moves.a_store_goes_on_with_what_is_open.Goals as goal

pub returns-clause-kept : goal.returns-clause-kept
returns-clause-kept c = kept_opened

pub returns-clause-runs : goal.returns-clause-runs
returns-clause-runs c = runs_opened

pub returns-clause-stands : goal.returns-clause-stands
returns-clause-stands c = stands_opened
