use Rattle.store_objects.proofs.FileMoving.{kept_turned, runs_turned, stands_turned}
use Rattle.store_objects.proofs.file_moves.a_store_goes_on_with_its_files.Goals as goal

pub returns-clause-kept : goal.returns-clause-kept
returns-clause-kept c = kept_turned

pub returns-clause-runs : goal.returns-clause-runs
returns-clause-runs c = runs_turned

pub returns-clause-stands : goal.returns-clause-stands
returns-clause-stands c = stands_turned
