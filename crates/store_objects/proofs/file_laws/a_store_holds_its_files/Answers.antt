use Rattle.store_objects.proofs.StoreFiles.{holds_names, works_in_some, works_somewhere}
use Rattle.store_objects.proofs.file_laws.a_store_holds_its_files.Goals as goal

pub returns-clause-holds : goal.returns-clause-holds
returns-clause-holds c = λ script objects world stands sound well. holds_names script objects world stands well sound

pub returns-clause-works : goal.returns-clause-works
returns-clause-works c = λ script objects world pid stands sound well alive.
    (works_somewhere script objects world stands well sound pid alive, works_in_some script objects world stands well sound pid alive)
