use Rattle.store_objects.proofs.Serving.{serves}
use Rattle.store_objects.proofs.file_moves.a_call_on_files_serves.Goals as goal

pub returns : goal.returns
returns c = λ script old mid new pid which said told answer moves within tells goes on locks.
    serves script old mid new pid which said told within tells answer moves goes on locks
