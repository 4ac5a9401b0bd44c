use Rattle.store_objects.proofs.Beginning.{serves_begun}
use Rattle.store_objects.proofs.file_moves.an_open_that_waits_serves.Goals as goal

pub returns : goal.returns
returns c = λ script old mid new pid which opening told answer moves within tells goes on stay leaves.
    serves_begun script old mid new pid which opening told within tells answer moves goes on stay leaves
