use Rattle.chunk_queue.proofs.AccountLemmas.{live_of_queue}
use Rattle.chunk_queue.proofs.laws.live_follows_the_account.Goals as goal

pub returns : goal.returns
returns c = live_of_queue
