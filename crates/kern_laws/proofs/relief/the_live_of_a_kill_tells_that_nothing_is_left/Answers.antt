use Rattle.kern_laws.proofs.Caches.{all_pinned, nothing_left}
use Rattle.kern_laws.proofs.relief.the_live_of_a_kill_tells_that_nothing_is_left.Goals as goal

pub returns : goal.returns
returns c = λ world may. (λ live. nothing_left world may live, λ none. all_pinned world may none)
