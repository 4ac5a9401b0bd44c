use Rattle.store_objects.proofs.LiveIs.{live_is}
use Rattle.store_objects.proofs.laws.the_heap_is_the_worlds.Goals as goal

pub returns : goal.returns
returns c = live_is
