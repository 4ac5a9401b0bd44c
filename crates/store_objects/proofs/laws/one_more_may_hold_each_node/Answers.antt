use Rattle.store_objects.proofs.FewPins.{few_pins}
use Rattle.store_objects.proofs.laws.one_more_may_hold_each_node.Goals as goal

pub returns : goal.returns
returns c = λ script objects world number stands well. few_pins script objects world stands well number
