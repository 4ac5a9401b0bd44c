use Rattle.std.proofs.Common.{arith}
use Rattle.std.proofs.lemmas.List.{take_all}
use Rattle.desc_table.proofs.descriptors.open_among.Goals as goal

pub returns-clause-count : goal.returns-clause-count
returns-clause-count c = rw (take_all c.loop-place.place-index c.args.places.now (omega arith)) at c.loop-place.invariant.count
