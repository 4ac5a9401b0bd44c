use Rattle.open_laws.proofs.DescribedLemmas.{left_named}
use Rattle.desc_table.proofs.descriptions.name_less.Goals as goal

pub returns-clause-left : goal.returns-clause-left
returns-clause-left c = left_named c.args.heap.now c.set_desc.new.self c.args.key c.args.found c.requires.more c.set_desc.ensures.kept
