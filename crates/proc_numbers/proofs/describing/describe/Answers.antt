use Rattle.proc_numbers.proofs.Opens.{have_described}
use Rattle.proc_numbers.proofs.Owners.{made_within, no_node_described, owners_described}
use Rattle.proc_numbers.proofs.describing.describe.Goals as goal

pub returns-clause-opened : goal.returns-clause-opened
returns-clause-opened c = λ numbers files kept hand.
    have_described c.args.heap.now c.insert_desc.new.self c.args.sock c.insert_desc.result c.insert_desc.ensures.vacant
    (made_within c.args.heap.now c.insert_desc.new.self c.args.sock c.insert_desc.result c.insert_desc.ensures.kept c.insert_desc.ensures.stored) c.insert_desc.ensures.kept numbers files kept hand

pub returns-clause-owners : goal.returns-clause-owners
returns-clause-owners c = λ hand loose.
    owners_described c.args.heap.now c.insert_desc.new.self c.args.sock c.insert_desc.result c.insert_desc.ensures.vacant
    (made_within c.args.heap.now c.insert_desc.new.self c.args.sock c.insert_desc.result c.insert_desc.ensures.kept c.insert_desc.ensures.stored) c.insert_desc.ensures.kept hand loose

pub returns-clause-nodes : goal.returns-clause-nodes
returns-clause-nodes c =
    no_node_described c.args.heap.now c.insert_desc.new.self c.args.sock c.insert_desc.result c.insert_desc.ensures.vacant
    (made_within c.args.heap.now c.insert_desc.new.self c.args.sock c.insert_desc.result c.insert_desc.ensures.kept c.insert_desc.ensures.stored) c.insert_desc.ensures.kept
