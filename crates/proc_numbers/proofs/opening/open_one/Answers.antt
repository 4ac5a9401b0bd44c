use Rattle.proc_numbers.proofs.NumberOpens.{listed_named, opened_named, owners_named}
use Rattle.proc_numbers.proofs.opening.open_one.Goals as goal

pub returns-clause-opened : goal.returns-clause-opened
returns-clause-opened c =
    opened_named c.args.heap.now c.put_number.new.heap c.args.procs.now c.args.place.pid c.args.fd c.args.descriptor c.requires.listed c.put_number.ensures.names

pub returns-clause-listed : goal.returns-clause-listed
returns-clause-listed c =
    listed_named c.args.heap.now c.put_number.new.heap c.args.procs.now c.args.place.pid c.args.fd c.args.descriptor c.requires.listed c.put_number.ensures.names

pub returns-clause-owners : goal.returns-clause-owners
returns-clause-owners c =
    λ hand. owners_named c.args.heap.now c.put_number.new.heap c.args.procs.now c.args.place.pid c.args.fd c.args.descriptor c.requires.listed c.put_number.ensures.names hand c.requires.free
