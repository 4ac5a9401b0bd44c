use Rattle.std.proofs.Common.{◌≡◌, ◌∙◌, ℕ, [], Option, None, Some, ap, length, subst, sym}
use Rattle.std.proofs.lemmas.List.{length-set}
use Rattle.proc_numbers.proofs.Owners.{owners_change}
use Rattle.proc_numbers.proofs.Told.{keyed_there, queues_changed}
use Rattle.proc_files.specs.Names.{name_in, name_of}
use Rattle.proc_files.specs.SocketGoing.{socket_going, unnamed}
use Rattle.proc_files.specs.NameHolding.{HoldNames}
use Rattle.proc_files.proofs.Freed.{name_taken, nothing_taken}
use Rattle.proc_files.proofs.Ties.{none_is}
use Rattle.proc_files.proofs.UnnamedClosed.{going_named}
use Rattle.proc_files.proofs.closing.unname_going.Goals as goal

pub returns-in_default-node-clause-hold : goal.returns-in_default-node-clause-hold
returns-in_default-node-clause-hold c = λ numbers others kept fs files hold.
    let socketed = hold.held.opened.opened.socketed in
    let going : socket_going c.args.found.now.desc ≡ Some c.in-Some.key = sym c.socket_going.ensures ∙ c.in-Some.is in
    let none : name_of c.args.heap.now.socks c.in-Some.key ≡ None = ap name_in c.get_sock.ensures ∙ c.in_default-node.is in
    subst (λ (o : Option ℕ). HoldNames numbers others c.args.heap.now kept fs c.args.names.now (unnamed numbers files o)) (sym going)
    (nothing_taken numbers others c.args.heap.now kept fs c.args.names.now files hold.held hold.bound hold.places c.in-Some.key
    (keyed_there c.args.heap.now [] c.in-Some.key c.requires.owners (going_named c.args.heap.now c.args.found.now.key c.args.found.now.desc c.requires.there c.in-Some.key going) socketed.keyed socketed.stands) none hold.named)

pub returns-clause-hold : goal.returns-clause-hold
returns-clause-hold c = λ numbers others kept fs files hold.
    let going : socket_going c.args.found.now.desc ≡ Some c.in-Some.key = sym c.socket_going.ensures ∙ c.in-Some.is in
    let named : name_of c.args.heap.now.socks c.in-Some.key ≡ Some c.in-Some-node.node = ap name_in c.get_sock.ensures ∙ c.in-Some-node.is in
    subst (λ (o : Option ℕ). HoldNames numbers others c.take_name.new.heap kept fs c.take_name.new.names (unnamed numbers files o)) (sym going)
    (name_taken numbers others c.args.heap.now kept fs c.args.names.now files hold.held hold.bound hold.places c.in-Some-node.node c.in-Some.key
    (c.requires.bound.named c.in-Some.key c.in-Some-node.node named) c.requires.owners c.take_name.new.heap c.take_name.ensures.change c.take_name.ensures.stands c.take_name.new.names c.take_name.ensures.bound c.take_name.ensures.names
    None hold.named (λ other is. absurd (none_is is)))

pub returns-clause-owners : goal.returns-clause-owners
returns-clause-owners c = owners_change c.args.heap.now c.take_name.new.heap [] c.take_name.ensures.change c.requires.owners

pub returns-clause-places : goal.returns-clause-places
returns-clause-places c = ap length c.take_name.ensures.names ∙ length-set c.args.names.now c.in-Some-node.node None

pub returns-clause-queues : goal.returns-clause-queues
returns-clause-queues c = queues_changed c.args.heap.now c.take_name.new.heap c.take_name.ensures.change.others c.take_name.ensures.queues
