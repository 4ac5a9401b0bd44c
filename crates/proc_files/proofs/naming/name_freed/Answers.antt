use Rattle.std.proofs.Common.{◌∙◌, ℕ, [], Option, None, ap, length, subst, sym}
use Rattle.std.proofs.lemmas.List.{length-set}
use Rattle.posix_defs.specs.Files.SocketNames.{after_freeing}
use Rattle.posix_defs.specs.Files.State.{with_sockets}
use Rattle.proc_numbers.proofs.Owners.{owners_change}
use Rattle.proc_numbers.proofs.Told.{queues_changed}
use Rattle.proc_files.specs.NameHolding.{HoldNames}
use Rattle.proc_files.specs.Holders.{HaveNamesBut}
use Rattle.proc_files.proofs.Freed.{bound_freed, bound_there, unbound_freed}
use Rattle.proc_files.proofs.naming.name_freed.Goals as goal

-- ---- the one that was freed is nobody's

pub returns-in_default-bound_at-clause-hold : goal.returns-in_default-bound_at-clause-hold
returns-in_default-bound_at-clause-hold c = λ numbers others kept fs files held named places.
    subst (λ (o : Option ℕ). HoldNames numbers others c.args.heap.now kept fs c.args.names.now (with_sockets files (after_freeing files.sockets o))) (sym c.in-Some.is)
    (unbound_freed numbers others c.args.heap.now kept fs c.args.names.now files held c.requires.bound places c.in-Some.node (sym c.bound_at.ensures ∙ c.in_default-bound_at.is)
    (subst (λ (o : Option ℕ). HaveNamesBut o files) c.in-Some.is named))

-- ---- a socket's

pub take_name-requires-clause-there : goal.take_name-requires-clause-there
take_name-requires-clause-there c =
    bound_there c.args.heap.now c.args.names.now c.in-Some-bound_at.key c.in-Some.node c.requires.owners c.requires.bound (sym c.bound_at.ensures ∙ c.in-Some-bound_at.is)

pub returns-clause-hold : goal.returns-clause-hold
returns-clause-hold c = λ numbers others kept fs files held named places.
    subst (λ (o : Option ℕ). HoldNames numbers others c.take_name.new.heap kept fs c.take_name.new.names (with_sockets files (after_freeing files.sockets o))) (sym c.in-Some.is)
    (bound_freed numbers others c.args.heap.now kept fs c.args.names.now files held c.requires.bound places c.in-Some.node c.in-Some-bound_at.key (sym c.bound_at.ensures ∙ c.in-Some-bound_at.is) c.requires.owners
    c.take_name.new.heap c.take_name.ensures.change c.take_name.ensures.stands c.take_name.new.names c.take_name.ensures.bound c.take_name.ensures.names
    (subst (λ (o : Option ℕ). HaveNamesBut o files) c.in-Some.is named))

pub returns-clause-owners : goal.returns-clause-owners
returns-clause-owners c = owners_change c.args.heap.now c.take_name.new.heap [] c.take_name.ensures.change c.requires.owners

pub returns-clause-queues : goal.returns-clause-queues
returns-clause-queues c = queues_changed c.args.heap.now c.take_name.new.heap c.take_name.ensures.change.others c.take_name.ensures.queues

pub returns-clause-places : goal.returns-clause-places
returns-clause-places c = ap length c.take_name.ensures.names ∙ length-set c.args.names.now c.in-Some.node None
