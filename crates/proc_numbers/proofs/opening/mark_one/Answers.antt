use Rattle.std.proofs.Common.{◌≡◌, ◌∙◌, cond, false, is_some, true, refl, ap, sym, subst}
use Rattle.desc_table.specs.Numbered.{leaf_spent}
use Rattle.posix_defs.specs.Files.State.{with_open}
use Rattle.proc_numbers.specs.Having.{HaveOpen}
use Rattle.proc_numbers.specs.Naming.{marked}
use Rattle.proc_numbers.proofs.NumberNames.{marked_so}
use Rattle.proc_numbers.proofs.NumberOpens.{beside_named, changes_named, listed_named, opened_named, owners_same}
use Rattle.proc_numbers.proofs.NumberRooms.{room_open}
use Rattle.proc_numbers.proofs.opening.mark_one.Goals as goal

pub returns-clause-marked : goal.returns-clause-marked
returns-clause-marked c = λ numbers files have.
    let held = c.args.descriptor in
    subst (λ o. HaveOpen numbers c.put_number.new.heap c.args.procs.now (with_open files c.args.place.pid c.args.fd o))
    (sym (marked_so numbers c.args.heap.now c.args.procs.now files c.args.place.pid have c.args.fd held c.args.cloexec c.requires.names))
    (opened_named c.args.heap.now c.put_number.new.heap c.args.procs.now c.args.place.pid c.args.fd (marked held c.args.cloexec) c.requires.listed c.put_number.ensures.names numbers files have)

pub returns-clause-listed : goal.returns-clause-listed
returns-clause-listed c =
    listed_named c.args.heap.now c.put_number.new.heap c.args.procs.now c.args.place.pid c.args.fd (marked c.args.descriptor c.args.cloexec) c.requires.listed c.put_number.ensures.names

pub returns-clause-owners : goal.returns-clause-owners
returns-clause-owners c = λ hand.
    let held = c.args.descriptor in
    owners_same c.args.heap.now c.put_number.new.heap c.args.procs.now c.args.place.pid c.args.fd (marked held c.args.cloexec) c.requires.listed c.put_number.ensures.names hand held c.requires.names refl

pub returns-clause-changes : goal.returns-clause-changes
returns-clause-changes c =
    changes_named c.args.heap.now c.put_number.new.heap c.args.procs.now c.args.place.pid c.args.fd (marked c.args.descriptor c.args.cloexec) c.requires.listed c.put_number.ensures.names

pub returns-clause-beside : goal.returns-clause-beside
returns-clause-beside c =
    beside_named c.args.heap.now c.put_number.new.heap c.args.procs.now c.args.place.pid c.args.fd (marked c.args.descriptor c.args.cloexec) c.requires.listed c.put_number.ensures.names

pub put_number-requires-clause-left : goal.put_number-requires-clause-left
put_number-requires-clause-left c = λ none.
    let has = room_open c.args.heap.now c.args.procs.now c.args.place.pid c.args.place.key c.args.fd c.is_well_formed.ensures c.requires.listed c.requires.there (ap is_some c.requires.names) in
    absurd (let both : true ≡ false = sym has ∙ none in cc)

pub returns-clause-spent : goal.returns-clause-spent
returns-clause-spent c =
    let has = room_open c.args.heap.now c.args.procs.now c.args.place.pid c.args.place.key c.args.fd c.is_well_formed.ensures c.requires.listed c.requires.there (ap is_some c.requires.names) in
    c.put_number.ensures.spent ∙ ap (λ b. cond b c.args.purse.now (leaf_spent c.args.purse.now)) has
