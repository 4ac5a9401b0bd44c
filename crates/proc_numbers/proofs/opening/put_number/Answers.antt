use Rattle.std.proofs.Common.{◌∙◌, Some, cond, refl, ap, sym, subst, arith}
use Rattle.desc_table.specs.Numbered.{InHand, leaf_spent}
use Rattle.kheap_laws.proofs.PaidLemmas.{CanPay-kept, IsPaid-nothing, IsPaid-trans}
use Rattle.kheap_slabs.specs.Heap.{Heap}
use Rattle.kheap_slabs.specs.Leaves.{OwnsLeaves, has_place}
use Rattle.kheap_slabs.specs.Objects.{object}
use Rattle.proc_table.proofs.NumberLemmas.{numbers_all}
use Rattle.proc_numbers.specs.Naming.{has_room_in}
use Rattle.proc_numbers.proofs.NumberRooms.{number_set, room_then}
use Rattle.proc_numbers.proofs.PlacedLeaves.{owns_placed}
use Rattle.proc_numbers.proofs.opening.put_number.Goals as goal

pub at-proc-requires-clause-stored : goal.at-proc-requires-clause-stored
at-proc-requires-clause-stored c =
    c.requires.listed.stored

pub set-requires-clause-owns : goal.set-requires-clause-owns
set-requires-clause-owns c =
    subst (λ (d : InHand). OwnsLeaves c.args.heap.now.leaves d.leaves) (sym c.of-descs.ensures) (owns_placed c.args.heap.now c.args.procs.now c.args.place.pid c.args.place.key c.at-proc.result.now c.requires.listed c.requires.there c.at-proc.ensures.kept)

pub set-requires-clause-left : goal.set-requires-clause-left
set-requires-clause-left c =
    λ none. c.requires.left (ap (λ o. has_room_in o c.args.fd) c.at-proc.ensures.found ∙ ap (λ (d : InHand). has_place d.leaves c.args.fd) (sym c.of-descs.ensures) ∙ none)

pub returns-clause-names : goal.returns-clause-names
returns-clause-names c =
    number_set c.args.heap.now c.set.new.heap c.set_proc_numbers.new.self c.args.procs.now c.args.place.pid c.args.place.key c.at-proc.result.now c.of-descs.result c.set.new.self c.places.result c.leaves.result c.args.fd (Some c.args.descriptor) c.requires.there c.at-proc.ensures.kept c.of-descs.ensures
    (let many = numbers_all c.args.heap.now c.args.place.key c.at-proc.result.now c.is_well_formed.ensures c.at-proc.ensures.kept in let few = c.requires.number in omega (arith, many, few))
    c.set.ensures.numbers c.set.ensures.leaves c.set.ensures.namings c.set.ensures.kept c.places.ensures.value c.leaves.ensures.value (c.set_proc_numbers.ensures.kept c.at-proc.result.now (ap (λ (h : Heap). object h.procs c.args.place.key) c.set.ensures.kept ∙ c.at-proc.ensures.kept))

pub returns-clause-paid : goal.returns-clause-paid
returns-clause-paid c =
    IsPaid-trans c.args.heap.now c.args.purse.now c.set.new.heap c.set.new.purse c.set_proc_numbers.new.self c.set.new.purse c.set.ensures.paid (IsPaid-nothing c.set.new.heap c.set_proc_numbers.new.self c.set.new.purse c.set.new.purse c.set_proc_numbers.ensures.takes refl refl)

pub returns-clause-pays : goal.returns-clause-pays
returns-clause-pays c =
    CanPay-kept c.args.heap.now c.set_proc_numbers.new.self c.args.purse.now c.set.new.purse
    (IsPaid-trans c.args.heap.now c.args.purse.now c.set.new.heap c.set.new.purse c.set_proc_numbers.new.self c.set.new.purse c.set.ensures.paid (IsPaid-nothing c.set.new.heap c.set_proc_numbers.new.self c.set.new.purse c.set.new.purse c.set_proc_numbers.ensures.takes refl refl)) c.requires.pays

pub returns-clause-spent : goal.returns-clause-spent
returns-clause-spent c =
    c.set.ensures.spent ∙ ap (λ b. cond b c.args.purse.now (leaf_spent c.args.purse.now)) (sym (ap (λ o. has_room_in o c.args.fd) c.at-proc.ensures.found ∙ ap (λ (d : InHand). has_place d.leaves c.args.fd) (sym c.of-descs.ensures)))

pub returns-clause-room : goal.returns-clause-room
returns-clause-room c =
    let it =
    number_set c.args.heap.now c.set.new.heap c.set_proc_numbers.new.self c.args.procs.now c.args.place.pid c.args.place.key c.at-proc.result.now c.of-descs.result c.set.new.self c.places.result c.leaves.result c.args.fd (Some c.args.descriptor) c.requires.there c.at-proc.ensures.kept c.of-descs.ensures
    (let many = numbers_all c.args.heap.now c.args.place.key c.at-proc.result.now c.is_well_formed.ensures c.at-proc.ensures.kept in let few = c.requires.number in omega (arith, many, few))
    c.set.ensures.numbers c.set.ensures.leaves c.set.ensures.namings c.set.ensures.kept c.places.ensures.value c.leaves.ensures.value (c.set_proc_numbers.ensures.kept c.at-proc.result.now (ap (λ (h : Heap). object h.procs c.args.place.key) c.set.ensures.kept ∙ c.at-proc.ensures.kept)) in
    room_then c.args.heap.now c.set_proc_numbers.new.self c.args.procs.now c.args.place.pid c.args.fd (Some c.args.descriptor) c.requires.listed it c.args.fd ∙ ap (λ k. has_place k c.args.fd) c.leaves.ensures.value ∙ c.set.ensures.place

pub returns-clause-rooms : goal.returns-clause-rooms
returns-clause-rooms c =
    let it =
    number_set c.args.heap.now c.set.new.heap c.set_proc_numbers.new.self c.args.procs.now c.args.place.pid c.args.place.key c.at-proc.result.now c.of-descs.result c.set.new.self c.places.result c.leaves.result c.args.fd (Some c.args.descriptor) c.requires.there c.at-proc.ensures.kept c.of-descs.ensures
    (let many = numbers_all c.args.heap.now c.args.place.key c.at-proc.result.now c.is_well_formed.ensures c.at-proc.ensures.kept in let few = c.requires.number in omega (arith, many, few))
    c.set.ensures.numbers c.set.ensures.leaves c.set.ensures.namings c.set.ensures.kept c.places.ensures.value c.leaves.ensures.value (c.set_proc_numbers.ensures.kept c.at-proc.result.now (ap (λ (h : Heap). object h.procs c.args.place.key) c.set.ensures.kept ∙ c.at-proc.ensures.kept)) in
    λ other has.
    room_then c.args.heap.now c.set_proc_numbers.new.self c.args.procs.now c.args.place.pid c.args.fd (Some c.args.descriptor) c.requires.listed it other ∙ ap (λ k. has_place k other) c.leaves.ensures.value
    ∙ c.set.ensures.places other (sym (ap (λ o. has_room_in o other) c.at-proc.ensures.found ∙ ap (λ (d : InHand). has_place d.leaves other) (sym c.of-descs.ensures)) ∙ has)
