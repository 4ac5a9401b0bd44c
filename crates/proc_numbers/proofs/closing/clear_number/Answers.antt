use Rattle.std.proofs.Common.{◌∙◌, None, IsSome, ap, sym, subst, arith}
use Rattle.std.specs.Prelude.{slice_index_or}
use Rattle.desc_table.specs.Numbered.{InHand, numbers}
use Rattle.kheap_laws.proofs.PaidLemmas.{TakesNothing-trans}
use Rattle.kheap_slabs.specs.Heap.{Heap}
use Rattle.kheap_slabs.specs.Leaves.{OwnsLeaves}
use Rattle.kheap_slabs.specs.Objects.{object}
use Rattle.proc_table.specs.Procs.{numbers_in}
use Rattle.proc_table.proofs.NumberLemmas.{numbers_all}
use Rattle.proc_numbers.specs.Having.{places_in}
use Rattle.proc_numbers.proofs.NumberRooms.{number_set}
use Rattle.proc_numbers.proofs.PlacedLeaves.{owns_placed}
use Rattle.proc_numbers.proofs.closing.clear_number.Goals as goal

pub at-proc-requires-clause-stored : goal.at-proc-requires-clause-stored
at-proc-requires-clause-stored c =
    c.requires.listed.stored

pub clear-desc-requires-clause-owns : goal.clear-desc-requires-clause-owns
clear-desc-requires-clause-owns c =
    subst (λ (d : InHand). OwnsLeaves c.args.heap.now.leaves d.leaves) (sym c.of-descs.ensures) (owns_placed c.args.heap.now c.args.procs.now c.args.place.pid c.args.place.key c.at-proc.result.now c.requires.listed c.requires.there c.at-proc.ensures.kept)

pub clear-desc-requires-clause-opened : goal.clear-desc-requires-clause-opened
clear-desc-requires-clause-opened c =
    subst (λ o. IsSome o) (ap (λ o. slice_index_or (places_in (numbers_in c.args.heap.now) o) c.args.fd None) c.at-proc.ensures.found ∙ ap (λ (d : InHand). slice_index_or (numbers c.args.heap.now d) c.args.fd None) (sym c.of-descs.ensures)) c.requires.is_open

pub returns-clause-named : goal.returns-clause-named
returns-clause-named c =
    λ held is. c.clear-desc.ensures.named held (sym (ap (λ o. slice_index_or (places_in (numbers_in c.args.heap.now) o) c.args.fd None) c.at-proc.ensures.found ∙ ap (λ (d : InHand). slice_index_or (numbers c.args.heap.now d) c.args.fd None) (sym c.of-descs.ensures)) ∙ is)

pub returns-clause-turns : goal.returns-clause-turns
returns-clause-turns c =
    number_set c.args.heap.now c.clear-desc.new.heap c.set_proc_numbers.new.self c.args.procs.now c.args.place.pid c.args.place.key c.at-proc.result.now c.of-descs.result c.clear-desc.new.self c.places.result c.leaves.result c.args.fd None c.requires.there c.at-proc.ensures.kept c.of-descs.ensures
    (let many = numbers_all c.args.heap.now c.args.place.key c.at-proc.result.now c.is_well_formed.ensures c.at-proc.ensures.kept in let few = c.requires.number in omega (arith, many, few))
    c.clear-desc.ensures.numbers c.clear-desc.ensures.leaves c.clear-desc.ensures.namings (c.clear-desc.ensures.kept ∙ ap (λ n. record c.args.heap.now { leaves = c.clear-desc.new.heap.leaves; high = n }) (sym (ap (λ (h : Heap). h.high) c.clear-desc.ensures.kept))) c.places.ensures.value c.leaves.ensures.value (c.set_proc_numbers.ensures.kept c.at-proc.result.now (ap (λ (h : Heap). object h.procs c.args.place.key) c.clear-desc.ensures.kept ∙ c.at-proc.ensures.kept))

pub returns-clause-takes : goal.returns-clause-takes
returns-clause-takes c =
    TakesNothing-trans c.args.heap.now c.clear-desc.new.heap c.set_proc_numbers.new.self c.clear-desc.ensures.takes c.set_proc_numbers.ensures.takes
