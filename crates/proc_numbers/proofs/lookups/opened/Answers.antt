use Rattle.std.proofs.Common.{◌∙◌, [], None, Some, ap, is_some, length, sym, w64}
use mir.Val.{of_z, to_z}
use Rattle.proc_table.proofs.NumberLemmas.{numbers_all}
use Rattle.proc_table.specs.Procs.{numbers_in}
use Rattle.proc_numbers.specs.Having.{places_in}
use Rattle.proc_numbers.proofs.NumberCloses.{no_some}
use Rattle.proc_numbers.proofs.NumberNames.{desc_named_by, named_beyond}
use Rattle.proc_numbers.proofs.OpenedBy.{by_number, number_so}
use Rattle.proc_numbers.proofs.PlacedLeaves.{long_proc, owns_placed}
use Rattle.proc_numbers.proofs.lookups.opened.Goals as goal

pub at-proc-requires-clause-stored : goal.at-proc-requires-clause-stored
at-proc-requires-clause-stored c = c.requires.listed.stored

pub returns-in_default-clause-opened : goal.returns-in_default-clause-opened
returns-in_default-clause-opened c = record {
  names =
      named_beyond c.args.heap.now c.args.procs.now c.args.place.pid (to_z w64 (of_z w64 c.args.fd))
      (ap length (ap (places_in (numbers_in c.args.heap.now)) c.at-proc.ensures.found) ∙ numbers_all c.args.heap.now c.args.place.key c.at-proc.result.now c.is_well_formed.ensures c.at-proc.ensures.kept)
      (c.number_of.ensures.none (no_some c.number_of.result c.in_default.not-Some));
  there = tt;
  number = tt;
}

pub descriptor_of-held-requires-clause-rows : goal.descriptor_of-held-requires-clause-rows
descriptor_of-held-requires-clause-rows c = long_proc c.args.heap.now c.args.place.key c.at-proc.result.now c.is_well_formed.ensures c.at-proc.ensures.kept

pub descriptor_of-held-requires-clause-owns : goal.descriptor_of-held-requires-clause-owns
descriptor_of-held-requires-clause-owns c =
    owns_placed c.args.heap.now c.args.procs.now c.args.place.pid c.args.place.key c.at-proc.result.now c.requires.listed c.requires.there c.at-proc.ensures.kept

pub descriptor_of-held-requires-clause-number : goal.descriptor_of-held-requires-clause-number
descriptor_of-held-requires-clause-number c =
    let it = number_so (to_z w64 (of_z w64 c.args.fd)) c.number_of.result c.in-Some.number c.number_of.ensures.some c.in-Some.is in it.1

pub returns-in_default-held-clause-opened : goal.returns-in_default-held-clause-opened
returns-in_default-held-clause-opened c =
    let it = number_so (to_z w64 (of_z w64 c.args.fd)) c.number_of.result c.in-Some.number c.number_of.ensures.some c.in-Some.is in
    record {
      names =
          by_number c.args.heap.now c.args.procs.now c.args.place.pid (to_z w64 (of_z w64 c.args.fd)) c.in-Some.number c.at-proc.result.now None it.0 c.at-proc.ensures.found
          (sym c.descriptor_of-held.ensures ∙ no_some c.descriptor_of-held.result c.in_default-held.not-Some);
      there = tt;
      number = tt;
    }

pub get_desc-requires : goal.get_desc-requires
get_desc-requires c =
    let it = number_so (to_z w64 (of_z w64 c.args.fd)) c.number_of.result c.in-Some.number c.number_of.ensures.some c.in-Some.is in
    let named =
    by_number c.args.heap.now c.args.procs.now c.args.place.pid (to_z w64 (of_z w64 c.args.fd)) c.in-Some.number c.at-proc.result.now (Some c.in-Some-held.descriptor) it.0
    c.at-proc.ensures.found (sym c.descriptor_of-held.ensures ∙ c.in-Some-held.is) in
    ap is_some (desc_named_by c.args.heap.now c.args.procs.now [] c.requires.listed c.requires.owners c.args.place.pid (to_z w64 (of_z w64 c.args.fd)) c.in-Some-held.descriptor named).1

pub returns-clause-opened : goal.returns-clause-opened
returns-clause-opened c =
    let it = number_so (to_z w64 (of_z w64 c.args.fd)) c.number_of.result c.in-Some.number c.number_of.ensures.some c.in-Some.is in
    record {
      names =
          by_number c.args.heap.now c.args.procs.now c.args.place.pid (to_z w64 (of_z w64 c.args.fd)) c.in-Some.number c.at-proc.result.now (Some c.in-Some-held.descriptor) it.0
          c.at-proc.ensures.found (sym c.descriptor_of-held.ensures ∙ c.in-Some-held.is);
      there = c.get_desc.ensures;
      number = it;
    }
