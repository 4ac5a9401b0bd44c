use Rattle.std.proofs.Common.{◌∙◌, sym, ap, w64}
use Rattle.std.proofs.lemmas.Int.{to_z-of_z}
use Rattle.kheap_slabs.specs.Leaves.{numbers_by}
use Rattle.desc_table.specs.Numbered.{descriptors_in, number_of}
use Rattle.desc_table.proofs.NumberLemmas.{is_number, is_negative}
use Rattle.open_laws.proofs.PolledLemmas.{told_some, told_none}
use Rattle.desc_table.proofs.descriptors.polled.Goals as goal

pub returns-in-Some : goal.returns-in-Some
returns-in-Some c = λ plain list files pid are same.
    let fd = to_z-of_z w64 c.args.entry.now.fd (assumption (c.well_formed)) in
    let events = to_z-of_z w64 c.args.entry.now.events (assumption (c.well_formed)) in
    told_some plain c.args.heap.now list files pid (descriptors_in (numbers_by c.args.heap.now.leaves c.args.proc.now.descriptors c.args.proc.now.leaves)) c.in-Some.fd c.args.entry.now.fd c.args.entry.now.events _
    c.polled_at.result are same
    (is_number c.args.entry.now.fd c.in-Some.fd (ap number_of (sym fd) ∙ (sym c.number_of.ensures ∙ c.in-Some.is))) c.requires.there c.polled_at.ensures events

pub returns-in-None : goal.returns-in-None
returns-in-None c = λ plain list files pid are same.
    let fd = to_z-of_z w64 c.args.entry.now.fd (assumption (c.well_formed)) in
    told_none files pid c.args.entry.now.fd c.args.entry.now.events (is_negative c.args.entry.now.fd (ap number_of (sym fd) ∙ (sym c.number_of.ensures ∙ c.in-None.is)))
