use Rattle.std.proofs.Common.{◌∙◌, of_z, sym, ap, subst, to_z, w64}
use Rattle.std.proofs.lemmas.Int.{to_z-of_z}
use Rattle.kheap_slabs.specs.Leaves.{OwnsLeaves}
use Rattle.open_laws.specs.Polled.{TellsOpen}
use Rattle.open_laws.proofs.PolledLemmas.{told_some, told_none}
use Rattle.posix_defs.specs.Files.Descriptors.{descriptor_at}
use Rattle.desc_table.specs.Numbered.{InHand, descriptors_in, number_of, numbers}
use Rattle.desc_table.proofs.NumberLemmas.{is_number, is_negative}
use Rattle.desc_table.proofs.descriptors.Descs.polled.Goals as goal

pub polled_at-requires-clause-owns : goal.polled_at-requires-clause-owns
polled_at-requires-clause-owns c = subst (λ (d : InHand). OwnsLeaves c.args.heap.now.leaves d.leaves) (sym c.self.view_is) c.requires.owns

pub returns-in-Some : goal.returns-in-Some
returns-in-Some c = λ plain list files pid are same.
    let fd = to_z-of_z w64 c.args.entry.now.fd (assumption (c.well_formed)) in
    let events = to_z-of_z w64 c.args.entry.now.events (assumption (c.well_formed)) in
    told_some plain c.args.heap.now list files pid (descriptors_in (numbers c.args.heap.now c.args.self.now)) c.in-Some.fd c.args.entry.now.fd c.args.entry.now.events _
    c.polled_at.result are same
    (is_number c.args.entry.now.fd c.in-Some.fd (ap number_of (sym fd) ∙ (sym c.number_of.ensures ∙ c.in-Some.is))) c.requires.there
    (subst (λ (d : InHand). TellsOpen c.args.heap.now (to_z w64 (of_z w64 c.args.entry.now.events)) c.polled_at.result (descriptor_at (descriptors_in (numbers c.args.heap.now d)) c.in-Some.fd)) c.self.view_is c.polled_at.ensures)
    events

pub returns-in-None : goal.returns-in-None
returns-in-None c = λ plain list files pid are same.
    let fd = to_z-of_z w64 c.args.entry.now.fd (assumption (c.well_formed)) in
    told_none files pid c.args.entry.now.fd c.args.entry.now.events (is_negative c.args.entry.now.fd (ap number_of (sym fd) ∙ (sym c.number_of.ensures ∙ c.in-None.is)))
