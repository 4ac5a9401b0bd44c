use Rattle.std.proofs.Common.{◌≡◌, ◌∙◌, List, Option, length, ap, sym}
use Rattle.desc_table.specs.Numbered.{descriptors_in}
use Rattle.kabi_types.specs.Arguments.{most_descriptors}
use Rattle.kheap_slabs.specs.declared.objects.Descriptor.{Descriptor}
use Rattle.posix_defs.specs.Files.Descriptors.{lowest_free_from}
use Rattle.proc_table.specs.Procs.{numbers_in}
use Rattle.proc_table.proofs.NumberLemmas.{numbers_all}
use Rattle.proc_numbers.specs.Having.{places_in}
use Rattle.proc_numbers.specs.Naming.{places_of}
use Rattle.proc_numbers.proofs.Lowest.{lowest_least, lowest_within}
use Rattle.proc_numbers.proofs.NumberNames.{lowest_is}
use Rattle.proc_numbers.proofs.PlacedLeaves.{long_proc, owns_placed}
use Rattle.proc_numbers.proofs.finding.lowest_from.Goals as goal

pub at-requires-clause-stored : goal.at-requires-clause-stored
at-requires-clause-stored c =
    c.requires.listed.stored

pub lowest_of-requires-clause-rows : goal.lowest_of-requires-clause-rows
lowest_of-requires-clause-rows c =
    long_proc c.args.heap.now c.args.place.key c.at.result.now c.is_well_formed.ensures c.at.ensures.kept

pub lowest_of-requires-clause-owns : goal.lowest_of-requires-clause-owns
lowest_of-requires-clause-owns c =
    owns_placed c.args.heap.now c.args.procs.now c.args.place.pid c.args.place.key c.at.result.now c.requires.listed c.requires.there c.at.ensures.kept

pub returns-clause-lowest : goal.returns-clause-lowest
returns-clause-lowest c =
    λ numbers files have.
    lowest_is numbers c.args.heap.now c.args.procs.now files c.args.place.pid have c.args.from ∙ sym (c.lowest_of.ensures ∙ ap (λ (places : List (Option Descriptor)). lowest_free_from (descriptors_in places) c.args.from) (sym (ap (places_in (numbers_in c.args.heap.now)) c.at.ensures.found)))

pub returns-clause-free : goal.returns-clause-free
returns-clause-free c =
    let all : length (places_of c.args.heap.now c.args.procs.now c.args.place.pid) ≡ most_descriptors =
    ap (λ o. length (places_in (numbers_in c.args.heap.now) o)) c.at.ensures.found ∙ numbers_all c.args.heap.now c.args.place.key c.at.result.now c.is_well_formed.ensures c.at.ensures.kept in
    lowest_within c.args.heap.now c.args.procs.now c.args.place.pid c.args.from c.lowest_of.result all (sym (c.lowest_of.ensures ∙ ap (λ (places : List (Option Descriptor)). lowest_free_from (descriptors_in places) c.args.from) (sym (ap (places_in (numbers_in c.args.heap.now)) c.at.ensures.found))))

pub returns-clause-least : goal.returns-clause-least
returns-clause-least c =
    lowest_least c.args.heap.now c.args.procs.now c.args.place.pid c.args.from c.lowest_of.result (sym (c.lowest_of.ensures ∙ ap (λ (places : List (Option Descriptor)). lowest_free_from (descriptors_in places) c.args.from) (sym (ap (places_in (numbers_in c.args.heap.now)) c.at.ensures.found))))
