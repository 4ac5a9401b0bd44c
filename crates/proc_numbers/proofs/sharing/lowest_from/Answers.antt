use Rattle.std.proofs.Common.{◌∙◌, sym}
use Rattle.posix_defs.specs.Files.State.{descriptors_of}
use Rattle.proc_numbers.proofs.Lowest.{lowest_above}
use Rattle.proc_numbers.proofs.PlacedLeaves.{descriptors_all}
use Rattle.proc_numbers.proofs.sharing.lowest_from.Goals as goal

pub returns-clause-lowest : goal.returns-clause-lowest
returns-clause-lowest c =
    λ numbers files have.
    sym (c.first_from.ensures.lowest (descriptors_of files c.args.place.pid) (descriptors_all c.args.heap.now c.args.procs.now c.args.place.pid c.args.place.key c.is_well_formed.ensures c.requires.listed c.requires.there numbers files have))
    ∙ c.lowest_from.ensures.lowest numbers files have

pub returns-clause-free : goal.returns-clause-free
returns-clause-free c =
    lowest_above c.args.heap.now c.args.procs.now c.args.place.pid c.first_from.result c.args.from c.lowest_from.result c.first_from.ensures.above c.lowest_from.ensures.free
