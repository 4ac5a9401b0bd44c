use Rattle.std.proofs.Common.{None, ap, sym, ◌∙◌, arith}
use Rattle.std.specs.Prelude.{slice_index_or}
use Rattle.std.proofs.lemmas.List.{get_or_past}
use Rattle.proc_table.specs.Procs.{numbers_in}
use Rattle.proc_table.proofs.NumberLemmas.{numbers_all}
use Rattle.proc_numbers.specs.Having.{places_in}
use Rattle.proc_files.proofs.Endings.{rest_none}
use Rattle.proc_files.proofs.ending.reach_of.Goals as goal

pub at-requires-clause-stored : goal.at-requires-clause-stored
at-requires-clause-stored c =
    c.requires.listed.stored

pub returns-then-has_leaf-clause-rest : goal.returns-then-has_leaf-clause-rest
returns-then-has_leaf-clause-rest c =
    λ fd least.
    ap (λ o. slice_index_or (places_in (numbers_in c.args.heap.now) o) fd None) c.at.ensures.found
    ∙ get_or_past (numbers_in c.args.heap.now c.at.result.now) fd None (let many = numbers_all c.args.heap.now c.args.place.key c.at.result.now c.is_well_formed.ensures c.at.ensures.kept in omega (arith, many, least))

pub returns-else-has_leaf-clause-rest : goal.returns-else-has_leaf-clause-rest
returns-else-has_leaf-clause-rest c =
    λ fd least.
    ap (λ o. slice_index_or (places_in (numbers_in c.args.heap.now) o) fd None) c.at.ensures.found
    ∙ rest_none c.args.heap.now c.at.result.now fd c.is_well_formed.ensures (c.is_well_formed.ensures.descriptors c.args.place.key c.at.result.now c.at.ensures.kept) (c.is_well_formed.ensures.leaves c.args.place.key c.at.result.now c.at.ensures.kept)
    (sym c.has_leaf.ensures ∙ c.if-has_leaf.false) least
