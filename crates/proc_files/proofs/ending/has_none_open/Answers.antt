use Rattle.std.proofs.Common.{◌≡◌, ◌∙◌, false, subst, sym}
use Rattle.proc_table.specs.Procs.{OpensNone, proc_of}
use Rattle.proc_table.specs.Table.{processes}
use Rattle.proc_table.proofs.PlaceLemmas.{some_same}
use Rattle.proc_files.proofs.Endings.{none_here}
use Rattle.proc_files.proofs.ending.has_none_open.Goals as goal

pub at-proc-requires-clause-stored : goal.at-proc-requires-clause-stored
at-proc-requires-clause-stored c =
    c.requires.listed.stored

pub returns-then-not-has_leaf : goal.returns-then-not-has_leaf
returns-then-not-has_leaf c = λ is proc found.
    let pr = c.at-proc.result.now in
    let apart : c.has_leaf.result ≡ false = c.if-not-has_leaf.true in
    let none = none_here pr (c.is_well_formed.ensures.descriptors c.args.place.key pr c.at-proc.ensures.kept) (c.is_well_formed.ensures.leaves c.args.place.key pr c.at-proc.ensures.kept)
    (sym c.are_none.ensures ∙ is) (sym c.has_leaf.ensures ∙ apart) in
    subst OpensNone (some_same (proc_of (processes c.args.heap.now c.args.procs.now) c.args.place.pid) pr proc c.at-proc.ensures.found found) none
