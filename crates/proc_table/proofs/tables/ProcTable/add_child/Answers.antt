use Rattle.std.proofs.Common.{◌+◌, subst, sym, arith}
use Rattle.proc_table.specs.Table.{AreBetween}
use Rattle.proc_table.proofs.PlaceLemmas.{AreBetween-more}
use Rattle.proc_table.proofs.tables.ProcTable.add_child.Goals as goal

pub invariant_of-self : goal.invariant_of-self
invariant_of-self c =
    subst (λ places. AreBetween 0 places (c.self.inside.last + 1)) (sym c.push.ensures.items)
    (AreBetween-more c.self.inside.listed.items 0 c.self.inside.last (c.self.inside.last + 1) c.insert_proc-key.result c.self.invariant (omega arith))
