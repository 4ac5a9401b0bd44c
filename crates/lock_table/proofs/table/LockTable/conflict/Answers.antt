use Rattle.std.proofs.Common.{ap, ◌∙◌}
use Rattle.std.specs.Option.{option_map}
use Rattle.lock_table.specs.Holding.{asked_by, info_of}
use Rattle.lock_table.proofs.Tables.{first_is, has_locks, told_is}
use Rattle.lock_table.proofs.table.LockTable.conflict.Goals as goal

pub earliest-requires : goal.earliest-requires
earliest-requires c = has_locks c.args.heap.now.locks c.args.self.now c.requires

pub returns : goal.returns
returns c = λ locks holds.
    c.told.ensures ∙ told_is c.earliest.result
    ∙ ap (option_map info_of) (c.earliest.ensures holds.held holds.chain ∙ first_is c.args.heap.now.locks c.args.self.now locks holds c.args.pid c.args.node (asked_by c.args.range.now))
