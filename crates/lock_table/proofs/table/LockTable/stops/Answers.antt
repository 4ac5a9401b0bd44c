use Rattle.std.proofs.Common.{◌∙◌}
use Rattle.lock_table.specs.Holding.{asked_by}
use Rattle.lock_table.proofs.Tables.{has_locks, stops_is}
use Rattle.lock_table.proofs.table.LockTable.stops.Goals as goal

pub has_in_way-requires : goal.has_in_way-requires
has_in_way-requires c = has_locks c.args.heap.now.locks c.args.self.now c.requires

pub returns : goal.returns
returns c = λ locks holds.
    c.has_in_way.ensures holds.held holds.chain ∙ stops_is c.args.heap.now.locks c.args.self.now locks holds c.args.pid c.args.node (asked_by c.args.range.now) c.args.by
