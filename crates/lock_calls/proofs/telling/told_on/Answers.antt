use Rattle.std.proofs.Common.{ap, sym, ◌∙◌}
use Rattle.posix_defs.specs.Locks.{first_in_way}
use Rattle.lock_table.specs.Holding.{asked_by}
use Rattle.lock_calls.specs.Setting.{first_told}
use Rattle.lock_calls.proofs.telling.told_on.Goals as goal

pub returns-in-Ok : goal.returns-in-Ok
returns-in-Ok c = λ locks holds.
    c.told.ensures (first_in_way locks c.args.pid c.in-Ok.node (asked_by c.args.range.now)) (c.conflict.ensures locks holds)
    ∙ ap (first_told locks c.args.pid (asked_by c.args.range.now)) (sym c.in-Ok.is)
