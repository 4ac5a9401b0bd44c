use Rattle.std.proofs.Common.{◌≡◌, ◌≢◌, ◌<◌, length, arith}
use Rattle.blk_map.proofs.InHand.{first_set, first_set_other, behind_set, behind_set_other}
use Rattle.blk_map.proofs.naming.name.Goals as goal

pub returns-then-index-lt10-clause-this : goal.returns-then-index-lt10-clause-this
returns-then-index-lt10-clause-this c = first_set c.args.direct.now c.args.behind.now c.args.index c.args.block (omega arith) (omega arith)

pub returns-then-index-lt10-clause-others : goal.returns-then-index-lt10-clause-others
returns-then-index-lt10-clause-others c = λ other in_hand apart. first_set_other c.args.direct.now c.args.behind.now c.args.index c.args.block other apart

pub returns-clause-this : goal.returns-clause-this
returns-clause-this c = behind_set c.args.direct.now c.args.behind.now c.args.index c.place_in_run.result c.args.block (omega arith) c.place_in_run.ensures (omega arith)

pub returns-clause-others : goal.returns-clause-others
returns-clause-others c = λ other in_hand apart.
    behind_set_other c.args.direct.now c.args.behind.now c.args.index c.place_in_run.result c.args.block other (omega arith) c.place_in_run.ensures in_hand apart
