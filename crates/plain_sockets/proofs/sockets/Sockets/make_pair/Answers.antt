use Rattle.std.proofs.Common.{Some, arith}
use Rattle.plain_sockets.specs.Held.{sockets_in}
use Rattle.plain_sockets.proofs.StepLemmas.{longer_by_one, paired}
use Rattle.plain_sockets.proofs.TurnLemmas.{fades_follow, fades_further}
use Rattle.plain_sockets.proofs.sockets.Sockets.make_pair.Goals as goal

pub add-requires-2-clause-room : goal.add-requires-2-clause-room
add-requires-2-clause-room c =
    let longer = longer_by_one (sockets_in c.args.self.now) (sockets_in c.add.new.self) (Some c.connected_to.result.socket) c.in_ok-add.ensures.sockets in
    omega (arith, longer, c.requires)

pub returns-clause-sockets : goal.returns-clause-sockets
returns-clause-sockets c =
    paired (sockets_in c.args.self.now) (sockets_in c.add.new.self) (sockets_in c.add-2.new.self) c.made-one.result c.connected_to.result c.connected_to-2.result
    c.made-one.ensures c.connected_to.ensures c.in_ok-add.ensures.sockets c.connected_to-2.ensures c.in_ok-add-2.ensures.sockets

pub returns-clause-fronts : goal.returns-clause-fronts
returns-clause-fronts c =
    fades_follow c.args.self.now c.add-2.new.self
    (fades_further c.args.self.now c.add.new.self c.add-2.new.self c.in_ok-add.ensures.fades c.in_ok-add-2.ensures.fades)
