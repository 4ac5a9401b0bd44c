use Rattle.std.proofs.lemmas.Result.{on_ok_weaker}
use Rattle.plain_sockets.specs.Held.{OnlyFades}
use Rattle.plain_sockets.proofs.TurnLemmas.{fades_follow}
use Rattle.plain_sockets.proofs.sockets.Sockets.make.Goals as goal

pub returns-clause-fronts : goal.returns-clause-fronts
returns-clause-fronts c =
    on_ok_weaker c.add.result (λ (fades : OnlyFades c.args.self.now c.add.new.self). fades_follow c.args.self.now c.add.new.self fades) c.add.ensures.fades
