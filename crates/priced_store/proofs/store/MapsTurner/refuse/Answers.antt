use Rattle.priced_store.proofs.MapsSteps.{still_since}
use Rattle.priced_store.proofs.store.MapsTurner.refuse.Goals as goal

pub returns-clause-since : goal.returns-clause-since
returns-clause-since c = λ world is. still_since c.args.self.now.stage world is c.args.self.now.arena.used c.args.self.now.arena.risen _ c.args.self.now.taken c.args.self.now.rests c.mark.ensures.high
