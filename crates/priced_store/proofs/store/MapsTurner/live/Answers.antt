use Rattle.std.proofs.Common.{◌∙◌, sym}
use Rattle.priced_store.proofs.MapsSteps.{live_so}
use Rattle.priced_store.proofs.store.MapsTurner.live.Goals as goal

pub returns-clause-bytes : goal.returns-clause-bytes
returns-clause-bytes c = λ world is. c.args.self.now.taken ∙ sym (live_so c.args.self.now.stage world is)

pub returns-clause-rests : goal.returns-clause-rests
returns-clause-rests c = λ world is. live_so c.args.self.now.stage world is ∙ sym (c.args.self.now.rests ∙ c.args.self.now.taken)
