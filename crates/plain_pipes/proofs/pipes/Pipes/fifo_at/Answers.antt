use Rattle.std.proofs.Common.{ap, ◌∙◌}
use Rattle.plain_pipes.specs.Held.{first_of_fifo}
use Rattle.plain_pipes.proofs.FifoLemmas.{first_there}
use Rattle.plain_pipes.proofs.pipes.Pipes.fifo_at.Goals as goal

pub returns : goal.returns
returns c =
    rw (← c.self.view_is) (c.first_of_fifo.ensures ∙ ap (first_of_fifo c.args.number) c.there.ensures ∙ first_there c.args.number 0 c.self.inside.places)
