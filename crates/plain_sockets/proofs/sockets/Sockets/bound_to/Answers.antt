use Rattle.std.proofs.Common.{ap, ◌∙◌}
use Rattle.plain_sockets.specs.Held.{first_bound}
use Rattle.plain_sockets.proofs.StepLemmas.{bound_first}
use Rattle.plain_sockets.proofs.sockets.Sockets.bound_to.Goals as goal

pub returns : goal.returns
returns c =
    rw (← c.self.view_is) (c.first_bound.ensures ∙ ap (first_bound c.args.number) c.there.ensures ∙ bound_first c.args.number 0 c.self.inside.places)
