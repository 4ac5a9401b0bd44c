use Rattle.std.proofs.Common.{ap, ◌∙◌}
use Rattle.plain_sockets.specs.Held.{first_listening}
use Rattle.plain_sockets.proofs.StepLemmas.{listening_there}
use Rattle.plain_sockets.proofs.sockets.Sockets.listener_at.Goals as goal

pub returns : goal.returns
returns c =
    rw (← c.self.view_is) (c.first_listening.ensures ∙ ap (first_listening c.args.number) c.there.ensures ∙ listening_there c.args.number 0 c.self.inside.places)
