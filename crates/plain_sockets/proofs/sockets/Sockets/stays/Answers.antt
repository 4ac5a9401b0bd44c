use Rattle.plain_sockets.proofs.TurnLemmas.{fades_follow, fades_same}
use Rattle.plain_sockets.proofs.sockets.Sockets.stays.Goals as goal

pub returns : goal.returns
returns c = rw (← c.self.view_is) (fades_follow c.self.inside.places c.self.inside.places (fades_same c.self.inside.places c.self.inside.chunks c.self.invariant))
