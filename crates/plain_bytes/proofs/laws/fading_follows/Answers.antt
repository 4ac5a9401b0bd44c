use Rattle.plain_bytes.proofs.ManyLemmas.{follow_fade}
use Rattle.plain_bytes.proofs.laws.fading_follows.Goals as goal

pub returns-clause-follow : goal.returns-clause-follow
returns-clause-follow c old new are fade = follow_fade old new are fade
