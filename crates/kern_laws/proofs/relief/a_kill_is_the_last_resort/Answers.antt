use Rattle.std.proofs.Common.{ap, not}
use Rattle.kern_laws.proofs.Legal.{licensed}
use Rattle.kern_laws.proofs.LivingVictim.{victim_lives}
use Rattle.kern_laws.proofs.relief.a_kill_is_the_last_resort.Goals as goal

pub returns : goal.returns
returns c = λ script s pid may.
    let licence = licensed script s may.licensed in
    let victim = victim_lives script.policy s.world.plain s.world.account pid may.victim in
    (licence.3, ap not licence.0, licence.1, licence.2, victim.1, victim.0)
