use Rattle.std.proofs.Common.{length, subst}
use Rattle.posix_defs.specs.CoreState.{phase_of}
use Rattle.posix_defs.specs.Family.{IsFamily}
use Rattle.kern_laws.proofs.EndsWaiting.{is_starved, leaves_waiting, nothing_helps, vain_call}
use Rattle.kern_laws.proofs.Families.{reached_kept}
use Rattle.kern_laws.proofs.Legal.{legal}
use Rattle.kern_laws.proofs.Sounds.{is_sound}
use Rattle.kern_laws.proofs.relief.starved_alone_leaves_a_call_waiting.Goals as goal

pub returns-clause-alone : goal.returns-clause-alone
returns-clause-alone c = λ script steps run s end is_run ends some.
    let found = legal is_run in
    let kept = reached_kept found.is_run in
    leaves_waiting script steps (length run) s end (is_sound is_run) (subst (λ plain. IsFamily plain.table) found.plain_is kept.family) ends some

pub returns-clause-waits : goal.returns-clause-waits
returns-clause-waits c = λ script steps run s pid need is_run ends.
    let starved = is_starved script steps (length run) s pid need ends in
    let call = vain_call script s (phase_of s 1) need starved.1.vain in
    (starved.0, call.0, call.1, call.2, call.3)

pub returns-clause-for_good : goal.returns-clause-for_good
returns-clause-for_good c = λ script steps run s pid need is_run ends.
    let starved = is_starved script steps (length run) s pid need ends in
    nothing_helps script s need (is_sound is_run) starved.1
