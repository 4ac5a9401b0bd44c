use Rattle.std.proofs.Common.{◌≡◌, [], ◌∷◌, None, subst, sym, length-append}
use Rattle.posix_defs.specs.CoreRun.{goes_on}
use Rattle.posix_defs.specs.Ends.{end_of}
use Rattle.kern_laws.proofs.Caches.{less_live}
use Rattle.kern_laws.proofs.Progress.{progress}
use Rattle.kern_laws.proofs.relief.relief_goes_on.Goals as goal

pub returns-clause-later : goal.returns-clause-later
returns-clause-later c = λ script steps run old new noted is_run none step later.
    progress (goes_on run old new noted is_run none tt step) (subst (λ n. end_of script steps n new ≡ None) (sym (length-append run (noted ∷ []))) later)

pub returns-clause-room : goal.returns-clause-room
returns-clause-room c = less_live
