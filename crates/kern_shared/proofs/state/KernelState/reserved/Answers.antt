use Rattle.std.proofs.Common.{sym}
use Rattle.kern_shared.proofs.Turned.{reserved_is, reserved_none}
use Rattle.kern_shared.proofs.state.KernelState.reserved.Goals as goal

pub returns-then-fits_ever : goal.returns-then-fits_ever
returns-then-fits_ever g c = λ items s. sym (reserved_is g.L.RunName.script c.args.call.now _ _ c.bound-needed.ensures.value (c.fits_ever.ensures items s) c.if-fits_ever.true)

pub returns-else-fits_ever : goal.returns-else-fits_ever
returns-else-fits_ever g c = λ items s. sym (reserved_none g.L.RunName.script c.args.call.now _ _ c.bound-needed.ensures.value (c.fits_ever.ensures items s) c.if-fits_ever.false)
