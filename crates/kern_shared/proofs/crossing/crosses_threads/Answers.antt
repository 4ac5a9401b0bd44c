use Rattle.kern_shared.proofs.kernel.Kernel.TheSendSync as kernel
use Rattle.kern_shared.proofs.passes.Pass.TheSendSync as pass
use Rattle.kern_shared.proofs.crossing.crosses_threads.Goals as goal

pub returns-clause-kernel : goal.returns-clause-kernel
returns-clause-kernel g c = (kernel.the_send _ _ _ g.T.Turner c.type_bounds.send-T, kernel.the_sync _ _ _ g.T.Turner c.type_bounds.send-T)

pub returns-clause-pass : goal.returns-clause-pass
returns-clause-pass g c = pass.the_send _ _ c.type_bounds.send-T
