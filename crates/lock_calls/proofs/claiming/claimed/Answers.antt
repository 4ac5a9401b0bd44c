use Rattle.std.proofs.Common.{sym, ◌∙◌}
use Rattle.posix_defs.specs.Calls.OnLocks.{kind_asked}
use Rattle.posix_defs.specs.Calls.Opened.{opened_at}
use Rattle.lock_calls.proofs.Claims.{by_err}
use Rattle.lock_calls.proofs.claiming.claimed.Goals as goal

pub returns-in-Ok-clause-file : goal.returns-in-Ok-clause-file
returns-in-Ok-clause-file c = λ numbers others files hold.
    c.claim.ensures c.args.heap.now c.args.procs.now c.args.place.pid numbers files c.requires.opened hold.opened (sym c.in-Ok.is ∙ c.file_of.ensures.file numbers others files hold)

pub returns-in-Err-clause-file : goal.returns-in-Err-clause-file
returns-in-Err-clause-file c = λ numbers others files hold.
    by_err files (kind_asked c.args.kind) (opened_at files c.args.place.pid c.args.on.now.fd) c.in-Err.errno (sym c.in-Err.is ∙ c.file_of.ensures.file numbers others files hold)
