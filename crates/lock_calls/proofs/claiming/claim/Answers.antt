use Rattle.std.proofs.Common.{None, Some, ap, sym, true, false, ◌∙◌}
use Rattle.posix_defs.specs.Calls.OnLocks.{kind_asked}
use Rattle.proc_files.proofs.Holding.{as_found}
use Rattle.lock_calls.specs.Claiming.{claimed_by, file_by}
use Rattle.lock_calls.proofs.Claims.{by_ok}
use Rattle.lock_calls.proofs.claiming.claim.Goals as goal

pub returns-in_default : goal.returns-in_default
returns-in_default c = λ h kept pid numbers files opened have is.
    ap (claimed_by files (kind_asked c.args.kind)) (sym (as_found h kept pid c.args.on.now opened numbers files have None c.in_default.is))

pub returns-then-may_hold : goal.returns-then-may_hold
returns-then-may_hold c = λ h kept pid numbers files opened have is.
    let found = as_found h kept pid c.args.on.now opened numbers files have (Some c.in-Some.found) c.in-Some.is in
    sym (by_ok numbers files (kind_asked c.args.kind) c.in-Some.found c.args.file true (is ∙ ap (file_by files) found) (sym c.may_hold.ensures ∙ c.if-may_hold.true))
    ∙ ap (claimed_by files (kind_asked c.args.kind)) (sym found)

pub returns-else-may_hold : goal.returns-else-may_hold
returns-else-may_hold c = λ h kept pid numbers files opened have is.
    let found = as_found h kept pid c.args.on.now opened numbers files have (Some c.in-Some.found) c.in-Some.is in
    sym (by_ok numbers files (kind_asked c.args.kind) c.in-Some.found c.args.file false (is ∙ ap (file_by files) found) (sym c.may_hold.ensures ∙ c.if-may_hold.false))
    ∙ ap (claimed_by files (kind_asked c.args.kind)) (sym found)
