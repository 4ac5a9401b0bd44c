use Rattle.std.proofs.Common.{None, Some, ap, sym, ◌∙◌}
use Rattle.lock_table.specs.Holding.{asked_by}
use Rattle.posix_defs.specs.Calls.OnLocks.{wanted_on}
use Rattle.proc_files.proofs.Holding.{as_found}
use Rattle.lock_calls.proofs.Claims.{unheld_at, unwanted_at, wanted_at}
use Rattle.lock_calls.proofs.waits.wanted_on.Goals as goal

pub returns-in_default : goal.returns-in_default
returns-in_default c = λ h kept pid numbers files opened have.
    ap (wanted_on files (asked_by c.args.range)) (sym (as_found h kept pid c.args.on.now opened numbers files have None c.in_default.is))

pub returns-in_default-node_of : goal.returns-in_default-node_of
returns-in_default-node_of c = λ h kept pid numbers files opened have.
    unwanted_at numbers files c.in-Some.found (asked_by c.args.range) (sym c.node_of.ensures ∙ c.in_default-node_of.is)
    ∙ ap (wanted_on files (asked_by c.args.range)) (sym (as_found h kept pid c.args.on.now opened numbers files have (Some c.in-Some.found) c.in-Some.is))

pub returns-then-may_hold : goal.returns-then-may_hold
returns-then-may_hold c = λ h kept pid numbers files opened have.
    wanted_at numbers files c.in-Some.found (record { node = c.in-Some-node_of.node; range = c.args.range }) (sym c.node_of.ensures ∙ c.in-Some-node_of.is) (sym c.may_hold.ensures ∙ c.if-may_hold.true)
    ∙ ap (wanted_on files (asked_by c.args.range)) (sym (as_found h kept pid c.args.on.now opened numbers files have (Some c.in-Some.found) c.in-Some.is))

pub returns-else-may_hold : goal.returns-else-may_hold
returns-else-may_hold c = λ h kept pid numbers files opened have.
    unheld_at numbers files c.in-Some.found (asked_by c.args.range) c.in-Some-node_of.node (sym c.node_of.ensures ∙ c.in-Some-node_of.is) (sym c.may_hold.ensures ∙ c.if-may_hold.false)
    ∙ ap (wanted_on files (asked_by c.args.range)) (sym (as_found h kept pid c.args.on.now opened numbers files have (Some c.in-Some.found) c.in-Some.is))
