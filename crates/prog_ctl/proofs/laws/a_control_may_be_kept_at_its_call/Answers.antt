use Rattle.std.proofs.Common.{ap}
use Rattle.posix_defs.specs.Control.{after_at, afresh, call_at, settled, statement_of}
use Rattle.prog_ctl.proofs.Settling.{rests_settled}
use Rattle.prog_ctl.proofs.laws.a_control_may_be_kept_at_its_call.Goals as goal

pub returns-clause-kept : goal.returns-clause-kept
returns-clause-kept c = rests_settled

pub returns-clause-call : goal.returns-clause-call
returns-clause-call c = λ script before rests.
    ap (λ here. call_at here (statement_of script here)) (rests_settled script (settled script before) rests)

pub returns-clause-after : goal.returns-clause-after
returns-clause-after c = λ script before reply rests.
    ap (λ here. afresh (after_at here reply (statement_of script here))) (rests_settled script (settled script before) rests)
