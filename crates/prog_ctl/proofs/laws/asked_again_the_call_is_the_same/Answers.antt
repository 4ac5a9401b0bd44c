use Rattle.std.proofs.Common.{ap}
use Rattle.posix_defs.specs.Control.{call_at, settled, statement_of}
use Rattle.prog_ctl.proofs.Resting.{settled_rests}
use Rattle.prog_ctl.proofs.Settling.{rests_settled}
use Rattle.prog_ctl.proofs.laws.asked_again_the_call_is_the_same.Goals as goal

pub returns-clause-rests : goal.returns-clause-rests
returns-clause-rests c = settled_rests

pub returns-clause-settled : goal.returns-clause-settled
returns-clause-settled c = λ script control stands. rests_settled script (settled script control) (settled_rests script control stands)

pub returns-clause-call : goal.returns-clause-call
returns-clause-call c = λ script control stands.
    ap (λ here. call_at here (statement_of script here)) (rests_settled script (settled script control) (settled_rests script control stands))
