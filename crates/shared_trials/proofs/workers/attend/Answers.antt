use Rattle.std.proofs.Common.{Some, ap, refl, sym, ◌∙◌}
use Rattle.shared_trials.specs.Workers.{pid_of}
use Rattle.shared_trials.proofs.Working.{works_short}
use Rattle.shared_trials.proofs.workers.attend.Goals as goal

pub attend-answer-requires-clause-holds : goal.attend-answer-requires-clause-holds
attend-answer-requires-clause-holds g c = c.requires.holds c.in-Some.pid c.in-Some.call (sym c.take.ensures.value ∙ c.in-Some.is)

pub returns-then-is_short-clause-works : goal.returns-then-is_short-clause-works
returns-then-is_short-clause-works g c =
    let some = sym c.take.ensures.value ∙ c.in-Some.is in
    works_short g.L.RunName.script g.L.RunName.steps g.L.RunName.charge c.args.kernel.now.turns _ c.args.pass.now.turn c.attend-answer.new.pass.turn c.args.pass.now.own c.attend-answer.new.pass.own _ _
    c.args.pass.now.given c.attend-answer.new.pass.given (Some (c.in-Some.pid, c.in-Some.call)) c.in-Some.pid c.in-Some.call c.attend-answer.result (sym c.is_short.ensures ∙ c.if-is_short.true)
    c.attend-answer.ensures.pass c.attend-answer.ensures.given (c.requires.same ∙ ap pid_of some) c.attend-answer.ensures.attends (c.requires.holds c.in-Some.pid c.in-Some.call some) refl
