use Rattle.call_run.proofs.Needing.{right_by_need}
use Rattle.call_run.proofs.calls.checked.Goals as goal

pub returns-then-need-ne0 : goal.returns-then-need-ne0
returns-then-need-ne0 c = right_by_need c.args.call.now c.args.need.now c.requires c.if-need-ne0.true
