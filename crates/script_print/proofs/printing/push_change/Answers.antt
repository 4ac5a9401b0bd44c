use Rattle.script_print.proofs.Printed.{adds_both, last_added}
use Rattle.script_print.proofs.printing.push_change.Goals as goal

pub returns : goal.returns
returns c = adds_both c.push.ensures (adds_both c.push_register.ensures (last_added (adds_both c.push-2.ensures c.push_operand.ensures)))
