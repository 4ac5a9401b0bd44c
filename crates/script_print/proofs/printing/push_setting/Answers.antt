use Rattle.script_print.proofs.Printed.{adds_both, last_added}
use Rattle.script_print.proofs.printing.push_setting.Goals as goal

pub returns : goal.returns
returns c = adds_both (adds_both c.push.ensures (last_added (adds_both c.push-2.ensures c.push_number.ensures))) c.push-3.ensures
