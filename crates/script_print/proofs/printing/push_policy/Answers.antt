use Rattle.script_print.proofs.Printed.{adds_both, adds_same, last_added}
use Rattle.script_print.proofs.printing.push_policy.Goals as goal

pub returns : goal.returns
returns c = adds_both (adds_both c.push.ensures (last_added (adds_same c.policy_word.ensures c.push-2.ensures))) c.push-3.ensures
