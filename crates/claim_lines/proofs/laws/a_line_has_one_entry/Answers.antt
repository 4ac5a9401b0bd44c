use Rattle.claim_lines.proofs.Leading.{one_entry}
use Rattle.claim_lines.proofs.laws.a_line_has_one_entry.Goals as goal

pub returns : goal.returns
returns c = one_entry
