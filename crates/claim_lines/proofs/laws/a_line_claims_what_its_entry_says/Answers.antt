use Rattle.claim_lines.proofs.Telling.{line_claims}
use Rattle.claim_lines.proofs.laws.a_line_claims_what_its_entry_says.Goals as goal

pub returns : goal.returns
returns c = line_claims
