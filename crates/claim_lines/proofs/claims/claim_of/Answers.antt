use Rattle.std.proofs.Common.{refl}
use Rattle.claim_lines.specs.Claims.{claim_of}
use Rattle.claim_lines.proofs.claims.claim_of.Goals as goal

pub returns : goal.returns
unfolding claim_of
returns c =
    rw (c.said_by.ensures, c.cut-3.ensures.word, c.cut-3.ensures.rest, c.cut-2.ensures.word, c.cut-2.ensures.rest, c.cut.ensures.rest) refl
