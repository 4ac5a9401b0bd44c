use Rattle.std.proofs.Common.{ℕ, List, sym, ap, ◌∙◌}
use Rattle.posix_defs.specs.SoundDisk.{pointer_at}
use Rattle.blk_map.proofs.Blocks.{got}
use Rattle.blk_map.proofs.naming.behind_of.Goals as goal

pub returns-then-held-run_start-clause-small : goal.returns-then-held-run_start-clause-small
returns-then-held-run_start-clause-small g c = λ few k lt. c.requires.zeros k lt

pub returns-clause-large : goal.returns-clause-large
returns-clause-large g c = λ large k lt.
    c.pointers_in.ensures k lt ∙ ap (λ (bytes : List ℕ). pointer_at bytes k) (sym (got (g.B.Blocks.blocks c.args.b.now) c.args.pointers c.get-block.result c.get-block.ensures.value))
