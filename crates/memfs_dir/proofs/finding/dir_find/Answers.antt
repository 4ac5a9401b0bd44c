use Rattle.std.proofs.Common.{List, ℕ, rules}
use Rattle.posix_defs.specs.Asking.{AskedInTurn}
use Rattle.memfs_dir.specs.Looking.{asked_to_find, found_place}
use Rattle.memfs_dir.specs.declared.copied.CopiedBlocks.{CopiedBlocks}
use Rattle.memfs_dir.proofs.Found.{asked_through}
use Rattle.memfs_dir.proofs.finding.dir_find.Goals as goal

pub returns-clause-asked : goal.returns-clause-asked
returns-clause-asked g c =
    let blocks : List ℕ = asked_to_find (g.B.Blocks.blocks c.args.b.now) c.args.dir.now (found_place c.dir_look.result) in
    let asked : AskedInTurn g.B.Blocks.asked c.args.b.now blocks c.dir_look.new.b.below.now =
    asked_through (λ (copied : CopiedBlocks _). copied.below.now) g.B.Blocks.asked _ blocks c.dir_look.new.b c.dir_look.ensures.asked in
    search rules
