use Rattle.std.proofs.Common.{◌≢◌, inr, refl, sym, ◌∙◌, arith}
use Rattle.blk_map.proofs.Growth.{but_none}
use Rattle.memfs_file.proofs.Lowest.{takes_lowest}
use Rattle.memfs_file.proofs.Rewriting.{cut, stretched}
use Rattle.memfs_file.proofs.sizing.set_size.Goals as goal

pub returns-then-size-old-clause-ok : goal.returns-then-size-old-clause-ok
returns-then-size-old-clause-ok g c =
    cut c.args.number (g.B.Blocks.blocks c.args.b.now) c.args.inode.now c.args.size (g.B.Blocks.blocks c.shrink.new.b) c.shrink.new.inode c.if-size-old.true c.shrink.ensures.resizes

pub returns-clause-ok : goal.returns-clause-ok
returns-clause-ok g c =
    let grows = c.in_ok-grow.ensures.ok in
    let kind : c.grow.new.inode.kind ≢ 0 = λ e. c.requires.node.1 (sym grows.resizes.fields.0 ∙ e) in
    stretched c.args.number (g.B.Blocks.blocks c.args.b.now) c.args.inode.now c.args.size (g.B.Blocks.blocks c.grow.new.b) c.grow.new.inode c.args.size (g.B.Blocks.blocks c.zero_gap.new.b)
    (record { from = 0; until = 0; grows = but_none grows; whole = λ k lt. inr (omega arith); clears = c.zero_gap.ensures.clears c.args.number (grows.resizes.has, kind) }) refl

pub returns-then-size-old-clause-lowest : goal.returns-then-size-old-clause-lowest
returns-then-size-old-clause-lowest g c = λ block other free marked left. absurd (free.1 (c.shrink.ensures.takes_none block marked))

pub returns-clause-lowest : goal.returns-clause-lowest
returns-clause-lowest g c =
    let grows = c.in_ok-grow.ensures.ok in
    let kind : c.grow.new.inode.kind ≢ 0 = λ e. c.requires.node.1 (sym grows.resizes.fields.0 ∙ e) in
    let clears = c.zero_gap.ensures.clears c.args.number (grows.resizes.has, kind) in
    takes_lowest 0 0 c.args.number (g.B.Blocks.blocks c.args.b.now) c.args.inode.now c.args.size (g.B.Blocks.blocks c.grow.new.b) c.grow.new.inode (g.B.Blocks.blocks c.zero_gap.new.b) (but_none grows) clears.changes.blocks clears.map
