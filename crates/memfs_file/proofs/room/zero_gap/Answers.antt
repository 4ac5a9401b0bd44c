use Rattle.memfs_file.proofs.Clearing.{cleared}
use Rattle.memfs_file.proofs.room.zero_gap.Goals as goal

pub returns-clause-clears : goal.returns-clause-clears
returns-clause-clears g c = λ number has.
    cleared number (g.B.Blocks.blocks c.args.b.now) c.args.inode.now c.args.from c.args.to c.min-count.result (g.B.Blocks.blocks c.put_bytes.new.b) c.if-start-eq0.false c.if-to-from.false c.min-count.ensures
    (c.put_bytes.ensures.puts number has)
