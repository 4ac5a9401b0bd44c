use Rattle.std.proofs.Common.{arith}
use Rattle.disk_layout.proofs.WordBytes.{more_put}
use Rattle.disk_layout.proofs.words.put_words.Goals as goal

pub loop-k-preserved : goal.loop-k-preserved
loop-k-preserved c = more_put c.args.out.now c.args.words.now c.loop-k.out c.put.new.out c.args.at c.loop-k.k 0 c.loop-k-test.true (omega (arith, c.requires)) c.loop-k.invariant (rw c.to_be_bytes.ensures at c.put.ensures)
