use Rattle.std.proofs.Common.{ap, sym, ◌∙◌, arith, ◌*◌}
use Rattle.std.proofs.lemmas.List.{take_all, length-set}
use Rattle.disk_laws.proofs.DiskSpelling.{words}
use Rattle.disk_layout.proofs.WordBytes.{more_read}
use Rattle.disk_layout.proofs.inodes.pointers_of.Goals as goal

pub loop-k-preserved : goal.loop-k-preserved
loop-k-preserved c = record {
  count = length-set c.loop-k.pointers c.loop-k.k c.word_at.result ∙ c.loop-k.invariant.count;
  read = more_read c.loop-k.pointers c.args.bytes.now c.loop-k.k c.word_at.result (omega arith) c.loop-k.invariant.read c.word_at.ensures;
}

pub returns : goal.returns
returns c = ap words (sym (take_all c.loop-k.k c.loop-k.pointers (omega arith))) ∙ c.loop-k.invariant.read ∙ take_all (4 * c.loop-k.k) c.args.bytes.now (omega (arith, c.requires))
