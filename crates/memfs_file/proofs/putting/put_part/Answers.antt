use Rattle.std.proofs.Common.{◌%◌, inl, inr, List, ℕ, get_or, ap, ◌∙◌, arith}
use Rattle.posix_defs.specs.SoundDisk.{block_bytes}
use Rattle.memfs_file.proofs.Whole.{whole_here}
use Rattle.memfs_file.proofs.putting.put_part.Goals as goal

pub returns-in-Some-clause-here : goal.returns-in-Some-clause-here
returns-in-Some-clause-here g c = λ place le lt here.
    ap (λ (disk : List (List ℕ)). get_or (block_bytes disk c.args.number) (place % 1024) 0) c.set.ensures.after
    ∙ whole_here c.args.index c.args.at c.args.number (g.B.Blocks.blocks c.args.b.now) c.args.bytes.now c.in-Some.whole.now place c.requires.on_disk c.in-Some.ensures.2 here

pub returns-in-Some-clause-rest : goal.returns-in-Some-clause-rest
returns-in-Some-clause-rest g c = λ place here off. elim off [
  | inl before ↦ absurd (omega (arith, before, here, c.in-Some.ensures.0))
  | inr behind ↦ absurd (omega (arith, behind, here, c.in-Some.ensures.1))
]
