use Rattle.std.proofs.Common.{ℕ, List, ◌-◌, sym, ap, ◌∙◌, arith}
use Rattle.posix_defs.specs.SoundDisk.{block_of_run, pointer_at, pointer_block}
use Rattle.blk_map.proofs.Blocks.{got}
use Rattle.blk_map.proofs.Ways.{further_run, asked_none, asked_double}
use Rattle.blk_map.proofs.locating.pointers_at.Goals as goal

pub returns-then-run-eq0-clause-value : goal.returns-then-run-eq0-clause-value
returns-then-run-eq0-clause-value g c = ap (λ (run : ℕ). pointer_block (g.B.Blocks.blocks c.args.b.now) c.args.inode.now (block_of_run run)) (sym c.if-run-eq0.true)

pub returns-then-run-eq0-clause-asked : goal.returns-then-run-eq0-clause-asked
returns-then-run-eq0-clause-asked g c = asked_none g.B.Blocks.asked c.args.run c.args.inode.now.double c.args.b.now c.if-run-eq0.true

pub returns-clause-value : goal.returns-clause-value
returns-clause-value g c =
    let disk : List (List ℕ) = g.B.Blocks.blocks c.args.b.now in
    c.pointer_in.ensures ∙ ap (λ (bytes : List ℕ). pointer_at bytes (c.args.run - 1)) (sym (got disk c.args.inode.now.double c.get.result c.get.ensures.value))
    ∙ sym (further_run disk c.args.inode.now c.args.run (omega arith))

pub returns-clause-asked : goal.returns-clause-asked
returns-clause-asked g c = asked_double g.B.Blocks.asked c.args.run c.args.inode.now.double c.args.b.now c.get.new.self (omega arith) c.get.ensures.asked
