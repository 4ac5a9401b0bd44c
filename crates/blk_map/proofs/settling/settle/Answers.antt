use Rattle.std.proofs.Common.{ℕ, List, length, ◌∙◌, arith}
use Rattle.posix_defs.specs.SoundDisk.{table_block}
use Rattle.blk_map.proofs.Blocks.{in_table, same_table}
use Rattle.blk_map.proofs.settling.settle.Goals as goal

pub returns-clause-slots : goal.returns-clause-slots
returns-clause-slots g c = λ node pos within apart.
    let before : List (List ℕ) = g.B.Blocks.blocks c.args.b.now in
    let at = in_table (length before) node pos within in
    c.put_in_table.ensures.slots node pos apart
    ∙ same_table before (g.B.Blocks.blocks c.put_pointers.new.b) node (c.put_pointers.ensures.others (table_block node) (λ large e. omega (arith, e, at.1, (c.requires.within large).0)))
