use Rattle.std.proofs.Common.{◌≡◌, ◌≢◌, ℕ, ◌-◌, ◌<◌, ◌≤◌, List, length, sym, ap, ◌∙◌, arith}
use Rattle.posix_defs.specs.DiskFormat.{blocks_of}
use Rattle.posix_defs.specs.SoundDisk.{bit_of}
use Rattle.blk_map.proofs.Blocks.{in_table}
use Rattle.blk_map.proofs.Counted.{blocks_more, given_none, some_given}
use Rattle.blk_map.proofs.SameBlocks.{same_resizes}
use Rattle.blk_map.proofs.shrinking.shrink_in_run.Goals as goal

pub returns-then-block_count-clause-resizes : goal.returns-then-block_count-clause-resizes
returns-then-block_count-clause-resizes g c =
    let none : blocks_of c.args.inode.now.size - blocks_of c.args.size ≡ 0 = omega (arith, c.block_count.ensures, c.block_count-2.ensures) in
    same_resizes (
    record {
      number = c.args.number;
      before = g.B.Blocks.blocks c.args.b.now;
      old = c.args.inode.now;
      size = c.args.size;
      after = g.B.Blocks.blocks c.put_in_table.new.b;
      sound = c.requires.sound;
      had = c.requires.node.0;
      kind = c.requires.kind;
      same = sym (given_none c.args.size c.args.inode.now.size c.requires.size none);
      count = c.put_in_table.ensures.count;
      slot = c.put_in_table.ensures.slot;
      slots = c.put_in_table.ensures.slots;
      others = c.put_in_table.ensures.others;
    }
    )

pub returns-then-block_count-clause-takes_none : goal.returns-then-block_count-clause-takes_none
returns-then-block_count-clause-takes_none g c = λ block is.
    let table = in_table (length (g.B.Blocks.blocks c.args.b.now)) c.args.number c.requires.node.0.number.0 c.requires.node.0.number.1 in
    sym (ap (λ (map : List ℕ). bit_of map block) (c.put_in_table.ensures.others 0 (λ e. omega (arith, e, table.0)))) ∙ is

pub give_blocks-requires-clause-size : goal.give_blocks-requires-clause-size
give_blocks-requires-clause-size g c =
    let less : blocks_of c.args.size ≤ blocks_of c.args.inode.now.size = blocks_more c.args.size c.args.inode.now.size c.requires.size in
    some_given c.args.size c.args.inode.now.size c.requires.size (some (blocks_of c.args.size) (blocks_of c.args.inode.now.size) c.block_count.result c.block_count-2.result c.block_count.ensures c.block_count-2.ensures less (omega arith))
  where
    some : (n m new old : ℕ) → new ≡ n → old ≡ m → n ≤ m → new ≢ old → 0 < m - n
    some n m new old is was le other = omega (arith, is, was, le, other)
