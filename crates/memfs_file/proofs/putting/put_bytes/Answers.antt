use Rattle.std.proofs.Common.{◌≡◌, ℕ, ◌+◌, ◌/◌, ◌<◌, ◌≤◌, List, length, sym, ap, arith}
use Rattle.posix_defs.specs.DiskFormat.{block_size, data_blocks}
use Rattle.posix_defs.specs.SoundDisk.{block_of_run, pointer_block, run_of}
use Rattle.memfs_file.proofs.Written.{all_put}
use Rattle.memfs_file.proofs.putting.put_bytes.Goals as goal

pub returns-then-end-gt-NEAR_BLOCKS-clause-puts : goal.returns-then-end-gt-NEAR_BLOCKS-clause-puts
returns-then-end-gt-NEAR_BLOCKS-clause-puts g c = λ number has.
    all_put number (g.B.Blocks.blocks c.args.b.now) c.args.inode.now c.args.at c.args.bytes.now (c.args.at / block_size) c.data_count-end.result (g.B.Blocks.blocks c.put_far.new.b) (omega arith) c.data_count-end.ensures (c.put_far.ensures.puts number has)

pub put_run-requires-clause-pointers : goal.put_run-requires-clause-pointers
put_run-requires-clause-pointers g c =
    let near : run_of (c.args.at / block_size) ≡ 0 = omega (arith, c.data_count-end.ensures, c.requires.some) in
    ap (λ (r : ℕ). pointer_block (g.B.Blocks.blocks c.args.b.now) c.args.inode.now (block_of_run r)) (sym near)

pub returns-clause-puts : goal.returns-clause-puts
returns-clause-puts g c = λ number has.
    all_put number (g.B.Blocks.blocks c.args.b.now) c.args.inode.now c.args.at c.args.bytes.now (c.args.at / block_size) c.data_count-end.result (g.B.Blocks.blocks c.put_run.new.b) (omega arith) c.data_count-end.ensures (c.put_run.ensures.puts number has)
