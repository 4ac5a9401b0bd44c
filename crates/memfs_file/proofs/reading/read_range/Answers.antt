use Rattle.std.proofs.Common.{◌≡◌, ℕ, ◌+◌, ◌-◌, ◌/◌, ◌<◌, ◌≤◌, ◌++◌, List, length, sym, ap, subst, ◌∙◌, arith}
use Rattle.posix_defs.specs.Asking.{AskedInTurn}
use Rattle.posix_defs.specs.DiskFormat.{block_size, data_blocks}
use Rattle.posix_defs.specs.SoundDisk.{block_of_run, pointer_block, run_of}
use Rattle.memfs_file.specs.Ranges.{asked_between, asked_to_read, blocks_between, pointers_for}
use Rattle.memfs_file.proofs.Runs.{asked_some, near_runs}
use Rattle.memfs_file.proofs.reading.read_range.Goals as goal

pub returns-then-end-gt-NEAR_BLOCKS-clause-asked : goal.returns-then-end-gt-NEAR_BLOCKS-clause-asked
returns-then-end-gt-NEAR_BLOCKS-clause-asked g c =
    let disk : List (List ℕ) = g.B.Blocks.blocks c.args.b.now in
    let inode = c.args.inode.now in
    let len : ℕ = length c.args.out.now in
    let from : ℕ = c.args.at / block_size in
    let end : c.data_count-end.result ≡ data_blocks (c.args.at + len) = c.data_count-end.ensures in
    subst (λ (xs : List ℕ). AskedInTurn g.B.Blocks.asked c.args.b.now xs c.read_far.new.b) (
    ap (λ (n : ℕ). asked_between disk inode from n) end ∙ sym (asked_some disk inode c.args.at len c.requires.some)
    ) c.read_far.ensures.asked

pub read_run-requires-clause-pointers : goal.read_run-requires-clause-pointers
read_run-requires-clause-pointers g c =
    let disk : List (List ℕ) = g.B.Blocks.blocks c.args.b.now in
    let inode = c.args.inode.now in
    let near : run_of (c.args.at / block_size) ≡ 0 = omega (arith, c.data_count-end.ensures, c.requires.some) in
    ap (λ (r : ℕ). pointer_block disk inode (block_of_run r)) (sym near)

pub returns-clause-bytes : goal.returns-clause-bytes
returns-clause-bytes g c = λ k lt. c.read_run.ensures.bytes k lt (omega arith) (omega (arith, lt, c.data_count-end.ensures))

pub returns-clause-asked : goal.returns-clause-asked
returns-clause-asked g c =
    let disk : List (List ℕ) = g.B.Blocks.blocks c.args.b.now in
    let inode = c.args.inode.now in
    let len : ℕ = length c.args.out.now in
    let from : ℕ = c.args.at / block_size in
    let to : ℕ = data_blocks (c.args.at + len) in
    let end : c.data_count-end.result ≡ to = c.data_count-end.ensures in
    let some : from < to = omega (arith, c.requires.some) in
    let near : to ≤ 266 = omega (arith, end) in
    subst (λ (xs : List ℕ). AskedInTurn g.B.Blocks.asked c.args.b.now xs c.read_run.new.b) (
    ap (λ (n : ℕ). pointers_for inode.indirect n ++ blocks_between disk inode from n) end ∙ sym (near_runs disk inode from to some near) ∙ sym (asked_some disk inode c.args.at len c.requires.some)
    ) c.read_run.ensures.asked
