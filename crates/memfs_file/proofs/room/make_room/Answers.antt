use Rattle.std.proofs.Common.{◌≡◌, ℕ, ◌+◌, ◌/◌, ◌<◌, max, List, subst, arith}
use Rattle.std.specs.Prelude.{IfOk, IfErr}
use Rattle.kabi_types.specs.declared.errnos.Errno.TheVariants.{ENOSPC}
use Rattle.kabi_types.specs.declared.inodes.Inode.{Inode}
use Rattle.posix_defs.specs.DiskFormat.{block_size, data_blocks}
use Rattle.posix_defs.specs.FileBytes.{fitting}
use Rattle.blk_map.specs.Growing.{GrowsBut}
use Rattle.memfs_file.specs.FileChange.{blocks_for}
use Rattle.memfs_file.proofs.room.make_room.Goals as goal

pub returns-in-Err-clause-count : goal.returns-in-Err-clause-count
returns-in-Err-clause-count g c =
    let same = c.in-Err.ensures.err in
    let Fits : List (List ℕ) → Inode → Type 0 = λ disk inode. IfOk c.grow_to_most.result (λ count. (count ≡ fitting (blocks_for disk inode) c.args.at c.args.wanted) × (0 < count)) in
    subst (λ (disk : List (List ℕ)). Fits disk c.args.inode.now) same.1 (subst (λ (inode : Inode). Fits (g.B.Blocks.blocks c.grow_but.new.b) inode) same.2 c.grow_to_most.ensures.count)

pub returns-in-Err-clause-err : goal.returns-in-Err-clause-err
returns-in-Err-clause-err g c =
    let same = c.in-Err.ensures.err in
    let Stays : List (List ℕ) → Inode → Type 0 = λ disk inode. IfErr c.grow_to_most.result (λ fault. (fault ≡ ENOSPC) × (fitting (blocks_for disk inode) c.args.at c.args.wanted ≡ 0)
    × (g.B.Blocks.blocks c.grow_to_most.new.b ≡ disk) × (c.grow_to_most.new.inode ≡ inode)) in
    subst (λ (disk : List (List ℕ)). Stays disk c.args.inode.now) same.1 (subst (λ (inode : Inode). Stays (g.B.Blocks.blocks c.grow_but.new.b) inode) same.2 c.grow_to_most.ensures.err)

pub returns-in-Ok-clause-ok : goal.returns-in-Ok-clause-ok
returns-in-Ok-clause-ok g c =
    let before : List (List ℕ) = g.B.Blocks.blocks c.args.b.now in
    let after : List (List ℕ) = g.B.Blocks.blocks c.grow_but.new.b in
    let old = c.args.inode.now in
    let end : ℕ = c.args.at + c.args.wanted in
    let size : end ≡ max old.size end = omega arith in
    subst (λ (n : ℕ). GrowsBut (data_blocks c.args.at) (end / block_size) c.args.number before old n after c.grow_but.new.inode) size
    (subst (λ (n : ℕ). GrowsBut n (end / block_size) c.args.number before old end after c.grow_but.new.inode) c.data_count-from.ensures c.in-Ok.ensures.ok)

pub returns-in-Err-clause-ok : goal.returns-in-Err-clause-ok
returns-in-Err-clause-ok g c =
    let same = c.in-Err.ensures.err in
    let Grown : List (List ℕ) → Inode → Type 0 = λ disk inode. IfOk c.grow_to_most.result (λ count. GrowsBut (data_blocks c.args.at) ((c.args.at + count) / block_size) c.args.number disk inode (max inode.size (c.args.at + count))
    (g.B.Blocks.blocks c.grow_to_most.new.b) c.grow_to_most.new.inode) in
    subst (λ (disk : List (List ℕ)). Grown disk c.args.inode.now) same.1 (subst (λ (inode : Inode). Grown (g.B.Blocks.blocks c.grow_but.new.b) inode) same.2 c.grow_to_most.ensures.ok)
