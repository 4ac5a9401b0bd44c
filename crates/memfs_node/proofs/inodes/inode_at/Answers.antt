use Rattle.std.proofs.Common.{◌≡◌, ℕ, List, Result, Ok, refl, sym, subst, ◌∙◌}
use Rattle.std.specs.Prelude.{IsOk}
use Rattle.kabi_types.specs.declared.inodes.Inode.{Inode}
use Rattle.posix_defs.specs.DiskFormat.{IsInode}
use Rattle.posix_defs.specs.SoundDisk.{HasInode, table_block}
use Rattle.disk_layout.specs.declared.faults.BadInode.{BadInode}
use Rattle.blk_map.proofs.Blocks.{got}
use Rattle.memfs_node.proofs.Slots.{in_slot}
use Rattle.memfs_node.proofs.inodes.inode_at.Goals as goal

pub unwrap-requires : goal.unwrap-requires
unwrap-requires g c =
    let disk : List (List ℕ) = g.B.Blocks.blocks c.args.b.now in
    let there = c.requires.sound.table c.args.number c.requires.number.0 c.requires.number.1 in
    let block = got disk (table_block c.args.number) c.get-block.result c.get-block.ensures.value in
    let slot = in_slot disk c.args.number there.0 c.get-block.result there.1 block in
    let valid : IsInode c.count-blocks.result there.0 = subst (λ (n : ℕ). IsInode n there.0) (sym c.count-blocks.ensures) slot.valid in
    let is : c.inode_in.result ≡ Ok there.0 = c.inode_in.ensures.only there.0 valid slot.bytes in
    subst (λ (r : Result Inode BadInode). IsOk r) (sym is) refl

same_Ok : (one other : Inode) → ◌≡◌ {A = Result Inode BadInode} (Ok one) (Ok other) → one ≡ other
same_Ok one other is = cc

pub returns-clause-has : goal.returns-clause-has
returns-clause-has g c =
    let disk : List (List ℕ) = g.B.Blocks.blocks c.args.b.now in
    let there = c.requires.sound.table c.args.number c.requires.number.0 c.requires.number.1 in
    let block = got disk (table_block c.args.number) c.get-block.result c.get-block.ensures.value in
    let slot = in_slot disk c.args.number there.0 c.get-block.result there.1 block in
    let valid : IsInode c.count-blocks.result there.0 = subst (λ (n : ℕ). IsInode n there.0) (sym c.count-blocks.ensures) slot.valid in
    let is : c.inode_in.result ≡ Ok there.0 = c.inode_in.ensures.only there.0 valid slot.bytes in
    let same : there.0 ≡ c.unwrap.result = same_Ok there.0 c.unwrap.result (sym is ∙ c.unwrap.ensures) in
    subst (λ (inode : Inode). HasInode disk c.args.number inode) same there.1
