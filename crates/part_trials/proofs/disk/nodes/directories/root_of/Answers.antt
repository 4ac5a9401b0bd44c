use Rattle.std.proofs.Common.{◌≡◌, ℕ, List, sym, subst, arith}
use Rattle.kabi_types.specs.declared.inodes.Inode.{Inode}
use Rattle.posix_defs.specs.SoundDisk.{HasInode}
use Rattle.posix_defs.specs.DiskContents.{HasEntries}
use Rattle.disk_laws.proofs.FormattedDisk.{one_inode}
use Rattle.memfs_dir.specs.Listed.{HasDirectory}
use Rattle.part_trials.proofs.disk.nodes.directories.root_of.Goals as goal

pub inode_at-requires-clause-number : goal.inode_at-requires-clause-number
inode_at-requires-clause-number c = c.requires.root.has.number

pub returns : goal.returns
returns c =
    let disk : List (List ℕ) = c.args.b.now.disk.blocks in
    let root = c.requires.root in
    let inode = c.inode_at.result in
    let has : HasInode disk 1 inode = c.inode_at.ensures.has in
    let same : inode ≡ root.inode = one_inode disk 1 inode root.inode has root.has in
    let list = subst (λ (i : Inode). HasEntries disk i _) (sym same) root.list in
    subst (λ (d : List (List ℕ)). HasDirectory d 1 inode) (sym c.inode_at.ensures.kept) (c.requires.sound, (has, λ none. omega (arith, none, list.kind)), (_, list))
