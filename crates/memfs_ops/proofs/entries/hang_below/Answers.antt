use Rattle.std.proofs.Common.{ℕ, List, sym, subst, arith}
use Rattle.std.specs.Prelude.{slice_set}
use Rattle.kabi_types.specs.declared.inodes.DirEntry.{DirEntry}
use Rattle.posix_defs.specs.DiskFormat.{IsEntry}
use Rattle.memfs_dir.specs.Listed.{Relists}
use Rattle.memfs_dir.proofs.InTree.{listed, hung_in_tree}
use Rattle.memfs_node.proofs.Looking.{known_of, same_directory, has_two}
use Rattle.memfs_ops.proofs.entries.hang_below.Goals as goal

pub dir_rename-requires-clause-node : goal.dir_rename-requires-clause-node
dir_rename-requires-clause-node g c = (c.args.dir, c.requires.node)

pub dir_rename-requires-clause-entries : goal.dir_rename-requires-clause-entries
dir_rename-requires-clause-entries g c =
    let disk : List (List ℕ) = g.B.Blocks.blocks c.args.b.now in
    let s = c.requires.stands in
    (listed s.0 c.args.dir, (known_of disk s.0 c.args.dir c.args.inode.now s.1 s.2 c.requires.node).list)

pub dir_rename-requires-clause-within : goal.dir_rename-requires-clause-within
dir_rename-requires-clause-within g c =
    let disk : List (List ℕ) = g.B.Blocks.blocks c.args.b.now in
    let s = c.requires.stands in
    has_two disk s.0 c.args.dir c.args.inode.now (known_of disk s.0 c.args.dir c.args.inode.now s.1 s.2 c.requires.node)

pub dir_rename-requires-clause-entry : goal.dir_rename-requires-clause-entry
dir_rename-requires-clause-entry g c = subst (λ (e : DirEntry). IsEntry e) (sym c.parent_entry.ensures.is) (record { node = (c.requires.number, omega (arith, c.ranges.parent)); name = c.parent_entry.ensures.name })

pub returns-clause-stands : goal.returns-clause-stands
returns-clause-stands g c = λ tree stands.
    let disk : List (List ℕ) = g.B.Blocks.blocks c.args.b.now in
    let after : List (List ℕ) = g.B.Blocks.blocks c.dir_rename.new.b in
    let s = c.requires.stands in
    let is_dir = same_directory disk s.0 tree c.args.dir s.1 stands s.2 in
    let relists = subst (λ (e : DirEntry). Relists c.args.dir disk c.args.inode.now (λ entries. slice_set entries 1 e) after c.args.inode.now) c.parent_entry.ensures.is (c.dir_rename.ensures.puts c.args.dir c.requires.node) in
    hung_in_tree disk after tree c.args.dir c.args.parent c.args.inode.now c.args.inode.now stands is_dir c.requires.node relists

pub returns-clause-node : goal.returns-clause-node
returns-clause-node g c = (c.dir_rename.ensures.puts c.args.dir c.requires.node).has

pub returns-clause-changes : goal.returns-clause-changes
returns-clause-changes g c = (c.dir_rename.ensures.puts c.args.dir c.requires.node).changes
