-- What becomes of one entry of a directory: in the tree, and what has to be so before.
use Rattle.std.specs.Prelude.{◌≡◌, ◌≢◌, ℕ, ◌<◌, List, Some}
use Rattle.kabi_types.specs.declared.inodes.Inode.{Inode}
use Rattle.posix_defs.specs.DiskContents.{own_name, parent_name}
use Rattle.posix_defs.specs.DiskFormat.{IsName}
use Rattle.posix_defs.specs.Tree.{Tree, found}
use Rattle.posix_defs.specs.TreeChanges.{with_entries, entry_put, entry_taken, entry_renamed, hung}
use Rattle.blk_map.specs.Named.{FreesNone, TakesLowest, TakesNone}
use Rattle.memfs_dir.specs.Listed.{IsFull}
use Rattle.memfs_ops.specs.declared.entries.EntryEdit.{EntryEdit}
use Rattle.memfs_ops.specs.declared.entries.EntryEdit.TheVariants as edits

-- the tree in which an entry of this directory was put last, taken out or given another name and node, or in which the
-- directory hangs elsewhere
abbrev pub edited : EntryEdit → Tree → ℕ → Tree
edited (edits.Put name node) tree dir = with_entries tree dir (entry_put name node)
edited (edits.Take name) tree dir = with_entries tree dir (entry_taken name)
edited (edits.Set from to node) tree dir = with_entries tree dir (entry_renamed from to node)
edited (edits.Hang parent) tree dir = hung tree dir parent

-- a directory has an entry of this name, which is neither `.` nor `..`
pub record HasEntry (tree : Tree) (dir : ℕ) (name : List ℕ) : Type 0 where
  pub node : ℕ
  pub there : found tree dir name ≡ Some node
  pub own : name ≢ own_name
  pub parent : name ≢ parent_name

-- What is put finds room; what is taken out or changed is there; a name is one that an entry may have, and a node has a
-- number.
abbrev pub MayEdit : EntryEdit → List (List ℕ) → Tree → ℕ → Inode → Type 0
MayEdit (edits.Put name node) disk tree dir inode = IsName name × (0 < node) × ¬ (IsFull disk inode)
MayEdit (edits.Take name) disk tree dir inode = HasEntry tree dir name
MayEdit (edits.Set from to node) disk tree dir inode = HasEntry tree dir from × IsName to × (0 < node)
MayEdit (edits.Hang parent) disk tree dir inode = 0 < parent

-- What is put finds its place in the lowest free blocks, where it takes any; what is taken out takes none; and what changes in
-- its place leaves the map.
abbrev pub TakesFor : EntryEdit → List (List ℕ) → List (List ℕ) → Type 0
TakesFor (edits.Put name node) before after = TakesLowest before after
TakesFor (edits.Take name) before after = TakesNone before after
TakesFor (edits.Set from to node) before after = TakesNone before after × FreesNone before after
TakesFor (edits.Hang parent) before after = TakesNone before after × FreesNone before after
