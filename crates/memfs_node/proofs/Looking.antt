-- What is asked of a tree of directories, answered from its disk.
use Rattle.std.proofs.Common.{◌≡◌, ◌≢◌, ℕ, ◌*◌, ◌<◌, ◌≤◌, true, List, length, Option, Some, None, slice_get, Result, Ok, Err, refl, sym, ap, subst, ◌∙◌, arith}
use Rattle.std.proofs.lemmas.Option.{same_Some}
use Rattle.kabi_types.specs.declared.inodes.DirEntry.{DirEntry}
use Rattle.kabi_types.specs.declared.inodes.Inode.{Inode}
use Rattle.kabi_types.specs.declared.errnos.Errno.{Errno}
use Rattle.kabi_types.specs.declared.errnos.Errno.TheVariants.{ENOENT}
use Rattle.posix_defs.specs.DiskFormat.{table_nodes}
use Rattle.posix_defs.specs.SoundDisk.{HasInode, HasNode}
use Rattle.posix_defs.specs.DiskContents.{HasEntries, entry_for, own_name, parent_name}
use Rattle.posix_defs.specs.DiskTree.{StandsFor}
use Rattle.posix_defs.specs.Tree.{Node, Tree, IsInodeAt, IsInodeIn, is_directory, is_in_use, entries_at, parent_at, found}
use Rattle.posix_defs.specs.TreeChanges.{no_entry, place_of}
use Rattle.posix_defs.specs.IsTree.{IsTree}
use Rattle.posix_defs.specs.Paths.{IsLed}
use Rattle.posix_defs.specs.PathCalls.{node_led}
use Rattle.posix_defs.specs.declared.walked.Walked.{Walked}
use Rattle.posix_defs.specs.declared.walked.Walked.TheVariants as walked
use Rattle.posix_defs.proofs.TreeNodes.{is_number, directory_in_use, found_in_directory}
use Rattle.tree_laws.proofs.EntryLists.{stands_at}
use Rattle.tree_laws.proofs.TreeSteps.{node_of}
use Rattle.tree_laws.proofs.TreeFacts.{found_in_use}
use Rattle.tree_laws.proofs.TreeKeeps.{entries_are, same_Ok, err-ok}
use Rattle.disk_laws.proofs.FormattedDisk.{one_inode}
use Rattle.disk_laws.proofs.DirectoryEntries.{size_of_entries}
use Rattle.disk_laws.proofs.DiskNodes.{inode_of_node, node_of_inode, one_tree}
use Rattle.memfs_dir.specs.Listed.{place_called}
use Rattle.memfs_node.specs.NodeOnDisk.{AnswersAs, HasTree}
use Rattle.memfs_dir.proofs.InTree.{on_disk, listed, looked_up, not_there}

-- ---- a node

pub in_range : (disk : List (List ℕ)) (tree : Tree) (number : ℕ) → StandsFor disk tree → is_in_use tree number ≡ true → (0 < number) × (number ≤ table_nodes (length disk))
in_range disk tree number stands used =
    let at = is_number tree number used in
    (at.above, subst (λ (n : ℕ). number ≤ table_nodes n) (sym stands.blocks) (subst (λ (n : ℕ). number ≤ n) stands.count at.within))

pub in_use : (disk : List (List ℕ)) (tree : Tree) (number : ℕ) (inode : Inode) → StandsFor disk tree → is_in_use tree number ≡ true → HasInode disk number inode → HasNode disk number inode
in_use disk tree number inode stands used has =
    let node = node_of tree number used in
    let there = inode_of_node disk tree number node.0 stands node.1 in
    (has, λ none. there.has.1 (ap (λ (i : Inode). i.kind) (one_inode disk number there.inode inode there.has.0 has) ∙ none))

pub shown : (disk : List (List ℕ)) (tree : Tree) (number : ℕ) (inode : Inode) → StandsFor disk tree → HasNode disk number inode → IsInodeAt tree number inode
shown disk tree number inode stands has =
    let is = node_of_inode disk tree number inode stands has in
    subst (λ (there : Option Node). IsInodeIn there inode) (sym is.is) is.shows

-- ---- a directory

-- what is known of a directory and its inode, in one tree that the disk stands for
pub record Known (disk : List (List ℕ)) (tree : Tree) (dir : ℕ) (inode : Inode) : Type 0 where
  pub stands : StandsFor disk tree
  pub directory : is_directory tree dir ≡ true
  pub has : HasNode disk dir inode
  pub list : HasEntries disk inode (listed tree dir)

pub known : (disk : List (List ℕ)) (tree : Tree) (dir : ℕ) (inode : Inode) → StandsFor disk tree → is_directory tree dir ≡ true → HasInode disk dir inode → Known disk tree dir inode
known disk tree dir inode stands is has =
    let node = in_use disk tree dir inode stands (directory_in_use tree dir is) has in
    record { stands = stands; directory = is; has = node; list = (on_disk disk tree dir inode stands is node).list }

module _ (disk : List (List ℕ)) (tree : Tree) (dir : ℕ) (inode : Inode) (k : Known disk tree dir inode) where
  -- it has room for `.` and `..`
  pub has_two : 32 * 1 < inode.size
  has_two = omega (arith, size_of_entries disk inode (listed tree dir) k.list)

  pub parent_is : (entry : DirEntry) → ((entries : List DirEntry) → HasEntries disk inode entries → slice_get entries 1 ≡ Some entry) → entry.node ≡ parent_at tree dir
  parent_is entry is = ap (λ (e : DirEntry). e.node) (sym (same_Some (entry_for (parent_at tree dir) parent_name) entry (is (listed tree dir) k.list)))

  pub look_is : (name : List ℕ) (place : ℕ) (entry : DirEntry) → name ≢ own_name → name ≢ parent_name → ((entries : List DirEntry) → HasEntries disk inode entries → Some place ≡ place_called name entries)
      → ((entries : List DirEntry) → HasEntries disk inode entries → slice_get entries place ≡ Some entry) → found tree dir name ≡ Some entry.node
  look_is name place entry not_own not_parent at is = looked_up disk tree dir place inode name entry k.stands k.directory k.has not_own not_parent (sym (at (listed tree dir) k.list)) (is (listed tree dir) k.list)

  pub look_none : (name : List ℕ) → name ≢ own_name → name ≢ parent_name → ((entries : List DirEntry) → HasEntries disk inode entries → None ≡ place_called name entries) → found tree dir name ≡ None
  look_none name not_own not_parent at = not_there disk tree dir inode name k.stands k.directory k.has not_own not_parent (sym (at (listed tree dir) k.list))

-- `.` and `..` are no names of the tree
dot_from : (tree : Tree) (dir : ℕ) (name : List ℕ) (there : Option ℕ) → IsTree tree → (name ≡ own_name) → found tree dir name ≡ there → there ≡ None
dot_from tree dir name None is own at = refl
dot_from tree dir name (Some node) is own at =
    let stands = stands_at (entries_at tree dir) name node at in
    let are = entries_are tree dir is (found_in_directory tree dir name node at) in
    absurd ((are.names (place_of name (entries_at tree dir)) no_entry stands.within).own (stands.called ∙ own))

dots_from : (tree : Tree) (dir : ℕ) (name : List ℕ) (there : Option ℕ) → IsTree tree → (name ≡ parent_name) → found tree dir name ≡ there → there ≡ None
dots_from tree dir name None is up at = refl
dots_from tree dir name (Some node) is up at =
    let stands = stands_at (entries_at tree dir) name node at in
    let are = entries_are tree dir is (found_in_directory tree dir name node at) in
    absurd ((are.names (place_of name (entries_at tree dir)) no_entry stands.within).parent (stands.called ∙ up))

pub no_own : (tree : Tree) (dir : ℕ) (name : List ℕ) → IsTree tree → name ≡ own_name → found tree dir name ≡ None
no_own tree dir name is own = dot_from tree dir name (found tree dir name) is own refl

pub no_parent : (tree : Tree) (dir : ℕ) (name : List ℕ) → IsTree tree → name ≡ parent_name → found tree dir name ≡ None
no_parent tree dir name is up = dots_from tree dir name (found tree dir name) is up refl

-- ---- one tree

pub same_directory : (disk : List (List ℕ)) (one other : Tree) (dir : ℕ) → StandsFor disk one → StandsFor disk other → is_directory one dir ≡ true → is_directory other dir ≡ true
same_directory disk one other dir stands also is = ap (λ (tree : Tree). is_directory tree dir) (sym (one_tree disk one other stands also)) ∙ is

pub known_of : (disk : List (List ℕ)) (tree : Tree) (dir : ℕ) (inode : Inode) → StandsFor disk tree → is_directory tree dir ≡ true → HasNode disk dir inode → Known disk tree dir inode
known_of disk tree dir inode stands is has = known disk tree dir inode stands is has.0

-- what a path led to is in use
pub led_in_use : (tree : Tree) (led : Walked) (number : ℕ) → IsTree tree → IsLed tree led → node_led led ≡ Ok number → is_in_use tree number ≡ true
led_in_use tree (walked.Node node) number is led same = directory_in_use tree number (subst (λ (n : ℕ). is_directory tree n ≡ true) (same_Ok node number same) led)
led_in_use tree (walked.Named parent name node slash) number is led same = subst (λ (n : ℕ). is_in_use tree n ≡ true) (same_Ok node number same) (found_in_use tree parent name node is led.1)
led_in_use tree (walked.Free parent name slash) number is led same = absurd (err-ok ENOENT number same)
led_in_use tree (walked.Fail errno) number is led same = absurd (err-ok errno number same)

-- the disk goes on standing for a tree
pub tree_after : (before after : List (List ℕ)) (led : Result (ℕ × Tree) Errno) (answer : Result ℕ Errno) → HasTree before → AnswersAs before after led answer → ((number : ℕ) (tree : Tree) → led ≡ Ok (number, tree) → IsTree tree)
    → HasTree after
tree_after before after (Ok (number, tree)) answer was made keeps = (tree, made.1, keeps number tree refl)
tree_after before after (Err errno) answer was made keeps = subst (λ (disk : List (List ℕ)). HasTree disk) (sym made.1) was
