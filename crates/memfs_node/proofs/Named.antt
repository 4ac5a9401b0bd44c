-- A node that is made under a name of a directory, on the disk and in the tree.
use Rattle.std.proofs.Common.{◌≡◌, ◌≢◌, ℕ, Bool, true, false, inl, inr, List, [], ◌∷◌, ◌++◌, length, Option, Some, None, Result, Ok, Err, refl, sym, ap, subst, ◌∙◌, arith}
use Rattle.std.specs.Prelude.{IsOk, IfErr}
use Rattle.std.proofs.lemmas.Bool.{cases_Bool, cond-true, cond-false, false≢true}
use Rattle.kabi_types.specs.declared.errnos.Errno.{Errno}
use Rattle.kabi_types.specs.declared.errnos.Errno.TheVariants.{ENOSPC}
use Rattle.kabi_types.specs.declared.inodes.Inode.{Inode}
use Rattle.posix_defs.specs.DiskFormat.{blocks_of}
use Rattle.posix_defs.specs.SoundDisk.{HasInode, HasNode, IsFreeNode, IsLowestFreeNode}
use Rattle.posix_defs.specs.DiskContents.{entry_for}
use Rattle.posix_defs.specs.DiskTree.{StandsFor, ChangesNode}
use Rattle.posix_defs.specs.Tree.{Content, Tree, with_node, is_directory, is_directory_in, free_node, size_of}
use Rattle.posix_defs.specs.TreeChanges.{make, make_at, with_new, takes_entry}
use Rattle.posix_defs.proofs.TreeNodes.{node_at-with_node_other}
use Rattle.disk_laws.proofs.FormattedDisk.{one_inode}
use Rattle.disk_laws.proofs.DiskNodes.{lowest_in_tree, none_in_tree}
use Rattle.memfs_dir.specs.Listed.{IsFull, IsFullBeside, Relists}
use Rattle.memfs_dir.proofs.Room.{full_beside}
use Rattle.memfs_dir.proofs.InTree.{put_in_tree}
use Rattle.memfs_node.specs.NodeOnDisk.{AnswersAs, KeepsOthers, Makes, new_node}
use Rattle.memfs_node.proofs.OnTree.{made_in_tree}

-- a free node is no node in use
pub apart : (disk : List (List ℕ)) (number other : ℕ) (inode : Inode) → IsFreeNode disk number → HasNode disk other inode → other ≢ number
apart disk number other inode free has same =
    let one : inode ≡ free.0 = one_inode disk other inode free.0 has.0 (subst (λ (n : ℕ). HasInode disk n free.0) (sym same) free.1) in
    has.1 (ap (λ (i : Inode). i.kind) one ∙ free.2)

-- ---- what the tree answers

takes_or_not : (disk : List (List ℕ)) (tree : Tree) (dir beside : ℕ) (inode : Inode) (room : Bool) → StandsFor disk tree → HasNode disk dir inode → (room ≡ true → ¬ (IsFullBeside disk inode beside))
    → (¬ (IsFullBeside disk inode beside) → room ≡ true) → takes_entry tree dir beside ≡ room
takes_or_not disk tree dir beside inode true stands has room none = elim (cases_Bool (takes_entry tree dir beside)) [
  | inl takes ↦ takes
  | inr full ↦ absurd (room refl ((full_beside disk tree dir beside inode stands has).1 full))
]
takes_or_not disk tree dir beside inode false stands has room none = elim (cases_Bool (takes_entry tree dir beside)) [
  | inl takes ↦ absurd (false≢true (none (λ full. false≢true (sym ((full_beside disk tree dir beside inode stands has).0 full) ∙ takes))))
  | inr full ↦ full
]

full_at : (tree : Tree) (dir : ℕ) (name : List ℕ) (content : Content) (free : Option ℕ) → takes_entry tree dir (blocks_of (size_of content)) ≡ false → make_at tree dir name content free ≡ Err ENOSPC
full_at tree dir name content None full = refl
full_at tree dir name content (Some number) full = cond-false (takes_entry tree dir (blocks_of (size_of content))) (Ok (number, with_new tree number dir name content)) (Err ENOSPC) full

made_at : (tree : Tree) (dir : ℕ) (name : List ℕ) (content : Content) (number : ℕ) → takes_entry tree dir (blocks_of (size_of content)) ≡ true
    → make_at tree dir name content (Some number) ≡ Ok (number, with_new tree number dir name content)
made_at tree dir name content number takes = cond-true (takes_entry tree dir (blocks_of (size_of content))) (Ok (number, with_new tree number dir name content)) (Err ENOSPC) takes

-- the room of a directory, as it was asked for
pub record Asked (disk : List (List ℕ)) (dir : ℕ) (inode : Inode) (beside : ℕ) (room : Bool) : Type 0 where
  pub has : HasNode disk dir inode
  pub yes : room ≡ true → ¬ (IsFullBeside disk inode beside)
  pub no : ¬ (IsFullBeside disk inode beside) → room ≡ true

module _ (disk : List (List ℕ)) (dir : ℕ) (inode : Inode) (content : Content) (room : Bool) (a : Asked disk dir inode (blocks_of (size_of content)) room) (tree : Tree) (name : List ℕ) (stands : StandsFor disk tree) where
  takes : takes_entry tree dir (blocks_of (size_of content)) ≡ room
  takes = takes_or_not disk tree dir (blocks_of (size_of content)) inode room stands a.has a.yes a.no

  pub no_room : room ≡ false → AnswersAs disk disk (make tree dir name content) (Err ENOSPC)
  no_room full = subst (λ (r : Result (ℕ × Tree) Errno). AnswersAs disk disk r (Err ENOSPC)) (sym (full_at tree dir name content (free_node tree) (takes ∙ full))) (refl, refl)

  pub no_node : ((number : ℕ) → ¬ (IsFreeNode disk number)) → AnswersAs disk disk (make tree dir name content) (Err ENOSPC)
  no_node none = subst (λ (r : Result (ℕ × Tree) Errno). AnswersAs disk disk r (Err ENOSPC)) (sym (ap (make_at tree dir name content) (none_in_tree disk tree stands none))) (refl, refl)

  pub made : (number : ℕ) (between after : List (List ℕ)) (node new : Inode) → room ≡ true → is_directory tree dir ≡ true → IsLowestFreeNode disk number → Makes number disk content between node
      → HasNode between dir inode → Relists dir between inode (λ entries. entries ++ entry_for number name ∷ []) after new → AnswersAs disk after (make tree dir name content) (Ok number)
  made number between after node new fits is_dir lowest makes has relists =
      let other : dir ≢ number = apart disk number dir inode lowest.free a.has in
      let with_it : Tree = with_node tree number (Some (new_node content)) in
      let stands_between : StandsFor between with_it = made_in_tree disk between tree number content node stands makes in
      let is_dir_then : is_directory with_it dir ≡ true = ap is_directory_in (node_at-with_node_other tree number dir (Some (new_node content)) other) ∙ is_dir in
      let stands_after : StandsFor after (with_new tree number dir name content) = put_in_tree between after with_it dir number inode new name stands_between is_dir_then has relists in
      subst (λ (r : Result (ℕ × Tree) Errno). AnswersAs disk after r (Ok number)) (sym (ap (make_at tree dir name content) (lowest_in_tree disk tree number stands lowest) ∙ made_at tree dir name content number (takes ∙ fits)))
      (refl, stands_after)

-- ---- the entry has its room

-- where there was room beside the node's blocks, there is room when the node has taken them
pub still_room : (disk between : List (List ℕ)) (dir number : ℕ) (inode node : Inode) (content : Content) → ¬ (IsFullBeside disk inode (blocks_of (size_of content))) → Makes number disk content between node → ¬ (IsFull between inode)
still_room disk between dir number inode node content room makes full = room (elim full [ inl most ↦ inl most | inr few ↦ inr (omega (arith, few, makes.free)) ])

pub is_done : (answer : Result (Unit {0}) Errno) → IfErr answer (λ fault. fault ≡ ENOSPC) → (answer ≡ Err ENOSPC → ⊥) → IsOk answer
is_done (Ok done) only none = refl
is_done (Err errno) only none = absurd (none (ap Err only))

-- ---- the other nodes

-- on the same blocks each node has its inode
pub same_others : (number : ℕ) (before after : List (List ℕ)) → after ≡ before → KeepsOthers number before after
same_others number before after same = record {
  blocks = ap (λ (d : List (List ℕ)). length d) same;
  nodes = λ other inode differs has. subst (λ (d : List (List ℕ)). HasNode d other inode) (sym same) has;
}

-- a change of one node leaves the others
pub changed_others : (number : ℕ) (before after : List (List ℕ)) → ChangesNode before after number → KeepsOthers number before after
changed_others number before after changes = record {
  blocks = changes.blocks;
  nodes = λ other inode differs has. (changes.inodes other inode differs has.0, has.1);
}

-- a free node is made, and then another changes
pub made_others : (disk between after : List (List ℕ)) (number parent : ℕ) → IsFreeNode disk number → ChangesNode disk between number → ChangesNode between after parent → KeepsOthers parent disk after
made_others disk between after number parent free first second = record {
  blocks = second.blocks ∙ first.blocks;
  nodes = λ other inode differs has. (second.inodes other inode differs (first.inodes other inode (apart disk number other inode free has) has.0), has.1);
}
