-- A step from one tree to the next, in the midst of a change, and the tree at its end.
use Rattle.std.proofs.Common.{◌≡◌, ◌≢◌, ℕ, ◌+◌, Bool, true, false, not, ◌&&◌, eqb, List, Option, Some, refl, sym, ap, ◌∙◌, subst, inl, inr, arith}
use Rattle.kabi_types.specs.declared.inodes.Inode.{Inode}
use Rattle.kheap_slabs.specs.Objects.{object}
use Rattle.kheap_slabs.specs.Purse.{Purse}
use Rattle.kheap_slabs.specs.declared.objects.Name.{Name}
use Rattle.kheap_slabs.specs.declared.objects.Vnode.{Vnode}
use Rattle.kheap_slabs.specs.Heap.{Heap}
use Rattle.kheap_slabs.specs.Paid.{HasFills, IsPaid}
use Rattle.kheap_laws.proofs.PaidLemmas.{CanPay-kept}
use Rattle.lru_index.specs.Order.{Order}
use Rattle.disk_layout.specs.Disk.{Disk}
use Rattle.posix_defs.specs.DiskTree.{StandsFor}
use Rattle.posix_defs.specs.SoundDisk.{HasNode}
use Rattle.posix_defs.specs.IsTree.{IsTree}
use Rattle.posix_defs.specs.Tree.{Tree, found, is_directory, entries_at}
use Rattle.posix_defs.specs.TreeChanges.{place_of}
use Rattle.memfs_dir.specs.Listed.{IsFull, IsFullBeside, place_called}
use Rattle.memfs_dir.proofs.InTree.{found_on_disk, listed}
use Rattle.memfs_node.specs.NodeOnDisk.{DropsLink, Retags, KeepsOthers}
use Rattle.memfs_node.proofs.Looking.{known_of}
use Rattle.memfs_node.proofs.Named.{changed_others}
use Rattle.name_cache.specs.Names.{KeepsNames, TrueNames}
use Rattle.vnode_cache.specs.Nodes.{KeepsNodes, TrueNodes}
use Rattle.cached_disk.specs.Lent.{parts, AreLent, GoesOn}
use Rattle.cached_disk.specs.TreeLent.{HasPins}
use Rattle.memfs_ops.specs.FileTree.{TreeView, Stands}
use Rattle.memfs_ops.specs.Fetching.{MayFetch}
use Rattle.memfs_ops.specs.Changing.{Between, MidWay}
use Rattle.memfs_ops.specs.Closing.{MayFree}
use Rattle.memfs_ops.specs.Entries.{HasEntry}
use Rattle.memfs_ops.proofs.FetchLemmas.{names_stay, vnodes_stay}

-- where it stands for a tree it does in the midst of a change, before the first step
pub mid_of : (heap : Heap) (fs : TreeView) (tree : Tree) (pins : ℕ → ℕ) → Stands heap fs tree pins → MidWay heap fs tree tree pins
mid_of heap fs tree pins s number = record {
  behind = s.behind;
  names = s.names;
  nodes = s.nodes;
  blocks = s.blocks;
  true_names = s.true_names;
  true_others = λ slot v there differs. s.true_nodes slot v there;
  true_blocks = s.true_blocks;
  held = s.held;
  root = s.root;
  room = s.room;
}

-- and after the last step, where the names lead where they lead in the tree then
pub mid_stands : (heap : Heap) (fs : TreeView) (told tree : Tree) (pins : ℕ → ℕ) → MidWay heap fs told tree pins → IsTree tree
    → ((slot : ℕ) (n : Name) → object heap.names slot ≡ Some n → found told n.dir n.name ≡ Some n.node → found tree n.dir n.name ≡ Some n.node) → Stands heap fs tree pins
mid_stands heap fs told tree pins mid is leads = record {
  behind = (mid 0).behind;
  is_tree = is;
  names = (mid 0).names;
  nodes = (mid 0).nodes;
  blocks = (mid 0).blocks;
  true_names = λ slot n there. leads slot n there ((mid 0).true_names slot n there);
  true_nodes = λ slot v there. (mid (v.number + 1)).true_others slot v there (λ same. omega (arith, same));
  true_blocks = (mid 0).true_blocks;
  held = (mid 0).held;
  root = (mid 0).root;
  room = (mid 0).room;
}

pub lent_between : (number : ℕ) (heap : Heap) (purse : Purse) (fs : TreeView) (told tree : Tree) (pins : ℕ → ℕ) → Between number heap fs told tree pins → MayFetch heap purse → AreLent heap purse fs.blocks fs.disk
lent_between number heap purse fs told tree pins between may = record {
  keeps = between.blocks;
  true_blocks = between.true_blocks;
  pays = may.pays;
  fills = may.fills.blocks;
  few = may.few;
  some = may.some;
  room = between.room.blocks;
}

module _ (old new : Heap) (before after : Purse) (was : TreeView) (blocks : Order ℕ) (disk : Disk) (on : GoesOn (parts old before was.blocks was.disk) (parts new after blocks disk)) (lent : AreLent new after blocks disk) where
  -- a node of the disk changes, and the other nodes have their inodes
  pub moved_between : (number : ℕ) (told tree next : Tree) (pins : ℕ → ℕ) → MidWay old was told tree pins → KeepsOthers number was.disk.blocks disk.blocks → StandsFor disk.blocks next → Between number new (record was { blocks = blocks; disk = disk }) told next pins
  moved_between number told tree next pins mid others behind =
      let s = mid number in
      record {
        behind = behind;
        names = subst (λ (o : List (Option Name)). KeepsNames o was.names) (sym (names_stay old new before after was blocks disk on lent)) s.names;
        nodes = subst (λ (o : List (Option Vnode)). KeepsNodes o was.vnodes) (sym (vnodes_stay old new before after was blocks disk on lent)) s.nodes;
        blocks = lent.keeps;
        true_names = subst (λ (o : List (Option Name)). TrueNames (found told) o) (sym (names_stay old new before after was blocks disk on lent)) s.true_names;
        true_others = subst (λ (o : List (Option Vnode)). TrueNodes (λ other inode. other ≢ number → HasNode disk.blocks other inode) o) (sym (vnodes_stay old new before after was blocks disk on lent)) (λ slot v there differs. others.nodes v.number v.inode differs (s.true_others slot v there differs));
        true_blocks = lent.true_blocks;
        held = subst (λ (o : List (Option Vnode)). HasPins pins o) (sym (vnodes_stay old new before after was blocks disk on lent)) s.held;
        root = s.root;
        room = record { names = rw on.paid.heap s.room.names; nodes = rw (on.paid.heap, others.blocks) s.room.nodes; blocks = lent.room };
      }

-- ---- what a further step may use

pub free_kept : (old new : Heap) (before after : Purse) → MayFree old before → IsPaid old before new after → HasFills new after → after.left.block ≡ before.left.block → after.blocks ≡ before.blocks → MayFree new after
free_kept old new before after may paid fills left same = record {
  fetch = record {
    pays = CanPay-kept old new before after paid may.fetch.pays;
    fills = fills;
    few = rw (ap (λ n. n.block) paid.need) may.fetch.few;
    some = rw (left, same) may.fetch.some;
  };
  few = rw (ap (λ n. n.vnode) paid.need) may.few;
}

pub free_on : (old new : Heap) (before after : Purse) (was is : TreeView) → MayFree old before → GoesOn (parts old before was.blocks was.disk) (parts new after is.blocks is.disk) → MayFetch new after → MayFree new after
free_on old new before after was is may on fetch = record { fetch = fetch; few = rw (ap (λ n. n.vnode) on.paid.need) may.few }

-- ---- links

-- the node of which a link was dropped is all that changed
pub dropped_others : (freed : Bool) (number : ℕ) (before after : List (List ℕ)) (old new : Inode) → DropsLink freed number before old after new → KeepsOthers number before after
dropped_others true number before after old new d = changed_others number before after d.changes
dropped_others false number before after old new d = changed_others number before after d.changes

-- where it isn't gone it has its new inode
pub dropped_node : (freed : Bool) (number : ℕ) (before after : List (List ℕ)) (old new : Inode) → HasNode before number old → DropsLink freed number before old after new → freed ≡ false → HasNode after number new
dropped_node true number before after old new has d is = absurd (cc)
dropped_node false number before after old new has d is = (d.has, λ none. has.1 (sym (ap (λ (i : Inode). i.kind) d.fields) ∙ none))

pub retagged_node : (number links : ℕ) (before after : List (List ℕ)) (old new : Inode) → HasNode before number old → Retags number before old old.kind links after new → HasNode after number new
retagged_node number links before after old new has r = (r.has, λ none. has.1 (sym (ap (λ (i : Inode). i.kind) r.fields) ∙ none))

no_and : (b : Bool) → (b && not true) ≡ true → ⊥
no_and true is = cc
no_and false is = cc

pub freed_unopened : (freed opened : Bool) (links : ℕ) → freed ≡ (eqb links 1 && not opened) → freed ≡ true → opened ≡ false
freed_unopened freed true links is gone = absurd (no_and (eqb links 1) (sym is ∙ gone))
freed_unopened freed false links is gone = refl

-- ---- entries

pub entry_place : (disk : List (List ℕ)) (tree : Tree) (dir : ℕ) (inode : Inode) (name : List ℕ) → StandsFor disk tree → is_directory tree dir ≡ true → HasNode disk dir inode → HasEntry tree dir name
    → place_called name (listed tree dir) ≡ Some (place_of name (entries_at tree dir) + 2)
entry_place disk tree dir inode name stands is has there =
    found_on_disk disk tree dir there.node inode (listed tree dir) name stands is has (known_of disk tree dir inode stands is has).list there.own there.parent there.there

pub full_alone : (disk : List (List ℕ)) (inode : Inode) → IsFull disk inode → IsFullBeside disk inode 0
full_alone disk inode (inl most) = inl most
full_alone disk inode (inr few) = inr (omega (arith, few))

pub full_beside_none : (disk : List (List ℕ)) (inode : Inode) → IsFullBeside disk inode 0 → IsFull disk inode
full_beside_none disk inode (inl most) = inl most
full_beside_none disk inode (inr few) = inr (omega (arith, few))
