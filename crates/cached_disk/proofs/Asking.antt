-- Nodes and names that are asked for through the caches.
use Rattle.std.proofs.Common.{◌≡◌, ◌≢◌, ◌⊎◌, ℕ, ◌<◌, ◌≤◌, List, length, take, Option, Some, None, IsSome, IfSome, nat_eq, true, refl, sym, ap, ◌∙◌, subst, inl, inr, arith}
use Rattle.std.specs.Cmp.{nat_eq_equiv}
use Rattle.kabi_types.specs.declared.inodes.Inode.{Inode}
use Rattle.kheap_slabs.specs.Purse.{Purse}
use Rattle.kheap_slabs.specs.declared.objects.Name.{Name}
use Rattle.kheap_slabs.specs.declared.objects.Vnode.{Vnode}
use Rattle.kheap_slabs.specs.Heap.{Heap}
use Rattle.kheap_slabs.specs.Paid.{IsPaid}
use Rattle.lru_index.specs.NameKeys.{name_key}
use Rattle.lru_index.specs.Order.{Order, order, touched}
use Rattle.lru_index.specs.declared.keys.NameKey.{NameKey}
use Rattle.lru_index.proofs.Pairs.{touched_absent}
use Rattle.disk_layout.specs.Disk.{Disk}
use Rattle.posix_defs.specs.DiskTree.{StandsFor}
use Rattle.posix_defs.specs.SoundDisk.{HasNode}
use Rattle.posix_defs.specs.DiskContents.{own_name, parent_name}
use Rattle.posix_defs.specs.Tree.{Tree, found, entries_at, is_directory}
use Rattle.posix_defs.specs.TreeChanges.{no_entry, place_of}
use Rattle.posix_defs.specs.IsTree.{IsTree}
use Rattle.posix_defs.proofs.TreeNodes.{found_in_directory}
use Rattle.tree_laws.proofs.EntryLists.{stands_at}
use Rattle.tree_laws.proofs.TreeKeeps.{entries_are}
use Rattle.memfs_node.proofs.Looking.{no_own, no_parent}
use Rattle.name_cache.specs.Names.{same_key, name_slot, cached_node}
use Rattle.name_cache.proofs.KeyLemmas.{same_key_laws, name_read}
use Rattle.name_cache.proofs.TrueLemmas.{found_true}
use Rattle.vnode_cache.specs.Nodes.{Nodes, nodes, node_slot, cached_inode, KeepsNodes}
use Rattle.vnode_cache.specs.Calls.{new_vnode, HasNodeFills, NodeFilled}
use Rattle.cached_disk.specs.Lent.{parts, AreLent, GoesOn}
use Rattle.cached_disk.specs.TreeLent.{TreeParts, tree_parts, NamesLent, NodesLent, AllLent, StandsThrough, HasPins, TreeGoesOn, AreReordered, NodeAsked, NameAsked}
use Rattle.cached_disk.specs.TreeGoing.{TreeGoesOn-trans}
use Rattle.cached_disk.proofs.BlocksStep.{blocks_go_on, blocks_all_lent, blocks_stand}
use Rattle.cached_disk.proofs.NodesStep.{node_goes_on, node_all_lent, node_stands, node_absent}
use Rattle.cached_disk.proofs.Absent.{some_slot_of}

-- to look for an inode, or a name, that isn't cached changes nothing
pub same_nodes : (heap : Heap) (purse : Purse) (old new : Nodes) (disk : Disk) (number : ℕ) → NodesLent heap purse old disk → cached_inode heap.vnodes old number ≡ None → new ≡ nodes (touched (nat_eq number) old.order.pairs) old.order.capacity old.loose → new ≡ old
same_nodes heap purse old new disk number lent none is =
    is ∙ ap (λ (ps : List (ℕ × ℕ)). nodes ps old.order.capacity old.loose) (touched_absent nat_eq_equiv old.order.pairs number (node_absent heap purse old disk number lent none))

pub same_names : (old new : Order NameKey) (key : NameKey) → name_slot old key ≡ None → new ≡ order (touched (same_key key) old.pairs) old.capacity → new ≡ old
same_names old new key none is = is ∙ ap (λ (ps : List (NameKey × ℕ)). order ps old.capacity) (touched_absent same_key_laws old.pairs key none)

-- ---- an inode that isn't cached is read from the table and filled

module _ (number : ℕ) (inode : Inode) (first second third : Heap) (one two three : Purse) (names : Order NameKey) (had has : Nodes) (was is : Order ℕ) (old new : Disk)
    (on : GoesOn (parts first one was old) (parts second two is new)) (bytes : new.blocks ≡ old.blocks) (lent : AreLent second two is new)
    (filled : NodeFilled (new_vnode number inode) second third two three had has) (paid : IsPaid second two third three)
    (absent : node_slot had number ≡ None) (keeps : KeepsNodes first.vnodes had) where
  still_keeps : KeepsNodes second.vnodes had
  still_keeps = subst (λ (o : List (Option Vnode)). KeepsNodes o had) (sym (ap (λ (h : Heap). h.vnodes) on.heap)) keeps

  pub missed_goes_on : TreeGoesOn (tree_parts first one names had was old) (tree_parts third three names has is new)
  missed_goes_on = TreeGoesOn-trans (tree_parts first one names had was old) (tree_parts second two names had is new) (tree_parts third three names has is new)
      (blocks_go_on first second one two names had was is old new on bytes)
      (node_goes_on number inode second third two three had has names is new filled paid still_keeps absent)

  pub missed_lent : KeepsNodes third.vnodes has → HasNodeFills third three → AllLent first one names had was old → AllLent third three names has is new
  missed_lent now fills all = node_all_lent number inode second third two three had has names is new filled paid now fills (blocks_all_lent first second one two names had was is old new on bytes lent all)

  pub missed_stands : (tree : Tree) → HasNode old.blocks number inode → StandsThrough (tree_parts first one names had was old) tree → StandsThrough (tree_parts third three names has is new) tree
  missed_stands tree node stands =
      node_stands number inode second third two three had has names is new filled paid tree (subst (λ (d : List (List ℕ)). HasNode d number inode) (sym bytes) node)
      (blocks_stand first second one two names had was is old new on bytes tree stands)

pub missed_asked : (number : ℕ) (inode : Inode) (before after : TreeParts) → node_slot before.vnodes number ≡ None → cached_inode after.heap.vnodes after.vnodes number ≡ Some inode → after.names ≡ before.names → NodeAsked number before after
missed_asked number inode before after absent cached same = record {
  saved = λ some. let none : IsSome {T = ℕ} None = subst (λ (o : Option ℕ). IsSome o) absent some in absurd (cc);
  kept = some_slot_of nat_eq (λ (v : Vnode). v.inode) after.heap.vnodes after.vnodes.order number inode cached;
  names = λ key. ap (λ o. name_slot o key) same;
}

-- what stands doesn't depend on orders of use
pub stands_same : (heap : Heap) (one other : Purse) (names order : Order NameKey) (vnodes nodes : Nodes) (blocks cache : Order ℕ) (disk : Disk) (tree : Tree) → StandsThrough (tree_parts heap one names vnodes blocks disk) tree → StandsThrough (tree_parts heap other order nodes cache disk) tree
stands_same heap one other names order vnodes nodes blocks cache disk tree stands = record { behind = stands.behind; is_tree = stands.is_tree; names = stands.names; nodes = stands.nodes }

-- what follows where something was found
pub if_some : (P : Type 0) (o : Option ℕ) (n : ℕ) → o ≡ Some n → IfSome o (λ _. P) → P
if_some P None n is p = cc
if_some P (Some x) n is p = p

-- ---- names that no entry has

too_long : (tree : Tree) (dir : ℕ) (name : List ℕ) (there : Option ℕ) → IsTree tree → 27 < length name → found tree dir name ≡ there → there ≡ None
too_long tree dir name None is long at = refl
too_long tree dir name (Some node) is long at =
    let stands = stands_at (entries_at tree dir) name node at in
    let are = entries_are tree dir is (found_in_directory tree dir name node at) in
    let len = (are.names (place_of name (entries_at tree dir)) no_entry stands.within).valid.len.1 in
    let same = ap length stands.called in
    absurd (omega arith)

pub no_entry_name : (tree : Tree) (dir : ℕ) (name : List ℕ) → IsTree tree → (name ≡ own_name) ⊎ ((name ≡ parent_name) ⊎ (27 < length name)) → None ≡ found tree dir name
no_entry_name tree dir name is (inl own) = sym (no_own tree dir name is own)
no_entry_name tree dir name is (inr (inl up)) = sym (no_parent tree dir name is up)
no_entry_name tree dir name is (inr (inr long)) = sym (too_long tree dir name (found tree dir name) is long refl)

-- a cached name is found in its directory
pub cached_is_found : (tree : Tree) (parts : TreeParts) (dir : ℕ) (name : List ℕ) (node : ℕ) → StandsThrough parts tree → NamesLent parts.heap parts.purse parts.names → cached_node parts.heap.names parts.names (name_key dir name) ≡ Some node → Some node ≡ found tree dir name
cached_is_found tree parts dir name node stands lent is =
    sym (ap (found tree dir) (sym (name_read name)) ∙ found_true (found tree) parts.heap.names parts.names (name_key dir name) node stands.names lent.keeps is)
