-- A call that asks for blocks, from what a tree of files stands for to what its blocks are lent for, and back.
use Rattle.std.proofs.Common.{◌≡◌, ℕ, ◌+◌, ◌-◌, ◌*◌, ◌/◌, ◌<◌, ◌≤◌, ◌++◌, true, append_assoc, zero, suc, List, Option, length, min, take, drop, refl, sym, ap, ◌∙◌, subst, arith}
use Rattle.std.proofs.lemmas.List.{take_min, drop_min, take-append-drop, drop-append-le, length-drop, length-take}
use Rattle.kabi_types.specs.declared.inodes.Inode.{Inode}
use Rattle.kheap_slabs.specs.Purse.{Purse}
use Rattle.kheap_slabs.specs.declared.objects.Name.{Name}
use Rattle.kheap_slabs.specs.declared.objects.Vnode.{Vnode}
use Rattle.kheap_slabs.specs.Heap.{Heap}
use Rattle.kheap_slabs.specs.Paid.{AreFills, HasFills}
use Rattle.lru_index.specs.Order.{Order}
use Rattle.disk_layout.specs.Disk.{Disk}
use Rattle.posix_defs.specs.DiskFormat.{block_size, greatest_size}
use Rattle.posix_defs.specs.DiskContents.{data_block, node_bytes}
use Rattle.posix_defs.specs.DiskTree.{StandsFor}
use Rattle.posix_defs.specs.SoundDisk.{HasNode}
use Rattle.posix_defs.specs.PathCalls.{bytes_in, list_node}
use Rattle.posix_defs.specs.Tree.{Tree, node_at, found, is_directory}
use Rattle.disk_laws.proofs.DiskNodes.{one_tree}
use Rattle.disk_laws.proofs.FormattedDisk.{one_inode}
use Rattle.memfs_file.specs.Ranges.{asked_to_read}
use Rattle.memfs_file.proofs.Bytes.{bytes_len}
use Rattle.memfs_file.proofs.OnTree.{its_bytes}
use Rattle.memfs_dir.proofs.InTree.{told_by_bytes}
use Rattle.name_cache.specs.Names.{KeepsNames, TrueNames}
use Rattle.vnode_cache.specs.Nodes.{KeepsNodes, TrueNodes}
use Rattle.cached_disk.specs.Lent.{parts, AreLent, GoesOn}
use Rattle.cached_disk.specs.TreeLent.{HasPins}
use Rattle.memfs_ops.specs.FileTree.{TreeView, Stands, IsUsed}
use Rattle.memfs_ops.specs.Fetching.{MayFetch, Fetches, IsFile}

pub block_lent : (heap : Heap) (purse : Purse) (fs : TreeView) (tree : Tree) (pins : ℕ → ℕ) → Stands heap fs tree pins → MayFetch heap purse → AreLent heap purse fs.blocks fs.disk
block_lent heap purse fs tree pins stands may = record {
  keeps = stands.blocks;
  true_blocks = stands.true_blocks;
  pays = may.pays;
  fills = may.fills.blocks;
  few = may.few;
  some = may.some;
  room = stands.room.blocks;
}

module _ (old new : Heap) (before after : Purse) (was : TreeView) (blocks : Order ℕ) (disk : Disk) (on : GoesOn (parts old before was.blocks was.disk) (parts new after blocks disk)) (lent : AreLent new after blocks disk) where
  pub names_stay : new.names ≡ old.names
  names_stay = ap (λ (h : Heap). h.names) on.heap

  pub vnodes_stay : new.vnodes ≡ old.vnodes
  vnodes_stay = ap (λ (h : Heap). h.vnodes) on.heap

  -- what was filled is there still
  pub fills_stay : HasFills old before → HasFills new after
  fills_stay fills = record {
    vnodes = subst (λ (p : Purse). AreFills new.vnodes p.vnodes p.left.vnode p.need.vnode) (sym on.purse) (subst (λ (o : List (Option Vnode)). AreFills o before.vnodes before.left.vnode before.need.vnode) (sym vnodes_stay) fills.vnodes);
    names = subst (λ (p : Purse). AreFills new.names p.names p.left.name p.need.name) (sym on.purse) (subst (λ (o : List (Option Name)). AreFills o before.names before.left.name before.need.name) (sym names_stay) fills.names);
    blocks = lent.fills;
  }

  pub still_may_fetch : MayFetch old before → MayFetch new after
  still_may_fetch may = record { pays = lent.pays; fills = fills_stay may.fills; few = lent.few; some = lent.some }

  -- the blocks of the disk are what they were, and so is the tree
  pub fetched_stands : disk.blocks ≡ was.disk.blocks → (tree : Tree) (pins : ℕ → ℕ) → Stands old was tree pins → Stands new (record was { blocks = blocks; disk = disk }) tree pins
  fetched_stands bytes tree pins s = record {
    behind = subst (λ (d : List (List ℕ)). StandsFor d tree) (sym bytes) s.behind;
    is_tree = s.is_tree;
    names = subst (λ (o : List (Option Name)). KeepsNames o was.names) (sym names_stay) s.names;
    nodes = subst (λ (o : List (Option Vnode)). KeepsNodes o was.vnodes) (sym vnodes_stay) s.nodes;
    blocks = lent.keeps;
    true_names = subst (λ (o : List (Option Name)). TrueNames (found tree) o) (sym names_stay) s.true_names;
    true_nodes = subst (λ (d : List (List ℕ)). TrueNodes (HasNode d) new.vnodes) (sym bytes) (subst (λ (o : List (Option Vnode)). TrueNodes (HasNode was.disk.blocks) o) (sym vnodes_stay) s.true_nodes);
    true_blocks = lent.true_blocks;
    held = subst (λ (o : List (Option Vnode)). HasPins pins o) (sym vnodes_stay) s.held;
    root = s.root;
    room = record { names = rw on.paid.heap s.room.names; nodes = rw (on.paid.heap, bytes) s.room.nodes; blocks = lent.room };
  }

  pub fetches_of : disk.blocks ≡ was.disk.blocks → MayFetch old before → Fetches old new before after was (record was { blocks = blocks; disk = disk })
  fetches_of bytes may = record { on = on; bytes = bytes; names = refl; stands = fetched_stands bytes; may = still_may_fetch may }

-- an inode was used, and then blocks were fetched
pub used_fetches : (old new : Heap) (before after : Purse) (was mid is : TreeView) → IsUsed was mid → ((tree : Tree) (pins : ℕ → ℕ) → Stands old was tree pins → Stands old mid tree pins) → Fetches old new before after mid is → Fetches old new before after was is
used_fetches old new before after was mid is used stands fetches =
    let blocks : mid.blocks ≡ was.blocks = ap (λ (v : TreeView). v.blocks) used.same in
    let disk : mid.disk ≡ was.disk = ap (λ (v : TreeView). v.disk) used.same in
    record {
      on = subst (λ (d : Disk). GoesOn (parts old before was.blocks d) (parts new after is.blocks is.disk)) disk (subst (λ (b : Order ℕ). GoesOn (parts old before b mid.disk) (parts new after is.blocks is.disk)) blocks fetches.on);
      bytes = fetches.bytes ∙ ap (λ (d : Disk). d.blocks) disk;
      names = fetches.names ∙ ap (λ (v : TreeView). v.names) used.same;
      stands = λ tree pins s. fetches.stands tree pins (stands tree pins s);
      may = fetches.may;
    }

-- ---- places behind the last byte

same_min : (at long : ℕ) → long ≤ 4294967295 → min (min at 4294967295) long ≡ min at long
same_min at long few = omega arith

pub drop_place : (at : ℕ) (bytes : List ℕ) → length bytes ≤ 4294967295 → drop (min at 4294967295) bytes ≡ drop at bytes
drop_place at bytes few = sym (drop_min (min at 4294967295) bytes) ∙ ap (λ n. drop n bytes) (same_min at (length bytes) few) ∙ drop_min at bytes

-- as many bytes as are there and have room are those that are there, as far as there is room
pub take_count : (at count size result : ℕ) (bytes : List ℕ) → length bytes ≡ size → size ≤ greatest_size → result ≡ min count (size - min at 4294967295) → take result (drop (min at 4294967295) bytes) ≡ take count (drop at bytes)
take_count at count size result bytes long few is =
    let left : length (drop (min at 4294967295) bytes) ≡ length bytes - min at 4294967295 = length-drop (min at 4294967295) bytes in
    let n : result ≡ min count (length (drop (min at 4294967295) bytes)) = omega (arith, is, left, long) in
    ap (λ k. take k (drop (min at 4294967295) bytes)) n ∙ take_min count (drop (min at 4294967295) bytes) ∙ ap (take count) (drop_place at bytes (omega arith))

pub count_is : (at count size result : ℕ) (bytes : List ℕ) → length bytes ≡ size → size ≤ greatest_size → result ≡ min count (size - min at 4294967295) → result ≡ length (take count (drop at bytes))
count_is at count size result bytes long few is = let t = length-take count (drop at bytes) in let d = length-drop at bytes in omega (arith, is, t, d, long)

pub same_asked : (disk : List (List ℕ)) (inode : Inode) (at count room : ℕ) → inode.size ≤ greatest_size → count ≡ min room (inode.size - min at 4294967295) → asked_to_read disk inode (min at 4294967295) count ≡ asked_to_read disk inode at count
same_asked disk inode at zero room few is = refl
same_asked disk inode at (suc more) room few is = let same : min at 4294967295 ≡ at = omega arith in ap (λ n. asked_to_read disk inode n (suc more)) same

-- what a file of the tree has are the bytes of its node
pub file_bytes : (disk : List (List ℕ)) (tree : Tree) (number : ℕ) (inode : Inode) → StandsFor disk tree → IsFile tree number → HasNode disk number inode → node_bytes disk inode ≡ bytes_in (node_at tree number)
file_bytes disk tree number inode stands file has =
    its_bytes disk tree number file.links file.bytes inode (record { stands = stands; there = file.there; has = has.0 }) ∙ sym (ap bytes_in file.there)

-- what a disk's tree has as a file, each tree of it has
pub same_file : (disk : List (List ℕ)) (one other : Tree) (number : ℕ) → StandsFor disk one → StandsFor disk other → IsFile one number → IsFile other number
same_file disk one other number stands also file = subst (λ (t : Tree). IsFile t number) (one_tree disk one other stands also) file

pub few_bytes : (disk : List (List ℕ)) (number : ℕ) (inode : Inode) → HasNode disk number inode → inode.size ≤ greatest_size
few_bytes disk number inode has = has.0.valid.kind.size

-- the bytes that were read, by the tree
pub told_bytes : (disk : List (List ℕ)) (tree : Tree) (number at place count result : ℕ) (inode : Inode) → StandsFor disk tree → IsFile tree number → HasNode disk number inode → place ≡ min at 4294967295 → result ≡ min count (inode.size - place)
    → take result (drop place (node_bytes disk inode)) ≡ take count (drop at (bytes_in (node_at tree number)))
told_bytes disk tree number at place count result inode stands file has at_place is =
    ap (λ p. take result (drop p (node_bytes disk inode))) at_place
    ∙ take_count at count inode.size result (node_bytes disk inode) (bytes_len disk inode) (few_bytes disk number inode has) (is ∙ ap (λ p. min count (inode.size - p)) at_place)
    ∙ ap (λ (bs : List ℕ). take count (drop at bs)) (file_bytes disk tree number inode stands file has)

pub told_count : (disk : List (List ℕ)) (tree : Tree) (number at place count result : ℕ) (inode : Inode) → StandsFor disk tree → IsFile tree number → HasNode disk number inode → place ≡ min at 4294967295 → result ≡ min count (inode.size - place)
    → result ≡ length (take count (drop at (bytes_in (node_at tree number))))
told_count disk tree number at place count result inode stands file has at_place is =
    count_is at count inode.size result (node_bytes disk inode) (bytes_len disk inode) (few_bytes disk number inode has) (is ∙ ap (λ p. min count (inode.size - p)) at_place)
    ∙ ap (λ (bs : List ℕ). length (take count (drop at bs))) (file_bytes disk tree number inode stands file has)

-- what is asked for, whichever inode of the node is named
pub asked_alike : (disk : List (List ℕ)) (number at place room result : ℕ) (inode held : Inode) → HasNode disk number inode → HasNode disk number held → place ≡ min at 4294967295 → result ≡ min room (held.size - place)
    → asked_to_read disk inode at result ≡ asked_to_read disk held place result
asked_alike disk number at place room result inode held has other at_place is =
    ap (λ (i : Inode). asked_to_read disk i at result) (one_inode disk number inode held has.0 other.0)
    ∙ sym (same_asked disk held at result room (few_bytes disk number held other) (is ∙ ap (λ p. min room (held.size - p)) at_place))
    ∙ ap (λ p. asked_to_read disk held p result) (sym at_place)

-- the block of the last byte, whichever inode of the node is named
pub last_alike : (disk : List (List ℕ)) (number at place room result : ℕ) (inode held : Inode) → HasNode disk number inode → HasNode disk number held → place ≡ min at 4294967295 → result ≡ min room (held.size - place) → 0 < result
    → data_block disk held ((place + result - 1) / block_size) ≡ data_block disk inode ((at + result - 1) / block_size)
last_alike disk number at place room result inode held has other at_place is some =
    let few = few_bytes disk number held other in
    let same : place ≡ at = omega arith in
    ap (λ p. data_block disk held ((p + result - 1) / block_size)) same ∙ ap (λ (i : Inode). data_block disk i ((at + result - 1) / block_size)) (one_inode disk number held inode other.0 has.0)

-- ---- a directory's entries

-- what was read of a part of the room, and the rest of it
pub whole_rest : (bytes out : List ℕ) (count whole : ℕ) → count ≤ whole → whole ≤ length out → (bytes ++ drop count (take whole out)) ++ drop whole out ≡ bytes ++ drop count out
whole_rest bytes out count whole less within =
    let room : count ≤ length (take whole out) = omega (arith, length-take whole out) in
    append_assoc bytes (drop count (take whole out)) (drop whole out)
    ∙ ap (λ (l : List ℕ). bytes ++ l) (sym (drop-append-le count (take whole out) (drop whole out) room) ∙ ap (drop count) (take-append-drop whole out))

pub listed_bytes : (disk : List (List ℕ)) (tree : Tree) (number at place count whole result : ℕ) (inode : Inode) → StandsFor disk tree → is_directory tree number ≡ true → HasNode disk number inode → place ≡ min at 4294967295 → whole ≡ 32 * (count / 32) → result ≡ min whole (inode.size - place)
    → take result (drop place (node_bytes disk inode)) ≡ list_node tree number at count
listed_bytes disk tree number at place count whole result inode stands is_dir has at_place wide is =
    ap (λ p. take result (drop p (node_bytes disk inode))) at_place
    ∙ take_count at whole inode.size result (node_bytes disk inode) (bytes_len disk inode) (few_bytes disk number inode has) (is ∙ ap (λ p. min whole (inode.size - p)) at_place)
    ∙ ap (λ w. take w (drop at (node_bytes disk inode))) wide ∙ sym (told_by_bytes disk tree number at count inode stands is_dir has)

pub listed_count : (disk : List (List ℕ)) (tree : Tree) (number at place count whole result : ℕ) (inode : Inode) → StandsFor disk tree → is_directory tree number ≡ true → HasNode disk number inode → place ≡ min at 4294967295 → whole ≡ 32 * (count / 32) → result ≡ min whole (inode.size - place)
    → result ≡ length (list_node tree number at count)
listed_count disk tree number at place count whole result inode stands is_dir has at_place wide is =
    count_is at whole inode.size result (node_bytes disk inode) (bytes_len disk inode) (few_bytes disk number inode has) (is ∙ ap (λ p. min whole (inode.size - p)) at_place)
    ∙ ap (λ w. length (take w (drop at (node_bytes disk inode)))) wide ∙ ap (λ (l : List ℕ). length l) (sym (told_by_bytes disk tree number at count inode stands is_dir has))
