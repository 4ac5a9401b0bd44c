-- The new tree stands over a heap that has the root's Vnode alone.
use Rattle.std.proofs.Common.{◌≡◌, ℕ, ◌+◌, ◌/◌, ◌<◌, ◌≤◌, cond, List, [], ◌∷◌, ◌++◌, length, replicate, Option, Some, None, nat_eq, refl, sym, ap, ◌∙◌, subst, inl, inr, arith}
use Rattle.std.specs.Prelude.{slice_get}
use Rattle.std.specs.Option.{option_map}
use Rattle.std.specs.List.{Contains}
use Rattle.std.proofs.lemmas.List.{set-set}
use Rattle.std.proofs.lemmas.List.Elements.{Contains-append_right}
use Rattle.std.proofs.lemmas.Bool.{cases_eq, ne_eqb, eq-eqb}
use Rattle.kabi_types.specs.Class.{size}
use Rattle.kabi_types.specs.declared.classes.Class.TheVariants as class
use Rattle.kabi_types.specs.declared.inodes.Inode.{Inode}
use Rattle.kheap_slabs.specs.Objects.{object, InUse, put}
use Rattle.kheap_slabs.specs.declared.objects.Block.{Block}
use Rattle.kheap_slabs.specs.declared.objects.Name.{Name}
use Rattle.kheap_slabs.specs.declared.objects.Vnode.{Vnode}
use Rattle.kheap_slabs.proofs.ObjectLemmas.{object-none, object-put, InUse-within, length-put}
use Rattle.kheap_slabs.specs.Purse.{Purse}
use Rattle.kheap_slabs.specs.Heap.{Heap}
use Rattle.lru_index.specs.Order.{Order, order}
use Rattle.lru_index.specs.declared.keys.NameKey.{NameKey}
use Rattle.cache_laws.proofs.KeepsLemmas.{keeps_none, true_put}
use Rattle.posix_defs.specs.DiskContents.{IsFormatted, IsDirectoryOf, new_root}
use Rattle.posix_defs.specs.DiskTree.{StandsFor}
use Rattle.posix_defs.specs.SoundDisk.{HasInode, HasNode}
use Rattle.posix_defs.specs.Tree.{root, new_tree, found}
use Rattle.disk_laws.proofs.FormattedDisk.{new_node, one_inode, no_inode, no_kind}
use Rattle.tree_laws.proofs.NewTree.{new_is_tree}
use Rattle.name_cache.specs.Names.{KeepsNames, same_key, key_of}
use Rattle.block_cache.specs.Blocks.{KeepsBlocks}
use Rattle.vnode_cache.specs.Nodes.{Nodes, KeepsNodes, TrueNodes}
use Rattle.vnode_cache.specs.Calls.{new_vnode, HasNodeFills, NodeFilled, NodeSet}
use Rattle.cached_disk.specs.TreeLent.{HasPins}
use Rattle.memfs_ops.specs.FileTree.{TreeView, Stands, HasRoom, HasNoFiles, KeepsRoot, root_alone}

module _ {X : Type 0} (IsTrueOf : X → Type 0) where
  -- there is nothing that could be untrue
  none_true : (limit : ℕ) (objects : List (Option X)) → objects ≡ replicate limit None → (slot : ℕ) (x : X) → object objects slot ≡ Some x → IsTrueOf x
  none_true limit objects empty slot x there = absurd (object-none limit slot x (ap (λ (l : List (Option X)). object l slot) (sym empty) ∙ there))

-- the root of a new disk has its inode
pub root_there : (blocks : ℕ) (disk : List (List ℕ)) → 16 ≤ blocks → blocks ≤ 4096 → IsFormatted blocks disk → IsDirectoryOf disk 1 1 [] → HasNode disk 1 (new_root blocks)
root_there blocks disk enough most formatted is =
    let same : length disk ≡ blocks = formatted.count in
    let again : IsFormatted (length disk) disk = subst (λ (n : ℕ). IsFormatted n disk) (sym same) formatted in
    let has : HasInode disk 1 (new_root (length disk)) = (elim (new_node disk again (omega arith) (omega arith) 1 (omega arith) (omega arith)) [
      | inl r ↦ r.1
      | inr free ↦
          let one : is.inode ≡ no_inode = one_inode disk 1 is.inode no_inode is.has free in
          let kind : is.inode.kind ≡ 0 = ap (λ (i : Inode). i.kind) one ∙ no_kind in
          absurd (omega (arith, kind, is.list.kind))
    ]) in
    (subst (λ (n : ℕ). HasInode disk 1 (new_root n)) same has, λ none. omega (arith, none))

module _ (inode : Inode) (old new : Heap) (none : HasNoFiles old) (keeps : KeepsRoot inode old new) where
  root_held : (number : ℕ) → 0 < root_alone number → root ≡ number
  root_held number some = elim (cases_eq root number) [
    | inl e ↦ e
    | inr n ↦ let zero_pins : root_alone number ≡ 0 = ap (λ b. cond b 1 0) (ne_eqb root number n) in absurd (omega (arith, some, zero_pins))
  ]

  pub root_pins : HasPins root_alone (put old.vnodes keeps.slot (record { number = root; inode = inode; pins = 1 }))
  root_pins = record {
    each = true_put (λ (v : Vnode). v.pins ≡ root_alone v.number) old.vnodes keeps.slot (record { number = root; inode = inode; pins = 1 }) refl (none_true (λ (v : Vnode). v.pins ≡ root_alone v.number) (old.heap / size class.Vnode) old.vnodes none.vnodes);
    held = λ number some. (keeps.slot, record { number = root; inode = inode; pins = 1 }, object-put old.vnodes keeps.slot (record { number = root; inode = inode; pins = 1 }) keeps.within, root_held number some);
  }

  pub root_true : (disk : List (List ℕ)) → HasNode disk 1 inode → TrueNodes (HasNode disk) (put old.vnodes keeps.slot (record { number = root; inode = inode; pins = 1 }))
  root_true disk has = true_put (λ (v : Vnode). HasNode disk v.number v.inode) old.vnodes keeps.slot (record { number = root; inode = inode; pins = 1 }) has (none_true (λ (v : Vnode). HasNode disk v.number v.inode) (old.heap / size class.Vnode) old.vnodes none.vnodes)

-- the new tree stands
pub boot_stands : (count : ℕ) (old new : Heap) (fs : TreeView) (names blocks : ℕ) → 16 ≤ count → count ≤ 4096 → HasNoFiles old → (keeps : KeepsRoot (new_root count) old new)
    → IsFormatted count fs.disk.blocks → IsDirectoryOf fs.disk.blocks 1 1 [] → StandsFor fs.disk.blocks (new_tree count) → fs.names ≡ order [] names → KeepsNodes new.vnodes fs.vnodes → fs.blocks ≡ order [] blocks → HasRoom old fs
    → Stands new fs (new_tree count) root_alone
boot_stands count old new fs names blocks enough most none keeps formatted is behind no_names nodes no_blocks room =
    let has = root_there count fs.disk.blocks enough most formatted is in
    subst (λ (h : Heap). Stands h fs (new_tree count) root_alone) (sym keeps.heap) (record {
      behind = behind;
      is_tree = new_is_tree count enough most;
      names = subst (λ (o : Order NameKey). KeepsNames old.names o) (sym no_names) (keeps_none same_key key_of (old.heap / size class.Name) names old.names none.names);
      nodes = subst (λ (h : Heap). KeepsNodes h.vnodes fs.vnodes) keeps.heap nodes;
      blocks = subst (λ (o : Order ℕ). KeepsBlocks old.blocks o) (sym no_blocks) (keeps_none nat_eq (λ (b : Block). b.number) (old.heap / size class.Block) blocks old.blocks none.blocks);
      true_names = none_true (λ (n : Name). found (new_tree count) n.dir n.name ≡ Some n.node) (old.heap / size class.Name) old.names none.names;
      true_nodes = root_true (new_root count) old new none keeps fs.disk.blocks has;
      true_blocks = none_true (λ (b : Block). slice_get fs.disk.blocks b.number ≡ Some b.bytes) (old.heap / size class.Block) old.blocks none.blocks;
      held = root_pins (new_root count) old new none keeps;
      root = omega arith;
      room = record { names = room.names; nodes = room.nodes; blocks = room.blocks };
    })

-- the root's inode is filled from a purse that has a Vnode, and held
pub root_kept : (inode : Inode) (old mid new : Heap) (before after : Purse) (had has last : Nodes) → NodeFilled (new_vnode root inode) old mid before after had has → before.left.vnode ≡ 1 → HasNodeFills mid after → KeepsNodes mid.vnodes has → NodeSet root (λ was. record was { pins = was.pins + 1 }) mid new has last
    → KeepsRoot inode old new
root_kept inode old mid new before after had has last filled one fills keeps set =
    let slot : ℕ = filled.slot in
    let made : Vnode = new_vnode root inode in
    let held : Vnode = record { number = root; inode = inode; pins = 1 } in
    let room = (filled.room.enough (λ none. omega arith)).0.heap in
    let kept : after.vnodes ≡ filled.purse.vnodes ++ slot ∷ [] = ap (λ (p : Purse). p.vnodes) filled.added.purse in
    let there : Contains after.vnodes slot = subst (λ (k : List ℕ). Contains k slot) (sym kept) (Contains-append_right filled.purse.vnodes (slot ∷ []) slot (0, omega arith, refl)) in
    let used = subst (λ (h : Heap). InUse h.vnodes slot) filled.added.heap (fills.used slot there) in
    let middle : slot < length filled.between.vnodes = rw length-put at (InUse-within (put filled.between.vnodes slot made) slot used) in
    let within : slot < length old.vnodes = subst (λ (h : Heap). slot < length h.vnodes) room middle in
    let vacant : object old.vnodes slot ≡ None = subst (λ (h : Heap). object h.vnodes slot ≡ None) room filled.added.vacant in
    let is : mid ≡ record old { vnodes = put old.vnodes slot made; high = mid.high } = filled.added.heap ∙ ap (λ (h : Heap). record h { vnodes = put h.vnodes slot made; high = mid.high }) room in
    let stored : object mid.vnodes slot ≡ Some made = ap (λ (h : Heap). object h.vnodes slot) is ∙ object-put old.vnodes slot made within in
    let at = keeps.kept.only root slot (ap (option_map (λ (v : Vnode). v.number)) stored) in
    let pinned : new ≡ record mid { vnodes = put mid.vnodes slot held } = set slot made at stored in
    let all : new ≡ record old { vnodes = put old.vnodes slot held; high = mid.high } = pinned ∙ ap (λ (h : Heap). record h { vnodes = put h.vnodes slot held }) is ∙ ap (λ (o : List (Option Vnode)). record old { vnodes = o; high = mid.high }) (set-set old.vnodes slot (Some made) (Some held)) in
    record {
      slot = slot;
      within = within;
      vacant = vacant;
      heap = all ∙ ap (λ (h : Heap). record old { vnodes = put old.vnodes slot held; high = h.high }) (sym all);
    }

-- who holds a node of a new tree is not too many
pub few_alone : (number : ℕ) → root_alone number < 4294967295
few_alone number = elim (cases_eq root number) [
  | inl e ↦ let one : root_alone number ≡ 1 = ap (λ b. cond b 1 0) (eq-eqb root number e) in omega (arith, one)
  | inr n ↦ let none : root_alone number ≡ 0 = ap (λ b. cond b 1 0) (ne_eqb root number n) in omega (arith, none)
]
