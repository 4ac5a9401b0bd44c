-- One less holds a node, and a file without links goes with the last that holds it.
use Rattle.std.proofs.Common.{◌≡◌, ◌≢◌, ℕ, ◌+◌, ◌-◌, ◌<◌, true, false, cond, List, [], length, Option, Some, None, IsSome, eqb, eqb-true, refl, sym, ap, ◌∙◌, subst, inl, inr, arith}
use Rattle.std.specs.Prelude.{is_some}
use Rattle.std.specs.Option.{option_map}
use Rattle.std.proofs.lemmas.Bool.{cases_eq, cond-true, cond-false, eq-eqb, ne_eqb}
use Rattle.kabi_types.specs.declared.inodes.Inode.{Inode}
use Rattle.kheap_slabs.specs.Objects.{object, InUse, put}
use Rattle.kheap_slabs.specs.Purse.{Purse}
use Rattle.kheap_slabs.specs.declared.objects.Vnode.{Vnode}
use Rattle.kheap_slabs.proofs.ObjectLemmas.{object-put, object-put_other, InUse-within, InUse-put}
use Rattle.kheap_slabs.specs.Heap.{Heap}
use Rattle.kheap_slabs.specs.Paid.{HasFills, TakesNothing}
use Rattle.kheap_laws.proofs.PaidLemmas.{IsPaid-nothing}
use Rattle.kheap_laws.proofs.FillLemmas.{AreFills-kept}
use Rattle.lru_index.specs.Order.{Order}
use Rattle.disk_layout.specs.Disk.{Disk}
use Rattle.posix_defs.specs.DiskTree.{StandsFor}
use Rattle.posix_defs.specs.SoundDisk.{HasNode}
use Rattle.posix_defs.specs.IsTree.{IsTree}
use Rattle.posix_defs.specs.Tree.{Node, Tree, root, is_in_use, links_at, links_in, node_at, IsInodeAt, IsInodeIn}
use Rattle.posix_defs.specs.TreeChanges.{closed}
use Rattle.tree_laws.proofs.TreeKeeps.{closed_keeps}
use Rattle.tree_laws.proofs.OtherNodes.{closed_names}
use Rattle.memfs_node.specs.NodeOnDisk.{Frees}
use Rattle.memfs_node.proofs.Looking.{shown}
use Rattle.memfs_node.proofs.Named.{changed_others}
use Rattle.memfs_node.proofs.OnTree.{closed_in_tree, stays_open}
use Rattle.block_cache.specs.Blocks.{with_blocks}
use Rattle.vnode_cache.specs.Nodes.{Nodes, node_slot, KeepsNodes}
use Rattle.vnode_cache.specs.Calls.{NodeSet}
use Rattle.vnode_cache.proofs.TrueLemmas.{pinned_true}
use Rattle.cached_disk.specs.Lent.{parts, AreLent, GoesOn}
use Rattle.cached_disk.specs.TreeLent.{HasPins, with_cached}
use Rattle.memfs_ops.specs.FileTree.{TreeView, Stands, Pays}
use Rattle.memfs_ops.specs.Fetching.{MayFetch}
use Rattle.memfs_ops.specs.Changing.{Lags}
use Rattle.memfs_ops.specs.Closing.{one_less, left_tree, GoesThen}
use Rattle.memfs_ops.proofs.PinLemmas.{IsCachedAs, cached_as}
use Rattle.memfs_ops.proofs.ChangeLemmas.{changed_lags, lags_of}

-- ---- a Vnode becomes another in its slot

pub only_set : (change : Vnode → Vnode) (old new : Heap) (had has : Nodes) (number : ℕ) → KeepsNodes old.vnodes had → IsSome (node_slot had number) → NodeSet number change old new had has → new ≡ record old { vnodes = new.vnodes }
only_set change old new had has number keeps some set =
    let at = cached_as old.vnodes had number keeps some in
    let is = set at.slot at.vnode at.there at.is in
    is ∙ ap (λ (h : Heap). record old { vnodes = h.vnodes }) (sym is)

pub used_set : (change : Vnode → Vnode) (old new : Heap) (had has : Nodes) (number : ℕ) → KeepsNodes old.vnodes had → IsSome (node_slot had number) → NodeSet number change old new had has → (slot : ℕ) → InUse old.vnodes slot → InUse new.vnodes slot
used_set change old new had has number keeps some set slot used =
    let at = cached_as old.vnodes had number keeps some in
    let is = set at.slot at.vnode at.there at.is in
    subst (λ (h : Heap). InUse h.vnodes slot) (sym is) (InUse-put old.vnodes at.slot (change at.vnode) slot (subst (λ (o : Option Vnode). IsSome o) (sym at.is) refl) used)

-- ---- one less holds a node

one_less_here : (pins : ℕ → ℕ) (number other : ℕ) → number ≡ other → one_less pins number other ≡ pins other - 1
one_less_here pins number other e = ap (λ b. cond b (pins other - 1) (pins other)) (eq-eqb number other e)

one_less_there : (pins : ℕ → ℕ) (number other : ℕ) → number ≢ other → one_less pins number other ≡ pins other
one_less_there pins number other n = ap (λ b. cond b (pins other - 1) (pins other)) (ne_eqb number other n)

-- who holds a node is said by its Vnode alone
pub same_pins : (one other : ℕ → ℕ) (objects : List (Option Vnode)) (number : ℕ) → HasPins one objects → HasPins other objects → 0 < one number → other number ≡ one number
same_pins one other objects number has also some =
    let at = has.held number some in
    ap other (sym at.3) ∙ sym (also.each at.0 at.1 at.2) ∙ has.each at.0 at.1 at.2 ∙ ap one at.3

pub less_root : (one other : ℕ → ℕ) (objects : List (Option Vnode)) (number : ℕ) → HasPins one objects → HasPins other objects → 0 < one root → 0 < one_less one number root → 0 < one_less other number root
less_root one other objects number has also some stays =
    let same = same_pins one other objects root has also some in
    elim (cases_eq number root) [
      | inl e ↦ let mine = one_less_here one number root e in let its = one_less_here other number root e in omega (arith, mine, its, same, stays)
      | inr n ↦ let its = one_less_there other number root n in omega (arith, its, same, some)
    ]

pins_unpinned : (pins : ℕ → ℕ) (objects : List (Option Vnode)) (cache : Nodes) (number : ℕ) → KeepsNodes objects cache → HasPins pins objects → (at : IsCachedAs objects cache number) → HasPins (one_less pins number) (put objects at.slot (record at.vnode { pins = at.vnode.pins - 1 }))
pins_unpinned pins objects cache number keeps has at = record {
  each = λ s v there. elim (cases_eq s at.slot) [
    | inl e ↦
        let both : Some now ≡ Some v = sym stored ∙ ap (object (put objects at.slot now)) (sym e) ∙ there in
        let one : now ≡ v = cc in
        subst (λ (w : Vnode). w.pins ≡ one_less pins number w.number) one (ap (λ n. n - 1) (has.each at.slot at.vnode at.is) ∙ sym (one_less_here pins number at.vnode.number (sym at.named)))
    | inr differs ↦
        let here : object objects s ≡ Some v = sym (object-put_other objects at.slot s now differs) ∙ there in
        let unlike : number ≢ v.number = λ e.
        let other : node_slot cache number ≡ Some s = keeps.kept.only number s (ap (option_map (λ (x : Vnode). x.number)) here ∙ ap Some (sym e)) in
        let both : Some s ≡ Some at.slot = sym other ∙ at.there in
        let one : s ≡ at.slot = cc in
        differs one
        in
        has.each s v here ∙ sym (one_less_there pins number v.number unlike)
  ];
  held = λ other some. elim (cases_eq number other) [
    | inl e ↦ (at.slot, now, stored, at.named ∙ e)
    | inr unlike ↦
        let less : 0 < pins other = subst (λ (n : ℕ). 0 < n) (one_less_there pins number other unlike) some in
        let there = has.held other less in
        let differs : there.0 ≢ at.slot = λ e.
        let both : Some there.1 ≡ Some at.vnode = sym there.2 ∙ ap (object objects) e ∙ at.is in
        let one : there.1 ≡ at.vnode = cc in
        unlike (sym at.named ∙ ap (λ (v : Vnode). v.number) (sym one) ∙ there.3)
        in
        (there.0, there.1, object-put_other objects at.slot there.0 now differs ∙ there.2, there.3)
  ];
}
  where
    now : Vnode
    now = record at.vnode { pins = at.vnode.pins - 1 }

    stored : object (put objects at.slot now) at.slot ≡ Some now
    stored = object-put objects at.slot now (InUse-within objects at.slot (subst (λ (o : Option Vnode). IsSome o) (sym at.is) refl))

-- the tree stands with one pin less
pub stands_unpinned : (old new : Heap) (fs : TreeView) (nodes : Nodes) (tree : Tree) (pins : ℕ → ℕ) (number : ℕ) → Stands old fs tree pins → 0 < one_less pins number root → IsSome (node_slot fs.vnodes number)
    → NodeSet number (λ was. record was { pins = was.pins - 1 }) old new fs.vnodes nodes → KeepsNodes new.vnodes nodes → nodes.order ≡ fs.vnodes.order → Stands new (record fs { vnodes = nodes }) tree (one_less pins number)
stands_unpinned old new fs nodes tree pins number stands stays some set keeps same =
    let at = cached_as old.vnodes fs.vnodes number stands.nodes some in
    let is = set at.slot at.vnode at.there at.is in
    subst (λ (h : Heap). Stands h (record fs { vnodes = nodes }) tree (one_less pins number)) (sym is) (record {
      behind = stands.behind;
      is_tree = stands.is_tree;
      names = stands.names;
      nodes = subst (λ (h : Heap). KeepsNodes h.vnodes nodes) is keeps;
      blocks = stands.blocks;
      true_names = stands.true_names;
      true_nodes = pinned_true (HasNode fs.disk.blocks) old.vnodes at.slot at.vnode (at.vnode.pins - 1) stands.true_nodes at.is;
      true_blocks = stands.true_blocks;
      held = pins_unpinned pins old.vnodes fs.vnodes number stands.nodes stands.held at;
      root = stays;
      room = record { names = stands.room.names; nodes = rw (ap (λ o. o.capacity) same) stands.room.nodes; blocks = stands.room.blocks };
    })

-- who was the last holds it no more
pub none_left : (pins : ℕ → ℕ) (number : ℕ) → eqb (pins number) 1 ≡ true → one_less pins number number ≡ 0
none_left pins number last = let one = eqb-true (pins number) 1 last in let less = one_less_here pins number number refl in omega (arith, one, less)

-- where only Vnodes are other, and none more is there, all is paid
pub pays_vnodes : (old new : Heap) (purse : Purse) (was is : TreeView) → HasFills old purse → new ≡ record old { vnodes = new.vnodes } → ((slot : ℕ) → InUse old.vnodes slot → InUse new.vnodes slot) → TakesNothing old new → is.disk.reads ≡ was.disk.reads → Pays old new purse purse was is
pays_vnodes old new purse was is fills only used takes reads = record {
  only = only ∙ ap (λ (h : Heap). record old { vnodes = h.vnodes; names = h.names; blocks = h.blocks; high = h.high }) (sym only);
  purse = refl;
  paid = IsPaid-nothing old new purse purse takes refl refl;
  fills = subst (λ (h : Heap). HasFills h purse) (sym only) (record {
    vnodes = AreFills-kept old.vnodes new.vnodes purse.vnodes purse.left.vnode purse.need.vnode (λ key there is_used. used key is_used) fills.vnodes;
    names = fills.names;
    blocks = fills.blocks;
  });
  reads = omega (arith, reads);
}

-- ---- a node without links goes

shown_used : (there : Option Node) (inode : Inode) → IsInodeIn there inode → is_some there ≡ true
shown_used None inode is = absurd is
shown_used (Some node) inode is = refl

shown_links : (there : Option Node) (inode : Inode) → IsInodeIn there inode → inode.nlink ≡ links_in there
shown_links None inode is = absurd is
shown_links (Some node) inode is = is.links

pub used_of : (tree : Tree) (number : ℕ) (inode : Inode) → IsInodeAt tree number inode → is_in_use tree number ≡ true
used_of tree number inode is = shown_used (node_at tree number) inode is

pub links_of : (tree : Tree) (number : ℕ) (inode : Inode) → IsInodeAt tree number inode → inode.nlink ≡ links_at tree number
links_of tree number inode is = shown_links (node_at tree number) inode is

module _ (old new : Heap) (before after : Purse) (was : TreeView) (blocks : Order ℕ) (disk : Disk) (on : GoesOn (parts old before was.blocks was.disk) (parts new after blocks disk)) (lent : AreLent new after blocks disk) where
  pub freed_lags : (tree : Tree) (pins : ℕ → ℕ) (number : ℕ) (inode : Inode) → Stands old was tree pins → HasNode was.disk.blocks number inode → inode.nlink ≡ 0 → Frees number was.disk.blocks inode disk.blocks
      → IsTree (closed tree number) × Lags number new (record was { blocks = blocks; disk = disk }) (closed tree number) pins
  freed_lags tree pins number inode s has none frees =
      let is = shown was.disk.blocks tree number inode s.behind has in (
        closed_keeps tree number s.is_tree (used_of tree number inode is),
        changed_lags old new before after was blocks disk on lent number tree (closed tree number) pins (lags_of number old was tree pins s) (changed_others number was.disk.blocks disk.blocks frees.changes)
            (closed_in_tree was.disk.blocks disk.blocks tree number inode s.behind has none frees) (λ slot n there leads. closed_names tree number s.is_tree n.dir n.name ∙ leads),
      )

-- blocks were asked for, and nothing else is other
pub pays_fetched : (old new : Heap) (before after : Purse) (was is : TreeView) → GoesOn (parts old before was.blocks was.disk) (parts new after is.blocks is.disk) → MayFetch new after → Pays old new before after was is
pays_fetched old new before after was is on may = record {
  only = on.heap ∙ ap (λ (h : Heap). record old { vnodes = h.vnodes; names = h.names; blocks = h.blocks; high = h.high }) (sym on.heap);
  purse = on.purse ∙ ap (with_cached before) (sym on.purse);
  paid = on.paid;
  fills = may.fills;
  reads = on.reads;
}

-- a purse that had filled nothing is as it was, where what it filled has gone
pub purse_back : (before between later last : Purse) → between ≡ with_blocks before between.left.block between.blocks → between.left.block + length between.blocks ≡ before.left.block + length before.blocks
    → (between.vnodes ≡ [] → later ≡ between) → last ≡ with_blocks later (later.left.block + length later.blocks) [] → before.vnodes ≡ [] → before.blocks ≡ [] → last ≡ before
purse_back before between later last only filled forgot dropped no_nodes no_blocks =
    let same : later ≡ between = forgot (ap (λ (p : Purse). p.vnodes) only ∙ no_nodes) in
    let none : length before.blocks ≡ 0 = ap length no_blocks in
    let left : between.left.block + length between.blocks ≡ before.left.block = omega (arith, filled, none) in
    dropped
    ∙ ap (λ (p : Purse). with_blocks p (p.left.block + length p.blocks) []) same
    ∙ ap (λ (n : ℕ). with_blocks between n []) left
    ∙ ap (λ (p : Purse). with_blocks p before.left.block []) only
    ∙ ap (λ (keys : List ℕ). record before { blocks = keys }) (sym no_blocks)

-- ---- the tree after a close

pub left_gone : (tree : Tree) (pins : ℕ → ℕ) (number : ℕ) → eqb (pins number) 1 ≡ true → left_tree tree pins number ≡ closed tree number
left_gone tree pins number last = cond-true (eqb (pins number) 1) (closed tree number) tree last

pub left_held : (tree : Tree) (pins : ℕ → ℕ) (number : ℕ) → eqb (pins number) 1 ≡ false → left_tree tree pins number ≡ tree
left_held tree pins number more = cond-false (eqb (pins number) 1) (closed tree number) tree more

pub left_linked : (disk : List (List ℕ)) (tree : Tree) (pins : ℕ → ℕ) (number : ℕ) (inode : Inode) → StandsFor disk tree → HasNode disk number inode → inode.nlink ≢ 0 → left_tree tree pins number ≡ tree
left_linked disk tree pins number inode stands has some = elim (cases_eq (pins number) 1) [
  | inl one ↦ left_gone tree pins number (eq-eqb (pins number) 1 one) ∙ stays_open disk tree number inode stands has some
  | inr more ↦ left_held tree pins number (ne_eqb (pins number) 1 more)
]

pub goes_then : (tree : Tree) (pins : ℕ → ℕ) (number : ℕ) (inode : Inode) → eqb (pins number) 1 ≡ true → inode.nlink ≡ 0 → IsInodeAt tree number inode → GoesThen tree pins number
goes_then tree pins number inode last none is = record {
  last = eqb-true (pins number) 1 last;
  links = sym (links_of tree number inode is) ∙ none;
}
