-- The tree goes on to stand where the inode of a node that no one holds has gone from its cache, and where blocks have.
use Rattle.std.proofs.Common.{◌≡◌, ◌≢◌, ℕ, ◌+◌, ◌<◌, ◌≤◌, Bool, true, false, cond, List, [], ◌∷◌, length, Option, Some, None, IsSome, nat_eq, eqb-true, refl, sym, ap, ◌∙◌, subst, inl, inr, arith, le_refl}
use Rattle.std.specs.Prelude.{MatchOption, slice_get}
use Rattle.std.specs.Cmp.{nat_eq_equiv}
use Rattle.std.specs.Option.{option_map, option_and_then}
use Rattle.std.proofs.lemmas.Bool.{eq-eqb}
use Rattle.kheap_slabs.specs.Objects.{object, without}
use Rattle.kheap_slabs.specs.Purse.{Purse}
use Rattle.kheap_slabs.specs.declared.objects.Block.{Block}
use Rattle.kheap_slabs.specs.declared.objects.Name.{Name}
use Rattle.kheap_slabs.specs.declared.objects.Vnode.{Vnode}
use Rattle.kheap_slabs.specs.Heap.{Heap}
use Rattle.kheap_slabs.specs.Paid.{AreFills, HasFills, IsPaid}
use Rattle.cache_laws.specs.Caches.{AreTrue, objects_without}
use Rattle.cache_laws.proofs.KeepsLemmas.{cached_is, true_without}
use Rattle.kheap_laws.proofs.PaidLemmas.{CanPay-kept}
use Rattle.lru_index.specs.Order.{Order}
use Rattle.lru_index.specs.declared.keys.NameKey.{NameKey}
use Rattle.name_cache.specs.Names as names
use Rattle.name_cache.specs.Names.{KeepsNames, name_slot, same_key, with_names}
use Rattle.posix_defs.specs.SoundDisk.{HasNode}
use Rattle.posix_defs.specs.Tree.{Tree, found}
use Rattle.block_cache.specs.Blocks as blocks
use Rattle.block_cache.specs.Blocks.{KeepsBlocks, TrueToDisk, with_blocks}
use Rattle.vnode_cache.specs.Nodes.{Nodes, node_slot, cached_pins, KeepsNodes, IsLoose, AreLoose, is_loose}
use Rattle.vnode_cache.specs.Calls as nodes
use Rattle.vnode_cache.specs.Calls.{NodeGone, TakenBack, HasNodeFills, with_vnodes}
use Rattle.cached_disk.specs.TreeLent.{HasPins, with_cached}
use Rattle.cached_disk.proofs.NodesStep.{pins_without}
use Rattle.memfs_ops.specs.FileTree.{TreeView, Stands, MayWalk, Looks, Pays}
use Rattle.memfs_ops.specs.Changing.{Between, MidWay}
use Rattle.memfs_ops.proofs.PinLemmas.{cached_as}

-- ---- how many hold a cached node

some_count : (a b : ℕ) → ◌≡◌ {A = Option ℕ} (Some a) (Some b) → a ≡ b
some_count a b e = cc

some_slot_of : (o : Option ℕ) (count : ℕ) → o ≡ Some count → IsSome o
some_slot_of None count is = absurd (cc)
some_slot_of (Some n) count is = refl

-- what is cached of it is what is said
pub cached_count : (pins : ℕ → ℕ) (objects : List (Option Vnode)) (cache : Nodes) (number count : ℕ) → KeepsNodes objects cache → HasPins pins objects → IsSome (node_slot cache number) → cached_pins objects cache number ≡ Some count → count ≡ pins number
cached_count pins objects cache number count keeps has some cached =
    let at = cached_as objects cache number keeps some in
    let is : cached_pins objects cache number ≡ Some at.vnode.pins = cached_is nat_eq_equiv eqb-true (λ (v : Vnode). v.number) (λ (v : Vnode). v.pins) objects cache.order number at.slot at.vnode at.there at.is in
    let same : at.vnode.pins ≡ count = some_count at.vnode.pins count (sym is ∙ cached) in
    sym same ∙ has.each at.slot at.vnode at.is ∙ ap pins at.named

-- what isn't cached has no count
cached_there : (objects : List (Option Vnode)) (cache : Nodes) (number count : ℕ) → cached_pins objects cache number ≡ Some count → IsSome (node_slot cache number)
cached_there objects cache number count cached = (elim (node_slot cache number) as (λ (o : Option ℕ). node_slot cache number ≡ o → IsSome (node_slot cache number)) [
  | None ↦ λ none. let here : cached_pins objects cache number ≡ None = ap (option_and_then (λ s. option_map (λ (v : Vnode). v.pins) (object objects s))) none in absurd (cc)
  | Some slot ↦ λ is. subst (λ (o : Option ℕ). IsSome o) (sym is) refl
]) refl

pub no_count : (pins : ℕ → ℕ) (objects : List (Option Vnode)) (cache : Nodes) (number count : ℕ) → KeepsNodes objects cache → HasPins pins objects → pins number ≡ 0 → cached_pins objects cache number ≡ Some count → count ≡ 0
no_count pins objects cache number count keeps has none cached = cached_count pins objects cache number count keeps has (cached_there objects cache number count cached) cached ∙ none

-- ---- an inode goes from its cache

same_number : (v : Vnode) (number : ℕ) → ◌≡◌ {A = Option ℕ} (Some v.number) (Some number) → v.number ≡ number
same_number v number e = cc

loose_there : (pins : ℕ → ℕ) (objects : List (Option Vnode)) (cache : Nodes) (number slot : ℕ) → KeepsNodes objects cache → HasPins pins objects → pins number ≡ 0 → node_slot cache number ≡ Some slot → IsLoose objects slot
loose_there pins objects cache number slot keeps has none there =
    let at = cached_as objects cache number keeps (subst (λ (o : Option ℕ). IsSome o) (sym there) refl) in
    let same : at.slot ≡ slot = some_count at.slot slot (sym at.there ∙ there) in
    let zero_pins : at.vnode.pins ≡ 0 = has.each at.slot at.vnode at.is ∙ ap pins at.named ∙ none in
    ap (λ s. is_loose (object objects s)) (sym same) ∙ ap is_loose at.is ∙ ap (λ n. nat_eq n 0) zero_pins

module _ (old new : Heap) (before after : Purse) (fs : TreeView) (has : Nodes) (number : ℕ)
    (gone : MatchOption (node_slot fs.vnodes number) (nodes.Unchanged old new fs.vnodes has × (after ≡ before)) (λ slot. NodeGone number slot old new fs.vnodes has × TakenBack slot before after))
    (slots : (other : ℕ) → node_slot has other ≡ cond (nat_eq number other) None (node_slot fs.vnodes other)) (keeps : KeepsNodes new.vnodes has) where
  -- either it wasn't cached, or it has gone
  by_slot : (P : Type 0) → (node_slot fs.vnodes number ≡ None → nodes.Unchanged old new fs.vnodes has × (after ≡ before) → P) → ((slot : ℕ) → node_slot fs.vnodes number ≡ Some slot → NodeGone number slot old new fs.vnodes has × TakenBack slot before after → P) → P
  by_slot P none some = (elim (node_slot fs.vnodes number) as (λ (o : Option ℕ). node_slot fs.vnodes number ≡ o → MatchOption o (nodes.Unchanged old new fs.vnodes has × (after ≡ before)) (λ slot. NodeGone number slot old new fs.vnodes has × TakenBack slot before after) → P) [
    | None ↦ λ is. none is
    | Some slot ↦ λ is. some slot is
  ]) refl gone

  not_there : node_slot has number ≡ None
  not_there = slots number ∙ ap (λ b. cond b None (node_slot fs.vnodes number)) (eq-eqb number number refl)

  -- no Vnode is of that number any more
  other_number : (slot : ℕ) (v : Vnode) → object new.vnodes slot ≡ Some v → v.number ≢ number
  other_number slot v there same =
      let at : node_slot has number ≡ Some slot = keeps.kept.only number slot (ap (option_map (λ (x : Vnode). x.number)) there ∙ ap Some same) in
      let both : ◌≡◌ {A = Option ℕ} None (Some slot) = sym not_there ∙ at in
      absurd (cc)

  only_vnodes : new ≡ record old { vnodes = new.vnodes }
  only_vnodes = by_slot (new ≡ record old { vnodes = new.vnodes }) (λ none u. u.0.heap ∙ ap (λ (h : Heap). record old { vnodes = h.vnodes }) (sym u.0.heap)) (λ slot some g. g.0.heap ∙ ap (λ (h : Heap). record old { vnodes = h.vnodes }) (sym g.0.heap))

  same_capacity : has.order.capacity ≡ fs.vnodes.order.capacity
  same_capacity = by_slot (has.order.capacity ≡ fs.vnodes.order.capacity) (λ none u. ap (λ (n : Nodes). n.order.capacity) u.0.cache) (λ slot some g. ap (λ (n : Nodes). n.order.capacity) g.0.cache)

  still_true : (Q : Vnode → Type 0) → AreTrue Q old.vnodes → AreTrue Q new.vnodes
  still_true Q are = by_slot (AreTrue Q new.vnodes) (λ none u. subst (λ (h : Heap). AreTrue Q h.vnodes) (sym u.0.heap) are) (λ slot some g. subst (λ (h : Heap). AreTrue Q h.vnodes) (sym g.0.heap) (true_without Q old.vnodes slot are))

  still_held : (mine pins : ℕ → ℕ) → KeepsNodes old.vnodes fs.vnodes → HasPins mine old.vnodes → mine number ≡ 0 → HasPins pins old.vnodes → HasPins pins new.vnodes
  still_held mine pins kept its none held = by_slot (HasPins pins new.vnodes) (λ absent u. subst (λ (h : Heap). HasPins pins h.vnodes) (sym u.0.heap) held)
      (λ slot some g. subst (λ (h : Heap). HasPins pins h.vnodes) (sym g.0.heap) (pins_without pins old.vnodes slot (loose_there mine old.vnodes fs.vnodes number slot kept its none some) held))

  -- it stands for that tree but for whichever node
  pub forgotten : (mine : ℕ → ℕ) → HasPins mine old.vnodes → mine number ≡ 0 → (told tree : Tree) (pins : ℕ → ℕ) → Between number old fs told tree pins → MidWay new (record fs { vnodes = has }) told tree pins
  forgotten mine its none told tree pins lags other = subst (λ (h : Heap). Between other h (record fs { vnodes = has }) told tree pins) (sym only_vnodes) (record {
    behind = lags.behind;
    names = lags.names;
    nodes = keeps;
    blocks = lags.blocks;
    true_names = lags.true_names;
    true_others = λ slot v there differs. still_true (λ (w : Vnode). w.number ≢ number → HasNode fs.disk.blocks w.number w.inode) lags.true_others slot v there (other_number slot v there);
    true_blocks = lags.true_blocks;
    held = still_held mine pins lags.nodes its none lags.held;
    root = lags.root;
    room = record { names = lags.room.names; nodes = rw same_capacity lags.room.nodes; blocks = lags.room.blocks };
  })

  pub taken_purse : after ≡ with_vnodes before after.left.vnode after.vnodes
  taken_purse = by_slot (after ≡ with_vnodes before after.left.vnode after.vnodes) (λ none u. u.1 ∙ ap (λ (p : Purse). with_vnodes before p.left.vnode p.vnodes) (sym u.1)) (λ slot some g. elim g.1 [
    | inl back ↦ back.2 ∙ ap (λ (p : Purse). with_vnodes before p.left.vnode p.vnodes) (sym back.2)
    | inr same ↦ same.1 ∙ ap (λ (p : Purse). with_vnodes before p.left.vnode p.vnodes) (sym same.1)
  ])

  -- a purse that had filled no Vnode is as it was
  pub taken_none : before.vnodes ≡ [] → after ≡ before
  taken_none none = by_slot (after ≡ before) (λ absent u. u.1) (λ slot some g. elim g.1 [
    | inl back ↦ let few : length before.vnodes ≡ 0 = ap length none in absurd (omega (arith, back.1.0, few))
    | inr same ↦ same.1
  ])

  pub forgotten_pays : HasFills old before → HasNodeFills new after → IsPaid old before new after → Pays old new before after fs (record fs { vnodes = has })
  forgotten_pays fills node_fills paid = record {
    only = only_vnodes ∙ ap (λ (h : Heap). record old { vnodes = h.vnodes; names = h.names; blocks = h.blocks; high = h.high }) (sym only_vnodes);
    purse = taken_purse ∙ ap (with_cached before) (sym taken_purse);
    paid = paid;
    fills = subst (λ (h : Heap). HasFills h after) (sym only_vnodes) (record {
      vnodes = node_fills;
      names = subst (λ (p : Purse). AreFills old.names p.names p.left.name p.need.name) (sym taken_purse) fills.names;
      blocks = subst (λ (p : Purse). AreFills old.blocks p.blocks p.left.block p.need.block) (sym taken_purse) fills.blocks;
    });
    reads = le_refl _;
  }

-- ---- the blocks that a call filled go

true_all_without : {X : Type 0} (P : X → Type 0) (slots : List ℕ) (objects : List (Option X)) → AreTrue P objects → AreTrue P (objects_without slots objects)
true_all_without P [] objects are = are
true_all_without P (slot ∷ slots) objects are = true_all_without P slots (without objects slot) (true_without P objects slot are)

module _ (old new : Heap) (before after : Purse) (fs : TreeView) (has : Order ℕ) (dropped : blocks.AllDropped old new before after fs.blocks has) where
  pub dropped_stands : KeepsBlocks new.blocks has → (tree : Tree) (pins : ℕ → ℕ) → Stands old fs tree pins → Stands new (record fs { blocks = has }) tree pins
  dropped_stands keeps tree pins s = subst (λ (h : Heap). Stands h (record fs { blocks = has }) tree pins) (sym dropped.heap) (record {
    behind = s.behind;
    is_tree = s.is_tree;
    names = s.names;
    nodes = s.nodes;
    blocks = subst (λ (h : Heap). KeepsBlocks h.blocks has) dropped.heap keeps;
    true_names = s.true_names;
    true_nodes = s.true_nodes;
    true_blocks = true_all_without (λ (b : Block). slice_get fs.disk.blocks b.number ≡ Some b.bytes) before.blocks old.blocks s.true_blocks;
    held = s.held;
    root = s.root;
    room = record { names = s.room.names; nodes = s.room.nodes; blocks = rw (ap (λ (o : Order ℕ). o.capacity) dropped.cache) s.room.blocks };
  })

  pub dropped_pays : HasFills old before → blocks.HasBlockFills new after → IsPaid old before new after → Pays old new before after fs (record fs { blocks = has })
  dropped_pays fills block_fills paid = record {
    only = dropped.heap ∙ ap (λ (h : Heap). record old { vnodes = h.vnodes; names = h.names; blocks = h.blocks; high = h.high }) (sym dropped.heap);
    purse = dropped.purse ∙ ap (with_cached before) (sym dropped.purse);
    paid = paid;
    fills = record {
      vnodes = subst (λ (h : Heap). AreFills h.vnodes after.vnodes after.left.vnode after.need.vnode) (sym dropped.heap) (subst (λ (p : Purse). AreFills old.vnodes p.vnodes p.left.vnode p.need.vnode) (sym dropped.purse) fills.vnodes);
      names = subst (λ (h : Heap). AreFills h.names after.names after.left.name after.need.name) (sym dropped.heap) (subst (λ (p : Purse). AreFills old.names p.names p.left.name p.need.name) (sym dropped.purse) fills.names);
      blocks = block_fills;
    };
    reads = le_refl _;
  }

-- ---- a name goes from its cache

module _ (old new : Heap) (before after : Purse) (fs : TreeView) (has : Order NameKey) (key : NameKey)
    (gone : MatchOption (name_slot fs.names key) (names.Unchanged old new fs.names has × (after ≡ before)) (λ slot. names.NameGone key slot old new fs.names has × names.TakenBack slot before after))
    (slots : (other : NameKey) → name_slot has other ≡ cond (same_key key other) None (name_slot fs.names other)) where
  by_name : (P : Type 0) → (names.Unchanged old new fs.names has × (after ≡ before) → P) → ((slot : ℕ) → names.NameGone key slot old new fs.names has × names.TakenBack slot before after → P) → P
  by_name P none some = (elim (name_slot fs.names key) as (λ (o : Option ℕ). MatchOption o (names.Unchanged old new fs.names has × (after ≡ before)) (λ slot. names.NameGone key slot old new fs.names has × names.TakenBack slot before after) → P) [
    | None ↦ none
    | Some slot ↦ some slot
  ]) gone

  only_names : new ≡ record old { names = new.names }
  only_names = by_name (new ≡ record old { names = new.names }) (λ u. u.0.heap ∙ ap (λ (h : Heap). record old { names = h.names }) (sym u.0.heap)) (λ slot g. g.0.heap ∙ ap (λ (h : Heap). record old { names = h.names }) (sym g.0.heap))

  name_capacity : has.capacity ≡ fs.names.capacity
  name_capacity = by_name (has.capacity ≡ fs.names.capacity) (λ u. ap (λ (o : Order NameKey). o.capacity) u.0.cache) (λ slot g. ap (λ (o : Order NameKey). o.capacity) g.0.cache)

  names_true : (Q : Name → Type 0) → AreTrue Q old.names → AreTrue Q new.names
  names_true Q are = by_name (AreTrue Q new.names) (λ u. subst (λ (h : Heap). AreTrue Q h.names) (sym u.0.heap) are) (λ slot g. subst (λ (h : Heap). AreTrue Q h.names) (sym g.0.heap) (true_without Q old.names slot are))

  name_purse : after ≡ with_names before after.left.name after.names
  name_purse = by_name (after ≡ with_names before after.left.name after.names) (λ u. u.1 ∙ ap (λ (p : Purse). with_names before p.left.name p.names) (sym u.1)) (λ slot g. elim g.1 [
    | inl back ↦ back.2 ∙ ap (λ (p : Purse). with_names before p.left.name p.names) (sym back.2)
    | inr same ↦ same.1 ∙ ap (λ (p : Purse). with_names before p.left.name p.names) (sym same.1)
  ])

  -- what may yet be filled and what was is no less than before
  name_some : 0 < before.left.name + length before.names → 0 < after.left.name + length after.names
  name_some some = by_name (0 < after.left.name + length after.names) (λ u. subst (λ (p : Purse). 0 < p.left.name + length p.names) (sym u.1) some) (λ slot g. elim g.1 [
    | inl back ↦ let more : after.left.name ≡ before.left.name + 1 = ap (λ (p : Purse). p.left.name) back.2 in omega (arith, more)
    | inr same ↦ subst (λ (p : Purse). 0 < p.left.name + length p.names) (sym same.1) some
  ])

  pub name_gone : same_key key key ≡ true → name_slot has key ≡ None
  name_gone same = slots key ∙ ap (λ b. cond b None (name_slot fs.names key)) same

  pub still_none : (other : NameKey) → name_slot fs.names other ≡ None → name_slot has other ≡ None
  still_none other none = slots other ∙ ap (λ o. cond (same_key key other) None o) none ∙ either (same_key key other)
    where
      either : (b : Bool) → cond {A = Option ℕ} b None None ≡ None
      either true = refl
      either false = refl

  pub name_looks : KeepsNames new.names has → names.HasNameFills new after → IsPaid old before new after → MayWalk old before → Looks old new before after fs (record fs { names = has })
  name_looks keeps fills paid may = record {
    on = record {
      heap = only_names ∙ ap (λ (h : Heap). record old { vnodes = h.vnodes; names = h.names; blocks = h.blocks; high = h.high }) (sym only_names);
      purse = name_purse ∙ ap (with_cached before) (sym name_purse);
      paid = paid;
      capacities = (name_capacity, refl, refl);
      bytes = refl;
      reads = le_refl _;
      pins = λ pins held. subst (λ (h : Heap). HasPins pins h.vnodes) (sym only_names) held;
    };
    stands = λ tree pins s. subst (λ (h : Heap). Stands h (record fs { names = has }) tree pins) (sym only_names) (record {
      behind = s.behind;
      is_tree = s.is_tree;
      names = keeps;
      nodes = s.nodes;
      blocks = s.blocks;
      true_names = names_true (λ (n : Name). found tree n.dir n.name ≡ Some n.node) s.true_names;
      true_nodes = s.true_nodes;
      true_blocks = s.true_blocks;
      held = s.held;
      root = s.root;
      room = record { names = rw name_capacity s.room.names; nodes = s.room.nodes; blocks = s.room.blocks };
    });
    may = record {
      pays = CanPay-kept old new before after paid may.pays;
      fills = record {
        vnodes = subst (λ (h : Heap). AreFills h.vnodes after.vnodes after.left.vnode after.need.vnode) (sym only_names) (subst (λ (p : Purse). AreFills old.vnodes p.vnodes p.left.vnode p.need.vnode) (sym name_purse) may.fills.vnodes);
        names = fills;
        blocks = subst (λ (h : Heap). AreFills h.blocks after.blocks after.left.block after.need.block) (sym only_names) (subst (λ (p : Purse). AreFills old.blocks p.blocks p.left.block p.need.block) (sym name_purse) may.fills.blocks);
      };
      loose = subst (λ (h : Heap). AreLoose h.vnodes after.vnodes) (sym only_names) (subst (λ (p : Purse). AreLoose old.vnodes p.vnodes) (sym name_purse) may.loose);
      few = subst (λ (p : Purse). (p.need.name ≤ 4) × (p.need.vnode ≤ 4) × (p.need.block ≤ 4)) (sym name_purse) may.few;
      some = (
        name_some may.some.0,
        subst (λ (p : Purse). 0 < p.left.vnode + length p.vnodes) (sym name_purse) may.some.1,
        subst (λ (p : Purse). 0 < p.left.block + length p.blocks) (sym name_purse) may.some.2,
      );
    };
  }
