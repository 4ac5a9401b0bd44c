-- What of the caches may go is what the machine doesn't pin, and once it has gone the objects stand for the world without it.
use Rattle.std.proofs.Common.{◌≡◌, ℕ, zero, suc, ◌+◌, ◌<◌, ◌==◌, ◌||◌, not, Bool, true, false, cond, List, [], ◌∷◌, ◌++◌, map, length, nat_eq, eqb-true, Option, None, Some, refl, ap, sym, ◌∙◌, subst, inl, inr, arith}
use Rattle.std.specs.Prelude.{count_by}
use Rattle.std.specs.List.{AllByRecursion, list_any}
use Rattle.std.specs.Map.{keys_of, remove_entry}
use Rattle.std.specs.Option.{option_and_then, option_map}
use Rattle.std.proofs.lemmas.Bool.Decides.{eqb_tells}
use Rattle.std.proofs.lemmas.Cmp.{nat_eq_equiv}
use Rattle.std.proofs.lemmas.List.Sums.{sum_by-cons}
use Rattle.kabi_types.specs.declared.entries.Cached.{Cached}
use Rattle.kabi_types.specs.declared.entries.Cached.TheVariants.{Name, Block, Vnode}
use Rattle.kabi_types.specs.declared.scripts.Script.{Script}
use Rattle.kheap_slabs.specs.Objects.{object}
use Rattle.kheap_slabs.specs.declared.objects.Vnode.{Vnode as HeldVnode}
use Rattle.kheap_slabs.specs.Heap.{Heap}
use Rattle.lru_index.specs.Order.{Order}
use Rattle.vnode_cache.specs.Nodes.{AreHeld, Nodes, is_loose, loose_count, node_is_loose}
use Rattle.vnode_cache.specs.Calls as nodes
use Rattle.memfs_ops.specs.Evicting.{HasGone, MayGo}
use Rattle.memfs_ops.specs.FileTree.{Stands, TreeView}
use Rattle.posix_defs.specs.Plain.{Plain}
use Rattle.posix_defs.specs.Relief.{Evicts, LosesFrom}
use Rattle.posix_defs.specs.Tree.{Tree}
use Rattle.posix_defs.specs.World.{Kept, World, can_evict, is_in, pinned_nodes}
use Rattle.store_objects.specs.declared.objects.Objects.{Objects}
use Rattle.store_objects.specs.Objects.{AreKept}
use Rattle.store_objects.specs.Standing.{StandsFor}
use Rattle.store_objects.specs.Trees.{HasTree, KeepsTree, kept_by, name_in, pins_in}
use Rattle.store_objects.proofs.Beside.{kept_beside, stands_beside}
use Rattle.store_objects.proofs.HeldNodes.{held_pinned, pinned_held}
use Rattle.store_objects.proofs.KeptNow.{as_many_blocks, as_many_names, is_kept}
use Rattle.store_objects.proofs.OnceKept.{each_kept}

-- ---- counts

-- 1 for what passes
abbrev one_if : Bool → ℕ
one_if passes = cond passes 1 0

module _ {X : Type 0} (test : Option X → Bool) where
  whole : (first : Option X) (rest : List (Option X)) → count_by test (first ∷ rest) ≡ one_if (test first) + count_by test rest
  whole first rest = sum_by-cons (λ (o : Option X). one_if (test o)) first rest

  -- what passes under some key is counted, and what is counted passes under some key
  passes_counted : (objects : List (Option X)) (slot : ℕ) → test None ≡ false → test (object objects slot) ≡ true → 0 < count_by test objects
  passes_counted [] slot none passes = absurd (let both : true ≡ false = sym passes ∙ none in cc)
  passes_counted (first ∷ rest) zero none passes = let one : one_if (test first) ≡ 1 = ap one_if passes in let all = whole first rest in omega (arith, one, all)
  passes_counted (first ∷ rest) (suc slot) none passes = let more = passes_counted rest slot none passes in let all = whole first rest in omega (arith, more, all)

  counted_passes : (objects : List (Option X)) → 0 < count_by test objects → (slot : ℕ) × (test (object objects slot) ≡ true)
  counted_passes [] some = absurd (let nothing : count_by test [] ≡ 0 = refl in omega (arith, some, nothing))
  counted_passes (first ∷ rest) some = go (test first) refl (λ more. counted_passes rest more)
    where
      go : (b : Bool) → test first ≡ b → (0 < count_by test rest → (slot : ℕ) × (test (object rest slot) ≡ true)) → (slot : ℕ) × (test (object (first ∷ rest) slot) ≡ true)
      go true is later = (0, is)
      go false is later =
          let behind = later (let no : one_if (test first) ≡ 0 = ap one_if is in let all = whole first rest in omega (arith, some, no, all)) in
          (suc behind.0, behind.1)

-- something is there
some_there : (n : ℕ) → 0 < n → not (n == 0) ≡ true
some_there n some = elim (eqb_tells n 0) [
  | inl same ↦ absurd (let none : n ≡ 0 = same.1 in omega (arith, some, none))
  | inr apart ↦ ap not apart.0
]

there_some : (n : ℕ) → not (n == 0) ≡ true → 0 < n
there_some zero e = cc
there_some (suc n) e = omega arith

-- one of some numbers passes
one_passes : (test : ℕ → Bool) (n : ℕ) (ns : List ℕ) → is_in n ns ≡ true → test n ≡ true → list_any test ns ≡ true
one_passes test n [] e passes = cc
one_passes test n (m ∷ ms) e passes = elim (eqb_tells m n) [
  | inl same ↦ ap (λ b. b || list_any test ms) (ap test same.1 ∙ passes)
  | inr apart ↦ behind (test m) (one_passes test n ms (sym (ap (λ b. b || is_in n ms) apart.0) ∙ e) passes)
]
  where
    behind : (b : Bool) → list_any test ms ≡ true → (b || list_any test ms) ≡ true
    behind true is = refl
    behind false is = is

some_passes : (G : Type 0) (test : ℕ → Bool) (ns : List ℕ) → list_any test ns ≡ true → AllByRecursion (λ n. test n ≡ true → G) ns → G
some_passes G test [] e all = cc
some_passes G test (n ∷ ns) e all = go (test n) refl e (λ rest. some_passes G test ns rest all.1)
  where
    go : (b : Bool) → test n ≡ b → (b || list_any test ns) ≡ true → (list_any test ns ≡ true → G) → G
    go true is e later = all.0 is
    go false is e later = later e

-- ---- what may go

module _ (h : Heap) (fs : TreeView) (plain : Plain) (stands : Stands h fs plain.files.tree (pins_in plain)) where
  -- a node isn't pinned by the machine
  abbrev is_unpinned : ℕ → Bool
  is_unpinned node = not (list_any (λ pinned. pinned == node) (pinned_nodes plain))

  -- whose Vnode no one holds, and the other way round
  loose_unpinned : (slot : ℕ) (v : HeldVnode) → object h.vnodes slot ≡ Some v → is_loose (Some v) ≡ true → is_unpinned v.number ≡ true
  loose_unpinned slot v there loose = go (is_in v.number (pinned_nodes plain)) refl
    where
      go : (b : Bool) → is_in v.number (pinned_nodes plain) ≡ b → not b ≡ true
      go false none = refl
      go true pinned =
          let some = pinned_held plain v.number pinned in
          let held = stands.held.each slot v there in
          let none : v.pins ≡ 0 = eqb-true v.pins 0 loose in
          absurd (omega (arith, some, held, none))

  unpinned_loose : (slot : ℕ) (v : HeldVnode) → object h.vnodes slot ≡ Some v → is_unpinned v.number ≡ true → is_loose (Some v) ≡ true
  unpinned_loose slot v there unpinned = go v.pins refl
    where
      never : {X : Type 0} (b : Bool) → not b ≡ true → b ≡ true → X
      never true e f = cc
      never false e f = cc

      go : (n : ℕ) → v.pins ≡ n → nat_eq v.pins 0 ≡ true
      go zero none = ap (λ k. nat_eq k 0) none
      go (suc n) some =
          let held = stands.held.each slot v there in
          never (is_in v.number (pinned_nodes plain)) unpinned (held_pinned plain v.number (omega (arith, some, held)))

  by_slot : (slot : ℕ) (o : Option HeldVnode) → object h.vnodes slot ≡ o → is_loose o ≡ true → list_any is_unpinned (kept_by fs).vnodes ≡ true
  by_slot slot None there loose = cc
  by_slot slot (Some v) there loose =
      one_passes is_unpinned v.number (keys_of fs.vnodes.order.pairs)
      (is_kept v.number fs.vnodes.order.pairs slot (stands.nodes.kept.only v.number slot (ap (option_map (λ (w : HeldVnode). w.number)) there)))
      (loose_unpinned slot v there loose)

  -- what may go is what isn't pinned
  pub may_evict : (what : Cached) → MayGo h what → can_evict plain (kept_by fs) what ≡ true
  may_evict Name may = some_there (length (kept_by fs).names) (subst (λ n. 0 < n) (as_many_names h fs plain.files.tree (pins_in plain) stands) may)
  may_evict Block may = some_there (length (kept_by fs).blocks) (subst (λ n. 0 < n) (as_many_blocks h fs plain.files.tree (pins_in plain) stands) may)
  may_evict Vnode may = let found = counted_passes is_loose h.vnodes may in by_slot found.0 (object h.vnodes found.0) refl found.1

  pub evict_may : (what : Cached) → can_evict plain (kept_by fs) what ≡ true → MayGo h what
  evict_may Name can = subst (λ n. 0 < n) (sym (as_many_names h fs plain.files.tree (pins_in plain) stands)) (there_some (length (kept_by fs).names) can)
  evict_may Block can = subst (λ n. 0 < n) (sym (as_many_blocks h fs plain.files.tree (pins_in plain) stands)) (there_some (length (kept_by fs).blocks) can)
  evict_may Vnode can =
      some_passes (0 < loose_count h.vnodes) is_unpinned (kept_by fs).vnodes can
      (each_kept nat_eq_equiv eqb-true (λ (v : HeldVnode). v.number) (λ node. is_unpinned node ≡ true → 0 < loose_count h.vnodes) h.vnodes fs.vnodes.order stands.nodes.kept
      (λ slot v there unpinned. passes_counted is_loose h.vnodes slot refl (ap is_loose there ∙ unpinned_loose slot v there unpinned)))

-- ---- what has gone

-- the keys of pairs in a row
keys_appended : (front back : List (ℕ × ℕ)) (number slot : ℕ) → keys_of (front ++ (number, slot) ∷ back) ≡ keys_of front ++ number ∷ keys_of back
keys_appended [] back number slot = refl
keys_appended (p ∷ front) back number slot = ap (λ ns. p.0 ∷ ns) (keys_appended front back number slot)

-- without the first loose one, where all before it are held
keys_removed : (objects : List (Option HeldVnode)) (o : Order ℕ) (front back : List (ℕ × ℕ)) (number slot : ℕ) → AreHeld objects o front → node_is_loose objects o number ≡ true
    → keys_of (remove_entry (nat_eq number) (front ++ (number, slot) ∷ back)) ≡ keys_of front ++ keys_of back
keys_removed objects o [] back number slot held loose = elim (eqb_tells number number) [
  | inl same ↦ ap (λ b. keys_of (cond b back ((number, slot) ∷ remove_entry (nat_eq number) back))) same.0
  | inr apart ↦ absurd (apart.1 refl)
]
keys_removed objects o (p ∷ front) back number slot held loose = elim (eqb_tells number p.0) [
  | inl same ↦ absurd (let both : true ≡ false = sym loose ∙ ap (node_is_loose objects o) same.1 ∙ held.0 in cc)
  | inr apart ↦
      ap (λ b. keys_of (cond b (front ++ (number, slot) ∷ back) (p ∷ remove_entry (nat_eq number) (front ++ (number, slot) ∷ back)))) apart.0
      ∙ ap (λ ns. p.0 ∷ ns) (keys_removed objects o front back number slot held.1 loose)
]

module _ (old new : Heap) (was is : TreeView) (plain : Plain) (stands : Stands old was plain.files.tree (pins_in plain)) where
  -- who had the slot was one that no one holds
  not_pinned : (slot : ℕ) (cold : nodes.ColdestGone slot old new was.vnodes is.vnodes) → list_any (λ pinned. pinned == cold.number) (pinned_nodes plain) ≡ false
  not_pinned slot cold = by_object (object old.vnodes slot) refl loose (stands.nodes.kept.there cold.number slot cold.gone.there)
    where
      loose : is_loose (object old.vnodes slot) ≡ true
      loose = ap (λ o. is_loose (option_and_then (object old.vnodes) o)) (sym cold.gone.there) ∙ cold.coldest.loose

      negated : (b : Bool) → not b ≡ true → b ≡ false
      negated true e = cc
      negated false e = refl

      by_object : (o : Option HeldVnode) → object old.vnodes slot ≡ o → is_loose o ≡ true → option_map (λ (v : HeldVnode). v.number) o ≡ Some cold.number
          → list_any (λ pinned. pinned == cold.number) (pinned_nodes plain) ≡ false
      by_object None there e f = cc
      by_object (Some v) there e f =
          let same : v.number ≡ cold.number = cc in
          subst (λ n. list_any (λ pinned. pinned == n) (pinned_nodes plain) ≡ false) same
          (negated (list_any (λ pinned. pinned == v.number) (pinned_nodes plain)) (loose_unpinned old was plain stands slot v there e))

  -- what is kept has lost one that isn't pinned
  pub loses : (what : Cached) → HasGone what old new was is → LosesFrom plain (kept_by was) what (kept_by is)
  loses Name gone =
      let cold = gone.1 in
      (name_in cold.key, record { front = []; back = (kept_by is).names; was = ap (λ ps. map name_in (keys_of ps)) cold.coldest; is = refl }, ap kept_by gone.2)
  loses Block gone =
      let cold = gone.1 in
      (cold.number, record { front = []; back = (kept_by is).blocks; was = ap (λ (ps : List (ℕ × ℕ)). keys_of ps) cold.coldest; is = refl }, ap kept_by gone.2)
  loses Vnode gone =
      let cold = gone.1 in
      let at = cold.coldest in (
        cold.number,
        not_pinned gone.0 cold,
        record {
          front = keys_of at.front;
          back = keys_of at.back;
          was = ap (λ (ps : List (ℕ × ℕ)). keys_of ps) at.pairs ∙ keys_appended at.front at.back cold.number at.slot;
          is = ap (λ (n : Nodes). keys_of n.order.pairs) cold.gone.cache
              ∙ ap (λ ps. keys_of (remove_entry (nat_eq cold.number) ps)) at.pairs
              ∙ keys_removed old.vnodes was.vnodes.order at.front at.back cold.number at.slot at.held at.loose;
        },
        ap kept_by gone.2,
      )

-- of the heap one cache has become another, and how often the disk was read is the same
pub gone_heap : (what : Cached) (old new : Heap) (was is : TreeView) → HasGone what old new was is
    → new ≡ record old { vnodes = new.vnodes; names = new.names; blocks = new.blocks }
gone_heap Name old new was is gone = gone.1.heap ∙ ap (λ names. record old { names = names }) (sym (ap (λ (h : Heap). h.names) gone.1.heap)) ∙ rest
  where
    rest : record old { names = new.names } ≡ record old { vnodes = new.vnodes; names = new.names; blocks = new.blocks }
    rest = ap (λ vnodes. record old { vnodes = vnodes; names = new.names }) (sym (ap (λ (h : Heap). h.vnodes) gone.1.heap))
        ∙ ap (λ blocks. record old { vnodes = new.vnodes; names = new.names; blocks = blocks }) (sym (ap (λ (h : Heap). h.blocks) gone.1.heap))
gone_heap Block old new was is gone = gone.1.heap ∙ ap (λ blocks. record old { blocks = blocks }) (sym (ap (λ (h : Heap). h.blocks) gone.1.heap)) ∙ rest
  where
    rest : record old { blocks = new.blocks } ≡ record old { vnodes = new.vnodes; names = new.names; blocks = new.blocks }
    rest = ap (λ vnodes. record old { vnodes = vnodes; blocks = new.blocks }) (sym (ap (λ (h : Heap). h.vnodes) gone.1.heap))
        ∙ ap (λ names. record old { vnodes = new.vnodes; names = names; blocks = new.blocks }) (sym (ap (λ (h : Heap). h.names) gone.1.heap))
gone_heap Vnode old new was is gone =
    let heap = gone.1.gone.heap in
    heap ∙ ap (λ vnodes. record old { vnodes = vnodes }) (sym (ap (λ (h : Heap). h.vnodes) heap))
    ∙ ap (λ names. record old { vnodes = new.vnodes; names = names }) (sym (ap (λ (h : Heap). h.names) heap))
    ∙ ap (λ blocks. record old { vnodes = new.vnodes; names = new.names; blocks = blocks }) (sym (ap (λ (h : Heap). h.blocks) heap))

gone_reads : (what : Cached) (old new : Heap) (was is : TreeView) → HasGone what old new was is → is.disk.reads ≡ was.disk.reads
gone_reads Name old new was is gone = ap (λ (fs : TreeView). fs.disk.reads) gone.2
gone_reads Block old new was is gone = ap (λ (fs : TreeView). fs.disk.reads) gone.2
gone_reads Vnode old new was is gone = ap (λ (fs : TreeView). fs.disk.reads) gone.2

-- ---- the objects

module _ (script : Script) (objects : Objects) (what : Cached) (heap : Heap) (fs : TreeView) (gone : HasGone what objects.heap heap objects.tree fs)
    (on : (tree : Tree) (pins : ℕ → ℕ) → Stands objects.heap objects.tree tree pins → Stands heap fs tree pins) where
  abbrev after : Objects
  after = record { heap = heap; procs = objects.procs; tree = fs; names = objects.names; fifos = objects.fifos; locks = objects.locks }

  beside : heap ≡ record objects.heap { vnodes = heap.vnodes; names = heap.names; blocks = heap.blocks }
  beside = gone_heap what objects.heap heap objects.tree fs gone

  pub kept_evicted : AreKept script objects → AreKept script after
  kept_evicted kept =
      let keeps : KeepsTree heap fs = (kept.caches.0, kept.caches.1, on kept.caches.0 kept.caches.1 kept.caches.2) in
      subst (λ (h : Heap). AreKept script (record { heap = h; procs = objects.procs; tree = fs; names = objects.names; fifos = objects.fifos; locks = objects.locks })) (sym beside)
      (kept_beside script objects heap.vnodes heap.names heap.blocks objects.heap.high objects.heap.marks objects.heap.last_high fs kept (subst (λ (h : Heap). KeepsTree h fs) beside keeps))

  -- they stand for the world without what has gone
  pub stands_evicted : (world : World) → StandsFor script objects world → (next : World) × StandsFor script after next × Evicts world what next
  stands_evicted world stands =
      let next : World = record world { kept = kept_by fs; reads = world.reads } in
      let has : HasTree after next = record {
        stands = on world.plain.files.tree (pins_in world.plain) stands.tree.stands;
        kept = refl;
        reads = stands.tree.reads ∙ sym (gone_reads what objects.heap heap objects.tree fs gone);
      } in (
        next,
        subst (λ (h : Heap). StandsFor script (record { heap = h; procs = objects.procs; tree = fs; names = objects.names; fifos = objects.fifos; locks = objects.locks }) next) (sym beside)
            (stands_beside script objects heap.vnodes heap.names heap.blocks objects.heap.high objects.heap.marks objects.heap.last_high fs world world.plain.files.tree (kept_by fs) world.reads stands stands.works
            (subst (λ (h : Heap). HasTree (record { heap = h; procs = objects.procs; tree = fs; names = objects.names; fifos = objects.fifos; locks = objects.locks }) next) beside has)),
        record {
          plain = refl;
          account = refl;
          kept = subst (λ (kept : Kept). LosesFrom world.plain kept what (kept_by fs)) (sym stands.tree.kept) (loses objects.heap heap objects.tree fs world.plain stands.tree.stands what gone);
          reads = refl;
        },
      )

-- it can be evicted in the world where it may go
pub can_where : (script : Script) (objects : Objects) (world : World) (what : Cached) → StandsFor script objects world → MayGo objects.heap what → can_evict world.plain world.kept what ≡ true
can_where script objects world what stands may =
    ap (λ (kept : Kept). can_evict world.plain kept what) stands.tree.kept ∙ may_evict objects.heap objects.tree world.plain stands.tree.stands what may

pub may_where : (script : Script) (objects : Objects) (world : World) (what : Cached) → StandsFor script objects world → can_evict world.plain world.kept what ≡ true → MayGo objects.heap what
may_where script objects world what stands can =
    evict_may objects.heap objects.tree world.plain stands.tree.stands what (sym (ap (λ (kept : Kept). can_evict world.plain kept what) stands.tree.kept) ∙ can)
