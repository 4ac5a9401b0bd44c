-- What stands in the midst of a change of the tree, and at its end.
use Rattle.std.proofs.Common.{◌≡◌, ◌≢◌, ℕ, ◌+◌, ◌<◌, ◌≤◌, true, List, length, Option, Some, None, IsSome, Result, Ok, Err, MatchResult, refl, sym, ap, ◌∙◌, subst, inl, inr, arith}
use Rattle.std.proofs.lemmas.Bool.{cases_eq}
use Rattle.kabi_types.specs.declared.errnos.Errno.{Errno}
use Rattle.kabi_types.specs.declared.inodes.Inode.{Inode}
use Rattle.kheap_slabs.specs.Objects.{object, InUse, put}
use Rattle.kheap_slabs.specs.Purse.{Purse}
use Rattle.kheap_slabs.specs.declared.objects.Name.{Name}
use Rattle.kheap_slabs.specs.declared.objects.Vnode.{Vnode}
use Rattle.kheap_slabs.proofs.ObjectLemmas.{object-put, object-put_other, InUse-within, InUse-put}
use Rattle.kheap_slabs.specs.Heap.{Heap}
use Rattle.kheap_slabs.specs.Paid.{HasFills, TakesNothing}
use Rattle.kheap_laws.proofs.PaidLemmas.{IsPaid-trans, IsPaid-nothing, CanPay-kept}
use Rattle.kheap_laws.proofs.FillLemmas.{AreFills-kept}
use Rattle.lru_index.specs.Order.{Order}
use Rattle.disk_layout.specs.Disk.{Disk}
use Rattle.posix_defs.specs.DiskTree.{StandsFor}
use Rattle.posix_defs.specs.SoundDisk.{HasNode}
use Rattle.posix_defs.specs.IsTree.{IsEntryName, IsNewContent, IsTree}
use Rattle.posix_defs.specs.Tree.{Content, Tree, found, is_directory}
use Rattle.posix_defs.specs.TreeChanges.{make}
use Rattle.tree_laws.specs.Untouched.{IsElsewhere}
use Rattle.tree_laws.proofs.TreeKeeps.{make_keeps}
use Rattle.tree_laws.proofs.OtherNodes.{make_names}
use Rattle.memfs_node.specs.NodeOnDisk.{AnswersAs, HasParent, KeepsOthers, content_of}
use Rattle.memfs_node.specs.declared.making.NewNode.{NewNode}
use Rattle.memfs_node.specs.declared.making.NewNode.TheVariants as kinds
use Rattle.name_cache.specs.Names.{KeepsNames, TrueNames}
use Rattle.vnode_cache.specs.Nodes.{Nodes, KeepsNodes, TrueNodes, IsLoose, AreLoose, is_loose, node_slot}
use Rattle.vnode_cache.specs.Calls.{NodeSet}
use Rattle.vnode_cache.proofs.TrueLemmas.{told_true, absent_true}
use Rattle.cached_disk.specs.Lent.{parts, AreLent, GoesOn}
use Rattle.cached_disk.specs.TreeLent.{HasPins, with_cached}
use Rattle.memfs_ops.specs.FileTree.{TreeView, Stands, MayWalk, Pays}
use Rattle.memfs_ops.specs.Fetching.{MayFetch}
use Rattle.memfs_ops.specs.Changing.{Between, MidWay, Lags, LagsAs, LedTo, DoneAs}
use Rattle.memfs_ops.proofs.PinLemmas.{IsCachedAs, cached_as}
use Rattle.memfs_ops.proofs.FetchLemmas.{names_stay, vnodes_stay}

-- a call that may walk may ask for blocks
pub fetch_of : (heap : Heap) (purse : Purse) → MayWalk heap purse → MayFetch heap purse
fetch_of heap purse may = record { pays = may.pays; fills = may.fills; few = may.few.2; some = may.some.2 }

-- where it stands for a tree, it does but for any node
pub lags_of : (number : ℕ) (heap : Heap) (fs : TreeView) (tree : Tree) (pins : ℕ → ℕ) → Stands heap fs tree pins → Lags number heap fs tree pins
lags_of number heap fs tree pins s = record {
  behind = s.behind;
  names = s.names;
  nodes = s.nodes;
  blocks = s.blocks;
  true_names = s.true_names;
  true_others = λ slot v there differs. s.true_nodes slot v there;
  true_blocks = s.true_blocks;
  held = s.held;
  root = s.root;
  room = s.room;
}

-- and where it does but for whichever node, it stands for that tree
pub stands_all : (heap : Heap) (fs : TreeView) (tree : Tree) (pins : ℕ → ℕ) → IsTree tree → ((number : ℕ) → Lags number heap fs tree pins) → Stands heap fs tree pins
stands_all heap fs tree pins is lags = record {
  behind = (lags 0).behind;
  is_tree = is;
  names = (lags 0).names;
  nodes = (lags 0).nodes;
  blocks = (lags 0).blocks;
  true_names = (lags 0).true_names;
  true_nodes = λ slot v there. (lags (v.number + 1)).true_others slot v there (λ same. omega (arith, same));
  true_blocks = (lags 0).true_blocks;
  held = (lags 0).held;
  root = (lags 0).root;
  room = (lags 0).room;
}

-- ---- the cached inode of a node becomes that of the disk

pins_renewed : (pins : ℕ → ℕ) (objects : List (Option Vnode)) (cache : Nodes) (number : ℕ) (inode : Inode) → HasPins pins objects → (at : IsCachedAs objects cache number) → HasPins pins (put objects at.slot (record at.vnode { inode = inode }))
pins_renewed pins objects cache number inode has at = record {
  each = λ s v there. elim (cases_eq s at.slot) [
    | inl e ↦
        let both : Some now ≡ Some v = sym stored ∙ ap (object (put objects at.slot now)) (sym e) ∙ there in
        let one : now ≡ v = cc in
        subst (λ (w : Vnode). w.pins ≡ pins w.number) one (has.each at.slot at.vnode at.is)
    | inr differs ↦ has.each s v (sym (object-put_other objects at.slot s now differs) ∙ there)
  ];
  held = λ other some.
      let there = has.held other some in
      elim (cases_eq there.0 at.slot) [
        | inl e ↦
            let both : Some there.1 ≡ Some at.vnode = sym there.2 ∙ ap (object objects) e ∙ at.is in
            let one : there.1 ≡ at.vnode = cc in
            (at.slot, now, stored, ap (λ (v : Vnode). v.number) (sym one) ∙ there.3)
        | inr differs ↦ (there.0, there.1, object-put_other objects at.slot there.0 now differs ∙ there.2, there.3)
      ];
}
  where
    now : Vnode
    now = record at.vnode { inode = inode }

    stored : object (put objects at.slot now) at.slot ≡ Some now
    stored = object-put objects at.slot now (InUse-within objects at.slot (subst (λ (o : Option Vnode). IsSome o) (sym at.is) refl))

module _ (old new : Heap) (fs : TreeView) (told tree : Tree) (pins : ℕ → ℕ) (number : ℕ) (inode : Inode) (lags : Between number old fs told tree pins) (has : HasNode fs.disk.blocks number inode) where
  -- it is cached
  pub renewed : (nodes : Nodes) → IsSome (node_slot fs.vnodes number) → NodeSet number (λ was. record was { inode = inode }) old new fs.vnodes nodes → KeepsNodes new.vnodes nodes → nodes ≡ fs.vnodes → MidWay new (record fs { vnodes = nodes }) told tree pins
  renewed nodes some set keeps same other =
      let at = cached_as old.vnodes fs.vnodes number lags.nodes some in
      let is = set at.slot at.vnode at.there at.is in
      let all : TrueNodes (HasNode fs.disk.blocks) (put old.vnodes at.slot (record at.vnode { inode = inode })) =
      told_true (λ n i. n ≢ number → HasNode fs.disk.blocks n i) (HasNode fs.disk.blocks) old.vnodes fs.vnodes number at.slot at.vnode inode lags.true_others lags.nodes (λ n i differs was. was differs) at.there at.is has in
      subst (λ (h : Heap). Between other h (record fs { vnodes = nodes }) told tree pins) (sym is) (record {
        behind = lags.behind;
        names = lags.names;
        nodes = subst (λ (h : Heap). KeepsNodes h.vnodes nodes) is keeps;
        blocks = lags.blocks;
        true_names = lags.true_names;
        true_others = λ slot v there differs. all slot v there;
        true_blocks = lags.true_blocks;
        held = pins_renewed pins old.vnodes fs.vnodes number inode lags.held at;
        root = lags.root;
        room = record { names = lags.room.names; nodes = rw (ap (λ (n : Nodes). n.order.capacity) same) lags.room.nodes; blocks = lags.room.blocks };
      })

  -- it isn't
  pub not_cached : node_slot fs.vnodes number ≡ None → MidWay old fs told tree pins
  not_cached none other =
      let all : TrueNodes (HasNode fs.disk.blocks) old.vnodes =
      absent_true (λ n i. n ≢ number → HasNode fs.disk.blocks n i) (HasNode fs.disk.blocks) old.vnodes fs.vnodes number lags.true_others lags.nodes (λ n i differs was. was differs) none in
      record {
        behind = lags.behind;
        names = lags.names;
        nodes = lags.nodes;
        blocks = lags.blocks;
        true_names = lags.true_names;
        true_others = λ slot v there differs. all slot v there;
        true_blocks = lags.true_blocks;
        held = lags.held;
        root = lags.root;
        room = lags.room;
      }

-- the Vnodes alone are other, and each is there still
pub only_renewed : (old new : Heap) (had has : Nodes) (number : ℕ) (inode : Inode) → KeepsNodes old.vnodes had → IsSome (node_slot had number) → NodeSet number (λ was. record was { inode = inode }) old new had has → new ≡ record old { vnodes = new.vnodes }
only_renewed old new had has number inode keeps some set =
    let at = cached_as old.vnodes had number keeps some in
    let is = set at.slot at.vnode at.there at.is in
    is ∙ ap (λ (h : Heap). record old { vnodes = h.vnodes }) (sym is)

pub used_renewed : (old new : Heap) (had has : Nodes) (number : ℕ) (inode : Inode) → KeepsNodes old.vnodes had → IsSome (node_slot had number) → NodeSet number (λ was. record was { inode = inode }) old new had has → (slot : ℕ) → InUse old.vnodes slot → InUse new.vnodes slot
used_renewed old new had has number inode keeps some set slot used =
    let at = cached_as old.vnodes had number keeps some in
    let is = set at.slot at.vnode at.there at.is in
    subst (λ (h : Heap). InUse h.vnodes slot) (sym is) (InUse-put old.vnodes at.slot (record at.vnode { inode = inode }) slot (subst (λ (o : Option Vnode). IsSome o) (sym at.is) refl) used)

pub loose_renewed : (old new : Heap) (had has : Nodes) (number : ℕ) (inode : Inode) → KeepsNodes old.vnodes had → IsSome (node_slot had number) → NodeSet number (λ was. record was { inode = inode }) old new had has → (slot : ℕ) → IsLoose old.vnodes slot → IsLoose new.vnodes slot
loose_renewed old new had has number inode keeps some set slot loose =
    let at = cached_as old.vnodes had number keeps some in
    let is = set at.slot at.vnode at.there at.is in
    let now : Vnode = record at.vnode { inode = inode } in
    subst (λ (h : Heap). IsLoose h.vnodes slot) (sym is) (elim (cases_eq slot at.slot) [
      | inl e ↦
          let stored : object (put old.vnodes at.slot now) slot ≡ Some now = ap (object (put old.vnodes at.slot now)) e ∙ object-put old.vnodes at.slot now (InUse-within old.vnodes at.slot (subst (λ (o : Option Vnode). IsSome o) (sym at.is) refl)) in
          ap is_loose stored ∙ sym (ap is_loose (ap (object old.vnodes) e ∙ at.is)) ∙ loose
      | inr n ↦ ap is_loose (object-put_other old.vnodes at.slot slot now n) ∙ loose
    ])

-- ---- a node of the disk changes

module _ (old new : Heap) (before after : Purse) (was : TreeView) (blocks : Order ℕ) (disk : Disk) (on : GoesOn (parts old before was.blocks was.disk) (parts new after blocks disk)) (lent : AreLent new after blocks disk) where
  -- the other nodes have their inodes, and the names that are cached lead where they led
  pub changed_lags : (number : ℕ) (tree next : Tree) (pins : ℕ → ℕ) → Lags number old was tree pins → KeepsOthers number was.disk.blocks disk.blocks → StandsFor disk.blocks next
      → ((slot : ℕ) (n : Name) → object old.names slot ≡ Some n → found tree n.dir n.name ≡ Some n.node → found next n.dir n.name ≡ Some n.node) → Lags number new (record was { blocks = blocks; disk = disk }) next pins
  changed_lags number tree next pins s others behind leads = record {
    behind = behind;
    names = subst (λ (o : List (Option Name)). KeepsNames o was.names) (sym (names_stay old new before after was blocks disk on lent)) s.names;
    nodes = subst (λ (o : List (Option Vnode)). KeepsNodes o was.vnodes) (sym (vnodes_stay old new before after was blocks disk on lent)) s.nodes;
    blocks = lent.keeps;
    true_names = subst (λ (o : List (Option Name)). TrueNames (found next) o) (sym (names_stay old new before after was blocks disk on lent)) (λ slot n there. leads slot n there (s.true_names slot n there));
    true_others = subst (λ (o : List (Option Vnode)). TrueNodes (λ other inode. other ≢ number → HasNode disk.blocks other inode) o) (sym (vnodes_stay old new before after was blocks disk on lent)) (λ slot v there differs. others.nodes v.number v.inode differs (s.true_others slot v there differs));
    true_blocks = lent.true_blocks;
    held = subst (λ (o : List (Option Vnode)). HasPins pins o) (sym (vnodes_stay old new before after was blocks disk on lent)) s.held;
    root = s.root;
    room = record { names = rw on.paid.heap s.room.names; nodes = rw (on.paid.heap, others.blocks) s.room.nodes; blocks = lent.room };
  }

-- ---- a node is made

-- a name that leads somewhere is not the free one
elsewhere : (tree : Tree) (dir : ℕ) (name : List ℕ) (n : Name) → found tree dir name ≡ None → found tree n.dir n.name ≡ Some n.node → IsElsewhere dir name n.dir n.name
elsewhere tree dir name n free is = elim (cases_eq n.dir dir) [
  | inl same ↦ inr (λ called.
      let here : found tree dir name ≡ Some n.node = ap (λ d. found tree d name) (sym same) ∙ ap (found tree n.dir) (sym called) ∙ is in
      let none : ◌≡◌ {A = Option ℕ} None (Some n.node) = sym free ∙ here in
      absurd (cc))
  | inr differs ↦ inl differs
]

pub made_lags : (old new : Heap) (before after : Purse) (was : TreeView) (blocks : Order ℕ) (disk : Disk) → GoesOn (parts old before was.blocks was.disk) (parts new after blocks disk) → AreLent new after blocks disk
    → (tree : Tree) (pins : ℕ → ℕ) (parent : ℕ) (name : List ℕ) (content : Content) → Stands old was tree pins → is_directory tree parent ≡ true → found tree parent name ≡ None → IsEntryName name → IsNewContent parent content → KeepsOthers parent was.disk.blocks disk.blocks
    → (led : Result (ℕ × Tree) Errno) (answer : Result ℕ Errno) → make tree parent name content ≡ led → AnswersAs was.disk.blocks disk.blocks led answer → LagsAs parent new (record was { blocks = blocks; disk = disk }) tree led pins answer
made_lags old new before after was blocks disk on lent tree pins parent name content s is_dir free valid content_new others (Ok (number, next)) answer at is = (
  is.0,
  make_keeps tree parent name content number next s.is_tree is_dir valid free content_new at,
  changed_lags old new before after was blocks disk on lent parent tree next pins (lags_of parent old was tree pins s) others is.1 (λ slot n there leads. make_names tree parent name content number next is_dir content_new at n.dir n.name (elsewhere tree parent name n free leads) ∙ leads),
)
made_lags old new before after was blocks disk on lent tree pins parent name content s is_dir free valid content_new others (Err errno) answer at is = (
  is.0,
  s.is_tree,
  changed_lags old new before after was blocks disk on lent parent tree tree pins (lags_of parent old was tree pins s) others (subst (λ (d : List (List ℕ)). StandsFor d tree) (sym is.1) s.behind) (λ slot n there leads. leads),
)

-- a new directory has a parent
pub has_parent : (parent : ℕ) (new : NewNode) → 0 < parent → IsNewContent parent (content_of new) → HasParent new
has_parent parent kinds.File some is = tt
has_parent parent (kinds.Directory above) some is = omega (arith, is.0, some)
has_parent parent kinds.SocketName some is = tt
has_parent parent kinds.Fifo some is = tt

-- at the end the cached inode is that of the disk
pub lags_led : (number : ℕ) (heap last : Heap) (fs end : TreeView) (tree : Tree) (led : Result (ℕ × Tree) Errno) (pins : ℕ → ℕ) (answer : Result ℕ Errno) → LagsAs number heap fs tree led pins answer
    → ((t : Tree) → Lags number heap fs t pins → (other : ℕ) → Lags other last end t pins) → LedTo last end tree led pins answer
lags_led number heap last fs end tree (Ok (made, next)) pins answer is renew = (is.0, stands_all last end next pins is.1 (renew next is.2))
lags_led number heap last fs end tree (Err errno) pins answer is renew = (is.0, stands_all last end tree pins is.1 (renew tree is.2))

-- some tree is lagged for
pub some_lags : (number : ℕ) (heap : Heap) (fs : TreeView) (tree : Tree) (led : Result (ℕ × Tree) Errno) (pins : ℕ → ℕ) (answer : Result ℕ Errno) → LagsAs number heap fs tree led pins answer → (t u : Tree) × (p : ℕ → ℕ) × Between number heap fs t u p
some_lags number heap fs tree (Ok (made, next)) pins answer is = (next, next, pins, is.2)
some_lags number heap fs tree (Err errno) pins answer is = (tree, tree, pins, is.2)

-- ---- what a change leaves of all else

pub pays_changed : (old new last : Heap) (before after : Purse) (was is end : TreeView) → GoesOn (parts old before was.blocks was.disk) (parts new after is.blocks is.disk) → MayFetch new after → last ≡ record new { vnodes = last.vnodes } → ((slot : ℕ) → InUse new.vnodes slot → InUse last.vnodes slot)
    → TakesNothing new last → end ≡ is → Pays old last before after was end
pays_changed old new last before after was is end on may only used takes same =
    let e : last ≡ record old { vnodes = last.vnodes; blocks = new.blocks; high = new.high } = only ∙ ap (λ (h : Heap). record h { vnodes = last.vnodes }) on.heap in
    record {
      only = e ∙ ap (λ (h : Heap). record old { vnodes = last.vnodes; names = h.names; blocks = h.blocks; high = h.high }) (sym e);
      purse = on.purse ∙ ap (with_cached before) (sym on.purse);
      paid = IsPaid-trans old before new after last after on.paid (IsPaid-nothing new last after after takes refl refl);
      fills = subst (λ (h : Heap). HasFills h after) (sym only) (record {
        vnodes = AreFills-kept new.vnodes last.vnodes after.vnodes after.left.vnode after.need.vnode (λ key there is_used. used key is_used) may.fills.vnodes;
        names = may.fills.names;
        blocks = may.fills.blocks;
      });
      reads = subst (λ (v : TreeView). was.disk.reads ≤ v.disk.reads) (sym same) on.reads;
    }

-- after a change a call may walk still
pub walk_still : (old new last : Heap) (before after : Purse) (was is : TreeView) → MayWalk old before → GoesOn (parts old before was.blocks was.disk) (parts new after is.blocks is.disk) → MayFetch new after → last ≡ record new { vnodes = last.vnodes }
    → ((slot : ℕ) → InUse new.vnodes slot → InUse last.vnodes slot) → ((slot : ℕ) → IsLoose new.vnodes slot → IsLoose last.vnodes slot) → TakesNothing new last → MayWalk last after
walk_still old new last before after was is may on fetch only used loose takes =
    let filled : after.vnodes ≡ before.vnodes = ap (λ (p : Purse). p.vnodes) on.purse in
    let vnodes : new.vnodes ≡ old.vnodes = ap (λ (h : Heap). h.vnodes) on.heap in
    let loose_new : AreLoose new.vnodes after.vnodes = subst (λ (k : List ℕ). AreLoose new.vnodes k) (sym filled) (subst (λ (o : List (Option Vnode)). AreLoose o before.vnodes) (sym vnodes) may.loose) in
    let need = on.paid.need in
    record {
      pays = CanPay-kept new last after after (IsPaid-nothing new last after after takes refl refl) fetch.pays;
      fills = subst (λ (h : Heap). HasFills h after) (sym only) (record {
        vnodes = AreFills-kept new.vnodes last.vnodes after.vnodes after.left.vnode after.need.vnode (λ key there is_used. used key is_used) fetch.fills.vnodes;
        names = fetch.fills.names;
        blocks = fetch.fills.blocks;
      });
      loose = λ slot there. loose slot (loose_new slot there);
      few = (rw (ap (λ n. n.name) need) may.few.0, rw (ap (λ n. n.vnode) need) may.few.1, fetch.few);
      some = (
        subst (λ (p : Purse). 0 < p.left.name + length p.names) (sym on.purse) may.some.0,
        subst (λ (p : Purse). 0 < p.left.vnode + length p.vnodes) (sym on.purse) may.some.1,
        fetch.some,
      );
    }

pub done_of : (heap : Heap) (fs : TreeView) (tree : Tree) (led : Result (ℕ × Tree) Errno) (pins : ℕ → ℕ) (answer : Result ℕ Errno) (told : Result (Unit {0}) Errno) → LedTo heap fs tree led pins answer
    → ((made : ℕ) → answer ≡ Ok made → told ≡ Ok tt) → ((errno : Errno) → answer ≡ Err errno → told ≡ Err errno) → DoneAs heap fs tree led pins told
done_of heap fs tree (Ok (made, next)) pins answer told is ok err = (ok made is.0, is.1)
done_of heap fs tree (Err errno) pins answer told is ok err = (err errno is.0, is.1)

pub told_done : (answer : Result ℕ Errno) (told : Result (Unit {0}) Errno) (made : ℕ) → answer ≡ Ok made → MatchResult answer (λ _. told ≡ Ok tt) (λ errno. told ≡ Err errno) → told ≡ Ok tt
told_done (Ok n) told made is says = says
told_done (Err e) told made is says = absurd (cc)

pub told_fault : (answer : Result ℕ Errno) (told : Result (Unit {0}) Errno) (errno : Errno) → answer ≡ Err errno → MatchResult answer (λ _. told ≡ Ok tt) (λ e. told ≡ Err e) → told ≡ Err errno
told_fault (Ok n) told errno is says = absurd (cc)
told_fault (Err e) told errno is says = let same : e ≡ errno = cc in says ∙ ap Err same

-- some tree stands at the end
pub some_done : (heap : Heap) (fs : TreeView) (tree : Tree) (led : Result (ℕ × Tree) Errno) (pins : ℕ → ℕ) (answer : Result (Unit {0}) Errno) → DoneAs heap fs tree led pins answer → (t : Tree) × Stands heap fs t pins
some_done heap fs tree (Ok (made, next)) pins answer is = (next, is.1)
some_done heap fs tree (Err errno) pins answer is = (tree, is.1)

pub some_led : (heap : Heap) (fs : TreeView) (tree : Tree) (led : Result (ℕ × Tree) Errno) (pins : ℕ → ℕ) (answer : Result ℕ Errno) → LedTo heap fs tree led pins answer → (t : Tree) × Stands heap fs t pins
some_led heap fs tree (Ok (made, next)) pins answer is = (next, is.1)
some_led heap fs tree (Err errno) pins answer is = (tree, is.1)
