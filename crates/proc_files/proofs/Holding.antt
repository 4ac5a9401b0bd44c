-- Heap, table and tree go on standing for files.
use Rattle.std.proofs.Common.{◌≡◌, ℕ, ◌+◌, ◌%◌, ◌<◌, ℤ, true, false, [], IsSome, Option, None, Some, refl, sym, ap, subst, ◌∙◌, arith, inl, inr}
use Rattle.std.specs.Prelude.{is_some}
use Rattle.std.specs.Option.{option_map}
use Rattle.std.proofs.lemmas.Bool.{cases_eq}
use Rattle.std.proofs.lemmas.List.{get_or-set_other, get_or-set_same}
use Rattle.kheap_slabs.specs.Objects.{object}
use Rattle.kheap_slabs.specs.declared.objects.Desc.{Desc}
use Rattle.kheap_slabs.specs.declared.objects.Descriptor.{Descriptor as HeldDescriptor}
use Rattle.kheap_slabs.specs.declared.objects.Target.{Target}
use Rattle.kheap_slabs.specs.declared.objects.Target.TheVariants as target
use Rattle.kheap_slabs.proofs.ObjectLemmas.{InUse-within}
use Rattle.kheap_slabs.specs.Heap.{Heap}
use Rattle.block_cache.specs.Blocks.{KeepsBlocks, TrueToDisk}
use Rattle.name_cache.specs.Names.{KeepsNames, TrueNames}
use Rattle.vnode_cache.specs.Nodes.{KeepsNodes, TrueNodes}
use Rattle.cached_disk.specs.TreeLent.{HasPins}
use Rattle.memfs_ops.specs.FileTree.{HasRoom, HeldSome, Stands, TreeView}
use Rattle.open_laws.specs.Described.{counted_in, inode_in, node_in, target_in}
use Rattle.open_laws.specs.Owned.{HasItsOwners, IsThereFor}
use Rattle.open_laws.specs.Piped.{ArePiped}
use Rattle.open_laws.specs.Placed.{Numbers}
use Rattle.posix_defs.specs.Calls.Opened.{Opened, opened_at}
use Rattle.posix_defs.specs.Files.Descriptions.{Description, OnNode, at_offset, description_at}
use Rattle.posix_defs.specs.Files.State.{Files, described_as, node_of}
use Rattle.posix_defs.specs.Reaching.{is_on_node}
use Rattle.posix_defs.specs.SoundDisk.{HasNode}
use Rattle.posix_defs.specs.Tree.{Tree, found, is_directory}
use Rattle.proc_table.specs.Table.{TableView, key_of}
use Rattle.proc_numbers.specs.Having.{AreListed, HaveOpen}
use Rattle.proc_numbers.specs.Naming.{named_by}
use Rattle.proc_numbers.proofs.NumberNames.{desc_named_by, opened_nothing, opened_so}
use Rattle.proc_table.proofs.PlaceLemmas.{some_same}
use Rattle.proc_numbers.specs.Found.{opened_in}
use Rattle.proc_numbers.specs.declared.lookups.Found.{Found}
use Rattle.proc_numbers.specs.declared.lookups.Named.{Named}
use Rattle.proc_numbers.proofs.NamedOpen.{described_so}
use Rattle.proc_numbers.specs.Found.{IsOnNode, IsOpened}
use Rattle.proc_numbers.proofs.OpenedBy.{opened_is}
use Rattle.proc_files.specs.Holding.{CachesStay, HoldFiles, HoldSome, IsHeldIn}
use Rattle.proc_files.specs.Holders.{AreOpenNodes, holders, IsOpenNode, times}
use Rattle.proc_files.proofs.Moved.{have_moved, with_it}
use Rattle.proc_files.proofs.FifoTargets.{node_placed, node_same}
use Rattle.proc_files.proofs.Openings.{all_same, nodes_set, opens_once, same_node}

-- ---- the tree

-- over a heap that is as large, and has the same of the three classes
pub stands_on : (old new : Heap) (fs : TreeView) (tree : Tree) (pins : ℕ → ℕ) → CachesStay old new → Stands old fs tree pins → Stands new fs tree pins
stands_on old new fs tree pins stay stands = record {
  behind = stands.behind;
  is_tree = stands.is_tree;
  names = subst (λ objects. KeepsNames objects fs.names) (sym stay.names) stands.names;
  nodes = subst (λ objects. KeepsNodes objects fs.vnodes) (sym stay.vnodes) stands.nodes;
  blocks = subst (λ objects. KeepsBlocks objects fs.blocks) (sym stay.blocks) stands.blocks;
  true_names = subst (TrueNames (found tree)) (sym stay.names) stands.true_names;
  true_nodes = subst (TrueNodes (HasNode fs.disk.blocks)) (sym stay.vnodes) stands.true_nodes;
  true_blocks = subst (TrueToDisk fs.disk.blocks) (sym stay.blocks) stands.true_blocks;
  held = subst (HasPins pins) (sym stay.vnodes) stands.held;
  root = stands.root;
  room = room_on old new fs stay.size stands.room;
}
  where
    room_on : (old new : Heap) (fs : TreeView) → new.heap ≡ old.heap → HasRoom old fs → HasRoom new fs
    room_on old new fs size room = record { names = rw size room.names; nodes = rw size room.nodes; blocks = rw size room.blocks }

-- where as many hold each node
pub same_pins : (h : Heap) (fs : TreeView) (tree : Tree) (pins now : ℕ → ℕ) → ((number : ℕ) → pins number ≡ now number) → Stands h fs tree pins → Stands h fs tree now
same_pins h fs tree pins now same stands = record {
  behind = stands.behind;
  is_tree = stands.is_tree;
  names = stands.names;
  nodes = stands.nodes;
  blocks = stands.blocks;
  true_names = stands.true_names;
  true_nodes = stands.true_nodes;
  true_blocks = stands.true_blocks;
  held = record {
    each = λ slot v there. stands.held.each slot v there ∙ same v.number;
    held = λ number some. stands.held.held number (subst (λ n. 0 < n) (sym (same number)) some);
  };
  root = subst (λ n. 0 < n) (same _) stands.root;
  room = stands.room;
}

-- ---- what is open on a node

module _ (numbers : Numbers) (others : ℕ → ℕ) (h : Heap) (kept : TableView) (fs : TreeView) (files : Files) (hold : HoldFiles numbers others h kept fs files)
    (key number : ℕ) (desc : Desc) (is : object h.descs key ≡ Some desc) (on : desc.target ≡ target.Inode number) where
  pub described_there : description_at files.descriptions (numbers.descs key) ≡ Some (counted_in numbers desc).is
  described_there = described_so numbers h hold.opened.list files key desc hold.opened.opened is

  pub on_there : (counted_in numbers desc).is.target ≡ OnNode number
  on_there = ap (target_in numbers) on

  its_node : node_of files (counted_in numbers desc).is.target ≡ Some number
  its_node = ap (node_of files) on_there

  -- is as it should be
  pub open_node : IsOpenNode files.tree (counted_in numbers desc).is number
  open_node = hold.nodes (numbers.descs key) number (counted_in numbers desc).is described_there its_node

  -- and is held
  pub open_held : 0 < holders others files number
  open_held = let some = opens_once files files.descriptions (numbers.descs key) number (counted_in numbers desc).is described_there its_node in omega (arith, some)

-- the node of what is open is held
pub held_some : (h : Heap) (kept : TableView) (fs : TreeView) → HoldSome h kept fs → (key number : ℕ) (desc : Desc) → object h.descs key ≡ Some desc → desc.target ≡ target.Inode number
    → HeldSome h fs number
held_some h kept fs some key number desc is on =
    (some.files.tree, holders some.others some.files, some.hold.tree, open_held some.numbers some.others h kept fs some.files some.hold key number desc is on)

pub held_in : (h : Heap) (kept : TableView) (fs : TreeView) → HasItsOwners h [] → HoldSome h kept fs → (key : ℕ) (desc : Desc) → object h.descs key ≡ Some desc → IsHeldIn h fs desc.target
held_in h kept fs owners some key desc is = by_target desc.target refl (owners.held.targets key desc is)
  where
    described : description_at some.files.descriptions (some.numbers.descs key) ≡ Some (counted_in some.numbers desc).is
    described = described_so some.numbers h some.hold.opened.list some.files key desc some.hold.opened.opened is

    held_once : (node : ℕ) → node_of some.files (counted_in some.numbers desc).is.target ≡ Some node → 0 < holders some.others some.files node
    held_once node on =
        let once = opens_once some.files some.files.descriptions (some.numbers.descs key) node (counted_in some.numbers desc).is described on in omega (arith, once)

    by_target : (what : Target) → desc.target ≡ what → IsThereFor h desc.access what → IsHeldIn h fs what
    by_target (target.Inode number) on there = held_some h kept fs some key number desc is on
    by_target (target.Pipe pipe) on there = (
      owners.held.stand pipe there.0,
      λ node has. (
        some.files.tree,
        holders some.others some.files,
        some.hold.tree,
        held_once node (ap (λ w. node_of some.files (target_in some.numbers w)) on ∙ node_placed some.numbers h some.files some.hold.opened.opened.piped pipe there.0 ∙ has),
      ),
    )
    by_target (target.Sock sock) on there = tt

-- what a call's number names in the machine is what was found, or nothing
pub as_found : (h : Heap) (kept : TableView) (pid : ℕ) (on : Named) → IsOpened h kept pid on → (numbers : Numbers) (files : Files) → HaveOpen numbers h kept files → (o : Option Found) → on.found ≡ o
    → opened_at files pid on.fd ≡ option_map (opened_in numbers) o
as_found h kept pid on opened numbers files have o is = opened_is h kept pid on opened numbers files have ∙ ap (option_map (opened_in numbers)) is

-- what isn't open on a node has none
pub off_node : (numbers : Numbers) (h : Heap) (files : Files) (pid : ℕ) (fd : ℤ) (it : Found) → ArePiped numbers h files.pipes → IsThereFor h it.desc.access it.desc.target
    → opened_at files pid fd ≡ Some (opened_in numbers it) → is_on_node files (opened_at files pid fd) ≡ false → node_in h.pipes it.desc.target ≡ None
off_node numbers h files pid fd it are there found off =
    sym (node_same numbers h files are it.desc.access it.desc.target there)
    ∙ none_so (node_of files (target_in numbers it.desc.target)) (sym (ap (is_on_node files) found) ∙ off)
  where
    none_so : (o : Option ℕ) → is_some o ≡ false → o ≡ None
    none_so None is = refl
    none_so (Some n) is = absurd (let both : true ≡ false = is in cc)

pub on_node : (numbers : Numbers) (files : Files) (pid : ℕ) (fd : ℤ) (it : Found) (node : ℕ) → opened_at files pid fd ≡ Some (opened_in numbers it) → it.desc.target ≡ target.Inode node
    → is_on_node files (opened_at files pid fd) ≡ false → ⊥
on_node numbers files pid fd it node found on off =
    let both : true ≡ false = sym (ap (is_on_node files) found ∙ ap (λ w. is_some (node_of files (target_in numbers w))) on) ∙ off in cc

-- a target that is no node by its number
pub no_node : (what : Target) → ((number : ℕ) → what ≡ target.Inode number → ⊥) → inode_in what ≡ None
no_node (target.Inode number) never = absurd (never number refl)
no_node (target.Pipe key) never = refl
no_node (target.Sock key) never = refl

-- a number that is open is open on a node where that is asked
pub only_node : (h : Heap) (kept : TableView) (pid : ℕ) (fd : ℤ) (it : Found) → AreListed h kept → HasItsOwners h [] → IsSome (key_of kept.listed pid) → {fs : TreeView} → HoldSome h kept fs → IsOnNode h kept pid fd
    → object h.descs it.key ≡ Some it.desc → ((numbers : Numbers) (files : Files) → HaveOpen numbers h kept files → opened_at files pid fd ≡ Some (opened_in numbers it))
    → ((number : ℕ) → it.desc.target ≡ target.Inode number → ⊥) → ⊥
only_node h kept pid fd it listed owners in_table some on there found never = by_name (named_by h kept pid fd) refl
  where
    now : opened_at some.files pid fd ≡ Some (opened_in some.numbers it)
    now = found some.numbers some.files some.hold.opened

    none_some : (o : Option ℕ) → o ≡ None → IsSome o → ⊥
    none_some None none is = cc
    none_some (Some n) none is = cc

    by_name : (o : Option HeldDescriptor) → named_by h kept pid fd ≡ o → ⊥
    by_name None name =
        let nothing : None ≡ Some (opened_in some.numbers it) = sym (opened_nothing some.numbers h kept some.files pid some.hold.opened fd name) ∙ now in cc
    by_name (Some held) name =
        let desc = desc_named_by h kept [] listed owners pid fd held name in
        let so = opened_so some.numbers h kept some.files pid some.hold.opened fd held desc.0 name desc.1 in
        let places : some.numbers.descs held.desc ≡ some.numbers.descs it.key =
        ap (λ (o : Opened). o.place) (some_same (opened_at some.files pid fd) (record { place = some.numbers.descs held.desc; is = (counted_in some.numbers desc.0).is }) (opened_in some.numbers it) so now) in
        let keys : held.desc ≡ it.key = some.hold.opened.opened.described.once held.desc it.key (ap is_some desc.1) (ap is_some there) places in
        let same : desc.0 ≡ it.desc = some_same (object h.descs it.key) desc.0 it.desc (ap (object h.descs) (sym keys) ∙ desc.1) there in
        none_some (inode_in it.desc.target) (no_node it.desc.target never) (subst (λ (d : Desc). IsSome (inode_in d.target)) same (on held desc.0 name desc.1))

-- ---- a step

-- the tree stands for what it stood for
pub hold_on : (numbers : Numbers) (others : ℕ → ℕ) (h : Heap) (kept : TableView) (fs now : TreeView) (files : Files) → ((tree : Tree) (pins : ℕ → ℕ) → Stands h fs tree pins → Stands h now tree pins)
    → HoldFiles numbers others h kept fs files → HoldFiles numbers others h kept now files
hold_on numbers others h kept fs now files stands hold =
    record { opened = hold.opened; tree = stands files.tree (holders others files) hold.tree; nodes = hold.nodes; beside = hold.beside }

pub some_on : (h : Heap) (kept : TableView) (fs now : TreeView) → ((tree : Tree) (pins : ℕ → ℕ) → Stands h fs tree pins → Stands h now tree pins) → HoldSome h kept fs → HoldSome h kept now
some_on h kept fs now stands some =
    record { numbers = some.numbers; others = some.others; files = some.files; hold = hold_on some.numbers some.others h kept fs now some.files stands some.hold }

-- a description of a node is at another offset
module _ (old : Heap) (kept : TableView) (fs : TreeView) (key number : ℕ) (desc : Desc) (offset : ℕ) (is : object old.descs key ≡ Some desc) (on : desc.target ≡ target.Inode number) where
  pub hold_moved : (numbers : Numbers) (others : ℕ → ℕ) (files : Files) → (is_directory files.tree number ≡ true → offset % 32 ≡ 0) → HoldFiles numbers others old kept fs files
      → HoldFiles numbers others (with_it old key desc offset is) kept fs (described_as files (numbers.descs key) (at_offset (counted_in numbers desc).is offset))
  hold_moved numbers others files between hold = record {
    opened = have_moved old key desc offset is numbers kept files hold.opened;
    tree =
        same_pins new fs files.tree (holders others files) (holders others after)
        (λ n. ap (λ nodes. others n + times n nodes) (sym (nodes_set after files files.descriptions place was now (all_same after files files.descriptions refl) there refl)))
        (stands_on old new fs files.tree (holders others files) (record { vnodes = refl; names = refl; blocks = refl; size = refl }) hold.tree);
    nodes = nodes_now;
    beside = hold.beside;
  }
    where
      new : Heap
      new = with_it old key desc offset is

      place : ℕ
      place = numbers.descs key

      was : Description
      was = (counted_in numbers desc).is

      now : Description
      now = at_offset was offset

      after : Files
      after = described_as files place now

      there : description_at files.descriptions place ≡ Some was
      there = described_there numbers others old kept fs files hold key number desc is on

      it : IsOpenNode files.tree was number
      it = open_node numbers others old kept fs files hold key number desc is on

      opened_now : (other : ℕ) → other ≡ number → IsOpenNode files.tree now other
      opened_now other same = subst (IsOpenNode files.tree now) (sym same) (record { used = it.used; unnamed = it.unnamed; reads = it.reads; between = between; no_fifo = it.no_fifo })

      node_so : (one other : ℕ) → Some one ≡ Some other → other ≡ one
      node_so one other e = cc

      nodes_now : AreOpenNodes after
      nodes_now at other d is_there target_is = elim (cases_eq at place) [
        | inl same ↦
            let here : d ≡ now = some_same (description_at after.descriptions place) d now (ap (description_at after.descriptions) (sym same) ∙ is_there)
            (get_or-set_same files.descriptions place (Some now) None (InUse-within files.descriptions place (ap is_some there))) in
            subst (λ (x : Description). IsOpenNode files.tree x other) (sym here)
            (opened_now other (node_so number other (sym (ap (node_of after) (on_there numbers others old kept fs files hold key number desc is on)) ∙ ap (λ (x : Description). node_of after x.target) (sym here) ∙ target_is)))
        | inr apart ↦ hold.nodes at other d (sym (get_or-set_other files.descriptions place at (Some now) None apart) ∙ is_there) (same_node files after refl d.target ∙ target_is)
      ]
