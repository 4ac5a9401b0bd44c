-- At boot the first process stands at the start of the program `init`, in a heap that has the root beside it.
use Rattle.std.proofs.Common.{◌≡◌, ℕ, zero, suc, ◌+◌, ◌/◌, ◌<◌, ◌==◌, Bool, true, false, ◌||◌, List, [], ◌∷◌, ◌++◌, map, length, replicate, Option, None, Some, IsSome, is_some, cond, refl, sym, ap, ◌∙◌, subst, arith, inl, inr}
use Rattle.std.specs.Prelude.{codes, if◌then◌else◌, slice_get}
use Rattle.std.specs.List.{AllByRecursion}
use Rattle.std.specs.Str.{bytes_eq}
use Rattle.std.proofs.lemmas.Bool.Decides.{eqb_tells}
use Rattle.std.proofs.lemmas.List.{length-replicate}
use Rattle.std.proofs.lemmas.Slice.Eq.{bytes_eq-Decides}
use Rattle.fifo_nodes.specs.Chain.{IsChain}
use Rattle.fifo_nodes.proofs.ChainLemmas.{pipe_of}
use Rattle.kabi_types.specs.Class.{size}
use Rattle.kabi_types.specs.Counts.{need_bytes, with_count}
use Rattle.kabi_types.specs.declared.classes.Class.TheVariants as class
use Rattle.kabi_types.specs.declared.scripts.Control.{Control}
use Rattle.kabi_types.specs.declared.scripts.Program.{Program}
use Rattle.kabi_types.specs.declared.scripts.Script.{Script}
use Rattle.kheap_slabs.specs.Objects.{count, object, put}
use Rattle.kheap_slabs.specs.declared.objects.Lock.{Lock as HeldLock}
use Rattle.kheap_slabs.specs.declared.objects.Node.{Node}
use Rattle.kheap_slabs.specs.declared.objects.Page.{Page}
use Rattle.kheap_slabs.specs.declared.objects.Pipe.{Pipe}
use Rattle.kheap_slabs.specs.declared.objects.Proc.{Proc}
use Rattle.kheap_slabs.specs.declared.objects.QueueParts.{QueueParts}
use Rattle.kheap_slabs.specs.declared.objects.Sock.{Sock}
use Rattle.kheap_slabs.specs.declared.objects.Vnode.{Vnode}
use Rattle.kheap_slabs.specs.Heap.{Heap, counts_of, empty_heap, live_bytes}
use Rattle.kheap_slabs.specs.Keys.{AreKeysOf}
use Rattle.kheap_slabs.specs.Owners.{IsOwned, Owners, each_of, pipe_queues, sock_queues, spaces_of}
use Rattle.kheap_slabs.specs.Queues.{OwnedQueue}
use Rattle.kheap_slabs.proofs.ObjectLemmas.{count-none, count-put_new, object-none, object_of}
use Rattle.kheap_slabs.proofs.PurseLemmas.{need_bytes-more}
use Rattle.kheap_laws.proofs.OwnerLemmas.{IsOwned-same, empty_heap-owned}
use Rattle.kheap_laws.proofs.TableLemmas.{OwnsItsObjects-along}
use Rattle.lock_table.specs.Chain.{HoldsLocks}
use Rattle.lock_table.proofs.Tables.{holds_at_boot}
use Rattle.posix_defs.specs.Control.{settled}
use Rattle.posix_defs.specs.History.{boots}
use Rattle.posix_defs.specs.Memory.{boot_frames}
use Rattle.posix_defs.specs.Plain.{at_start, boot_plain, control_of, first_process, place_of}
use Rattle.posix_defs.specs.ValidScript.{IsValid}
use Rattle.open_laws.specs.Open.{AreOpen, descriptors_by}
use Rattle.open_laws.specs.Owned.{HasItsOwners, all_namings}
use Rattle.open_laws.proofs.GoingLemmas.{boot_open, boot_owners, held_open_on, named_on, open_on}
use Rattle.open_laws.specs.Placed.{Numbers}
use Rattle.posix_defs.specs.Account.{no_account}
use Rattle.posix_defs.specs.Files.Bare.{IsBare}
use Rattle.posix_defs.specs.Files.Descriptors.{none_open}
use Rattle.pipe_ends.specs.Links.{Link, link_at}
use Rattle.proc_table.specs.Opening.{opening_of}
use Rattle.posix_defs.specs.Files.State.{opening_at, boot_files, descriptors_of}
use Rattle.posix_defs.specs.Tree.{Tree, new_tree, root as root_node}
use Rattle.posix_defs.specs.World.{boot_kept as kept_at_boot, boot_world, is_in}
use Rattle.kabi_types.specs.declared.inodes.Inode.{Inode}
use Rattle.memfs_ops.specs.FileTree.{HasNoFiles, KeepsRoot, Stands as TreeStands, TreeView, root_alone}
use Rattle.std.specs.Map.{keys_of as keys_in}
use Rattle.std.proofs.lemmas.Map.Entries.{length-keys_of}
use Rattle.kern_laws.proofs.Bareness.{boot_bare}
use Rattle.kern_laws.proofs.Families.{reached_kept}
use Rattle.prog_ctl.specs.Runnable.{Rests, Stands}
use Rattle.proc_table.specs.Accounting.{HasAccount}
use Rattle.proc_table.specs.Changes.{replaced}
use Rattle.proc_table.specs.Moves.{TableMoves}
use Rattle.proc_numbers.specs.Having.{AreListed, places_in}
use Rattle.proc_files.specs.Names.{AreBound, name_in, name_of}
use Rattle.proc_table.specs.Procs.{first_proc, numbers_in, proc_of}
use Rattle.proc_table.specs.Standing.{IsTable}
use Rattle.proc_table.specs.Table.{TableView, no_table, processes}
use Rattle.kheap_slabs.specs.Leaves.{HoldLeaves}
use Rattle.proc_table.proofs.NumberLemmas.{none_numbers}
use Rattle.proc_table.proofs.LeafEnds.{hold_booted, hold_turned}
use Rattle.proc_table.proofs.LawLemmas.{on-account, on-moves, on-procs, on-table}
use Rattle.store_objects.specs.declared.objects.Objects.{Objects}
use Rattle.store_objects.specs.Booting.{HasBooted}
use Rattle.store_objects.specs.Files.{HaveFiles}
use Rattle.store_objects.specs.Objects.{AreAtCalls, AreKept, MovesOn, most_nodes, no_owners, procs_of}
use Rattle.store_objects.specs.Trees.{CachesStay, HasTree, kept_by, name_in as name_said, pins_in}
use Rattle.store_objects.specs.Standing.{StandsFor}
use Rattle.store_objects.proofs.GoingOn.{some_same}
use Rattle.store_objects.proofs.HeldNodes.{alone_pins, held_alone}
use Rattle.store_objects.proofs.KeptNow.{held_kept}
use Rattle.store_objects.proofs.TreesOn.{same_pins, stands_on}
use Rattle.store_objects.proofs.Keeping.{all_on, listed_on, owners_on}
use Rattle.store_objects.proofs.Namings.{names_in}
use Rattle.store_objects.proofs.Opening.{none_by}
use Rattle.store_objects.proofs.SocketPlaces.{sock_there}

-- A class without objects: no key names one, and nobody owns any.
vacant : {X : Type 0} (limit key : ℕ) → object (replicate {A = Option X} limit None) key ≡ None
vacant {X} limit key = go (object (replicate {A = Option X} limit None) key) refl
  where
    go : (o : Option X) → object (replicate {A = Option X} limit None) key ≡ o → object (replicate {A = Option X} limit None) key ≡ None
    go None is = is
    go (Some value) is = absurd (object-none limit key value is)

no_keys : {X : Type 0} (limit : ℕ) → AreKeysOf (replicate {A = Option X} limit None) []
no_keys {X} limit = record {
  used = λ key there. absurd (omega (arith, there.1));
  listed = λ key used. absurd (let found = object_of (replicate {A = Option X} limit None) key used in object-none limit key found.0 found.1);
  once = λ i j before within same. omega arith;
}

none_of : {X Y : Type 0} (f : X → Y) (limit : ℕ) → each_of f (replicate limit None) ≡ []
none_of f zero = refl
none_of f (suc limit) = none_of f limit

nobody_in : {X Y : Type 0} (f : X → Y) (xs : List X) → map f xs ≡ [] → xs ≡ []
nobody_in f [] e = refl
nobody_in f (x ∷ xs) e = cc

-- nobody owns anything in an empty heap
empty_owned : (heap : ℕ) → IsOwned (empty_heap heap) no_owners
empty_owned heap =
    let all = empty_heap-owned heap in
    let spaces : all.0.spaces ≡ [] = all.1.spaces ∙ none_of (λ (p : Proc). p.nodes) (heap / size class.Proc) in
    let queues : all.0.queues ≡ [] =
    nobody_in (λ (q : OwnedQueue). q.parts) all.0.queues
    (all.1.queues ∙ both (none_of (λ (p : Pipe). p.queue) (heap / size class.Pipe)) (none_of (λ (s : Sock). s.queue) (heap / size class.Sock))) in
    subst (IsOwned (empty_heap heap))
    (ap (λ spaces. record { spaces = spaces; queues = all.0.queues }) spaces ∙ ap (λ queues. record { spaces = []; queues = queues }) queues) all.2
  where
    both : {xs ys : List QueueParts} → xs ≡ [] → ys ≡ [] → xs ++ ys ≡ []
    both {xs} {ys} one other = ap (λ zs. zs ++ ys) one ∙ other

-- nothing of files is in an empty heap
pub no_files : (heap : ℕ) (empty : Heap) → empty ≡ empty_heap heap → HasNoFiles empty
no_files heap empty is = subst HasNoFiles (sym is) (record { names = refl; vnodes = refl; blocks = refl })

-- A heap without anything open.
pub record IsUnopened (heap : ℕ) (h : Heap) : Type 0 where
  pub descs : h.descs ≡ (empty_heap heap).descs
  pub pipes : h.pipes ≡ (empty_heap heap).pipes
  pub socks : h.socks ≡ (empty_heap heap).socks
  pub chunks : h.chunks ≡ (empty_heap heap).chunks
  pub leaves : h.leaves ≡ (empty_heap heap).leaves
  pub locks : h.locks ≡ (empty_heap heap).locks

-- The root is put in an empty heap.
module _ (heap : ℕ) (inode : Inode) (empty rooted : Heap) (is_empty : empty ≡ empty_heap heap) (root : KeepsRoot inode empty rooted) where
  -- what stands there but for the root
  same : {X : Type 0} (of : Heap → X) → ((h : Heap) (vnodes : List (Option Vnode)) (high : ℕ) → of (record h { vnodes = vnodes; high = high }) ≡ of h)
      → of rooted ≡ of (empty_heap heap)
  same of other = ap of root.heap ∙ other empty (put empty.vnodes root.slot (record { number = root_node; inode = inode; pins = 1 })) rooted.high ∙ ap of is_empty

  pub no_pages : (k : ℕ) → object rooted.pages k ≡ None
  no_pages k = ap (λ pages. object pages k) (same (λ h. h.pages) (λ h vnodes high. refl)) ∙ vacant (heap / size class.Page) k

  pub no_procs : AreKeysOf rooted.procs []
  no_procs = subst (λ procs. AreKeysOf procs []) (sym (same (λ h. h.procs) (λ h vnodes high. refl))) (no_keys (heap / size class.Proc))

  pub rooted_owned : IsOwned rooted no_owners
  rooted_owned =
      IsOwned-same (empty_heap heap) rooted no_owners
      (same (λ h. h.nodes) (λ h vnodes high. refl)) (same (λ h. h.pages) (λ h vnodes high. refl)) (same (λ h. h.chunks) (λ h vnodes high. refl)) (empty_owned heap)

  abbrev made_root : Vnode
  made_root = record { number = root_node; inode = inode; pins = 1 }

  -- it takes its bytes
  pub rooted_live : live_bytes rooted ≡ live_bytes empty + 128
  rooted_live =
      ap live_bytes root.heap
      ∙ ap (λ n. need_bytes (with_count (counts_of empty) class.Vnode n)) (count-put_new empty.vnodes root.slot made_root root.within root.vacant)
      ∙ need_bytes-more (counts_of empty) class.Vnode

  one : count rooted.vnodes ≡ 1
  one =
      let made : Vnode = made_root in
      let put_there : rooted.vnodes ≡ put empty.vnodes root.slot made = ap (λ h. h.vnodes) root.heap in
      let nothing : count empty.vnodes ≡ 0 = ap (λ h. count h.vnodes) is_empty ∙ count-none _ (heap / size class.Vnode) refl in
      ap count put_there ∙ count-put_new empty.vnodes root.slot made root.within root.vacant ∙ ap (λ n. n + 1) nothing

  -- nothing is open, and nobody owns anything
  pub rooted_bare : IsUnopened heap rooted
  rooted_bare = record {
    descs = same (λ h. h.descs) (λ h vnodes high. refl);
    pipes = same (λ h. h.pipes) (λ h vnodes high. refl);
    socks = same (λ h. h.socks) (λ h vnodes high. refl);
    chunks = same (λ h. h.chunks) (λ h vnodes high. refl);
    leaves = same (λ h. h.leaves) (λ h vnodes high. refl);
    locks = same (λ h. h.locks) (λ h vnodes high. refl);
  }

  pub rooted_owners : HasItsOwners rooted []
  rooted_owners =
      let boots = boot_owners heap in
      let procs = same (λ h. h.procs) (λ h vnodes high. refl) in
      record {
        objects = OwnsItsObjects-along (empty_heap heap) rooted (ap spaces_of procs) (ap pipe_queues rooted_bare.pipes) (ap sock_queues rooted_bare.socks)
            (same (λ h. h.nodes) (λ h vnodes high. refl)) (same (λ h. h.pages) (λ h vnodes high. refl)) rooted_bare.chunks boots.objects;
        named = named_on (empty_heap heap) rooted [] rooted_bare.descs (λ key. same (λ h. all_namings h key) (λ h vnodes high. refl)) boots.named;
        held = held_open_on (empty_heap heap) rooted rooted_bare.descs rooted_bare.pipes rooted_bare.socks rooted_bare.chunks boots.held;
      }

  -- the root alone is kept of a tree whose caches stand over that heap
  pub rooted_kept : (fs : TreeView) (tree : Tree) (pins : ℕ → ℕ) → TreeStands rooted fs tree pins → kept_by fs ≡ kept_at_boot
  rooted_kept fs tree pins stands = λ i. record { names = no_names i; blocks = no_blocks i; vnodes = one_vnode i }
    where
      none_kept : {K : Type 0} (keys : List K) → length keys ≡ 0 → keys ≡ []
      none_kept [] e = refl
      none_kept (key ∷ keys) e = absurd (let more : suc (length keys) ≡ zero = e in omega (arith, more))

      one_kept : (keys : List ℕ) → length keys ≡ 1 → is_in root_node keys ≡ true → keys ≡ root_node ∷ []
      one_kept [] e there = absurd (let none : zero ≡ suc zero = e in omega (arith, none))
      one_kept (key ∷ []) e there = elim (eqb_tells key root_node) [
        | inl same ↦ ap (λ k. k ∷ []) same.1
        | inr apart ↦ absurd (let never : false ≡ true = sym (ap (λ b. b || false) apart.0) ∙ there in cc)
      ]
      one_kept (key ∷ next ∷ keys) e there = absurd (let more : suc (suc (length keys)) ≡ suc zero = e in omega (arith, more))

      names : count rooted.names ≡ 0
      names = ap count (same (λ h. h.names) (λ h vnodes high. refl)) ∙ count-none _ (heap / size class.Name) refl

      blocks : count rooted.blocks ≡ 0
      blocks = ap count (same (λ h. h.blocks) (λ h vnodes high. refl)) ∙ count-none _ (heap / size class.Block) refl

      no_names : (kept_by fs).names ≡ []
      no_names = ap (map name_said) (none_kept (keys_in fs.names.pairs) (length-keys_of fs.names.pairs ∙ stands.names.many ∙ names))

      no_blocks : (kept_by fs).blocks ≡ []
      no_blocks = none_kept (kept_by fs).blocks (length-keys_of fs.blocks.pairs ∙ stands.blocks.many ∙ blocks)

      one_vnode : (kept_by fs).vnodes ≡ root_node ∷ []
      one_vnode = one_kept (kept_by fs).vnodes (length-keys_of fs.vnodes.order.pairs ∙ stands.nodes.kept.many ∙ one)
          (held_kept rooted fs tree pins stands root_node stands.root)

  pub rooted_size : rooted.heap ≡ heap
  rooted_size = same (λ h. h.heap) (λ h vnodes high. refl)

-- The first process is put in that heap, and goes on at a control.
module _ (heap disk : ℕ) (control : Control) (rooted : Heap) (fs : TreeView) (mid new : Objects)
    (no_pages : (k : ℕ) → object rooted.pages k ≡ None) (no_procs : AreKeysOf rooted.procs []) (owned : IsOwned rooted no_owners)
    (bare : IsUnopened heap rooted) (owners : HasItsOwners rooted []) (stands : TreeStands rooted fs (new_tree disk) root_alone) (kept : kept_by fs ≡ kept_at_boot)
    (unread : fs.disk.reads ≡ 0) (tree : mid.tree ≡ fs) (unbound : mid.names ≡ replicate (most_nodes + 1) None) (no_fifos : mid.fifos ≡ None) (no_locks : mid.locks ≡ None) (bytes : rooted.heap ≡ heap)
    (procs : procs_of mid ≡ first_proc ∷ []) (last : mid.procs.last ≡ 1)
    (moves : (others : Owners) → IsOwned rooted others → TableMoves rooted no_table mid.heap mid.procs)
    (table : IsTable mid.heap mid.procs (Some first_process ∷ []))
    (account : ((k : ℕ) → object rooted.pages k ≡ None) → HasAccount mid.heap mid.procs boot_frames)
    (turned : MovesOn mid 1 control new) where
  made : TableMoves rooted no_table mid.heap mid.procs
  made = moves no_owners owned

  abbrev now : Proc
  now = record turned.proc { control = control }

  goes : TableMoves mid.heap mid.procs new.heap new.procs
  goes = subst (TableMoves mid.heap mid.procs new.heap) (sym turned.same)
      (on-moves mid.heap new.heap mid.procs 1 turned.key turned.proc now made.holds turned.turns)

  -- what isn't a process or its memory is as it was
  as_was : {X : Type 0} (of : Heap → X)
      → ((h : Heap) (procs : List (Option Proc)) (nodes : List (Option Node)) (pages : List (Option Page)) (high : ℕ) → of (record h { procs = procs; nodes = nodes; pages = pages; high = high }) ≡ of h)
      → of new.heap ≡ of rooted
  as_was of other =
      ap of goes.kept ∙ other mid.heap new.heap.procs new.heap.nodes new.heap.pages new.heap.high
      ∙ ap of made.kept ∙ other rooted mid.heap.procs mid.heap.nodes mid.heap.pages mid.heap.high

  it_is : turned.proc ≡ first_proc
  it_is = some_same (proc_of (procs_of mid) 1) turned.proc first_proc turned.found (ap (λ ps. proc_of ps 1) procs)

  first : procs_of new ≡ record first_proc { control = control } ∷ []
  first =
      ap (processes new.heap) turned.same
      ∙ on-procs mid.heap new.heap mid.procs 1 turned.key turned.proc now made.holds turned.turns
      ∙ ap (map (replaced 1 now)) procs
      ∙ ap (λ (p : Proc). record p { control = control } ∷ []) it_is

  -- nobody names a Desc
  first_names : (key : ℕ) → names_in key (procs_of mid) ≡ 0
  first_names key = ap (names_in key) procs

  no_leaf : (key : ℕ) → object rooted.leaves key ≡ None
  no_leaf key = ap (λ leaves. object leaves key) bare.leaves ∙ vacant (heap / size class.Leaf) key

  nobody : AreListed (record rooted { leaves = rooted.leaves }) no_table
  nobody = record {
    stored = tt;
    rising = omega arith;
    all = no_procs;
    leaves = record {
      keys = record {
        used = λ key there. absurd (omega (arith, there.1));
        listed = λ key used. absurd (none_used (object rooted.leaves key) (no_leaf key) used);
        once = λ i j less within. absurd (omega (arith, within));
      };
      filled = λ key leaf is. absurd (none_used (object rooted.leaves key) (no_leaf key) (ap is_some is));
    };
  }
    where
      none_used : {X : Type 0} (o : Option X) → o ≡ None → IsSome o → ⊥
      none_used None none some = cc
      none_used (Some x) none some = cc

  -- the first process has no Leaf
  leaves_first : HoldLeaves mid.heap.leaves (procs_of mid)
  leaves_first =
      subst (HoldLeaves mid.heap.leaves) (sym procs)
      (subst (λ leaves. HoldLeaves leaves (first_proc ∷ [])) (sym (ap (λ (h : Heap). h.leaves) made.kept ∙ bare.leaves)) (hold_booted heap))

  has_first : AreListed mid.heap mid.procs
  has_first = listed_on rooted mid.heap no_table mid.procs no_procs leaves_first made

  first_owners : HasItsOwners mid.heap []
  first_owners = owners_on rooted mid.heap no_table mid.procs nobody leaves_first made owners (λ key. first_names key)

  leaves_now : HoldLeaves new.heap.leaves (procs_of new)
  leaves_now =
      subst (λ (view : TableView). HoldLeaves new.heap.leaves (processes new.heap view)) (sym turned.same)
      (hold_turned mid.heap new.heap mid.procs 1 turned.key turned.proc now made.holds turned.turns leaves_first)

  unopened : IsUnopened heap new.heap
  unopened = record {
    descs = as_was (λ h. h.descs) (λ h procs nodes pages high. refl) ∙ bare.descs;
    pipes = as_was (λ h. h.pipes) (λ h procs nodes pages high. refl) ∙ bare.pipes;
    socks = as_was (λ h. h.socks) (λ h procs nodes pages high. refl) ∙ bare.socks;
    chunks = as_was (λ h. h.chunks) (λ h procs nodes pages high. refl) ∙ bare.chunks;
    leaves = as_was (λ h. h.leaves) (λ h procs nodes pages high. refl) ∙ bare.leaves;
    locks = as_was (λ h. h.locks) (λ h procs nodes pages high. refl) ∙ bare.locks;
  }

  same_tree : new.tree ≡ fs
  same_tree = turned.tree ∙ tree

  caches : CachesStay rooted new.heap
  caches = record {
    vnodes = as_was (λ h. h.vnodes) (λ h procs nodes pages high. refl);
    names = as_was (λ h. h.names) (λ h procs nodes pages high. refl);
    blocks = as_was (λ h. h.blocks) (λ h procs nodes pages high. refl);
    size = as_was (λ h. h.heap) (λ h procs nodes pages high. refl);
  }

  pub has_booted : HasBooted new heap disk control
  has_booted = record {
    holds = goes.holds;
    all = all_on mid.heap new.heap mid.procs new.procs has_first.all goes;
    leaves = leaves_now;
    owners = owners_on mid.heap new.heap mid.procs new.procs (record { stored = has_first.stored; rising = has_first.rising; all = has_first.all; leaves = has_first.leaves }) leaves_now goes first_owners
        (λ key. let now : names_in key (procs_of new) ≡ 0 = ap (names_in key) first in let was = first_names key in omega (arith, now, was));
    opened = λ numbers files none. open_on numbers (empty_heap heap) new.heap [] files files unopened.descs unopened.pipes unopened.socks unopened.chunks refl refl refl
        (boot_open numbers heap files none);
    stands = subst (λ (t : TreeView). TreeStands new.heap t (new_tree disk) root_alone) (sym same_tree) (stands_on rooted new.heap fs (new_tree disk) root_alone caches stands);
    kept = ap kept_by same_tree ∙ kept;
    unread = ap (λ (t : TreeView). t.disk.reads) same_tree ∙ unread;
    size = as_was (λ h. h.heap) (λ h procs nodes pages high. refl) ∙ bytes;
    names = turned.names ∙ unbound;
    fifos = turned.fifos ∙ no_fifos;
    locks = subst (λ (first : Option ℕ). HoldsLocks new.heap.locks first []) (sym (turned.locks ∙ no_locks))
        (subst (λ (shelf : List (Option HeldLock)). HoldsLocks shelf None []) (sym (as_was (λ h. h.locks) (λ h procs nodes pages high. refl) ∙ bare.locks)) (holds_at_boot (heap / size class.Lock)));
    first = first;
    last = ap (λ t. t.last) turned.same ∙ last;
    table = subst (λ k. IsTable new.heap k (Some first_process ∷ [])) (sym turned.same)
        (on-table mid.heap new.heap mid.procs 1 turned.key turned.proc now made.holds turned.turns (Some first_process ∷ []) refl refl table);
    account = subst (λ k. HasAccount new.heap k boot_frames) (sym turned.same)
        (on-account mid.heap new.heap mid.procs 1 turned.key turned.proc now made.holds turned.turns boot_frames (account no_pages));
  }

-- the first program of a name that one has is among the programs
place_within : (name : List ℕ) (programs : List Program) (at : ℕ) (program : Program) → slice_get programs at ≡ Some program → program.name ≡ name
    → place_of name programs < length programs
place_within name [] at program is named = cc
place_within name (first ∷ rest) zero program is named = found (bytes_eq first.name name) ((bytes_eq-Decides first.name name).1 (ap name_in is ∙ named))
  where
    name_in : Option Program → List ℕ
    name_in None = []
    name_in (Some other) = other.name

    found : (same : Bool) → same ≡ true → (if same then 0 else place_of name rest + 1) < suc (length rest)
    found true e = omega arith
    found false e = cc
place_within name (first ∷ rest) (suc at) program is named =
    later (bytes_eq first.name name) (place_of name rest) (length rest) (place_within name rest at program is named)
  where
    later : (same : Bool) (place many : ℕ) → place < many → (if same then 0 else place + 1) < suc many
    later true place many less = omega arith
    later false place many less = omega arith

-- the program `init` of a valid script
first_program : (script : Script) → IsValid script → place_of (codes "init") script.programs < length script.programs
first_program script is = place_within (codes "init") script.programs is.init.at is.init.program is.init.is_there is.init.is_named

-- at boot the process stands at the start of that program
pub boot_stands : (script : Script) (control : Control) → IsValid script → control.program ≡ place_of (codes "init") script.programs
    → control.place ≡ 0 → Stands script control
boot_stands script control is program place =
    record { valid = is; program = subst (λ p. p < length script.programs) (sym program) (first_program script is); place = omega (arith, place) }

-- nothing was made in the machine, and the first process has nothing open
nothing_at : {Y : Type 0} (place : ℕ) (y : Y) → object {X = Y} [] place ≡ Some y → ⊥
nothing_at zero y is = cc
nothing_at (suc place) y is = cc

boot_numbers : Numbers
boot_numbers = record { descs = λ key. key; pipes = λ key. key; socks = λ key. key; frames = λ key. key }

-- a table of places in which nobody is, where nobody has a name
nobody_bound : (name : ℕ → Option ℕ) (places : ℕ) → ((key node : ℕ) → name key ≡ Some node → ⊥) → AreBound name (replicate {A = Option ℕ} places None)
nobody_bound name places nobody = record {
  bound = λ node key is. absurd (object-none places node key is);
  named = λ key node is. absurd (nobody key node is);
}

one_behind : (places : ℕ) → places < length (replicate {A = Option ℕ} (places + 1) None)
one_behind places = let many = length-replicate {A = Option ℕ} (places + 1) None in omega (arith, many)

-- Nobody is bound, since no socket is there.
boot_bound : (script : Script) (objects : Objects) (control : Control) → HasBooted objects script.heap script.disk control → AreBound (name_of objects.heap.socks) objects.names
boot_bound script objects control booted =
    subst (AreBound (name_of objects.heap.socks)) (sym booted.names) (nobody_bound (name_of objects.heap.socks) (most_nodes + 1) (λ key node. no_name key node (object objects.heap.socks key) refl))
  where
    none_there : (key : ℕ) (sock : Sock) → object objects.heap.socks key ≡ Some sock → ⊥
    none_there key sock is =
        let opened = booted.opened boot_numbers (boot_files script.disk) (boot_bare script.disk) in
        let there = sock_there boot_numbers objects.heap [] opened.socketed key sock is in nothing_at (boot_numbers.socks key) there.socket there.there

    no_name : (key node : ℕ) (o : Option Sock) → object objects.heap.socks key ≡ o → name_in o ≡ Some node → ⊥
    no_name key node None there is = cc
    no_name key node (Some sock) there is = none_there key sock there

-- No FIFO has a pipe, since no pipe is there.
boot_chain : (script : Script) (objects : Objects) (control : Control) → HasBooted objects script.heap script.disk control → IsChain objects.heap objects.fifos
boot_chain script objects control booted = subst (IsChain objects.heap) (sym booted.fifos) (record {
  keys = [];
  chained = refl;
  once = λ i j before within same. omega (arith, within);
  all = λ key link is. absurd (none_there key link is);
  alone = λ key other link another is also same. absurd (none_there key link is);
  few = λ key link is. absurd (none_there key link is);
})
  where
    no_pipe : (key : ℕ) (pipe : Pipe) → object objects.heap.pipes key ≡ Some pipe → ⊥
    no_pipe key pipe is =
        let opened = booted.opened boot_numbers (boot_files script.disk) (boot_bare script.disk) in
        let there = opened.piped.there key pipe is in nothing_at (boot_numbers.pipes key) there.0 there.1

    none_there : (key : ℕ) (link : Link) → link_at objects.heap key ≡ Some link → ⊥
    none_there key link is = let it = pipe_of objects.heap key link is in no_pipe key it.0 it.1

-- what is kept where the first process stands at its call
pub boot_kept : (script : Script) (objects : Objects) (control : Control) → HasBooted objects script.heap script.disk control → Stands script control → Rests script control
    → AreKept script objects
boot_kept script objects control booted stands rests = record {
  holds = booted.holds;
  all = booted.all;
  leaves = booted.leaves;
  owners = booted.owners;
  groups = subst (AllByRecursion (λ proc. length proc.nodes ≡ 4)) (sym booted.first) (refl, tt);
  calls = subst (AreAtCalls script) (sym booted.first) ((λ up. record { stands = stands; rests = rests }), tt);
  bound = boot_bound script objects control booted;
  places = subst (λ (list : List (Option ℕ)). most_nodes < length list) (sym booted.names) (one_behind most_nodes);
  chain = boot_chain script objects control booted;
  locked = ([], booted.locks);
  caches = (new_tree script.disk, root_alone, booted.stands);
  size = booted.size;
}

boot_opens : (script : Script) (objects : Objects) (control : Control) → HasBooted objects script.heap script.disk control → HaveFiles objects (boot_files script.disk) no_account
boot_opens script objects control booted = record {
  numbers = boot_numbers;
  opened = record {
    list = [];
    opened = opened;
    descriptors = record {
      each = λ pid. each pid ∙ sym (ap (λ procs. descriptors_by boot_numbers.descs (places_in (numbers_in objects.heap) (proc_of procs pid))) booted.first);
      made = sym booted.last;
      openings = record {
        each = λ pid. unopened pid ∙ sym (ap (λ procs. opening_of (proc_of procs pid)) booted.first);
        made = sym booted.last;
      };
    };
  };
  fronts = record {
    pipes = λ key pipe is. absurd (let there = opened.piped.there key pipe is in nothing_at (boot_numbers.pipes key) there.0 there.1);
    socks = λ key sock is. absurd (let there = sock_there boot_numbers objects.heap [] opened.socketed key sock is in nothing_at (boot_numbers.socks key) there.socket there.there);
  };
  settled = record { pipes = refl; sockets = refl };
}
  where
    opened : AreOpen boot_numbers objects.heap [] (boot_files script.disk)
    opened = booted.opened boot_numbers (boot_files script.disk) (boot_bare script.disk)

    each : (pid : ℕ) → descriptors_of (boot_files script.disk) pid ≡ descriptors_by boot_numbers.descs (places_in (numbers_in objects.heap) (proc_of (record first_proc { control = control } ∷ []) pid))
    each pid = bare.descriptors pid ∙ sym (by_hit (1 == pid))
      where
        bare : IsBare (boot_files script.disk)
        bare = boot_bare script.disk

        by_hit : (hit : Bool) → descriptors_by boot_numbers.descs (places_in (numbers_in objects.heap) (cond hit (Some (record first_proc { control = control })) None)) ≡ none_open
        by_hit true = ap (descriptors_by boot_numbers.descs) (none_numbers objects.heap (record first_proc { control = control }) (refl, refl)) ∙ none_by boot_numbers.descs
        by_hit false = none_by boot_numbers.descs

    unopened : (pid : ℕ) → opening_at (boot_files script.disk) pid ≡ opening_of (proc_of (record first_proc { control = control } ∷ []) pid)
    unopened pid = none_made pid ∙ sym (by_hit (1 == pid))
      where
        none_made : (pid : ℕ) → opening_at (boot_files script.disk) pid ≡ None
        none_made zero = refl
        none_made (suc zero) = refl
        none_made (suc (suc n)) = refl

        by_hit : (hit : Bool) → opening_of (cond hit (Some (record first_proc { control = control })) None) ≡ None
        by_hit true = refl
        by_hit false = refl

boot_controls : (script : Script) (control : Control) → settled script (at_start (place_of (codes "init") script.programs)) ≡ control
    → (pid : ℕ) (proc : Proc) → proc_of (record first_proc { control = control } ∷ []) pid ≡ Some proc
    → settled script (control_of (boot_plain script) pid) ≡ proc.control
boot_controls script control leads pid proc is = elim (eqb_tells 1 pid) [
  | inl same ↦
      ap (λ n. settled script (control_of (boot_plain script) n)) (sym same.1) ∙ leads
      ∙ control_in (sym (ap (λ b. cond b (Some (record first_proc { control = control })) None) same.0) ∙ is)
  | inr other ↦ absurd (nobody_else (sym (ap (λ b. cond b (Some (record first_proc { control = control })) None) other.0) ∙ is))
]
  where
    control_in : Some (record first_proc { control = control }) ≡ Some proc → control ≡ proc.control
    control_in e = ap (λ p. p.control) (some_same (Some proc) (record first_proc { control = control }) proc (sym e) refl)

    nobody_else : None ≡ Some proc → ⊥
    nobody_else e = cc

-- the tree is a new disk's, whose root alone is held
boot_has_tree : (script : Script) (objects : Objects) → TreeStands objects.heap objects.tree (new_tree script.disk) root_alone → kept_by objects.tree ≡ kept_at_boot
    → objects.tree.disk.reads ≡ 0 → HasTree objects (boot_world script)
boot_has_tree script objects stands kept unread = record {
  stands = same_pins objects.heap objects.tree (new_tree script.disk) root_alone (pins_in (boot_plain script))
      (alone_pins (boot_plain script) (held_alone (boot_plain script) refl refl)) stands;
  kept = sym kept;
  reads = sym unread;
}

-- At boot the store stands for one process at the start of the program `init`.
pub boot_stands_for : (script copy : Script) (objects : Objects) (place : ℕ) (control : Control) → IsValid script → copy ≡ script → place ≡ place_of (codes "init") copy.programs
    → control ≡ settled copy (at_start place) → Stands copy control → Rests copy control → HasBooted objects copy.heap copy.disk control
    → StandsFor script objects (boot_world script)
boot_stands_for script copy objects place control valid same named settles stands rests booted =
    let leads : settled script (at_start (place_of (codes "init") script.programs)) ≡ control =
    sym (settles ∙ ap (λ n. settled copy (at_start n)) named ∙ ap (λ s. settled s (at_start (place_of (codes "init") s.programs))) same) in
    record {
      valid = valid;
      kept = subst (λ s. AreKept s objects) same (boot_kept copy objects control booted stands rests);
      processes = record {
        table = booted.table;
        last = booted.last;
        controls = λ pid proc found up. boot_controls script control leads pid proc (ap (λ ps. proc_of ps pid) (sym booted.first) ∙ found);
      };
      memory = booted.account;
      files = boot_opens script objects control (subst (λ s. HasBooted objects s.heap s.disk control) same booted);
      locks = booted.locks;
      tree = boot_has_tree script objects (subst (λ s. TreeStands objects.heap objects.tree (new_tree s.disk) root_alone) same booted.stands) booted.kept booted.unread;
      family = (reached_kept {script = script} boots).family;
      works = (refl, tt);
    }
