-- Objects whose caches have become others, with their part of the heap, and all else of which is the same.
use Rattle.std.proofs.Common.{◌≡◌, ℕ, true, List, Option, refl}
use Rattle.kabi_types.specs.declared.scripts.Script.{Script}
use Rattle.fifo_nodes.proofs.ChainLemmas.{chain_kept}
use Rattle.kheap_slabs.specs.declared.objects.Block.{Block}
use Rattle.kheap_slabs.specs.declared.objects.Name.{Name}
use Rattle.kheap_slabs.specs.declared.objects.Vnode.{Vnode}
use Rattle.kheap_slabs.specs.Heap.{Heap}
use Rattle.kheap_slabs.specs.Owners.{AreOwnersOf, IsOwned, Owners}
use Rattle.open_laws.proofs.GoingLemmas.{held_open_on}
use Rattle.memfs_ops.specs.FileTree.{Stands, TreeView, one_more}
use Rattle.posix_defs.specs.Account.{Account}
use Rattle.posix_defs.specs.Files.State.{Files, with_tree}
use Rattle.posix_defs.specs.Memory.{Frames}
use Rattle.posix_defs.specs.Plain.{Plain, with_files}
use Rattle.posix_defs.specs.Tree.{Tree, is_directory}
use Rattle.posix_defs.specs.World.{Kept, World, directories_of}
use Rattle.proc_table.specs.Accounting.{HasAccount}
use Rattle.proc_table.specs.Table.{with_procs}
use Rattle.store_objects.specs.declared.objects.Objects.{Objects}
use Rattle.store_objects.specs.Objects.{AreKept, procs_of}
use Rattle.store_objects.specs.Files.{HaveFiles}
use Rattle.store_objects.specs.Standing.{AreProcesses, HasEntered, StandsFor}
use Rattle.store_objects.specs.Trees.{HasTree, KeepsTree, kept_by, pins_in}
use Rattle.store_objects.specs.Working.{AreDirectories}
use Rattle.store_objects.proofs.Opening.{files_on}
use Rattle.store_objects.proofs.Families.{SameMemory, memory_on, processes_on}

-- a heap with other objects of the three caches, and another mark
abbrev pub beside_in : Heap → List (Option Vnode) → List (Option Name) → List (Option Block) → ℕ → ℕ → ℕ → Heap
beside_in h vnodes names blocks high marks last_high = record h { vnodes = vnodes; names = names; blocks = blocks; high = high; marks = marks; last_high = last_high }

-- the objects with that heap, and another tree of files
abbrev pub beside_as : Objects → List (Option Vnode) → List (Option Name) → List (Option Block) → ℕ → ℕ → ℕ → TreeView → Objects
beside_as objects vnodes names blocks high marks last_high fs =
    record { heap = beside_in objects.heap vnodes names blocks high marks last_high; procs = objects.procs; tree = fs; names = objects.names; fifos = objects.fifos; locks = objects.locks }

-- a world with another tree, in which other things are kept and more was read
abbrev pub treed_in : World → Tree → Kept → ℕ → World
treed_in world tree kept reads = record world { plain = with_files world.plain (with_tree world.plain.files tree); kept = kept; reads = reads }

module _ (script : Script) (objects : Objects) (vnodes : List (Option Vnode)) (names : List (Option Name)) (blocks : List (Option Block)) (high marks last_high : ℕ) (fs : TreeView) where
  abbrev new : Objects
  new = beside_as objects vnodes names blocks high marks last_high fs

  owned_beside : (owners : Owners) → IsOwned objects.heap owners → IsOwned new.heap owners
  owned_beside owners owned = record { nodes = owned.nodes; mapped = owned.mapped; pages = owned.pages; chunks = owned.chunks; queues = owned.queues }

  pub kept_beside : AreKept script objects → KeepsTree new.heap fs → AreKept script new
  kept_beside kept keeps = record {
    holds = record {
      stored = kept.holds.stored;
      rising = kept.holds.rising;
      light = kept.holds.light;
      owned = (kept.holds.owned.0, owned_beside (with_procs (procs_of objects) kept.holds.owned.0) kept.holds.owned.1);
    };
    all = kept.all;
    leaves = kept.leaves;
    owners = record {
      objects = let own = kept.owners.objects in
          (own.0, (let are : AreOwnersOf objects.heap own.0 = own.1 in record { spaces = are.spaces; queues = are.queues }), owned_beside own.0 own.2);
      named = record { counts = kept.owners.named.counts; named = kept.owners.named.named };
      held = held_open_on objects.heap new.heap refl refl refl refl kept.owners.held;
    };
    groups = kept.groups;
    calls = kept.calls;
    bound = kept.bound;
    places = kept.places;
    chain = chain_kept objects.heap new.heap objects.fifos (λ key. refl) kept.chain;
    locked = kept.locked;
    caches = keeps;
    size = kept.size;
  }

  same : SameMemory objects.heap new.heap
  same = record { procs = refl; nodes = refl; pages = refl }

  processes_beside : (plain next : Plain) → next.table ≡ plain.table → next.controls ≡ plain.controls → AreProcesses script objects plain → AreProcesses script new next
  processes_beside plain next table controls are = processes_on script objects new plain next refl same table controls are

  memory_beside : (frames : Frames) → HasAccount objects.heap objects.procs frames → HasAccount new.heap new.procs frames
  memory_beside frames has = memory_on objects new frames frames refl same refl has

  files_beside : (files : Files) (tree : Tree) (account : Account) → HaveFiles objects files account → HaveFiles new (with_tree files tree) account
  files_beside files tree account have =
      files_on objects new files (with_tree files tree) account account refl refl refl refl refl refl refl refl refl (λ number have. record { each = have.each; made = have.made; openings = have.openings }) have

  -- they stand for the world in which the tree, what is kept, and how much was read are others
  pub stands_beside : (world : World) (tree : Tree) (kept : Kept) (reads : ℕ) → StandsFor script objects world → AreDirectories tree (directories_of world.plain.table)
      → HasTree new (treed_in world tree kept reads) → StandsFor script new (treed_in world tree kept reads)
  stands_beside world tree kept reads stands works has = record {
    valid = stands.valid;
    kept = kept_beside stands.kept (tree, _, has.stands);
    processes = processes_beside world.plain (treed_in world tree kept reads).plain refl refl stands.processes;
    memory = memory_beside world.account.frames stands.memory;
    files = files_beside world.plain.files tree world.account stands.files;
    locks = stands.locks;
    tree = has;
    family = stands.family;
    works = works;
  }

  -- and where one has entered a directory, for the world in which what is kept and how much was read are others, but that this
  -- is held once more
  pub entered_beside : (world : World) (directory : ℕ) → StandsFor script objects world → Stands new.heap fs world.plain.files.tree (one_more (pins_in world.plain) directory)
      → is_directory world.plain.files.tree directory ≡ true → HasEntered script new (record world { kept = kept_by fs; reads = fs.disk.reads }) directory
  entered_beside world directory stands now is = record {
    valid = stands.valid;
    kept = kept_beside stands.kept (world.plain.files.tree, one_more (pins_in world.plain) directory, now);
    processes = processes_beside world.plain world.plain refl refl stands.processes;
    memory = memory_beside world.account.frames stands.memory;
    files = files_beside world.plain.files world.plain.files.tree world.account stands.files;
    locks = stands.locks;
    tree = now;
    entered = is;
    same = refl;
    reads = refl;
    family = stands.family;
    works = stands.works;
  }
