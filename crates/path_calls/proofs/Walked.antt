-- The objects of a store once a call has looked along a path: the caches are others, and the rest is as it was.
use Rattle.std.proofs.Common.{◌≡◌, ℕ, ◌+◌, ◌<◌, ◌≤◌, ◌==◌, ◌||◌, Bool, true, false, List, [], ◌∷◌, ◌++◌, length, None, Some, refl, ap, sym, ◌∙◌, subst, arith}
use Rattle.std.specs.List.{AllByRecursion}
use Rattle.std.proofs.lemmas.List.Folds.{list_any-append}
use Rattle.kabi_types.specs.declared.calls.Call.{Call}
use Rattle.kabi_types.specs.declared.scripts.Control.{Control}
use Rattle.kabi_types.specs.declared.scripts.Script.{Script}
use Rattle.kabi_types.specs.declared.classes.Class.TheVariants as class
use Rattle.kheap_slabs.specs.Objects.{count}
use Rattle.kheap_slabs.specs.Purse.{Purse}
use Rattle.kheap_slabs.specs.Heap.{Heap}
use Rattle.kheap_slabs.specs.Paid.{IsPaid}
use Rattle.memfs_ops.specs.FileTree.{Stands as TreeStands, TreeView, one_more}
use Rattle.posix_defs.specs.Files.State.{opened_nodes}
use Rattle.posix_defs.specs.Needs.{need_of}
use Rattle.posix_defs.specs.Plain.{root}
use Rattle.posix_defs.specs.Process.{directory_in, directory_of}
use Rattle.posix_defs.specs.Tree.{Tree, is_directory}
use Rattle.posix_defs.specs.World.{World, directories_of, is_in}
use Rattle.proc_table.specs.Procs.{proc_of, process_of}
use Rattle.proc_table.proofs.FamilyLemmas.{process_is}
use Rattle.proc_table.proofs.PlaceLemmas.{eqb_same}
use Rattle.kheap_slabs.specs.declared.objects.Proc.{Proc}
use Rattle.std.specs.Option.{option_map}
use Rattle.store_objects.specs.declared.objects.Objects.{Objects}
use Rattle.store_objects.specs.Objects.{AreKept, Runs, procs_of}
use Rattle.store_objects.specs.Standing.{HasEntered, StandsFor}
use Rattle.store_objects.specs.Trees.{HasTree, KeepsTree, held_nodes, kept_by, pins_in}
use Rattle.store_objects.proofs.Beside.{entered_beside, kept_beside, stands_beside}
use Rattle.store_objects.proofs.KeptNow.{as_many_blocks, as_many_names, as_many_vnodes}
use Rattle.store_objects.proofs.HeldNodes.{held_same, in_counts}
use Rattle.store_objects.proofs.WorkPlaces.{directories_from}
use Rattle.store_objects.proofs.WorkingOn.{works_among}

-- ---- where a process works

-- the directory of who is found is the machine's
pub works_there : (script : Script) (objects : Objects) (world : World) (pid : ℕ) (proc : Proc) → StandsFor script objects world → proc_of (procs_of objects) pid ≡ Some proc
    → directory_of world.plain.table pid ≡ proc.cwd
works_there script objects world pid proc stands found =
    ap directory_in (process_is objects.heap world.plain.table (procs_of objects) pid stands.processes.table.present ∙ ap (option_map (process_of objects.heap)) found)

-- what is so of each directory that somebody works in is so of that one
at_his : (P : ℕ → Type 0) (script : Script) (objects : Objects) (world : World) (pid : ℕ) (proc : Proc) → StandsFor script objects world → proc_of (procs_of objects) pid ≡ Some proc → proc.status ≡ None
    → AllByRecursion P (directories_of world.plain.table) → P proc.cwd
at_his P script objects world pid proc stands found up all =
    works_among P (procs_of objects) pid proc (subst (AllByRecursion P) (directories_from stands.processes.table.present) all) found up

-- each of some numbers is among them
among_more : (m : ℕ) (all some : List ℕ) → AllByRecursion (λ n. is_in n all ≡ true) some → AllByRecursion (λ n. is_in n (m ∷ all) ≡ true) some
among_more m all [] there = tt
among_more m all (n ∷ some) there = (later (m == n) (is_in n all) there.0, among_more m all some there.1)
  where
    later : (b c : Bool) → c ≡ true → (b || c) ≡ true
    later true c e = refl
    later false c e = e

among_them : (all : List ℕ) → AllByRecursion (λ n. is_in n all ≡ true) all
among_them [] = tt
among_them (m ∷ all) = (ap (λ b. b || is_in m all) (eqb_same m m refl), among_more m all all (among_them all))

-- who runs holds it, if only as the root
pub holds_directory : (script : Script) (objects : Objects) (world : World) (pid : ℕ) (proc : Proc) → StandsFor script objects world → proc_of (procs_of objects) pid ≡ Some proc → proc.status ≡ None
    → 0 < pins_in world.plain proc.cwd
holds_directory script objects world pid proc stands found up =
    in_counts proc.cwd (held_nodes world.plain)
    (held_same world.plain proc.cwd ∙ among (root == proc.cwd) (is_in proc.cwd (opened_nodes world.plain.files)) (is_in proc.cwd (directories_of world.plain.table))
    (is_in proc.cwd (opened_nodes world.plain.files ++ directories_of world.plain.table))
    (list_any-append (λ k. k == proc.cwd) (opened_nodes world.plain.files) (directories_of world.plain.table))
    (at_his (λ node. is_in node (directories_of world.plain.table) ≡ true) script objects world pid proc stands found up (among_them (directories_of world.plain.table))))
  where
    among : (first opened works both : Bool) → both ≡ (opened || works) → works ≡ true → (first || both) ≡ true
    among true opened works both e some = refl
    among false true works both e some = e
    among false false works both e some = e ∙ some

-- ---- once it has looked

-- The caches and their part of the heap are others.
module _ (script : Script) (old : Objects) (heap : Heap) (fs : TreeView) (beside : heap ≡ record old.heap { vnodes = heap.vnodes; names = heap.names; blocks = heap.blocks; high = heap.high }) where
  abbrev pub mid : Objects
  mid = record { heap = heap; procs = old.procs; tree = fs; names = old.names; fifos = old.fifos; locks = old.locks }

  pub kept_mid : KeepsTree heap fs → AreKept script old → AreKept script mid
  kept_mid keeps kept =
      subst (λ (h : Heap). AreKept script (record { heap = h; procs = old.procs; tree = fs; names = old.names; fifos = old.fifos; locks = old.locks })) (sym beside)
      (kept_beside script old heap.vnodes heap.names heap.blocks heap.high old.heap.marks old.heap.last_high fs kept (subst (λ (h : Heap). KeepsTree h fs) beside keeps))

  pub runs_mid : (pid : ℕ) (control : Control) → Runs old pid control → Runs mid pid control
  runs_mid pid control runs =
      subst (λ (h : Heap). Runs (record { heap = h; procs = old.procs; tree = fs; names = old.names; fifos = old.fifos; locks = old.locks }) pid control) (sym beside)
      (record { proc = runs.proc; found = runs.found; up = runs.up; at_call = runs.at_call })

  -- the world with what is kept now, and the reads
  abbrev pub looked : World → World
  looked world = record world { kept = kept_by fs; reads = fs.disk.reads }

  pub stands_mid : (world : World) → StandsFor script old world → TreeStands heap fs world.plain.files.tree (pins_in world.plain) → StandsFor script mid (looked world)
  stands_mid world stands now =
      let has : HasTree mid (looked world) = record { stands = now; kept = refl; reads = refl } in
      subst (λ (h : Heap). StandsFor script (record { heap = h; procs = old.procs; tree = fs; names = old.names; fifos = old.fifos; locks = old.locks }) (looked world)) (sym beside)
      (stands_beside script old heap.vnodes heap.names heap.blocks heap.high old.heap.marks old.heap.last_high fs world world.plain.files.tree (kept_by fs) fs.disk.reads stands stands.works
      (subst (λ (h : Heap). HasTree (record { heap = h; procs = old.procs; tree = fs; names = old.names; fifos = old.fifos; locks = old.locks }) (looked world)) beside has))

  -- where it has entered a directory
  pub entered_mid : (world : World) (directory : ℕ) → StandsFor script old world → TreeStands heap fs world.plain.files.tree (one_more (pins_in world.plain) directory)
      → is_directory world.plain.files.tree directory ≡ true → HasEntered script mid (looked world) directory
  entered_mid world directory stands now is =
      subst (λ (h : Heap). HasEntered script (record { heap = h; procs = old.procs; tree = fs; names = old.names; fifos = old.fifos; locks = old.locks }) (looked world) directory) (sym beside)
      (entered_beside script old heap.vnodes heap.names heap.blocks heap.high old.heap.marks old.heap.last_high fs world directory stands
      (subst (λ (h : Heap). TreeStands h fs world.plain.files.tree (one_more (pins_in world.plain) directory)) beside now) is)

-- what stands for whatever it stood for stands for the tree of a world
pub keeps_looked : (script : Script) (old : Objects) (heap : Heap) (fs : TreeView) (world : World) → StandsFor script old world
    → ((tree : Tree) (pins : ℕ → ℕ) → TreeStands old.heap old.tree tree pins → TreeStands heap fs tree pins) → KeepsTree heap fs
keeps_looked script old heap fs world stands still = (world.plain.files.tree, pins_in world.plain, still world.plain.files.tree (pins_in world.plain) stands.tree.stands)

-- ---- what it may keep

-- no more is kept than the call needs
pub record KeepsFew (fs : TreeView) (world : World) (which : Call) : Type 0 where
  pub names : length (kept_by fs).names ≤ length world.kept.names + (need_of which).name
  pub blocks : length (kept_by fs).blocks ≤ length world.kept.blocks + (need_of which).block
  pub vnodes : length (kept_by fs).vnodes ≤ length world.kept.vnodes + (need_of which).vnode
  pub reads : world.reads ≤ fs.disk.reads

-- as what it has filled was paid for
pub keeps_few : (script : Script) (old : Objects) (heap : Heap) (fs : TreeView) (before after : Purse) (world : World) (which : Call) (tree : Tree) (pins : ℕ → ℕ) → StandsFor script old world
    → TreeStands heap fs tree pins → IsPaid old.heap before heap after → old.tree.disk.reads ≤ fs.disk.reads → before.left ≡ need_of which → KeepsFew fs world which
keeps_few script old heap fs before after world which tree pins stands now paid read needed =
    let was = stands.tree.stands in
    record {
      names = few (count heap.names) after.left.name (count old.heap.names) before.left.name (need_of which).name _ _ (paid.counts class.Name) (ap (λ n. n.name) needed)
          (as_many_names heap fs tree pins now) (as_many_names old.heap old.tree world.plain.files.tree (pins_in world.plain) was ∙ ap (λ k. length k.names) (sym stands.tree.kept));
      blocks = few (count heap.blocks) after.left.block (count old.heap.blocks) before.left.block (need_of which).block _ _ (paid.counts class.Block) (ap (λ n. n.block) needed)
          (as_many_blocks heap fs tree pins now) (as_many_blocks old.heap old.tree world.plain.files.tree (pins_in world.plain) was ∙ ap (λ k. length k.blocks) (sym stands.tree.kept));
      vnodes = few (count heap.vnodes) after.left.vnode (count old.heap.vnodes) before.left.vnode (need_of which).vnode _ _ (paid.counts class.Vnode) (ap (λ n. n.vnode) needed)
          (as_many_vnodes heap fs tree pins now) (as_many_vnodes old.heap old.tree world.plain.files.tree (pins_in world.plain) was ∙ ap (λ k. length k.vnodes) (sym stands.tree.kept));
      reads = rises world.reads old.tree.disk.reads fs.disk.reads stands.tree.reads read;
    }
  where
    few : (new left old had need kept was : ℕ) → new + left ≤ old + had → had ≡ need → new ≡ kept → old ≡ was → kept ≤ was + need
    few new left old had need kept was paid same is before = omega arith

    rises : (world was now : ℕ) → world ≡ was → was ≤ now → world ≤ now
    rises world was now same more = omega arith
