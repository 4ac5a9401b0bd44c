-- Objects of which nothing has changed but how often nodes are held.
use Rattle.std.proofs.Common.{◌≡◌, ℕ, List, Option, refl, ap, sym, ◌∙◌, subst}
use Rattle.std.specs.Map.{keys_of}
use Rattle.kabi_types.specs.declared.scripts.Script.{Script}
use Rattle.kheap_slabs.specs.Heap.{Heap}
use Rattle.lru_index.specs.Order.{Order}
use Rattle.memfs_ops.specs.FileTree.{Stands, TreeView}
use Rattle.open_laws.proofs.GoingLemmas.{open_on}
use Rattle.open_laws.specs.Placed.{Numbers}
use Rattle.posix_defs.specs.Account.{Account}
use Rattle.posix_defs.specs.Files.State.{Files}
use Rattle.posix_defs.specs.Memory.{Frames}
use Rattle.posix_defs.specs.Process.{Table}
use Rattle.posix_defs.specs.Tree.{Tree}
use Rattle.proc_numbers.specs.Having.{HaveDescriptors, HaveOpen}
use Rattle.proc_numbers.specs.Queues.{QueuesStand}
use Rattle.proc_numbers.proofs.Fronts.{queues_same}
use Rattle.proc_table.specs.Procs.{numbers_in}
use Rattle.proc_table.specs.Accounting.{HasAccount}
use Rattle.proc_table.specs.Standing.{IsTable}
use Rattle.proc_table.specs.Table.{TableView, processes}
use Rattle.proc_table.proofs.LawLemmas.{elsewhere_account, elsewhere_table}
use Rattle.store_objects.specs.OpenMoves.{LocksStay}
use Rattle.store_objects.specs.declared.objects.Objects.{Objects}
use Rattle.store_objects.specs.Files.{HaveFiles}
use Rattle.store_objects.specs.Objects.{AreKept, procs_of}
use Rattle.store_objects.specs.Trees.{KeepsTree, KeptStays, TreeStays, kept_by}
use Rattle.store_objects.specs.Working.{OnlyPins}
use Rattle.store_objects.proofs.Beside.{kept_beside}
use Rattle.store_objects.proofs.Opening.{files_on}
use Rattle.store_objects.proofs.TreesOn.{stands_on}

abbrev objects_of : Heap → TableView → TreeView → List (Option ℕ) → Option ℕ → Option ℕ → Objects
objects_of heap procs tree names fifos locks = record { heap = heap; procs = procs; tree = tree; names = names; fifos = fifos; locks = locks }

-- what it stands for it stands for where it stays
pub stands_where : (old new : Objects) (tree : Tree) (pins : ℕ → ℕ) → TreeStays old new → Stands old.heap old.tree tree pins → Stands new.heap new.tree tree pins
stands_where old new tree pins stays stands =
    subst (λ (fs : TreeView). Stands new.heap fs tree pins) (sym stays.tree) (stands_on old.heap new.heap old.tree tree pins stays.caches stands)

-- what stays keeps the same
pub kept_where : (old new : Objects) → TreeStays old new → KeptStays old.tree new.tree
kept_where old new stays = record { kept = ap kept_by stays.tree; reads = ap (λ (fs : TreeView). fs.disk.reads) stays.tree }

pub kept_then : (old mid new : TreeView) → KeptStays old mid → KeptStays mid new → KeptStays old new
kept_then old mid new first then = record { kept = then.kept ∙ first.kept; reads = then.reads ∙ first.reads }

module _ (old new : Objects) (only : OnlyPins old new) where
  -- the processes
  pub pinned_procs : procs_of new ≡ procs_of old
  pinned_procs = ap (λ (h : Heap). processes h new.procs) only.heap ∙ ap (λ (view : TableView). processes old.heap view) only.procs

  pub pinned_table : (table : Table) → IsTable old.heap old.procs table → IsTable new.heap new.procs table
  pinned_table table is =
      subst (λ (view : TableView). IsTable new.heap view table) (sym only.procs)
      (elsewhere_table old.heap new.heap old.procs table (ap (λ (h : Heap). h.procs) only.heap) (ap (λ (h : Heap). h.nodes) only.heap) (ap (λ (h : Heap). h.pages) only.heap) is)

  pub pinned_account : (frames : Frames) → HasAccount old.heap old.procs frames → HasAccount new.heap new.procs frames
  pinned_account frames has =
      subst (λ (view : TableView). HasAccount new.heap view frames) (sym only.procs)
      (elsewhere_account old.heap new.heap old.procs frames (ap (λ (h : Heap). h.procs) only.heap) (ap (λ (h : Heap). h.nodes) only.heap) (ap (λ (h : Heap). h.pages) only.heap) has)

  -- what is open
  pub pinned_open : (numbers : Numbers) (files : Files) → HaveOpen numbers old.heap old.procs files → HaveOpen numbers new.heap new.procs files
  pinned_open numbers files have = record {
    list = have.list;
    opened = open_on numbers old.heap new.heap have.list files files (ap (λ (h : Heap). h.descs) only.heap) (ap (λ (h : Heap). h.pipes) only.heap)
        (ap (λ (h : Heap). h.socks) only.heap) (ap (λ (h : Heap). h.chunks) only.heap) refl refl refl have.opened;
    descriptors = subst (λ (view : TableView). HaveDescriptors (numbers_in new.heap) numbers.descs (processes new.heap view) view.last files) (sym only.procs)
        (subst (λ (h : Heap). HaveDescriptors (numbers_in h) numbers.descs (processes h old.procs) old.procs.last files) (sym only.heap) have.descriptors);
  }

  pub pinned_files : (files : Files) (account : Account) → HaveFiles old files account → HaveFiles new files account
  pinned_files files account =
      files_on old new files files account account (ap (λ (h : Heap). h.descs) only.heap) (ap (λ (h : Heap). h.pipes) only.heap) (ap (λ (h : Heap). h.socks) only.heap)
      (ap (λ (h : Heap). h.chunks) only.heap) refl refl refl refl refl
      (λ number have.
      subst (λ (view : TableView). HaveDescriptors (numbers_in new.heap) number (processes new.heap view) view.last files) (sym only.procs)
      (subst (λ (h : Heap). HaveDescriptors (numbers_in h) number (processes h old.procs) old.procs.last files) (sym only.heap) have))

  pub pinned_queues : QueuesStand old.heap new.heap
  pinned_queues = queues_same old.heap new.heap (ap (λ (h : Heap). h.pipes) only.heap) (ap (λ (h : Heap). h.socks) only.heap)

  pub pinned_locks : LocksStay old new
  pinned_locks = record { shelf = ap (λ (h : Heap). h.locks) only.heap; first = only.locks }

  -- what is kept
  pub pinned_kept : (script : Script) → AreKept script old → KeepsTree new.heap new.tree → AreKept script new
  pinned_kept script kept keeps =
      subst (AreKept script)
      (sym (ap (λ (h : Heap). objects_of h new.procs new.tree new.names new.fifos new.locks) only.heap
      ∙ ap (λ (view : TableView). objects_of (record old.heap { vnodes = new.heap.vnodes }) view new.tree new.names new.fifos new.locks) only.procs
      ∙ ap (λ (names : List (Option ℕ)). objects_of (record old.heap { vnodes = new.heap.vnodes }) old.procs new.tree names new.fifos new.locks) only.names
      ∙ ap (λ (first : Option ℕ). objects_of (record old.heap { vnodes = new.heap.vnodes }) old.procs new.tree old.names first new.locks) only.fifos
      ∙ ap (objects_of (record old.heap { vnodes = new.heap.vnodes }) old.procs new.tree old.names old.fifos) only.locks))
      (kept_beside script old new.heap.vnodes old.heap.names old.heap.blocks old.heap.high old.heap.marks old.heap.last_high new.tree kept (subst (λ (h : Heap). KeepsTree h new.tree) only.heap keeps))

  pub pinned_stays : KeptStays old.tree new.tree
  pinned_stays = record {
    kept = ap kept_by only.tree ∙ ap (λ (order : Order ℕ). record (kept_by old.tree) { vnodes = keys_of order.pairs }) only.order;
    reads = ap (λ (fs : TreeView). fs.disk.reads) only.tree;
  }
