-- A process has closed what an exec closes.
use Rattle.std.proofs.Common.{◌≡◌, ℕ, ◌+◌, ◌≤◌, List, [], Option, length, pos, refl, ap, sym, subst, arith}
use Rattle.lock_table.specs.Chain.{HoldsLocks, IsLockTable}
use Rattle.fifo_nodes.specs.Chain.{IsChain}
use Rattle.kabi_types.specs.declared.calls.Call.TheVariants as call
use Rattle.kabi_types.specs.declared.scripts.Script.{Script}
use Rattle.kabi_types.specs.declared.classes.Class.TheVariants as class
use Rattle.kabi_types.specs.declared.replies.Reply.TheVariants.{Val}
use Rattle.kheap_slabs.specs.Objects.{count}
use Rattle.kheap_slabs.specs.Purse.{Purse}
use Rattle.kheap_slabs.specs.Heap.{Heap, IsWellFormed}
use Rattle.kheap_slabs.specs.Paid.{IsPaid, TakesNothing}
use Rattle.memfs_ops.specs.Closing.{KeepsCached}
use Rattle.memfs_ops.specs.FileTree.{TreeView}
use Rattle.open_laws.specs.Owned.{HasItsOwners}
use Rattle.open_laws.specs.Placed.{Numbers}
use Rattle.posix_defs.specs.Files.Closing.{after_exec_of}
use Rattle.posix_defs.specs.Files.State.{Files}
use Rattle.posix_defs.specs.World.{World}
use Rattle.proc_numbers.specs.Having.{AreListed}
use Rattle.proc_numbers.specs.Queues.{QueuesStand}
use Rattle.proc_files.specs.Closing.{ChangesHolding}
use Rattle.proc_files.specs.NameHolding.{HoldNames, HoldSomeNames}
use Rattle.proc_table.specs.Procs.{IsAlive}
use Rattle.store_objects.specs.declared.objects.Objects.{Objects}
use Rattle.store_objects.specs.Objects.{AreKept, procs_of}
use Rattle.store_objects.specs.Standing.{IsSound, StandsFor}
use Rattle.store_objects.specs.Trees.{others_in}
use Rattle.store_objects.proofs.StoreFiles.{holds_names}
use Rattle.store_objects.specs.FileMoves.{FileMoves}
use Rattle.store_objects.proofs.Answered.{turned_files}
use Rattle.store_objects.proofs.FileMoving.{stands_turned}
use Rattle.store_objects.proofs.Staying.{memory_holding, moves_holding}
use Rattle.file_calls.specs.Starting.{CachesShed, shed_in}
use Rattle.store_objects.proofs.CallingOpens.{keeps_some}

module _ (script : Script) (old : Objects) (heap : Heap) (fs : TreeView) (table : List (Option ℕ)) (fifos locks : Option ℕ) (pid : ℕ) (kept : AreKept script old) (alive : IsAlive (procs_of old) pid)
    (changes : ChangesHolding old.heap heap old.procs pid) (listed : AreListed heap old.procs) (owners : HasItsOwners heap []) (chain : IsChain heap fifos) (locked : IsLockTable heap.locks locks) (places : length table ≡ length old.names)
    (some : HoldSomeNames heap old.procs fs table) where
  abbrev new : Objects
  new = record { heap = heap; procs = old.procs; tree = fs; names = table; fifos = fifos; locks = locks }

  pub moves_shed : FileMoves old new
  moves_shed = moves_holding old new pid refl changes kept.holds alive listed owners some.hold.bound places
      (keeps_some new (record { numbers = some.numbers; others = some.others; files = some.files; hold = some.hold.held })) chain locked

  -- The store stands for the worlds in which it has closed them.
  pub stands_shed : QueuesStand old.heap heap → IsWellFormed old.heap
      → ((numbers : Numbers) (others : ℕ → ℕ) (files : Files) → HoldNames numbers others old.heap old.procs old.tree old.names files
      → HoldNames numbers others heap old.procs fs table (after_exec_of files pid))
      → ((numbers : Numbers) (others : ℕ → ℕ) (files : Files) → HoldNames numbers others old.heap old.procs old.tree old.names files
      → HoldsLocks old.heap.locks old.locks files.locks → HoldsLocks heap.locks locks (after_exec_of files pid).locks)
      → (world : World) → StandsFor script old world → IsSound world.plain → StandsFor script new (shed_in fs world pid)
  stands_shed queues well closed unlocks world stands sound =
      let holds : HoldNames stands.files.numbers (others_in world.plain) old.heap old.procs old.tree old.names world.plain.files = holds_names script old world stands well sound in
      stands_turned script old new world (shed_in fs world pid) stands moves_shed
      (turned_files script old new world stands pid call.Getpid (Val (pos 0)) (after_exec_of world.plain.files pid) stands.files.numbers (memory_holding old new pid refl changes kept.holds)
      queues (λ key used. refl) (λ key used. refl) (closed stands.files.numbers (others_in world.plain) world.plain.files holds).held)
      (unlocks stands.files.numbers (others_in world.plain) world.plain.files holds stands.locks)

-- ---- what is cached

no_more : (new old left before : ℕ) → new + left ≤ old + before → left ≡ before → new ≤ old
no_more new old left before paid same = omega arith

-- by a purse that is as it was
pub caches_shed : (old new : Objects) (before after : Purse) → IsPaid old.heap before new.heap after → after ≡ before → old.tree.disk.reads ≤ new.tree.disk.reads → KeepsCached old.tree new.tree → CachesShed old new
caches_shed old new before after paid same reads cached = record {
  names = no_more (count new.heap.names) (count old.heap.names) after.left.name before.left.name (paid.counts class.Name) (ap (λ (p : Purse). p.left.name) same);
  blocks = no_more (count new.heap.blocks) (count old.heap.blocks) after.left.block before.left.block (paid.counts class.Block) (ap (λ (p : Purse). p.left.block) same);
  vnodes = no_more (count new.heap.vnodes) (count old.heap.vnodes) after.left.vnode before.left.vnode (paid.counts class.Vnode) (ap (λ (p : Purse). p.left.vnode) same);
  reads = reads;
  cached = cached;
}

no_higher : (a b c : ℕ) → b ≤ a → c ≤ b → c ≤ a
no_higher a b c first second = omega arith

-- between steps that take nothing of the heap and leave the tree
pub caches_between : (old mid last new : Objects) → TakesNothing old.heap mid.heap → mid.tree ≡ old.tree → CachesShed mid last → TakesNothing last.heap new.heap → new.tree ≡ last.tree → CachesShed old new
caches_between old mid last new first same shed second still = record {
  names = no_higher (count old.heap.names) (count mid.heap.names) (count new.heap.names) (first.counts class.Name)
      (no_higher (count mid.heap.names) (count last.heap.names) (count new.heap.names) shed.names (second.counts class.Name));
  blocks = no_higher (count old.heap.blocks) (count mid.heap.blocks) (count new.heap.blocks) (first.counts class.Block)
      (no_higher (count mid.heap.blocks) (count last.heap.blocks) (count new.heap.blocks) shed.blocks (second.counts class.Block));
  vnodes = no_higher (count old.heap.vnodes) (count mid.heap.vnodes) (count new.heap.vnodes) (first.counts class.Vnode)
      (no_higher (count mid.heap.vnodes) (count last.heap.vnodes) (count new.heap.vnodes) shed.vnodes (second.counts class.Vnode));
  reads = subst (λ (fs : TreeView). fs.disk.reads ≤ new.tree.disk.reads) same (subst (λ (fs : TreeView). mid.tree.disk.reads ≤ fs.disk.reads) (sym still) shed.reads);
  cached = subst (λ (fs : TreeView). KeepsCached fs new.tree) same (subst (KeepsCached mid.tree) (sym still) shed.cached);
}
