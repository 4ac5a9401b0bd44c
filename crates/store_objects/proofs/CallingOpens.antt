-- A call has changed what a process has open, with the tree of files and the names of sockets, and its caller goes on.
use Rattle.std.proofs.Common.{◌≡◌, ℕ, List, [], Option, length, le_refl, refl, ap, subst, sym, ◌∙◌}
use Rattle.std.specs.Prelude.{IsSome}
use Rattle.store_objects.proofs.Leaving.{files_in}
use Rattle.kheap_slabs.specs.declared.objects.Lock.{Lock as HeldLock}
use Rattle.lock_table.specs.Chain.{HoldsLocks, IsLockTable}
use Rattle.fifo_nodes.specs.Chain.{IsChain}
use Rattle.kabi_types.specs.declared.calls.Call.{Call}
use Rattle.kabi_types.specs.declared.scripts.Control.{Control}
use Rattle.kabi_types.specs.declared.scripts.Script.{Script}
use Rattle.kabi_types.specs.declared.replies.Reply.{Reply}
use Rattle.kheap_slabs.specs.declared.objects.Sock.{Sock}
use Rattle.kheap_slabs.specs.Heap.{Heap, IsWellFormed}
use Rattle.kheap_slabs.specs.Paid.{TakesNothing}
use Rattle.memfs_ops.specs.FileTree.{TreeView}
use Rattle.open_laws.specs.Owned.{HasItsOwners}
use Rattle.open_laws.specs.Placed.{Numbers}
use Rattle.posix_defs.specs.Answer.{Answer}
use Rattle.posix_defs.specs.Files.State.{Files}
use Rattle.posix_defs.specs.Memory.{Frames}
use Rattle.posix_defs.specs.MemoryCalls.{frames_after}
use Rattle.posix_defs.specs.Plain.{Plain, with_files}
use Rattle.posix_defs.specs.World.{World}
use Rattle.posix_defs.specs.declared.turner.Turned.{Turned}
use Rattle.posix_defs.specs.declared.turner.Turned.TheVariants as turned
use Rattle.proc_numbers.specs.Having.{AreListed}
use Rattle.proc_files.specs.Answering.{AnswersHolding}
use Rattle.proc_files.specs.Closing.{ChangesHolding}
use Rattle.proc_files.specs.Holding.{HoldFiles, HoldSome}
use Rattle.proc_files.specs.Holders.{holders}
use Rattle.proc_numbers.specs.Queues.{QueuesStand}
use Rattle.proc_files.proofs.Changing.{holding_of}
use Rattle.proc_numbers.proofs.Changes.{changes_nothing}
use Rattle.proc_files.specs.NameAnswering.{AnswersClosing, AnswersNaming}
use Rattle.proc_files.specs.Names.{AreBound, name_of}
use Rattle.proc_files.specs.NameHolding.{HoldNames, HoldSomeNames}
use Rattle.proc_table.specs.Procs.{IsAlive}
use Rattle.proc_table.specs.Table.{key_of}
use Rattle.store_objects.specs.declared.objects.Objects.{Objects}
use Rattle.store_objects.specs.Objects.{AreKept, Runs, procs_of}
use Rattle.store_objects.specs.Standing.{IsSound, StandsFor}
use Rattle.store_objects.specs.Trees.{KeepsTree, others_in}
use Rattle.store_objects.specs.Walking.{Serves}
use Rattle.store_objects.proofs.StoreFiles.{holds_files, holds_names}
use Rattle.store_objects.proofs.Keeping.{listed_in}
use Rattle.store_objects.proofs.Replies.{GoesOn}
use Rattle.store_objects.proofs.RunningProcs.{has_key}
use Rattle.store_objects.specs.FileMoves.{CachesWithin, FileMoves}
use Rattle.store_objects.specs.FileWorlds.{LeavesCached, LocksFollow}
use Rattle.store_objects.proofs.Answered.{answered_holding}
use Rattle.store_objects.proofs.FileMoving.{kept_turned, runs_turned}
use Rattle.store_objects.proofs.Serving.{serves}
use Rattle.store_objects.proofs.Staying.{memory_holding, moves_holding}

-- ---- what calls ask

-- who runs is alive, and has a key
pub alive_who_runs : (objects : Objects) (pid : ℕ) (control : Control) → Runs objects pid control → IsAlive (procs_of objects) pid
alive_who_runs objects pid control runs = record { proc = runs.proc; there = runs.found; runs = runs.up }

pub key_who_runs : (script : Script) (objects : Objects) (pid : ℕ) (control : Control) → AreKept script objects → Runs objects pid control → IsSome (key_of objects.procs.listed pid)
key_who_runs script objects pid control kept runs = has_key script objects pid kept (alive_who_runs objects pid control runs)

-- a store holds some files, with the names of their sockets
pub holds_some_names : (script : Script) (objects : Objects) (world : World) → StandsFor script objects world → IsSound world.plain → IsWellFormed objects.heap
    → HoldSomeNames objects.heap objects.procs objects.tree objects.names
holds_some_names script objects world stands sound well = record {
  numbers = stands.files.numbers;
  others = others_in world.plain;
  files = world.plain.files;
  hold = holds_names script objects world stands well sound;
}

pub holds_some : (script : Script) (objects : Objects) (world : World) → StandsFor script objects world → IsSound world.plain → IsWellFormed objects.heap
    → HoldSome objects.heap objects.procs objects.tree
holds_some script objects world stands sound well =
    let some = holds_some_names script objects world stands sound well in
    record { numbers = some.numbers; others = some.others; files = some.files; hold = some.hold.held }

-- what is held is a tree that is kept
pub keeps_some : (objects : Objects) → HoldSome objects.heap objects.procs objects.tree → KeepsTree objects.heap objects.tree
keeps_some objects some = (some.files.tree, holders some.others some.files, some.hold.tree)

-- where no socket is another, who is bound is bound still
pub bound_still : (script : Script) (old : Objects) (heap : Heap) → AreKept script old → heap.socks ≡ old.heap.socks → AreBound (name_of heap.socks) old.names
bound_still script old heap kept same = subst (λ (socks : List (Option Sock)). AreBound (name_of socks) old.names) (sym same) kept.bound

-- where no lock of the heap is another, the chain is theirs still
pub locked_still : (old : Objects) (heap : Heap) → heap.locks ≡ old.heap.locks → IsLockTable old.heap.locks old.locks → IsLockTable heap.locks old.locks
locked_still old heap same locked = subst (λ (shelf : List (Option HeldLock)). IsLockTable shelf old.locks) (sym same) locked

-- a call that leaves the heap leaves what is open, and takes nothing
pub unchanged : (script : Script) (objects : Objects) (pid : ℕ) (control : Control) → AreKept script objects → Runs objects pid control → ChangesHolding objects.heap objects.heap objects.procs pid
unchanged script objects pid control kept runs =
    holding_of objects.heap objects.heap objects.procs pid
    (changes_nothing objects.heap objects.procs pid (listed_in script objects kept) (key_who_runs script objects pid control kept runs))

pub takes_none : (h : Heap) → TakesNothing h h
takes_none h = record { counts = λ class. le_refl _; high = refl; heap = refl; marks = refl }

-- the chain of locks follows a call that closes, by what it says of its files
pub closes_follow : (script : Script) (old : Objects) (heap : Heap) (fs : TreeView) (table : List (Option ℕ)) (fifos locks : Option ℕ) (pid : ℕ) (answer : Plain → Answer) (said : Reply) → IsWellFormed old.heap
    → ((numbers : Numbers) (others : ℕ → ℕ) (plain : Plain) → HoldNames numbers others old.heap old.procs old.tree old.names plain.files
    → AnswersClosing numbers others old.heap heap old.locks locks old.procs fs table script plain pid (answer plain) said)
    → LocksFollow script old (record { heap = heap; procs = old.procs; tree = fs; names = table; fifos = fifos; locks = locks }) pid answer said
closes_follow script old heap fs table fifos locks pid answer said well closes = λ world stands sound next is.
    let it = closes stands.files.numbers (others_in world.plain) world.plain (holds_names script old world stands well sound) in
    subst (λ (files : Files). HoldsLocks heap.locks locks files.locks) (sym (ap (files_in world.plain.files) (sym is ∙ it.answers.replies))) (it.locks stands.locks)

-- ---- what they leave

module _ (script : Script) (old : Objects) (heap : Heap) (fs : TreeView) (table : List (Option ℕ)) (fifos locks : Option ℕ) (pid : ℕ) (control : Control) (kept : AreKept script old) (runs : Runs old pid control)
    (changes : ChangesHolding old.heap heap old.procs pid) (listed : AreListed heap old.procs) (owners : HasItsOwners heap []) (chain : IsChain heap fifos) (locked : IsLockTable heap.locks locks) (bound : AreBound (name_of heap.socks) table)
    (places : length table ≡ length old.names) (some : HoldSome heap old.procs fs) where
  -- the objects mid
  abbrev pub mid : Objects
  mid = record { heap = heap; procs = old.procs; tree = fs; names = table; fifos = fifos; locks = locks }

  pub moves : FileMoves old mid
  moves = moves_holding old mid pid refl changes kept.holds (alive_who_runs old pid control runs) listed owners bound places (keeps_some mid some) chain locked

  pub kept_mid : AreKept script mid
  kept_mid = kept_turned script old mid kept moves

  pub runs_mid : Runs mid pid control
  runs_mid = runs_turned old mid pid control moves runs

  module _ (which : Call) (said : Reply) (told : Turned) (new : Objects) (answer : Plain → Answer) (well : IsWellFormed old.heap) (within : CachesWithin old mid which)
      (queues : QueuesStand old.heap heap) (tells : told ≡ turned.Done said) (goes : GoesOn script mid pid said new) (none : (frames : Frames) → frames_after frames pid which said ≡ frames) where
    -- by the numbers that there were
    pub serves_naming : ((numbers : Numbers) (others : ℕ → ℕ) (plain : Plain) → HoldNames numbers others old.heap old.procs old.tree old.names plain.files
        → AnswersNaming numbers others heap old.procs fs table script plain pid (answer plain) said)
        → ((world : World) (next : Plain) → StandsFor script old world → LeavesCached old mid world pid which said next)
        → LocksFollow script old mid pid answer said → Serves script old pid which answer told new
    serves_naming answers cached follow =
        serves script old mid new pid which said told within tells answer moves goes
        (λ world stands sound alive.
        let it = answers stands.files.numbers (others_in world.plain) world.plain (holds_names script old world stands well sound) in
        answered_holding script old mid world stands pid which said (answer world.plain) stands.files.numbers (memory_holding old mid pid refl changes kept.holds)
        queues (λ key used. refl) (λ key used. refl) (none world.account.frames) (record { files = it.files; replies = it.replies; holds = it.holds.held })
        (cached world (with_files world.plain it.files) stands)) follow

    -- and where names of sockets have no part in it
    pub serves_holding : ((numbers : Numbers) (others : ℕ → ℕ) (plain : Plain) → HoldFiles numbers others old.heap old.procs old.tree plain.files
        → AnswersHolding numbers others heap old.procs fs script plain pid (answer plain) said)
        → ((world : World) (next : Plain) → StandsFor script old world → LeavesCached old mid world pid which said next)
        → LocksFollow script old mid pid answer said → Serves script old pid which answer told new
    serves_holding answers cached follow =
        serves script old mid new pid which said told within tells answer moves goes
        (λ world stands sound alive.
        let it = answers stands.files.numbers (others_in world.plain) world.plain (holds_files script old world stands well sound) in
        answered_holding script old mid world stands pid which said (answer world.plain) stands.files.numbers (memory_holding old mid pid refl changes kept.holds)
        queues (λ key used. refl) (λ key used. refl) (none world.account.frames) it (cached world (with_files world.plain it.files) stands)) follow
