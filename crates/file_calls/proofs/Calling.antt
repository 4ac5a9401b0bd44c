-- A call on files has changed the objects of a store, and its caller goes on.
use Rattle.std.proofs.Common.{◌≡◌, ℕ, ℤ, List, [], Option, refl, ap, sym, ◌∙◌, subst}
use Rattle.std.specs.Prelude.{IsSome}
use Rattle.store_objects.proofs.LockedOn.{locked_on, locks_follow}
use Rattle.store_objects.specs.OpenMoves.{LocksStay}
use Rattle.answer_laws.specs.KeptLocks.{LeavesLocks}
use Rattle.kabi_types.specs.declared.calls.Call.{Call}
use Rattle.kabi_types.specs.declared.scripts.Control.{Control}
use Rattle.kabi_types.specs.declared.scripts.Script.{Script}
use Rattle.kabi_types.specs.declared.replies.Reply.{Reply}
use Rattle.kheap_slabs.specs.declared.objects.Sock.{Sock}
use Rattle.fifo_nodes.proofs.ChainLemmas.{chain_kept}
use Rattle.kheap_slabs.specs.Heap.{Heap, IsWellFormed}
use Rattle.memfs_ops.specs.FileTree.{TreeView}
use Rattle.open_laws.specs.Owned.{HasItsOwners}
use Rattle.open_laws.specs.Placed.{Numbers}
use Rattle.pipe_ends.proofs.LinkLemmas.{links_same}
use Rattle.posix_defs.specs.Account.{Account}
use Rattle.posix_defs.specs.Answer.{Answer}
use Rattle.posix_defs.specs.Memory.{Frames}
use Rattle.posix_defs.specs.MemoryCalls.{frames_after}
use Rattle.posix_defs.specs.Plain.{Plain, with_files}
use Rattle.posix_defs.specs.World.{World}
use Rattle.posix_defs.specs.declared.turner.Turned.{Turned}
use Rattle.posix_defs.specs.declared.turner.Turned.TheVariants as turned
use Rattle.proc_numbers.specs.Having.{AreListed}
use Rattle.proc_numbers.proofs.Fronts.{queues_same}
use Rattle.proc_files.specs.Answering.{AnswersHolding, StaysOffNodes}
use Rattle.proc_files.specs.Holding.{HoldFiles, HoldSome}
use Rattle.proc_files.specs.Holders.{holders}
use Rattle.proc_files.specs.Reading.{LeadsHolding}
use Rattle.proc_files.specs.Names.{AreBound, name_of}
use Rattle.proc_files.specs.NameHolding.{HoldNames}
use Rattle.proc_numbers.specs.Standing.{IsKept, StandsFor as QueuesStandFor}
use Rattle.proc_table.specs.Procs.{IsAlive}
use Rattle.proc_table.specs.Table.{key_of}
use Rattle.store_objects.specs.declared.objects.Objects.{Objects}
use Rattle.store_objects.specs.Objects.{AreKept, Runs, procs_of}
use Rattle.store_objects.specs.Standing.{IsSound, StandsFor}
use Rattle.store_objects.specs.Trees.{KeepsTree, others_in}
use Rattle.store_objects.specs.Walking.{Serves}
use Rattle.store_objects.proofs.StoreFiles.{holds_names}
use Rattle.store_objects.proofs.Keeping.{listed_in}
use Rattle.store_objects.proofs.Replies.{GoesOn}
use Rattle.store_objects.proofs.RunningProcs.{has_key}
use Rattle.store_objects.specs.FileMoves.{CachesWithin, FileMoves}
use Rattle.store_objects.specs.FileWorlds.{LeavesKin}
use Rattle.store_objects.proofs.Answered.{answered_holding, answered_leading}
use Rattle.store_objects.proofs.FileMoving.{kept_turned, runs_turned}
use Rattle.store_objects.proofs.Serving.{serves}
use Rattle.store_objects.proofs.Staying.{holds_elsewhere, memory_elsewhere, moves_elsewhere}
use Rattle.file_calls.proofs.Cached.{NamesNumber, leaves_cached}

-- ---- what calls ask

-- who runs is alive, and has a key
pub alive_who_runs : (objects : Objects) (pid : ℕ) (control : Control) → Runs objects pid control → IsAlive (procs_of objects) pid
alive_who_runs objects pid control runs = record { proc = runs.proc; there = runs.found; runs = runs.up }

pub key_who_runs : (script : Script) (objects : Objects) (pid : ℕ) (control : Control) → AreKept script objects → Runs objects pid control → IsSome (key_of objects.procs.listed pid)
key_who_runs script objects pid control kept runs = has_key script objects pid kept (alive_who_runs objects pid control runs)

-- processes and what is open are kept
pub is_kept : (script : Script) (objects : Objects) → AreKept script objects → IsKept objects.heap objects.procs
is_kept script objects kept = record { holds = kept.holds; listed = listed_in script objects kept; owners = kept.owners }

-- they stand for the machine, by the store's numbers
pub queues_stand : (script : Script) (objects : Objects) (world : World) → (stands : StandsFor script objects world)
    → QueuesStandFor stands.files.numbers objects.heap objects.procs world.plain world.account
queues_stand script objects world stands = record {
  table = stands.processes.table;
  opened = stands.files.opened;
  frames = stands.memory;
  fronts = stands.files.fronts;
}

-- and hold its files
pub holds_some : (script : Script) (objects : Objects) (world : World) → StandsFor script objects world → IsSound world.plain → IsWellFormed objects.heap
    → HoldSome objects.heap objects.procs objects.tree
holds_some script objects world stands sound well = record {
  numbers = stands.files.numbers;
  others = others_in world.plain;
  files = world.plain.files;
  hold = (holds_names script objects world stands well sound).held;
}

-- ---- what they leave

-- Processes are what they were, and pipes and sockets, in a heap that is as large.
pub record LeavesOthers (old new : Heap) : Type 0 where
  pub procs : new.procs ≡ old.procs
  pub pipes : new.pipes ≡ old.pipes
  pub socks : new.socks ≡ old.socks
  pub size : new.heap ≡ old.heap
  pub locks : new.locks ≡ old.locks

pub leaves_others : (old new is : Heap) → new ≡ is → is.procs ≡ old.procs → is.pipes ≡ old.pipes → is.socks ≡ old.socks → is.heap ≡ old.heap → is.locks ≡ old.locks → LeavesOthers old new
leaves_others old new is same procs pipes socks size locks = record {
  procs = ap (λ (h : Heap). h.procs) same ∙ procs;
  pipes = ap (λ (h : Heap). h.pipes) same ∙ pipes;
  socks = ap (λ (h : Heap). h.socks) same ∙ socks;
  size = ap (λ (h : Heap). h.heap) same ∙ size;
  locks = ap (λ (h : Heap). h.locks) same ∙ locks;
}

-- The objects with that heap and that tree.
abbrev pub mid_of : Objects → Heap → TreeView → Objects
mid_of old heap fs = record { heap = heap; procs = old.procs; tree = fs; names = old.names; fifos = old.fifos; locks = old.locks }

-- its locks are what they were
locks_stay : (old : Objects) (heap : Heap) (fs : TreeView) → LeavesOthers old.heap heap → LocksStay old (mid_of old heap fs)
locks_stay old heap fs others = record { shelf = others.locks; first = refl }

-- The store goes on where processes, pipes, sockets and the table of names are what they were.
moves_on : (script : Script) (old : Objects) (heap : Heap) (fs : TreeView) → LeavesOthers old.heap heap → AreKept script old → KeepsTree heap fs → IsKept heap old.procs → FileMoves old (mid_of old heap fs)
moves_on script old heap fs others kept keeps is =
    moves_elsewhere old (mid_of old heap fs) refl others.procs is
    (subst (λ (socks : List (Option Sock)). AreBound (name_of socks) old.names) (sym others.socks) kept.bound) refl keeps others.size
    (chain_kept old.heap heap old.fifos (links_same old.heap heap others.pipes) kept.chain) (locked_on old (mid_of old heap fs) (locks_stay old heap fs others) kept.locked)

-- ---- a call that moves bytes

-- Whatever machine they stand for, and hold the files of, the call leads it to one that its answer says, with this reply.
abbrev pub Leads : Script → Objects → Heap → TreeView → ℕ → Call → (Plain → Answer) → Reply → Type 0
Leads script old heap fs pid which answer said =
    (numbers : Numbers) (others : ℕ → ℕ) (plain : Plain) (account : Account) → QueuesStandFor numbers old.heap old.procs plain account
    → HoldFiles numbers others old.heap old.procs old.tree plain.files → LeadsHolding script numbers others heap old.procs fs plain account pid which (answer plain) said

-- A call on a number has changed heap and tree of a store that stood for a sound world, and is told so.
pub record HasMoved (script : Script) (old : Objects) (heap : Heap) (fs : TreeView) (pid : ℕ) (which : Call) (fd : ℤ) (answer : Plain → Answer) (said : Reply) : Type 0 where
  pub world : (world : World) × StandsFor script old world × IsSound world.plain
  pub well : IsWellFormed old.heap
  pub others : LeavesOthers old.heap heap
  pub is : IsKept heap old.procs
  pub names : NamesNumber which fd
  pub stays : StaysOffNodes old.heap old.procs pid fd old.tree fs
  pub leads : Leads script old heap fs pid which answer said

module _ (script : Script) (old : Objects) (heap : Heap) (fs : TreeView) (pid : ℕ) (which : Call) (fd : ℤ) (answer : Plain → Answer) (said : Reply)
    (moved : HasMoved script old heap fs pid which fd answer said) where
  abbrev mid : Objects
  mid = mid_of old heap fs

  led : (world : World) → (stands : StandsFor script old world) → IsSound world.plain
      → LeadsHolding script stands.files.numbers (others_in world.plain) heap old.procs fs world.plain world.account pid which (answer world.plain) said
  led world stands sound =
      let holds : HoldNames stands.files.numbers (others_in world.plain) old.heap old.procs old.tree old.names world.plain.files = holds_names script old world stands moved.well sound in
      moved.leads stands.files.numbers (others_in world.plain) world.plain world.account (queues_stand script old world stands) holds.held

  moves_moved : FileMoves old mid
  moves_moved =
      let world = moved.world.0 in
      let it = led world moved.world.1 moved.world.2 in
      moves_on script old heap fs moved.others moved.world.1.kept (it.next.files.tree, holders (others_in world.plain) it.next.files, it.holds.tree) moved.is

  pub kept_moved : AreKept script mid
  kept_moved = kept_turned script old mid moved.world.1.kept moves_moved

  pub runs_moved : (control : Control) → Runs old pid control → Runs mid pid control
  runs_moved control runs = runs_turned old mid pid control moves_moved runs

  -- behind it its caller goes on
  pub serves_moved : (told : Turned) (new : Objects) → CachesWithin old mid which → told ≡ turned.Done said → GoesOn script mid pid said new
      → ((plain : Plain) → LeavesKin plain (answer plain)) → ((plain : Plain) → LeavesLocks plain (answer plain)) → Serves script old pid which answer told new
  serves_moved told new within tells goes kin leaves =
      serves script old mid new pid which said told within tells answer moves_moved goes
      (λ world stands sound alive.
      let it = led world stands sound in
      answered_leading script old mid world stands pid which said (answer world.plain) (kin world.plain) it
      (leaves_cached script old mid world pid which fd moved.names said it.next stands moved.stays))
      (locks_follow script old mid pid answer said (locks_stay old heap fs moved.others) leaves)

-- ---- a call that leaves memory

-- Whatever files they hold, the call is answered so, and they hold those that it leads to.
abbrev pub AnswersSo : Script → Objects → Heap → TreeView → ℕ → (Plain → Answer) → Reply → Type 0
AnswersSo script old heap fs pid answer said =
    (numbers : Numbers) (others : ℕ → ℕ) (plain : Plain) → HoldFiles numbers others old.heap old.procs old.tree plain.files
    → AnswersHolding numbers others heap old.procs fs script plain pid (answer plain) said

-- A call on a number has changed what is open, or the tree, of a store that stood for a sound world, and is told so.
pub record HasChanged (script : Script) (old : Objects) (heap : Heap) (fs : TreeView) (pid : ℕ) (which : Call) (fd : ℤ) (answer : Plain → Answer) (said : Reply) : Type 0 where
  pub world : (world : World) × StandsFor script old world × IsSound world.plain
  pub well : IsWellFormed old.heap
  pub others : LeavesOthers old.heap heap
  pub nodes : heap.nodes ≡ old.heap.nodes
  pub pages : heap.pages ≡ old.heap.pages
  pub listed : AreListed heap old.procs
  pub owners : HasItsOwners heap []
  pub names : NamesNumber which fd
  pub stays : StaysOffNodes old.heap old.procs pid fd old.tree fs
  pub answers : AnswersSo script old heap fs pid answer said

module _ (script : Script) (old : Objects) (heap : Heap) (fs : TreeView) (pid : ℕ) (which : Call) (fd : ℤ) (answer : Plain → Answer) (said : Reply)
    (changed : HasChanged script old heap fs pid which fd answer said) where
  abbrev after : Objects
  after = mid_of old heap fs

  told : (world : World) → (stands : StandsFor script old world) → IsSound world.plain
      → AnswersHolding stands.files.numbers (others_in world.plain) heap old.procs fs script world.plain pid (answer world.plain) said
  told world stands sound =
      let holds : HoldNames stands.files.numbers (others_in world.plain) old.heap old.procs old.tree old.names world.plain.files = holds_names script old world stands changed.well sound in
      changed.answers stands.files.numbers (others_in world.plain) world.plain holds.held

  moves_changed : FileMoves old after
  moves_changed =
      let world = changed.world.0 in
      let kept : AreKept script old = changed.world.1.kept in
      let it = told world changed.world.1 changed.world.2 in
      moves_on script old heap fs changed.others kept (it.files.tree, holders (others_in world.plain) it.files, it.holds.tree)
      (record { holds = holds_elsewhere old after refl changed.others.procs kept.holds changed.listed changed.owners; listed = changed.listed; owners = changed.owners })

  pub kept_changed : AreKept script after
  kept_changed = kept_turned script old after changed.world.1.kept moves_changed

  pub runs_changed : (control : Control) → Runs old pid control → Runs after pid control
  runs_changed control runs = runs_turned old after pid control moves_changed runs

  pub serves_changed : (is : Turned) (new : Objects) → CachesWithin old after which → is ≡ turned.Done said → GoesOn script after pid said new
      → ((frames : Frames) → frames_after frames pid which said ≡ frames) → ((plain : Plain) → LeavesLocks plain (answer plain)) → Serves script old pid which answer is new
  serves_changed is new within tells goes none leaves =
      serves script old after new pid which said is within tells answer moves_changed goes
      (λ world stands sound alive.
      let it = told world stands sound in
      answered_holding script old after world stands pid which said (answer world.plain) stands.files.numbers (memory_elsewhere old after refl changed.others.procs changed.nodes changed.pages)
      (queues_same old.heap heap changed.others.pipes changed.others.socks) (λ key used. refl) (λ key used. refl) (none world.account.frames) it
      (leaves_cached script old after world pid which fd changed.names said (with_files world.plain it.files) stands changed.stays))
      (locks_follow script old after pid answer said (locks_stay old heap fs changed.others) leaves)
