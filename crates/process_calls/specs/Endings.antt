-- Processes that end one after another.
use Rattle.std.specs.Prelude.{ℕ, ◌≡◌, ◌==◌, ◌<◌, false, if◌then◌else◌, List, [], ◌∷◌, None, count_by}
use Rattle.kheap_slabs.specs.declared.objects.Proc.{Proc}
use Rattle.lock_table.specs.Chain.{HoldsLocks}
use Rattle.open_laws.specs.Placed.{Numbers}
use Rattle.posix_defs.specs.Files.State.{Files}
use Rattle.posix_defs.specs.Memory.{Frames, after_clear}
use Rattle.posix_defs.specs.Plain.{root}
use Rattle.proc_files.specs.NameHolding.{HoldNames}
use Rattle.proc_table.specs.Procs.{IsAlive, closed_all}
use Rattle.store_objects.specs.Objects.{is_running, procs_of}
use Rattle.store_objects.specs.Trees.{but_root}
use Rattle.store_objects.specs.Working.{directories_in}
use Rattle.store_objects.specs.declared.objects.Objects.{Objects}

-- of the processes that run and have a higher pid than this the lowest
pub record IsLowestBehind (procs : List Proc) (pid found : ℕ) : Type 0 where
  pub behind : pid < found
  pub alive : IsAlive procs found
  pub lowest : (q : ℕ) → pid < q → q < found → is_running procs q ≡ false

-- a process that has nothing open any more, and sleeps in no open
abbrev pub silent : Proc → Proc
silent proc = record (closed_all proc) { opening = None }

-- the process of that pid is so
abbrev pub shut : ℕ → Proc → Proc
shut pid proc = if proc.pid == pid then silent proc else proc

-- the account after these processes have lost their memory in turn
abbrev pub cleared_in_turn : Frames → List ℕ → Frames
cleared_in_turn frames [] = frames
cleared_in_turn frames (pid ∷ pids) = cleared_in_turn (after_clear frames pid) pids

-- the account after some processes have lost their memory
abbrev pub ClearsSome : Frames → Frames → Type 0
ClearsSome before after = (pids : List ℕ) × (after ≡ cleared_in_turn before pids)

-- ---- what is open

-- the objects stand for these files, whose nodes descriptions hold, and so many others
abbrev pub HoldBeside : Numbers → (ℕ → ℕ) → Objects → Files → Type 0
HoldBeside numbers others objects files = HoldNames numbers others objects.heap objects.procs objects.tree objects.names files

-- how many hold a node beside descriptions: the root by itself, and each of these processes that works in another directory
abbrev pub workers_at : List Proc → ℕ → ℕ
workers_at procs number = count_by (λ node. node == number) (root ∷ but_root (directories_in procs))

-- the objects stand for these files, whose nodes descriptions hold, and who works in them
abbrev pub HoldFilesOf : Numbers → Objects → Files → Type 0
HoldFilesOf numbers objects files = HoldBeside numbers (workers_at (procs_of objects)) objects files

-- they stand for some files
abbrev pub HoldSomeFiles : Objects → Type 0
HoldSomeFiles objects = (numbers : Numbers) × (files : Files) × HoldFilesOf numbers objects files

-- ---- what is locked

-- the chain of locks has those of these files
abbrev pub HaveLocks : Objects → Files → Type 0
HaveLocks objects files = HoldsLocks objects.heap.locks objects.locks files.locks
