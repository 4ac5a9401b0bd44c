-- The objects of a store: which processes stand in its heap, and what else.
use Rattle.std.specs.Prelude.{ℕ, ◌≡◌, ◌==◌, ◌<◌, Bool, false, not, if◌then◌else◌, List, [], ◌∷◌, Option, None, Some, is_some, length}
use Rattle.std.specs.List.{AllByRecursion}
use Rattle.fifo_nodes.specs.Chain.{IsChain}
use Rattle.kabi_types.specs.declared.scripts.Control.{Control}
use Rattle.kabi_types.specs.declared.scripts.Script.{Script}
use Rattle.kheap_slabs.specs.Leaves.{HoldLeaves}
use Rattle.kheap_slabs.specs.declared.objects.HalfOpen.{HalfOpen}
use Rattle.kheap_slabs.specs.declared.objects.Proc.{Proc}
use Rattle.kheap_slabs.specs.Keys.{AreKeysOf}
use Rattle.kheap_slabs.specs.Owners.{Owners}
use Rattle.lock_table.specs.Chain.{IsLockTable}
use Rattle.open_laws.specs.Owned.{HasItsOwners}
use Rattle.kheap_slabs.specs.Paid.{TakesNothing}
use Rattle.proc_table.specs.Moves.{ProcTurns}
use Rattle.proc_files.specs.Names.{AreBound, name_of}
use Rattle.proc_table.specs.Procs.{proc_of}
use Rattle.proc_table.specs.Table.{Holds, IsPlaced, keys_of, processes}
use Rattle.prog_ctl.specs.Runnable.{Rests, Stands}
use Rattle.store_objects.specs.declared.objects.Objects.{Objects}
use Rattle.store_objects.specs.declared.objects.Caller.{Caller}
use Rattle.store_objects.specs.Trees.{KeepsTree}

-- the processes that are there, by rising pid
abbrev pub procs_of : Objects → List Proc
procs_of objects = processes objects.heap objects.procs

-- the process of that pid is there and has not ended
abbrev pub is_running : List Proc → ℕ → Bool
is_running [] pid = false
is_running (proc ∷ procs) pid = if proc.pid == pid then not (is_some proc.status) else is_running procs pid

-- the process of that pid runs, and stands at this control
pub record Runs (objects : Objects) (pid : ℕ) (control : Control) : Type 0 where
  pub proc : Proc
  pub found : proc_of (procs_of objects) pid ≡ Some proc
  pub up : proc.status ≡ None
  pub at_call : proc.control ≡ control

-- The process of that pid has become another, and nothing else has changed.
pub record OneChanges (old : Objects) (pid : ℕ) (change : Proc → Proc) (new : Objects) : Type 0 where
  pub proc : Proc
  pub key : ℕ
  pub found : proc_of (procs_of old) pid ≡ Some proc
  pub turns : ProcTurns old.heap new.heap old.procs pid key proc (change proc)
  pub same : new.procs ≡ old.procs
  pub tree : new.tree ≡ old.tree
  pub names : new.names ≡ old.names
  pub fifos : new.fifos ≡ old.fifos
  pub locks : new.locks ≡ old.locks
  pub takes : TakesNothing old.heap new.heap

-- it has gone on at another control
abbrev pub MovesOn : Objects → ℕ → Control → Objects → Type 0
MovesOn old pid control new = OneChanges old pid (λ proc. record proc { control = control }) new

-- it sleeps in this open of a FIFO, or in none
abbrev pub WaitsIn : Objects → ℕ → Option HalfOpen → Objects → Type 0
WaitsIn old pid opening new = OneChanges old pid (λ proc. record proc { opening = opening }) new

-- it works in another directory
abbrev pub WorksElsewhere : Objects → ℕ → ℕ → Objects → Type 0
WorksElsewhere old pid directory new = OneChanges old pid (λ proc. record proc { cwd = directory }) new

-- who makes a call is the process of that pid, which runs, at its place
pub record IsCaller (objects : Objects) (pid : ℕ) (caller : Caller) : Type 0 where
  pub same : caller.place.pid ≡ pid
  pub placed : IsPlaced objects.procs caller.place
  pub proc : Proc
  pub found : proc_of (procs_of objects) pid ≡ Some proc
  pub up : proc.status ≡ None
  pub parent : caller.parent ≡ proc.parent
  pub control : caller.control ≡ proc.control

-- A process that runs stands at its next call: the local statements before it are done.
pub record IsAtCall (script : Script) (proc : Proc) : Type 0 where
  pub stands : Stands script proc.control
  pub rests : Rests script proc.control

-- every process that runs does
abbrev pub AreAtCalls : Script → List Proc → Type 0
AreAtCalls script procs = AllByRecursion (λ proc. proc.status ≡ None → IsAtCall script proc) procs

-- nobody owns anything
abbrev pub no_owners : Owners
no_owners = record { spaces = []; queues = [] }

-- the greatest number of a node, which the greatest disk has
abbrev pub most_nodes : ℕ
most_nodes = 4096

-- What the objects of a store keep, whatever they stand for: the table has every process that is in the heap, all nodes,
-- descriptions, pipes, sockets and chunks have their owners, and the rest is what the tree of files keeps in its caches. The table
-- of names has for each node the socket that is bound to it, and the pipes of all FIFOs are a chain, as all locks are. Who runs
-- stands at its next call.
pub record AreKept (script : Script) (objects : Objects) : Type 0 where
  pub holds : Holds objects.heap objects.procs
  pub all : AreKeysOf objects.heap.procs (keys_of objects.procs.listed)
  pub leaves : HoldLeaves objects.heap.leaves (procs_of objects)
  pub owners : HasItsOwners objects.heap []
  pub groups : AllByRecursion (λ proc. length proc.nodes ≡ 4) (procs_of objects)
  pub calls : AreAtCalls script (procs_of objects)
  pub bound : AreBound (name_of objects.heap.socks) objects.names
  pub places : most_nodes < length objects.names
  pub chain : IsChain objects.heap objects.fifos
  pub locked : IsLockTable objects.heap.locks objects.locks
  pub caches : KeepsTree objects.heap objects.tree
  pub size : objects.heap.heap ≡ script.heap
