-- Which worlds the objects of a store stand for, family by family, and what a turn of a call does to them.
use Rattle.std.specs.Prelude.{ℕ, Bool, ◌≡◌, true, Option, None, Some}
use Rattle.kabi_types.specs.declared.calls.Call.{Call}
use Rattle.kabi_types.specs.declared.replies.Reply.{Reply}
use Rattle.kabi_types.specs.declared.scripts.Script.{Script}
use Rattle.kheap_slabs.specs.declared.objects.Proc.{Proc}
use Rattle.lock_table.specs.Chain.{HoldsLocks}
use Rattle.memfs_ops.specs.FileTree.{Stands, one_more}
use Rattle.posix_defs.specs.Account.{account_on, with_frames}
use Rattle.posix_defs.specs.Answer.{Answer}
use Rattle.posix_defs.specs.Control.{settled}
use Rattle.posix_defs.specs.Ending.{die}
use Rattle.posix_defs.specs.Family.{IsFamily}
use Rattle.posix_defs.specs.Memory.{Frames, Memory}
use Rattle.posix_defs.specs.MemoryCalls.{remembered}
use Rattle.posix_defs.specs.Files.State.{HalfOpen, with_opening}
use Rattle.posix_defs.specs.Files.Whole.{AreLocks}
use Rattle.posix_defs.specs.Plain.{Plain, answered, control_of, last_pid, with_files, with_table}
use Rattle.posix_defs.specs.Process.{ignores_of, is_alive, with_directory, with_ignores}
use Rattle.posix_defs.specs.Signals.{with_disposition}
use Rattle.posix_defs.specs.Tree.{is_directory}
use Rattle.posix_defs.specs.Turn.{Tells, account_after}
use Rattle.posix_defs.specs.ValidScript.{IsValid}
use Rattle.posix_defs.specs.World.{World, directories_of}
use Rattle.posix_defs.specs.declared.turner.Turned.{Turned}
use Rattle.proc_files.specs.Holders.{AreOpenNodes, HaveNames}
use Rattle.proc_table.specs.Accounting.{HasAccount}
use Rattle.proc_table.specs.Procs.{proc_of}
use Rattle.proc_table.specs.Standing.{IsTable}
use Rattle.store_objects.specs.declared.objects.Objects.{Objects}
use Rattle.store_objects.specs.Files.{HaveFiles}
use Rattle.store_objects.specs.Objects.{AreKept, procs_of}
use Rattle.store_objects.specs.Trees.{HasTree, kept_by, pins_in}
use Rattle.store_objects.specs.Working.{AreDirectories}

-- ---- the families

-- The processes in the heap are the machine's, each with what it has in memory; who runs has a control that the machine's leads
-- to.
pub record AreProcesses (script : Script) (objects : Objects) (plain : Plain) : Type 0 where
  pub table : IsTable objects.heap objects.procs plain.table
  pub last : objects.procs.last ≡ last_pid plain
  pub controls : (pid : ℕ) (proc : Proc) → proc_of (procs_of objects) pid ≡ Some proc → proc.status ≡ None → settled script (control_of plain pid) ≡ proc.control

-- A store stands for a world: each family of its objects for its part of the world.
pub record StandsFor (script : Script) (objects : Objects) (world : World) : Type 0 where
  pub valid : IsValid script
  pub kept : AreKept script objects
  pub processes : AreProcesses script objects world.plain
  -- one numbering of the heap's pages makes the account of frames true
  pub memory : HasAccount objects.heap objects.procs world.account.frames
  -- one numbering of descriptions, pipes and sockets makes what is open the machine's, and the account of fronts true
  pub files : HaveFiles objects world.plain.files world.account
  -- the chain of locks has the machine's
  pub locks : HoldsLocks objects.heap.locks objects.locks world.plain.files.locks
  -- the disk has the machine's tree, and the caches keep what is kept of it
  pub tree : HasTree objects world
  -- of the machine alone: who is whose child, and that everybody works in a directory
  pub family : IsFamily world.plain.table
  pub works : AreDirectories world.plain.files.tree (directories_of world.plain.table)

-- It stands for a world but for who holds what: one more holds a directory, since a process has entered it and will work there.
pub record HasEntered (script : Script) (objects : Objects) (world : World) (directory : ℕ) : Type 0 where
  pub valid : IsValid script
  pub kept : AreKept script objects
  pub processes : AreProcesses script objects world.plain
  pub memory : HasAccount objects.heap objects.procs world.account.frames
  pub files : HaveFiles objects world.plain.files world.account
  pub locks : HoldsLocks objects.heap.locks objects.locks world.plain.files.locks
  pub tree : Stands objects.heap objects.tree world.plain.files.tree (one_more (pins_in world.plain) directory)
  pub entered : is_directory world.plain.files.tree directory ≡ true
  pub same : world.kept ≡ kept_by objects.tree
  pub reads : world.reads ≡ objects.tree.disk.reads
  pub family : IsFamily world.plain.table
  pub works : AreDirectories world.plain.files.tree (directories_of world.plain.table)

-- What each machine that is reached has, of which calls on files and names make use: descriptions open nodes as they may, who
-- is bound is bound to a socket's name, but nobody who waits, and locks are of files that their holders have open.
pub record IsSound (plain : Plain) : Type 0 where
  pub nodes : AreOpenNodes plain.files
  pub names : HaveNames plain.files
  pub locks : AreLocks plain.files

-- ---- worlds after a step

-- a process goes on behind its call, which got this reply
abbrev pub answered_in : Script → World → ℕ → Reply → World
answered_in script world pid reply = record world { plain = answered script world.plain pid reply }

-- a process has something else in memory, and the account has these frames
abbrev pub remembered_in : World → ℕ → Memory → Frames → World
remembered_in world pid memory frames = record world { plain = remembered world.plain pid memory; account = with_frames world.account frames }

-- a process has ended with a status, and the account has gone on with the machine
abbrev pub ended_in : World → ℕ → ℕ → World
ended_in world pid status =
    record world { plain = die world.plain pid status; account = account_on world.plain (die world.plain pid status) world.account }

-- a process works in another directory
abbrev pub working_in : World → ℕ → ℕ → World
working_in world pid directory = record world { plain = with_table world.plain (with_directory world.plain.table pid directory) }

-- a process sleeps in this open of a FIFO, or in none
abbrev pub waiting_in : World → ℕ → Option HalfOpen → World
waiting_in world pid opening = record world { plain = with_files world.plain (with_opening world.plain.files pid opening) }

-- a process ignores a signal, or doesn't
abbrev pub disposed_in : World → ℕ → ℕ → Bool → World
disposed_in world pid signal ignored =
    record world { plain = with_table world.plain (with_ignores world.plain.table pid (with_disposition (ignores_of world.plain.table pid) signal ignored)) }

-- ---- a turn

-- The objects stand for a world to which an answer of a process's call leads: it is told, its machine and account are those after
-- the answer, and what is kept and how much was read are as before.
pub record WorldAfter (script : Script) (new : Objects) (world : World) (pid : ℕ) (call : Call) (answer : Answer) (told : Turned) : Type 0 where
  pub next : World
  pub stands : StandsFor script new next
  pub tells : Tells answer world.plain told next.plain
  pub account : next.account ≡ account_after world.account world.plain pid call answer
  pub kept : next.kept ≡ world.kept
  pub reads : next.reads ≡ world.reads

-- From each world that the objects stood for and in which the process ran, they stand for one to which its call's answer leads.
abbrev pub Performs : Script → Objects → ℕ → Call → (Plain → Answer) → Turned → Objects → Type 0
Performs script old pid call answer told new =
    (world : World) → StandsFor script old world → is_alive world.plain.table pid ≡ true
    → WorldAfter script new world pid call (answer world.plain) told
