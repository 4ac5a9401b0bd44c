-- What a change of the table leaves to all others.
use Rattle.std.specs.Prelude.{ℕ, Bool, ◌≡◌, ◌+◌, ◌-◌, ◌<◌, List, [], ◌∷◌, ◌++◌, count_by, length, Option, None, Some}
use Rattle.std.specs.List.{AllByRecursion, Contains}
use Rattle.kabi_types.specs.declared.classes.Class.TheVariants as class
use Rattle.kabi_types.specs.Counts.{with_count}
use Rattle.kheap_slabs.specs.Objects.{object, put}
use Rattle.kheap_slabs.specs.Purse.{Purse}
use Rattle.kheap_slabs.specs.declared.objects.Proc.{Proc}
use Rattle.kheap_slabs.specs.Heap.{Heap}
use Rattle.kheap_slabs.specs.Keys.{ChangesKeys}
use Rattle.kheap_slabs.specs.Leaves.{LeavesChange}
use Rattle.kheap_slabs.specs.Owners.{Owners, IsOwned}
use Rattle.kheap_slabs.specs.Paid.{IsPaid}
use Rattle.desc_table.specs.Copying.{no_leaves}
use Rattle.open_laws.specs.Owned.{all_namings, names_desc}
use Rattle.page_space.specs.Contents.{SpaceMoves, content_at}
use Rattle.proc_table.specs.Changes.{child_proc}
use Rattle.posix_defs.specs.Signals.{is_ignored, with_disposition}
use Rattle.proc_table.specs.Procs.{IsAwakeOnce, ignored_by, numbers_in, proc_of, with_ignored, with_numbers}
use Rattle.proc_table.specs.Table.{TableView, Holds, key_of, keys_of, processes, with_procs}
use Rattle.proc_table.specs.declared.places.Place.{Place}

-- The table has changed and holds again, and nothing but its Procs, nodes and pages is other than before. Whoever else owned
-- a part of the heap still does, and every other space has in its pages what it had.
pub record TableMoves (old : Heap) (was : TableView) (new : Heap) (now : TableView) : Type 0 where
  pub holds : Holds new now
  pub owners : (others : Owners) → IsOwned old (with_procs (processes old was) others) → IsOwned new (with_procs (processes new now) others)
  pub others : (others : Owners) (other : List (Option ℕ)) → IsOwned old (with_procs (processes old was) others) → Contains others.spaces other
      → (page : ℕ) → content_at new other page ≡ content_at old other page
  pub keys : ChangesKeys old.procs new.procs (keys_of was.listed) (keys_of now.listed)
  pub kept : new ≡ record old { procs = new.procs; nodes = new.nodes; pages = new.pages; high = new.high }

-- a heap with the Descs and the Leaves that another one has
abbrev pub sharing : Heap → Heap → Heap
sharing old new = record old { descs = new.descs; leaves = new.leaves }

-- these processes have in their pages what they had
abbrev pub MemoryStays : Heap → Heap → List Proc → Type 0
MemoryStays old new procs = AllByRecursion (λ proc. (page : ℕ) → content_at new proc.nodes page ≡ content_at old proc.nodes page) procs

-- A process is put in the heap, behind the others of its table, and paid for.
pub record IsAdded (old : Heap) (before : Purse) (was : TableView) (new : Heap) (after : Purse) (now : TableView) (child : Proc) : Type 0 where
  pub key : ℕ
  pub vacant : object old.procs key ≡ None
  pub stored : object new.procs key ≡ Some child
  pub listed : now.listed ≡ was.listed ++ record { pid = child.pid; key = key } ∷ []
  pub last : now.last ≡ child.pid
  pub kept : new ≡ record old { procs = put old.procs key child; high = new.high }
  pub paid : IsPaid old before new after
  pub spent : after ≡ record before { left = with_count before.left class.Proc (before.left.proc - 1) }

-- A child is there, behind the others: what its parent is, but for its pid and its parent's, with nodes of its own for the four
-- groups of its pages, and the parent's bytes in each page, and with other Leaves. All others have what they had.
pub record IsForked (old : Heap) (was : TableView) (new : Heap) (now : TableView) (pid child : ℕ) : Type 0 where
  pub parent : Proc
  pub nodes : List (Option ℕ)
  pub groups : length nodes ≡ 4
  pub leaves : List (Option ℕ)
  pub rows : length leaves ≡ 3
  pub parent_is : proc_of (processes old was) pid ≡ Some parent
  pub processes_are : processes new now ≡ processes old was ++ child_proc parent child nodes leaves ∷ []
  pub last : now.last ≡ child
  pub same : (page : ℕ) → page < 256 → content_at new nodes page ≡ content_at old parent.nodes page
  pub stays : MemoryStays old new (processes old was)

-- A child has at each number the descriptor that its parent has there, and its Leaves are new ones: each Desc is named more often by as
-- many as its parent has.
pub record HasCopies (old new : Heap) (parent child : Proc) : Type 0 where
  pub numbers : numbers_in new child ≡ numbers_in old parent
  pub own : LeavesChange old.leaves new.leaves no_leaves child.leaves
  pub namings : (key : ℕ) → all_namings new key ≡ all_namings old key + count_by (names_desc key) (numbers_in old parent)

-- A live process has another space, which was its space in hand, and its Proc names that one's nodes.
pub record SpaceTurns (old mid new : Heap) (kept : TableView) (pid key : ℕ) (proc : Proc) (now : List (Option ℕ)) : Type 0 where
  pub found : key_of kept.listed pid ≡ Some key
  pub there : object old.procs key ≡ Some proc
  pub runs : proc.status ≡ None
  pub moves : SpaceMoves old mid proc.nodes now
  pub after : new ≡ record mid { procs = put mid.procs key (record proc { nodes = now }) }

-- A process goes on: its Proc has another control, works in another directory, ignores other signals, or sleeps in another open. Who has
-- ended sleeps in none.
pub record ProcTurns (old new : Heap) (kept : TableView) (pid key : ℕ) (proc now : Proc) : Type 0 where
  pub found : key_of kept.listed pid ≡ Some key
  pub there : object old.procs key ≡ Some proc
  pub same : now ≡ record proc { control = now.control; cwd = now.cwd; ignores_pipe = now.ignores_pipe; ignores_term = now.ignores_term; opening = now.opening }
  pub awake : IsAwakeOnce proc.status proc.opening → IsAwakeOnce proc.status now.opening
  pub after : new ≡ record old { procs = put old.procs key now }

-- A process ignores a signal now, or doesn't, and it is told whether it did before.
pub record Disposes (old new : Heap) (kept : TableView) (place : Place) (signal : ℕ) (ignored before : Bool) : Type 0 where
  pub proc : Proc
  pub found : proc_of (processes old kept) place.pid ≡ Some proc
  pub turns : ProcTurns old new kept place.pid place.key proc (with_ignored proc (with_disposition (ignored_by proc) signal ignored))
  pub was : before ≡ is_ignored (ignored_by proc) signal

-- A process has other numbers open: its Proc keeps other descriptors and names other Leaves, or others stand in these. All else of it
-- is as it was, and the Leaves of all others are what they were.
pub record NumbersTurn (old new : Heap) (kept : TableView) (pid key : ℕ) (proc now : Proc) : Type 0 where
  pub found : key_of kept.listed pid ≡ Some key
  pub there : object old.procs key ≡ Some proc
  pub same : now ≡ with_numbers proc now
  pub procs : new.procs ≡ put old.procs key now
  pub leaves : LeavesChange old.leaves new.leaves proc.leaves now.leaves
