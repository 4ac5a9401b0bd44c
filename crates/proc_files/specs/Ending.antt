-- Several numbers of a process are closed, one after another.
use Rattle.std.specs.Prelude.{ℕ, zero, suc, ◌≡◌, ◌<◌, ◌≤◌, Bool, true, false, if◌then◌else◌, List, Option, None, Some, slice_index_or, slice_set}
use Rattle.kheap_slabs.specs.declared.objects.Descriptor.{Descriptor as HeldDescriptor}
use Rattle.kheap_slabs.specs.Heap.{Heap}
use Rattle.posix_defs.specs.Files.Closing.{after_close, after_closes, all_numbers}
use Rattle.posix_defs.specs.Files.Descriptions.{Description, description_at}
use Rattle.posix_defs.specs.Files.State.{Files, node_of}
use Rattle.proc_table.specs.Procs.{OpensNone, numbers_in}
use Rattle.proc_table.specs.Table.{TableView}
use Rattle.proc_files.specs.Closing.{ChangesHolding}
use Rattle.proc_files.specs.Holders.{openings}

-- Descriptions go, and nothing of another is other: nobody opens a node more often, and what is there is what was there, on the node that
-- it was on.
pub record OnlyGoes (files next : Files) : Type 0 where
  pub fewer : (number : ℕ) → openings next number ≤ openings files number
  pub left : (place : ℕ) (description : Description) → description_at next.descriptions place ≡ Some description → description_at files.descriptions place ≡ Some description
  pub nodes : (place : ℕ) (description : Description) → description_at next.descriptions place ≡ Some description → node_of next description.target ≡ node_of files description.target

-- ---- which are closed

-- a number is marked among these
abbrev pub is_marked : List Bool → ℕ → Bool
is_marked marks fd = slice_index_or marks fd false

-- `exec` closes what a number names
abbrev pub has_mark : Option HeldDescriptor → Bool
has_mark None = false
has_mark (Some held) = held.close_on_exec

-- `exec` closes a number of these
abbrev pub goes_at_exec : List (Option HeldDescriptor) → ℕ → Bool
goes_at_exec places fd = has_mark (slice_index_or places fd None)

-- the machine's files once a process has closed the numbers below one that a test picks, the lowest first
abbrev pub closed_where : (ℕ → Bool) → Files → ℕ → ℕ → Files
closed_where test files pid zero = files
closed_where test files pid (suc fd) = if test fd then after_close (closed_where test files pid fd) pid fd else closed_where test files pid fd

-- the machine's files once a process has closed all that it has open, as one that ends
unfoldable pub closed_each : Files → ℕ → Files
closed_each files pid = after_closes files pid all_numbers

-- ---- in the heap

-- a number is open no more, if it is marked
pub record ClosesIf (old new : Heap) (kept : TableView) (pid fd : ℕ) (marked : Bool) : Type 0 where
  pub changes : ChangesHolding old new kept pid
  pub becomes : numbers_in new changes.now ≡ (if marked then slice_set (numbers_in old changes.proc) fd None else numbers_in old changes.proc)

-- of the numbers below one those are open no more that a test picks, and none is that wasn't
pub record ClosesMarked (old new : Heap) (kept : TableView) (pid : ℕ) (test : ℕ → Bool) (below : ℕ) : Type 0 where
  pub changes : ChangesHolding old new kept pid
  pub closed : (fd : ℕ) → fd < below → test fd ≡ true → slice_index_or (numbers_in new changes.now) fd None ≡ None
  pub fewer : (fd : ℕ) → slice_index_or (numbers_in old changes.proc) fd None ≡ None → slice_index_or (numbers_in new changes.now) fd None ≡ None

-- none is open any more
pub record ClosesEach (old new : Heap) (kept : TableView) (pid : ℕ) : Type 0 where
  pub changes : ChangesHolding old new kept pid
  pub none : OpensNone changes.now
