-- What the account says of the memory of all processes.
use Rattle.std.specs.Prelude.{ℕ, ◌≡◌, List, Option, None, Result, Ok, Err, length}
use Rattle.std.specs.List.{AllByRecursion}
use Rattle.kabi_types.specs.declared.errnos.Errno.{Errno}
use Rattle.kheap_slabs.specs.declared.objects.Node.{Node}
use Rattle.kheap_slabs.specs.declared.objects.Proc.{Proc}
use Rattle.kheap_slabs.specs.Heap.{Heap}
use Rattle.page_space.specs.Accounts.{AreFrames, HasPlaces}
use Rattle.posix_defs.specs.Memory.{Frames, after_fork, no_places, places_of}
use Rattle.proc_table.specs.Procs.{proc_of}
use Rattle.proc_table.specs.Table.{TableView, processes}

-- the account says of a process's space what it has, where the frame in the page of each key has this number
pub record IsPlaced (number : ℕ → ℕ) (nodes : List (Option Node)) (frames : Frames) (proc : Proc) : Type 0 where
  pub places : HasPlaces number nodes proc.nodes (places_of frames proc.pid)
  pub whole : length (places_of frames proc.pid) ≡ 256

-- The account says of each process what it has in memory, of who is gone that it has nothing, and its frames are the pages
-- of the heap, by one numbering for all.
pub record HasAccount (h : Heap) (kept : TableView) (frames : Frames) : Type 0 where
  pub number : ℕ → ℕ
  pub numbers : AreFrames number h.pages frames
  pub placed : AllByRecursion (IsPlaced number h.nodes frames) (processes h kept)
  pub gone : (pid : ℕ) → proc_of (processes h kept) pid ≡ None → places_of frames pid ≡ no_places
  pub made : length frames.places ≡ kept.last

-- the account after a fork with this answer
abbrev pub forked_account : Frames → ℕ → Result ℕ Errno → Frames
forked_account frames pid (Ok child) = after_fork frames pid
forked_account frames pid (Err errno) = frames
