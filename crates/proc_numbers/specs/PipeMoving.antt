-- What a read and a write of a pipe are told, and what a read leaves.
use Rattle.std.specs.Prelude.{ℕ, ◌+◌, ◌-◌, ◌==◌, if◌then◌else◌, pos, Bool, List, Option, take}
use Rattle.kabi_types.specs.declared.replies.Reply.TheVariants.{Fail, Val}
use Rattle.kheap_slabs.specs.Purse.{Purse}
use Rattle.kheap_slabs.specs.Heap.{Heap}
use Rattle.kheap_slabs.specs.Owners.{OwnsItsObjects}
use Rattle.kheap_slabs.specs.Paid.{TakesNothing}
use Rattle.page_space.specs.Putting.{Puts}
use Rattle.pipe_ends.specs.Standing.{LeavesOthers, StandsFor, account}
use Rattle.posix_defs.specs.Pipe.{Moving, Moves, Blocks, Fails, Pipe, after_read}
use Rattle.posix_defs.specs.QueuePlace.{after_take}
use Rattle.posix_defs.specs.declared.turner.Turned.{Turned}
use Rattle.posix_defs.specs.declared.turner.Turned.TheVariants as turned

-- of a read: how many bytes there were, that there are none yet, or why not
abbrev pub told_read : Moving → Turned
told_read (Moves k) = turned.Done (Val (pos k))
told_read Blocks = turned.Sleep
told_read (Fails errno) = turned.Done (Fail errno)

-- Of a write of n bytes, some of which were moved before: all of them, or as many as one who doesn't wait gets, or a part; where it
-- can't go on, what was moved, or why nothing was.
abbrev pub told_write : Bool → ℕ → ℕ → Moving → Turned
told_write nonblock n done (Moves k) =
    if k == n - done then turned.Done (Val (pos n)) else (if nonblock then turned.Done (Val (pos (done + k))) else turned.Part k)
told_write nonblock n done Blocks = turned.Sleep
told_write nonblock n done (Fails errno) = if done == 0 then turned.Done (Fail errno) else turned.Done (Val (pos done))

-- how many bytes move
abbrev pub moved_in : Moving → ℕ
moved_in (Moves k) = k
moved_in Blocks = 0
moved_in (Fails errno) = 0

-- this holds where no byte moves
abbrev pub UnlessMoves : Moving → Type 0 → Type 0
UnlessMoves (Moves k) Holds = Unit {0}
UnlessMoves Blocks Holds = Holds
UnlessMoves (Fails errno) Holds = Holds

-- The first k bytes of a pipe were taken out of its queue, and then put in memory.
pub record ReadsPipe (old : Heap) (before : Purse) (new : Heap) (after : Purse) (space : List (Option ℕ)) (key start : ℕ) (pipe : Pipe) (at k : ℕ) : Type 0 where
  -- the heap without them
  pub mid : Heap
  pub others : LeavesOthers old mid key
  pub takes : TakesNothing old mid
  pub owned : OwnsItsObjects mid
  pub stands : StandsFor mid key (after_read pipe k) (after_take (account pipe at) k).place
  pub puts : Puts mid before new after space start (take k pipe.bytes)
