-- Pipes of FIFOs as the heap has them, while one of their sides is opened.
use Rattle.std.specs.Prelude.{◌≡◌, ◌+◌, ◌<◌, ◌==◌, ◌&&◌, ℕ, Bool, not, Option, Some, if◌then◌else◌}
use Rattle.kheap_slabs.specs.Objects.{object, put}
use Rattle.kheap_slabs.specs.declared.objects.Pipe.{Pipe as HeldPipe}
use Rattle.kheap_slabs.specs.Heap.{Heap}
use Rattle.kheap_slabs.specs.Queues.{empty_queue}
use Rattle.posix_defs.specs.Pipe.{Pipe, ends_of, opens_of}

abbrev pub held_ends : HeldPipe → Bool → ℕ
held_ends pipe writing = if writing then pipe.writers else pipe.readers

abbrev pub held_opens : HeldPipe → Bool → ℕ
held_opens pipe writing = if writing then pipe.write_opens else pipe.read_opens

-- it is a FIFO's pipe with one end of this side alone
abbrev pub has_last_end : HeldPipe → Bool → Bool
has_last_end pipe writing = not (pipe.node == 0) && (held_ends pipe writing == 1 && held_ends pipe (not writing) == 0)

-- the pipe of a FIFO that nobody has open, before this one in the chain
abbrev pub held_unopened : ℕ → Option ℕ → HeldPipe
held_unopened node next = record { queue = empty_queue; readers = 0; writers = 0; node = node; read_opens = 0; write_opens = 0; next = next }

-- one side was opened once more
abbrev pub held_with_end : HeldPipe → Bool → HeldPipe
held_with_end pipe writing =
    if writing then record pipe { writers = pipe.writers + 1; write_opens = pipe.write_opens + 1 }
    else record pipe { readers = pipe.readers + 1; read_opens = pipe.read_opens + 1 }

-- that side can be opened once more
pub record HasRoom (pipe : HeldPipe) (writing : Bool) : Type 0 where
  pub ends : held_ends pipe writing < 4294967295
  pub opens : held_opens pipe writing < 4294967295

pub record CanOpen (pipe : Pipe) (writing : Bool) : Type 0 where
  pub ends : ends_of pipe writing < 4294967295
  pub opens : opens_of pipe writing < 4294967295

-- one side of the pipe of a key was opened once more, and nothing else is other than before
pub record OpensAt (old new : Heap) (key : ℕ) (writing : Bool) : Type 0 where
  pub pipe : HeldPipe
  pub there : object old.pipes key ≡ Some pipe
  pub stored : object new.pipes key ≡ Some (held_with_end pipe writing)
  pub kept : new ≡ record old { pipes = put old.pipes key (held_with_end pipe writing) }
