-- The pipes of the heap, by the places that the machine has them at.
use Rattle.std.specs.Prelude.{ℕ, Bool, List, Option, slice_set, unwrap_or}
use Rattle.kheap_slabs.specs.Objects.{object}
use Rattle.kheap_slabs.specs.Heap.{Heap}
use Rattle.posix_defs.specs.Pipe.{Pipe, new_pipe, after_close}
use Rattle.pipe_ends.specs.Standing.{StandsFor}
use Rattle.open_laws.specs.Placed.{Numbers, ArePlaced}

-- the pipes of the heap stand for these
abbrev pub ArePiped : Numbers → Heap → List (Option Pipe) → Type 0
ArePiped numbers h pipes = ArePlaced (λ key held pipe. (at : ℕ) × StandsFor h key pipe at) numbers.pipes h.pipes (object pipes)

-- an end of the pipe of a place is closed
abbrev pub end_closed : List (Option Pipe) → ℕ → Bool → List (Option Pipe)
end_closed pipes place writing = slice_set pipes place (after_close (unwrap_or (object pipes place) new_pipe) writing)
