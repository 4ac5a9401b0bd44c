-- How often the other side of a FIFO was opened, as the heap has it and as the machine has it.
use Rattle.std.proofs.Common.{◌≡◌, ℕ, false, ap, arith, le-ltb, sym, ◌∙◌}
use Rattle.std.specs.Prelude.{nat_lt, unwrap_or}
use Rattle.kheap_slabs.specs.Heap.{Heap}
use Rattle.open_laws.specs.Piped.{ArePiped}
use Rattle.open_laws.specs.Placed.{Numbers}
use Rattle.pipe_ends.specs.Standing.{IsPipeAt}
use Rattle.pipe_ends.proofs.StandingLemmas.{stands_for_one}
use Rattle.posix_defs.specs.Files.State.{Files, pipe_at}
use Rattle.posix_defs.specs.Pipe.{new_pipe}

-- the machine's pipe at the place of one is that which it stands for
pub pipe_is : (numbers : Numbers) (h : Heap) (files : Files) (key : ℕ) (is : IsPipeAt h key) → ArePiped numbers h files.pipes → is.0 ≡ pipe_at files (numbers.pipes key)
pipe_is numbers h files key is are =
    let there = are.there key is.2.held is.2.there in
    let means = are.means key is.2.held there.0 is.2.there there.1 in
    (stands_for_one h key is.0 there.0 is.1 means.0 is.2 means.1).0 ∙ sym (ap (λ o. unwrap_or o new_pipe) there.1)

-- no number is below 0
pub none_below : (n : ℕ) → false ≡ nat_lt n 0
none_below n = sym (le-ltb n 0 (omega arith))
