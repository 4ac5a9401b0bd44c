-- How much of the heap a step uses.
use Rattle.std.specs.Prelude.{ℕ, ◌+◌, ◌≡◌, ◌≤◌, max}
use Rattle.kheap_slabs.specs.Heap.{Heap, live_bytes}

-- At the end no more bytes are taken than so many above those at the start; at no moment were more than those and what the step
-- may use of the reserve meanwhile. It makes no mark, so what high was it still counts.
pub record UsesAtMost (old new : Heap) (bytes meanwhile : ℕ) : Type 0 where
  pub live : live_bytes new ≤ live_bytes old + bytes
  pub high : new.high ≤ max old.high (live_bytes old + bytes + meanwhile)
  pub rises : old.high ≤ new.high
  pub heap : new.heap ≡ old.heap
  pub marks : new.marks ≡ old.marks
