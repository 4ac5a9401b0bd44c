-- What a call pays from its purse.
use Rattle.std.specs.Prelude.{◌≡◌, ℕ, ◌+◌, ◌≤◌, max}
use Rattle.priced_store.specs.declared.arena.Arena.{Arena}

-- A call that pays from its purse: what is in use and what the purse has left are together no more than they were, and at no moment was
-- more in use than at its start with all that it could spend.
pub record IsPaid (old : Arena) (before : ℕ) (new : Arena) (after : ℕ) : Type 0 where
  pub counts : new.used + after ≤ old.used + before
  pub risen : new.risen ≤ max old.risen (old.used + before)
  pub rises : old.risen ≤ new.risen
  pub heap : new.heap ≡ old.heap
  pub marks : new.marks ≡ old.marks
