-- Bytes that are put in the memory of a space.
use Rattle.std.specs.Prelude.{◌≡◌, ◌≢◌, ℕ, ◌+◌, ◌/◌, ◌%◌, ◌≤◌, List, ◌++◌, Option, Some, length, take, drop}
use Rattle.posix_defs.specs.Memory.{Memory, Frames, stored, after_put, written_at}
use Rattle.posix_defs.specs.Needs.{pages_touched}
use Rattle.kabi_types.specs.declared.classes.Class.TheVariants as class
use Rattle.kabi_types.specs.Counts.{with_count}
use Rattle.kheap_slabs.specs.Purse.{Purse}
use Rattle.kheap_slabs.specs.Heap.{Heap}
use Rattle.kheap_slabs.specs.Paid.{IsPaid}
use Rattle.page_space.specs.Accounts.{IsAccounted, AccountFollows}
use Rattle.page_space.specs.Changes.{OwnChanges}
use Rattle.page_space.specs.Contents.{content_at, StandsFor, SpaceMoves}
use Rattle.page_space.specs.Entries.{is_mapped_at}

-- the bytes of a page with others from a place on
abbrev pub with_piece : List ℕ → ℕ → List ℕ → List ℕ
with_piece had at bytes = take at had ++ (bytes ++ drop (at + length bytes) had)

-- Of a purse pages alone are paid, one for each frame that this change of the account makes.
pub record PaysForFrames (old : Heap) (before after : Purse) (space : List (Option ℕ)) (change : Frames → ℕ → Frames) : Type 0 where
  pub pages_alone : after ≡ record before { left = with_count before.left class.Page after.left.page }
  pub each : (number : ℕ → ℕ) (frames : Frames) (pid : ℕ) → IsAccounted old number frames pid space
      → before.left.page + frames.made ≡ after.left.page + (change frames pid).made

-- Bytes were put in one page of the space from an address on.
pub record PutsPiece (old : Heap) (before : Purse) (new : Heap) (after : Purse) (space : List (Option ℕ)) (addr : ℕ) (bytes : List ℕ) : Type 0 where
  pub moves : SpaceMoves old new space space
  pub own : OwnChanges old new space space
  pub mapped : (page : ℕ) → is_mapped_at new.nodes space page ≡ is_mapped_at old.nodes space page
  pub long : (had : List ℕ) → content_at old space (addr / 4096) ≡ Some had → length had ≡ 4096
  pub put : (had : List ℕ) → content_at old space (addr / 4096) ≡ Some had → content_at new space (addr / 4096) ≡ Some (with_piece had (addr % 4096) bytes)
  pub stays : (other : ℕ) → other ≢ addr / 4096 → content_at new space other ≡ content_at old space other
  pub account : AccountFollows old new space space (λ frames pid. written_at frames pid (addr / 4096))
  pub paid : IsPaid old before new after
  pub pays : PaysForFrames old before after space (λ frames pid. written_at frames pid (addr / 4096))
  pub at_most : before.left.page ≤ after.left.page + 1

-- Bytes were put in the memory of the space from an address on: its pages have them, all others have what they had, the
-- account is that after such a store, and no more pages are paid for than the bytes touch.
pub record Puts (old : Heap) (before : Purse) (new : Heap) (after : Purse) (space : List (Option ℕ)) (addr : ℕ) (bytes : List ℕ) : Type 0 where
  pub moves : SpaceMoves old new space space
  pub own : OwnChanges old new space space
  pub mapped : (page : ℕ) → is_mapped_at new.nodes space page ≡ is_mapped_at old.nodes space page
  pub memory : (memory : Memory) → length memory ≡ 256 → StandsFor old space memory → StandsFor new space (stored memory addr bytes)
  pub account : AccountFollows old new space space (λ frames pid. after_put frames pid addr (length bytes))
  pub paid : IsPaid old before new after
  pub pays : PaysForFrames old before after space (λ frames pid. after_put frames pid addr (length bytes))
  pub at_most : before.left.page ≤ after.left.page + pages_touched addr (length bytes)
