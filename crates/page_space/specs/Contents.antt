-- What stands in the pages of an address space, by its nodes and pages in the heap, and what a change leaves to others.
use Rattle.std.specs.Prelude.{◌≡◌, ◌⊎◌, ℕ, ◌-◌, ◌<◌, ◌≤◌, List, ◌∷◌, Option, None, Some}
use Rattle.std.specs.List.{Contains}
use Rattle.posix_defs.specs.Memory.{Memory, zero_page, page_at, Frames, after_map, after_unmap, after_clear}
use Rattle.kheap_slabs.specs.Heap.{Heap}
use Rattle.kheap_slabs.specs.Owners.{Owners, with_space, IsOwned}
use Rattle.kabi_types.specs.declared.classes.Class.TheVariants as class
use Rattle.kabi_types.specs.Counts.{with_count}
use Rattle.kheap_slabs.specs.Purse.{Purse}
use Rattle.kheap_slabs.specs.declared.objects.Page.{Page}
use Rattle.kheap_slabs.specs.declared.objects.PageEntry.{PageEntry}
use Rattle.kheap_slabs.specs.declared.objects.PageEntry.TheVariants as entry
use Rattle.kheap_slabs.specs.Paid.{IsPaid, PaysExactly, TakesNothing}
use Rattle.kheap_slabs.specs.Spaces.{bytes_at}
use Rattle.page_space.specs.Accounts.{IsAccounted, AccountFollows, AccountLeaves}
use Rattle.page_space.specs.Changes.{OwnChanges, OwnGoes}
use Rattle.page_space.specs.Entries.{entry_at}

-- the bytes that an entry stands for, if its page is mapped
abbrev pub content_of : List (Option Page) → PageEntry → Option (List ℕ)
content_of pages entry.Unmapped = None
content_of pages entry.Zero = Some zero_page
content_of pages (entry.Frame key) = bytes_at pages key

-- the bytes of a page of the space, if it is mapped
abbrev pub content_at : Heap → List (Option ℕ) → ℕ → Option (List ℕ)
content_at h space page = content_of h.pages (entry_at h.nodes space page)

-- the space stands for this memory: each page has its bytes
abbrev pub StandsFor : Heap → List (Option ℕ) → Memory → Type 0
StandsFor h space memory = (page : ℕ) → page < 256 → content_at h space page ≡ page_at memory page

-- the space is one of those that own the heap's nodes
abbrev pub IsOwnedWith : Heap → List (Option ℕ) → Type 0
IsOwnedWith h space = (others : Owners) × IsOwned h (with_space space others)

-- One space has changed, and nothing but nodes and pages is other than before. Whoever else owned a part of the heap
-- still does, and every other space has in its pages what it had.
pub record SpaceMoves (old new : Heap) (space now : List (Option ℕ)) : Type 0 where
  pub owners : (others : Owners) → IsOwned old (with_space space others) → IsOwned new (with_space now others)
  pub others : (others : Owners) (other : List (Option ℕ)) → IsOwned old (with_space space others) → Contains others.spaces other
      → (page : ℕ) → content_at new other page ≡ content_at old other page
  pub kept : new ≡ record old { nodes = new.nodes; pages = new.pages; high = new.high }

-- the space has no mapped page from one up to below another, its other pages have what they had, and nothing is taken
pub record IsCleared (old new : Heap) (space now : List (Option ℕ)) (first end : ℕ) : Type 0 where
  pub moves : SpaceMoves old new space now
  pub gone : (page : ℕ) → first ≤ page → page < end → entry_at new.nodes now page ≡ entry.Unmapped
  pub stays : (page : ℕ) → (page < first) ⊎ (end ≤ page) → content_at new now page ≡ content_at old space page
  pub own : OwnChanges old new space now
  pub account : AccountFollows old new space now (λ frames pid. after_unmap frames pid first (end - first))
  pub takes : TakesNothing old new

-- The space is no owner any more, and nothing but nodes and pages is other than before. Whoever else owned a part of the
-- heap still does, and every other space has in its pages what it had.
pub record SpaceLeaves (old new : Heap) (space : List (Option ℕ)) : Type 0 where
  pub owners : (others : Owners) → IsOwned old (with_space space others) → IsOwned new others
  pub others : (others : Owners) (other : List (Option ℕ)) → IsOwned old (with_space space others) → Contains others.spaces other
      → (page : ℕ) → content_at new other page ≡ content_at old other page
  pub own : OwnGoes old new space
  pub account : (number : ℕ → ℕ) (before : Frames) (pid : ℕ) → IsAccounted old number before pid space
      → AccountLeaves old new space number before (after_clear before pid) pid
  pub kept : new ≡ record old { nodes = new.nodes; pages = new.pages; high = new.high }

-- The pages of the space from one up to below another are mapped now and zero, its other pages have what they had, and
-- nodes alone are paid for, just those that are made.
pub record IsFilled (old : Heap) (before : Purse) (new : Heap) (after : Purse) (space now : List (Option ℕ)) (first end : ℕ) : Type 0 where
  pub moves : SpaceMoves old new space now
  pub zeros : (page : ℕ) → first ≤ page → page < end → content_at new now page ≡ Some zero_page
  pub stays : (page : ℕ) → (page < first) ⊎ (end ≤ page) → content_at new now page ≡ content_at old space page
  pub entries : (page : ℕ) → end ≤ page → entry_at new.nodes now page ≡ entry_at old.nodes space page
  pub own : OwnChanges old new space now
  pub account : AccountFollows old new space now (λ frames pid. after_map frames pid first (end - first))
  pub paid : IsPaid old before new after
  pub exact : PaysExactly class.Node old before new after
  pub spent : after ≡ record before { left = with_count before.left class.Node after.left.node }

-- A new space has what another has in its pages up to one, and none behind it is mapped. Both own what they own beside
-- whoever else did, all other spaces have in their pages what they had, and nodes alone are paid
-- for, just those that are made.
pub record IsForked (old : Heap) (before : Purse) (new : Heap) (after : Purse) (of now : List (Option ℕ)) (end : ℕ) : Type 0 where
  pub owners : (others : Owners) → IsOwned old (with_space of others) → IsOwned new (with_space now (with_space of others))
  pub others : (others : Owners) (other : List (Option ℕ)) → IsOwned old (with_space of others) → Contains (of ∷ others.spaces) other
      → (page : ℕ) → content_at new other page ≡ content_at old other page
  pub same : (page : ℕ) → page < end → content_at new now page ≡ content_at old of page
  pub rest : (page : ℕ) → end ≤ page → entry_at new.nodes now page ≡ entry.Unmapped
  pub kept : new ≡ record old { nodes = new.nodes; pages = new.pages; high = new.high }
  pub paid : IsPaid old before new after
  pub exact : PaysExactly class.Node old before new after
  pub spent : after ≡ record before { left = with_count before.left class.Node after.left.node }
