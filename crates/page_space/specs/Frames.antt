-- The frames that page entries name, by their pages in the heap.
use Rattle.std.specs.Prelude.{◌≡◌, ℕ, ◌<◌, List, Option}
use Rattle.kheap_slabs.specs.Objects.{InUse}
use Rattle.kheap_slabs.specs.declared.objects.Page.{Page}
use Rattle.kheap_slabs.specs.declared.objects.PageEntry.{PageEntry}
use Rattle.kheap_slabs.specs.declared.objects.PageEntry.TheVariants as entry
use Rattle.kheap_slabs.specs.Spaces.{count_at, bytes_at}

-- the entry names no page, or one that is counted
abbrev pub IsNamed : List (Option Page) → PageEntry → Type 0
IsNamed pages entry.Unmapped = Unit {0}
IsNamed pages entry.Zero = Unit {0}
IsNamed pages (entry.Frame key) = 0 < count_at pages key

-- every page that is there is named
abbrev pub AllNamed : List (Option Page) → Type 0
AllNamed pages = (key : ℕ) → InUse pages key → 0 < count_at pages key

-- a page that was there and is there still has the bytes that it had
abbrev pub FramesStay : List (Option Page) → List (Option Page) → Type 0
FramesStay old new = (key : ℕ) → InUse old key → InUse new key → bytes_at new key ≡ bytes_at old key
