-- What the account says of the pages of a space, by numbers for the pages of the heap.
use Rattle.std.specs.Prelude.{◌≡◌, ◌≢◌, ℕ, ◌+◌, ◌<◌, ◌≤◌, List, Option, length, slice_set}
use Rattle.std.specs.List.{Contains}
use Rattle.posix_defs.specs.Memory.{Frames, Place, Places, place_at, places_of, with_places, namings}
use Rattle.posix_defs.specs.Memory as account
use Rattle.kheap_slabs.specs.Objects.{InUse}
use Rattle.kheap_slabs.specs.declared.objects.Node.{Node}
use Rattle.kheap_slabs.specs.declared.objects.Page.{Page}
use Rattle.kheap_slabs.specs.declared.objects.PageEntry.{PageEntry}
use Rattle.kheap_slabs.specs.declared.objects.PageEntry.TheVariants as entry
use Rattle.kheap_slabs.specs.Heap.{Heap}
use Rattle.kheap_slabs.specs.Owners.{Owners, with_space, IsOwned}
use Rattle.kheap_slabs.specs.Spaces.{count_at}
use Rattle.page_space.specs.Entries.{entry_at}

-- what the account says of a page with this entry, where the frame in the page of each key has this number
abbrev pub place_of : (ℕ → ℕ) → PageEntry → Place
place_of number entry.Unmapped = account.Unmapped
place_of number entry.Zero = account.Zero
place_of number (entry.Frame key) = account.Frame (number key)

-- the account says of each page of the space what its entry says
abbrev pub HasPlaces : (ℕ → ℕ) → List (Option Node) → List (Option ℕ) → Places → Type 0
HasPlaces number nodes space places = (page : ℕ) → page < 256 → place_at places page ≡ place_of number (entry_at nodes space page)

-- The pages of the heap are the frames of the account that are named: each has the number of one that was made, no two
-- have the same, and the account names it as often as its page counts.
pub record AreFrames (number : ℕ → ℕ) (pages : List (Option Page)) (frames : Frames) : Type 0 where
  pub counts : (key : ℕ) → InUse pages key → namings frames.places (number key) ≡ count_at pages key
  pub made : (key : ℕ) → InUse pages key → number key < frames.made
  pub once : (one other : ℕ) → InUse pages one → InUse pages other → number one ≡ number other → one ≡ other
  pub found : (frame : ℕ) → 0 < namings frames.places frame → (key : ℕ) × InUse pages key × (number key ≡ frame)

-- the process was made, and the space is its own by what the account says
pub record IsAccounted (h : Heap) (number : ℕ → ℕ) (frames : Frames) (pid : ℕ) (space : List (Option ℕ)) : Type 0 where
  pub numbers : AreFrames number h.pages frames
  pub places : HasPlaces number h.nodes space (places_of frames pid)
  pub made : (0 < pid) × (pid ≤ length frames.places)
  pub whole : length (places_of frames pid) ≡ 256

-- what the account said of every other space it says still, though a page may have another number
abbrev pub OthersAccounted : Heap → Heap → List (Option ℕ) → (ℕ → ℕ) → (ℕ → ℕ) → Type 0
OthersAccounted old new space number renumbered =
    (others : Owners) (other : List (Option ℕ)) (places : Places) → IsOwned old (with_space space others) → Contains others.spaces other
    → HasPlaces number old.nodes other places → HasPlaces renumbered new.nodes other places

-- The account is another now, and says of a process's space what it has. Of the other processes it says what it said.
pub record AccountMoves (old new : Heap) (space now : List (Option ℕ)) (number : ℕ → ℕ) (before after : Frames) (pid : ℕ) : Type 0 where
  pub renumbered : ℕ → ℕ
  pub accounted : IsAccounted new renumbered after pid now
  pub others : OthersAccounted old new space number renumbered
  pub kept : (other : ℕ) → other ≢ pid → places_of after other ≡ places_of before other
  pub pids : length after.places ≡ length before.places

-- whosever space it was by an account, it is so by the account that this change of it gives
abbrev pub AccountFollows : Heap → Heap → List (Option ℕ) → List (Option ℕ) → (Frames → ℕ → Frames) → Type 0
AccountFollows old new space now change =
    (number : ℕ → ℕ) (before : Frames) (pid : ℕ) → IsAccounted old number before pid space
    → AccountMoves old new space now number before (change before pid) pid

-- the account says another thing of a page of a process
abbrev pub turned_at : Frames → ℕ → ℕ → Place → Frames
turned_at frames pid page place = with_places frames pid (slice_set (places_of frames pid) page place)

-- A space that wasn't there is the youngest process's by the account, and its parent's is what it was.
pub record AccountForks (old new : Heap) (of now : List (Option ℕ)) (number : ℕ → ℕ) (before after : Frames) (parent : ℕ) : Type 0 where
  pub renumbered : ℕ → ℕ
  pub child : IsAccounted new renumbered after (length before.places + 1) now
  pub parent_too : IsAccounted new renumbered after parent of
  pub others : OthersAccounted old new of number renumbered
  pub kept : (other : ℕ) → other ≤ length before.places → places_of after other ≡ places_of before other

-- A space that is gone is nobody's by the account.
pub record AccountLeaves (old new : Heap) (space : List (Option ℕ)) (number : ℕ → ℕ) (before after : Frames) (pid : ℕ) : Type 0 where
  pub renumbered : ℕ → ℕ
  pub numbers : AreFrames renumbered new.pages after
  pub others : OthersAccounted old new space number renumbered
  pub kept : (other : ℕ) → other ≢ pid → places_of after other ≡ places_of before other
  pub pids : length after.places ≡ length before.places
