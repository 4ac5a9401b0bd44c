-- Which pages of live processes name which frames of the account, and what they have in memory.
use Rattle.std.specs.Prelude.{ℕ, ◌≡◌, ◌≢◌, true, List, Option}
use Rattle.posix_defs.specs.Memory.{Frames, Frame, is_mapped, is_place, page_at, place_at, places_of}
use Rattle.posix_defs.specs.Plain.{Plain}
use Rattle.posix_defs.specs.Process.{is_alive, memory_of}

-- a page of a live process names this frame
pub record Names (plain : Plain) (frames : Frames) (who page frame : ℕ) : Type 0 where
  pub alive : is_alive plain.table who ≡ true
  pub named : place_at (places_of frames who) page ≡ Frame frame

-- what a process has in memory at a page
abbrev pub bytes_at : Plain → ℕ → ℕ → Option (List ℕ)
bytes_at plain who page = page_at (memory_of plain.table who) page

-- Frames are what the account means by them: a page of a live process has a place where it is mapped, and nowhere else; a process
-- names a frame by one page alone; and two pages that name one frame have the same bytes.
pub record AreFramed (plain : Plain) (frames : Frames) : Type 0 where
  pub mapped : (who page : ℕ) → is_alive plain.table who ≡ true → is_place (place_at (places_of frames who) page) ≡ is_mapped (memory_of plain.table who) page
  pub once : (who one other frame : ℕ) → Names plain frames who one frame → Names plain frames who other frame → one ≡ other
  pub same : (who page other there frame : ℕ) → Names plain frames who page frame → Names plain frames other there frame
      → bytes_at plain other there ≡ bytes_at plain who page

-- A frame that two processes named is written by nobody: each page that names it afterwards has the bytes that theirs had.
abbrev pub StayUnwritten : Plain → Frames → Plain → Frames → Type 0
StayUnwritten old before new after = (one page other there frame : ℕ) → one ≢ other → Names old before one page frame → Names old before other there frame
    → (who at : ℕ) → Names new after who at frame → bytes_at new who at ≡ bytes_at old one page
