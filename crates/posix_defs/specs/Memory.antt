-- The memory of processes: address spaces of 256 pages of 4096 bytes, and the account of the frames that hold their bytes.
use Rattle.std.specs.Prelude.{ℕ, zero, suc, ◌+◌, ◌*◌, ◌/◌, ◌%◌, ◌==◌, ◌&&◌, Bool, true, false, not, nat_lt, nat_le, if◌then◌else◌, List, [], ◌∷◌, ◌++◌, map, take, drop, replicate, find, count_by, sum_by, slice_index, slice_index_or, slice_set, Option, None, Some, is_some, option_map, unwrap_or}
use Rattle.std.specs.List.{list_all, list_any, range_with_len}
use Rattle.posix_defs.specs.ByPid.{with_pid}
use Rattle.posix_defs.specs.Needs.{pages_touched}

-- the same list with another item at each of `count` places
abbrev pub with_range : {X : Type 0} → List X → ℕ → ℕ → X → List X
with_range xs first count x = take first xs ++ replicate count x ++ drop (first + count) xs

-- the bytes of each page, by its number; None for a page that isn't mapped
abbrev pub Memory : Type 0
Memory = List (Option (List ℕ))

-- an address space without a mapped page
unfoldable pub no_memory : Memory
no_memory = replicate 256 None

-- what a page has before anything is put in it
unfoldable pub zero_page : List ℕ
zero_page = replicate 4096 0

-- the bytes of a page, if it is mapped
abbrev pub page_at : Memory → ℕ → Option (List ℕ)
page_at memory page = slice_index_or memory page None

-- the page is mapped; beyond the 256 pages of the address space none is
abbrev pub is_mapped : Memory → ℕ → Bool
is_mapped memory page = is_some (page_at memory page)

-- each of `count` pages is mapped
abbrev pub are_mapped : Memory → ℕ → ℕ → Bool
are_mapped memory first count = list_all (is_mapped memory) (range_with_len first count)

-- each page that the range of n bytes touches is mapped
abbrev pub is_mapped_range : Memory → ℕ → ℕ → Bool
is_mapped_range memory addr n = are_mapped memory (addr / 4096) (pages_touched addr n)

-- the `count` pages from this one on lie in the address space, and this test finds none of them mapped
abbrev pub is_free_run : (ℕ → Bool) → ℕ → ℕ → Bool
is_free_run mapped count first = nat_le (first + count) 256 && list_all (λ page. not (mapped page)) (range_with_len first count)

-- the first page of the lowest run of so many pages that this test finds unmapped; page 0 never is in one
unfoldable pub lowest_free_run : (ℕ → Bool) → ℕ → Option ℕ
lowest_free_run mapped count = find (is_free_run mapped count) (range_with_len 1 255)

-- the first page of the lowest run of so many pages that aren't mapped
abbrev pub lowest_run : Memory → ℕ → Option ℕ
lowest_run memory count = lowest_free_run (is_mapped memory) count

-- these pages are mapped from now on, and have zeros
abbrev pub with_pages : Memory → ℕ → ℕ → Memory
with_pages memory first count = with_range memory first count (Some zero_page)

-- none of these pages is mapped from now on
abbrev pub without_pages : Memory → ℕ → ℕ → Memory
without_pages memory first count = with_range memory first count None

-- the byte at an address, 0 where it isn't mapped
abbrev pub byte_at : Memory → ℕ → ℕ
byte_at memory addr = slice_index (unwrap_or (page_at memory (addr / 4096)) []) (addr % 4096)

-- the n bytes from an address on
abbrev pub loaded : Memory → ℕ → ℕ → List ℕ
loaded memory addr n = map (byte_at memory) (range_with_len addr n)

-- another byte at an address
abbrev pub with_byte : Memory → ℕ → ℕ → Memory
with_byte memory addr byte =
    slice_set memory (addr / 4096) (option_map (λ bytes. slice_set bytes (addr % 4096) byte) (page_at memory (addr / 4096)))

-- these bytes from an address on, one after another
abbrev pub stored : Memory → ℕ → List ℕ → Memory
stored memory addr [] = memory
stored memory addr (byte ∷ bytes) = stored (with_byte memory addr byte) (addr + 1) bytes

-- what the account says of a page: it isn't mapped, it has zeros and no frame yet, or it names a frame
pub data Place : Type 0 where
  Unmapped : Place
  Zero : Place
  Frame : ℕ → Place

-- what the account says of each page of an address space
abbrev pub Places : Type 0
Places = List Place

-- an address space without a mapped page
unfoldable pub no_places : Places
no_places = replicate 256 Unmapped

-- what it says of a page
abbrev pub place_at : Places → ℕ → Place
place_at places page = slice_index_or places page Unmapped

-- The frames are numbered in the order in which they are made. Which page names which is kept for each process ever
-- made, and for one that has ended no page names any.
pub record Frames : Type 0 where
  pub places : List Places
  pub made : ℕ

-- the first process, without memory
abbrev pub boot_frames : Frames
boot_frames = record { places = no_places ∷ []; made = 0 }

-- the places of a process
abbrev pub places_of : Frames → ℕ → Places
places_of frames zero = no_places
places_of frames (suc before) = slice_index_or frames.places before no_places

-- the same frames, where the pages of a process have other places
abbrev pub with_places : Frames → ℕ → Places → Frames
with_places frames pid places = record frames { places = with_pid frames.places pid places }

-- 1 where the place names the frame, else 0
abbrev pub names_frame : ℕ → Place → ℕ
names_frame frame (Frame other) = if other == frame then 1 else 0
names_frame frame Unmapped = 0
names_frame frame Zero = 0

-- how many pages of all processes name the frame
abbrev pub namings : List Places → ℕ → ℕ
namings places frame = sum_by (sum_by (names_frame frame)) places

-- a page names a frame that is new
abbrev pub fresh_at : Frames → ℕ → ℕ → Frames
fresh_at frames pid page = record {
  places = with_pid frames.places pid (slice_set (places_of frames pid) page (Frame frames.made));
  made = frames.made + 1;
}

-- bytes are put in a page: it gets a new frame where it has none, or one that another page names too
abbrev pub written_as : Frames → ℕ → ℕ → Place → Frames
written_as frames pid page Unmapped = frames
written_as frames pid page Zero = fresh_at frames pid page
written_as frames pid page (Frame frame) = if nat_lt 1 (namings frames.places frame) then fresh_at frames pid page else frames

-- bytes are put in a page of a process, which gets a new frame where it has zeros or shares one
abbrev pub written_at : Frames → ℕ → ℕ → Frames
written_at frames pid page = written_as frames pid page (place_at (places_of frames pid) page)

-- bytes are put in each of `count` pages, the lowest first
abbrev pub written_from : Frames → ℕ → ℕ → ℕ → Frames
written_from frames pid first zero = frames
written_from frames pid first (suc more) = written_from (written_at frames pid first) pid (first + 1) more

-- after `mmap` of these pages
abbrev pub after_map : Frames → ℕ → ℕ → ℕ → Frames
after_map frames pid first count = with_places frames pid (with_range (places_of frames pid) first count Zero)

-- after `munmap` of these pages
abbrev pub after_unmap : Frames → ℕ → ℕ → ℕ → Frames
after_unmap frames pid first count = with_places frames pid (with_range (places_of frames pid) first count Unmapped)

-- after n bytes were put in memory at an address, by `store` or by a call that reads
abbrev pub after_put : Frames → ℕ → ℕ → ℕ → Frames
after_put frames pid addr n = written_from frames pid (addr / 4096) (pages_touched addr n)

-- after `fork`: the youngest process names what its parent names
abbrev pub after_fork : Frames → ℕ → Frames
after_fork frames parent = record frames { places = frames.places ++ places_of frames parent ∷ [] }

-- after `exec`, and after a process has ended
abbrev pub after_clear : Frames → ℕ → Frames
after_clear frames pid = with_places frames pid no_places

-- the places of the processes from this pid on, where those that aren't alive name nothing
abbrev pub kept_from : (ℕ → Bool) → ℕ → List Places → List Places
kept_from alive pid [] = []
kept_from alive pid (places ∷ others) = (if alive pid then places else no_places) ∷ kept_from alive (pid + 1) others

-- after processes have ended, and of the others these are alive
abbrev pub without_dead : (ℕ → Bool) → Frames → Frames
without_dead alive frames = record frames { places = kept_from alive 1 frames.places }

-- the page names a frame, its own or a shared one
abbrev pub names_any : Place → Bool
names_any (Frame frame) = true
names_any Unmapped = false
names_any Zero = false

-- the page is mapped, whether it names a frame or has zeros alone
abbrev pub is_place : Place → Bool
is_place Unmapped = false
is_place Zero = true
is_place (Frame frame) = true

-- how many pages of a process name a frame
abbrev pub frames_in : Places → ℕ
frames_in places = count_by names_any places

-- how many groups of 64 pages have a mapped page
abbrev pub nodes_in : Places → ℕ
nodes_in places = count_by (λ group. list_any is_place (take 64 (drop (64 * group) places))) (range_with_len 0 4)

-- how many of the frames that were made are named by a page
abbrev pub frames_named : Frames → ℕ
frames_named frames = count_by (λ frame. nat_lt 0 (namings frames.places frame)) (range_with_len 0 frames.made)

-- how many groups of pages of all processes have a mapped page
abbrev pub nodes_named : Frames → ℕ
nodes_named frames = sum_by nodes_in frames.places
