-- What an address space has at its pages, by its nodes in the heap.
use Rattle.std.specs.Prelude.{◌≡◌, ◌≢◌, ℕ, ◌+◌, ◌/◌, ◌%◌, ◌<◌, ◌≤◌, Bool, true, List, Option, None, Some, slice_index_or}
use Rattle.kheap_slabs.specs.Objects.{object}
use Rattle.kheap_slabs.specs.declared.objects.Node.{Node}
use Rattle.kheap_slabs.specs.declared.objects.PageEntry.{PageEntry}
use Rattle.kheap_slabs.specs.declared.objects.PageEntry.TheVariants as entry
use Rattle.kheap_slabs.specs.Keys.{ChangesKeys}
use Rattle.kheap_slabs.specs.Spaces.{is_mapped, keys_in, OwnsNodes, names_page, names_of}

-- the key of the node that has a page's entry, None where there is none
abbrev pub key_of : List (Option ℕ) → ℕ → Option ℕ
key_of space page = slice_index_or space (page / 64) None

-- a node's entry at a place
abbrev pub entry_of : Option Node → ℕ → PageEntry
entry_of None at = entry.Unmapped
entry_of (Some node) at = slice_index_or node.entries at entry.Unmapped

-- the entry at a place of the node of that key
abbrev pub entry_under : List (Option Node) → Option ℕ → ℕ → PageEntry
entry_under nodes None at = entry.Unmapped
entry_under nodes (Some key) at = entry_of (object nodes key) at

-- what the space has at a page
abbrev pub entry_at : List (Option Node) → List (Option ℕ) → ℕ → PageEntry
entry_at nodes space page = entry_under nodes (key_of space page) (page % 64)

-- whether a page of the space is mapped
abbrev pub is_mapped_at : List (Option Node) → List (Option ℕ) → ℕ → Bool
is_mapped_at nodes space page = is_mapped (entry_at nodes space page)

-- One page of a space gets another entry. The space may get a node for it, or lose one; nobody else's nodes change.
pub record PageTurns (old new : List (Option Node)) (space now : List (Option ℕ)) (page : ℕ) (was is : PageEntry) : Type 0 where
  pub before : entry_at old space page ≡ was
  pub after : entry_at new now page ≡ is
  pub others : (other : ℕ) → other ≢ page → entry_at new now other ≡ entry_at old space other
  pub keys : ChangesKeys old new (keys_in space) (keys_in now)
  pub owns : OwnsNodes new now
  pub names : (frame : ℕ) → names_of new frame + names_page frame was ≡ names_of old frame + names_page frame is

-- each page that the n bytes from an address touch is mapped
abbrev pub IsMappedRange : List (Option Node) → List (Option ℕ) → ℕ → ℕ → Type 0
IsMappedRange nodes space addr n = (byte : ℕ) → addr ≤ byte → byte < addr + n → is_mapped_at nodes space (byte / 4096) ≡ true
