-- The bytes of a page.
use Rattle.std.specs.Prelude.{ℕ, ◌+◌, ◌++◌, List, length, drop, take}
use Rattle.kheap_slabs.specs.declared.objects.Page.{Page}

-- the page with other bytes from a place on
abbrev pub with_bytes : Page → ℕ → List ℕ → Page
with_bytes page at bytes = record page { bytes = take at page.bytes ++ (bytes ++ drop (at + length bytes) page.bytes) }
