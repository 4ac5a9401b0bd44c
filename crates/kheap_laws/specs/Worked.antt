-- What the worked calls make.
use Rattle.std.specs.Prelude.{List, ◌∷◌, replicate}
use Rattle.kheap_slabs.specs.declared.objects.PageEntry.{PageEntry}
use Rattle.kheap_slabs.specs.declared.objects.PageEntry.TheVariants as entry

-- the entries of a node of three pages: one without a frame, and these two
abbrev pub three_pages : PageEntry → PageEntry → List PageEntry
three_pages one other = entry.Zero ∷ one ∷ other ∷ replicate 61 entry.Unmapped
