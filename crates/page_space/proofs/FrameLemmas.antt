-- Counts of pages that are set.
use Rattle.std.proofs.Common.{◌≡◌, ℕ, ◌<◌, List, [], Option, Some, sym, ap, ◌∙◌, subst, arith}
use Rattle.kheap_slabs.specs.Objects.{object}
use Rattle.kheap_slabs.specs.declared.objects.Page.{Page}
use Rattle.kheap_slabs.specs.Heap.{Heap}
use Rattle.kheap_slabs.specs.Spaces.{page_count, count_at, KeepsBytes}
use Rattle.page_space.specs.Frames.{FramesStay}

-- no page but those of a heap has changed
pub kept_pages : (old new : Heap) (pages : List (Option Page)) → new ≡ record old { pages = pages } → new ≡ record old { pages = new.pages }
kept_pages old new pages kept = kept ∙ ap (λ some. record old { pages = some }) (sym (ap (λ h. h.pages) kept))

pub FramesStay-all : (old new : List (Option Page)) → KeepsBytes [] old new → FramesStay old new
FramesStay-all old new kept key was is = kept key (λ none. omega (arith, none.1))

pub count_known : (pages : List (Option Page)) (key : ℕ) (page : Page) → object pages key ≡ Some page → 0 < count_at pages key → 0 < page.count
count_known pages key page is counted = subst (λ found. 0 < page_count found) is counted
