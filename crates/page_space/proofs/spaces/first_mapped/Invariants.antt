use Rattle.std.proofs.Common.{◌≡◌, ℕ, ◌<◌, ◌≤◌, get_or}
use Rattle.kheap_slabs.specs.declared.objects.PageEntry.TheVariants as entry
use Rattle.page_space.proofs.spaces.first_mapped.Given as goal

abbrev pub invariant-loop-at : goal.invariant-loop-at
invariant-loop-at l = (place : ℕ) → l.from ≤ place → place < l.at → get_or l.node.entries place entry.Unmapped ≡ entry.Unmapped
