use Rattle.std.proofs.Common.{◌≡◌, take}
use Rattle.plain_memory.proofs.spaces.Space.copy.Given as goal

abbrev pub invariant-loop-page : goal.invariant-loop-page
invariant-loop-page l = l.pages.items ≡ take l.page-index l.page-items
