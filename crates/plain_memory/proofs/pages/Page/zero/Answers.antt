use Rattle.posix_defs.specs.Memory.{zero_page}
use Rattle.plain_memory.proofs.pages.Page.zero.Goals as goal

pub returns : goal.returns
unfolding zero_page
returns c = c.in_ok-vec.ensures.items_if_clones_equal (λ y same. same)
