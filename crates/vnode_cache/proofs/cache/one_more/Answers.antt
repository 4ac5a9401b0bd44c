use Rattle.std.proofs.Common.{arith}
use Rattle.vnode_cache.proofs.cache.one_more.Goals as goal

pub overflow_add-result : goal.overflow_add-result
overflow_add-result c = omega (arith, c.requires, c.heap-most.ensures.well_formed.live_within, c.heap-most.ensures.well_formed.high_within, c.heap-most.ensures.well_formed.limit)
