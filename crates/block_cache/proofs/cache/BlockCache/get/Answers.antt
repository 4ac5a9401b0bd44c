use Rattle.std.proofs.Common.{eqb-true, sym}
use Rattle.std.specs.Cmp.{nat_eq_equiv}
use Rattle.cache_laws.proofs.KeepsLemmas.{keeps_used}
use Rattle.block_cache.proofs.cache.BlockCache.get.Goals as goal

pub get_block-requires : goal.get_block-requires
get_block-requires c = keeps_used nat_eq_equiv eqb-true _ c.args.heap.now.blocks c.args.self.now c.args.number c.in-Some.slot c.requires.keeps (sym c.in-Some.ensures.slot)
