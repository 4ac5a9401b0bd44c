use Rattle.std.proofs.Common.{ℕ, List, sym, subst}
use Rattle.block_cache.specs.Blocks.{TrueToDisk}
use Rattle.cached_disk.proofs.Held.{renewed_heap, renewed_used, renewed_true}
use Rattle.cached_disk.proofs.blocks.store.Goals as goal

pub returns-clause-heap : goal.returns-clause-heap
returns-clause-heap c = renewed_heap c.args.number c.args.bytes.now c.args.heap.now c.renew.new.heap c.args.cache.now c.renew.ensures.stored

pub returns-clause-used : goal.returns-clause-used
returns-clause-used c = renewed_used c.args.number c.args.bytes.now c.args.heap.now c.renew.new.heap c.args.cache.now c.renew.ensures.stored c.requires.keeps

pub returns-clause-true_blocks : goal.returns-clause-true_blocks
returns-clause-true_blocks c =
    subst (λ (d : List (List ℕ)). TrueToDisk d c.renew.new.heap.blocks) (sym c.write.ensures.after) (
    renewed_true c.args.number c.args.bytes.now c.args.heap.now c.renew.new.heap c.args.cache.now c.renew.ensures.stored c.args.disk.now.blocks c.requires.true_blocks c.requires.keeps c.requires.number)
