use Rattle.std.proofs.Common.{◌/◌, nat_eq, sym, ap, ◌∙◌, subst}
use Rattle.kabi_types.specs.Class.{size}
use Rattle.kabi_types.specs.declared.classes.Class.TheVariants as class
use Rattle.kheap_slabs.specs.declared.objects.Block.{Block}
use Rattle.block_cache.specs.Blocks.{KeepsBlocks}
use Rattle.cache_laws.proofs.KeepsLemmas.{keeps_none}
use Rattle.part_trials.proofs.caches.blocks.booted.Goals as goal

pub returns : goal.returns
returns c = subst (KeepsBlocks c.in_ok-heap.heap.blocks) (sym c.in_ok-cache.ensures.empty) (keeps_none nat_eq (λ (b : Block). b.number) (65536 / size class.Block) c.args.capacity c.in_ok-heap.heap.blocks (ap (λ h. h.blocks) c.in_ok-heap.ensures.empty))
