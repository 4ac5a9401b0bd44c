use Rattle.std.proofs.Common.{◌≡◌, IsSome, Some, refl, sym, ap, ◌∙◌, subst}
use Rattle.kheap_slabs.specs.declared.objects.Block.{Block}
use Rattle.cached_disk.proofs.blocks.fetch.Goals as goal

pub get_block-requires : goal.get_block-requires
get_block-requires c = subst IsSome (sym c.cached-slot.ensures.value.1) refl

pub returns-clause-value : goal.returns-clause-value
returns-clause-value c =
    let has = c.cached-slot.ensures.value in
    let same : Some has.0 ≡ Some c.get_block.result.now = sym has.1 ∙ c.get_block.ensures in
    let one : has.0 ≡ c.get_block.result.now = cc in
    has.2 ∙ ap (λ (b : Block). Some b.bytes) one
