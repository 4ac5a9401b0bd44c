use Rattle.std.proofs.Common.{◌≡◌, ℕ, [], List, IsSome, Some, refl, sym, ap, ◌∙◌, subst}
use Rattle.std.proofs.lemmas.Option.{get_or_from_slice_get}
use Rattle.kheap_slabs.specs.declared.objects.Block.{Block}
use Rattle.posix_defs.specs.SoundDisk.{block_bytes}
use Rattle.memfs_dir.specs.Slots.{Spells}
use Rattle.memfs_dir.specs.Looking.{FoundIn}
use Rattle.cached_disk.proofs.blocks.look_cached.Goals as goal

pub get_block-requires : goal.get_block-requires
get_block-requires c = subst IsSome (sym c.cached-slot.ensures.value.1) refl

pub look_in-requires-clause-spelled : goal.look_in-requires-clause-spelled
look_in-requires-clause-spelled c = λ slot lt.
    let disk : List (List ℕ) = c.args.disk.now.blocks in
    let has = c.cached-slot.ensures.value in
    let same : Some has.0 ≡ Some c.get_block.result.now = sym has.1 ∙ c.get_block.ensures in
    let one : has.0 ≡ c.get_block.result.now = cc in
    let is : block_bytes disk c.args.number ≡ c.get_block.result.now.bytes = get_or_from_slice_get disk c.args.number has.0.bytes [] has.2 ∙ ap (λ (b : Block). b.bytes) one in
    let there = c.requires.spelled slot lt in
    (there.0, subst (λ bytes. Spells bytes slot there.0) is there.1)

pub returns-clause-value : goal.returns-clause-value
returns-clause-value c =
    let disk : List (List ℕ) = c.args.disk.now.blocks in
    let has = c.cached-slot.ensures.value in
    let same : Some has.0 ≡ Some c.get_block.result.now = sym has.1 ∙ c.get_block.ensures in
    let one : has.0 ≡ c.get_block.result.now = cc in
    let is : block_bytes disk c.args.number ≡ c.get_block.result.now.bytes = get_or_from_slice_get disk c.args.number has.0.bytes [] has.2 ∙ ap (λ (b : Block). b.bytes) one in
    let e = c.look_in.ensures in
    subst (λ bytes. FoundIn bytes c.args.count c.args.name.now c.look_in.result) (sym is) (record { found = e.found; node = e.node; first = e.first; none = e.none })
