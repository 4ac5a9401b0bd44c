use Rattle.std.proofs.Common.{◌≡◌, ◌-◌, length, slice_index_or, nat_eq, ap, ◌∙◌}
use Rattle.std.proofs.lemmas.Cmp.{nat_eq_equiv}
use Rattle.memfs_dir.proofs.SlotBytes.{shows}
use Rattle.memfs_dir.proofs.slots.looks_like.Goals as goal

pub returns-then-block-start-clause-called : goal.returns-then-block-start-clause-called
returns-then-block-start-clause-called c called =
    let it = shows c.args.block.now c.args.slot c.args.name.now called in
    let last = slice_index_or c.args.name.now (length c.args.name.now - 1) 0 in
    ap (λ k. nat_eq k last) it.last ∙ nat_eq_equiv.refl last

pub returns-else-block-start-clause-called : goal.returns-else-block-start-clause-called
returns-else-block-start-clause-called c called =
    absurd (c.if-block-start.false (shows c.args.block.now c.args.slot c.args.name.now called).long)
