use Rattle.std.proofs.Common.{rules, sym, ◌∙◌}
use Rattle.memfs_dir.proofs.SlotBytes.{piece_of, spells_piece}
use Rattle.memfs_dir.proofs.slots.entry_in.Goals as goal

pub unwrap-requires : goal.unwrap-requires
unwrap-requires c =
    let entry = c.requires.spelled.0 in
    let spells = c.requires.spelled.1 in
    let is = c.entry_of.ensures.only entry spells.valid (c.slot_in.ensures ∙ piece_of c.args.block.now c.args.slot entry c.told-block c.requires.slot spells) in
    rw is (search rules)

pub returns : goal.returns
returns c =
    let found = rw c.unwrap.ensures at c.entry_of.ensures.found in
    spells_piece c.args.block.now c.args.slot c.unwrap.result found.0 (sym c.slot_in.ensures ∙ found.1)
