use Rattle.std.proofs.Common.{ℕ, ◌/◌, ◌%◌, ◌<◌, List, [], ◌∷◌, Some, length, get_or, refl, ap, subst, ◌∙◌}
use Rattle.std.proofs.lemmas.Option.{slice_get-get_or}
use Rattle.kabi_types.specs.declared.inodes.DirEntry.{DirEntry}
use Rattle.posix_defs.specs.DiskContents.{data_block}
use Rattle.posix_defs.specs.TreeChanges.{no_entry}
use Rattle.blk_map.specs.Named.{asked_for}
use Rattle.memfs_dir.proofs.SlotBytes.{one_entry}
use Rattle.memfs_dir.proofs.DirectoryBytes.{block_got, spelled, place_within}
use Rattle.memfs_dir.proofs.Found.{asked_append}
use Rattle.memfs_dir.proofs.entries.dir_entry.Goals as goal

pub entry_in-requires-clause-spelled : goal.entry_in-requires-clause-spelled
entry_in-requires-clause-spelled g c =
    let disk : List (List ℕ) = g.B.Blocks.blocks c.args.b.now in
    let entries : List DirEntry = c.requires.entries.0 in
    let is = block_got disk (g.B.Blocks.blocks c.block_at-number.new.b) c.args.dir.now (c.args.place / 32) c.block_at-number.result c.get.result c.block_at-number.ensures.value c.block_at-number.ensures.kept c.get.ensures.value in
    (get_or entries c.args.place no_entry, spelled disk c.args.dir.now entries c.args.place c.get.result c.requires.entries.1 (place_within disk c.args.dir.now entries c.args.place c.requires.entries.1 c.requires.within) is)

pub returns-clause-value : goal.returns-clause-value
returns-clause-value g c = λ entries has.
    let disk : List (List ℕ) = g.B.Blocks.blocks c.args.b.now in
    let is = block_got disk (g.B.Blocks.blocks c.block_at-number.new.b) c.args.dir.now (c.args.place / 32) c.block_at-number.result c.get.result c.block_at-number.ensures.value c.block_at-number.ensures.kept c.get.ensures.value in
    let lt : c.args.place < length entries = place_within disk c.args.dir.now entries c.args.place has c.requires.within in
    let there = spelled disk c.args.dir.now entries c.args.place c.get.result has lt is in
    slice_get-get_or entries c.args.place no_entry lt ∙ ap (λ (entry : DirEntry). Some entry) (one_entry c.get.result (c.args.place % 32) (get_or entries c.args.place no_entry) c.entry_in.result there c.entry_in.ensures)

-- the blocks on the way to the block, and it
pub returns-clause-asked : goal.returns-clause-asked
returns-clause-asked g c =
    let disk : List (List ℕ) = g.B.Blocks.blocks c.args.b.now in
    let index : ℕ = c.args.place / 32 in
    let number : ℕ = data_block disk c.args.dir.now index in
    let then = c.block_at-number.new.b in
    let block = subst (λ (n : ℕ). g.B.Blocks.asked then n c.get.new.self) c.block_at-number.ensures.value c.get.ensures.asked in
    asked_append g.B.Blocks.asked c.args.b.now then c.get.new.self (asked_for disk c.args.dir.now index) (number ∷ []) c.block_at-number.ensures.asked (c.get.new.self, block, refl)
