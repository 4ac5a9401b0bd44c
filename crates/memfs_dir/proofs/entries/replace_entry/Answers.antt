use Rattle.std.proofs.Common.{◌≡◌, ℕ, ◌+◌, ◌*◌, ◌/◌, ◌%◌, ◌<◌, ◌≤◌, ◌⊎◌, inl, inr, List, length, get_or, set, sym, ap, subst, ◌∙◌, arith}
use Rattle.kabi_types.specs.declared.inodes.DirEntry.{DirEntry}
use Rattle.posix_defs.specs.SoundDisk.{block_bytes}
use Rattle.posix_defs.specs.DiskContents.{data_block}
use Rattle.posix_defs.specs.NodeChange.{WritesBlock}
use Rattle.posix_defs.specs.TreeChanges.{no_entry}
use Rattle.disk_laws.proofs.BlockWritten.{block_written}
use Rattle.memfs_dir.proofs.DirectoryBytes.{block_got, spelled, place_within}
use Rattle.memfs_dir.proofs.Written.{map_stays, puts, byte_of}
use Rattle.memfs_dir.proofs.entries.replace_entry.Goals as goal

pub returns-clause-was : goal.returns-clause-was
returns-clause-was g c = λ entries has.
    let disk : List (List ℕ) = g.B.Blocks.blocks c.args.b.now in
    let is = block_got disk (g.B.Blocks.blocks c.block_at-number.new.b) c.args.dir.now (c.args.place / 32) c.block_at-number.result c.get-block.result c.block_at-number.ensures.value c.block_at-number.ensures.kept c.get-block.ensures.value in
    let lt : c.args.place < length entries = place_within disk c.args.dir.now entries c.args.place has c.requires.within in
    let there = spelled disk c.args.dir.now entries c.args.place c.get-block.result has lt is in
    c.node_in-node.ensures (get_or entries c.args.place no_entry) there

pub returns-clause-puts : goal.returns-clause-puts
returns-clause-puts g c = λ number node.
    let disk : List (List ℕ) = g.B.Blocks.blocks c.args.b.now in
    let dir = c.args.dir.now in
    let place : ℕ = c.args.place in
    let block : List ℕ = c.put_entry.new.block in
    let after : List (List ℕ) = g.B.Blocks.blocks c.set.new.self in
    let is = block_got disk (g.B.Blocks.blocks c.block_at-number.new.b) dir (place / 32) c.block_at-number.result c.get-block.result c.block_at-number.ensures.value c.block_at-number.ensures.kept c.get-block.ensures.value in
    let whole : 32 * place + 32 ≤ dir.size = omega (arith, c.requires.within, node.0.valid.kind.entries c.requires.entries.1.kind) in
    let written : after ≡ set disk (data_block disk dir (place / 32)) block =
    c.set.ensures.after ∙ ap (λ (d : List (List ℕ)). set d c.block_at-number.result block) (c.get-block.ensures.kept ∙ c.block_at-number.ensures.kept) ∙ ap (λ (n : ℕ). set disk n block) c.block_at-number.ensures.value in
    let map : block_bytes after 0 ≡ block_bytes disk 0 =
    ap (λ (d : List (List ℕ)). block_bytes d 0) (c.set.ensures.after ∙ ap (λ (d : List (List ℕ)). set d c.block_at-number.result block) (c.get-block.ensures.kept ∙ c.block_at-number.ensures.kept)) ∙ map_stays disk c.block_at-number.result block c.block_at-number.ensures.for_files in
    let w : WritesBlock number disk dir (place / 32) block after =
    subst (λ (d : List (List ℕ)). WritesBlock number disk dir (place / 32) block d) (sym written) (block_written disk number dir (place / 32) block c.requires.sound node.0 (omega (arith, c.requires.within))) in
    puts number disk dir place c.args.entry.now block after node whole w c.put_entry.ensures.this map
    (λ at lt same aside.
    let clear : (at % 1024 < 32 * (place % 32)) ⊎ (32 * (place % 32) + 32 ≤ at % 1024) = elim aside [ inl lower ↦ inl (omega (arith, lower, same)) | inr higher ↦ inr (omega (arith, higher, same)) ] in
    c.put_entry.ensures.others (at % 1024) clear ∙ sym (byte_of disk dir at (place / 32) c.get-block.result same is))
