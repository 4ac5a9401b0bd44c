use Rattle.std.proofs.Common.{◌≡◌, ℕ, ◌*◌, ◌/◌, ◌%◌, ◌<◌, inl, inr, List, get_or, set, sym, ap, subst, ◌∙◌, arith}
use Rattle.posix_defs.specs.SoundDisk.{block_bytes}
use Rattle.posix_defs.specs.DiskContents.{data_block}
use Rattle.posix_defs.specs.NodeChange.{WritesBlock}
use Rattle.disk_laws.proofs.BlockWritten.{block_written}
use Rattle.memfs_dir.proofs.DirectoryBytes.{block_got}
use Rattle.memfs_dir.proofs.Written.{map_stays, puts, byte_of}
use Rattle.memfs_dir.proofs.adding.put_last.Goals.{then-slot-eq0, else-slot-eq0}
use Rattle.memfs_dir.proofs.adding.put_last.Goals as goal

pub returns-clause-puts : goal.returns-clause-puts
returns-clause-puts g c = λ number node.
    let disk : List (List ℕ) = g.B.Blocks.blocks c.args.b.now in
    let dir = c.args.dir.now in
    let place : ℕ = c.args.place in
    let block : List ℕ = c.put_entry.new.block in
    let after : List (List ℕ) = g.B.Blocks.blocks c.set.new.self in
    let same : g.B.Blocks.blocks c.if-slot-eq0.b ≡ disk = elim c.if-slot-eq0.branch [
      | then-slot-eq0 w ↦ ap g.B.Blocks.blocks w.b-is ∙ c.block_at-number.ensures.kept
      | else-slot-eq0 w ↦ ap g.B.Blocks.blocks w.b-is ∙ w.get-block.ensures.kept ∙ c.block_at-number.ensures.kept
    ] in
    let written : after ≡ set disk (data_block disk dir (place / 32)) block =
    c.set.ensures.after ∙ ap (λ (d : List (List ℕ)). set d c.block_at-number.result block) same ∙ ap (λ (n : ℕ). set disk n block) c.block_at-number.ensures.value in
    let map : block_bytes after 0 ≡ block_bytes disk 0 =
    ap (λ (d : List (List ℕ)). block_bytes d 0) (c.set.ensures.after ∙ ap (λ (d : List (List ℕ)). set d c.block_at-number.result block) (same)) ∙ map_stays disk c.block_at-number.result block c.block_at-number.ensures.for_files in
    let w : WritesBlock number disk dir (place / 32) block after =
    subst (λ (d : List (List ℕ)). WritesBlock number disk dir (place / 32) block d) (sym written) (block_written disk number dir (place / 32) block c.requires.sound node.0 (omega (arith, c.requires.last))) in
    puts number disk dir place c.args.entry.now block after node (omega (arith, c.requires.last)) w c.put_entry.ensures.this map
    (λ at lt same_block aside.
    let before_it : at < 32 * place = elim aside [ inl lower ↦ lower | inr higher ↦ absurd (omega (arith, higher, lt, c.requires.last)) ] in
    elim c.if-slot-eq0.branch [
      | then-slot-eq0 w ↦ absurd (omega (arith, before_it, same_block, w.if-slot-eq0.true))
      | else-slot-eq0 w ↦
          let is = block_got disk (g.B.Blocks.blocks c.block_at-number.new.b) dir (place / 32) c.block_at-number.result w.get-block.result c.block_at-number.ensures.value c.block_at-number.ensures.kept w.get-block.ensures.value in
          c.put_entry.ensures.others (at % 1024) (inl (omega (arith, before_it, same_block)))
          ∙ ap (λ (bytes : List ℕ). get_or bytes (at % 1024) 0) w.block-is
          ∙ sym (byte_of disk dir at (place / 32) w.get-block.result same_block is)
    ])
