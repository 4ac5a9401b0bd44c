use Rattle.std.proofs.Common.{◌≡◌, ℕ, ◌+◌, ◌-◌, ◌*◌, ◌/◌, ◌<◌, ◌≤◌, ltb, cond, List, [], length, map, sym, ap, subst, ◌∙◌, arith}
use Rattle.std.proofs.lemmas.Bool.{cond-false, le-ltb}
use Rattle.posix_defs.specs.Asking.{AskedInTurn}
use Rattle.posix_defs.specs.DiskFormat.{IsForFiles}
use Rattle.posix_defs.specs.SoundDisk.{Data, Pointers, block_of_run, named_at, on_way, run_of}
use Rattle.posix_defs.specs.DiskContents.{data_block}
use Rattle.disk_laws.proofs.FreeBlocks.{named_is_for_files, has_way}
use Rattle.blk_map.proofs.Ways.{block_found, asked_way}
use Rattle.blk_map.proofs.locating.block_at.Goals as goal

pub pointers_at-block-requires-clause-within : goal.pointers_at-block-requires-clause-within
pointers_at-block-requires-clause-within g c = within c.args.index c.args.inode.now.size c.requires.within c.requires.node.1.0.valid.kind.size
  where
    within : (index size : ℕ) → index < (size + 1023) / 1024 → size ≤ 1024 * 65802 → (index - 10) / 256 ≤ 256
    within index size lt most = omega (arith, lt, most)

pub pointers_at-block-requires-clause-double : goal.pointers_at-block-requires-clause-double
pointers_at-block-requires-clause-double g c = λ pos.
    let disk : List (List ℕ) = g.B.Blocks.blocks c.args.b.now in
    (named_is_for_files disk c.requires.sound c.requires.node.0 c.args.inode.now (Pointers 1) c.requires.node.1.0 (omega (arith, pos, c.requires.within))).1

pub get-requires : goal.get-requires
get-requires g c =
    let disk : List (List ℕ) = g.B.Blocks.blocks c.args.b.now in
    let has = has_way c.args.inode.now.size c.args.index (omega arith) c.requires.within in
    let files = named_is_for_files disk c.requires.sound c.requires.node.0 c.args.inode.now (Pointers (block_of_run (run_of c.args.index))) c.requires.node.1.0 has in
    omega (arith, c.pointers_at-block.ensures.value, files.1, ap length c.pointers_at-block.ensures.kept)

pub returns-clause-value : goal.returns-clause-value
returns-clause-value g c =
    block_found (g.B.Blocks.blocks c.args.b.now) (g.B.Blocks.blocks c.pointers_at-block.new.b) c.args.inode.now c.args.index c.pointers_at-block.result c.get.result c.pointer_in.result (omega arith) c.pointers_at-block.ensures.kept
    c.pointers_at-block.ensures.value c.get.ensures.value c.pointer_in.ensures

pub returns-clause-for_files : goal.returns-clause-for_files
returns-clause-for_files g c =
    let disk : List (List ℕ) = g.B.Blocks.blocks c.args.b.now in
    let inode = c.args.inode.now in
    let value : c.pointer_in.result ≡ data_block disk inode c.args.index =
    block_found disk (g.B.Blocks.blocks c.pointers_at-block.new.b) inode c.args.index c.pointers_at-block.result c.get.result c.pointer_in.result (omega arith) c.pointers_at-block.ensures.kept c.pointers_at-block.ensures.value
    c.get.ensures.value c.pointer_in.ensures in
    subst (IsForFiles (length disk)) (sym value) (named_is_for_files disk c.requires.sound c.requires.node.0 inode (Data c.args.index) c.requires.node.1.0 c.requires.within)

pub returns-clause-asked : goal.returns-clause-asked
returns-clause-asked g c =
    let disk : List (List ℕ) = g.B.Blocks.blocks c.args.b.now in
    let inode = c.args.inode.now in
    let way : List ℕ = map (λ there. named_at disk inode there) (on_way (run_of c.args.index)) in
    let asked = asked_way g.B.Blocks.asked disk inode (run_of c.args.index) c.pointers_at-block.result c.args.b.now c.pointers_at-block.new.b c.get.new.self c.pointers_at-block.ensures.asked c.pointers_at-block.ensures.value c.get.ensures.asked in
    subst (λ (l : List ℕ). AskedInTurn g.B.Blocks.asked c.args.b.now l c.get.new.self) (sym (cond-false (ltb c.args.index 10) [] way (le-ltb c.args.index 10 (omega arith)))) asked
