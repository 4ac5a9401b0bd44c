use Rattle.std.proofs.Common.{◌≡◌, ◌≢◌, ℕ, ◌<◌, ◌+◌, ◌-◌, ◌*◌, inl, inr, List, length, get_or, take, refl, sym, ap, ◌≤◌, ◌∙◌, arith}
use Rattle.std.proofs.lemmas.List.{get_or-take, length-take-le}
use Rattle.posix_defs.specs.DiskFormat.{data_blocks, blocks_of}
use Rattle.posix_defs.specs.SoundDisk.{bit_of, block_bytes, free_in_map, run_of}
use Rattle.blk_map.specs.Found.{free_below}
use Rattle.blk_map.proofs.Blocks.{got, in_table}
use Rattle.blk_map.proofs.Counted.{few_in_run, given, given_none, some_given}
use Rattle.blk_map.proofs.Finding.{free_read}
use Rattle.blk_map.proofs.SameBlocks.{same_grows}
use Rattle.blk_map.proofs.growing.grow_in_run.Goals as goal

-- what is given within a run has room
few_in_need : (old size : ℕ) → old ≤ size → data_blocks size ≤ 10 + 256 * (run_of (data_blocks old) + 1) → blocks_of size - blocks_of old ≤ 267
few_in_need old size le within = omega (arith, given old size le, few_in_run (run_of (data_blocks old)) (data_blocks old) (data_blocks size) refl (omega (arith, le)) within)

pub returns-then-need-eq0-clause-ok : goal.returns-then-need-eq0-clause-ok
returns-then-need-eq0-clause-ok g c =
    let none : blocks_of c.args.size - blocks_of c.args.inode.now.size ≡ 0 = omega (arith, c.if-need-eq0.true, c.block_count.ensures, c.block_count-2.ensures) in
    same_grows c.args.from c.args.to (
    record {
      number = c.args.number;
      before = g.B.Blocks.blocks c.args.b.now;
      old = c.args.inode.now;
      size = c.args.size;
      after = g.B.Blocks.blocks c.put_in_table.new.b;
      sound = c.requires.sound;
      had = c.requires.node.0;
      kind = c.requires.kind;
      same = given_none c.args.inode.now.size c.args.size c.requires.size none;
      count = c.put_in_table.ensures.count;
      slot = c.put_in_table.ensures.slot;
      slots = c.put_in_table.ensures.slots;
      others = c.put_in_table.ensures.others;
    }
    )

pub returns-then-need-eq0-clause-frees_none : goal.returns-then-need-eq0-clause-frees_none
returns-then-need-eq0-clause-frees_none g c = λ block is.
    let table = in_table (length (g.B.Blocks.blocks c.args.b.now)) c.args.number c.requires.node.0.number.0 c.requires.node.0.number.1 in
    ap (λ (map : List ℕ). bit_of map block) (c.put_in_table.ensures.others 0 (λ e. omega (arith, e, table.0))) ∙ is

pub lowest_free-count-requires-clause-room : goal.lowest_free-count-requires-clause-room
lowest_free-count-requires-clause-room g c = omega (arith, few_in_need c.args.inode.now.size c.args.size c.requires.size c.requires.run, c.block_count.ensures, c.block_count-2.ensures)

pub take_blocks-requires-clause-size : goal.take_blocks-requires-clause-size
take_blocks-requires-clause-size g c = some_given c.args.inode.now.size c.args.size c.requires.size (omega (arith, c.block_count.ensures, c.block_count-2.ensures))

pub take_blocks-requires-clause-lowest : goal.take_blocks-requires-clause-lowest
take_blocks-requires-clause-lowest g c = λ block free.
    let need : ℕ = c.block_count.result - c.block_count-2.result in
    let found : List ℕ = c.lowest_free-count.new.found in
    let full : c.lowest_free-count.result ≡ need = omega (arith, c.lowest_free-count.ensures.many, c.if-count-need.false) in
    let long : length found ≡ 267 = c.lowest_free-count.array_long in
    let within : need ≤ length found = omega (arith, long, few_in_need c.args.inode.now.size c.args.size c.requires.size c.requires.run, c.block_count.ensures, c.block_count-2.ensures) in
    let len : length (take need found) ≡ need = length-take-le need found within in
    let at : (k : ℕ) → k < need → get_or (take need found) k 0 ≡ get_or found k 0 = λ k lt. get_or-take need found k 0 lt in
    let map : block_bytes (g.B.Blocks.blocks c.get-map.new.self) 0 ≡ c.get-map.result =
    ap (λ (disk : List (List ℕ)). block_bytes disk 0) c.get-map.ensures.kept ∙ got (g.B.Blocks.blocks c.args.b.now) 0 c.get-map.result c.get-map.ensures.value in
    let unmarked : bit_of c.get-map.result block ≢ 1 = λ is. free.1 (ap (λ (bytes : List ℕ). bit_of bytes block) map ∙ is) in
    elim (c.lowest_free-count.ensures.lowest block (omega (arith, free.0, c.count.ensures)) unmarked) [
      | inl there ↦ inl (there.0, omega (arith, there.1, full, len), at there.0 (omega (arith, there.1, full)) ∙ there.2)
      | inr below ↦ inr (λ k lt. omega (arith, at k (omega (arith, lt, len)), below k (omega (arith, lt, len, full))))
    ]

pub returns-clause-full : goal.returns-clause-full
returns-clause-full g c =
    let disk : List (List ℕ) = g.B.Blocks.blocks c.args.b.now in
    let same : free_below c.get-map.result c.count.result ≡ free_in_map disk = free_read disk (g.B.Blocks.blocks c.get-map.new.self) c.get-map.result c.count.result c.get-map.ensures.kept c.get-map.ensures.value c.count.ensures in
    (λ e. absurd cc, λ few. absurd (omega (arith, few, same, c.lowest_free-count.ensures.many, c.if-count-need.false, c.block_count.ensures, c.block_count-2.ensures)))
