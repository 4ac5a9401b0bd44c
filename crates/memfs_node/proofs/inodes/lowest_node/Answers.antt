use Rattle.std.proofs.Common.{◌≡◌, ℕ, ◌+◌, List, sym, ap, ◌∙◌, arith}
use Rattle.posix_defs.specs.SoundDisk.{block_bytes}
use Rattle.blk_map.proofs.Blocks.{got}
use Rattle.memfs_node.proofs.Slots.{TableBlock, lowest_here, none_here, none_left}
use Rattle.memfs_node.proofs.inodes.lowest_node.Goals as goal

pub returns-in-Some-clause-found : goal.returns-in-Some-clause-found
returns-in-Some-clause-found g c =
    let disk : List (List ℕ) = g.B.Blocks.blocks c.args.b.now in
    let now : List (List ℕ) = g.B.Blocks.blocks c.loop-index.b in
    let is : block_bytes disk (1 + c.loop-index.index) ≡ c.get-block.result =
    ap (λ (d : List (List ℕ)). block_bytes d (1 + c.loop-index.index)) (sym c.loop-index.invariant.kept) ∙ got now (1 + c.loop-index.index) c.get-block.result c.get-block.ensures.value in
    let t : TableBlock disk c.loop-index.index c.get-block.result = record { sound = c.requires.sound; within = omega (arith, c.loop-index-test.true, c.count-blocks.ensures); is = is } in
    let found = c.in-Some.ensures.found in
    lowest_here disk c.loop-index.index c.get-block.result t c.in-Some.slot c.loop-index.invariant.none found.0 found.1 found.2

pub loop-index-preserved : goal.loop-index-preserved
loop-index-preserved g c =
    let disk : List (List ℕ) = g.B.Blocks.blocks c.args.b.now in
    let now : List (List ℕ) = g.B.Blocks.blocks c.loop-index.b in
    let is : block_bytes disk (1 + c.loop-index.index) ≡ c.get-block.result =
    ap (λ (d : List (List ℕ)). block_bytes d (1 + c.loop-index.index)) (sym c.loop-index.invariant.kept) ∙ got now (1 + c.loop-index.index) c.get-block.result c.get-block.ensures.value in
    let t : TableBlock disk c.loop-index.index c.get-block.result = record { sound = c.requires.sound; within = omega (arith, c.loop-index-test.true, c.count-blocks.ensures); is = is } in
    record {
      kept = c.get-block.ensures.kept ∙ c.loop-index.invariant.kept;
      follows = g.met.B.Blocks.follows_trans c.args.b.now c.loop-index.b c.get-block.new.self c.loop-index.invariant.follows c.get-block.ensures.follows;
      none = none_here disk c.loop-index.index c.get-block.result t c.loop-index.invariant.none c.in_default.ensures.none;
    }

pub returns-clause-none : goal.returns-clause-none
returns-clause-none g c = none_left (g.B.Blocks.blocks c.args.b.now) c.loop-index.index (omega (arith, c.loop-index-test.false, c.count-blocks.ensures)) c.loop-index.invariant.none
