use Rattle.std.proofs.Common.{◌≡◌, ◌≢◌, ℕ, ◌+◌, ◌-◌, ◌*◌, ◌<◌, ◌≤◌, min, List, length, refl, sym, ap, subst, ◌∙◌, arith}
use Rattle.std.specs.Prelude.{OnOk}
use Rattle.posix_defs.specs.DiskFormat.{data_blocks, blocks_of}
use Rattle.posix_defs.specs.SoundDisk.{block_bytes, free_in_map, run_of, HasInode, Sound}
use Rattle.blk_map.specs.Found.{free_below}
use Rattle.blk_map.specs.Growing.{GrowsBut}
use Rattle.blk_map.specs.Named.{FreesNone}
use Rattle.blk_map.specs.Runs.{run_end}
use Rattle.blk_map.proofs.Finding.{free_read}
use Rattle.blk_map.proofs.Steps.{enough_left, frees_none_then, grown, grows_follow, grows_not, is_grown, next_in_run, whole_entries}
use Rattle.blk_map.proofs.growing.grow_far.Goals as goal

-- ---- too little is free

pub returns-then-free_up_to-need-clause-full : goal.returns-then-free_up_to-need-clause-full
returns-then-free_up_to-need-clause-full g c =
    let before : List (List ℕ) = g.B.Blocks.blocks c.args.b.now in
    let same : free_below c.get-map.result c.count.result ≡ free_in_map before = free_read before (g.B.Blocks.blocks c.get-map.new.self) c.get-map.result c.count.result c.get-map.ensures.kept c.get-map.ensures.value c.count.ensures in
    (λ e. omega (arith, same, c.free_up_to.ensures, c.if-free_up_to-need.true, c.block_count.ensures, c.block_count-2.ensures), λ few. refl)

-- ---- a run more

pub loop-inode-init : goal.loop-inode-init
loop-inode-init g c =
    let disk : List (List ℕ) = g.B.Blocks.blocks c.get-map.new.self in
    let kept : g.B.Blocks.blocks c.args.b.now ≡ disk = sym c.get-map.ensures.kept in
    record {
      grows = grows_not c.args.from c.args.to c.args.number disk c.args.inode.now (subst Sound kept c.requires.sound) (subst (λ (d : List (List ℕ)). HasInode d c.args.number c.args.inode.now) kept c.requires.node.0);
      frees_none = λ block is. is;
      range = (omega arith, c.requires.size);
      follows = g.met.B.Blocks.follows_refl c.get-map.new.self;
    }

pub size_in_run-requires : goal.size_in_run-requires
size_in_run-requires g c = omega (arith, c.loop-inode.invariant.grows.resizes.has.valid.kind.size, c.data_count.ensures)

pub grow_in_run-requires : goal.grow_in_run-requires
grow_in_run-requires g c =
    let a = c.loop-inode.invariant.grows.resizes in
    let next = next_in_run c.loop-inode.inode.size c.args.size c.data_count.result c.size_in_run.result c.min-next.result c.data_count.ensures c.size_in_run.ensures c.min-next.ensures c.loop-inode-test.true in
    let stops = c.min-next.ensures ∙ ap (λ (n : ℕ). min n c.args.size) c.size_in_run.ensures in
    record {
      sound = a.changes.sound;
      node = (a.has, λ none. c.requires.node.1 (sym a.fields.0 ∙ none));
      kind = whole_entries c.args.inode.now.kind c.loop-inode.inode.kind c.args.size (run_end (run_of c.data_count.result)) c.min-next.result a.fields.0 c.requires.kind stops;
      size = omega (arith, next.0);
      most = omega (arith, next.1, c.requires.most);
      run = next.2;
    }

pub unwrap-requires : goal.unwrap-requires
unwrap-requires g c =
    let next = next_in_run c.loop-inode.inode.size c.args.size c.data_count.result c.size_in_run.result c.min-next.result c.data_count.ensures c.size_in_run.ensures c.min-next.ensures c.loop-inode-test.true in
    let need : c.block_count.result - c.block_count-2.result ≡ blocks_of c.args.size - blocks_of c.args.inode.now.size = ap (λ (n : ℕ). n - c.block_count-2.result) c.block_count.ensures ∙ ap (λ (n : ℕ). blocks_of c.args.size - n) c.block_count-2.ensures in
    let enough = enough_left (g.B.Blocks.blocks c.args.b.now) (g.B.Blocks.blocks c.get-map.new.self) (g.B.Blocks.blocks c.loop-inode.b) c.get-map.result c.count.result (c.block_count.result - c.block_count-2.result) c.free_up_to.result c.args.inode.now.size c.loop-inode.inode.size
    c.min-next.result c.args.size c.get-map.ensures.kept c.get-map.ensures.value c.count.ensures need c.free_up_to.ensures c.if-free_up_to-need.false c.requires.size c.loop-inode.invariant.grows.resizes.free next.1 in
    is_grown c.grow_in_run.result (g.B.Blocks.blocks c.grow_in_run.new.b ≡ g.B.Blocks.blocks c.loop-inode.b) (c.grow_in_run.new.inode ≡ c.loop-inode.inode) _ _ c.grow_in_run.ensures.err c.grow_in_run.ensures.full enough

pub loop-inode-preserved : goal.loop-inode-preserved
loop-inode-preserved g c =
    let inv = c.loop-inode.invariant in
    let base : List (List ℕ) = g.B.Blocks.blocks c.get-map.new.self in
    let between : List (List ℕ) = g.B.Blocks.blocks c.loop-inode.b in
    let after : List (List ℕ) = g.B.Blocks.blocks c.grow_in_run.new.b in
    let new = c.grow_in_run.new.inode in
    let next = next_in_run c.loop-inode.inode.size c.args.size c.data_count.result c.size_in_run.result c.min-next.result c.data_count.ensures c.size_in_run.ensures c.min-next.ensures c.loop-inode-test.true in
    let need : c.block_count.result - c.block_count-2.result ≡ blocks_of c.args.size - blocks_of c.args.inode.now.size = ap (λ (n : ℕ). n - c.block_count-2.result) c.block_count.ensures ∙ ap (λ (n : ℕ). blocks_of c.args.size - n) c.block_count-2.ensures in
    let enough = enough_left (g.B.Blocks.blocks c.args.b.now) base between c.get-map.result c.count.result (c.block_count.result - c.block_count-2.result) c.free_up_to.result c.args.inode.now.size c.loop-inode.inode.size
    c.min-next.result c.args.size c.get-map.ensures.kept c.get-map.ensures.value c.count.ensures need c.free_up_to.ensures c.if-free_up_to-need.false c.requires.size inv.grows.resizes.free next.1 in
    let step : GrowsBut c.args.from c.args.to c.args.number between c.loop-inode.inode c.min-next.result after new = grown c.grow_in_run.result _ (g.B.Blocks.blocks c.grow_in_run.new.b ≡ g.B.Blocks.blocks c.loop-inode.b) (c.grow_in_run.new.inode ≡ c.loop-inode.inode) _ _ c.grow_in_run.ensures.ok c.grow_in_run.ensures.err c.grow_in_run.ensures.full enough in
    let all = grows_follow c.args.from c.args.to c.args.number c.loop-inode.inode.size c.min-next.result base between after c.args.inode.now c.loop-inode.inode new inv.range.0 (omega (arith, next.0)) inv.grows c.grow_in_run.ensures.frees_none step in
    let size : new.size ≡ c.min-next.result = step.resizes.fields.2 in
    record {
      grows = subst (λ (n : ℕ). GrowsBut c.args.from c.args.to c.args.number base c.args.inode.now n after new) (sym size) all;
      frees_none = frees_none_then base between after inv.frees_none c.grow_in_run.ensures.frees_none;
      range = (omega (arith, inv.range.0, size, next.0), omega (arith, size, next.1));
      follows = g.met.B.Blocks.follows_trans c.get-map.new.self c.loop-inode.b c.grow_in_run.new.b inv.follows c.grow_in_run.ensures.follows;
    }

pub loop-inode-smaller : goal.loop-inode-smaller
loop-inode-smaller g c =
    let next = next_in_run c.loop-inode.inode.size c.args.size c.data_count.result c.size_in_run.result c.min-next.result c.data_count.ensures c.size_in_run.ensures c.min-next.ensures c.loop-inode-test.true in
    let need : c.block_count.result - c.block_count-2.result ≡ blocks_of c.args.size - blocks_of c.args.inode.now.size = ap (λ (n : ℕ). n - c.block_count-2.result) c.block_count.ensures ∙ ap (λ (n : ℕ). blocks_of c.args.size - n) c.block_count-2.ensures in
    let enough = enough_left (g.B.Blocks.blocks c.args.b.now) (g.B.Blocks.blocks c.get-map.new.self) (g.B.Blocks.blocks c.loop-inode.b) c.get-map.result c.count.result (c.block_count.result - c.block_count-2.result) c.free_up_to.result c.args.inode.now.size c.loop-inode.inode.size
    c.min-next.result c.args.size c.get-map.ensures.kept c.get-map.ensures.value c.count.ensures need c.free_up_to.ensures c.if-free_up_to-need.false c.requires.size c.loop-inode.invariant.grows.resizes.free next.1 in
    let step : GrowsBut c.args.from c.args.to c.args.number (g.B.Blocks.blocks c.loop-inode.b) c.loop-inode.inode c.min-next.result (g.B.Blocks.blocks c.grow_in_run.new.b) c.grow_in_run.new.inode = grown c.grow_in_run.result _ (g.B.Blocks.blocks c.grow_in_run.new.b ≡ g.B.Blocks.blocks c.loop-inode.b) (c.grow_in_run.new.inode ≡ c.loop-inode.inode) _ _ c.grow_in_run.ensures.ok c.grow_in_run.ensures.err c.grow_in_run.ensures.full enough in
    omega (arith, step.resizes.fields.2, next.0, next.1)

-- ---- all of it

pub returns-clause-ok : goal.returns-clause-ok
returns-clause-ok g c =
    let inv = c.loop-inode.invariant in
    let after : List (List ℕ) = g.B.Blocks.blocks c.loop-inode.b in
    let size : c.loop-inode.inode.size ≡ c.args.size = omega (arith, c.loop-inode-test.false, inv.range.1) in
    let there = subst (λ (n : ℕ). GrowsBut c.args.from c.args.to c.args.number (g.B.Blocks.blocks c.get-map.new.self) c.args.inode.now n after c.loop-inode.inode) size inv.grows in
    subst (λ (disk : List (List ℕ)). GrowsBut c.args.from c.args.to c.args.number disk c.args.inode.now c.args.size after c.loop-inode.inode) c.get-map.ensures.kept there

pub returns-clause-frees_none : goal.returns-clause-frees_none
returns-clause-frees_none g c = subst (λ (disk : List (List ℕ)). FreesNone disk (g.B.Blocks.blocks c.loop-inode.b)) c.get-map.ensures.kept c.loop-inode.invariant.frees_none

pub returns-clause-full : goal.returns-clause-full
returns-clause-full g c =
    let before : List (List ℕ) = g.B.Blocks.blocks c.args.b.now in
    let same : free_below c.get-map.result c.count.result ≡ free_in_map before = free_read before (g.B.Blocks.blocks c.get-map.new.self) c.get-map.result c.count.result c.get-map.ensures.kept c.get-map.ensures.value c.count.ensures in
    (λ e. absurd cc, λ few. absurd (omega (arith, few, same, c.free_up_to.ensures, c.if-free_up_to-need.false, c.block_count.ensures, c.block_count-2.ensures)))
