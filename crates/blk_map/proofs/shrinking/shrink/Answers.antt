use Rattle.std.proofs.Common.{◌≡◌, ◌≢◌, ℕ, ◌+◌, ◌-◌, ◌*◌, ◌<◌, ◌≤◌, inl, inr, List, sym, ap, subst, ◌∙◌, arith}
use Rattle.posix_defs.specs.DiskFormat.{block_size, data_blocks}
use Rattle.posix_defs.specs.SoundDisk.{run_of}
use Rattle.posix_defs.specs.NodeChange.{Resizes}
use Rattle.blk_map.specs.Named.{MayHaveSize}
use Rattle.blk_map.specs.Runs.{run_first}
use Rattle.blk_map.proofs.Steps.{floor_below, floor_within, resizes_follow, resizes_not, whole_blocks}
use Rattle.blk_map.proofs.Taken.{none_then_none}
use Rattle.blk_map.proofs.shrinking.shrink.Goals as goal

pub size_below_run-floor-requires : goal.size_below_run-floor-requires
size_below_run-floor-requires g c = omega (arith, c.requires.node.0.valid.kind.size, c.data_count.ensures)

pub loop-floor-init : goal.loop-floor-init
loop-floor-init g c =
    record {
      resizes = resizes_not c.args.number (g.B.Blocks.blocks c.args.b.now) c.args.inode.now c.requires.sound c.requires.node.0;
      takes_none = λ block is. is;
      range = (c.requires.size, omega arith);
      floor = c.size_below_run-floor.ensures ∙ ap (λ (n : ℕ). block_size * run_first (run_of (n - 1))) c.data_count.ensures;
      follows = g.met.B.Blocks.follows_refl c.args.b.now;
    }

pub shrink_in_run-requires : goal.shrink_in_run-requires
shrink_in_run-requires g c =
    let inv = c.loop-floor.invariant in
    let a = inv.resizes in
    let floor = c.loop-floor.floor in
    let units : ℕ = run_first (run_of (data_blocks c.loop-floor.inode.size - 1)) in
    let some : 0 < floor = omega (arith, c.loop-floor-test.true) in
    record {
      sound = a.changes.sound;
      node = (a.has, λ none. c.requires.node.1 (sym a.fields.0 ∙ none));
      kind = subst (λ (n : ℕ). MayHaveSize c.loop-floor.inode.kind n) (sym inv.floor) (whole_blocks c.args.inode.now.kind c.loop-floor.inode.kind c.args.size units a.fields.0 c.requires.kind);
      size = omega (arith, floor_below c.loop-floor.inode.size floor inv.floor some);
      run = floor_within c.loop-floor.inode.size floor floor inv.floor (omega arith);
    }

pub size_below_run-floor-requires-in-loop-floor : goal.size_below_run-floor-requires-in-loop-floor
size_below_run-floor-requires-in-loop-floor g c = omega (arith, c.shrink_in_run.ensures.resizes.has.valid.kind.size, c.data_count-in-loop-floor.ensures)

pub loop-floor-preserved : goal.loop-floor-preserved
loop-floor-preserved g c =
    let inv = c.loop-floor.invariant in
    let floor = c.loop-floor.floor in
    let base : List (List ℕ) = g.B.Blocks.blocks c.args.b.now in
    let between : List (List ℕ) = g.B.Blocks.blocks c.loop-floor.b in
    let after : List (List ℕ) = g.B.Blocks.blocks c.shrink_in_run.new.b in
    let new = c.shrink_in_run.new.inode in
    let step = c.shrink_in_run.ensures.resizes in
    let below : floor < c.loop-floor.inode.size = floor_below c.loop-floor.inode.size floor inv.floor (omega (arith, c.loop-floor-test.true)) in
    let size : new.size ≡ floor = step.fields.2 in
    let all = resizes_follow c.args.number c.loop-floor.inode.size floor base between after c.args.inode.now c.loop-floor.inode new (inr (inv.range.1, omega (arith, below))) inv.resizes step in
    record {
      resizes = subst (λ (n : ℕ). Resizes c.args.number base c.args.inode.now n after new) (sym size) all;
      takes_none = none_then_none base between after inv.takes_none c.shrink_in_run.ensures.takes_none;
      range = (omega (arith, size, c.loop-floor-test.true), omega (arith, size, below, inv.range.1));
      floor = c.size_below_run-floor-in-loop-floor.ensures ∙ ap (λ (n : ℕ). block_size * run_first (run_of (n - 1))) c.data_count-in-loop-floor.ensures;
      follows = g.met.B.Blocks.follows_trans c.args.b.now c.loop-floor.b c.shrink_in_run.new.b inv.follows c.shrink_in_run.ensures.follows;
    }

pub loop-floor-smaller : goal.loop-floor-smaller
loop-floor-smaller g c =
    let inv = c.loop-floor.invariant in
    omega (arith, c.shrink_in_run.ensures.resizes.fields.2, floor_below c.loop-floor.inode.size c.loop-floor.floor inv.floor (omega (arith, c.loop-floor-test.true)))

pub shrink_in_run-requires-2 : goal.shrink_in_run-requires-2
shrink_in_run-requires-2 g c =
    let inv = c.loop-floor.invariant in
    let a = inv.resizes in
    record {
      sound = a.changes.sound;
      node = (a.has, λ none. c.requires.node.1 (sym a.fields.0 ∙ none));
      kind = subst (λ (kind : ℕ). MayHaveSize kind c.args.size) (sym a.fields.0) c.requires.kind;
      size = inv.range.0;
      run = floor_within c.loop-floor.inode.size c.loop-floor.floor c.args.size inv.floor (omega (arith, c.loop-floor-test.false));
    }

pub returns-clause-resizes : goal.returns-clause-resizes
returns-clause-resizes g c =
    let inv = c.loop-floor.invariant in
    resizes_follow c.args.number c.loop-floor.inode.size c.args.size (g.B.Blocks.blocks c.args.b.now) (g.B.Blocks.blocks c.loop-floor.b) (g.B.Blocks.blocks c.shrink_in_run-2.new.b) c.args.inode.now c.loop-floor.inode c.shrink_in_run-2.new.inode
    (inr (inv.range.1, inv.range.0)) inv.resizes c.shrink_in_run-2.ensures.resizes

pub returns-clause-takes_none : goal.returns-clause-takes_none
returns-clause-takes_none g c =
    none_then_none (g.B.Blocks.blocks c.args.b.now) (g.B.Blocks.blocks c.loop-floor.b) (g.B.Blocks.blocks c.shrink_in_run-2.new.b) c.loop-floor.invariant.takes_none c.shrink_in_run-2.ensures.takes_none
