use Rattle.std.proofs.Common.{◌≡◌, ◌≢◌, ℕ, ◌+◌, ◌*◌, ◌<◌, ◌≤◌, List, length, get_or, refl, sym, ap, subst, ◌∙◌, arith}
use Rattle.posix_defs.specs.DiskFormat.{data_blocks}
use Rattle.posix_defs.specs.SoundDisk.{block_of_run, pointer_block}
use Rattle.blk_map.proofs.Counted.{none_there, some_there}
use Rattle.blk_map.proofs.Repointing.{Had, near_named, with_indirect}
use Rattle.blk_map.proofs.pointing.name_pointers.Goals as goal

pub returns-then-is_empty-clause-has : goal.returns-then-is_empty-clause-has
returns-then-is_empty-clause-has g c = λ large. let none : 0 ≡ c.args.run = omega arith in ap (λ (run : ℕ). pointer_block (g.B.Blocks.blocks c.args.b.now) c.args.inode.now (block_of_run run)) none

pub returns-then-is_empty-clause-names : goal.returns-then-is_empty-clause-names
returns-then-is_empty-clause-names g c =
    let h : Had = record { disk = g.B.Blocks.blocks c.args.b.now; number = c.args.number; old = c.args.inode.now; size = c.args.size; sound = c.requires.sound; has = c.requires.node.0 } in
    let near : data_blocks c.args.size ≤ 266 = omega (arith, c.requires.within) in
    near_named h c.args.more.now h.disk h.old c.requires.grows near c.requires.many refl (λ none. refl) (λ some. absurd (omega (arith, some, none_there (length c.args.more.now) c.is_empty.result c.is_empty.ensures c.if-is_empty.true)))

pub returns-clause-has : goal.returns-clause-has
returns-clause-has g c = λ large.
    let none : c.args.run ≡ 0 = omega arith in
    subst (λ (run : ℕ). get_or c.args.more.now 0 0 ≡ pointer_block (g.B.Blocks.blocks c.args.b.now) (with_indirect c.args.inode.now (get_or c.args.more.now 0 0)) (block_of_run run)) (sym none) refl

pub returns-clause-names : goal.returns-clause-names
returns-clause-names g c =
    let h : Had = record { disk = g.B.Blocks.blocks c.args.b.now; number = c.args.number; old = c.args.inode.now; size = c.args.size; sound = c.requires.sound; has = c.requires.node.0 } in
    let near : data_blocks c.args.size ≤ 266 = omega (arith, c.requires.within) in
    let named : get_or c.args.more.now 0 0 ≡ get_or c.args.more.now 0 0 = refl in
    near_named h c.args.more.now h.disk (with_indirect h.old (get_or c.args.more.now 0 0)) c.requires.grows near c.requires.many refl (λ none. absurd (omega (arith, none, some_there (length c.args.more.now) c.is_empty.result c.is_empty.ensures c.if-is_empty.false))) (λ some. named)
