use Rattle.std.proofs.Common.{◌≡◌, ◌≢◌, ℕ, ◌+◌, ◌-◌, ◌*◌, ◌<◌, ◌≤◌, ◌⊎◌, inl, inr, List, [], length, get_or, refl, sym, ap, subst, ◌∙◌, arith}
use Rattle.posix_defs.specs.DiskFormat.{data_blocks, pointer_blocks}
use Rattle.posix_defs.specs.SoundDisk.{block_bytes, block_of_run, pointer_at, pointer_block, run_of}
use Rattle.blk_map.proofs.Counted.{last_run_few, none_gone, one_gone, two_gone}
use Rattle.blk_map.proofs.Forgetting.{one_each, two_each}
use Rattle.blk_map.proofs.Repointing.{Had, double_on_disk, none_forgotten, near_forgotten, double_forgotten, run_forgotten_at, with_double, with_indirect}
use Rattle.blk_map.proofs.pointing.forget_pointers.Goals as goal

-- ---- the node keeps the block of the run, or had none

pub returns-then-left-first-clause-names : goal.returns-then-left-first-clause-names
returns-then-left-first-clause-names g c =
    let h : Had = record { disk = g.B.Blocks.blocks c.args.b.now; number = c.args.number; old = c.args.inode.now; size = c.args.size; sound = c.requires.sound; has = c.requires.node.0 } in
    let why : (10 + 256 * c.args.run < data_blocks c.args.size) ⊎ (data_blocks h.old.size ≤ 10 + 256 * c.args.run) =
    elim c.then-left-first.either [ inl kept ↦ inl (omega (arith, kept, c.data_count-left.ensures, c.run_start-first.ensures)) | inr few ↦ inr (omega (arith, few.1, c.data_count-had.ensures, c.run_start-first.ensures)) ] in
    none_forgotten h c.args.run c.requires.shrinks (omega (arith, c.requires.run)) (elim why [ inl kept ↦ inl kept | inr few ↦ inr (last_run_few c.args.run (data_blocks h.old.size) c.requires.run few) ])

pub returns-then-left-first-clause-many : goal.returns-then-left-first-clause-many
returns-then-left-first-clause-many g c =
    let why : (10 + 256 * c.args.run < data_blocks c.args.size) ⊎ (data_blocks c.args.inode.now.size ≤ 10 + 256 * c.args.run) =
    elim c.then-left-first.either [ inl kept ↦ inl (omega (arith, kept, c.data_count-left.ensures, c.run_start-first.ensures)) | inr few ↦ inr (omega (arith, few.1, c.data_count-had.ensures, c.run_start-first.ensures)) ] in
    omega (arith, none_gone c.args.run (data_blocks c.args.inode.now.size) (data_blocks c.args.size) c.requires.run (omega (arith, c.requires.shrinks)) why)

-- ---- the double block goes

pub returns-then-run-eq1-clause-names : goal.returns-then-run-eq1-clause-names
returns-then-run-eq1-clause-names g c =
    let h : Had = record { disk = g.B.Blocks.blocks c.args.b.now; number = c.args.number; old = c.args.inode.now; size = c.args.size; sound = c.requires.sound; has = c.requires.node.0 } in
    let left : data_blocks h.size ≡ 266 = omega (arith, c.requires.within) in
    double_forgotten h h.disk (with_double h.old 0) c.requires.shrinks left refl refl

pub returns-then-run-eq1-clause-many : goal.returns-then-run-eq1-clause-many
returns-then-run-eq1-clause-many g c =
    let left : data_blocks c.args.size ≡ 266 = omega (arith, c.requires.within) in
    let gone = two_gone (data_blocks c.args.inode.now.size) (data_blocks c.args.size) (omega (arith, c.requires.run)) left (omega arith) in
    omega (arith, gone.0, c.push.ensures.count, c.push-then-run-eq1.ensures.count)

pub returns-then-run-eq1-clause-each : goal.returns-then-run-eq1-clause-each
returns-then-run-eq1-clause-each g c = λ k lt.
    let disk : List (List ℕ) = g.B.Blocks.blocks c.args.b.now in
    let old = c.args.inode.now in
    let blocks : List ℕ = c.push-then-run-eq1.new.self.blocks in
    let left : data_blocks c.args.size ≡ 266 = omega (arith, c.requires.within) in
    let gone = two_gone (data_blocks old.size) (data_blocks c.args.size) (omega (arith, c.requires.run)) left (omega arith) in
    let run_is : c.args.run ≡ 1 = omega arith in
    let first : get_or blocks 0 0 ≡ old.double = c.push-then-run-eq1.ensures.kept 0 (omega (arith, c.push.ensures.count)) ∙ c.push.ensures.here in
    let one : c.push.new.self.count ≡ 1 = omega (arith, c.push.ensures.count) in
    let second : get_or blocks 1 0 ≡ pointer_block disk old (block_of_run c.args.run) = ap (λ (n : ℕ). get_or blocks n 0) (sym one) ∙ c.push-then-run-eq1.ensures.here ∙ c.requires.pointers (omega arith) in
    two_each blocks (pointer_block disk old) (pointer_blocks c.args.size) (pointer_blocks old.size - pointer_blocks c.args.size) k gone.0 (first ∙ ap (pointer_block disk old) (sym gone.1))
    (second ∙ ap (λ (run : ℕ). pointer_block disk old (block_of_run run)) run_is ∙ ap (λ (n : ℕ). pointer_block disk old (n + 1)) (sym gone.1)) lt

-- ---- the inode's own block of pointers goes

pub returns-then-run-eq0-clause-names : goal.returns-then-run-eq0-clause-names
returns-then-run-eq0-clause-names g c =
    let h : Had = record { disk = g.B.Blocks.blocks c.args.b.now; number = c.args.number; old = c.args.inode.now; size = c.args.size; sound = c.requires.sound; has = c.requires.node.0 } in
    near_forgotten h h.disk (with_indirect h.old 0) c.requires.shrinks (omega arith) (omega (arith, c.requires.run)) refl refl

pub returns-then-run-eq0-clause-many : goal.returns-then-run-eq0-clause-many
returns-then-run-eq0-clause-many g c =
    let gone = one_gone c.args.run (data_blocks c.args.inode.now.size) (data_blocks c.args.size) c.requires.run (omega arith) (omega arith) c.requires.within (omega arith) in
    omega (arith, gone.0, c.push-2.ensures.count)

pub returns-then-run-eq0-clause-each : goal.returns-then-run-eq0-clause-each
returns-then-run-eq0-clause-each g c = λ k lt.
    let disk : List (List ℕ) = g.B.Blocks.blocks c.args.b.now in
    let old = c.args.inode.now in
    let gone = one_gone c.args.run (data_blocks old.size) (data_blocks c.args.size) c.requires.run (omega arith) (omega arith) c.requires.within (omega arith) in
    let first : get_or c.push-2.new.self.blocks 0 0 ≡ pointer_block disk old (pointer_blocks c.args.size) = c.push-2.ensures.here ∙ c.requires.pointers (omega arith) ∙ ap (pointer_block disk old) (sym gone.1) in
    one_each c.push-2.new.self.blocks (pointer_block disk old) (pointer_blocks c.args.size) (pointer_blocks old.size - pointer_blocks c.args.size) k gone.0 first lt

-- ---- the double block names a block less

pub set_pointer-requires-clause-on_disk : goal.set_pointer-requires-clause-on_disk
set_pointer-requires-clause-on_disk g c = double_on_disk (record { disk = g.B.Blocks.blocks c.args.b.now; number = c.args.number; old = c.args.inode.now; size = c.args.size; sound = c.requires.sound; has = c.requires.node.0 })

pub returns-clause-names : goal.returns-clause-names
returns-clause-names g c =
    let h : Had = record { disk = g.B.Blocks.blocks c.args.b.now; number = c.args.number; old = c.args.inode.now; size = c.args.size; sound = c.requires.sound; has = c.requires.node.0 } in
    let left : data_blocks h.size ≡ 10 + 256 * c.args.run = omega (arith, c.requires.within) in
    run_forgotten_at h c.args.run (g.B.Blocks.blocks c.set_pointer.new.b) h.old (omega arith) c.requires.shrinks left (omega (arith, c.requires.run)) refl refl c.set_pointer.ensures.this c.set_pointer.ensures.rest

pub returns-clause-many : goal.returns-clause-many
returns-clause-many g c =
    let gone = one_gone c.args.run (data_blocks c.args.inode.now.size) (data_blocks c.args.size) c.requires.run (omega arith) (omega arith) c.requires.within (omega arith) in
    omega (arith, gone.0, c.push-2.ensures.count)

pub returns-clause-each : goal.returns-clause-each
returns-clause-each g c = λ k lt.
    let disk : List (List ℕ) = g.B.Blocks.blocks c.args.b.now in
    let old = c.args.inode.now in
    let gone = one_gone c.args.run (data_blocks old.size) (data_blocks c.args.size) c.requires.run (omega arith) (omega arith) c.requires.within (omega arith) in
    let first : get_or c.push-2.new.self.blocks 0 0 ≡ pointer_block disk old (pointer_blocks c.args.size) = c.push-2.ensures.here ∙ c.requires.pointers (omega arith) ∙ ap (pointer_block disk old) (sym gone.1) in
    one_each c.push-2.new.self.blocks (pointer_block disk old) (pointer_blocks c.args.size) (pointer_blocks old.size - pointer_blocks c.args.size) k gone.0 first lt

pub returns-clause-others : goal.returns-clause-others
returns-clause-others g c = λ block other. c.set_pointer.ensures.others block (other (omega (arith, c.requires.within)))
