use Rattle.std.proofs.Common.{◌≡◌, ◌≢◌, ℕ, ◌+◌, ◌-◌, ◌*◌, ◌<◌, ◌≤◌, List, length, get_or, set, refl, sym, ap, subst, ◌∙◌, arith}
use Rattle.std.proofs.lemmas.List.{get_or-set_same, get_or-set_other}
use Rattle.posix_defs.specs.DiskFormat.{data_blocks, pointer_blocks}
use Rattle.posix_defs.specs.SoundDisk.{block_bytes, block_of_run, pointer_at, pointer_block}
use Rattle.blk_map.specs.Pointing.{Repoints}
use Rattle.blk_map.proofs.Counted.{named_one, named_two, none_there, some_there}
use Rattle.blk_map.proofs.Repointing.{Had, double_on_disk, far_same, double_named, run_named_at, with_double}
use Rattle.blk_map.proofs.Ways.{further_run}
use Rattle.blk_map.proofs.pointing.name_far.Goals as goal

pub pointers_at-requires-clause-double : goal.pointers_at-requires-clause-double
pointers_at-requires-clause-double g c = λ pos.
    double_on_disk (record { disk = g.B.Blocks.blocks c.args.b.now; number = c.args.number; old = c.args.inode.now; size = c.args.size; sound = c.requires.sound; has = c.requires.node.0 })

pub returns-then-is_empty-clause-has : goal.returns-then-is_empty-clause-has
returns-then-is_empty-clause-has g c = λ large.
    c.pointers_at.ensures.value ∙ ap (λ (disk : List (List ℕ)). pointer_block disk c.args.inode.now (block_of_run c.args.run)) (sym c.pointers_at.ensures.kept)

pub returns-then-is_empty-clause-names : goal.returns-then-is_empty-clause-names
returns-then-is_empty-clause-names g c =
    let h : Had = record { disk = g.B.Blocks.blocks c.args.b.now; number = c.args.number; old = c.args.inode.now; size = c.args.size; sound = c.requires.sound; has = c.requires.node.0 } in
    let none : length c.args.more.now ≡ 0 = none_there (length c.args.more.now) c.is_empty.result c.is_empty.ensures c.if-is_empty.true in
    let far : 266 ≤ data_blocks h.old.size = omega (arith, c.requires.run, c.requires.few.0) in
    subst (λ (disk : List (List ℕ)). Repoints h.disk h.old h.size c.args.more.now disk h.old) (sym c.pointers_at.ensures.kept) (far_same h c.args.more.now c.requires.grows far (omega (arith, c.requires.many, none)))

pub set_pointer-requires-clause-on_disk : goal.set_pointer-requires-clause-on_disk
set_pointer-requires-clause-on_disk g c =
    double_on_disk (record { disk = g.B.Blocks.blocks c.args.b.now; number = c.args.number; old = c.args.inode.now; size = c.args.size; sound = c.requires.sound; has = c.requires.node.0 })

pub returns-then-run-gt1-clause-has : goal.returns-then-run-gt1-clause-has
returns-then-run-gt1-clause-has g c = λ large. sym c.set_pointer.ensures.this ∙ sym (further_run (g.B.Blocks.blocks c.set_pointer.new.b) c.args.inode.now c.args.run c.requires.few.0)

pub returns-then-run-gt1-clause-names : goal.returns-then-run-gt1-clause-names
returns-then-run-gt1-clause-names g c =
    let some : 0 < length c.args.more.now = some_there (length c.args.more.now) c.is_empty.result c.is_empty.ensures c.if-is_empty.false in
    let h : Had = record { disk = g.B.Blocks.blocks c.args.b.now; number = c.args.number; old = c.args.inode.now; size = c.args.size; sound = c.requires.sound; has = c.requires.node.0 } in
    let more : List ℕ = c.args.more.now in
    let at = named_one c.args.run (data_blocks h.old.size) (data_blocks h.size) (length more) (omega arith) c.requires.run (omega (arith, c.requires.grows)) c.requires.within c.requires.many some in
    let last : get_or more (length more - 1) 0 ≡ get_or more 0 0 = ap (λ (n : ℕ). get_or more (n - 1) 0) at.2 in
    run_named_at h c.args.run more (g.B.Blocks.blocks c.set_pointer.new.b) h.old (omega arith) at.0 at.1 c.requires.within at.2 refl refl (c.set_pointer.ensures.this ∙ last) c.set_pointer.ensures.rest

pub returns-clause-has : goal.returns-clause-has
returns-clause-has g c = λ large.
    let some : 0 < length c.args.more.now = some_there (length c.args.more.now) c.is_empty.result c.is_empty.ensures c.if-is_empty.false in
    let more : List ℕ = c.args.more.now in
    let before : List (List ℕ) = g.B.Blocks.blocks c.args.b.now in
    let here : block_bytes (g.B.Blocks.blocks c.set.new.self) (get_or more 0 0) ≡ c.block_naming.result =
    ap (λ (disk : List (List ℕ)). block_bytes disk (get_or more 0 0)) c.set.ensures.after ∙ get_or-set_same {A = List ℕ} before (get_or more 0 0) c.block_naming.result _ (c.requires.free 0 some).0 in
    let one : c.args.run ≡ 1 = omega arith in
    sym c.block_naming.ensures.first ∙ ap (λ (bytes : List ℕ). pointer_at bytes 0) (sym here)
    ∙ ap (λ (run : ℕ). pointer_block (g.B.Blocks.blocks c.set.new.self) (with_double c.args.inode.now (get_or more 0 0)) (block_of_run run)) (sym one)

pub returns-clause-names : goal.returns-clause-names
returns-clause-names g c =
    let some : 0 < length c.args.more.now = some_there (length c.args.more.now) c.is_empty.result c.is_empty.ensures c.if-is_empty.false in
    let h : Had = record { disk = g.B.Blocks.blocks c.args.b.now; number = c.args.number; old = c.args.inode.now; size = c.args.size; sound = c.requires.sound; has = c.requires.node.0 } in
    let more : List ℕ = c.args.more.now in
    let after : List (List ℕ) = g.B.Blocks.blocks c.set.new.self in
    let one : 1 ≡ c.args.run = omega arith in
    let at = named_two (data_blocks h.old.size) (data_blocks h.size) (length more) (one ∙ c.requires.run) (omega (arith, c.requires.grows)) (omega (arith, c.requires.within, one)) c.requires.many some in
    let here : block_bytes after (get_or more 0 0) ≡ c.block_naming.result =
    ap (λ (disk : List (List ℕ)). block_bytes disk (get_or more 0 0)) c.set.ensures.after ∙ get_or-set_same {A = List ℕ} h.disk (get_or more 0 0) c.block_naming.result _ (c.requires.free 0 some).0 in
    let first : pointer_at (block_bytes after (get_or more 0 0)) 0 ≡ get_or more 1 0 =
    ap (λ (bytes : List ℕ). pointer_at bytes 0) here ∙ c.block_naming.ensures.first ∙ ap (λ (n : ℕ). get_or more (n - 1) 0) at.2 in
    double_named h more after (with_double h.old (get_or more 0 0)) at.0 at.1 (omega (arith, c.requires.within, one)) at.2 refl refl first (
    λ place pos within.
    ap (λ (bytes : List ℕ). pointer_at bytes place) here ∙ c.block_naming.ensures.rest place pos within
    )

pub returns-clause-others : goal.returns-clause-others
returns-clause-others g c = λ block other.
    let some : 0 < length c.args.more.now = some_there (length c.args.more.now) c.is_empty.result c.is_empty.ensures c.if-is_empty.false in
    let more : List ℕ = c.args.more.now in
    let one : 1 ≡ c.args.run = omega arith in
    let at = named_two (data_blocks c.args.inode.now.size) (data_blocks c.args.size) (length more) (one ∙ c.requires.run) (omega (arith, c.requires.grows)) (omega (arith, c.requires.within, one)) c.requires.many some in
    ap (λ (disk : List (List ℕ)). block_bytes disk block) c.set.ensures.after ∙ get_or-set_other {A = List ℕ} (g.B.Blocks.blocks c.args.b.now) (get_or more 0 0) block c.block_naming.result _ (other at.1)
