use Rattle.std.proofs.Common.{◌≡◌, ℕ, List, [], ◌∷◌, ◌++◌, Result, Err, OnOk, sym, subst, ◌∙◌}
use Rattle.kabi_types.specs.declared.errnos.Errno.{Errno}
use Rattle.kabi_types.specs.declared.errnos.Errno.TheVariants.{ENOSPC}
use Rattle.posix_defs.specs.DiskFormat.{blocks_of}
use Rattle.posix_defs.specs.SoundDisk.{HasNode, IsFreeNode, IsLowestFreeNode}
use Rattle.posix_defs.specs.DiskContents.{entry_for}
use Rattle.posix_defs.specs.Tree.{size_of}
use Rattle.posix_defs.specs.TreeChanges.{make}
use Rattle.blk_map.specs.Named.{TakesLowest}
use Rattle.blk_map.proofs.Taken.{lowest_then_lowest, unchanged_is_lowest}
use Rattle.disk_layout.specs.Vacant.{NoneFreeIn}
use Rattle.memfs_dir.specs.Listed.{IsFullBeside, Relists}
use Rattle.memfs_dir.proofs.Kept.{entries_stay}
use Rattle.memfs_node.specs.NodeOnDisk.{AnswersAs, Makes, content_of}
use Rattle.memfs_node.proofs.Named.{Asked, apart, no_room, no_node, made, still_room, is_done, same_others, made_others}
use Rattle.memfs_node.proofs.naming.make_named.Goals as goal

pub returns-then-not-has_room_for_entry-clause-answer : goal.returns-then-not-has_room_for_entry-clause-answer
returns-then-not-has_room_for_entry-clause-answer g c = λ tree stands is_dir.
    let disk : List (List ℕ) = g.B.Blocks.blocks c.args.b.now in
    let content = content_of c.args.new in
    let value = c.has_room_for_entry.ensures.value in
    let beside : c.blocks-2.result ≡ blocks_of (size_of content) = c.blocks-2.ensures in
    let a : Asked disk c.args.parent c.args.dir.now (blocks_of (size_of content)) c.has_room_for_entry.result =
    subst (λ (n : ℕ). Asked disk c.args.parent c.args.dir.now n c.has_room_for_entry.result) beside (record { has = c.requires.node; yes = value.0; no = value.1 }) in
    subst (λ (d : List (List ℕ)). AnswersAs disk d (make tree c.args.parent c.args.name content) (Err ENOSPC)) (sym c.has_room_for_entry.ensures.kept)
    (no_room disk c.args.parent c.args.dir.now content c.has_room_for_entry.result a tree c.args.name stands c.if-not-has_room_for_entry.true)

pub returns-in_default-clause-answer : goal.returns-in_default-clause-answer
returns-in_default-clause-answer g c = λ tree stands is_dir.
    let disk : List (List ℕ) = g.B.Blocks.blocks c.args.b.now in
    let content = content_of c.args.new in
    let value = c.has_room_for_entry.ensures.value in
    let beside : c.blocks-2.result ≡ blocks_of (size_of content) = c.blocks-2.ensures in
    let a : Asked disk c.args.parent c.args.dir.now (blocks_of (size_of content)) c.has_room_for_entry.result =
    subst (λ (n : ℕ). Asked disk c.args.parent c.args.dir.now n c.has_room_for_entry.result) beside (record { has = c.requires.node; yes = value.0; no = value.1 }) in
    let kept = c.has_room_for_entry.ensures.kept in
    let none : (number : ℕ) → ¬ (IsFreeNode disk number) = subst (λ (d : List (List ℕ)). (number : ℕ) → ¬ (IsFreeNode d number)) kept c.in_default.ensures.none in
    subst (λ (d : List (List ℕ)). AnswersAs disk d (make tree c.args.parent c.args.name content) (Err ENOSPC)) (sym (c.lowest_node.ensures.kept ∙ kept))
    (no_node disk c.args.parent c.args.dir.now content c.has_room_for_entry.result a tree c.args.name stands none)

pub lowest_node-requires-clause-full : goal.lowest_node-requires-clause-full
lowest_node-requires-clause-full g c =
    subst (λ (d : List (List ℕ)). NoneFreeIn d c.args.full) (sym c.has_room_for_entry.ensures.kept) c.requires.full

pub dir_add-requires-clause-node : goal.dir_add-requires-clause-node
dir_add-requires-clause-node g c =
    let disk : List (List ℕ) = g.B.Blocks.blocks c.args.b.now in
    let kept = c.has_room_for_entry.ensures.kept in
    let lowest : IsLowestFreeNode disk c.in-Some.number = subst (λ (d : List (List ℕ)). IsLowestFreeNode d c.in-Some.number) kept c.in-Some.ensures.found in
    let has : HasNode (g.B.Blocks.blocks c.lowest_node.new.b) c.args.parent c.args.dir.now =
    subst (λ (d : List (List ℕ)). HasNode d c.args.parent c.args.dir.now) (sym (c.lowest_node.ensures.kept ∙ kept)) c.requires.node in
    (c.make_node.ensures.makes.changes.inodes c.args.parent c.args.dir.now (apart disk c.in-Some.number c.args.parent c.args.dir.now lowest.free c.requires.node) has.0, c.requires.node.1)

pub dir_add-requires-clause-entries : goal.dir_add-requires-clause-entries
dir_add-requires-clause-entries g c =
    let disk : List (List ℕ) = g.B.Blocks.blocks c.args.b.now in
    let between : List (List ℕ) = g.B.Blocks.blocks c.make_node.new.b in
    let content = content_of c.args.new in
    let kept = c.has_room_for_entry.ensures.kept in
    let lowest : IsLowestFreeNode disk c.in-Some.number = subst (λ (d : List (List ℕ)). IsLowestFreeNode d c.in-Some.number) kept c.in-Some.ensures.found in
    let makes : Makes c.in-Some.number disk content between c.make_node.result =
    subst (λ (d : List (List ℕ)). Makes c.in-Some.number d content between c.make_node.result) (c.lowest_node.ensures.kept ∙ kept) c.make_node.ensures.makes in
    let other = apart disk c.in-Some.number c.args.parent c.args.dir.now lowest.free c.requires.node in
    (c.requires.entries.0, entries_stay c.in-Some.number c.args.parent disk between c.args.dir.now c.requires.entries.0 makes.changes other c.requires.node.0 c.requires.entries.1)

pub unwrap-requires : goal.unwrap-requires
unwrap-requires g c =
    let disk : List (List ℕ) = g.B.Blocks.blocks c.args.b.now in
    let between : List (List ℕ) = g.B.Blocks.blocks c.make_node.new.b in
    let content = content_of c.args.new in
    let kept = c.has_room_for_entry.ensures.kept in
    let makes : Makes c.in-Some.number disk content between c.make_node.result =
    subst (λ (d : List (List ℕ)). Makes c.in-Some.number d content between c.make_node.result) (c.lowest_node.ensures.kept ∙ kept) c.make_node.ensures.makes in
    let beside : c.blocks-2.result ≡ blocks_of (size_of content) = c.blocks-2.ensures in
    let room : ¬ (IsFullBeside disk c.args.dir.now (blocks_of (size_of content))) =
    subst (λ (n : ℕ). ¬ (IsFullBeside disk c.args.dir.now n)) beside (c.has_room_for_entry.ensures.value.0 c.if-not-has_room_for_entry.false) in
    is_done c.dir_add.result c.dir_add.ensures.only (
    λ fault. still_room disk between c.args.parent c.in-Some.number c.args.dir.now c.make_node.result content room makes (c.dir_add.ensures.full.0 fault)
    )

pub returns-clause-answer : goal.returns-clause-answer
returns-clause-answer g c = λ tree stands is_dir.
    let disk : List (List ℕ) = g.B.Blocks.blocks c.args.b.now in
    let between : List (List ℕ) = g.B.Blocks.blocks c.make_node.new.b in
    let after : List (List ℕ) = g.B.Blocks.blocks c.dir_add.new.b in
    let number : ℕ = c.in-Some.number in
    let content = content_of c.args.new in
    let value = c.has_room_for_entry.ensures.value in
    let beside : c.blocks-2.result ≡ blocks_of (size_of content) = c.blocks-2.ensures in
    let a : Asked disk c.args.parent c.args.dir.now (blocks_of (size_of content)) c.has_room_for_entry.result =
    subst (λ (n : ℕ). Asked disk c.args.parent c.args.dir.now n c.has_room_for_entry.result) beside (record { has = c.requires.node; yes = value.0; no = value.1 }) in
    let kept = c.has_room_for_entry.ensures.kept in
    let lowest : IsLowestFreeNode disk number = subst (λ (d : List (List ℕ)). IsLowestFreeNode d number) kept c.in-Some.ensures.found in
    let makes : Makes number disk content between c.make_node.result =
    subst (λ (d : List (List ℕ)). Makes number d content between c.make_node.result) (c.lowest_node.ensures.kept ∙ kept) c.make_node.ensures.makes in
    let has : HasNode between c.args.parent c.args.dir.now = (
      makes.changes.inodes c.args.parent c.args.dir.now (apart disk number c.args.parent c.args.dir.now lowest.free c.requires.node) c.requires.node.0,
      c.requires.node.1,
    ) in
    let Put : Result (Unit {0}) Errno → Type 0 = λ r. OnOk r (Relists c.args.parent between c.args.dir.now (λ entries. entries ++ entry_for number c.args.name ∷ []) after c.dir_add.new.dir) in
    let relists = subst Put c.unwrap.ensures c.dir_add.ensures.ok in
    made disk c.args.parent c.args.dir.now content c.has_room_for_entry.result a tree c.args.name stands number between after c.make_node.result c.dir_add.new.dir c.if-not-has_room_for_entry.false is_dir lowest makes has relists

pub returns-then-not-has_room_for_entry-clause-others : goal.returns-then-not-has_room_for_entry-clause-others
returns-then-not-has_room_for_entry-clause-others g c =
    let disk : List (List ℕ) = g.B.Blocks.blocks c.args.b.now in
    same_others c.args.parent disk (g.B.Blocks.blocks c.has_room_for_entry.new.b) c.has_room_for_entry.ensures.kept

pub returns-in_default-clause-others : goal.returns-in_default-clause-others
returns-in_default-clause-others g c =
    let disk : List (List ℕ) = g.B.Blocks.blocks c.args.b.now in
    same_others c.args.parent disk (g.B.Blocks.blocks c.lowest_node.new.b) (c.lowest_node.ensures.kept ∙ c.has_room_for_entry.ensures.kept)

pub returns-clause-others : goal.returns-clause-others
returns-clause-others g c =
    let disk : List (List ℕ) = g.B.Blocks.blocks c.args.b.now in
    let between : List (List ℕ) = g.B.Blocks.blocks c.make_node.new.b in
    let after : List (List ℕ) = g.B.Blocks.blocks c.dir_add.new.b in
    let number : ℕ = c.in-Some.number in
    let content = content_of c.args.new in
    let kept = c.has_room_for_entry.ensures.kept in
    let lowest : IsLowestFreeNode disk number = subst (λ (d : List (List ℕ)). IsLowestFreeNode d number) kept c.in-Some.ensures.found in
    let makes : Makes number disk content between c.make_node.result =
    subst (λ (d : List (List ℕ)). Makes number d content between c.make_node.result) (c.lowest_node.ensures.kept ∙ kept) c.make_node.ensures.makes in
    let Put : Result (Unit {0}) Errno → Type 0 = λ r. OnOk r (Relists c.args.parent between c.args.dir.now (λ entries. entries ++ entry_for number c.args.name ∷ []) after c.dir_add.new.dir) in
    let relists = subst Put c.unwrap.ensures c.dir_add.ensures.ok in
    made_others disk between after number c.args.parent lowest.free makes.changes relists.changes

pub returns-then-not-has_room_for_entry-clause-lowest : goal.returns-then-not-has_room_for_entry-clause-lowest
returns-then-not-has_room_for_entry-clause-lowest g c =
    unchanged_is_lowest (g.B.Blocks.blocks c.args.b.now) (g.B.Blocks.blocks c.has_room_for_entry.new.b) c.has_room_for_entry.ensures.kept

pub returns-in_default-clause-lowest : goal.returns-in_default-clause-lowest
returns-in_default-clause-lowest g c =
    unchanged_is_lowest (g.B.Blocks.blocks c.args.b.now) (g.B.Blocks.blocks c.lowest_node.new.b) (c.lowest_node.ensures.kept ∙ c.has_room_for_entry.ensures.kept)

pub returns-clause-lowest : goal.returns-clause-lowest
returns-clause-lowest g c =
    let disk : List (List ℕ) = g.B.Blocks.blocks c.args.b.now in
    let between : List (List ℕ) = g.B.Blocks.blocks c.make_node.new.b in
    let after : List (List ℕ) = g.B.Blocks.blocks c.dir_add.new.b in
    let number : ℕ = c.in-Some.number in
    let content = content_of c.args.new in
    let same = c.lowest_node.ensures.kept ∙ c.has_room_for_entry.ensures.kept in
    let makes : Makes number disk content between c.make_node.result = subst (λ (d : List (List ℕ)). Makes number d content between c.make_node.result) same c.make_node.ensures.makes in
    let first : TakesLowest disk between = subst (λ (d : List (List ℕ)). TakesLowest d between) same c.make_node.ensures.lowest in
    let Put : Result (Unit {0}) Errno → Type 0 = λ r. OnOk r (Relists c.args.parent between c.args.dir.now (λ entries. entries ++ entry_for number c.args.name ∷ []) after c.dir_add.new.dir) in
    let relists = subst Put c.unwrap.ensures c.dir_add.ensures.ok in
    let Taken : Result (Unit {0}) Errno → Type 0 = λ r. OnOk r (TakesLowest between after) in
    let second = subst Taken c.unwrap.ensures c.dir_add.ensures.lowest in
    lowest_then_lowest disk between after makes.changes.blocks relists.changes.blocks first c.dir_add.ensures.frees_none second
