use Rattle.std.proofs.Common.{◌≡◌, ℕ, ◌+◌, List, Option, Some, None, sym, ap, ◌∙◌, subst, arith}
use Rattle.std.specs.Prelude.{slice_set}
use Rattle.posix_defs.specs.DiskContents.{entry_for, HasEntries}
use Rattle.posix_defs.specs.DiskFormat.{IsName}
use Rattle.posix_defs.specs.DiskTree.{StandsFor, ChangesNode}
use Rattle.posix_defs.specs.SoundDisk.{HasNode}
use Rattle.posix_defs.specs.Tree.{Tree, entries_at}
use Rattle.posix_defs.specs.TreeChanges.{with_entries, entry_renamed, place_of}
use Rattle.blk_map.specs.Named.{FreesNone, TakesNone}
use Rattle.memfs_dir.specs.Listed.{Relists, place_called}
use Rattle.memfs_dir.proofs.InTree.{listed, renamed_in_tree}
use Rattle.memfs_node.proofs.Looking.{known_of, same_directory}
use Rattle.disk_laws.proofs.DiskNodes.{one_tree}
use Rattle.memfs_ops.specs.Entries.{HasEntry}
use Rattle.memfs_ops.proofs.StepLemmas.{entry_place}
use Rattle.memfs_ops.proofs.entries.set_named.Goals as goal

none_there : {n : ℕ} → ◌≡◌ {A = Option ℕ} None (Some n) → ⊥
none_there e = cc

same_place : (a b : ℕ) → ◌≡◌ {A = Option ℕ} (Some a) (Some b) → a ≡ b
same_place a b e = cc

pub dir_look-requires-clause-node : goal.dir_look-requires-clause-node
dir_look-requires-clause-node g c = (c.args.dir, c.requires.node)

pub dir_look-requires-clause-entries : goal.dir_look-requires-clause-entries
dir_look-requires-clause-entries g c =
    let disk : List (List ℕ) = g.B.Blocks.blocks c.args.b.now in
    let s = c.requires.stands in
    (listed s.0 c.args.dir, (known_of disk s.0 c.args.dir c.args.inode.now s.1 s.2 c.requires.node).list)

pub unreachable-requires : goal.unreachable-requires
unreachable-requires g c =
    let disk : List (List ℕ) = g.B.Blocks.blocks c.args.b.now in
    let s = c.requires.stands in
    let list = (known_of disk s.0 c.args.dir c.args.inode.now s.1 s.2 c.requires.node).list in
    let there = entry_place disk s.0 c.args.dir c.args.inode.now c.args.from.now s.1 s.2 c.requires.node s.3 in
    absurd (none_there ((c.in_default.ensures.value (listed s.0 c.args.dir) list).0 ∙ ap (λ n. place_called n (listed s.0 c.args.dir)) c.items.ensures.same ∙ there))

pub dir_rename-requires-clause-node : goal.dir_rename-requires-clause-node
dir_rename-requires-clause-node g c = (c.args.dir, subst (λ (d : List (List ℕ)). HasNode d c.args.dir c.args.inode.now) (sym c.dir_look.ensures.kept) c.requires.node)

pub dir_rename-requires-clause-entries : goal.dir_rename-requires-clause-entries
dir_rename-requires-clause-entries g c =
    let disk : List (List ℕ) = g.B.Blocks.blocks c.args.b.now in
    let s = c.requires.stands in
    (listed s.0 c.args.dir, subst (λ (d : List (List ℕ)). HasEntries d c.args.inode.now (listed s.0 c.args.dir)) (sym c.dir_look.ensures.kept) (known_of disk s.0 c.args.dir c.args.inode.now s.1 s.2 c.requires.node).list)

pub dir_rename-requires-clause-entry : goal.dir_rename-requires-clause-entry
dir_rename-requires-clause-entry g c = record { node = (c.requires.number, omega (arith, c.ranges.node)); name = subst (λ (n : List ℕ). IsName n) (sym c.copy.ensures) c.requires.name }

pub returns-clause-stands : goal.returns-clause-stands
returns-clause-stands g c = λ tree stands.
    let disk : List (List ℕ) = g.B.Blocks.blocks c.args.b.now in
    let after : List (List ℕ) = g.B.Blocks.blocks c.dir_rename.new.b in
    let s = c.requires.stands in
    let is_dir = same_directory disk s.0 tree c.args.dir s.1 stands s.2 in
    let there = subst (λ (t : Tree). HasEntry t c.args.dir c.args.from.now) (one_tree disk s.0 tree s.1 stands) s.3 in
    let list = (known_of disk tree c.args.dir c.args.inode.now stands is_dir c.requires.node).list in
    let at = same_place c.in-Some.found.place (place_of c.args.from.now (entries_at tree c.args.dir) + 2) ((c.in-Some.ensures.value (listed tree c.args.dir) list).0 ∙ ap (λ n. place_called n (listed tree c.args.dir)) c.items.ensures.same ∙ entry_place disk tree c.args.dir c.args.inode.now c.args.from.now stands is_dir c.requires.node there) in
    let has = subst (λ (d : List (List ℕ)). HasNode d c.args.dir c.args.inode.now) (sym c.dir_look.ensures.kept) c.requires.node in
    let relists = subst (λ (d : List (List ℕ)). Relists c.args.dir d c.args.inode.now (λ entries. slice_set entries c.in-Some.found.place (entry_for c.args.node c.copy.result)) after c.args.inode.now) c.dir_look.ensures.kept (c.dir_rename.ensures.puts c.args.dir has) in
    subst (λ (n : List ℕ). StandsFor after (with_entries tree c.args.dir (entry_renamed c.args.from.now n c.args.node))) c.copy.ensures
    (renamed_in_tree disk after tree c.args.dir c.args.node c.in-Some.found.place c.args.inode.now c.args.inode.now c.args.from.now c.copy.result stands is_dir c.requires.node at relists)

pub returns-clause-node : goal.returns-clause-node
returns-clause-node g c =
    let has = subst (λ (d : List (List ℕ)). HasNode d c.args.dir c.args.inode.now) (sym c.dir_look.ensures.kept) c.requires.node in
    (c.dir_rename.ensures.puts c.args.dir has).has

pub returns-clause-changes : goal.returns-clause-changes
returns-clause-changes g c =
    let after : List (List ℕ) = g.B.Blocks.blocks c.dir_rename.new.b in
    let has = subst (λ (d : List (List ℕ)). HasNode d c.args.dir c.args.inode.now) (sym c.dir_look.ensures.kept) c.requires.node in
    subst (λ (d : List (List ℕ)). ChangesNode d after c.args.dir) c.dir_look.ensures.kept (c.dir_rename.ensures.puts c.args.dir has).changes

pub returns-clause-takes_none : goal.returns-clause-takes_none
returns-clause-takes_none g c =
    let after : List (List ℕ) = g.B.Blocks.blocks c.dir_rename.new.b in
    subst (λ (d : List (List ℕ)). TakesNone d after) c.dir_look.ensures.kept c.dir_rename.ensures.takes_none

pub returns-clause-frees_none : goal.returns-clause-frees_none
returns-clause-frees_none g c =
    let after : List (List ℕ) = g.B.Blocks.blocks c.dir_rename.new.b in
    subst (λ (d : List (List ℕ)). FreesNone d after) c.dir_look.ensures.kept c.dir_rename.ensures.frees_none
