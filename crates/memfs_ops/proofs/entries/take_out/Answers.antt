use Rattle.std.proofs.Common.{◌≡◌, ℕ, ◌+◌, List, Option, Some, None, sym, ap, ◌∙◌, subst}
use Rattle.std.specs.List.{swap_remove}
use Rattle.posix_defs.specs.DiskContents.{HasEntries}
use Rattle.posix_defs.specs.DiskTree.{ChangesNode}
use Rattle.posix_defs.specs.SoundDisk.{HasNode}
use Rattle.posix_defs.specs.Tree.{Tree, entries_at}
use Rattle.posix_defs.specs.TreeChanges.{place_of, no_entry}
use Rattle.blk_map.specs.Named.{TakesNone}
use Rattle.memfs_dir.specs.Listed.{Relists, place_called}
use Rattle.memfs_dir.proofs.InTree.{listed, taken_from_tree}
use Rattle.memfs_node.proofs.Looking.{known_of, same_directory}
use Rattle.disk_laws.proofs.DiskNodes.{one_tree}
use Rattle.memfs_ops.specs.Entries.{HasEntry}
use Rattle.memfs_ops.proofs.StepLemmas.{entry_place}
use Rattle.memfs_ops.proofs.entries.take_out.Goals as goal

none_there : {n : ℕ} → ◌≡◌ {A = Option ℕ} None (Some n) → ⊥
none_there e = cc

same_place : (a b : ℕ) → ◌≡◌ {A = Option ℕ} (Some a) (Some b) → a ≡ b
same_place a b e = cc

pub dir_look-requires-clause-node : goal.dir_look-requires-clause-node
dir_look-requires-clause-node g c = (c.args.dir, c.requires.node)

pub dir_look-requires-clause-entries : goal.dir_look-requires-clause-entries
dir_look-requires-clause-entries g c =
    let disk : List (List ℕ) = g.B.Blocks.blocks c.args.b.now in
    let s = c.requires.stands in
    (listed s.0 c.args.dir, (known_of disk s.0 c.args.dir c.args.inode.now s.1 s.2 c.requires.node).list)

pub unreachable-requires : goal.unreachable-requires
unreachable-requires g c =
    let disk : List (List ℕ) = g.B.Blocks.blocks c.args.b.now in
    let s = c.requires.stands in
    let list = (known_of disk s.0 c.args.dir c.args.inode.now s.1 s.2 c.requires.node).list in
    let there = entry_place disk s.0 c.args.dir c.args.inode.now c.args.name.now s.1 s.2 c.requires.node s.3 in
    absurd (none_there ((c.in_default.ensures.value (listed s.0 c.args.dir) list).0 ∙ ap (λ n. place_called n (listed s.0 c.args.dir)) c.items.ensures.same ∙ there))

pub dir_remove-node-requires-clause-node : goal.dir_remove-node-requires-clause-node
dir_remove-node-requires-clause-node g c = subst (λ (d : List (List ℕ)). HasNode d c.args.dir c.args.inode.now) (sym c.dir_look.ensures.kept) c.requires.node

pub dir_remove-node-requires-clause-entries : goal.dir_remove-node-requires-clause-entries
dir_remove-node-requires-clause-entries g c =
    let disk : List (List ℕ) = g.B.Blocks.blocks c.args.b.now in
    let s = c.requires.stands in
    (listed s.0 c.args.dir, subst (λ (d : List (List ℕ)). HasEntries d c.args.inode.now (listed s.0 c.args.dir)) (sym c.dir_look.ensures.kept) (known_of disk s.0 c.args.dir c.args.inode.now s.1 s.2 c.requires.node).list)

pub returns-clause-stands : goal.returns-clause-stands
returns-clause-stands g c = λ tree stands.
    let disk : List (List ℕ) = g.B.Blocks.blocks c.args.b.now in
    let after : List (List ℕ) = g.B.Blocks.blocks c.dir_remove-node.new.b in
    let s = c.requires.stands in
    let is_dir = same_directory disk s.0 tree c.args.dir s.1 stands s.2 in
    let there = subst (λ (t : Tree). HasEntry t c.args.dir c.args.name.now) (one_tree disk s.0 tree s.1 stands) s.3 in
    let list = (known_of disk tree c.args.dir c.args.inode.now stands is_dir c.requires.node).list in
    let at = same_place c.in-Some.found.place (place_of c.args.name.now (entries_at tree c.args.dir) + 2) ((c.in-Some.ensures.value (listed tree c.args.dir) list).0 ∙ ap (λ n. place_called n (listed tree c.args.dir)) c.items.ensures.same ∙ entry_place disk tree c.args.dir c.args.inode.now c.args.name.now stands is_dir c.requires.node there) in
    let relists = subst (λ (d : List (List ℕ)). Relists c.args.dir d c.args.inode.now (λ entries. swap_remove entries c.in-Some.found.place no_entry) after c.dir_remove-node.new.dir) c.dir_look.ensures.kept c.dir_remove-node.ensures.removes in
    taken_from_tree disk after tree c.args.dir there.node c.in-Some.found.place c.args.inode.now c.dir_remove-node.new.dir c.args.name.now stands is_dir c.requires.node there.there at relists

pub returns-clause-node : goal.returns-clause-node
returns-clause-node g c = c.dir_remove-node.ensures.removes.has

pub returns-clause-changes : goal.returns-clause-changes
returns-clause-changes g c =
    let after : List (List ℕ) = g.B.Blocks.blocks c.dir_remove-node.new.b in
    subst (λ (d : List (List ℕ)). ChangesNode d after c.args.dir) c.dir_look.ensures.kept c.dir_remove-node.ensures.removes.changes

pub returns-clause-takes_none : goal.returns-clause-takes_none
returns-clause-takes_none g c =
    let after : List (List ℕ) = g.B.Blocks.blocks c.dir_remove-node.new.b in
    subst (λ (d : List (List ℕ)). TakesNone d after) c.dir_look.ensures.kept c.dir_remove-node.ensures.takes_none
