use Rattle.std.proofs.Common.{◌≡◌, ℕ, ◌<◌, List, Some, length, get_or, sym, ap, ◌∙◌}
use Rattle.std.proofs.lemmas.Option.{slice_get-get_or}
use Rattle.kabi_types.specs.declared.inodes.DirEntry.{DirEntry}
use Rattle.posix_defs.specs.TreeChanges.{no_entry}
use Rattle.memfs_dir.proofs.DirectoryBytes.{place_within}
use Rattle.memfs_dir.proofs.InTree.{listed, looked_up}
use Rattle.memfs_node.proofs.Looking.{Known, known_of, look_none}
use Rattle.cached_disk.proofs.looking.node_named.Goals as goal

pub dir_look-requires-clause-node : goal.dir_look-requires-clause-node
dir_look-requires-clause-node g c = (c.requires.stands.1, c.requires.stands.4)

pub dir_look-requires-clause-entries : goal.dir_look-requires-clause-entries
dir_look-requires-clause-entries g c =
    let disk : List (List ℕ) = g.B.Blocks.blocks c.args.b.now in
    let s = c.requires.stands in
    (listed s.0 s.1, (known_of disk s.0 s.1 c.args.dir.now s.2 s.3 s.4).list)

pub returns-in-Some-clause-value : goal.returns-in-Some-clause-value
returns-in-Some-clause-value g c = λ tree number stands is has.
    let disk : List (List ℕ) = g.B.Blocks.blocks c.args.b.now in
    let inode = c.args.dir.now in
    let k : Known disk tree number inode = known_of disk tree number inode stands is has in
    let entries : List DirEntry = listed tree number in
    let place : ℕ = c.in-Some.entry.place in
    let look = c.in-Some.ensures.value entries k.list in
    let lt : place < length entries = place_within disk inode entries place k.list c.in-Some.ensures.within in
    ap (λ (node : ℕ). Some node) look.1
    ∙ sym (looked_up disk tree number place inode c.args.name.now (get_or entries place no_entry) k.stands k.directory k.has c.requires.name.0 c.requires.name.1 (sym look.0) (slice_get-get_or entries place no_entry lt))

pub returns-in-None-clause-value : goal.returns-in-None-clause-value
returns-in-None-clause-value g c = λ tree number stands is has.
    let disk : List (List ℕ) = g.B.Blocks.blocks c.args.b.now in
    let k : Known disk tree number c.args.dir.now = known_of disk tree number c.args.dir.now stands is has in
    sym (look_none disk tree number c.args.dir.now k c.args.name.now c.requires.name.0 c.requires.name.1 (λ entries list. (c.in-None.ensures.value entries list).0))
