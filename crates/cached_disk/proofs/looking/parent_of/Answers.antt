use Rattle.std.proofs.Common.{◌≡◌, ℕ, List}
use Rattle.memfs_dir.proofs.InTree.{listed}
use Rattle.memfs_node.proofs.Looking.{known_of, has_two}
use Rattle.cached_disk.proofs.looking.parent_of.Goals as goal

pub dir_node-requires-clause-node : goal.dir_node-requires-clause-node
dir_node-requires-clause-node g c = (c.requires.1, c.requires.4)

pub dir_node-requires-clause-entries : goal.dir_node-requires-clause-entries
dir_node-requires-clause-entries g c =
    let disk : List (List ℕ) = g.B.Blocks.blocks c.args.b.now in
    (listed c.requires.0 c.requires.1, (known_of disk c.requires.0 c.requires.1 c.args.dir.now c.requires.2 c.requires.3 c.requires.4).list)

pub dir_node-requires-clause-within : goal.dir_node-requires-clause-within
dir_node-requires-clause-within g c =
    let disk : List (List ℕ) = g.B.Blocks.blocks c.args.b.now in
    has_two disk c.requires.0 c.requires.1 c.args.dir.now (known_of disk c.requires.0 c.requires.1 c.args.dir.now c.requires.2 c.requires.3 c.requires.4)

pub returns-clause-value : goal.returns-clause-value
returns-clause-value g c = λ tree number stands is has.
    let disk : List (List ℕ) = g.B.Blocks.blocks c.args.b.now in
    c.dir_node.ensures.value (listed tree number) (known_of disk tree number c.args.dir.now stands is has).list
