use Rattle.std.proofs.Common.{ℕ, ◌++◌, ◌∷◌, [], List, Result, OnOk, sym, subst, arith}
use Rattle.kabi_types.specs.declared.errnos.Errno.{Errno}
use Rattle.posix_defs.specs.DiskContents.{entry_for}
use Rattle.posix_defs.specs.DiskFormat.{IsName}
use Rattle.posix_defs.specs.DiskTree.{StandsFor}
use Rattle.posix_defs.specs.TreeChanges.{with_entries, entry_put}
use Rattle.memfs_dir.specs.Listed.{Relists}
use Rattle.memfs_dir.proofs.InTree.{listed, put_in_tree}
use Rattle.memfs_node.proofs.Looking.{known_of, same_directory}
use Rattle.memfs_node.proofs.Named.{is_done}
use Rattle.blk_map.specs.Named.{TakesLowest}
use Rattle.memfs_ops.proofs.entries.put_last.Goals as goal

pub dir_add-requires-clause-entries : goal.dir_add-requires-clause-entries
dir_add-requires-clause-entries g c =
    let disk : List (List ℕ) = g.B.Blocks.blocks c.args.b.now in
    let s = c.requires.stands in
    (listed s.0 c.args.dir, (known_of disk s.0 c.args.dir c.args.inode.now s.1 s.2 c.requires.node).list)

pub dir_add-requires-clause-entry : goal.dir_add-requires-clause-entry
dir_add-requires-clause-entry g c = record { node = (c.requires.number, omega (arith, c.ranges.node)); name = subst (λ (n : List ℕ). IsName n) (sym c.copy.ensures) c.requires.name }

pub unwrap-requires : goal.unwrap-requires
unwrap-requires g c = is_done c.dir_add.result c.dir_add.ensures.only (λ fault. c.requires.room (c.dir_add.ensures.full.0 fault))

pub returns-clause-stands : goal.returns-clause-stands
returns-clause-stands g c = λ tree stands.
    let disk : List (List ℕ) = g.B.Blocks.blocks c.args.b.now in
    let after : List (List ℕ) = g.B.Blocks.blocks c.dir_add.new.b in
    let s = c.requires.stands in
    let is_dir = same_directory disk s.0 tree c.args.dir s.1 stands s.2 in
    let Put : Result (Unit {0}) Errno → Type 0 = λ r. OnOk r (Relists c.args.dir disk c.args.inode.now (λ entries. entries ++ entry_for c.args.node c.copy.result ∷ []) after c.dir_add.new.dir) in
    let relists = subst Put c.unwrap.ensures c.dir_add.ensures.ok in
    subst (λ (n : List ℕ). StandsFor after (with_entries tree c.args.dir (entry_put n c.args.node))) c.copy.ensures
    (put_in_tree disk after tree c.args.dir c.args.node c.args.inode.now c.dir_add.new.dir c.copy.result stands is_dir c.requires.node relists)

pub returns-clause-node : goal.returns-clause-node
returns-clause-node g c =
    let disk : List (List ℕ) = g.B.Blocks.blocks c.args.b.now in
    let after : List (List ℕ) = g.B.Blocks.blocks c.dir_add.new.b in
    let Put : Result (Unit {0}) Errno → Type 0 = λ r. OnOk r (Relists c.args.dir disk c.args.inode.now (λ entries. entries ++ entry_for c.args.node c.copy.result ∷ []) after c.dir_add.new.dir) in
    let relists = subst Put c.unwrap.ensures c.dir_add.ensures.ok in
    relists.has

pub returns-clause-changes : goal.returns-clause-changes
returns-clause-changes g c =
    let disk : List (List ℕ) = g.B.Blocks.blocks c.args.b.now in
    let after : List (List ℕ) = g.B.Blocks.blocks c.dir_add.new.b in
    let Put : Result (Unit {0}) Errno → Type 0 = λ r. OnOk r (Relists c.args.dir disk c.args.inode.now (λ entries. entries ++ entry_for c.args.node c.copy.result ∷ []) after c.dir_add.new.dir) in
    let relists = subst Put c.unwrap.ensures c.dir_add.ensures.ok in
    relists.changes

pub returns-clause-lowest : goal.returns-clause-lowest
returns-clause-lowest g c =
    let disk : List (List ℕ) = g.B.Blocks.blocks c.args.b.now in
    let after : List (List ℕ) = g.B.Blocks.blocks c.dir_add.new.b in
    let Taken : Result (Unit {0}) Errno → Type 0 = λ r. OnOk r (TakesLowest disk after) in
    subst Taken c.unwrap.ensures c.dir_add.ensures.lowest
