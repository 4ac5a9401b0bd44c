use Rattle.std.proofs.Common.{◌≡◌, ℕ, List, sym, subst}
use Rattle.kabi_types.specs.declared.inodes.DirEntry.{DirEntry}
use Rattle.posix_defs.specs.SoundDisk.{HasNode}
use Rattle.posix_defs.specs.DiskContents.{HasEntries}
use Rattle.memfs_dir.specs.Listed.{PutsEntry}
use Rattle.memfs_dir.proofs.Resized.{removed, takes_none}
use Rattle.memfs_dir.proofs.removing.dir_remove.Goals as goal

pub returns-clause-removes : goal.returns-clause-removes
returns-clause-removes g c =
    let before : List (List ℕ) = g.B.Blocks.blocks c.args.b.now in
    let between : List (List ℕ) = g.B.Blocks.blocks c.fill_place-node.new.b in
    let dir = c.args.dir.now in
    let last : DirEntry = c.dir_entry-last.result in
    let same : g.B.Blocks.blocks c.dir_entry-last.new.b ≡ before = c.dir_entry-last.ensures.kept in
    let node : HasNode (g.B.Blocks.blocks c.dir_entry-last.new.b) c.args.number dir = subst (λ (d : List (List ℕ)). HasNode d c.args.number dir) (sym same) c.requires.node in
    let put : PutsEntry c.args.number before dir c.args.place last between =
    subst (λ (d : List (List ℕ)). PutsEntry c.args.number d dir c.args.place last between) same (c.fill_place-node.ensures.puts c.args.number node) in
    removed c.args.number before between (g.B.Blocks.blocks c.shrink.new.b) dir c.shrink.new.inode c.args.place last c.requires.node c.requires.within c.dir_entry-last.ensures.valid c.dir_entry-last.ensures.value put c.shrink.ensures.resizes

pub returns-clause-answer : goal.returns-clause-answer
returns-clause-answer g c = λ entries has.
    let before : List (List ℕ) = g.B.Blocks.blocks c.args.b.now in
    let dir = c.args.dir.now in
    let same : g.B.Blocks.blocks c.dir_entry-last.new.b ≡ before = c.dir_entry-last.ensures.kept in
    c.fill_place-node.ensures.was entries (subst (λ (d : List (List ℕ)). HasEntries d dir entries) (sym same) has)

pub returns-clause-follows : goal.returns-clause-follows
returns-clause-follows g c =
    let trans = g.met.B.Blocks.follows_trans in
    trans c.args.b.now c.fill_place-node.new.b c.shrink.new.b (trans c.args.b.now c.dir_entry-last.new.b c.fill_place-node.new.b c.dir_entry-last.ensures.follows c.fill_place-node.ensures.follows) c.shrink.ensures.follows

pub returns-clause-takes_none : goal.returns-clause-takes_none
returns-clause-takes_none g c =
    let before : List (List ℕ) = g.B.Blocks.blocks c.args.b.now in
    let between : List (List ℕ) = g.B.Blocks.blocks c.fill_place-node.new.b in
    let dir = c.args.dir.now in
    let last : DirEntry = c.dir_entry-last.result in
    let same : g.B.Blocks.blocks c.dir_entry-last.new.b ≡ before = c.dir_entry-last.ensures.kept in
    let node : HasNode (g.B.Blocks.blocks c.dir_entry-last.new.b) c.args.number dir = subst (λ (d : List (List ℕ)). HasNode d c.args.number dir) (sym same) c.requires.node in
    let put : PutsEntry c.args.number before dir c.args.place last between =
    subst (λ (d : List (List ℕ)). PutsEntry c.args.number d dir c.args.place last between) same (c.fill_place-node.ensures.puts c.args.number node) in
    takes_none c.args.number before between (g.B.Blocks.blocks c.shrink.new.b) dir c.args.place last put c.shrink.ensures.takes_none
