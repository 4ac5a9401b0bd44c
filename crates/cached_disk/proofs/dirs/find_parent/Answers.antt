use Rattle.std.proofs.Common.{◌≡◌, ℕ, List, sym, subst}
use Rattle.posix_defs.specs.SoundDisk.{HasNode}
use Rattle.memfs_node.proofs.Looking.{same_directory}
use Rattle.cached_disk.specs.TreeLent.{tree_parts}
use Rattle.cached_disk.specs.TreeGoing.{TreeGoesOn-trans}
use Rattle.cached_disk.proofs.BlocksStep.{blocks_go_on, blocks_all_lent, blocks_stand}
use Rattle.cached_disk.proofs.dirs.find_parent.Goals as goal

pub parent_through-requires-clause-stands : goal.parent_through-requires-clause-stands
parent_through-requires-clause-stands c =
    let i = c.find_inode-inode in
    let s = c.requires.stands in
    let bytes = (i.ensures.goes_on s.0).bytes in
    (s.1, c.args.dir, (i.ensures.stands s.0 s.1 s.2).behind, s.3, subst (λ (d : List (List ℕ)). HasNode d c.args.dir i.result) (sym bytes) i.ensures.has)

pub returns-clause-value : goal.returns-clause-value
returns-clause-value c = λ names tree stands.
    let i = c.find_inode-inode in
    let s = c.requires.stands in
    let bytes = (i.ensures.goes_on names).bytes in
    let is = same_directory c.args.disk.now.blocks s.1 tree c.args.dir s.2.behind stands.behind s.3 in
    c.parent_through.ensures.value tree c.args.dir (i.ensures.stands names tree stands).behind is (subst (λ (d : List (List ℕ)). HasNode d c.args.dir i.result) (sym bytes) i.ensures.has)

pub returns-clause-lent : goal.returns-clause-lent
returns-clause-lent c = λ names all.
    let i = c.find_inode-inode in let t = c.parent_through in
    blocks_all_lent i.new.heap t.new.heap i.new.purse t.new.purse names i.new.vnodes i.new.blocks t.new.cache i.new.disk t.new.disk t.ensures.goes_on t.ensures.kept t.ensures.lent (i.ensures.lent names all)

pub returns-clause-stands : goal.returns-clause-stands
returns-clause-stands c = λ names tree stands.
    let i = c.find_inode-inode in let t = c.parent_through in
    blocks_stand i.new.heap t.new.heap i.new.purse t.new.purse names i.new.vnodes i.new.blocks t.new.cache i.new.disk t.new.disk t.ensures.goes_on t.ensures.kept tree (i.ensures.stands names tree stands)

pub returns-clause-goes_on : goal.returns-clause-goes_on
returns-clause-goes_on c = λ names.
    let i = c.find_inode-inode in let t = c.parent_through in
    TreeGoesOn-trans (tree_parts c.args.heap.now c.args.purse.now names c.args.vnodes.now c.args.blocks.now c.args.disk.now) (tree_parts i.new.heap i.new.purse names i.new.vnodes i.new.blocks i.new.disk) (tree_parts t.new.heap t.new.purse names i.new.vnodes t.new.cache t.new.disk)
    (i.ensures.goes_on names) (blocks_go_on i.new.heap t.new.heap i.new.purse t.new.purse names i.new.vnodes i.new.blocks t.new.cache i.new.disk t.new.disk t.ensures.goes_on t.ensures.kept)
