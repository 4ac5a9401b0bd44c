use Rattle.std.proofs.Common.{◌≡◌, ℕ, List, Some, sym, subst}
use Rattle.kheap_slabs.specs.declared.objects.Name.{Name}
use Rattle.lru_index.specs.NameKeys.{name_key}
use Rattle.lru_index.specs.declared.keys.NameKey.{NameKey}
use Rattle.posix_defs.specs.SoundDisk.{HasNode}
use Rattle.posix_defs.specs.Tree.{found}
use Rattle.memfs_node.proofs.Looking.{same_directory}
use Rattle.name_cache.specs.Names.{same_key, name_of, cached_node, NameFilled}
use Rattle.cached_disk.specs.TreeLent.{tree_parts}
use Rattle.cached_disk.specs.TreeGoing.{TreeGoesOn-trans}
use Rattle.cached_disk.proofs.Absent.{some_slot_of}
use Rattle.cached_disk.proofs.BlocksStep.{blocks_go_on, blocks_all_lent, blocks_stand}
use Rattle.cached_disk.proofs.NamesStep.{name_may_fill, name_goes_on, name_all_lent, name_stands}
use Rattle.cached_disk.proofs.dirs.find_beyond.Goals as goal

pub name_through-requires-clause-stands : goal.name_through-requires-clause-stands
name_through-requires-clause-stands c =
    let i = c.find_inode-inode in
    let s = c.requires.stands in
    let bytes = (i.ensures.goes_on c.args.names.now).bytes in
    (s.0, c.args.dir, (i.ensures.stands c.args.names.now s.0 s.1).behind, s.2, subst (λ (d : List (List ℕ)). HasNode d c.args.dir i.result) (sym bytes) i.ensures.has)

pub returns-in_default-clause-value : goal.returns-in_default-clause-value
returns-in_default-clause-value c = λ tree stands.
    let i = c.find_inode-inode in
    let s = c.requires.stands in
    let bytes = (i.ensures.goes_on c.args.names.now).bytes in
    let is = same_directory c.args.disk.now.blocks s.0 tree c.args.dir s.1.behind stands.behind s.2 in
    c.in_default.ensures.value tree c.args.dir (i.ensures.stands c.args.names.now tree stands).behind is (subst (λ (d : List (List ℕ)). HasNode d c.args.dir i.result) (sym bytes) i.ensures.has)

pub returns-in_default-clause-lent : goal.returns-in_default-clause-lent
returns-in_default-clause-lent c =
    let i = c.find_inode-inode in let t = c.name_through in
    blocks_all_lent i.new.heap t.new.heap i.new.purse t.new.purse c.args.names.now i.new.vnodes i.new.blocks t.new.cache i.new.disk t.new.disk t.ensures.goes_on t.ensures.kept t.ensures.lent (i.ensures.lent c.args.names.now c.requires.lent)

pub returns-in_default-clause-stands : goal.returns-in_default-clause-stands
returns-in_default-clause-stands c = λ tree stands.
    let i = c.find_inode-inode in let t = c.name_through in
    blocks_stand i.new.heap t.new.heap i.new.purse t.new.purse c.args.names.now i.new.vnodes i.new.blocks t.new.cache i.new.disk t.new.disk t.ensures.goes_on t.ensures.kept tree (i.ensures.stands c.args.names.now tree stands)

pub returns-in_default-clause-goes_on : goal.returns-in_default-clause-goes_on
returns-in_default-clause-goes_on c =
    let i = c.find_inode-inode in let t = c.name_through in let names = c.args.names.now in
    TreeGoesOn-trans (tree_parts c.args.heap.now c.args.purse.now names c.args.vnodes.now c.args.blocks.now c.args.disk.now) (tree_parts i.new.heap i.new.purse names i.new.vnodes i.new.blocks i.new.disk) (tree_parts t.new.heap t.new.purse names i.new.vnodes t.new.cache t.new.disk)
    (i.ensures.goes_on names) (blocks_go_on i.new.heap t.new.heap i.new.purse t.new.purse names i.new.vnodes i.new.blocks t.new.cache i.new.disk t.new.disk t.ensures.goes_on t.ensures.kept)

pub fill-requires-clause-may : goal.fill-requires-clause-may
fill-requires-clause-may c =
    let i = c.find_inode-inode in let t = c.name_through in
    let all = blocks_all_lent i.new.heap t.new.heap i.new.purse t.new.purse c.args.names.now i.new.vnodes i.new.blocks t.new.cache i.new.disk t.new.disk t.ensures.goes_on t.ensures.kept t.ensures.lent (i.ensures.lent c.args.names.now c.requires.lent) in
    name_may_fill t.new.heap t.new.purse c.args.names.now all.of_blocks.pays all.of_names

pub returns-clause-value : goal.returns-clause-value
returns-clause-value c = λ tree stands.
    let i = c.find_inode-inode in
    let s = c.requires.stands in
    let bytes = (i.ensures.goes_on c.args.names.now).bytes in
    let is = same_directory c.args.disk.now.blocks s.0 tree c.args.dir s.1.behind stands.behind s.2 in
    c.in-Some.ensures.value tree c.args.dir (i.ensures.stands c.args.names.now tree stands).behind is (subst (λ (d : List (List ℕ)). HasNode d c.args.dir i.result) (sym bytes) i.ensures.has)

pub returns-clause-lent : goal.returns-clause-lent
returns-clause-lent c =
    let i = c.find_inode-inode in let t = c.name_through in let names = c.args.names.now in
    let all = blocks_all_lent i.new.heap t.new.heap i.new.purse t.new.purse names i.new.vnodes i.new.blocks t.new.cache i.new.disk t.new.disk t.ensures.goes_on t.ensures.kept t.ensures.lent (i.ensures.lent names c.requires.lent) in
    let filled = subst (λ (k : NameKey). NameFilled (name_of k c.in-Some.found) t.new.heap c.fill.new.heap t.new.purse c.fill.new.purse names c.fill.new.self) c.of_bytes.ensures c.fill.ensures.filled in
    name_all_lent c.args.dir c.args.name.now c.in-Some.found t.new.heap c.fill.new.heap t.new.purse c.fill.new.purse names c.fill.new.self i.new.vnodes t.new.cache t.new.disk filled c.fill.ensures.paid c.fill.ensures.keeps c.fill.ensures.fills all

pub returns-clause-stands : goal.returns-clause-stands
returns-clause-stands c = λ tree stands.
    let i = c.find_inode-inode in let t = c.name_through in let names = c.args.names.now in
    let s = c.requires.stands in
    let bytes = (i.ensures.goes_on names).bytes in
    let is = same_directory c.args.disk.now.blocks s.0 tree c.args.dir s.1.behind stands.behind s.2 in
    let at = c.in-Some.ensures.value tree c.args.dir (i.ensures.stands names tree stands).behind is (subst (λ (d : List (List ℕ)). HasNode d c.args.dir i.result) (sym bytes) i.ensures.has) in
    let filled = subst (λ (k : NameKey). NameFilled (name_of k c.in-Some.found) t.new.heap c.fill.new.heap t.new.purse c.fill.new.purse names c.fill.new.self) c.of_bytes.ensures c.fill.ensures.filled in
    name_stands c.args.dir c.args.name.now c.in-Some.found t.new.heap c.fill.new.heap t.new.purse c.fill.new.purse names c.fill.new.self i.new.vnodes t.new.cache t.new.disk filled c.fill.ensures.paid tree (sym at)
    (blocks_stand i.new.heap t.new.heap i.new.purse t.new.purse names i.new.vnodes i.new.blocks t.new.cache i.new.disk t.new.disk t.ensures.goes_on t.ensures.kept tree (i.ensures.stands names tree stands))

pub returns-clause-goes_on : goal.returns-clause-goes_on
returns-clause-goes_on c =
    let i = c.find_inode-inode in let t = c.name_through in let names = c.args.names.now in
    let filled = subst (λ (k : NameKey). NameFilled (name_of k c.in-Some.found) t.new.heap c.fill.new.heap t.new.purse c.fill.new.purse names c.fill.new.self) c.of_bytes.ensures c.fill.ensures.filled in
    let first = tree_parts c.args.heap.now c.args.purse.now names c.args.vnodes.now c.args.blocks.now c.args.disk.now in
    let third = tree_parts t.new.heap t.new.purse names i.new.vnodes t.new.cache t.new.disk in
    TreeGoesOn-trans first third (tree_parts c.fill.new.heap c.fill.new.purse c.fill.new.self i.new.vnodes t.new.cache t.new.disk)
    (TreeGoesOn-trans first (tree_parts i.new.heap i.new.purse names i.new.vnodes i.new.blocks i.new.disk) third
    (i.ensures.goes_on names) (blocks_go_on i.new.heap t.new.heap i.new.purse t.new.purse names i.new.vnodes i.new.blocks t.new.cache i.new.disk t.new.disk t.ensures.goes_on t.ensures.kept))
    (name_goes_on c.args.dir c.args.name.now c.in-Some.found t.new.heap c.fill.new.heap t.new.purse c.fill.new.purse names c.fill.new.self i.new.vnodes t.new.cache t.new.disk filled c.fill.ensures.paid)

pub returns-clause-kept : goal.returns-clause-kept
returns-clause-kept c =
    let cached = subst (λ (k : NameKey). cached_node c.fill.new.heap.names c.fill.new.self k ≡ Some c.in-Some.found) c.of_bytes.ensures c.fill.ensures.value in
    some_slot_of same_key (λ (n : Name). n.node) c.fill.new.heap.names c.fill.new.self (name_key c.args.dir c.args.name.now) c.in-Some.found cached
