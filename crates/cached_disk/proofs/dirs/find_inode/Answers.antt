use Rattle.std.proofs.Common.{sym, ◌∙◌, subst}
use Rattle.posix_defs.specs.SoundDisk.{HasNode}
use Rattle.vnode_cache.specs.Nodes.{Nodes}
use Rattle.vnode_cache.proofs.TrueLemmas.{read_true}
use Rattle.cached_disk.specs.TreeLent.{tree_parts, AllLent, StandsThrough, TreeGoesOn, NodeAsked}
use Rattle.cached_disk.proofs.NodesStep.{node_absent}
use Rattle.cached_disk.proofs.Asking.{same_nodes}
use Rattle.cached_disk.proofs.dirs.find_inode.Goals as goal

pub read_inode-requires-clause-lent : goal.read_inode-requires-clause-lent
read_inode-requires-clause-lent c =
    let h = c.args.heap.now in let p = c.args.purse.now in let v = c.args.vnodes.now in let b = c.args.blocks.now in let d = c.args.disk.now in
    let l = c.requires.lent in
    let same = same_nodes h p v c.get.new.self d c.args.number l.1.of_nodes (sym c.in-None.ensures.value) c.get.ensures.used in
    (l.0, subst (λ (n : Nodes). AllLent h p l.0 n b d) (sym same) l.1)

pub read_inode-requires-clause-stands : goal.read_inode-requires-clause-stands
read_inode-requires-clause-stands c =
    let h = c.args.heap.now in let p = c.args.purse.now in let v = c.args.vnodes.now in let b = c.args.blocks.now in let d = c.args.disk.now in
    let s = c.requires.stands in
    let same = same_nodes h p v c.get.new.self d c.args.number c.requires.lent.1.of_nodes (sym c.in-None.ensures.value) c.get.ensures.used in
    (s.0, s.1, subst (λ (n : Nodes). StandsThrough (tree_parts h p s.0 n b d) s.1) (sym same) s.2, s.3)

pub read_inode-requires-clause-absent : goal.read_inode-requires-clause-absent
read_inode-requires-clause-absent c = c.get.ensures.same c.args.number ∙ node_absent c.args.heap.now c.args.purse.now c.args.vnodes.now c.args.disk.now c.args.number c.requires.lent.1.of_nodes (sym c.in-None.ensures.value)

pub returns-in-Some-clause-has : goal.returns-in-Some-clause-has
returns-in-Some-clause-has c =
    read_true (HasNode c.args.disk.now.blocks) c.args.heap.now.vnodes c.args.vnodes.now c.args.number c.in-Some.inode c.requires.stands.2.nodes c.requires.lent.1.of_nodes.keeps (sym c.in-Some.ensures.value)

pub returns-in-None-clause-lent : goal.returns-in-None-clause-lent
returns-in-None-clause-lent c = λ names all.
    let h = c.args.heap.now in let p = c.args.purse.now in let v = c.args.vnodes.now in let b = c.args.blocks.now in let d = c.args.disk.now in
    let same = same_nodes h p v c.get.new.self d c.args.number c.requires.lent.1.of_nodes (sym c.in-None.ensures.value) c.get.ensures.used in
    c.read_inode.ensures.lent names (subst (λ (n : Nodes). AllLent h p names n b d) (sym same) all)

pub returns-in-None-clause-stands : goal.returns-in-None-clause-stands
returns-in-None-clause-stands c = λ names tree stands.
    let h = c.args.heap.now in let p = c.args.purse.now in let v = c.args.vnodes.now in let b = c.args.blocks.now in let d = c.args.disk.now in
    let same = same_nodes h p v c.get.new.self d c.args.number c.requires.lent.1.of_nodes (sym c.in-None.ensures.value) c.get.ensures.used in
    c.read_inode.ensures.stands names tree (subst (λ (n : Nodes). StandsThrough (tree_parts h p names n b d) tree) (sym same) stands)

pub returns-in-None-clause-goes_on : goal.returns-in-None-clause-goes_on
returns-in-None-clause-goes_on c = λ names.
    let h = c.args.heap.now in let p = c.args.purse.now in let v = c.args.vnodes.now in let b = c.args.blocks.now in let d = c.args.disk.now in
    let same = same_nodes h p v c.get.new.self d c.args.number c.requires.lent.1.of_nodes (sym c.in-None.ensures.value) c.get.ensures.used in
    let new = tree_parts c.read_inode.new.heap c.read_inode.new.purse names c.read_inode.new.vnodes c.read_inode.new.blocks c.read_inode.new.disk in
    subst (λ (n : Nodes). TreeGoesOn (tree_parts h p names n b d) new) same (c.read_inode.ensures.goes_on names)

pub returns-in-None-clause-asked : goal.returns-in-None-clause-asked
returns-in-None-clause-asked c = λ names.
    let h = c.args.heap.now in let p = c.args.purse.now in let v = c.args.vnodes.now in let b = c.args.blocks.now in let d = c.args.disk.now in
    let same = same_nodes h p v c.get.new.self d c.args.number c.requires.lent.1.of_nodes (sym c.in-None.ensures.value) c.get.ensures.used in
    let new = tree_parts c.read_inode.new.heap c.read_inode.new.purse names c.read_inode.new.vnodes c.read_inode.new.blocks c.read_inode.new.disk in
    subst (λ (n : Nodes). NodeAsked c.args.number (tree_parts h p names n b d) new) same (c.read_inode.ensures.asked names)
