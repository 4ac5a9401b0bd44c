use Rattle.std.proofs.Common.{ap, sym, subst}
use Rattle.posix_defs.specs.SoundDisk.{HasNode}
use Rattle.cached_disk.specs.Lent.{parts, GoesOn}
use Rattle.memfs_ops.specs.FileTree.{TreeView, Stands}
use Rattle.memfs_ops.specs.declared.file_tree.FileTree.TheInside.{Inside}
use Rattle.memfs_ops.proofs.FetchLemmas.{block_lent, still_may_fetch}
use Rattle.memfs_ops.proofs.CloseLemmas.{freed_lags}
use Rattle.memfs_ops.proofs.file_tree.FileTree.free_in.Goals as goal

abbrev view : Inside → TreeView
view fs = record { names = fs.names; vnodes = fs.vnodes; blocks = fs.blocks; disk = fs.disk }

pub free_through-requires-clause-lent : goal.free_through-requires-clause-lent
free_through-requires-clause-lent c =
    let r = c.requires.stands in
    block_lent c.args.heap.now c.args.purse.now (view c.self.inside) r.0 r.1 (subst (λ (v : TreeView). Stands c.args.heap.now v r.0 r.1) (sym c.self.view_is) r.2) c.requires.may

pub free_through-requires-clause-sound : goal.free_through-requires-clause-sound
free_through-requires-clause-sound c =
    let r = c.requires.stands in
    (subst (λ (v : TreeView). Stands c.args.heap.now v r.0 r.1) (sym c.self.view_is) r.2).behind.sound

pub free_through-requires-clause-node : goal.free_through-requires-clause-node
free_through-requires-clause-node c = subst (λ (v : TreeView). HasNode v.disk.blocks c.args.node c.args.inode.now) (sym c.self.view_is) c.requires.node

pub returns-clause-lags : goal.returns-clause-lags
returns-clause-lags c = λ tree pins stands.
    let t = c.free_through in
    let s = subst (λ (v : TreeView). Stands c.args.heap.now v tree pins) (sym c.self.view_is) stands in
    let has = subst (λ (v : TreeView). HasNode v.disk.blocks c.args.node c.args.inode.now) (sym c.self.view_is) c.requires.node in
    freed_lags c.args.heap.now t.new.heap c.args.purse.now t.new.purse (view c.self.inside) t.new.cache t.new.disk t.ensures.goes_on t.ensures.lent tree pins c.args.node c.args.inode.now s has c.requires.links t.ensures.frees

pub returns-clause-goes_on : goal.returns-clause-goes_on
returns-clause-goes_on c =
    let t = c.free_through in
    subst (λ (v : TreeView). GoesOn (parts c.args.heap.now c.args.purse.now v.blocks v.disk) (parts t.new.heap t.new.purse t.new.cache t.new.disk)) c.self.view_is t.ensures.goes_on

pub returns-clause-may : goal.returns-clause-may
returns-clause-may c =
    let t = c.free_through in
    still_may_fetch c.args.heap.now t.new.heap c.args.purse.now t.new.purse (view c.self.inside) t.new.cache t.new.disk t.ensures.goes_on t.ensures.lent c.requires.may

pub returns-clause-rest : goal.returns-clause-rest
returns-clause-rest c =
    let t = c.free_through in
    ap (λ (v : TreeView). record v { blocks = t.new.cache; disk = t.new.disk }) c.self.view_is
