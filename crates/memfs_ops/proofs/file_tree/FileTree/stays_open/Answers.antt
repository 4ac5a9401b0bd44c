use Rattle.std.proofs.Common.{not, ◌||◌, IsSome, sym, subst}
use Rattle.vnode_cache.specs.Nodes.{node_slot}
use Rattle.memfs_ops.specs.FileTree.{TreeView, Stands}
use Rattle.memfs_ops.specs.declared.file_tree.FileTree.TheInside.{Inside}
use Rattle.posix_defs.specs.PathCalls as calls
use Rattle.posix_defs.specs.Tree.{Tree, IsInodeAt, is_directory}
use Rattle.disk_laws.proofs.DiskNodes.{one_tree}
use Rattle.memfs_ops.proofs.ForgetLemmas.{cached_count}
use Rattle.memfs_ops.proofs.RemoveLemmas.{held_some, held_none}
use Rattle.memfs_ops.proofs.file_tree.FileTree.stays_open.Goals as goal

abbrev view : Inside → TreeView
view fs = record { names = fs.names; vnodes = fs.vnodes; blocks = fs.blocks; disk = fs.disk }

pub pins-requires-clause-keeps : goal.pins-requires-clause-keeps
pins-requires-clause-keeps c =
    let r = c.requires.stands in
    (subst (λ (v : TreeView). Stands c.args.heap.now v r.0 r.1) (sym c.self.view_is) r.2).nodes

pub pins-requires-clause-there : goal.pins-requires-clause-there
pins-requires-clause-there c = subst (λ (v : TreeView). IsSome (node_slot v.vnodes c.args.node)) (sym c.self.view_is) c.requires.there

pub returns-then-pins-ne0 : goal.returns-then-pins-ne0
returns-then-pins-ne0 c = λ tree pins stands.
    let r = c.requires.stands in
    let there = subst (λ (v : TreeView). IsSome (node_slot v.vnodes c.args.node)) (sym c.self.view_is) c.requires.there in
    let mine = subst (λ (v : TreeView). Stands c.args.heap.now v r.0 r.1) (sym c.self.view_is) r.2 in
    let count = cached_count pins c.args.heap.now.vnodes c.self.inside.vnodes c.args.node c.pins.result mine.nodes stands.held there c.pins.ensures in
    let shows = subst (λ (t : Tree). IsInodeAt t c.args.node c.args.inode.now) (one_tree c.args.self.now.disk.blocks r.0 tree r.2.behind stands.behind) r.3 in
    held_some c.pins.result (pins c.args.node) (not (is_directory tree c.args.node || calls.is_socket tree c.args.node)) c.is_kept_open.result count c.if-pins-ne0.true (c.is_kept_open.ensures tree c.args.node shows)

pub returns-else-pins-ne0 : goal.returns-else-pins-ne0
returns-else-pins-ne0 c = λ tree pins stands.
    let r = c.requires.stands in
    let there = subst (λ (v : TreeView). IsSome (node_slot v.vnodes c.args.node)) (sym c.self.view_is) c.requires.there in
    let mine = subst (λ (v : TreeView). Stands c.args.heap.now v r.0 r.1) (sym c.self.view_is) r.2 in
    let count = cached_count pins c.args.heap.now.vnodes c.self.inside.vnodes c.args.node c.pins.result mine.nodes stands.held there c.pins.ensures in
    held_none c.pins.result (pins c.args.node) (not (is_directory tree c.args.node || calls.is_socket tree c.args.node)) count c.if-pins-ne0.false
