use Rattle.std.proofs.Common.{◌+◌, IsSome, sym, ap, ◌∙◌, subst}
use Rattle.vnode_cache.specs.Nodes.{node_slot}
use Rattle.vnode_cache.specs.Calls.{NodeSet}
use Rattle.memfs_ops.specs.FileTree.{TreeView, Stands}
use Rattle.memfs_ops.specs.declared.file_tree.FileTree.TheInside.{Inside}
use Rattle.memfs_ops.proofs.PinLemmas.{stands_pinned, small_pins, only_pinned}
use Rattle.memfs_ops.proofs.file_tree.FileTree.hold.Goals as goal

abbrev view : Inside → TreeView
view fs = record { names = fs.names; vnodes = fs.vnodes; blocks = fs.blocks; disk = fs.disk }

pub pin-requires-clause-keeps : goal.pin-requires-clause-keeps
pin-requires-clause-keeps c =
    let r = c.requires.stands in
    (subst (λ (v : TreeView). Stands c.args.heap.now v r.0 r.1) (sym c.self.view_is) r.2).nodes

pub pin-requires-clause-there : goal.pin-requires-clause-there
pin-requires-clause-there c = subst (λ (v : TreeView). IsSome (node_slot v.vnodes c.args.node)) (sym c.self.view_is) c.requires.there

pub pin-requires-clause-few : goal.pin-requires-clause-few
pin-requires-clause-few c = λ pins cached.
    let r = c.requires.stands in
    let s = subst (λ (v : TreeView). Stands c.args.heap.now v r.0 r.1) (sym c.self.view_is) r.2 in
    let there = subst (λ (v : TreeView). IsSome (node_slot v.vnodes c.args.node)) (sym c.self.view_is) c.requires.there in
    small_pins r.1 c.args.heap.now.vnodes c.self.inside.vnodes c.args.node pins s.nodes s.held there cached r.3

pub returns-clause-stands : goal.returns-clause-stands
returns-clause-stands c = λ tree pins stands.
    let s = subst (λ (v : TreeView). Stands c.args.heap.now v tree pins) (sym c.self.view_is) stands in
    let there = subst (λ (v : TreeView). IsSome (node_slot v.vnodes c.args.node)) (sym c.self.view_is) c.requires.there in
    stands_pinned c.args.heap.now c.pin.new.heap (view c.self.inside) c.pin.new.self tree pins c.args.node s there c.pin.ensures.stored c.pin.ensures.keeps c.pin.ensures.same

pub returns-clause-set : goal.returns-clause-set
returns-clause-set c = subst (λ (v : TreeView). NodeSet c.args.node (λ was. record was { pins = was.pins + 1 }) c.args.heap.now c.pin.new.heap v.vnodes c.pin.new.self) c.self.view_is c.pin.ensures.stored

pub returns-clause-only : goal.returns-clause-only
returns-clause-only c =
    let r = c.requires.stands in
    let s = subst (λ (v : TreeView). Stands c.args.heap.now v r.0 r.1) (sym c.self.view_is) r.2 in
    let there = subst (λ (v : TreeView). IsSome (node_slot v.vnodes c.args.node)) (sym c.self.view_is) c.requires.there in
    only_pinned c.args.heap.now c.pin.new.heap c.self.inside.vnodes c.pin.new.self c.args.node s.nodes there c.pin.ensures.stored

pub returns-clause-rest : goal.returns-clause-rest
returns-clause-rest c = ap (λ (v : TreeView). record v { vnodes = c.pin.new.self }) c.self.view_is

pub returns-clause-same : goal.returns-clause-same
returns-clause-same c = c.pin.ensures.same ∙ ap (λ (v : TreeView). v.vnodes.order) c.self.view_is
