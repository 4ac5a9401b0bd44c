use Rattle.std.proofs.Common.{◌-◌, ◌∙◌, eqb, sym, ap, subst, arith}
use Rattle.kheap_slabs.specs.declared.objects.Vnode.{Vnode}
use Rattle.memfs_ops.specs.FileTree.{TreeView, Stands}
use Rattle.memfs_ops.specs.declared.file_tree.FileTree.TheInside.{Inside}
use Rattle.memfs_ops.proofs.PinLemmas.{held_cached}
use Rattle.memfs_ops.proofs.ForgetLemmas.{cached_count}
use Rattle.memfs_ops.proofs.CloseLemmas.{only_set, used_set, less_root, stands_unpinned}
use Rattle.memfs_ops.proofs.file_tree.FileTree.release.Goals as goal

abbrev view : Inside → TreeView
view fs = record { names = fs.names; vnodes = fs.vnodes; blocks = fs.blocks; disk = fs.disk }

pub pins-pins-requires-clause-keeps : goal.pins-pins-requires-clause-keeps
pins-pins-requires-clause-keeps c =
    let r = c.requires.stands in
    (subst (λ (v : TreeView). Stands c.args.heap.now v r.0 r.1) (sym c.self.view_is) r.2).nodes

pub pins-pins-requires-clause-there : goal.pins-pins-requires-clause-there
pins-pins-requires-clause-there c =
    let r = c.requires.stands in
    let s = subst (λ (v : TreeView). Stands c.args.heap.now v r.0 r.1) (sym c.self.view_is) r.2 in
    held_cached r.1 c.args.heap.now.vnodes c.self.inside.vnodes c.args.node s.nodes s.held r.3

pub unpin-requires-clause-keeps : goal.unpin-requires-clause-keeps
unpin-requires-clause-keeps c =
    let r = c.requires.stands in
    (subst (λ (v : TreeView). Stands c.args.heap.now v r.0 r.1) (sym c.self.view_is) r.2).nodes

pub unpin-requires-clause-there : goal.unpin-requires-clause-there
unpin-requires-clause-there c =
    let r = c.requires.stands in
    let s = subst (λ (v : TreeView). Stands c.args.heap.now v r.0 r.1) (sym c.self.view_is) r.2 in
    held_cached r.1 c.args.heap.now.vnodes c.self.inside.vnodes c.args.node s.nodes s.held r.3

pub unpin-requires-clause-pinned : goal.unpin-requires-clause-pinned
unpin-requires-clause-pinned c = λ count cached.
    let r = c.requires.stands in
    let s = subst (λ (v : TreeView). Stands c.args.heap.now v r.0 r.1) (sym c.self.view_is) r.2 in
    let some = held_cached r.1 c.args.heap.now.vnodes c.self.inside.vnodes c.args.node s.nodes s.held r.3 in
    let same = cached_count r.1 c.args.heap.now.vnodes c.self.inside.vnodes c.args.node count s.nodes s.held some cached in
    omega (arith, same, r.3)

pub returns-clause-last : goal.returns-clause-last
returns-clause-last c = λ tree pins stands.
    let r = c.requires.stands in
    let mine = subst (λ (v : TreeView). Stands c.args.heap.now v r.0 r.1) (sym c.self.view_is) r.2 in
    let some = held_cached r.1 c.args.heap.now.vnodes c.self.inside.vnodes c.args.node mine.nodes mine.held r.3 in
    ap (λ n. eqb n 1) (cached_count pins c.args.heap.now.vnodes c.self.inside.vnodes c.args.node c.pins-pins.result mine.nodes stands.held some c.pins-pins.ensures)

pub returns-clause-stands : goal.returns-clause-stands
returns-clause-stands c = λ tree pins stands.
    let r = c.requires.stands in
    let u = c.unpin in
    let mine = subst (λ (v : TreeView). Stands c.args.heap.now v r.0 r.1) (sym c.self.view_is) r.2 in
    let s = subst (λ (v : TreeView). Stands c.args.heap.now v tree pins) (sym c.self.view_is) stands in
    let some = held_cached r.1 c.args.heap.now.vnodes c.self.inside.vnodes c.args.node mine.nodes mine.held r.3 in
    let stays = less_root r.1 pins c.args.heap.now.vnodes c.args.node mine.held s.held mine.root r.4 in
    stands_unpinned c.args.heap.now u.new.heap (view c.self.inside) u.new.self tree pins c.args.node s stays some u.ensures.stored u.ensures.keeps u.ensures.same

pub returns-clause-only : goal.returns-clause-only
returns-clause-only c =
    let r = c.requires.stands in
    let s = subst (λ (v : TreeView). Stands c.args.heap.now v r.0 r.1) (sym c.self.view_is) r.2 in
    let some = held_cached r.1 c.args.heap.now.vnodes c.self.inside.vnodes c.args.node s.nodes s.held r.3 in
    only_set (λ (was : Vnode). record was { pins = was.pins - 1 }) c.args.heap.now c.unpin.new.heap c.self.inside.vnodes c.unpin.new.self c.args.node s.nodes some c.unpin.ensures.stored

pub returns-clause-used : goal.returns-clause-used
returns-clause-used c =
    let r = c.requires.stands in
    let s = subst (λ (v : TreeView). Stands c.args.heap.now v r.0 r.1) (sym c.self.view_is) r.2 in
    let some = held_cached r.1 c.args.heap.now.vnodes c.self.inside.vnodes c.args.node s.nodes s.held r.3 in
    used_set (λ (was : Vnode). record was { pins = was.pins - 1 }) c.args.heap.now c.unpin.new.heap c.self.inside.vnodes c.unpin.new.self c.args.node s.nodes some c.unpin.ensures.stored

pub returns-clause-rest : goal.returns-clause-rest
returns-clause-rest c = ap (λ (v : TreeView). record v { vnodes = c.unpin.new.self }) c.self.view_is

pub returns-clause-same : goal.returns-clause-same
returns-clause-same c = c.unpin.ensures.same ∙ ap (λ (v : TreeView). v.vnodes.order) c.self.view_is
