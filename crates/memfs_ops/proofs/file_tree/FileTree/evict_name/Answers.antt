use Rattle.std.proofs.Common.{refl, sym, subst}
use Rattle.kabi_types.specs.declared.entries.Cached.TheVariants as cached
use Rattle.memfs_ops.specs.FileTree.{TreeView, Stands}
use Rattle.memfs_ops.specs.Evicting.{HasGone}
use Rattle.memfs_ops.specs.declared.file_tree.FileTree.TheInside.{Inside}
use Rattle.memfs_ops.proofs.EvictLemmas.{name_gone, without_name}
use Rattle.memfs_ops.proofs.file_tree.FileTree.evict_name.Goals as goal

abbrev view : Inside → TreeView
view fs = record { names = fs.names; vnodes = fs.vnodes; blocks = fs.blocks; disk = fs.disk }

pub returns-clause-stands : goal.returns-clause-stands
returns-clause-stands c = λ tree pins stands.
    let t = c.evict_coldest-slot in
    let s = subst (λ (v : TreeView). Stands c.args.heap.now v tree pins) (sym c.self.view_is) stands in
    let gone = name_gone c.args.heap.now t.new.heap c.self.inside.names t.new.self t.result s.names c.requires.may t.ensures.coldest in
    without_name c.args.heap.now t.new.heap (view c.self.inside) tree pins s gone.0 t.new.self gone.1 t.ensures.keeps

pub returns-clause-gone : goal.returns-clause-gone
returns-clause-gone c =
    let t = c.evict_coldest-slot in
    let r = c.requires.stands in
    let s = subst (λ (v : TreeView). Stands c.args.heap.now v r.0 r.1) (sym c.self.view_is) r.2 in
    let gone = name_gone c.args.heap.now t.new.heap c.self.inside.names t.new.self t.result s.names c.requires.may t.ensures.coldest in
    let new : TreeView = record (view c.self.inside) { names = t.new.self } in
    subst (λ (v : TreeView). HasGone cached.Name c.args.heap.now t.new.heap v new) c.self.view_is (gone.0, gone.1, refl)
