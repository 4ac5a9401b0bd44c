use Rattle.std.proofs.Common.{refl, sym, ap, ◌∙◌, subst}
use Rattle.posix_defs.specs.SoundDisk.{HasNode}
use Rattle.posix_defs.specs.TreeChanges.{make}
use Rattle.memfs_dir.proofs.InTree.{listed}
use Rattle.memfs_node.proofs.Looking.{known_of, same_directory}
use Rattle.memfs_node.specs.NodeOnDisk.{content_of}
use Rattle.cached_disk.specs.Lent.{parts, GoesOn}
use Rattle.disk_laws.proofs.DiskNodes.{one_tree}
use Rattle.posix_defs.specs.Tree.{Tree, found}
use Rattle.memfs_ops.specs.FileTree.{TreeView, Stands}
use Rattle.memfs_ops.specs.declared.file_tree.FileTree.TheInside.{Inside}
use Rattle.memfs_ops.proofs.FetchLemmas.{block_lent, still_may_fetch}
use Rattle.memfs_ops.proofs.ChangeLemmas.{made_lags, has_parent}
use Rattle.blk_map.specs.Named.{TakesLowest}
use Rattle.memfs_ops.proofs.file_tree.FileTree.make_in.Goals as goal

abbrev view : Inside → TreeView
view fs = record { names = fs.names; vnodes = fs.vnodes; blocks = fs.blocks; disk = fs.disk }

pub make_through-requires-clause-lent : goal.make_through-requires-clause-lent
make_through-requires-clause-lent c =
    let r = c.requires.stands in
    block_lent c.args.heap.now c.args.purse.now (view c.self.inside) r.0 r.1 (subst (λ (v : TreeView). Stands c.args.heap.now v r.0 r.1) (sym c.self.view_is) r.2) c.requires.may

pub make_through-requires-clause-sound : goal.make_through-requires-clause-sound
make_through-requires-clause-sound c =
    let r = c.requires.stands in
    (subst (λ (v : TreeView). Stands c.args.heap.now v r.0 r.1) (sym c.self.view_is) r.2).behind.sound

pub make_through-requires-clause-node : goal.make_through-requires-clause-node
make_through-requires-clause-node c = subst (λ (v : TreeView). HasNode v.disk.blocks c.args.parent c.args.dir.now) (sym c.self.view_is) c.requires.node

pub make_through-requires-clause-entries : goal.make_through-requires-clause-entries
make_through-requires-clause-entries c =
    let r = c.requires.stands in
    let s = subst (λ (v : TreeView). Stands c.args.heap.now v r.0 r.1) (sym c.self.view_is) r.2 in
    let has = subst (λ (v : TreeView). HasNode v.disk.blocks c.args.parent c.args.dir.now) (sym c.self.view_is) c.requires.node in
    (listed r.0 c.args.parent, (known_of c.self.inside.disk.blocks r.0 c.args.parent c.args.dir.now s.behind r.3 has).list)

pub make_through-requires-clause-name : goal.make_through-requires-clause-name
make_through-requires-clause-name c = c.requires.name.valid

pub make_through-requires-clause-parent : goal.make_through-requires-clause-parent
make_through-requires-clause-parent c = has_parent c.args.parent c.args.new c.requires.node.0.number.0 c.requires.content

pub returns-clause-answer : goal.returns-clause-answer
returns-clause-answer c = λ tree pins stands.
    let t = c.make_through in
    let r = c.requires.stands in
    let s = subst (λ (v : TreeView). Stands c.args.heap.now v tree pins) (sym c.self.view_is) stands in
    let one = subst (λ (v : TreeView). Stands c.args.heap.now v r.0 r.1) (sym c.self.view_is) r.2 in
    let is_dir = same_directory c.self.inside.disk.blocks r.0 tree c.args.parent one.behind s.behind r.3 in
    let free = ap (λ (x : Tree). found x c.args.parent c.args.name) (sym (one_tree c.self.inside.disk.blocks r.0 tree one.behind s.behind)) ∙ r.4 in
    made_lags c.args.heap.now t.new.heap c.args.purse.now t.new.purse (view c.self.inside) t.new.cache t.new.disk t.ensures.goes_on t.ensures.lent tree pins c.args.parent c.args.name (content_of c.args.new) s is_dir free c.requires.name c.requires.content t.ensures.others
    (make tree c.args.parent c.args.name (content_of c.args.new)) t.result refl (t.ensures.answer tree s.behind is_dir)

pub returns-clause-goes_on : goal.returns-clause-goes_on
returns-clause-goes_on c =
    let t = c.make_through in
    subst (λ (v : TreeView). GoesOn (parts c.args.heap.now c.args.purse.now v.blocks v.disk) (parts t.new.heap t.new.purse t.new.cache t.new.disk)) c.self.view_is t.ensures.goes_on

pub returns-clause-may : goal.returns-clause-may
returns-clause-may c =
    let t = c.make_through in
    still_may_fetch c.args.heap.now t.new.heap c.args.purse.now t.new.purse (view c.self.inside) t.new.cache t.new.disk t.ensures.goes_on t.ensures.lent c.requires.may

pub returns-clause-lowest : goal.returns-clause-lowest
returns-clause-lowest c = subst (λ (v : TreeView). TakesLowest v.disk.blocks c.make_through.new.disk.blocks) c.self.view_is c.make_through.ensures.lowest
