use Rattle.std.proofs.Common.{take, sym, subst}
use Rattle.posix_defs.specs.FileBytes.{overwritten}
use Rattle.posix_defs.specs.DiskContents.{node_bytes}
use Rattle.posix_defs.specs.SoundDisk.{HasNode}
use Rattle.cached_disk.specs.Lent.{parts, GoesOn}
use Rattle.memfs_ops.specs.FileTree.{TreeView, Stands}
use Rattle.memfs_ops.specs.declared.file_tree.FileTree.TheInside.{Inside}
use Rattle.memfs_ops.proofs.FetchLemmas.{block_lent, still_may_fetch, same_file}
use Rattle.memfs_ops.proofs.WriteLemmas.{file_kind, written_lags, written_lowest, written_node}
use Rattle.blk_map.specs.Named.{TakesLowest}
use Rattle.memfs_ops.proofs.file_tree.FileTree.write_in.Goals as goal

abbrev view : Inside → TreeView
view fs = record { names = fs.names; vnodes = fs.vnodes; blocks = fs.blocks; disk = fs.disk }

pub write_through-requires-clause-lent : goal.write_through-requires-clause-lent
write_through-requires-clause-lent c =
    let r = c.requires.stands in
    block_lent c.args.heap.now c.args.purse.now (view c.self.inside) r.0 r.1 (subst (λ (v : TreeView). Stands c.args.heap.now v r.0 r.1) (sym c.self.view_is) r.2) c.requires.may

pub write_through-requires-clause-sound : goal.write_through-requires-clause-sound
write_through-requires-clause-sound c =
    let r = c.requires.stands in
    (subst (λ (v : TreeView). Stands c.args.heap.now v r.0 r.1) (sym c.self.view_is) r.2).behind.sound

pub write_through-requires-clause-node : goal.write_through-requires-clause-node
write_through-requires-clause-node c = subst (λ (v : TreeView). HasNode v.disk.blocks c.args.node c.args.inode.now) (sym c.self.view_is) c.requires.node

pub write_through-requires-clause-kind : goal.write_through-requires-clause-kind
write_through-requires-clause-kind c =
    let r = c.requires.stands in
    file_kind c.args.self.now.disk.blocks r.0 c.args.node c.args.inode.now r.2.behind r.3 c.requires.node

pub returns-clause-answer : goal.returns-clause-answer
returns-clause-answer c = λ tree pins stands.
    let t = c.write_through in
    let r = c.requires.stands in
    let s = subst (λ (v : TreeView). Stands c.args.heap.now v tree pins) (sym c.self.view_is) stands in
    let file = same_file c.args.self.now.disk.blocks r.0 tree c.args.node r.2.behind stands.behind r.3 in
    let has = subst (λ (v : TreeView). HasNode v.disk.blocks c.args.node c.args.inode.now) (sym c.self.view_is) c.requires.node in
    written_lags c.args.heap.now t.new.heap c.args.purse.now t.new.purse (view c.self.inside) t.new.cache t.new.disk t.ensures.goes_on t.ensures.lent tree pins c.args.node c.args.inode.now t.new.inode s file has
    c.args.at c.args.bytes.now t.result c.requires.bytes t.ensures.count t.ensures.ok t.ensures.err t.ensures.big t.ensures.full

pub returns-clause-node : goal.returns-clause-node
returns-clause-node c =
    let t = c.write_through in
    let has = subst (λ (v : TreeView). HasNode v.disk.blocks c.args.node c.args.inode.now) (sym c.self.view_is) c.requires.node in
    written_node c.args.node c.self.inside.disk.blocks t.new.disk.blocks c.args.inode.now t.new.inode t.result (λ count. overwritten c.args.at (take count c.args.bytes.now) (node_bytes c.self.inside.disk.blocks c.args.inode.now)) has t.ensures.ok t.ensures.err

pub returns-clause-goes_on : goal.returns-clause-goes_on
returns-clause-goes_on c =
    let t = c.write_through in
    subst (λ (v : TreeView). GoesOn (parts c.args.heap.now c.args.purse.now v.blocks v.disk) (parts t.new.heap t.new.purse t.new.cache t.new.disk)) c.self.view_is t.ensures.goes_on

pub returns-clause-may : goal.returns-clause-may
returns-clause-may c =
    let t = c.write_through in
    still_may_fetch c.args.heap.now t.new.heap c.args.purse.now t.new.purse (view c.self.inside) t.new.cache t.new.disk t.ensures.goes_on t.ensures.lent c.requires.may

pub returns-clause-lowest : goal.returns-clause-lowest
returns-clause-lowest c =
    let t = c.write_through in
    subst (λ (v : TreeView). TakesLowest v.disk.blocks t.new.disk.blocks) c.self.view_is (written_lowest c.self.inside.disk.blocks t.new.disk.blocks c.args.inode.now t.new.inode t.result t.ensures.lowest t.ensures.err)
