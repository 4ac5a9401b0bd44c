use Rattle.std.proofs.Common.{◌≡◌, ◌+◌, ◌-◌, ◌/◌, ◌<◌, ◌++◌, take, drop, sym, ap, ◌∙◌, subst}
use Rattle.std.specs.List.{AllByRecursion}
use Rattle.posix_defs.specs.DiskFormat.{block_size}
use Rattle.posix_defs.specs.DiskContents.{data_block, node_bytes}
use Rattle.memfs_file.specs.FileChange.{IsInUse}
use Rattle.memfs_file.specs.Ranges.{asked_to_read}
use Rattle.cached_disk.specs.Lent.{IsCached}
use Rattle.memfs_ops.specs.FileTree.{TreeView, Stands}
use Rattle.memfs_ops.specs.Fetching.{Fetches}
use Rattle.memfs_ops.specs.declared.file_tree.FileTree.TheInside.{Inside}
use Rattle.memfs_ops.proofs.FetchLemmas.{block_lent, fetches_of}
use Rattle.memfs_ops.proofs.file_tree.FileTree.read_bytes.Goals as goal

abbrev view : Inside → TreeView
view fs = record { names = fs.names; vnodes = fs.vnodes; blocks = fs.blocks; disk = fs.disk }

pub read_through-requires-clause-lent : goal.read_through-requires-clause-lent
read_through-requires-clause-lent c =
    let r = c.requires.stands in
    block_lent c.args.heap.now c.args.purse.now (view c.self.inside) r.0 r.1 (subst (λ (v : TreeView). Stands c.args.heap.now v r.0 r.1) (sym c.self.view_is) r.2) c.requires.may

pub read_through-requires-clause-sound : goal.read_through-requires-clause-sound
read_through-requires-clause-sound c =
    let r = c.requires.stands in
    (subst (λ (v : TreeView). Stands c.args.heap.now v r.0 r.1) (sym c.self.view_is) r.2).behind.sound

pub read_through-requires-clause-node : goal.read_through-requires-clause-node
read_through-requires-clause-node c = subst (λ (v : TreeView). IsInUse v.disk.blocks c.args.inode.now) (sym c.self.view_is) c.requires.node

pub returns-clause-bytes : goal.returns-clause-bytes
returns-clause-bytes c =
    let t = c.read_through in
    subst (λ (v : TreeView). t.new.out ≡ take t.result (drop c.args.at (node_bytes v.disk.blocks c.args.inode.now)) ++ drop t.result c.args.out.now) c.self.view_is t.ensures.bytes

pub returns-clause-fetches : goal.returns-clause-fetches
returns-clause-fetches c =
    let t = c.read_through in
    let new : TreeView = record (view c.self.inside) { blocks = t.new.cache; disk = t.new.disk } in
    subst (λ (v : TreeView). Fetches c.args.heap.now t.new.heap c.args.purse.now t.new.purse v new) c.self.view_is
    (fetches_of c.args.heap.now t.new.heap c.args.purse.now t.new.purse (view c.self.inside) t.new.cache t.new.disk t.ensures.goes_on t.ensures.lent t.ensures.kept c.requires.may)

pub returns-clause-saved : goal.returns-clause-saved
returns-clause-saved c = λ all.
    let t = c.read_through in
    let known = subst (λ (v : TreeView). AllByRecursion (IsCached v.blocks) (asked_to_read v.disk.blocks c.args.inode.now c.args.at t.result)) (sym c.self.view_is) all in
    (t.ensures.saved known).disk ∙ ap (λ (v : TreeView). v.disk) c.self.view_is

pub returns-clause-last : goal.returns-clause-last
returns-clause-last c =
    let t = c.read_through in
    subst (λ (v : TreeView). 0 < t.result → IsCached t.new.cache (data_block v.disk.blocks c.args.inode.now ((c.args.at + t.result - 1) / block_size))) c.self.view_is t.ensures.last

pub returns-clause-nodes : goal.returns-clause-nodes
returns-clause-nodes c = ap (λ (v : TreeView). v.vnodes) c.self.view_is
