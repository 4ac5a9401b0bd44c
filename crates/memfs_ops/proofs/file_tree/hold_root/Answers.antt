use Rattle.std.proofs.Common.{ap}
use Rattle.kheap_slabs.specs.Purse.{Purse}
use Rattle.memfs_ops.proofs.BootLemmas.{root_kept}
use Rattle.memfs_ops.proofs.file_tree.hold_root.Goals as goal

pub returns-clause-root : goal.returns-clause-root
returns-clause-root c =
    root_kept c.args.inode c.args.heap.now c.fill.new.heap c.pin.new.heap c.of-purse.result c.fill.new.purse c.args.vnodes.now c.fill.new.self c.pin.new.self c.fill.ensures.filled (ap (λ (p : Purse). p.left.vnode) c.of-purse.ensures.value) c.fill.ensures.fills c.fill.ensures.keeps c.pin.ensures.stored
