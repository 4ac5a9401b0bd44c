use Rattle.std.proofs.Common.{◌<◌, length, subst, arith}
use Rattle.disk_layout.specs.Disk.{Disk}
use Rattle.disk_layout.specs.Vacant.{NoneFreeIn}
use Rattle.disk_layout.proofs.TableBlocks.{none_free}
use Rattle.disk_layout.proofs.disks.RamDisk.full_blocks.Goals as goal

pub returns-clause-full : goal.returns-clause-full
returns-clause-full c =
    let few : c.next_free.result < length c.self.inside.table = omega (arith, c.next_free.ensures.within.1, c.count.ensures, c.self.invariant.1.count) in
    let full = none_free c.self.inside.full c.self.inside.table c.self.inside.contents c.next_free.result c.self.invariant.1 few (λ index lt. c.next_free.ensures.passed index (omega arith) lt) in
    subst (λ (disk : Disk). NoneFreeIn disk.blocks c.next_free.result) c.self.view_is full
