use Rattle.std.proofs.Common.{sym, ap, ◌∙◌, length}
use Rattle.disk_layout.proofs.RegionBlocks.{length-all}
use Rattle.disk_layout.proofs.regions.Region.count.Goals as goal

pub returns : goal.returns
returns c = sym (length-all c.self.inside.count c.self.inside.written.items c.self.invariant.0) ∙ ap length c.self.view_is
