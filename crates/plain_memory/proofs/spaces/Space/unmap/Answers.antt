use Rattle.std.proofs.Common.{◌<◌, None, length, ◌∙◌, arith}
use Rattle.std.proofs.lemmas.List.{length-set}
use Rattle.plain_memory.proofs.Ranges.{range_goes_on}
use Rattle.plain_memory.proofs.spaces.Space.unmap.Goals as goal

pub loop-page-preserved : goal.loop-page-preserved
loop-page-preserved c =
    let lt : c.loop-page.page < length c.self.inside.pages.items = omega (arith, c.self.invariant) in
    record {
      whole = length-set c.loop-page.self-inside.pages.items c.loop-page.page None ∙ c.loop-page.invariant.whole;
      written = range_goes_on c.self.inside.pages.items c.loop-page.self-inside.pages.items c.args.first c.loop-page.page None c.loop-page.auto.page lt c.loop-page.invariant.written;
    }
