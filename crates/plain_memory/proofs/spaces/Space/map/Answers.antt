use Rattle.std.proofs.Common.{◌<◌, Some, length, set, ap, ◌∙◌, arith}
use Rattle.std.proofs.lemmas.List.{length-set}
use Rattle.posix_defs.specs.Memory.{zero_page}
use Rattle.plain_memory.proofs.Ranges.{range_goes_on}
use Rattle.plain_memory.proofs.spaces.Space.map.Goals as goal

pub loop-page-preserved : goal.loop-page-preserved
loop-page-preserved c =
    let lt : c.loop-page.page < length c.self.inside.pages.items = omega (arith, c.self.invariant) in
    record {
      whole = length-set c.loop-page.self-inside.pages.items c.loop-page.page (Some c.in_ok-zero.field-0) ∙ c.loop-page.invariant.whole;
      written =
          ap (λ page. set c.loop-page.self-inside.pages.items c.loop-page.page (Some page)) c.in_ok-zero.ensures
          ∙ range_goes_on c.self.inside.pages.items c.loop-page.self-inside.pages.items c.args.first c.loop-page.page (Some zero_page) c.loop-page.auto.page lt c.loop-page.invariant.written;
    }
