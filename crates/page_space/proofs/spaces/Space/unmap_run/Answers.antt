use Rattle.std.proofs.Common.{◌≡◌, ◌≤◌, min, arith}
use Rattle.std.proofs.Math.Nat.{min-le_left, min-le_right, le-min}
use Rattle.kheap_laws.proofs.OwnerLemmas.{IsOwned-space}
use Rattle.page_space.proofs.ClearLemmas.{IsCleared-none, IsCleared-more, IsCleared-skip}
use Rattle.page_space.proofs.spaces.Space.unmap_run.Goals as goal

pub loop-page-init : goal.loop-page-init
loop-page-init c = (IsCleared-none c.args.heap.now c.args.self.now c.args.first, omega arith, c.requires.rises)

pub skip_unmapped-next-requires-clause-owns : goal.skip_unmapped-next-requires-clause-owns
skip_unmapped-next-requires-clause-owns c =
    let moves = c.loop-page.invariant.0.moves in
    IsOwned-space c.loop-page.heap c.requires.owned.0 c.loop-page.self (moves.owners c.requires.owned.0 c.requires.owned.1)

pub unmap_page-requires-clause-owned : goal.unmap_page-requires-clause-owned
unmap_page-requires-clause-owned c =
    let moves = c.loop-page.invariant.0.moves in
    (c.requires.owned.0, moves.owners c.requires.owned.0 c.requires.owned.1)

pub loop-page-preserved-then-next-page : goal.loop-page-preserved-then-next-page
loop-page-preserved-then-next-page c = (
  IsCleared-more c.args.heap.now c.loop-page.heap c.unmap_page.new.heap c.args.self.now c.loop-page.self c.unmap_page.new.self c.args.first c.loop-page.page
      c.loop-page.invariant.0 c.unmap_page.ensures.gone c.unmap_page.ensures.entries c.unmap_page.ensures.stays c.unmap_page.ensures.moves c.unmap_page.ensures.own
      c.unmap_page.ensures.account c.unmap_page.ensures.takes (omega (arith, c.loop-page.invariant.1)) (omega arith),
  omega (arith, c.loop-page.invariant.1),
  omega arith,
)

pub loop-page-preserved : goal.loop-page-preserved
loop-page-preserved c =
    let least : c.min-page.result ≡ min c.skip_unmapped-next.result c.args.end = c.min-page.ensures in
    let next : c.min-page.result ≤ c.skip_unmapped-next.result = omega (arith, least, min-le_left c.skip_unmapped-next.result c.args.end) in
    let end : c.min-page.result ≤ c.args.end = omega (arith, least, min-le_right c.skip_unmapped-next.result c.args.end) in
    let above : c.loop-page.page ≤ min c.skip_unmapped-next.result c.args.end = le-min c.skip_unmapped-next.ensures.from c.loop-page.invariant.2 in
    let rises : c.loop-page.page ≤ c.min-page.result = omega (arith, least, above) in
    let unmapped = c.skip_unmapped-next.ensures.unmapped in (
      IsCleared-skip c.args.heap.now c.loop-page.heap c.args.self.now c.loop-page.self c.args.first c.loop-page.page c.min-page.result c.loop-page.invariant.0
          (λ other above below. unmapped other above (omega arith)) c.loop-page.invariant.1 rises (omega arith),
      omega (arith, c.loop-page.invariant.1),
      end,
    )
