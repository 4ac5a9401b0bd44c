use Rattle.std.proofs.Common.{◌≡◌, ℕ, subst, arith}
use Rattle.kheap_laws.proofs.OwnerLemmas.{IsOwned-space}
use Rattle.kheap_laws.proofs.PaidLemmas.{CanPay-kept}
use Rattle.page_space.specs.Contents.{IsFilled}
use Rattle.page_space.proofs.MapLemmas.{IsFilling-none, IsFilling-more, node_left}
use Rattle.page_space.proofs.spaces.Space.map_run.Goals as goal

pub loop-page-init : goal.loop-page-init
loop-page-init c = IsFilling-none c.args.heap.now c.args.purse.now c.args.self.now c.args.first

pub map_page-requires-clause-owns : goal.map_page-requires-clause-owns
map_page-requires-clause-owns c =
    let moves = c.loop-page.invariant.filled.moves in
    IsOwned-space c.loop-page.heap c.requires.owned.0 c.loop-page.self (moves.owners c.requires.owned.0 c.requires.owned.1)

pub map_page-requires-clause-room : goal.map_page-requires-clause-room
map_page-requires-clause-room c =
    CanPay-kept c.args.heap.now c.loop-page.heap c.args.purse.now c.loop-page.purse c.loop-page.invariant.filled.paid c.requires.room

pub loop-page-preserved : goal.loop-page-preserved
loop-page-preserved c =
    IsFilling-more c.args.heap.now c.loop-page.heap c.map_page.new.heap c.args.purse.now c.loop-page.purse c.map_page.new.purse
    c.args.self.now c.loop-page.self c.map_page.new.self c.args.first c.loop-page.page
    c.loop-page.invariant (omega arith) (omega arith) c.requires.owned c.map_page.ensures.turns c.map_page.ensures.kept c.map_page.ensures.paid c.map_page.ensures.exact c.map_page.ensures.spent
    (node_left c.args.heap.now c.args.purse.now c.loop-page.heap c.loop-page.purse c.args.self.now c.loop-page.self c.args.first c.loop-page.page c.args.end
    c.loop-page.invariant (omega arith) c.loop-page-test.true c.requires.within c.requires.left)

pub returns : goal.returns
returns c =
    let last : c.loop-page.page ≡ c.args.end = omega arith in
    subst (λ (end : ℕ). IsFilled c.args.heap.now c.args.purse.now c.loop-page.heap c.loop-page.purse c.args.self.now c.loop-page.self c.args.first end) last
    c.loop-page.invariant.filled
