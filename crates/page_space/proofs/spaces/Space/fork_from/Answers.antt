use Rattle.std.proofs.Common.{◌≡◌, ◌/◌, ℕ, None, replicate, refl, sym, ap, ◌∙◌, subst, arith}
use Rattle.kheap_slabs.specs.Owners.{with_space}
use Rattle.kheap_slabs.specs.Spaces.{is_mapped, OwnsNodes}
use Rattle.kheap_laws.proofs.OwnerLemmas.{IsOwned-space}
use Rattle.kheap_laws.proofs.PaidLemmas.{CanPay-kept, IsPaid-nothing}
use Rattle.kheap_laws.proofs.SpaceLemmas.{IsCounted-most}
use Rattle.page_space.proofs.ForkAccount.{AccountForksTo, AccountForks-all}
use Rattle.page_space.proofs.ForkLemmas.{IsForking-none, IsOwned-second_to_front, IsForking-more, IsForking-skip, OwnsNodes-second, none_there, fork_left}
use Rattle.page_space.proofs.MoveLemmas.{IsNamed-entry}
use Rattle.page_space.proofs.spaces.Space.fork_from.Goals as goal

pub skip_unmapped-next-requires-clause-owns : goal.skip_unmapped-next-requires-clause-owns
skip_unmapped-next-requires-clause-owns c =
    OwnsNodes-second c.loop-page.heap c.loop-page.space c.args.of.now c.requires.owned.0 (c.loop-page.invariant.0.forked.owners c.requires.owned.0 c.requires.owned.1)

pub entry-entry-requires-clause-owns : goal.entry-entry-requires-clause-owns
entry-entry-requires-clause-owns c =
    OwnsNodes-second c.loop-page.heap c.loop-page.space c.args.of.now c.requires.owned.0 (c.loop-page.invariant.0.forked.owners c.requires.owned.0 c.requires.owned.1)

pub share_entry-requires-clause-named : goal.share_entry-requires-clause-named
share_entry-requires-clause-named c =
    let owned = c.loop-page.invariant.0.forked.owners c.requires.owned.0 c.requires.owned.1 in
    IsNamed-entry c.loop-page.heap.nodes c.loop-page.heap.pages c.args.of.now c.loop-page.page c.entry-entry.result owned.pages (sym c.entry-entry.ensures)

pub share_entry-requires-clause-small : goal.share_entry-requires-clause-small
share_entry-requires-clause-small c = λ page.
    let owned = c.loop-page.invariant.0.forked.owners c.requires.owned.0 c.requires.owned.1 in
    omega (arith, IsCounted-most c.loop-page.heap page c.heap_is_well_formed.ensures owned.pages, c.heap_is_well_formed.ensures.limit)

pub map_page-requires-clause-owns : goal.map_page-requires-clause-owns
map_page-requires-clause-owns c =
    subst (λ nodes. OwnsNodes nodes c.loop-page.space) (sym (ap (λ h. h.nodes) c.share_entry.ensures.kept))
    (IsOwned-space c.loop-page.heap (with_space c.args.of.now c.requires.owned.0) c.loop-page.space (c.loop-page.invariant.0.forked.owners c.requires.owned.0 c.requires.owned.1))

pub map_page-requires-clause-room : goal.map_page-requires-clause-room
map_page-requires-clause-room c =
    CanPay-kept c.loop-page.heap c.share_entry.new.heap c.loop-page.purse c.loop-page.purse
    (IsPaid-nothing c.loop-page.heap c.share_entry.new.heap c.loop-page.purse c.loop-page.purse c.share_entry.ensures.takes refl refl)
    (CanPay-kept c.args.heap.now c.loop-page.heap c.args.purse.now c.loop-page.purse c.loop-page.invariant.0.forked.paid c.requires.room)

pub loop-page-preserved-then-next-page : goal.loop-page-preserved-then-next-page
loop-page-preserved-then-next-page c = (
  IsForking-more c.args.heap.now c.loop-page.heap c.share_entry.new.heap c.map_page.new.heap c.args.purse.now c.loop-page.purse c.map_page.new.purse
      c.args.of.now c.loop-page.space c.map_page.new.self c.requires.owned.0 c.loop-page.page c.entry-entry.result
      c.loop-page.invariant.0 c.requires.owned.1 c.loop-page-test.true c.entry-entry.ensures
      (ap is_mapped c.entry-entry.ensures ∙ c.skip_unmapped-next.ensures.mapped c.if-next-page.true)
      c.share_entry.ensures.counts c.share_entry.ensures.kept_named c.share_entry.ensures.bytes c.share_entry.ensures.others c.share_entry.ensures.kept c.share_entry.ensures.takes
      c.map_page.ensures.turns c.map_page.ensures.kept c.map_page.ensures.paid c.map_page.ensures.exact c.map_page.ensures.spent
      (fork_left c.args.heap.now c.args.purse.now c.loop-page.heap c.loop-page.purse c.args.of.now c.loop-page.space c.loop-page.page c.loop-page.invariant.0 c.loop-page-test.true c.requires.left),
  omega arith,
)

pub loop-page-preserved : goal.loop-page-preserved
loop-page-preserved c = (
  IsForking-skip c.args.heap.now c.args.purse.now c.loop-page.heap c.loop-page.purse c.args.of.now c.loop-page.space c.requires.owned.0 c.loop-page.page c.skip_unmapped-next.result
      c.loop-page.invariant.0 c.requires.owned.1 c.skip_unmapped-next.ensures.unmapped c.skip_unmapped-next.ensures.from c.skip_unmapped-next.ensures.below,
  c.skip_unmapped-next.ensures.below,
)

pub returns-clause-child : goal.returns-clause-child
returns-clause-child c =
    (with_space c.args.of.now c.requires.owned.0, c.loop-page.invariant.0.forked.owners c.requires.owned.0 c.requires.owned.1)

pub returns-clause-parent : goal.returns-clause-parent
returns-clause-parent c = (
  with_space c.loop-page.space c.requires.owned.0,
  IsOwned-second_to_front c.loop-page.heap c.loop-page.space c.args.of.now c.requires.owned.0
      (c.loop-page.invariant.0.forked.owners c.requires.owned.0 c.requires.owned.1),
)

pub returns-clause-account : goal.returns-clause-account
returns-clause-account c =
    let last : c.loop-page.page ≡ 256 = omega arith in
    AccountForks-all c.args.heap.now c.loop-page.heap c.args.of.now c.loop-page.space
    (subst (λ (page : ℕ). AccountForksTo c.args.heap.now c.loop-page.heap c.args.of.now c.loop-page.space page) last c.loop-page.invariant.0.account)

pub loop-page-init : goal.loop-page-init
loop-page-init c = (IsForking-none c.args.heap.now c.args.purse.now c.args.of.now (replicate 4 None) refl (λ page. none_there 4 (page / 64)), omega arith)
