use Rattle.std.proofs.Common.{◌∙◌, sym, subst, List, slice_index_or}
use Rattle.kabi_types.specs.declared.ranges.Kind.TheVariants.{Shared}
use Rattle.kabi_types.specs.declared.ranges.Range.{Range}
use Rattle.kabi_types.specs.Ranges.{IsCanonical}
use Rattle.lock_ranges.proofs.Conflicts.{BeginsFirst, first_is_least, found_first}
use Rattle.lock_ranges.proofs.ranges.Ranges.first_conflict.Goals as goal

pub returns-then-conflicts-clause-least : goal.returns-then-conflicts-clause-least
returns-then-conflicts-clause-least c =
    let items : List Range = c.deref-range-items.result.now in
    let none : Range = record { kind = Shared; start = 0; last = 0 } in
    let first : Range = slice_index_or items c.loop-range.range-index none in
    let canonical : IsCanonical items = subst (λ (l : List Range). IsCanonical l) (sym c.deref-range-items.ensures.value) c.self.invariant in
    subst (λ (l : List Range). BeginsFirst l c.args.asked.now first) (c.deref-range-items.ensures.value ∙ c.self.view_is)
    (first_is_least items c.args.asked.now first canonical
    (found_first items c.args.asked.now c.loop-range.range-index none c.loop-range-test.true c.loop-range.invariant (sym c.conflicts.ensures ∙ c.if-conflicts.true)))
