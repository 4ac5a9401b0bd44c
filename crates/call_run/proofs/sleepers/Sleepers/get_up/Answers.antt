use Rattle.std.proofs.Common.{◌<◌, ◌∙◌, length, ap, sym, subst}
use Rattle.call_run.specs.Sleepers.{AreRising, without}
use Rattle.call_run.specs.Stores.{SleepersView}
use Rattle.call_run.proofs.Telling.{gone_at, rising_removed, untold_at, without_none}
use Rattle.call_run.proofs.sleepers.Sleepers.get_up.Goals as goal

pub place_of-place-requires : goal.place_of-place-requires
place_of-place-requires c = subst (AreRising 0) (sym c.as_slice.ensures.value) c.self.invariant.rising

pub forget_at-requires-clause-rising : goal.forget_at-requires-clause-rising
forget_at-requires-clause-rising c = c.self.invariant.rising

pub forget_at-requires-clause-within : goal.forget_at-requires-clause-within
forget_at-requires-clause-within c =
    subst (λ ts. c.place_of-place.result < length ts) c.as_slice-2.ensures.value (c.stands_at.ensures.within c.if-stands_at.true)

pub invariant_of-self : goal.invariant_of-self
invariant_of-self c = record {
  rising = subst (AreRising 0) (sym c.forget_at.ensures.items) (rising_removed c.self.inside.told.items 0 c.place_of-place.result c.self.invariant.rising);
  closed = c.self.invariant.closed;
}

pub returns-then-stands_at-clause-told : goal.returns-then-stands_at-clause-told
returns-then-stands_at-clause-told c =
    c.forget_at.ensures.items
    ∙ gone_at c.self.inside.told.items c.as_slice.result.now c.as_slice-2.result.now c.args.pid c.place_of-place.result c.stands_at.result c.as_slice.ensures.value c.as_slice-2.ensures.value
    c.self.invariant.rising c.place_of-place.ensures.place c.stands_at.ensures.stands c.if-stands_at.true
    ∙ ap (λ (s : SleepersView). without s.told c.args.pid) c.self.view_is

pub returns-else-stands_at-clause-told : goal.returns-else-stands_at-clause-told
returns-else-stands_at-clause-told c =
    sym
    (ap (λ (s : SleepersView). without s.told c.args.pid) (sym c.self.view_is)
    ∙ without_none c.self.inside.told.items c.args.pid
    (untold_at c.self.inside.told.items c.as_slice.result.now c.as_slice-2.result.now c.args.pid c.place_of-place.result c.stands_at.result c.as_slice.ensures.value c.as_slice-2.ensures.value
    c.self.invariant.rising c.place_of-place.ensures.place c.stands_at.ensures.stands c.if-stands_at.false)
    ∙ ap (λ (s : SleepersView). s.told) c.self.view_is)
