use Rattle.std.proofs.Common.{◌∙◌, ap, sym, subst}
use Rattle.call_run.specs.Sleepers.{AreRising, told_of}
use Rattle.call_run.specs.Stores.{SleepersView}
use Rattle.call_run.proofs.Telling.{told_at, untold_at}
use Rattle.call_run.proofs.sleepers.Sleepers.told.Goals as goal

pub place_of-place-requires : goal.place_of-place-requires
place_of-place-requires c = subst (AreRising 0) (sym c.as_slice.ensures.value) c.self.invariant.rising

pub returns-then-stands_at : goal.returns-then-stands_at
returns-then-stands_at c =
    told_at c.self.inside.told.items c.as_slice.result.now c.as_slice-2.result.now c.args.pid c.place_of-place.result c.stands_at.result c.as_slice.ensures.value c.as_slice-2.ensures.value
    c.self.invariant.rising c.place_of-place.ensures.place c.stands_at.ensures.stands c.deref.result.now _ c.deref.ensures.0 c.stands_at.ensures.within c.if-stands_at.true
    ∙ ap (λ (s : SleepersView). told_of s.told c.args.pid) c.self.view_is

pub returns-else-stands_at : goal.returns-else-stands_at
returns-else-stands_at c =
    sym
    (ap (λ (s : SleepersView). told_of s.told c.args.pid) (sym c.self.view_is)
    ∙ untold_at c.self.inside.told.items c.as_slice.result.now c.as_slice-2.result.now c.args.pid c.place_of-place.result c.stands_at.result c.as_slice.ensures.value c.as_slice-2.ensures.value
    c.self.invariant.rising c.place_of-place.ensures.place c.stands_at.ensures.stands c.if-stands_at.false)
