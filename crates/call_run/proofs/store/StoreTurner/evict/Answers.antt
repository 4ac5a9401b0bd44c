use Rattle.std.proofs.Common.{ap, sym, subst}
use Rattle.posix_defs.specs.Minding.{HasNamed}
use Rattle.call_run.specs.Sleepers.{AreMinded, is_settled}
use Rattle.call_run.specs.Stores.{IsAtRest, IsStoreOf, SleepersView, Stands}
use Rattle.call_run.proofs.store.StoreTurner.evict.Goals as goal

pub invariant_of-self : goal.invariant_of-self
invariant_of-self g c = c.evict.ensures.kept c.self.inside.script c.self.invariant

pub evict-requires-clause-rests : goal.evict-requires-clause-rests
evict-requires-clause-rests g c = let some = c.requires in subst (λ store. IsAtRest store.objects) (sym c.self.view_is) some.1.rests

pub evict-requires-clause-stands : goal.evict-requires-clause-stands
evict-requires-clause-stands g c =
    let some = c.requires in (c.self.inside.script, some.0, subst (λ store. IsStoreOf store.script store.objects some.0) (sym c.self.view_is) some.1.objects)

pub returns-clause-evicted : goal.returns-clause-evicted
returns-clause-evicted g c = λ world stands can.
    let before = subst (λ store. Stands store world) (sym c.self.view_is) stands in
    let evicted = c.evict.ensures.evicted c.self.inside.script world before.objects can in (
      evicted.0,
      record {
        objects = evicted.1;
        rests = c.evict.ensures.rests;
        told =
            subst (λ (sleepers : SleepersView). AreMinded c.self.inside.script evicted.0.plain sleepers.told sleepers.channels) (sym c.evicted.ensures)
            (subst (λ plain. AreMinded c.self.inside.script plain c.self.inside.sleepers.told c.self.inside.sleepers.channels) (sym evicted.2.plain) before.told);
      },
      evicted.2,
    )

pub returns-clause-kept : goal.returns-clause-kept
returns-clause-kept g c = λ world stands none.
    let before = subst (λ store. Stands store world) (sym c.self.view_is) stands in
    record {
      objects = c.evict.ensures.same c.self.inside.script world before.objects none;
      rests = c.evict.ensures.rests;
      told = subst (λ (sleepers : SleepersView). AreMinded c.self.inside.script world.plain sleepers.told sleepers.channels) (sym c.evicted.ensures) before.told;
    }

pub returns-clause-named : goal.returns-clause-named
returns-clause-named g c =
    subst (λ store. HasNamed (is_settled store.sleepers.told) (is_settled c.evicted.new.self.told) c.evicted.new.self.stirred) c.self.view_is
    (λ who apart. ap (λ (sleepers : SleepersView). is_settled sleepers.told who) c.evicted.ensures)

pub returns-clause-high : goal.returns-clause-high
returns-clause-high g c = λ world stands. c.evict.ensures.high c.self.inside.script world (subst (λ store. IsStoreOf store.script store.objects world) (sym c.self.view_is) stands.objects)

pub returns-clause-since : goal.returns-clause-since
returns-clause-since g c = λ world stands. c.evict.ensures.since c.self.inside.script world (subst (λ store. IsStoreOf store.script store.objects world) (sym c.self.view_is) stands.objects)
