use Rattle.std.proofs.Common.{subst, sym}
use Rattle.posix_defs.specs.Minding.{HasNamed}
use Rattle.posix_defs.specs.Relief.{refused_in}
use Rattle.call_run.specs.Sleepers.{is_settled}
use Rattle.call_run.specs.Stores.{IsAtRest, IsStoreOf, Stands}
use Rattle.call_run.proofs.store.StoreTurner.refuse.Goals as goal

pub returns-clause-since : goal.returns-clause-since
returns-clause-since g c = λ world stands. c.refuse.ensures.since world (subst (λ store. IsStoreOf store.script store.objects world) (sym c.self.view_is) stands.objects)

pub returns-clause-refused : goal.returns-clause-refused
returns-clause-refused g c = λ world stands alive.
    let before = subst (λ store. Stands store world) (sym c.self.view_is) stands in
    let refused : Stands (record { script = c.self.inside.script; objects = c.refuse.new.objects; sleepers = c.refused.new.self }) (refused_in c.self.inside.script world c.args.pid) =
    record {
      objects = c.refuse.ensures.refused world before.objects alive;
      rests = c.refuse.ensures.rests;
      told = let after = c.refuse.ensures.refused world before.objects alive in c.refused.ensures.minded world before.objects.reached before.told after.stands after.reached;
    } in
    subst (λ store. Stands (record { script = c.self.inside.script; objects = c.refuse.new.objects; sleepers = c.refused.new.self }) (refused_in store.script world c.args.pid)) c.self.view_is refused

pub returns-clause-named : goal.returns-clause-named
returns-clause-named g c =
    subst (λ store. HasNamed (is_settled store.sleepers.told) (is_settled c.refused.new.self.told) c.refused.new.self.stirred) c.self.view_is c.refused.ensures.named

pub refuse-requires-clause-alive : goal.refuse-requires-clause-alive
refuse-requires-clause-alive g c =
    let some = c.requires in (some.0, subst (λ store. IsStoreOf store.script store.objects some.0) (sym c.self.view_is) some.1.objects, some.2)

pub refuse-requires-clause-rests : goal.refuse-requires-clause-rests
refuse-requires-clause-rests g c = let some = c.requires in subst (λ store. IsAtRest store.objects) (sym c.self.view_is) some.1.rests

-- it stands for some world behind it
pub refused-requires : goal.refused-requires
refused-requires g c =
    let some = c.requires in
    let after = c.refuse.ensures.refused some.0 (subst (λ store. IsStoreOf store.script store.objects some.0) (sym c.self.view_is) some.1.objects) some.2 in
    (refused_in c.self.inside.script some.0 c.args.pid, after.stands)
