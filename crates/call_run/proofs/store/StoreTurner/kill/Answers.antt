use Rattle.std.proofs.Common.{◌≡◌, Bool, true, false, refl, sym, subst, inl, inr}
use Rattle.std.proofs.lemmas.Bool.Decides.{eqb_tells}
use Rattle.posix_defs.specs.Minding.{HasNamed}
use Rattle.posix_defs.specs.Process.{is_alive}
use Rattle.call_run.specs.Sleepers.{is_settled}
use Rattle.call_run.specs.Stores.{IsAtRest, IsStoreOf}
use Rattle.call_run.proofs.store.StoreTurner.kill.Goals as goal

pub invariant_of-self : goal.invariant_of-self
invariant_of-self g c =
    let some = c.requires in c.kill.ensures.kept c.self.inside.script some.0 (subst (λ store. IsStoreOf store.script store.objects some.0) (sym c.self.view_is) some.1.objects)

pub kill-requires-clause-rests : goal.kill-requires-clause-rests
kill-requires-clause-rests g c = let some = c.requires in subst (λ store. IsAtRest store.objects) (sym c.self.view_is) some.1.rests

pub kill-requires-clause-stands : goal.kill-requires-clause-stands
kill-requires-clause-stands g c =
    let some = c.requires in (c.self.inside.script, some.0, subst (λ store. IsStoreOf store.script store.objects some.0) (sym c.self.view_is) some.1.objects)

-- one of two ways
either_way : {X : Type 0} (b : Bool) → (b ≡ true → X) → (b ≡ false → X) → X
either_way true one other = one refl
either_way false one other = other refl

-- whoever it is of, some world is stood for behind it
pub killed-requires : goal.killed-requires
killed-requires g c =
    let some = c.requires in
    let here = subst (λ store. IsStoreOf store.script store.objects some.0) (sym c.self.view_is) some.1.objects in
    either_way (is_alive some.0.plain.table c.args.pid)
    (λ alive. elim (eqb_tells c.args.pid 1) [
      | inl first ↦ (some.0, let same = c.kill.ensures.first c.self.inside.script some.0 here first.1 in same.stands)
      | inr other ↦ let killed = c.kill.ensures.killed c.self.inside.script some.0 here alive other.1 in (killed.0, killed.1.stands)
    ])
    (λ over. (some.0, let gone = c.kill.ensures.gone c.self.inside.script some.0 here over in gone.stands))

pub returns-clause-killed : goal.returns-clause-killed
returns-clause-killed g c = λ world stands alive other.
    let killed =
    c.kill.ensures.killed c.self.inside.script world (subst (λ store. IsStoreOf store.script store.objects world) (sym c.self.view_is) stands.objects) alive other in
    (killed.0, record { objects = killed.1; rests = c.kill.ensures.rests; told = c.killed.ensures.minded killed.0 killed.1.stands killed.1.reached }, killed.2)

pub returns-clause-gone : goal.returns-clause-gone
returns-clause-gone g c = λ world stands over.
    let gone = c.kill.ensures.gone c.self.inside.script world (subst (λ store. IsStoreOf store.script store.objects world) (sym c.self.view_is) stands.objects) over in
    record { objects = gone; rests = c.kill.ensures.rests; told = c.killed.ensures.minded world gone.stands gone.reached }

pub returns-clause-first : goal.returns-clause-first
returns-clause-first g c = λ world stands first.
    let same = c.kill.ensures.first c.self.inside.script world (subst (λ store. IsStoreOf store.script store.objects world) (sym c.self.view_is) stands.objects) first in
    record { objects = same; rests = c.kill.ensures.rests; told = c.killed.ensures.minded world same.stands same.reached }

pub returns-clause-named : goal.returns-clause-named
returns-clause-named g c =
    subst (λ store. HasNamed (is_settled store.sleepers.told) (is_settled c.killed.new.self.told) c.killed.new.self.stirred) c.self.view_is c.killed.ensures.named

pub returns-clause-high : goal.returns-clause-high
returns-clause-high g c = λ world stands. c.kill.ensures.high c.self.inside.script world (subst (λ store. IsStoreOf store.script store.objects world) (sym c.self.view_is) stands.objects)

pub returns-clause-since : goal.returns-clause-since
returns-clause-since g c = λ world stands. c.kill.ensures.since c.self.inside.script world (subst (λ store. IsStoreOf store.script store.objects world) (sym c.self.view_is) stands.objects)
