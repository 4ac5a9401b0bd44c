use Rattle.std.proofs.Common.{ap, ◌∙◌}
use Rattle.kern_shared.proofs.Boxing.{boxed_picked, boxed_still}
use Rattle.kern_shared.proofs.boxed.BoxedState.pick_next.Goals as goal

pub returns-then-self-clause-picks : goal.returns-then-self-clause-picks
returns-then-self-clause-picks g c = λ items past boxed shared. boxed.nobody c.if-self.true past shared

pub returns-then-self-clause-stands : goal.returns-then-self-clause-stands
returns-then-self-clause-stands g c = λ items boxed. boxed_still _ g.L.RunName.script g.L.RunName.steps _ items _ _ boxed

pub pick_next-picked-requires : goal.pick_next-picked-requires
pick_next-picked-requires g c = rw c.deref_mut.ensures.value (c.requires.0, c.requires.1.value)

pub returns-clause-picks : goal.returns-clause-picks
returns-clause-picks g c = λ items past boxed shared. c.pick_next-picked.ensures.picks items past (rw c.deref_mut.ensures.value boxed.value) shared

pub returns-clause-stands : goal.returns-clause-stands
returns-clause-stands g c = λ items boxed.
    boxed_picked _ g.L.RunName.script g.L.RunName.steps _ items _ _ _ _ _ c.pick_next-picked.result boxed c.is_idle-self.ensures
    (ap (λ s. s.known.reserves) (c.pick_next-picked.ensures.seat ∙ ap (λ v. v.seat) c.deref_mut.ensures.value))
    (λ past shared. c.pick_next-picked.ensures.picks items past (rw c.deref_mut.ensures.value boxed.value) shared)
    (c.pick_next-picked.ensures.stands items (rw c.deref_mut.ensures.value boxed.value))
