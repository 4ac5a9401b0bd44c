use Rattle.std.proofs.Common.{◌≡◌, ◌==◌, length, true, false, sym, subst, rules}
use Rattle.kern_shared.specs.Lists.{AreAlive}
use Rattle.kern_shared.specs.Picks.{Says}
use Rattle.kern_shared.specs.Shared.{AllAsleep}
use Rattle.kern_shared.proofs.Picking.{asleep_says, at_past, awake_says, dozing_alive}
use Rattle.kern_shared.proofs.state.KernelState.all_asleep.Goals as goal

pub returns-then-not-is_empty : goal.returns-then-not-is_empty
returns-then-not-is_empty g c = λ items past s shared.
    let some : (length c.args.self.now.awake.items == 0) ≡ false = search rules in
    at_past g.T.Turner.stands g.T.Turner.script g.T.Turner.beside _ _ _ _ items s past shared (λ p. AllAsleep g.L.RunName.script items p → ⊥)
    (awake_says g.T.Turner.stands g.T.Turner.script g.T.Turner.beside _ _ _ _ items s some)

pub all_block-requires : goal.all_block-requires
all_block-requires g c =
    let s = c.requires.1 in
    (s.world, s.stands, subst (AreAlive s.world.plain) (sym c.as_slice.ensures.value) (dozing_alive g.T.Turner.stands g.T.Turner.script g.T.Turner.beside _ _ _ _ _ s))

pub returns : goal.returns
returns g c = λ items past s shared.
    let none : (length c.args.self.now.awake.items == 0) ≡ true = search rules in
    at_past g.T.Turner.stands g.T.Turner.script g.T.Turner.beside _ _ _ _ items s past shared (λ p. Says c.all_block.result (AllAsleep g.L.RunName.script items p))
    (asleep_says g.T.Turner.stands g.T.Turner.script g.T.Turner.beside _ _ _ _ items s _ c.all_block.result none c.as_slice.ensures.value
    (c.all_block.ensures s.world s.stands (subst (AreAlive s.world.plain) (sym c.as_slice.ensures.value) (dozing_alive g.T.Turner.stands g.T.Turner.script g.T.Turner.beside _ _ _ _ items s))))
