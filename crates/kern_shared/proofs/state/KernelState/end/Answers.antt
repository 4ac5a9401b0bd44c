use Rattle.std.proofs.Common.{◌≡◌, true, false, refl, sym, ap, ◌∙◌, subst}
use Rattle.posix_defs.specs.Needs.{bound}
use Rattle.posix_defs.specs.Plain.{call_of}
use Rattle.posix_defs.specs.Process.{is_alive}
use Rattle.kern_shared.specs.Picks.{Says}
use Rattle.kern_shared.specs.Shared.{AllAsleep, Starves}
use Rattle.kern_shared.proofs.Picking.{alive_is, at_past, below_noted, call_is, lives_in_world, spent_is}
use Rattle.kern_shared.proofs.state.KernelState.end.Goals as goal

pub returns-then-not-alive : goal.returns-then-not-alive
returns-then-not-alive g c = λ items past s shared. (at_past g.T.Turner.stands g.T.Turner.script g.T.Turner.beside _ _ _ _ items s past shared (λ p. is_alive p.plain.table 1 ≡ false) (alive_is g.T.Turner.stands g.T.Turner.script g.T.Turner.beside _ _ _ _ items s 1 c.alive.result false (c.alive.ensures s.world s.stands) c.if-not-alive.true))

pub returns-then-all_asleep : goal.returns-then-all_asleep
returns-then-all_asleep g c = λ items past s shared. ((at_past g.T.Turner.stands g.T.Turner.script g.T.Turner.beside _ _ _ _ items s past shared (λ p. is_alive p.plain.table 1 ≡ true) (alive_is g.T.Turner.stands g.T.Turner.script g.T.Turner.beside _ _ _ _ items s 1 c.alive.result true (c.alive.ensures s.world s.stands) c.if-not-alive.false)), subst (λ b. Says b (AllAsleep g.L.RunName.script items past)) c.if-all_asleep.true (c.all_asleep.ensures items past s shared))

pub returns-then-is_spent : goal.returns-then-is_spent
returns-then-is_spent g c = λ items past s shared.
    ((record { alive = (at_past g.T.Turner.stands g.T.Turner.script g.T.Turner.beside _ _ _ _ items s past shared (λ p. is_alive p.plain.table 1 ≡ true) (alive_is g.T.Turner.stands g.T.Turner.script g.T.Turner.beside _ _ _ _ items s 1 c.alive.result true (c.alive.ensures s.world s.stands) c.if-not-alive.false)); awake = subst (λ b. Says b (AllAsleep g.L.RunName.script items past)) c.if-all_asleep.false (c.all_asleep.ensures items past s shared) }), spent_is g.T.Turner.stands g.T.Turner.script g.T.Turner.beside _ _ _ _ items s (sym c.is_spent.ensures ∙ c.if-is_spent.true))

pub returns-then-self : goal.returns-then-self
returns-then-self g c = λ items past s shared.
    let alive = alive_is g.T.Turner.stands g.T.Turner.script g.T.Turner.beside _ _ _ _ items s 1 c.alive.result true (c.alive.ensures s.world s.stands) c.if-not-alive.false in (
      (record { alive = (at_past g.T.Turner.stands g.T.Turner.script g.T.Turner.beside _ _ _ _ items s past shared (λ p. is_alive p.plain.table 1 ≡ true) (alive_is g.T.Turner.stands g.T.Turner.script g.T.Turner.beside _ _ _ _ items s 1 c.alive.result true (c.alive.ensures s.world s.stands) c.if-not-alive.false)); awake = subst (λ b. Says b (AllAsleep g.L.RunName.script items past)) c.if-all_asleep.false (c.all_asleep.ensures items past s shared) }),
      below_noted g.T.Turner.stands g.T.Turner.script g.T.Turner.beside _ _ _ _ items s (sym c.is_spent.ensures ∙ c.if-is_spent.false),
      sym s.starved ∙ c.if-self.true,
      at_past g.T.Turner.stands g.T.Turner.script g.T.Turner.beside _ _ _ _ items s past shared (Starves g.L.RunName.script) (s.still (sym s.starved ∙ c.if-self.true)),
      refl,
      at_past g.T.Turner.stands g.T.Turner.script g.T.Turner.beside _ _ _ _ items s past shared (λ p. c.bound-need.result ≡ bound (call_of g.L.RunName.script p.plain 1))
          (c.bound-need.ensures.value ∙ ap bound (call_is g.T.Turner.stands g.T.Turner.script g.T.Turner.beside _ _ _ _ items s 1 c.next.result
          (c.next.ensures s.world s.stands (lives_in_world g.T.Turner.stands g.T.Turner.script g.T.Turner.beside _ _ _ _ items s 1 alive)))),
    )

pub returns : goal.returns
returns g c = λ items past s shared. (
  (record { alive = (at_past g.T.Turner.stands g.T.Turner.script g.T.Turner.beside _ _ _ _ items s past shared (λ p. is_alive p.plain.table 1 ≡ true) (alive_is g.T.Turner.stands g.T.Turner.script g.T.Turner.beside _ _ _ _ items s 1 c.alive.result true (c.alive.ensures s.world s.stands) c.if-not-alive.false)); awake = subst (λ b. Says b (AllAsleep g.L.RunName.script items past)) c.if-all_asleep.false (c.all_asleep.ensures items past s shared) }),
  below_noted g.T.Turner.stands g.T.Turner.script g.T.Turner.beside _ _ _ _ items s (sym c.is_spent.ensures ∙ c.if-is_spent.false),
  sym s.starved ∙ c.if-self.false,
)
