use Rattle.std.proofs.Common.{◌+◌, if◌then◌else◌, sym, ap, ◌∙◌}
use Rattle.kern_tasks.specs.Runnable.{but_for, is_runnable, places_from}
use Rattle.kern_tasks.proofs.runnable.place_sleeper.Goals as goal

pub returns-then-sleeps-clause-items : goal.returns-then-sleeps-clause-items
returns-then-sleeps-clause-items g c = λ passes same.
    c.place_anew.ensures.items passes same
    ∙ ap (λ b. places_from (if b then but_for passes c.args.pid (is_runnable (g.T.Turner.settled c.args.store.now)) else passes) 0 c.args.tasks.now) (sym c.if-sleeps.true)

pub returns-else-sleeps-clause-items : goal.returns-else-sleeps-clause-items
returns-else-sleeps-clause-items g c = λ passes same.
    same ∙ ap (λ b. places_from (if b then but_for passes c.args.pid (is_runnable (g.T.Turner.settled c.args.store.now)) else passes) 0 c.args.tasks.now) (sym c.if-sleeps.false)
