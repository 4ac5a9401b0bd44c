use Rattle.std.proofs.Common.{◌++◌, [], false, append-nil, refl, sym, ap, ◌∙◌}
use Rattle.kern_tasks.specs.Runnable.{born_place, is_runnable, places_from, turned_test}
use Rattle.kern_tasks.proofs.Runnables.{same_places}
use Rattle.kern_tasks.proofs.runnable.sort_turned.Goals as goal

pub returns-then-is_plain-clause-items : goal.returns-then-is_plain-clause-items
returns-then-is_plain-clause-items g c = λ e passes same.
    let anew = is_runnable (g.T.Turner.settled c.args.store.now) in
    sym (append-nil c.args.runnable.now.items)
    ∙ ap (λ b. c.args.runnable.now.items ++ born_place c.args.tasks.now b) (sym (c.is_plain.ensures.born c.if-is_plain.true)) ∙ same
    ∙ same_places passes (turned_test passes c.args.pid false [] anew) 0 c.args.tasks.now (λ task. refl)
    ∙ ap (λ b. places_from (turned_test passes c.args.pid b [] anew) 0 c.args.tasks.now) (sym (c.is_plain.ensures.sleeps c.if-is_plain.true))
    ∙ ap (λ pids. places_from (turned_test passes c.args.pid c.args.sleeps pids anew) 0 c.args.tasks.now) (sym (c.is_plain.ensures.stirred c.if-is_plain.true))
