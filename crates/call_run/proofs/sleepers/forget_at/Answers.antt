use Rattle.std.proofs.Common.{ap, sym, subst, ◌∙◌}
use Rattle.call_run.specs.declared.sleepers.Sleeper.{Sleeper}
use Rattle.call_run.specs.Sleepers.{NamesMore}
use Rattle.call_run.proofs.Telling.{named_more, names_gone}
use Rattle.call_run.proofs.sleepers.forget_at.Goals as goal

pub returns-then-gone-clause-named : goal.returns-then-gone-clause-named
returns-then-gone-clause-named c =
    let told = c.args.told.now.items in
    let named = c.args.stirred.now.items in
    subst (λ ts. NamesMore told named ts c.push.new.self.items) (sym c.remove-gone.ensures.items)
    (names_gone told c.args.place c.remove-gone.result named c.push.new.self.items c.requires.rising c.requires.within
    (λ who none.
    let it = named_more named c.push.new.self.items c.remove-gone.result.pid who c.push.ensures.items none in
    (it.0, (λ same. absurd (it.1 (same ∙ sym (ap (λ (s : Sleeper). s.pid) c.remove-gone.ensures.value)))))))

pub returns-else-gone-clause-named : goal.returns-else-gone-clause-named
returns-else-gone-clause-named c =
    let told = c.args.told.now.items in
    let named = c.args.stirred.now.items in
    subst (λ ts. NamesMore told named ts named) (sym c.remove-gone.ensures.items)
    (names_gone told c.args.place c.remove-gone.result named named c.requires.rising c.requires.within
    (λ who none. (none, (λ same. sym (ap (λ (s : Sleeper). s.blocks) c.remove-gone.ensures.value) ∙ c.if-gone.false))))
