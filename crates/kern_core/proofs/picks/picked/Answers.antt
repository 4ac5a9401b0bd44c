use Rattle.std.proofs.Common.{Some, IfSome, IsSome, sym, subst}
use Rattle.kern_laws.proofs.Picking.{some_is_named}
use Rattle.kern_laws.proofs.Sounds.{is_sound}
use Rattle.kern_tasks.specs.View.{CanTake, MayTake}
use Rattle.kern_core.proofs.PickedRuns.{may_take}
use Rattle.kern_core.proofs.picks.picked.Goals as goal
use Rattle.kern_tasks.proofs.Defaults.{default_may}

pub unwrap-requires : goal.unwrap-requires
unwrap-requires g c =
    let here = c.requires.goes_on in
    subst IsSome (sym (c.named.ensures.named here.state here.is_at (is_sound here.runs)))
    (some_is_named (g.T.Turner.script c.args.core.now.store) here.state (Some c.in-Some.number) here.some)

pub unwrap-requires-in-None : goal.unwrap-requires-in-None
unwrap-requires-in-None g c =
    let here = c.requires.goes_on in
    subst IsSome (sym (c.first_choice.ensures here.state here.is_at (is_sound here.runs))) here.some

pub returns-in-Some-clause-may : goal.returns-in-Some-clause-may
returns-in-Some-clause-may g c =
    let script = g.T.Turner.script c.args.core.now.store in
    may_take g.T.Turner.stands script c.args.core.now c.unwrap.result
    (subst (λ answer. IfSome answer (CanTake g.T.Turner.stands script c.args.core.now)) c.unwrap.ensures c.named.ensures.may) c.requires.no_end

pub returns-in-None-clause-may : goal.returns-in-None-clause-may
returns-in-None-clause-may g c =
    let script = g.T.Turner.script c.args.core.now.store in
    subst (λ answer. IfSome answer (MayTake g.T.Turner.stands script c.args.core.now)) c.unwrap-in-None.ensures
    (default_may g.T.Turner.stands script c.args.core.now c.first_choice.result c.requires.goes_on c.requires.no_end c.first_choice.ensures)
