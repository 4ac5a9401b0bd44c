use Rattle.std.proofs.Common.{◌≡◌, List, ◌∙◌, subst}
use Rattle.std.specs.Prelude.{IfSome, IsNone}
use Rattle.std.specs.List.{All}
use Rattle.kabi_types.specs.declared.classes.Weight.{Weight}
use Rattle.victim_core.specs.Victims.{IsVictim}
use Rattle.store_objects.specs.Objects.{procs_of}
use Rattle.call_run.specs.Weights.{weights_in}
use Rattle.call_run.proofs.Choosing.{victim_is}
use Rattle.call_run.proofs.victims.victim.Goals as goal

pub returns : goal.returns
returns g c = λ script world stands.
    let are : c.as_slice.result.now ≡ weights_in c.args.objects.now.heap (procs_of c.args.objects.now) = c.as_slice.ensures.value ∙ c.weights_of.ensures.weights in
    victim_is script c.requires.kept.0 c.args.objects.now c.args.policy world c.choose.result c.requires.kept.1 c.heap_is_well_formed.ensures stands
    (subst (λ (ws : List Weight). IsNone c.choose.result → All (λ w. w.pid ≡ 1) ws) are c.choose.ensures.none.0)
    (subst (λ (ws : List Weight). IfSome c.choose.result (IsVictim c.args.policy ws)) are c.choose.ensures.victim)
