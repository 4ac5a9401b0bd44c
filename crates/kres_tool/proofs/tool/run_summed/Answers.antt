use Rattle.std.proofs.Common.{Some, ap, subst, sym, ◌∙◌}
use Rattle.kern_tasks.specs.View.{HasBooted}
use Rattle.call_run.specs.Stores.{StoreView}
use Rattle.kres_tool.specs.Run.{stands}
use Rattle.kres_tool.proofs.Outcomes.{load_handed}
use Rattle.kres_tool.proofs.tool.run_summed.Goals as goal

pub sum_up_core-summed-requires-clause-booted : goal.sum_up_core-summed-requires-clause-booted
sum_up_core-summed-requires-clause-booted g c =
    subst (λ (store : StoreView). HasBooted stands store.script c.in_ok-core.core) (sym c.in_ok-core.ensures.store) c.in_ok-core.ensures.booted

pub returns : goal.returns
returns g c =
    load_handed c.args.rounds c.args.script.now c.sum_up_core-summed.new.core.store c.hand_out.new.store_out c.sum_up_core-summed.result
    c.requires.script c.sum_up_core-summed.ensures.script (c.hand_out.ensures ∙ ap Some c.close.ensures) c.sum_up_core-summed.ensures.summed
