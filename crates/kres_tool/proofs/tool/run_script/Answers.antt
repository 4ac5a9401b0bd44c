use Rattle.std.proofs.Common.{Some, ap, subst, sym, ◌∙◌}
use Rattle.kern_tasks.specs.View.{HasBooted}
use Rattle.call_run.specs.Stores.{StoreView}
use Rattle.kres_tool.specs.Run.{stands}
use Rattle.kres_tool.proofs.Outcomes.{run_handed}
use Rattle.kres_tool.proofs.tool.run_script.Goals as goal

pub run_core-reported-requires-clause-booted : goal.run_core-reported-requires-clause-booted
run_core-reported-requires-clause-booted g c =
    subst (λ (store : StoreView). HasBooted stands store.script c.in_ok-core.core) (sym c.in_ok-core.ensures.store) c.in_ok-core.ensures.booted

pub returns : goal.returns
returns g c =
    run_handed c.args.script.now c.run_core-reported.new.core.store c.hand_out.new.store_out c.run_core-reported.result
    c.run_core-reported.ensures.script (c.hand_out.ensures ∙ ap Some c.close.ensures) c.run_core-reported.ensures.reported
