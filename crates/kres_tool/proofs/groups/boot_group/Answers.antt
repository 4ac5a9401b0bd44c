use Rattle.std.proofs.Common.{refl, sym, ap, ◌∙◌, subst}
use Rattle.kern_tasks.specs.View.{HasBooted}
use Rattle.posix_defs.specs.ValidScript.{IsValid}
use Rattle.call_run.specs.Stores.{StoreView}
use Rattle.kres_tool.specs.Run.{stands}
use Rattle.kres_tool.proofs.groups.boot_group.Goals as goal

pub returns-clause-start : goal.returns-clause-start
returns-clause-start g c = record {
  valid = subst IsValid (sym c.in_ok-own.ensures) c.requires;
  booted = subst (λ (store : StoreView). HasBooted stands store.script c.in_ok-core.core) (sym c.in_ok-core.ensures.store) c.in_ok-core.ensures.booted;
  script = c.in_ok-own.ensures ∙ sym c.in_ok-store.ensures.script ∙ sym (ap (λ (store : StoreView). store.script) c.in_ok-core.ensures.store);
  steps = c.in_ok-core.ensures.steps ∙ sym (ap (λ script. script.steps) c.in_ok-own.ensures);
  seat = refl;
  waits = refl;
}
