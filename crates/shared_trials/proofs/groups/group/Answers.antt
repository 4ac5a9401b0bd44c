use Rattle.std.proofs.Common.{◌≡◌, refl, sym, ap, ◌∙◌, subst}
use Rattle.kern_tasks.specs.View.{HasBooted}
use Rattle.posix_defs.specs.ValidScript.{IsValid}
use Rattle.shared_trials.specs.declared.pair.Pair.{Pair}
use Rattle.shared_trials.specs.Pair.{pair, world_at}
use Rattle.shared_trials.proofs.ValidPair.{pair_valid}
use Rattle.shared_trials.proofs.groups.group.Goals as goal

pub returns : goal.returns
returns c =
    let own = c.in_ok-script.ensures in
    let kept = c.in_ok-core.ensures.store in
    record {
      valid = subst IsValid (sym own) (pair_valid c.args.heap c.requires.least c.requires.most);
      booted = subst (λ (store : Pair). HasBooted (λ (store : Pair) world. world ≡ world_at store.scene store.cached) (pair store.heap) c.in_ok-core.core) (sym kept) c.in_ok-core.ensures.booted;
      script = own ∙ sym (ap pair (ap (λ (store : Pair). store.heap) kept ∙ c.at_boot.ensures.0));
      steps = c.in_ok-core.ensures.steps;
      seat = refl;
      waits = refl;
    }
