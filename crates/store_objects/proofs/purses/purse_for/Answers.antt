use Rattle.std.proofs.Common.{◌≤◌, ◌∙◌, ap, subst, sym}
use Rattle.kabi_types.specs.Counts.{need_bytes}
use Rattle.posix_defs.specs.Needs.{bound}
use Rattle.store_objects.specs.Purses.{need_for}
use Rattle.store_objects.specs.declared.purses.Target.TheVariants.{File, Queue}
use Rattle.store_objects.proofs.Paying.{purse_fits}
use Rattle.store_objects.proofs.purses.purse_for.Goals as goal

pub returns-in-File-clause-within : goal.returns-in-File-clause-within
returns-in-File-clause-within c = λ which needed.
    subst (λ bytes. bytes ≤ bound which) (sym (c.of.ensures.bytes ∙ ap (λ n. need_bytes (need_for File n)) needed)) (purse_fits File which)

pub returns-in-Queue-clause-within : goal.returns-in-Queue-clause-within
returns-in-Queue-clause-within c = λ which needed.
    subst (λ bytes. bytes ≤ bound which) (sym (c.of-in-Queue.ensures.bytes ∙ ap (λ n. need_bytes (need_for Queue n)) needed)) (purse_fits Queue which)
