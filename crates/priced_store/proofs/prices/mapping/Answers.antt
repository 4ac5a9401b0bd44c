use Rattle.std.proofs.Common.{◌*◌, ◌≤◌, ap, subst, sym, w64, ◌∙◌}
use Rattle.std.proofs.lemmas.Int.{to_z-of_z}
use Rattle.kabi_types.specs.declared.calls.Call.TheVariants as call
use Rattle.posix_defs.specs.Needs.{bound}
use Rattle.priced_store.specs.Prices.{groups_of}
use Rattle.priced_store.proofs.MapsSteps.{map_within}
use Rattle.priced_store.proofs.prices.mapping.Goals as goal

pub returns-clause-within : goal.returns-clause-within
returns-clause-within c =
    subst (λ n. 512 * n ≤ bound (call.Mmap c.args.length)) (sym (c.groups_of.ensures.value ∙ ap groups_of (to_z-of_z w64 c.args.length c.ranges.length)))
    (map_within c.args.length)
