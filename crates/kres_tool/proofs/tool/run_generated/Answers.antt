use Rattle.std.proofs.Common.{subst, sym}
use Rattle.posix_defs.specs.ValidScript.{IsValid}
use Rattle.kres_tool.proofs.tool.run_generated.Goals as goal

pub run_summed-summed-requires-clause-valid : goal.run_summed-summed-requires-clause-valid
run_summed-summed-requires-clause-valid g c = subst IsValid (sym c.in_ok-script.ensures) (c.generated_scripts_are_valid.ensures c.args.rounds c.requires)
