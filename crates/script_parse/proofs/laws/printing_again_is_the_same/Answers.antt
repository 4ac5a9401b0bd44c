use Rattle.std.proofs.Common.{ap}
use Rattle.posix_defs.specs.Canonical.{canonical}
use Rattle.script_parse.proofs.PrintedScripts.{printed_again}
use Rattle.script_parse.proofs.laws.printing_again_is_the_same.Goals as goal

pub returns : goal.returns
returns c = λ text script again says short other. let same = printed_again text script again says short other in (same, ap canonical same)
