use Rattle.std.proofs.Common.{sym, arith}
use Rattle.prog_ctl.proofs.PathLengths.{none_long}
use Rattle.prog_ctl.proofs.paths.has_long_component.Goals as goal

pub returns-then-path-le-NAME_MAX : goal.returns-then-path-le-NAME_MAX
returns-then-path-le-NAME_MAX c = sym (none_long c.args.path.now (omega arith))
