use Rattle.std.proofs.Common.{map, sym}
use Rattle.posix_defs.specs.Control.{value_of}
use Rattle.prog_ctl.proofs.Waiting.{waits_for_none}
use Rattle.prog_ctl.proofs.made.awaited.Goals as goal

pub returns-in_default : goal.returns-in_default
returns-in_default c =
    sym (waits_for_none c.args.kind (map (value_of c.args.control.now) c.args.operands.now) c.args.texts.now c.args.control.now.done
    c.in_default.not-Waitpid c.in_default.not-Read c.in_default.not-Write c.in_default.not-Accept c.in_default.not-Poll c.in_default.not-OpenFile c.in_default.not-Setlkw)
