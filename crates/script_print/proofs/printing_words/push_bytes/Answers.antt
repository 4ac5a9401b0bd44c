use Rattle.std.proofs.Common.{arith}
use Rattle.posix_defs.specs.Canonical.{shown}
use Rattle.script_print.proofs.Printed.{next_printed}
use Rattle.script_print.proofs.printing_words.push_bytes.Goals as goal

pub loop-byte-preserved : goal.loop-byte-preserved
loop-byte-preserved c = next_printed _ _ _ shown c.args.bytes.now c.loop-byte.byte-index 0 (omega arith) c.loop-byte.invariant c.push_byte.ensures
