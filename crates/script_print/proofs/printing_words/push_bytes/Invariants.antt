use Rattle.std.proofs.Common.{take}
use Rattle.std.specs.List.{flat_map}
use Rattle.script_print.specs.Printing.{Adds}
use Rattle.posix_defs.specs.Canonical.{shown}
use Rattle.script_print.proofs.printing_words.push_bytes.Given as goal

abbrev pub invariant-loop-byte : goal.invariant-loop-byte
invariant-loop-byte l = Adds l.fn.out (flat_map shown (take l.byte-index l.bytes)) l.out
