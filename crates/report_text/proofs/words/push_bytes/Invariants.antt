use Rattle.std.proofs.Common.{◌≡◌, ◌++◌, string_bytes, take, codes}
use Rattle.std.specs.List.{flat_map}
use Rattle.posix_defs.specs.Lines.{hex_byte}
use Rattle.report_text.proofs.words.push_bytes.Given as goal

abbrev pub invariant-loop-byte : goal.invariant-loop-byte
invariant-loop-byte l = string_bytes l.out ≡ string_bytes l.fn.out ++ codes "x" ++ flat_map hex_byte (take l.byte-index l.bytes)
