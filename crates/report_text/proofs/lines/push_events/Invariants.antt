use Rattle.std.proofs.Common.{◌≡◌, ◌++◌, string_bytes, take}
use Rattle.posix_defs.specs.Lines.{event_lines}
use Rattle.report_text.proofs.lines.push_events.Given as goal

abbrev pub invariant-loop-index : goal.invariant-loop-index
invariant-loop-index l = string_bytes l.out ≡ string_bytes l.fn.out ++ event_lines 1 (take l.index l.run)
