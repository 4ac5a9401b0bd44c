use Rattle.std.proofs.Common.{◌≡◌, ◌++◌, string_bytes, take}
use Rattle.run_report.specs.Histories.{entry_lines}
use Rattle.run_report.proofs.texts.push_entries.Given as goal

abbrev pub invariant-loop-index : goal.invariant-loop-index
invariant-loop-index l = string_bytes l.out ≡ string_bytes l.fn.out ++ entry_lines 1 (take l.index l.entries)
