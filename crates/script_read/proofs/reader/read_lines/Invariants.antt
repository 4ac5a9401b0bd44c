use Rattle.std.proofs.Common.{◌+◌, ◌≤◌, length}
use Rattle.script_read.specs.Reading.{lines_in}
use Rattle.script_read.proofs.Lines.{ReadTo}
use Rattle.script_read.proofs.reader.read_lines.Given as goal

-- what is read, and that the numbers of lines fit
abbrev pub invariant-loop-first : goal.invariant-loop-first
invariant-loop-first l = ReadTo l.fn.text l.state l.line l.rest × (lines_in l.state + 1 ≤ l.line) × (l.line + length l.rest ≤ 1048577)

abbrev pub decreases-loop-first : goal.decreases-loop-first
decreases-loop-first l = length l.rest
