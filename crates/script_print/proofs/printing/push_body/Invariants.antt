use Rattle.std.proofs.Common.{take}
use Rattle.std.specs.List.{flat_map}
use Rattle.script_print.specs.Printing.{Adds}
use Rattle.posix_defs.specs.Canonical.{line_text, statement_words}
use Rattle.script_print.proofs.printing.push_body.Given as goal

abbrev pub invariant-loop-statement : goal.invariant-loop-statement
invariant-loop-statement l = Adds l.fn.out (flat_map (λ statement. line_text (statement_words l.body statement)) (take l.statement-index l.body)) l.out
