use Rattle.std.proofs.Common.{take}
use Rattle.std.specs.List.{flat_map}
use Rattle.script_print.specs.Printing.{Adds}
use Rattle.posix_defs.specs.Canonical.{line_text, program_lines}
use Rattle.script_print.proofs.printing.push_programs.Given as goal

abbrev pub invariant-loop-program : goal.invariant-loop-program
invariant-loop-program l = Adds l.fn.out (flat_map (λ program. flat_map line_text (program_lines program)) (take l.program-index l.programs)) l.out
