use Rattle.std.proofs.Common.{arith}
use Rattle.std.specs.List.{flat_map}
use Rattle.posix_defs.specs.Canonical.{line_text, program_lines}
use Rattle.script_print.proofs.Printed.{all_lists_printed, next_item}
use Rattle.script_print.proofs.printing.push_programs.Goals as goal

pub loop-program-preserved : goal.loop-program-preserved
loop-program-preserved c =
    next_item _ _ _ (λ program. flat_map line_text (program_lines program)) c.args.programs.now c.loop-program.program-index _ (omega arith)
    c.program-item.is c.loop-program.invariant c.push_program.ensures

pub returns : goal.returns
returns c = all_lists_printed _ _ line_text program_lines c.loop-program.program-index c.args.programs.now (omega arith) c.loop-program.invariant
