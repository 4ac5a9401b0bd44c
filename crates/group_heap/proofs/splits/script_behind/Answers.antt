use Rattle.std.proofs.Common.{Err, subst, arith}
use Rattle.posix_defs.specs.ScriptText.{ReadsText}
use Rattle.script_read.specs.Reading.{Outcome}
use Rattle.group_heap.proofs.FirstFaults.{fault_line}
use Rattle.group_heap.proofs.splits.script_behind.Goals as goal

pub overflow_add-result : goal.overflow_add-result
overflow_add-result c =
    let reads = subst (λ e. Outcome (λ script. script) (Err e) (ReadsText c.args.text.now)) c.in-Err-Bad.field-0-is c.in-Err-Bad.ensures.reads in
    let within = fault_line c.args.text.now c.in-Err-Bad.fault reads in
    let few = c.requires in
    omega (arith, within, few)
