use Rattle.std.proofs.Common.{Some, ap, sym, ◌∙◌}
use Rattle.posix_defs.specs.ScriptValues.{value, each}
use Rattle.script_words.proofs.Faults.{so_far, joined, followed, said_more, fault_more}
use Rattle.script_words.proofs.operands.operands_of.Goals as goal

pub loop-word-preserved-in_ok-push-in-Ok : goal.loop-word-preserved-in_ok-push-in-Ok
loop-word-preserved-in_ok-push-in-Ok c =
    let before = joined (so_far c.loop-word.fault c.loop-word.said.items) in
    c.loop-word.invariant ∙ ap (λ rest. before (each value rest)) c.in-Some.ensures.cases.0
    ∙ ap (λ said. before (followed said (each value c.in-Some.next.now))) (sym c.in-Ok.ensures)
    ∙ said_more c.loop-word.fault c.loop-word.said.items c.in-Ok.operand (each value c.in-Some.next.now)
    ∙ ap (λ items. joined (so_far c.loop-word.fault items) (each value c.in-Some.next.now)) (sym c.in_ok-push-in-Ok.ensures.items)

pub loop-word-preserved : goal.loop-word-preserved
loop-word-preserved c =
    let before = joined (so_far c.loop-word.fault c.loop-word.said.items) in
    c.loop-word.invariant ∙ ap (λ rest. before (each value rest)) c.in-Some.ensures.cases.0
    ∙ ap (λ said. before (followed said (each value c.in-Some.next.now))) (sym c.in-Err.ensures)
    ∙ fault_more c.loop-word.fault c.loop-word.said.items c.in-Err.kind (each value c.in-Some.next.now)
    ∙ ap (λ kind. joined (so_far (Some kind) c.loop-word.said.items) (each value c.in-Some.next.now)) (sym c.with_least.ensures)
