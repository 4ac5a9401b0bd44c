use Rattle.std.proofs.Common.{◌∙◌, ap, sym, subst}
use Rattle.posix_defs.specs.Control.{after, after_at, afresh, settled, statement_of}
use Rattle.prog_ctl.specs.Runnable.{Rests}
use Rattle.prog_ctl.proofs.Settling.{rests_settled}
use Rattle.store_objects.proofs.going_on.behind.Goals as goal

pub returns-clause-leads : goal.returns-clause-leads
returns-clause-leads c = λ before leads.
    let script = c.args.script.now in
    let reply = c.args.reply.now in
    ap (settled script)
    (sym (ap (λ here. afresh (after_at here reply (statement_of script here))) (rests_settled script (settled script before) (subst (Rests script) (sym leads) c.requires.rests)))
    ∙ ap (λ control. after script control reply) leads ∙ sym c.answer.ensures.after)
    ∙ sym c.go_to_call.ensures.settled
