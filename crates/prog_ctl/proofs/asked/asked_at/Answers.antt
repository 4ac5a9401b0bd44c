use Rattle.std.proofs.Common.{◌≤◌, IfSome, Option, Some, length, ap, sym, ◌∙◌, subst}
use Rattle.std.specs.List.{AllByRecursion}
use Rattle.std.specs.Prelude.{option_copied}
use Rattle.kabi_types.specs.declared.scripts.Statement.{Statement}
use Rattle.kabi_types.specs.declared.scripts.Statement.TheVariants.{Invoke}
use Rattle.posix_defs.specs.ScriptLines.{shape_of}
use Rattle.prog_ctl.specs.Runnable.{IsRunnableAt, most_text}
use Rattle.posix_defs.specs.Control.{call_at}
use Rattle.prog_ctl.specs.Waits.{asked_for}
use Rattle.prog_ctl.proofs.Asking.{asked_elsewhere, asked_to_exit}
use Rattle.prog_ctl.proofs.asked.asked_at.Goals as goal

pub returns-in_default : goal.returns-in_default
returns-in_default c = c.asking.ensures ∙ sym asked_to_exit ∙ ap (λ here. asked_for (call_at c.args.control.now (option_copied here))) (sym c.in_default.is)

pub returns-in_default-statement : goal.returns-in_default-statement
returns-in_default-statement c =
    c.asking-in_default-statement.ensures ∙ sym (asked_elsewhere c.args.control.now c.in-Some.statement.now c.in_default-statement.not-Invoke)
    ∙ ap (λ here. asked_for (call_at c.args.control.now (option_copied here))) (sym c.in-Some.is)

pub bound_of-requires-clause-texts : goal.bound_of-requires-clause-texts
bound_of-requires-clause-texts c =
    let here : Option Statement = option_copied c.args.statement in
    let said : IfSome here (IsRunnableAt c.args.control.now.place) = c.requires in
    let runs : IsRunnableAt c.args.control.now.place (Invoke c.in-Invoke.kind c.in-Invoke.operands c.in-Invoke.texts c.in-Invoke.first c.in-Invoke.second) =
    subst (λ o. IfSome o (IsRunnableAt c.args.control.now.place)) (ap option_copied c.in-Some.is ∙ ap Some c.in-Invoke.is) said in
    subst (AllByRecursion (λ text. length text ≤ most_text (shape_of c.in-Invoke.kind))) (sym c.items-2.ensures) runs.1
