use Rattle.std.proofs.Common.{◌≡◌, ◌≤◌, IfSome, Some, length, map, rules, ap, sym, ◌∙◌, subst}
use Rattle.std.specs.List.{AllByRecursion}
use Rattle.std.specs.Prelude.{option_copied}
use Rattle.kabi_types.specs.declared.scripts.Statement.TheVariants.{Invoke}
use Rattle.posix_defs.specs.Control.{call_at, value_of}
use Rattle.posix_defs.specs.Made.{made}
use Rattle.posix_defs.specs.ScriptLines.{shape_of}
use Rattle.prog_ctl.specs.Runnable.{IsRunnableAt, most_text}
use Rattle.prog_ctl.specs.Waits.{wait_of}
use Rattle.prog_ctl.proofs.made.wait_at.Goals as goal

pub awaited-requires-clause-texts : goal.awaited-requires-clause-texts
awaited-requires-clause-texts c =
    let i = c.in-Some-Invoke in
    let here : option_copied c.args.statement ≡ Some (Invoke i.kind i.operands i.texts i.field-0-3 i.field-0-4) = search rules in
    let runs : IsRunnableAt c.args.control.now.place (Invoke i.kind i.operands i.texts i.field-0-3 i.field-0-4) =
    subst (λ o. IfSome o (IsRunnableAt c.args.control.now.place)) here c.requires in
    subst (AllByRecursion (λ text. length text ≤ most_text (shape_of i.kind))) (sym c.items-in-Some-Invoke.ensures) runs.1

pub returns-in-Some-Invoke : goal.returns-in-Some-Invoke
returns-in-Some-Invoke c =
    let i = c.in-Some-Invoke in
    let here : option_copied c.args.statement ≡ Some (Invoke i.kind i.operands i.texts i.field-0-3 i.field-0-4) = search rules in
    let control = c.args.control.now in
    c.awaited.ensures
    ∙ ap (λ operands. wait_of (made i.kind (map (value_of control) operands) c.items-in-Some-Invoke.result.now control.done)) c.items.ensures
    ∙ ap (λ texts. wait_of (made i.kind (map (value_of control) i.operands) texts control.done)) c.items-in-Some-Invoke.ensures
    ∙ ap (λ statement. wait_of (call_at control statement)) (sym here)
