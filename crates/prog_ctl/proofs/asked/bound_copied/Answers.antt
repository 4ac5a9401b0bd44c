use Rattle.std.proofs.Common.{◌≡◌, map, ap, of_z, rules, sym, to_z, w64, ◌∙◌}
use Rattle.std.proofs.lemmas.Int.{to_z-of_z}
use Rattle.kabi_types.specs.Arguments.{is_number}
use Rattle.posix_defs.specs.Control.{value_of}
use Rattle.posix_defs.specs.Made.{made}
use Rattle.posix_defs.specs.Needs.{bound}
use Rattle.prog_ctl.proofs.Asking.{bound_other}
use Rattle.prog_ctl.proofs.asked.bound_copied.Goals as goal

pub returns-else-makes_copy : goal.returns-else-makes_copy
returns-else-makes_copy c =
    let numbers = map (value_of c.args.control.now) c.args.operands.now in
    let same : to_z w64 (of_z w64 c.operand_at-cmd.result) ≡ c.operand_at-cmd.result = search (rules, to_z-of_z) in
    let other = ap (is_number 0) (sym c.operand_at-cmd.ensures ∙ sym same) ∙ (sym c.makes_copy.ensures ∙ c.if-makes_copy.false) in
    sym (ap (λ which. bound (made which numbers c.args.texts.now c.args.control.now.done)) c.requires.copies
    ∙ bound_other numbers c.args.texts.now c.args.control.now.done other)
