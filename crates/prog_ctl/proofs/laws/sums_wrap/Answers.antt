use Rattle.std.proofs.Common.{ℤ, List, Option, None, Some, sym, ap, ◌∙◌}
use Rattle.std.specs.Prelude.{pos, neg_ℤ, slice_set}
use Rattle.std.specs.Int.{w64, int_wrapping_add}
use Rattle.kabi_types.specs.declared.scripts.Control.{Control}
use Rattle.prog_ctl.proofs.laws.sums_wrap.Goals as goal

abbrev registers : List ℤ → Option Control → List ℤ
registers default None = default
registers default (Some control) = control.regs

pub returns-clause-up : goal.returns-clause-up
returns-clause-up c = λ control next most leads.
    sym (ap (registers control.regs) leads) ∙ ap (λ r. slice_set control.regs 0 (int_wrapping_add w64 r (pos 1))) most

pub returns-clause-down : goal.returns-clause-down
returns-clause-down c = λ control next least leads.
    sym (ap (registers control.regs) leads) ∙ ap (λ r. slice_set control.regs 0 (int_wrapping_add w64 r (neg_ℤ (pos 1)))) least
