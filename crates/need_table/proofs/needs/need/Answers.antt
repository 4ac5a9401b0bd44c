use Rattle.std.proofs.Common.{◌≡◌, true, false, None, Some, Result, Ok, Err, refl, sym, ◌∙◌, rules}
use Rattle.std.specs.Result.{is_err, result_err}
use Rattle.kabi_types.specs.declared.errnos.Errno.{Errno}
use Rattle.posix_defs.specs.Sizes.{no_need}
use Rattle.posix_defs.proofs.PriceLemmas.{right_needs, wrong_needs}
use Rattle.need_table.proofs.needs.need.Goals as goal

-- the fault of an error, and that there is none
fault_of : (result : Result (Unit {0}) Errno) → is_err result ≡ true → (errno : Errno) × (result_err result ≡ Some errno)
fault_of (Ok x) wrong = cc
fault_of (Err errno) wrong = (errno, refl)

no_fault : (result : Result (Unit {0}) Errno) → is_err result ≡ false → result_err result ≡ None
no_fault (Ok x) right = refl
no_fault (Err errno) right = cc

pub returns-then-is_err-clause-objects : goal.returns-then-is_err-clause-objects
returns-then-is_err-clause-objects c =
    let fault = fault_of c.checked.result (sym c.is_err.ensures.value ∙ c.if-is_err.true) in
    let nothing : c.default.result ≡ no_need = search rules in
    nothing ∙ sym (wrong_needs c.args.call.now fault.0 (sym c.checked.ensures ∙ fault.1))

pub returns-then-is_err-clause-stored : goal.returns-then-is_err-clause-stored
returns-then-is_err-clause-stored c = λ right.
    let fault = fault_of c.checked.result (sym c.is_err.ensures.value ∙ c.if-is_err.true) in
    absurd (cc (fault.1, c.checked.ensures, right))

pub returns-else-is_err-clause-objects : goal.returns-else-is_err-clause-objects
returns-else-is_err-clause-objects c =
    c.objects.ensures.objects ∙ sym (right_needs c.args.call.now (sym c.checked.ensures ∙ no_fault c.checked.result (sym c.is_err.ensures.value ∙ c.if-is_err.false)))
