use Rattle.std.proofs.Common.{◌∙◌, ap, false, sym, true}
use Rattle.std.specs.Option.{option_map}
use Rattle.posix_defs.specs.Calls.Opened.{if_writable}
use Rattle.proc_numbers.specs.Found.{opened_in}
use Rattle.proc_numbers.proofs.MayMove.{isnt_open, may_be_written}
use Rattle.proc_numbers.proofs.NumberCloses.{no_some}
use Rattle.proc_numbers.proofs.OpenedBy.{opened_is}
use Rattle.proc_numbers.proofs.lookups.Named.writable.Goals as goal

pub returns-then-is_writable-clause-found : goal.returns-then-is_writable-clause-found
returns-then-is_writable-clause-found c = λ h kept pid numbers script plain answer opened have.
    may_be_written script numbers plain pid c.args.self.now.fd answer c.in-Some.found
    (opened_is h kept pid c.args.self.now opened numbers plain.files have ∙ ap (option_map (opened_in numbers)) c.in-Some.is) true (sym c.is_writable.ensures ∙ c.if-is_writable.true)

pub returns-else-is_writable-clause-found : goal.returns-else-is_writable-clause-found
returns-else-is_writable-clause-found c = λ h kept pid numbers script plain answer opened have.
    may_be_written script numbers plain pid c.args.self.now.fd answer c.in-Some.found
    (opened_is h kept pid c.args.self.now opened numbers plain.files have ∙ ap (option_map (opened_in numbers)) c.in-Some.is) false (sym c.is_writable.ensures ∙ c.if-is_writable.false)

pub returns-in_default-clause-found : goal.returns-in_default-clause-found
returns-in_default-clause-found c = λ h kept pid numbers script plain answer opened have.
    isnt_open script numbers plain pid c.args.self.now.fd answer (λ it. if_writable script plain pid it (answer it))
    (opened_is h kept pid c.args.self.now opened numbers plain.files have ∙ ap (option_map (opened_in numbers)) (no_some c.args.self.now.found c.in_default.not-Some))
