use Rattle.std.proofs.Common.{◌≡◌, ◌≤◌, sym, ◌∙◌, arith}
use Rattle.std.proofs.lemmas.Fmt.{decimal_injective}
use Rattle.kres_tool.proofs.commands.workers_of.Goals as goal

pub returns-in-0-clause-none : goal.returns-in-0-clause-none
returns-in-0-clause-none c = λ n least few is.
    let read = c.in_ok-workers.workers in
    let within : read ≤ 64 = c.in_ok-workers.ensures.some.1 in
    let zero : read ≡ 0 = c.in-0.is in
    let same : n ≡ read = decimal_injective n read (omega arith) (omega arith) (sym is ∙ c.in_ok-workers.ensures.some.0) in
    omega arith
