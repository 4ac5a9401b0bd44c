use Rattle.std.proofs.Common.{◌∙◌, sym, arith}
use Rattle.desc_table.proofs.NumberLemmas.{none_from}
use Rattle.proc_numbers.proofs.sharing.first_from.Goals as goal
use Rattle.kabi_types.specs.Arguments.{most_descriptors}

pub returns-else-from-clause-lowest : goal.returns-else-from-clause-lowest
returns-else-from-clause-lowest c = λ descriptors long.
    let past = c.if-from.false in
    none_from most_descriptors descriptors (omega (arith, long)) ∙ sym (none_from c.args.from descriptors (omega (arith, long, past)))
