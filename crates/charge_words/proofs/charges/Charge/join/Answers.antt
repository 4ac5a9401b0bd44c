use Rattle.std.proofs.Common.{rules}
use Rattle.charge_words.proofs.Steps.{joins}
use Rattle.charge_words.proofs.charges.Charge.join.Goals as goal

pub join_seat-requires : goal.join_seat-requires
join_seat-requires c = (
  search rules,
  search rules,
  search rules,
  search rules,
  joins _ _ _ _ _ (search rules) (search rules) (search rules),
)
