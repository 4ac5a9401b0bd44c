use Rattle.std.proofs.Common.{rules}
use Rattle.charge_words.proofs.Steps.{loads, reserves}
use Rattle.charge_words.proofs.charges.Charge.try_reserve.Goals as goal

pub load-charged-requires : goal.load-charged-requires
load-charged-requires c = (search rules, search rules, loads _ _ _ _ (search rules))

pub compare_exchange-found-requires : goal.compare_exchange-found-requires
compare_exchange-found-requires c = (
  search rules,
  search rules,
  reserves _ _ _ _ _ _ (search rules) (search rules) (search rules),
)
