use Rattle.std.proofs.Common.{◌++◌, sym, subst, eqb-true}
use Rattle.std.specs.Prelude.{nat_eq}
use Rattle.std.specs.Option.{option_to_list}
use Rattle.std.specs.Map.{remove_entry}
use Rattle.std.specs.Cmp.{nat_eq_equiv}
use Rattle.lru_index.specs.Chain.{IsChain}
use Rattle.lru_index.proofs.Pairs.{put_back}
use Rattle.lru_index.proofs.chain.Chain.warm.Goals as goal

pub returns-clause-warmed : goal.returns-clause-warmed
returns-clause-warmed g c items h =
    let place = c.args.place in
    let entry = put_back nat_eq_equiv eqb-true items place c.remove-item.result (c.remove-item.ensures.item items h) in
    subst (λ o. IsChain c.add.new.self (remove_entry (nat_eq place) items ++ option_to_list o)) (sym entry) (c.add.ensures.added (remove_entry (nat_eq place) items) (c.remove-item.ensures.removed items h))
