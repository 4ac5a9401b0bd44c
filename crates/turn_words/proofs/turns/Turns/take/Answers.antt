use Rattle.std.proofs.Common.{rules, sym, ap, ◌∙◌, ◌∷◌}
use Rattle.std.specs.Prelude.{Some}
use Rattle.atomic_table.specs.Table.{rest}
use Rattle.turn_words.proofs.Turning.{takes_out}
use Rattle.turn_words.proofs.turns.Turns.take.Goals as goal

pub load-requires : goal.load-requires
load-requires g c = (
  search rules,
  search rules,
  takes_out g.T.Chronicle.stands _ _ _ c.seat.invariant.in_use (search rules) (search rules) (search rules),
)

pub exchange-requires : goal.exchange-requires
exchange-requires g c =
    let told = c.load.ensures.2 in
    let has = ap (λ m. m.1) told.2 in
    (search rules, (Some told.0, has ∙ ap (λ l. (0, Some told.0) ∷ l) (sym (ap rest has))))
