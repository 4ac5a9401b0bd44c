use Rattle.std.proofs.Common.{rules, sym, ap, ◌∙◌, ◌∷◌, [], true, ◌≡◌}
use Rattle.std.specs.Prelude.{Some}
use Rattle.atomic_table.specs.Table.{rest}
use Rattle.turn_words.proofs.Seated.{one_slot}
use Rattle.turn_words.proofs.Turning.{lays, notes}
use Rattle.turn_words.proofs.turns.Turns.put.Goals as goal

pub load-requires : goal.load-requires
load-requires g c =
    let out : c.seat.inside.seat.me.0.is_out ≡ true = search rules in
    let now = c.exchange.ensures.3 in
    let empty = one_slot _ c.seat.inside.seat.me c.seat.invariant out in
    let carried = ap (λ m. m.1) now ∙ ap (λ l. (0, Some c.args.value) ∷ rest l) empty in (
      search rules,
      search rules,
      notes g.T.Chronicle.stands _ _ _ c.args.value carried (search rules) (search rules) (search rules),
    )

pub load-requires-2 : goal.load-requires-2
load-requires-2 g c =
    let told = c.load.ensures.2 in
    let carried = ap (λ m. m.1) told.3 ∙ told.2 ∙ ap (λ v. (0, v) ∷ []) (sym (ap (λ m. m.0.value) told.3)) in (
      search rules,
      search rules,
      lays g.T.Chronicle.stands _ _ _ (search rules) carried (search rules) (search rules) (search rules),
    )
