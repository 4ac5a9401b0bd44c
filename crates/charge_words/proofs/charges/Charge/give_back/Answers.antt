use Rattle.std.proofs.Common.{rules, ◌≡◌, ℕ, ◌<◌, ◌≤◌, ap, ◌∙◌, arith}
use Rattle.charge_words.proofs.Steps.{gives_back}
use Rattle.charge_words.proofs.charges.Charge.give_back.Goals as goal

pub fetch_sub-requires : goal.fetch_sub-requires
fetch_sub-requires c = (search rules, search rules, gives_back _ _ _ _ _ c.seat.invariant.1 (search rules))

pub returns-clause-room : goal.returns-clause-room
returns-clause-room c =
    let word : ℕ = c.fetch_sub.result in
    let fits : word < 18446744073709551616 = c.fetch_sub.type_inv in
    let below : word ≤ c.seat.inside.seat.me.0.heap = c.fetch_sub.ensures.2.1.0 in
    let above : c.seat.inside.seat.me.0.holds ≤ word = c.fetch_sub.ensures.2.1.1 in
    let heap : c.seat.inside.seat.me.0.heap ≡ c.args.self.now.heap = ap (λ s. s.charge.heap) c.seat.view_is ∙ ap (λ w. w.heap) c.requires.charge in
    let holds : c.seat.inside.seat.me.0.holds ≡ c.args.seat.now.known.holds = ap (λ s. s.known.holds) c.seat.view_is in
    (omega arith, omega arith)
