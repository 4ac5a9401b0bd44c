use Rattle.std.proofs.Common.{◌≡◌, ℕ, ◌+◌, ◌-◌, ◌%◌, ◌^◌, ◌≤◌, ◌<◌, ap, sym, ◌∙◌, subst, arith}
use Rattle.charge_words.specs.Names.{seat_of}
use Rattle.charge_words.specs.Rule.{holding, settled, taken_in}
use Rattle.charge_words.proofs.charges.Charge.settle.Goals as goal

-- the rest of what a number has above another, taken away modulo 2^64, leaves the other
rest_leaves : (holds number kept : ℕ) → number ≡ holds % 2 ^ 64 → holds < 2 ^ 64 → kept ≤ holds → holds - (number + (2 ^ 64 - kept)) % 2 ^ 64 ≡ kept
rest_leaves holds number kept is fits most = omega arith

one_more_and_less : (n : ℕ) → n + 1 - 1 ≡ n
one_more_and_less n = omega arith

pub returns-clause-into : goal.returns-clause-into
returns-clause-into c =
    let known = c.args.into.now.known in
    let joined = c.join.ensures ∙ ap (λ s. seat_of s.charge (taken_in s.known c.args.from.known)) c.split-new.ensures.seat in
    let holds : c.join.new.into.known.holds ≡ known.holds + c.args.from.known.holds = ap (λ s. s.known.holds) joined in
    let number : c.into.inside.holds ≡ c.join.new.into.known.holds % 2 ^ 64 = c.into.invariant.2 ∙ ap (λ s. s.known.holds % 2 ^ 64) c.into.view_is in
    let left = rest_leaves c.join.new.into.known.holds c.into.inside.holds c.args.kept number c.give_back.ensures.room.1 (subst (λ (k : ℕ). c.args.kept ≤ k) (sym holds) c.requires.kept) in
    c.give_back.ensures.seat ∙ ap (λ k. seat_of c.join.new.into.charge (holding c.join.new.into.known k)) left ∙ ap (λ s. seat_of s.charge (holding s.known c.args.kept)) joined
    ∙ ap (λ (k : ℕ). seat_of c.args.into.now.charge (record (settled known c.args.from.known c.args.kept) { others = k })) (one_more_and_less known.others)
