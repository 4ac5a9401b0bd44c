use Rattle.std.proofs.Common.{◌∷◌, ◌++◌, [], length, ap, sym, ◌∙◌, subst}
use Rattle.turn_words.proofs.Notes.{heard_more, may_put}
use Rattle.kern_shared.proofs.served.end.Goals as goal

pub put-requires-clause-stands : goal.put-requires-clause-stands
put-requires-clause-stands g c =
    may_put g.S.Chronicle.stands c.args.seat.now.known.seen c.args.value c.args.item
    (subst (λ l. g.S.Chronicle.stands c.args.value l) (sym (heard_more c.args.seat.now.known.seen c.args.item)) c.requires.stands)

pub pass_on-requires-clause-more : goal.pass_on-requires-clause-more
pass_on-requires-clause-more g c =
    rw c.put.ensures.seat (subst (λ l. g.S.Chronicle.stands c.args.value l) (sym (heard_more c.args.seat.now.known.seen c.args.item)) c.requires.stands)

pub returns : goal.returns
returns g c =
    let passed = c.pass_on.ensures in
    let put = c.put.ensures.seat in
    record {
      turns = ap (λ s. s.turns) passed ∙ ap (λ s. s.turns) put;
      free = ap (λ s. s.known.has_ticket) passed;
      seen = ap (λ s. s.known.seen) passed ∙ ap (λ s. s.known.seen ++ c.args.item ∷ []) put;
      mine = ap (λ s. s.known.mine) passed ∙ ap (λ s. s.known.mine ++ (length s.known.seen, c.args.item) ∷ []) put;
      value = ap (λ s. s.known.value) passed ∙ ap (λ s. s.known.value) put;
      is_boot = ap (λ s. s.known.is_boot) passed ∙ ap (λ s. s.known.is_boot) put;
      others = ap (λ s. s.known.others) passed ∙ ap (λ s. s.known.others) put;
    }
