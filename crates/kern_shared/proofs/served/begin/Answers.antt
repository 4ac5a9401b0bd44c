use Rattle.std.proofs.Common.{ap, sym, ◌∙◌, subst}
use mathlib.Core.List.{IsPrefix}
use Rattle.turn_words.specs.Items.{heard}
use Rattle.turn_words.specs.Rule.{AreGiven, AreIn, AreLast}
use Rattle.kern_shared.proofs.served.begin.Goals as goal

pub returns-then-look : goal.returns-then-look
returns-then-look g c =
    let here = c.loop.invariant in
    let looked = c.look.ensures.seat in
    let took = c.take.ensures.seat in
    let seen = ap (λ s. s.known.seen) looked ∙ here.seen in
    let mine = ap (λ s. s.known.mine) looked ∙ here.mine in
    record {
      turns = ap (λ s. s.turns) took ∙ ap (λ s. s.turns) looked ∙ here.turns ∙ sym c.requires.turns;
      out = ap (λ s. s.known.is_out) took;
      seen = subst (λ l. IsPrefix l c.take.new.seat.known.seen) seen c.take.ensures.seen.0;
      value = c.take.ensures.value;
      mine = ap (λ s. s.known.mine) took ∙ mine;
      placed = subst (λ l. AreIn l c.take.new.seat.known.seen) (sym (ap (λ s. s.known.mine) took)) c.take.ensures.mine.0;
      last = subst (λ l. AreLast l c.take.new.seat.known.seen) mine c.take.ensures.last;
      given = subst (λ l. AreGiven l (heard c.take.new.seat.known.seen)) mine c.take.ensures.mine.1;
      is_boot = ap (λ s. s.known.is_boot) took ∙ ap (λ s. s.known.is_boot) looked ∙ here.is_boot;
      others = ap (λ s. s.known.others) took ∙ ap (λ s. s.known.others) looked ∙ here.others;
    }
