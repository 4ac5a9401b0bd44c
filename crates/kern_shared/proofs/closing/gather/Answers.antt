use Rattle.std.proofs.Common.{length, ap, ◌∙◌, arith}
use Rattle.turn_words.proofs.Lists.{prefix_trans}
use Rattle.kern_shared.proofs.Crew.{all_popped, last_goes, length_less, one_gone}
use Rattle.kern_shared.proofs.closing.gather.Goals as goal

pub loop-pass-preserved : goal.loop-pass-preserved
loop-pass-preserved g c =
    let here = c.loop-pass.invariant in
    let joined = c.join.ensures.seat in
    let left = last_goes _ _ _ _ c.pop.ensures.items c.in-Some.is in
    record {
      free = record { of_turns = ap (λ s. s.turns) joined ∙ here.free.of_turns; free = ap (λ s. s.known.has_ticket) joined ∙ here.free.free };
      first = record {
        boot = ap (λ s. s.known.is_boot) joined ∙ here.first.boot;
        counts = (let others = ap (λ s. s.known.others) joined in let counts = here.first.counts in let many = ap length left in let less = length_less c.pop.new.self.items c.in-Some.pass in omega (arith, others, counts, many, less));
      };
      left = (all_popped _ _ _ _ _ c.pop.ensures.items c.in-Some.is here.left).0;
      own = prefix_trans _ _ _ here.own c.join.ensures.seen.0;
      gone = one_gone _ _ _ _ _ _ _ (λ y begins. prefix_trans _ _ _ begins c.join.ensures.seen.0) c.pop.ensures.items c.in-Some.is c.join.ensures.seen.1 here.gone;
    }
