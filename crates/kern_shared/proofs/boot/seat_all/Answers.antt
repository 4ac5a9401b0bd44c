use Rattle.std.proofs.Common.{◌≡◌, ℕ, None, false, length, refl, ap, sym, ◌∙◌, subst, arith}
use Rattle.std.specs.List.{AllByRecursion}
use Rattle.turn_words.specs.Rule.{opened, with_one_more}
use Rattle.turn_words.specs.Seats.{seat_of}
use Rattle.kern_shared.specs.Closing.{IsEmpty}
use Rattle.kern_shared.specs.Passes.{IsAtRest}
use Rattle.kern_shared.specs.declared.passes.Pass.{Pass}
use Rattle.kern_shared.proofs.Booting.{rests_at_boot}
use Rattle.kern_shared.proofs.Crew.{all_more, all_popped, last_goes, length_less}
use Rattle.kern_shared.proofs.boot.seat_all.Goals as goal

pub loop-own-preserved : goal.loop-own-preserved
loop-own-preserved g c =
    let P : Pass g.row.T.Denot g.row.L.Denot → Type 0 = λ p. IsAtRest g.L.RunName.script g.L.RunName.steps g.L.RunName.charge c.args.turns.now p.turn p.own p.given × (p.given ≡ None) in
    let here = c.loop-own.invariant in
    let popped = all_popped (IsEmpty g.L.RunName.charge) _ _ _ _ c.pop-in-loop-own.ensures.items c.in-Some-pop.is here.left in
    let left = ap length (last_goes _ _ _ _ c.pop-in-loop-own.ensures.items c.in-Some-pop.is) in
    let more = ap length c.push_reserved.ensures.items in
    let one = length_less c.loop-own.passes.items (record { turn = c.split-turn.result; own = c.in-Some-pop.own; given = None; waited = false }) in
    let less = length_less c.pop-in-loop-own.new.self.items c.in-Some-pop.own in
    let split = c.split-turn.ensures.seat ∙ ap (λ s. seat_of s.turns (with_one_more s.known)) here.first in
    let count = here.count in
    record {
      first = split ∙ ap (λ (k : ℕ). seat_of c.args.turns.now (record opened { others = k })) (sym (more ∙ one));
      left = popped.0;
      each = subst (AllByRecursion P) (sym c.push_reserved.ensures.items)
          (all_more P _ _ here.each (
            rests_at_boot g.L.RunName.script g.L.RunName.steps g.L.RunName.charge c.args.turns.now c.split-turn.result c.in-Some-pop.own
                (ap (λ s. s.turns) c.split-turn.ensures.new) (ap (λ s. s.known.has_ticket) c.split-turn.ensures.new)
                (ap (λ s. s.known.seen) c.split-turn.ensures.new ∙ ap (λ s. s.known.seen) here.first) (ap (λ s. s.known.mine) c.split-turn.ensures.new) popped.1,
            refl,
          ));
      count = omega (arith, count, left, more, one, less);
      room = c.push_reserved.ensures.capacity ∙ here.room;
    }

pub returns-clause-each : goal.returns-clause-each
returns-clause-each g c =
    let P : Pass g.row.T.Denot g.row.L.Denot → Type 0 = λ p. IsAtRest g.L.RunName.script g.L.RunName.steps g.L.RunName.charge c.args.turns.now p.turn p.own p.given × (p.given ≡ None) in
    let here = c.loop-own.invariant in
    let popped = all_popped (IsEmpty g.L.RunName.charge) _ _ _ _ c.pop.ensures.items c.in-Some.is c.requires.owns in
    subst (AllByRecursion P) (sym c.push_reserved-2.ensures.items)
    (all_more P _ _ here.each (
      rests_at_boot g.L.RunName.script g.L.RunName.steps g.L.RunName.charge c.args.turns.now c.loop-own.first c.in-Some.last
          (ap (λ s. s.turns) here.first) (ap (λ s. s.known.has_ticket) here.first) (ap (λ s. s.known.seen) here.first) (ap (λ s. s.known.mine) here.first) popped.1,
      refl,
    ))
