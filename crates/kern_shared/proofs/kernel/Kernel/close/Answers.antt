use Rattle.std.proofs.Common.{sym, subst}
use Rattle.std.specs.List.{AllByRecursion}
use mathlib.Core.List.{IsPrefix}
use Rattle.turn_words.specs.Items.{heard}
use Rattle.kern_shared.specs.declared.passes.Pass.{Pass}
use Rattle.kern_shared.proofs.Crew.{all_more, last_goes}
use Rattle.kern_shared.proofs.kernel.Kernel.close.Goals as goal

pub returns : goal.returns
returns g c =
    let b = c.close.ensures.value in
    let s = b.value in
    let seen = c.gather.new.first.known.seen in
    let P : Pass g.row.T.Denot g.row.L.Denot → Type 0 = λ p. IsPrefix p.turn.known.seen seen in
    (seen, s.past, subst (AllByRecursion P) (sym (last_goes _ _ _ _ c.pop.ensures.items c.in-Some.is)) (all_more P _ _ c.gather.ensures.each c.gather.ensures.own), s.shared, c.close-2.ensures (heard seen) s.past b s.shared)
