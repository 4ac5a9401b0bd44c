use Rattle.std.proofs.Common.{◌≡◌, sym, ap, ◌∙◌, subst}
use Rattle.std.specs.List.{IsDistinct}
use Rattle.std.specs.Map.{keys_of, lookup}
use Rattle.lru_index.specs.Order.{order, touched}
use Rattle.lru_index.proofs.Pairs.{last_found, last_touched}
use Rattle.lru_index.proofs.index.Index.used.Goals as goal

pub returns-in-Some-clause-slot : goal.returns-in-Some-clause-slot
returns-in-Some-clause-slot g c =
    let w = c.in-Some.ensures.warmest in
    let distinct = subst (λ l. IsDistinct g.K.PartialEq.eq (keys_of l)) w.is c.in-Some.ensures.valid.distinct in
    sym (ap (lookup (g.K.PartialEq.eq c.args.key)) w.is ∙ last_found g.met.K.Eq.laws w.front c.args.key c.in-Some.slot distinct)

pub returns-in-Some-clause-pairs : goal.returns-in-Some-clause-pairs
returns-in-Some-clause-pairs g c =
    let test = g.K.PartialEq.eq c.args.key in
    let w = c.in-Some.ensures.warmest in
    let distinct = subst (λ l. IsDistinct g.K.PartialEq.eq (keys_of l)) w.is c.in-Some.ensures.valid.distinct in
    let stays : touched test c.args.self.now.pairs ≡ c.args.self.now.pairs =
    ap (touched test) w.is ∙ last_touched g.met.K.Eq.laws g.met.K.Key.same w.front c.args.key c.in-Some.slot distinct ∙ sym w.is in
    ap (λ l. order l c.args.self.now.capacity) (sym stays)
