use Rattle.std.proofs.Common.{◌≡◌, None, IsSome, IfSome, sym, ap, ◌∙◌, subst}
use Rattle.std.specs.Option.{option_map}
use Rattle.std.specs.Map.{lookup}
use Rattle.lru_index.specs.Chain.{items_of}
use Rattle.lru_index.specs.Order.{IsOrder, coldest_of, warmer, first_key}
use Rattle.lru_index.proofs.Placed.{agree, first_pair, pairs_warmer, none_seen, warmer_absent}
use Rattle.lru_index.proofs.Kept.{coldest_there, kept_order}
use Rattle.lru_index.proofs.index.Index.coldest.Goals as goal

pub returns-in-None-clause-key : goal.returns-in-None-clause-key
returns-in-None-clause-key g c =
    let items = items_of c.self.inside.chain c.self.inside.capacity in
    c.key_in.ensures ∙ ap (option_map (λ pair. pair.0)) (c.coldest.ensures items c.self.invariant.kept.chained) ∙ first_pair items ∙ ap (λ o. first_key o.pairs) c.self.view_is ∙ ap (λ a. coldest_of g.K.PartialEq.eq a c.args.self.now.pairs) (sym c.in-None.is)

pub returns-in-None-clause-is_there : goal.returns-in-None-clause-is_there
returns-in-None-clause-is_there g c =
    let pairs = c.args.self.now.pairs in
    subst (λ o. IfSome o (λ key. IsSome (lookup (g.K.PartialEq.eq key) pairs))) (sym (returns-in-None-clause-key g c)) (coldest_there g.met.K.Eq.laws c.args.after pairs)

pub returns-in-None-clause-valid : goal.returns-in-None-clause-valid
returns-in-None-clause-valid g c = subst (IsOrder g.K.PartialEq.eq) c.self.view_is (kept_order _ _ _ _ _ _ _ c.self.invariant.kept)

pub returns-in-Some-get-clause-key : goal.returns-in-Some-get-clause-key
returns-in-Some-get-clause-key g c =
    let kept = c.self.invariant.kept in
    let key = c.in-Some.key in
    let test = g.K.PartialEq.eq key in
    let place = c.in-Some-get.place in
    let items = items_of c.self.inside.chain c.self.inside.capacity in
    let agrees = agree g.met.K.Eq.laws key place items kept.distinct kept.chained.distinct (sym (kept.found key) ∙ sym (c.in-Some-get.ensures kept.chains kept.filed)) in
    c.key_in-in-Some-get.ensures ∙ ap (option_map (λ pair. pair.0)) (c.warmer.ensures items kept.chained) ∙ first_pair _ ∙ ap first_key (pairs_warmer test place items agrees) ∙ ap (λ o. first_key (warmer test o.pairs)) c.self.view_is ∙ ap (λ a. coldest_of g.K.PartialEq.eq a c.args.self.now.pairs) (sym c.in-Some.is)

pub returns-in-Some-get-clause-is_there : goal.returns-in-Some-get-clause-is_there
returns-in-Some-get-clause-is_there g c =
    let pairs = c.args.self.now.pairs in
    subst (λ o. IfSome o (λ key. IsSome (lookup (g.K.PartialEq.eq key) pairs))) (sym (returns-in-Some-get-clause-key g c)) (coldest_there g.met.K.Eq.laws c.args.after pairs)

pub returns-in-Some-get-clause-valid : goal.returns-in-Some-get-clause-valid
returns-in-Some-get-clause-valid g c = subst (IsOrder g.K.PartialEq.eq) c.self.view_is (kept_order _ _ _ _ _ _ _ c.self.invariant.kept)

pub returns-in-None-get-clause-key : goal.returns-in-None-get-clause-key
returns-in-None-get-clause-key g c =
    let key = c.in-Some.key in
    let test = g.K.PartialEq.eq key in
    let items = items_of c.self.inside.chain c.self.inside.capacity in
    let kept = c.self.invariant.kept in
    let absent : lookup test c.args.self.now.pairs ≡ None = sym (ap (λ o. lookup test o.pairs) c.self.view_is) ∙ none_seen test items (sym (kept.found key) ∙ sym (c.in-None-get.ensures kept.chains kept.filed)) in
    ap first_key (sym (warmer_absent g.met.K.Eq.laws key c.args.self.now.pairs absent)) ∙ ap (λ a. coldest_of g.K.PartialEq.eq a c.args.self.now.pairs) (sym c.in-Some.is)

pub returns-in-None-get-clause-valid : goal.returns-in-None-get-clause-valid
returns-in-None-get-clause-valid g c = subst (IsOrder g.K.PartialEq.eq) c.self.view_is (kept_order _ _ _ _ _ _ _ c.self.invariant.kept)
