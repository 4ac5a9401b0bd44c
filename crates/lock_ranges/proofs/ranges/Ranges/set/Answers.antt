use Rattle.std.proofs.Common.{◌≡◌, ap, sym, subst, ◌∙◌, List}
use Rattle.kabi_types.specs.declared.ranges.Range.{Range}
use Rattle.kabi_types.specs.Ranges.{IsCanonical, kind_at, set}
use Rattle.lock_ranges.proofs.Shape.{IsCanonical-set, kind_at-set}
use Rattle.lock_ranges.proofs.ranges.Ranges.set.Goals as goal

pub invariant_of-self : goal.invariant_of-self
invariant_of-self c =
    let list : c.in_ok-self-inside.field-0.items ≡ set c.self.inside.ranges.items c.args.kind c.args.start c.args.last =
    c.in_ok-self-inside.ensures ∙ ap (λ (l : List Range). set l c.args.kind c.args.start c.args.last) c.deref.ensures.value in
    subst (λ (l : List Range). IsCanonical l) (sym list)
    (IsCanonical-set c.self.inside.ranges.items c.args.kind c.args.start c.args.last c.self.invariant c.requires.order c.requires.places)

pub returns-clause-meaning : goal.returns-clause-meaning
returns-clause-meaning c place =
    let list : c.in_ok-self-inside.field-0.items ≡ set c.args.self.now c.args.kind c.args.start c.args.last =
    c.in_ok-self-inside.ensures ∙ ap (λ (l : List Range). set l c.args.kind c.args.start c.args.last) (c.deref.ensures.value ∙ c.self.view_is) in
    let canonical : IsCanonical c.args.self.now = subst (λ (l : List Range). IsCanonical l) c.self.view_is c.self.invariant in
    ap (λ (l : List Range). kind_at l place) list
    ∙ kind_at-set c.args.self.now c.args.kind c.args.start c.args.last place canonical c.requires.order c.requires.places

pub returns-clause-canonical : goal.returns-clause-canonical
returns-clause-canonical c =
    let list : c.in_ok-self-inside.field-0.items ≡ set c.self.inside.ranges.items c.args.kind c.args.start c.args.last =
    c.in_ok-self-inside.ensures ∙ ap (λ (l : List Range). set l c.args.kind c.args.start c.args.last) c.deref.ensures.value in
    subst (λ (l : List Range). IsCanonical l) (sym list)
    (IsCanonical-set c.self.inside.ranges.items c.args.kind c.args.start c.args.last c.self.invariant c.requires.order c.requires.places)
