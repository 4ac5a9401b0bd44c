use Rattle.std.proofs.Common.{◌≡◌, ◌-◌, ◌<◌, ◌∷◌, List, [], ℕ, Option, unwrap_or, length, take, drop, refl, sym, ap, subst, ◌∙◌}
use Rattle.kabi_types.specs.PathParts.{components}
use Rattle.path_walk.proofs.Components.{FirstName, no_name, first_name, if_none}
use Rattle.path_walk.proofs.names.split_name.Goals as goal

pub returns-in_err-begin-clause-none : goal.returns-in_err-begin-clause-none
returns-in_err-begin-clause-none c =
    if_none c.from_residual.result (components c.args.path.now ≡ []) c.from_residual.ensures (no_name c.args.path.now (sym c.name_at.ensures.first ∙ c.in_err-begin.was))

abbrev rest_of : goal.After-split_at → List ℕ
rest_of c = take (length c.args.path.now - c.in_ok-begin.begin) (drop c.in_ok-begin.begin c.args.path.now)

first_of_path : (c : goal.After-split_at) → FirstName c.args.path.now (take c.unwrap_or-end.result (rest_of c)) (drop c.unwrap_or-end.result (rest_of c))
first_of_path c = first_name c.args.path.now (rest_of c) c.in_ok-begin.begin c.unwrap_or-end.result (sym c.name_at.ensures.first ∙ c.in_ok-begin.was) refl
    (c.unwrap_or-end.ensures ∙ ap (λ (o : Option ℕ). unwrap_or o (length (rest_of c))) c.slash_at.ensures.first)

pub returns-clause-some : goal.returns-clause-some
returns-clause-some c =
    (first_of_path c).parts ∙ ap (λ (name : List ℕ). name ∷ components (drop c.unwrap_or-end.result (rest_of c))) (sym c.split_at.ensures.front)
    ∙ ap (λ (behind : List ℕ). c.split_at.result.0.now ∷ components behind) (sym c.split_at.ensures.back)

pub returns-clause-shorter : goal.returns-clause-shorter
returns-clause-shorter c = subst (λ (behind : List ℕ). length behind < length c.args.path.now) (sym c.split_at.ensures.back) (first_of_path c).shorter
