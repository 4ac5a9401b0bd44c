use Rattle.std.proofs.Common.{◌≡◌, Bool, false, List, ℕ, Option, None, Some, Bor, map, ap, sym, ◌∙◌, rules, tests}
use Rattle.std.specs.List.{last_or}
use Rattle.std.specs.Option.{option_map, option_map_or, MatchOption}
use Rattle.std.proofs.lemmas.Iterator.{items_from_drains}
use Rattle.std.proofs.lemmas.Iterator.Consumers.{YieldsList-at, YieldsList-from_filter}
use Rattle.std.proofs.lemmas.Iterator.Splits.{YieldsList-from_slice_split}
use Rattle.kabi_types.specs.PathParts.{components, has_bytes, is_dots, is_slash}
use Rattle.kabi_types.proofs.PathLemmas.{last_or-map}
use Rattle.kabi_types.proofs.paths.ends_in_dots.Goals as goal

-- a test of what is there, and false of nothing
tested : (last : Option (Bor (List ℕ))) (result : Bool) → MatchOption last (result ≡ false) (λ part. result ≡ is_dots part.now)
    → result ≡ option_map_or is_dots (option_map (λ part. part.now) last) false
tested None result e = e
tested (Some part) result e = e

pub returns : goal.returns
returns c =
    let (parts, drained, last) = c.last.ensures.ran in
    let all : map (λ (part : Bor (List ℕ)). part.now) parts ≡ components c.args.path.now =
    items_from_drains parts (drained.1.0, drained.1.1, λ _. (drained.0, drained.1.2))
    (YieldsList-from_filter _ has_bytes
    (YieldsList-at c.filter.ensures.source
    (YieldsList-from_slice_split _ is_slash c.args.path.now (c.split.ensures.rest ∙ c.items.ensures.same) c.split.ensures.done c.split.ensures.closure (λ x r q k. search (rules, tests))))
    c.filter.ensures.closure (λ x r q k. search (rules, tests))) in
    tested c.last.result c.is_some_and.result c.is_some_and.ensures
    ∙ ap (λ (o : Option (Bor (List ℕ))). option_map_or is_dots (option_map (λ part. part.now) o) false) last
    ∙ ap (λ (o : Option (List ℕ)). option_map_or is_dots o false) (sym (last_or-map (λ (part : Bor (List ℕ)). part.now) None parts))
    ∙ ap (λ (ps : List (List ℕ)). option_map_or is_dots (last_or None ps) false) all
