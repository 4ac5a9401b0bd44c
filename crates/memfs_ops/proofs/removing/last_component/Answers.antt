use Rattle.std.proofs.Common.{◌≡◌, List, ℕ, Option, None, Bor, map, ap, sym, ◌∙◌, rules, tests}
use Rattle.std.specs.List.{last_or}
use Rattle.std.specs.Option.{option_map}
use Rattle.std.proofs.lemmas.Iterator.{items_from_drains}
use Rattle.std.proofs.lemmas.Iterator.Consumers.{YieldsList-at, YieldsList-from_filter}
use Rattle.std.proofs.lemmas.Iterator.Splits.{YieldsList-from_slice_split}
use Rattle.kabi_types.specs.PathParts.{components, has_bytes, is_slash}
use Rattle.kabi_types.proofs.PathLemmas.{last_or-map}
use Rattle.memfs_ops.proofs.removing.last_component.Goals as goal

pub returns : goal.returns
returns c =
    let (parts, drained, last) = c.last.ensures.ran in
    let all : map (λ (part : Bor (List ℕ)). part.now) parts ≡ components c.args.path.now =
    items_from_drains parts (drained.1.0, drained.1.1, λ _. (drained.0, drained.1.2))
    (YieldsList-from_filter _ has_bytes
    (YieldsList-at c.filter.ensures.source
    (YieldsList-from_slice_split _ is_slash c.args.path.now c.split.ensures.rest c.split.ensures.done c.split.ensures.closure (λ x r q k. search (rules, tests))))
    c.filter.ensures.closure (λ x r q k. search (rules, tests))) in
    ap (λ (o : Option (Bor (List ℕ))). option_map (λ (part : Bor (List ℕ)). part.now) o) last
    ∙ sym (last_or-map (λ (part : Bor (List ℕ)). part.now) None parts)
    ∙ ap (λ (ps : List (List ℕ)). last_or None ps) all
