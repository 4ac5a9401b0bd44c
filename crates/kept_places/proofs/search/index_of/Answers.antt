use Rattle.std.proofs.Common.{rules}
use Rattle.std.proofs.lemmas.List.Sorted.{answers_always}
use Rattle.kept_places.proofs.Findings.{searched}
use Rattle.kept_places.proofs.search.index_of.Goals as goal

-- the closure gives a thing's place
pub returns : goal.returns
returns g c =
    let facts = c.binary_search_by_key.ensures in
    let by_place = facts.position (λ kept. kept.place) (answers_always _ _ _ (λ f a r h called. search rules)) in
    rw c.ok.ensures.value (searched c.requires.0 c.args.there.now c.args.place c.binary_search_by_key.result c.requires.1 facts.bound by_place)
