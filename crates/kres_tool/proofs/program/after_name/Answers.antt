use Rattle.std.proofs.Common.{◌≡◌, length, refl, sym, subst, rules}
use Rattle.std.proofs.lemmas.Iterator.{YieldsList, items_from_collect}
use Rattle.std.proofs.lemmas.Iterator.Adapters.{YieldsList-from_skip, YieldsList-from_vec}
use Rattle.std.specs.Vec.Iter.{into_iter_items, into_iter_len, into_iter_steps}
use Rattle.kres_tool.proofs.program.after_name.Goals as goal

pub returns : goal.returns
returns c =
    let all = c.args.all in
    let counted : into_iter_len all ≡ length (into_iter_items all) = search rules in
    items_from_collect c.collect.result c.collect.ensures.ran
    (YieldsList-from_skip 1
    (subst (λ source. YieldsList into_iter_steps (λ word. word) source (into_iter_items all)) (sym c.skip.ensures.source)
    (YieldsList-from_vec (into_iter_items all) refl counted)) c.skip.ensures.count)
