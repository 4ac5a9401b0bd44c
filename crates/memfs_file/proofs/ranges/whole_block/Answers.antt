use Rattle.std.proofs.Common.{◌≡◌, ◌≤◌, inr, ap, ℕ, ◌-◌, ◌*◌, List, length, take, drop, subst, ◌∙◌, arith, length-drop}
use Rattle.std.proofs.lemmas.List.{take_all}
use Rattle.memfs_file.proofs.Whole.{if_first, whole}
use Rattle.memfs_file.proofs.ranges.whole_block.Goals as goal

pub returns : goal.returns
returns c =
    let bytes : List ℕ = c.args.bytes.now in
    let from : ℕ = 1024 * c.args.index - c.args.at in
    let rest : List ℕ = drop from bytes in
    let fits : length rest ≤ length bytes - from = omega (arith, length-drop from bytes) in
    let whole_rest : take (length bytes - from) rest ≡ rest = take_all (length bytes - from) rest fits in
    if_first c.first_chunk.result _ _ _ _ c.first_chunk.ensures.cases
    (λ short. inr (omega (arith, short, ap length whole_rest, length-drop from bytes)))
    (λ x is. whole c.args.index c.args.at bytes x.now (omega arith) (subst (λ (xs : List ℕ). 1024 ≤ length xs) whole_rest is.enough) (is.same ∙ ap (take 1024) whole_rest))
