use Rattle.std.proofs.Common.{ℕ, replicate, length, ◌∙◌, arith}
use Rattle.std.proofs.lemmas.List.{get_or-replicate, get_or-set_same, get_or-set_other}
use Rattle.blk_map.proofs.pointing.block_naming.Goals as goal

pub returns-clause-first : goal.returns-clause-first
returns-clause-first c = c.block_of_pointers.ensures 0 (omega arith) ∙ get_or-set_same (replicate 256 0) 0 c.args.block 0 (omega arith)

pub returns-clause-rest : goal.returns-clause-rest
returns-clause-rest c = λ place pos within.
    c.block_of_pointers.ensures place within ∙ get_or-set_other (replicate 256 0) 0 place c.args.block 0 (λ e. omega (arith, e, pos)) ∙ get_or-replicate 256 place 0 0 within
