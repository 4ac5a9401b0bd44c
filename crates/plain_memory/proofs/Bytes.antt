-- An address space without a mapped page.
use Rattle.std.proofs.Common.{◌≡◌, ℕ, List, ◌++◌, Option, None, length, replicate, ap, ◌∙◌, arith}
use Rattle.std.proofs.lemmas.List.{append-nil, drop_all}
use Rattle.posix_defs.specs.Memory.{Memory, no_memory, without_pages}

pub nothing_mapped : (memory : Memory) (n : ℕ) → memory ≡ replicate n None → n ≡ 256 → memory ≡ no_memory
unfolding no_memory
nothing_mapped memory n is all = is ∙ ap (λ k. replicate k None) all

-- an address space in which all pages were unmapped
pub all_unmapped : (memory : Memory) → length memory ≡ 256 → without_pages memory 0 256 ≡ no_memory
unfolding no_memory
all_unmapped memory whole =
    let behind : Memory → Memory = λ rest. replicate 256 None ++ rest in
    ap behind (drop_all 256 memory (omega arith)) ∙ append-nil {A = Option (List ℕ)} (replicate 256 None)
