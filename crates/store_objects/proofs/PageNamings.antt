-- How often the pages of a store's heap are named.
use Rattle.std.proofs.Common.{◌≡◌, ℕ, List, [], ◌∷◌, ◌++◌, map, length, Option, refl, ◌∙◌, subst, inl, inr, arith}
use Rattle.std.specs.Prelude.{sum_by}
use Rattle.std.specs.List.{AllByRecursion, Contains}
use Rattle.std.proofs.lemmas.List.Sums.{sum_by-cons}
use Rattle.kabi_types.specs.declared.scripts.Script.{Script}
use Rattle.kheap_slabs.specs.declared.objects.Proc.{Proc}
use Rattle.kheap_slabs.specs.Heap.{IsWellFormed}
use Rattle.kheap_slabs.specs.Spaces.{count_at}
use Rattle.page_space.specs.Sequences.{entries_naming}
use Rattle.page_space.proofs.CountLemmas.{counts_by_entries}
use Rattle.posix_defs.specs.World.{World}
use Rattle.proc_table.specs.Table.{with_procs}
use Rattle.proc_table.proofs.PlaceLemmas.{Contains-cases}
use Rattle.store_objects.specs.declared.objects.Objects.{Objects}
use Rattle.store_objects.specs.Objects.{procs_of}
use Rattle.store_objects.specs.Standing.{StandsFor}
use Rattle.store_objects.proofs.Keeping.{listed_in}
use Rattle.store_objects.proofs.Peeling.{by_pid}

-- the spaces of processes with four groups each have four
spaces_have_four : (procs : List Proc) → AllByRecursion (λ proc. length proc.nodes ≡ 4) procs
    → (space : List (Option ℕ)) → Contains (map (λ proc. proc.nodes) procs ++ []) space → length space ≡ 4
spaces_have_four [] all space there = absurd (omega (arith, there.1))
spaces_have_four (proc ∷ procs) all space there = elim (Contains-cases proc.nodes space (map (λ p. p.nodes) procs ++ []) there) [
  | inl same ↦ subst (λ nodes. length nodes ≡ 4) same all.0
  | inr behind ↦ spaces_have_four procs all.1 space behind
]

-- what all of them sum up to
sum_of_spaces : (count : List (Option ℕ) → ℕ) (procs : List Proc) → sum_by count (map (λ proc. proc.nodes) procs ++ []) ≡ sum_by (λ proc. count proc.nodes) procs
sum_of_spaces count [] = refl
sum_of_spaces count (proc ∷ procs) =
    omega (
      arith,
      sum_by-cons count proc.nodes (map (λ p. p.nodes) procs ++ []),
      sum_by-cons (λ (p : Proc). count p.nodes) proc procs,
      sum_of_spaces count procs,
    )

pub named_by_all : (script : Script) (objects : Objects) (world : World) (key : ℕ) → StandsFor script objects world → IsWellFormed objects.heap
    → count_at objects.heap.pages key ≡ sum_by (λ proc. entries_naming objects.heap.nodes key proc.nodes) (procs_of objects)
named_by_all script objects world key stands whole =
    let by = by_pid objects.heap objects.procs (listed_in script objects stands.kept) stands.kept.owners.objects in
    counts_by_entries objects.heap (with_procs (procs_of objects) (record { spaces = []; queues = by.queues })) key whole by.owned (spaces_have_four (procs_of objects) stands.kept.groups)
    ∙ sum_of_spaces (entries_naming objects.heap.nodes key) (procs_of objects)
