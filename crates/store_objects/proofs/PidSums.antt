-- What all processes have, by their pids and one by one.
use Rattle.std.proofs.Common.{◌≡◌, ◌≢◌, ℕ, suc, ◌+◌, ◌<◌, ◌≤◌, ◌==◌, true, false, cond, List, [], ◌∷◌, ◌++◌, map, length, get_or, Option, None, Some, refl, ap, ◌∙◌, subst, inl, inr, arith}
use Rattle.std.specs.Prelude.{sum_by}
use Rattle.std.specs.List.{AllByRecursion, concat}
use Rattle.std.proofs.lemmas.Bool.Decides.{eqb_tells}
use Rattle.std.proofs.lemmas.List.{length-append}
use Rattle.std.proofs.lemmas.List.Sums.{sum_by-cons}
use Rattle.kheap_slabs.specs.declared.objects.Proc.{Proc}
use Rattle.kheap_slabs.specs.Spaces.{keys_in}
use Rattle.proc_table.specs.Procs.{proc_of}
use Rattle.proc_table.proofs.OwnLemmas.{AreRising}

abbrev pub value : (Proc → ℕ) → Option Proc → ℕ
value g None = 0
value g (Some proc) = g proc

pub nobody_there : (procs : List Proc) (before pid : ℕ) → AreRising before procs → pid ≤ before → proc_of procs pid ≡ None
nobody_there [] before pid rising less = refl
nobody_there (proc ∷ procs) before pid rising less = elim (eqb_tells proc.pid pid) [
  | inl same ↦ absurd (let l : before < proc.pid = rising.0 in let e : proc.pid ≡ pid = same.1 in omega arith)
  | inr other ↦ ap (λ b. cond b (Some proc) (proc_of procs pid)) other.0 ∙ nobody_there procs proc.pid pid rising.1 (let l : before < proc.pid = rising.0 in omega arith)
]

-- A sum over what belongs to each pid is one over the processes that are there.
pub sum_by_pids : {X : Type 0} (f : X → ℕ) (g : Proc → ℕ) (none : X) (places : List X) (before : ℕ) (procs : List Proc) → AreRising before procs
    → AllByRecursion (λ proc. proc.pid ≤ before + length places) procs
    → ((i : ℕ) → i < length places → f (get_or places i none) ≡ value g (proc_of procs (before + 1 + i)))
    → sum_by f places ≡ sum_by g procs
sum_by_pids f g none [] before [] rising within each = refl
sum_by_pids f g none [] before (proc ∷ procs) rising within each = absurd (let l : before < proc.pid = rising.0 in let m : proc.pid ≤ before + 0 = within.0 in omega arith)
sum_by_pids f g none (places ∷ rest) before [] rising within each =
    let head : f places ≡ 0 = each 0 (omega arith) in
    let more : sum_by f rest ≡ sum_by g [] = sum_by_pids f g none rest (before + 1) [] tt tt (λ i less. each (suc i) (omega arith)) in
    let sum = sum_by-cons f places rest in
    omega arith
sum_by_pids f g none (places ∷ rest) before (proc ∷ procs) rising within each = elim (eqb_tells proc.pid (before + 1)) [
  | inl same ↦ taken same.0 same.1 (λ ps. sum_by_pids f g none rest (before + 1) ps)
  | inr other ↦ passed other.0 other.1 (λ ps. sum_by_pids f g none rest (before + 1) ps)
]
  where
    all_within : (n m : ℕ) (ps : List Proc) → n ≡ m → AllByRecursion (λ proc. proc.pid ≤ n) ps → AllByRecursion (λ proc. proc.pid ≤ m) ps
    all_within n m ps same all = subst (λ k. AllByRecursion (λ proc. proc.pid ≤ k) ps) same all

    shift : before + length (places ∷ rest) ≡ before + 1 + length rest
    shift = omega arith

    next : (i : ℕ) → before + 1 + suc i ≡ before + 1 + 1 + i
    next i = omega arith

    taken : (proc.pid == before + 1) ≡ true → proc.pid ≡ before + 1 → ((ps : List Proc) → AreRising (before + 1) ps → AllByRecursion (λ p. p.pid ≤ before + 1 + length rest) ps
        → ((i : ℕ) → i < length rest → f (get_or rest i none) ≡ value g (proc_of ps (before + 1 + 1 + i))) → sum_by f rest ≡ sum_by g ps)
        → sum_by f (places ∷ rest) ≡ sum_by g (proc ∷ procs)
    taken test same rec =
        let head : f places ≡ g proc = each 0 (omega arith) ∙ ap (λ k. value g (proc_of (proc ∷ procs) k)) (let k : before + 1 + 0 ≡ before + 1 = omega arith in k) ∙ ap (λ b. value g (cond b (Some proc) (proc_of procs (before + 1)))) test in
        let up : AreRising (before + 1) procs = subst (λ k. AreRising k procs) same rising.1 in
        let more : sum_by f rest ≡ sum_by g procs = rec procs up (all_within (before + length (places ∷ rest)) (before + 1 + length rest) procs shift within.1)
        (λ i less. each (suc i) (omega arith) ∙ ap (λ k. value g (proc_of (proc ∷ procs) k)) (next i) ∙ ap (value g) (behind i)) in
        let sum = sum_by-cons f places rest in
        let sum' = sum_by-cons g proc procs in
        omega arith
      where
        behind : (i : ℕ) → proc_of (proc ∷ procs) (before + 1 + 1 + i) ≡ proc_of procs (before + 1 + 1 + i)
        behind i = elim (eqb_tells proc.pid (before + 1 + 1 + i)) [
          | inl there ↦ absurd (let e : proc.pid ≡ before + 1 + 1 + i = there.1 in omega arith)
          | inr other ↦ ap (λ b. cond b (Some proc) (proc_of procs (before + 1 + 1 + i))) other.0
        ]

    passed : (proc.pid == before + 1) ≡ false → proc.pid ≢ before + 1 → ((ps : List Proc) → AreRising (before + 1) ps → AllByRecursion (λ p. p.pid ≤ before + 1 + length rest) ps
        → ((i : ℕ) → i < length rest → f (get_or rest i none) ≡ value g (proc_of ps (before + 1 + 1 + i))) → sum_by f rest ≡ sum_by g ps)
        → sum_by f (places ∷ rest) ≡ sum_by g (proc ∷ procs)
    passed test other rec =
        let above : before + 1 < proc.pid = (let l : before < proc.pid = rising.0 in omega arith) in
        let up : AreRising (before + 1) (proc ∷ procs) = (above, rising.1) in
        let head : f places ≡ 0 = each 0 (omega arith) ∙ ap (λ k. value g (proc_of (proc ∷ procs) k)) (let k : before + 1 + 0 ≡ before + 1 = omega arith in k) ∙ ap (value g) (nobody_there (proc ∷ procs) (before + 1) (before + 1) up (omega arith)) in
        let more : sum_by f rest ≡ sum_by g (proc ∷ procs) = rec (proc ∷ procs) up (all_within (before + length (places ∷ rest)) (before + 1 + length rest) (proc ∷ procs) shift within)
        (λ i less. each (suc i) (omega arith) ∙ ap (λ k. value g (proc_of (proc ∷ procs) k)) (next i)) in
        let sum = sum_by-cons f places rest in
        omega arith

-- the keys of all spaces
pub length-node_keys : (procs : List Proc) → length (concat (map keys_in (map (λ proc. proc.nodes) procs ++ []))) ≡ sum_by (λ proc. length (keys_in proc.nodes)) procs
length-node_keys [] = refl
length-node_keys (proc ∷ procs) =
    let more = length-node_keys procs in
    let sum = sum_by-cons (λ (p : Proc). length (keys_in p.nodes)) proc procs in
    let both = length-append (keys_in proc.nodes) (concat (map keys_in (map (λ (p : Proc). p.nodes) procs ++ []))) in
    omega arith
