-- The processes where one is gone.
use Rattle.std.proofs.Common.{◌≡◌, ◌≢◌, ℕ, ◌==◌, not, false, cond, List, [], ◌∷◌, filter, None, Some, refl, ap, sym, ◌∙◌, inl, inr}
use Rattle.std.proofs.lemmas.Bool.Decides.{eqb_tells}
use Rattle.kheap_slabs.specs.declared.objects.Proc.{Proc}
use Rattle.proc_table.specs.Changes.{is_other}
use Rattle.proc_table.specs.Procs.{proc_of}

-- others are found where one is gone
pub found_other : (procs : List Proc) (gone pid : ℕ) → pid ≢ gone → proc_of (filter (is_other gone) procs) pid ≡ proc_of procs pid
found_other [] gone pid apart = refl
found_other (proc ∷ procs) gone pid apart = elim (eqb_tells proc.pid gone) [
  | inl same ↦
      ap (λ b. proc_of (cond (not b) (proc ∷ filter (is_other gone) procs) (filter (is_other gone) procs)) pid) same.0
      ∙ found_other procs gone pid apart
      ∙ sym (ap (λ n. cond (n == pid) (Some proc) (proc_of procs pid)) same.1 ∙ ap (λ b. cond b (Some proc) (proc_of procs pid)) (not_it gone pid (λ e. apart (sym e))))
  | inr other ↦
      ap (λ b. proc_of (cond (not b) (proc ∷ filter (is_other gone) procs) (filter (is_other gone) procs)) pid) other.0
      ∙ ap (λ o. cond (proc.pid == pid) (Some proc) o) (found_other procs gone pid apart)
]
  where
    not_it : (n m : ℕ) → (n ≡ m → ⊥) → (n == m) ≡ false
    not_it n m differs = elim (eqb_tells n m) [ inl same ↦ absurd (differs same.1) | inr other ↦ other.0 ]

-- and it is not
pub found_gone : (procs : List Proc) (gone : ℕ) → proc_of (filter (is_other gone) procs) gone ≡ None
found_gone [] gone = refl
found_gone (proc ∷ procs) gone = elim (eqb_tells proc.pid gone) [
  | inl same ↦
      ap (λ b. proc_of (cond (not b) (proc ∷ filter (is_other gone) procs) (filter (is_other gone) procs)) gone) same.0 ∙ found_gone procs gone
  | inr other ↦
      ap (λ b. proc_of (cond (not b) (proc ∷ filter (is_other gone) procs) (filter (is_other gone) procs)) gone) other.0
      ∙ ap (λ b. cond b (Some proc) (proc_of (filter (is_other gone) procs) gone)) other.0 ∙ found_gone procs gone
]
