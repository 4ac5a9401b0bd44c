-- What a process waits for of its children, behind a change of another process.
use Rattle.std.proofs.Common.{◌≡◌, ◌≢◌, ℕ, zero, suc, ◌+◌, ◌==◌, ◌&&◌, ◌||◌, ◌≤◌, ℤ, false, if◌then◌else◌, [], ◌∷◌, ◌++◌, length, Option, None, Some, slice_get, slice_set, unwrap_or, refl, ap, ap₂, sym, inl, inr}
use Rattle.std.specs.Option.{option_or}
use Rattle.std.proofs.lemmas.Bool.Decides.{eqb_tells}
use Rattle.kern_laws.proofs.TablePlaces.{same_in_front, with_other}
use Rattle.posix_defs.specs.ByPid.{with_pid}
use Rattle.posix_defs.specs.Forking.{child_of}
use Rattle.posix_defs.specs.Process.{Process, Status, Table, process_at}
use Rattle.posix_defs.specs.Waiting.{Exited, any_from, exited_from, exited_in, has_ended, is_asked_for, matches, wait_status}

-- What a process is there as, and what it waits for of its children, is the same.
pub record SameKin (who : ℕ) (old new : Table) : Type 0 where
  pub itself : process_at new who ≡ process_at old who
  pub exited : (which : ℤ) → exited_from who which 1 new ≡ exited_from who which 1 old
  pub any : (which : ℤ) → any_from who which 1 new ≡ any_from who which 1 old

pub same_table : (who : ℕ) (table : Table) → SameKin who table table
same_table who table = record { itself = refl; exited = λ which. refl; any = λ which. refl }

-- ---- a process changes, but whose child it is and whether it has ended

-- of one place: nobody is there, or one of the same parent that has ended or runs as before
abbrev pub AlikeThere : Option Process → Option Process → Type 0
AlikeThere None None = Unit {0}
AlikeThere (Some was) (Some now) = (now.parent ≡ was.parent) × (now.status ≡ was.status)
AlikeThere None (Some now) = ⊥
AlikeThere (Some was) None = ⊥

-- what a place tells of an ended child
abbrev told_at : ℕ → ℤ → ℕ → Option Process → Option Exited
told_at who which n there = if matches who which n there then exited_in n there else None

abbrev told_by : ℕ → ℤ → ℕ → ℕ → Status → Option Exited
told_by who which n parent status =
    if (parent == who) && is_asked_for which n then (if has_ended status then Some (record { pid = n; status = wait_status status }) else None) else None

tells_same : (who : ℕ) (which : ℤ) (n : ℕ) (was now : Option Process) → AlikeThere was now → told_at who which n now ≡ told_at who which n was
tells_same who which n None None alike = refl
tells_same who which n (Some was) (Some now) alike = ap₂ (told_by who which n) alike.0 alike.1
tells_same who which n None (Some now) alike = absurd alike
tells_same who which n (Some was) None alike = absurd alike

matches_same : (who : ℕ) (which : ℤ) (n : ℕ) (was now : Option Process) → AlikeThere was now → matches who which n now ≡ matches who which n was
matches_same who which n None None alike = refl
matches_same who which n (Some was) (Some now) alike = ap (λ parent. (parent == who) && is_asked_for which n) alike.0
matches_same who which n None (Some now) alike = absurd alike
matches_same who which n (Some was) None alike = absurd alike

exited_same : (who : ℕ) (which : ℤ) (n : ℕ) (table : Table) (i : ℕ) (now : Option Process) → AlikeThere (unwrap_or (slice_get table i) None) now
    → exited_from who which n (slice_set table i now) ≡ exited_from who which n table
exited_same who which n [] i now alike = refl
exited_same who which n (was ∷ table) zero now alike = ap (λ told. option_or told (exited_from who which (n + 1) table)) (tells_same who which n was now alike)
exited_same who which n (was ∷ table) (suc i) now alike = ap (option_or (told_at who which n was)) (exited_same who which (n + 1) table i now alike)

any_same : (who : ℕ) (which : ℤ) (n : ℕ) (table : Table) (i : ℕ) (now : Option Process) → AlikeThere (unwrap_or (slice_get table i) None) now
    → any_from who which n (slice_set table i now) ≡ any_from who which n table
any_same who which n [] i now alike = refl
any_same who which n (was ∷ table) zero now alike = ap (λ told. told || any_from who which (n + 1) table) (matches_same who which n was now alike)
any_same who which n (was ∷ table) (suc i) now alike = ap (λ rest. matches who which n was || rest) (any_same who which (n + 1) table i now alike)

pub same_after : (who pid : ℕ) (table : Table) (now : Option Process) → who ≢ pid → AlikeThere (process_at table pid) now → SameKin who table (with_pid table pid now)
same_after who zero table now apart alike = same_table who table
same_after who (suc i) table now apart alike = record {
  itself = with_other table (suc i) who now apart;
  exited = λ which. exited_same who which 1 table i now alike;
  any = λ which. any_same who which 1 table i now alike;
}

-- ---- another process makes a child

none_of_mine : (who : ℕ) (which : ℤ) (n pid : ℕ) (there : Option Process) → who ≢ pid → matches who which n (child_of pid there) ≡ false
none_of_mine who which n pid None apart = refl
none_of_mine who which n pid (Some process) apart = elim (eqb_tells pid who) [
  | inl same ↦ absurd (apart (sym same.1))
  | inr other ↦ ap (λ own. own && is_asked_for which n) other.0
]

exited_further : (who : ℕ) (which : ℤ) (n pid : ℕ) (table : Table) (there : Option Process) → who ≢ pid
    → exited_from who which n (table ++ child_of pid there ∷ []) ≡ exited_from who which n table
exited_further who which n pid [] there apart =
    ap (λ mine. option_or (if mine then exited_in n (child_of pid there) else None) None) (none_of_mine who which n pid there apart)
exited_further who which n pid (was ∷ table) there apart = ap (option_or (told_at who which n was)) (exited_further who which (n + 1) pid table there apart)

any_further : (who : ℕ) (which : ℤ) (n pid : ℕ) (table : Table) (there : Option Process) → who ≢ pid
    → any_from who which n (table ++ child_of pid there ∷ []) ≡ any_from who which n table
any_further who which n pid [] there apart = ap (λ mine. mine || false) (none_of_mine who which n pid there apart)
any_further who which n pid (was ∷ table) there apart = ap (λ rest. matches who which n was || rest) (any_further who which (n + 1) pid table there apart)

pub same_beside_child : (who pid : ℕ) (table : Table) (there : Option Process) → who ≢ pid → who ≤ length table
    → SameKin who table (table ++ child_of pid there ∷ [])
same_beside_child who pid table there apart made = record {
  itself = same_in_front table (child_of pid there) who made;
  exited = λ which. exited_further who which 1 pid table there apart;
  any = λ which. any_further who which 1 pid table there apart;
}
