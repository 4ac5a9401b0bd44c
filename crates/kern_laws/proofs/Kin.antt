-- Where a process is changed, but for its parent and its status: who is there, whose child and how is as before.
use Rattle.std.proofs.Common.{◌≡◌, ℕ, zero, suc, Option, None, Some, refl, ap, sym, ◌∙◌, subst, arith, ◌⊎◌, inl, inr, length}
use Rattle.std.proofs.lemmas.Bool.Decides.{eqb_tells}
use Rattle.std.proofs.lemmas.List.{length-set}
use Rattle.posix_defs.specs.ByPid.{with_pid}
use Rattle.posix_defs.specs.Family.{IsFamily, GoesOn}
use Rattle.posix_defs.specs.Process.{Process, Table, process_at, is_alive, is_alive_in, runs}
use Rattle.kern_laws.proofs.TablePlaces.{was_made, with_other, with_same, is_gone}

-- whose child a process is, and how it is
pub record SameKin (old new : Process) : Type 0 where
  pub parent : new.parent ≡ old.parent
  pub status : new.status ≡ old.status

same_kin : (old new : Process) → new ≡ old → SameKin old new
same_kin old new e = record { parent = ap (λ p. p.parent) e; status = ap (λ p. p.status) e }

-- a change of a process that leaves these
pub record KeepsKin (change : Option Process → Option Process) : Type 0 where
  pub none : change None ≡ None
  pub some : (old : Process) → (new : Process) × (change (Some old) ≡ Some new) × SameKin old new

some_same : {X : Type 0} (o : Option X) (x y : X) → o ≡ Some x → o ≡ Some y → x ≡ y
some_same o x y e f = cc

module _ (change : Option Process → Option Process) (keeps : KeepsKin change) where
  -- the table, where a process is changed
  abbrev pub changed : Table → ℕ → Table
  changed table pid = with_pid table pid (change (process_at table pid))

  own : (table : Table) (pid : ℕ) (there : Option Process) → process_at table pid ≡ there → process_at (changed table pid) pid ≡ change there
  own table pid None e =
      ap (λ found. process_at (with_pid table pid (change found)) pid) e ∙ ap (λ c. process_at (with_pid table pid c) pid) keeps.none
      ∙ is_gone table pid ∙ sym keeps.none
  own table pid (Some process) e =
      let made = was_made table pid process e in
      with_same table pid (change (process_at table pid)) made.0 made.1 ∙ ap change e

  -- a pid has what it had, or that changed
  pub each : (table : Table) (pid other : ℕ)
      → (process_at (changed table pid) other ≡ process_at table other) ⊎ (process_at (changed table pid) other ≡ change (process_at table other))
  each table pid other = elim (eqb_tells other pid) [
    | inl same ↦ inr (subst (λ p. process_at (changed table pid) p ≡ change (process_at table p)) (sym same.1) (own table pid (process_at table pid) refl))
    | inr apart ↦ inl (with_other table pid other (change (process_at table pid)) apart.1)
  ]

  alive_as : (there : Option Process) → is_alive_in (change there) ≡ is_alive_in there
  alive_as None = ap is_alive_in keeps.none
  alive_as (Some process) = let to = keeps.some process in ap is_alive_in to.1 ∙ ap runs to.2.status

  pub alive_kept : (table : Table) (pid other : ℕ) → is_alive (changed table pid) other ≡ is_alive table other
  alive_kept table pid other = elim (each table pid other) [
    | inl same ↦ ap is_alive_in same
    | inr same ↦ ap is_alive_in same ∙ alive_as (process_at table other)
  ]

  was_there : (there : Option Process) (process : Process) → change there ≡ Some process → (old : Process) × (there ≡ Some old) × SameKin old process
  was_there None process e = absurd (let none = keeps.none in cc)
  was_there (Some old) process e =
      let to = keeps.some old in
      (old, refl, subst (SameKin old) (some_same (change (Some old)) to.0 process to.1 e) to.2)

  -- who is there was there
  kin_before : (table : Table) (pid other : ℕ) (process : Process) → process_at (changed table pid) other ≡ Some process
      → (old : Process) × (process_at table other ≡ Some old) × SameKin old process
  kin_before table pid other process e = elim (each table pid other) [
    | inl same ↦ (process, sym same ∙ e, same_kin process process refl)
    | inr same ↦ was_there (process_at table other) process (sym same ∙ e)
  ]

  none_as : (there : Option Process) → change there ≡ None → there ≡ None
  none_as None e = refl
  none_as (Some process) e = absurd (let to = keeps.some process in let is = to.1 in cc)

  -- who isn't there wasn't, and the other way round
  none_before : (table : Table) (pid other : ℕ) → process_at (changed table pid) other ≡ None → process_at table other ≡ None
  none_before table pid other e = elim (each table pid other) [
    | inl same ↦ sym same ∙ e
    | inr same ↦ none_as (process_at table other) (sym same ∙ e)
  ]

  none_after : (table : Table) (pid other : ℕ) → process_at table other ≡ None → process_at (changed table pid) other ≡ None
  none_after table pid other e = elim (each table pid other) [
    | inl same ↦ same ∙ e
    | inr same ↦ same ∙ ap change e ∙ keeps.none
  ]

  pub length-changed : (table : Table) (pid : ℕ) → length (changed table pid) ≡ length table
  length-changed table zero = refl
  length-changed table (suc i) = length-set table i (change (process_at table (suc i)))

  -- the family is the same
  pub changed_family : (table : Table) (pid : ℕ) → IsFamily table → IsFamily (changed table pid)
  changed_family table pid family = record {
    first = λ process e. let old = kin_before table pid 1 process e in old.2.status ∙ family.first old.0 old.1;
    younger = λ other process e.
        let old = kin_before table pid other process e in
        let parent : process.parent ≡ old.0.parent = old.2.parent in
        let younger = family.younger other old.0 old.1 in
        omega arith;
    parents = λ other process e apart.
        let old = kin_before table pid other process e in
        ap (is_alive (changed table pid)) old.2.parent ∙ alive_kept table pid old.0.parent ∙ family.parents other old.0 old.1 apart;
    nobody = λ none other. none_after table pid other (family.nobody (none_before table pid 1 none) other);
  }

  pub changed_on : (table : Table) (pid : ℕ) → GoesOn table (changed table pid)
  changed_on table pid = record {
    grows = let same = length-changed table pid in omega arith;
    reaped_for_good = λ other made none. none_after table pid other none;
  }
