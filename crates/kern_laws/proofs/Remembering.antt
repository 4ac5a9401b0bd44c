-- Where a process has something else in memory, works in another directory, or ignores other signals: who is there, whose child and how is as before.
use Rattle.std.proofs.Common.{◌≡◌, ℕ, Option, None, Some, refl, ap, sym, ◌∙◌, length, inl, inr}
use Rattle.posix_defs.specs.Family.{IsFamily, IsKept, LeadsOn}
use Rattle.posix_defs.specs.Memory.{Memory}
use Rattle.posix_defs.specs.MemoryCalls.{remembered}
use Rattle.posix_defs.specs.Plain.{Plain, with_table}
use Rattle.posix_defs.specs.Process.{Ignores, Process, Table, process_at, ignoring, is_alive, remembering, with_directory, with_ignores, with_memory, working_in}
use Rattle.kern_laws.proofs.Kin.{KeepsKin, alive_kept, changed_family, changed_on, each, length-changed}

-- what else than memory a process has
pub record SameBeside (old new : Process) : Type 0 where
  pub parent : new.parent ≡ old.parent
  pub directory : new.directory ≡ old.directory
  pub status : new.status ≡ old.status

same_process : (old new : Process) → new ≡ old → SameBeside old new
same_process old new e = record { parent = ap (λ p. p.parent) e; directory = ap (λ p. p.directory) e; status = ap (λ p. p.status) e }

remembering_kin : (memory : Memory) → KeepsKin (remembering memory)
remembering_kin memory = record { none = refl; some = λ old. (record old { memory = memory }, refl, record { parent = refl; status = refl }) }

pub alive_still : (table : Table) (pid other : ℕ) (memory : Memory) → is_alive (with_memory table pid memory) other ≡ is_alive table other
alive_still table pid other memory = alive_kept (remembering memory) (remembering_kin memory) table pid other

was_there : (memory : Memory) (there : Option Process) (process : Process) → remembering memory there ≡ Some process
    → (old : Process) × (there ≡ Some old) × SameBeside old process
was_there memory None process e = cc
was_there memory (Some old) process e =
    let same : process ≡ record old { memory = memory } = (cc) in
    (old, refl, record { parent = ap (λ p. p.parent) same; directory = ap (λ p. p.directory) same; status = ap (λ p. p.status) same })

-- who is there was there
pub found_before : (table : Table) (pid other : ℕ) (memory : Memory) (process : Process) → process_at (with_memory table pid memory) other ≡ Some process
    → (old : Process) × (process_at table other ≡ Some old) × SameBeside old process
found_before table pid other memory process e = elim (each (remembering memory) (remembering_kin memory) table pid other) [
  | inl same ↦ (process, sym same ∙ e, same_process process process refl)
  | inr same ↦ was_there memory (process_at table other) process (sym same ∙ e)
]

pub length-with_memory : (table : Table) (pid : ℕ) (memory : Memory) → length (with_memory table pid memory) ≡ length table
length-with_memory table pid memory = length-changed (remembering memory) (remembering_kin memory) table pid

-- the family is the same
pub remembers_family : (table : Table) (pid : ℕ) (memory : Memory) → IsFamily table → IsFamily (with_memory table pid memory)
remembers_family table pid memory family = changed_family (remembering memory) (remembering_kin memory) table pid family

-- the machine goes on where something is put in memory
pub remembers_on : (plain : Plain) (pid : ℕ) (memory : Memory) → IsKept plain → LeadsOn plain (remembered plain pid memory)
remembers_on plain pid memory kept = record {
  family = changed_family (remembering memory) (remembering_kin memory) plain.table pid kept.family;
  counted = length-with_memory plain.table pid memory ∙ kept.counted;
  goes_on = changed_on (remembering memory) (remembering_kin memory) plain.table pid;
}

-- ---- directories

working_kin : (directory : ℕ) → KeepsKin (working_in directory)
working_kin directory = record { none = refl; some = λ old. (record old { directory = directory }, refl, record { parent = refl; status = refl }) }

pub alive_working : (table : Table) (pid other directory : ℕ) → is_alive (with_directory table pid directory) other ≡ is_alive table other
alive_working table pid other directory = alive_kept (working_in directory) (working_kin directory) table pid other

pub moves_on : (plain : Plain) (pid directory : ℕ) → IsKept plain → LeadsOn plain (with_table plain (with_directory plain.table pid directory))
moves_on plain pid directory kept = record {
  family = changed_family (working_in directory) (working_kin directory) plain.table pid kept.family;
  counted = length-changed (working_in directory) (working_kin directory) plain.table pid ∙ kept.counted;
  goes_on = changed_on (working_in directory) (working_kin directory) plain.table pid;
}

-- ---- signals

ignoring_kin : (ignores : Ignores) → KeepsKin (ignoring ignores)
ignoring_kin ignores = record { none = refl; some = λ old. (record old { ignores = ignores }, refl, record { parent = refl; status = refl }) }

pub alive_ignoring : (table : Table) (pid other : ℕ) (ignores : Ignores) → is_alive (with_ignores table pid ignores) other ≡ is_alive table other
alive_ignoring table pid other ignores = alive_kept (ignoring ignores) (ignoring_kin ignores) table pid other

pub disposes_on : (plain : Plain) (pid : ℕ) (ignores : Ignores) → IsKept plain → LeadsOn plain (with_table plain (with_ignores plain.table pid ignores))
disposes_on plain pid ignores kept = record {
  family = changed_family (ignoring ignores) (ignoring_kin ignores) plain.table pid kept.family;
  counted = length-changed (ignoring ignores) (ignoring_kin ignores) plain.table pid ∙ kept.counted;
  goes_on = changed_on (ignoring ignores) (ignoring_kin ignores) plain.table pid;
}
