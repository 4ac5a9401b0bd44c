-- What is kept of processes: what they have in memory are bytes, and who lives works in a directory.
use Rattle.std.proofs.Common.{◌≡◌, ℕ, zero, suc, ◌<◌, ◌≤◌, ◌==◌, Bool, true, false, cond, [], ◌∷◌, ◌++◌, length, map, Option, None, Some, refl, ap, sym, ◌∙◌, subst, ◌⊎◌, inl, inr}
use Rattle.std.specs.List.{list_any}
use Rattle.std.proofs.lemmas.Bool.Decides.{eqb_tells}
use Rattle.posix_defs.specs.ByPid.{with_pid}
use Rattle.posix_defs.specs.Ending.{die_in, ended_as, leaves, left_behind, left_child}
use Rattle.posix_defs.specs.Forking.{child_of}
use Rattle.posix_defs.specs.Memory.{Memory, no_memory}
use Rattle.posix_defs.specs.Process.{Alive, Ended, Ignores, Process, Status, Table, directory_in, directory_of, ignoring, is_alive, memory_in, memory_of, process_at, remembering, runs, with_directory, with_ignores, with_memory, working_in}
use Rattle.posix_defs.specs.Tree.{Tree, is_directory}
use Rattle.posix_defs.specs.Calls.OnNames.{works_in}
use Rattle.kern_laws.proofs.Families.{alive_there}
use Rattle.kern_laws.proofs.TablePlaces.{each_changed, in_longer, was_made, with_other, with_same}
use Rattle.machine_laws.proofs.Places.{not_some, some_same}
use Rattle.machine_laws.proofs.Shutting.{length_with}
use Rattle.machine_laws.specs.Bytes.{HasMemoryBytes}
use Rattle.machine_laws.proofs.Items.{true_false}
use Rattle.machine_laws.proofs.MovedBytes.{no_memory_bytes}
use Rattle.machine_laws.proofs.Openers.{works}

-- what a process has in memory are bytes, and who runs works in a directory
pub record KeepsProcess (tree : Tree) (process : Process) : Type 0 where
  pub memory : HasMemoryBytes process.memory
  pub directory : runs process.status ≡ true → is_directory tree process.directory ≡ true

abbrev pub AreKept : Tree → Table → Type 0
AreKept tree table = (who : ℕ) (process : Process) → process_at table who ≡ Some process → KeepsProcess tree process

-- the directories in which processes work are there still
pub table_on : (tree after : Tree) (table : Table) → ((n : ℕ) → is_directory tree n ≡ true → list_any (works_in n) table ≡ true → is_directory after n ≡ true) → AreKept tree table → AreKept after table
table_on tree after table directories kept who process is = let before = kept who process is in
    record { memory = before.memory; directory = λ alive. directories process.directory (before.directory alive) (works table who process is alive) }

-- who is there after one item has changed was there before, or is that one
pub at_with : (table : Table) (pid : ℕ) (there : Option Process) (who : ℕ) (process : Process) → process_at (with_pid table pid there) who ≡ Some process → (there ≡ Some process) ⊎ (process_at table who ≡ Some process)
at_with table pid there who process is = elim (eqb_tells who pid) [
  | inr apart ↦ inr (sym (with_other table pid who there apart.1) ∙ is)
  | inl alike ↦ let made_it = was_made (with_pid table pid there) who process is in
      inl (sym (with_same table pid there (subst (λ p. 0 < p) alike.1 made_it.0) (subst (λ n. pid ≤ n) (length_with table pid there) (subst (λ p. p ≤ length (with_pid table pid there)) alike.1 made_it.1)))
      ∙ sym (ap (process_at (with_pid table pid there)) alike.1) ∙ is)
]

changed_kept : (tree : Tree) (table : Table) (pid : ℕ) (there : Option Process) → ((process : Process) → there ≡ Some process → KeepsProcess tree process) → AreKept tree table → AreKept tree (with_pid table pid there)
changed_kept tree table pid there new kept who process is = elim (at_with table pid there who process is) [ inl here ↦ new process here | inr old ↦ kept who process old ]

pub memory_kept : (tree : Tree) (table : Table) (pid : ℕ) (memory : Memory) → HasMemoryBytes memory → AreKept tree table → AreKept tree (with_memory table pid memory)
memory_kept tree table pid memory has kept = changed_kept tree table pid (remembering memory (process_at table pid)) (λ process is. go (process_at table pid) refl process is) kept
  where
    go : (o : Option Process) → process_at table pid ≡ o → (process : Process) → remembering memory o ≡ Some process → KeepsProcess tree process
    go None there process is = absurd (not_some refl is)
    go (Some old) there process is = let before = kept pid old there in
        subst (KeepsProcess tree) (some_same (Some (record old { memory = memory })) (record old { memory = memory }) process refl is) (record { memory = has; directory = before.directory })

pub moved_kept : (tree : Tree) (table : Table) (pid directory : ℕ) → is_directory tree directory ≡ true → AreKept tree table → AreKept tree (with_directory table pid directory)
moved_kept tree table pid directory dir kept = changed_kept tree table pid (working_in directory (process_at table pid)) (λ process is. go (process_at table pid) refl process is) kept
  where
    go : (o : Option Process) → process_at table pid ≡ o → (process : Process) → working_in directory o ≡ Some process → KeepsProcess tree process
    go None there process is = absurd (not_some refl is)
    go (Some old) there process is = let before = kept pid old there in
        subst (KeepsProcess tree) (some_same (Some (record old { directory = directory })) (record old { directory = directory }) process refl is) (record { memory = before.memory; directory = λ alive. dir })

pub disposed_kept : (tree : Tree) (table : Table) (pid : ℕ) (ignores : Ignores) → AreKept tree table → AreKept tree (with_ignores table pid ignores)
disposed_kept tree table pid ignores kept = changed_kept tree table pid (ignoring ignores (process_at table pid)) (λ process is. go (process_at table pid) refl process is) kept
  where
    go : (o : Option Process) → process_at table pid ≡ o → (process : Process) → ignoring ignores o ≡ Some process → KeepsProcess tree process
    go None there process is = absurd (not_some refl is)
    go (Some old) there process is = let before = kept pid old there in
        subst (KeepsProcess tree) (some_same (Some (record old { ignores = ignores })) (record old { ignores = ignores }) process refl is) (record { memory = before.memory; directory = before.directory })

pub reaped_kept : (tree : Tree) (table : Table) (child : ℕ) → AreKept tree table → AreKept tree (with_pid table child None)
reaped_kept tree table child kept = changed_kept tree table child None (λ process is. absurd (not_some refl is)) kept

pub child_kept : (tree : Tree) (table : Table) (pid : ℕ) → AreKept tree table → AreKept tree (table ++ child_of pid (process_at table pid) ∷ [])
child_kept tree table pid kept who process is = elim (in_longer table (child_of pid (process_at table pid)) who process is) [
  | inl old ↦ kept who process old.1
  | inr last ↦ go (process_at table pid) refl last.1
]
  where
    go : (o : Option Process) → process_at table pid ≡ o → child_of pid o ≡ Some process → KeepsProcess tree process
    go None there e = absurd (not_some refl e)
    go (Some old) there e = let before = kept pid old there in
        subst (KeepsProcess tree) (some_same (Some (record old { parent = pid })) (record old { parent = pid }) process refl e) (record { memory = before.memory; directory = before.directory })

left_kept : (tree : Tree) (table : Table) (pid status : ℕ) → AreKept tree table → AreKept tree (leaves table pid status)
left_kept tree table pid status kept = changed_kept tree (map (left_behind pid) table) pid (ended_as status (process_at table pid)) (λ process is. ended (process_at table pid) process is) others
  where
    ended : (o : Option Process) (process : Process) → ended_as status o ≡ Some process → KeepsProcess tree process
    ended None process is = absurd (not_some refl is)
    ended (Some old) process is = subst (KeepsProcess tree) (some_same (Some (record old { status = Ended status; memory = no_memory })) (record old { status = Ended status; memory = no_memory }) process refl is)
        (record { memory = no_memory_bytes; directory = λ alive. absurd (true_false false alive refl) })

    others : AreKept tree (map (left_behind pid) table)
    others who process is = go (process_at table who) refl (sym (each_changed (left_behind pid) table who refl) ∙ is)
      where
        old_kept : (old : Process) → process_at table who ≡ Some old → (b : Bool) (of_it : Status) → cond b (left_child of_it old) (Some old) ≡ Some process → KeepsProcess tree process
        old_kept old there true Alive e = let before = kept who old there in
            subst (KeepsProcess tree) (some_same (Some (record old { parent = 1 })) (record old { parent = 1 }) process refl e) (record { memory = before.memory; directory = before.directory })
        old_kept old there true (Ended code) e = absurd (not_some refl e)
        old_kept old there false of_it e = subst (KeepsProcess tree) (some_same (Some old) old process refl e) (kept who old there)

        go : (o : Option Process) → process_at table who ≡ o → left_behind pid o ≡ Some process → KeepsProcess tree process
        go None there e = absurd (not_some refl e)
        go (Some old) there e = old_kept old there (old.parent == pid) old.status e

pub die_kept : (tree : Tree) (table : Table) (pid status : ℕ) → AreKept tree table → AreKept tree (die_in table pid status)
die_kept tree table zero status kept = left_kept tree table zero status kept
die_kept tree table (suc zero) status kept = λ who process is. absurd (not_some (each_changed (λ _. None) table who refl) is)
die_kept tree table (suc (suc n)) status kept = left_kept tree table (suc (suc n)) status kept

pub held_memory : (tree : Tree) (table : Table) → AreKept tree table → (pid : ℕ) → HasMemoryBytes (memory_of table pid)
held_memory tree table kept pid = go (process_at table pid) refl
  where
    go : (o : Option Process) → process_at table pid ≡ o → HasMemoryBytes (memory_in o)
    go None is = no_memory_bytes
    go (Some process) is = let it = kept pid process is in it.memory

pub held_directory : (tree : Tree) (table : Table) → AreKept tree table → (pid : ℕ) → is_alive table pid ≡ true → is_directory tree (directory_of table pid) ≡ true
held_directory tree table kept pid alive = let there = alive_there table pid alive in let it = kept pid there.0 there.1 in
    ap (λ o. is_directory tree (directory_in o)) there.1 ∙ it.directory (ap runs there.2)
