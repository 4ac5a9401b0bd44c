-- Who is alive after a process has ended, and what is kept of who is alive.
use Rattle.std.proofs.Common.{◌≡◌, ◌≢◌, ℕ, zero, suc, ◌<◌, ◌≤◌, ◌==◌, Bool, true, false, cond, map, length, Option, None, Some, refl, ap, sym, ◌∙◌, subst, inl, inr, arith}
use Rattle.std.proofs.lemmas.Bool.Decides.{eqb_tells}
use Rattle.std.proofs.lemmas.List.{length-map}
use Rattle.posix_defs.specs.Ending.{die_in, ended_as, leaves, left_behind, left_child}
use Rattle.posix_defs.specs.Process.{Alive, Ended, Process, Status, Table, directory_in, directory_of, is_alive, is_alive_in, process_at, runs}
use Rattle.kern_laws.proofs.TablePlaces.{below_or_not, each_changed, past_last, with_other, with_same}
use Rattle.machine_laws.proofs.Shutting.{length_with}
use Rattle.machine_laws.proofs.Items.{true_false}

-- one who is alive was alive before, isn't the one that ended, and that one wasn't the first; he works where he did
pub record Survives (table : Table) (pid status who : ℕ) : Type 0 where
  pub alive : is_alive table who ≡ true
  pub apart : who ≢ pid
  pub not_first : pid ≢ 1
  pub directory : directory_of (die_in table pid status) who ≡ directory_of table who

left_process : (pid : ℕ) (there : Option Process) → is_alive_in (left_behind pid there) ≡ true → (is_alive_in there ≡ true) × (directory_in (left_behind pid there) ≡ directory_in there)
left_process pid None e = absurd (true_false false e refl)
left_process pid (Some process) e = go (process.parent == pid) process.status refl e
  where
    go : (b : Bool) (status : Status) → process.status ≡ status → is_alive_in (cond b (left_child status process) (Some process)) ≡ true
        → (runs process.status ≡ true) × (directory_in (cond b (left_child status process) (Some process)) ≡ process.directory)
    go true Alive is e = (ap runs is, refl)
    go true (Ended status) is e = absurd (true_false false e refl)
    go false status is e = (e, refl)

ended_dead : (status : ℕ) (there : Option Process) → is_alive_in (ended_as status there) ≡ false
ended_dead status None = refl
ended_dead status (Some process) = refl

-- who has ended isn't alive
own_dead : (table : Table) (pid status : ℕ) → is_alive (leaves table pid status) pid ≡ false
own_dead table zero status = refl
own_dead table (suc i) status = elim (below_or_not (length table) (suc i)) [
  | inl h ↦ ap is_alive_in (past_last (leaves table (suc i) status) (suc i) (subst (λ n. n < suc i) (sym same) h))
  | inr h ↦ ap is_alive_in (with_same (map (left_behind (suc i)) table) (suc i) (ended_as status (process_at table (suc i))) (omega arith)
      (subst (λ n. suc i ≤ n) (sym (length-map table (left_behind (suc i)))) h)) ∙ ended_dead status (process_at table (suc i))
]
  where
    same : length (leaves table (suc i) status) ≡ length table
    same = length_with (map (left_behind (suc i)) table) (suc i) (ended_as status (process_at table (suc i))) ∙ length-map table (left_behind (suc i))

left_survives : (table : Table) (pid status who : ℕ) → pid ≢ 1 → is_alive (leaves table pid status) who ≡ true
    → (is_alive table who ≡ true) × (who ≢ pid) × (directory_of (leaves table pid status) who ≡ directory_of table who)
left_survives table pid status who other alive = elim (eqb_tells who pid) [
  | inl same ↦ absurd (true_false (is_alive (leaves table pid status) who) alive (ap (is_alive (leaves table pid status)) same.1 ∙ own_dead table pid status))
  | inr apart ↦ let is = at apart.1 in let before = left_process pid (process_at table who) (sym (ap is_alive_in is) ∙ alive) in
      (before.0, apart.1, ap directory_in is ∙ before.1)
]
  where
    at : who ≢ pid → process_at (leaves table pid status) who ≡ left_behind pid (process_at table who)
    at apart = with_other (map (left_behind pid) table) pid who (ended_as status (process_at table pid)) apart ∙ each_changed (left_behind pid) table who refl

pub survives : (table : Table) (pid status who : ℕ) → is_alive (die_in table pid status) who ≡ true → Survives table pid status who
survives table zero status who alive = let before = left_survives table zero status who (λ e. let f : 0 ≡ 1 = e in absurd (omega arith)) alive in
    record { alive = before.0; apart = before.1; not_first = λ e. (let f : 0 ≡ 1 = e in absurd (omega arith)); directory = before.2 }
survives table (suc zero) status who alive = absurd (true_false (is_alive (map (λ _. None) table) who) alive (ap is_alive_in (each_changed (λ _. None) table who refl)))
survives table (suc (suc n)) status who alive = let before = left_survives table (suc (suc n)) status who (λ e. let f : suc (suc n) ≡ 1 = e in absurd (omega arith)) alive in
    record { alive = before.0; apart = before.1; not_first = λ e. (let f : suc (suc n) ≡ 1 = e in absurd (omega arith)); directory = before.2 }
