-- What a table of processes, and the list of controls, have of a process after another one's call.
use Rattle.std.proofs.Common.{◌≡◌, ◌≢◌, ℕ, zero, suc, ◌<◌, ◌≤◌, ◌==◌, Bool, true, false, cond, List, ◌++◌, length, map, Option, None, Some, refl, ap, sym, ◌∙◌, subst, inl, inr, arith}
use Rattle.std.proofs.lemmas.Bool.Decides.{eqb_tells}
use Rattle.std.proofs.lemmas.List.{length-map}
use Rattle.posix_defs.specs.ByPid.{at_pid, with_pid}
use Rattle.posix_defs.specs.Ending.{die_in, ended_as, leaves, left_behind, left_child}
use Rattle.posix_defs.specs.Process.{Alive, Ended, Process, Status, Table, directory_in, directory_of, ignores_in, ignores_of, is_alive, is_alive_in, memory_in, memory_of, process_at, runs}
use Rattle.kern_laws.proofs.Families.{alive_there}
use Rattle.kern_laws.proofs.TablePlaces.{each_changed, get_front, get_set_other, is_gone, was_made, with_other, with_same}
use Rattle.machine_laws.proofs.Shutting.{length_with}

pub true_false : {b : Bool} → b ≡ true → b ≡ false → ⊥
true_false one two = cc

-- ---- lists by pid

pub at_other : {X : Type 0} (xs : List X) (pid who : ℕ) (x : X) → who ≢ pid → at_pid (with_pid xs pid x) who ≡ at_pid xs who
at_other xs zero who x apart = refl
at_other xs (suc i) zero x apart = refl
at_other xs (suc i) (suc j) x apart = get_set_other xs i j x (λ same. apart (ap suc same))

pub at_front : {X : Type 0} (xs ys : List X) (who : ℕ) → who ≤ length xs → at_pid (xs ++ ys) who ≡ at_pid xs who
at_front xs ys zero h = refl
at_front xs ys (suc i) h = get_front xs ys i (omega arith)

-- ---- what a process has in memory, where it works, and which signals it ignores

pub record KeepsPlace (who : ℕ) (old new : Table) : Type 0 where
  pub memory : memory_of new who ≡ memory_of old who
  pub directory : directory_of new who ≡ directory_of old who
  pub ignores : ignores_of new who ≡ ignores_of old who

pub same_place : (who : ℕ) (old new : Table) → process_at new who ≡ process_at old who → KeepsPlace who old new
same_place who old new same = record { memory = ap memory_in same; directory = ap directory_in same; ignores = ap ignores_in same }

pub other_place : (who pid : ℕ) (table : Table) (there : Option Process) → who ≢ pid → KeepsPlace who table (with_pid table pid there)
other_place who pid table there apart = same_place who table (with_pid table pid there) (with_other table pid who there apart)

-- who lives stays when another ends, though it may get another parent
left_place : (table : Table) (target status who : ℕ) → who ≢ target → is_alive table who ≡ true → KeepsPlace who table (leaves table target status)
left_place table target status who apart alive = let there = alive_there table who alive in
    record { memory = memory there.0 there.1 there.2; directory = directory there.0 there.1 there.2; ignores = ignores there.0 there.1 there.2 }
  where
    found : process_at (leaves table target status) who ≡ left_behind target (process_at table who)
    found = with_other (map (left_behind target) table) target who (ended_as status (process_at table target)) apart ∙ each_changed (left_behind target) table who refl

    kept_memory : (b : Bool) (of_it : Status) (process : Process) → of_it ≡ Alive → memory_in (cond b (left_child of_it process) (Some process)) ≡ process.memory
    kept_memory true Alive process is = refl
    kept_memory true (Ended code) process is = absurd (true_false (ap runs is) refl)
    kept_memory false of_it process is = refl

    kept_directory : (b : Bool) (of_it : Status) (process : Process) → of_it ≡ Alive → directory_in (cond b (left_child of_it process) (Some process)) ≡ process.directory
    kept_directory true Alive process is = refl
    kept_directory true (Ended code) process is = absurd (true_false (ap runs is) refl)
    kept_directory false of_it process is = refl

    kept_ignores : (b : Bool) (of_it : Status) (process : Process) → of_it ≡ Alive → ignores_in (cond b (left_child of_it process) (Some process)) ≡ process.ignores
    kept_ignores true Alive process is = refl
    kept_ignores true (Ended code) process is = absurd (true_false (ap runs is) refl)
    kept_ignores false of_it process is = refl

    memory : (process : Process) → process_at table who ≡ Some process → process.status ≡ Alive → memory_of (leaves table target status) who ≡ memory_of table who
    memory process is lives = ap memory_in (found ∙ ap (left_behind target) is) ∙ kept_memory (process.parent == target) process.status process lives ∙ sym (ap memory_in is)

    directory : (process : Process) → process_at table who ≡ Some process → process.status ≡ Alive → directory_of (leaves table target status) who ≡ directory_of table who
    directory process is lives = ap directory_in (found ∙ ap (left_behind target) is) ∙ kept_directory (process.parent == target) process.status process lives ∙ sym (ap directory_in is)

    ignores : (process : Process) → process_at table who ≡ Some process → process.status ≡ Alive → ignores_of (leaves table target status) who ≡ ignores_of table who
    ignores process is lives = ap ignores_in (found ∙ ap (left_behind target) is) ∙ kept_ignores (process.parent == target) process.status process lives ∙ sym (ap ignores_in is)

-- nobody lives where the first process has ended
pub none_alive : (table : Table) (who : ℕ) → is_alive (map (λ _. None) table) who ≡ false
none_alive table who = ap is_alive_in (each_changed (λ _. None) table who refl)

pub die_place : (table : Table) (target status who : ℕ) → who ≢ target → is_alive table who ≡ true → is_alive (die_in table target status) who ≡ true
    → KeepsPlace who table (die_in table target status)
die_place table zero status who apart alive still = left_place table zero status who apart alive
die_place table (suc zero) status who apart alive still = absurd (true_false still (none_alive table who))
die_place table (suc (suc n)) status who apart alive still = left_place table (suc (suc n)) status who apart alive

-- ---- who isn't alive

-- who ends isn't alive any more
pub ended_dead : (table : Table) (target status : ℕ) → is_alive table target ≡ true → is_alive (die_in table target status) target ≡ false
ended_dead table zero status alive = absurd (true_false alive refl)
ended_dead table (suc zero) status alive = none_alive table 1
ended_dead table (suc (suc n)) status alive = let there = alive_there table (suc (suc n)) alive in let made = was_made table (suc (suc n)) there.0 there.1 in
    ap is_alive_in (with_same (map (left_behind (suc (suc n))) table) (suc (suc n)) (ended_as status (process_at table (suc (suc n)))) made.0
    (subst (λ k. suc (suc n) ≤ k) (sym (length-map table (left_behind (suc (suc n))))) made.1)) ∙ over (process_at table (suc (suc n)))
  where
    over : (o : Option Process) → is_alive_in (ended_as status o) ≡ false
    over None = refl
    over (Some process) = refl

-- who wasn't alive isn't alive when another has ended
left_dead : (table : Table) (target status who : ℕ) → is_alive table who ≡ false → is_alive (leaves table target status) who ≡ false
left_dead table target status who dead = elim (eqb_tells who target) [
  | inr apart ↦ ap is_alive_in (with_other (map (left_behind target) table) target who (ended_as status (process_at table target)) apart.1
      ∙ each_changed (left_behind target) table who refl) ∙ left (process_at table who) dead
  | inl alike ↦ own (process_at (leaves table target status) who) refl alike.1
]
  where
    child : (b : Bool) (of_it : Status) (process : Process) → of_it ≡ process.status → runs process.status ≡ false → is_alive_in (cond b (left_child of_it process) (Some process)) ≡ false
    child true Alive process is over = absurd (true_false (ap runs (sym is)) over)
    child true (Ended code) process is over = refl
    child false of_it process is over = over

    left : (o : Option Process) → is_alive_in o ≡ false → is_alive_in (left_behind target o) ≡ false
    left None over = refl
    left (Some process) over = child (process.parent == target) process.status process refl over

    over_as : (o : Option Process) → is_alive_in (ended_as status o) ≡ false
    over_as None = refl
    over_as (Some process) = refl

    own : (o : Option Process) → process_at (leaves table target status) who ≡ o → who ≡ target → is_alive (leaves table target status) who ≡ false
    own None is same = ap is_alive_in is
    own (Some process) is same = let made = was_made (leaves table target status) who process is in
        ap (is_alive (leaves table target status)) same
        ∙ ap is_alive_in (with_same (map (left_behind target) table) target (ended_as status (process_at table target)) (subst (λ p. 0 < p) same made.0)
        (subst (λ k. target ≤ k) (length_with (map (left_behind target) table) target (ended_as status (process_at table target))) (subst (λ p. p ≤ length (leaves table target status)) same made.1)))
        ∙ over_as (process_at table target)

pub die_dead : (table : Table) (target status who : ℕ) → is_alive table who ≡ false → is_alive (die_in table target status) who ≡ false
die_dead table zero status who dead = left_dead table zero status who dead
die_dead table (suc zero) status who dead = none_alive table who
die_dead table (suc (suc n)) status who dead = left_dead table (suc (suc n)) status who dead

-- who was reaped isn't alive, and the others are as they were
pub reaped_dead : (table : Table) (child who : ℕ) → is_alive table who ≡ false → is_alive (with_pid table child None) who ≡ false
reaped_dead table child who dead = elim (eqb_tells who child) [
  | inl alike ↦ ap (is_alive (with_pid table child None)) alike.1 ∙ ap is_alive_in (is_gone table child)
  | inr apart ↦ ap is_alive_in (with_other table child who None apart.1) ∙ dead
]
