-- With the first process all end, one after another, and nobody is left.
use Rattle.std.proofs.Common.{◌≡◌, ◌≢◌, ◌⊎◌, ℕ, zero, suc, ◌+◌, ◌<◌, ◌≤◌, ◌==◌, ◌||◌, Bool, true, false, cond, not, [], ◌∷◌, length, map, Option, None, Some, refl, sym, ap, ◌∙◌, subst, inl, inr, arith}
use Rattle.std.proofs.lemmas.Bool.{cases_lt}
use Rattle.std.proofs.lemmas.Bool.Decides.{eqb_tells}
use Rattle.std.proofs.lemmas.List.{length-map}
use Rattle.posix_defs.specs.ByPid.{with_pid}
use Rattle.posix_defs.specs.Ending.{die_in, ended_as, leaves, left_behind, left_child}
use Rattle.posix_defs.specs.Family.{IsFamily}
use Rattle.posix_defs.specs.Process.{Alive, Ended, Process, Status, Table, is_alive, is_alive_in, is_there, process_at}
use Rattle.kern_laws.proofs.Families.{others_live, there_alive}
use Rattle.kern_laws.proofs.TablePlaces.{each_changed, is_gone, past_last, with_other}
use Rattle.proc_table.specs.Standing.{ends_alone, ends_from, ends_in}
use Rattle.proc_table.proofs.FamilyLemmas.{length-with_pid}
use Rattle.proc_table.proofs.PlaceLemmas.{some_same}

-- Those below a pid are gone, and of the others each that has ended has a parent that runs, older than itself.
record AreOrphans (pid : ℕ) (table : Table) : Type 0 where
  below : (q : ℕ) → q < pid → process_at table q ≡ None
  over : (q : ℕ) (process : Process) → process_at table q ≡ Some process → (process.status ≡ Alive) ⊎ ((is_alive table process.parent ≡ true) × (process.parent < q))

-- the table after one has ended and is gone
abbrev gone_after : Table → ℕ → ℕ → Table
gone_after table pid status = with_pid (leaves table pid status) pid None

at_other : (table : Table) (pid status q : ℕ) → q ≢ pid → process_at (gone_after table pid status) q ≡ left_behind pid (process_at table q)
at_other table pid status q apart =
    with_other (leaves table pid status) pid q None apart
    ∙ with_other (map (left_behind pid) table) pid q (ended_as status (process_at table pid)) apart
    ∙ each_changed (left_behind pid) table q refl

alive_on : (table : Table) (pid status q : ℕ) → q ≢ pid → is_alive table q ≡ true → is_alive (gone_after table pid status) q ≡ true
alive_on table pid status q apart lives = ap is_alive_in (with_other (leaves table pid status) pid q None apart) ∙ others_live table pid q status lives apart

-- what one that another leaves behind was
record Left (pid : ℕ) (process old : Process) : Type 0 where
  is : (process.status ≡ Alive) ⊎ ((process ≡ old) × (old.parent ≢ pid))

left_was : (pid : ℕ) (process old : Process) → left_behind pid (Some old) ≡ Some process → Left pid process old
left_was pid process old e = by_parent (eqb_tells old.parent pid)
  where
    child : (status : Status) → old.status ≡ status → left_child status old ≡ Some process → Left pid process old
    child Alive lives f = record { is = inl (ap (λ p. p.status) (sym (some_same (Some process) (record old { parent = 1 }) process (sym f) refl)) ∙ lives) }
    child (Ended over) lives f = cc

    by_parent : (((old.parent == pid) ≡ true) × (old.parent ≡ pid)) ⊎ (((old.parent == pid) ≡ false) × (old.parent ≢ pid)) → Left pid process old
    by_parent (inl same) = child old.status refl (sym (ap (λ b. cond b (left_child old.status old) (Some old)) same.0) ∙ e)
    by_parent (inr apart) = record {
      is = inr (some_same (Some process) process old refl (sym (sym (ap (λ b. cond b (left_child old.status old) (Some old)) apart.0) ∙ e)), apart.1);
    }

-- one that is alone ends
orphans_after : (table : Table) (pid status : ℕ) → AreOrphans pid table → AreOrphans (pid + 1) (gone_after table pid status)
orphans_after table pid status orphans = record { below = below; over = over }
  where
    below : (q : ℕ) → q < pid + 1 → process_at (gone_after table pid status) q ≡ None
    below q within = elim (eqb_tells q pid) [
      | inl same ↦ ap (process_at (gone_after table pid status)) same.1 ∙ is_gone (leaves table pid status) pid
      | inr apart ↦ at_other table pid status q apart.1 ∙ ap (left_behind pid) (orphans.below q (less q within apart.1))
    ]
      where
        less : (q : ℕ) → q < pid + 1 → q ≢ pid → q < pid
        less q within apart = omega arith

    from_old : (q : ℕ) (process old : Process) → q ≢ pid → process_at table q ≡ Some old → Left pid process old
        → (process.status ≡ Alive) ⊎ ((is_alive (gone_after table pid status) process.parent ≡ true) × (process.parent < q))
    from_old q process old apart was left = by_left left.is
      where
        same_old : process ≡ old → old.parent ≢ pid → (old.status ≡ Alive) ⊎ ((is_alive table old.parent ≡ true) × (old.parent < q))
            → (process.status ≡ Alive) ⊎ ((is_alive (gone_after table pid status) process.parent ≡ true) × (process.parent < q))
        same_old same other (inl lives) = inl (ap (λ p. p.status) same ∙ lives)
        same_old same other (inr parent) = inr (
          ap (λ p. is_alive (gone_after table pid status) p.parent) same ∙ alive_on table pid status old.parent other parent.0,
          subst (λ p. p.parent < q) (sym same) parent.1,
        )

        by_left : (process.status ≡ Alive) ⊎ ((process ≡ old) × (old.parent ≢ pid)) → (process.status ≡ Alive) ⊎ ((is_alive (gone_after table pid status) process.parent ≡ true) × (process.parent < q))
        by_left (inl lives) = inl lives
        by_left (inr same) = same_old same.0 same.1 (orphans.over q old was)

    over : (q : ℕ) (process : Process) → process_at (gone_after table pid status) q ≡ Some process
        → (process.status ≡ Alive) ⊎ ((is_alive (gone_after table pid status) process.parent ≡ true) × (process.parent < q))
    over q process is = by_pid (eqb_tells q pid)
      where
        by_old : (o : Option Process) → q ≢ pid → process_at table q ≡ o → left_behind pid o ≡ Some process
            → (process.status ≡ Alive) ⊎ ((is_alive (gone_after table pid status) process.parent ≡ true) × (process.parent < q))
        by_old None apart was left = cc
        by_old (Some old) apart was left = from_old q process old apart was (left_was pid process old left)

        by_pid : (((q == pid) ≡ true) × (q ≡ pid)) ⊎ (((q == pid) ≡ false) × (q ≢ pid))
            → (process.status ≡ Alive) ⊎ ((is_alive (gone_after table pid status) process.parent ≡ true) × (process.parent < q))
        by_pid (inl same) = absurd (let none = is_gone (leaves table pid status) pid in let some = ap (process_at (gone_after table pid status)) (sym same.1) ∙ is in cc)
        by_pid (inr apart) = by_old (process_at table q) apart.1 refl (sym (at_other table pid status q apart.1) ∙ is)

-- where the first isn't there whoever ends goes
alone_after : (table : Table) (pid status : ℕ) → process_at table 1 ≡ None → ends_in table pid status ≡ gone_after table pid status
alone_after table pid status none =
    ap (λ b. cond ((pid == 1) || not b) (gone_after table pid status) (leaves table pid status)) (ap is_there none) ∙ either (pid == 1)
  where
    either : (b : Bool) → cond (b || true) (gone_after table pid status) (leaves table pid status) ≡ gone_after table pid status
    either true = refl
    either false = refl

-- the next one ends, if it runs
orphans_next : (table : Table) (pid status : ℕ) → 1 < pid → AreOrphans pid table → AreOrphans (pid + 1) (cond (is_alive table pid) (ends_in table pid status) table)
orphans_next table pid status later orphans = by_life (is_alive table pid) refl
  where
    not_there : (o : Option Process) → process_at table pid ≡ o → is_alive table pid ≡ false → process_at table pid ≡ None
    not_there None is dead = is
    not_there (Some process) is dead = by_over (orphans.over pid process is)
      where
        by_over : (process.status ≡ Alive) ⊎ ((is_alive table process.parent ≡ true) × (process.parent < pid)) → process_at table pid ≡ None
        by_over (inl lives) = absurd (let alive = there_alive table pid process is lives in let no = dead in cc)
        by_over (inr parent) = absurd (let none = orphans.below process.parent parent.1 in let dead_parent : is_alive table process.parent ≡ false = ap is_alive_in none in let yes = parent.0 in cc)

    by_life : (b : Bool) → is_alive table pid ≡ b → AreOrphans (pid + 1) (cond (is_alive table pid) (ends_in table pid status) table)
    by_life true lives =
        subst (AreOrphans (pid + 1)) (sym (ap (λ b. cond b (ends_in table pid status) table) lives ∙ alone_after table pid status (orphans.below 1 later)))
        (orphans_after table pid status orphans)
    by_life false dead =
        subst (AreOrphans (pid + 1)) (sym (ap (λ b. cond b (ends_in table pid status) table) dead))
        (record { below = λ q within. below q within (eqb_tells q pid); over = orphans.over })
      where
        below : (q : ℕ) → q < pid + 1 → (((q == pid) ≡ true) × (q ≡ pid)) ⊎ (((q == pid) ≡ false) × (q ≢ pid)) → process_at table q ≡ None
        below q within (inl same) = ap (process_at table) same.1 ∙ not_there (process_at table pid) refl dead
        below q within (inr apart) = orphans.below q (less q within apart.1)
          where
            less : (q : ℕ) → q < pid + 1 → q ≢ pid → q < pid
            less q within apart = omega arith

length-ends_in : (table : Table) (pid status : ℕ) → length (ends_in table pid status) ≡ length table
length-ends_in table pid status = by_alone (ends_alone table pid)
  where
    left : length (leaves table pid status) ≡ length table
    left = length-with_pid (map (left_behind pid) table) pid (ended_as status (process_at table pid)) ∙ length-map table (left_behind pid)

    by_alone : (b : Bool) → length (cond b (gone_after table pid status) (leaves table pid status)) ≡ length table
    by_alone true = length-with_pid (leaves table pid status) pid None ∙ left
    by_alone false = left

-- all end in turn
orphans_all : (more pid : ℕ) (table : Table) (status : ℕ) → 1 < pid → AreOrphans pid table → AreOrphans (pid + more) (ends_from more pid table status)
orphans_all zero pid table status later orphans = subst (λ n. AreOrphans n table) (let e : pid ≡ pid + 0 = omega arith in e) orphans
orphans_all (suc more) pid table status later orphans =
    subst (λ n. AreOrphans n (ends_from (suc more) pid table status)) (let e : pid + 1 + more ≡ pid + suc more = omega arith in e)
    (orphans_all more (pid + 1) (cond (is_alive table pid) (ends_in table pid status) table) status (omega arith) (orphans_next table pid status later orphans))

length-ends_from : (more pid : ℕ) (table : Table) (status : ℕ) → length (ends_from more pid table status) ≡ length table
length-ends_from zero pid table status = refl
length-ends_from (suc more) pid table status =
    length-ends_from more (pid + 1) (cond (is_alive table pid) (ends_in table pid status) table) status ∙ by_life (is_alive table pid)
  where
    by_life : (b : Bool) → length (cond b (ends_in table pid status) table) ≡ length table
    by_life true = length-ends_in table pid status
    by_life false = refl

-- a table in which nobody is
nobody_there : (table other : Table) → length table ≡ length other → ((q : ℕ) → process_at table q ≡ None) → table ≡ map (λ _. None) other
nobody_there [] [] same none = refl
nobody_there [] (o ∷ other) same none = cc
nobody_there (o ∷ table) [] same none = cc
nobody_there (o ∷ table) (p ∷ other) same none =
    ap (λ first. first ∷ table) (none 1) ∙ ap (λ rest. None ∷ rest) (nobody_there table other (let e : suc (length table) ≡ suc (length other) = same in omega arith) behind)
  where
    behind : (q : ℕ) → process_at table q ≡ None
    behind zero = refl
    behind (suc i) = none (suc (suc i))

-- after the first has ended all others are orphans
first_orphans : (table : Table) (status : ℕ) → IsFamily table → AreOrphans 2 (gone_after table 1 status)
first_orphans table status family = orphans_after_family
  where
    from_family : (q : ℕ) (process : Process) → process_at table q ≡ Some process → q ≢ 1 → (is_alive table process.parent ≡ true) × (process.parent < q)
    from_family q process is apart = (family.parents q process is apart, family.younger q process is)

    over : (q : ℕ) (process : Process) → process_at (gone_after table 1 status) q ≡ Some process
        → (process.status ≡ Alive) ⊎ ((is_alive (gone_after table 1 status) process.parent ≡ true) × (process.parent < q))
    over q process is = by_pid (eqb_tells q 1)
      where
        by_old : (o : Option Process) → q ≢ 1 → process_at table q ≡ o → left_behind 1 o ≡ Some process
            → (process.status ≡ Alive) ⊎ ((is_alive (gone_after table 1 status) process.parent ≡ true) × (process.parent < q))
        by_old None apart was left = cc
        by_old (Some old) apart was left = by_left (let found = left_was 1 process old left in found.is)
          where
            by_left : (process.status ≡ Alive) ⊎ ((process ≡ old) × (old.parent ≢ 1)) → (process.status ≡ Alive) ⊎ ((is_alive (gone_after table 1 status) process.parent ≡ true) × (process.parent < q))
            by_left (inl lives) = inl lives
            by_left (inr same) =
                let parent = from_family q old was apart in
                inr (ap (λ p. is_alive (gone_after table 1 status) p.parent) same.0 ∙ alive_on table 1 status old.parent same.1 parent.0, subst (λ p. p.parent < q) (sym same.0) parent.1)

        by_pid : (((q == 1) ≡ true) × (q ≡ 1)) ⊎ (((q == 1) ≡ false) × (q ≢ 1))
            → (process.status ≡ Alive) ⊎ ((is_alive (gone_after table 1 status) process.parent ≡ true) × (process.parent < q))
        by_pid (inl same) = absurd (let none = is_gone (leaves table 1 status) 1 in let some = ap (process_at (gone_after table 1 status)) (sym same.1) ∙ is in cc)
        by_pid (inr apart) = by_old (process_at table q) apart.1 refl (sym (at_other table 1 status q apart.1) ∙ is)

    orphans_after_family : AreOrphans 2 (gone_after table 1 status)
    orphans_after_family = record { below = below; over = over }
      where
        below : (q : ℕ) → q < 2 → process_at (gone_after table 1 status) q ≡ None
        below zero within = refl
        below (suc zero) within = is_gone (leaves table 1 status) 1
        below (suc (suc i)) within = absurd (omega arith)

-- the first ends, and then all others by rising pid
pub all_end : (table : Table) (status other more : ℕ) → IsFamily table → length table ≤ more + 1 → ends_from more 2 (ends_in table 1 status) other ≡ die_in table 1 status
all_end table status other more family enough =
    let orphans = orphans_all more 2 (ends_in table 1 status) other (omega arith) (first_orphans table status family) in
    let len : length (ends_from more 2 (ends_in table 1 status) other) ≡ length table = length-ends_from more 2 (ends_in table 1 status) other ∙ length-ends_in table 1 status in
    nobody_there (ends_from more 2 (ends_in table 1 status) other) table len
    (λ q. none (ends_from more 2 (ends_in table 1 status) other) orphans len q (cases_lt q (2 + more)))
  where
    none : (after : Table) → AreOrphans (2 + more) after → length after ≡ length table → (q : ℕ) → (q < 2 + more) ⊎ (2 + more ≤ q) → process_at after q ≡ None
    none after orphans len q (inl within) = orphans.below q within
    none after orphans len q (inr past) = past_last after q (omega arith)
