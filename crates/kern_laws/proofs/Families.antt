-- Every machine that is reached keeps what a table of processes keeps.
use Rattle.std.proofs.Common.{◌≡◌, ◌≢◌, ℕ, zero, suc, ◌+◌, ◌<◌, ◌≤◌, ◌==◌, pos, Bool, true, false, cond, List, [], ◌∷◌, ◌++◌, length, map, Option, None, Some, refl, ap, sym, ◌∙◌, subst, arith, ◌⊎◌, inl, inr, length-append}
use Rattle.std.proofs.lemmas.Bool.Decides.{eqb_tells}
use Rattle.std.proofs.lemmas.List.{length-set, length-map}
use Rattle.kabi_types.specs.Arguments.{count_of}
use Rattle.kabi_types.specs.declared.calls.Call.{Call}
use Rattle.kabi_types.specs.declared.calls.CallKind.{CallKind}
use Rattle.kabi_types.specs.declared.entries.Entry.{Entry}
use Rattle.kabi_types.specs.declared.entries.Entry.TheVariants as entry
use Rattle.kabi_types.specs.declared.errnos.Errno.TheVariants.{ENOMEM}
use Rattle.kabi_types.specs.declared.replies.Reply.{Reply}
use Rattle.kabi_types.specs.declared.replies.Reply.TheVariants.{Fail, Val, Waited}
use Rattle.kabi_types.specs.declared.scripts.Script.{Script}
use Rattle.posix_defs.specs.ByPid.{with_pid}
use Rattle.posix_defs.specs.Process.{Process, Table, with_directory, with_ignores, Alive, Ended, Status, process_at, is_alive, is_alive_in, runs}
use Rattle.posix_defs.specs.Control.{after_part, restarted, settled}
use Rattle.posix_defs.specs.Plain.{Plain, answered, call_of, control_of, first_process, with_control, with_files, with_table, last_pid}
use Rattle.posix_defs.specs.Files.State.{Files}
use Rattle.posix_defs.specs.Files.Closing.{after_exec_of}
use Rattle.kabi_types.specs.declared.scripts.Control.{Control}
use Rattle.posix_defs.specs.Answer as answer
use Rattle.posix_defs.specs.Answer.{Answer, failed, replied}
use Rattle.posix_defs.specs.Ending.{die, leaves, left_behind, left_child, ended_as}
use Rattle.posix_defs.specs.Family.{IsFamily, IsKept, GoesOn, KeepsOn, LeadsOn}
use Rattle.posix_defs.specs.Forking.{with_child, child_of}
use Rattle.posix_defs.specs.History as history
use Rattle.posix_defs.specs.History.{Past, IsAnswered, IsRun, MayFollow, boot_past}
use Rattle.posix_defs.specs.Memory.{no_memory}
use Rattle.posix_defs.specs.MemoryCalls.{remembered}
use Rattle.posix_defs.specs.Machine.{machine}
use Rattle.kern_laws.proofs.LivingVictim.{victim_lives}
use Rattle.answer_laws.specs.Shapes as shape
use Rattle.answer_laws.specs.Shapes.{HasShape}
use Rattle.answer_laws.proofs.Shapes.{machine_shape}
use Rattle.kern_laws.proofs.Remembering.{disposes_on, moves_on, remembers_on}
use Rattle.kern_laws.proofs.TablePlaces.{was_made, same_in_front, in_longer, with_other, with_same, is_gone, each_changed}

-- who is alive is there
pub alive_there : (table : Table) (pid : ℕ) → is_alive table pid ≡ true → (process : Process) × (process_at table pid ≡ Some process) × (process.status ≡ Alive)
alive_there table pid alive = go (process_at table pid) refl alive
  where
    status_is : (status : Status) → runs status ≡ true → status ≡ Alive
    status_is Alive e = refl
    status_is (Ended status) e = cc

    go : (there : Option Process) → process_at table pid ≡ there → is_alive_in there ≡ true → (process : Process) × (process_at table pid ≡ Some process) × (process.status ≡ Alive)
    go None is e = cc
    go (Some process) is e = (process, is, status_is process.status e)

-- who is there and runs is alive
pub there_alive : (table : Table) (pid : ℕ) (process : Process) → process_at table pid ≡ Some process → process.status ≡ Alive → is_alive table pid ≡ true
there_alive table pid process is status = ap is_alive_in is ∙ ap runs status

none_is_not_some : {X : Type 0} {x : X} (o : Option X) → o ≡ None → o ≡ Some x → ⊥
none_is_not_some o e f = cc

some_same : {X : Type 0} (o : Option X) (x y : X) → o ≡ Some x → o ≡ Some y → x ≡ y
some_same o x y e f = cc

-- Of a table in which somebody is there, the first process is there and lives.
pub first_lives : (table : Table) (pid : ℕ) (process : Process) → IsFamily table → process_at table pid ≡ Some process → is_alive table 1 ≡ true
first_lives table pid process family is = go (process_at table 1) refl
  where
    go : (there : Option Process) → process_at table 1 ≡ there → is_alive table 1 ≡ true
    go None e = absurd (none_is_not_some (process_at table pid) (family.nobody e pid) is)
    go (Some first) e = there_alive table 1 first e (family.first first e)

-- who is alive is alive still behind a child that is added
pub still_alive : (table : Table) (child : Option Process) (pid : ℕ) → is_alive table pid ≡ true → is_alive (table ++ child ∷ []) pid ≡ true
still_alive table child pid alive =
    let there = alive_there table pid alive in
    let made = was_made table pid there.0 there.1 in
    ap is_alive_in (same_in_front table child pid made.1) ∙ alive

-- a child is added at a table's end
added_family : (table : Table) (pid : ℕ) (child : Process) → IsFamily table → is_alive table pid ≡ true → child.parent ≡ pid
    → IsFamily (table ++ Some child ∷ [])
added_family table pid child family alive parent = record { first = first; younger = younger; parents = parents; nobody = nobody }
  where
    new : Table
    new = table ++ Some child ∷ []

    there : (process : Process) × (process_at table pid ≡ Some process) × (process.status ≡ Alive)
    there = alive_there table pid alive

    made : (0 < pid) × (pid ≤ length table)
    made = was_made table pid there.0 there.1

    one : process_at new 1 ≡ process_at table 1
    one = same_in_front table (Some child) 1 (let h : 0 < pid = made.0 in let k : pid ≤ length table = made.1 in omega arith)

    first : (process : Process) → process_at new 1 ≡ Some process → process.status ≡ Alive
    first process is = family.first process (sym one ∙ is)

    younger : (other : ℕ) (process : Process) → process_at new other ≡ Some process → process.parent < other
    younger other process is = elim (in_longer table (Some child) other process is) [
      | inl old ↦ family.younger other process old.1
      | inr last ↦ let same : child ≡ process = (let e = last.1 in cc) in
          let is_parent : process.parent ≡ pid = sym (ap (λ p. p.parent) same) ∙ parent in
          let k : pid ≤ length table = made.1 in let e : other ≡ suc (length table) = last.0 in omega arith
    ]

    parents : (other : ℕ) (process : Process) → process_at new other ≡ Some process → other ≢ 1 → is_alive new process.parent ≡ true
    parents other process is apart = elim (in_longer table (Some child) other process is) [
      | inl old ↦ still_alive table (Some child) process.parent (family.parents other process old.1 apart)
      | inr last ↦ let same : child ≡ process = (let e = last.1 in cc) in
          subst (λ p. is_alive new p ≡ true) (sym parent ∙ ap (λ p. p.parent) same) (still_alive table (Some child) pid alive)
    ]

    nobody : process_at new 1 ≡ None → (other : ℕ) → process_at new other ≡ None
    nobody none other = absurd (none_is_not_some (process_at table pid) (family.nobody (sym one ∙ none) pid) there.1)

-- an ended process goes from a table
reaped_family : (table : Table) (pid : ℕ) → IsFamily table → is_alive table pid ≡ false → IsFamily (with_pid table pid None)
reaped_family table pid family ended = record { first = first; younger = younger; parents = parents; nobody = nobody }
  where
    new : Table
    new = with_pid table pid None

    -- who is there after it is another, and was there before
    was : (other : ℕ) (process : Process) → process_at new other ≡ Some process → process_at table other ≡ Some process
    was other process is = elim (eqb_tells other pid) [
      | inl same ↦ absurd (none_is_not_some (process_at new other) (subst (λ p. process_at new p ≡ None) (sym same.1) (is_gone table pid)) is)
      | inr apart ↦ sym (with_other table pid other None apart.1) ∙ is
    ]

    stays : (other : ℕ) → is_alive table other ≡ true → is_alive new other ≡ true
    stays other alive = elim (eqb_tells other pid) [
      | inl same ↦ absurd (let e : is_alive table other ≡ false = subst (λ p. is_alive table p ≡ false) (sym same.1) ended in let f = alive in cc)
      | inr apart ↦ ap is_alive_in (with_other table pid other None apart.1) ∙ alive
    ]

    first : (process : Process) → process_at new 1 ≡ Some process → process.status ≡ Alive
    first process is = family.first process (was 1 process is)

    younger : (other : ℕ) (process : Process) → process_at new other ≡ Some process → process.parent < other
    younger other process is = family.younger other process (was other process is)

    parents : (other : ℕ) (process : Process) → process_at new other ≡ Some process → other ≢ 1 → is_alive new process.parent ≡ true
    parents other process is apart = stays process.parent (family.parents other process (was other process is) apart)

    no_first : process_at new 1 ≡ None → process_at table 1 ≡ None
    no_first none = elim (eqb_tells 1 pid) [
      | inl same ↦ not_there (process_at table 1) refl (subst (λ p. is_alive table p ≡ false) (sym same.1) ended)
      | inr apart ↦ sym (with_other table pid 1 None apart.1) ∙ none
    ]
      where
        not_there : (there : Option Process) → process_at table 1 ≡ there → is_alive table 1 ≡ false → process_at table 1 ≡ None
        not_there None is dead = is
        not_there (Some process) is dead = absurd (let lives = there_alive table 1 process is (family.first process is) in let d = dead in cc)

    nobody : process_at new 1 ≡ None → (other : ℕ) → process_at new other ≡ None
    nobody none other = elim (eqb_tells other pid) [
      | inl same ↦ subst (λ p. process_at new p ≡ None) (sym same.1) (is_gone table pid)
      | inr apart ↦ with_other table pid other None apart.1 ∙ family.nobody (no_first none) other
    ]

-- what a process that another leaves behind was before
pub record WasLeft (pid other : ℕ) (process old : Process) : Type 0 where
  pub status : process.status ≡ old.status
  pub parent : ((process.parent ≡ 1) × (old.parent ≡ pid)) ⊎ ((process.parent ≡ old.parent) × (old.parent ≢ pid))

-- whoever is there after one was left behind was there before
was_left : (pid other : ℕ) (process old : Process) → left_behind pid (Some old) ≡ Some process → WasLeft pid other process old
was_left pid other process old e = elim (eqb_tells old.parent pid) [
  | inl same ↦ child old.status refl (sym (ap (λ b. cond b (left_child old.status old) (Some old)) same.0) ∙ e) same.1
  | inr apart ↦ stranger (sym (ap (λ b. cond b (left_child old.status old) (Some old)) apart.0) ∙ e) apart.1
]
  where
    child : (status : Status) → old.status ≡ status → left_child status old ≡ Some process → old.parent ≡ pid → WasLeft pid other process old
    child Alive is f parent = let same : record old { parent = 1 } ≡ process = some_same (Some process) _ _ (sym f) refl in
        record { status = sym (ap (λ p. p.status) same); parent = inl (sym (ap (λ p. p.parent) same), parent) }
    child (Ended status) is f parent = cc

    stranger : Some old ≡ Some process → old.parent ≢ pid → WasLeft pid other process old
    stranger f apart = let same : old ≡ process = some_same (Some process) old process (sym f) refl in
        record { status = sym (ap (λ p. p.status) same); parent = inr (sym (ap (λ p. p.parent) same), apart) }

-- a process that runs is left behind alive
left_alive : (pid : ℕ) (old : Process) → old.status ≡ Alive → is_alive_in (left_behind pid (Some old)) ≡ true
left_alive pid old alive = go (old.parent == pid) refl
  where
    child_alive : (status : Status) → status ≡ Alive → is_alive_in (left_child status old) ≡ runs old.status
    child_alive Alive e = refl
    child_alive (Ended status) e = cc

    go : (b : Bool) → (old.parent == pid) ≡ b → is_alive_in (cond b (left_child old.status old) (Some old)) ≡ true
    go true e = child_alive old.status alive ∙ ap runs alive
    go false e = ap runs alive

-- who is alive stays so where another ends that isn't the first
pub others_live : (table : Table) (pid other status : ℕ) → is_alive table other ≡ true → other ≢ pid → is_alive (leaves table pid status) other ≡ true
others_live table pid other status lives apart = let was = alive_there table other lives in
    ap is_alive_in (with_other (map (left_behind pid) table) pid other (ended_as status (process_at table pid)) apart
    ∙ each_changed (left_behind pid) table other refl ∙ ap (left_behind pid) was.1) ∙ left_alive pid was.0 was.2

-- a process other than the first ends
left_family : (table : Table) (pid status : ℕ) → IsFamily table → is_alive table pid ≡ true → pid ≢ 1 → IsFamily (leaves table pid status)
left_family table pid status family alive apart_first = record { first = first; younger = younger; parents = parents; nobody = nobody }
  where
    there : (process : Process) × (process_at table pid ≡ Some process) × (process.status ≡ Alive)
    there = alive_there table pid alive

    made : (0 < pid) × (pid ≤ length table)
    made = was_made table pid there.0 there.1

    new : Table
    new = leaves table pid status

    at_other : (other : ℕ) → other ≢ pid → process_at new other ≡ left_behind pid (process_at table other)
    at_other other apart = with_other (map (left_behind pid) table) pid other (ended_as status (process_at table pid)) apart
        ∙ each_changed (left_behind pid) table other refl

    at_pid : process_at new pid ≡ Some (record there.0 { status = Ended status; memory = no_memory })
    at_pid = with_same (map (left_behind pid) table) pid (ended_as status (process_at table pid)) made.0
        (subst (λ n. pid ≤ n) (sym (length-map table (left_behind pid))) made.1)
        ∙ ap (ended_as status) there.1

    stays : (other : ℕ) → is_alive table other ≡ true → other ≢ pid → is_alive new other ≡ true
    stays other lives apart = others_live table pid other status lives apart

    first_stays : is_alive new 1 ≡ true
    first_stays = stays 1 (first_lives table pid there.0 family there.1) (λ e. apart_first (sym e))

    -- who is there after it: the one that ended, or another
    was : (other : ℕ) (process : Process) → process_at new other ≡ Some process
        → ((other ≡ pid) × (process.parent ≡ there.0.parent)) ⊎ ((old : Process) × (other ≢ pid) × (process_at table other ≡ Some old) × WasLeft pid other process old)
    was other process is = elim (eqb_tells other pid) [
      | inl same ↦ inl (
        same.1,
        ap (λ p. p.parent) (some_same (process_at new pid) process (record there.0 { status = Ended status; memory = no_memory })
            (subst (λ p. process_at new p ≡ Some process) same.1 is) at_pid),
      )
      | inr apart ↦ inr (go (process_at table other) refl apart.1)
    ]
      where
        go : (o : Option Process) → process_at table other ≡ o → other ≢ pid
            → (old : Process) × (other ≢ pid) × (process_at table other ≡ Some old) × WasLeft pid other process old
        go None e apart = absurd (none_is_not_some (process_at new other) (at_other other apart ∙ ap (left_behind pid) e) is)
        go (Some old) e apart = (old, apart, e, was_left pid other process old (sym (at_other other apart ∙ ap (left_behind pid) e) ∙ is))

    first : (process : Process) → process_at new 1 ≡ Some process → process.status ≡ Alive
    first process is = elim (was 1 process is) [
      | inl same ↦ absurd (apart_first (sym same.0))
      | inr other ↦ other.3.status ∙ family.first other.0 other.2
    ]

    younger : (other : ℕ) (process : Process) → process_at new other ≡ Some process → process.parent < other
    younger other process is = elim (was other process is) [
      | inl same ↦ subst (λ n. n < other) (sym same.1) (subst (λ n. there.0.parent < n) (sym same.0) (family.younger pid there.0 there.1))
      | inr left ↦ elim (left.3.parent) [
        | inl child ↦ let h : 0 < pid = made.0 in let k : left.0.parent < other = family.younger other left.0 left.2 in
            let e : process.parent ≡ 1 = child.0 in let f : left.0.parent ≡ pid = child.1 in omega arith
        | inr stranger ↦ subst (λ n. n < other) (sym stranger.0) (family.younger other left.0 left.2)
      ]
    ]

    parents : (other : ℕ) (process : Process) → process_at new other ≡ Some process → other ≢ 1 → is_alive new process.parent ≡ true
    parents other process is apart = elim (was other process is) [
      | inl same ↦ subst (λ n. is_alive new n ≡ true) (sym same.1)
          (stays there.0.parent (family.parents pid there.0 there.1 apart_first) (not_itself (family.younger pid there.0 there.1)))
      | inr left ↦ elim (left.3.parent) [
        | inl child ↦ subst (λ n. is_alive new n ≡ true) (sym child.0) first_stays
        | inr stranger ↦ subst (λ n. is_alive new n ≡ true) (sym stranger.0) (stays left.0.parent (family.parents other left.0 left.2 apart) stranger.1)
      ]
    ]
      where
        not_itself : there.0.parent < pid → there.0.parent ≢ pid
        not_itself h e = omega arith

    nobody : process_at new 1 ≡ None → (other : ℕ) → process_at new other ≡ None
    nobody none other = absurd (let dead : is_alive new 1 ≡ false = ap is_alive_in none in let lives : is_alive new 1 ≡ true = first_stays in cc)

-- nobody is in a table that was emptied
emptied : (table : Table) (pid : ℕ) → process_at (map (λ _. None) table) pid ≡ None
emptied table pid = each_changed (λ _. None) table pid refl

abbrev emptied_table : Table → Table
emptied_table table = map (λ _. None) table

as_long : (table : Table) → length (emptied_table table) ≡ length table
as_long table = length-map table (λ _. None)

emptied_family : (table : Table) → IsFamily (map (λ _. None) table)
emptied_family table = record {
  first = λ process is. absurd (none_is_not_some (process_at (map (λ _. None) table) 1) (emptied table 1) is);
  younger = λ pid process is. absurd (none_is_not_some (process_at (map (λ _. None) table) pid) (emptied table pid) is);
  parents = λ pid process is apart. absurd (none_is_not_some (process_at (map (λ _. None) table) pid) (emptied table pid) is);
  nobody = λ none pid. emptied table pid;
}

pub keeps_on : (old new : Plain) → LeadsOn old new → IsKept new
keeps_on old new leads = record { family = leads.family; counted = leads.counted }

length-with_pid : {X : Type 0} (xs : List X) (pid : ℕ) (x : X) → length (with_pid xs pid x) ≡ length xs
length-with_pid xs zero x = refl
length-with_pid xs (suc i) x = length-set xs i x

-- the table stays
same_table : (table : Table) → GoesOn table table
same_table table = record { grows = omega arith; reaped_for_good = λ pid made none. none }

-- a reply changes a control alone
pub replied_leads : (script : Script) (old new : Plain) (pid : ℕ) (reply : Reply) → LeadsOn old new → LeadsOn old (answered script new pid reply)
replied_leads script old new pid reply leads = record {
  family = leads.family;
  counted = leads.counted ∙ sym (length-with_pid new.controls pid _);
  goes_on = leads.goes_on;
}

pub stays_put : (plain : Plain) → IsKept plain → LeadsOn plain plain
stays_put plain kept = record { family = kept.family; counted = kept.counted; goes_on = same_table plain.table }

-- a fork makes the next process
forks_on : (script : Script) (plain : Plain) (pid : ℕ) → IsKept plain → is_alive plain.table pid ≡ true → LeadsOn plain (with_child script plain pid)
forks_on script plain pid kept alive =
    let there = alive_there plain.table pid alive in
    let child = record there.0 { parent = pid } in
    let same : child_of pid (process_at plain.table pid) ≡ Some child = ap (child_of pid) there.1 in record {
      family = subst (λ c. IsFamily (plain.table ++ c ∷ [])) (sym same) (added_family plain.table pid child kept.family alive refl);
      counted = more plain.table plain.controls _ _ kept.counted;
      goes_on = subst (λ c. GoesOn plain.table (plain.table ++ c ∷ [])) (sym same) (added plain.table (Some child));
    }
  where
    more : {X Y : Type 0} (xs : List X) (ys : List Y) (x : X) (y : Y) → length xs ≡ length ys → length (xs ++ x ∷ []) ≡ length (ys ++ y ∷ [])
    more xs ys x y same = length-append xs (x ∷ []) ∙ ap (λ n. n + 1) same ∙ sym (length-append ys (y ∷ []))

    added : (table : Table) (child : Option Process) → GoesOn table (table ++ child ∷ [])
    added table child = record {
      grows = let more : length (table ++ child ∷ []) ≡ length table + 1 = length-append table (child ∷ []) in omega arith;
      reaped_for_good = λ other made none. same_in_front table child other made ∙ none;
    }

-- who was waited for goes
reaps_on : (plain : Plain) (child : ℕ) → IsKept plain → is_alive plain.table child ≡ false → LeadsOn plain (with_table plain (with_pid plain.table child None))
reaps_on plain child kept ended = record {
  family = reaped_family plain.table child kept.family ended;
  counted = length-with_pid plain.table child None ∙ kept.counted;
  goes_on = record {
    grows = let same : length (with_pid plain.table child None) ≡ length plain.table = length-with_pid plain.table child None in omega arith;
    reaped_for_good = λ pid made none. stays pid none;
  };
}
  where
    stays : (pid : ℕ) → process_at plain.table pid ≡ None → process_at (with_pid plain.table child None) pid ≡ None
    stays pid none = elim (eqb_tells pid child) [
      | inl same ↦ subst (λ p. process_at (with_pid plain.table child None) p ≡ None) (sym same.1) (is_gone plain.table child)
      | inr apart ↦ with_other plain.table child pid None apart.1 ∙ none
    ]

-- a process ends
pub dies_on : (plain : Plain) (pid status : ℕ) → IsKept plain → is_alive plain.table pid ≡ true → LeadsOn plain (die plain pid status)
dies_on plain zero status kept alive = absurd (let h : is_alive plain.table 0 ≡ true = alive in cc)
dies_on plain (suc zero) status kept alive = record {
  family = emptied_family plain.table;
  counted = as_long plain.table ∙ kept.counted;
  goes_on = record {
    grows = let same = as_long plain.table in omega arith;
    reaped_for_good = λ pid made none. emptied plain.table pid;
  };
}
dies_on plain (suc (suc k)) status kept alive = record {
  family = left_family plain.table pid status kept.family alive (λ e. not_first e);
  counted = same ∙ kept.counted;
  goes_on = record { grows = let h = same in omega arith; reaped_for_good = λ other made none. stays other none };
}
  where
    pid : ℕ
    pid = suc (suc k)

    not_first : pid ≡ 1 → ⊥
    not_first e = omega arith

    left : Table
    left = map (left_behind pid) plain.table

    same : length (leaves plain.table pid status) ≡ length plain.table
    same = length-with_pid left pid (ended_as status (process_at plain.table pid)) ∙ length-map plain.table (left_behind pid)

    stays : (other : ℕ) → process_at plain.table other ≡ None → process_at (leaves plain.table pid status) other ≡ None
    stays other none = elim (eqb_tells other pid) [
      | inl e ↦ absurd (let was = alive_there plain.table pid alive in
          none_is_not_some (process_at plain.table pid) (subst (λ p. process_at plain.table p ≡ None) e.1 none) was.1)
      | inr apart ↦ with_other left pid other (ended_as status (process_at plain.table pid)) apart.1
          ∙ each_changed (left_behind pid) plain.table other refl ∙ ap (left_behind pid) none
    ]

-- the files are others, and a control may be
files_lead : (old new : Plain) (files : Files) → LeadsOn (with_files old files) new → LeadsOn old new
files_lead old new files leads = record { family = leads.family; counted = leads.counted; goes_on = leads.goes_on }

control_leads : (old new : Plain) (files : Files) (pid : ℕ) (control : Control) → LeadsOn old new → LeadsOn old (with_control (with_files new files) pid control)
control_leads old new files pid control leads = record {
  family = leads.family;
  counted = leads.counted ∙ sym (length-with_pid new.controls pid control);
  goes_on = leads.goes_on;
}

with_files_kept : (plain : Plain) (files : Files) → IsKept plain → IsKept (with_files plain files)
with_files_kept plain files kept = record { family = kept.family; counted = kept.counted }

-- whatever has a shape keeps what is kept
by_shape : (script : Script) (plain : Plain) (pid : ℕ) (which : Call) (given : Answer) → IsKept plain → is_alive plain.table pid ≡ true
    → HasShape script plain pid which given → KeepsOn plain given
by_shape script plain pid which given kept alive (shape.blocks may is) = subst (KeepsOn plain) (sym is) tt
by_shape script plain pid which given kept alive (shape.fails errno other is) =
    subst (KeepsOn plain) (sym is) (replied_leads script plain plain pid (Fail errno) (stays_put plain kept))
by_shape script plain pid which given kept alive (shape.tells files reply is_said is) =
    subst (KeepsOn plain) (sym is) (replied_leads script plain (with_files plain files) pid reply
    (files_lead plain (with_files plain files) files (stays_put (with_files plain files) (with_files_kept plain files kept))))
by_shape script plain pid which given kept alive (shape.puts files memory reply is_said put is) =
    subst (KeepsOn plain) (sym is) (replied_leads script plain (remembered (with_files plain files) pid memory) pid reply
    (files_lead plain (remembered (with_files plain files) pid memory) files (remembers_on (with_files plain files) pid memory (with_files_kept plain files kept))))
by_shape script plain pid which given kept alive (shape.moves path directory of entered is) =
    subst (KeepsOn plain) (sym is) (replied_leads script plain (with_table plain (with_directory plain.table pid directory)) pid (Val (pos 0)) (moves_on plain pid directory kept))
by_shape script plain pid which given kept alive (shape.disposes signal disposition ignores before of is) =
    subst (KeepsOn plain) (sym is) (replied_leads script plain (with_table plain (with_ignores plain.table pid ignores)) pid (Val (pos before)) (disposes_on plain pid ignores kept))
by_shape script plain pid which given kept alive (shape.parts files moved part is) =
    subst (KeepsOn plain) (sym is) (control_leads plain plain files pid (after_part (control_of (with_files plain files) pid) moved) (stays_put plain kept))
by_shape script plain pid which given kept alive (shape.awaits files begun is) =
    subst (KeepsOn plain) (sym is) (control_leads plain plain files pid (after_part (control_of (with_files plain files) pid) 1) (stays_put plain kept))
by_shape script plain pid which given kept alive (shape.starts place is) =
    subst (KeepsOn plain) (sym is) (control_leads plain (remembered plain pid no_memory) (after_exec_of plain.files pid) pid
    (restarted (settled script (control_of plain pid)) place) (remembers_on plain pid no_memory kept))
by_shape script plain pid which given kept alive (shape.forks is) =
    subst (KeepsOn plain) (sym is) (replied_leads script plain (with_child script plain pid) pid (Val (pos (last_pid plain + 1))) (forks_on script plain pid kept alive))
by_shape script plain pid which given kept alive (shape.reaps child status ended is) =
    subst (KeepsOn plain) (sym is) (replied_leads script plain (with_table plain (with_pid plain.table child None)) pid (Waited child status) (reaps_on plain child kept ended))
by_shape script plain pid which given kept alive (shape.ends status is) = subst (KeepsOn plain) (sym is) (dies_on plain pid status kept alive)
by_shape script plain pid which given kept alive (shape.ends_another target signal of first own lives is) =
    subst (KeepsOn plain) (sym is) (replied_leads script plain (die plain target (count_of signal)) pid (Val (pos 0)) (dies_on plain target (count_of signal) kept lives))

-- whatever the machine answers keeps what is kept
pub answers_on : (script : Script) (plain : Plain) (pid : ℕ) (which : Call) → IsKept plain → is_alive plain.table pid ≡ true
    → KeepsOn plain (machine script plain pid which)
answers_on script plain pid which kept alive = by_shape script plain pid which (machine script plain pid which) kept alive (machine_shape script plain pid which)

-- the first machine
boots_kept : (script : Script) → IsKept (boot_past script).plain
boots_kept script = record {
  family = record { first = first; younger = younger; parents = parents; nobody = λ none. absurd (let e = none in cc) };
  counted = refl;
}
  where
    table : Table
    table = Some first_process ∷ []

    first : (process : Process) → process_at (Some first_process ∷ []) 1 ≡ Some process → process.status ≡ Alive
    first process is = ap (λ p. p.status) (some_same (Some process) process first_process refl (sym is))

    only : (pid : ℕ) (process : Process) → process_at (Some first_process ∷ []) pid ≡ Some process → (pid ≡ 1) × (process.parent ≡ 0)
    only zero process is = cc
    only (suc zero) process is = (refl, ap (λ p. p.parent) (some_same (Some process) process first_process refl (sym is)))
    only (suc (suc i)) process is = cc

    younger : (pid : ℕ) (process : Process) → process_at (Some first_process ∷ []) pid ≡ Some process → process.parent < pid
    younger pid process is = let found = only pid process is in let e : pid ≡ 1 = found.0 in let f : process.parent ≡ 0 = found.1 in omega arith

    parents : (pid : ℕ) (process : Process) → process_at (Some first_process ∷ []) pid ≡ Some process → pid ≢ 1 → is_alive (Some first_process ∷ []) process.parent ≡ true
    parents pid process is apart = absurd (let found = only pid process is in apart found.0)

-- an answer that is given leads on
answered_on : (script : Script) (past next : Past) (pid : ℕ) (of_kind : CallKind) (given : Plain → Answer) (sleepers : List ℕ)
    → ((plain : Plain) → KeepsOn past.plain (given plain) → LeadsOn past.plain plain)
    → IsKept past.plain → IsAnswered script past pid of_kind given sleepers next → LeadsOn past.plain next.plain
answered_on script past next pid of_kind given sleepers plain_of kept is =
    subst (λ p. LeadsOn past.plain p) (sym (ap (λ n. n.plain) is.leads))
    (plain_of is.plain (subst (KeepsOn past.plain) is.answers (answers_on script past.plain pid (call_of script past.plain pid) kept is.may_run.alive)))

-- whatever may come next leads on
pub follows_on : (script : Script) (past : Past) (added : Entry) (next : Past) → IsKept past.plain → MayFollow script past added next → LeadsOn past.plain next.plain
follows_on script past (entry.Done pid of_kind reply) next kept is = answered_on script past next pid of_kind (answer.Done reply) _ (λ plain leads. leads) kept is
follows_on script past (entry.Part pid of_kind moved) next kept is = answered_on script past next pid of_kind (answer.Part moved) _ (λ plain leads. leads) kept is
follows_on script past (entry.Ended pid of_kind status) next kept is = answered_on script past next pid of_kind (answer.Ended status) _ (λ plain leads. leads) kept is
follows_on script past (entry.Slept pid of_kind) next kept is = subst (λ n. LeadsOn past.plain n.plain) (sym is.leads) (stays_put past.plain kept)
follows_on script past (entry.Refused pid of_kind asked) next kept is =
    subst (λ n. LeadsOn past.plain n.plain) (sym is.leads) (replied_leads script past.plain past.plain pid (Fail ENOMEM) (stays_put past.plain kept))
follows_on script past (entry.Gone pid of_kind) next kept is = subst (λ n. LeadsOn past.plain n.plain) (sym is.leads) (stays_put past.plain kept)
follows_on script past (entry.Killed pid waiter need live) next kept is =
    subst (λ n. LeadsOn past.plain n.plain) (sym is.leads) (dies_on past.plain pid 9 kept (let lives = victim_lives script.policy past.plain past.account pid is.victim in lives.0))
follows_on script past (entry.Evicted what) next kept is = subst (λ n. LeadsOn past.plain n.plain) (sym is.leads) (stays_put past.plain kept)

-- every machine that is reached keeps what is kept
pub reached_kept : {script : Script} {history : List Entry} {past : Past} → IsRun script history past → IsKept past.plain
reached_kept {script} history.boots = boots_kept script
reached_kept {script} (history.goes_on history past next added before follows) =
    keeps_on past.plain next.plain (follows_on script past added next (reached_kept before) follows)

-- where the first process isn't alive nobody is
pub nobody_alive : (table : Table) → IsFamily table → is_alive table 1 ≡ false → (pid : ℕ) → is_alive table pid ≡ false
nobody_alive table family dead pid = go (process_at table 1) refl
  where
    go : (o : Option Process) → process_at table 1 ≡ o → is_alive table pid ≡ false
    go None e = ap is_alive_in (family.nobody e pid)
    go (Some process) e = absurd (let lives = there_alive table 1 process e (family.first process e) in let d = dead in cc)
