-- How the machine goes on behind a call: who is alive then, and whose control stays.
use Rattle.std.proofs.Common.{◌≡◌, ◌≢◌, ℕ, zero, suc, ◌+◌, ◌<◌, ◌≤◌, ◌==◌, if◌then◌else◌, Bool, true, false, pos, List, [], ◌∷◌, ◌++◌, length, map, Option, None, Some, slice_get, slice_set, unwrap_or, refl, ap, sym, ◌∙◌, subst, arith, inl, inr, length-append}
use Rattle.std.proofs.lemmas.Bool.Decides.{eqb_tells}
use Rattle.std.proofs.lemmas.List.{length-set, length-map}
use Rattle.kabi_types.specs.Arguments.{count_of}
use Rattle.kabi_types.specs.declared.calls.Call.{Call}
use Rattle.kabi_types.specs.declared.replies.Reply.{Reply}
use Rattle.kabi_types.specs.declared.replies.Reply.TheVariants.{Val, Waited, Fail}
use Rattle.kabi_types.specs.declared.scripts.Control.{Control}
use Rattle.kabi_types.specs.declared.scripts.Script.{Script}
use Rattle.posix_defs.specs.ByPid.{at_pid, with_pid}
use Rattle.posix_defs.specs.Process.{Ignores, Process, Table, Status, Alive, Ended, ignoring, process_at, is_alive, is_alive_in, runs, with_directory, with_ignores, working_in}
use Rattle.posix_defs.specs.Plain.{Plain, answered, control_of, last_pid, at_start, with_control, with_files, with_table}
use Rattle.posix_defs.specs.Answer.{Answer, Blocked, Done, Part, failed, replied}
use Rattle.posix_defs.specs.Answer as answer
use Rattle.posix_defs.specs.Ending.{die, die_in, leaves, left_behind, left_child, ended_as}
use Rattle.posix_defs.specs.Forking.{child_of, with_child}
use Rattle.posix_defs.specs.Memory.{Memory, no_memory}
use Rattle.posix_defs.specs.MemoryCalls.{remembered}
use Rattle.posix_defs.specs.Control.{after, after_part, restarted, settled}
use Rattle.posix_defs.specs.Files.State.{Files}
use Rattle.posix_defs.specs.Files.Closing.{after_exec_of}
use Rattle.posix_defs.specs.Machine.{machine}
use Rattle.posix_defs.specs.Waiting.{reaped}
use Rattle.answer_laws.specs.Shapes as shape
use Rattle.answer_laws.specs.Shapes.{HasShape}
use Rattle.answer_laws.proofs.Shapes.{machine_shape}
use Rattle.kern_laws.proofs.Families.{still_alive}
use Rattle.kern_laws.proofs.Remembering.{alive_ignoring, alive_still, alive_working, length-with_memory}
use Rattle.kern_laws.proofs.TablePlaces.{at_end, each_changed, in_longer, is_gone, same_in_front, was_made, with_other, with_same}

-- The machine goes on behind a call of a process.
pub record IsNext (old new : Plain) (pid : ℕ) : Type 0 where
  pub more : last_pid old ≤ last_pid new
  pub one : last_pid new ≤ last_pid old + 1
  pub made : length new.table ≡ last_pid new
  pub controls : (other : ℕ) → other ≢ pid → other ≤ last_pid old → control_of new other ≡ control_of old other
  pub revived : (other : ℕ) → other ≤ last_pid old → is_alive new.table other ≡ true → is_alive old.table other ≡ true
  pub born : (other : ℕ) → last_pid old < other → other ≤ last_pid new → is_alive new.table other ≡ true

pub same_next : (plain : Plain) (pid : ℕ) → length plain.table ≡ last_pid plain → IsNext plain plain pid
same_next plain pid made = record {
  more = omega arith;
  one = omega arith;
  made = made;
  controls = λ other apart within. refl;
  revived = λ other within alive. alive;
  born = λ other past within. absurd (omega arith);
}

pub length-with_pid : {X : Type 0} (xs : List X) (pid : ℕ) (x : X) → length (with_pid xs pid x) ≡ length xs
length-with_pid xs zero x = refl
length-with_pid xs (suc i) x = length-set xs i x

get_set_apart : {X : Type 0} (xs : List X) (i j : ℕ) (y : X) → j ≢ i → slice_get (slice_set xs i y) j ≡ slice_get xs j
get_set_apart [] i j y apart = refl
get_set_apart (x ∷ xs) zero zero y apart = absurd (apart refl)
get_set_apart (x ∷ xs) zero (suc j) y apart = refl
get_set_apart (x ∷ xs) (suc i) zero y apart = refl
get_set_apart (x ∷ xs) (suc i) (suc j) y apart = get_set_apart xs i j y (λ same. apart (ap (λ k. suc k) same))

pub at_other : {X : Type 0} (xs : List X) (pid other : ℕ) (x : X) → other ≢ pid → at_pid (with_pid xs pid x) other ≡ at_pid xs other
at_other xs zero other x apart = refl
at_other xs (suc i) zero x apart = refl
at_other xs (suc i) (suc j) x apart = get_set_apart xs i j x (λ same. apart (ap (λ k. suc k) same))

get_set_same : {X : Type 0} (xs : List X) (i : ℕ) (y : X) → i < length xs → slice_get (slice_set xs i y) i ≡ Some y
get_set_same [] i y h = absurd (omega arith)
get_set_same (x ∷ xs) zero y h = refl
get_set_same (x ∷ xs) (suc i) y h = get_set_same xs i y (omega arith)

pub at_own : {X : Type 0} (xs : List X) (pid : ℕ) (x : X) → 0 < pid → pid ≤ length xs → at_pid (with_pid xs pid x) pid ≡ Some x
at_own xs zero x some within = absurd (omega arith)
at_own xs (suc i) x some within = get_set_same xs i x (omega arith)

-- the caller's control is another
pub controlled_next : (plain base : Plain) (pid : ℕ) (control : Control) → IsNext plain base pid → IsNext plain (with_control base pid control) pid
controlled_next plain base pid control next =
    let same : last_pid (with_control base pid control) ≡ last_pid base = length-with_pid base.controls pid _ in
    record {
      more = let more : last_pid plain ≤ last_pid base = next.more in omega arith;
      one = let one : last_pid base ≤ last_pid plain + 1 = next.one in omega arith;
      made = next.made ∙ sym same;
      controls = λ other apart within. ap (λ found. unwrap_or found (at_start 0)) (at_other base.controls pid other _ apart) ∙ next.controls other apart within;
      revived = next.revived;
      born = λ other past within. next.born other past (subst (λ n. other ≤ n) same within);
    }

-- a reply changes the caller's control alone
pub answered_next : (script : Script) (plain base : Plain) (pid : ℕ) (reply : Reply) → IsNext plain base pid
    → IsNext plain (answered script base pid reply) pid
answered_next script plain base pid reply next = controlled_next plain base pid (after script (control_of base pid) reply) next

-- files are others, before it or behind
next_of_files : (plain new : Plain) (files : Files) (pid : ℕ) → IsNext (with_files plain files) new pid → IsNext plain new pid
next_of_files plain new files pid next = record {
  more = next.more;
  one = next.one;
  made = next.made;
  controls = next.controls;
  revived = next.revived;
  born = next.born;
}

with_files_next : (plain new : Plain) (files : Files) (pid : ℕ) → IsNext plain new pid → IsNext plain (with_files new files) pid
with_files_next plain new files pid next = record {
  more = next.more;
  one = next.one;
  made = next.made;
  controls = next.controls;
  revived = next.revived;
  born = next.born;
}

-- who was left behind was there before, as alive as then
left_alive : (pid : ℕ) (there : Option Process) → is_alive_in (left_behind pid there) ≡ true → is_alive_in there ≡ true
left_alive pid None e = e
left_alive pid (Some process) e = go (process.parent == pid) process.status refl e
  where
    go : (b : Bool) (status : Status) → process.status ≡ status → is_alive_in (if b then left_child status process else Some process) ≡ true
        → runs process.status ≡ true
    go true Alive is e = ap runs is
    go true (Ended _) is e = cc
    go false status is e = e

-- what a process that ends leaves in the table
ended_alive : (status : ℕ) (there : Option Process) → is_alive_in (ended_as status there) ≡ false
ended_alive status None = refl
ended_alive status (Some process) = refl

not_both : (b : Bool) → b ≡ true → b ≡ false → ⊥
not_both b e f = cc

-- who is alive is there
pub alive_is_there : (table : Table) (pid : ℕ) → is_alive table pid ≡ true → (process : Process) × (process_at table pid ≡ Some process)
alive_is_there table pid alive = go (process_at table pid) refl alive
  where
    go : (there : Option Process) → process_at table pid ≡ there → is_alive_in there ≡ true → (process : Process) × (process_at table pid ≡ Some process)
    go None is e = cc
    go (Some process) is e = (process, is)

-- a process of a table whose process ends was alive before, and isn't that one
leaves_alive : (table : Table) (pid other status : ℕ) → is_alive (leaves table pid status) other ≡ true
    → (other ≢ pid) × (is_alive table other ≡ true)
leaves_alive table pid other status alive = elim (eqb_tells other pid) [
  | inl same ↦ absurd (ended same.1)
  | inr apart ↦ (
    apart.1,
    left_alive pid (process_at table other)
        (ap is_alive_in (sym (each_changed (left_behind pid) table other refl)) ∙ ap is_alive_in (sym (with_other (map (left_behind pid) table) pid other _ apart.1)) ∙ alive),
  )
]
  where
    gone : (other : ℕ) → other ≡ pid → (0 < pid) × (pid ≤ length (map (left_behind pid) table)) → is_alive (leaves table pid status) other ≡ false
    gone other same within =
        ap (is_alive (leaves table pid status)) same
        ∙ ap is_alive_in (with_same (map (left_behind pid) table) pid (ended_as status (process_at table pid)) within.0 within.1)
        ∙ ended_alive status (process_at table pid)

    ended : other ≡ pid → ⊥
    ended same =
        let there = alive_is_there (leaves table pid status) other alive in
        let made = was_made (leaves table pid status) other there.0 there.1 in
        not_both (is_alive (leaves table pid status) other) alive
        (gone other same (
          subst (λ p. 0 < p) same made.0,
          subst (λ p. p ≤ length (map (left_behind pid) table)) same
              (subst (λ n. other ≤ n) (length-with_pid (map (left_behind pid) table) pid (ended_as status (process_at table pid))) made.1),
        ))

pub emptied : (table : Table) (pid : ℕ) → process_at (map (λ _. None) table) pid ≡ None
emptied table pid = each_changed (λ _. None) table pid refl

length-leaves : (table : Table) (pid status : ℕ) → length (leaves table pid status) ≡ length table
length-leaves table pid status =
    length-with_pid (map (left_behind pid) table) pid (ended_as status (process_at table pid)) ∙ length-map table (left_behind pid)

pub nothing_is : {X : Type 0} {x : X} (o : Option X) → o ≡ None → o ≡ Some x → ⊥
nothing_is o e f = cc

leaves_next : (plain new : Plain) (pid target status : ℕ) → new.controls ≡ plain.controls → new.table ≡ leaves plain.table target status
    → length plain.table ≡ last_pid plain → IsNext plain new pid
leaves_next plain new pid target status controls table made =
    let same : last_pid new ≡ last_pid plain = ap length controls in
    record {
      more = omega arith;
      one = omega arith;
      made = ap length table ∙ length-leaves plain.table target status ∙ made ∙ sym same;
      controls = λ other apart within. ap (λ cs. unwrap_or (at_pid cs other) (at_start 0)) controls;
      revived = λ other within alive. (leaves_alive plain.table target other status (subst (λ t. is_alive t other ≡ true) table alive)).1;
      born = λ other past within. absurd (omega arith);
    }

-- a process ends, itself or another
pub die_next : (plain : Plain) (pid target status : ℕ) → length plain.table ≡ last_pid plain → IsNext plain (die plain target status) pid
die_next plain pid zero status made = leaves_next plain (die plain zero status) pid zero status refl refl made
die_next plain pid (suc zero) status made =
    record {
      more = omega arith;
      one = omega arith;
      made = length-map plain.table (λ _. None) ∙ made;
      controls = λ other apart within. refl;
      revived = λ other within alive. absurd (not_both _ alive (ap is_alive_in (emptied plain.table other)));
      born = λ other past within. absurd (omega arith);
    }
die_next plain pid (suc (suc n)) status made = leaves_next plain (die plain (suc (suc n)) status) pid (suc (suc n)) status refl refl made

leaves_ends : (table : Table) (pid status : ℕ) → (b : Bool) → is_alive (leaves table pid status) pid ≡ b → b ≡ false
leaves_ends table pid status true e = absurd ((leaves_alive table pid pid status e).0 refl)
leaves_ends table pid status false e = refl

-- who ends isn't alive
pub die_ends : (table : Table) (pid status : ℕ) → is_alive (die_in table pid status) pid ≡ false
die_ends table zero status = leaves_ends table zero status (is_alive (leaves table zero status) zero) refl
die_ends table (suc zero) status = ap is_alive_in (emptied table 1)
die_ends table (suc (suc n)) status = leaves_ends table (suc (suc n)) status (is_alive (leaves table (suc (suc n)) status) (suc (suc n))) refl

-- what is told of a call goes with the machine: who called is alive behind a reply and a part, and isn't where it has ended
abbrev pub AnswerGoes : Plain → ℕ → Answer → Type 0
AnswerGoes plain pid Blocked = Unit {0}
AnswerGoes plain pid (Done reply next) = IsNext plain next pid × (is_alive next.table pid ≡ true)
AnswerGoes plain pid (Part moved next) = IsNext plain next pid × (is_alive next.table pid ≡ true)
AnswerGoes plain pid (answer.Ended status next) = IsNext plain next pid × (is_alive next.table pid ≡ false)

-- who another leaves behind is as alive as before
left_lives : (pid : ℕ) (there : Option Process) → is_alive_in there ≡ true → is_alive_in (left_behind pid there) ≡ true
left_lives pid None e = e
left_lives pid (Some process) e = go (process.parent == pid) process.status refl e
  where
    go : (b : Bool) (status : Status) → process.status ≡ status → runs status ≡ true → is_alive_in (if b then left_child status process else Some process) ≡ true
    go true Alive is lives = ap runs is
    go true (Ended _) is lives = cc
    go false status is lives = ap runs is ∙ lives

-- where another process than the first ends, everybody else lives on
pub die_keeps : (table : Table) (target other status : ℕ) → target ≢ 1 → other ≢ target → is_alive table other ≡ true
    → is_alive (die_in table target status) other ≡ true
die_keeps table target other status not_first apart alive = go target not_first apart
  where
    leaves_on : (pid : ℕ) → other ≢ pid → is_alive (leaves table pid status) other ≡ true
    leaves_on pid apart =
        ap is_alive_in (with_other (map (left_behind pid) table) pid other _ apart ∙ each_changed (left_behind pid) table other refl)
        ∙ left_lives pid (process_at table other) alive

    go : (pid : ℕ) → pid ≢ 1 → other ≢ pid → is_alive (die_in table pid status) other ≡ true
    go zero first apart = leaves_on zero apart
    go (suc zero) first apart = absurd (first refl)
    go (suc (suc n)) first apart = leaves_on (suc (suc n)) apart

-- an ended child goes
reaped_next : (plain : Plain) (pid child : ℕ) → length plain.table ≡ last_pid plain → IsNext plain (reaped plain child) pid
reaped_next plain pid child made = record {
  more = omega arith;
  one = omega arith;
  made = length-with_pid plain.table child None ∙ made;
  controls = λ other apart within. refl;
  revived = λ other within alive. was other alive;
  born = λ other past within. absurd (omega arith);
}
  where
    was : (other : ℕ) → is_alive (with_pid plain.table child None) other ≡ true → is_alive plain.table other ≡ true
    was other alive = elim (eqb_tells other child) [
      | inl same ↦ absurd (not_both _ alive (ap is_alive_in (ap (process_at (with_pid plain.table child None)) same.1 ∙ is_gone plain.table child)))
      | inr apart ↦ ap is_alive_in (sym (with_other plain.table child other None apart.1)) ∙ alive
    ]

-- who is alive isn't reaped with another
pub reaped_keeps : (table : Table) (child other : ℕ) → is_alive table child ≡ false → is_alive table other ≡ true → is_alive (with_pid table child None) other ≡ true
reaped_keeps table child other ended alive =
    ap is_alive_in (with_other table child other None (λ same. not_both (is_alive table other) alive (ap (is_alive table) same ∙ ended))) ∙ alive

at_front : {X : Type 0} (xs ys : List X) (pid : ℕ) → pid ≤ length xs → at_pid (xs ++ ys) pid ≡ at_pid xs pid
at_front xs ys zero h = refl
at_front [] ys (suc i) h = absurd (omega arith)
at_front (x ∷ xs) ys (suc zero) h = refl
at_front (x ∷ xs) ys (suc (suc i)) h = at_front xs ys (suc i) (omega arith)

-- a child is alive where its parent is
child_alive : (parent : ℕ) (there : Option Process) → is_alive_in there ≡ true → is_alive_in (child_of parent there) ≡ true
child_alive parent None e = e
child_alive parent (Some process) e = e

child_next : (script : Script) (plain : Plain) (pid : ℕ) → length plain.table ≡ last_pid plain → is_alive plain.table pid ≡ true
    → IsNext plain (with_child script plain pid) pid
child_next script plain pid made alive =
    let longer : last_pid (with_child script plain pid) ≡ last_pid plain + 1 = length-append plain.controls _ in
    let table : length (plain.table ++ child ∷ []) ≡ length plain.table + 1 = length-append plain.table (child ∷ []) in
    record {
      more = omega arith;
      one = omega arith;
      made = omega arith;
      controls = λ other apart within. ap (λ found. unwrap_or found (at_start 0)) (at_front plain.controls _ other within);
      revived = λ other within lives. ap is_alive_in (sym (same_in_front plain.table child other (omega arith))) ∙ lives;
      born = λ other past within.
          let last : other ≡ suc (length plain.table) = omega arith in
          ap (is_alive (plain.table ++ child ∷ [])) last ∙ ap is_alive_in (at_end plain.table child) ∙ child_alive pid (process_at plain.table pid) alive;
    }
  where
    child : Option Process
    child = child_of pid (process_at plain.table pid)

-- a reply, where the machine has gone on to this one before it
pub replied_goes : (script : Script) (plain base : Plain) (pid : ℕ) (reply : Reply) → IsNext plain base pid → is_alive base.table pid ≡ true
    → AnswerGoes plain pid (replied script base pid reply)
replied_goes script plain base pid reply next alive = (answered_next script plain base pid reply next, alive)

-- a reply that changes the caller's control alone
told_goes : (script : Script) (plain : Plain) (pid : ℕ) (reply : Reply) → length plain.table ≡ last_pid plain → is_alive plain.table pid ≡ true
    → AnswerGoes plain pid (replied script plain pid reply)
told_goes script plain pid reply made alive = replied_goes script plain plain pid reply (same_next plain pid made) alive

-- something is put in the caller's memory
remembered_next : (plain : Plain) (pid : ℕ) (memory : Memory) → length plain.table ≡ last_pid plain → IsNext plain (remembered plain pid memory) pid
remembered_next plain pid memory made = record {
  more = omega arith;
  one = omega arith;
  made = length-with_memory plain.table pid memory ∙ made;
  controls = λ other apart within. refl;
  revived = λ other within alive. sym (alive_still plain.table pid other memory) ∙ alive;
  born = λ other past within. absurd (omega arith);
}

-- its caller works in another directory
moved_next : (plain : Plain) (pid directory : ℕ) → length plain.table ≡ last_pid plain
    → IsNext plain (with_table plain (with_directory plain.table pid directory)) pid
moved_next plain pid directory made = record {
  more = omega arith;
  one = omega arith;
  made = length-with_pid plain.table pid (working_in directory (process_at plain.table pid)) ∙ made;
  controls = λ other apart within. refl;
  revived = λ other within alive. sym (alive_working plain.table pid other directory) ∙ alive;
  born = λ other past within. absurd (omega arith);
}

-- its caller ignores other signals
disposed_next : (plain : Plain) (pid : ℕ) (ignores : Ignores) → length plain.table ≡ last_pid plain
    → IsNext plain (with_table plain (with_ignores plain.table pid ignores)) pid
disposed_next plain pid ignores made = record {
  more = omega arith;
  one = omega arith;
  made = length-with_pid plain.table pid (ignoring ignores (process_at plain.table pid)) ∙ made;
  controls = λ other apart within. refl;
  revived = λ other within alive. sym (alive_ignoring plain.table pid other ignores) ∙ alive;
  born = λ other past within. absurd (omega arith);
}

-- whatever has a shape goes so
by_shape : (script : Script) (plain : Plain) (pid : ℕ) (which : Call) (given : Answer) → length plain.table ≡ last_pid plain → is_alive plain.table pid ≡ true
    → HasShape script plain pid which given → AnswerGoes plain pid given
by_shape script plain pid which given made alive (shape.blocks may is) = subst (AnswerGoes plain pid) (sym is) tt
by_shape script plain pid which given made alive (shape.fails errno other is) = subst (AnswerGoes plain pid) (sym is) (told_goes script plain pid (Fail errno) made alive)
by_shape script plain pid which given made alive (shape.tells files reply is_said is) =
    subst (AnswerGoes plain pid) (sym is) (replied_goes script plain (with_files plain files) pid reply (with_files_next plain plain files pid (same_next plain pid made)) alive)
by_shape script plain pid which given made alive (shape.puts files memory reply is_said put is) =
    subst (AnswerGoes plain pid) (sym is) (replied_goes script plain (remembered (with_files plain files) pid memory) pid reply
    (next_of_files plain (remembered (with_files plain files) pid memory) files pid (remembered_next (with_files plain files) pid memory made)) (alive_still plain.table pid pid memory ∙ alive))
by_shape script plain pid which given made alive (shape.moves path directory of entered is) =
    subst (AnswerGoes plain pid) (sym is) (replied_goes script plain (with_table plain (with_directory plain.table pid directory)) pid (Val (pos 0))
    (moved_next plain pid directory made) (alive_working plain.table pid pid directory ∙ alive))
by_shape script plain pid which given made alive (shape.disposes signal disposition ignores before of is) =
    subst (AnswerGoes plain pid) (sym is) (replied_goes script plain (with_table plain (with_ignores plain.table pid ignores)) pid (Val (pos before))
    (disposed_next plain pid ignores made) (alive_ignoring plain.table pid pid ignores ∙ alive))
by_shape script plain pid which given made alive (shape.parts files moved part is) =
    subst (AnswerGoes plain pid) (sym is) (
      controlled_next plain (with_files plain files) pid (after_part (control_of (with_files plain files) pid) moved)
          (with_files_next plain plain files pid (same_next plain pid made)),
      alive,
    )
by_shape script plain pid which given made alive (shape.awaits files begun is) =
    subst (AnswerGoes plain pid) (sym is) (
      controlled_next plain (with_files plain files) pid (after_part (control_of (with_files plain files) pid) 1)
          (with_files_next plain plain files pid (same_next plain pid made)),
      alive,
    )
by_shape script plain pid which given made alive (shape.starts place is) =
    subst (AnswerGoes plain pid) (sym is) (
      controlled_next plain (with_files (remembered plain pid no_memory) (after_exec_of plain.files pid)) pid
          (restarted (settled script (control_of plain pid)) place)
          (with_files_next plain (remembered plain pid no_memory) (after_exec_of plain.files pid) pid (remembered_next plain pid no_memory made)),
      alive_still plain.table pid pid no_memory ∙ alive,
    )
by_shape script plain pid which given made alive (shape.forks is) =
    subst (AnswerGoes plain pid) (sym is) (replied_goes script plain (with_child script plain pid) pid (Val (pos (last_pid plain + 1))) (child_next script plain pid made alive)
    (still_alive plain.table (child_of pid (process_at plain.table pid)) pid alive))
by_shape script plain pid which given made alive (shape.reaps child status ended is) =
    subst (AnswerGoes plain pid) (sym is) (replied_goes script plain (reaped plain child) pid (Waited child status) (reaped_next plain pid child made)
    (reaped_keeps plain.table child pid ended alive))
by_shape script plain pid which given made alive (shape.ends status is) =
    subst (AnswerGoes plain pid) (sym is) (die_next plain pid pid status made, die_ends plain.table pid status)
by_shape script plain pid which given made alive (shape.ends_another target signal of first own lives is) =
    subst (AnswerGoes plain pid) (sym is) (replied_goes script plain (die plain target (count_of signal)) pid (Val (pos 0)) (die_next plain pid target (count_of signal) made)
    (die_keeps plain.table target pid (count_of signal) first (λ same. own (sym same)) alive))

-- whatever is answered goes so
pub posix_goes : (script : Script) (plain : Plain) (pid : ℕ) (which : Call) → length plain.table ≡ last_pid plain → is_alive plain.table pid ≡ true
    → AnswerGoes plain pid (machine script plain pid which)
posix_goes script plain pid which made alive =
    by_shape script plain pid which (machine script plain pid which) made alive (machine_shape script plain pid which)
