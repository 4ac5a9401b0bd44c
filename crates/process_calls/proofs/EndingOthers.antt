-- All that run behind a pid end in turn.
use Rattle.std.proofs.Common.{◌≡◌, ℕ, zero, suc, ◌+◌, ◌-◌, ◌<◌, ◌≤◌, not, true, false, cond, List, [], ◌∷◌, ◌++◌, Option, None, Some, is_some, unwrap_or, slice_get, slice_set, refl, ap, sym, ◌∙◌, subst, arith}
use Rattle.std.specs.List.{range_with_len}
use Rattle.std.specs.Option.{option_map}
use Rattle.kern_laws.proofs.Bareness.{end_unopened}
use Rattle.kheap_slabs.specs.declared.objects.Proc.{Proc}
use Rattle.open_laws.specs.Open.{descriptors_by}
use Rattle.open_laws.specs.Placed.{Numbers}
use Rattle.posix_defs.specs.Files.Closing.{after_end_of, after_ends_of}
use Rattle.posix_defs.specs.Files.Descriptors.{none_open}
use Rattle.posix_defs.specs.Files.State.{Files, HalfOpen, descriptors_of, opening_at, with_opening, with_openings}
use Rattle.posix_defs.specs.Memory.{Frames, after_clear}
use Rattle.posix_defs.specs.Process.{Table, is_alive, is_alive_in, runs}
use Rattle.posix_defs.specs.Reaching.{ends_node}
use Rattle.proc_numbers.specs.Having.{HaveOpen, places_in}
use Rattle.proc_table.specs.Opening.{half_in, opening_of}
use Rattle.proc_table.specs.Procs.{IsAlive, IsLight, no_descriptors, numbers_in, proc_of, process_of, status_of}
use Rattle.proc_table.specs.Standing.{IsTable, ends_from, ends_in}
use Rattle.proc_table.specs.Table.{Holds}
use Rattle.proc_table.proofs.NumberLemmas.{none_numbers}
use Rattle.proc_table.proofs.AccountLemmas.{pids_within}
use Rattle.proc_table.proofs.FamilyLemmas.{proc_has_pid, process_is}
use Rattle.proc_table.proofs.OwnLemmas.{has_it}
use Rattle.proc_table.proofs.TurnLemmas.{closed_once}
use Rattle.store_objects.specs.declared.objects.Objects.{Objects}
use Rattle.process_calls.specs.Endings.{ClearsSome, HaveLocks, HoldFilesOf, IsLowestBehind, cleared_in_turn}
use Rattle.process_calls.proofs.Going.{Remain, none_before, none_then, remain_end, remain_same, remain_then}
use Rattle.store_objects.specs.Objects.{is_running, procs_of}
use Rattle.store_objects.specs.Trees.{KeptStays}
use Rattle.store_objects.proofs.Opening.{none_by}
use Rattle.store_objects.proofs.Pinning.{kept_then}
use Rattle.store_objects.proofs.RunningProcs.{running_as, running_none}

-- who runs is alive in a table that the processes are
pub alive_in : (objects : Objects) (table : Table) (pid : ℕ) → IsTable objects.heap objects.procs table → is_alive table pid ≡ is_running (procs_of objects) pid
alive_in objects table pid is =
    ap is_alive_in (process_is objects.heap table (procs_of objects) pid is.present) ∙ by_proc (proc_of (procs_of objects) pid) refl
  where
    tells : (told : Option ℕ) → runs (status_of told) ≡ not (is_some told)
    tells None = refl
    tells (Some status) = refl

    by_proc : (o : Option Proc) → proc_of (procs_of objects) pid ≡ o → is_alive_in (option_map (process_of objects.heap) o) ≡ is_running (procs_of objects) pid
    by_proc None e = sym (running_none (procs_of objects) pid e)
    by_proc (Some proc) e = tells proc.status ∙ sym (running_as (procs_of objects) pid proc (is_some proc.status) e refl)

-- who is alive was made
pub alive_made : (objects : Objects) (pid : ℕ) → Holds objects.heap objects.procs → IsAlive (procs_of objects) pid → pid ≤ objects.procs.last
alive_made objects pid holds alive =
    let within : (0 < alive.proc.pid) × (alive.proc.pid ≤ objects.procs.last) = has_it (λ p. (0 < p.pid) × (p.pid ≤ objects.procs.last)) (procs_of objects) pid alive.proc
    (pids_within objects.heap.procs objects.procs.listed 0 objects.procs.last holds.stored holds.rising) alive.there in
    subst (λ n. n ≤ objects.procs.last) (proc_has_pid (procs_of objects) pid alive.proc alive.there) within.1

pub alive_runs_there : (objects : Objects) (pid : ℕ) → IsAlive (procs_of objects) pid → is_running (procs_of objects) pid ≡ true
alive_runs_there objects pid alive = running_as (procs_of objects) pid alive.proc false alive.there (ap is_some alive.runs)

-- those that don't run are passed over
ends_past : (k more pid : ℕ) (table : Table) (status : ℕ) → ((q : ℕ) → pid ≤ q → q < pid + k → is_alive table q ≡ false)
    → ends_from (k + more) pid table status ≡ ends_from more (pid + k) table status
ends_past zero more pid table status none =
    ap (λ n. ends_from n pid table status) (let a : 0 + more ≡ more = omega arith in a)
    ∙ ap (λ n. ends_from more n table status) (let b : pid ≡ pid + 0 = omega arith in b)
ends_past (suc k) more pid table status none =
    ap (λ n. ends_from n pid table status) (let a : suc k + more ≡ suc (k + more) = omega arith in a)
    ∙ ap (λ b. ends_from (k + more) (pid + 1) (cond b (ends_in table pid status) table) status) (none pid (omega arith) (omega arith))
    ∙ ends_past k more (pid + 1) table status (λ q low high. none q (omega arith) (omega arith))
    ∙ ap (λ n. ends_from more n table status) (let b : pid + 1 + k ≡ pid + suc k = omega arith in b)

-- where none behind a pid runs the table stays
pub ends_nobody : (more pid : ℕ) (table : Table) (status : ℕ) → ((q : ℕ) → pid < q → is_alive table q ≡ false) → ends_from more (pid + 1) table status ≡ table
ends_nobody more pid table status none =
    ap (λ n. ends_from n (pid + 1) table status) (let a : more ≡ more + 0 = omega arith in a)
    ∙ ends_past more 0 (pid + 1) table status (λ q low high. none q (omega arith))

-- What is left to end behind the next one.
pub record Rest (last more pid next : ℕ) (table : Table) (status : ℕ) : Type 0 where
  pub less : ℕ
  pub counts : last + 1 ≡ next + less
  pub same : ends_from more (pid + 1) table status ≡ ends_from less (next + 1) (ends_in table next status) status

pub ends_next : (last more pid next : ℕ) (table : Table) (status : ℕ) → last + 1 ≡ pid + more → pid < next → next ≤ last
    → ((q : ℕ) → pid < q → q < next → is_alive table q ≡ false) → is_alive table next ≡ true → Rest last more pid next table status
ends_next last more pid next table status counts behind made none alive = record {
  less = less;
  counts = (let a : last + 1 ≡ next + (last + 1 - next) = omega arith in a);
  same =
      ap (λ n. ends_from n (pid + 1) table status) (let a : more ≡ next - (pid + 1) + suc (last + 1 - next) = omega arith in a)
      ∙ ends_past (next - (pid + 1)) (suc (last + 1 - next)) (pid + 1) table status (λ q low high. none q (omega arith) (omega arith))
      ∙ ap (λ n. ends_from (suc (last + 1 - next)) n table status) (let b : pid + 1 + (next - (pid + 1)) ≡ next = omega arith in b)
      ∙ ap (λ b. ends_from (last + 1 - next) (next + 1) (cond b (ends_in table next status) table) status) alive;
}
  where
    less : ℕ
    less = last + 1 - next

-- The table that the processes are while those behind the first end, and what is left to end of it.
pub record EndsOn (start now : Objects) (pid : ℕ) (table : Table) : Type 0 where
  pub more : ℕ
  pub here : Table
  pub counts : start.procs.last + 1 ≡ pid + more
  pub is : IsTable now.heap now.procs here
  pub same : ends_from start.procs.last 2 table 9 ≡ ends_from more (pid + 1) here 9

pub begins : (start : Objects) (table : Table) → IsTable start.heap start.procs table → EndsOn start start 1 table
begins start table is = record {
  more = start.procs.last;
  here = table;
  counts = (let a : start.procs.last + 1 ≡ 1 + start.procs.last = omega arith in a);
  is = is;
  same = refl;
}

-- the next one ends
pub ends_one : (start mid new : Objects) (pid next : ℕ) (table : Table) → Holds mid.heap mid.procs → mid.procs.last ≡ start.procs.last
    → IsLowestBehind (procs_of mid) pid next → ((t : Table) → IsTable mid.heap mid.procs t → IsTable new.heap new.procs (ends_in t next 9))
    → EndsOn start mid pid table → EndsOn start new next table
ends_one start mid new pid next table holds last found ends on =
    let made : next ≤ mid.procs.last = alive_made mid next holds found.alive in
    let rest = ends_next start.procs.last on.more pid next on.here 9 on.counts found.behind (subst (λ n. next ≤ n) last made)
    (λ q behind lower. alive_in mid on.here q on.is ∙ found.lowest q behind lower)
    (alive_in mid on.here next on.is ∙ alive_runs_there mid next found.alive) in
    record { more = rest.less; here = ends_in on.here next 9; counts = rest.counts; is = ends on.here on.is; same = on.same ∙ rest.same }

-- and at last none is left
pub ends_all : (start now : Objects) (pid : ℕ) (table : Table) → ((q : ℕ) → pid < q → is_running (procs_of now) q ≡ false)
    → EndsOn start now pid table → IsTable now.heap now.procs (ends_from start.procs.last 2 table 9)
ends_all start now pid table none on =
    subst (IsTable now.heap now.procs)
    (sym (on.same ∙ ends_nobody on.more pid on.here 9 (λ q behind. alive_in now on.here q on.is ∙ none q behind))) on.is

-- one more has lost its memory
cleared_more : (frames : Frames) (pids : List ℕ) (next : ℕ) → cleared_in_turn frames (pids ++ next ∷ []) ≡ after_clear (cleared_in_turn frames pids) next
cleared_more frames [] next = refl
cleared_more frames (pid ∷ pids) next = cleared_more (after_clear frames pid) pids next

pub clears_one : (frames after : Frames) (next : ℕ) → ClearsSome frames after → ClearsSome frames (after_clear after next)
clears_one frames after next some = (some.0 ++ next ∷ [], ap (λ f. after_clear f next) some.1 ∙ sym (cleared_more frames some.0 next))

-- ---- what they had open

-- in this process nothing is open, and it sleeps in no open
pub record IsIdle (files : Files) (pid : ℕ) : Type 0 where
  pub opens : descriptors_of files pid ≡ none_open
  pub awake : opening_at files pid ≡ None

-- who doesn't run has nothing open, and sleeps in no open
pub unopened : (numbers : Numbers) (objects : Objects) (files : Files) → Holds objects.heap objects.procs → HaveOpen numbers objects.heap objects.procs files
    → (pid : ℕ) → is_running (procs_of objects) pid ≡ false → IsIdle files pid
unopened numbers objects files holds have pid not_running = record {
  opens = have.descriptors.each pid ∙ opens_none (proc_of (procs_of objects) pid) refl ∙ none_by numbers.descs;
  awake = have.descriptors.openings.each pid ∙ sleeps_in_none (proc_of (procs_of objects) pid) refl;
}
  where
    over : (status : Option ℕ) → not (is_some status) ≡ false → (at : ℕ) × (status ≡ Some at)
    over None e = cc
    over (Some at) e = (at, refl)

    ended : (proc : Proc) → proc_of (procs_of objects) pid ≡ Some proc → (at : ℕ) × (proc.status ≡ Some at)
    ended proc is = over proc.status (sym (running_as (procs_of objects) pid proc (is_some proc.status) is refl) ∙ not_running)

    light : (proc : Proc) → proc_of (procs_of objects) pid ≡ Some proc → IsLight proc
    light proc is = has_it IsLight (procs_of objects) pid proc holds.light is

    opens_none : (o : Option Proc) → proc_of (procs_of objects) pid ≡ o
        → descriptors_by numbers.descs (places_in (numbers_in objects.heap) (proc_of (procs_of objects) pid)) ≡ descriptors_by numbers.descs no_descriptors
    opens_none None none = ap (λ o. descriptors_by numbers.descs (places_in (numbers_in objects.heap) o)) none
    opens_none (Some proc) is =
        let its : IsLight proc = light proc is in
        let status = ended proc is in
        ap (λ o. descriptors_by numbers.descs (places_in (numbers_in objects.heap) o)) is
        ∙ ap (descriptors_by numbers.descs) (none_numbers objects.heap proc (closed_once proc.status proc status.0 status.1 its.descriptors its.awake).opens)

    sleeps_in_none : (o : Option Proc) → proc_of (procs_of objects) pid ≡ o → opening_of (proc_of (procs_of objects) pid) ≡ None
    sleeps_in_none None none = ap opening_of none
    sleeps_in_none (Some proc) is =
        let its : IsLight proc = light proc is in
        let status = ended proc is in
        ap opening_of is ∙ ap (option_map half_in) (closed_once proc.status proc status.0 status.1 its.descriptors its.awake).awake

-- who sleeps in no open does so still when that is said again
still_none : (openings : List (Option HalfOpen)) (place : ℕ) → unwrap_or (slice_get openings place) None ≡ None → slice_set openings place None ≡ openings
still_none [] place none = refl
still_none (first ∷ rest) zero none = ap (λ opening. opening ∷ rest) (sym none)
still_none (first ∷ rest) (suc place) none = ap (λ later. first ∷ later) (still_none rest place none)

still_awake : (files : Files) (pid : ℕ) → opening_at files pid ≡ None → with_opening files pid None ≡ files
still_awake files zero none = refl
still_awake files (suc place) none = ap (with_openings files) (still_none files.openings place none)

-- so its end changes no file
idle_ends : (files : Files) (pid : ℕ) → IsIdle files pid → after_end_of files pid ≡ files
idle_ends files pid idle = end_unopened files pid idle.opens ∙ still_awake files pid idle.awake

-- those are passed over
closes_past : (k more pid : ℕ) (files : Files) → ((q : ℕ) → pid ≤ q → q < pid + k → IsIdle files q)
    → after_ends_of files (range_with_len pid (k + more)) ≡ after_ends_of files (range_with_len (pid + k) more)
closes_past zero more pid files idle =
    ap (λ n. after_ends_of files (range_with_len pid n)) (let a : 0 + more ≡ more = omega arith in a)
    ∙ ap (λ n. after_ends_of files (range_with_len n more)) (let b : pid ≡ pid + 0 = omega arith in b)
closes_past (suc k) more pid files idle =
    ap (λ n. after_ends_of files (range_with_len pid n)) (let a : suc k + more ≡ suc (k + more) = omega arith in a)
    ∙ ap (λ closed. after_ends_of closed (range_with_len (pid + 1) (k + more))) (idle_ends files pid (idle pid (omega arith) (omega arith)))
    ∙ closes_past k more (pid + 1) files (λ q low high. idle q (omega arith) (omega arith))
    ∙ ap (λ n. after_ends_of files (range_with_len n more)) (let b : pid + 1 + k ≡ pid + suc k = omega arith in b)

-- What is open while those behind the first end, and what is left to close of it.
pub record ClosesOn (start now : Objects) (pid : ℕ) (numbers : Numbers) (files : Files) : Type 0 where
  pub more : ℕ
  pub here : Files
  pub counts : start.procs.last ≤ pid + more
  pub held : HoldFilesOf numbers now here
  pub same : after_ends_of files (range_with_len 2 (start.procs.last - 1)) ≡ after_ends_of here (range_with_len (pid + 1) more)
  -- what is there was there, and where no description of a node has gone the caches keep the same
  pub remain : Remain files here
  pub stays : ends_node files here ≡ false → KeptStays start.tree now.tree
  pub locks : HaveLocks start files → HaveLocks now here

pub closes_first : (start : Objects) (numbers : Numbers) (files : Files) → HoldFilesOf numbers start files → ClosesOn start start 1 numbers files
closes_first start numbers files hold = record {
  more = start.procs.last - 1;
  here = files;
  counts = omega arith;
  held = hold;
  same = refl;
  remain = remain_same files files refl refl;
  stays = λ none. record { kept = refl; reads = refl };
  locks = λ held. held;
}

-- the next one closes what it has open
pub closes_one : (start mid new : Objects) (pid next : ℕ) (numbers : Numbers) (files : Files) → Holds mid.heap mid.procs → mid.procs.last ≡ start.procs.last
    → IsLowestBehind (procs_of mid) pid next
    → ((here : Files) → HoldFilesOf numbers mid here → HoldFilesOf numbers new (after_end_of here next))
    → ((here : Files) → HoldFilesOf numbers mid here → ends_node here (after_end_of here next) ≡ false → KeptStays mid.tree new.tree)
    → ((here : Files) → HoldFilesOf numbers mid here → HaveLocks mid here → HaveLocks new (after_end_of here next))
    → ClosesOn start mid pid numbers files → ClosesOn start new next numbers files
closes_one start mid new pid next numbers files holds last found closes stays locks on = record {
  more = less;
  here = after_end_of on.here next;
  counts = (let c = on.counts in let b = found.behind in let k : start.procs.last ≤ next + (on.more - (next - pid)) = omega (arith, c, b, made) in k);
  held = closes on.here on.held;
  same =
      on.same
      ∙ ap (λ n. after_ends_of on.here (range_with_len (pid + 1) n)) (let c = on.counts in let b = found.behind in let a : on.more ≡ next - (pid + 1) + suc (on.more - (next - pid)) = omega (arith, c, b, made) in a)
      ∙ closes_past (next - (pid + 1)) (suc less) (pid + 1) on.here
      (λ q low high. let b = found.behind in unopened numbers mid on.here holds on.held.held.opened q (found.lowest q (omega arith) (omega arith)))
      ∙ ap (λ n. after_ends_of on.here (range_with_len n (suc less))) (let b = found.behind in let c : pid + 1 + (next - (pid + 1)) ≡ next = omega arith in c);
  remain = remain_then files on.here (after_end_of on.here next) on.remain (remain_end on.here next);
  stays = λ none.
      kept_then start.tree mid.tree new.tree (on.stays (none_before files on.here (after_end_of on.here next) on.remain (remain_end on.here next) none))
      (stays on.here on.held (none_then files on.here (after_end_of on.here next) on.remain (remain_end on.here next) none));
  locks = λ held. locks on.here on.held (on.locks held);
}
  where
    less : ℕ
    less = on.more - (next - pid)

    made : next ≤ start.procs.last
    made = subst (λ n. next ≤ n) last (alive_made mid next holds found.alive)

-- and at last nothing is left to close
module _ (start now : Objects) (pid : ℕ) (numbers : Numbers) (files : Files) (holds : Holds now.heap now.procs) (none : (q : ℕ) → pid < q → is_running (procs_of now) q ≡ false)
    (on : ClosesOn start now pid numbers files) where
  all_are : after_ends_of files (range_with_len 2 (start.procs.last - 1)) ≡ on.here
  all_are =
      on.same
      ∙ ap (λ n. after_ends_of on.here (range_with_len (pid + 1) n)) (let a : on.more ≡ on.more + 0 = omega arith in a)
      ∙ closes_past on.more 0 (pid + 1) on.here (λ q low high. unopened numbers now on.here holds on.held.held.opened q (none q (omega arith)))

  pub closes_all : HoldFilesOf numbers now (after_ends_of files (range_with_len 2 (start.procs.last - 1)))
  closes_all = subst (HoldFilesOf numbers now) (sym all_are) on.held

  pub stays_all : ends_node files (after_ends_of files (range_with_len 2 (start.procs.last - 1))) ≡ false → KeptStays start.tree now.tree
  stays_all ends = on.stays (ap (ends_node files) (sym all_are) ∙ ends)

  pub locks_all : HaveLocks start files → HaveLocks now (after_ends_of files (range_with_len 2 (start.procs.last - 1)))
  locks_all held = subst (HaveLocks now) (sym all_are) (on.locks held)
