-- Calls that end a process, the caller itself or another.
use Rattle.std.proofs.Common.{◌≡◌, ◌≢◌, ℕ, ◌+◌, ◌<◌, ◌≤◌, ℤ, pos, negsuc, ◌==◌, ◌&&◌, ◌||◌, not, Bool, true, false, cond, List, length, Option, None, Some, is_none, is_some, Result, Ok, Err, refl, ap, sym, ◌∙◌, subst, arith, w64}
use Rattle.std.proofs.lemmas.Bool.Decides.{nat_tests}
use Rattle.std.specs.Int.{cast_unsigned}
use Rattle.std.specs.Option.{option_and_then, option_map_or}
use Rattle.kabi_types.specs.Arguments.{argument_fault, count_of, invalid_unless, is_from, is_sendable}
use Rattle.kabi_types.specs.PathParts.{components}
use Rattle.kabi_types.specs.declared.calls.Call.{Call}
use Rattle.kabi_types.specs.declared.calls.Call.TheVariants as call
use Rattle.kabi_types.specs.declared.errnos.Errno.{Errno}
use Rattle.kabi_types.specs.declared.errnos.Errno.TheVariants.{EPERM}
use Rattle.kabi_types.specs.declared.replies.Reply.{Reply}
use Rattle.kabi_types.specs.declared.replies.Reply.TheVariants.{Val}
use Rattle.kabi_types.specs.declared.scripts.Script.{Script}
use Rattle.kheap_slabs.specs.declared.objects.Proc.{Proc}
use Rattle.posix_defs.specs.Memory.{Frames}
use Rattle.posix_defs.specs.Account.{account_on}
use Rattle.posix_defs.specs.Answer.{Answer, Ended, replied}
use Rattle.posix_defs.specs.Ending.{die}
use Rattle.posix_defs.specs.Killing.{is_asking, kill, struck}
use Rattle.posix_defs.specs.MemoryCalls.{frames_after}
use Rattle.posix_defs.specs.Needs.{need_of}
use Rattle.posix_defs.specs.Paths.{begins_at, resolve}
use Rattle.posix_defs.specs.Plain.{Plain}
use Rattle.posix_defs.specs.Process.{directory_of}
use Rattle.posix_defs.specs.Reaching.{IsLeft, ends_node, knows as knows_from, knows_way, last_of, name_to_leave, names_node, path_to_leave, path_to_walk}
use Rattle.posix_defs.specs.World.{Kept, World}
use Rattle.posix_defs.specs.declared.turner.Turned.{Turned}
use Rattle.posix_defs.specs.declared.turner.Turned.TheVariants as turned
use Rattle.posix_defs.specs.Signals.{is_ignored}
use Rattle.proc_table.specs.Changes.{is_ended_by, verdict}
use Rattle.proc_table.specs.Procs.{IsAlive, ignored_by, proc_of, target_of}
use Rattle.proc_table.specs.Standing.{IsTable, answered_by, pid_of}
use Rattle.proc_table.proofs.FamilyLemmas.{proc_has_pid}
use Rattle.proc_table.proofs.PlaceLemmas.{eqb_other, eqb_same}
use Rattle.store_objects.specs.declared.objects.Objects.{Objects}
use Rattle.store_objects.specs.Standing.{IsSound, Performs, StandsFor, answered_in}
use Rattle.store_objects.specs.Walking.{KeepsOn, Serves, WorldReached}
use Rattle.store_objects.proofs.Replies.{GoesOn, does_said}
use Rattle.process_calls.specs.Ending.{WorldWithout}

-- a process has ended: from each world that the objects stood for, they stand for one without it
abbrev pub Dies : Script → Objects → ℕ → ℕ → Objects → Type 0
Dies script old pid status new = (world : World) → StandsFor script old world → IsSound world.plain → WorldWithout script new world pid status

or_false : (a b : Bool) → (a || b) ≡ false → b ≡ false
or_false true b is = absurd (let both : true ≡ false = is in cc)
or_false false b is = is

-- a call that walks no path leaves no name, and knows no way
module _ (world next : World) (pid : ℕ) (which : Call) (told : Turned) (leaves : path_to_leave world.plain pid which ≡ None) (walks : path_to_walk which ≡ None) where
  leaves_none : IsLeft next.plain.files.tree next.kept (name_to_leave world.plain pid which)
  leaves_none =
      subst (λ path. IsLeft next.plain.files.tree next.kept (option_and_then (λ p. last_of (resolve world.plain.files.tree (directory_of world.plain.table pid) p)) path)) (sym leaves) tt

  knows_none : {X : Type 0} → knows_way world.plain world.kept pid which ≡ true → X
  knows_none knows = absurd (
      let none : knows_way world.plain world.kept pid which ≡ false =
      ap (λ path. option_map_or (λ p. knows_from world.plain.files.tree world.kept (begins_at (directory_of world.plain.table pid) p) (components p)) path false) walks in
      let both : true ≡ false = sym knows ∙ none in
      cc)

-- What is kept, and how much was read, once a process has ended in such a call.
keeps_ended : (script : Script) (mid : Objects) (world next : World) (pid target status : ℕ) (which : Call) (told : Turned) → ((plain : Plain) → path_to_leave plain pid which ≡ None) → path_to_walk which ≡ None
    → (gone : WorldWithout script mid world target status) → next.kept ≡ gone.next.kept → next.reads ≡ gone.next.reads → next.plain.files ≡ gone.next.plain.files → KeepsOn world pid which told next
keeps_ended script mid world next pid target status which told leaves walks gone kept reads files = record {
  names = more (need_of which).name (ap (λ (k : Kept). length k.names) kept) gone.names;
  blocks = more (need_of which).block (ap (λ (k : Kept). length k.blocks) kept) gone.blocks;
  vnodes = more (need_of which).vnode (ap (λ (k : Kept). length k.vnodes) kept) gone.vnodes;
  reads = subst (λ n. world.reads ≤ n) (sym reads) gone.reads;
  untouched = λ none.
      let same = gone.untouched (ap (ends_node world.plain.files) (sym files) ∙ or_false (is_none (argument_fault which) && names_node world.plain.files pid which) (ends_node world.plain.files next.plain.files) none) in
      (kept ∙ same.0, reads ∙ same.1);
  left = λ _. leaves_none world next pid which told (leaves world.plain) walks;
  known = λ knows. knows_none world next pid which told (leaves world.plain) walks knows;
}
  where
    more : {now mid old : ℕ} (need : ℕ) → now ≡ mid → mid ≤ old → now ≤ old + need
    more need same less = omega (arith, same, less)

-- the caller has ended
pub serves_ended : (script : Script) (old new : Objects) (pid status : ℕ) (which : Call) (told : Turned) → ((plain : Plain) → path_to_leave plain pid which ≡ None) → path_to_walk which ≡ None → Dies script old pid status new
    → told ≡ turned.Ended status → Serves script old pid which (λ plain. Ended status (die plain pid status)) told new
serves_ended script old new pid status which told leaves walks dies tells = λ world stands sound alive.
    let gone = dies world stands sound in
    record {
      next = gone.next;
      stands = gone.stands;
      tells = (tells, gone.plain);
      account = gone.account ∙ ap (λ (plain : Plain). account_on world.plain plain world.account) gone.plain;
      keeps = keeps_ended script new world gone.next pid pid status which told leaves walks gone refl refl refl;
    }

pub does_itself : (script : Script) (old new : Objects) (pid target number : ℕ) (named signal : ℤ) (told : Turned) → target ≡ pid → Dies script old target number new
    → told ≡ turned.Ended number → Serves script old pid (call.Kill named signal) (λ plain. struck script plain pid target number) told new
does_itself script old new pid target number named signal told same dies tells = λ world stands sound alive.
    subst (λ answer. WorldReached script new world pid (call.Kill named signal) answer told)
    (sym (ap (λ b. cond b (Ended number (die world.plain pid number)) (replied script (die world.plain target number) pid (Val (pos 0)))) (eqb_same target pid same)))
    (serves_ended script old new pid number (call.Kill named signal) told (λ plain. refl) refl (subst (λ n. Dies script old n number new) same dies) tells world stands sound alive)

pub does_another : (script : Script) (old mid new : Objects) (pid target number : ℕ) (named signal : ℤ) (told : Turned) → target ≢ pid
    → Dies script old target number mid → told ≡ turned.Done (Val (pos 0)) → GoesOn script mid pid (Val (pos 0)) new
    → Serves script old pid (call.Kill named signal) (λ plain. struck script plain pid target number) told new
does_another script old mid new pid target number named signal told apart dies tells goes = λ world stands sound alive.
    let gone = dies world stands sound in
    let base = gone.next in
    subst (λ answer. WorldReached script new world pid (call.Kill named signal) answer told)
    (ap (λ (plain : Plain). replied script plain pid (Val (pos 0))) gone.plain
    ∙ sym (ap (λ b. cond b (Ended number (die world.plain pid number)) (replied script (die world.plain target number) pid (Val (pos 0)))) (eqb_other target pid apart)))
    (record {
      next = answered_in script base pid (Val (pos 0));
      stands = goes base gone.stands;
      tells = (tells, refl);
      account = gone.account;
      keeps = keeps_ended script mid world (answered_in script base pid (Val (pos 0))) pid target number (call.Kill named signal) told (λ plain. refl) refl gone refl refl refl;
    })

-- a call that walks no path serves as it performs
serves_as : (script : Script) (old new : Objects) (pid : ℕ) (which : Call) (told : Turned) (answer : Plain → Answer) → ((plain : Plain) → path_to_leave plain pid which ≡ None) → path_to_walk which ≡ None
    → Performs script old pid which answer told new → Serves script old pid which answer told new
serves_as script old new pid which told answer leaves walks does = λ world stands sound alive.
    let led = does world stands alive in
    record {
      next = led.next;
      stands = led.stands;
      tells = led.tells;
      account = led.account;
      keeps = record {
        names = no_more (need_of which).name (ap (λ (k : Kept). length k.names) led.kept);
        blocks = no_more (need_of which).block (ap (λ (k : Kept). length k.blocks) led.kept);
        vnodes = no_more (need_of which).vnode (ap (λ (k : Kept). length k.vnodes) led.kept);
        reads = as_many led.reads;
        untouched = λ _. (led.kept, led.reads);
        left = λ _. leaves_none world led.next pid which told (leaves world.plain) walks;
        known = λ _. led.reads;
      };
    }
  where
    no_more : {new old : ℕ} (more : ℕ) → new ≡ old → new ≤ old + more
    no_more more same = omega (arith, same)

    as_many : {new old : ℕ} → new ≡ old → old ≤ new
    as_many same = omega (arith, same)

-- a signal that ends nobody
pub does_tell : (script : Script) (old new : Objects) (pid : ℕ) (target signal : ℤ) (said : Reply) (told : Turned)
    → ((plain : Plain) → IsTable old.heap old.procs plain.table → kill script plain pid target signal ≡ replied script plain pid said)
    → told ≡ turned.Done said → ((frames : Frames) → frames_after frames pid (call.Kill target signal) said ≡ frames) → GoesOn script old pid said new
    → Serves script old pid (call.Kill target signal) (λ plain. kill script plain pid target signal) told new
does_tell script old new pid target signal said told answers tells frames goes =
    serves_as script old new pid (call.Kill target signal) told (λ plain. kill script plain pid target signal) (λ plain. refl) refl
    (does_said script old new pid (call.Kill target signal) said told (λ plain. kill script plain pid target signal) tells goes frames
    (λ world stands. answers world.plain stands.processes.table))

-- one that ends its target
pub does_strike : (script : Script) (old new : Objects) (pid : ℕ) (target signal : ℤ) (told : Turned)
    → ((plain : Plain) → IsTable old.heap old.procs plain.table → kill script plain pid target signal ≡ struck script plain pid (pid_of target) (count_of signal))
    → Serves script old pid (call.Kill target signal) (λ plain. struck script plain pid (pid_of target) (count_of signal)) told new
    → Serves script old pid (call.Kill target signal) (λ plain. kill script plain pid target signal) told new
does_strike script old new pid target signal told answers does = λ world stands sound alive.
    subst (λ answer. WorldReached script new world pid (call.Kill target signal) answer told) (sym (answers world.plain stands.processes.table)) (does world stands sound alive)

-- Whom a signal ends: it runs, and isn't the first.
pub record IsStruck (procs : List Proc) (target : ℤ) : Type 0 where
  pub same : target ≡ pos (pid_of target)
  pub alive : IsAlive procs (pid_of target)
  pub other : pid_of target ≢ 1

ok_same : (b : Bool) → ◌≡◌ {A = Result Bool Errno} (Ok true) (Ok b) → true ≡ b
ok_same true e = refl
ok_same false e = cc

-- who is ended by a signal runs
runs_then : (told : Option ℕ) (b : Bool) → true ≡ (not (is_some told) && b) → told ≡ None
runs_then None b e = refl
runs_then (Some status) b e = cc

runs_by : (signal : ℤ) (proc : Proc) → Ok true ≡ verdict signal (Some proc) → (proc.status ≡ None) × (proc.pid ≢ 1)
runs_by signal proc is = by_asking (is_asking signal) is
  where
    by_first : (b : Bool) → (proc.pid == 1) ≡ b → Ok true ≡ cond b (Err EPERM) (Ok (is_ended_by signal proc)) → (proc.status ≡ None) × (proc.pid ≢ 1)
    by_first true first e = cc
    by_first false first e = (
      runs_then proc.status (not (is_ignored (ignored_by proc) (count_of signal))) (ok_same (is_ended_by signal proc) e),
      λ same. (let yes = eqb_same proc.pid 1 same in cc),
    )

    by_asking : (b : Bool) → Ok true ≡ cond b (Ok false) (cond (proc.pid == 1) (Err EPERM) (Ok (is_ended_by signal proc))) → (proc.status ≡ None) × (proc.pid ≢ 1)
    by_asking true e = cc
    by_asking false e = by_first (proc.pid == 1) refl e

pub is_struck : (procs : List Proc) (target signal : ℤ) → Ok true ≡ verdict signal (target_of procs target) → IsStruck procs target
is_struck procs (negsuc n) signal is = cc
is_struck procs (pos number) signal is = by_proc (proc_of procs number) refl is
  where
    by_proc : (o : Option Proc) → proc_of procs number ≡ o → Ok true ≡ verdict signal o → IsStruck procs (pos number)
    by_proc None found e = cc
    by_proc (Some proc) found e =
        let both = runs_by signal proc e in
        record {
          same = refl;
          alive = record { proc = proc; there = found; runs = both.0 };
          other = λ same. both.1 (proc_has_pid procs number proc found ∙ same);
        }

-- what is told where its numbers are the call's
pub struck_by : (procs : List Proc) (target signal : ℤ) (as_target as_signal : ℤ) (said : Result Bool Errno) (b : Bool) → as_target ≡ target → as_signal ≡ signal
    → said ≡ verdict as_signal (target_of procs as_target) → said ≡ Ok b → b ≡ true → IsStruck procs target
struck_by procs target signal as_target as_signal said b same_target same_signal is ok holds =
    is_struck procs target signal
    (sym (ok ∙ ap Ok holds) ∙ is ∙ ap (λ z. verdict z (target_of procs as_target)) same_signal ∙ ap (λ z. verdict signal (target_of procs z)) same_target)

-- the number of a target that is a pid
pub number_of : (target : ℤ) (number : ℕ) → number ≡ cast_unsigned w64 target → target ≡ pos (pid_of target) → number ≡ pid_of target
number_of (pos pid) number is same = is
number_of (negsuc n) number is same = cc

pub answered_as : (script : Script) (plain : Plain) (pid : ℕ) (target signal as_target as_signal : ℤ) (said : Result Bool Errno) → as_target ≡ target → as_signal ≡ signal
    → kill script plain pid as_target as_signal ≡ answered_by script plain pid as_target as_signal said → kill script plain pid target signal ≡ answered_by script plain pid target signal said
answered_as script plain pid target signal as_target as_signal said same_target same_signal is =
    subst (λ z. kill script plain pid target z ≡ answered_by script plain pid target z said) same_signal
    (subst (λ z. kill script plain pid z as_signal ≡ answered_by script plain pid z as_signal said) same_target is)

-- what is right of a kill's operands is right of its signal
valid : (b : Bool) → invalid_unless b ≡ None → b ≡ true
valid true e = refl
valid false e = cc

second : (a b : Bool) → (a && b) ≡ true → b ≡ true
second true b e = e
second false b e = cc

-- a signal that a kill may send is a wait status
pub few_signals : (target signal : ℤ) → argument_fault (call.Kill target signal) ≡ None → count_of signal < 65536
few_signals target (negsuc n) right = omega arith
few_signals target (pos n) right = below n (second (is_from 1 target) (is_sendable (pos n)) (valid (is_from 1 target && is_sendable (pos n)) right))
  where
    below : (n : ℕ) → is_sendable (pos n) ≡ true → n < 65536
    below n e = grind (arith, nat_tests)
