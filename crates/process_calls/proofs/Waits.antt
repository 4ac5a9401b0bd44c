-- A wait for a child.
use Rattle.std.proofs.Common.{◌≡◌, ℕ, ℤ, pos, true, false, cond, List, filter, length, None, Some, refl, ap, sym, ◌∙◌, subst, inl, inr}
use Rattle.std.specs.List.{AllByRecursion}
use Rattle.std.proofs.lemmas.Bool.Decides.{eqb_tells}
use Rattle.kabi_types.specs.Arguments.{argument_fault}
use Rattle.kabi_types.specs.declared.calls.Call.{Call}
use Rattle.kabi_types.specs.declared.calls.Call.TheVariants as call
use Rattle.kabi_types.specs.declared.replies.Reply.{Reply}
use Rattle.kabi_types.specs.declared.replies.Reply.TheVariants.{Val, Waited}
use Rattle.kabi_types.specs.declared.scripts.Control.{Control}
use Rattle.kabi_types.specs.declared.scripts.Script.{Script}
use Rattle.kheap_slabs.specs.declared.objects.Proc.{Proc}
use Rattle.posix_defs.specs.Account.{with_frames}
use Rattle.posix_defs.specs.Memory.{Frames}
use Rattle.posix_defs.specs.Answer.{Blocked, replied}
use Rattle.posix_defs.specs.declared.turner.Turned.{Turned}
use Rattle.posix_defs.specs.declared.turner.Turned.TheVariants.{Done, Sleep}
use Rattle.posix_defs.specs.Family.{IsFamily, KeepsOn}
use Rattle.posix_defs.specs.Machine.{machine, unless_wrong}
use Rattle.posix_defs.specs.MemoryCalls.{frames_after}
use Rattle.posix_defs.specs.Plain.{Plain, last_pid, with_table}
use Rattle.posix_defs.specs.Process.{Table, is_alive}
use Rattle.posix_defs.specs.Waiting.{is_nohang, waitpid}
use Rattle.posix_defs.specs.World.{World, directories_of}
use Rattle.kern_laws.proofs.Families.{answers_on}
use Rattle.proc_table.specs.Accounting.{HasAccount}
use Rattle.proc_table.specs.Changes.{after_wait, is_other, reaped_of}
use Rattle.proc_table.specs.Moves.{TableMoves}
use Rattle.proc_table.specs.Opening.{HaveOpen as TableOpen}
use Rattle.proc_table.specs.Procs.{HasEnded, numbers_in, proc_of}
use Rattle.kheap_slabs.specs.Heap.{Heap}
use Rattle.kheap_slabs.specs.Leaves.{HoldLeaves}
use Rattle.proc_table.proofs.LeafEnds.{hold_waited}
use Rattle.proc_table.proofs.OpenLemmas.{have_waited}
use Rattle.proc_table.specs.Standing.{IsTable, answered_wait, waited_in}
use Rattle.proc_table.specs.declared.reaped.Reaped.{Reaped}
use Rattle.proc_table.specs.declared.reaped.Reaped.TheVariants.{NoChild, Nobody, Took}
use Rattle.proc_table.proofs.FamilyLemmas.{found_is}
use Rattle.proc_table.proofs.LawLemmas.{wait_is}
use Rattle.proc_table.proofs.OwnLemmas.{all_filter}
use Rattle.proc_table.proofs.WaitLemmas.{took_ended}
use Rattle.store_objects.proofs.LockedOn.{holds_on, stay_moved}
use Rattle.store_objects.specs.declared.objects.Objects.{Objects}
use Rattle.store_objects.specs.Objects.{AreAtCalls, AreKept, IsAtCall, Runs, procs_of}
use Rattle.store_objects.specs.Standing.{AreProcesses, Performs, StandsFor, WorldAfter}
use Rattle.store_objects.proofs.GoingOn.{rising_in, some_same}
use Rattle.store_objects.proofs.Keeping.{kept_on, moved_caches}
use Rattle.store_objects.proofs.TreesOn.{tree_goes_on, works_on}
use Rattle.store_objects.proofs.WorkingOn.{reaped_work, same_work}
use Rattle.store_objects.specs.Working.{directories_in}
use Rattle.store_objects.specs.Files.{HaveFiles}
use Rattle.store_objects.proofs.Leading.{led_blocked, led_on}
use Rattle.store_objects.proofs.Namings.{names_in, names_waited}
use Rattle.store_objects.proofs.Opening.{by_pids, by_procs, files_moved, leaves_on}
use Rattle.store_objects.proofs.Replies.{GoesOn}
use Rattle.store_objects.proofs.WithoutOne.{found_gone, found_other}

-- who is whose child behind a call that is over
pub kept_by : (script : Script) (objects : Objects) (world : World) (base : Plain) (pid : ℕ) (which : Call) (said : Reply)
    → StandsFor script objects world → is_alive world.plain.table pid ≡ true → machine script world.plain pid which ≡ replied script base pid said
    → IsFamily base.table
kept_by script objects world base pid which said stands alive is =
    let plain = world.plain in
    let made : length plain.table ≡ last_pid plain = stands.processes.table.made ∙ stands.processes.last in
    let keeps = subst (KeepsOn plain) is (answers_on script plain pid which (record { family = stands.family; counted = made }) alive) in
    keeps.family

all_waited : (P : Proc → Type 0) (told : Reaped) (procs : List Proc) → AllByRecursion P procs → AllByRecursion P (after_wait told procs)
all_waited P (Took pid status) procs all = all_filter P (is_other pid) procs all
all_waited P Nobody procs all = all
all_waited P NoChild procs all = all

pub kept_waited : (script : Script) (old mid : Objects) (parent : ℕ) (which : ℤ) (told : Reaped) → AreKept script old → TableMoves old.heap old.procs mid.heap mid.procs → mid.tree ≡ old.tree → mid.names ≡ old.names → mid.fifos ≡ old.fifos → mid.locks ≡ old.locks
    → told ≡ reaped_of parent which (procs_of old) → procs_of mid ≡ after_wait told (procs_of old) → AreKept script mid
kept_waited script old mid parent which told kept moves tree names fifos locks is procs =
    kept_on script old mid kept tree names fifos locks moves
    (subst (HoldLeaves mid.heap.leaves) (sym procs) (subst (λ leaves. HoldLeaves leaves (after_wait told (procs_of old))) (sym (ap (λ (h : Heap). h.leaves) moves.kept)) (hold_waited old.heap old.procs parent which told kept.holds is kept.leaves)))
    (subst (AllByRecursion (λ proc. length proc.nodes ≡ 4)) (sym procs) (all_waited (λ proc. length proc.nodes ≡ 4) told (procs_of old) kept.groups))
    (subst (AreAtCalls script) (sym procs) (all_waited (λ proc. proc.status ≡ None → IsAtCall script proc) told (procs_of old) kept.calls))
    (λ key. ap (names_in key) procs ∙ names_waited key old.heap old.procs parent which told kept.holds is)

-- who is found then was found
was_found : (told : Reaped) (procs : List Proc) (q : ℕ) (it : Proc) → proc_of (after_wait told procs) q ≡ Some it → proc_of procs q ≡ Some it
was_found Nobody procs q it found = found
was_found NoChild procs q it found = found
was_found (Took gone status) procs q it found = elim (eqb_tells q gone) [
  | inl same ↦ absurd (missing (sym (found_gone procs gone) ∙ sym (ap (proc_of (filter (is_other gone) procs)) same.1) ∙ found))
  | inr other ↦ sym (found_other procs gone q other.1) ∙ found
]
  where
    missing : None ≡ Some it → ⊥
    missing e = cc

-- the caller runs still
pub runs_waited : (script : Script) (old mid : Objects) (pid parent : ℕ) (control : Control) (which : ℤ) (told : Reaped) → AreKept script old → Runs old pid control
    → told ≡ reaped_of parent which (procs_of old) → procs_of mid ≡ after_wait told (procs_of old) → Runs mid pid control
runs_waited script old mid pid parent control which told kept runs is procs =
    record { proc = runs.proc; found = ap (λ ps. proc_of ps pid) procs ∙ still told is; up = runs.up; at_call = runs.at_call }
  where
    differ : (gone status : ℕ) → HasEnded (procs_of old) gone → pid ≡ gone → ⊥
    differ gone status ended same =
        let one : runs.proc ≡ ended.proc = some_same (proc_of (procs_of old) gone) runs.proc ended.proc (ap (proc_of (procs_of old)) (sym same) ∙ runs.found) ended.there in
        both (sym runs.up ∙ ap (λ p. p.status) one ∙ ended.over)
      where
        both : None ≡ Some ended.status → ⊥
        both e = cc

    still : (told : Reaped) → told ≡ reaped_of parent which (procs_of old) → proc_of (after_wait told (procs_of old)) pid ≡ Some runs.proc
    still Nobody is = runs.found
    still NoChild is = runs.found
    still (Took gone status) is =
        found_other (procs_of old) gone pid (λ same. differ gone status (took_ended old.heap old.procs parent which gone status kept.holds is) same) ∙ runs.found

-- what a wait with right operands is answered
pub waits_as : (script : Script) (objects : Objects) (plain : Plain) (pid : ℕ) (which options : ℤ) (told : Reaped)
    → AreProcesses script objects plain → told ≡ reaped_of pid which (procs_of objects) → waitpid script plain pid which options ≡ answered_wait script plain pid options told
waits_as script objects plain pid which options told are is =
    wait_is script plain pid which options
    ∙ ap (answered_wait script plain pid options) (sym (found_is objects.heap plain.table (procs_of objects) pid which are.table.present) ∙ sym is)

-- the world without who was told
abbrev pub waited_world : World → Reaped → World
waited_world world told = record world { plain = with_table world.plain (waited_in world.plain.table told) }

-- a wait leaves the frames
waits_leave : (frames : Frames) (pid : ℕ) (which options : ℤ) (said : Reply) → frames_after frames pid (call.Waitpid which options) said ≡ frames
waits_leave frames pid which options (Val value) = refl
waits_leave frames pid which options _ = refl

-- The table has answered a wait: who is told is gone from it.
module _ (script : Script) (old mid : Objects) (pid : ℕ) (which options : ℤ) (told : Reaped) (moves : TableMoves old.heap old.procs mid.heap mid.procs)
    (same_tree : mid.tree ≡ old.tree) (same_names : mid.names ≡ old.names) (same_fifos : mid.fifos ≡ old.fifos) (same_locks : mid.locks ≡ old.locks) (right : argument_fault (call.Waitpid which options) ≡ None) (is : told ≡ reaped_of pid which (procs_of old)) (procs : procs_of mid ≡ after_wait told (procs_of old))
    (last : mid.procs.last ≡ old.procs.last) (table : (table : Table) → IsTable old.heap old.procs table → IsTable mid.heap mid.procs (waited_in table told))
    (has : (frames : Frames) → HasAccount old.heap old.procs frames → HasAccount mid.heap mid.procs frames) where
  -- the objects stand for the world without who was told
  waited_stands : (world : World) → StandsFor script old world → is_alive world.plain.table pid ≡ true → StandsFor script mid (waited_world world told)
  waited_stands world stands alive = record {
    valid = stands.valid;
    kept = kept_waited script old mid pid which told stands.kept moves same_tree same_names same_fifos same_locks is procs;
    processes = record {
      table = table world.plain.table stands.processes.table;
      last = last ∙ stands.processes.last;
      controls = λ q it found up. stands.processes.controls q it (was_found told (procs_of old) q it (ap (λ ps. proc_of ps q) (sym procs) ∙ found)) up;
    };
    memory = has world.account.frames stands.memory;
    files = files;
    locks = holds_on old mid (stay_moved old mid moves same_locks) world.plain.files.locks stands.locks;
    tree = tree_goes_on script old mid world (waited_world world told) stands refl works
        (record { tree = same_tree; names = same_names; caches = moved_caches old.heap mid.heap old.procs mid.procs moves }) refl refl refl;
    family = family told (waits_as script old world.plain pid which options told stands.processes is);
    works = works_on world.plain (with_table world.plain (waited_in world.plain.table told)) refl works stands.works;
  }
    where
      files : HaveFiles mid world.plain.files world.account
      files = files_moved old mid world.plain.files world.plain.files world.account world.account moves refl refl refl refl refl
          (λ number have.
          by_pids mid.heap number (procs_of mid) mid.procs.last world.plain.files
          (subst (λ ps. TableOpen (numbers_in mid.heap) ps mid.procs.last number world.plain.files) (sym procs)
          (leaves_on old.heap mid.heap number (after_wait told (procs_of old)) mid.procs.last world.plain.files (ap (λ (h : Heap). h.leaves) moves.kept)
          (subst (λ n. TableOpen (numbers_in old.heap) (after_wait told (procs_of old)) n number world.plain.files) (sym last)
          (have_waited old.heap old.procs pid which told number world.plain.files stands.kept.holds is
          (by_procs old.heap number (procs_of old) old.procs.last world.plain.files (rising_in script old stands.kept) have))))))
          stands.files

      -- who is told has ended, and so works nowhere
      reaped : (told : Reaped) → told ≡ reaped_of pid which (procs_of old) → directories_in (after_wait told (procs_of old)) ≡ directories_in (procs_of old)
      reaped Nobody e = refl
      reaped NoChild e = refl
      reaped (Took gone status) e =
          reaped_work (procs_of old) 0 gone (rising_in script old stands.kept) (took_ended old.heap old.procs pid which gone status stands.kept.holds e)

      works : directories_of (waited_in world.plain.table told) ≡ directories_of world.plain.table
      works =
          same_work old mid world.plain.table (waited_in world.plain.table told) stands.processes.table (table world.plain.table stands.processes.table)
          (ap directories_in procs ∙ reaped told is)

      family : (told : Reaped) → waitpid script world.plain pid which options ≡ answered_wait script world.plain pid options told
          → IsFamily (waited_in world.plain.table told)
      family Nobody e = stands.family
      family NoChild e = stands.family
      family (Took gone status) e =
          kept_by script old world (with_table world.plain (waited_in world.plain.table (Took gone status))) pid (call.Waitpid which options) (Waited gone status) stands alive
          (ap (λ fault. unless_wrong script world.plain pid fault (waitpid script world.plain pid which options)) right ∙ e)

  -- a wait that is over
  pub does_waited : (new : Objects) (said : Reply) (turned : Turned) → turned ≡ Done said
      → GoesOn script mid pid said new
      → ((plain : Plain) → answered_wait script plain pid options told ≡ replied script (with_table plain (waited_in plain.table told)) pid said)
      → Performs script old pid (call.Waitpid which options) (λ plain. waitpid script plain pid which options) turned new
  does_waited new said turned tells goes answers = λ world stands alive.
      let between = waited_stands world stands alive in
      subst (λ answer. WorldAfter script new world pid (call.Waitpid which options) answer turned)
      (sym (waits_as script old world.plain pid which options told stands.processes is ∙ answers world.plain))
      (led_on script mid new world (waited_world world told) pid (call.Waitpid which options) said turned between tells (goes (waited_world world told) between)
      refl refl (ap (with_frames world.account) (sym (waits_leave world.account.frames pid which options said))) refl refl)

  -- one that sleeps
  pub does_sleep : told ≡ Nobody → is_nohang options ≡ false
      → Performs script old pid (call.Waitpid which options) (λ plain. waitpid script plain pid which options) Sleep mid
  does_sleep nobody hangs = λ world stands alive.
      let between : StandsFor script mid world = subst (λ t. StandsFor script mid (waited_world world t)) nobody (waited_stands world stands alive) in
      subst (λ answer. WorldAfter script mid world pid (call.Waitpid which options) answer Sleep)
      (sym (waits_as script old world.plain pid which options told stands.processes is ∙ ap (answered_wait script world.plain pid options) nobody
      ∙ ap (λ b. cond b (replied script world.plain pid (Val (pos 0))) Blocked) hangs))
      (led_blocked script mid world pid (call.Waitpid which options) between)
