-- A call on locks has tried: it is told what came of it.
use Rattle.std.proofs.Common.{◌≡◌, ℕ, ℤ, Bool, true, false, cond, Result, Ok, Err, refl, ap, sym, ◌∙◌, subst, arith}
use Rattle.kabi_types.specs.declared.calls.Call.{Call}
use Rattle.kabi_types.specs.declared.errnos.Errno.{Errno}
use Rattle.kabi_types.specs.declared.errnos.Errno.TheVariants.{EAGAIN, EDEADLK}
use Rattle.kabi_types.specs.declared.replies.Reply.{Reply}
use Rattle.kabi_types.specs.declared.replies.Reply.TheVariants.{Fail}
use Rattle.kabi_types.specs.declared.scripts.Control.{Control}
use Rattle.kabi_types.specs.declared.scripts.Script.{Script}
use Rattle.kheap_slabs.specs.Heap.{IsWellFormed}
use Rattle.lock_table.specs.Chain.{IsLockTable}
use Rattle.memfs_ops.specs.FileTree.{IsUsed, TreeView}
use Rattle.open_laws.specs.Placed.{Numbers}
use Rattle.posix_defs.specs.Answer.{Answer, Blocked, failed, replied}
use Rattle.posix_defs.specs.Calls.OnLocks.{circles, granted_or, wanted_of}
use Rattle.posix_defs.specs.Calls.Opened.{opened_at}
use Rattle.posix_defs.specs.Files.State.{Files}
use Rattle.posix_defs.specs.Locks.{Request}
use Rattle.posix_defs.specs.Memory.{Frames}
use Rattle.posix_defs.specs.MemoryCalls.{frames_after}
use Rattle.posix_defs.specs.Plain.{Plain}
use Rattle.posix_defs.specs.Process.{is_alive}
use Rattle.posix_defs.specs.Reaching.{is_on_node}
use Rattle.posix_defs.specs.World.{World}
use Rattle.posix_defs.specs.declared.turner.Turned.{Turned}
use Rattle.posix_defs.specs.declared.turner.Turned.TheVariants as turned
use Rattle.proc_files.specs.Answering.{StaysOffNodes}
use Rattle.proc_files.specs.Holding.{HoldFiles, HoldSome}
use Rattle.store_objects.proofs.Replies.{GoesOn}
use Rattle.store_objects.specs.Objects.{AreKept, Runs}
use Rattle.store_objects.specs.Standing.{IsSound, StandsFor}
use Rattle.store_objects.specs.Walking.{Serves, WorldReached}
use Rattle.store_objects.specs.declared.objects.Objects.{Objects}
use Rattle.store_objects.proofs.Reached.{NamesNumbers, some_on}
use Rattle.lock_calls.specs.Claiming.{claimed_by}
use Rattle.lock_calls.specs.Setting.{ChangesLocks, HasTried, told_of, wait_told}
use Rattle.lock_calls.specs.Waiting.{is_held_up}
use Rattle.lock_calls.proofs.Blocking.{free_clear}
use Rattle.lock_calls.proofs.Locking.{kept_set, runs_set, serves_set, slept, some_set, table_set, tried_so, within_set}

-- A process that runs has tried to set places.
module _ (script : Script) (old mid : Objects) (pid : ℕ) (control : Control) (runs : Runs old pid control) (stands : (world : World) × StandsFor script old world × IsSound world.plain)
    (well : IsWellFormed old.heap) (fd : ℤ) (asked : Request) (done : Result Bool Errno)
    (tries : (s : Script) (world : World) → StandsFor s old world → IsSound world.plain → HasTried old mid world.plain pid fd asked done)
    (holds : (numbers : Numbers) (others : ℕ → ℕ) (files : Files) → HoldFiles numbers others old.heap old.procs old.tree files → HoldFiles numbers others mid.heap old.procs mid.tree files)
    (off_nodes : StaysOffNodes old.heap old.procs pid fd old.tree mid.tree) (used : IsUsed old.tree mid.tree) (changes : ChangesLocks old mid) where
  kept : AreKept script old
  kept = stands.1.kept

  locked : IsLockTable mid.heap.locks mid.locks
  locked = table_set script old mid pid fd asked done stands tries

  some : HoldSome mid.heap old.procs mid.tree
  some = some_set script old mid well stands holds

  pub kept_tried : AreKept script mid
  kept_tried = kept_set script old mid pid control kept runs changes locked some

  pub runs_tried : Runs mid pid control
  runs_tried = runs_set script old mid pid control kept runs changes locked some

  pub serves_tried : (which : Call) (said : Reply) (told : Turned) (new : Objects) (answer stopped : Plain → Answer) → NamesNumbers which
      → ((plain : Plain) → some_on plain pid which ≡ false → is_on_node plain.files (opened_at plain.files pid fd) ≡ false)
      → told ≡ turned.Done said → said ≡ told_of done → GoesOn script mid pid said new → ((frames : Frames) → frames_after frames pid which said ≡ frames)
      → ((plain : Plain) → answer plain ≡ granted_or script plain pid asked (stopped plain) (claimed_by plain.files asked.kind (opened_at plain.files pid fd)))
      → ((world : World) → StandsFor script old world → IsSound world.plain → done ≡ Ok false → stopped world.plain ≡ failed script world.plain pid EAGAIN)
      → Serves script old pid which answer told new
  serves_tried which said told new answer stopped names off tells says goes frames answers stops =
      serves_set script old mid pid control kept runs changes locked some which said told new answer well (within_set old mid which changes used) names tells goes frames holds
      (λ world at none. off_nodes at.files.numbers world.plain.files at.files.opened (off world.plain none))
      (λ world at sound.
      let it = tried_so script old mid world.plain pid fd asked (answer world.plain) (stopped world.plain) done (answers world.plain) (stops world at sound) (tries script world at sound) in
      (it.0, it.1 ∙ ap (replied script _ pid) (sym says), it.2))

both : {X : Type 0} {b : Bool} → b ≡ true → b ≡ false → X
both e f = cc

-- where nothing is in the way it isn't found to be
pub never_stopped : {X : Type 0} (script : Script) (old mid : Objects) (plain : Plain) (pid : ℕ) (fd : ℤ) (asked : Request) (done : Result Bool Errno) → HasTried old mid plain pid fd asked done → done ≡ Ok false
    → is_held_up plain.files.locks pid (wanted_of asked (claimed_by plain.files asked.kind (opened_at plain.files pid fd))) ≡ false → X
never_stopped script old mid plain pid fd asked (Err errno) tried e free = cc
never_stopped script old mid plain pid fd asked (Ok true) tried e free = cc
never_stopped script old mid plain pid fd asked (Ok false) tried e free =
    both (free_clear script plain pid asked Blocked (claimed_by plain.files asked.kind (opened_at plain.files pid fd)) tried.0 tried.1 free) (sym tried.2)

-- ---- who is held up

-- it is told so, of a store that is as before but for that
module _ (script : Script) (old new : Objects) (pid : ℕ) (control : Control) (runs : Runs old pid control) (stands : (world : World) × StandsFor script old world × IsSound world.plain)
    (well : IsWellFormed old.heap) (which : Call) (told : Turned) (names : NamesNumbers which) where
  unchanged : ChangesLocks old old
  unchanged = record { heap = refl; beside = refl }

  fails : told ≡ turned.Done (Fail EDEADLK) → GoesOn script old pid (Fail EDEADLK) new → Serves script old pid which (λ plain. failed script plain pid EDEADLK) told new
  fails tells goes =
      serves_set script old old pid control stands.1.kept runs unchanged stands.1.kept.locked (some_set script old old well stands (λ numbers others files hold. hold)) which (Fail EDEADLK) told new
      (λ plain. failed script plain pid EDEADLK) well
      (record { names = omega arith; blocks = omega arith; vnodes = omega arith; reads = omega arith }) names tells goes (λ frames. refl) (λ numbers others files hold. hold) (λ world at none. refl)
      (λ world at sound. (world.plain.files.locks, refl, at.locks))

  pub serves_stopped : (answer : Plain → Answer) → ((world : World) → StandsFor script old world → IsSound world.plain → told ≡ wait_told (circles script world.plain pid))
      → (told ≡ turned.Sleep → new ≡ old) → (told ≡ turned.Done (Fail EDEADLK) → GoesOn script old pid (Fail EDEADLK) new)
      → ((world : World) → StandsFor script old world → IsSound world.plain → answer world.plain ≡ cond (circles script world.plain pid) (failed script world.plain pid EDEADLK) Blocked)
      → Serves script old pid which answer told new
  serves_stopped answer tells asleep goes answers = λ world at sound alive. go world at sound alive (circles script world.plain pid) (tells world at sound) (answers world at sound)
    where
      go : (world : World) (at : StandsFor script old world) (sound : IsSound world.plain) (alive : is_alive world.plain.table pid ≡ true) (b : Bool) → told ≡ wait_told b
          → answer world.plain ≡ cond b (failed script world.plain pid EDEADLK) Blocked → WorldReached script new world pid which (answer world.plain) told
      go world at sound alive true is answer_is =
          subst (λ a. WorldReached script new world pid which a told) (sym answer_is) (fails is (goes is) world at sound alive)
      go world at sound alive false is answer_is =
          subst (λ a. WorldReached script new world pid which a told) (sym answer_is)
          (subst (λ (o : Objects). WorldReached script o world pid which Blocked told) (sym (asleep is))
          (subst (WorldReached script old world pid which Blocked) (sym is) (slept script old pid which world at (names.leaves world.plain pid))))

-- ---- who only looks

-- the store once some inode was used
abbrev pub looked_at : Objects → TreeView → Objects
looked_at old fs = record old { tree = fs }

module _ (script : Script) (old : Objects) (fs : TreeView) (pid : ℕ) (control : Control) (runs : Runs old pid control) (stands : (world : World) × StandsFor script old world × IsSound world.plain)
    (well : IsWellFormed old.heap) (fd : ℤ)
    (holds : (numbers : Numbers) (others : ℕ → ℕ) (files : Files) → HoldFiles numbers others old.heap old.procs old.tree files → HoldFiles numbers others old.heap old.procs fs files)
    (off_nodes : StaysOffNodes old.heap old.procs pid fd old.tree fs) (used : IsUsed old.tree fs) where
  changes : ChangesLocks old (looked_at old fs)
  changes = record { heap = refl; beside = refl }

  looks : HoldSome old.heap old.procs fs
  looks = some_set script old (looked_at old fs) well stands holds

  pub kept_looked : AreKept script (looked_at old fs)
  kept_looked = kept_set script old (looked_at old fs) pid control stands.1.kept runs changes stands.1.kept.locked looks

  pub runs_looked : Runs (looked_at old fs) pid control
  runs_looked = runs_set script old (looked_at old fs) pid control stands.1.kept runs changes stands.1.kept.locked looks

  pub serves_looked : (which : Call) (said : Reply) (told : Turned) (new : Objects) (answer : Plain → Answer) → NamesNumbers which
      → ((plain : Plain) → some_on plain pid which ≡ false → is_on_node plain.files (opened_at plain.files pid fd) ≡ false)
      → told ≡ turned.Done said → GoesOn script (looked_at old fs) pid said new → ((frames : Frames) → frames_after frames pid which said ≡ frames)
      → ((world : World) → StandsFor script old world → IsSound world.plain → answer world.plain ≡ replied script world.plain pid said)
      → Serves script old pid which answer told new
  serves_looked which said told new answer names off tells goes frames answers =
      serves_set script old (looked_at old fs) pid control stands.1.kept runs changes stands.1.kept.locked looks which said told new answer well (within_set old (looked_at old fs) which changes used) names tells
      goes frames holds (λ world at none. off_nodes at.files.numbers world.plain.files at.files.opened (off world.plain none))
      (λ world at sound. (world.plain.files.locks, answers world at sound, at.locks))
