-- What a process that is there waits for with its next call.
use Rattle.std.proofs.Common.{◌≡◌, ℕ, ℤ, Bool, true, false, cond, Option, None, Some, is_none, is_some, refl, ap, ◌∙◌}
use Rattle.kabi_types.specs.Arguments.{argument_fault}
use Rattle.kabi_types.specs.declared.calls.Call.{Call}
use Rattle.kabi_types.specs.declared.calls.Call.TheVariants as call
use Rattle.kabi_types.specs.declared.errnos.Errno.{Errno}
use Rattle.kabi_types.specs.declared.scripts.Script.{Script}
use Rattle.kheap_slabs.specs.declared.objects.Proc.{Proc}
use Rattle.posix_defs.specs.Calls.OnLocks.{wanted_by}
use Rattle.posix_defs.specs.Files.State.{Files}
use Rattle.posix_defs.specs.Process.{is_alive}
use Rattle.posix_defs.specs.World.{World}
use Rattle.proc_table.proofs.OwnLemmas.{has_it}
use Rattle.proc_table.specs.Procs.{proc_of}
use Rattle.prog_ctl.specs.Waits.{wait_of}
use Rattle.prog_ctl.specs.declared.waits.Awaited.{Awaited}
use Rattle.prog_ctl.specs.declared.waits.Awaited.TheVariants.{Lock, OtherSide}
use Rattle.store_objects.specs.declared.objects.Objects.{Objects}
use Rattle.store_objects.specs.Objects.{AreKept, IsAtCall, procs_of}
use Rattle.store_objects.specs.Standing.{StandsFor}
use Rattle.store_objects.proofs.NextCalls.{up}
use Rattle.store_objects.proofs.RunningProcs.{alive_there}

-- ---- by the call

is_lock : (which : Call) (fd kind start length : ℤ) → Some (Lock fd kind start length) ≡ wait_of which → call.Setlkw fd kind start length ≡ which
is_lock (call.Setlkw a b c d) fd kind start length e = cc
is_lock (call.OpenFile path flags) fd kind start length e = go (argument_fault (call.OpenFile path flags)) e
  where
    go : (fault : Option Errno) → Some (Lock fd kind start length) ≡ cond (is_none fault) (Some OtherSide) None → call.Setlkw fd kind start length ≡ call.OpenFile path flags
    go None same = cc
    go (Some errno) none = cc
is_lock _ fd kind start length e = cc

module _ (files : Files) (pid : ℕ) where
  -- whose call waits for nothing wants nothing
  pub none_wanted : (which : Call) → None ≡ wait_of which → None ≡ wanted_by files pid which
  none_wanted (call.Setlkw fd kind start length) e = cc
  none_wanted _ e = refl

  -- and so it is of whose call waits for something else
  pub other_wanted : (which : Call) (wait : Awaited) → Some wait ≡ wait_of which → ((fd kind start length : ℤ) → wait ≡ Lock fd kind start length → ⊥) → None ≡ wanted_by files pid which
  other_wanted (call.Setlkw fd kind start length) wait e never = absurd (never fd kind start length (let same : wait ≡ Lock fd kind start length = cc in same))
  other_wanted _ wait e never = refl

  pub lock_wanted : (which : Call) (x y z w fd kind start length : ℤ) → x ≡ fd → y ≡ kind → z ≡ start → w ≡ length → Some (Lock fd kind start length) ≡ wait_of which
      → wanted_by files pid (call.Setlkw x y z w) ≡ wanted_by files pid which
  lock_wanted which x y z w fd kind start length e f g h is =
      ap (λ v. wanted_by files pid (call.Setlkw v y z w)) e ∙ ap (λ v. wanted_by files pid (call.Setlkw fd v z w)) f
      ∙ ap (λ v. wanted_by files pid (call.Setlkw fd kind v w)) g ∙ ap (λ v. wanted_by files pid (call.Setlkw fd kind start v)) h
      ∙ ap (wanted_by files pid) (is_lock which fd kind start length is)

-- ---- by its Proc

pub no_status : (o : Option ℕ) → is_some o ≡ false → o ≡ None
no_status None e = refl
no_status (Some status) e = cc

never : {X : Type 0} (o : Option ℕ) → o ≡ None → is_some o ≡ true → X
never o none some = cc

both : {X : Type 0} {b : Bool} → b ≡ true → b ≡ false → X
both e f = cc

module _ (script : Script) (objects : Objects) (pid : ℕ) (proc : Proc) (found : proc_of (procs_of objects) pid ≡ Some proc) where
  -- who runs stands at its call
  pub at_call : AreKept script objects → proc.status ≡ None → IsAtCall script proc
  at_call kept runs = has_it (λ p. p.status ≡ None → IsAtCall script p) (procs_of objects) pid proc kept.calls found runs

  -- who lives has no status, and who has none lives
  pub ended_here : {X : Type 0} (world : World) → StandsFor script objects world → is_alive world.plain.table pid ≡ true → is_some proc.status ≡ true → X
  ended_here world stands alive over = never proc.status (up script objects world pid proc stands alive found) over

  pub lives_here : {X : Type 0} (world : World) → StandsFor script objects world → is_alive world.plain.table pid ≡ false → is_some proc.status ≡ false → X
  lives_here world stands dead runs =
      both (alive_there script objects world.plain pid proc.control (record { proc = proc; found = found; up = no_status proc.status runs; at_call = refl }) stands.processes) dead
