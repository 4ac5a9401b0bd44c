-- The plain machine doesn't look at the heap.
use Rattle.std.proofs.Common.{◌≡◌, ℕ, ◌&&◌, ◌||◌, ℤ, Bool, cond, List, [], ◌∷◌, refl, ap, ap₂, ◌∙◌}
use Rattle.std.specs.List.{range_with_len}
use Rattle.kabi_types.specs.Arguments.{argument_fault}
use Rattle.kabi_types.specs.declared.calls.Call.{Call}
use Rattle.kabi_types.specs.declared.calls.Call.TheVariants as call
use Rattle.kabi_types.specs.declared.errnos.Errno.TheVariants.{EDEADLK}
use Rattle.kabi_types.specs.declared.scripts.Script.{Script}
use Rattle.posix_defs.specs.Answer.{Answer, Blocked, failed}
use Rattle.posix_defs.specs.Calls.Opened.{on_open}
use Rattle.posix_defs.specs.Calls.Starting.{exec}
use Rattle.posix_defs.specs.Calls.OnFiles.{open_file, lseek, ftruncate, fstat}
use Rattle.posix_defs.specs.Calls.OnDescriptors.{close, dup, dup2, fcntl}
use Rattle.posix_defs.specs.Calls.Reading.{read, pread, readdir}
use Rattle.posix_defs.specs.Calls.Writing.{write, write_ignoring, pwrite}
use Rattle.posix_defs.specs.Calls.OnNames.{stat, chdir, mkdir, mkfifo, rmdir, unlink, link, rename}
use Rattle.posix_defs.specs.Calls.OnPipes.{pipe}
use Rattle.posix_defs.specs.Calls.OnSockets.{socket, socketpair, bind, listen, connect, accept, shutdown}
use Rattle.posix_defs.specs.Calls.OnLocks.{circles, claimed, getlk, granted_or, leads, request_of, setlk, setlkw, waits_for}
use Rattle.posix_defs.specs.Calls.Polling.{poll}
use Rattle.posix_defs.specs.Machine.{blocks, machine, unless_wrong, would_block}
use Rattle.posix_defs.specs.Plain.{Plain, call_of, last_pid}
use Rattle.sizing_laws.specs.Demand.{with_heap}

pub same_call : (script : Script) (heap : ℕ) (plain : Plain) (pid : ℕ) → call_of (with_heap script heap) plain pid ≡ call_of script plain pid
same_call script heap plain pid = refl

-- who waits for whom, and where that is a circle
same_waits : (script : Script) (heap : ℕ) (plain : Plain) (pid other : ℕ) → waits_for (with_heap script heap) plain pid other ≡ waits_for script plain pid other
unfolding waits_for
same_waits script heap plain pid other = refl

same_leads : (one two : ℕ → ℕ → Bool) → ((pid other : ℕ) → one pid other ≡ two pid other) → (between : List ℕ) (pid other : ℕ) → leads one between pid other ≡ leads two between pid other
same_leads one two same [] pid other = same pid other
same_leads one two same (first ∷ rest) pid other = ap₂ (λ direct through. direct || through) (same_leads one two same rest pid other)
    (ap₂ (λ to from. to && from) (same_leads one two same rest pid first) (same_leads one two same rest first other))

same_circles : (script : Script) (heap : ℕ) (plain : Plain) (pid : ℕ) → circles (with_heap script heap) plain pid ≡ circles script plain pid
unfolding circles
same_circles script heap plain pid =
    same_leads (waits_for (with_heap script heap) plain) (waits_for script plain) (same_waits script heap plain) (range_with_len 1 (last_pid plain)) pid pid

-- a call that may wait for a lock, by whether it would wait for itself
abbrev waits_by : Script → Plain → ℕ → ℤ → ℤ → ℤ → ℤ → Bool → Answer
waits_by script plain pid fd kind start size circle = unless_wrong script plain pid (argument_fault (call.Setlkw fd kind start size))
    (on_open script plain pid fd (λ opened.
    granted_or script plain pid (request_of kind start size) (cond circle (failed script plain pid EDEADLK) Blocked) (claimed plain.files opened (request_of kind start size).kind)))

same_wait : (script : Script) (heap : ℕ) (plain : Plain) (pid : ℕ) (fd kind start size : ℤ)
    → machine (with_heap script heap) plain pid (call.Setlkw fd kind start size) ≡ machine script plain pid (call.Setlkw fd kind start size)
unfolding setlkw
same_wait script heap plain pid fd kind start size = ap (waits_by (with_heap script heap) plain pid fd kind start size) (same_circles script heap plain pid) ∙ by_script
  where
    by_script : waits_by (with_heap script heap) plain pid fd kind start size (circles script plain pid) ≡ waits_by script plain pid fd kind start size (circles script plain pid)
    by_script = refl

pub same_machine : (script : Script) (heap : ℕ) (plain : Plain) (pid : ℕ) (which : Call)
    → machine (with_heap script heap) plain pid which ≡ machine script plain pid which
unfolding exec open_file lseek ftruncate fstat close dup dup2 fcntl read pread readdir write write_ignoring pwrite stat chdir mkdir mkfifo rmdir unlink link rename pipe socket socketpair bind listen connect accept shutdown setlk getlk poll
same_machine script heap plain pid (call.Setlkw fd kind start size) = same_wait script heap plain pid fd kind start size
same_machine script heap plain pid _ = refl

pub same_block : (script : Script) (heap : ℕ) (plain : Plain) (pid : ℕ) → would_block (with_heap script heap) plain pid ≡ would_block script plain pid
same_block script heap plain pid = ap blocks (same_machine script heap plain pid (call_of script plain pid))
