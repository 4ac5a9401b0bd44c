-- Whether a `setlkw` blocks, by who is in its way and by circles.
use Rattle.std.proofs.Common.{◌≡◌, ℕ, ℤ, not, Bool, true, false, cond, Option, None, Some, is_none, Result, Ok, Err, refl, ap, sym, ◌∙◌}
use Rattle.kabi_types.specs.Arguments.{argument_fault}
use Rattle.kabi_types.specs.declared.calls.Call.{Call}
use Rattle.kabi_types.specs.declared.calls.Call.TheVariants as call
use Rattle.kabi_types.specs.declared.errnos.Errno.{Errno}
use Rattle.kabi_types.specs.declared.errnos.Errno.TheVariants.{EDEADLK}
use Rattle.kabi_types.specs.declared.scripts.Script.{Script}
use Rattle.posix_defs.specs.Answer.{Answer, Blocked, failed}
use Rattle.posix_defs.specs.Calls.OnLocks.{circles, granted, granted_or, is_clear, request_of, setlkw, wanted_of, wanted_on}
use Rattle.posix_defs.specs.Calls.Opened.{Opened, opened_at}
use Rattle.posix_defs.specs.Files.State.{Files}
use Rattle.posix_defs.specs.Locks.{Request}
use Rattle.posix_defs.specs.Machine.{blocks, machine, unless_wrong}
use Rattle.posix_defs.specs.Plain.{Plain}
use Rattle.lock_calls.specs.Claiming.{claimed_by}
use Rattle.lock_calls.specs.Waiting.{is_held_up}
use Rattle.lock_calls.proofs.Granting.{setlkw_is}

pub wanted_claim : (files : Files) (asked : Request) (o : Option Opened) → wanted_on files asked o ≡ wanted_of asked (claimed_by files asked.kind o)
wanted_claim files asked None = refl
wanted_claim files asked (Some opened) = refl

module _ (script : Script) (plain : Plain) (pid : ℕ) (asked : Request) (stopped : Answer) where
  -- who is held up is answered so
  pub held_answer : (claimed : Result ℕ Errno) → is_held_up plain.files.locks pid (wanted_of asked claimed) ≡ true → granted_or script plain pid asked stopped claimed ≡ stopped
  held_answer (Err errno) e = cc
  held_answer (Ok number) e = go (is_clear plain.files.locks pid number asked) e
    where
      go : (b : Bool) → not b ≡ true → cond b (granted script plain pid number asked) stopped ≡ stopped
      go true f = cc
      go false f = refl

  -- who isn't, isn't
  pub free_answer : (claimed : Result ℕ Errno) → is_held_up plain.files.locks pid (wanted_of asked claimed) ≡ false → blocks (granted_or script plain pid asked stopped claimed) ≡ false
  free_answer (Err errno) e = refl
  free_answer (Ok number) e = go (is_clear plain.files.locks pid number asked) e
    where
      go : (b : Bool) → not b ≡ false → blocks (cond b (granted script plain pid number asked) stopped) ≡ false
      go true f = refl
      go false f = cc

  -- so nothing is in the way of what is claimed
  pub free_clear : (claimed : Result ℕ Errno) (number : ℕ) → claimed ≡ Ok number → is_held_up plain.files.locks pid (wanted_of asked claimed) ≡ false → is_clear plain.files.locks pid number asked ≡ true
  free_clear claimed number is e = go (is_clear plain.files.locks pid number asked) (sym (ap (λ r. is_held_up plain.files.locks pid (wanted_of asked r)) is) ∙ e)
    where
      go : (b : Bool) → not b ≡ false → b ≡ true
      go true f = refl
      go false f = cc

module _ (script : Script) (plain : Plain) (pid : ℕ) (fd kind start length : ℤ) where
  abbrev asked : Request
  asked = request_of kind start length

  abbrev which : Call
  which = call.Setlkw fd kind start length

  abbrev stopped : Answer
  stopped = cond (circles script plain pid) (failed script plain pid EDEADLK) Blocked

  waits : (b : Bool) → blocks (cond b (failed script plain pid EDEADLK) Blocked) ≡ not b
  waits true = refl
  waits false = refl

  -- with a wrong operand nobody waits
  pub wrong_goes : is_none (argument_fault which) ≡ false → blocks (machine script plain pid which) ≡ false
  wrong_goes wrong = go (argument_fault which) wrong
    where
      go : (fault : Option Errno) → is_none fault ≡ false → blocks (unless_wrong script plain pid fault (setlkw script plain pid fd kind start length)) ≡ false
      go None e = cc
      go (Some errno) e = refl

  right_blocks : is_none (argument_fault which) ≡ true → blocks (machine script plain pid which) ≡ blocks (setlkw script plain pid fd kind start length)
  right_blocks right = go (argument_fault which) right
    where
      go : (fault : Option Errno) → is_none fault ≡ true → blocks (unless_wrong script plain pid fault (setlkw script plain pid fd kind start length)) ≡ blocks (setlkw script plain pid fd kind start length)
      go None e = refl
      go (Some errno) e = cc

  pub held_blocks : is_none (argument_fault which) ≡ true → is_held_up plain.files.locks pid (wanted_on plain.files asked (opened_at plain.files pid fd)) ≡ true
      → blocks (machine script plain pid which) ≡ not (circles script plain pid)
  held_blocks right held =
      right_blocks right ∙ ap blocks (setlkw_is script plain pid fd kind start length)
      ∙ ap blocks (held_answer script plain pid asked stopped (claimed_by plain.files asked.kind (opened_at plain.files pid fd))
      (sym (ap (is_held_up plain.files.locks pid) (wanted_claim plain.files asked (opened_at plain.files pid fd))) ∙ held))
      ∙ waits (circles script plain pid)

  pub free_goes : is_none (argument_fault which) ≡ true → is_held_up plain.files.locks pid (wanted_on plain.files asked (opened_at plain.files pid fd)) ≡ false
      → blocks (machine script plain pid which) ≡ false
  free_goes right held =
      right_blocks right ∙ ap blocks (setlkw_is script plain pid fd kind start length)
      ∙ free_answer script plain pid asked stopped (claimed_by plain.files asked.kind (opened_at plain.files pid fd))
      (sym (ap (is_held_up plain.files.locks pid) (wanted_claim plain.files asked (opened_at plain.files pid fd))) ∙ held)
