-- What a request is answered, by what came of it.
use Rattle.std.proofs.Common.{◌≡◌, ℕ, ℤ, Bool, cond, Option, None, Some, Ok, refl, ap, sym}
use Rattle.kabi_types.specs.declared.errnos.Errno.TheVariants.{EAGAIN, EDEADLK}
use Rattle.kabi_types.specs.declared.scripts.Script.{Script}
use Rattle.posix_defs.specs.Answer.{Answer, Blocked, failed, replied}
use Rattle.posix_defs.specs.Calls.OnLocks.{circles, claimed, file_of, getlk, granted, granted_or, is_clear, request_of, setlk, setlkw, told_of as locks_told}
use Rattle.posix_defs.specs.Calls.Opened.{Opened, answer_on, opened_at}
use Rattle.posix_defs.specs.Locks.{Request}
use Rattle.posix_defs.specs.Plain.{Plain}
use Rattle.lock_calls.specs.Claiming.{claimed_by, file_by, file_or_fault}
use Rattle.lock_calls.specs.Setting.{first_told}

module _ (script : Script) (plain : Plain) (pid : ℕ) (asked : Request) (stopped : Answer) where
  by_open : (o : Option Opened)
      → answer_on script plain pid (λ opened. granted_or script plain pid asked stopped (claimed plain.files opened asked.kind)) o ≡ granted_or script plain pid asked stopped (claimed_by plain.files asked.kind o)
  by_open None = refl
  by_open (Some opened) = refl

  -- it was set, or another's lock was in the way
  pub by_clear : (number : ℕ) (set : Bool) → set ≡ is_clear plain.files.locks pid number asked
      → granted_or script plain pid asked stopped (Ok number) ≡ cond set (granted script plain pid number asked) stopped
  by_clear number set is = ap (λ b. cond b (granted script plain pid number asked) stopped) (sym is)

module _ (script : Script) (plain : Plain) (pid : ℕ) (fd kind start length : ℤ) where
  abbrev asked : Request
  asked = request_of kind start length

  pub setlk_is : setlk script plain pid fd kind start length ≡ granted_or script plain pid asked (failed script plain pid EAGAIN) (claimed_by plain.files asked.kind (opened_at plain.files pid fd))
  unfolding setlk
  setlk_is = by_open script plain pid asked (failed script plain pid EAGAIN) (opened_at plain.files pid fd)

  pub setlkw_is : setlkw script plain pid fd kind start length
      ≡ granted_or script plain pid asked (cond (circles script plain pid) (failed script plain pid EDEADLK) Blocked) (claimed_by plain.files asked.kind (opened_at plain.files pid fd))
  unfolding setlkw
  setlkw_is = by_open script plain pid asked (cond (circles script plain pid) (failed script plain pid EDEADLK) Blocked) (opened_at plain.files pid fd)

-- ---- getlk

module _ (script : Script) (plain : Plain) (pid : ℕ) (asked : Request) where
  by_file : (file : Option ℕ) → locks_told script plain pid asked file ≡ replied script plain pid (first_told plain.files.locks pid asked (file_or_fault file))
  by_file None = refl
  by_file (Some number) = refl

  by_opened : (o : Option Opened) → answer_on script plain pid (λ opened. locks_told script plain pid asked (file_of plain.files.tree opened.is.target)) o
      ≡ replied script plain pid (first_told plain.files.locks pid asked (file_by plain.files o))
  by_opened None = refl
  by_opened (Some opened) = by_file (file_of plain.files.tree opened.is.target)

pub getlk_is : (script : Script) (plain : Plain) (pid : ℕ) (fd kind start length : ℤ)
    → getlk script plain pid fd kind start length ≡ replied script plain pid (first_told plain.files.locks pid (request_of kind start length) (file_by plain.files (opened_at plain.files pid fd)))
unfolding getlk
getlk_is script plain pid fd kind start length = by_opened script plain pid (request_of kind start length) (opened_at plain.files pid fd)
