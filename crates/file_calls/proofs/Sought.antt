-- No offset that a seek tells is above the greatest one.
use Rattle.std.proofs.Common.{◌≡◌, ℕ, ◌≤◌, nat_lt, ℤ, pos, negsuc, ◌+ℤ◌, Bool, true, false, cond, Option, None, Some, Result, Ok, Err, refl, subst}
use Rattle.std.specs.Prelude.{IfOk}
use Rattle.std.proofs.lemmas.Bool.{ltb-false}
use Rattle.kabi_types.specs.Arguments.{count_of}
use Rattle.kabi_types.specs.declared.errnos.Errno.{Errno}
use Rattle.kabi_types.specs.declared.errnos.Errno.TheVariants.{EINVAL, EOVERFLOW}
use Rattle.kabi_types.specs.declared.replies.Reply.{Reply}
use Rattle.kabi_types.specs.declared.replies.Reply.TheVariants.{Val}
use Rattle.kabi_types.specs.declared.scripts.Script.{Script}
use Rattle.posix_defs.specs.Answer.{Answer, Done, failed, replied}
use Rattle.posix_defs.specs.Calls.OnFiles.{greatest_offset, is_between_entries, lseek, origin, seek_target, seek_to}
use Rattle.posix_defs.specs.Calls.Opened.{Opened, answer_on, moved_to, opened_at}
use Rattle.posix_defs.specs.Files.Descriptions.{Target, OnNode, OnPipe, OnSocket}
use Rattle.posix_defs.specs.Files.State.{Files}
use Rattle.posix_defs.specs.Plain.{Plain, with_files}
use Rattle.proc_numbers.specs.Answering.{value_of}

-- what a reply tells as a number is no more than the greatest offset
abbrev TellsWithin : Reply → Type 0
TellsWithin (Val value) = count_of value ≤ greatest_offset
TellsWithin _ = Unit {0}

-- so it is with the reply of an answer
abbrev Within : Answer → Type 0
Within (Done reply next) = TellsWithin reply
Within _ = Unit {0}

module _ (script : Script) (plain : Plain) (pid : ℕ) where
  place_within : (opened : Opened) (number : ℕ) (place : ℤ) → Within (seek_to script plain pid opened number place)
  place_within opened number (negsuc back) = tt
  place_within opened number (pos offset) = by_test (nat_lt greatest_offset offset) refl (is_between_entries plain.files.tree number offset)
    where
      by_test : (above : Bool) → nat_lt greatest_offset offset ≡ above → (between : Bool)
          → Within (cond above (failed script plain pid EOVERFLOW) (cond between (failed script plain pid EINVAL) (replied script (moved_to plain opened offset) pid (Val (pos offset)))))
      by_test true is between = tt
      by_test false is true = tt
      by_test false is false = ltb-false greatest_offset offset is

  target_within : (opened : Opened) (offset : ℤ) (whence : ℕ) (on : Target) → Within (seek_target script plain pid opened offset whence on)
  target_within opened offset whence (OnNode number) = place_within opened number (pos (origin plain.files.tree opened number whence) +ℤ offset)
  target_within opened offset whence (OnPipe place) = tt
  target_within opened offset whence (OnSocket place) = tt

  seek_within : (fd offset whence : ℤ) → Within (lseek script plain pid fd offset whence)
  unfolding lseek
  seek_within fd offset whence = by_opened (opened_at plain.files pid fd)
    where
      by_opened : (o : Option Opened) → Within (answer_on script plain pid (λ opened. seek_target script plain pid opened offset (count_of whence) opened.is.target) o)
      by_opened None = tt
      by_opened (Some opened) = target_within opened offset (count_of whence) opened.is.target

  -- an offset that the machine tells
  pub told_within : (fd offset whence : ℤ) (sought : Result ℕ Errno) (files : Files) → lseek script plain pid fd offset whence ≡ replied script (with_files plain files) pid (value_of sought)
      → IfOk sought (λ place. place ≤ greatest_offset)
  told_within fd offset whence (Ok place) files is = subst Within is (seek_within fd offset whence)
  told_within fd offset whence (Err errno) files is = tt
