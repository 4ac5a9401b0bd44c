-- A call with a wrong operand never blocks.
use Rattle.std.proofs.Common.{◌≡◌, ◌&&◌, ℕ, ◌==◌, ℤ, Bool, true, false, cond, List, Option, None, Some, refl, sym}
use Rattle.std.specs.Prelude.{◌||◌, is_none}
use Rattle.kabi_types.specs.Arguments.{invalid_unless, is_minus_one, is_number}
use Rattle.kabi_types.specs.declared.calls.Call.TheVariants as call
use Rattle.kabi_types.specs.declared.errnos.Errno.{Errno}
use Rattle.kabi_types.specs.declared.short_lists.PollEntry.{PollEntry}
use Rattle.kabi_types.specs.declared.scripts.Script.{Script}
use Rattle.posix_defs.specs.Answer.{Answer, Blocked, replied}
use Rattle.kabi_types.specs.declared.replies.Reply.TheVariants.{Polled}
use Rattle.posix_defs.specs.Calls.Polling.{hits_of, poll, revents_of}
use Rattle.posix_defs.specs.Machine.{blocks, machine, unless_wrong}
use Rattle.posix_defs.specs.Plain.{Plain}

module _ (script : Script) (plain : Plain) (pid : ℕ) where
  -- with right operands it blocks as its answer says
  pub blocks_right : (fault : Option Errno) (answer : Answer) → is_none fault ≡ true → blocks (unless_wrong script plain pid fault answer) ≡ blocks answer
  blocks_right None answer is = refl
  blocks_right (Some errno) answer is = cc

  pub blocks_wrong : (fault : Option Errno) (answer : Answer) → is_none fault ≡ false → blocks (unless_wrong script plain pid fault answer) ≡ false
  blocks_wrong None answer is = cc
  blocks_wrong (Some errno) answer is = refl

-- what is right has no fault
pub no_fault : (fault : Option Errno) → is_none fault ≡ true → fault ≡ None
no_fault None e = refl
no_fault (Some errno) e = cc

-- ---- poll

-- with a wrong timeout it wouldn't wait either, were it right
polled_alike : (script : Script) (plain : Plain) (pid : ℕ) (at_once forever none : Bool) (told : Answer) → blocks told ≡ false
    → blocks (unless_wrong script plain pid (invalid_unless (at_once || forever)) (cond (none && forever) Blocked told)) ≡ blocks (cond (none && forever) Blocked told)
polled_alike script plain pid true forever none told is = refl
polled_alike script plain pid false true none told is = refl
polled_alike script plain pid false false true told is = sym is
polled_alike script plain pid false false false told is = sym is

pub poll_alike : (script : Script) (plain : Plain) (pid : ℕ) (timeout : ℤ) (entries : List PollEntry)
    → blocks (machine script plain pid (call.Poll timeout entries)) ≡ blocks (poll script plain pid timeout entries)
unfolding poll
poll_alike script plain pid timeout entries =
    let revents = revents_of plain.files pid entries in
    polled_alike script plain pid (is_number 0 timeout) (is_minus_one timeout) (hits_of revents == 0) (replied script plain pid (Polled (record { hits = hits_of revents; revents = revents }))) refl
