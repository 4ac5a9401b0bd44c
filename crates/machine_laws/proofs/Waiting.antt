-- An open that waits wakes where the other side was opened since.
use Rattle.std.proofs.Common.{◌≡◌, ℕ, ◌<◌, nat_lt, not, ℤ, pos, Bool, true, false, cond, List, None, Some, refl, ap, ◌∙◌}
use Rattle.std.proofs.lemmas.Bool.{lt-ltb}
use Rattle.kabi_types.specs.Arguments.{argument_fault}
use Rattle.kabi_types.specs.declared.calls.Call.TheVariants.{OpenFile}
use Rattle.kabi_types.specs.declared.replies.Reply.TheVariants.{Val}
use Rattle.kabi_types.specs.declared.scripts.Script.{Script}
use Rattle.posix_defs.specs.Answer.{Blocked, replied}
use Rattle.posix_defs.specs.Machine.{answer_to, blocks, machine, unless_wrong}
use Rattle.posix_defs.specs.Pipe.{opens_of}
use Rattle.posix_defs.specs.Plain.{Plain, with_files}
use Rattle.posix_defs.specs.Files.Descriptions.{OnPipe, may_write}
use Rattle.posix_defs.specs.Files.State.{HalfOpen, opening_at, pipe_at, with_opening}
use Rattle.posix_defs.specs.Calls.OnFiles.{is_met, open_by, open_file, others_opened, others_opens}
use Rattle.posix_defs.specs.Calls.Opened.{Opened, opened_at}

-- where no operand is wrong, an open that waits blocks until it is met
pub again_blocks : (script : Script) (plain : Plain) (pid : ℕ) (path : List ℕ) (flags : ℤ) (opening : HalfOpen) → opening_at plain.files pid ≡ Some opening
    → blocks (open_file script plain pid path flags) ≡ not (is_met plain.files pid opening)
unfolding open_file
again_blocks script plain pid path flags opening waits = ap (λ o. blocks (open_by script plain pid path flags o)) waits ∙ go (is_met plain.files pid opening)
  where
    go : (b : Bool) → blocks (cond b (replied script (with_files plain (with_opening plain.files pid None)) pid (Val (pos opening.fd))) Blocked) ≡ not b
    go true = refl
    go false = refl

pub wakes_so : (script : Script) (plain : Plain) (pid : ℕ) (path : List ℕ) (flags : ℤ) (opening : HalfOpen) (opened : Opened) (place : ℕ) → argument_fault (OpenFile path flags) ≡ None
    → opening_at plain.files pid ≡ Some opening → opened_at plain.files pid (pos opening.fd) ≡ Some opened → opened.is.target ≡ OnPipe place
    → blocks (machine script plain pid (OpenFile path flags)) ≡ not (nat_lt opening.seen (opens_of (pipe_at plain.files place) (not (may_write opened.is.access))))
wakes_so script plain pid path flags opening opened place right waits named on =
    ap (λ fault. blocks (unless_wrong script plain pid fault (answer_to script plain pid (OpenFile path flags)))) right
    ∙ again_blocks script plain pid path flags opening waits
    ∙ ap (λ o. not (nat_lt opening.seen (others_opened plain.files o))) named
    ∙ ap (λ target. not (nat_lt opening.seen (others_opens plain.files opened.is target))) on

pub again_tells : (script : Script) (plain : Plain) (pid : ℕ) (path : List ℕ) (flags : ℤ) (opening : HalfOpen) → opening_at plain.files pid ≡ Some opening
    → is_met plain.files pid opening ≡ true → open_file script plain pid path flags ≡ replied script (with_files plain (with_opening plain.files pid None)) pid (Val (pos opening.fd))
unfolding open_file
again_tells script plain pid path flags opening waits met = ap (open_by script plain pid path flags) waits
    ∙ ap (λ b. cond b (replied script (with_files plain (with_opening plain.files pid None)) pid (Val (pos opening.fd))) Blocked) met

-- where the other side was opened since, the descriptor is told
pub tells_so : (script : Script) (plain : Plain) (pid : ℕ) (path : List ℕ) (flags : ℤ) (opening : HalfOpen) (opened : Opened) (place : ℕ) → argument_fault (OpenFile path flags) ≡ None
    → opening_at plain.files pid ≡ Some opening → opened_at plain.files pid (pos opening.fd) ≡ Some opened → opened.is.target ≡ OnPipe place
    → opening.seen < opens_of (pipe_at plain.files place) (not (may_write opened.is.access))
    → machine script plain pid (OpenFile path flags) ≡ replied script (with_files plain (with_opening plain.files pid None)) pid (Val (pos opening.fd))
tells_so script plain pid path flags opening opened place right waits named on more =
    ap (λ fault. unless_wrong script plain pid fault (answer_to script plain pid (OpenFile path flags))) right
    ∙ again_tells script plain pid path flags opening waits
    (ap (λ o. nat_lt opening.seen (others_opened plain.files o)) named ∙ ap (λ target. nat_lt opening.seen (others_opens plain.files opened.is target)) on
    ∙ lt-ltb opening.seen (opens_of (pipe_at plain.files place) (not (may_write opened.is.access))) more)
