-- An accept answers what it is told.
use Rattle.std.proofs.Common.{◌≡◌, ℕ, pos, Option, None, Some, Result, Ok, Err, subst, sym}
use Rattle.kabi_types.specs.declared.errnos.Errno.{Errno}
use Rattle.kabi_types.specs.declared.replies.Reply.{Reply}
use Rattle.kabi_types.specs.declared.replies.Reply.TheVariants.{Fail, Val}
use Rattle.kabi_types.specs.declared.scripts.Script.{Script}
use Rattle.kheap_slabs.specs.Heap.{Heap}
use Rattle.open_laws.specs.Placed.{Numbers}
use Rattle.posix_defs.specs.Answer.{Answer, Blocked}
use Rattle.posix_defs.specs.Plain.{Plain}
use Rattle.proc_numbers.specs.PipeOpening.{AnswersAnew}
use Rattle.proc_numbers.specs.SocketOpening.{Accepts, UnlessTaken}
use Rattle.proc_table.specs.Table.{TableView}
use Rattle.queue_calls.specs.Taking.{told_as}

same_reply : (one other : Reply) → Some one ≡ Some other → one ≡ other
same_reply one other e = cc

none_told : (reply : Reply) → None ≡ Some reply → ⊥
none_told reply e = cc

module _ (numbers : Numbers) (old new : Heap) (kept : TableView) (script : Script) (plain : Plain) (pid : ℕ) (answer : Answer) where
  abbrev Anew : Reply → Type 0
  Anew reply = AnswersAnew numbers old new kept script plain pid answer reply

  -- a reply
  pub accepts_reply : (taken : Result (Option ℕ) Errno) (reply : Reply) → told_as taken ≡ Some reply → Accepts numbers old new kept script plain pid answer taken → Anew reply
  accepts_reply (Ok (Some fd)) reply is accepts = subst Anew (same_reply (Val (pos fd)) reply is) accepts
  accepts_reply (Ok None) reply is accepts = absurd (none_told reply is)
  accepts_reply (Err errno) reply is accepts = subst Anew (same_reply (Fail errno) reply is) accepts

  -- or that it blocks
  pub accepts_later : (taken : Result (Option ℕ) Errno) → told_as taken ≡ None → Accepts numbers old new kept script plain pid answer taken → answer ≡ Blocked
  accepts_later (Ok (Some fd)) is accepts = absurd (none_told (Val (pos fd)) (sym is))
  accepts_later (Ok None) is accepts = accepts
  accepts_later (Err errno) is accepts = absurd (none_told (Fail errno) (sym is))

-- where it does nothing has changed
pub nothing_taken : (taken : Result (Option ℕ) Errno) (Holds : Type 0) → told_as taken ≡ None → UnlessTaken taken Holds → Holds
nothing_taken (Ok (Some fd)) Holds is holds = absurd (none_told (Val (pos fd)) (sym is))
nothing_taken (Ok None) Holds is holds = holds
nothing_taken (Err errno) Holds is holds = absurd (none_told (Fail errno) (sym is))
