-- The one entry that may come next of who is said to have done what, and where it leads. The machine says how it came out, so
-- of a call's kind, its reply, what it moved and its status nothing has to be known before.
use Rattle.std.specs.Prelude.{ℕ, ◌+◌, ◌*◌, ◌==◌, ◌&&◌, not, nat_le, nat_lt, Bool, false, if◌then◌else◌, List, ◌∷◌, Option, None, Some}
use Rattle.kabi_types.specs.Call.{kind_of}
use Rattle.kabi_types.specs.declared.calls.Call.{Call}
use Rattle.kabi_types.specs.Class.{size}
use Rattle.kabi_types.specs.declared.classes.Class.TheVariants as class
use Rattle.kabi_types.specs.declared.errnos.Errno.TheVariants.{ENOMEM}
use Rattle.kabi_types.specs.declared.replies.Reply.TheVariants.{Fail}
use Rattle.kabi_types.specs.declared.entries.Cached.{Cached}
use Rattle.kabi_types.specs.declared.entries.Entry.{Entry}
use Rattle.kabi_types.specs.declared.entries.Entry.TheVariants as entry
use Rattle.kabi_types.specs.declared.scripts.Script.{Script}
use Rattle.posix_defs.specs.Account.{account_on, base}
use Rattle.posix_defs.specs.Answer.{Answer, Blocked, Done, Part, Ended}
use Rattle.posix_defs.specs.Ending.{die}
use Rattle.posix_defs.specs.History.{Fills, Past, had_turn, is_among, is_up, moves_on, one_more, others}
use Rattle.posix_defs.specs.Killing.{sigkill}
use Rattle.posix_defs.specs.Machine.{machine}
use Rattle.posix_defs.specs.Needs.{bound}
use Rattle.posix_defs.specs.Plain.{Plain, answered, call_of, last_pid}
use Rattle.posix_defs.specs.Process.{is_alive}
use Rattle.posix_defs.specs.Sizes.{reserve, room}
use Rattle.posix_defs.specs.Turn.{account_after}
use Rattle.posix_defs.specs.Victim.{victim_of}
use Rattle.posix_defs.specs.World.{pins}
use Rattle.run_pasts.specs.declared.claims.Claim.{Claim}
use Rattle.run_pasts.specs.declared.claims.Claim.TheVariants.{Did, Killed, Evicted}
use Rattle.run_pasts.specs.declared.claims.Deed.{Deed}
use Rattle.run_pasts.specs.declared.claims.Deed.TheVariants as deed

-- An entry, and where it leads.
pub record Step : Type 0 where
  pub added : Entry
  pub next : Past

-- this step, where the test holds
abbrev pub step_if : Bool → Entry → Past → Option Step
step_if test added next = if test then Some (record { added = added; next = next }) else None

-- ---- the calls of processes

-- the call that the process makes next, which is that of its control also where it has ended
abbrev pub next_call : Past → Script → ℕ → Call
next_call past script pid = call_of script past.plain pid

-- the process is alive, and its call may be admitted
abbrev pub may_run : Script → Past → ℕ → Bool
may_run script past pid = is_alive past.plain.table pid && nat_le (bound (next_call past script pid)) (room script.heap)

-- where a call leads that was answered so
abbrev pub gone_on : Script → Past → ℕ → Answer → Plain → List ℕ → Past
gone_on script past pid answer plain sleepers =
    let call = next_call past script pid in moves_on script (had_turn past call) plain (account_after past.account past.plain pid call answer) sleepers

-- Where the machine answers so, what a process's call came to, if that is what is said. Only who is up falls asleep.
abbrev pub answered_step : Script → Past → ℕ → Deed → Answer → Option Step
answered_step script past pid deed.Done (Done reply plain) = Some (record {
  added = entry.Done pid (kind_of (next_call past script pid)) reply;
  next = gone_on script past pid (Done reply plain) plain (others pid past.asleep);
})
answered_step script past pid deed.Part (Part moved plain) = Some (record {
  added = entry.Part pid (kind_of (next_call past script pid)) moved;
  next = gone_on script past pid (Part moved plain) plain (pid ∷ others pid past.asleep);
})
answered_step script past pid deed.Ended (Ended status plain) = Some (record {
  added = entry.Ended pid (kind_of (next_call past script pid)) status;
  next = gone_on script past pid (Ended status plain) plain (others pid past.asleep);
})
answered_step script past pid deed.Slept Blocked =
    step_if (is_up past pid) (entry.Slept pid (kind_of (next_call past script pid)))
    (moves_on script (had_turn past (next_call past script pid)) past.plain past.account (pid ∷ past.asleep))
answered_step script past pid _ _ = None

-- a live process's call is refused whose bound the heap can never give
abbrev pub refused_step : Script → Past → ℕ → Option Step
refused_step script past pid =
    let asked = bound (next_call past script pid) in
    step_if (is_alive past.plain.table pid && nat_lt (room script.heap) asked) (entry.Refused pid (kind_of (next_call past script pid)) asked)
    (moves_on script past (answered script past.plain pid (Fail ENOMEM)) past.account (others pid past.asleep))

-- a process was made
abbrev pub was_made : Past → ℕ → Bool
was_made past pid = nat_lt 0 pid && nat_le pid (last_pid past.plain)

-- the call of a process that was made and has ended is given up, once
abbrev pub gone_step : Script → Past → ℕ → Option Step
gone_step script past pid =
    step_if (was_made past pid && (not (is_alive past.plain.table pid) && not (is_among pid past.gone))) (entry.Gone pid (kind_of (next_call past script pid)))
    (record (moves_on script past past.plain past.account (others pid past.asleep)) { gone = pid ∷ past.gone })

-- what a process's call came to, if that is what is said, where it may run or not and the machine answers so
abbrev pub did_step : Script → Past → ℕ → Deed → Bool → Answer → Option Step
did_step script past pid deed.Refused may answer = refused_step script past pid
did_step script past pid deed.Gone may answer = gone_step script past pid
did_step script past pid which may answer = if may then answered_step script past pid which answer else None

-- ---- what happens to processes and caches

-- it is this number
abbrev pub is_this : ℕ → Option ℕ → Bool
is_this pid None = false
is_this pid (Some other) = other == pid

-- all live bytes while nothing is cached but the nodes that have to stay
abbrev pub least_live : Past → ℕ
least_live past = base past.plain past.account + size class.Vnode * pins past.plain

-- a live process that is up waits for its call, which the heap could give, but can't beside all that is left
abbrev pub waits_in_vain : Script → Past → ℕ → Bool
waits_in_vain script past waiter =
    let need = bound (next_call past script waiter) in
    (is_alive past.plain.table waiter && is_up past waiter) && (nat_le need (room script.heap) && nat_lt script.heap (least_live past + reserve + need))

-- the victim is killed where another's call waits in vain
abbrev pub killed_step : Script → Past → ℕ → ℕ → Option Step
killed_step script past pid waiter =
    let left = die past.plain pid sigkill in
    step_if (is_this pid (victim_of script.policy past.plain past.account) && waits_in_vain script past waiter)
    (entry.Killed pid waiter (bound (next_call past script waiter)) (least_live past))
    (moves_on script past left (account_on past.plain left past.account) (others pid past.asleep))

-- of each cache no more goes than calls have put there
abbrev pub are_covered : Fills → Fills → Bool
are_covered evicted filled = nat_le evicted.names filled.names && (nat_le evicted.blocks filled.blocks && nat_le evicted.vnodes filled.vnodes)

-- an object of a cache goes
abbrev pub evicted_step : Script → Past → Cached → Option Step
evicted_step script past what =
    step_if (are_covered (one_more past.evicted what) past.filled) (entry.Evicted what)
    (record (moves_on script past past.plain past.account past.asleep) { evicted = one_more past.evicted what })

-- ---- all of these

-- the one entry of a claim that may come next, and where it leads; None where none may
unfoldable pub turn_of : Script → Past → Claim → Option Step
turn_of script past (Did pid which) = did_step script past pid which (may_run script past pid) (machine script past.plain pid (next_call past script pid))
turn_of script past (Killed pid waiter) = killed_step script past pid waiter
turn_of script past (Evicted what) = evicted_step script past what
