-- What a turn of a held process's call comes to.
use Rattle.std.specs.Prelude.{◌≡◌, ℕ, ◌+◌, ◌<◌, ◌≤◌, nat_le, cond, Bool, true, false, List, length}
use Rattle.kabi_types.specs.Call.{kind_of}
use Rattle.kabi_types.specs.declared.calls.Call.{Call}
use Rattle.kabi_types.specs.declared.calls.CallKind.{CallKind}
use Rattle.kabi_types.specs.declared.entries.Entry.TheVariants as entry
use Rattle.kabi_types.specs.declared.scripts.Script.{Script}
use Rattle.posix_defs.specs.declared.turner.Turned.{Turned}
use Rattle.posix_defs.specs.declared.turner.Turned.TheVariants as turned
use Rattle.posix_defs.specs.History.{Past}
use Rattle.posix_defs.specs.Needs.{bound}
use Rattle.posix_defs.specs.Plain.{call_of}
use Rattle.posix_defs.specs.Process.{is_alive}
use Rattle.posix_defs.specs.Sizes.{room}
use Rattle.charge_words.specs.declared.rule.ChargeView.{ChargeView}
use Rattle.turn_words.specs.declared.items.Item.{Item}
use Rattle.turn_words.specs.declared.items.Item.TheVariants.{Noted, Back, Quiet}
use Rattle.turn_words.specs.Items.{is_given, noted}
use Rattle.kern_shared.specs.declared.attends.Attended.{Attended}
use Rattle.kern_shared.specs.declared.attends.Attended.TheVariants as attended
use Rattle.kern_shared.specs.Shared.{IsShared}

-- the item that an answer passes on, for a call of this process
abbrev pub told_item : ℕ → Call → Attended → Item
told_item pid call (attended.Done reply) = Noted (entry.Done pid (kind_of call) reply)
told_item pid call (attended.Part moved) = Noted (entry.Part pid (kind_of call) moved)
told_item pid call attended.Refused = Noted (entry.Refused pid (kind_of call) (bound call))
told_item pid call attended.Sleep = Noted (entry.Slept pid (kind_of call))
told_item pid call (attended.Short _ _) = Quiet
told_item pid call (attended.Ended status) = Noted (entry.Ended pid (kind_of call) status)
told_item pid call attended.Gone = Noted (entry.Gone pid (kind_of call))
told_item pid call attended.Spent = Back pid

-- what a turn of a call tells
abbrev pub told_of : Turned → Attended
told_of (turned.Done reply) = attended.Done reply
told_of (turned.Part moved) = attended.Part moved
told_of turned.Sleep = attended.Sleep
told_of (turned.Ended status) = attended.Ended status
told_of turned.Gone = attended.Gone

-- whether its process sleeps behind it
abbrev pub sleeps_told : Turned → Bool
sleeps_told (turned.Done _) = false
sleeps_told (turned.Part _) = true
sleeps_told turned.Sleep = true
sleeps_told (turned.Ended _) = false
sleeps_told turned.Gone = false

-- what a turn of a call has in reserve: its bound, or nothing where the heap can never give that
abbrev pub reserved_for : Script → Call → ℕ
reserved_for script call = cond (nat_le (bound call) (room script.heap)) (bound call) 0

-- no step of this charge seat has reserved, since the value's seat took in what it held
pub record IsUnused (own : ChargeView) : Type 0 where
  pub reserves : own.reserves ≡ 0
  pub raised : own.raised ≡ 0

-- what was reserved for a call was reserved by one step, and nothing else was; where the heap can never give the call's bound nothing was
pub record HasReserved (script : Script) (call : Call) (own : ChargeView) : Type 0 where
  pub once : own.reserves ≡ cond (nat_le (bound call) (room script.heap)) 1 0
  pub raised : own.raised ≡ reserved_for script call

-- a seat took in what another one had reserved, and no step of its own has reserved
pub record TakesIn (before after own : ChargeView) : Type 0 where
  pub reserves : after.reserves ≡ before.reserves + own.reserves
  pub raised : after.raised ≡ before.raised + own.raised

-- no step of a seat has reserved between these two views
pub record ReservesNothing (before after : ChargeView) : Type 0 where
  pub reserves : after.reserves ≡ before.reserves
  pub raised : after.raised ≡ before.raised

-- A pass holds the process, and this is the process's call.
pub record HoldsCall (script : Script) (steps : ℕ) (items : List Item) (pid : ℕ) (call : Call) : Type 0 where
  pub given : is_given pid items ≡ true
  pub is_call : (past : Past) → IsShared script steps items past → call ≡ call_of script past.plain pid

-- A held live process's call, which the heap might give, while steps are left.
pub record MayTurn (script : Script) (steps : ℕ) (items : List Item) (past : Past) (pid : ℕ) (call : Call) : Type 0 where
  pub given : is_given pid items ≡ true
  pub alive : is_alive past.plain.table pid ≡ true
  pub is_call : call ≡ call_of script past.plain pid
  pub fits : bound call ≤ room script.heap
  pub below : length (noted items) < steps

-- A held process that has ended, and the kind of its call, while steps are left.
pub record MayGiveUp (script : Script) (steps : ℕ) (items : List Item) (past : Past) (pid : ℕ) (kind : CallKind) : Type 0 where
  pub given : is_given pid items ≡ true
  pub ended : is_alive past.plain.table pid ≡ false
  pub of_kind : kind ≡ kind_of (call_of script past.plain pid)
  pub below : length (noted items) < steps

-- A held live process's call, which the heap can never give, while steps are left.
pub record MayRefuse (script : Script) (steps : ℕ) (items : List Item) (past : Past) (pid : ℕ) (call : Call) : Type 0 where
  pub given : is_given pid items ≡ true
  pub alive : is_alive past.plain.table pid ≡ true
  pub is_call : call ≡ call_of script past.plain pid
  pub never_fits : room script.heap < bound call
  pub below : length (noted items) < steps

-- Spent comes exactly where all steps are used up; Short never comes of a turn
abbrev pub TellsSpent : ℕ → List Item → Attended → Type 0
TellsSpent steps items attended.Spent = length (noted items) ≡ steps
TellsSpent steps items (attended.Short _ _) = ⊥
TellsSpent steps items _ = length (noted items) < steps
