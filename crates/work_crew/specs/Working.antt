-- What becomes of a pass while a worker uses it.
use Rattle.std.specs.Prelude.{◌≡◌, ℕ, Bool, true, false, List, Some}
use Rattle.kabi_types.specs.declared.calls.Call.{Call}
use mathlib.Core.List.{IsPrefix}
use Rattle.kabi_types.specs.declared.entries.End.{End}
use Rattle.kabi_types.specs.declared.scripts.Script.{Script}
use Rattle.kern_events.specs.declared.reliefs.Relief.{Relief}
use Rattle.kern_events.specs.declared.reliefs.Relief.TheVariants as relief
use Rattle.posix_defs.specs.History.{Past}
use Rattle.charge_words.specs.declared.rule.ChargeView.{ChargeView}
use Rattle.turn_words.specs.declared.items.Item.{Item}
use Rattle.turn_words.specs.declared.rule.TurnView.{TurnView}
use Rattle.turn_words.specs.Items.{heard}
use Rattle.turn_words.specs.Seats.{SeatState as TurnState}
use Rattle.kern_shared.specs.declared.attends.Attended.{Attended}
use Rattle.kern_shared.specs.declared.attends.Attended.TheVariants as attended
use Rattle.kern_shared.specs.Passes.{AttendsTo, RelievesInTurn, ReturnsInTurn}
use Rattle.kern_shared.specs.Picks.{EndsAs}
use Rattle.kern_shared.specs.Shared.{IsOver, IsShared}

-- there was no room for a call
abbrev pub is_short : Attended → Bool
is_short (attended.Short _ _) = true
is_short _ = false

-- What a relief brings a call for which there is no room: what was just freed, what others hold and give back, or that some call fits. Else no
-- live process's call waits, nothing can be freed, or all steps are used up, and the call may wait for ever.
abbrev pub may_help : Relief → Bool
may_help relief.Spent = false
may_help relief.NoneWaiting = false
may_help (relief.Fits _) = true
may_help (relief.Outstanding _ _) = true
may_help (relief.Evicted _) = true
may_help (relief.Killed _) = true
may_help relief.Starved = false

-- of the value that a turn hands on nothing is said here; the kernel's calls say it
abbrev pub AnyValue : {T : Type 0} → T → List Item → Type 0
AnyValue value items = Unit {0}

-- How a worker serves the process that its pass holds, from the pass's seats to its turn seat behind that, and whether the process's call was
-- answered: it was; or there was no room for it, and the relief that the worker asked for couldn't help, and in the very next turn of the
-- pass the process was given back; or the relief may help, and the worker served on.
pub data IsServed {T : Type 0} (script : Script) (steps pid : ℕ) (call : Call) : TurnState T → ChargeView → TurnState T → Bool → Type 0 where
  answered : (turn after : TurnState T) (own used : ChargeView) (answer : Attended) → AttendsTo AnyValue script steps turn after own used pid call answer → is_short answer ≡ false
      → IsServed script steps pid call turn own after true
  given_back : (turn short helped after : TurnState T) (own used : ChargeView) (word : ℕ) (answer : Attended) (told : Relief) → AttendsTo AnyValue script steps turn short own used pid call answer
      → is_short answer ≡ true → RelievesInTurn AnyValue script steps short.known helped.known word told → may_help told ≡ false
      → ReturnsInTurn AnyValue script steps helped.known after.known pid → IsServed script steps pid call turn own after false
  served_on : (turn short helped after : TurnState T) (own used loaded : ChargeView) (word : ℕ) (answer : Attended) (told : Relief) (is_answered : Bool)
      → AttendsTo AnyValue script steps turn short own used pid call answer → is_short answer ≡ true
      → RelievesInTurn AnyValue script steps short.known helped.known word told → may_help told ≡ true
      → IsServed script steps pid call helped loaded after is_answered → IsServed script steps pid call turn own after is_answered

-- so far the worker has served on: whatever comes of serving from now is what comes of it from the first
abbrev pub ServesOn : {T : Type 0} → Script → ℕ → ℕ → Call → TurnState T → ChargeView → TurnState T → ChargeView → Type 0
ServesOn {T} script steps pid call first began now own =
    (after : TurnState T) (is_answered : Bool) → IsServed script steps pid call now own after is_answered → IsServed script steps pid call first began after is_answered

-- A pass went on: it has the seat that it had, and what it had seen begins what it has seen.
pub record GoesOn {T : Type 0} (before after : TurnView T) : Type 0 where
  pub is_boot : after.is_boot ≡ before.is_boot
  pub others : after.others ≡ before.others
  pub begins : IsPrefix before.seen after.seen

-- By what was seen the run is over, and an end stands.
pub record SawEnd (script : Script) (steps : ℕ) (seen : List Item) : Type 0 where
  pub end : End
  pub past : Past
  pub shared : IsShared script steps (heard seen) past
  pub over : IsOver script steps (heard seen) past
  pub stands : EndsAs script steps (heard seen) past (Some end)

-- A worker has used the pass until it saw the end.
pub record HasWorked {T : Type 0} (script : Script) (steps : ℕ) (before after : TurnView T) : Type 0 where
  pub goes_on : GoesOn before after
  pub saw : SawEnd script steps after.seen
