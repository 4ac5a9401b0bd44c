-- What a worker of the tests keeps between two of its steps.
use Rattle.std.specs.Prelude.{◌≡◌, ℕ, Option, None, Some, Bool, true, false}
use Rattle.atomic_table.specs.Seated.{TableId}
use Rattle.kabi_types.specs.declared.calls.Call.{Call}
use Rattle.kabi_types.specs.declared.scripts.Script.{Script}
use Rattle.charge_words.specs.Names.{ChargeWord, SeatState as ChargeState}
use Rattle.turn_words.specs.Items.{heard}
use Rattle.turn_words.specs.Seats.{SeatState as TurnState}
use Rattle.kern_shared.specs.declared.attends.Attended.{Attended}
use Rattle.kern_shared.specs.declared.attends.Attended.TheVariants as attended
use Rattle.kern_shared.specs.Attends.{HoldsCall}
use Rattle.kern_shared.specs.Passes.{IsAtRest}

-- the process that is held, of one with its call
abbrev pub pid_of : Option (ℕ × Call) → Option ℕ
pid_of None = None
pid_of (Some held) = Some held.0

-- The pass is between two calls and holds just this process, of which this is the call.
pub record Works {T : Type 0} (script : Script) (steps : ℕ) (charge : ChargeWord) (turns : TableId) (turn : TurnState T) (own : ChargeState) (given : Option ℕ) (held : Option (ℕ × Call)) : Type 0 where
  pub rests : IsAtRest script steps charge turns turn own given
  pub same : given ≡ pid_of held
  pub holds : (pid : ℕ) (call : Call) → held ≡ Some (pid, call) → HoldsCall script steps (heard turn.known.seen) pid call

-- the seat is that of `boot` where it was, and counts as many others
pub record IsAsMany {T : Type 0} (before after : TurnState T) : Type 0 where
  pub is_boot : after.known.is_boot ≡ before.known.is_boot
  pub others : after.known.others ≡ before.known.others

-- whether an answer leaves the process held
abbrev pub is_short : Attended → Bool
is_short (attended.Done _) = false
is_short (attended.Part _) = false
is_short attended.Refused = false
is_short attended.Sleep = false
is_short (attended.Short _ _) = true
is_short (attended.Ended _) = false
is_short attended.Gone = false
is_short attended.Spent = false
