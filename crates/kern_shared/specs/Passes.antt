-- Passes of a shared kernel: what each of them holds between two calls, and what a turn adds to what it has seen.
use Rattle.std.specs.Prelude.{◌≡◌, ℕ, ◌+◌, ◌<◌, ◌≤◌, ◌==◌, Bool, true, false, List, [], ◌∷◌, ◌++◌, length, Option, None, Some}
use mathlib.Core.List.{IsPrefix}
use Rattle.atomic_table.specs.Seated.{TableId}
use Rattle.kabi_types.specs.declared.calls.Call.{Call}
use Rattle.kabi_types.specs.declared.scripts.Script.{Script}
use Rattle.kern_events.specs.declared.reliefs.Relief.{Relief}
use Rattle.posix_defs.specs.History.{Past}
use Rattle.posix_defs.specs.Needs.{bound}
use Rattle.posix_defs.specs.Sizes.{room}
use Rattle.charge_words.specs.Names.{ChargeWord, SeatState as ChargeState}
use Rattle.charge_words.specs.declared.rule.ChargeView.{ChargeView}
use Rattle.turn_words.specs.declared.items.Item.{Item}
use Rattle.turn_words.specs.declared.items.Item.TheVariants.{Back}
use Rattle.turn_words.specs.declared.rule.TurnView.{TurnView}
use Rattle.turn_words.specs.Items.{Placed, heard, holds}
use Rattle.turn_words.specs.Rule.{AreGiven, AreIn, AreLast, Told}
use Rattle.turn_words.specs.Seats.{SeatState as TurnState}
use Rattle.kern_shared.specs.declared.attends.Attended.{Attended}
use Rattle.kern_shared.specs.declared.attends.Attended.TheVariants as attended
use Rattle.kern_shared.specs.declared.picks.Picked.{Picked}
use Rattle.kern_shared.specs.declared.picks.Picked.TheVariants as picked
use Rattle.kern_shared.specs.Attends.{HoldsCall, IsUnused, TellsSpent, told_item}
use Rattle.kern_shared.specs.Picks.{Picks, picked_item}
use Rattle.kern_shared.specs.Relieves.{Relieves}
use Rattle.kern_shared.specs.Shared.{IsShared}

-- the process is the one that was given
abbrev pub is_given_one : Option ℕ → ℕ → Bool
is_given_one None pid = false
is_given_one (Some given) pid = given == pid

-- by its own items a pass holds just the process that it was given, or none
abbrev pub HoldsJust : Option ℕ → List Placed → Type 0
HoldsJust given mine = (pid : ℕ) → holds pid mine ≡ is_given_one given pid

-- A pass between two calls: its seats belong to these turns and to this charge word, it has no ticket and holds nothing reserved, and
-- whatever its charge seat had reserved the value's seat has taken in. What it has seen is a shared history of this run, in which its
-- own items stand, and it holds just the process that it was given.
pub record IsAtRest {T : Type 0} (script : Script) (steps : ℕ) (charge : ChargeWord) (turns : TableId) (turn : TurnState T) (own : ChargeState) (given : Option ℕ) : Type 0 where
  pub of_turns : turn.turns ≡ turns
  pub of_charge : own.charge ≡ charge
  pub free : turn.known.has_ticket ≡ false
  pub empty : own.known.holds ≡ 0
  pub unused : IsUnused own.known
  pub shared : (past : Past) × IsShared script steps (heard turn.known.seen) past
  pub mine : AreIn turn.known.mine turn.known.seen
  pub holds : HoldsJust given turn.known.mine

-- A turn began: what was taken stands for all that the seat has seen then, of which what it had seen before is a beginning. Its own
-- items are those of before; each process that it holds is given out, and none of its items stands behind the Given by which it is held.
pub record Takes {T : Type 0} (stands : T → List Item → Type 0) (before taken : TurnState T) (state : T) : Type 0 where
  pub turns : taken.turns ≡ before.turns
  pub out : taken.known.is_out ≡ true
  pub seen : IsPrefix before.known.seen taken.known.seen
  pub value : stands state (heard taken.known.seen)
  pub mine : taken.known.mine ≡ before.known.mine
  pub placed : AreIn taken.known.mine taken.known.seen
  pub last : AreLast before.known.mine taken.known.seen
  pub given : AreGiven before.known.mine (heard taken.known.seen)
  pub is_boot : taken.known.is_boot ≡ before.known.is_boot
  pub others : taken.known.others ≡ before.known.others

-- A turn was passed on with this item behind what was seen, which is the seat's own, and this value was put back.
pub record PutsBack {T : Type 0} (taken after : TurnState T) (state : T) (x : Item) : Type 0 where
  pub turns : after.turns ≡ taken.turns
  pub free : after.known.has_ticket ≡ false
  pub seen : after.known.seen ≡ taken.known.seen ++ x ∷ []
  pub mine : after.known.mine ≡ taken.known.mine ++ (length taken.known.seen, x) ∷ []
  pub value : after.known.value ≡ Some state
  pub is_boot : after.known.is_boot ≡ taken.known.is_boot
  pub others : after.known.others ≡ taken.known.others

-- A whole turn was passed on with this item. What the pass had seen before begins what was seen at the take; the item stands behind
-- that, and is the pass's own; the value that was put back stands for all of it.
pub record PassesOn {T : Type 0} (stands : T → List Item → Type 0) (before after : TurnView T) (taken : List Item) (x : Item) : Type 0 where
  pub begins : IsPrefix before.seen taken
  pub seen : after.seen ≡ taken ++ x ∷ []
  pub mine : after.mine ≡ before.mine ++ (length taken, x) ∷ []
  pub value : Told stands after.value (heard after.seen)
  pub is_boot : after.is_boot ≡ before.is_boot
  pub others : after.others ≡ before.others

-- the charge seat's view names this word as the one loaded last, in this call, when the seat held nothing
pub record Loads (before after : ChargeView) (word : ℕ) : Type 0 where
  pub now : before.loads < after.loads
  pub last : after.last ≡ word
  pub held : after.held ≡ 0

-- the process that a pass holds behind a pick
abbrev pub given_by : Picked → Option ℕ
given_by (picked.Run pid _) = Some pid
given_by picked.Idle = None
given_by (picked.Over _) = None

-- a pass that was given a process holds it with its call
abbrev pub HoldsPicked : Script → ℕ → List Item → Picked → Type 0
HoldsPicked script steps seen (picked.Run pid call) = HoldsCall script steps (heard seen) pid call
HoldsPicked script steps seen picked.Idle = Unit {0}
HoldsPicked script steps seen (picked.Over _) = Unit {0}

-- the process that a pass holds behind an answer
abbrev pub given_behind : Option ℕ → Attended → Option ℕ
given_behind given (attended.Short _ _) = given
given_behind given _ = None

module _ {T : Type 0} (stands : T → List Item → Type 0) (script : Script) (steps : ℕ) where
  -- a turn in which a pick was answered: by the items at its take
  abbrev pub PicksInTurn : TurnView T → TurnView T → Picked → Type 0
  PicksInTurn before after result =
      (taken : List Item) × PassesOn stands before after taken (picked_item result)
      × ((past : Past) → IsShared script steps (heard taken) past → Picks script steps (heard taken) past result)

  -- no turn was had, since a word that was loaded leaves no room for what the call may need
  pub record FallsShort (turn after : TurnState T) (before own : ChargeView) (call : Call) (charged need : ℕ) : Type 0 where
    pub still : after ≡ turn
    pub needed : need ≡ bound call
    pub fits_ever : need ≤ room script.heap
    pub within : charged ≤ script.heap
    pub too_much : script.heap < charged + need
    pub loaded : Loads before own charged

  -- a turn in which a held process's call was answered
  abbrev pub TurnsInTurn : TurnView T → TurnView T → ℕ → Call → Attended → Type 0
  TurnsInTurn before after pid call result =
      (taken : List Item) × PassesOn stands before after taken (told_item pid call result) × TellsSpent steps (heard taken) result

  -- what an answer to a held process's call tells
  abbrev pub AttendsTo : TurnState T → TurnState T → ChargeView → ChargeView → ℕ → Call → Attended → Type 0
  AttendsTo turn after before own pid call (attended.Short charged need) = FallsShort turn after before own call charged need
  AttendsTo turn after before own pid call result = TurnsInTurn turn.known after.known pid call result

  -- a turn in which calls that wait were helped, with the word that was loaded in it
  abbrev pub RelievesInTurn : TurnView T → TurnView T → ℕ → Relief → Type 0
  RelievesInTurn before after word result =
      (taken : List Item) × (x : Item) × PassesOn stands before after taken x
      × ((past : Past) → IsShared script steps (heard taken) past → Relieves script steps (heard taken) past word result x)

  -- a turn in which the process was given back
  abbrev pub ReturnsInTurn : TurnView T → TurnView T → ℕ → Type 0
  ReturnsInTurn before after pid = (taken : List Item) × PassesOn stands before after taken (Back pid)
