-- Groups while they run: each has a seat of the charge word.
use Rattle.std.specs.Prelude.{ℕ, ◌≡◌, None, Some}
use Rattle.kabi_types.specs.declared.scripts.Script.{Script}
use Rattle.posix_defs.specs.ValidScript.{IsValid}
use Rattle.posix_defs.specs.World.{World}
use Rattle.charge_words.specs.Names.{ChargeWord, SeatState, seat_of}
use Rattle.charge_words.specs.Rule.{fresh}
use Rattle.kern_tasks.specs.View.{HasBooted}
use Rattle.group_heap.specs.declared.groups.Group.{Group}
use Rattle.group_heap.specs.declared.groups.GroupEnd.TheVariants as end
use Rattle.group_heap.specs.Runs.{Leaves}

-- the group with a new seat of this charge
abbrev pub seated : {T : Type 0} → ChargeWord → Group T → Group T
seated charge group = record group { seat = Some (seat_of charge (fresh charge.heap)) }

abbrev pub unseated : {T : Type 0} → Group T → Group T
unseated group = record group { seat = None }

-- The group has a seat of this charge, which holds nothing.
pub record HoldsNothing {T : Type 0} (charge : ChargeWord) (group : Group T) : Type 0 where
  pub seat : SeatState
  pub is : group.seat ≡ Some seat
  pub of : seat.charge ≡ charge
  pub none : seat.known.holds ≡ 0

-- The group may be called: it hasn't run, its core is at boot of its script, and it has such a seat.
pub record IsReady {T : Type 0} (stands_for : T → World → Type 0) (script_of : T → Script) (charge : ChargeWord) (group : Group T) : Type 0 where
  pub valid : IsValid group.script
  pub booted : HasBooted stands_for (script_of group.core.store) group.core
  pub script : group.script ≡ script_of group.core.store
  pub steps : group.core.steps ≡ group.script.steps
  pub waits : group.outcome ≡ end.NotRun
  pub seated : HoldsNothing charge group

-- The group was called: it keeps its name and script and has such a seat again, which gave back what it held.
pub record WasCalled {T : Type 0} (stands_for : T → World → Type 0) (marks high : T → ℕ) (whole : ℕ) (charge : ChargeWord) (old new : Group T) : Type 0 where
  pub name : new.name ≡ old.name
  pub script : new.script ≡ old.script
  pub seated : HoldsNothing charge new
  pub left : Leaves stands_for marks high whole old new new.outcome
