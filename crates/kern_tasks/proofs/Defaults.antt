-- The default is an event that may be taken, and there is one where no end stands.
use Rattle.std.proofs.Common.{◌≡◌, ℕ, ◌<◌, if◌then◌else◌, Bool, true, false, List, [], ◌∷◌, filter, length, Option, None, Some, IfSome, IsSome, IsNone, slice_get, refl, sym, subst, arith}
use Rattle.std.specs.Option.{is_some}
use Rattle.kabi_types.specs.declared.entries.Event.{Event}
use Rattle.kabi_types.specs.declared.scripts.Script.{Script}
use Rattle.posix_defs.specs.World.{World}
use Rattle.posix_defs.specs.CoreState.{CoreState, some_wait_in_vain}
use Rattle.posix_defs.specs.SoundTasks.{IsSound}
use Rattle.posix_defs.specs.Ends.{end_of}
use Rattle.posix_defs.specs.Choice.{asks_nothing, default_of, enabled_in}
use Rattle.kern_laws.proofs.Picking.{named_is_enabled}
use Rattle.kern_laws.proofs.Progress.{some_default}
use Rattle.kern_laws.proofs.Sounds.{is_sound}
use Rattle.kern_tasks.specs.View.{CoreView, IsAt, GoesOn, MayTake}

pub is_none : {X : Type 0} (o : Option X) → is_some o ≡ false → o ≡ None
is_none None e = refl
is_none (Some x) e = cc

-- what is the default may be taken
pub default_may : {T : Type 0} (stands_for : T → World → Type 0) (script : Script) (core : CoreView T) (answer : Option Event) → GoesOn stands_for script core
    → ((s : CoreState) → IsAt stands_for core s → IsSound script s → end_of script core.steps (length core.run) s ≡ None)
    → ((s : CoreState) → IsAt stands_for core s → IsSound script s → answer ≡ default_of script s) → IfSome answer (MayTake stands_for script core)
default_may stands_for script core None goes no_end is = tt
default_may stands_for script core (Some event) goes no_end is =
    let sound = is_sound goes.runs in
    record {
      state = goes.state;
      is_at = goes.is_at;
      runs = goes.runs;
      enabled = named_is_enabled script goes.state event None sound (sym (is goes.state goes.is_at sound));
      no_end = no_end goes.state goes.is_at sound;
    }

no_some : IsSome {T = Event} None → ⊥
no_some e = cc

-- and there is one
pub default_some : (script : Script) (steps taken : ℕ) (s : CoreState) (answer : Option Event) → IsSound script s → end_of script steps taken s ≡ None
    → answer ≡ default_of script s → IsNone answer → IsSome (end_of script steps taken s)
default_some script steps taken s None sound no_end is none = absurd (no_some (subst IsSome (sym is) (some_default script steps taken s sound no_end)))
default_some script steps taken s (Some event) sound no_end is none = cc

first_of : (events : List Event) (frees : Bool) → IsSome (slice_get (if frees then filter asks_nothing events else events) 0) → 0 < length events
first_of [] true some = absurd (cc)
first_of [] false some = absurd (cc)
first_of (event ∷ events) frees some = omega arith

-- where there is a default some event is enabled
pub has_some : (script : Script) (s : CoreState) → IsSome (default_of script s) → 0 < length (enabled_in script s)
has_some script s some = first_of (enabled_in script s) (some_wait_in_vain script s) some
