-- What a number picks among the enabled events.
use Rattle.std.proofs.Common.{◌≡◌, ℕ, zero, suc, ◌%◌, ◌<◌, Bool, true, false, cond, List, [], ◌∷◌, filter, length, Option, None, Some, IsSome, slice_get, refl, ap, sym, ◌∙◌, subst, arith}
use Rattle.std.proofs.lemmas.Nat.{mod_below}
use Rattle.kabi_types.specs.declared.entries.Event.{Event}
use Rattle.kabi_types.specs.declared.entries.Noted.{Noted}
use Rattle.kabi_types.specs.declared.scripts.Script.{Script}
use Rattle.posix_defs.specs.CoreState.{CoreState, some_wait_in_vain}
use Rattle.posix_defs.specs.SoundTasks.{IsSound}
use Rattle.posix_defs.specs.Enabled.{IsEnabled}
use Rattle.posix_defs.specs.Choice.{asks_nothing, enabled_in, default_of, named_by}
use Rattle.posix_defs.specs.CoreRun.{IsCoreRun, IsRunBy, boots, goes_on}
use Rattle.kern_laws.proofs.EnabledEvents.{enabled}

-- every number names the one of a list of one
only_named : {X : Type 0} (x : X) (number : ℕ) → slice_get (x ∷ []) (number % length (x ∷ [])) ≡ Some x
only_named x number = let first : number % 1 ≡ 0 = omega arith in ap (slice_get (x ∷ [])) first

-- what is found among some of a list is in the list
among : (f : Event → Bool) (events : List Event) (i : ℕ) (event : Event) → slice_get (filter f events) i ≡ Some event
    → (j : ℕ) × (slice_get events j ≡ Some event)
among f [] i event e = cc
among f (first ∷ events) i event e = go (λ k found. among f events k event found) (f first) i e
  where
    later : ((j : ℕ) × (slice_get events j ≡ Some event)) → (j : ℕ) × (slice_get (first ∷ events) j ≡ Some event)
    later found = (suc found.0, found.1)

    go : ((k : ℕ) → slice_get (filter f events) k ≡ Some event → (j : ℕ) × (slice_get events j ≡ Some event)) → (b : Bool) → (i : ℕ)
        → slice_get (cond b (first ∷ filter f events) (filter f events)) i ≡ Some event → (j : ℕ) × (slice_get (first ∷ events) j ≡ Some event)
    go rest true zero e = (0, e)
    go rest true (suc i) e = later (rest i e)
    go rest false i e = later (rest i e)

-- the default is among the enabled events
default_listed : (script : Script) (s : CoreState) (event : Event) → default_of script s ≡ Some event
    → (j : ℕ) × (slice_get (enabled_in script s) j ≡ Some event)
default_listed script s event e = go (some_wait_in_vain script s) e
  where
    go : (vain : Bool) → slice_get (cond vain (filter asks_nothing (enabled_in script s)) (enabled_in script s)) 0 ≡ Some event
        → (j : ℕ) × (slice_get (enabled_in script s) j ≡ Some event)
    go true e = among asks_nothing (enabled_in script s) 0 event e
    go false e = (0, e)

some_of : {X : Type 0} (o : Option X) → IsSome o → (x : X) × (o ≡ Some x)
some_of None some = cc
some_of (Some x) some = (x, refl)

pub one_is_named : (script : Script) (s : CoreState) (event : Event) → enabled_in script s ≡ event ∷ [] → IsSome (default_of script s)
    → (number : Option ℕ) → named_by number script s ≡ Some event
one_is_named script s event is some None =
    let found = some_of (default_of script s) some in
    let place = default_listed script s found.0 found.1 in
    found.1 ∙ ap Some (sym (only_one event found.0 place.0 (subst (λ events. slice_get events place.0 ≡ Some found.0) is place.1)))
  where
    only_one : (a b : Event) (i : ℕ) → slice_get (a ∷ []) i ≡ Some b → a ≡ b
    only_one a b zero e = cc
    only_one a b (suc i) e = cc
one_is_named script s event is some (Some number) = ap (λ events. slice_get events (number % length events)) is ∙ only_named event number

pub named_is_enabled : (script : Script) (s : CoreState) (event : Event) (number : Option ℕ) → IsSound script s → named_by number script s ≡ Some event
    → IsEnabled script s event
named_is_enabled script s event None sound e =
    let found = default_listed script s event e in enabled script s found.0 event sound.rising found.1
named_is_enabled script s event (Some number) sound e = enabled script s (number % length (enabled_in script s)) event sound.rising e

below_is_some : {X : Type 0} (xs : List X) (i : ℕ) → i < length xs → IsSome (slice_get xs i)
below_is_some [] i within = absurd (omega arith)
below_is_some (x ∷ xs) zero within = refl
below_is_some (x ∷ xs) (suc i) within = below_is_some xs i (omega arith)

-- where there is a first one, every number names one
round_is_some : {X : Type 0} (xs : List X) (number : ℕ) → IsSome (slice_get xs 0) → IsSome (slice_get xs (number % length xs))
round_is_some [] number some = some
round_is_some (x ∷ xs) number some = below_is_some (x ∷ xs) (number % length (x ∷ xs)) (mod_below number (length (x ∷ xs)) (omega arith))

pub some_is_named : (script : Script) (s : CoreState) (number : Option ℕ) → IsSome (default_of script s) → IsSome (named_by number script s)
some_is_named script s None some = some
some_is_named script s (Some number) some =
    let found = some_of (default_of script s) some in
    let place = default_listed script s found.0 found.1 in
    round_is_some (enabled_in script s) number (first_is_some (enabled_in script s) place.0 found.0 place.1)
  where
    first_is_some : (events : List Event) (i : ℕ) (event : Event) → slice_get events i ≡ Some event → IsSome (slice_get events 0)
    first_is_some [] i event e = cc
    first_is_some (first ∷ events) i event e = refl

-- a run by any rule is a run
pub ruled_is_run : {rule : ℕ → CoreState → Event → Type 0} {script : Script} {steps : ℕ} {events : List Noted} {s : CoreState}
    → IsRunBy rule script steps events s → IsCoreRun script steps events s
ruled_is_run boots = boots
ruled_is_run (goes_on events old new noted before ends follows step) = goes_on events old new noted (ruled_is_run before) ends tt step
