-- The first of the events that are of no process.
use Rattle.std.proofs.Common.{◌≡◌, Bool, true, false, cond, if◌then◌else◌, List, [], ◌∷◌, ◌++◌, Option, None, Some, slice_get, refl}
use Rattle.std.specs.Option.{option_map, option_to_list}
use Rattle.kabi_types.specs.declared.entries.Cached.TheVariants.{Name, Block, Vnode}
use Rattle.kabi_types.specs.declared.entries.Event.{Event}
use Rattle.kabi_types.specs.declared.entries.Event.TheVariants.{Evict}
use Rattle.posix_defs.specs.Choice.{evict_of}

-- the first of three evictions, where the first process lives
pub first_of : (alive a b c : Bool) → slice_get (if alive then evict_of a Name ++ (evict_of b Block ++ evict_of c Vnode) else []) 0
    ≡ cond alive (option_map Evict (if a then Some Name else if b then Some Block else if c then Some Vnode else None)) None
first_of false a b c = refl
first_of true true b c = refl
first_of true false true c = refl
first_of true false false true = refl
first_of true false false false = refl

-- where none can go, none is first
pub none_first : (alive : Bool) → cond {A = Option Event} alive None None ≡ None
none_first true = refl
none_first false = refl

-- what is first in one list is first in it and more
pub first_stays : (event : Event) (events more : List Event) → slice_get events 0 ≡ Some event → slice_get (events ++ more) 0 ≡ Some event
first_stays event (first ∷ events) more is = is
first_stays event [] more is = absurd (cc)

-- behind a list without a first one stands what stands behind it
pub first_behind : (events more : List Event) → slice_get events 0 ≡ None → slice_get (events ++ more) 0 ≡ slice_get more 0
first_behind [] more is = refl
first_behind (first ∷ events) more is = absurd (cc)

-- the only one is first
pub only_first : (event : Option Event) → slice_get (option_to_list event) 0 ≡ event
only_first None = refl
only_first (Some event) = refl
