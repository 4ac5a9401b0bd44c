-- Whole runs under two heaps.
use Rattle.std.proofs.Common.{◌≡◌, ℕ, ◌+◌, ◌≤◌, max, Bool, false, ◌||◌, List, [], ◌∷◌, ◌++◌, length, Some, refl, ap, ◌∙◌, arith}
use Rattle.std.specs.List.{list_any}
use Rattle.kabi_types.specs.declared.entries.Event.{Event}
use Rattle.kabi_types.specs.declared.entries.Event.TheVariants.{Ask, Admit, Turn, Wake, Abandon, Evict, Kill}
use Rattle.kabi_types.specs.declared.entries.Noted.{Noted}
use Rattle.kabi_types.specs.declared.scripts.Script.{Script}
use Rattle.posix_defs.specs.Choice.{picked_of}
use Rattle.posix_defs.specs.CoreRun.{AsChosen, Anyhow, IsCoreRun, IsPickedRun, IsRunBy, boots, goes_on}
use Rattle.posix_defs.specs.CoreState.{CoreState, asked_by}
use Rattle.posix_defs.specs.Sizes.{fixed}
use Rattle.sizing_laws.specs.Demand.{AllFit, IsSameUnder, RefusesNone, demand_at, demand_of, is_kill, need_of, with_heap}
use Rattle.sizing_laws.proofs.Choosing.{same_end, same_picked}
use Rattle.sizing_laws.proofs.Fitting.{all_fit, below_both, demand_within, greater_below, neither}
use Rattle.sizing_laws.proofs.Stepping.{beside_fixed, in_room, no_kill, same_step}

-- a run asks for as much as the state that it leads to
state_within : {rule : ℕ → CoreState → Event → Type 0} {script : Script} {steps : ℕ} {run : List Noted} {s : CoreState}
    → (r : IsRunBy rule script steps run s) → demand_of s ≤ need_of r
state_within boots = omega arith
state_within {script = script} (goes_on run old new noted before ends by step) =
    let least : demand_of new ≤ max (need_of before) (max (demand_at script old noted.event) (demand_of new)) = omega arith in least

-- what one rule allows where a state's demand is met, another one allows
abbrev Carries : (ℕ → CoreState → Event → Type 0) → (ℕ → CoreState → Event → Type 0) → Script → ℕ → Type 0
Carries rule other script heap =
    (j : ℕ) (s : CoreState) (event : Event) → demand_of s ≤ script.heap → demand_of s ≤ heap → rule j s event → other j s event

same_run : {rule : ℕ → CoreState → Event → Type 0} {script : Script} {steps : ℕ} {run : List Noted} {s : CoreState}
    → (other : ℕ → CoreState → Event → Type 0) (heap : ℕ) → Carries rule other script heap → (r : IsRunBy rule script steps run s)
    → need_of r ≤ script.heap → need_of r ≤ heap → IsRunBy other (with_heap script heap) steps run s
same_run other heap carry boots within below = boots
same_run {script = script} {steps = steps} other heap carry (goes_on run old new noted before ends by step) within below =
    let here = below_both (need_of before) (max (demand_at script old noted.event) (demand_of new)) script.heap within in
    let there = below_both (need_of before) (max (demand_at script old noted.event) (demand_of new)) heap below in
    let at_here = below_both (demand_at script old noted.event) (demand_of new) script.heap here.1 in
    let at_there = below_both (demand_at script old noted.event) (demand_of new) heap there.1 in
    let least : demand_of old ≤ need_of before = state_within before in
    let first : need_of before ≤ script.heap = here.0 in
    let second : need_of before ≤ heap = there.0 in
    let old_within : demand_of old ≤ script.heap = omega arith in
    let old_below : demand_of old ≤ heap = omega arith in
    goes_on run old new noted (same_run other heap carry before first second)
    (same_end script heap steps (length run) old old_within old_below ∙ ends)
    (carry (length run + 1) old noted.event old_within old_below by)
    (same_step script heap old noted.event noted new old_within old_below at_here.0 at_there.0 step)

same_under : {rule : ℕ → CoreState → Event → Type 0} {script : Script} {steps : ℕ} {run : List Noted} {s : CoreState}
    → (other : ℕ → CoreState → Event → Type 0) (heap : ℕ) → Carries rule other script heap → (r : IsRunBy rule script steps run s)
    → need_of r ≤ script.heap → need_of r ≤ heap → IsSameUnder other script heap steps run s
same_under {script = script} {steps = steps} {s = s} other heap carry r within below =
    let least : demand_of s ≤ need_of r = state_within r in
    record {
      is_run = same_run other heap carry r within below;
      ends = λ taken. same_end script heap steps taken s (omega arith) (omega arith);
    }

-- ---- the laws

picked_carries : (script : Script) (heap j : ℕ) (s : CoreState) (event : Event) → demand_of s ≤ script.heap → demand_of s ≤ heap
    → picked_of script j s ≡ Some event → picked_of (with_heap script heap) j s ≡ Some event
picked_carries script heap j s event here there by = same_picked script heap j s here there ∙ by

pub picked_same : (script : Script) (heap steps : ℕ) (run : List Noted) (s : CoreState) (r : IsPickedRun script steps run s)
    → need_of r ≤ script.heap → need_of r ≤ heap → IsSameUnder (AsChosen (with_heap script heap)) script heap steps run s
picked_same script heap steps run s r within below =
    same_under {rule = AsChosen script} (AsChosen (with_heap script heap)) heap (picked_carries script heap) r within below

pub any_same : (script : Script) (heap steps : ℕ) (run : List Noted) (s : CoreState) (r : IsCoreRun script steps run s)
    → need_of r ≤ script.heap → need_of r ≤ heap → IsSameUnder Anyhow script heap steps run s
any_same script heap steps run s r within below = same_under {rule = Anyhow} Anyhow heap (λ j s event here there by. tt) r within below

asked_within : (heap : ℕ) (script : Script) (s : CoreState) (event : Event) → fixed ≤ heap → RefusesNone heap script s event
    → demand_at script s event ≤ heap
asked_within heap script s (Ask pid) enough none = beside_fixed (asked_by script s.world.plain pid).bound heap enough none
asked_within heap script s (Admit pid) enough none = omega arith
asked_within heap script s (Turn pid) enough none = omega arith
asked_within heap script s (Wake pid) enough none = omega arith
asked_within heap script s (Abandon pid) enough none = omega arith
asked_within heap script s (Evict what) enough none = omega arith
asked_within heap script s (Kill pid) enough none = omega arith

refuses_none : (heap : ℕ) (script : Script) (s : CoreState) (event : Event) → demand_at script s event ≤ heap → RefusesNone heap script s event
refuses_none heap script s (Ask pid) within = in_room (asked_by script s.world.plain pid).bound heap within
refuses_none heap script s (Admit pid) within = tt
refuses_none heap script s (Turn pid) within = tt
refuses_none heap script s (Wake pid) within = tt
refuses_none heap script s (Abandon pid) within = tt
refuses_none heap script s (Evict what) within = tt
refuses_none heap script s (Kill pid) within = tt

pub needs_no_more : {rule : ℕ → CoreState → Event → Type 0} {script : Script} {steps : ℕ} {run : List Noted} {s : CoreState}
    → (heap : ℕ) (r : IsRunBy rule script steps run s) → fixed ≤ heap → AllFit heap r → need_of r ≤ heap
needs_no_more heap boots enough fit = omega arith
needs_no_more {script = script} heap (goes_on run old new noted before ends by step) enough fit =
    greater_below (need_of before) (max (demand_at script old noted.event) (demand_of new)) heap (needs_no_more heap before enough fit.0)
    (greater_below (demand_at script old noted.event) (demand_of new) heap (asked_within heap script old noted.event enough fit.1)
    (demand_within (with_heap script heap) new fit.2))

pub fits_with : {rule : ℕ → CoreState → Event → Type 0} {script : Script} {steps : ℕ} {run : List Noted} {s : CoreState}
    → (heap : ℕ) (r : IsRunBy rule script steps run s) → need_of r ≤ heap → AllFit heap r
fits_with heap boots within = tt
fits_with {script = script} heap (goes_on run old new noted before ends by step) within =
    let both = below_both (need_of before) (max (demand_at script old noted.event) (demand_of new)) heap within in
    let last = below_both (demand_at script old noted.event) (demand_of new) heap both.1 in
    (fits_with heap before both.0, refuses_none heap script old noted.event last.0, all_fit (with_heap script heap) new last.1)

pub more_is_same : (script : Script) (heap steps : ℕ) (run : List Noted) (s : CoreState) (r : IsPickedRun script steps run s)
    → fixed ≤ script.heap → AllFit script.heap r → script.heap ≤ heap → IsSameUnder (AsChosen (with_heap script heap)) script heap steps run s
more_is_same script heap steps run s r enough fit more =
    let within : need_of r ≤ script.heap = needs_no_more script.heap r enough fit in
    picked_same script heap steps run s r within (omega arith)

-- ---- kills

any_behind : (f : Noted → Bool) (xs : List Noted) (x : Noted) → list_any f xs ≡ false → f x ≡ false → list_any f (xs ++ x ∷ []) ≡ false
any_behind f [] x none last = ap (λ b. b || false) last
any_behind f (y ∷ xs) x none last =
    let both = neither (f y) (list_any f xs) none in
    ap (λ b. b || list_any f (xs ++ x ∷ [])) both.0 ∙ any_behind f xs x both.1 last

pub none_killed : {rule : ℕ → CoreState → Event → Type 0} {script : Script} {steps : ℕ} {run : List Noted} {s : CoreState}
    → (r : IsRunBy rule script steps run s) → need_of r ≤ script.heap → list_any (λ noted. is_kill noted.event) run ≡ false
none_killed boots within = refl
none_killed {script = script} (goes_on run old new noted before ends by step) within =
    let both = below_both (need_of before) (max (demand_at script old noted.event) (demand_of new)) script.heap within in
    let least : demand_of old ≤ need_of before = state_within before in
    let first : need_of before ≤ script.heap = both.0 in
    let old_within : demand_of old ≤ script.heap = omega arith in
    any_behind (λ noted. is_kill noted.event) run noted (none_killed before first) (no_kill script old noted.event noted new old_within step)
