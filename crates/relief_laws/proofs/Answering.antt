-- What an answer of relief says of the state that it was given in.
use Rattle.std.proofs.Common.{◌≡◌, ℕ, ◌+◌, ◌-◌, ◌==◌, ◌||◌, eqb-true, cond, not, Bool, true, false, List, [], ◌∷◌, length, Option, None, Some, refl, sym, ap, ◌∙◌, subst, arith}
use Rattle.std.specs.List.{list_any}
use Rattle.std.proofs.lemmas.List.Sums.{sum_by-cons}
use Rattle.kabi_types.specs.declared.entries.Cached.{Cached}
use Rattle.kabi_types.specs.declared.entries.Cached.TheVariants.{Name, Block, Vnode}
use Rattle.kabi_types.specs.declared.entries.Event.TheVariants.{Evict, Kill}
use Rattle.kabi_types.specs.declared.scripts.Script.{Script}
use Rattle.posix_defs.specs.CoreEvent.{StepsBy}
use Rattle.posix_defs.specs.CoreState.{CoreState, charged_in, held, is_admitted, is_waiting, reserved_in}
use Rattle.posix_defs.specs.Enabled.{IsEnabled}
use Rattle.posix_defs.specs.Ends.{end_of}
use Rattle.posix_defs.specs.Licence.{is_licensed}
use Rattle.posix_defs.specs.SoundTasks.{IsSound}
use Rattle.posix_defs.specs.Victim.{victim_of}
use Rattle.posix_defs.specs.World.{World, can_evict, live_of}
use Rattle.posix_defs.specs.declared.phases.Phase.{Phase}
use Rattle.posix_defs.specs.declared.phases.Phase.TheVariants.{User, Waiting, Admitted, Asleep, Stranded, Dead}
use Rattle.posix_defs.specs.declared.phases.Task.{Task}
use Rattle.kern_laws.proofs.Progress.{first_lives, no_end}
use Rattle.kern_tasks.specs.Room.{first_going, goes_within}
use Rattle.kern_tasks.specs.View.{CoreView, IsAt}
use Rattle.kern_events.specs.Reliefs.{Relieves, evicted_or, first_evictable, fits_or, killed_or, relief_of}
use Rattle.kern_events.specs.declared.reliefs.Relief.{Relief}
use Rattle.kern_events.specs.declared.reliefs.Relief.TheVariants as relief
use Rattle.relief_laws.specs.Measure.{HasLowered, Lowers}
use Rattle.relief_laws.proofs.Lowering.{evicted_less, killed_less}

-- by the cases that relief tries one after another
abbrev by_cases : Bool → Option ℕ → Bool → Option Cached → Bool → Option ℕ → ℕ → ℕ → Relief
by_cases waits going empty evicts licensed victim charged live =
    cond (not waits) relief.NoneWaiting
    (fits_or going (cond (not empty) (relief.Outstanding charged live) (evicted_or evicts (killed_or (cond licensed victim None)))))

-- it evicts where nothing can go on, nothing is in reserve, and this goes first
record EvictsBy (going : Option ℕ) (empty : Bool) (evicts : Option Cached) (what : Cached) : Type 0 where
  pub stays : going ≡ None
  pub is_empty : empty ≡ true
  pub first : evicts ≡ Some what

evicts_by : (waits : Bool) (going : Option ℕ) (empty : Bool) (evicts : Option Cached) (licensed : Bool) (victim : Option ℕ) (charged live : ℕ) (what : Cached)
    → relief.Evicted what ≡ by_cases waits going empty evicts licensed victim charged live → EvictsBy going empty evicts what
evicts_by false going empty evicts licensed victim charged live what is = cc
evicts_by true (Some pid) empty evicts licensed victim charged live what is = cc
evicts_by true None false evicts licensed victim charged live what is = cc
evicts_by true None true (Some first) licensed victim charged live what is = record { stays = refl; is_empty = refl; first = (cc) }
evicts_by true None true None true (Some pid) charged live what is = cc
evicts_by true None true None true None charged live what is = cc
evicts_by true None true None false victim charged live what is = cc

-- it kills where a kill is licensed, and this is the victim
record KillsBy (licensed : Bool) (victim : Option ℕ) (pid : ℕ) : Type 0 where
  pub is_licensed : licensed ≡ true
  pub first : victim ≡ Some pid

kills_by : (waits : Bool) (going : Option ℕ) (empty : Bool) (evicts : Option Cached) (licensed : Bool) (victim : Option ℕ) (charged live pid : ℕ)
    → relief.Killed pid ≡ by_cases waits going empty evicts licensed victim charged live → KillsBy licensed victim pid
kills_by false going empty evicts licensed victim charged live pid is = cc
kills_by true (Some other) empty evicts licensed victim charged live pid is = cc
kills_by true None false evicts licensed victim charged live pid is = cc
kills_by true None true (Some first) licensed victim charged live pid is = cc
kills_by true None true None true (Some first) charged live pid is = record { is_licensed = refl; first = (cc) }
kills_by true None true None true None charged live pid is = cc
kills_by true None true None false victim charged live pid is = cc

-- who can't go on and holds nothing isn't admitted
holds_nothing : (phase : Phase) (room : ℕ) → goes_within room phase ≡ false → held phase ≡ 0 → is_admitted phase ≡ false
holds_nothing User room stays none = refl
holds_nothing (Waiting asked) room stays none = refl
holds_nothing (Admitted asked) room stays none = absurd (let goes : (asked.bound == 0) ≡ true = ap (λ n. n == 0) none in cc)
holds_nothing (Asleep asked) room stays none = refl
holds_nothing (Stranded asked) room stays none = absurd (let goes : (asked.bound == 0) ≡ true = ap (λ n. n == 0) none in cc)
holds_nothing Dead room stays none = refl

neither : (goes : Bool) (pid : ℕ) (rest : Option ℕ) → cond goes (Some pid) rest ≡ None → (goes ≡ false) × (rest ≡ None)
neither true pid rest none = cc
neither false pid rest none = (refl, none)

-- so where nobody can go on and nothing is in reserve, nobody is admitted
nobody_admitted : (room : ℕ) (tasks : List Task) → first_going room tasks ≡ None → reserved_in tasks ≡ 0
    → list_any (λ task. is_admitted task.phase) tasks ≡ false
nobody_admitted room [] none empty = refl
nobody_admitted room (task ∷ tasks) none empty =
    let stay = neither (goes_within room task.phase) task.pid (first_going room tasks) none in
    let sum : held task.phase + reserved_in tasks ≡ 0 = sym (sum_by-cons (λ t. held t.phase) task tasks) ∙ empty in
    let own : held task.phase ≡ 0 = omega arith in
    let others : reserved_in tasks ≡ 0 = omega arith in
    ap (λ b. b || list_any (λ t. is_admitted t.phase) tasks) (holds_nothing task.phase room stay.0 own)
    ∙ nobody_admitted room tasks stay.1 others

-- the first cache that can lose something can
abbrev chosen : Bool → Bool → Bool → Cached → Bool
chosen name block vnode Name = name
chosen name block vnode Block = block
chosen name block vnode Vnode = vnode

first_can : (name block vnode : Bool) (what : Cached) → cond name (Some Name) (cond block (Some Block) (cond vnode (Some Vnode) None)) ≡ Some what
    → chosen name block vnode what ≡ true
first_can true block vnode Name is = refl
first_can true block vnode Block is = cc
first_can true block vnode Vnode is = cc
first_can false true vnode Name is = cc
first_can false true vnode Block is = refl
first_can false true vnode Vnode is = cc
first_can false false true Name is = cc
first_can false false true Block is = cc
first_can false false true Vnode is = refl
first_can false false false what is = cc

first_unpinned : (world : World) (what : Cached) → first_evictable world ≡ Some what → can_evict world.plain world.kept what ≡ true
first_unpinned world Name is =
    first_can (can_evict world.plain world.kept Name) (can_evict world.plain world.kept Block) (can_evict world.plain world.kept Vnode) Name is
first_unpinned world Block is =
    first_can (can_evict world.plain world.kept Name) (can_evict world.plain world.kept Block) (can_evict world.plain world.kept Vnode) Block is
first_unpinned world Vnode is =
    first_can (can_evict world.plain world.kept Name) (can_evict world.plain world.kept Block) (can_evict world.plain world.kept Vnode) Vnode is

nothing_held : (n : ℕ) → (n == 0) ≡ true → n ≡ 0
nothing_held n is = eqb-true n 0 is

-- what it evicts may be evicted, and whom it kills may be killed
may_evict : (script : Script) (steps taken : ℕ) (s : CoreState) (what : Cached) → end_of script steps taken s ≡ None
    → relief.Evicted what ≡ relief_of script s → IsEnabled script s (Evict what)
may_evict script steps taken s what unended is =
    let by : EvictsBy (first_going (script.heap - charged_in s) s.tasks) (reserved_in s.tasks == 0) (first_evictable s.world) what =
    evicts_by (list_any (λ task. is_waiting task.phase) s.tasks) (first_going (script.heap - charged_in s) s.tasks) (reserved_in s.tasks == 0) (first_evictable s.world)
    (is_licensed script s) (victim_of script.policy s.world.plain s.world.account) (charged_in s) (live_of s.world) what is in
    let unadmitted : list_any (λ task. is_admitted task.phase) s.tasks ≡ false =
    nobody_admitted (script.heap - charged_in s) s.tasks by.stays (nothing_held (reserved_in s.tasks) by.is_empty) in
    let open_end = no_end script steps taken s unended in
    record { lives = first_lives s open_end.unfinished unadmitted; unpinned = first_unpinned s.world what by.first }

may_kill : (script : Script) (s : CoreState) (pid : ℕ) → relief.Killed pid ≡ relief_of script s → IsEnabled script s (Kill pid)
may_kill script s pid is =
    let by : KillsBy (is_licensed script s) (victim_of script.policy s.world.plain s.world.account) pid =
    kills_by (list_any (λ task. is_waiting task.phase) s.tasks) (first_going (script.heap - charged_in s) s.tasks) (reserved_in s.tasks == 0) (first_evictable s.world)
    (is_licensed script s) (victim_of script.policy s.world.plain s.world.account) (charged_in s) (live_of s.world) pid is in
    record { licensed = by.is_licensed; victim = by.first }

pub lowers : {T : Type 0} (stands_for : T → World → Type 0) (script : Script) (old new : CoreView T) (s : CoreState) (told : Relief)
    → IsAt stands_for old s → IsSound script s → end_of script old.steps (length old.run) s ≡ None → told ≡ relief_of script s
    → Relieves stands_for script old told new → Lowers stands_for s old told new
lowers stands_for script old new s (relief.Evicted what) at sound unended is (noted, took) =
    let led = took.leads s at (may_evict script old.steps (length old.run) s what unended is) sound in
    record {
      state = led.0;
      is_at = led.1;
      less = evicted_less script s led.0 what noted (subst (λ event. StepsBy script s event noted led.0) took.taken led.2);
    }
lowers stands_for script old new s (relief.Killed pid) at sound unended is (noted, took) =
    let led = took.leads s at (may_kill script s pid is) sound in
    record {
      state = led.0;
      is_at = led.1;
      less = killed_less script s led.0 pid noted (subst (λ event. StepsBy script s event noted led.0) took.taken led.2);
    }
lowers stands_for script old new s relief.NoneWaiting at sound unended is same = same
lowers stands_for script old new s (relief.Fits pid) at sound unended is same = same
lowers stands_for script old new s (relief.Outstanding charged live) at sound unended is same = same
lowers stands_for script old new s relief.Starved at sound unended is same = same
lowers stands_for script old new s relief.Spent at sound unended is same = same
