-- The places of tasks that pass a test, and what is put among them or taken out.
use Rattle.std.proofs.Common.{◌≡◌, ◌≢◌, ℕ, zero, suc, ◌+◌, ◌-◌, ◌<◌, ◌≤◌, ◌==◌, ◌||◌, nat_lt, Bool, true, false, cond, if◌then◌else◌, List, [], ◌∷◌, ◌++◌, length, take, drop, get_or, Option, None, Some, slice_get, slice_index_or, remove, refl, ap, sym, ◌∙◌, subst, arith, inl, inr, append_assoc}
use Rattle.std.specs.Prelude.{insert}
use Rattle.std.specs.List.{count_by, list_any}
use Rattle.std.proofs.lemmas.Bool.{le-ltb, lt-ltb}
use Rattle.std.proofs.lemmas.Bool.Decides.{eqb_tells}
use Rattle.posix_defs.specs.declared.phases.Task.{Task}
use Rattle.posix_defs.specs.Minding.{is_among}
use Rattle.posix_defs.specs.SoundTasks.{AreRising}
use Rattle.kern_tasks.specs.Places.{place_from}
use Rattle.kern_tasks.specs.Runnable.{AreRisingFrom, below, but_for, but_for_each, places_from, with_place}
use Rattle.kern_tasks.proofs.TaskLoops.{next_task}

both : {X : Type 0} {b : Bool} → b ≡ true → b ≡ false → X
both e f = cc

-- ---- all places anew

-- one place further
pub filled_more : (passes : Task → Bool) (tasks : List Task) (place : ℕ) (d : Task) (filled all : List ℕ) → place < length tasks
    → filled ++ places_from passes place (drop place tasks) ≡ all → passes (get_or tasks place d) ≡ true
    → (filled ++ place ∷ []) ++ places_from passes (place + 1) (drop (place + 1) tasks) ≡ all
filled_more passes tasks place d filled all within so passed =
    append_assoc filled (place ∷ []) (places_from passes (place + 1) (drop (place + 1) tasks))
    ∙ ap (λ b. filled ++ (if b then place ∷ places_from passes (place + 1) (drop (place + 1) tasks) else places_from passes (place + 1) (drop (place + 1) tasks))) (sym passed)
    ∙ ap (λ ts. filled ++ places_from passes place ts) (sym (next_task tasks place d within)) ∙ so

pub filled_past : (passes : Task → Bool) (tasks : List Task) (place : ℕ) (d : Task) (filled all : List ℕ) → place < length tasks
    → filled ++ places_from passes place (drop place tasks) ≡ all → passes (get_or tasks place d) ≡ false
    → filled ++ places_from passes (place + 1) (drop (place + 1) tasks) ≡ all
filled_past passes tasks place d filled all within so passed =
    ap (λ b. filled ++ (if b then place ∷ places_from passes (place + 1) (drop (place + 1) tasks) else places_from passes (place + 1) (drop (place + 1) tasks))) (sym passed)
    ∙ ap (λ ts. filled ++ places_from passes place ts) (sym (next_task tasks place d within)) ∙ so

-- ---- places rise, and there are no more than tasks

from_lower : (least more : ℕ) (places : List ℕ) → least ≤ more → AreRisingFrom more places → AreRisingFrom least places
from_lower least more [] less rising = tt
from_lower least more (place ∷ places) less rising = ((let h : more ≤ place = rising.0 in omega arith), rising.1)

pub places_rise : (passes : Task → Bool) (first : ℕ) (tasks : List Task) → AreRisingFrom first (places_from passes first tasks)
places_rise passes first [] = tt
places_rise passes first (task ∷ tasks) = go (passes task) (places_rise passes (first + 1) tasks)
  where
    go : (b : Bool) → AreRisingFrom (first + 1) (places_from passes (first + 1) tasks)
        → AreRisingFrom first (if b then first ∷ places_from passes (first + 1) tasks else places_from passes (first + 1) tasks)
    go true rest = (omega arith, rest)
    go false rest = from_lower first (first + 1) (places_from passes (first + 1) tasks) (omega arith) rest

pub no_more_places : (passes : Task → Bool) (first : ℕ) (tasks : List Task) → length (places_from passes first tasks) ≤ length tasks
no_more_places passes first [] = omega arith
no_more_places passes first (task ∷ tasks) = go (passes task) (no_more_places passes (first + 1) tasks)
  where
    go : (b : Bool) → length (places_from passes (first + 1) tasks) ≤ length tasks
        → length (if b then first ∷ places_from passes (first + 1) tasks else places_from passes (first + 1) tasks) ≤ length (task ∷ tasks)
    go true fewer = omega arith
    go false fewer = omega arith

-- the same places by tests that agree
pub same_places : (one other : Task → Bool) (first : ℕ) (tasks : List Task) → ((task : Task) → one task ≡ other task) → places_from one first tasks ≡ places_from other first tasks
same_places one other first [] agree = refl
same_places one other first (task ∷ tasks) agree =
    ap (λ b. if b then first ∷ places_from one (first + 1) tasks else places_from one (first + 1) tasks) (agree task)
    ∙ ap (λ rest. if other task then first ∷ rest else rest) (same_places one other (first + 1) tasks agree)

-- ---- how many are below a place

not_less : (a b : ℕ) → b ≤ a → nat_lt a b ≡ false
not_less a b more = le-ltb a b more

less : (a b : ℕ) → a < b → nat_lt a b ≡ true
less a b h = lt-ltb a b h

-- what isn't below a place has no more below it than stand before it
pub few_below : (places : List ℕ) (place i d : ℕ) → i < length places → place ≤ slice_index_or places i d → below places place ≤ i
few_below [] place i d within more = absurd (omega arith)
few_below (other ∷ places) place zero d within more = ap_le (sym (ap (λ b. if b then below places place + 1 else 0) (not_less other place more)))
  where
    ap_le : {n : ℕ} → 0 ≡ n → n ≤ 0
    ap_le e = omega (arith, e)
few_below (other ∷ places) place (suc i) d within more = go (nat_lt other place) (few_below places place i d (omega arith) more)
  where
    go : (b : Bool) → below places place ≤ i → (if b then below places place + 1 else 0) ≤ suc i
    go true few = omega arith
    go false few = omega arith

above_first : (places : List ℕ) (least i d : ℕ) → AreRisingFrom least places → i < length places → least ≤ slice_index_or places i d
above_first [] least i d rising within = absurd (omega arith)
above_first (other ∷ places) least zero d rising within = rising.0
above_first (other ∷ places) least (suc i) d rising within =
    let later : other + 1 ≤ slice_index_or places i d = above_first places (other + 1) i d rising.1 (omega arith) in
    let h : least ≤ other = rising.0 in omega arith

-- what is below a place has more below that than stand before it
pub more_below : (places : List ℕ) (least place i d : ℕ) → AreRisingFrom least places → i < length places → slice_index_or places i d < place → i < below places place
more_below [] least place i d rising within h = absurd (omega arith)
more_below (other ∷ places) least place zero d rising within h = subst (λ n. 0 < n) (sym (ap (λ b. if b then below places place + 1 else 0) (less other place h))) (omega arith)
more_below (other ∷ places) least place (suc i) d rising within h =
    let above : other + 1 ≤ slice_index_or places i d = above_first places (other + 1) i d rising.1 (omega arith) in
    let later : i < below places place = more_below places (other + 1) place i d rising.1 (omega arith) h in
    subst (λ n. suc i < n) (sym (ap (λ b. if b then below places place + 1 else 0) (less other place (omega arith)))) (omega arith)

pub all_below : (places : List ℕ) (place : ℕ) → below places place ≤ length places
all_below [] place = omega arith
all_below (other ∷ places) place = go (nat_lt other place) (all_below places place)
  where
    go : (b : Bool) → below places place ≤ length places → (if b then below places place + 1 else 0) ≤ length (other ∷ places)
    go true few = omega arith
    go false few = omega arith

-- ---- one is put in, or taken out

-- a place stands at this number of them
abbrev pub Stands : List ℕ → ℕ → ℕ → Type 0
Stands places at place = slice_get places at ≡ Some place

-- it stands there already: it stays, or is removed
pub stands_with : (places : List ℕ) (place : ℕ) → Stands places (below places place) place
    → (with_place places place true ≡ places) × (with_place places place false ≡ remove places (below places place))
stands_with [] place stands = cc
stands_with (other ∷ places) place stands = go (nat_lt other place) refl stands (stands_with places place)
  where
    here : (same : Bool) → (other == place) ≡ same → Some other ≡ Some place
        → ((if same then other ∷ places else place ∷ other ∷ places) ≡ other ∷ places)
        × ((if same then places else other ∷ places) ≡ remove (other ∷ places) 0)
    here true is e = (refl, refl)
    here false is e = elim (eqb_tells other place) [ inl it ↦ absurd (both it.0 is) | inr it ↦ absurd (it.1 (cc)) ]

    go : (b : Bool) → nat_lt other place ≡ b → slice_get (other ∷ places) (if b then below places place + 1 else 0) ≡ Some place
        → (Stands places (below places place) place → (with_place places place true ≡ places) × (with_place places place false ≡ remove places (below places place)))
        → ((if b then other ∷ with_place places place true else if other == place then other ∷ places else place ∷ other ∷ places) ≡ other ∷ places)
        × ((if b then other ∷ with_place places place false else if other == place then places else other ∷ places)
        ≡ remove (other ∷ places) (if b then below places place + 1 else 0))
    go true is e more = let later = more (at_next e) in (ap (λ rest. other ∷ rest) later.0, ap (λ rest. other ∷ rest) later.1 ∙ removed)
      where
        next : below places place + 1 ≡ suc (below places place)
        next = omega arith

        at_next : slice_get (other ∷ places) (below places place + 1) ≡ Some place → slice_get places (below places place) ≡ Some place
        at_next f = sym (ap (slice_get (other ∷ places)) next) ∙ f

        removed : other ∷ remove places (below places place) ≡ remove (other ∷ places) (below places place + 1)
        removed = ap (remove (other ∷ places)) (sym next)
    go false is e more = here (other == place) refl e

-- it doesn't: it is put there, or nothing changes
pub goes_with : (places : List ℕ) (place : ℕ) → (Stands places (below places place) place → ⊥)
    → (with_place places place true ≡ insert places (below places place) place) × (with_place places place false ≡ places)
goes_with [] place none = (refl, refl)
goes_with (other ∷ places) place none = go (nat_lt other place) refl none (goes_with places place)
  where
    here : (same : Bool) → (other == place) ≡ same → (Some other ≡ Some place → ⊥)
        → ((if same then other ∷ places else place ∷ other ∷ places) ≡ insert (other ∷ places) 0 place)
        × ((if same then places else other ∷ places) ≡ other ∷ places)
    here true is apart = elim (eqb_tells other place) [ inl it ↦ absurd (apart (ap Some it.1)) | inr it ↦ absurd (both is it.0) ]
    here false is apart = (refl, refl)

    go : (b : Bool) → nat_lt other place ≡ b → (slice_get (other ∷ places) (if b then below places place + 1 else 0) ≡ Some place → ⊥)
        → ((Stands places (below places place) place → ⊥) → (with_place places place true ≡ insert places (below places place) place) × (with_place places place false ≡ places))
        → ((if b then other ∷ with_place places place true else if other == place then other ∷ places else place ∷ other ∷ places)
        ≡ insert (other ∷ places) (if b then below places place + 1 else 0) place)
        × ((if b then other ∷ with_place places place false else if other == place then places else other ∷ places) ≡ other ∷ places)
    go true is apart more = let later = more (λ f. apart (ap (slice_get (other ∷ places)) next ∙ f)) in (ap (λ rest. other ∷ rest) later.0 ∙ put, ap (λ rest. other ∷ rest) later.1)
      where
        next : below places place + 1 ≡ suc (below places place)
        next = omega arith

        put : other ∷ insert places (below places place) place ≡ insert (other ∷ places) (below places place + 1) place
        put = ap (λ n. insert (other ∷ places) n place) (sym next)
    go false is apart more = here (other == place) refl apart

-- ---- the test is made anew for one task

-- a place before all
before_all : (places : List ℕ) (place : ℕ) (there : Bool) → AreRisingFrom (place + 1) places → with_place places place there ≡ (if there then place ∷ places else places)
before_all [] place there rising = refl
before_all (other ∷ places) place there rising =
    let above : place + 1 ≤ other = rising.0 in
    ap (λ b. if b then other ∷ with_place places place there else if other == place then (if there then other ∷ places else places) else (if there then place ∷ other ∷ places else other ∷ places))
    (not_less other place (omega arith))
    ∙ ap (λ b. if b then (if there then other ∷ places else places) else (if there then place ∷ other ∷ places else other ∷ places)) (apart other place (omega arith))
  where
    apart : (a b : ℕ) → b + 1 ≤ a → (a == b) ≡ false
    apart a b h = elim (eqb_tells a b) [ inl is ↦ absurd (let same : a ≡ b = is.1 in omega arith) | inr is ↦ is.0 ]

-- behind one
behind_one : (first place : ℕ) (places : List ℕ) (there : Bool) → first < place → with_place (first ∷ places) place there ≡ first ∷ with_place places place there
behind_one first place places there h =
    ap (λ b. if b then first ∷ with_place places place there else if first == place then (if there then first ∷ places else places) else (if there then place ∷ first ∷ places else first ∷ places))
    (less first place h)

-- where no task has the pid nothing is made anew
pub none_anew : (passes anew : Task → Bool) (pid first from : ℕ) (tasks : List Task) → place_from from tasks pid ≡ None
    → places_from (but_for passes pid anew) first tasks ≡ places_from passes first tasks
none_anew passes anew pid first from [] none = refl
none_anew passes anew pid first from (task ∷ tasks) none = go (task.pid == pid) none (λ f. none_anew passes anew pid (first + 1) (from + 1) tasks f)
  where
    go : (b : Bool) → cond b (Some from) (place_from (from + 1) tasks pid) ≡ None
        → (place_from (from + 1) tasks pid ≡ None → places_from (but_for passes pid anew) (first + 1) tasks ≡ places_from passes (first + 1) tasks)
        → (if (if b then anew task else passes task) then first ∷ places_from (but_for passes pid anew) (first + 1) tasks else places_from (but_for passes pid anew) (first + 1) tasks)
        ≡ (if passes task then first ∷ places_from passes (first + 1) tasks else places_from passes (first + 1) tasks)
    go true f later = cc
    go false f later = ap (λ rest. if passes task then first ∷ rest else rest) (later f)

-- behind tasks whose pids rise from it none has it
none_later : (tasks : List Task) (pid from below : ℕ) → AreRising below tasks → pid ≤ below → place_from from tasks pid ≡ None
none_later [] pid from below rising less = refl
none_later (task ∷ tasks) pid from below rising less =
    let here : below < task.pid = rising.0 in
    ap (λ b. cond b (Some from) (place_from (from + 1) tasks pid)) (other task.pid pid (omega arith)) ∙ none_later tasks pid (from + 1) task.pid rising.1 (omega arith)
  where
    other : (a b : ℕ) → b < a → (a == b) ≡ false
    other a b h = elim (eqb_tells a b) [ inl is ↦ absurd (let same : a ≡ b = is.1 in omega arith) | inr is ↦ is.0 ]

at_least : (tasks : List Task) (pid from place : ℕ) → place_from from tasks pid ≡ Some place → from ≤ place
at_least [] pid from place e = cc
at_least (task ∷ tasks) pid from place e = go (task.pid == pid) e (λ f. at_least tasks pid (from + 1) place f)
  where
    go : (b : Bool) → cond b (Some from) (place_from (from + 1) tasks pid) ≡ Some place → (place_from (from + 1) tasks pid ≡ Some place → from + 1 ≤ place) → from ≤ place
    go true f later = let same : from ≡ place = (cc) in omega arith
    go false f later = let more : from + 1 ≤ place = later f in omega arith

-- the task of the pid that stands at a place was looked at anew
pub one_anew : (passes anew : Task → Bool) (pid first below place : ℕ) (tasks : List Task) (d : Task) → AreRising below tasks → place_from first tasks pid ≡ Some place
    → with_place (places_from passes first tasks) place (anew (slice_index_or tasks (place - first) d)) ≡ places_from (but_for passes pid anew) first tasks
one_anew passes anew pid first below place [] d rising e = cc
one_anew passes anew pid first below place (task ∷ tasks) d rising e = go (task.pid == pid) refl e (one_anew passes anew pid (first + 1) task.pid place tasks d rising.1)
  where
    rest : List ℕ
    rest = places_from passes (first + 1) tasks

    later : List ℕ
    later = places_from (but_for passes pid anew) (first + 1) tasks

    here : (passed there : Bool) → with_place (if passed then first ∷ rest else rest) first there ≡ (if there then first ∷ rest else rest)
    here true there =
        ap (λ b. if b then first ∷ with_place rest first there else if first == first then (if there then first ∷ rest else rest) else (if there then first ∷ first ∷ rest else first ∷ rest)) (not_less first first (omega arith))
        ∙ ap (λ b. if b then (if there then first ∷ rest else rest) else (if there then first ∷ first ∷ rest else first ∷ rest)) (itself first)
      where
        itself : (a : ℕ) → (a == a) ≡ true
        itself a = elim (eqb_tells a a) [ inl is ↦ is.0 | inr is ↦ absurd (is.1 refl) ]
    here false there = before_all rest first there (places_rise passes (first + 1) tasks)

    further : (passed there : Bool) → first < place → with_place (if passed then first ∷ rest else rest) place there ≡ (if passed then first ∷ with_place rest place there else with_place rest place there)
    further true there h = behind_one first place rest there h
    further false there h = refl

    go : (b : Bool) → (task.pid == pid) ≡ b → cond b (Some first) (place_from (first + 1) tasks pid) ≡ Some place
        → (place_from (first + 1) tasks pid ≡ Some place
        → with_place rest place (anew (slice_index_or tasks (place - (first + 1)) d)) ≡ later)
        → with_place (if passes task then first ∷ rest else rest) place (anew (slice_index_or (task ∷ tasks) (place - first) d))
        ≡ (if (if b then anew task else passes task) then first ∷ later else later)
    go true is f more =
        let same : first ≡ place = (cc) in
        let zero_of : place - first ≡ 0 = omega arith in
        let pids : task.pid ≡ pid = elim (eqb_tells task.pid pid) [ inl it ↦ it.1 | inr it ↦ absurd (both is it.0) ] in
        ap (λ n. with_place (if passes task then first ∷ rest else rest) place (anew (slice_index_or (task ∷ tasks) n d))) zero_of
        ∙ ap (λ p. with_place (if passes task then first ∷ rest else rest) p (anew task)) (sym same)
        ∙ here (passes task) (anew task)
        ∙ ap (λ ps. if anew task then first ∷ ps else ps) (sym (none_anew passes anew pid (first + 1) 0 tasks (none_later tasks pid 0 task.pid rising.1 (omega (arith, pids)))))
    go false is f more =
        let above : first + 1 ≤ place = at_least tasks pid (first + 1) place f in
        let next : place - first ≡ suc (place - (first + 1)) = omega arith in
        ap (λ n. with_place (if passes task then first ∷ rest else rest) place (anew (slice_index_or (task ∷ tasks) n d))) next
        ∙ further (passes task) (anew (slice_index_or tasks (place - (first + 1)) d)) (omega arith)
        ∙ ap (λ ps. if passes task then first ∷ ps else ps) (more f)

pub first_anew : (passes anew : Task → Bool) (pid place : ℕ) (tasks : List Task) (d : Task) → AreRising 0 tasks → place_from 0 tasks pid ≡ Some place
    → with_place (places_from passes 0 tasks) place (anew (slice_index_or tasks place d)) ≡ places_from (but_for passes pid anew) 0 tasks
first_anew passes anew pid place tasks d rising e =
    ap (λ n. with_place (places_from passes 0 tasks) place (anew (slice_index_or tasks n d))) (let same : place ≡ place - 0 = omega arith in same)
    ∙ one_anew passes anew pid 0 0 place tasks d rising e

-- ---- the test is made anew for some

-- for one more
pub each_and_one : (passes anew : Task → Bool) (pids : List ℕ) (pid : ℕ) (task : Task)
    → but_for (but_for_each passes pids anew) pid anew task ≡ but_for_each passes (pids ++ pid ∷ []) anew task
each_and_one passes anew pids pid task = go (is_among pids task.pid) (task.pid == pid) ∙ ap (λ b. if b then anew task else passes task) (sym (among pids))
  where
    among : (pids : List ℕ) → is_among (pids ++ pid ∷ []) task.pid ≡ (is_among pids task.pid || (task.pid == pid))
    among [] = either (task.pid == pid)
      where
        either : (b : Bool) → (b || false) ≡ b
        either true = refl
        either false = refl
    among (other ∷ pids) = ap (λ b. (task.pid == other) || b) (among pids) ∙ sym (assoc (task.pid == other))
      where
        assoc : (b : Bool) → ((b || is_among pids task.pid) || (task.pid == pid)) ≡ (b || (is_among pids task.pid || (task.pid == pid)))
        assoc true = refl
        assoc false = refl

    go : (a b : Bool) → (if b then anew task else (if a then anew task else passes task)) ≡ (if a || b then anew task else passes task)
    go true true = refl
    go true false = refl
    go false true = refl
    go false false = refl
