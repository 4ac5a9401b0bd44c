-- Which tasks are runnable behind a turn: those that were, but for the process's own and those of whom the store names.
use Rattle.std.proofs.Common.{◌≡◌, ◌≢◌, ℕ, zero, suc, ◌+◌, ◌-◌, ◌<◌, ◌≤◌, ◌==◌, ◌&&◌, nat_lt, not, Bool, true, false, cond, if◌then◌else◌, List, [], ◌∷◌, ◌++◌, length, refl, ap, sym, ◌∙◌, subst, arith, inl, inr, length-append, append-nil}
use Rattle.std.specs.List.{AllByRecursion, count_by}
use borrow.Author.Tests.{eqb-true, eq-eqb}
use Rattle.std.proofs.lemmas.Bool.Decides.{eqb_tells}
use Rattle.posix_defs.specs.declared.phases.Asked.{Asked}
use Rattle.posix_defs.specs.declared.phases.Phase.{Phase}
use Rattle.posix_defs.specs.declared.phases.Phase.TheVariants.{User, Dead}
use Rattle.posix_defs.specs.declared.phases.Task.{Task}
use Rattle.posix_defs.specs.declared.turner.Turned.{Turned}
use Rattle.posix_defs.specs.declared.turner.Turned.TheVariants as turned
use Rattle.posix_defs.specs.CoreEvent.{born, phase_after}
use Rattle.posix_defs.specs.CoreState.{phase_in, with_phase_in}
use Rattle.posix_defs.specs.Minding.{HasNamed, is_among}
use Rattle.posix_defs.specs.SoundTasks.{AreRising}
use Rattle.kern_tasks.specs.Calm.{leaves_asleep}
use Rattle.kern_tasks.specs.Room.{is_asleep}
use Rattle.kern_laws.proofs.BuriedTasks.{length-born}
use Rattle.kern_laws.proofs.Tasks.{each_append, each_map}
use Rattle.kern_tasks.specs.Runnable.{ArePlaces, born_place, but_for, but_for_each, is_runnable, places_from, runnable_in, turned_test}
use Rattle.kern_tasks.proofs.Picked.{counted_one, one_where, places_with}
use Rattle.kern_tasks.proofs.Runnables.{same_places}

both : {X : Type 0} {b : Bool} → b ≡ true → b ≡ false → X
both e f = cc

-- the same places by tests that agree on these tasks
pub places_agree : (one other : Task → Bool) (first : ℕ) (tasks : List Task) → AllByRecursion (λ task. one task ≡ other task) tasks → places_from one first tasks ≡ places_from other first tasks
places_agree one other first [] agree = refl
places_agree one other first (task ∷ tasks) agree =
    ap (λ b. if b then first ∷ places_from one (first + 1) tasks else places_from one (first + 1) tasks) agree.0
    ∙ ap (λ rest. if other task then first ∷ rest else rest) (places_agree one other (first + 1) tasks agree.1)

-- ---- who was born

-- one task more that passes has the place behind all
places_behind : (passes : Task → Bool) (first : ℕ) (tasks : List Task) (last : Task) → passes last ≡ true
    → places_from passes first (tasks ++ last ∷ []) ≡ places_from passes first tasks ++ (first + length tasks) ∷ []
places_behind passes first [] last passed =
    ap (λ b. if b then first ∷ [] else []) passed ∙ ap (λ n. n ∷ []) (let same : first ≡ first + 0 = omega arith in same)
places_behind passes first (task ∷ tasks) last passed = go (passes task) (places_behind passes (first + 1) tasks last passed)
  where
    behind : first + 1 + length tasks ≡ first + length (task ∷ tasks)
    behind = omega arith

    rest : List ℕ
    rest = places_from passes (first + 1) tasks

    go : (b : Bool) → places_from passes (first + 1) (tasks ++ last ∷ []) ≡ rest ++ (first + 1 + length tasks) ∷ []
        → (if b then first ∷ places_from passes (first + 1) (tasks ++ last ∷ []) else places_from passes (first + 1) (tasks ++ last ∷ []))
        ≡ (if b then first ∷ rest else rest) ++ (first + length (task ∷ tasks)) ∷ []
    go true same = ap (λ ps. first ∷ ps) (same ∙ ap (λ n. rest ++ n ∷ []) behind)
    go false same = same ∙ ap (λ n. rest ++ n ∷ []) behind

-- ---- its own phase

-- A process's own task passed, and passes for now whatever its phase is.
pub own_passes : (settled : ℕ → Bool) (first below : ℕ) (tasks : List Task) (pid : ℕ) (phase : Phase) → AreRising below tasks → is_asleep (phase_in tasks pid) ≡ false
    → places_from (but_for (is_runnable settled) pid (λ _. true)) first (with_phase_in tasks pid phase) ≡ places_from (is_runnable settled) first tasks
own_passes settled first below [] pid phase rising awake = refl
own_passes settled first below (task ∷ tasks) pid phase rising awake = go (task.pid == pid) refl (own_passes settled (first + 1) task.pid tasks pid phase rising.1)
  where
    none_else : (least : ℕ) (first : ℕ) (others : List Task) → AreRising least others → pid ≤ least
        → places_from (but_for (is_runnable settled) pid (λ _. true)) first others ≡ places_from (is_runnable settled) first others
    none_else least first [] up under = refl
    none_else least first (other ∷ others) up under =
        let above : least < other.pid = up.0 in
        ap (λ b. if (if b then true else is_runnable settled other) then first ∷ places_from (but_for (is_runnable settled) pid (λ _. true)) (first + 1) others
        else places_from (but_for (is_runnable settled) pid (λ _. true)) (first + 1) others) (differs other.pid pid (omega arith))
        ∙ ap (λ rest. if is_runnable settled other then first ∷ rest else rest) (none_else other.pid (first + 1) others up.1 (omega arith))
      where
        differs : (a b : ℕ) → b < a → (a == b) ≡ false
        differs a b h = elim (eqb_tells a b) [ inl is ↦ absurd (let same : a ≡ b = is.1 in omega arith) | inr is ↦ is.0 ]

    go : (b : Bool) → (task.pid == pid) ≡ b
        → (is_asleep (phase_in tasks pid) ≡ false
        → places_from (but_for (is_runnable settled) pid (λ _. true)) (first + 1) (with_phase_in tasks pid phase) ≡ places_from (is_runnable settled) (first + 1) tasks)
        → places_from (but_for (is_runnable settled) pid (λ _. true)) first (if b then record task { phase = phase } ∷ tasks else task ∷ with_phase_in tasks pid phase)
        ≡ places_from (is_runnable settled) first (task ∷ tasks)
    go true is later =
        let same : task.pid ≡ pid = elim (eqb_tells task.pid pid) [ inl it ↦ it.1 | inr it ↦ absurd (both is it.0) ] in
        let phased : is_asleep task.phase ≡ false = ap is_asleep (sym (ap (λ b. if b then task.phase else phase_in tasks pid) is)) ∙ awake in
        ap (λ b. if (if b then true else is_runnable settled (record task { phase = phase })) then first ∷ places_from (but_for (is_runnable settled) pid (λ _. true)) (first + 1) tasks
        else places_from (but_for (is_runnable settled) pid (λ _. true)) (first + 1) tasks) is
        ∙ ap (λ ps. first ∷ ps) (none_else task.pid (first + 1) tasks rising.1 (omega (arith, same)))
        ∙ sym (ap (λ b. if not (b && settled task.pid) then first ∷ places_from (is_runnable settled) (first + 1) tasks else places_from (is_runnable settled) (first + 1) tasks) phased)
    go false is later =
        ap (λ b. if (if b then true else is_runnable settled task) then first ∷ places_from (but_for (is_runnable settled) pid (λ _. true)) (first + 1) (with_phase_in tasks pid phase)
        else places_from (but_for (is_runnable settled) pid (λ _. true)) (first + 1) (with_phase_in tasks pid phase)) is
        ∙ ap (λ rest. if is_runnable settled task then first ∷ rest else rest)
        (later (ap is_asleep (ap (λ b. if b then task.phase else phase_in tasks pid) (sym is)) ∙ awake))

-- ---- behind the turn

-- what is told of a task that is the process's own, whose call sleeps or doesn't, or is another's
module _ (old new : ℕ → Bool) (named : List ℕ) (pid : ℕ) (has : HasNamed old new named) where
  abbrev before : Task → Bool
  before = but_for (is_runnable old) pid (λ _. true)

  -- of whom the store names
  of_named : (sleeps : Bool) (task : Task) → is_among named task.pid ≡ true → turned_test before pid sleeps named (is_runnable new) task ≡ is_runnable new task
  of_named sleeps task among = ap (λ b. if b then is_runnable new task else (if sleeps then but_for before pid (is_runnable new) else before) task) among

  -- of another
  still : (task : Task) → is_among named task.pid ≡ false → is_runnable old task ≡ is_runnable new task
  still task among = ap (λ b. not (is_asleep task.phase && b)) (sym (has task.pid among))

  other : (sleeps : Bool) (task : Task) → (task.pid == pid) ≡ false → (if sleeps then but_for before pid (is_runnable new) else before) task ≡ is_runnable old task
  other true task apart =
      ap (λ b. if b then is_runnable new task else (if b then true else is_runnable old task)) apart
  other false task apart = ap (λ b. if b then true else is_runnable old task) apart

  -- its own
  own : (sleeps : Bool) (task : Task) → (task.pid == pid) ≡ true → is_asleep task.phase ≡ sleeps → (if sleeps then but_for before pid (is_runnable new) else before) task ≡ is_runnable new task
  own true task same asleep = ap (λ b. if b then is_runnable new task else before task) same
  own false task same asleep = ap (λ b. if b then true else is_runnable old task) same ∙ sym (ap (λ b. not (b && new task.pid)) asleep)

  pub anew_is : (sleeps : Bool) (task : Task) → (task.pid ≡ pid → is_asleep task.phase ≡ sleeps) → turned_test before pid sleeps named (is_runnable new) task ≡ is_runnable new task
  anew_is sleeps task fits = go (is_among named task.pid) refl
    where
      here : is_among named task.pid ≡ false → turned_test before pid sleeps named (is_runnable new) task ≡ (if sleeps then but_for before pid (is_runnable new) else before) task
      here among = ap (λ b. if b then is_runnable new task else (if sleeps then but_for before pid (is_runnable new) else before) task) among

      go : (among : Bool) → is_among named task.pid ≡ among → turned_test before pid sleeps named (is_runnable new) task ≡ is_runnable new task
      go true among = of_named sleeps task among
      go false among = here among ∙ elim (eqb_tells task.pid pid) [
        | inl same ↦ own sleeps task same.0 (fits same.1)
        | inr apart ↦ other sleeps task apart.0 ∙ still task among
      ]

-- Those of whom the store names were looked at anew, and of all others it has the same in mind.
pub stirred_is : (old new : ℕ → Bool) (named : List ℕ) (tasks : List Task) → HasNamed old new named
    → places_from (but_for_each (is_runnable old) named (is_runnable new)) 0 tasks ≡ runnable_in new tasks
stirred_is old new named tasks has = same_places (but_for_each (is_runnable old) named (is_runnable new)) (is_runnable new) 0 tasks (λ task. go task (is_among named task.pid) refl)
  where
    go : (task : Task) (b : Bool) → is_among named task.pid ≡ b → (if is_among named task.pid then is_runnable new task else is_runnable old task) ≡ is_runnable new task
    go task true e = ap (λ b. if b then is_runnable new task else is_runnable old task) e
    go task false e = ap (λ b. if b then is_runnable new task else is_runnable old task) e ∙ ap (λ b. not (is_asleep task.phase && b)) (sym (has task.pid e))

-- ---- a call goes on

-- a task that was awake and is stays runnable
pub still_runnable : (settled : ℕ → Bool) (items placed : List Task) (pid : ℕ) (phase : Phase) (runnable : List ℕ) → runnable ≡ runnable_in settled items
    → is_asleep (phase_in items pid) ≡ false → is_asleep phase ≡ false → placed ≡ with_phase_in items pid phase → runnable ≡ runnable_in settled placed
still_runnable settled items placed pid phase runnable is was stays placed_is =
    is
    ∙ sym (places_with (is_runnable settled) 0 items pid phase (λ task own same.
    ap (λ b. not (b && settled task.pid)) (ap is_asleep same ∙ was) ∙ sym (ap (λ b. not (b && settled task.pid)) stays)))
    ∙ ap (runnable_in settled) (sym placed_is)

-- and so does one that isn't settled, whether it sleeps or not
pub woken_runnable : (settled : ℕ → Bool) (items placed : List Task) (pid : ℕ) (phase : Phase) (runnable : List ℕ) → runnable ≡ runnable_in settled items
    → settled pid ≡ false → placed ≡ with_phase_in items pid phase → runnable ≡ runnable_in settled placed
woken_runnable settled items placed pid phase runnable is unsettled placed_is =
    is
    ∙ sym (places_with (is_runnable settled) 0 items pid phase (λ task own same.
    goes (is_asleep task.phase) task.pid own ∙ sym (goes (is_asleep phase) task.pid own)))
    ∙ ap (runnable_in settled) (sym placed_is)
  where
    either : (b : Bool) → not (b && false) ≡ true
    either true = refl
    either false = refl

    goes : (b : Bool) (of : ℕ) → of ≡ pid → not (b && settled of) ≡ true
    goes b of own = ap (λ n. not (b && settled n)) own ∙ ap (λ x. not (b && x)) unsettled ∙ either b

-- ---- how many sleep

abbrev counted : List Task → ℕ
counted tasks = count_by (λ task. is_asleep task.phase) tasks

-- where the task of a pid goes into another phase
pub asleep_with : (tasks : List Task) (pid : ℕ) (old phase : Phase) → phase_in tasks pid ≡ old → Dead ≢ old
    → count_by (λ task. is_asleep task.phase) (with_phase_in tasks pid phase) + one_where (is_asleep old)
    ≡ count_by (λ task. is_asleep task.phase) tasks + one_where (is_asleep phase)
asleep_with [] pid old phase is other = absurd (other is)
asleep_with (task ∷ tasks) pid old phase is other = go (task.pid == pid) is (λ e. asleep_with tasks pid old phase e other)
  where
    before : counted (task ∷ tasks) ≡ one_where (is_asleep task.phase) + counted tasks
    before = counted_one (λ t. is_asleep t.phase) task tasks

    go : (b : Bool) → (if b then task.phase else phase_in tasks pid) ≡ old
        → (phase_in tasks pid ≡ old → counted (with_phase_in tasks pid phase) + one_where (is_asleep old) ≡ counted tasks + one_where (is_asleep phase))
        → counted (if b then record task { phase = phase } ∷ tasks else task ∷ with_phase_in tasks pid phase) + one_where (is_asleep old)
        ≡ counted (task ∷ tasks) + one_where (is_asleep phase)
    go true e later =
        let after : counted (record task { phase = phase } ∷ tasks) ≡ one_where (is_asleep phase) + counted tasks = counted_one (λ t. is_asleep t.phase) (record task { phase = phase }) tasks in
        let same : one_where (is_asleep task.phase) ≡ one_where (is_asleep old) = ap (λ p. one_where (is_asleep p)) e in
        omega (arith, before)
    go false e later =
        let after : counted (task ∷ with_phase_in tasks pid phase) ≡ one_where (is_asleep task.phase) + counted (with_phase_in tasks pid phase) =
        counted_one (λ t. is_asleep t.phase) task (with_phase_in tasks pid phase) in
        let rest : counted (with_phase_in tasks pid phase) + one_where (is_asleep old) ≡ counted tasks + one_where (is_asleep phase) = later e in
        omega (arith, before)

-- as many, where the task was awake and is
pub still_asleep : (items placed : List Task) (pid : ℕ) (old phase : Phase) (asleep : ℕ) → asleep ≡ count_by (λ task. is_asleep task.phase) items
    → phase_in items pid ≡ old → Dead ≢ old → is_asleep old ≡ false → is_asleep phase ≡ false → placed ≡ with_phase_in items pid phase
    → asleep ≡ count_by (λ task. is_asleep task.phase) placed
still_asleep items placed pid old phase asleep is found there was stays placed_is =
    let moved : counted (with_phase_in items pid phase) + one_where (is_asleep old) ≡ counted items + one_where (is_asleep phase) = asleep_with items pid old phase found there in
    let none : one_where (is_asleep old) ≡ 0 = ap (λ b. one_where b) was in
    let no_more : one_where (is_asleep phase) ≡ 0 = ap (λ b. one_where b) stays in
    let now : counted placed ≡ counted (with_phase_in items pid phase) = ap counted placed_is in
    omega arith

-- one less, where it slept and is awake
pub woken_asleep : (items placed : List Task) (pid : ℕ) (old phase : Phase) (asleep : ℕ) → asleep ≡ count_by (λ task. is_asleep task.phase) items
    → phase_in items pid ≡ old → Dead ≢ old → is_asleep old ≡ true → is_asleep phase ≡ false → placed ≡ with_phase_in items pid phase
    → asleep ≡ count_by (λ task. is_asleep task.phase) placed + 1
woken_asleep items placed pid old phase asleep is found there was stays placed_is =
    let moved : counted (with_phase_in items pid phase) + one_where (is_asleep old) ≡ counted items + one_where (is_asleep phase) = asleep_with items pid old phase found there in
    let one : one_where (is_asleep old) ≡ 1 = ap (λ b. one_where b) was in
    let no_more : one_where (is_asleep phase) ≡ 0 = ap (λ b. one_where b) stays in
    let now : counted placed ≡ counted (with_phase_in items pid phase) = ap counted placed_is in
    omega arith

-- what a turn leaves asleep
pub asleep_after : (asked : Asked) (told : Turned) → is_asleep (phase_after asked told) ≡ leaves_asleep told
asleep_after asked (turned.Done _) = refl
asleep_after asked (turned.Part _) = refl
asleep_after asked turned.Sleep = refl
asleep_after asked (turned.Ended _) = refl
asleep_after asked turned.Gone = refl

-- who was born doesn't sleep
pub asleep_born : (tasks : List Task) (pid count : ℕ) → count_by (λ task. is_asleep task.phase) (tasks ++ born pid count) ≡ count_by (λ task. is_asleep task.phase) tasks
asleep_born [] pid zero = refl
asleep_born [] pid (suc count) =
    let first : counted (record { pid = pid; phase = User } ∷ born (pid + 1) count) ≡ 0 + counted (born (pid + 1) count) =
    counted_one (λ t. is_asleep t.phase) (record { pid = pid; phase = User }) (born (pid + 1) count) in
    let none : counted (born (pid + 1) count) ≡ 0 = asleep_born [] (pid + 1) count in
    let nothing : 0 + counted (born (pid + 1) count) ≡ 0 = omega arith in
    first ∙ nothing
asleep_born (task ∷ tasks) pid count =
    counted_one (λ t. is_asleep t.phase) task (tasks ++ born pid count) ∙ ap (λ n. one_where (is_asleep task.phase) + n) (asleep_born tasks pid count)
    ∙ sym (counted_one (λ t. is_asleep t.phase) task tasks)

-- ---- all of it

-- where one was born there is one
pub some_born : (kept all : List Task) (before after : ℕ) → all ≡ kept ++ born (before + 1) (after - before) → before < after → 0 < length all
some_born kept all before after all_is more =
    let many : length all ≡ length kept + length (born (before + 1) (after - before)) = ap length all_is ∙ length-append kept (born (before + 1) (after - before)) in
    let made : length (born (before + 1) (after - before)) ≡ after - before = length-born (before + 1) (after - before) in
    omega arith

-- one process was made, or none
pub record WasBorn (before after : ℕ) (one : Bool) : Type 0 where
  pub some : one ≡ true → after ≡ before + 1
  pub none : one ≡ false → after ≤ before

-- a process's own task is the only one of its pid
own_alone : (below pid : ℕ) (tasks : List Task) (phase : Phase) → AreRising below tasks
    → AllByRecursion (λ task. task.pid ≡ pid → is_asleep task.phase ≡ is_asleep phase) (with_phase_in tasks pid phase)
own_alone below pid [] phase rising = tt
own_alone below pid (task ∷ tasks) phase rising = go (task.pid == pid) refl (own_alone task.pid pid tasks phase rising.1)
  where
    apart : (least : ℕ) (others : List Task) → AreRising least others → pid ≤ least → AllByRecursion (λ other. other.pid ≡ pid → is_asleep other.phase ≡ is_asleep phase) others
    apart least [] up under = tt
    apart least (other ∷ others) up under =
        let above : least < other.pid = up.0 in
        (λ same. absurd (let e : other.pid ≡ pid = same in omega arith), apart other.pid others up.1 (omega arith))

    go : (b : Bool) → (task.pid == pid) ≡ b
        → AllByRecursion (λ other. other.pid ≡ pid → is_asleep other.phase ≡ is_asleep phase) (with_phase_in tasks pid phase)
        → AllByRecursion (λ other. other.pid ≡ pid → is_asleep other.phase ≡ is_asleep phase) (if b then record task { phase = phase } ∷ tasks else task ∷ with_phase_in tasks pid phase)
    go true is rest = (λ same. refl, apart task.pid tasks rising.1 (let e : task.pid ≡ pid = eqb-true task.pid pid is in omega arith))
    go false is rest = (λ same. absurd (both (eq-eqb task.pid pid same) is), rest)

born_apart : (P : Task → Type 0) (pid first count : ℕ) → pid < first → AllByRecursion (λ task. task.pid ≡ pid → P task) (born first count)
born_apart P pid first zero below = tt
born_apart P pid first (suc count) below = (λ same. absurd (let e : first ≡ pid = same in omega arith), born_apart P pid (first + 1) count (omega arith))

-- A turn of a process, which was awake, left its task in this phase, and one process more or none.
module _ (old : ℕ → Bool) (pid before after : ℕ) (one : Bool) (phase : Phase) (items placed all : List Task) (kept : List ℕ) (rising : AreRising 0 items)
    (made : pid ≤ before) (awake : is_asleep (phase_in items pid) ≡ false) (placed_is : placed ≡ with_phase_in items pid phase)
    (all_is : all ≡ placed ++ born (before + 1) (after - before)) (was_born : WasBorn before after one) (kept_is : kept ≡ runnable_in old items) where
  -- the process's own task passes for now
  abbrev own_too : Task → Bool
  own_too = but_for (is_runnable old) pid (λ _. true)

  placed_before : kept ≡ places_from own_too 0 placed
  placed_before = kept_is ∙ sym (own_passes old 0 0 items pid phase rising awake) ∙ ap (places_from own_too 0) (sym placed_is)

  either : (b : Bool) → (if b then true else true) ≡ true
  either true = refl
  either false = refl

  pub kept_before : kept ++ born_place all one ≡ places_from own_too 0 all
  kept_before = go one was_born
    where
      go : (b : Bool) → WasBorn before after b → kept ++ born_place all b ≡ places_from own_too 0 all
      go true so =
          let last : Task = record { pid = before + 1; phase = User } in
          let once : after - before ≡ 1 = (let e : after ≡ before + 1 = so.some refl in omega arith) in
          let all_now : all ≡ placed ++ last ∷ [] = all_is ∙ ap (λ n. placed ++ born (before + 1) n) once in
          let many : length all ≡ length placed + 1 = ap length all_now ∙ length-append placed (last ∷ []) in
          let place : length all - 1 ≡ 0 + length placed = omega arith in
          ap (λ n. kept ++ n ∷ []) place ∙ ap (λ ks. ks ++ (0 + length placed) ∷ []) placed_before
          ∙ sym (places_behind own_too 0 placed last (either (before + 1 == pid))) ∙ ap (places_from own_too 0) (sym all_now)
      go false so =
          let never : after - before ≡ 0 = (let e : after ≤ before = so.none refl in omega arith) in
          let all_now : all ≡ placed = all_is ∙ ap (λ n. placed ++ born (before + 1) n) never ∙ append-nil placed in
          append-nil kept ∙ placed_before ∙ ap (places_from own_too 0) (sym all_now)

  pub are_places : ArePlaces all (kept ++ born_place all one)
  are_places = record { passes = own_too; same = kept_before }

  -- and behind the look those are runnable that the store says
  pub turned_runnable : (new : ℕ → Bool) (named : List ℕ) (sleeps : Bool) (looked : List ℕ) → HasNamed old new named → is_asleep phase ≡ sleeps
      → ((passes : Task → Bool) → kept ++ born_place all one ≡ places_from passes 0 all
      → looked ≡ places_from (turned_test passes pid sleeps named (is_runnable new)) 0 all)
      → looked ≡ runnable_in new all
  turned_runnable new named sleeps looked has asleep looks =
      let own : AllByRecursion (λ task. task.pid ≡ pid → is_asleep task.phase ≡ is_asleep phase) placed =
      subst (AllByRecursion (λ task. task.pid ≡ pid → is_asleep task.phase ≡ is_asleep phase)) (sym placed_is) (own_alone 0 pid items phase rising) in
      let each : AllByRecursion (λ task. task.pid ≡ pid → is_asleep task.phase ≡ is_asleep phase) all =
      subst (AllByRecursion (λ task. task.pid ≡ pid → is_asleep task.phase ≡ is_asleep phase)) (sym all_is)
      (each_append (λ task. task.pid ≡ pid → is_asleep task.phase ≡ is_asleep phase) placed (born (before + 1) (after - before)) own
      (born_apart (λ task. is_asleep task.phase ≡ is_asleep phase) pid (before + 1) (after - before) (omega arith))) in
      looks own_too kept_before
      ∙ places_agree (turned_test own_too pid sleeps named (is_runnable new)) (is_runnable new) 0 all
      (each_map (λ task. task.pid ≡ pid → is_asleep task.phase ≡ is_asleep phase) (λ task. turned_test own_too pid sleeps named (is_runnable new) task ≡ is_runnable new task) all
      (λ task fits. anew_is old new named pid has sleeps task (λ same. fits same ∙ asleep)) each)

  -- and so many sleep
  pub turned_asleep : (sleeps : Bool) (count : ℕ) → is_asleep phase ≡ sleeps → Dead ≢ phase_in items pid → count ≡ count_by (λ task. is_asleep task.phase) items
      → count + (if sleeps then 1 else 0) ≡ count_by (λ task. is_asleep task.phase) all
  turned_asleep sleeps count asleep there is =
      let moved : counted (with_phase_in items pid phase) + one_where (is_asleep (phase_in items pid)) ≡ counted items + one_where (is_asleep phase) =
      asleep_with items pid (phase_in items pid) phase refl there in
      let none : one_where (is_asleep (phase_in items pid)) ≡ 0 = ap (λ b. one_where b) awake in
      let one_more : one_where (is_asleep phase) ≡ one_where sleeps = ap one_where asleep in
      let all_counted : counted all ≡ counted (with_phase_in items pid phase) =
      ap counted all_is ∙ asleep_born placed (before + 1) (after - before) ∙ ap counted placed_is in
      omega arith
