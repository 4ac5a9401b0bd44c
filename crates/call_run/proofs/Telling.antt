-- The sleepers of whom something is told: where each stands among them, and what is told of whom when they change.
use Rattle.std.proofs.Common.{◌≡◌, ◌≢◌, ℕ, zero, suc, ◌+◌, ◌-◌, ◌<◌, ◌≤◌, ◌==◌, ◌||◌, nat_lt, not, Bool, true, false, cond, if◌then◌else◌, List, [], ◌∷◌, ◌++◌, length, Option, None, Some, slice_set, slice_index_or, remove, refl, ap, sym, ◌∙◌, subst, arith, min, map, ℤ, length-set}
use Rattle.std.specs.Prelude.{insert}
use Rattle.std.specs.List.{AllByRecursion, refill}
use Rattle.arrayvec.proofs.ArrayVecLemmas.{items-with_items}
use borrow.Author.Tests.{eqb-true, eq-eqb, le-ltb, lt-ltb, ltb-false, ltb-true}
use Rattle.posix_defs.specs.Minding.{HasNamed, is_among}
use Rattle.call_run.specs.declared.sleepers.Channel.{Channel}
use Rattle.call_run.specs.declared.sleepers.Sleeper.{Sleeper}
use Rattle.call_run.specs.Sleepers.{AreRising, HasBegun, NamesMore, NamesOne, begun, has_stood, is_anew, is_settled, is_so, place_in, stands_in, told_of, with_sleeper, without}

both : {X : Type 0} {b : Bool} → b ≡ true → b ≡ false → X
both e f = cc

-- two numbers that differ
apart : (a b : ℕ) → a ≢ b → (a == b) ≡ false
apart a b other = go (a == b) refl
  where
    go : (t : Bool) → (a == b) ≡ t → (a == b) ≡ false
    go true e = absurd (other (eqb-true a b e))
    go false e = e

above : (a b : ℕ) → b < a → (a == b) ≡ false
above a b more = apart a b (λ same. omega (arith, more, same))

-- ---- where a process stands

pub all_in : (told : List Sleeper) (pid : ℕ) → place_in told pid ≤ length told
all_in [] pid = omega arith
all_in (sleeper ∷ told) pid = go (nat_lt sleeper.pid pid) (all_in told pid)
  where
    go : (b : Bool) → place_in told pid ≤ length told → (if b then place_in told pid + 1 else 0) ≤ length (sleeper ∷ told)
    go true few = omega arith
    go false few = omega arith

-- pids rise, so no more are below one than it numbers
pub under_in : (told : List Sleeper) (least pid : ℕ) → AreRising least told → place_in told pid ≤ pid - least
under_in [] least pid rising = omega arith
under_in (sleeper ∷ told) least pid rising = go (nat_lt sleeper.pid pid) refl (under_in told sleeper.pid pid rising.1)
  where
    go : (b : Bool) → nat_lt sleeper.pid pid ≡ b → place_in told pid ≤ pid - sleeper.pid → (if b then place_in told pid + 1 else 0) ≤ pid - least
    go true e few =
        let below : sleeper.pid < pid = ltb-true sleeper.pid pid e in
        let here : least < sleeper.pid = rising.0 in
        omega arith
    go false e few = omega arith

-- one that isn't below a pid has no more below it than stand before it
pub few_in : (told : List Sleeper) (pid i : ℕ) (d : Sleeper) → i < length told → pid ≤ (slice_index_or told i d).pid → place_in told pid ≤ i
few_in [] pid i d within more = absurd (omega arith)
few_in (sleeper ∷ told) pid zero d within more =
    subst (λ n. n ≤ 0) (sym (ap (λ b. if b then place_in told pid + 1 else 0) (le-ltb sleeper.pid pid more))) (omega arith)
few_in (sleeper ∷ told) pid (suc i) d within more = go (nat_lt sleeper.pid pid) (few_in told pid i d (omega arith) more)
  where
    go : (b : Bool) → place_in told pid ≤ i → (if b then place_in told pid + 1 else 0) ≤ suc i
    go true few = omega arith
    go false few = omega arith

above_first : (told : List Sleeper) (least i : ℕ) (d : Sleeper) → AreRising least told → i < length told → least < (slice_index_or told i d).pid
above_first [] least i d rising within = absurd (omega arith)
above_first (sleeper ∷ told) least zero d rising within = rising.0
above_first (sleeper ∷ told) least (suc i) d rising within =
    let later : sleeper.pid < (slice_index_or told i d).pid = above_first told sleeper.pid i d rising.1 (omega arith) in
    let here : least < sleeper.pid = rising.0 in
    omega arith

-- one that is below a pid has more below that than stand before it
pub more_in : (told : List Sleeper) (least pid i : ℕ) (d : Sleeper) → AreRising least told → i < length told → (slice_index_or told i d).pid < pid → i < place_in told pid
more_in [] least pid i d rising within less = absurd (omega arith)
more_in (sleeper ∷ told) least pid zero d rising within less =
    subst (λ n. 0 < n) (sym (ap (λ b. if b then place_in told pid + 1 else 0) (lt-ltb sleeper.pid pid less))) (omega arith)
more_in (sleeper ∷ told) least pid (suc i) d rising within less =
    let later : i < place_in told pid = more_in told sleeper.pid pid i d rising.1 (omega arith) less in
    let here : sleeper.pid < (slice_index_or told i d).pid = above_first told sleeper.pid i d rising.1 (omega arith) in
    let below : sleeper.pid < pid = omega arith in
    subst (λ n. suc i < n) (sym (ap (λ b. if b then place_in told pid + 1 else 0) (lt-ltb sleeper.pid pid below))) (omega arith)

pub near_in : (told : List Sleeper) (pid n : ℕ) → AreRising 0 told → n ≡ min (length told) pid → (n ≤ length told) × (place_in told pid ≤ n)
near_in told pid n rising is =
    let all : place_in told pid ≤ length told = all_in told pid in
    let under : place_in told pid ≤ pid - 0 = under_in told 0 pid rising in
    (least_left (length told) pid n is, least_of (length told) pid n (place_in told pid) all (omega arith) is)
  where
    least_left : (a b n : ℕ) → n ≡ min a b → n ≤ a
    least_left a b n e = grind arith

    least_of : (a b n m : ℕ) → m ≤ a → m ≤ b → n ≡ min a b → m ≤ n
    least_of a b n m left right e = grind arith

-- ---- what is told of a process

-- nothing of one below all
none_below : (told : List Sleeper) (least pid : ℕ) → AreRising least told → pid ≤ least → told_of told pid ≡ None
none_below [] least pid rising less = refl
none_below (sleeper ∷ told) least pid rising less =
    let here : least < sleeper.pid = rising.0 in
    ap (λ b. if b then Some sleeper.blocks else told_of told pid) (above sleeper.pid pid (omega arith)) ∙ none_below told sleeper.pid pid rising.1 (omega arith)

-- of whom stands at a place
pub told_there : (told : List Sleeper) (least i : ℕ) (d : Sleeper) → AreRising least told → i < length told
    → told_of told (slice_index_or told i d).pid ≡ Some (slice_index_or told i d).blocks
told_there [] least i d rising within = absurd (omega arith)
told_there (sleeper ∷ told) least zero d rising within =
    ap (λ b. if b then Some sleeper.blocks else told_of told sleeper.pid) (eq-eqb sleeper.pid sleeper.pid refl)
told_there (sleeper ∷ told) least (suc i) d rising within =
    let here : sleeper.pid < (slice_index_or told i d).pid = above_first told sleeper.pid i d rising.1 (omega arith) in
    ap (λ b. if b then Some sleeper.blocks else told_of told (slice_index_or told i d).pid) (apart sleeper.pid (slice_index_or told i d).pid (λ same. omega (arith, here, same)))
    ∙ told_there told sleeper.pid i d rising.1 (omega arith)

-- where a process stands at its place, it is told of whom stands there
pub found_at : (told : List Sleeper) (pid i : ℕ) (d : Sleeper) → AreRising 0 told → i < length told → stands_in told i pid ≡ true
    → told_of told pid ≡ Some (slice_index_or told i d).blocks
found_at told pid i d rising within stands =
    ap (told_of told) (sym (same told i within stands)) ∙ told_there told 0 i d rising within
  where
    same : (told : List Sleeper) (i : ℕ) → i < length told → stands_in told i pid ≡ true → (slice_index_or told i d).pid ≡ pid
    same [] i within stands = absurd (omega arith)
    same (sleeper ∷ told) zero within stands = eqb-true sleeper.pid pid stands
    same (sleeper ∷ told) (suc i) within stands = same told i (omega arith) stands

-- and where none does, nothing is told
pub none_at : (told : List Sleeper) (least pid : ℕ) → AreRising least told → stands_in told (place_in told pid) pid ≡ false → told_of told pid ≡ None
none_at [] least pid rising none = refl
none_at (sleeper ∷ told) least pid rising none = go (nat_lt sleeper.pid pid) refl none (none_at told sleeper.pid pid rising.1)
  where
    go : (b : Bool) → nat_lt sleeper.pid pid ≡ b → stands_in (sleeper ∷ told) (if b then place_in told pid + 1 else 0) pid ≡ false
        → (stands_in told (place_in told pid) pid ≡ false → told_of told pid ≡ None) → (if sleeper.pid == pid then Some sleeper.blocks else told_of told pid) ≡ None
    go true e f later =
        let below : sleeper.pid < pid = ltb-true sleeper.pid pid e in
        let next : place_in told pid + 1 ≡ suc (place_in told pid) = omega arith in
        ap (λ b. if b then Some sleeper.blocks else told_of told pid) (apart sleeper.pid pid (λ same. omega (arith, below, same)))
        ∙ later (sym (ap (λ n. stands_in (sleeper ∷ told) n pid) next) ∙ f)
    go false e f later =
        let more : pid ≤ sleeper.pid = ltb-false sleeper.pid pid e in
        ap (λ b. if b then Some sleeper.blocks else told_of told pid) f ∙ none_below told sleeper.pid pid rising.1 more

-- ---- one is gone

-- the others of whom none is
pub without_none : (told : List Sleeper) (pid : ℕ) → told_of told pid ≡ None → without told pid ≡ told
without_none [] pid none = refl
without_none (sleeper ∷ told) pid none = go (sleeper.pid == pid) none (without_none told pid)
  where
    go : (b : Bool) → (if b then Some sleeper.blocks else told_of told pid) ≡ None → (told_of told pid ≡ None → without told pid ≡ told)
        → cond (not b) (sleeper ∷ without told pid) (without told pid) ≡ sleeper ∷ told
    go true e later = cc
    go false e later = ap (λ rest. sleeper ∷ rest) (later e)

pub without_at : (told : List Sleeper) (least pid : ℕ) → AreRising least told → stands_in told (place_in told pid) pid ≡ true
    → remove told (place_in told pid) ≡ without told pid
without_at [] least pid rising stands = cc
without_at (sleeper ∷ told) least pid rising stands = go (nat_lt sleeper.pid pid) refl stands (without_at told sleeper.pid pid rising.1)
  where
    go : (b : Bool) → nat_lt sleeper.pid pid ≡ b → stands_in (sleeper ∷ told) (if b then place_in told pid + 1 else 0) pid ≡ true
        → (stands_in told (place_in told pid) pid ≡ true → remove told (place_in told pid) ≡ without told pid)
        → remove (sleeper ∷ told) (if b then place_in told pid + 1 else 0) ≡ cond (not (sleeper.pid == pid)) (sleeper ∷ without told pid) (without told pid)
    go true e f later =
        let below : sleeper.pid < pid = ltb-true sleeper.pid pid e in
        let next : place_in told pid + 1 ≡ suc (place_in told pid) = omega arith in
        ap (remove (sleeper ∷ told)) next
        ∙ ap (λ rest. sleeper ∷ rest) (later (sym (ap (λ n. stands_in (sleeper ∷ told) n pid) next) ∙ f))
        ∙ sym (ap (λ b. cond (not b) (sleeper ∷ without told pid) (without told pid)) (apart sleeper.pid pid (λ same. omega (arith, below, same))))
    go false e f later =
        let more : pid ≤ sleeper.pid = ltb-false sleeper.pid pid e in
        sym (ap (λ b. cond (not b) (sleeper ∷ without told pid) (without told pid)) f ∙ without_none told pid (none_below told sleeper.pid pid rising.1 more))

lower : (least more : ℕ) (told : List Sleeper) → least ≤ more → AreRising more told → AreRising least told
lower least more [] less rising = tt
lower least more (sleeper ∷ told) less rising = ((let here : more < sleeper.pid = rising.0 in omega arith), rising.1)

pub rising_removed : (told : List Sleeper) (least i : ℕ) → AreRising least told → AreRising least (remove told i)
rising_removed [] least zero rising = tt
rising_removed [] least (suc i) rising = tt
rising_removed (sleeper ∷ told) least zero rising = lower least sleeper.pid told (let here : least < sleeper.pid = rising.0 in omega arith) rising.1
rising_removed (sleeper ∷ told) least (suc i) rising = (rising.0, rising_removed told sleeper.pid i rising.1)

-- what is told of the others stays
pub told_removed : (told : List Sleeper) (least i who : ℕ) (d : Sleeper) → AreRising least told → i < length told
    → told_of (remove told i) who ≡ (if (slice_index_or told i d).pid == who then None else told_of told who)
told_removed [] least i who d rising within = absurd (omega arith)
told_removed (sleeper ∷ told) least zero who d rising within = go (sleeper.pid == who) refl
  where
    go : (b : Bool) → (sleeper.pid == who) ≡ b → told_of told who ≡ (if b then None else (if b then Some sleeper.blocks else told_of told who))
    go true e = none_below told sleeper.pid who rising.1 (let same : sleeper.pid ≡ who = eqb-true sleeper.pid who e in omega arith)
    go false e = refl
told_removed (sleeper ∷ told) least (suc i) who d rising within = go (sleeper.pid == who) refl (told_removed told sleeper.pid i who d rising.1 (omega arith))
  where
    go : (b : Bool) → (sleeper.pid == who) ≡ b
        → told_of (remove told i) who ≡ (if (slice_index_or told i d).pid == who then None else told_of told who)
        → (if b then Some sleeper.blocks else told_of (remove told i) who)
        ≡ (if (slice_index_or told i d).pid == who then None else (if b then Some sleeper.blocks else told_of told who))
    go true e later =
        let same : sleeper.pid ≡ who = eqb-true sleeper.pid who e in
        let here : sleeper.pid < (slice_index_or told i d).pid = above_first told sleeper.pid i d rising.1 (omega arith) in
        sym (ap (λ b. if b then None else Some sleeper.blocks) (above (slice_index_or told i d).pid who (omega arith)))
    go false e later = later

-- a fact of all is one of the others
pub each_without : (P : Sleeper → Type 0) (told : List Sleeper) (pid : ℕ) → AllByRecursion P told → AllByRecursion P (without told pid)
each_without P [] pid all = tt
each_without P (sleeper ∷ told) pid all = go (sleeper.pid == pid) (each_without P told pid all.1)
  where
    go : (b : Bool) → AllByRecursion P (without told pid) → AllByRecursion P (cond (not b) (sleeper ∷ without told pid) (without told pid))
    go true rest = rest
    go false rest = (all.0, rest)

-- who is gone isn't told of
pub none_without : (told : List Sleeper) (pid : ℕ) → told_of (without told pid) pid ≡ None
none_without [] pid = refl
none_without (sleeper ∷ told) pid = go (sleeper.pid == pid) refl (none_without told pid)
  where
    go : (b : Bool) → (sleeper.pid == pid) ≡ b → told_of (without told pid) pid ≡ None → told_of (cond (not b) (sleeper ∷ without told pid) (without told pid)) pid ≡ None
    go true e rest = rest
    go false e rest = ap (λ b. if b then Some sleeper.blocks else told_of (without told pid) pid) e ∙ rest

-- each of whom something is told is another than one of whom nothing is
pub each_other : (told : List Sleeper) (pid : ℕ) → told_of told pid ≡ None → AllByRecursion (λ sleeper. sleeper.pid ≢ pid) told
each_other [] pid none = tt
each_other (sleeper ∷ told) pid none = go (sleeper.pid == pid) refl none (each_other told pid)
  where
    go : (b : Bool) → (sleeper.pid == pid) ≡ b → (if b then Some sleeper.blocks else told_of told pid) ≡ None
        → (told_of told pid ≡ None → AllByRecursion (λ one. one.pid ≢ pid) told) → AllByRecursion (λ one. one.pid ≢ pid) (sleeper ∷ told)
    go true e f later = absurd (never f)
      where
        never : {b : Bool} → Some b ≡ None → ⊥
        never g = cc
    go false e f later = ((λ same. both (eq-eqb sleeper.pid pid same) e), later f)

-- ---- one more

pub inserted : (told : List Sleeper) (new : Sleeper) → insert told (place_in told new.pid) new ≡ with_sleeper told new
inserted [] new = refl
inserted (sleeper ∷ told) new = go (nat_lt sleeper.pid new.pid) (inserted told new)
  where
    next : place_in told new.pid + 1 ≡ suc (place_in told new.pid)
    next = omega arith

    go : (b : Bool) → insert told (place_in told new.pid) new ≡ with_sleeper told new
        → insert (sleeper ∷ told) (if b then place_in told new.pid + 1 else 0) new ≡ (if b then sleeper ∷ with_sleeper told new else new ∷ sleeper ∷ told)
    go true later = ap (λ n. insert (sleeper ∷ told) n new) next ∙ ap (λ rest. sleeper ∷ rest) later
    go false later = refl

pub rising_with : (told : List Sleeper) (least : ℕ) (new : Sleeper) → AreRising least told → least < new.pid → told_of told new.pid ≡ None → AreRising least (with_sleeper told new)
rising_with [] least new rising more none = (more, tt)
rising_with (sleeper ∷ told) least new rising more none = go (nat_lt sleeper.pid new.pid) refl (rising_with told sleeper.pid new rising.1)
  where
    other : (sleeper.pid ≡ new.pid → ⊥) × (told_of told new.pid ≡ None)
    other = of (sleeper.pid == new.pid) refl none
      where
        of : (b : Bool) → (sleeper.pid == new.pid) ≡ b → (if b then Some sleeper.blocks else told_of told new.pid) ≡ None
            → (sleeper.pid ≡ new.pid → ⊥) × (told_of told new.pid ≡ None)
        of true e f = cc
        of false e f = ((λ same. both (eq-eqb sleeper.pid new.pid same) e), f)

    go : (b : Bool) → nat_lt sleeper.pid new.pid ≡ b → (sleeper.pid < new.pid → told_of told new.pid ≡ None → AreRising sleeper.pid (with_sleeper told new))
        → AreRising least (if b then sleeper ∷ with_sleeper told new else new ∷ sleeper ∷ told)
    go true e later = (rising.0, later (ltb-true sleeper.pid new.pid e) other.1)
    go false e later =
        let least_of : new.pid ≤ sleeper.pid = ltb-false sleeper.pid new.pid e in
        let differs : sleeper.pid ≢ new.pid = other.0 in
        (more, (omega arith, rising.1))

pub each_with : (P : Sleeper → Type 0) (told : List Sleeper) (new : Sleeper) → P new → AllByRecursion P told → AllByRecursion P (with_sleeper told new)
each_with P [] new here all = (here, tt)
each_with P (sleeper ∷ told) new here all = go (nat_lt sleeper.pid new.pid) (each_with P told new here all.1)
  where
    go : (b : Bool) → AllByRecursion P (with_sleeper told new) → AllByRecursion P (if b then sleeper ∷ with_sleeper told new else new ∷ sleeper ∷ told)
    go true rest = (all.0, rest)
    go false rest = (here, all)

-- what is told of the others stays
pub told_with : (told : List Sleeper) (new : Sleeper) (who : ℕ) → told_of told new.pid ≡ None
    → told_of (with_sleeper told new) who ≡ (if new.pid == who then Some new.blocks else told_of told who)
told_with [] new who none = refl
told_with (sleeper ∷ told) new who none = go (nat_lt sleeper.pid new.pid) (of (sleeper.pid == new.pid) refl none) (λ apart. told_with told new who apart)
  where
    of : (b : Bool) → (sleeper.pid == new.pid) ≡ b → (if b then Some sleeper.blocks else told_of told new.pid) ≡ None
        → (sleeper.pid ≡ new.pid → ⊥) × (told_of told new.pid ≡ None)
    of true e f = cc
    of false e f = ((λ same. both (eq-eqb sleeper.pid new.pid same) e), f)

    swapped : (a b : Bool) → (sleeper.pid == who) ≡ a → (new.pid == who) ≡ b → (sleeper.pid ≡ new.pid → ⊥)
        → (if a then Some sleeper.blocks else (if b then Some new.blocks else told_of told who)) ≡ (if b then Some new.blocks else (if a then Some sleeper.blocks else told_of told who))
    swapped true true e f other = absurd (other (eqb-true sleeper.pid who e ∙ sym (eqb-true new.pid who f)))
    swapped true false e f other = refl
    swapped false true e f other = refl
    swapped false false e f other = refl

    go : (b : Bool) → (sleeper.pid ≡ new.pid → ⊥) × (told_of told new.pid ≡ None)
        → (told_of told new.pid ≡ None → told_of (with_sleeper told new) who ≡ (if new.pid == who then Some new.blocks else told_of told who))
        → told_of (if b then sleeper ∷ with_sleeper told new else new ∷ sleeper ∷ told) who ≡ (if new.pid == who then Some new.blocks else told_of (sleeper ∷ told) who)
    go true other later =
        ap (λ rest. if sleeper.pid == who then Some sleeper.blocks else rest) (later other.1)
        ∙ swapped (sleeper.pid == who) (new.pid == who) refl refl other.0
    go false other later = refl

-- ---- one is asked again

pub rising_set : (told : List Sleeper) (least i : ℕ) (d new : Sleeper) → AreRising least told → i < length told → new.pid ≡ (slice_index_or told i d).pid
    → AreRising least (slice_set told i new)
rising_set [] least i d new rising within same = absurd (omega arith)
rising_set (sleeper ∷ told) least zero d new rising within same =
    ((let here : least < sleeper.pid = rising.0 in omega arith), subst (λ n. AreRising n told) (sym same) rising.1)
rising_set (sleeper ∷ told) least (suc i) d new rising within same = (rising.0, rising_set told sleeper.pid i d new rising.1 (omega arith) same)

pub told_set : (told : List Sleeper) (least i who : ℕ) (d new : Sleeper) → AreRising least told → i < length told → new.pid ≡ (slice_index_or told i d).pid
    → told_of (slice_set told i new) who ≡ (if new.pid == who then Some new.blocks else told_of told who)
told_set [] least i who d new rising within same = absurd (omega arith)
told_set (sleeper ∷ told) least zero who d new rising within same =
    sym (go (new.pid == who) (ap (λ n. n == who) same))
  where
    go : (b : Bool) → b ≡ (sleeper.pid == who)
        → (if b then Some new.blocks else (if sleeper.pid == who then Some sleeper.blocks else told_of told who)) ≡ (if b then Some new.blocks else told_of told who)
    go true e = refl
    go false e = ap (λ b. if b then Some sleeper.blocks else told_of told who) (sym e)
told_set (sleeper ∷ told) least (suc i) who d new rising within same = go (sleeper.pid == who) refl (told_set told sleeper.pid i who d new rising.1 (omega arith) same)
  where
    go : (b : Bool) → (sleeper.pid == who) ≡ b
        → told_of (slice_set told i new) who ≡ (if new.pid == who then Some new.blocks else told_of told who)
        → (if b then Some sleeper.blocks else told_of (slice_set told i new) who)
        ≡ (if new.pid == who then Some new.blocks else (if b then Some sleeper.blocks else told_of told who))
    go true e later =
        let own : sleeper.pid ≡ who = eqb-true sleeper.pid who e in
        let here : sleeper.pid < (slice_index_or told i d).pid = above_first told sleeper.pid i d rising.1 (omega arith) in
        sym (ap (λ b. if b then Some new.blocks else Some sleeper.blocks) (above new.pid who (omega arith)))
    go false e later = later

-- ---- what is read of a list of sleepers

-- a place within is read the same whatever stands for one that isn't
pub read_any : (told : List Sleeper) (i : ℕ) (d e : Sleeper) → i < length told → slice_index_or told i d ≡ slice_index_or told i e
read_any [] i d e within = absurd (omega arith)
read_any (sleeper ∷ told) zero d e within = refl
read_any (sleeper ∷ told) (suc i) d e within = read_any told i d e (omega arith)

-- where the process stands at its place he is told of, and gone when that is taken out; where he doesn't stand there, nothing is told of him
module _ (told ts us : List Sleeper) (pid place : ℕ) (stands : Bool) (same : ts ≡ told) (also : us ≡ told) (rising : AreRising 0 told) (is : place ≡ place_in ts pid)
    (is_there : stands ≡ stands_in us place pid) where
  its_place : place ≡ place_in told pid
  its_place = is ∙ ap (λ list. place_in list pid) same

  stands_so : stands ≡ stands_in told (place_in told pid) pid
  stands_so = is_there ∙ ap (λ list. stands_in list place pid) also ∙ ap (λ n. stands_in told n pid) its_place

  pub gone_at : stands ≡ true → remove told place ≡ without told pid
  gone_at e = ap (remove told) its_place ∙ without_at told 0 pid rising (sym stands_so ∙ e)

  pub untold_at : stands ≡ false → told_of told pid ≡ None
  untold_at e = none_at told 0 pid rising (sym stands_so ∙ e)

  pub told_at : (read : List Sleeper) (d : Sleeper) → read ≡ told → (stands ≡ true → place < length us) → stands ≡ true → Some (slice_index_or read place d).blocks ≡ told_of told pid
  told_at read d reads within e =
      ap (λ list. Some (slice_index_or list place d).blocks) reads
      ∙ sym (found_at told pid place d rising (subst (λ list. place < length list) also (within e)) (sym (ap (λ list. stands_in list place pid) also) ∙ sym is_there ∙ e))

-- who stands in at his place stands among those who rise by pid
pub inserted_at : (told ts : List Sleeper) (new : Sleeper) (place : ℕ) → ts ≡ told → place ≡ place_in ts new.pid → insert told place new ≡ with_sleeper told new
inserted_at told ts new place same is = ap (λ n. insert told n new) (is ∙ ap (λ list. place_in list new.pid) same) ∙ inserted told new

-- ---- a list is written as a slice

pub refilled : (old new : List Sleeper) → length new ≡ length old → refill (length old) old new ≡ new
refilled old new same = items-with_items (record { items = old }) new same

-- ---- where a channel begins

begun_length : (place : ℕ) (told : List Sleeper) → length (map (begun place) told) ≡ length told
begun_length place [] = refl
begun_length place (sleeper ∷ told) = ap (λ n. suc n) (begun_length place told)

pub begun_rising : (place least : ℕ) (told : List Sleeper) → AreRising least told → AreRising least (map (begun place) told)
begun_rising place least [] rising = tt
begun_rising place least (sleeper ∷ told) rising = (rising.0, begun_rising place sleeper.pid told rising.1)

pub begun_all : (place : ℕ) (old middle now : List Sleeper) → middle ≡ old → now ≡ map (begun place) middle → refill (length old) old now ≡ map (begun place) old
begun_all place old middle now same is =
    ap (refill (length old) old) (is ∙ ap (map (begun place)) same) ∙ refilled old (map (begun place) old) (begun_length place old)

-- a place is written
pub set_all : (old middle : List Sleeper) (i : ℕ) (sleeper : Sleeper) → middle ≡ old → refill (length old) old (slice_set middle i sleeper) ≡ slice_set old i sleeper
set_all old middle i sleeper same =
    ap (λ list. refill (length old) old (slice_set list i sleeper)) same ∙ refilled old (slice_set old i sleeper) (length-set old i sleeper)

-- ---- who is named

among_more : (named : List ℕ) (pid who : ℕ) → is_among (named ++ pid ∷ []) who ≡ false → (is_among named who ≡ false) × ((who == pid) ≡ false)
among_more [] pid who e = one (who == pid) e
  where
    one : (b : Bool) → (b || false) ≡ false → (false ≡ false) × (b ≡ false)
    one true f = cc
    one false f = (refl, refl)
among_more (first ∷ named) pid who e = go (who == first) e (among_more named pid who)
  where
    go : (b : Bool) → (b || is_among (named ++ pid ∷ []) who) ≡ false → (is_among (named ++ pid ∷ []) who ≡ false → (is_among named who ≡ false) × ((who == pid) ≡ false))
        → ((b || is_among named who) ≡ false) × ((who == pid) ≡ false)
    go true f later = cc
    go false f later = later f

-- one more is named, who is this one
pub named_more : (named more : List ℕ) (pid who : ℕ) → more ≡ named ++ pid ∷ [] → is_among more who ≡ false → (is_among named who ≡ false) × (who ≢ pid)
named_more named more pid who is none =
    let it = among_more named pid who (ap (λ ns. is_among ns who) (sym is) ∙ none) in
    (it.0, (λ same. both (eq-eqb who pid same) it.1))

-- nothing changes
pub names_same : (told : List Sleeper) (named : List ℕ) → NamesMore told named told named
names_same told named who none = (none, refl)

-- one after the other
pub names_then : (told middle new : List Sleeper) (named some more : List ℕ) → NamesMore told named middle some → NamesMore middle some new more → NamesMore told named new more
names_then told middle new named some more first second who none =
    let later = second who none in
    let before = first who later.0 in
    (before.0, later.1 ∙ before.1)

-- where nobody was named before
pub names_all : (told new : List Sleeper) (named more : List ℕ) → named ≡ [] → NamesMore told named new more → HasNamed (is_settled told) (is_settled new) more
names_all told new named more none names who apart = (names who apart).1

-- one is asked again
pub names_set : (told : List Sleeper) (i : ℕ) (d new : Sleeper) (named more : List ℕ) → AreRising 0 told → i < length told → new.pid ≡ (slice_index_or told i d).pid
    → NamesOne named (slice_index_or told i d) new more → NamesMore told named (slice_set told i new) more
names_set told i d new named more rising within same one who none =
    let it = one who none in (
      it.0,
      ap is_so (told_set told 0 i who d new rising within same) ∙ go (new.pid == who) refl it.1,
    )
  where
    go : (b : Bool) → (new.pid == who) ≡ b → (who ≡ (slice_index_or told i d).pid → new.blocks ≡ (slice_index_or told i d).blocks)
        → is_so (if b then Some new.blocks else told_of told who) ≡ is_settled told who
    go true e blocks =
        let own : who ≡ (slice_index_or told i d).pid = sym (eqb-true new.pid who e) ∙ same in
        blocks own ∙ sym (ap is_so (ap (told_of told) own ∙ told_there told 0 i d rising within))
    go false e blocks = refl

-- one is forgotten: he is named, if it was kept in mind that he would block
pub names_gone : (told : List Sleeper) (i : ℕ) (d : Sleeper) (named more : List ℕ) → AreRising 0 told → i < length told
    → ((who : ℕ) → is_among more who ≡ false → (is_among named who ≡ false) × (who ≡ (slice_index_or told i d).pid → (slice_index_or told i d).blocks ≡ false))
    → NamesMore told named (remove told i) more
names_gone told i d named more rising within one who none =
    let it = one who none in (
      it.0,
      ap is_so (told_removed told 0 i who d rising within) ∙ go ((slice_index_or told i d).pid == who) refl it.1,
    )
  where
    go : (b : Bool) → ((slice_index_or told i d).pid == who) ≡ b → (who ≡ (slice_index_or told i d).pid → (slice_index_or told i d).blocks ≡ false)
        → is_so (if b then None else told_of told who) ≡ is_settled told who
    go true e blocks =
        let own : who ≡ (slice_index_or told i d).pid = sym (eqb-true (slice_index_or told i d).pid who e) in
        sym (ap is_so (ap (told_of told) own ∙ told_there told 0 i d rising within) ∙ blocks own)
    go false e blocks = refl

-- one more: he is named, if he would block
pub names_lain : (told : List Sleeper) (new : Sleeper) (named more : List ℕ) → told_of told new.pid ≡ None
    → ((who : ℕ) → is_among more who ≡ false → (is_among named who ≡ false) × (who ≡ new.pid → new.blocks ≡ false))
    → NamesMore told named (with_sleeper told new) more
names_lain told new named more apart one who none =
    let it = one who none in (
      it.0,
      ap is_so (told_with told new who apart) ∙ go (new.pid == who) refl it.1,
    )
  where
    go : (b : Bool) → (new.pid == who) ≡ b → (who ≡ new.pid → new.blocks ≡ false) → is_so (if b then Some new.blocks else told_of told who) ≡ is_settled told who
    go true e blocks =
        let own : who ≡ new.pid = sym (eqb-true new.pid who e) in
        blocks own ∙ sym (ap is_so (ap (told_of told) own ∙ apart))
    go false e blocks = refl

-- where a channel has begun the same is told of all
pub names_begun : (channel : Option Channel) (pid : ℕ) (fd : ℤ) (place : ℕ) (old new : List Sleeper) (named : List ℕ) → HasBegun channel pid fd place old new → NamesMore old named new named
names_begun channel pid fd place old new named (has_stood is) who none = (none, refl)
names_begun channel pid fd place old new named is_anew who none = (none, ap is_so (mapped old))
  where
    mapped : (ts : List Sleeper) → told_of (map (begun place) ts) who ≡ told_of ts who
    mapped [] = refl
    mapped (t ∷ ts) = ap (λ rest. if t.pid == who then Some t.blocks else rest) (mapped ts)
