-- The loops that ask sleepers again, from the last to the first.
use Rattle.std.proofs.Common.{◌≡◌, ◌≢◌, ◌==◌, ℕ, zero, suc, ◌<◌, ◌≤◌, ℤ, Bool, true, false, if◌then◌else◌, None, Some, eqb-true, List, [], ◌∷◌, drop, length, slice_set, slice_index_or, remove, refl, ap, sym, ◌∙◌, subst, arith, length-set}
use Rattle.std.specs.List.{AllByRecursion, refill}
use Rattle.kabi_types.specs.declared.scripts.Script.{Script}
use Rattle.machine_laws.specs.Reached.{IsReached}
use Rattle.posix_defs.specs.Machine.{would_block}
use Rattle.posix_defs.specs.World.{World}
use Rattle.posix_defs.specs.Process.{is_alive}
use Rattle.store_objects.specs.declared.objects.Objects.{Objects}
use Rattle.store_objects.specs.Standing.{StandsFor}
use Rattle.call_run.specs.declared.sleepers.Sleeper.{Sleeper}
use Rattle.call_run.specs.Sleepers.{AreFewer, AreNear, AreRising, AreTrulyTold, IsLookedAt, IsNear, IsTrulyTold, NamesMore, NamesOne, any_sleeper, is_asked, is_gone, is_known, is_learned, is_near, told_of}
use Rattle.call_run.proofs.Telling.{each_other, names_set, read_any, refilled, rising_removed, rising_set, set_all, told_removed, told_set, told_there}

-- ---- all are asked

-- one is looked at: it is told truly of him and of those behind
pub looked_truly : (script : Script) (objects : Objects) (place : ℕ) (old new : List Sleeper) → place < length old → IsLookedAt script objects old place new
    → AreTrulyTold script objects (drop (suc place) old) → AreTrulyTold script objects (drop place new)
looked_truly script objects place old new within (is_asked sleeper same truly) behind = λ world stands reached. set (IsTrulyTold script world.plain) place old within (truly world stands reached) (behind world stands reached)
  where
    set : (P : Sleeper → Type 0) (at : ℕ) (ts : List Sleeper) → at < length ts → P sleeper → AllByRecursion P (drop (suc at) ts) → AllByRecursion P (drop at (slice_set ts at sleeper))
    set P at [] inside here all = absurd (omega arith)
    set P zero (t ∷ ts) inside here all = (here, all)
    set P (suc at) (t ∷ ts) inside here all = set P at ts (omega arith) here all
looked_truly script objects place old new within is_gone behind = λ world stands reached. gone (IsTrulyTold script world.plain) place old (behind world stands reached)
  where
    gone : (P : Sleeper → Type 0) (at : ℕ) (ts : List Sleeper) → AllByRecursion P (drop (suc at) ts) → AllByRecursion P (drop at (remove ts at))
    gone P zero [] all = tt
    gone P (suc at) [] all = tt
    gone P zero (t ∷ ts) all = all
    gone P (suc at) (t ∷ ts) all = gone P at ts all

pub looked_rising : (script : Script) (objects : Objects) (place : ℕ) (old new : List Sleeper) → place < length old → IsLookedAt script objects old place new → AreRising 0 old → AreRising 0 new
looked_rising script objects place old new within (is_asked sleeper same truly) rising = rising_set old 0 place any_sleeper sleeper rising within same
looked_rising script objects place old new within is_gone rising = rising_removed old 0 place rising

-- those before are there still
pub looked_within : (script : Script) (objects : Objects) (place : ℕ) (old new : List Sleeper) → place < length old → IsLookedAt script objects old place new → place ≤ length new
looked_within script objects place old new within (is_asked sleeper same truly) =
    let many : length (slice_set old place sleeper) ≡ length old = length-set old place sleeper in omega arith
looked_within script objects place old new within is_gone = removed old place within
  where
    removed : (ts : List Sleeper) (at : ℕ) → at < length ts → at ≤ length (remove ts at)
    removed [] at inside = absurd (omega arith)
    removed (t ∷ ts) zero inside = omega arith
    removed (t ∷ ts) (suc at) inside = let later : at ≤ length (remove ts at) = removed ts at (omega arith) in omega arith

-- one who lives was asked
abbrev pub blank : Sleeper
blank = record { pid = 0; blocks = false; apart = [] }

module _ (told read : List Sleeper) (place : ℕ) (new : Sleeper) (reads : read ≡ told) (within : place < length told) where
  its_pid : new.pid ≡ (slice_index_or read place blank).pid → new.pid ≡ (slice_index_or told place any_sleeper).pid
  its_pid same =
      same ∙ ap (λ (list : List Sleeper). (slice_index_or list place blank).pid) reads ∙ ap (λ (s : Sleeper). s.pid) (read_any told place blank any_sleeper within)

  pub asked_looked : (script : Script) (objects : Objects) → new.pid ≡ (slice_index_or read place blank).pid
      → ((world : World) → StandsFor script objects world → IsReached script world.plain
      → (is_alive world.plain.table (slice_index_or read place blank).pid ≡ true) × (would_block script world.plain (slice_index_or read place blank).pid ≡ new.blocks))
      → IsLookedAt script objects told place (refill (length told) told (slice_set read place new))
  asked_looked script objects same truly =
      subst (IsLookedAt script objects told place) (sym (set_all told read place new reads))
      (is_asked new (its_pid same) (λ world stands reached.
      let it = truly world stands reached in
      record { alive = ap (is_alive world.plain.table) same ∙ it.0; blocks = ap (would_block script world.plain) same ∙ it.1 }))

  pub asked_named : (named more : List ℕ) → AreRising 0 told → new.pid ≡ (slice_index_or read place blank).pid → NamesOne named (slice_index_or read place blank) new more
      → NamesMore told named (refill (length told) told (slice_set read place new)) more
  asked_named named more rising same one =
      subst (λ ts. NamesMore told named ts more) (sym (set_all told read place new reads))
      (names_set told place blank new named more rising within (same ∙ ap (λ (list : List Sleeper). (slice_index_or list place blank).pid) reads)
      (subst (λ (list : List Sleeper). NamesOne named (slice_index_or list place blank) new more) reads one))

-- ---- those who are near are asked

-- those before a place are as they were
abbrev pub AreNearFrom : Script → Objects → ℕ → ℤ → ℕ → ℕ → List Sleeper → List Sleeper → Bool → Type 0
AreNearFrom script objects pid fd channel zero old new near = AreNear script objects pid fd channel old new near
AreNearFrom script objects pid fd channel (suc place) (was ∷ old) (is ∷ new) near = (is ≡ was) × AreNearFrom script objects pid fd channel place old new near
AreNearFrom script objects pid fd channel (suc place) _ _ near = ⊥

module _ (script : Script) (objects : Objects) (pid : ℕ) (fd : ℤ) (channel : ℕ) where
  -- at first all are
  pub near_none : (told : List Sleeper) (near : Bool) → AreNearFrom script objects pid fd channel (length told) told told near
  near_none [] near = tt
  near_none (sleeper ∷ told) near = (refl, near_none told near)

  near_more : (old new : List Sleeper) (near more : Bool) → (near ≡ true → more ≡ true) → AreNear script objects pid fd channel old new near → AreNear script objects pid fd channel old new more
  near_more [] [] near more leads asked = tt
  near_more [] (y ∷ new) near more leads asked = absurd asked
  near_more (x ∷ old) [] near more leads asked = absurd asked
  near_more (x ∷ old) (y ∷ new) near more leads asked =
      ((asked.0.0, asked.0.1, (λ one. leads (asked.0.2 one))), near_more old new near more leads asked.1)

  -- one more
  pub near_step : (place : ℕ) (old new : List Sleeper) (d sleeper : Sleeper) (one near more : Bool) → place < length new → (near ≡ true → more ≡ true) → (one ≡ true → more ≡ true)
      → IsNear script objects pid fd channel (slice_index_or new place d) sleeper one → AreNearFrom script objects pid fd channel (suc place) old new near
      → AreNearFrom script objects pid fd channel place old (slice_set new place sleeper) more
  near_step zero [] new d sleeper one near more within leads here is asked = absurd asked
  near_step zero (x ∷ old) [] d sleeper one near more within leads here is asked = absurd asked
  near_step zero (x ∷ old) (y ∷ new) d sleeper one near more within leads here is asked =
      ((one, subst (λ s. IsNear script objects pid fd channel s sleeper one) asked.0 is, here), near_more old new near more leads asked.1)
  near_step (suc place) [] new d sleeper one near more within leads here is asked = absurd asked
  near_step (suc place) (x ∷ old) [] d sleeper one near more within leads here is asked = absurd asked
  near_step (suc place) (x ∷ old) (y ∷ new) d sleeper one near more within leads here is asked =
      (asked.0, near_step place old new d sleeper one near more (omega arith) leads here is asked.1)

  -- who isn't looked at yet is alive as he was
  pub alive_there : (world : World) (place : ℕ) (old new : List Sleeper) (d : Sleeper) (near : Bool) → AreNearFrom script objects pid fd channel (suc place) old new near
      → AllByRecursion (λ sleeper. is_alive world.plain.table sleeper.pid ≡ true) old → is_alive world.plain.table (slice_index_or new place d).pid ≡ true
  alive_there world place [] new d near asked all = absurd asked
  alive_there world place (x ∷ old) [] d near asked all = absurd asked
  alive_there world zero (x ∷ old) (y ∷ new) d near asked all = ap (λ (s : Sleeper). is_alive world.plain.table s.pid) asked.0 ∙ all.0
  alive_there world (suc place) (x ∷ old) (y ∷ new) d near asked all = alive_there world place old new d near asked.1 all.1

  same_pid : (old new : Sleeper) (one : Bool) → IsNear script objects pid fd channel old new one → new.pid ≡ old.pid
  same_pid old new one (is_known sleeper told) = refl
  same_pid old new one (is_learned sleeper apart) = refl
  same_pid old new one (is_near sleeper blocks apart blocked) = refl

  pub near_pid : (old new : Sleeper) (one : Bool) → IsNear script objects pid fd channel old new one → new.pid ≡ old.pid
  near_pid = same_pid

  -- all stand as they stood
  pub near_rising : (least : ℕ) (old new : List Sleeper) (near : Bool) → AreNear script objects pid fd channel old new near → AreRising least old → AreRising least new
  near_rising least [] [] near asked rising = tt
  near_rising least [] (y ∷ new) near asked rising = absurd asked
  near_rising least (x ∷ old) [] near asked rising = absurd asked
  near_rising least (x ∷ old) (y ∷ new) near asked rising =
      let same = same_pid x y asked.0.0 asked.0.1 in
      (subst (λ n. least < n) (sym same) rising.0, subst (λ n. AreRising n new) (sym same) (near_rising x.pid old new near asked.1 rising.1))

  -- as many as there were
  pub near_length : (old new : List Sleeper) (near : Bool) → AreNear script objects pid fd channel old new near → length new ≡ length old
  near_length [] [] near asked = refl
  near_length [] (y ∷ new) near asked = absurd asked
  near_length (x ∷ old) [] near asked = absurd asked
  near_length (x ∷ old) (y ∷ new) near asked = ap (λ n. suc n) (near_length old new near asked.1)

  -- what is written as a slice
  pub near_written : (told read new : List Sleeper) (near : Bool) → read ≡ told → AreNear script objects pid fd channel read new near
      → AreNear script objects pid fd channel told (refill (length told) told new) near
  near_written told read new near reads asked =
      let of_told = subst (λ ts. AreNear script objects pid fd channel ts new near) reads asked in
      subst (λ ts. AreNear script objects pid fd channel told ts near) (sym (refilled told new (near_length told new near of_told))) of_told

  pub named_written : (told read new : List Sleeper) (near : Bool) (named more : List ℕ) → read ≡ told → AreNear script objects pid fd channel read new near → NamesMore read named new more
      → NamesMore told named (refill (length told) told new) more
  named_written told read new near named more reads asked names =
      let of_told = subst (λ ts. AreNear script objects pid fd channel ts new near) reads asked in
      subst (λ ts. NamesMore told named ts more) (sym (refilled told new (near_length told new near of_told))) (subst (λ ts. NamesMore ts named new more) reads names)

-- ---- of whom nothing was told nothing is

never_some : {X : Type 0} {b : Bool} → Some b ≡ None → X
never_some e = cc

pub looked_fewer : (script : Script) (objects : Objects) (place : ℕ) (old new : List Sleeper) → place < length old → AreRising 0 old → IsLookedAt script objects old place new → AreFewer old new
looked_fewer script objects place old new within rising (is_asked sleeper same truly) who none =
    told_set old 0 place who any_sleeper sleeper rising within same ∙ go (sleeper.pid == who) refl
  where
    go : (b : Bool) → (sleeper.pid == who) ≡ b → (if b then Some sleeper.blocks else told_of old who) ≡ None
    go false e = none
    go true e =
        let own : who ≡ (slice_index_or old place any_sleeper).pid = sym (eqb-true sleeper.pid who e) ∙ same in
        never_some (sym (ap (told_of old) own ∙ told_there old 0 place any_sleeper rising within) ∙ none)
looked_fewer script objects place old new within rising is_gone who none =
    told_removed old 0 place who any_sleeper rising within ∙ go ((slice_index_or old place any_sleeper).pid == who)
  where
    go : (b : Bool) → (if b then None else told_of old who) ≡ None
    go true = refl
    go false = none

-- the same pids, in turn
pub same_fewer : (old new : List Sleeper) (pid : ℕ) → told_of old pid ≡ None → ((P : ℕ → Type 0) → AllByRecursion (λ sleeper. P sleeper.pid) old → AllByRecursion (λ sleeper. P sleeper.pid) new)
    → told_of new pid ≡ None
same_fewer old new pid none pids = untold new (pids (λ n. n ≢ pid) (each_other old pid none))
  where
    untold : (ts : List Sleeper) → AllByRecursion (λ sleeper. sleeper.pid ≢ pid) ts → told_of ts pid ≡ None
    untold [] all = refl
    untold (sleeper ∷ ts) all = go (sleeper.pid == pid) refl (untold ts all.1)
      where
        go : (b : Bool) → (sleeper.pid == pid) ≡ b → told_of ts pid ≡ None → (if b then Some sleeper.blocks else told_of ts pid) ≡ None
        go true e later = absurd (all.0 (eqb-true sleeper.pid pid e))
        go false e later = later
