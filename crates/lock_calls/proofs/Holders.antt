-- Who is waited for holds a lock, so has a place in the table.
use Rattle.std.proofs.Common.{◌≡◌, ◌≢◌, ℕ, zero, suc, ◌<◌, ◌≤◌, ◌==◌, ◌&&◌, ◌||◌, not, Bool, true, false, cond, eqb-true, List, [], ◌∷◌, map, replicate, Option, None, Some, is_none, refl, ap, sym, ◌∙◌, arith}
use Rattle.std.specs.List.{cons_option, filter, list_any}
use Rattle.std.proofs.lemmas.Bool.{and_right}
use Rattle.kheap_slabs.specs.declared.objects.Proc.{Proc}
use Rattle.kabi_types.specs.Arguments.{most_descriptors}
use Rattle.kabi_types.specs.declared.scripts.Script.{Script}
use Rattle.lock_table.specs.Holding.{asked_by}
use Rattle.machine_laws.proofs.LockLists.{stopper_holds}
use Rattle.open_laws.specs.Open.{descriptors_by}
use Rattle.posix_defs.specs.Calls.OnLocks.{is_clear, is_stopped_by}
use Rattle.posix_defs.specs.Files.State.{Files}
use Rattle.posix_defs.specs.Files.Whole.{AreLocks, opens_by}
use Rattle.posix_defs.specs.Locks.{Lock, Locks, Request, first_of, is_in_way, is_of, meets, ranges_of, stops}
use Rattle.posix_defs.specs.Tree.{is_directory}
use Rattle.posix_defs.specs.World.{World}
use Rattle.proc_numbers.specs.Having.{places_in}
use Rattle.proc_table.specs.Procs.{numbers_in, proc_of}
use Rattle.proc_table.specs.Table.{AreBetween, AreStored, procs_at}
use Rattle.proc_table.specs.declared.places.Place.{Place}
use Rattle.proc_table.proofs.PlaceLemmas.{IsAt, eqb_same, stored_is}
use Rattle.store_objects.specs.declared.objects.Objects.{Objects}
use Rattle.store_objects.specs.Objects.{procs_of}
use Rattle.store_objects.specs.Standing.{IsSound, StandsFor}
use Rattle.lock_calls.specs.Claiming.{wanted_in}
use Rattle.lock_calls.specs.Waiting.{is_held_up, pid_at}
use Rattle.lock_calls.specs.declared.waits.Wanted.{Wanted as WantedHere}

-- ---- who holds no range of a file is in nobody's way there

-- a lock of a process, of a file, is among its ranges of that
has_range : (locks : Locks) (pid node : ℕ) → list_any (is_of pid node) locks ≡ true → ranges_of locks pid node ≢ []
has_range [] pid node e none = cc
has_range (lock ∷ locks) pid node e none = go (is_of pid node lock) e (has_range locks pid node) none
  where
    go : (b : Bool) → (b || list_any (is_of pid node) locks) ≡ true → (list_any (is_of pid node) locks ≡ true → ranges_of locks pid node ≢ [])
        → map (λ (l : Lock). l.range) (cond b (lock ∷ filter (is_of pid node) locks) (filter (is_of pid node) locks)) ≢ []
    go true f later none = cc
    go false f later none = later f none

-- who holds none stops nobody
pub stops_none : (locks : Locks) (pid node by : ℕ) (asked : Request) → (ranges_of locks by node ≢ [] → ⊥) → stops locks pid node asked by ≡ false
stops_none locks pid node by asked none = go (stops locks pid node asked by) refl
  where
    go : (b : Bool) → stops locks pid node asked by ≡ b → b ≡ false
    go true is = absurd (none (stopper_holds locks pid node by asked is))
    go false is = refl

-- where nobody holds ranges of a file nothing is in the way there
no_way : (locks : Locks) (pid node : ℕ) (asked : Request) → ((by : ℕ) → ranges_of locks by node ≢ [] → ⊥) → filter (is_in_way pid node asked) locks ≡ []
no_way [] pid node asked none = refl
no_way (lock ∷ locks) pid node asked none = go (lock.node == node) refl (no_way locks pid node asked)
  where
    by_own : (b : Bool) → (lock.node == node) ≡ b → b ≡ true → list_any (is_of lock.pid node) (lock ∷ locks) ≡ true
    by_own b is own =
        ap (λ a. (a && (lock.node == node)) || list_any (is_of lock.pid node) locks) (eqb_same lock.pid lock.pid refl)
        ∙ ap (λ a. a || list_any (is_of lock.pid node) locks) (is ∙ own)

    go : (b : Bool) → (lock.node == node) ≡ b → (((by : ℕ) → ranges_of locks by node ≢ [] → ⊥) → filter (is_in_way pid node asked) locks ≡ [])
        → filter (is_in_way pid node asked) (lock ∷ locks) ≡ []
    go true is rest = absurd (none lock.pid (has_range (lock ∷ locks) lock.pid node (by_own true is refl)))
    go false is rest =
        ap (λ b. cond b (lock ∷ filter (is_in_way pid node asked) locks) (filter (is_in_way pid node asked) locks))
        (ap (λ a. not (lock.pid == pid) && (a && meets lock.range asked)) is ∙ and_right (not (lock.pid == pid)) false refl)
        ∙ rest (λ by some. none by (λ e. some (sym (passed by) ∙ e)))
      where
        passed : (by : ℕ) → ranges_of (lock ∷ locks) by node ≡ ranges_of locks by node
        passed by =
            ap (λ b. map (λ (l : Lock). l.range) (cond b (lock ∷ filter (is_of by node) locks) (filter (is_of by node) locks)))
            (ap (λ a. (lock.pid == by) && a) is ∙ and_right (lock.pid == by) false refl)

pub clear_none : (locks : Locks) (pid node : ℕ) (asked : Request) → ((by : ℕ) → ranges_of locks by node ≢ [] → ⊥) → is_clear locks pid node asked ≡ true
clear_none locks pid node asked none = ap (λ (ls : Locks). is_none (first_of ls)) (no_way locks pid node asked none)

-- ---- of no directory anybody holds ranges

never : {X : Type 0} {b : Bool} → b ≡ true → b ≡ false → X
never e f = cc

module _ (files : Files) (are : AreLocks files) (pid by : ℕ) (wanted : WantedHere) where
  pub stopped_so : is_stopped_by files.locks pid by (wanted_in files.tree wanted) ≡ stops files.locks pid wanted.node (asked_by wanted.range) by
  stopped_so = go (is_directory files.tree wanted.node) refl
    where
      go : (directory : Bool) → is_directory files.tree wanted.node ≡ directory
          → is_stopped_by files.locks pid by (cond directory None (Some (record { node = wanted.node; asked = asked_by wanted.range }))) ≡ stops files.locks pid wanted.node (asked_by wanted.range) by
      go true is = sym (stops_none files.locks pid wanted.node by (asked_by wanted.range) (λ some. never is (are.files by wanted.node some)))
      go false is = refl

module _ (files : Files) (are : AreLocks files) (pid : ℕ) (wanted : WantedHere) where
  pub held_so : is_held_up files.locks pid (wanted_in files.tree wanted) ≡ not (is_clear files.locks pid wanted.node (asked_by wanted.range))
  held_so = go (is_directory files.tree wanted.node) refl
    where
      go : (directory : Bool) → is_directory files.tree wanted.node ≡ directory
          → is_held_up files.locks pid (cond directory None (Some (record { node = wanted.node; asked = asked_by wanted.range }))) ≡ not (is_clear files.locks pid wanted.node (asked_by wanted.range))
      go true is = sym (ap not (clear_none files.locks pid wanted.node (asked_by wanted.range) (λ by some. never is (are.files by wanted.node some))))
      go false is = refl

-- ---- who has something open has a place

-- none of no descriptors is open on a file
none_opens : (files : Files) (node : ℕ) (number : ℕ → ℕ) (n : ℕ) → list_any (opens_by files node) (descriptors_by number (replicate n None)) ≡ false
none_opens files node number zero = refl
none_opens files node number (suc n) = none_opens files node number n

place_found : (procs : List (Option Proc)) (listed : List Place) (pid : ℕ) (proc : Proc) → AreStored procs listed → proc_of (procs_at procs listed) pid ≡ Some proc
    → (at : ℕ) × (pid_at listed at ≡ Some pid)
place_found procs [] pid proc stored found = cc
place_found procs (place ∷ places) pid proc stored found =
    let at : IsAt procs place = stored_is procs place stored.0 in
    by_first at.proc at.pid (at.proc.pid == pid) refl (place_found procs places pid proc stored.1) (ap (λ (o : Option Proc). proc_of (cons_option o (procs_at procs places)) pid) (sym at.is) ∙ found)
  where
    by_first : (first : Proc) → first.pid ≡ place.pid → (b : Bool) → (first.pid == pid) ≡ b → (proc_of (procs_at procs places) pid ≡ Some proc → (at : ℕ) × (pid_at places at ≡ Some pid))
        → cond b (Some first) (proc_of (procs_at procs places) pid) ≡ Some proc → (at : ℕ) × (pid_at (place ∷ places) at ≡ Some pid)
    by_first first own true is behind e = (0, ap Some (sym own ∙ eqb-true first.pid pid is))
    by_first first own false is behind e = let later = behind e in (suc later.0, later.1)

pub has_place : (script : Script) (objects : Objects) (world : World) → StandsFor script objects world → IsSound world.plain → (pid node : ℕ)
    → ranges_of world.plain.files.locks pid node ≢ [] → (at : ℕ) × (pid_at objects.procs.listed at ≡ Some pid)
has_place script objects world stands sound pid node some =
    by_proc (proc_of (procs_of objects) pid) refl
  where
    number : ℕ → ℕ
    number = stands.files.numbers.descs

    opens : list_any (opens_by world.plain.files node) (descriptors_by number (places_in (numbers_in objects.heap) (proc_of (procs_of objects) pid))) ≡ true
    opens =
        ap (list_any (opens_by world.plain.files node)) (sym (stands.files.opened.descriptors.each pid))
        ∙ sound.locks.opened pid node some

    by_proc : (o : Option Proc) → proc_of (procs_of objects) pid ≡ o → (at : ℕ) × (pid_at objects.procs.listed at ≡ Some pid)
    by_proc None is =
        never (ap (λ (o : Option Proc). list_any (opens_by world.plain.files node) (descriptors_by number (places_in (numbers_in objects.heap) o))) (sym is) ∙ opens)
        (none_opens world.plain.files node number most_descriptors)
    by_proc (Some proc) is = place_found objects.heap.procs objects.procs.listed pid proc stands.kept.holds.stored is

-- ---- pids of a table

least : (before last : ℕ) (places : List Place) → AreBetween before places last → before ≤ last
least before last [] between = between
least before last (place ∷ places) between = let later = least place.pid last places between.1 in let first = between.0 in omega (arith, later, first)

pub pid_between : (before last : ℕ) (places : List Place) (at pid : ℕ) → AreBetween before places last → pid_at places at ≡ Some pid → (before < pid) × (pid ≤ last)
pid_between before last [] at pid between is = cc
pid_between before last (place ∷ places) zero pid between is =
    let same : place.pid ≡ pid = cc in let first = between.0 in let later = least place.pid last places between.1 in (omega (arith, same, first), omega (arith, same, later))
pid_between before last (place ∷ places) (suc at) pid between is =
    let later = pid_between place.pid last places at pid between.1 is in let first = between.0 in (omega (arith, first, later.0), later.1)
