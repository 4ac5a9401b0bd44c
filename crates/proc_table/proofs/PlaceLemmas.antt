-- The processes that stand at places, where objects of the heap change.
use Rattle.std.proofs.Common.{◌≡◌, ◌≢◌, ◌⊎◌, ℕ, zero, suc, get_or, ◌<◌, ◌≤◌, ◌==◌, ◌||◌, Bool, true, false, cond, not, List, [], ◌∷◌, ◌++◌, length, filter, Option, None, Some, is_some, IsSomeAnd, refl, sym, ap, ◌∙◌, subst, inl, inr, arith, Contains, slice_set}
use Rattle.std.specs.List.{filter_map, cons_option}
use Rattle.std.specs.Option.{option_and_then}
use Rattle.std.proofs.lemmas.Bool.Decides.{eqb_tells}
use Rattle.std.proofs.lemmas.List.{get_or-set_same, get_or-set_other}
use Rattle.std.proofs.lemmas.List.Elements.{Contains-append_left}
use Rattle.kheap_slabs.specs.Objects.{object, InUse}
use Rattle.kheap_slabs.specs.declared.objects.Proc.{Proc}
use Rattle.kheap_slabs.specs.Heap.{Heap}
use Rattle.kheap_slabs.specs.Keys.{ChangesKeys}
use Rattle.kheap_slabs.proofs.ObjectLemmas.{InUse-within}
use Rattle.proc_table.specs.Changes.{is_alone}
use Rattle.proc_table.specs.Procs.{proc_of}
use Rattle.proc_table.specs.Table.{TableView, processes, key_of, keys_of, procs_at, AreStored, AreBetween, objects_after, is_kept, places_kept}
use Rattle.proc_table.specs.declared.places.Place.{Place}

-- a number is itself, and not another
pub eqb_same : (a b : ℕ) → a ≡ b → (a == b) ≡ true
eqb_same a b e = elim (eqb_tells a b) [ inl is ↦ is.0 | inr is ↦ absurd (is.1 e) ]

pub eqb_other : (a b : ℕ) → a ≢ b → (a == b) ≡ false
eqb_other a b e = elim (eqb_tells a b) [ inl is ↦ absurd (e is.1) | inr is ↦ is.0 ]

pub eqb_is : (a b : ℕ) → (a == b) ≡ true → a ≡ b
eqb_is a b e = elim (eqb_tells a b) [ inl is ↦ is.1 | inr is ↦ absurd (let f = is.0 in cc) ]

-- an item behind the first, and the first or one behind it
pub Contains-behind : {X : Type 0} (head x : X) (rest : List X) → Contains rest x → Contains (head ∷ rest) x
Contains-behind head x rest p = (suc p.0, omega (arith, p.1), p.2)

pub Contains-cases : {X : Type 0} (head x : X) (rest : List X) → Contains (head ∷ rest) x → (head ≡ x) ⊎ Contains rest x
Contains-cases {X} head x rest p = by_place p.0 p.1 p.2
  where
    by_place : (k : ℕ) → k < suc (length rest) → get_or (head ∷ rest) k x ≡ x → (head ≡ x) ⊎ Contains rest x
    by_place zero within found = inl found
    by_place (suc k) within found = inr (k, omega arith, found)

-- the process of a place that has one
pub record IsAt (objects : List (Option Proc)) (place : Place) : Type 0 where
  pub proc : Proc
  pub is : object objects place.key ≡ Some proc
  pub pid : proc.pid ≡ place.pid

pub stored_is : (objects : List (Option Proc)) (place : Place) → IsSomeAnd (object objects place.key) (λ proc. proc.pid ≡ place.pid) → IsAt objects place
stored_is objects place stored = by_case (object objects place.key) refl stored
  where
    by_case : (o : Option Proc) → object objects place.key ≡ o → IsSomeAnd o (λ proc. proc.pid ≡ place.pid) → IsAt objects place
    by_case None is none = absurd none
    by_case (Some proc) is same = record { proc = proc; is = is; pid = same }

pub at_stored : (objects : List (Option Proc)) (place : Place) (proc : Proc) → object objects place.key ≡ Some proc → proc.pid ≡ place.pid
    → IsSomeAnd (object objects place.key) (λ proc. proc.pid ≡ place.pid)
at_stored objects place proc is pid = subst (λ o. IsSomeAnd o (λ proc. proc.pid ≡ place.pid)) (sym is) pid

pub some_same : {X : Type 0} (o : Option X) (x y : X) → o ≡ Some x → o ≡ Some y → x ≡ y
some_same o x y e f = cc

pub none_not_some : {X : Type 0} (o : Option X) (x : X) → o ≡ None → o ≡ Some x → ⊥
none_not_some o x e f = cc

-- no place has this key
abbrev pub Misses : ℕ → List Place → Type 0
Misses key [] = Unit {0}
Misses key (place ∷ places) = (place.key ≢ key) × Misses key places

-- the key of a process with a lower pid is none of theirs
pub Misses-lower : (objects : List (Option Proc)) (places : List Place) (before last key : ℕ) (proc : Proc)
    → AreStored objects places → AreBetween before places last → object objects key ≡ Some proc → proc.pid ≤ before → Misses key places
Misses-lower objects [] before last key proc stored rising is low = tt
Misses-lower objects (place ∷ places) before last key proc stored rising is low = (
  differs (stored_is objects place stored.0),
  Misses-lower objects places place.pid last key proc stored.1 rising.1 is (omega (arith, rising.0)),
)
  where
    differs : IsAt objects place → place.key ≢ key
    differs at same =
        let one : at.proc ≡ proc = some_same (object objects key) at.proc proc (ap (object objects) (sym same) ∙ at.is) is in
        let e : proc.pid ≡ place.pid = ap (λ p. p.pid) (sym one) ∙ at.pid in
        omega (arith, e, rising.0)

-- nor is a key that names nothing
pub Misses-vacant : (objects : List (Option Proc)) (places : List Place) (key : ℕ) → AreStored objects places → object objects key ≡ None → Misses key places
Misses-vacant objects [] key stored vacant = tt
Misses-vacant objects (place ∷ places) key stored vacant = (
  (λ same. let at = stored_is objects place stored.0 in none_not_some (object objects key) at.proc vacant (ap (object objects) (sym same) ∙ at.is)),
  Misses-vacant objects places key stored.1 vacant,
)

pub Misses-outside : (places : List Place) (key : ℕ) → (Contains (keys_of places) key → ⊥) → Misses key places
Misses-outside [] key absent = tt
Misses-outside (place ∷ places) key absent = (
  (λ same. absent (0, omega arith, same)),
  Misses-outside places key (λ there. absent (Contains-behind place.key key (keys_of places) there)),
)

-- what stands under another key is the same
pub object_missed : (objects : List (Option Proc)) (key other : ℕ) (value : Option Proc) → other ≢ key → object (slice_set objects key value) other ≡ object objects other
object_missed objects key other value differs = get_or-set_other objects key other value None differs

pub procs_at-missed : (objects : List (Option Proc)) (places : List Place) (key : ℕ) (value : Option Proc) → Misses key places
    → procs_at (slice_set objects key value) places ≡ procs_at objects places
procs_at-missed objects [] key value misses = refl
procs_at-missed objects (place ∷ places) key value misses =
    ap (λ o. cons_option o (procs_at (slice_set objects key value) places)) (object_missed objects key place.key value misses.0)
    ∙ ap (cons_option (object objects place.key)) (procs_at-missed objects places key value misses.1)

pub AreStored-missed : (objects : List (Option Proc)) (places : List Place) (key : ℕ) (value : Option Proc) → Misses key places
    → AreStored objects places → AreStored (slice_set objects key value) places
AreStored-missed objects [] key value misses stored = tt
AreStored-missed objects (place ∷ places) key value misses stored = (
  subst (λ o. IsSomeAnd o (λ proc. proc.pid ≡ place.pid)) (sym (object_missed objects key place.key value misses.0)) stored.0,
  AreStored-missed objects places key value misses.1 stored.1,
)

pub AreBetween-lower : (places : List Place) (before lower last : ℕ) → lower ≤ before → AreBetween before places last → AreBetween lower places last
AreBetween-lower [] before lower last low rising = omega (arith, rising)
AreBetween-lower (place ∷ places) before lower last low rising = (omega (arith, rising.0), rising.1)

-- some of the places rise too
pub AreBetween-filter : (test : Place → Bool) (places : List Place) (before last : ℕ) → AreBetween before places last → AreBetween before (filter test places) last
AreBetween-filter test [] before last rising = rising
AreBetween-filter test (place ∷ places) before last rising = by_case (test place) (AreBetween-filter test places place.pid last rising.1)
  where
    by_case : (b : Bool) → AreBetween place.pid (filter test places) last → AreBetween before (cond b (place ∷ filter test places) (filter test places)) last
    by_case true rest = (rising.0, rest)
    by_case false rest = AreBetween-lower (filter test places) place.pid before last (omega (arith, rising.0)) rest

pub AreBetween-more : (places : List Place) (before last pid key : ℕ) → AreBetween before places last → last < pid
    → AreBetween before (places ++ record { pid = pid; key = key } ∷ []) pid
AreBetween-more [] before last pid key rising next = (omega (arith, rising), omega arith)
AreBetween-more (place ∷ places) before last pid key rising next = (rising.0, AreBetween-more places place.pid last pid key rising.1 next)

-- each process became what it becomes
abbrev pub Follows : (Proc → Option Proc) → List (Option Proc) → List (Option Proc) → List Place → Type 0
Follows becomes old new [] = Unit {0}
Follows becomes old new (place ∷ places) = (object new place.key ≡ option_and_then becomes (object old place.key)) × Follows becomes old new places

module _ (becomes : Proc → Option Proc) where
  -- the first place stays or goes
  places_kept-first : (old : List (Option Proc)) (place : Place) (places : List Place) (o : Option Proc) → option_and_then becomes (object old place.key) ≡ o
      → places_kept becomes old (place ∷ places) ≡ cond (is_some o) (place ∷ places_kept becomes old places) (places_kept becomes old places)
  places_kept-first old place places o is = ap (λ v. cond (is_some v) (place ∷ places_kept becomes old places) (places_kept becomes old places)) is

  pub follows_procs : (old new : List (Option Proc)) (places : List Place) → AreStored old places → Follows becomes old new places
      → procs_at new (places_kept becomes old places) ≡ filter_map becomes (procs_at old places)
  follows_procs old new [] stored follows = refl
  follows_procs old new (place ∷ places) stored follows =
      let at = stored_is old place stored.0 in
      by_case (becomes at.proc) (ap (option_and_then becomes) at.is) (follows_procs old new places stored.1 follows.1)
      ∙ ap (λ o. filter_map becomes (cons_option o (procs_at old places))) (sym at.is)
    where
      by_case : (o : Option Proc) → option_and_then becomes (object old place.key) ≡ o
          → procs_at new (places_kept becomes old places) ≡ filter_map becomes (procs_at old places)
          → procs_at new (places_kept becomes old (place ∷ places)) ≡ cons_option o (filter_map becomes (procs_at old places))
      by_case None is rest = ap (procs_at new) (places_kept-first old place places None is) ∙ rest
      by_case (Some proc) is rest =
          ap (procs_at new) (places_kept-first old place places (Some proc) is)
          ∙ ap (λ o. cons_option o (procs_at new (places_kept becomes old places))) (follows.0 ∙ is)
          ∙ ap (λ procs. proc ∷ procs) rest

  pub follows_stored : (old new : List (Option Proc)) (places : List Place) → ((proc now : Proc) → becomes proc ≡ Some now → now.pid ≡ proc.pid)
      → AreStored old places → Follows becomes old new places → AreStored new (places_kept becomes old places)
  follows_stored old new [] same stored follows = tt
  follows_stored old new (place ∷ places) same stored follows =
      let at = stored_is old place stored.0 in
      by_case at (becomes at.proc) refl (ap (option_and_then becomes) at.is) (follows_stored old new places same stored.1 follows.1)
    where
      by_case : (at : IsAt old place) (o : Option Proc) → becomes at.proc ≡ o → option_and_then becomes (object old place.key) ≡ becomes at.proc
          → AreStored new (places_kept becomes old places) → AreStored new (places_kept becomes old (place ∷ places))
      by_case at None is goes rest = subst (AreStored new) (sym (places_kept-first old place places None (goes ∙ is))) rest
      by_case at (Some proc) is goes rest =
          subst (AreStored new) (sym (places_kept-first old place places (Some proc) (goes ∙ is)))
          (at_stored new place proc (follows.0 ∙ goes ∙ is) (same at.proc proc is ∙ at.pid), rest)

  -- whoever misses all of them sees no change
  pub objects_after-missed : (objects : List (Option Proc)) (places : List Place) (key : ℕ) → Misses key places
      → object (objects_after becomes objects places) key ≡ object objects key
  objects_after-missed objects [] key misses = refl
  objects_after-missed objects (place ∷ places) key misses =
      objects_after-missed (slice_set objects place.key (option_and_then becomes (object objects place.key))) places key misses.1
      ∙ object_missed objects place.key key (option_and_then becomes (object objects place.key)) (λ same. misses.0 (sym same))

  follows_missed : (old new : List (Option Proc)) (key : ℕ) (value : Option Proc) (places : List Place) → Misses key places
      → Follows becomes (slice_set old key value) new places → Follows becomes old new places
  follows_missed old new key value [] misses follows = tt
  follows_missed old new key value (place ∷ places) misses follows = (
    follows.0 ∙ ap (option_and_then becomes) (object_missed old key place.key value misses.0),
    follows_missed old new key value places misses.1 follows.1,
  )

  -- each in turn became what it becomes
  pub follows_all : (objects : List (Option Proc)) (places : List Place) (before last : ℕ) → AreStored objects places → AreBetween before places last
      → Follows becomes objects (objects_after becomes objects places) places
  follows_all objects [] before last stored rising = tt
  follows_all objects (place ∷ places) before last stored rising =
      let at = stored_is objects place stored.0 in
      let misses = Misses-lower objects places place.pid last place.key at.proc stored.1 rising.1 at.is (let e : at.proc.pid ≡ place.pid = at.pid in omega arith) in
      let value = option_and_then becomes (object objects place.key) in (
        objects_after-missed (slice_set objects place.key value) places place.key misses
            ∙ get_or-set_same objects place.key value None (InUse-within objects place.key (ap is_some at.is)),
        follows_missed objects (objects_after becomes (slice_set objects place.key value) places) place.key value places misses
            (follows_all (slice_set objects place.key value) places place.pid last (AreStored-missed objects places place.key value misses stored.1) rising.1),
      )

  -- nobody of these is the one that changes
  follows_none : (objects : List (Option Proc)) (key pid : ℕ) (value : Option Proc) (places : List Place) (before last : ℕ)
      → ((proc : Proc) → proc.pid ≢ pid → becomes proc ≡ Some proc)
      → AreStored objects places → AreBetween before places last → pid ≤ before → Misses key places
      → Follows becomes objects (slice_set objects key value) places
  follows_none objects key pid value [] before last others stored rising low misses = tt
  follows_none objects key pid value (place ∷ places) before last others stored rising low misses =
      let at = stored_is objects place stored.0 in (
        object_missed objects key place.key value misses.0 ∙ at.is
            ∙ sym (ap (option_and_then becomes) at.is ∙ others at.proc (λ same. let e : at.proc.pid ≡ place.pid = at.pid in omega (arith, e, same, rising.0))),
        follows_none objects key pid value places place.pid last others stored.1 rising.1 (omega (arith, rising.0)) misses.1,
      )

-- the key of a pid has the process of that pid
pub key_of-proc : (objects : List (Option Proc)) (places : List Place) (pid key : ℕ) → AreStored objects places → key_of places pid ≡ Some key
    → (proc : Proc) × (object objects key ≡ Some proc) × (proc.pid ≡ pid) × (proc_of (procs_at objects places) pid ≡ Some proc)
key_of-proc objects [] pid key stored is = cc
key_of-proc objects (place ∷ places) pid key stored is =
    by_case (stored_is objects place stored.0) (eqb_tells place.pid pid) (key_of-proc objects places pid key stored.1)
  where
    by_case : IsAt objects place → (((place.pid == pid) ≡ true) × (place.pid ≡ pid)) ⊎ (((place.pid == pid) ≡ false) × (place.pid ≢ pid))
        → (key_of places pid ≡ Some key → (proc : Proc) × (object objects key ≡ Some proc) × (proc.pid ≡ pid) × (proc_of (procs_at objects places) pid ≡ Some proc))
        → (proc : Proc) × (object objects key ≡ Some proc) × (proc.pid ≡ pid) × (proc_of (procs_at objects (place ∷ places)) pid ≡ Some proc)
    by_case at (inl same) rest =
        let key_is : place.key ≡ key = some_same (Some place.key) place.key key refl (sym (sym is ∙ ap (λ b. cond b (Some place.key) (key_of places pid)) same.0)) in (
          at.proc,
          ap (object objects) (sym key_is) ∙ at.is,
          at.pid ∙ same.1,
          ap (λ o. proc_of (cons_option o (procs_at objects places)) pid) at.is
              ∙ ap (λ b. cond b (Some at.proc) (proc_of (procs_at objects places) pid)) (eqb_same at.proc.pid pid (at.pid ∙ same.1)),
        )
    by_case at (inr other) rest =
        let found = rest (sym (ap (λ b. cond b (Some place.key) (key_of places pid)) other.0) ∙ is) in (
          found.0,
          found.1,
          found.2,
          ap (λ o. proc_of (cons_option o (procs_at objects places)) pid) at.is
              ∙ ap (λ b. cond b (Some at.proc) (proc_of (procs_at objects places) pid)) (eqb_other at.proc.pid pid (λ same. other.1 (sym at.pid ∙ same)))
              ∙ found.3,
        )

-- and a pid without a key is none of them
pub key_of-none : (objects : List (Option Proc)) (places : List Place) (pid : ℕ) → AreStored objects places → key_of places pid ≡ None → proc_of (procs_at objects places) pid ≡ None
key_of-none objects [] pid stored is = refl
key_of-none objects (place ∷ places) pid stored is =
    by_case (stored_is objects place stored.0) (eqb_tells place.pid pid) (key_of-none objects places pid stored.1)
  where
    by_case : IsAt objects place → (((place.pid == pid) ≡ true) × (place.pid ≡ pid)) ⊎ (((place.pid == pid) ≡ false) × (place.pid ≢ pid))
        → (key_of places pid ≡ None → proc_of (procs_at objects places) pid ≡ None)
        → proc_of (procs_at objects (place ∷ places)) pid ≡ None
    by_case at (inl same) rest = absurd (none_not_some (key_of (place ∷ places) pid) place.key is (ap (λ b. cond b (Some place.key) (key_of places pid)) same.0))
    by_case at (inr other) rest =
        ap (λ o. proc_of (cons_option o (procs_at objects places)) pid) at.is
        ∙ ap (λ b. cond b (Some at.proc) (proc_of (procs_at objects places) pid)) (eqb_other at.proc.pid pid (λ same. other.1 (sym at.pid ∙ same)))
        ∙ rest (sym (ap (λ b. cond b (Some place.key) (key_of places pid)) other.0) ∙ is)

-- the key of a pid is one of the keys
pub key_of-misses : (places : List Place) (pid key : ℕ) → key_of places pid ≡ Some key → Misses key places → ⊥
key_of-misses [] pid key is misses = cc
key_of-misses (place ∷ places) pid key is misses = by_case (place.pid == pid) is (key_of-misses places pid key)
  where
    by_case : (b : Bool) → cond b (Some place.key) (key_of places pid) ≡ Some key → (key_of places pid ≡ Some key → Misses key places → ⊥) → ⊥
    by_case true is rest = misses.0 (some_same (Some key) place.key key (sym is) refl)
    by_case false is rest = rest is misses.1

-- where one process changes and all others stay, each became what it becomes
pub follows_one : (becomes : Proc → Option Proc) (objects : List (Option Proc)) (key pid : ℕ) (proc : Proc) (value : Option Proc) (places : List Place) (before last : ℕ)
    → ((other : Proc) → other.pid ≢ pid → becomes other ≡ Some other) → object objects key ≡ Some proc → becomes proc ≡ value
    → AreStored objects places → AreBetween before places last → key_of places pid ≡ Some key
    → Follows becomes objects (slice_set objects key value) places
follows_one becomes objects key pid proc value [] before last others there is stored rising found = tt
follows_one becomes objects key pid proc value (place ∷ places) before last others there is stored rising found =
    by_case (stored_is objects place stored.0) (eqb_tells place.pid pid) (follows_one becomes objects key pid proc value places place.pid last others there is stored.1 rising.1)
  where
    by_case : IsAt objects place → (((place.pid == pid) ≡ true) × (place.pid ≡ pid)) ⊎ (((place.pid == pid) ≡ false) × (place.pid ≢ pid))
        → (key_of places pid ≡ Some key → Follows becomes objects (slice_set objects key value) places)
        → Follows becomes objects (slice_set objects key value) (place ∷ places)
    by_case at (inl same) rest =
        let key_is : place.key ≡ key = some_same (Some place.key) place.key key refl (sym (sym found ∙ ap (λ b. cond b (Some place.key) (key_of places pid)) same.0)) in
        let at_pid : at.proc.pid ≡ place.pid = at.pid in
        let misses = Misses-lower objects places place.pid last place.key at.proc stored.1 rising.1 at.is (omega arith) in (
          ap (object (slice_set objects key value)) key_is
              ∙ get_or-set_same objects key value None (InUse-within objects key (ap is_some there))
              ∙ sym is ∙ ap (option_and_then becomes) (sym there) ∙ ap (λ k. option_and_then becomes (object objects k)) (sym key_is),
          follows_none becomes objects key pid value places place.pid last others stored.1 rising.1 (let e : place.pid ≡ pid = same.1 in omega arith)
              (subst (λ k. Misses k places) key_is misses),
        )
    by_case at (inr other) rest =
        let behind = sym (ap (λ b. cond b (Some place.key) (key_of places pid)) other.0) ∙ found in
        let named = key_of-proc objects places pid key stored.1 behind in
        let apart : at.proc.pid ≢ pid = λ same. other.1 (sym at.pid ∙ same) in
        let differs : place.key ≢ key = λ same. apart (ap (λ p. p.pid) (some_same (object objects key) at.proc named.0 (ap (object objects) (sym same) ∙ at.is) named.1) ∙ named.2) in (
          object_missed objects key place.key value differs ∙ at.is ∙ sym (ap (option_and_then becomes) at.is ∙ others at.proc apart),
          rest behind,
        )

-- Which keys a table has, before and after.
stays_listed : (becomes : Proc → Option Proc) (old new : List (Option Proc)) (places : List Place) (key : ℕ) → Follows becomes old new places
    → Contains (keys_of places) key → InUse new key → Contains (keys_of (places_kept becomes old places)) key
stays_listed becomes old new [] key follows there used = absurd (omega (arith, there.1))
stays_listed becomes old new (place ∷ places) key follows there used =
    by_case (option_and_then becomes (object old place.key)) refl (Contains-cases place.key key (keys_of places) there) (λ behind. stays_listed becomes old new places key follows.1 behind used)
  where
    by_case : (o : Option Proc) → option_and_then becomes (object old place.key) ≡ o → (place.key ≡ key) ⊎ Contains (keys_of places) key
        → (Contains (keys_of places) key → Contains (keys_of (places_kept becomes old places)) key)
        → Contains (keys_of (places_kept becomes old (place ∷ places))) key
    by_case None is (inl same) rest = absurd (none_not_some (Some true) true (grind arith) refl)
    by_case None is (inr behind) rest = subst (λ kept. Contains (keys_of kept) key) (sym (places_kept-first becomes old place places None is)) (rest behind)
    by_case (Some proc) is (inl same) rest = subst (λ kept. Contains (keys_of kept) key) (sym (places_kept-first becomes old place places (Some proc) is)) (0, omega arith, same)
    by_case (Some proc) is (inr behind) rest =
        subst (λ kept. Contains (keys_of kept) key) (sym (places_kept-first becomes old place places (Some proc) is)) (Contains-behind place.key key (keys_of (places_kept becomes old places)) (rest behind))

kept_listed : (test : Place → Bool) (places : List Place) (key : ℕ) → Contains (keys_of (filter test places)) key → Contains (keys_of places) key
kept_listed test [] key there = there
kept_listed test (place ∷ places) key there = by_case (test place) there (kept_listed test places key)
  where
    by_case : (b : Bool) → Contains (keys_of (cond b (place ∷ filter test places) (filter test places))) key
        → (Contains (keys_of (filter test places)) key → Contains (keys_of places) key) → Contains (keys_of (place ∷ places)) key
    by_case true there rest = elim (Contains-cases place.key key (keys_of (filter test places)) there) [
      | inl same ↦ (0, omega arith, same)
      | inr behind ↦ Contains-behind place.key key (keys_of places) (rest behind)
    ]
    by_case false there rest = Contains-behind place.key key (keys_of places) (rest there)

pub follows_keys : (becomes : Proc → Option Proc) (old new : List (Option Proc)) (places : List Place) → Follows becomes old new places
    → ((key : ℕ) → Misses key places → object new key ≡ object old key)
    → ChangesKeys old new (keys_of places) (keys_of (places_kept becomes old places))
follows_keys becomes old new places follows missed = record {
  outside = λ key absent. missed key (Misses-outside places key (λ there. absent (Contains-append_left (keys_of places) (keys_of (places_kept becomes old places)) key there)));
  fresh = λ key there. inl (kept_listed (is_kept becomes old) places key there);
  left = λ key there used. stays_listed becomes old new places key follows there used;
}

-- Whether somebody may wait for a process, by the first one's key.
pub alone_by_key : (h : Heap) (kept : TableView) (pid : ℕ) (key : Option ℕ) (none : Bool) → AreStored h.procs kept.listed → pid ≢ 1
    → key ≡ key_of kept.listed 1 → is_some key ≡ not none → none ≡ is_alone pid (processes h kept)
alone_by_key h kept pid key none stored other found told =
    by_case key none found told ∙ sym (ap (λ b. b || not (is_some (proc_of (processes h kept) 1))) (eqb_other pid 1 other))
  where
    by_case : (key : Option ℕ) (none : Bool) → key ≡ key_of kept.listed 1 → is_some key ≡ not none → none ≡ not (is_some (proc_of (processes h kept) 1))
    by_case None true found told = sym (ap (λ o. not (is_some o)) (key_of-none h.procs kept.listed 1 stored (sym found)))
    by_case None false found told = cc
    by_case (Some key) true found told = cc
    by_case (Some key) false found told =
        let named = key_of-proc h.procs kept.listed 1 key stored (sym found) in sym (ap (λ o. not (is_some o)) named.3)
