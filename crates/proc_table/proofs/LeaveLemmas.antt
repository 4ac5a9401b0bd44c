-- One process after another is left behind by one that ends.
use Rattle.std.proofs.Common.{◌≡◌, ℕ, zero, suc, ◌+◌, ◌<◌, ◌≤◌, Bool, true, false, cond, List, [], ◌∷◌, ◌++◌, length, drop, Option, is_some, refl, sym, ap, ◌∙◌, subst, arith, slice_set, get_or, append_assoc, append-nil, length-append}
use Rattle.std.proofs.lemmas.List.{drop_all}
use Rattle.std.specs.Option.{option_and_then}
use Rattle.kheap_slabs.specs.Objects.{object}
use Rattle.kheap_slabs.specs.declared.objects.Proc.{Proc}
use Rattle.kheap_slabs.specs.Heap.{Heap}
use Rattle.kheap_slabs.specs.Paid.{TakesNothing}
use Rattle.kheap_laws.proofs.PaidLemmas.{TakesNothing-trans}
use Rattle.proc_table.specs.Changes.{left_behind}
use Rattle.proc_table.specs.Table.{AreBetween, AreStored, is_kept, objects_after, places_kept}
use Rattle.proc_table.specs.declared.places.Place.{Place}
use Rattle.proc_table.proofs.PlaceLemmas.{AreBetween-filter, AreStored-missed, Misses, Misses-lower, object_missed, stored_is}

-- The processes before a place are left behind, and those from there on are to be.
pub record IsLeaving (pid status : ℕ) (old now : Heap) (places : List Place) (last at : ℕ) (left : List Place) : Type 0 where
  pub before : ℕ
  pub stored : AreStored now.procs (drop at places)
  pub rising : AreBetween before (drop at places) last
  pub procs : objects_after (left_behind pid status) now.procs (drop at places) ≡ objects_after (left_behind pid status) old.procs places
  pub listed : left ++ places_kept (left_behind pid status) now.procs (drop at places) ≡ places_kept (left_behind pid status) old.procs places
  pub kept : now ≡ record old { procs = now.procs }
  pub takes : TakesNothing old now
  pub few : length left ≤ at

pub kept_missed : (becomes : Proc → Option Proc) (objects : List (Option Proc)) (places : List Place) (key : ℕ) (value : Option Proc) → Misses key places
    → places_kept becomes (slice_set objects key value) places ≡ places_kept becomes objects places
kept_missed becomes objects [] key value misses = refl
kept_missed becomes objects (place ∷ places) key value misses =
    ap (λ o. cond (is_some (option_and_then becomes o)) (place ∷ places_kept becomes (slice_set objects key value) places) (places_kept becomes (slice_set objects key value) places))
    (object_missed objects key place.key value misses.0)
    ∙ ap (λ rest. cond (is_kept becomes objects place) (place ∷ rest) rest) (kept_missed becomes objects places key value misses.1)

-- the first of them is left behind
pub record LeavesFirst (becomes : Proc → Option Proc) (objects : List (Option Proc)) (place : Place) (places : List Place) (last : ℕ) : Type 0 where
  pub stored : AreStored (slice_set objects place.key (option_and_then becomes (object objects place.key))) places
  pub same : places_kept becomes (slice_set objects place.key (option_and_then becomes (object objects place.key))) places ≡ places_kept becomes objects places

pub leaves_first : (becomes : Proc → Option Proc) (objects : List (Option Proc)) (place : Place) (places : List Place) (before last : ℕ)
    → AreStored objects (place ∷ places) → AreBetween before (place ∷ places) last → LeavesFirst becomes objects place places last
leaves_first becomes objects place places before last stored rising =
    let at = stored_is objects place stored.0 in
    let misses = Misses-lower objects places place.pid last place.key at.proc stored.1 rising.1 at.is (let e : at.proc.pid ≡ place.pid = at.pid in omega arith) in
    record {
      stored = AreStored-missed objects places place.key (option_and_then becomes (object objects place.key)) misses stored.1;
      same = kept_missed becomes objects places place.key (option_and_then becomes (object objects place.key)) misses;
    }

-- the place that a loop stands at
pub record StandsAt (places : List Place) (at : ℕ) : Type 0 where
  pub place : Place
  pub rest : List Place
  pub is : drop at places ≡ place ∷ rest
  pub next : drop (at + 1) places ≡ rest
  pub read : (d : Place) → get_or places at d ≡ place

pub stands_at : (places : List Place) (at : ℕ) → at < length places → StandsAt places at
stands_at [] at within = absurd (omega arith)
stands_at (place ∷ places) zero within = record { place = place; rest = places; is = refl; next = refl; read = λ d. refl }
stands_at (place ∷ places) (suc at) within =
    let behind = stands_at places at (omega arith) in
    record {
      place = behind.place;
      rest = behind.rest;
      is = behind.is;
      next = (let e : suc at + 1 ≡ suc (at + 1) = omega arith in ap (λ n. drop n (place ∷ places)) e) ∙ behind.next;
      read = behind.read;
    }

-- one more is left behind
module _ (pid status : ℕ) (old now next : Heap) (places : List Place) (last at : ℕ) (left more : List Place) (key : ℕ) (stays : Bool)
    (leaving : IsLeaving pid status old now places last at left) (stands : StandsAt places at)
    (key_is : stands.place.key ≡ key)
    (changed : next ≡ record now { procs = slice_set now.procs key (option_and_then (left_behind pid status) (object now.procs key)) })
    (stays_is : stays ≡ is_some (option_and_then (left_behind pid status) (object now.procs key)))
    (takes : TakesNothing now next)
    (more_is : more ≡ left ++ cond stays (stands.place ∷ []) []) where
  abbrev value : Option Proc
  value = option_and_then (left_behind pid status) (object now.procs stands.place.key)

  next_procs : next.procs ≡ slice_set now.procs stands.place.key value
  next_procs = ap (λ (h : Heap). h.procs) changed ∙ ap (λ k. slice_set now.procs k (option_and_then (left_behind pid status) (object now.procs k))) (sym key_is)

  stays_here : stays ≡ is_some value
  stays_here = stays_is ∙ ap (λ k. is_some (option_and_then (left_behind pid status) (object now.procs k))) (sym key_is)

  here : AreStored now.procs (stands.place ∷ stands.rest)
  here = subst (AreStored now.procs) stands.is leaving.stored

  rises : AreBetween leaving.before (stands.place ∷ stands.rest) last
  rises = subst (λ places. AreBetween leaving.before places last) stands.is leaving.rising

  first : LeavesFirst (left_behind pid status) now.procs stands.place stands.rest last
  first = leaves_first (left_behind pid status) now.procs stands.place stands.rest leaving.before last here rises

  one_longer : (b : Bool) → (left ++ cond b (stands.place ∷ []) []) ++ places_kept (left_behind pid status) now.procs stands.rest
      ≡ left ++ cond b (stands.place ∷ places_kept (left_behind pid status) now.procs stands.rest) (places_kept (left_behind pid status) now.procs stands.rest)
  one_longer true = append_assoc left (stands.place ∷ []) (places_kept (left_behind pid status) now.procs stands.rest)
  one_longer false = append_assoc left [] (places_kept (left_behind pid status) now.procs stands.rest)

  few_more : (b : Bool) → length (left ++ cond b (stands.place ∷ []) []) ≤ at + 1
  few_more true = omega (arith, length-append left (stands.place ∷ []), leaving.few)
  few_more false = omega (arith, length-append {A = Place} left [], leaving.few)

  pub IsLeaving-next : IsLeaving pid status old next places last (at + 1) more
  IsLeaving-next = record {
    before = stands.place.pid;
    stored = subst (AreStored next.procs) (sym stands.next) (subst (λ procs. AreStored procs stands.rest) (sym next_procs) first.stored);
    rising = subst (λ places. AreBetween stands.place.pid places last) (sym stands.next) rises.1;
    procs =
        ap (objects_after (left_behind pid status) next.procs) stands.next
        ∙ ap (λ procs. objects_after (left_behind pid status) procs stands.rest) next_procs
        ∙ ap (objects_after (left_behind pid status) now.procs) (sym stands.is)
        ∙ leaving.procs;
    listed =
        ap (λ places. more ++ places_kept (left_behind pid status) next.procs places) stands.next
        ∙ ap (λ procs. more ++ places_kept (left_behind pid status) procs stands.rest) next_procs
        ∙ ap (λ kept. more ++ kept) first.same
        ∙ ap (λ ls. ls ++ places_kept (left_behind pid status) now.procs stands.rest) more_is
        ∙ one_longer stays
        ∙ ap (λ b. left ++ cond b (stands.place ∷ places_kept (left_behind pid status) now.procs stands.rest) (places_kept (left_behind pid status) now.procs stands.rest)) stays_here
        ∙ ap (λ places. left ++ places_kept (left_behind pid status) now.procs places) (sym stands.is)
        ∙ leaving.listed;
    kept = changed ∙ ap (λ (h : Heap). record h { procs = slice_set now.procs key (option_and_then (left_behind pid status) (object now.procs key)) }) leaving.kept
        ∙ ap (λ (procs : List (Option Proc)). record old { procs = procs }) (sym (ap (λ (h : Heap). h.procs) changed));
    takes = TakesNothing-trans old now next leaving.takes takes;
    few = subst (λ ls. length ls ≤ at + 1) (sym more_is) (few_more stays);
  }

-- those that stay stand by rising pid as well
pub IsLeaving-rising : (pid status : ℕ) (old now : Heap) (places : List Place) (last at : ℕ) (left : List Place) → IsLeaving pid status old now places last at left
    → AreBetween 0 places last → length places ≤ at → AreBetween 0 left last
IsLeaving-rising pid status old now places last at left leaving rising over =
    let none : drop at places ≡ [] = drop_all at places over in
    let all : left ≡ places_kept (left_behind pid status) old.procs places =
    sym (append-nil left) ∙ ap (λ rest. left ++ places_kept (left_behind pid status) now.procs rest) (sym none) ∙ leaving.listed in
    subst (λ kept. AreBetween 0 kept last) (sym all) (AreBetween-filter (is_kept (left_behind pid status) old.procs) places 0 last rising)
