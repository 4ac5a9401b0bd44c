-- What becomes of groups, from seats that are handed out to seats that are taken back.
use Rattle.std.proofs.Common.{◌≡◌, ℕ, zero, suc, ◌<◌, Bool, true, false, ◌||◌, List, [], ◌∷◌, ◌++◌, length, map, take, drop, get_or, refl, sym, ap, ◌∙◌, subst, arith}
use Rattle.std.specs.List.{AllByRecursion, list_any}
use Rattle.std.proofs.lemmas.List.{get_or-map, length-map}
use Rattle.kabi_types.specs.declared.scripts.Script.{Script}
use Rattle.posix_defs.specs.World.{World}
use Rattle.charge_words.specs.Names.{ChargeWord, seat_of}
use Rattle.charge_words.specs.Rule.{fresh}
use Rattle.group_heap.specs.declared.groups.Group.{Group}
use Rattle.group_heap.specs.declared.groups.GroupEnd.{GroupEnd}
use Rattle.group_heap.specs.declared.groups.GroupEnd.TheVariants as end
use Rattle.group_heap.specs.Runs.{BecomesOf, EachBecomes, IsAtStart, IsDone, Leaves, Says, has_waited, section_of, sections_of}
use Rattle.group_heap.specs.Seats.{IsReady, WasCalled, seated, unseated}

-- what holds at each place holds of all
pub all_of_places : {X : Type 0} (P : X → Type 0) (xs : List X) → ((place : ℕ) (d : X) → place < length xs → P (get_or xs place d)) → AllByRecursion P xs
all_of_places P [] each = tt
all_of_places P (x ∷ xs) each = (each zero x (omega arith), all_of_places P xs (λ place d within. each (suc place) d (omega (arith, within))))

-- what holds of all holds at each place
pub place_of_all : {X : Type 0} (P : X → Type 0) (xs : List X) (place : ℕ) (d : X) → place < length xs → AllByRecursion P xs → P (get_or xs place d)
place_of_all P [] place d within all = absurd (omega (arith, within))
place_of_all P (x ∷ xs) zero d within all = all.0
place_of_all P (x ∷ xs) (suc place) d within all = place_of_all P xs place d (omega (arith, within)) all.1

-- where a loop stands, an element that it hasn't come to is as it was
pub at_rest : {X : Type 0} (f : X → X) (xs : List X) (i : ℕ) (d : X) → i < length xs → get_or (map f (take i xs) ++ drop i xs) i d ≡ get_or xs i d
at_rest f [] i d within = absurd (omega (arith, within))
at_rest f (x ∷ xs) zero d within = refl
at_rest f (x ∷ xs) (suc i) d within = at_rest f xs i d (omega (arith, within))

-- what stands at a place isn't the default
pub same_default : {X : Type 0} (xs : List X) (i : ℕ) (d e : X) → i < length xs → get_or xs i d ≡ get_or xs i e
same_default [] i d e within = absurd (omega (arith, within))
same_default (x ∷ xs) zero d e within = refl
same_default (x ∷ xs) (suc i) d e within = same_default xs i d e (omega (arith, within))

first_no : (a b : Bool) → (a || b) ≡ false → a ≡ false
first_no true b none = none
first_no false b none = refl

other_no : (a b : Bool) → (a || b) ≡ false → b ≡ false
other_no true b none = let wrong : true ≡ false = none in absurd cc
other_no false b none = none

-- a test that none passes fails at each place
pub none_at : {X : Type 0} (p : X → Bool) (xs : List X) (place : ℕ) (d : X) → place < length xs → list_any p xs ≡ false → p (get_or xs place d) ≡ false
none_at p [] place d within none = absurd (omega (arith, within))
none_at p (x ∷ xs) zero d within none = first_no (p x) (list_any p xs) none
none_at p (x ∷ xs) (suc place) d within none = none_at p xs place d (omega (arith, within)) (other_no (p x) (list_any p xs) none)

module _ {T : Type 0} (stands_for : T → World → Type 0) (script_of : T → Script) (charge : ChargeWord) where
  ready : (group : Group T) → IsAtStart stands_for script_of group → IsReady stands_for script_of charge (seated charge group)
  ready group start = record {
    valid = start.valid;
    booted = start.booted;
    script = start.script;
    steps = start.steps;
    waits = start.waits;
    seated = record { seat = seat_of charge (fresh charge.heap); is = refl; of = refl; none = refl };
  }

  -- a group at its start that gets a seat may be called
  pub all_ready : (groups : List (Group T)) → AllByRecursion (IsAtStart stands_for script_of) groups → AllByRecursion (IsReady stands_for script_of charge) (map (seated charge) groups)
  all_ready [] start = tt
  all_ready (group ∷ groups) start = (ready group start.0, all_ready groups start.1)

module _ {T : Type 0} (stands_for : T → World → Type 0) (marks high : T → ℕ) (whole : ℕ) where
  leaves_by : (charge : ChargeWord) (old new : Group T) (outcome : GroupEnd) → Leaves stands_for marks high whole (seated charge old) new outcome
      → Leaves stands_for marks high whole old (unseated new) outcome
  leaves_by charge old new end.NotRun leaves = leaves
  leaves_by charge old new (end.Refused heap) leaves = leaves
  leaves_by charge old new (end.Ran how) leaves = leaves

  -- a group that was called, without its seat
  pub becomes : (charge : ChargeWord) (old new : Group T) → WasCalled stands_for marks high whole charge (seated charge old) new → BecomesOf stands_for marks high whole old (unseated new)
  becomes charge old new called = record { name = called.name; script = called.script; seat = refl; left = leaves_by charge old new new.outcome called.left }

  done_by : (old new : Group T) (outcome : GroupEnd) → has_waited outcome ≡ false → Leaves stands_for marks high whole old new outcome → Says stands_for marks high whole new outcome
  done_by old new end.NotRun ran leaves = let wrong : true ≡ false = ran in absurd cc
  done_by old new (end.Refused heap) ran leaves = leaves.1
  done_by old new (end.Ran how) ran leaves = leaves

  -- where none waits, each is done
  pub all_done : (old new : List (Group T)) → length new ≡ length old → list_any (λ group. has_waited group.outcome) new ≡ false
      → EachBecomes stands_for marks high whole old new → AllByRecursion (IsDone stands_for marks high whole) new
  all_done old new long none each = all_of_places (IsDone stands_for marks high whole) new
      (λ place d within. done_by (get_or old place d) (get_or new place d) (get_or new place d).outcome (none_at (λ group. has_waited group.outcome) new place d within none)
      (each place d (omega (arith, within, long))).left)

  -- from the groups that were handed in to those that are given back
  pub each_becomes : (charge : ChargeWord) (old called : List (Group T)) → length called ≡ length (map (seated charge) old)
      → ((place : ℕ) (d : Group T) → place < length (map (seated charge) old)
      → WasCalled stands_for marks high whole charge (get_or (map (seated charge) old) place d) (get_or called place d))
      → EachBecomes stands_for marks high whole old (map unseated called)
  each_becomes charge old called long each = λ place d within.
      let some : place < length (map (seated charge) old) = omega (arith, within, length-map old (seated charge)) in
      let here : place < length called = omega (arith, some, long) in
      subst (BecomesOf stands_for marks high whole (get_or old place d)) (sym (get_or-map unseated called place d d here))
      (becomes charge (get_or old place d) (get_or called place d)
      (subst (λ g. WasCalled stands_for marks high whole charge g (get_or called place d)) (get_or-map (seated charge) old place d d within) (each place d some)))

  -- what becomes of all of them, from the seats that are handed out to the seats that are taken back
  pub after_all : (charge : ChargeWord) (old handed called back : List (Group T)) → handed ≡ map (seated charge) old → length called ≡ length handed
      → ((place : ℕ) (d : Group T) → place < length handed → WasCalled stands_for marks high whole charge (get_or handed place d) (get_or called place d))
      → back ≡ map unseated called → EachBecomes stands_for marks high whole old back
  after_all charge old handed called back handed_is long each back_is =
      subst (EachBecomes stands_for marks high whole old) (sym back_is)
      (each_becomes charge old called (long ∙ ap length handed_is)
      (subst (λ xs. (place : ℕ) (d : Group T) → place < length xs → WasCalled stands_for marks high whole charge (get_or xs place d) (get_or called place d)) handed_is each))

  kept_section : (old new : Group T) → new.name ≡ old.name → new.script ≡ old.script → section_of new ≡ section_of old
  kept_section old new name script =
      let kept : section_of new ≡ section_of old = ap (λ n. record { name = n; script = new.script }) name ∙ ap (λ s. record { name = old.name; script = s }) script in kept

  -- groups keep their names and scripts
  pub sections_kept : (old new : List (Group T)) → length new ≡ length old → EachBecomes stands_for marks high whole old new → sections_of new ≡ sections_of old
  sections_kept [] [] long each = refl
  sections_kept [] (group ∷ new) long each = absurd (omega (arith, long))
  sections_kept (group ∷ old) [] long each = absurd (omega (arith, long))
  sections_kept (before ∷ old) (after ∷ new) long each =
      let head = each zero before (omega arith) in
      ap (λ section. section ∷ sections_of new) (kept_section before after head.name head.script)
      ∙ ap (λ sections. section_of before ∷ sections) (sections_kept old new (omega (arith, long)) (λ place d within. each (suc place) d (omega (arith, within))))
