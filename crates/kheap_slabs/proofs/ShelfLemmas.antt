-- What an insert, a removal and a write leave of a shelf's places and objects.
use Rattle.std.proofs.Common.{◌≡◌, ◌≢◌, ℕ, suc, ◌+◌, ◌<◌, ◌≤◌, List, [], ◌∷◌, ◌++◌, length, get_or, set, Option, Some, None, is_some, IsSome, subst, ◌-◌, count_by, map, refl, sym, ap, ◌∙◌, inl, inr, cond, replicate, mul-zero, arith, length-append}
use Rattle.std.proofs.lemmas.Bool.{cases_eq}
use Rattle.std.proofs.lemmas.Grind.{common_steps, get_or-set_at}
use Rattle.std.proofs.lemmas.List.{append-nil, length_push, length-replicate, get_or-replicate, get_or-set_same, get_or-set_other, get_or-map, map-set, length-set, length-map, same_lists, get_or_past, get_or_append_left, get_or_push, set-get_or}
use Rattle.std.proofs.lemmas.List.Sums.{sum_by-set}
use Rattle.std.proofs.lemmas.List.Folds.{sum_by-replicate}
use Rattle.std.proofs.lemmas.Bool.{cases_lt}
use Rattle.slab.specs.Slab.{Slab, get, slab_len, ContainsKey, Updates, with_value}
use Rattle.slab.proofs.SlabLemmas.{Updates-with_value}
use Rattle.kheap_slabs.specs.Objects.{InUse}
use Rattle.kheap_slabs.specs.Places.{found_at, shelved, IsSound, TakesPlace, all_places, all_free, falling, TakesKey, IsShelf}
use Rattle.kheap_slabs.proofs.GivenKeys.{none_given, length-falling, get_or-falling, length-all, get_or-all, set-all, free_again, next_free, next_places, still_within, still_given}
use Rattle.kheap_slabs.proofs.ObjectLemmas.{count-without, InUse-within}

module _ {X Y : Type 0} where
  -- where two functions agree on all elements but one, mapping either and writing that one gives the same
  pub map-set_apart : (f g : X → Y) (xs : List X) (at : ℕ) (x d : X) → ((i : ℕ) → i < length xs → i ≢ at → g (get_or xs i d) ≡ f (get_or xs i d)) → map g (set xs at x) ≡ set (map f xs) at (g x)
  map-set_apart f g xs at x d agree =
      map-set g xs at x ∙ same_lists _ _ (simp (length-set, length-map)) (λ k e lt.
      let within : k < length xs = simp (length-set, length-map) at lt in
      elim (cases_eq k at) [
        | inl same ↦ get_or-set_at (map g xs) at k (g x) e same (rw length-map (omega arith)) ∙ sym (get_or-set_at (map f xs) at k (g x) e same (rw length-map (omega arith)))
        | inr differs ↦ get_or-set_other (map g xs) at k (g x) e differs ∙ get_or-map g xs k d e within ∙ agree k within differs ∙ sym (get_or-map f xs k d e within) ∙ sym (get_or-set_other (map f xs) at k (g x) e differs)
      ])

-- a key with a place is below the limit
pub placed_within : (places : List (Option ℕ)) (key place : ℕ) → get_or places key None ≡ Some place → key < length places
placed_within places key place placed = grind (arith, get_or_past)

module _ {T : Type 0} where
  pub shelved-boot : (slab : Slab T) (limit : ℕ) → shelved slab (replicate limit None) ≡ replicate limit None
  shelved-boot slab limit = same_lists _ _ (simp (length-map, length-replicate)) (λ k d lt.
      let within : k < limit = simp (length-map, length-replicate) at lt in
      get_or-map (found_at slab) (replicate limit None) k None d (rw length-replicate within) ∙ ap (found_at slab) (get_or-replicate limit k None None within) ∙ sym (get_or-replicate limit k None d within))

  pub IsSound-boot : (slab : Slab T) (free spare : List ℕ) (limit room spare_room : ℕ) → slab.slots ≡ [] → limit ≤ slab.capacity → length free ≡ limit → ((i : ℕ) → i < limit → get_or free i 0 + i + 1 ≡ limit) → limit ≤ room → spare ≡ [] → limit ≤ spare_room → IsSound slab (replicate limit None) free room spare spare_room
  IsSound-boot slab free spare limit room spare_room empty slab_room long falling free_room unused spare_fits =
      let no_slots : slab_len slab ≡ 0 = ap (λ slots. count_by is_some slots) empty in
      let no_places : count_by is_some (replicate {A = Option ℕ} limit None) ≡ 0 = sum_by-replicate (λ o. cond (is_some o) 1 0) limit None ∙ mul-zero limit in
      let no_spare : length spare ≡ 0 = ap length unused in
      record {
        filled = λ key place is. absurd (unplaced key place is);
        apart = λ one other place is also. absurd (unplaced one place is);
        vacant = λ i lt. nowhere (get_or free i 0);
        in_range = λ i lt. rw length-replicate (omega (arith, falling i (omega arith)));
        once = λ i j before lt same. absurd (omega (arith, falling i (omega arith), falling j (omega arith)));
        left_there = λ i lt. absurd (omega (arith, no_spare));
        unused = λ i key place lt is. absurd (omega (arith, no_spare));
        singly = λ i j before lt. absurd (omega (arith, no_spare));
        counted = rw length-replicate (omega (arith, no_places));
        placed = omega (arith, no_places, no_spare, no_slots);
        bounded = omega (arith, no_slots);
        slab_room = rw length-replicate slab_room;
        free_room = rw length-replicate free_room;
        spare_fits = rw length-replicate spare_fits;
      }
    where
      nowhere : (key : ℕ) → get_or (replicate {A = Option ℕ} limit None) key None ≡ None
      nowhere key = elim (cases_lt key limit) [
        | inl lt ↦ get_or-replicate limit key None None lt
        | inr le ↦ get_or_past _ key None (rw length-replicate le)
      ]

      unplaced : (key place : ℕ) → get_or (replicate limit None) key None ≡ Some place → ⊥
      unplaced key place is = let none = nowhere key in cc

  -- a place that another key has is not the one that was vacant
  place_differs : (slab : Slab T) (one other : ℕ) → get slab one ≡ None → ContainsKey slab other → other ≢ one
  place_differs slab one other vacant filled same = grind arith

  -- no key had the place that an object gets
  fresh : (old new : Slab T) (places : List (Option ℕ)) (free spare rest : List ℕ) (room spare_room place : ℕ) (value : T) → IsSound old places free room spare spare_room → TakesPlace old new spare rest place value → (key other : ℕ) → get_or places key None ≡ Some other → other ≢ place
  fresh old new places free spare rest room spare_room place value sound takes key other is same = elim takes.from [
    | inl again ↦ sound.unused (length rest) key other (rw again.0 (rw length-append (omega arith))) is (rw again.0 (get_or_push rest place 0 (length rest) refl) ∙ sym same)
    | inr made ↦ place_differs old place other made.2 (sound.filled key other is) same
  ]

  pub shelved-insert : (old new : Slab T) (places : List (Option ℕ)) (free spare rest : List ℕ) (room spare_room key place : ℕ) (value : T) → IsSound old places free room spare spare_room → TakesPlace old new spare rest place value → shelved new (set places key (Some place)) ≡ set (shelved old places) key (Some value)
  shelved-insert old new places free spare rest room spare_room key place value sound takes =
      map-set_apart (found_at old) (found_at new) places key (Some place) None (λ i within differs. same_at i (get_or places i None) refl) ∙ ap (set (shelved old places) key) takes.updates.changed
    where
      same_at : (i : ℕ) (p : Option ℕ) → get_or places i None ≡ p → found_at new p ≡ found_at old p
      same_at i None is = refl
      same_at i (Some other) is = takes.updates.others other (fresh old new places free spare rest room spare_room place value sound takes i other is)

  -- what a key no more names is left where it was
  pub shelved-free : (slab : Slab T) (places : List (Option ℕ)) (key : ℕ) → shelved slab (set places key None) ≡ set (shelved slab places) key None
  shelved-free slab places key = map-set (found_at slab) places key None

  pub shelved-removed : (old new : Slab T) (places : List (Option ℕ)) (free spare : List ℕ) (room spare_room key place : ℕ) → IsSound old places free room spare spare_room → get_or places key None ≡ Some place → Updates old new place None → shelved new (set places key None) ≡ set (shelved old places) key None
  shelved-removed old new places free spare room spare_room key place sound placed updates =
      map-set_apart (found_at old) (found_at new) places key None None (λ i within differs. same_at i differs (get_or places i None) refl)
    where
      same_at : (i : ℕ) → i ≢ key → (p : Option ℕ) → get_or places i None ≡ p → found_at new p ≡ found_at old p
      same_at i differs None is = refl
      same_at i differs (Some other) is = updates.others other (λ same. differs (sound.apart i key place (is ∙ ap Some same) placed))

  pub shelved-set : (old new : Slab T) (places : List (Option ℕ)) (free spare : List ℕ) (room spare_room key place : ℕ) (value : T) → IsSound old places free room spare spare_room → get_or places key None ≡ Some place → Updates old new place (Some value) → shelved new places ≡ set (shelved old places) key (Some value)
  shelved-set old new places free spare room spare_room key place value sound placed updates =
      ap (shelved new) (sym (set-get_or places key None) ∙ ap (set places key) placed) ∙ map-set_apart (found_at old) (found_at new) places key (Some place) None (λ i within differs. same_at i differs (get_or places i None) refl) ∙ ap (set (shelved old places) key) updates.changed
    where
      same_at : (i : ℕ) → i ≢ key → (p : Option ℕ) → get_or places i None ≡ p → found_at new p ≡ found_at old p
      same_at i differs None is = refl
      same_at i differs (Some other) is = updates.others other (λ same. differs (sound.apart i key place (is ∙ ap Some same) placed))

  -- an object is changed in its place
  pub shelved-changed : (slab : Slab T) (places : List (Option ℕ)) (free spare : List ℕ) (room spare_room key place : ℕ) (now : T) → IsSound slab places free room spare spare_room → get_or places key None ≡ Some place → shelved (with_value slab place now) places ≡ set (shelved slab places) key (Some now)
  shelved-changed slab places free spare room spare_room key place now sound placed =
      shelved-set slab (with_value slab place now) places free spare room spare_room key place now sound placed (Updates-with_value slab place now (sound.filled key place placed))

  -- as many keys name an object as there are objects
  pub count-shelved : (slab : Slab T) (places : List (Option ℕ)) → ((key place : ℕ) → get_or places key None ≡ Some place → ContainsKey slab place) → count_by is_some (shelved slab places) ≡ count_by is_some places
  count-shelved slab [] filled = refl
  count-shelved slab (None ∷ rest) filled =
      grind (arith, common_steps, count-shelved slab rest (λ key place is. filled (suc key) place is))
  count-shelved slab (Some place ∷ rest) filled =
      let here = filled 0 place refl in
      grind (arith, common_steps, count-shelved slab rest (λ key other is. filled (suc key) other is))

  -- where some key has an object there is room for one more free key
  pub free_has_room : (slab : Slab T) (places : List (Option ℕ)) (free spare : List ℕ) (room spare_room key : ℕ) → IsSound slab places free room spare spare_room → InUse (shelved slab places) key → length free < room
  free_has_room slab places free spare room spare_room key sound used =
      let one = count-without (shelved slab places) key used in
      let same = count-shelved slab places sound.filled in
      omega (arith, one, same, sound.counted, sound.free_room)

  -- the key of the next insert is below the limit and has no place
  pub next_key : (slab : Slab T) (places : List (Option ℕ)) (free rest spare : List ℕ) (room spare_room key : ℕ) → IsSound slab places free room spare spare_room → free ≡ rest ++ key ∷ [] → (key < length places) × (get_or places key None ≡ None)
  next_key slab places free rest spare room spare_room key sound popped =
      let long : length rest < length free = rw popped (rw length-append (omega arith)) in
      let last : get_or free (length rest) 0 ≡ key = rw popped (get_or_push rest key 0 (length rest) refl) in
      (rw last at (sound.in_range (length rest) long), rw last at (sound.vacant (length rest) long))

  -- where no place is spare there is room for one more
  pub room_for_one : (slab : Slab T) (places : List (Option ℕ)) (free rest spare : List ℕ) (room spare_room key : ℕ) → IsSound slab places free room spare spare_room → free ≡ rest ++ key ∷ [] → length spare ≡ 0 → slab_len slab + 1 ≤ slab.capacity
  room_for_one slab places free rest spare room spare_room key sound popped none =
      let long : length free ≡ length rest + 1 = rw popped (rw length-append refl) in
      omega (arith, sound.counted, sound.placed, sound.slab_room)

  -- the spare places that are left are the first of those that were there
  left_over : (old new : Slab T) (spare rest : List ℕ) (place : ℕ) (value : T) → TakesPlace old new spare rest place value → (i : ℕ) → i < length rest → (get_or rest i 0 ≡ get_or spare i 0) × (i < length spare)
  left_over old new spare rest place value takes i lt = elim takes.from [
    | inl again ↦ (rw again.0 (sym (get_or_append_left rest (place ∷ []) 0 i lt)), rw again.0 (rw length-append (omega arith)))
    | inr made ↦ absurd (let none : length rest ≡ 0 = ap length made.1 in omega arith)
  ]

  left_apart : (old new : Slab T) (places : List (Option ℕ)) (free spare rest : List ℕ) (room spare_room place : ℕ) (value : T) → IsSound old places free room spare spare_room → TakesPlace old new spare rest place value → (i : ℕ) → i < length rest → get_or rest i 0 ≢ place
  left_apart old new places free spare rest room spare_room place value sound takes i lt same = elim takes.from [
    | inl again ↦
        let last : get_or spare (length rest) 0 ≡ place = rw again.0 (get_or_push rest place 0 (length rest) refl) in
        sound.singly i (length rest) lt (rw again.0 (rw length-append (omega arith))) (sym (left_over old new spare rest place value takes i lt).0 ∙ same ∙ sym last)
    | inr made ↦ let none : length rest ≡ 0 = ap length made.1 in absurd (omega arith)
  ]

  -- as many objects are in the slab as have a key or are spare
  taken_counts : (old new : Slab T) (places : List (Option ℕ)) (free spare rest : List ℕ) (room spare_room place : ℕ) (value : T) → IsSound old places free room spare spare_room → 0 < length free → TakesPlace old new spare rest place value → (count_by is_some places + 1 + length rest ≡ slab_len new) × (slab_len new ≤ length places)
  taken_counts old new places free spare rest room spare_room place value sound some takes = elim takes.from [
    | inl again ↦
        let long : length spare ≡ length rest + 1 = rw again.0 (rw length-append refl) in
        (omega (arith, sound.placed, again.1), omega (arith, sound.bounded, again.1))
    | inr made ↦
        let none : length spare ≡ 0 = ap length made.0 in
        let left : length rest ≡ 0 = ap length made.1 in
        (omega (arith, sound.placed, made.3), omega (arith, sound.placed, sound.counted, made.3))
  ]

  pub IsSound-insert : (old new : Slab T) (places : List (Option ℕ)) (free keys spare rest : List ℕ) (room spare_room key place : ℕ) (value : T) → IsSound old places free room spare spare_room → free ≡ keys ++ key ∷ [] → TakesPlace old new spare rest place value → new.capacity ≡ old.capacity → IsSound new (set places key (Some place)) keys room rest spare_room
  IsSound-insert old new places free keys spare rest room spare_room key place value sound popped takes capacity =
      let next = next_key old places free keys spare room spare_room key sound popped in
      let long : length free ≡ length keys + 1 = rw popped (rw length-append refl) in
      let same : (i : ℕ) → i < length keys → get_or keys i 0 ≡ get_or free i 0 = λ i lt. rw popped (sym (get_or_append_left keys (key ∷ []) 0 i lt)) in
      let last : get_or free (length keys) 0 ≡ key = rw popped (get_or_push keys key 0 (length keys) refl) in
      let differs : (i : ℕ) → i < length keys → get_or keys i 0 ≢ key = λ i lt e. sound.once i (length keys) lt (omega arith) (sym (same i lt) ∙ e ∙ sym last) in
      let counts = taken_counts old new places free spare rest room spare_room place value sound (omega arith) takes in
      record {
        filled = λ one p is. elim (cases_eq one key) [
          | inl e ↦ let it = at_key one p next.0 e is in grind (arith, common_steps, takes.updates.changed)
          | inr d ↦ kept_filled one p (was_placed one p d is)
        ];
        apart = λ one other p is also. elim (cases_eq one key) [
          | inl e ↦ elim (cases_eq other key) [
            | inl f ↦ e ∙ sym f
            | inr d ↦ absurd (is_fresh other p (was_placed other p d also) (at_key one p next.0 e is))
          ]
          | inr d ↦ elim (cases_eq other key) [
            | inl f ↦ absurd (is_fresh one p (was_placed one p d is) (at_key other p next.0 f also))
            | inr f ↦ sound.apart one other p (was_placed one p d is) (was_placed other p f also)
          ]
        ];
        vacant = λ i lt. get_or-set_other places key (get_or keys i 0) (Some place) None (differs i lt) ∙ ap (λ k. get_or places k None) (same i lt) ∙ sound.vacant i (omega arith);
        in_range = λ i lt. rw (length-set, same i lt) (sound.in_range i (omega arith));
        once = λ i j before lt e. sound.once i j before (omega arith) (sym (same i (omega arith)) ∙ e ∙ same j lt);
        left_there = λ i lt.
            let over = left_over old new spare rest place value takes i lt in
            rw (takes.updates.others (get_or rest i 0) (left_apart old new places free spare rest room spare_room place value sound takes i lt)) (rw over.0 (sound.left_there i over.1));
        unused = λ i one p lt is. elim (cases_eq one key) [
          | inl e ↦ λ meets. left_apart old new places free spare rest room spare_room place value sound takes i lt (meets ∙ at_key one p next.0 e is)
          | inr d ↦ λ meets.
              let over = left_over old new spare rest place value takes i lt in
              sound.unused i one p over.1 (was_placed one p d is) (sym over.0 ∙ meets)
        ];
        singly = λ i j before lt meets.
            let one = left_over old new spare rest place value takes i (omega arith) in
            let other = left_over old new spare rest place value takes j lt in
            sound.singly i j before other.1 (sym one.0 ∙ meets ∙ other.0);
        counted = rw length-set (omega (arith, rw next.1 at (sum_by-set (λ o. cond (is_some o) 1 0) places key (Some place) None next.0), sound.counted));
        placed = omega (arith, rw next.1 at (sum_by-set (λ o. cond (is_some o) 1 0) places key (Some place) None next.0), counts.0);
        bounded = rw length-set counts.1;
        slab_room = rw length-set (omega (arith, sound.slab_room));
        free_room = rw length-set sound.free_room;
        spare_fits = rw length-set sound.spare_fits;
      }
    where
      is_fresh : (k p : ℕ) → get_or places k None ≡ Some p → p ≢ place
      is_fresh k p is = fresh old new places free spare rest room spare_room place value sound takes k p is

      was_placed : (k p : ℕ) → k ≢ key → get_or (set places key (Some place)) k None ≡ Some p → get_or places k None ≡ Some p
      was_placed k p d is = sym (get_or-set_other places key k (Some place) None d) ∙ is

      kept_filled : (k p : ℕ) → get_or places k None ≡ Some p → ContainsKey new p
      kept_filled k p is = rw (takes.updates.others p (is_fresh k p is)) (sound.filled k p is)

      at_key : (k p : ℕ) → key < length places → k ≡ key → get_or (set places key (Some place)) k None ≡ Some p → p ≡ place
      at_key k p within e is = let stored = get_or-set_at places key k (Some place) None e within in cc

  -- What a key's going leaves of the keys, whatever becomes of the object: the slab keeps all others.
  module _ (old new : Slab T) (places : List (Option ℕ)) (free spare : List ℕ) (room spare_room key place : ℕ) (sound : IsSound old places free room spare spare_room) (placed : get_or places key None ≡ Some place) (others : (other : ℕ) → other ≢ place → get new other ≡ get old other) where
    gone_within : key < length places
    gone_within = placed_within places key place placed

    emptied : (k p : ℕ) → k ≡ key → get_or (set places key None) k None ≡ Some p → ⊥
    emptied k p e is = let stored = get_or-set_at places key k None None e gone_within in cc

    before : (k p : ℕ) → k ≢ key → get_or (set places key None) k None ≡ Some p → get_or places k None ≡ Some p
    before k p d is = sym (get_or-set_other places key k None None d) ∙ is

    filled_still : (k p : ℕ) → get_or (set places key None) k None ≡ Some p → ContainsKey new p
    filled_still k p is = elim (cases_eq k key) [
      | inl e ↦ absurd (emptied k p e is)
      | inr d ↦ rw (others p (λ same. d (sound.apart k key place (before k p d is ∙ ap Some same) placed))) (sound.filled k p (before k p d is))
    ]

    apart_still : (one other p : ℕ) → get_or (set places key None) one None ≡ Some p → get_or (set places key None) other None ≡ Some p → one ≡ other
    apart_still one other p is also = elim (cases_eq one key) [
      | inl e ↦ absurd (emptied one p e is)
      | inr d ↦ elim (cases_eq other key) [
        | inl f ↦ absurd (emptied other p f also)
        | inr f ↦ sound.apart one other p (before one p d is) (before other p f also)
      ]
    ]

    shorter : (i : ℕ) → i < length (free ++ key ∷ []) → i ≢ length free → i < length free
    shorter i lt d = omega (arith, rw length-append at lt)

    still_vacant : (k : ℕ) → get_or places k None ≡ None → get_or (set places key None) k None ≡ None
    still_vacant k was = elim (cases_eq k key) [
      | inl e ↦ get_or-set_at places key k None None e gone_within
      | inr d ↦ get_or-set_other places key k None None d ∙ was
    ]

    vacant_still : (i : ℕ) → i < length (free ++ key ∷ []) → get_or (set places key None) (get_or (free ++ key ∷ []) i 0) None ≡ None
    vacant_still i lt = elim (cases_eq i (length free)) [
      | inl e ↦ rw (get_or_push free key 0 i (sym e)) (get_or-set_same places key None None gone_within)
      | inr d ↦ rw (get_or_append_left free (key ∷ []) 0 i (shorter i lt d)) (still_vacant (get_or free i 0) (sound.vacant i (shorter i lt d)))
    ]

    in_range_still : (i : ℕ) → i < length (free ++ key ∷ []) → get_or (free ++ key ∷ []) i 0 < length (set places key None)
    in_range_still i lt = elim (cases_eq i (length free)) [
      | inl e ↦ rw (get_or_push free key 0 i (sym e), length-set) gone_within
      | inr d ↦ rw (get_or_append_left free (key ∷ []) 0 i (shorter i lt d), length-set) (sound.in_range i (shorter i lt d))
    ]

    not_free : (i : ℕ) → i < length free → get_or free i 0 ≢ key
    not_free i lt same = let empty : get_or places key None ≡ None = ap (λ k. get_or places k None) (sym same) ∙ sound.vacant i lt in cc

    once_still : (i j : ℕ) → i < j → j < length (free ++ key ∷ []) → get_or (free ++ key ∷ []) i 0 ≢ get_or (free ++ key ∷ []) j 0
    once_still i j before_it lt = elim (cases_eq j (length free)) [
      | inl e ↦ rw (get_or_push free key 0 j (sym e), get_or_append_left free (key ∷ []) 0 i (omega arith)) (λ same. not_free i (omega arith) same)
      | inr d ↦ rw (get_or_append_left free (key ∷ []) 0 i (let short = shorter j lt d in omega arith), get_or_append_left free (key ∷ []) 0 j (shorter j lt d)) (sound.once i j before_it (shorter j lt d))
    ]

    one_fewer : count_by is_some (set places key None) + 1 ≡ count_by is_some places
    one_fewer = omega (arith, rw placed at (sum_by-set (λ o. cond (is_some o) 1 0) places key None None gone_within))

  -- A key goes, and its object is left in its place, which is spare then.
  module _ (slab : Slab T) (places : List (Option ℕ)) (free spare : List ℕ) (room spare_room key place : ℕ) (sound : IsSound slab places free room spare spare_room) (placed : get_or places key None ≡ Some place) where
    nothing_changed : (other : ℕ) → other ≢ place → get slab other ≡ get slab other
    nothing_changed other differs = refl

    fewer : (i : ℕ) → i < length (spare ++ place ∷ []) → i ≢ length spare → i < length spare
    fewer i lt d = omega (arith, rw length-append at lt)

    left_still : (i : ℕ) → i < length (spare ++ place ∷ []) → ContainsKey slab (get_or (spare ++ place ∷ []) i 0)
    left_still i lt = elim (cases_eq i (length spare)) [
      | inl e ↦ rw (get_or_push spare place 0 i (sym e)) (sound.filled key place placed)
      | inr d ↦ rw (get_or_append_left spare (place ∷ []) 0 i (fewer i lt d)) (sound.left_there i (fewer i lt d))
    ]

    unused_still : (i k p : ℕ) → i < length (spare ++ place ∷ []) → get_or (set places key None) k None ≡ Some p → get_or (spare ++ place ∷ []) i 0 ≢ p
    unused_still i k p lt is = elim (cases_eq k key) [
      | inl e ↦ absurd (emptied slab slab places free spare room spare_room key place sound placed nothing_changed k p e is)
      | inr d ↦
          let was = before slab slab places free spare room spare_room key place sound placed nothing_changed k p d is in
          elim (cases_eq i (length spare)) [
            | inl e ↦ rw (get_or_push spare place 0 i (sym e)) (λ same. d (sound.apart k key place (was ∙ ap Some (sym same)) placed))
            | inr f ↦ rw (get_or_append_left spare (place ∷ []) 0 i (fewer i lt f)) (sound.unused i k p (fewer i lt f) was)
          ]
    ]

    singly_still : (i j : ℕ) → i < j → j < length (spare ++ place ∷ []) → get_or (spare ++ place ∷ []) i 0 ≢ get_or (spare ++ place ∷ []) j 0
    singly_still i j before_it lt = elim (cases_eq j (length spare)) [
      | inl e ↦ rw (get_or_push spare place 0 j (sym e), get_or_append_left spare (place ∷ []) 0 i (omega arith)) (sound.unused i key place (omega arith) placed)
      | inr d ↦ rw (get_or_append_left spare (place ∷ []) 0 i (let short = fewer j lt d in omega arith), get_or_append_left spare (place ∷ []) 0 j (fewer j lt d)) (sound.singly i j before_it (fewer j lt d))
    ]

    -- the place of a key that has an object is one more than are spare
    pub spare_has_room : length spare < spare_room
    spare_has_room =
        let fewer_keys = one_fewer slab slab places free spare room spare_room key place sound placed nothing_changed in
        omega (arith, sound.placed, sound.bounded, sound.spare_fits)

    pub IsSound-free : IsSound slab (set places key None) (free ++ key ∷ []) room (spare ++ place ∷ []) spare_room
    IsSound-free =
        let fewer_keys = one_fewer slab slab places free spare room spare_room key place sound placed nothing_changed in
        record {
          filled = filled_still slab slab places free spare room spare_room key place sound placed nothing_changed;
          apart = apart_still slab slab places free spare room spare_room key place sound placed nothing_changed;
          vacant = vacant_still slab slab places free spare room spare_room key place sound placed nothing_changed;
          in_range = in_range_still slab slab places free spare room spare_room key place sound placed nothing_changed;
          once = once_still slab slab places free spare room spare_room key place sound placed nothing_changed;
          left_there = left_still;
          unused = unused_still;
          singly = singly_still;
          counted = rw (length-set, length-append) (omega (arith, sound.counted));
          placed = rw length-append (omega (arith, sound.placed));
          bounded = rw length-set sound.bounded;
          slab_room = rw length-set sound.slab_room;
          free_room = rw length-set sound.free_room;
          spare_fits = rw length-set sound.spare_fits;
        }

  -- A key goes, and its object with it.
  module _ (old new : Slab T) (places : List (Option ℕ)) (free spare : List ℕ) (room spare_room key place : ℕ) (sound : IsSound old places free room spare spare_room) (placed : get_or places key None ≡ Some place) (updates : Updates old new place None) where
    pub IsSound-removed : slab_len new + 1 ≡ slab_len old → new.capacity ≡ old.capacity → IsSound new (set places key None) (free ++ key ∷ []) room spare spare_room
    IsSound-removed len capacity =
        let fewer_keys = one_fewer old new places free spare room spare_room key place sound placed updates.others in
        record {
          filled = filled_still old new places free spare room spare_room key place sound placed updates.others;
          apart = apart_still old new places free spare room spare_room key place sound placed updates.others;
          vacant = vacant_still old new places free spare room spare_room key place sound placed updates.others;
          in_range = in_range_still old new places free spare room spare_room key place sound placed updates.others;
          once = once_still old new places free spare room spare_room key place sound placed updates.others;
          left_there = λ i lt. rw (updates.others (get_or spare i 0) (sound.unused i key place lt placed)) (sound.left_there i lt);
          unused = λ i k p lt is. elim (cases_eq k key) [
            | inl e ↦ absurd (emptied old new places free spare room spare_room key place sound placed updates.others k p e is)
            | inr d ↦ sound.unused i k p lt (before old new places free spare room spare_room key place sound placed updates.others k p d is)
          ];
          singly = sound.singly;
          counted = rw (length-set, length-append) (omega (arith, sound.counted));
          placed = omega (arith, sound.placed);
          bounded = rw length-set (omega (arith, sound.bounded));
          slab_room = rw length-set (omega (arith, sound.slab_room));
          free_room = rw length-set sound.free_room;
          spare_fits = rw length-set sound.spare_fits;
        }

  -- The same of a shelf, whose table has the keys that were given out alone.
  pub IsShelf-boot : (slab : Slab T) (places : List (Option ℕ)) (free spare : List ℕ) (limit places_room room spare_room : ℕ) → slab.slots ≡ [] → limit ≤ slab.capacity → places ≡ [] → limit ≤ places_room → free ≡ [] → limit ≤ room → spare ≡ [] → limit ≤ spare_room → IsShelf slab limit places places_room free room spare spare_room
  IsShelf-boot slab places free spare limit places_room room spare_room empty slab_room none places_fit no_free free_room unused spare_fits =
      let given : length places ≡ 0 = ap length none in
      let all : limit - 0 ≡ limit = omega arith in
      let keys : all_free limit (length places) free ≡ falling limit 0 = ap (λ n. all_free limit n free) given ∙ ap (all_free limit 0) no_free ∙ append-nil (falling (limit - 0) 0) ∙ ap (λ n. falling n 0) all in
      record {
        sound = subst (λ l. IsSound slab l (all_free limit (length places) free) room spare spare_room) (sym (none_given limit places none)) (subst (λ l. IsSound slab (replicate limit None) l room spare spare_room) (sym keys) (IsSound-boot slab (falling limit 0) spare limit room spare_room empty slab_room (length-falling limit 0) (λ i lt. get_or-falling limit 0 i lt ∙ omega arith) free_room unused spare_fits));
        given = λ i lt. absurd (let long : length free ≡ 0 = ap length no_free in omega (arith, lt, long));
        within = omega (arith, given);
        fits = places_fit;
      }

  nothing_there : {o : Option T} → o ≡ None → IsSome o → ⊥
  nothing_there none some = grind arith

  module _ (slab : Slab T) (limit : ℕ) (places : List (Option ℕ)) (places_room : ℕ) (free : List ℕ) (room : ℕ) (spare : List ℕ) (spare_room : ℕ) (shelf : IsShelf slab limit places places_room free room spare spare_room) where
    -- a key in use was given out, and its place stands in the table
    pub used_given : (key : ℕ) → InUse (shelved slab (all_places limit places)) key → InUse places key
    used_given key used = by_case (get_or places key None) refl
      where
        within : key < length (all_places limit places)
        within = rw length-map at (InUse-within (shelved slab (all_places limit places)) key used)

        named : get_or (shelved slab (all_places limit places)) key None ≡ found_at slab (get_or places key None)
        named = get_or-map (found_at slab) (all_places limit places) key None None within ∙ ap (found_at slab) (get_or-all limit places key)

        by_case : (o : Option ℕ) → get_or places key None ≡ o → InUse places key
        by_case None is = absurd (let none = named ∙ ap (found_at slab) is in nothing_there none used)
        by_case (Some place) is = rw is refl

    -- as many keys are free, given out or not, as there is room for objects
    pub key_is_left : count_by is_some (shelved slab (all_places limit places)) < length (shelved slab (all_places limit places)) → length free ≡ 0 → length places < limit
    key_is_left less none =
        let counted = count-shelved slab (all_places limit places) shelf.sound.filled in
        let long = length-all limit places shelf.within in
        let keys : length (all_free limit (length places) free) ≡ limit - length places + length free = length-append (falling (limit - length places) (length places)) free ∙ ap (λ n. n + length free) (length-falling (limit - length places) (length places)) in
        let asked = rw (counted, length-map) at less in
        omega (arith, asked, shelf.sound.counted, long, keys, none, shelf.within)

    -- the place of a key that was given out is that of the whole table
    pub place_in_all : (key place : ℕ) → get_or places key None ≡ Some place → get_or (all_places limit places) key None ≡ Some place
    place_in_all key place is = get_or-all limit places key ∙ is

    -- where some key has an object there is room for one more free key
    pub freed_fits : (key : ℕ) → InUse (shelved slab (all_places limit places)) key → length free < room
    freed_fits key used =
        let more = free_has_room slab (all_places limit places) (all_free limit (length places) free) spare room spare_room key shelf.sound used in
        let keys = length-append (falling (limit - length places) (length places)) free in
        omega (arith, more, keys)

    -- where no place is spare there is room for one more
    pub object_fits : count_by is_some (shelved slab (all_places limit places)) < length (shelved slab (all_places limit places)) → length spare ≡ 0 → slab_len slab + 1 ≤ slab.capacity
    object_fits less none =
        let counted = count-shelved slab (all_places limit places) shelf.sound.filled in
        let asked = rw (counted, length-map) at less in
        omega (arith, asked, none, shelf.sound.placed, shelf.sound.slab_room)

    -- what stands at the keys after a key was given out
    module _ (new : Slab T) (rest : List ℕ) (place : ℕ) (value : T) (now : List (Option ℕ)) (keys : List ℕ) (key : ℕ) (takes : TakesPlace slab new spare rest place value) (room_left : length free ≡ 0 → length places < limit) (given : TakesKey places now free keys key place) where
      pub IsShelf-insert : new.capacity ≡ slab.capacity → IsShelf new limit now places_room keys room rest spare_room
      IsShelf-insert capacity =
          let places_are = next_places limit places now free keys key place shelf.given room_left given in
          record {
            sound = subst (λ x. IsSound new x (all_free limit (length now) keys) room rest spare_room) (sym places_are) (IsSound-insert slab new (all_places limit places) (all_free limit (length places) free) (all_free limit (length now) keys) spare rest room spare_room key place value shelf.sound (next_free limit places now free keys key place shelf.given room_left given) takes capacity);
            given = still_given limit places now free keys key place shelf.given room_left given;
            within = still_within limit places now free keys key place shelf.given room_left given shelf.within;
            fits = shelf.fits;
          }

      pub key_was_free : (key < length (all_places limit places)) × (get_or (all_places limit places) key None ≡ None)
      key_was_free = next_key slab (all_places limit places) (all_free limit (length places) free) (all_free limit (length now) keys) spare room spare_room key shelf.sound (next_free limit places now free keys key place shelf.given room_left given)

      pub objects-insert : shelved new (all_places limit now) ≡ set (shelved slab (all_places limit places)) key (Some value)
      objects-insert =
          ap (shelved new) (next_places limit places now free keys key place shelf.given room_left given)
          ∙ shelved-insert slab new (all_places limit places) (all_free limit (length places) free) spare rest room spare_room key place value shelf.sound takes

    -- what stands at the keys after one of them went
    module _ (key place : ℕ) (placed : get_or places key None ≡ Some place) where
      was_given : key < length places
      was_given = placed_within places key place placed

      one_went : all_places limit (set places key None) ≡ set (all_places limit places) key None
      one_went = set-all limit places key None was_given

      one_freed : all_free limit (length (set places key None)) (free ++ key ∷ []) ≡ all_free limit (length places) free ++ key ∷ []
      one_freed = ap (λ n. all_free limit n (free ++ key ∷ [])) (length-set places key None) ∙ free_again limit (length places) free key

      all_given : (i : ℕ) → i < length (free ++ key ∷ []) → get_or (free ++ key ∷ []) i 0 < length (set places key None)
      all_given i lt = rw length-set (elim (cases_eq i (length free)) [
        | inl e ↦ rw (get_or_push free key 0 i (sym e)) was_given
        | inr d ↦
            let short : i < length free = omega (arith, lt, length_push free key, d) in
            rw (get_or_append_left free (key ∷ []) 0 i short) (shelf.given i short)
      ])

      pub freed_spare_fits : length spare < spare_room
      freed_spare_fits = spare_has_room slab (all_places limit places) (all_free limit (length places) free) spare room spare_room key place shelf.sound (place_in_all key place placed)

      shelf_of : (new : Slab T) (left : List ℕ) → IsSound new (set (all_places limit places) key None) (all_free limit (length places) free ++ key ∷ []) room left spare_room → IsShelf new limit (set places key None) places_room (free ++ key ∷ []) room left spare_room
      shelf_of new left sound = record {
        sound = subst (λ x. IsSound new x (all_free limit (length (set places key None)) (free ++ key ∷ [])) room left spare_room) (sym one_went) (subst (λ x. IsSound new (set (all_places limit places) key None) x room left spare_room) (sym one_freed) sound);
        given = all_given;
        within = rw length-set shelf.within;
        fits = shelf.fits;
      }

      pub IsShelf-free : IsShelf slab limit (set places key None) places_room (free ++ key ∷ []) room (spare ++ place ∷ []) spare_room
      IsShelf-free = shelf_of slab (spare ++ place ∷ []) (IsSound-free slab (all_places limit places) (all_free limit (length places) free) spare room spare_room key place shelf.sound (place_in_all key place placed))

      pub objects-free : shelved slab (all_places limit (set places key None)) ≡ set (shelved slab (all_places limit places)) key None
      objects-free = ap (shelved slab) one_went ∙ shelved-free slab (all_places limit places) key

      pub IsShelf-removed : (new : Slab T) → Updates slab new place None → slab_len new + 1 ≡ slab_len slab → new.capacity ≡ slab.capacity → IsShelf new limit (set places key None) places_room (free ++ key ∷ []) room spare spare_room
      IsShelf-removed new updates len capacity = shelf_of new spare (IsSound-removed slab new (all_places limit places) (all_free limit (length places) free) spare room spare_room key place shelf.sound (place_in_all key place placed) updates len capacity)

      pub objects-removed : (new : Slab T) → Updates slab new place None → shelved new (all_places limit (set places key None)) ≡ set (shelved slab (all_places limit places)) key None
      objects-removed new updates =
          ap (shelved new) one_went ∙ shelved-removed slab new (all_places limit places) (all_free limit (length places) free) spare room spare_room key place shelf.sound (place_in_all key place placed) updates

      -- an object is changed in its place
      pub objects-changed : (now : T) → shelved (with_value slab place now) (all_places limit places) ≡ set (shelved slab (all_places limit places)) key (Some now)
      objects-changed now = shelved-changed slab (all_places limit places) (all_free limit (length places) free) spare room spare_room key place now shelf.sound (place_in_all key place placed)

      pub object_named : get_or (shelved slab (all_places limit places)) key None ≡ get slab place
      object_named =
          get_or-map (found_at slab) (all_places limit places) key None None (placed_within (all_places limit places) key place (place_in_all key place placed)) ∙ ap (found_at slab) (place_in_all key place placed)
