-- One number of a process in hand has another descriptor, or none: among the first, in a Leaf that is there, in one that comes for it,
-- and in one that goes with it.
use Rattle.std.proofs.Common.{◌≡◌, ◌≢◌, ℕ, ◌+◌, ◌<◌, ◌≤◌, List, Option, None, Some, length, get_or, set, replicate, count_by, is_some, IsSome, refl, sym, ap, ◌∙◌, subst, arith}
use Rattle.std.proofs.lemmas.List.{get_or-replicate, get_or-set_other, get_or-set_same, length-replicate, length-set}
use Rattle.std.proofs.lemmas.List.Folds.{sum_by-replicate}
use Rattle.kheap_slabs.specs.Objects.{object, put, without}
use Rattle.kheap_slabs.specs.declared.objects.Descriptor.{Descriptor as Held}
use Rattle.kheap_slabs.specs.declared.objects.Leaf.{Leaf}
use Rattle.kheap_slabs.specs.Heap.{Heap}
use Rattle.kheap_slabs.specs.Leaves.{IsFilled, LeavesChange, OwnsLeaves, group_of, no_row, numbers_by, place_of, row_at, row_of}
use Rattle.kheap_slabs.proofs.ObjectLemmas.{InUse-within, object-put, object-put_other, object-without, object-without_other, object_of, put-within}
use Rattle.kheap_laws.proofs.KeyPlaces.{key_there, keys_differ}
use Rattle.kheap_laws.proofs.LeafLemmas.{numbers_by-first, numbers_by-leaf, numbers_by-length, numbers_by-set_first, numbers_by-set_row}
use Rattle.kheap_laws.proofs.LeafKeys.{LeavesChange-gone, LeavesChange-made, LeavesChange-put, LeavesChange-refl, row_empty}
use Rattle.open_laws.specs.Owned.{leaf_namings_of, names_desc}
use Rattle.open_laws.proofs.LeafNamings.{count-set, leaf_changes, leaf_comes, leaf_goes}
use Rattle.open_laws.proofs.OwnerLemmas.{one_if}
use Rattle.desc_table.specs.Numbered.{InHand, Renames, names_one, numbers}

-- All that a change at one number leaves.
pub record Turned (old : Heap) (was : InHand) (new : Heap) (now : InHand) (fd : ℕ) (x : Option Held) : Type 0 where
  pub numbers : numbers new now ≡ set (numbers old was) fd x
  pub leaves : LeavesChange old.leaves new.leaves was.leaves now.leaves
  pub namings : Renames old was new now fd x

-- all Leaves are as long as their type says
abbrev pub AllLong : Heap → Type 0
AllLong h = (key : ℕ) (leaf : Leaf) → object h.leaves key ≡ Some leaf → length leaf.descriptors ≡ 32

-- ---- among the first

pub turned_first : (h : Heap) (was : InHand) (fd : ℕ) (x : Option Held) → length was.places ≡ 32 → fd < 32 → OwnsLeaves h.leaves was.leaves
    → Turned h was h (record was { places = set was.places fd x }) fd x
turned_first h was fd x long below owns = record {
  numbers = numbers_by-set_first h.leaves was.places was.leaves fd x long below;
  leaves = LeavesChange-refl h.leaves was.leaves owns;
  namings = λ key.
      let moved = count-set key was.places fd x (omega (arith, long, below)) in
      let here : names_one key (get_or (numbers h was) fd None) ≡ one_if (names_desc key (get_or was.places fd None)) =
      ap (names_one key) (numbers_by-first h.leaves was.places was.leaves fd long below) in
      let there : names_one key x ≡ one_if (names_desc key x) = refl in
      omega (arith, moved, here, there);
}

-- ---- behind them

module _ (h : Heap) (was : InHand) (fd : ℕ) (x : Option Held) (all : AllLong h) (owns : OwnsLeaves h.leaves was.leaves) (long : length was.places ≡ 32) (three : length was.leaves ≡ 3)
    (least : 32 ≤ fd) (most : fd < 128) where
  abbrev group : ℕ
  group = group_of fd

  abbrev place : ℕ
  place = place_of fd

  within : group_of fd < length was.leaves
  within = omega (arith, three, least, most)

  below : place_of fd < 32
  below = omega arith

  stands : get_or (numbers h was) fd None ≡ get_or (row_at h.leaves (get_or was.leaves group None)) place None
  stands = numbers_by-leaf h.leaves was.places was.leaves fd all long three least most

  -- the rows of all other groups, where one key alone names another object
  rows_stay : (new : List (Option Leaf)) (now : List (Option ℕ)) (key : ℕ) → ((other : ℕ) → other ≢ key → object new other ≡ object h.leaves other)
      → ((i : ℕ) → i ≢ group → get_or now i None ≡ get_or was.leaves i None) → ((i : ℕ) → i ≢ group → get_or was.leaves i None ≡ Some key → ⊥)
      → (i : ℕ) → i ≢ group → row_at new (get_or now i None) ≡ row_at h.leaves (get_or was.leaves i None)
  rows_stay new now key others same elsewhere i apart = ap (row_at new) (same i apart) ∙ by_key (get_or was.leaves i None) refl
    where
      by_key : (k : Option ℕ) → get_or was.leaves i None ≡ k → row_at new k ≡ row_at h.leaves k
      by_key None is = refl
      by_key (Some other) is = ap row_of (others other (λ e. elsewhere i apart (is ∙ ap Some e)))

  module _ (key : ℕ) (leaf : Leaf) (named : get_or was.leaves group None ≡ Some key) (is : object h.leaves key ≡ Some leaf) where
    abbrev pub changed : Leaf
    changed = record leaf { descriptors = set leaf.descriptors place x }

    known : row_at h.leaves (get_or was.leaves group None) ≡ leaf.descriptors
    known = ap (row_at h.leaves) named ∙ ap row_of is

    elsewhere : (i : ℕ) → i ≢ group → get_or was.leaves i None ≡ Some key → ⊥
    elsewhere i apart same = keys_differ was.leaves i group key owns.once apart same named

    moved_row : (other : ℕ) → count_by (names_desc other) (set leaf.descriptors place x) + names_one other (get_or (numbers h was) fd None)
        ≡ count_by (names_desc other) leaf.descriptors + names_one other x
    moved_row other =
        let moved = count-set other leaf.descriptors place x (let size = all key leaf is in omega (arith, size, below)) in
        let here : names_one other (get_or (numbers h was) fd None) ≡ one_if (names_desc other (get_or leaf.descriptors place None)) =
        ap (names_one other) (stands ∙ ap (λ row. get_or row place None) known) in
        let there : names_one other x ≡ one_if (names_desc other x) = refl in
        omega (arith, moved, here, there)

    -- its row has another descriptor
    pub turned_put : (new : Heap) → new.leaves ≡ put h.leaves key changed → IsFilled changed → Turned h was new was fd x
    turned_put new after filled = record {
      numbers =
          ap (λ leaves. numbers_by leaves was.places was.leaves) after
          ∙ numbers_by-set_row h.leaves (put h.leaves key changed) was.places was.leaves was.leaves fd x all long three three least most
          (ap (row_at (put h.leaves key changed)) named ∙ (ap row_of here ∙ sym (ap (λ row. set row place x) known)))
          (rows_stay (put h.leaves key changed) was.leaves key others (λ i apart. refl) elsewhere);
      leaves = subst (λ leaves. LeavesChange h.leaves leaves was.leaves was.leaves) (sym after)
          (LeavesChange-put h.leaves (put h.leaves key changed) was.leaves owns key others changed (key_there was.leaves group key named) here filled);
      namings = λ other.
          let moved = moved_row other in
          let leaf_moved = leaf_changes h.leaves key leaf changed other is in
          let same = ap (λ leaves. leaf_namings_of leaves other) after in
          omega (arith, moved, leaf_moved, same);
    }
      where
        here : object (put h.leaves key changed) key ≡ Some changed
        here = object-put h.leaves key changed (InUse-within h.leaves key (ap is_some is))

        others : (other : ℕ) → other ≢ key → object (put h.leaves key changed) other ≡ object h.leaves other
        others other apart = object-put_other h.leaves key other changed apart

    -- it goes, where none of its numbers is open then
    pub turned_gone : (new : Heap) → new.leaves ≡ without h.leaves key → x ≡ None → count_by is_some (set leaf.descriptors place x) ≡ 0
        → Turned h was new (record was { leaves = set was.leaves group None }) fd x
    turned_gone new after nothing none = record {
      numbers =
          ap (λ leaves. numbers_by leaves was.places (set was.leaves group None)) after
          ∙ numbers_by-set_row h.leaves (without h.leaves key) was.places was.leaves (set was.leaves group None) fd x all long three (length-set was.leaves group None ∙ three) least most
          (ap (row_at (without h.leaves key)) (get_or-set_same was.leaves group None None within) ∙ sym (ap (λ row. set row place x) known ∙ emptied))
          (rows_stay (without h.leaves key) (set was.leaves group None) key others (λ i apart. get_or-set_other was.leaves group i None None apart) elsewhere);
      leaves = subst (λ leaves. LeavesChange h.leaves leaves was.leaves (set was.leaves group None)) (sym after)
          (LeavesChange-gone h.leaves (without h.leaves key) was.leaves owns key others group within named
          (object-without h.leaves key (InUse-within h.leaves key (ap is_some is))));
      namings = λ other.
          let moved = moved_row other in
          let leaf_gone = leaf_goes h.leaves key leaf other is in
          let same = ap (λ leaves. leaf_namings_of leaves other) after in
          let unnamed : count_by (names_desc other) (set leaf.descriptors place x) ≡ 0 = ap (count_by (names_desc other)) emptied ∙ sum_by-replicate (λ (o : Option Held). one_if (names_desc other o)) 32 None in
          let one : names_one other x ≡ 0 = ap (names_one other) nothing in
          omega (arith, moved, leaf_gone, same, unnamed, one);
    }
      where
        others : (other : ℕ) → other ≢ key → object (without h.leaves key) other ≡ object h.leaves other
        others other apart = object-without_other h.leaves key other apart

        emptied : set leaf.descriptors place x ≡ no_row
        emptied =
            row_empty (set leaf.descriptors place x) none
            ∙ ap (λ n. replicate n None) (length-set leaf.descriptors place x ∙ all key leaf is)

  -- a Leaf comes for it
  pub turned_made : (new : Heap) (at : ℕ) (leaf : Leaf) → leaf.descriptors ≡ set no_row place x → get_or was.leaves group None ≡ None → object h.leaves at ≡ None → object new.leaves at ≡ Some leaf
      → new.leaves ≡ put h.leaves at leaf → IsFilled leaf → Turned h was new (record was { leaves = set was.leaves group (Some at) }) fd x
  turned_made new at leaf row free vacant here after filled = record {
    numbers =
        numbers_by-set_row h.leaves new.leaves was.places was.leaves (set was.leaves group (Some at)) fd x all long three (length-set was.leaves group (Some at) ∙ three) least most
        (ap (row_at new.leaves) (get_or-set_same was.leaves group (Some at) None within) ∙ (ap row_of here ∙ (row ∙ sym (ap (λ k. set (row_at h.leaves k) place x) free))))
        (rows_stay new.leaves (set was.leaves group (Some at)) at others (λ i apart. get_or-set_other was.leaves group i (Some at) None apart) elsewhere_none);
    leaves = LeavesChange-made h.leaves new.leaves was.leaves owns at others group leaf within free vacant here filled;
    namings = λ other.
        let inside : at < length h.leaves = put-within h.leaves at leaf (ap (λ leaves. object leaves at) (sym after) ∙ here) in
        let comes = leaf_comes h.leaves at leaf other inside vacant in
        let same = ap (λ leaves. leaf_namings_of leaves other) after in
        let moved = count-set other no_row place x (let size = length-replicate {A = Option Held} 32 None in omega (arith, size, below)) in
        let none : count_by (names_desc other) no_row ≡ 0 = sum_by-replicate (λ (o : Option Held). one_if (names_desc other o)) 32 None in
        let before : names_one other (get_or (numbers h was) fd None) ≡ one_if (names_desc other (get_or no_row place None)) =
        ap (names_one other) (stands ∙ ap (λ k. get_or (row_at h.leaves k) place None) free) in
        let free_place : one_if (names_desc other (get_or no_row place None)) ≡ 0 = ap (λ o. one_if (names_desc other o)) (get_or-replicate 32 place None None below) in
        let filled_row : count_by (names_desc other) leaf.descriptors ≡ count_by (names_desc other) (set no_row place x) = ap (count_by (names_desc other)) row in
        let one : names_one other x ≡ one_if (names_desc other x) = refl in
        omega (arith, comes, same, moved, none, before, free_place, filled_row, one);
  }
    where
      others : (other : ℕ) → other ≢ at → object new.leaves other ≡ object h.leaves other
      others other apart = ap (λ leaves. object leaves other) after ∙ object-put_other h.leaves at other leaf apart

      not_both : (o : Option Leaf) → o ≡ None → IsSome o → ⊥
      not_both None is some = cc
      not_both (Some found) is some = cc

      elsewhere_none : (i : ℕ) → i ≢ group → get_or was.leaves i None ≡ Some at → ⊥
      elsewhere_none i apart same = not_both (object h.leaves at) vacant (owns.used at (key_there was.leaves i at same))

-- ---- as the code has them: what is in hand is seen, and the group is one that it worked out

module _ (h : Heap) (places : List (Option Held)) (keys : List (Option ℕ)) (was : InHand) (view : record { places = places; leaves = keys } ≡ was) (long : length places ≡ 32) (three : length keys ≡ 3)
    (fd : ℕ) (x : Option Held) (owns : OwnsLeaves h.leaves was.leaves) where
  abbrev inside : InHand
  inside = record { places = places; leaves = keys }

  owns_inside : OwnsLeaves h.leaves keys
  owns_inside = subst (λ (d : InHand). OwnsLeaves h.leaves d.leaves) (sym view) owns

  pub seen_first : fd < 32 → Turned h was h (record { places = set places fd x; leaves = keys }) fd x
  seen_first below = subst (λ (d : InHand). Turned h d h (record { places = set places fd x; leaves = keys }) fd x) view (turned_first h inside fd x long below owns_inside)

  module _ (all : AllLong h) (least : 32 ≤ fd) (most : fd < 128) (g : ℕ) (group_is : g ≡ group_of fd) where
    -- the Leaf of the number, where its group has one
    pub leaf_there : (key : ℕ) → get_or keys g None ≡ Some key → (leaf : Leaf) × (object h.leaves key ≡ Some leaf)
    leaf_there key named = object_of h.leaves key (owns_inside.used key (key_there keys g key named))

    pub leaf_size : (key : ℕ) (leaf : Leaf) → object h.leaves key ≡ Some leaf → place_of fd < length leaf.descriptors
    leaf_size key leaf is = let size = all key leaf is in let below : place_of fd < 32 = omega arith in omega (arith, size, below)

    pub seen_put : (key : ℕ) (leaf : Leaf) → get_or keys g None ≡ Some key → object h.leaves key ≡ Some leaf → (new : Heap)
        → new.leaves ≡ put h.leaves key (record leaf { descriptors = set leaf.descriptors (place_of fd) x }) → IsFilled (record leaf { descriptors = set leaf.descriptors (place_of fd) x })
        → Turned h was new was fd x
    seen_put key leaf named is new after filled =
        subst (λ (d : InHand). Turned h d new d fd x) view
        (turned_put h inside fd x all owns_inside long three least most key leaf (subst (λ n. get_or keys n None ≡ Some key) group_is named) is new after filled)

    pub seen_gone : (key : ℕ) (leaf : Leaf) → get_or keys g None ≡ Some key → object h.leaves key ≡ Some leaf → (new : Heap)
        → new.leaves ≡ without h.leaves key → x ≡ None → count_by is_some (set leaf.descriptors (place_of fd) x) ≡ 0
        → Turned h was new (record { places = places; leaves = set keys g None }) fd x
    seen_gone key leaf named is new after nothing none =
        subst (λ n. Turned h was new (record { places = places; leaves = set keys n None }) fd x) (sym group_is)
        (subst (λ (d : InHand). Turned h d new (record { places = places; leaves = set keys (group_of fd) None }) fd x) view
        (turned_gone h inside fd x all owns_inside long three least most key leaf (subst (λ n. get_or keys n None ≡ Some key) group_is named) is new after nothing none))

    pub seen_made : (new : Heap) (at : ℕ) (leaf : Leaf) → leaf.descriptors ≡ set no_row (place_of fd) x → get_or keys g None ≡ None → object h.leaves at ≡ None → object new.leaves at ≡ Some leaf
        → new.leaves ≡ put h.leaves at leaf → IsFilled leaf → Turned h was new (record { places = places; leaves = set keys g (Some at) }) fd x
    seen_made new at leaf row free vacant here after filled =
        subst (λ n. Turned h was new (record { places = places; leaves = set keys n (Some at) }) fd x) (sym group_is)
        (subst (λ (d : InHand). Turned h d new (record { places = places; leaves = set keys (group_of fd) (Some at) }) fd x) view
        (turned_made h inside fd x all owns_inside long three least most new at leaf row (subst (λ n. get_or keys n None ≡ None) group_is free) vacant here after filled))

    -- without one none of its numbers is open
    pub none_open : get_or keys g None ≡ None → get_or (numbers h was) fd None ≡ None
    none_open none =
        ap (λ (d : InHand). get_or (numbers h d) fd None) (sym view)
        ∙ (stands h inside fd x all owns_inside long three least most
        ∙ (ap (λ n. get_or (row_at h.leaves (get_or keys n None)) (place_of fd) None) (sym group_is)
        ∙ (ap (λ k. get_or (row_at h.leaves k) (place_of fd) None) none
        ∙ get_or-replicate 32 (place_of fd) None None (omega arith))))

-- a number that is open is one of 128
pub below_most : (h : Heap) (places : List (Option Held)) (keys : List (Option ℕ)) (was : InHand) → record { places = places; leaves = keys } ≡ was → length places ≡ 32 → length keys ≡ 3 → AllLong h
    → (fd : ℕ) → IsSome (get_or (numbers h was) fd None) → fd < 128
below_most h places keys was view long three all fd opened =
    let within = InUse-within (numbers h was) fd opened in
    let many : length (numbers h was) ≡ 128 = ap (λ (d : InHand). length (numbers h d)) (sym view) ∙ numbers_by-length h.leaves places keys all long three in
    omega (arith, within, many)
