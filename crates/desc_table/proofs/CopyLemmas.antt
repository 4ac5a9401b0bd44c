-- The numbers of a process once more: its Leaves have copies, and each Desc that they name is shared.
use Rattle.std.proofs.Common.{◌≡◌, ◌≢◌, ◌⊎◌, ℕ, ◌+◌, ◌<◌, List, [], ◌∷◌, ◌++◌, map, length, get_or, count_by, Option, None, Some, IfSome, IsSome, is_some, refl, sym, ap, ◌∙◌, subst, inl, inr, arith, Contains}
use Rattle.std.specs.Prelude.{sum_by}
use Rattle.std.proofs.lemmas.List.{append-nil, map-append}
use Rattle.std.proofs.lemmas.List.Elements.{Contains-append_cases, Contains-append_left, Contains-append_right}
use Rattle.std.proofs.lemmas.List.Sums.{sum_by-append, sum_by-cons}
use Rattle.kheap_slabs.specs.Objects.{InUse, object, put}
use Rattle.kheap_slabs.specs.declared.objects.Desc.{Desc}
use Rattle.kheap_slabs.specs.declared.objects.Descriptor.{Descriptor}
use Rattle.kheap_slabs.specs.declared.objects.Leaf.{Leaf}
use Rattle.kheap_slabs.specs.Heap.{Heap}
use Rattle.kheap_slabs.specs.Keys.{IsOnce}
use Rattle.kheap_slabs.specs.Leaves.{IsFilled, LeavesChange, numbers_by, row_at, row_of}
use Rattle.kheap_slabs.specs.Owners.{pipe_queues, sock_queues, spaces_of}
use Rattle.kheap_slabs.specs.Purse.{Purse}
use Rattle.kheap_slabs.specs.Spaces.{keys_in}
use Rattle.kheap_slabs.proofs.ObjectLemmas.{object-put_other, object_of, put-within}
use Rattle.kheap_laws.proofs.KeyPlaces.{keys_in-append}
use Rattle.kheap_laws.proofs.LeafLemmas.{numbers_by-count, numbers_by-three}
use Rattle.kheap_laws.proofs.OnceLemmas.{Contains-single, IsOnce-push}
use Rattle.kheap_laws.proofs.TableLemmas.{OwnsItsObjects-along}
use Rattle.open_laws.specs.Described.{CountedList, after_share, counting}
use Rattle.open_laws.specs.Open.{AreOpen}
use Rattle.open_laws.specs.Owned.{HasItsOwners, leaf_namings_of, names_desc}
use Rattle.open_laws.specs.Placed.{Numbers}
use Rattle.open_laws.specs.Sharing.{CanShare, after_shares, hand_with, share_all, share_one}
use Rattle.open_laws.proofs.GoingLemmas.{held_open_on, open_on}
use Rattle.open_laws.proofs.LeafNamings.{leaf_comes, names_leaf}
use Rattle.open_laws.proofs.OwnerLemmas.{one_if}
use Rattle.open_laws.proofs.ShareLemmas.{can_first, can_rest, can_rest_none, share_put}
use Rattle.posix_defs.specs.Files.State.{Files}
use Rattle.desc_table.specs.Copying.{CopiesLeaf, no_leaves, spends_leaves}
use Rattle.desc_table.proofs.NumberLemmas.{sum_three}

-- ---- what is shared in two steps

pub share_both : (descs : List (Option Desc)) (front back : List (Option Descriptor)) → share_all descs (front ++ back) ≡ share_all (share_all descs front) back
share_both descs [] back = refl
share_both descs (None ∷ front) back = share_both descs front back
share_both descs (Some descriptor ∷ front) back = share_both (share_one descs descriptor.desc) front back

pub after_both : (number : ℕ → ℕ) (list : CountedList) (front back : List (Option Descriptor)) → after_shares number list (front ++ back) ≡ after_shares number (after_shares number list front) back
after_both number list [] back = refl
after_both number list (None ∷ front) back = after_both number list front back
after_both number list (Some descriptor ∷ front) back = after_both number (after_share list (number descriptor.desc)) front back

named_both : (key : ℕ) (front back : List (Option Descriptor)) → count_by (names_desc key) (front ++ back) ≡ count_by (names_desc key) front + count_by (names_desc key) back
named_both key front back = sum_by-append (λ o. one_if (names_desc key o)) front back

pub can_front : (descs : List (Option Desc)) (front back : List (Option Descriptor)) → CanShare descs (front ++ back) → CanShare descs front
can_front descs front back can = record {
  there = λ key some. can.there key (let both = named_both key front back in omega (arith, both, some));
  small = λ key some. let both = named_both key front back in let small = can.small key (omega (arith, both, some)) in omega (arith, both, small);
}

pub can_back : (descs : List (Option Desc)) (front back : List (Option Descriptor)) → CanShare descs (front ++ back) → CanShare (share_all descs front) back
can_back descs [] back can = can
can_back descs (None ∷ front) back can = can_back descs front back (can_rest_none descs (front ++ back) can)
can_back descs (Some descriptor ∷ front) back can =
    let held = object_of descs descriptor.desc (can_first descs descriptor (front ++ back) can).0 in
    subst (λ d. CanShare (share_all d front) back) (sym (share_put descs descriptor.desc held.0 held.1))
    (can_back (put descs descriptor.desc (counting held.0 (held.0.count + 1))) front back (can_rest descs descriptor (front ++ back) held.0 held.1 can))

-- ---- Leaves that have copies

not_none : {X : Type 0} (o : Option X) → o ≡ None → IsSome o → ⊥
not_none None is some = cc
not_none (Some x) is some = cc

-- The Leaves of these keys have copies of these.
pub record Copied (old now : List (Option Leaf)) (keys copies : List (Option ℕ)) : Type 0 where
  pub rows : map (row_at now) copies ≡ map (row_at old) keys
  pub change : LeavesChange old now no_leaves copies
  pub namings : (key : ℕ) → leaf_namings_of now key ≡ leaf_namings_of old key + sum_by (λ k. count_by (names_desc key) (row_at old k)) keys
  pub stays : (key : ℕ) → InUse old key → object now key ≡ object old key

pub copied_none : (old : List (Option Leaf)) → Copied old old [] []
copied_none old = record {
  rows = refl;
  change = record {
    keys = record {
      outside = λ key other. refl;
      fresh = λ key there. absurd (omega (arith, there.1));
      left = λ key there used. absurd (omega (arith, there.1));
    };
    owns = record {
      used = λ key there. absurd (omega (arith, there.1));
      filled = λ key leaf there is. absurd (omega (arith, there.1));
      once = λ i j less within. absurd (omega (arith, within));
    };
  };
  namings = λ key. omega arith;
  stays = λ key used. refl;
}

-- the row of a key that was in use is what it was
pub row_stays : (old now : List (Option Leaf)) (key : Option ℕ) → IfSome key (InUse old) → ((k : ℕ) → InUse old k → object now k ≡ object old k) → row_at now key ≡ row_at old key
row_stays old now None used stays = refl
row_stays old now (Some key) used stays = ap row_of (stays key used)

pub used_stays : (old now : List (Option Leaf)) (key : Option ℕ) → IfSome key (InUse old) → ((k : ℕ) → InUse old k → object now k ≡ object old k) → IfSome key (InUse now)
used_stays old now None used stays = tt
used_stays old now (Some key) used stays = subst IsSome (sym (stays key used)) used

rows_same : (old new : List (Option Leaf)) (keys : List (Option ℕ)) → ((key : ℕ) → Contains (keys_in keys) key → object new key ≡ object old key) → map (row_at new) keys ≡ map (row_at old) keys
rows_same old new [] same = refl
rows_same old new (None ∷ keys) same = ap (λ rows. row_at old None ∷ rows) (rows_same old new keys same)
rows_same old new (Some key ∷ keys) same =
    ap (λ row. row ∷ map (row_at new) keys) (ap row_of (same key (Contains-append_left (key ∷ []) (keys_in keys) key (0, omega arith, refl))))
    ∙ ap (λ rows. row_at old (Some key) ∷ rows) (rows_same old new keys (λ k there. same k (Contains-append_right (key ∷ []) (keys_in keys) k there)))

-- one Leaf more
pub copied_more : (old now new : List (Option Leaf)) (keys copies : List (Option ℕ)) (key copy : Option ℕ) → Copied old now keys copies → CopiesLeaf now new key copy → IfSome key (InUse old)
    → ((k : ℕ) (leaf : Leaf) → key ≡ Some k → object old k ≡ Some leaf → IsFilled leaf) → Copied old new (keys ++ key ∷ []) (copies ++ copy ∷ [])
copied_more old now new keys copies None copy was step used filled =
    subst (λ c. Copied old new (keys ++ None ∷ []) (copies ++ c ∷ [])) (sym step.1) (subst (λ l. Copied old l (keys ++ None ∷ []) (copies ++ None ∷ [])) (sym step.0) (record {
      rows = map-append (row_at now) copies (None ∷ []) ∙ (ap (λ rows. rows ++ row_at old None ∷ []) was.rows ∙ sym (map-append (row_at old) keys (None ∷ [])));
      change = record {
        keys = record {
          outside = λ k other. was.change.keys.outside k (λ there. other (subst (λ ks. Contains ks k) (sym none_more) there));
          fresh = λ k there. was.change.keys.fresh k (subst (λ ks. Contains ks k) none_more there);
          left = λ k there in_use. absurd (omega (arith, there.1));
        };
        owns = record {
          used = λ k there. was.change.owns.used k (subst (λ ks. Contains ks k) none_more there);
          filled = λ k leaf there is. was.change.owns.filled k leaf (subst (λ ks. Contains ks k) none_more there) is;
          once = subst (λ ks. IsOnce ks) (sym none_more) was.change.owns.once;
        };
      };
      namings = λ k. let before = was.namings k in
          let more = sum_by-append (λ o. count_by (names_desc k) (row_at old o)) keys (None ∷ []) in
          let last = sum_by-cons (λ o. count_by (names_desc k) (row_at old o)) None [] in
          let nothing : count_by (names_desc k) (row_at old None) ≡ 0 = refl in
          let none : sum_by (λ o. count_by (names_desc k) (row_at old o)) [] ≡ 0 = refl in
          omega (arith, before, more, last, nothing, none);
      stays = was.stays;
    }))
  where
    none_more : keys_in (copies ++ None ∷ []) ≡ keys_in copies
    none_more = keys_in-append copies (None ∷ []) ∙ append-nil (keys_in copies)
copied_more old now new keys copies (Some key) copy was step used filled =
    subst (λ c. Copied old new (keys ++ Some key ∷ []) (copies ++ c ∷ [])) (sym step.2) (record {
      rows =
          map-append (row_at new) copies (Some at ∷ [])
          ∙ (ap (λ rows. rows ++ row_at new (Some at) ∷ []) (rows_same now new copies (λ k there. others k (λ same. mine_not (subst (Contains (keys_in copies)) same there))) ∙ was.rows)
          ∙ (ap (λ row. map (row_at old) keys ++ row ∷ []) (ap row_of here ∙ sym (ap row_of known))
          ∙ sym (map-append (row_at old) keys (Some key ∷ []))));
      change = record {
        keys = record {
          outside = λ k other.
              others k (λ same. other (subst (Contains (keys_in (copies ++ Some at ∷ []))) (sym same) (subst (λ ks. Contains ks at) (sym one_more) (Contains-append_right (keys_in copies) (at ∷ []) at (0, omega arith, refl)))))
              ∙ was.change.keys.outside k (λ there. other (subst (λ ks. Contains ks k) (sym one_more) (Contains-append_left (keys_in copies) (at ∷ []) k there)));
          fresh = λ k there. elim (cases k there) [
            | inl before ↦ was.change.keys.fresh k before
            | inr same ↦ inr (ap (object old) same ∙ free)
          ];
          left = λ k there in_use. absurd (omega (arith, there.1));
        };
        owns = record {
          used = λ k there. elim (cases k there) [
            | inl before ↦ subst IsSome (sym (others k (λ same. mine_not (subst (Contains (keys_in copies)) same before)))) (was.change.owns.used k before)
            | inr same ↦ subst (InUse new) (sym same) (ap is_some here)
          ];
          filled = λ k found there is. elim (cases k there) [
            | inl before ↦ was.change.owns.filled k found before (sym (others k (λ same. mine_not (subst (Contains (keys_in copies)) same before))) ∙ is)
            | inr same ↦ subst (λ (l : Leaf). IsFilled l) (one_leaf (sym here ∙ (ap (object new) (sym same) ∙ is))) (filled key leaf refl known)
          ];
          once = subst (λ ks. IsOnce ks) (sym one_more) (IsOnce-push (keys_in copies) at was.change.owns.once mine_not);
        };
      };
      namings = λ k.
          let before = was.namings k in
          let more = sum_by-append (λ o. count_by (names_desc k) (row_at old o)) keys (Some key ∷ []) in
          let last = sum_by-cons (λ o. count_by (names_desc k) (row_at old o)) (Some key) [] in
          let none : sum_by (λ o. count_by (names_desc k) (row_at old o)) [] ≡ 0 = refl in
          let comes = leaf_comes now at leaf k (put-within now at leaf (ap (λ l. object l at) (sym after) ∙ here)) vacant in
          let same = ap (λ l. leaf_namings_of l k) after in
          let row : count_by (names_desc k) (row_at old (Some key)) ≡ count_by (names_desc k) leaf.descriptors = ap (λ o. count_by (names_desc k) (row_of o)) known in
          omega (arith, before, more, last, none, comes, same, row);
      stays = λ k in_use. others k (λ same. not_none (object old at) free (subst (InUse old) same in_use)) ∙ was.stays k in_use;
    })
  where
    at : ℕ
    at = step.0

    leaf : Leaf
    leaf = step.1

    vacant : object now at ≡ None
    vacant = step.4

    after : new ≡ put now at leaf
    after = step.5

    here : object new at ≡ Some leaf
    here = step.6

    known : object old key ≡ Some leaf
    known = sym (was.stays key used) ∙ step.3

    others : (k : ℕ) → k ≢ at → object new k ≡ object now k
    others k apart = ap (λ l. object l k) after ∙ object-put_other now at k leaf apart

    one_more : keys_in (copies ++ Some at ∷ []) ≡ keys_in copies ++ at ∷ []
    one_more = keys_in-append copies (Some at ∷ [])

    cases : (k : ℕ) → Contains (keys_in (copies ++ Some at ∷ [])) k → Contains (keys_in copies) k ⊎ (k ≡ at)
    cases k there = elim (Contains-append_cases (keys_in copies) (at ∷ []) k (subst (λ ks. Contains ks k) one_more there)) [
      | inl before ↦ inl before
      | inr mine ↦ inr (sym (Contains-single at k mine))
    ]

    mine_not : Contains (keys_in copies) at → ⊥
    mine_not there = not_none (object now at) vacant (was.change.owns.used at there)

    -- it was free before too
    free : object old at ≡ None
    free = by_old (object old at) refl
      where
        by_old : (o : Option Leaf) → object old at ≡ o → object old at ≡ None
        by_old None is = is
        by_old (Some other) is = absurd (not_none (object now at) vacant (subst IsSome (sym (was.stays at (ap is_some is))) (ap is_some is)))

    one_leaf : {one other : Leaf} → Some one ≡ Some other → one ≡ other
    one_leaf same = cc

-- ---- what is paid, and what is left as it was

pub spends_then : (before mid after : Purse) → mid ≡ spends_leaves before mid → after ≡ spends_leaves mid after → after ≡ spends_leaves before after
spends_then before mid after first second = second ∙ ap (λ (p : Purse). spends_leaves p after) first

pub kept_then : (old mid new : Heap) → mid ≡ record old { descs = mid.descs; leaves = mid.leaves; high = mid.high } → new ≡ record mid { descs = new.descs; leaves = new.leaves; high = new.high }
    → new ≡ record old { descs = new.descs; leaves = new.leaves; high = new.high }
kept_then old mid new first second = second ∙ ap (λ (h : Heap). record h { descs = new.descs; leaves = new.leaves; high = new.high }) first

-- ---- a Leaf that has come

-- what is open stands for the same
pub leaf_open : (numbers : Numbers) (old new : Heap) (list : CountedList) (files : Files) {leaves : List (Option Leaf)} → new ≡ record old { leaves = leaves; high = new.high }
    → AreOpen numbers old list files → AreOpen numbers new list files
leaf_open numbers old new list files after are =
    open_on numbers old new list files files (ap (λ (h : Heap). h.descs) after) (ap (λ (h : Heap). h.pipes) after) (ap (λ (h : Heap). h.socks) after) (ap (λ (h : Heap). h.chunks) after) refl refl refl are

-- what was in hand is named by it
pub leaf_owned : (old new : Heap) (hand : List ℕ) (at : ℕ) (leaf : Leaf) → new ≡ record old { leaves = put old.leaves at leaf; high = new.high } → at < length old.leaves → object old.leaves at ≡ None
    → HasItsOwners old (hand_with leaf.descriptors hand) → HasItsOwners new hand
leaf_owned old new hand at leaf after within vacant owners = record {
  objects = OwnsItsObjects-along old new (ap (λ (h : Heap). spaces_of h.procs) after) (ap (λ (h : Heap). pipe_queues h.pipes) after) (ap (λ (h : Heap). sock_queues h.socks) after)
      (ap (λ (h : Heap). h.nodes) after) (ap (λ (h : Heap). h.pages) after) (ap (λ (h : Heap). h.chunks) after) owners.objects;
  named = names_leaf old new hand at leaf (ap (λ (h : Heap). h.descs) after) (ap (λ (h : Heap). h.procs) after) (ap (λ (h : Heap). h.leaves) after) within vacant owners.named;
  held = held_open_on old new (ap (λ (h : Heap). h.descs) after) (ap (λ (h : Heap). h.pipes) after) (ap (λ (h : Heap). h.socks) after) (ap (λ (h : Heap). h.chunks) after) owners.held;
}

-- ---- the whole of it

-- three Leaves have copies, each of which is the row that it was
pub copied_numbers : (old now : List (Option Leaf)) (places : List (Option Descriptor)) (keys : List (Option ℕ)) (one two last : Option ℕ) → length keys ≡ 3
    → Copied old now (get_or keys 0 None ∷ get_or keys 1 None ∷ get_or keys 2 None ∷ []) (one ∷ two ∷ last ∷ [])
    → numbers_by now places (one ∷ two ∷ last ∷ []) ≡ numbers_by old places keys
copied_numbers old now places keys one two last three copied =
    numbers_by-three now places (one ∷ two ∷ last ∷ []) refl
    ∙ (ap (λ rows. places ++ (get_or rows 0 [] ++ (get_or rows 1 [] ++ get_or rows 2 []))) copied.rows
    ∙ sym (numbers_by-three old places keys three))

pub copied_namings : (old now : List (Option Leaf)) (places : List (Option Descriptor)) (keys copies : List (Option ℕ)) (key : ℕ) → length keys ≡ 3
    → Copied old now (get_or keys 0 None ∷ get_or keys 1 None ∷ get_or keys 2 None ∷ []) copies
    → leaf_namings_of now key + count_by (names_desc key) places ≡ leaf_namings_of old key + count_by (names_desc key) (numbers_by old places keys)
copied_namings old now places keys copies key three copied =
    let named = copied.namings key in
    let all = numbers_by-count (names_desc key) old places keys in
    let each = sum_three (λ (k : Option ℕ). count_by (names_desc key) (row_at old k)) keys three in
    let again = sum_three (λ (k : Option ℕ). count_by (names_desc key) (row_at old k)) (get_or keys 0 None ∷ get_or keys 1 None ∷ get_or keys 2 None ∷ []) refl in
    omega (arith, named, all, each, again)

-- all that is shared, in four steps
module _ (leaves : List (Option Leaf)) (places : List (Option Descriptor)) (keys : List (Option ℕ)) (three : length keys ≡ 3) where
  abbrev pub row : ℕ → List (Option Descriptor)
  row i = row_at leaves (get_or keys i None)

  pub share_steps : (descs : List (Option Desc)) → share_all (share_all (share_all (share_all descs places) (row 0)) (row 1)) (row 2) ≡ share_all descs (numbers_by leaves places keys)
  share_steps descs =
      sym (share_both (share_all (share_all descs places) (row 0)) (row 1) (row 2))
      ∙ (sym (share_both (share_all descs places) (row 0) (row 1 ++ row 2))
      ∙ (sym (share_both descs places (row 0 ++ (row 1 ++ row 2)))
      ∙ ap (share_all descs) (sym (numbers_by-three leaves places keys three))))

  pub after_steps : (number : ℕ → ℕ) (list : CountedList)
      → after_shares number (after_shares number (after_shares number (after_shares number list places) (row 0)) (row 1)) (row 2) ≡ after_shares number list (numbers_by leaves places keys)
  after_steps number list =
      sym (after_both number (after_shares number (after_shares number list places) (row 0)) (row 1) (row 2))
      ∙ (sym (after_both number (after_shares number list places) (row 0) (row 1 ++ row 2))
      ∙ (sym (after_both number list places (row 0 ++ (row 1 ++ row 2)))
      ∙ ap (after_shares number list) (sym (numbers_by-three leaves places keys three))))

  module _ (descs : List (Option Desc)) (can : CanShare descs (numbers_by leaves places keys)) where
    by_rows : CanShare descs (places ++ (row 0 ++ (row 1 ++ row 2)))
    by_rows = subst (CanShare descs) (numbers_by-three leaves places keys three) can

    behind_places : CanShare (share_all descs places) (row 0 ++ (row 1 ++ row 2))
    behind_places = can_back descs places (row 0 ++ (row 1 ++ row 2)) by_rows

    behind_first : CanShare (share_all (share_all descs places) (row 0)) (row 1 ++ row 2)
    behind_first = can_back (share_all descs places) (row 0) (row 1 ++ row 2) behind_places

    pub can_places : CanShare descs places
    can_places = can_front descs places (row 0 ++ (row 1 ++ row 2)) by_rows

    pub can_one : CanShare (share_all descs places) (row 0)
    can_one = can_front (share_all descs places) (row 0) (row 1 ++ row 2) behind_places

    pub can_two : CanShare (share_all (share_all descs places) (row 0)) (row 1)
    can_two = can_front (share_all (share_all descs places) (row 0)) (row 1) (row 2) behind_first

    pub can_last : CanShare (share_all (share_all (share_all descs places) (row 0)) (row 1)) (row 2)
    can_last = can_back (share_all (share_all descs places) (row 0)) (row 1) (row 2) behind_first
