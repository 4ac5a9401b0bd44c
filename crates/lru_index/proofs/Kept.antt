-- What an index keeps, and what a pair that is put, taken out or touched leaves of it.
use Rattle.std.proofs.Common.{◌≡◌, ◌≢◌, ℕ, zero, suc, ◌+◌, ◌-◌, ◌/◌, ◌<◌, ◌≤◌, Bool, true, false, cond, List, [], ◌∷◌, ◌++◌, length, Option, Some, None, IsSome, IfSome, vec_len, nat_eq, eqb-true, ne_eqb, refl, sym, ap, ◌∙◌, subst, arith, length-append}
use Rattle.std.specs.Bool.{MatchBool}
use Rattle.std.specs.Option.{option_map, option_map_or}
use Rattle.std.proofs.lemmas.List.{append_assoc, append-nil, get_or_past}
use Rattle.std.specs.Prelude.{vec_capacity}
use Rattle.std.specs.List.{AllByRecursion, IsDistinct}
use Rattle.std.specs.Map.{keys_of, lookup, remove_entry}
use Rattle.std.specs.Cmp.{IsEquivalence, nat_eq_equiv}
use Rattle.lru_index.specs.Order.{order, IsOrder, touched, warmer, first_key, coldest_of}
use Rattle.lru_index.specs.Chain.{IsChain, AreLinked, link_at, first_or, walk, items_of}
use Rattle.lru_index.specs.Buckets.{AreFiled, node_at, place_of, put_first, taken_out, no_chains, all_keys, bucket_of}
use Rattle.lru_index.specs.Index.{IsKept, IsIndex, IsFree, IsPlaceApart, AreApart, HasPlace, falling, all_free, pairs_in, places_in}
use Rattle.lru_index.specs.declared.buckets.Buckets.{Buckets}
use Rattle.lru_index.specs.declared.chain.Link.{Link}
use Rattle.lru_index.specs.declared.chain.Chain.{Chain}
use Rattle.lru_index.proofs.Chained.{chain_item}
use Rattle.lru_index.proofs.Filed.{nothing_in, place_put, place_taken, keys_put, keys_taken}
use Rattle.lru_index.proofs.Pairs.{length_removed, distinct_put, distinct_removed, found_put, found_removed, touched_found, distinct_touched, length_touched}
use Rattle.lru_index.proofs.Placed.{length_pairs, keys_same, pairs_append, places_append, none_placed, pairs_removed, places_removed, pairs_touched, places_touched, agree}

pub all_before : {A : Type 0} (P : A → Type 0) (xs ys : List A) → AllByRecursion P (xs ++ ys) → AllByRecursion P xs
all_before P [] ys a = tt
all_before P (x ∷ xs) ys a = (a.0, all_before P xs ys a.1)

pub all_last : {A : Type 0} (P : A → Type 0) (xs : List A) (y : A) → AllByRecursion P (xs ++ y ∷ []) → P y
all_last P [] y a = a.0
all_last P (x ∷ xs) y a = all_last P xs y a.1

pub all_push : {A : Type 0} (P : A → Type 0) (xs : List A) (y : A) → AllByRecursion P xs → P y → AllByRecursion P (xs ++ y ∷ [])
all_push P [] y a p = (p, tt)
all_push P (x ∷ xs) y a p = (a.0, all_push P xs y a.1 p)

pub all_from : {A : Type 0} (P Q : A → Type 0) → ((x : A) → P x → Q x) → (xs : List A) → AllByRecursion P xs → AllByRecursion Q xs
all_from P Q f [] a = tt
all_from P Q f (x ∷ xs) a = (f x a.0, all_from P Q f xs a.1)

all_both : {A : Type 0} (P Q R : A → Type 0) → ((x : A) → P x → Q x → R x) → (xs : List A) → AllByRecursion P xs → AllByRecursion Q xs → AllByRecursion R xs
all_both P Q R f [] a b = tt
all_both P Q R f (x ∷ xs) a b = (f x a.0 b.0, all_both P Q R f xs a.1 b.1)

some_under : {A B : Type 0} (f : A → B) (o : Option A) → IsSome (option_map f o) → IsSome o
some_under f None = λ h. h
some_under f (Some x) = λ h. refl

-- the walk along the links meets the items
walked : {T : Type 0} (kept : ℕ → Option (Link T)) (c : Option ℕ) (ps : List (ℕ × T)) (n : ℕ) → AreLinked kept c ps None → length ps ≤ n → walk kept n (first_or None ps) ≡ ps
walked kept c [] zero l h = refl
walked kept c [] (suc n) l h = refl
walked kept c (p ∷ ps) zero l h = let no : ⊥ = omega arith in absurd no
walked kept c (p ∷ ps) (suc n) l h =
    ap (λ o. option_map_or (λ link. (p.0, link.item) ∷ walk kept n link.warmer) o []) l.0 ∙ ap (λ t. p ∷ t) (walked kept (Some p.0) ps n l.1 (omega arith))

pub chain_items : {T : Type 0} (chain : Chain T) (ps : List (ℕ × T)) (n : ℕ) → IsChain chain ps → length ps ≤ n → items_of chain n ≡ ps
chain_items chain ps n h short = ap (walk (link_at chain.links.items) n) h.coldest ∙ walked (link_at chain.links.items) None ps n h.linked short

-- a place with an item is in use
pub in_use : {T : Type 0} (chain : Chain T) (ps : List (ℕ × T)) (p : ℕ) → IsChain chain ps → IsSome (lookup (nat_eq p) ps) → IsSome (link_at chain.links.items p)
in_use chain ps p h there = some_under (λ link. link.item) (link_at chain.links.items p) (subst IsSome (chain_item chain ps h p) there)

apart_last : (xs : List ℕ) (y : ℕ) → AreApart (xs ++ y ∷ []) → IsPlaceApart y xs
apart_last [] y a = tt
apart_last (x ∷ xs) y a = (nat_eq_equiv.symm y x ∙ all_last (λ other. nat_eq x other ≡ false) xs y a.0, apart_last xs y a.1)

apart_before : (xs : List ℕ) (y : ℕ) → AreApart (xs ++ y ∷ []) → AreApart xs
apart_before [] y a = tt
apart_before (x ∷ xs) y a = (all_before _ xs (y ∷ []) a.0, apart_before xs y a.1)

apart_push : (xs : List ℕ) (y : ℕ) → AreApart xs → IsPlaceApart y xs → AreApart (xs ++ y ∷ [])
apart_push [] y a b = (tt, tt)
apart_push (x ∷ xs) y a b = (all_push _ xs y a.0 (nat_eq_equiv.symm x y ∙ b.0), apart_push xs y a.1 b.1)

-- Free places, made or not.
pub length-falling : (n from : ℕ) → length (falling n from) ≡ n
length-falling zero from = refl
length-falling (suc n) from = ap suc (length-falling n from)

falling_below : (n from : ℕ) → AllByRecursion (λ place. place < from + n) (falling n from)
falling_below zero from = tt
falling_below (suc n) from = (omega arith, all_from (λ place. place < from + n) (λ place. place < from + suc n) (λ x l. omega (arith, l)) (falling n from) (falling_below n from))

falling_apart : (n from : ℕ) → AreApart (falling n from)
falling_apart zero from = tt
falling_apart (suc n) from =
    (all_from (λ place. place < from + n) (λ place. nat_eq (from + n) place ≡ false) (λ x l. let differs : from + n ≢ x = omega (arith, l) in ne_eqb (from + n) x differs) (falling n from) (falling_below n from), falling_apart n from)

-- the lowest stands last
falling_last : (n from : ℕ) → falling (suc n) from ≡ falling n (from + 1) ++ from ∷ []
falling_last zero from = let same : from + 0 ≡ from = omega arith in λ i. same i ∷ []
falling_last (suc n) from =
    let top : from + suc n ≡ from + 1 + n = omega arith in
    let rest = falling_last n from in
    λ i. top i ∷ rest i

pub next_made : (limit made : ℕ) → made < limit → all_free limit made [] ≡ all_free limit (made + 1) [] ++ made ∷ []
next_made limit made lt =
    let one : limit - made ≡ suc (limit - (made + 1)) = omega (arith, lt) in
    append-nil (falling (limit - made) made) ∙ ap (λ n. falling n made) one ∙ falling_last (limit - (made + 1)) made
    ∙ ap (λ places. places ++ made ∷ []) (sym (append-nil (falling (limit - (made + 1)) (made + 1))))

pub free_again : (limit made : ℕ) (free : List ℕ) (place : ℕ) → all_free limit made (free ++ place ∷ []) ≡ all_free limit made free ++ place ∷ []
free_again limit made free place = sym (append_assoc (falling (limit - made) made) free (place ∷ []))

module _ {K : Type 0} where
  -- these items are those that the chain has
  pub record IsSeen (eq : K → K → Bool) (scatter : K → ℕ) (table : Buckets K) (chain : Chain (K × ℕ)) (free : List ℕ) (room most : ℕ) (items : List (ℕ × (K × ℕ))) : Type 0 where
    pub items_are : items_of chain most ≡ items
    pub index : IsIndex eq scatter table chain free room most

  short : (eq : K → K → Bool) (scatter : K → ℕ) (table : Buckets K) (chain : Chain (K × ℕ)) (free : List ℕ) (most : ℕ) (items : List (ℕ × (K × ℕ))) → IsKept eq scatter table chain free most items → length items ≤ most
  short eq scatter table chain free most items k = omega (arith, k.room)

  pub seen : (eq : K → K → Bool) (scatter : K → ℕ) (table : Buckets K) (chain : Chain (K × ℕ)) (free : List ℕ) (room most : ℕ) (items : List (ℕ × (K × ℕ)))
      → IsKept eq scatter table chain (all_free most (vec_len chain.links) free) most items → AllByRecursion (λ place. place < vec_len chain.links) free
      → vec_len table.nodes ≡ vec_len chain.links → vec_len chain.links ≤ most → most ≤ room → most ≤ vec_capacity chain.links → most ≤ vec_capacity table.nodes
      → IsSeen eq scatter table chain free room most items
  seen eq scatter table chain free room most items k made places within free_fits links_fit nodes_fit =
      let e = chain_items chain items most k.chained (short eq scatter table chain (all_free most (vec_len chain.links) free) most items k) in
      record {
        items_are = e;
        index = record {
          kept = subst (IsKept eq scatter table chain (all_free most (vec_len chain.links) free) most) (sym e) k;
          made = made;
          places = places;
          within = within;
          free_fits = free_fits;
          links_fit = links_fit;
          nodes_fit = nodes_fit;
        };
      }

  -- an index is an order
  pub kept_order : (eq : K → K → Bool) (scatter : K → ℕ) (table : Buckets K) (chain : Chain (K × ℕ)) (free : List ℕ) (most : ℕ) (items : List (ℕ × (K × ℕ))) → IsKept eq scatter table chain free most items → IsOrder eq (order (pairs_in items) most)
  kept_order eq scatter table chain free most items k = record { distinct = k.distinct; within = omega (arith, k.room, length_pairs items) }

  -- A place that is free is the last of all, or the next one is made.
  pub popped : (eq : K → K → Bool) (scatter : K → ℕ) (table : Buckets K) (chain : Chain (K × ℕ)) (free rest : List ℕ) (room most place : ℕ) → IsIndex eq scatter table chain free room most → free ≡ rest ++ place ∷ [] → HasPlace eq scatter table chain rest room most place (items_of chain most)
  popped eq scatter table chain free rest room most place index is =
      let made = subst (AllByRecursion (λ p. p < vec_len chain.links)) is index.made in
      record {
        kept = subst (λ l. IsKept eq scatter table chain l most (items_of chain most)) (ap (all_free most (vec_len chain.links)) is ∙ free_again most (vec_len chain.links) rest place) index.kept;
        there = all_last _ rest place made;
        made = all_before _ rest (place ∷ []) made;
        places = index.places;
        within = index.within;
        free_fits = index.free_fits;
        links_fit = index.links_fit;
        nodes_fit = index.nodes_fit;
      }

  pub grown : (eq : K → K → Bool) (scatter : K → ℕ) (table now : Buckets K) (chain new : Chain (K × ℕ)) (free rest : List ℕ) (room most place : ℕ) → IsIndex eq scatter table chain free room most → free ≡ [] → rest ≡ [] → place ≡ vec_len chain.links → place < most
      → ((items : List (ℕ × (K × ℕ))) → IsChain chain items → IsChain new items) → vec_len new.links ≡ vec_len chain.links + 1 → vec_capacity new.links ≡ vec_capacity chain.links
      → ((chains : List (List (K × ℕ))) → AreFiled eq scatter table chains → AreFiled eq scatter now chains) → ((q : ℕ) → node_at now.nodes.items q ≡ node_at table.nodes.items q) → vec_len now.nodes ≡ vec_len table.nodes + 1 → vec_capacity now.nodes ≡ vec_capacity table.nodes
      → HasPlace eq scatter now new rest room most place (items_of chain most)
  grown eq scatter table now chain new free rest room most place index none no_rest next lt chained more links_room filed same nodes_more nodes_room =
      let k = index.kept in
      let lists : all_free most (vec_len chain.links) free ≡ all_free most (vec_len new.links) rest ++ place ∷ [] =
      ap (all_free most (vec_len chain.links)) none ∙ next_made most (vec_len chain.links) (omega (arith, next, lt)) ∙ ap (λ n. all_free most n [] ++ vec_len chain.links ∷ []) (sym more) ∙ ap (λ l. all_free most (vec_len new.links) l ++ vec_len chain.links ∷ []) (sym no_rest) ∙ ap (λ p. all_free most (vec_len new.links) rest ++ p ∷ []) (sym next) in
      record {
        kept = subst (λ l. IsKept eq scatter now new l most (items_of chain most)) lists (record {
          chains = k.chains;
          filed = filed k.chains k.filed;
          counted = k.counted;
          chained = chained (items_of chain most) k.chained;
          found = k.found;
          distinct = k.distinct;
          room = k.room;
          are_free = all_from (IsFree table (items_of chain most)) (IsFree now (items_of chain most)) (λ p f. record { no_item = f.no_item; no_key = same p ∙ f.no_key }) (all_free most (vec_len chain.links) free) k.are_free;
          apart = k.apart;
        });
        there = omega (arith, next, more);
        made = subst (AllByRecursion (λ p. p < vec_len new.links)) (sym no_rest) tt;
        places = omega (arith, index.places, more, nodes_more);
        within = omega (arith, next, lt, more);
        free_fits = index.free_fits;
        links_fit = omega (arith, index.links_fit, links_room);
        nodes_fit = omega (arith, index.nodes_fit, nodes_room);
      }

  -- a key that isn't in a pair has no place
  pub place_absent : (eq : K → K → Bool) (scatter : K → ℕ) (table : Buckets K) (chain : Chain (K × ℕ)) (free : List ℕ) (most : ℕ) (items : List (ℕ × (K × ℕ))) (key : K) → (k : IsKept eq scatter table chain free most items) → lookup (eq key) (pairs_in items) ≡ None → place_of eq scatter k.chains key ≡ None
  place_absent eq scatter table chain free most items key k absent = k.found key ∙ none_placed (eq key) items absent

  -- where a place is free there are fewer keys than places
  pub keys_fit : (eq : K → K → Bool) (scatter : K → ℕ) (table : Buckets K) (chain : Chain (K × ℕ)) (free : List ℕ) (most place : ℕ) (items : List (ℕ × (K × ℕ))) → vec_len chain.links ≤ most → vec_len table.nodes ≡ vec_len chain.links → (k : IsKept eq scatter table chain (all_free most (vec_len chain.links) free ++ place ∷ []) most items) → all_keys k.chains < vec_len table.nodes
  keys_fit eq scatter table chain free most place items within places k =
      let made = vec_len chain.links in
      let one = length-append (all_free most made free) (place ∷ []) in
      let all = length-append (falling (most - made) made) free ∙ ap (λ n. n + length free) (length-falling (most - made) made) in
      omega (arith, k.room, k.counted, one, all, within, places)

  -- where a place has an item there is room for one more that is free
  pub freed_fits : (eq : K → K → Bool) (scatter : K → ℕ) (table : Buckets K) (chain : Chain (K × ℕ)) (free : List ℕ) (room most place : ℕ) → IsIndex eq scatter table chain free room most → IsSome (lookup (nat_eq place) (items_of chain most)) → length free < room
  freed_fits eq scatter table chain free room most place index there =
      let made = vec_len chain.links in
      let items = items_of chain most in
      let all = length-append (falling (most - made) made) free ∙ ap (λ n. n + length free) (length-falling (most - made) made) in
      let some = length_removed (nat_eq place) items there in
      omega (arith, index.kept.room, all, some, index.free_fits)

module _ {K : Type 0} {eq : K → K → Bool} (laws : IsEquivalence eq) (same : (a b : K) → eq a b ≡ true → a ≡ b) (scatter : K → ℕ) where
  -- The index with a pair more, which took the last free place.
  pub kept_put : (table now : Buckets K) (chain new : Chain (K × ℕ)) (front : List ℕ) (place most : ℕ) (items : List (ℕ × (K × ℕ))) (key : K) (slot : ℕ)
      → (k : IsKept eq scatter table chain (front ++ place ∷ []) most items) → lookup (eq key) (pairs_in items) ≡ None
      → AreFiled eq scatter now (put_first eq scatter k.chains key place) → ((other : ℕ) → nat_eq place other ≡ false → node_at now.nodes.items other ≡ node_at table.nodes.items other)
      → IsChain new (items ++ (place, (key, slot)) ∷ [])
      → IsKept eq scatter now new front most (items ++ (place, (key, slot)) ∷ [])
  kept_put table now chain new front place most items key slot k absent filed others chained =
      let item : ℕ × (K × ℕ) = (place, (key, slot)) in
      let free = all_last (IsFree table items) front place k.are_free in
      let more : length (items ++ item ∷ []) ≡ length items + 1 = length-append items (item ∷ []) in
      let fewer : length (front ++ place ∷ []) ≡ length front + 1 = length-append front (place ∷ []) in
      record {
        chains = put_first eq scatter k.chains key place;
        filed = filed;
        counted = omega (arith, keys_put laws same scatter k.chains key k.filed.some place, k.counted, more);
        chained = chained;
        found = λ q. place_put laws same scatter k.chains key k.filed.some place q ∙ ap (cond (eq key q) (Some place)) (k.found q) ∙ sym (ap (lookup (eq q)) (places_append items (item ∷ [])) ∙ found_put laws (places_in items) key place (none_placed (eq key) items absent) q);
        distinct = subst (λ l. IsDistinct eq (keys_of l)) (sym (pairs_append items (item ∷ []))) (distinct_put laws (pairs_in items) key slot absent k.distinct);
        room = omega (arith, k.room, more, fewer);
        are_free = all_both (λ other. nat_eq place other ≡ false) (IsFree table items) (IsFree now (items ++ item ∷ [])) (λ other a f. record {
          no_item = found_put nat_eq_equiv items place (key, slot) free.no_item other ∙ ap (λ b. cond b (Some (key, slot)) (lookup (nat_eq other) items)) a ∙ f.no_item;
          no_key = others other a ∙ f.no_key;
        }) front (apart_last front place k.apart) (all_before _ front (place ∷ []) k.are_free);
        apart = apart_before front place k.apart;
      }

  -- The index without a pair, whose place is free again.
  pub kept_removed : (table now : Buckets K) (chain new : Chain (K × ℕ)) (free : List ℕ) (place most : ℕ) (items : List (ℕ × (K × ℕ))) (key : K) (pair : K × ℕ)
      → (k : IsKept eq scatter table chain free most items) → place_of eq scatter k.chains key ≡ Some place → lookup (nat_eq place) items ≡ Some pair
      → AreFiled eq scatter now (taken_out eq scatter k.chains key) → ((other : ℕ) → node_at table.nodes.items other ≡ None → node_at now.nodes.items other ≡ None) → node_at now.nodes.items place ≡ None
      → IsChain new (remove_entry (nat_eq place) items)
      → IsKept eq scatter now new (free ++ place ∷ []) most (remove_entry (nat_eq place) items)
  kept_removed table now chain new free place most items key pair k there found filed still freed chained =
      let rest = remove_entry (nat_eq place) items in
      let agrees = agree laws key place items k.distinct k.chained.distinct (sym (k.found key) ∙ there) in
      let gone = found_removed nat_eq_equiv items place k.chained.distinct in
      let shorter : suc (length rest) ≡ length items = length_removed (nat_eq place) items (rw found refl) in
      let longer : length (free ++ place ∷ []) ≡ length free + 1 = length-append free (place ∷ []) in
      let placed = subst (IsDistinct eq) (keys_same items) k.distinct in
      let others = all_from (IsFree table items) (λ other. nat_eq place other ≡ false) (λ other f. (elim (nat_eq place other) as (λ y. nat_eq place other ≡ y → y ≡ false) [
        | true ↦ λ t. let here : lookup (nat_eq place) items ≡ None = ap (λ p. lookup (nat_eq p) items) (eqb-true place other t) ∙ f.no_item in cc
        | false ↦ λ t. refl
      ]) refl) free k.are_free in
      record {
        chains = taken_out eq scatter k.chains key;
        filed = filed;
        counted = omega (arith, keys_taken laws same scatter k.chains key k.filed.some (rw there refl), k.counted, shorter);
        chained = chained;
        found = λ q. place_taken laws same scatter k.chains key k.filed.some (k.filed.distinct (bucket_of eq scatter k.chains key)) q ∙ ap (cond (eq key q) None) (k.found q) ∙ sym (ap (lookup (eq q)) (places_removed (eq key) place items agrees) ∙ found_removed laws (places_in items) key placed q);
        distinct = subst (λ l. IsDistinct eq (keys_of l)) (sym (pairs_removed (eq key) place items agrees)) (distinct_removed (eq key) eq (pairs_in items) k.distinct);
        room = omega (arith, k.room, shorter, longer);
        are_free = all_push _ free place (all_both (λ other. nat_eq place other ≡ false) (IsFree table items) (IsFree now rest) (λ other a f. record {
          no_item = gone other ∙ ap (λ b. cond b None (lookup (nat_eq other) items)) a ∙ f.no_item;
          no_key = still other f.no_key;
        }) free others k.are_free) (record { no_item = gone place ∙ ap (λ b. cond b None (lookup (nat_eq place) items)) (nat_eq_equiv.refl place); no_key = freed });
        apart = apart_push free place k.apart others;
      }

  -- The index after the pair of a key became the warmest.
  pub kept_touched : (table : Buckets K) (chain new : Chain (K × ℕ)) (free : List ℕ) (most : ℕ) (items : List (ℕ × (K × ℕ))) (key : K) (place : ℕ) (pair : K × ℕ) (slot : ℕ)
      → (k : IsKept eq scatter table chain free most items) → place_of eq scatter k.chains key ≡ Some place → lookup (nat_eq place) items ≡ Some pair → lookup (eq key) (pairs_in items) ≡ Some slot
      → IsChain new (touched (nat_eq place) items)
      → IsKept eq scatter table new free most (touched (nat_eq place) items)
  kept_touched table chain new free most items key place pair slot k there found slot_is chained =
      let agrees = agree laws key place items k.distinct k.chained.distinct (sym (k.found key) ∙ there) in
      let placed = subst (IsDistinct eq) (keys_same items) k.distinct in
      let as_before = touched_found nat_eq_equiv eqb-true items place pair k.chained.distinct found in
      let long : length (touched (nat_eq place) items) ≡ length items = length_touched nat_eq_equiv eqb-true items place pair found in
      record {
        chains = k.chains;
        filed = k.filed;
        counted = omega (arith, k.counted, long);
        chained = chained;
        found = λ q. k.found q ∙ sym (ap (lookup (eq q)) (places_touched (eq key) place items agrees) ∙ touched_found laws same (places_in items) key place placed (sym (k.found key) ∙ there) q);
        distinct = subst (λ l. IsDistinct eq (keys_of l)) (sym (pairs_touched (eq key) place items agrees)) (distinct_touched laws same (pairs_in items) key slot k.distinct slot_is);
        room = omega (arith, k.room, long);
        are_free = all_from (IsFree table items) (IsFree table (touched (nat_eq place) items)) (λ other f. record { no_item = as_before other ∙ f.no_item; no_key = f.no_key }) free k.are_free;
        apart = k.apart;
      }

module _ {K : Type 0} {eq : K → K → Bool} (laws : IsEquivalence eq) where
  more_there : (p : K × ℕ) (ps : List (K × ℕ)) (k : K) → IsSome (lookup (eq k) ps) → IsSome (lookup (eq k) (p ∷ ps))
  more_there p ps k = (elim (eq k p.0) as (λ y. IsSome (lookup (eq k) ps) → IsSome (cond y (Some p.1) (lookup (eq k) ps))) [
    | true ↦ λ h. refl
    | false ↦ λ h. h
  ])

  still_there : (p : K × ℕ) (ps : List (K × ℕ)) (o : Option K) → IfSome o (λ k. IsSome (lookup (eq k) ps)) → IfSome o (λ k. IsSome (lookup (eq k) (p ∷ ps)))
  still_there p ps None h = tt
  still_there p ps (Some k) h = more_there p ps k h

  first_there : (ps : List (K × ℕ)) → IfSome (first_key ps) (λ k. IsSome (lookup (eq k) ps))
  first_there [] = tt
  first_there (p ∷ ps) = rw (laws.refl p.0) refl

  warmer_there : (q : K) (ps : List (K × ℕ)) → IfSome (first_key (warmer (eq q) ps)) (λ k. IsSome (lookup (eq k) ps))
  warmer_there q [] = tt
  warmer_there q (p ∷ ps) = still_there p ps (first_key (warmer (eq q) (p ∷ ps))) ((elim (eq q p.0) as (λ y. IfSome (first_key (cond y ps (warmer (eq q) ps))) (λ k. IsSome (lookup (eq k) ps))) [
    | true ↦ first_there ps
    | false ↦ warmer_there q ps
  ]))

  -- the coldest key is there
  pub coldest_there : (after : Option K) (ps : List (K × ℕ)) → IfSome (coldest_of eq after ps) (λ k. IsSome (lookup (eq k) ps))
  coldest_there None ps = first_there ps
  coldest_there (Some q) ps = warmer_there q ps

-- whether there is room for one more, by whether a place is left
pub full : (b : Bool) (free made pairs most : ℕ) → MatchBool b ((free ≡ 0) × (made ≡ most)) (made < most + free) → made ≤ most → most - made + free + pairs ≡ most → MatchBool b (most ≡ pairs) (pairs < most)
full true free made pairs most h within room = omega (arith, h.0, h.1, room)
full false free made pairs most h within room = omega (arith, h, within, room)

-- an index with no pair
pub kept_empty : {K : Type 0} (eq : K → K → Bool) (scatter : K → ℕ) (table : Buckets K) (chain : Chain (K × ℕ)) (free : List ℕ) (most : ℕ) → free ≡ [] → AreFiled eq scatter table (no_chains (most / 8 + 1)) → IsChain chain [] → vec_len chain.links ≡ 0 → vec_len table.nodes ≡ 0 → IsKept eq scatter table chain (all_free most (vec_len chain.links) free) most []
unfolding IsDistinct
kept_empty {K} eq scatter table chain free most none filed chained links nodes = record {
  chains = no_chains (most / 8 + 1);
  filed = filed;
  counted = let few = filed.few in omega (arith, few, nodes);
  chained = chained;
  found = λ q. ap (lookup (eq q)) (nothing_in {X = K × ℕ} (most / 8 + 1) (bucket_of eq scatter (no_chains (most / 8 + 1)) q));
  distinct = tt;
  room = omega (arith, ap length all_are, length-falling most 0);
  are_free = subst (AllByRecursion (IsFree table [])) (sym all_are) (each_free (falling most 0));
  apart = subst AreApart (sym all_are) (falling_apart most 0);
}
  where
    all_are : all_free most (vec_len chain.links) free ≡ falling most 0
    all_are = let all : most - 0 ≡ most = omega arith in ap (λ n. all_free most n free) links ∙ ap (all_free most 0) none ∙ append-nil (falling (most - 0) 0) ∙ ap (λ n. falling n 0) all

    each_free : (places : List ℕ) → AllByRecursion (IsFree table []) places
    each_free [] = tt
    each_free (p ∷ ps) = (record { no_item = refl; no_key = get_or_past table.nodes.items p None (omega (arith, nodes, table.nodes.ok.0)) }, each_free ps)
