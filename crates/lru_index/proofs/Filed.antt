-- A table of keys in buckets after a key was put, and after one was taken out.
use Rattle.std.proofs.Common.{◌≡◌, ℕ, ◌+◌, ◌%◌, ◌<◌, ◌≤◌, Bool, true, false, cond, List, [], ◌∷◌, ◌++◌, length, get_or, set, replicate, Option, Some, None, IsSome, is_some, nat_eq, eqb-true, vec_len, refl, sym, ap, ◌∙◌, subst, inl, inr, arith, mul-zero}
use Rattle.std.specs.Option.{option_map}
use Rattle.std.specs.List.{AllByRecursion, IsDistinct}
use Rattle.std.specs.Map.{keys_of, lookup, remove_entry}
use Rattle.std.specs.Cmp.{IsEquivalence, nat_eq_equiv}
use Rattle.std.proofs.lemmas.Bool.{cases_eq, cases_lt, false≢true}
use Rattle.std.proofs.lemmas.Nat.{mod_below}
use Rattle.std.proofs.lemmas.List.{length_push, get_or_push, get_or_append_left, length-set, length-replicate, get_or-set_same, get_or-set_other, get_or_past, get_or-replicate}
use Rattle.std.proofs.lemmas.List.Sums.{sum_by-set}
use Rattle.std.proofs.lemmas.List.Folds.{sum_by-replicate}
use Rattle.std.proofs.lemmas.Map.Keys.{IsDistinct-cons}
use Rattle.lru_index.specs.Chain.{hits}
use Rattle.lru_index.specs.Buckets.{AreFiled, AreStrung, IsHit, IsSought, all_keys, bucket_of, first_place, in_bucket, last_place, no_chains, node_at, place_of, put_first, taken_out, with_next}
use Rattle.lru_index.specs.declared.buckets.Node.{Node}
use Rattle.lru_index.specs.declared.buckets.Buckets.{Buckets}
use Rattle.lru_index.specs.declared.buckets.Found.{Found}
use Rattle.lru_index.proofs.Pairs.{all_removed, distinct_removed, found_removed, length_removed}
use Rattle.lru_index.proofs.Sides.{found_second, removed_second, none_apart, all_front, at_middle}
use Rattle.lru_index.proofs.Strung.{StandAt, strung_back, free_apart, strung_put, strung_frame, strung_gone, places_apart, stand, places_differ, goes_beside, Goes, last_apart}

module _ {X : Type 0} where
  -- what is read after another place was written
  pub set_of : (xs : List X) (at : ℕ) (y d : X) → at < length xs → (other : ℕ) → get_or (set xs at y) other d ≡ cond (nat_eq at other) y (get_or xs other d)
  set_of xs at y d within other = (elim (nat_eq at other) as (λ b. nat_eq at other ≡ b → get_or (set xs at y) other d ≡ cond b y (get_or xs other d)) [
    | true ↦ λ t. ap (λ k. get_or (set xs at y) k d) (sym (eqb-true at other t)) ∙ get_or-set_same xs at y d within
    | false ↦ λ t. get_or-set_other xs at other y d (λ e. false≢true (sym t ∙ ap (nat_eq at) e ∙ nat_eq_equiv.refl at))
  ]) refl

  pub nothing_in : (n b : ℕ) → get_or (replicate {A = List X} n []) b [] ≡ []
  nothing_in n b = elim (cases_lt b n) [
    | inl lt ↦ get_or-replicate n b [] [] lt
    | inr le ↦ get_or_past _ b [] (rw length-replicate le)
  ]

none_first : (n b : ℕ) → get_or (replicate {A = Option ℕ} n None) b None ≡ None
none_first n b = elim (cases_lt b n) [
  | inl lt ↦ get_or-replicate n b None None lt
  | inr le ↦ get_or_past _ b None (rw length-replicate le)
]

module _ {K : Type 0} where
  -- a place more, at which nothing stands
  pub grown_same : (nodes : List (Option (Node K))) (q : ℕ) → node_at (nodes ++ None ∷ []) q ≡ node_at nodes q
  grown_same nodes q = elim (cases_lt q (length nodes)) [
    | inl lt ↦ get_or_append_left nodes (None ∷ []) None q lt
    | inr le ↦ (elim (cases_eq q (length nodes)) [
      | inl e ↦ get_or_push nodes None None q (sym e)
      | inr d ↦ get_or_past (nodes ++ None ∷ []) q None (let long = length_push nodes None in omega (arith, le, d, long))
    ]) ∙ sym (get_or_past nodes q None le)
  ]

  -- a node that gets another one behind it, and a place that has none
  pub changed_node : (at now : ℕ → Option (Node K)) (place : ℕ) (node : Node K) (next : Option ℕ) → at place ≡ Some node → ((q : ℕ) → now q ≡ cond (nat_eq place q) (Some (with_next next node)) (at q)) → (q : ℕ) → now q ≡ cond (nat_eq place q) (option_map (with_next next) (at q)) (at q)
  changed_node at now place node next there writes q = writes q ∙ (elim (nat_eq place q) as (λ b. nat_eq place q ≡ b → cond b (Some (with_next next node)) (at q) ≡ cond b (option_map (with_next next) (at q)) (at q)) [
    | true ↦ λ t. sym (ap (λ k. option_map (with_next next) (at k)) (sym (eqb-true place q t)) ∙ ap (option_map (with_next next)) there)
    | false ↦ λ t. refl
  ]) refl

  pub unchanged_node : (at : ℕ → Option (Node K)) (place : ℕ) (next : Option ℕ) → at place ≡ None → (q : ℕ) → at q ≡ cond (nat_eq place q) (option_map (with_next next) (at q)) (at q)
  unchanged_node at place next there q = (elim (nat_eq place q) as (λ b. nat_eq place q ≡ b → at q ≡ cond b (option_map (with_next next) (at q)) (at q)) [
    | true ↦ λ t. let none : at q ≡ None = ap at (sym (eqb-true place q t)) ∙ there in none ∙ sym (ap (option_map (with_next next)) none)
    | false ↦ λ t. refl
  ]) refl

  -- a place that had no node has none where another one's was changed or went
  pub still_none : (at now : ℕ → Option (Node K)) (gone : ℕ) (before : Option ℕ) (next : Option ℕ) → ((q : ℕ) → now q ≡ cond (nat_eq gone q) None (cond (hits before q) (option_map (with_next next) (at q)) (at q))) → (q : ℕ) → at q ≡ None → now q ≡ None
  still_none at now gone before next goes q none = goes q ∙ (elim (nat_eq gone q) as (λ b. cond b None (cond (hits before q) (option_map (with_next next) (at q)) (at q)) ≡ None) [
    | true ↦ refl
    | false ↦ (elim (hits before q) as (λ b. cond b (option_map (with_next next) (at q)) (at q) ≡ None) [
      | true ↦ ap (option_map (with_next next)) none
      | false ↦ none
    ])
  ])

module _ {K : Type 0} (eq : K → K → Bool) (scatter : K → ℕ) where
  -- a table with nothing in it
  pub filed_empty : (table : Buckets K) (count : ℕ) → table.firsts.items ≡ replicate (count + 1) None → vec_len table.nodes ≡ 0 → AreFiled eq scatter table (no_chains (count + 1))
  unfolding IsDistinct
  filed_empty table count firsts nodes = record {
    buckets = length-replicate (count + 1) [] ∙ sym (table.firsts.ok.0 ∙ ap length firsts ∙ length-replicate (count + 1) None);
    some = rw length-replicate (omega arith);
    firsts = λ b. ap (λ xs. get_or xs b None) firsts ∙ none_first (count + 1) b ∙ sym (ap first_place (nothing_in {X = K × ℕ} (count + 1) b));
    strung = λ b. subst (AreStrung (node_at table.nodes.items)) (sym (nothing_in {X = K × ℕ} (count + 1) b)) tt;
    own = λ b. subst (λ ps. AllByRecursion (λ key. scatter key % length (no_chains {K = K} (count + 1)) ≡ b) (keys_of ps)) (sym (nothing_in {X = K × ℕ} (count + 1) b)) tt;
    distinct = λ b. subst (λ ps. IsDistinct eq (keys_of ps)) (sym (nothing_in {X = K × ℕ} (count + 1) b)) tt;
    few = let none : all_keys (no_chains {K = K} (count + 1)) ≡ 0 = sum_by-replicate length (count + 1) [] ∙ mul-zero (count + 1) in omega (arith, none);
  }

  -- the same table with a place more, at which nothing stands
  pub filed_grown : (old new : Buckets K) (chains : List (List (K × ℕ))) → new.firsts ≡ old.firsts → vec_len new.nodes ≡ vec_len old.nodes + 1 → ((q : ℕ) → node_at new.nodes.items q ≡ node_at old.nodes.items q) → AreFiled eq scatter old chains → AreFiled eq scatter new chains
  filed_grown old new chains firsts more same f = record {
    buckets = f.buckets ∙ sym (ap vec_len firsts);
    some = f.some;
    firsts = λ b. ap (λ v. get_or v.items b None) firsts ∙ f.firsts b;
    strung = λ b. as_before (in_bucket chains b) (f.strung b);
    own = f.own;
    distinct = f.distinct;
    few = omega (arith, f.few, more);
  }
    where
      as_before : (ps : List (K × ℕ)) → AreStrung (node_at old.nodes.items) ps → AreStrung (node_at new.nodes.items) ps
      as_before [] s = tt
      as_before (p ∷ ps) s = (same p.1 ∙ s.0, as_before ps s.1)

module _ {K : Type 0} {eq : K → K → Bool} (laws : IsEquivalence eq) (same : (a b : K) → eq a b ≡ true → a ≡ b) (scatter : K → ℕ) where
  -- What is written at one bucket of chains.
  module _ (chains : List (List (K × ℕ))) (key : K) (some : 0 < length chains) where
    bucket_within : bucket_of eq scatter chains key < length chains
    bucket_within = mod_below (scatter key) (length chains) some

    -- what each bucket has
    pub now_in : (ps : List (K × ℕ)) (b : ℕ) → in_bucket (set chains (bucket_of eq scatter chains key) ps) b ≡ cond (nat_eq (bucket_of eq scatter chains key) b) ps (in_bucket chains b)
    now_in ps b = set_of chains (bucket_of eq scatter chains key) ps [] bucket_within b

    -- what is found of each key, where the bucket of one has something else
    found_now : (ps : List (K × ℕ)) (r : Option ℕ) → ((q : K) → lookup (eq q) ps ≡ cond (eq key q) r (lookup (eq q) (in_bucket chains (bucket_of eq scatter chains key)))) → (q : K)
        → place_of eq scatter (set chains (bucket_of eq scatter chains key) ps) q ≡ cond (eq key q) r (place_of eq scatter chains q)
    found_now ps r finds q =
        ap (λ n. lookup (eq q) (in_bucket (set chains (bucket_of eq scatter chains key) ps) (scatter q % n))) (length-set chains (bucket_of eq scatter chains key) ps)
        ∙ ap (lookup (eq q)) (now_in ps (bucket_of eq scatter chains q))
        ∙ (elim (nat_eq (bucket_of eq scatter chains key) (bucket_of eq scatter chains q)) as (λ b. nat_eq (bucket_of eq scatter chains key) (bucket_of eq scatter chains q) ≡ b → lookup (eq q) (cond b ps (in_bucket chains (bucket_of eq scatter chains q))) ≡ cond (eq key q) r (place_of eq scatter chains q)) [
          | true ↦ λ t. finds q ∙ ap (λ b. cond (eq key q) r (lookup (eq q) (in_bucket chains b))) (eqb-true (bucket_of eq scatter chains key) (bucket_of eq scatter chains q) t)
          | false ↦ λ t. sym (ap (λ b. cond b r (place_of eq scatter chains q)) (other_key q t))
        ]) refl
      where
        other_key : (q : K) → nat_eq (bucket_of eq scatter chains key) (bucket_of eq scatter chains q) ≡ false → eq key q ≡ false
        other_key q t = (elim (eq key q) as (λ b. eq key q ≡ b → b ≡ false) [
          | true ↦ λ e. absurd (false≢true (sym t ∙ ap (λ k. nat_eq (bucket_of eq scatter chains key) (bucket_of eq scatter chains k)) (sym (same key q e)) ∙ nat_eq_equiv.refl (bucket_of eq scatter chains key)))
          | false ↦ λ e. refl
        ]) refl

    pub place_put : (place : ℕ) → (q : K) → place_of eq scatter (put_first eq scatter chains key place) q ≡ cond (eq key q) (Some place) (place_of eq scatter chains q)
    place_put place q = found_now ((key, place) ∷ in_bucket chains (bucket_of eq scatter chains key)) (Some place) (λ k. ap (λ b. cond b (Some place) (lookup (eq k) (in_bucket chains (bucket_of eq scatter chains key)))) (laws.symm k key)) q

    pub place_taken : IsDistinct eq (keys_of (in_bucket chains (bucket_of eq scatter chains key))) → (q : K) → place_of eq scatter (taken_out eq scatter chains key) q ≡ cond (eq key q) None (place_of eq scatter chains q)
    place_taken distinct q = found_now (remove_entry (eq key) (in_bucket chains (bucket_of eq scatter chains key))) None (found_removed laws (in_bucket chains (bucket_of eq scatter chains key)) key distinct) q

    -- how many keys there are
    pub keys_put : (place : ℕ) → all_keys (put_first eq scatter chains key place) ≡ all_keys chains + 1
    keys_put place = omega (arith, sum_by-set length chains (bucket_of eq scatter chains key) ((key, place) ∷ in_bucket chains (bucket_of eq scatter chains key)) [] bucket_within)

    pub keys_taken : IsSome (place_of eq scatter chains key) → all_keys (taken_out eq scatter chains key) + 1 ≡ all_keys chains
    keys_taken there = omega (arith, sum_by-set length chains (bucket_of eq scatter chains key) (remove_entry (eq key) (in_bucket chains (bucket_of eq scatter chains key))) [] bucket_within, length_removed (eq key) (in_bucket chains (bucket_of eq scatter chains key)) there)

  -- What a table stands for once it was written at one bucket.
  module _ (old new : Buckets K) (chains : List (List (K × ℕ))) (key : K) (ps : List (K × ℕ)) (filed : AreFiled eq scatter old chains) where
    abbrev home : ℕ
    home = bucket_of eq scatter chains key

    abbrev all : List (List (K × ℕ))
    all = set chains home ps

    filed_at : vec_len new.firsts ≡ vec_len old.firsts → ((b : ℕ) → get_or new.firsts.items b None ≡ cond (nat_eq home b) (first_place ps) (get_or old.firsts.items b None))
        → AreStrung (node_at new.nodes.items) ps → ((b : ℕ) → nat_eq home b ≡ false → AreStrung (node_at new.nodes.items) (in_bucket chains b))
        → AllByRecursion (λ k. scatter k % length chains ≡ home) (keys_of ps) → IsDistinct eq (keys_of ps) → all_keys all ≤ vec_len new.nodes
        → AreFiled eq scatter new all
    filed_at buckets firsts here beside own distinct few =
        let long : length all ≡ length chains = length-set chains home ps in
        let at = now_in chains key filed.some ps in
        record {
          buckets = long ∙ filed.buckets ∙ sym buckets;
          some = rw long filed.some;
          firsts = λ b. firsts b ∙ (elim (nat_eq home b) as (λ y. cond y (first_place ps) (get_or old.firsts.items b None) ≡ first_place (cond y ps (in_bucket chains b))) [
            | true ↦ refl
            | false ↦ filed.firsts b
          ]) ∙ sym (ap first_place (at b));
          strung = λ b. subst (AreStrung (node_at new.nodes.items)) (sym (at b)) ((elim (nat_eq home b) as (λ y. nat_eq home b ≡ y → AreStrung (node_at new.nodes.items) (cond y ps (in_bucket chains b))) [
            | true ↦ λ t. here
            | false ↦ λ t. beside b t
          ]) refl);
          own = λ b. subst (λ n. AllByRecursion (λ k. scatter k % n ≡ b) (keys_of (in_bucket all b))) (sym long) (subst (λ l. AllByRecursion (λ k. scatter k % length chains ≡ b) (keys_of l)) (sym (at b)) ((elim (nat_eq home b) as (λ y. nat_eq home b ≡ y → AllByRecursion (λ k. scatter k % length chains ≡ b) (keys_of (cond y ps (in_bucket chains b)))) [
            | true ↦ λ t. subst (λ x. AllByRecursion (λ k. scatter k % length chains ≡ x) (keys_of ps)) (eqb-true home b t) own
            | false ↦ λ t. filed.own b
          ]) refl));
          distinct = λ b. subst (λ l. IsDistinct eq (keys_of l)) (sym (at b)) ((elim (nat_eq home b) as (λ y. IsDistinct eq (keys_of (cond y ps (in_bucket chains b)))) [
            | true ↦ distinct
            | false ↦ filed.distinct b
          ]));
          few = few;
        }

  -- A key more.
  pub filed_put : (old new : Buckets K) (chains : List (List (K × ℕ))) (key : K) (place : ℕ) → AreFiled eq scatter old chains → node_at old.nodes.items place ≡ None → place_of eq scatter chains key ≡ None → all_keys chains < vec_len old.nodes
      → new.firsts.items ≡ set old.firsts.items (bucket_of eq scatter chains key) (Some place) → vec_len new.firsts ≡ vec_len old.firsts
      → ((q : ℕ) → node_at new.nodes.items q ≡ cond (nat_eq place q) (Some (record { key = key; next = get_or old.firsts.items (bucket_of eq scatter chains key) None })) (node_at old.nodes.items q)) → vec_len new.nodes ≡ vec_len old.nodes
      → AreFiled eq scatter new (put_first eq scatter chains key place)
  filed_put old new chains key place filed free absent few firsts buckets nodes places =
      let home = bucket_of eq scatter chains key in
      let ps = in_bucket chains home in
      let within : home < length chains = mod_below (scatter key) (length chains) filed.some in
      let written = λ (qs : List (K × ℕ)) (s : AreStrung (node_at old.nodes.items) qs). strung_put (node_at old.nodes.items) (node_at new.nodes.items) place _ qs nodes (free_apart (node_at old.nodes.items) place qs free s) s in
      let here = nodes place ∙ ap (λ b. cond b (Some (record { key = key; next = get_or old.firsts.items home None })) (node_at old.nodes.items place)) (nat_eq_equiv.refl place) ∙ ap (λ n. Some (record { key = key; next = n })) (filed.firsts home) in
      filed_at old new chains key ((key, place) ∷ ps) filed buckets
      (λ b. ap (λ xs. get_or xs b None) firsts ∙ set_of old.firsts.items home (Some place) None (subst (λ n. home < n) (filed.buckets ∙ old.firsts.ok.0) within) b)
      (here, written ps (filed.strung home))
      (λ b t. written (in_bucket chains b) (filed.strung b))
      (refl, filed.own home)
      (IsDistinct-cons eq key (keys_of ps) (none_apart (eq key) ps absent) (filed.distinct home))
      (omega (arith, few, places, keys_put chains key filed.some place))

  -- the place of what was sought is that of the key
  sought_place : (chain : List (K × ℕ)) (key : K) (found : Found) → IsSought eq chain key found → found.place ≡ lookup (eq key) chain
  sought_place chain key found s = s.place ∙ sym (ap (lookup (eq key)) s.is ∙ found_second (eq key) s.front s.back s.passed ∙ at_first s.back s.hit)
    where
      at_first : (back : List (K × ℕ)) → IsHit eq key back → lookup (eq key) back ≡ first_place back
      at_first [] h = refl
      at_first (p ∷ ps) h = rw h refl

  -- the bucket that a call seeks a key in is the key's own
  pub own_bucket : (table : Buckets K) (chains : List (List (K × ℕ))) (bucket : ℕ) (key : K) → AreFiled eq scatter table chains → bucket ≡ scatter key % vec_len table.firsts → bucket ≡ bucket_of eq scatter chains key
  own_bucket table chains bucket key filed is = is ∙ ap (λ n. scatter key % n) (sym filed.buckets)

  -- so the place of what it found there is that of the key
  pub found_place : (table : Buckets K) (chains : List (List (K × ℕ))) (bucket : ℕ) (key : K) (found : Found) → AreFiled eq scatter table chains → bucket ≡ scatter key % vec_len table.firsts → IsSought eq (in_bucket chains bucket) key found → found.place ≡ place_of eq scatter chains key
  found_place table chains bucket key found filed is s = sought_place (in_bucket chains bucket) key found s ∙ ap (λ b. lookup (eq key) (in_bucket chains b)) (own_bucket table chains bucket key filed is)

  -- A key less, whose place was found behind the front of its bucket.
  module _ (old new : Buckets K) (chains : List (List (K × ℕ))) (key : K) (filed : AreFiled eq scatter old chains) (before next : Option ℕ) (front back : List (K × ℕ)) (p : K × ℕ)
      (is : in_bucket chains (bucket_of eq scatter chains key) ≡ front ++ p ∷ back) (passed : AllByRecursion (λ other. eq key other ≡ false) (keys_of front)) (hit : eq key p.0 ≡ true)
      (before_is : before ≡ last_place None front) (next_is : next ≡ first_place back)
      (firsts : new.firsts.items ≡ cond (is_some before) old.firsts.items (set old.firsts.items (bucket_of eq scatter chains key) next)) (buckets : vec_len new.firsts ≡ vec_len old.firsts)
      (goes : Goes (node_at old.nodes.items) (node_at new.nodes.items) p.1 next before) (places : vec_len new.nodes ≡ vec_len old.nodes) where
    abbrev its : ℕ
    its = bucket_of eq scatter chains key

    abbrev at : ℕ → Option (Node K)
    at = node_at old.nodes.items

    abbrev now : ℕ → Option (Node K)
    now = node_at new.nodes.items

    rest_is : remove_entry (eq key) (in_bucket chains its) ≡ front ++ back
    rest_is = ap (remove_entry (eq key)) is ∙ removed_second (eq key) front p back passed hit

    strung : AreStrung at (front ++ p ∷ back)
    strung = subst (AreStrung at) is (filed.strung its)

    goes_here : Goes at now p.1 next (last_place None front)
    goes_here = subst (Goes at now p.1 next) before_is goes

    within : its < length old.firsts.items
    within = subst (λ n. its < n) (filed.buckets ∙ old.firsts.ok.0) (mod_below (scatter key) (length chains) filed.some)

    first_now : (fs : List (K × ℕ)) → front ≡ fs → (b : ℕ) → get_or new.firsts.items b None ≡ cond (nat_eq its b) (first_place (front ++ back)) (get_or old.firsts.items b None)
    first_now [] none b =
        let lone : before ≡ None = before_is ∙ ap (last_place None) none in
        let leads : next ≡ first_place (front ++ back) = next_is ∙ sym (ap (λ l. first_place (l ++ back)) none) in
        ap (λ xs. get_or xs b None) (firsts ∙ ap (λ o. cond (is_some o) old.firsts.items (set old.firsts.items its next)) lone) ∙ set_of old.firsts.items its next None within b ∙ ap (λ o. cond (nat_eq its b) o (get_or old.firsts.items b None)) leads
    first_now (f ∷ fs) some b =
        let led : is_some before ≡ true = ap is_some (before_is ∙ ap (last_place None) some) ∙ is_last f fs in
        ap (λ xs. get_or xs b None) (firsts ∙ ap (λ y. cond y old.firsts.items (set old.firsts.items its next)) led)
        ∙ (elim (nat_eq its b) as (λ y. nat_eq its b ≡ y → get_or old.firsts.items b None ≡ cond y (first_place (front ++ back)) (get_or old.firsts.items b None)) [
          | true ↦ λ t. ap (λ k. get_or old.firsts.items k None) (sym (eqb-true its b t)) ∙ filed.firsts its ∙ ap first_place is ∙ ap (λ l. first_place (l ++ p ∷ back)) some ∙ sym (ap (λ l. first_place (l ++ back)) some)
          | false ↦ λ t. refl
        ]) refl
      where
        is_last : (f : K × ℕ) (fs : List (K × ℕ)) → is_some (last_place (Some f.1) fs) ≡ true
        is_last f [] = refl
        is_last f (g ∷ fs) = is_last g fs

    abbrev AtHome : List (K × ℕ) → Type 0
    AtHome = StandAt at (λ k. scatter k % length chains ≡ its)

    home_stands : AtHome (front ++ p ∷ back)
    home_stands = stand at (λ k. scatter k % length chains ≡ its) (front ++ p ∷ back) strung (subst (λ l. AllByRecursion (λ k. scatter k % length chains ≡ its) (keys_of l)) is (filed.own its))

    home_apart : (b x y : ℕ) (nx ny : Node K) → nat_eq its b ≡ false → at x ≡ Some nx → scatter nx.key % length chains ≡ its → at y ≡ Some ny → scatter ny.key % length chains ≡ b → nat_eq x y ≡ false
    home_apart b x y nx ny t there mine here theirs = places_differ at (λ k. scatter k % length chains ≡ its) x y nx ny there here (λ yes. false≢true (sym t ∙ ap (nat_eq its) (sym theirs ∙ yes) ∙ nat_eq_equiv.refl its)) mine

    all_apart : (b y : ℕ) (ny : Node K) (ps : List (K × ℕ)) → nat_eq its b ≡ false → at y ≡ Some ny → scatter ny.key % length chains ≡ b → AtHome ps → AllByRecursion (λ f. nat_eq f.1 y ≡ false) ps
    all_apart b y ny [] t here theirs a = tt
    all_apart b y ny (f ∷ fs) t here theirs a = (home_apart b f.1 y a.0.0 ny t a.0.1 a.0.2 here theirs, all_apart b y ny fs t here theirs a.1)

    each_beside : (b : ℕ) → nat_eq its b ≡ false → (qs : List (K × ℕ)) → StandAt at (λ k. scatter k % length chains ≡ b) qs → AllByRecursion (λ q. now q.1 ≡ at q.1) qs
    each_beside b t [] a = tt
    each_beside b t (q ∷ qs) a =
        let home = at_middle _ front p back home_stands in
        let away = home_apart b p.1 q.1 home.0 a.0.0 t home.1 home.2 a.0.1 a.0.2 in
        let aside = last_apart q.1 None front refl (all_apart b q.1 a.0.0 front t a.0.1 a.0.2 (all_front _ front (p ∷ back) home_stands)) in
        (goes_beside at now p.1 next (last_place None front) goes_here q.1 away aside, each_beside b t qs a.1)

    placed : place_of eq scatter chains key ≡ Some p.1
    placed = ap (lookup (eq key)) is ∙ found_second (eq key) front (p ∷ back) passed ∙ ap (λ b. cond b (Some p.1) (lookup (eq key) back)) hit

    pub filed_taken : AreFiled eq scatter new (taken_out eq scatter chains key)
    filed_taken =
        let ps = in_bucket chains its in
        filed_at old new chains key (remove_entry (eq key) ps) filed buckets
        (λ b. first_now front refl b ∙ ap (λ l. cond (nat_eq its b) (first_place l) (get_or old.firsts.items b None)) (sym rest_is))
        (subst (AreStrung now) (sym rest_is) (strung_gone at now p.1 next front p back refl next_is goes_here (places_apart laws at (front ++ p ∷ back) (subst (λ l. IsDistinct eq (keys_of l)) is (filed.distinct its)) strung) strung))
        (λ b t. strung_frame at now (in_bucket chains b) (each_beside b t (in_bucket chains b) (stand at (λ k. scatter k % length chains ≡ b) (in_bucket chains b) (filed.strung b) (filed.own b))) (filed.strung b))
        (all_removed (eq key) (λ k. scatter k % length chains ≡ its) ps (filed.own its))
        (distinct_removed (eq key) eq ps (filed.distinct its))
        (omega (arith, keys_taken chains key filed.some (rw placed refl), filed.few, places))

  -- The same from what a call found in the key's bucket.
  pub taken_by : (old new : Buckets K) (chains : List (List (K × ℕ))) (key : K) → AreFiled eq scatter old chains → (found : Found) (gone : ℕ) (node : Node K) → IsSought eq (in_bucket chains (bucket_of eq scatter chains key)) key found → found.place ≡ Some gone → node_at old.nodes.items gone ≡ Some node
      → new.firsts.items ≡ cond (is_some found.before) old.firsts.items (set old.firsts.items (bucket_of eq scatter chains key) node.next) → vec_len new.firsts ≡ vec_len old.firsts
      → Goes (node_at old.nodes.items) (node_at new.nodes.items) gone node.next found.before → vec_len new.nodes ≡ vec_len old.nodes
      → AreFiled eq scatter new (taken_out eq scatter chains key)
  taken_by old new chains key filed found gone node s there stands firsts buckets goes places = by_case s.back refl
    where
      no_first : None ≡ Some gone → ⊥
      no_first e = cc

      some_same : {a b : ℕ} → Some a ≡ Some b → a ≡ b
      some_same e = cc

      some_node : {a b : Node K} → Some a ≡ Some b → a ≡ b
      some_node e = cc

      by_case : (back : List (K × ℕ)) → s.back ≡ back → AreFiled eq scatter new (taken_out eq scatter chains key)
      by_case [] is = absurd (no_first (sym (s.place ∙ ap first_place is) ∙ there))
      by_case (p ∷ back) is =
          let at_p : p.1 ≡ gone = some_same (sym (s.place ∙ ap first_place is) ∙ there) in
          let whole = s.is ∙ ap (λ l. s.front ++ l) is in
          let mine = (strung_back (node_at old.nodes.items) s.front (p ∷ back) (subst (AreStrung (node_at old.nodes.items)) whole (filed.strung (bucket_of eq scatter chains key)))).0 in
          let node_is = some_node (sym stands ∙ ap (node_at old.nodes.items) (sym at_p) ∙ mine) in
          filed_taken old new chains key filed found.before node.next s.front back p whole s.passed (subst (IsHit eq key) is s.hit) s.before (ap (λ (n : Node K). n.next) node_is) firsts buckets (subst (λ x. Goes (node_at old.nodes.items) (node_at new.nodes.items) x node.next found.before) (sym at_p) goes) places

  -- at the place that was found stands a node
  pub sought_stands : (table : Buckets K) (chains : List (List (K × ℕ))) (bucket : ℕ) (key : K) → AreFiled eq scatter table chains → (found : Found) (place : ℕ) → IsSought eq (in_bucket chains bucket) key found → found.place ≡ Some place → node_at table.nodes.items place ≡ None → ⊥
  sought_stands table chains bucket key filed found place s there none = by_case s.back refl
    where
      no_first : None ≡ Some place → ⊥
      no_first e = cc

      some_same : {a b : ℕ} → Some a ≡ Some b → a ≡ b
      some_same e = cc

      no_node : (n : Node K) → Some n ≡ None → ⊥
      no_node n e = cc

      by_case : (back : List (K × ℕ)) → s.back ≡ back → ⊥
      by_case [] is = no_first (sym (s.place ∙ ap first_place is) ∙ there)
      by_case (p ∷ back) is =
          let at_p : p.1 ≡ place = some_same (sym (s.place ∙ ap first_place is) ∙ there) in
          let mine = (strung_back (node_at table.nodes.items) s.front (p ∷ back) (subst (AreStrung (node_at table.nodes.items)) (s.is ∙ ap (λ l. s.front ++ l) is) (filed.strung bucket))).0 in
          no_node _ (sym mine ∙ ap (node_at table.nodes.items) at_p ∙ none)
