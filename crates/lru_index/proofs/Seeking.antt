-- Going along the keys of a bucket.
use Rattle.std.proofs.Common.{◌≡◌, ℕ, ◌+◌, ◌≤◌, Bool, true, false, List, [], ◌∷◌, ◌++◌, length, get_or, Option, Some, None, vec_len, refl, sym, ap, ◌∙◌, subst, inl, inr, arith, append_assoc}
use Rattle.std.specs.List.{AllByRecursion}
use Rattle.std.specs.Map.{keys_of}
use Rattle.std.specs.Cmp.{IsEquivalence}
use Rattle.std.proofs.lemmas.Bool.{cases_lt}
use Rattle.std.proofs.lemmas.List.{get_or_past}
use Rattle.std.proofs.lemmas.List.Sums.{sum_by-set}
use Rattle.lru_index.specs.Buckets.{AreFiled, AreStrung, IsHit, IsSought, all_keys, first_place, in_bucket, last_place, node_at}
use Rattle.lru_index.proofs.Strung.{strung_back}
use Rattle.lru_index.specs.declared.buckets.Node.{Node}
use Rattle.lru_index.specs.declared.buckets.Buckets.{Buckets}

-- The key isn't in the front of what a bucket has, and what is left behind it begins at a place.
pub record IsPassing {K : Type 0} (eq : K → K → Bool) (chain : List (K × ℕ)) (key : K) (last start : Option ℕ) (most counter : ℕ) : Type 0 where
  pub front : List (K × ℕ)
  pub back : List (K × ℕ)
  pub is : chain ≡ front ++ back
  pub passed : AllByRecursion (λ other. eq key other ≡ false) (keys_of front)
  pub before : last ≡ last_place None front
  pub at : start ≡ first_place back
  pub fits : length back + counter ≤ most

-- A call has gone so far along a bucket, whatever the table stands for.
abbrev pub Passes : {K : Type 0} → (K → K → Bool) → (K → ℕ) → Buckets K → ℕ → K → Option ℕ → Option ℕ → ℕ → Type 0
Passes {K} eq scatter table bucket key last start counter = (chains : List (List (K × ℕ))) → AreFiled eq scatter table chains → IsPassing eq (in_bucket chains bucket) key last start (vec_len table.nodes) counter

module _ {K : Type 0} where
  keys_push : (P : K → Type 0) (front : List (K × ℕ)) (p : K × ℕ) → AllByRecursion P (keys_of front) → P p.0 → AllByRecursion P (keys_of (front ++ p ∷ []))
  keys_push P [] p a h = (h, tt)
  keys_push P (f ∷ front) p a h = (a.0, keys_push P front p a.1 h)

  last_push : (before : Option ℕ) (front : List (K × ℕ)) (p : K × ℕ) → last_place before (front ++ p ∷ []) ≡ Some p.1
  last_push before [] p = refl
  last_push before (f ∷ front) p = last_push (Some f.1) front p

  -- no bucket has more keys than all have
  bucket_few : (chains : List (List (K × ℕ))) (b : ℕ) → length (in_bucket chains b) ≤ all_keys chains
  bucket_few chains b = elim (cases_lt b (length chains)) [
    | inl lt ↦ omega (arith, sum_by-set length chains b [] [] lt)
    | inr le ↦ let none : length (in_bucket chains b) ≡ 0 = ap length (get_or_past chains b [] le) in omega (arith, none)
  ]

module _ {K : Type 0} {eq : K → K → Bool} (laws : IsEquivalence eq) (scatter : K → ℕ) (table : Buckets K) (chains : List (List (K × ℕ))) (bucket : ℕ) (key : K) (filed : AreFiled eq scatter table chains) where
  abbrev chain : List (K × ℕ)
  chain = in_bucket chains bucket

  pub passing_start : (at : Option ℕ) → at ≡ get_or table.firsts.items bucket None → IsPassing eq chain key None at (vec_len table.nodes) 0
  passing_start at is = record {
    front = [];
    back = chain;
    is = refl;
    passed = tt;
    before = refl;
    at = is ∙ filed.firsts bucket;
    fits = omega (arith, bucket_few chains bucket, filed.few);
  }

  -- what stands at the place at which what is left begins
  record Here (back : List (K × ℕ)) (place : ℕ) (node : Node K) : Type 0 where
    pub rest : List (K × ℕ)
    pub is : back ≡ (node.key, place) ∷ rest
    pub next : node.next ≡ first_place rest

  here : (front back : List (K × ℕ)) (place : ℕ) (node : Node K) → chain ≡ front ++ back → first_place back ≡ Some place → node_at table.nodes.items place ≡ Some node → Here back place node
  here front [] place node is first there = absurd (no_first first)
    where
      no_first : None ≡ Some place → ⊥
      no_first e = cc
  here front (p ∷ back) place node is first there =
      let at : p.1 ≡ place = some_same first in
      let stands = (strung_back (node_at table.nodes.items) front (p ∷ back) (subst (AreStrung (node_at table.nodes.items)) is (filed.strung bucket))).0 in
      let node_is = some_node (sym there ∙ ap (node_at table.nodes.items) (sym at) ∙ stands) in
      record {
        rest = back;
        is = λ i. (sym (ap (λ (n : Node K). n.key) node_is) i, at i) ∷ back;
        next = ap (λ (n : Node K). n.next) node_is;
      }
    where
      some_same : {a b : ℕ} → Some a ≡ Some b → a ≡ b
      some_same e = cc

      some_node : {a b : Node K} → Some a ≡ Some b → a ≡ b
      some_node e = cc

  -- one key more that it isn't
  pub passing_step : (before at : Option ℕ) (place counter : ℕ) (node : Node K) → IsPassing eq chain key before at (vec_len table.nodes) counter → at ≡ Some place → node_at table.nodes.items place ≡ Some node → eq node.key key ≡ false → IsPassing eq chain key (Some place) node.next (vec_len table.nodes) (counter + 1)
  passing_step before at place counter node p is there other =
      let h = here p.front p.back place node p.is (sym p.at ∙ is) there in
      let long : length p.back ≡ length h.rest + 1 = ap length h.is ∙ omega arith in
      record {
        front = p.front ++ (node.key, place) ∷ [];
        back = h.rest;
        is = p.is ∙ ap (λ l. p.front ++ l) h.is ∙ sym (append_assoc p.front ((node.key, place) ∷ []) h.rest);
        passed = keys_push (λ k. eq key k ≡ false) p.front (node.key, place) p.passed (laws.symm key node.key ∙ other);
        before = sym (last_push None p.front (node.key, place));
        at = h.next;
        fits = omega (arith, p.fits, long);
      }

  -- it is there
  pub sought_hit : (before at : Option ℕ) (place counter : ℕ) (node : Node K) → IsPassing eq chain key before at (vec_len table.nodes) counter → at ≡ Some place → node_at table.nodes.items place ≡ Some node → eq node.key key ≡ true → IsSought eq chain key (record { before = before; place = Some place })
  sought_hit before at place counter node p is there same =
      let h = here p.front p.back place node p.is (sym p.at ∙ is) there in
      record {
        front = p.front;
        back = p.back;
        is = p.is;
        passed = p.passed;
        before = p.before;
        place = sym is ∙ p.at;
        hit = subst (IsHit eq key) (sym h.is) (laws.symm key node.key ∙ same);
      }

  -- a place at which nothing stands is not where what is left begins
  pub stands_there : (before at : Option ℕ) (place counter : ℕ) → IsPassing eq chain key before at (vec_len table.nodes) counter → at ≡ Some place → node_at table.nodes.items place ≡ None → ⊥
  stands_there before at place counter p is none = by_case p.back refl
    where
      no_node : (n : Node K) → Some n ≡ None → ⊥
      no_node n e = cc

      no_place : {a : ℕ} → None ≡ Some a → ⊥
      no_place e = cc

      some_same : {a b : ℕ} → Some a ≡ Some b → a ≡ b
      some_same e = cc

      by_case : (back : List (K × ℕ)) → p.back ≡ back → ⊥
      by_case [] left = no_place (sym (ap first_place left) ∙ sym p.at ∙ is)
      by_case (q ∷ qs) left =
          let at_q : q.1 ≡ place = some_same (sym (ap first_place left) ∙ sym p.at ∙ is) in
          let stands = (strung_back (node_at table.nodes.items) p.front (q ∷ qs) (subst (AreStrung (node_at table.nodes.items)) (p.is ∙ ap (λ l. p.front ++ l) left) (filed.strung bucket))).0 in
          no_node _ (sym stands ∙ ap (node_at table.nodes.items) at_q ∙ none)
