-- Keys of a bucket as they stand in a table: what they are after another place was written, and after one of them went.
use Rattle.std.proofs.Common.{◌≡◌, ℕ, Bool, true, false, cond, List, [], ◌∷◌, ◌++◌, Option, Some, None, nat_eq, eqb-true, refl, sym, ap, ◌∙◌, subst}
use Rattle.std.specs.Option.{option_map}
use Rattle.std.specs.List.{AllByRecursion, IsDistinct}
use Rattle.std.specs.Map.{keys_of}
use Rattle.std.specs.Cmp.{IsEquivalence, nat_eq_equiv}
use Rattle.std.proofs.lemmas.Map.Keys.{IsDistinct-head, IsDistinct-tail}
use Rattle.lru_index.specs.Chain.{hits}
use Rattle.lru_index.specs.Buckets.{AreStrung, first_place, last_place, with_next}
use Rattle.lru_index.specs.declared.buckets.Node.{Node}

module _ {K : Type 0} where
  abbrev node_of : K → Option ℕ → Node K
  node_of key next = record { key = key; next = next }

  -- each key stands at its place, and is one of these
  abbrev pub StandAt : (ℕ → Option (Node K)) → (K → Type 0) → List (K × ℕ) → Type 0
  StandAt at P ps = AllByRecursion (λ p. (node : Node K) × (at p.1 ≡ Some node) × P node.key) ps

  pub stand : (at : ℕ → Option (Node K)) (P : K → Type 0) (ps : List (K × ℕ)) → AreStrung at ps → AllByRecursion P (keys_of ps) → StandAt at P ps
  stand at P [] s a = tt
  stand at P (p ∷ ps) s a = ((node_of p.0 (first_place ps), s.0, a.0), stand at P ps s.1 a.1)

  -- where two places have keys of two kinds, they are two places
  pub places_differ : (at : ℕ → Option (Node K)) (P : K → Type 0) (x y : ℕ) (one other : Node K) → at x ≡ Some one → at y ≡ Some other → (P other.key → ⊥) → P one.key → nat_eq x y ≡ false
  places_differ at P x y one other there here unlike fits = (elim (nat_eq x y) as (λ b. nat_eq x y ≡ b → b ≡ false) [
    | true ↦ λ e.
        let same : one ≡ other = some_same (sym there ∙ ap at (eqb-true x y e) ∙ here) in
        absurd (unlike (subst (λ n. P n.key) same fits))
    | false ↦ λ e. refl
  ]) refl
    where
      some_same : {a b : Node K} → Some a ≡ Some b → a ≡ b
      some_same e = cc

  -- a place at which nothing stands is none of theirs
  pub free_apart : (at : ℕ → Option (Node K)) (place : ℕ) (ps : List (K × ℕ)) → at place ≡ None → AreStrung at ps → AllByRecursion (λ p. nat_eq place p.1 ≡ false) ps
  free_apart at place [] none s = tt
  free_apart at place (p ∷ ps) none s = (
    (elim (nat_eq place p.1) as (λ b. nat_eq place p.1 ≡ b → b ≡ false) [
      | true ↦ λ e. let both = sym (ap at (eqb-true place p.1 e)) ∙ none in absurd (no_node p.0 (first_place ps) (sym s.0 ∙ both))
      | false ↦ λ e. refl
    ]) refl,
    free_apart at place ps none s.1,
  )
    where
      no_node : (key : K) (next : Option ℕ) → Some (node_of key next) ≡ None → ⊥
      no_node key next e = cc

  -- where their places are as before they stand as before
  pub strung_frame : (at now : ℕ → Option (Node K)) (ps : List (K × ℕ)) → AllByRecursion (λ p. now p.1 ≡ at p.1) ps → AreStrung at ps → AreStrung now ps
  strung_frame at now [] a s = tt
  strung_frame at now (p ∷ ps) a s = (a.0 ∙ s.0, strung_frame at now ps a.1 s.1)

  -- what comes behind some of them stands too
  pub strung_back : (at : ℕ → Option (Node K)) (front back : List (K × ℕ)) → AreStrung at (front ++ back) → AreStrung at back
  strung_back at [] back s = s
  strung_back at (f ∷ front) back s = strung_back at front back s.1

  pub all_of : (P Q : K × ℕ → Type 0) → ((p : K × ℕ) → P p → Q p) → (ps : List (K × ℕ)) → AllByRecursion P ps → AllByRecursion Q ps
  all_of P Q f [] a = tt
  all_of P Q f (p ∷ ps) a = (f p a.0, all_of P Q f ps a.1)

  -- a place is written that is none of theirs
  pub strung_put : (at now : ℕ → Option (Node K)) (place : ℕ) (node : Option (Node K)) (ps : List (K × ℕ)) → ((q : ℕ) → now q ≡ cond (nat_eq place q) node (at q)) → AllByRecursion (λ p. nat_eq place p.1 ≡ false) ps → AreStrung at ps → AreStrung now ps
  strung_put at now place node ps writes apart s =
      strung_frame at now ps (all_of _ (λ p. now p.1 ≡ at p.1) (λ p e. writes p.1 ∙ ap (λ b. cond b node (at p.1)) e) ps apart) s

  -- the place before some keys is not one that is none of theirs
  pub last_apart : (place : ℕ) (before : Option ℕ) (ps : List (K × ℕ)) → hits before place ≡ false → AllByRecursion (λ p. nat_eq p.1 place ≡ false) ps → hits (last_place before ps) place ≡ false
  last_apart place before [] h a = h
  last_apart place before (p ∷ ps) h a = last_apart place (Some p.1) ps a.0 a.1

  -- no two of them stand at one place
  abbrev pub PlacesApart : List (K × ℕ) → Type 0
  PlacesApart [] = Unit {0}
  PlacesApart (p ∷ ps) = AllByRecursion (λ q. nat_eq p.1 q.1 ≡ false) ps × PlacesApart ps

  -- What is changed when the key of a place goes: what comes before it leads to what comes behind it.
  module _ (at now : ℕ → Option (Node K)) (gone : ℕ) (next : Option ℕ) where
    abbrev pub Goes : Option ℕ → Type 0
    Goes before = (q : ℕ) → now q ≡ cond (nat_eq gone q) None (cond (hits before q) (option_map (with_next next) (at q)) (at q))

    -- a place that is neither is as before
    pub goes_beside : (before : Option ℕ) → Goes before → (q : ℕ) → nat_eq gone q ≡ false → hits before q ≡ false → now q ≡ at q
    goes_beside before goes q apart beside = goes q ∙ ap (λ b. cond b None (cond (hits before q) (option_map (with_next next) (at q)) (at q))) apart ∙ ap (λ b. cond b (option_map (with_next next) (at q)) (at q)) beside

    behind : (before : Option ℕ) (ps : List (K × ℕ)) → Goes before → AllByRecursion (λ p. nat_eq gone p.1 ≡ false) ps → AllByRecursion (λ p. hits before p.1 ≡ false) ps → AreStrung at ps → AreStrung now ps
    behind before [] goes a b s = tt
    behind before (p ∷ ps) goes a b s = (goes_beside before goes p.1 a.0 b.0 ∙ s.0, behind before ps goes a.1 b.1 s.1)

    first_behind : (front : List (K × ℕ)) (p : K × ℕ) (back : List (K × ℕ)) (before : Option ℕ) → p.1 ≡ gone → next ≡ first_place back → Goes (last_place before front)
        → AllByRecursion (λ q. hits before q.1 ≡ false) (front ++ p ∷ back) → PlacesApart (front ++ p ∷ back) → AreStrung at (front ++ p ∷ back) → AreStrung now (front ++ back)
    first_behind [] p back before is leads goes beside apart s =
        behind before back goes (subst (λ x. AllByRecursion (λ q. nat_eq x q.1 ≡ false) back) is apart.0) beside.1 s.1
    first_behind (f ∷ []) p back before is leads goes beside apart s =
        let away : nat_eq gone f.1 ≡ false = subst (λ x. nat_eq x f.1 ≡ false) is (nat_eq_equiv.symm p.1 f.1 ∙ apart.0.0) in
        let here = goes f.1 ∙ ap (λ b. cond b None (cond (nat_eq f.1 f.1) (option_map (with_next next) (at f.1)) (at f.1))) away ∙ ap (λ b. cond b (option_map (with_next next) (at f.1)) (at f.1)) (nat_eq_equiv.refl f.1) ∙ ap (option_map (with_next next)) s.0 in (
          here ∙ ap (λ n. Some (node_of f.0 n)) leads,
          behind (Some f.1) back goes (subst (λ x. AllByRecursion (λ q. nat_eq x q.1 ≡ false) back) is apart.1.0) apart.0.1 s.1.1,
        )
    first_behind (f ∷ (g ∷ front)) p back before is leads goes beside apart s =
        let away : nat_eq gone f.1 ≡ false = subst (λ x. nat_eq x f.1 ≡ false) is (nat_eq_equiv.symm p.1 f.1 ∙ middle (g ∷ front) p back apart.0) in
        let first : hits (last_place (Some g.1) front) f.1 ≡ false = last_apart f.1 (Some g.1) front (nat_eq_equiv.symm g.1 f.1 ∙ apart.0.0) (all_of _ (λ q. nat_eq q.1 f.1 ≡ false) (λ q e. nat_eq_equiv.symm q.1 f.1 ∙ e) front (front_of front p back apart.0.1)) in (
          goes_beside (last_place (Some g.1) front) goes f.1 away first ∙ s.0,
          first_behind (g ∷ front) p back (Some f.1) is leads goes apart.0 apart.1 s.1,
        )
      where
        middle : (xs : List (K × ℕ)) (p : K × ℕ) (ys : List (K × ℕ)) → AllByRecursion (λ q. nat_eq f.1 q.1 ≡ false) (xs ++ p ∷ ys) → nat_eq f.1 p.1 ≡ false
        middle [] p ys a = a.0
        middle (x ∷ xs) p ys a = middle xs p ys a.1

        front_of : (xs : List (K × ℕ)) (p : K × ℕ) (ys : List (K × ℕ)) → AllByRecursion (λ q. nat_eq f.1 q.1 ≡ false) (xs ++ p ∷ ys) → AllByRecursion (λ q. nat_eq f.1 q.1 ≡ false) xs
        front_of [] p ys a = tt
        front_of (x ∷ xs) p ys a = (a.0, front_of xs p ys a.1)

    -- the keys without one, which stood behind the front
    pub strung_gone : (front : List (K × ℕ)) (p : K × ℕ) (back : List (K × ℕ)) → p.1 ≡ gone → next ≡ first_place back → Goes (last_place None front) → PlacesApart (front ++ p ∷ back) → AreStrung at (front ++ p ∷ back) → AreStrung now (front ++ back)
    strung_gone front p back is leads goes apart s = first_behind front p back None is leads goes (nowhere (front ++ p ∷ back)) apart s
      where
        nowhere : (ps : List (K × ℕ)) → AllByRecursion (λ q. false ≡ false) ps
        nowhere [] = tt
        nowhere (x ∷ ps) = (refl, nowhere ps)

module _ {K : Type 0} {eq : K → K → Bool} (laws : IsEquivalence eq) where
  key_apart : (at : ℕ → Option (Node K)) (key : K) (place : ℕ) (node : Node K) (ps : List (K × ℕ)) → at place ≡ Some node → node.key ≡ key → AllByRecursion (λ k. eq key k ≡ false) (keys_of ps) → AreStrung at ps → AllByRecursion (λ p. nat_eq place p.1 ≡ false) ps
  key_apart at key place node [] there is a s = tt
  key_apart at key place node (p ∷ ps) there is a s = (
    places_differ at (λ k. eq key k ≡ true) place p.1 node (node_of p.0 (first_place ps)) there s.0 (λ t. no_both (sym t ∙ a.0)) (subst (λ k. eq key k ≡ true) (sym is) (laws.refl key)),
    key_apart at key place node ps there is a.1 s.1,
  )
    where
      no_both : true ≡ false → ⊥
      no_both e = cc

  -- keys that are distinct stand at places apart
  pub places_apart : (at : ℕ → Option (Node K)) (ps : List (K × ℕ)) → IsDistinct eq (keys_of ps) → AreStrung at ps → PlacesApart ps
  places_apart at [] d s = tt
  places_apart at (p ∷ ps) d s = (
    key_apart at p.0 p.1 (node_of p.0 (first_place ps)) ps s.0 refl (IsDistinct-head eq p.0 (keys_of ps) d) s.1,
    places_apart at ps (IsDistinct-tail eq p.0 (keys_of ps) d) s.1,
  )
