-- The table of names goes on where names stay, where one is given, and where one is taken.
use Rattle.std.proofs.Common.{◌≡◌, ◌≢◌, ℕ, ◌<◌, List, length, Option, None, Some, is_some, sym, ap, ◌∙◌, inl, inr}
use Rattle.std.proofs.lemmas.Bool.{cases_eq}
use Rattle.std.proofs.lemmas.List.{get_or-set_other, get_or-set_same}
use Rattle.kheap_slabs.specs.Objects.{object, put, without}
use Rattle.kheap_slabs.proofs.ObjectLemmas.{InUse-within}
use Rattle.proc_files.specs.Names.{AreBound}

same_number : {a b : ℕ} → Some a ≡ Some b → a ≡ b
same_number e = cc

pub none_is : {a : ℕ} → None ≡ Some a → ⊥
none_is e = cc

module _ (name now : ℕ → Option ℕ) (names : List (Option ℕ)) (are : AreBound name names) where
  -- each key has the name that it had
  pub bound_on : ((key : ℕ) → now key ≡ name key) → AreBound now names
  bound_on same = record {
    bound = λ node key at. same key ∙ are.bound node key at;
    named = λ key node is. are.named key node (sym (same key) ∙ is);
  }

  module _ (key node : ℕ) (others : (other : ℕ) → other ≢ key → now other ≡ name other) where
    -- a key without a name gets one that nobody has
    pub bound_given : name key ≡ None → object names node ≡ None → node < length names → now key ≡ Some node → AreBound now (put names node key)
    bound_given unnamed free place is = record {
      bound = λ at who there. elim (cases_eq at node) [
        | inl same ↦ (
            let who_is : who ≡ key = same_number (sym there ∙ ap (object (put names node key)) same ∙ get_or-set_same names node (Some key) None place) in
            ap now who_is ∙ is ∙ ap Some (sym same)
            )
        | inr apart ↦ (
            let had = are.bound at who (sym (get_or-set_other names node at (Some key) None apart) ∙ there) in
            others who (λ same. none_is (sym unnamed ∙ ap name (sym same) ∙ had)) ∙ had
            )
      ];
      named = λ who at has. elim (cases_eq who key) [
        | inl same ↦ (
            let at_is : at ≡ node = same_number (sym has ∙ ap now same ∙ is) in
            ap (object (put names node key)) at_is ∙ get_or-set_same names node (Some key) None place ∙ ap Some (sym same)
            )
        | inr apart ↦ (
            let had = are.named who at (sym (others who apart) ∙ has) in
            get_or-set_other names node at (Some key) None (λ same. none_is (sym free ∙ ap (object names) (sym same) ∙ had)) ∙ had
            )
      ];
    }

    -- a key loses its name
    pub bound_taken : name key ≡ Some node → now key ≡ None → AreBound now (without names node)
    bound_taken named is = record {
      bound = λ at who there. elim (cases_eq at node) [
        | inl same ↦ absurd (none_is (sym here ∙ ap (object (without names node)) (sym same) ∙ there))
        | inr apart ↦ (
            let had = are.bound at who (sym (get_or-set_other names node at None None apart) ∙ there) in
            others who (λ same. apart (same_number (sym had ∙ ap name same ∙ named))) ∙ had
            )
      ];
      named = λ who at has. elim (cases_eq who key) [
        | inl same ↦ absurd (none_is (sym is ∙ ap now (sym same) ∙ has))
        | inr apart ↦ (
            let had = are.named who at (sym (others who apart) ∙ has) in
            get_or-set_other names node at None None (λ same. apart (same_number (sym had ∙ ap (object names) same ∙ are.named key node named))) ∙ had
            )
      ];
    }
      where
        here : object (without names node) node ≡ None
        here = get_or-set_same names node None None (InUse-within names node (ap is_some (are.named key node named)))
