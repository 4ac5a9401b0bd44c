-- What a table has at a place after another one was written.
use Rattle.std.proofs.Common.{◌≡◌, ℕ, ◌<◌, ◌+◌, true, false, cond, List, [], ◌∷◌, ◌++◌, length, Option, None, IsSome, nat_eq, eqb-true, refl, sym, ap, ◌∙◌, inl, inr, arith}
use Rattle.std.specs.Prelude.{slice_set}
use Rattle.std.proofs.lemmas.Bool.{cases_eq, cases_lt, false≢true}
use Rattle.std.proofs.lemmas.List.{get_or_append_left, get_or_push, length_push, get_or-set_same, get_or-set_other, get_or_past}
use Rattle.std.specs.Cmp.{nat_eq_equiv}
use Rattle.lru_index.specs.Chain.{link_at}
use Rattle.lru_index.specs.declared.chain.Link.{Link}

module _ {T : Type 0} where
  -- one place has another link now
  pub set_at : (links : List (Option (Link T))) (place : ℕ) (link : Option (Link T)) → place < length links → (other : ℕ) → link_at (slice_set links place link) other ≡ cond (nat_eq place other) link (link_at links other)
  set_at links place link within other = (elim (nat_eq place other) as (λ y. nat_eq place other ≡ y → link_at (slice_set links place link) other ≡ cond y link (link_at links other)) [
    | true ↦ λ t. ap (link_at (slice_set links place link)) (sym (eqb-true place other t)) ∙ get_or-set_same links place link None within
    | false ↦ λ t. get_or-set_other links place other link None (λ e. false≢true (sym t ∙ ap (nat_eq place) e ∙ nat_eq_equiv.refl place))
  ]) refl

  pub within_table : (links : List (Option (Link T))) (place : ℕ) → IsSome (link_at links place) → place < length links
  within_table links place used = grind (arith, get_or_past)

  -- a place more, at which nothing is
  pub none_more : (links : List (Option (Link T))) (place : ℕ) → link_at (links ++ None ∷ []) place ≡ link_at links place
  none_more links place = elim (cases_lt place (length links)) [
    | inl lt ↦ get_or_append_left links (None ∷ []) None place lt
    | inr le ↦ (elim (cases_eq place (length links)) [
      | inl e ↦ get_or_push links None None place (sym e)
      | inr d ↦ get_or_past (links ++ None ∷ []) place None (let long = length_push links None in omega (arith, le, d, long))
    ]) ∙ sym (get_or_past links place None le)
  ]
