-- A chain after an item was put at its warm end, and after one was taken out.
use Rattle.std.proofs.Common.{◌≡◌, ℕ, true, false, cond, List, [], ◌∷◌, ◌++◌, Option, Some, None, nat_eq, refl, sym, ap, ◌∙◌, subst}
use Rattle.std.specs.Option.{option_map, option_and_then}
use Rattle.std.specs.List.{IsDistinct}
use Rattle.std.specs.Map.{keys_of, lookup, remove_entry}
use Rattle.std.specs.Cmp.{nat_eq_equiv}
use Rattle.std.proofs.lemmas.Map.{lookup-remove_entry}
use Rattle.lru_index.specs.Chain.{IsChain, link_at, item_at, first_item, last_item, link_of, with_warmer, with_colder, end_after, first_or, last_or, AreLinked}
use Rattle.lru_index.specs.Order.{warmer, first_key}
use Rattle.lru_index.specs.declared.chain.Link.{Link}
use Rattle.lru_index.specs.declared.chain.Chain.{Chain}
use Rattle.lru_index.proofs.Links.{IsChanged, linked_put, linked_removed, link_back, still_none, cold_end, warm_end, first_or-append, last_or-append, found_with, slots, nexts, items_first, items_last, items_next, first_is}
use Rattle.lru_index.proofs.Pairs.{distinct_removed, distinct_put, found_put}

-- a table with nothing at any place, and no ends
pub chain_empty : {T : Type 0} (chain : Chain T) → ((place : ℕ) → link_at chain.links.items place ≡ None) → chain.coldest ≡ None → chain.warmest ≡ None → IsChain chain []
unfolding IsDistinct
chain_empty chain none cold warm = record { linked = tt; coldest = cold; warmest = warm; distinct = tt; others = λ q e. none q }

module _ {T : Type 0} where
  pub chain_put : (old new : Chain T) (at1 : ℕ → Option (Link T)) (k : ℕ) (s : T) (ps : List (ℕ × T)) → IsChain old ps → lookup (nat_eq k) ps ≡ None
      → IsChanged (with_warmer (Some k)) old.warmest (link_at old.links.items) at1
      → ((q : ℕ) → link_at new.links.items q ≡ cond (nat_eq k q) (Some (link_of s old.warmest None)) (at1 q))
      → new.coldest ≡ end_after old.warmest (Some k) old.coldest → new.warmest ≡ Some k
      → IsChain new (ps ++ (k, s) ∷ [])
  chain_put old new at1 k s ps h n h1 h2 cold warm =
      let at = link_at old.links.items in
      let now = link_at new.links.items in
      let g1 = subst (λ o. IsChanged (with_warmer (Some k)) o at at1) h.warmest h1 in
      let g2 = subst (λ o. (q : ℕ) → now q ≡ cond (nat_eq k q) (Some (link_of s o None)) (at1 q)) h.warmest h2 in
      record {
        linked = linked_put at at1 now k s ps h.distinct n h.linked g1 g2;
        coldest = cold ∙ ap (λ o. end_after o (Some k) old.coldest) h.warmest ∙ ap (end_after (last_or None ps) (Some k)) h.coldest ∙ cold_end ps (Some k) None ∙ sym (first_or-append None ps ((k, s) ∷ []));
        warmest = warm ∙ sym (last_or-append None ps ((k, s) ∷ []));
        distinct = distinct_put nat_eq_equiv ps k s n h.distinct;
        others = λ q e.
            let split = sym (found_put nat_eq_equiv ps k s n q) ∙ e in
            h2 q ∙ (elim (nat_eq k q) as (λ y. cond y (Some s) (lookup (nat_eq q) ps) ≡ None → cond y (Some (link_of s old.warmest None)) (at1 q) ≡ None) [
              | true ↦ λ f. cc
              | false ↦ λ f. still_none (with_warmer (Some k)) old.warmest at at1 h1 q (h.others q f)
            ]) split;
      }

  -- what a table has at a place: its item, and the first place that is warmer
  pub chain_item : (chain : Chain T) (ps : List (ℕ × T)) → IsChain chain ps → (q : ℕ) → lookup (nat_eq q) ps ≡ option_map (λ u. u.item) (link_at chain.links.items q)
  chain_item chain ps h q = slots (link_at chain.links.items) None None ps q h.linked (h.others q)

  pub chain_next : (chain : Chain T) (ps : List (ℕ × T)) → IsChain chain ps → (q : ℕ) → option_and_then (λ u. u.warmer) (link_at chain.links.items q) ≡ first_key (warmer (nat_eq q) ps)
  chain_next chain ps h q = nexts (link_at chain.links.items) None ps q h.linked (h.others q)

  -- the coldest item, and the first that is warmer than one
  pub chain_coldest : (chain : Chain T) (ps : List (ℕ × T)) → IsChain chain ps → option_and_then (item_at chain.links.items) chain.coldest ≡ first_item ps
  chain_coldest chain ps h = ap (option_and_then (item_at chain.links.items)) (h.coldest ∙ first_is ps) ∙ items_first chain.links.items None ps h.linked

  pub chain_warmest : (chain : Chain T) (ps : List (ℕ × T)) → IsChain chain ps → option_and_then (item_at chain.links.items) chain.warmest ≡ last_item None ps
  chain_warmest chain ps h = ap (option_and_then (item_at chain.links.items)) h.warmest ∙ items_last chain.links.items None None ps h.linked

  pub chain_warmer : (chain : Chain T) (ps : List (ℕ × T)) → IsChain chain ps → (q : ℕ) → option_and_then (item_at chain.links.items) (option_and_then (λ u. u.warmer) (link_at chain.links.items q)) ≡ first_item (warmer (nat_eq q) ps)
  chain_warmer chain ps h q = ap (option_and_then (item_at chain.links.items)) (chain_next chain ps h q) ∙ items_next chain.links.items None ps q h.linked

  pub chain_removed : (old new : Chain T) (at1 at2 : ℕ → Option (Link T)) (k : ℕ) (u : Link T) (ps : List (ℕ × T)) → IsChain old ps → lookup (nat_eq k) ps ≡ Some u.item → link_at old.links.items k ≡ Some u
      → ((q : ℕ) → at1 q ≡ cond (nat_eq k q) None (link_at old.links.items q))
      → IsChanged (with_warmer u.warmer) u.colder at1 at2
      → IsChanged (with_colder u.colder) u.warmer at2 (link_at new.links.items)
      → new.coldest ≡ end_after u.colder u.warmer old.coldest → new.warmest ≡ end_after u.warmer u.colder old.warmest
      → IsChain new (remove_entry (nat_eq k) ps)
  chain_removed old new at1 at2 k u ps h found there h1 h2 h3 cold warm =
      let at = link_at old.links.items in
      let now = link_at new.links.items in
      let w = found_with k u.item ps found in
      let linked = subst (λ l. AreLinked at None l None) w.is h.linked in
      let middle = (link_back at None None w.front ((k, u.item) ∷ w.back) linked).0 in
      let colder : u.colder ≡ last_or None w.front = let both : Some u ≡ Some (link_of u.item (last_or None w.front) (first_or None w.back)) = sym there ∙ middle in cc in
      let warmer : u.warmer ≡ first_or None w.back = let both : Some u ≡ Some (link_of u.item (last_or None w.front) (first_or None w.back)) = sym there ∙ middle in cc in
      let g2 = subst (λ o. IsChanged (with_warmer o) (last_or None w.front) at1 at2) warmer (subst (λ o. IsChanged (with_warmer u.warmer) o at1 at2) colder h2) in
      let g3 = subst (λ o. IsChanged (with_colder o) (first_or None w.back) at2 now) colder (subst (λ o. IsChanged (with_colder u.colder) o at2 now) warmer h3) in
      let distinct = subst (λ l. IsDistinct nat_eq (keys_of l)) w.is h.distinct in
      let left = linked_removed at at1 at2 now w.front (k, u.item) w.back distinct linked h1 g2 g3 in
      record {
        linked = subst (λ l. AreLinked now None l None) (sym w.without) left;
        coldest = cold ∙ ap (λ o. end_after o u.warmer old.coldest) colder ∙ ap (λ o. end_after (last_or None w.front) o old.coldest) warmer ∙ ap (end_after (last_or None w.front) (first_or None w.back)) (h.coldest ∙ ap (first_or None) w.is ∙ first_or-append None w.front ((k, u.item) ∷ w.back)) ∙ cold_end w.front (first_or None w.back) (Some k) ∙ sym (first_or-append None w.front w.back) ∙ ap (first_or None) (sym w.without);
        warmest = warm ∙ ap (λ o. end_after o u.colder old.warmest) warmer ∙ ap (λ o. end_after (first_or None w.back) o old.warmest) colder ∙ ap (end_after (first_or None w.back) (last_or None w.front)) (h.warmest ∙ ap (last_or None) w.is ∙ last_or-append None w.front ((k, u.item) ∷ w.back)) ∙ warm_end w.back (last_or None w.front) (Some k) ∙ sym (last_or-append None w.front w.back) ∙ ap (last_or None) (sym w.without);
        distinct = distinct_removed (nat_eq k) nat_eq ps h.distinct;
        others = λ q e.
            let split = sym (lookup-remove_entry nat_eq_equiv (nat_eq k) (λ x y t. nat_eq_equiv.congr k x y t) q ps h.distinct) ∙ e in
            let gone = h1 q ∙ (elim (nat_eq k q) as (λ y. cond y None (lookup (nat_eq q) ps) ≡ None → cond y None (at q) ≡ None) [
              | true ↦ λ f. refl
              | false ↦ λ f. h.others q f
            ]) split in
            still_none (with_colder u.colder) u.warmer at2 now h3 q (still_none (with_warmer u.warmer) u.colder at1 at2 h2 q gone);
      }

  still_linked : (at now : ℕ → Option (Link T)) (before : Option ℕ) (ps : List (ℕ × T)) (after : Option ℕ) → ((place : ℕ) → now place ≡ at place) → AreLinked at before ps after → AreLinked now before ps after
  still_linked at now before [] after same l = l
  still_linked at now before (p ∷ ps) after same l = (same p.0 ∙ l.0, still_linked at now (Some p.0) ps after same l.1)

  -- a chain whose table has the same at each place
  pub chain_same : (old new : Chain T) (ps : List (ℕ × T)) → ((place : ℕ) → link_at new.links.items place ≡ link_at old.links.items place) → new.coldest ≡ old.coldest → new.warmest ≡ old.warmest → IsChain old ps → IsChain new ps
  chain_same old new ps same cold warm h = record {
    linked = still_linked (link_at old.links.items) (link_at new.links.items) None ps None same h.linked;
    coldest = cold ∙ h.coldest;
    warmest = warm ∙ h.warmest;
    distinct = h.distinct;
    others = λ q e. same q ∙ h.others q e;
  }
