-- When a chain stands for items at places, the coldest first.
use Rattle.std.specs.Prelude.{◌≡◌, ℕ, zero, suc, Bool, false, List, [], ◌∷◌, Option, Some, None, nat_eq, slice_index_or}
use Rattle.std.specs.Option.{option_map, option_map_or}
use Rattle.std.specs.List.{IsDistinct}
use Rattle.std.specs.Map.{keys_of, lookup}
use Rattle.lru_index.specs.declared.chain.Link.{Link}
use Rattle.lru_index.specs.declared.chain.Chain.{Chain}

-- whether a place is the one that is given
abbrev pub hits : Option ℕ → ℕ → Bool
hits None other = false
hits (Some place) other = nat_eq place other

-- an end of the chain, after the link of a place, or of no place, was set
abbrev pub end_after : Option ℕ → Option ℕ → Option ℕ → Option ℕ
end_after None to end = to
end_after (Some place) to end = end

module _ {T : Type 0} where
  abbrev pub link_of : T → Option ℕ → Option ℕ → Link T
  link_of item colder warmer = record { item = item; colder = colder; warmer = warmer }

  abbrev pub with_warmer : Option ℕ → Link T → Link T
  with_warmer warmer link = link_of link.item link.colder warmer

  abbrev pub with_colder : Option ℕ → Link T → Link T
  with_colder colder link = link_of link.item colder link.warmer

  -- what a table has at a place
  abbrev pub link_at : List (Option (Link T)) → ℕ → Option (Link T)
  link_at links place = slice_index_or links place None

  -- the item that a table has at a place
  abbrev pub item_at : List (Option (Link T)) → ℕ → Option T
  item_at links place = option_map (λ link. link.item) (link_at links place)

  -- the first of items
  abbrev pub first_item : List (ℕ × T) → Option T
  first_item [] = None
  first_item (p ∷ ps) = Some p.1

  -- the last of items, or what comes before them
  abbrev pub last_item : Option T → List (ℕ × T) → Option T
  last_item before [] = before
  last_item before (p ∷ ps) = last_item (Some p.1) ps

  -- the first place of items, or what comes after them
  abbrev pub first_or : Option ℕ → List (ℕ × T) → Option ℕ
  first_or after [] = after
  first_or after (p ∷ ps) = Some p.0

  -- the last place of items, or what comes before them
  abbrev pub last_or : Option ℕ → List (ℕ × T) → Option ℕ
  last_or before [] = before
  last_or before (p ∷ ps) = last_or (Some p.0) ps

  -- Each place has its item and its neighbours, of which the outer ones are given.
  abbrev pub AreLinked : (ℕ → Option (Link T)) → Option ℕ → List (ℕ × T) → Option ℕ → Type 0
  AreLinked kept before [] after = Unit {0}
  AreLinked kept before (p ∷ ps) after = (kept p.0 ≡ Some (link_of p.1 before (first_or after ps))) × AreLinked kept (Some p.0) ps after

  -- The items are linked from end to end, no two at one place, and no other place is in use.
  pub record IsChain (chain : Chain T) (items : List (ℕ × T)) : Type 0 where
    pub linked : AreLinked (link_at chain.links.items) None items None
    pub coldest : chain.coldest ≡ first_or None items
    pub warmest : chain.warmest ≡ last_or None items
    pub distinct : IsDistinct nat_eq (keys_of items)
    pub others : (place : ℕ) → lookup (nat_eq place) items ≡ None → link_at chain.links.items place ≡ None

  -- the items from a place on, along the links to warmer ones, and no more than so many
  abbrev pub walk : (ℕ → Option (Link T)) → ℕ → Option ℕ → List (ℕ × T)
  walk kept zero from = []
  walk kept (suc n) from = option_map_or (λ place. option_map_or (λ link. (place, link.item) ∷ walk kept n link.warmer) (kept place) []) from []

  -- the items of a chain that has no more than so many
  abbrev pub items_of : Chain T → ℕ → List (ℕ × T)
  items_of chain most = walk (link_at chain.links.items) most chain.coldest
