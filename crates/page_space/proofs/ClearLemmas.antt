-- Pages of a space that are unmapped one after another, and the space that has none left.
use Rattle.std.proofs.Common.{◌≡◌, ◌≢◌, ℕ, zero, suc, ◌+◌, ◌-◌, ◌*◌, ◌/◌, ◌%◌, ◌<◌, ◌≤◌, List, [], ◌∷◌, ◌++◌, Option, None, Some, length, get_or, take, drop, replicate, count_by, refl, sym, ap, ◌∙◌, subst, inl, inr, ⊎_elim, arith}
use Rattle.std.specs.List.{Contains}
use Rattle.std.proofs.lemmas.List.{get_or_append_left, get_or-take, get_or-drop, get_or-append_right, get_or-replicate, length-replicate, length-take, length-append}
use Rattle.std.proofs.lemmas.List.Elements.{Contains-append_cases}
use Rattle.std.proofs.lemmas.Bool.{cases_lt, cases_eq}
use Rattle.posix_defs.specs.Memory.{Memory, with_range, page_at, without_pages, Unmapped, places_of, with_places, after_clear, after_unmap}
use Rattle.kheap_slabs.specs.Objects.{object}
use Rattle.kheap_slabs.specs.declared.objects.Node.{Node}
use Rattle.kheap_slabs.specs.declared.objects.PageEntry.{PageEntry}
use Rattle.kheap_slabs.specs.declared.objects.PageEntry.TheVariants as entry
use Rattle.kheap_slabs.specs.Heap.{Heap}
use Rattle.kheap_slabs.specs.Owners.{Owners, with_space, IsOwned}
use Rattle.kheap_slabs.specs.Paid.{TakesNothing}
use Rattle.kheap_slabs.specs.Spaces.{is_mapped, keys_in, OwnsNodes}
use Rattle.kheap_slabs.proofs.ObjectLemmas.{object_of}
use Rattle.kheap_laws.proofs.KeyPlaces.{key_placed}
use Rattle.kheap_laws.proofs.OwnerLemmas.{IsOwned-space, IsOwned-space_leaves}
use Rattle.kheap_laws.proofs.PaidLemmas.{TakesNothing-refl, TakesNothing-trans}
use Rattle.page_space.specs.Accounts.{turned_at, AccountFollows, AccountLeaves}
use Rattle.page_space.specs.Changes.{OwnChanges}
use Rattle.page_space.specs.Entries.{key_of, entry_at}
use Rattle.page_space.specs.Contents.{content_of, content_at, StandsFor, IsOwnedWith, SpaceMoves, IsCleared, SpaceLeaves}
use Rattle.page_space.proofs.AccountLemmas.{AccountFollows-unmapped, AccountFollows-unranged, AccountFollows-ranged}
use Rattle.page_space.proofs.ChangeLemmas.{OwnChanges-refl, OwnChanges-trans}
use Rattle.page_space.proofs.PlaceLemmas.{with_range-all, no_places_are}
use Rattle.page_space.proofs.TurnLemmas.{entry_known}
use Rattle.page_space.proofs.MoveLemmas.{SpaceMoves-refl, SpaceMoves-trans}

-- none is unmapped yet
pub IsCleared-none : (h : Heap) (space : List (Option ℕ)) (first : ℕ) → IsCleared h h space space first first
IsCleared-none h space first = record {
  moves = SpaceMoves-refl h space;
  gone = λ page from below. absurd (omega arith);
  stays = λ page outside. refl;
  own = OwnChanges-refl h space;
  account = AccountFollows-unranged h space first Unmapped;
  takes = TakesNothing-refl h;
}

-- one page more is unmapped
pub IsCleared-more : (old mid new : Heap) (space now then : List (Option ℕ)) (first page : ℕ) → IsCleared old mid space now first page
    → entry_at new.nodes then page ≡ entry.Unmapped
    → ((other : ℕ) → other ≢ page → entry_at new.nodes then other ≡ entry_at mid.nodes now other)
    → ((other : ℕ) → other ≢ page → content_at new then other ≡ content_at mid now other)
    → SpaceMoves mid new now then → OwnChanges mid new now then → AccountFollows mid new now then (λ frames pid. turned_at frames pid page Unmapped)
    → TakesNothing mid new → first ≤ page → page < 256
    → IsCleared old new space then first (page + 1)
IsCleared-more old mid new space now then first page cleared gone entries stays moves own account takes from below = record {
  moves = SpaceMoves-trans old mid new space now then cleared.moves moves;
  gone = λ other above below. ⊎_elim
      (λ same. subst (λ p. entry_at new.nodes then p ≡ entry.Unmapped) (sym same) gone)
      (λ apart. entries other apart ∙ cleared.gone other above (omega arith))
      (cases_eq other page);
  stays = λ other outside.
      let apart : other ≢ page = λ same. ⊎_elim (λ below. omega arith) (λ above. omega arith) outside in
      stays other apart ∙ cleared.stays other (⊎_elim inl (λ above. inr (omega arith)) outside);
  own = OwnChanges-trans old mid new space now then cleared.own own;
  account = AccountFollows-ranged old mid new space now then first page Unmapped cleared.moves cleared.account account from below;
  takes = TakesNothing-trans old mid new cleared.takes takes;
}

skipped : (old mid : Heap) (space now : List (Option ℕ)) (first page count : ℕ) → IsCleared old mid space now first page
    → ((other : ℕ) → page ≤ other → other < page + count → entry_at mid.nodes now other ≡ entry.Unmapped)
    → first ≤ page → page + count ≤ 256 → IsCleared old mid space now first (page + count)
skipped old mid space now first page zero cleared unmapped from within =
    subst (λ (end : ℕ). IsCleared old mid space now first end) (omega arith) cleared
skipped old mid space now first page (suc count) cleared unmapped from within =
    let at : page + count < 256 = omega arith in
    let is : entry_at mid.nodes now (page + count) ≡ entry.Unmapped = unmapped (page + count) (omega arith) (omega arith) in
    let before : IsCleared old mid space now first (page + count) =
    skipped old mid space now first page count cleared (λ other above below. unmapped other above (omega arith)) from (omega arith) in
    subst (λ (end : ℕ). IsCleared old mid space now first end) (omega arith)
    (IsCleared-more old mid mid space now now first (page + count) before is (λ other apart. refl) (λ other apart. refl)
    (SpaceMoves-refl mid now) (OwnChanges-refl mid now) (AccountFollows-unmapped mid now (page + count) at is)
    (TakesNothing-refl mid) (omega arith) at)

-- pages that aren't mapped are passed over
pub IsCleared-skip : (old mid : Heap) (space now : List (Option ℕ)) (first page next : ℕ) → IsCleared old mid space now first page
    → ((other : ℕ) → page ≤ other → other < next → entry_at mid.nodes now other ≡ entry.Unmapped)
    → first ≤ page → page ≤ next → next ≤ 256 → IsCleared old mid space now first next
IsCleared-skip old mid space now first page next cleared unmapped from rises within =
    subst (λ (end : ℕ). IsCleared old mid space now first end) (omega arith)
    (skipped old mid space now first page (next - page) cleared (λ other above below. unmapped other above (omega arith)) from (omega arith))

-- a range of a memory that gets another content
module _ (memory : Memory) (first count : ℕ) (x : Option (List ℕ)) (within : first + count ≤ length memory) where
  front_length : length (take first memory ++ replicate count x) ≡ first + count
  front_length = omega (arith, length-append (take first memory) (replicate count x), length-take first memory, length-replicate count x)

  pub page_at-inside : (page : ℕ) → first ≤ page → page < first + count → page_at (with_range memory first count x) page ≡ x
  page_at-inside page from below =
      get_or_append_left (take first memory ++ replicate count x) (drop (first + count) memory) None page (omega (arith, front_length))
      ∙ (get_or-append_right (take first memory) (replicate count x) first page None (omega (arith, length-take first memory)) from
      ∙ get_or-replicate count (page - first) x None (omega arith))

  pub page_at-below : (page : ℕ) → page < first → page_at (with_range memory first count x) page ≡ page_at memory page
  page_at-below page below =
      get_or_append_left (take first memory ++ replicate count x) (drop (first + count) memory) None page (omega (arith, front_length))
      ∙ (get_or_append_left (take first memory) (replicate count x) None page (omega (arith, length-take first memory))
      ∙ get_or-take first memory page None below)

  pub page_at-above : (page : ℕ) → first + count ≤ page → page_at (with_range memory first count x) page ≡ page_at memory page
  page_at-above page above =
      get_or-append_right (take first memory ++ replicate count x) (drop (first + count) memory) (first + count) page None front_length above
      ∙ (get_or-drop (first + count) memory (page - (first + count)) None
      ∙ ap (λ at. get_or memory at None) (omega arith))

-- the memory of a space whose pages were unmapped
pub StandsFor-cleared : (old new : Heap) (space now : List (Option ℕ)) (first count : ℕ) (memory : Memory)
    → first + count ≤ 256 → length memory ≡ 256 → IsCleared old new space now first (first + count)
    → StandsFor old space memory → StandsFor new now (without_pages memory first count)
StandsFor-cleared old new space now first count memory within len cleared stands page below =
    ⊎_elim
    (λ under. cleared.stays page (inl under) ∙ (stands page below ∙ sym (page_at-below memory first count None (omega arith) page under)))
    (λ from. ⊎_elim
    (λ inside. ap (content_of new.pages) (cleared.gone page from inside) ∙ sym (page_at-inside memory first count None (omega arith) page from inside))
    (λ above. cleared.stays page (inr above) ∙ (stands page below ∙ sym (page_at-above memory first count None (omega arith) page above)))
    (cases_lt page (first + count)))
    (cases_lt page first)

-- where each entry is unmapped, none is counted
none_counted : (entries : List PageEntry) → ((at : ℕ) → at < length entries → get_or entries at entry.Unmapped ≡ entry.Unmapped) → count_by is_mapped entries ≡ 0
none_counted [] none = refl
none_counted (entry.Unmapped ∷ entries) none = none_counted entries (λ at within. none (suc at) (omega arith))
none_counted (entry.Zero ∷ entries) none = absurd (unequal (none 0 (omega arith)))
  where
    unequal : entry.Zero ≡ entry.Unmapped → ⊥
    unequal same = cc
none_counted (entry.Frame key ∷ entries) none = absurd (unequal (none 0 (omega arith)))
  where
    unequal : entry.Frame key ≡ entry.Unmapped → ⊥
    unequal same = cc

-- a space without a mapped page has no node
no_nodes : (nodes : List (Option Node)) (space : List (Option ℕ)) → OwnsNodes nodes space → length space ≡ 4
    → ((key : ℕ) (node : Node) → object nodes key ≡ Some node → length node.entries ≡ 64)
    → ((page : ℕ) → page < 256 → entry_at nodes space page ≡ entry.Unmapped) → (key : ℕ) → Contains (keys_in space) key → ⊥
no_nodes nodes space owns groups long gone key there =
    let placed = key_placed space key there in
    let group = placed.0 in
    let found = object_of nodes key (owns.used key there) in
    let node = found.0 in
    let some : 0 < count_by is_mapped node.entries = owns.mapped key node there found.1 in
    let none : count_by is_mapped node.entries ≡ 0 = none_counted node.entries (λ at within.
    let small : at < 64 = omega (arith, long key node found.1) in
    let inside : group < 4 = omega (arith, placed.1) in
    let page : ℕ = group * 64 + at in
    let by : page / 64 ≡ group = omega arith in
    let place : page % 64 ≡ at = omega arith in
    let named : key_of space page ≡ Some key = ap (λ g. get_or space g None) by ∙ placed.2 in
    ap (λ a. get_or node.entries a entry.Unmapped) (sym place)
    ∙ (sym (entry_known nodes space page key node named found.1) ∙ gone page (omega arith))) in
    omega arith

no_keys : (keys : List ℕ) → ((key : ℕ) → Contains keys key → ⊥) → keys ≡ []
no_keys [] none = refl
no_keys (key ∷ keys) none = absurd (none key (0, omega arith, refl))

-- a space that was cleared leaves the owners
pub SpaceLeaves-cleared : (old new : Heap) (space now : List (Option ℕ)) → IsOwnedWith old space → IsCleared old new space now 0 256 → length now ≡ 4
    → ((key : ℕ) (node : Node) → object new.nodes key ≡ Some node → length node.entries ≡ 64)
    → SpaceLeaves old new space
SpaceLeaves-cleared old new space now given cleared groups long = record {
  owners = λ others owned.
      let after : IsOwned new (with_space now others) = cleared.moves.owners others owned in
      IsOwned-space_leaves new others now (no_keys (keys_in now) (none_left others after)) after;
  others = cleared.moves.others;
  own = record {
    nodes = λ key outside.
        let nodes = cleared.own.nodes in
        nodes.outside key (λ named. ⊎_elim outside (none_left given.0 (cleared.moves.owners given.0 given.1) key) (Contains-append_cases (keys_in space) (keys_in now) key named));
    pages = cleared.own.stay;
  };
  account = λ number before pid accounted.
      let moved = cleared.account number before pid accounted in
      let cleared_all : after_unmap before pid 0 256 ≡ after_clear before pid =
      ap (with_places before pid) (with_range-all (places_of before pid) 256 Unmapped accounted.whole ∙ sym no_places_are) in
      subst (λ after. AccountLeaves old new space number before after pid) cleared_all (record {
        renumbered = moved.renumbered;
        numbers = moved.accounted.numbers;
        others = moved.others;
        kept = moved.kept;
        pids = moved.pids;
      });
  kept = cleared.moves.kept;
}
  where
    none_left : (others : Owners) → IsOwned new (with_space now others) → (key : ℕ) → Contains (keys_in now) key → ⊥
    none_left others after = no_nodes new.nodes now (IsOwned-space new others now after) groups long (λ page below. cleared.gone page (omega arith) below)
