-- How many entries of all spaces name a page.
use Rattle.std.proofs.Common.{◌≡◌, ◌≢◌, ℕ, zero, suc, ◌+◌, ◌-◌, ◌*◌, ◌/◌, ◌%◌, ◌<◌, ◌≤◌, true, is_some, List, [], ◌∷◌, ◌++◌, Option, None, Some, length, get_or, refl, sym, ap, ◌∙◌, subst, ⊎_elim, arith}
use Rattle.std.specs.List.{Contains, sum_by, range_with_len}
use Rattle.std.proofs.lemmas.List.Elements.{Contains-append_cases, Contains-append_right}
use Rattle.std.proofs.lemmas.List.Sums.{sum_by-append, sum_by-cons, sum_by-set}
use Rattle.std.proofs.lemmas.Bool.{false≢true}
use Rattle.kheap_slabs.specs.Objects.{object, InUse, without}
use Rattle.kheap_slabs.specs.declared.objects.Node.{Node}
use Rattle.kheap_slabs.specs.declared.objects.PageEntry.{PageEntry}
use Rattle.kheap_slabs.specs.declared.objects.PageEntry.TheVariants as entry
use Rattle.kheap_slabs.specs.Heap.{Heap, IsWellFormed}
use Rattle.kheap_slabs.specs.Keys.{AreKeysOf}
use Rattle.kheap_slabs.specs.Owners.{Owners, node_keys, IsOwned}
use Rattle.kheap_slabs.specs.Spaces.{keys_in, names_page, names_in, count_at}
use Rattle.kheap_slabs.proofs.ObjectLemmas.{InUse-within, object-without, object-without_other}
use Rattle.kheap_laws.proofs.OnceLemmas.{Contains-single, IsOnce-head, IsOnce-tail}
use Rattle.page_space.specs.Entries.{entry_of, entry_under, entry_at}
use Rattle.page_space.specs.Sequences.{entries_naming}

-- sums of what agrees
sum_agree : {X : Type 0} (f g : X → ℕ) (xs : List X) → ((x : X) → Contains xs x → f x ≡ g x) → sum_by f xs ≡ sum_by g xs
sum_agree f g [] same = refl
sum_agree f g (x ∷ xs) same =
    omega (
      arith,
      sum_by-cons f x xs,
      sum_by-cons g x xs,
      same x (0, omega arith, refl),
      sum_agree f g xs (λ y there. same y (Contains-append_right (x ∷ []) xs y there)),
    )

pub sum_range_agree : (f g : ℕ → ℕ) (n a : ℕ) → ((k : ℕ) → a ≤ k → k < a + n → f k ≡ g k) → sum_by f (range_with_len a n) ≡ sum_by g (range_with_len a n)
sum_range_agree f g zero a same = refl
sum_range_agree f g (suc n) a same =
    omega (
      arith,
      sum_by-cons f a (range_with_len (a + 1) n),
      sum_by-cons g a (range_with_len (a + 1) n),
      same a (omega arith) (omega arith),
      sum_range_agree f g n (a + 1) (λ k above below. same k (omega arith) (omega arith)),
    )

range_join : (n m a : ℕ) → range_with_len a (n + m) ≡ range_with_len a n ++ range_with_len (a + n) m
range_join zero m a = ap (λ (k : ℕ). range_with_len a k) (omega arith) ∙ ap (λ (b : ℕ). range_with_len b m) (omega arith)
range_join (suc n) m a =
    let next : suc n + m ≡ suc (n + m) = omega arith in
    ap (range_with_len a) next
    ∙ (ap (λ l. a ∷ l) (range_join n m (a + 1)) ∙ ap (λ (b : ℕ). a ∷ (range_with_len (a + 1) n ++ range_with_len b m)) (omega arith))

pub sum_shift : (f : ℕ → ℕ) (a n b : ℕ) → sum_by f (range_with_len (a + b) n) ≡ sum_by (λ k. f (a + k)) (range_with_len b n)
sum_shift f a zero b = refl
sum_shift f a (suc n) b =
    omega (
      arith,
      sum_by-cons f (a + b) (range_with_len (a + b + 1) n),
      sum_by-cons (λ k. f (a + k)) b (range_with_len (b + 1) n),
      sum_shift f a n (b + 1),
      shifted,
    )
  where
    shifted : sum_by f (range_with_len (a + b + 1) n) ≡ sum_by f (range_with_len (a + (b + 1)) n)
    shifted = ap (λ (c : ℕ). sum_by f (range_with_len c n)) (omega arith)

sum_none : (f : ℕ → ℕ) (n a : ℕ) → ((k : ℕ) → f k ≡ 0) → sum_by f (range_with_len a n) ≡ 0
sum_none f zero a none = refl
sum_none f (suc n) a none = omega (arith, sum_by-cons f a (range_with_len (a + 1) n), none a, sum_none f n (a + 1) none)

-- a sum over all objects is one over their keys
module _ {X : Type 0} (f : Option X → ℕ) (nothing : f None ≡ 0) where
  none_used : (objects : List (Option X)) → ((key : ℕ) → InUse objects key → ⊥) → sum_by f objects ≡ 0
  none_used [] none = refl
  none_used (None ∷ objects) none = omega (arith, sum_by-cons f None objects, nothing, none_used objects (λ key used. none (suc key) used))
  none_used (Some x ∷ objects) none = absurd (none 0 refl)

  pub sum_of_keys : (keys : List ℕ) (objects : List (Option X)) → AreKeysOf objects keys → sum_by f objects ≡ sum_by (λ key. f (object objects key)) keys
  sum_of_keys [] objects are = none_used objects (λ key used. let there = are.listed key used in omega (arith, there.1))
  sum_of_keys (first ∷ keys) objects are =
      omega (
        arith,
        sum_by-set f objects first None None within,
        sum_of_keys keys (without objects first) rest,
        sum_agree (λ key. f (object (without objects first) key)) (λ key. f (object objects key)) keys
            (λ key there. ap f (object-without_other objects first key (λ same. other key there same))),
        sum_by-cons (λ key. f (object objects key)) first keys,
        nothing,
      )
    where
      within : first < length objects
      within = InUse-within objects first (are.used first (0, omega arith, refl))

      other : (key : ℕ) → Contains keys key → key ≢ first
      other key there same = IsOnce-head first keys are.once (subst (Contains keys) same there)

      rest : AreKeysOf (without objects first) keys
      rest = record {
        used = λ key there. subst (λ o. is_some o ≡ true) (sym (object-without_other objects first key (other key there))) (are.used key (Contains-append_right (first ∷ []) keys key there));
        listed = λ key used. ⊎_elim
            (λ same. absurd (gone key used (sym (Contains-single first key same))))
            (λ behind. behind)
            (Contains-append_cases (first ∷ []) keys key (are.listed key (kept key used)));
        once = IsOnce-tail first keys are.once;
      }
        where
          gone : (key : ℕ) → InUse (without objects first) key → key ≢ first
          gone key used same = false≢true (sym (ap is_some (ap (object (without objects first)) same ∙ object-without objects first within)) ∙ used)

          kept : (key : ℕ) → InUse (without objects first) key → InUse objects key
          kept key used = subst (λ o. is_some o ≡ true) (object-without_other objects first key (gone key used)) used

sum_of_spaces : (f : ℕ → ℕ) (spaces : List (List (Option ℕ))) → sum_by f (node_keys spaces) ≡ sum_by (λ space. sum_by f (keys_in space)) spaces
sum_of_spaces f [] = refl
sum_of_spaces f (space ∷ spaces) =
    omega (
      arith,
      sum_by-append f (keys_in space) (node_keys spaces),
      sum_of_spaces f spaces,
      sum_by-cons (λ s. sum_by f (keys_in s)) space spaces,
    )

module _ (nodes : List (Option Node)) (key : ℕ) (long : (k : ℕ) (node : Node) → object nodes k ≡ Some node → length node.entries ≡ 64) where
  -- the entries of a row, by their places
  row_sum : (entries : List PageEntry) → sum_by (names_page key) entries ≡ sum_by (λ at. names_page key (get_or entries at entry.Unmapped)) (range_with_len 0 (length entries))
  row_sum [] = refl
  row_sum (e ∷ entries) =
      omega (
        arith,
        sum_by-cons (names_page key) e entries,
        row_sum entries,
        sum_by-cons (λ at. names_page key (get_or (e ∷ entries) at entry.Unmapped)) 0 (range_with_len 1 (length entries)),
        sum_shift (λ at. names_page key (get_or (e ∷ entries) at entry.Unmapped)) 1 (length entries) 0,
        sum_range_agree (λ at. names_page key (get_or (e ∷ entries) (1 + at) entry.Unmapped)) (λ at. names_page key (get_or entries at entry.Unmapped)) (length entries) 0
            (λ k above below. ap (names_page key) (behind k)),
      )
    where
      behind : (k : ℕ) → get_or (e ∷ entries) (1 + k) entry.Unmapped ≡ get_or entries k entry.Unmapped
      behind k = let next : 1 + k ≡ suc k = omega arith in ap (λ (i : ℕ). get_or (e ∷ entries) i entry.Unmapped) next

  node_sum : (node : Option Node) → ((n : Node) → node ≡ Some n → length n.entries ≡ 64)
      → sum_by (λ at. names_page key (entry_of node at)) (range_with_len 0 64) ≡ names_in key node
  node_sum None known = sum_none (λ at. names_page key (entry_of None at)) 64 0 (λ k. refl)
  node_sum (Some node) known = ap (λ n. sum_by (λ at. names_page key (get_or node.entries at entry.Unmapped)) (range_with_len 0 n)) (sym (known node refl)) ∙ sym (row_sum node.entries)

  -- what the entries of one group name
  abbrev names_under : Option ℕ → ℕ
  names_under None = 0
  names_under (Some k) = names_in key (object nodes k)

  group_sum : (group : Option ℕ) → sum_by (λ at. names_page key (entry_under nodes group at)) (range_with_len 0 64) ≡ names_under group
  group_sum None = sum_none (λ at. names_page key (entry_under nodes None at)) 64 0 (λ k. refl)
  group_sum (Some k) = node_sum (object nodes k) (λ n is. long k n is)

  -- the pages of the groups from one on
  groups_sum : (groups : List (Option ℕ)) (before : ℕ)
      → sum_by (λ page. names_page key (entry_under nodes (get_or groups (page / 64 - before) None) (page % 64))) (range_with_len (64 * before) (64 * length groups))
      ≡ sum_by (λ k. names_in key (object nodes k)) (keys_in groups)
  groups_sum [] before = refl
  groups_sum (group ∷ groups) before =
      let at_page : ℕ → ℕ = λ page. names_page key (entry_under nodes (get_or (group ∷ groups) (page / 64 - before) None) (page % 64)) in
      let later : ℕ → ℕ = λ page. names_page key (entry_under nodes (get_or groups (page / 64 - (before + 1)) None) (page % 64)) in
      let split : 64 * length (group ∷ groups) ≡ 64 + 64 * length groups = omega arith in
      let whole : sum_by at_page (range_with_len (64 * before) (64 * length (group ∷ groups)))
      ≡ sum_by at_page (range_with_len (64 * before) 64 ++ range_with_len (64 * before + 64) (64 * length groups)) =
      ap (λ n. sum_by at_page (range_with_len (64 * before) n)) split ∙ ap (sum_by at_page) (range_join 64 (64 * length groups) (64 * before)) in
      let first : sum_by at_page (range_with_len (64 * before) 64) ≡ names_under group =
      ap (λ (a : ℕ). sum_by at_page (range_with_len a 64)) (omega arith)
      ∙ (sum_shift at_page (64 * before) 64 0
      ∙ (sum_range_agree (λ k. at_page (64 * before + k)) (λ at. names_page key (entry_under nodes group at)) 64 0 (λ k above below. here k (omega arith))
      ∙ group_sum group)) in
      let rest : sum_by at_page (range_with_len (64 * before + 64) (64 * length groups)) ≡ sum_by (λ k. names_in key (object nodes k)) (keys_in groups) =
      ap (λ (a : ℕ). sum_by at_page (range_with_len a (64 * length groups))) (omega arith)
      ∙ (sum_range_agree at_page later (64 * length groups) (64 * (before + 1)) (λ k above below. there k (omega arith))
      ∙ groups_sum groups (before + 1)) in
      whole ∙ (sum_by-append at_page (range_with_len (64 * before) 64) (range_with_len (64 * before + 64) (64 * length groups))
      ∙ (joined first rest ∙ counted group))
    where
      here : (k : ℕ) → k < 64 → names_page key (entry_under nodes (get_or (group ∷ groups) ((64 * before + k) / 64 - before) None) ((64 * before + k) % 64)) ≡ names_page key (entry_under nodes group k)
      here k low =
          let place : (64 * before + k) / 64 - before ≡ 0 = omega arith in
          let within : (64 * before + k) % 64 ≡ k = omega arith in
          ap (λ (i : ℕ). names_page key (entry_under nodes (get_or (group ∷ groups) i None) ((64 * before + k) % 64))) place
          ∙ ap (λ (a : ℕ). names_page key (entry_under nodes group a)) within

      there : (k : ℕ) → 64 * (before + 1) ≤ k → names_page key (entry_under nodes (get_or (group ∷ groups) (k / 64 - before) None) (k % 64))
          ≡ names_page key (entry_under nodes (get_or groups (k / 64 - (before + 1)) None) (k % 64))
      there k above =
          let place : k / 64 - before ≡ suc (k / 64 - (before + 1)) = omega arith in
          ap (λ (i : ℕ). names_page key (entry_under nodes (get_or (group ∷ groups) i None) (k % 64))) place

      joined : {a b c d : ℕ} → a ≡ c → b ≡ d → a + b ≡ c + d
      joined one other = omega (arith, one, other)

      counted : (g : Option ℕ) → names_under g + sum_by (λ k. names_in key (object nodes k)) (keys_in groups) ≡ sum_by (λ k. names_in key (object nodes k)) (keys_in (g ∷ groups))
      counted None = omega arith
      counted (Some k) = sym (sum_by-cons (λ j. names_in key (object nodes j)) k (keys_in groups))

  space_sum : (space : List (Option ℕ)) → length space ≡ 4 → entries_naming nodes key space ≡ sum_by (λ k. names_in key (object nodes k)) (keys_in space)
  space_sum space four =
      let all : 64 * length space ≡ 256 = omega (arith, four) in
      ap (λ (n : ℕ). sum_by (λ page. names_page key (entry_at nodes space page)) (range_with_len 0 n)) (sym all)
      ∙ (sum_range_agree (λ page. names_page key (entry_at nodes space page)) (λ page. names_page key (entry_under nodes (get_or space (page / 64 - 0) None) (page % 64)))
      (64 * length space) 0 (λ k above below. from_first k)
      ∙ groups_sum space 0)
    where
      from_first : (k : ℕ) → names_page key (entry_at nodes space k) ≡ names_page key (entry_under nodes (get_or space (k / 64 - 0) None) (k % 64))
      from_first k = let same : k / 64 ≡ k / 64 - 0 = omega arith in ap (λ (g : ℕ). names_page key (entry_under nodes (get_or space g None) (k % 64))) same

-- the count of a page is the number of entries of all spaces that name it
pub counts_by_entries : (h : Heap) (owners : Owners) (key : ℕ) → IsWellFormed h → IsOwned h owners → ((space : List (Option ℕ)) → Contains owners.spaces space → length space ≡ 4)
    → count_at h.pages key ≡ sum_by (entries_naming h.nodes key) owners.spaces
counts_by_entries h owners key well owned four =
    owned.pages.counts key
    ∙ (sum_of_keys (names_in key) refl (node_keys owners.spaces) h.nodes owned.nodes
    ∙ (sum_of_spaces (λ k. names_in key (object h.nodes k)) owners.spaces
    ∙ sym (sum_agree (entries_naming h.nodes key) (λ space. sum_by (λ k. names_in key (object h.nodes k)) (keys_in space)) owners.spaces
    (λ space there. space_sum h.nodes key well.entries space (four space there)))))
