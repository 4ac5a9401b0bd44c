-- One page of a space gets another entry.
use Rattle.std.proofs.Common.{◌≡◌, ◌≢◌, ℕ, suc, zero, ◌/◌, ◌%◌, ◌<◌, true, cond, is_some, List, [], ◌∷◌, Option, None, Some, length, get_or, set, count_by, refl, sym, ap, ◌∙◌, subst, inl, inr, ⊎_elim, arith}
use Rattle.std.specs.List.{Contains, sum_by}
use Rattle.std.proofs.lemmas.List.{get_or-set_same, get_or-set_other, length-set, get_or_default}
use Rattle.std.proofs.lemmas.List.Elements.{Contains-append_left, Contains-append_right}
use Rattle.std.proofs.lemmas.List.Sums.{sum_by-set, sum_by-cons, get_or-le-sum_by}
use Rattle.std.proofs.lemmas.Bool.{cases_eq, false≢true}
use Rattle.kheap_slabs.specs.Objects.{object, InUse, put, without}
use Rattle.kheap_slabs.specs.declared.objects.Node.{Node}
use Rattle.kheap_slabs.specs.declared.objects.PageEntry.{PageEntry}
use Rattle.kheap_slabs.specs.declared.objects.PageEntry.TheVariants as entry
use Rattle.kheap_slabs.specs.Spaces.{is_mapped, mapped_count, keys_in, OwnsNodes, names_page, EntryChanges}
use Rattle.kheap_slabs.proofs.ObjectLemmas.{InUse-within, put-within, object-put, object-put_other, object-without, object-without_other}
use Rattle.kheap_laws.proofs.SpaceLemmas.{names_of-entry, names_of-insert, names_of-without}
use Rattle.page_space.specs.Entries.{key_of, entry_of, entry_under, entry_at, PageTurns}
use Rattle.kheap_laws.proofs.KeyPlaces.{key_there, keys_differ, Contains-added, Contains-stays, IsOnce-added, Contains-removed, Contains-left, removed-other, IsOnce-removed}

-- of two pages of one group the places differ
places_differ : (one other : ℕ) → one ≢ other → one / 64 ≡ other / 64 → one % 64 ≢ other % 64
places_differ one other apart group place = apart (omega arith)

some_same : (a b : Node) → Some a ≡ Some b → a ≡ b
some_same a b same = cc

-- a key that names nothing isn't in use
pub unused : (nodes : List (Option Node)) (key : ℕ) → object nodes key ≡ None → InUse nodes key → ⊥
unused nodes key vacant used = false≢true (sym (ap is_some vacant) ∙ used)

-- a page in whose group's node nothing changed has the entry that it had
pub entry_stays : (old new : List (Option Node)) (space now : List (Option ℕ)) (page : ℕ)
    → key_of now page ≡ key_of space page
    → ((key : ℕ) → key_of space page ≡ Some key → object new key ≡ object old key)
    → entry_at new now page ≡ entry_at old space page
entry_stays old new space now page same kept =
    ap (λ key. entry_under new key (page % 64)) same ∙ under (key_of space page) kept
  where
    under : (key : Option ℕ) → ((k : ℕ) → key ≡ Some k → object new k ≡ object old k) → entry_under new key (page % 64) ≡ entry_under old key (page % 64)
    under None stays = refl
    under (Some key) stays = ap (λ node. entry_of node (page % 64)) (stays key refl)

-- the entry of a page whose node is known
pub entry_known : (nodes : List (Option Node)) (space : List (Option ℕ)) (page key : ℕ) (node : Node)
    → key_of space page ≡ Some key → object nodes key ≡ Some node → entry_at nodes space page ≡ get_or node.entries (page % 64) entry.Unmapped
entry_known nodes space page key node named there =
    ap (λ k. entry_under nodes k (page % 64)) named ∙ ap (λ n. entry_of n (page % 64)) there

-- of a page whose group has no node
pub entry_none : (nodes : List (Option Node)) (space : List (Option ℕ)) (page : ℕ) → key_of space page ≡ None → entry_at nodes space page ≡ entry.Unmapped
entry_none nodes space page free = ap (λ k. entry_under nodes k (page % 64)) free

-- where no entry is mapped, each says so, and none names a frame
nothing_mapped : (entries : List PageEntry) → count_by is_mapped entries ≡ 0 → (at : ℕ) → get_or entries at entry.Unmapped ≡ entry.Unmapped
nothing_mapped [] none zero = refl
nothing_mapped [] none (suc at) = refl
nothing_mapped (entry.Unmapped ∷ entries) none zero = refl
nothing_mapped (entry.Unmapped ∷ entries) none (suc at) = nothing_mapped entries none at
nothing_mapped (entry.Zero ∷ entries) none at = absurd (omega (arith, none, sum_by-cons (λ e. cond (is_mapped e) 1 0) entry.Zero entries))
nothing_mapped (entry.Frame key ∷ entries) none at = absurd (omega (arith, none, sum_by-cons (λ e. cond (is_mapped e) 1 0) (entry.Frame key) entries))

nothing_named : (entries : List PageEntry) (frame : ℕ) → count_by is_mapped entries ≡ 0 → sum_by (names_page frame) entries ≡ 0
nothing_named [] frame none = refl
nothing_named (entry.Unmapped ∷ entries) frame none = nothing_named entries frame none
nothing_named (entry.Zero ∷ entries) frame none = absurd (omega (arith, none, sum_by-cons (λ e. cond (is_mapped e) 1 0) entry.Zero entries))
nothing_named (entry.Frame key ∷ entries) frame none = absurd (omega (arith, none, sum_by-cons (λ e. cond (is_mapped e) 1 0) (entry.Frame key) entries))

-- an entry of a mapped page makes its node one with a mapped page
pub mapped_set : (entries : List PageEntry) (at : ℕ) (is : PageEntry) → at < length entries → is_mapped is ≡ true → 0 < count_by is_mapped (set entries at is)
mapped_set entries at is within mapped =
    let one : PageEntry → ℕ = λ e. cond (is_mapped e) 1 0 in
    let there : get_or (set entries at is) at entry.Unmapped ≡ is = get_or-set_same entries at is entry.Unmapped within in
    let counted : one (get_or (set entries at is) at entry.Unmapped) ≡ 1 = rw (there, mapped) refl in
    omega (arith, counted, get_or-le-sum_by one (set entries at is) at entry.Unmapped (subst (λ n. at < n) (sym (length-set entries at is)) within))

module _ (nodes : List (Option Node)) (space : List (Option ℕ)) (page key : ℕ) (owns : OwnsNodes nodes space) (named : key_of space page ≡ Some key) where
  -- no other group of the space has this key
  other_group : (other k : ℕ) → other / 64 ≢ page / 64 → key_of space other ≡ Some k → k ≢ key
  other_group other k apart is same =
      keys_differ space (other / 64) (page / 64) key owns.once apart (subst (λ j. key_of space other ≡ Some j) same is) named

  same_group : (other : ℕ) → other / 64 ≡ page / 64 → key_of space other ≡ Some key
  same_group other same = ap (λ group. get_or space group None) same ∙ named

  -- an entry of a node that stays
  pub turn-set : (node changed : Node) (is : PageEntry)
      → object nodes key ≡ Some node → page % 64 < length node.entries
      → changed.entries ≡ set node.entries (page % 64) is → 0 < mapped_count changed
      → PageTurns nodes (put nodes key changed) space space page (entry_at nodes space page) is
  turn-set node changed is there within written mapped =
      let mine : Contains (keys_in space) key = key_there space (page / 64) key named in
      let stored : object (put nodes key changed) key ≡ Some changed = object-put nodes key changed (InUse-within nodes key (owns.used key mine)) in
      let was : entry_at nodes space page ≡ get_or node.entries (page % 64) entry.Unmapped = entry_known nodes space page key node named there in
      let change : EntryChanges nodes (put nodes key changed) (entry_at nodes space page) is = record {
        key = key;
        at = page % 64;
        node = node;
        changed = changed;
        is = there;
        within = within;
        was_there = get_or_default node.entries (page % 64) (entry_at nodes space page) entry.Unmapped within ∙ sym was;
        written = written;
        stored = refl;
      } in
      record {
        before = refl;
        after = entry_known (put nodes key changed) space page key changed named stored
            ∙ (ap (λ entries. get_or entries (page % 64) entry.Unmapped) written ∙ get_or-set_same node.entries (page % 64) is entry.Unmapped within);
        others = λ other apart. ⊎_elim
            (λ same.
            entry_known (put nodes key changed) space other key changed (same_group other same) stored
            ∙ (ap (λ entries. get_or entries (other % 64) entry.Unmapped) written
            ∙ (get_or-set_other node.entries (page % 64) (other % 64) is entry.Unmapped (places_differ other page apart same)
            ∙ sym (entry_known nodes space other key node (same_group other same) there))))
            (λ elsewhere. entry_stays nodes (put nodes key changed) space space other refl (λ k k_is. object-put_other nodes key k changed (other_group other k elsewhere k_is)))
            (cases_eq (other / 64) (page / 64));
        keys = record {
          outside = λ k outside. object-put_other nodes key k changed (λ same. outside (Contains-append_left (keys_in space) (keys_in space) k (subst (λ j. Contains (keys_in space) j) (sym same) mine)));
          fresh = λ k k_there. inl k_there;
          left = λ k k_there k_used. k_there;
        };
        owns = record {
          used = λ k k_there. ⊎_elim
              (λ same. subst (λ j. InUse (put nodes key changed) j) (sym same) (ap is_some stored))
              (λ apart. subst (λ o. is_some o ≡ true) (sym (object-put_other nodes key k changed apart)) (owns.used k k_there))
              (cases_eq k key);
          mapped = λ k n k_there n_is. ⊎_elim
              (λ same. subst (λ m. 0 < mapped_count m) (some_same changed n (sym stored ∙ (ap (λ j. object (put nodes key changed) j) (sym same) ∙ n_is))) mapped)
              (λ apart. owns.mapped k n k_there (sym (object-put_other nodes key k changed apart) ∙ n_is))
              (cases_eq k key);
          once = owns.once;
        };
        names = λ frame. names_of-entry nodes (put nodes key changed) (entry_at nodes space page) is frame change;
      }

  -- the last entry of a node, which goes with it
  pub turn-clear : (node changed : Node)
      → object nodes key ≡ Some node → page % 64 < length node.entries → page / 64 < length space
      → changed.entries ≡ set node.entries (page % 64) entry.Unmapped → mapped_count changed ≡ 0
      → PageTurns nodes (without nodes key) space (set space (page / 64) None) page (entry_at nodes space page) entry.Unmapped
  turn-clear node changed there within group written none =
      let now : List (Option ℕ) = set space (page / 64) None in
      let mine : Contains (keys_in space) key = key_there space (page / 64) key named in
      let used : key < length nodes = InUse-within nodes key (owns.used key mine) in
      let gone : object (without nodes key) key ≡ None = object-without nodes key used in
      let was : entry_at nodes space page ≡ get_or node.entries (page % 64) entry.Unmapped = entry_known nodes space page key node named there in
      let free : key_of now page ≡ None = get_or-set_same space (page / 64) None None group in
      let rest : count_by is_mapped (set node.entries (page % 64) entry.Unmapped) ≡ 0 = ap (count_by is_mapped) (sym written) ∙ none in
      record {
        before = refl;
        after = entry_none (without nodes key) now page free;
        others = λ other apart. ⊎_elim
            (λ same.
            entry_none (without nodes key) now other (ap (λ g. get_or now g None) same ∙ free)
            ∙ (sym (nothing_mapped (set node.entries (page % 64) entry.Unmapped) rest (other % 64))
            ∙ (get_or-set_other node.entries (page % 64) (other % 64) entry.Unmapped entry.Unmapped (places_differ other page apart same)
            ∙ sym (entry_known nodes space other key node (same_group other same) there))))
            (λ elsewhere. entry_stays nodes (without nodes key) space now other
            (get_or-set_other space (page / 64) (other / 64) None None elsewhere)
            (λ k k_is. object-without_other nodes key k (other_group other k elsewhere k_is)))
            (cases_eq (other / 64) (page / 64));
        keys = record {
          outside = λ k outside. object-without_other nodes key k (λ same. outside (Contains-append_left (keys_in space) (keys_in now) k (subst (λ j. Contains (keys_in space) j) (sym same) mine)));
          fresh = λ k k_there. inl (Contains-removed space (page / 64) group key named k k_there);
          left = λ k k_there k_used. ⊎_elim (λ stays. stays)
              (λ same. absurd (unused (without nodes key) k (ap (object (without nodes key)) same ∙ gone) k_used))
              (Contains-left space (page / 64) group key named k k_there);
        };
        owns = record {
          used = λ k k_there. subst (λ o. is_some o ≡ true)
              (sym (object-without_other nodes key k (removed-other space (page / 64) group key named owns.once k k_there)))
              (owns.used k (Contains-removed space (page / 64) group key named k k_there));
          mapped = λ k n k_there n_is. owns.mapped k n (Contains-removed space (page / 64) group key named k k_there)
              (sym (object-without_other nodes key k (removed-other space (page / 64) group key named owns.once k k_there)) ∙ n_is);
          once = IsOnce-removed space (page / 64) group key named owns.once;
        };
        names = λ frame. omega (
          arith,
          names_of-without nodes key frame node there,
          sum_by-set (names_page frame) node.entries (page % 64) entry.Unmapped entry.Unmapped within,
          nothing_named (set node.entries (page % 64) entry.Unmapped) frame rest,
          ap (names_page frame) was,
        );
      }

-- the first entry of a group, in a node of its own
pub turn-begin : (nodes : List (Option Node)) (space : List (Option ℕ)) (page key : ℕ) (node : Node) (empty : List PageEntry) (is : PageEntry)
    → OwnsNodes nodes space → page / 64 < length space → key_of space page ≡ None
    → object nodes key ≡ None → object (put nodes key node) key ≡ Some node
    → page % 64 < length empty → count_by is_mapped empty ≡ 0
    → node.entries ≡ set empty (page % 64) is → 0 < mapped_count node
    → PageTurns nodes (put nodes key node) space (set space (page / 64) (Some key)) page entry.Unmapped is
turn-begin nodes space page key node empty is owns group free vacant stored within none written mapped =
    let now : List (Option ℕ) = set space (page / 64) (Some key) in
    let not_mine : Contains (keys_in space) key → ⊥ = λ there. unused nodes key vacant (owns.used key there) in
    let other_key : (k : ℕ) → Contains (keys_in space) k → k ≢ key = λ k k_there same. not_mine (subst (λ j. Contains (keys_in space) j) same k_there) in
    let named : key_of now page ≡ Some key = get_or-set_same space (page / 64) (Some key) None group in
    record {
      before = entry_none nodes space page free;
      after = entry_known (put nodes key node) now page key node named stored
          ∙ (ap (λ entries. get_or entries (page % 64) entry.Unmapped) written ∙ get_or-set_same empty (page % 64) is entry.Unmapped within);
      others = λ other apart. ⊎_elim
          (λ same.
          entry_known (put nodes key node) now other key node (ap (λ g. get_or now g None) same ∙ named) stored
          ∙ (ap (λ entries. get_or entries (other % 64) entry.Unmapped) written
          ∙ (get_or-set_other empty (page % 64) (other % 64) is entry.Unmapped (places_differ other page apart same)
          ∙ (nothing_mapped empty none (other % 64)
          ∙ sym (entry_none nodes space other (ap (λ g. get_or space g None) same ∙ free))))))
          (λ elsewhere. entry_stays nodes (put nodes key node) space now other
          (get_or-set_other space (page / 64) (other / 64) (Some key) None elsewhere)
          (λ k k_is. object-put_other nodes key k node (other_key k (key_there space (other / 64) k k_is))))
          (cases_eq (other / 64) (page / 64));
      keys = record {
        outside = λ k outside. object-put_other nodes key k node (λ same. outside (Contains-append_right (keys_in space) (keys_in now) k (subst (λ j. Contains (keys_in now) j) (sym same) (key_there now (page / 64) key named))));
        fresh = λ k k_there. ⊎_elim inl (λ same. inr (ap (object nodes) same ∙ vacant)) (Contains-added space (page / 64) group key free k k_there);
        left = λ k k_there k_used. Contains-stays space (page / 64) group key free k k_there;
      };
      owns = record {
        used = λ k k_there. ⊎_elim
            (λ mine. subst (λ o. is_some o ≡ true) (sym (object-put_other nodes key k node (other_key k mine))) (owns.used k mine))
            (λ same. subst (λ j. InUse (put nodes key node) j) (sym same) (ap is_some stored))
            (Contains-added space (page / 64) group key free k k_there);
        mapped = λ k n k_there n_is. ⊎_elim
            (λ mine. owns.mapped k n mine (sym (object-put_other nodes key k node (other_key k mine)) ∙ n_is))
            (λ same. subst (λ m. 0 < mapped_count m) (some_same node n (sym stored ∙ (ap (λ j. object (put nodes key node) j) (sym same) ∙ n_is))) mapped)
            (Contains-added space (page / 64) group key free k k_there);
        once = IsOnce-added space (page / 64) group key free not_mine owns.once;
      };
      names = λ frame. omega (
        arith,
        names_of-insert nodes key frame node (put-within nodes key node stored) vacant,
        ap (sum_by (names_page frame)) written,
        sum_by-set (names_page frame) empty (page % 64) is entry.Unmapped within,
        nothing_named empty frame none,
        ap (names_page frame) (nothing_mapped empty none (page % 64)),
      );
    }
