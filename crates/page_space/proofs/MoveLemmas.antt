-- What a change of one page leaves to its space and to others.
use Rattle.std.proofs.Common.{◌≡◌, ◌≢◌, ℕ, zero, suc, ◌+◌, ◌/◌, ◌%◌, ◌<◌, true, cond, is_some, List, [], ◌∷◌, Option, None, Some, length, get_or, refl, sym, ap, ◌∙◌, subst, ⊎_elim, arith}
use Rattle.std.specs.List.{Contains}
use Rattle.std.proofs.lemmas.List.{get_or_past}
use Rattle.std.proofs.lemmas.List.Elements.{Contains-append_cases, Contains-append_left, Contains-append_right}
use Rattle.std.proofs.lemmas.List.Sums.{get_or-le-sum_by}
use Rattle.std.proofs.lemmas.Bool.{cases_lt, eq-eqb}
use Rattle.kheap_slabs.specs.Objects.{object, InUse}
use Rattle.kheap_slabs.specs.declared.objects.Node.{Node}
use Rattle.kheap_slabs.specs.declared.objects.Page.{Page}
use Rattle.kheap_slabs.specs.declared.objects.PageEntry.{PageEntry}
use Rattle.kheap_slabs.specs.declared.objects.PageEntry.TheVariants as entry
use Rattle.kheap_slabs.specs.Heap.{Heap}
use Rattle.kheap_slabs.specs.Keys.{ChangesKeys}
use Rattle.kheap_slabs.specs.Owners.{Owners, with_space, node_keys, IsOwned}
use Rattle.kheap_slabs.specs.Spaces.{keys_in, names_page, names_in, names_of, count_at, page_count, IsCounted}
use Rattle.kheap_slabs.proofs.ObjectLemmas.{InUse-within}
use Rattle.kheap_laws.proofs.OwnerLemmas.{IsOwned-spaces_apart, IsOwned-space_changes}
use Rattle.page_space.specs.Entries.{key_of, entry_of, entry_under, entry_at, PageTurns}
use Rattle.page_space.specs.Frames.{IsNamed, AllNamed, FramesStay}
use Rattle.page_space.specs.Contents.{content_of, content_at, SpaceMoves}
use Rattle.kheap_laws.proofs.KeyPlaces.{key_there}
use Rattle.page_space.proofs.TurnLemmas.{unused, entry_stays}

-- an entry that names a frame is one of those that are counted
pub named_once : (nodes : List (Option Node)) (space : List (Option ℕ)) (page frame : ℕ)
    → entry_at nodes space page ≡ entry.Frame frame → 0 < names_of nodes frame
named_once nodes space page frame named = under (key_of space page) named
  where
    not_unmapped : {key : ℕ} → entry.Unmapped ≡ entry.Frame key → ⊥
    not_unmapped same = cc

    within : (node : Node) → get_or node.entries (page % 64) entry.Unmapped ≡ entry.Frame frame → page % 64 < length node.entries
    within node is = ⊎_elim (λ less. less)
        (λ past. absurd (not_unmapped (sym (get_or_past node.entries (page % 64) entry.Unmapped past) ∙ is)))
        (cases_lt (page % 64) (length node.entries))

    one : names_page frame (entry.Frame frame) ≡ 1
    one = ap {B = ℕ} (λ b. cond b 1 0) (eq-eqb frame frame refl)

    of_node : (key : ℕ) (node : Option Node) → object nodes key ≡ node → entry_of node (page % 64) ≡ entry.Frame frame → 0 < names_of nodes frame
    of_node key None there is = absurd (not_unmapped is)
    of_node key (Some node) there is =
        omega (
          arith,
          get_or-le-sum_by (names_page frame) node.entries (page % 64) entry.Unmapped (within node is),
          ap (names_page frame) is,
          one,
          get_or-le-sum_by (names_in frame) nodes key None (InUse-within nodes key (ap is_some there)),
          ap (names_in frame) there,
        )

    under : (key : Option ℕ) → entry_under nodes key (page % 64) ≡ entry.Frame frame → 0 < names_of nodes frame
    under None is = absurd (not_unmapped is)
    under (Some key) is = of_node key (object nodes key) refl is

-- a page that is counted is there
pub counted_used : (pages : List (Option Page)) (key : ℕ) → 0 < count_at pages key → InUse pages key
counted_used pages key counted = there (object pages key) counted
  where
    there : (page : Option Page) → 0 < page_count page → is_some page ≡ true
    there None none = absurd (omega arith)
    there (Some page) some = refl

-- what an entry stands for stays where the frames stay and some page has the entry before and after
content_stays : (old new : Heap) (was now : List (Option ℕ)) (before after : ℕ) (e : PageEntry)
    → IsCounted old.nodes old.pages → IsCounted new.nodes new.pages → FramesStay old.pages new.pages
    → entry_at old.nodes was before ≡ e → entry_at new.nodes now after ≡ e
    → content_of new.pages e ≡ content_of old.pages e
content_stays old new was now before after entry.Unmapped counted recounted stay had has = refl
content_stays old new was now before after entry.Zero counted recounted stay had has = refl
content_stays old new was now before after (entry.Frame frame) counted recounted stay had has =
    stay frame
    (counted_used old.pages frame (subst (λ n. 0 < n) (sym (counted.counts frame)) (named_once old.nodes was before frame had)))
    (counted_used new.pages frame (subst (λ n. 0 < n) (sym (recounted.counts frame)) (named_once new.nodes now after frame has)))

-- a page that has the entry that it had has the bytes that it had
pub content_same : (old new : Heap) (was now : List (Option ℕ)) (before after : ℕ)
    → IsCounted old.nodes old.pages → IsCounted new.nodes new.pages → FramesStay old.pages new.pages
    → entry_at new.nodes now after ≡ entry_at old.nodes was before
    → content_at new now after ≡ content_at old was before
content_same old new was now before after counted recounted stay same =
    ap (content_of new.pages) same
    ∙ content_stays old new was now before after (entry_at old.nodes was before) counted recounted stay refl same

-- the keys of one of several spaces are among those of all
space_used : (spaces : List (List (Option ℕ))) (one : List (Option ℕ)) (key : ℕ) → Contains spaces one → Contains (keys_in one) key → Contains (node_keys spaces) key
space_used [] one key among its = absurd (omega (arith, among.1))
space_used (first ∷ spaces) one key among its =
    ⊎_elim
    (λ here. Contains-append_left (keys_in first) (node_keys spaces) key (subst (λ space. Contains (keys_in space) key) (sym (only here)) its))
    (λ behind. Contains-append_right (keys_in first) (node_keys spaces) key (space_used spaces one key behind its))
    (Contains-append_cases (first ∷ []) spaces one among)
  where
    only : Contains (first ∷ []) one → first ≡ one
    only (zero, within, is) = is
    only (suc at, within, is) = absurd (omega arith)

-- the entries of another space
pub other_entries : (old new : Heap) (space now : List (Option ℕ)) (others : Owners) (other : List (Option ℕ))
    → ChangesKeys old.nodes new.nodes (keys_in space) (keys_in now)
    → IsOwned old (with_space space others) → Contains others.spaces other
    → (page : ℕ) → entry_at new.nodes other page ≡ entry_at old.nodes other page
other_entries old new space now others other changes owned among page =
    entry_stays old.nodes new.nodes other other page refl (λ key is.
    let its : Contains (keys_in other) key = key_there other (page / 64) key is in
    let apart : Contains (keys_in space) key → ⊥ = λ mine. IsOwned-spaces_apart old others space other owned among key mine its in
    changes.outside key (λ named. ⊎_elim apart
    (λ mine. ⊎_elim apart
    (λ vacant. absurd (used_not key its vacant))
    (changes.fresh key mine))
    (Contains-append_cases (keys_in space) (keys_in now) key named)))
  where
    used_not : (key : ℕ) → Contains (keys_in other) key → object old.nodes key ≡ None → ⊥
    used_not key its vacant =
        unused old.nodes key vacant (owned.nodes.used key (Contains-append_right (keys_in space) (node_keys others.spaces) key (space_used others.spaces other key among its)))

-- one page of a space turned to another entry, and the pages' counts followed it
pub SpaceMoves-turned : (old new : Heap) (space now : List (Option ℕ)) (page : ℕ) (was is : PageEntry)
    → PageTurns old.nodes new.nodes space now page was is
    → ((frame : ℕ) → count_at new.pages frame + names_page frame was ≡ count_at old.pages frame + names_page frame is)
    → (AllNamed old.pages → AllNamed new.pages) → FramesStay old.pages new.pages
    → new ≡ record old { nodes = new.nodes; pages = new.pages; high = new.high }
    → SpaceMoves old new space now
SpaceMoves-turned old new space now page was is turns counts named stay kept =
    record {
      owners = owners;
      others = λ others other owned among at.
          content_same old new other other at at owned.pages (recounted others owned) stay
          (other_entries old new space now others other turns.keys owned among at);
      kept = kept;
    }
  where
    recounted : (others : Owners) → IsOwned old (with_space space others) → IsCounted new.nodes new.pages
    recounted others owned = record {
      counts = λ frame. omega (arith, turns.names frame, counts frame, owned.pages.counts frame);
      named = named owned.pages.named;
    }

    owners : (others : Owners) → IsOwned old (with_space space others) → IsOwned new (with_space now others)
    owners others owned = IsOwned-space_changes old new others space now
        (record { nodes = turns.keys; owns = turns.owns; pages = recounted others owned; chunks = ap (λ h. h.chunks) kept }) owned

-- the space's other pages have what they had
pub content_others : (old new : Heap) (space now : List (Option ℕ)) (page : ℕ) (was is : PageEntry) (others : Owners)
    → PageTurns old.nodes new.nodes space now page was is → SpaceMoves old new space now → FramesStay old.pages new.pages
    → IsOwned old (with_space space others)
    → (at : ℕ) → at ≢ page → content_at new now at ≡ content_at old space at
content_others old new space now page was is others turns moves stay owned at apart =
    content_same old new space now at at owned.pages (let owned' = moves.owners others owned in owned'.pages) stay (turns.others at apart)

-- nothing has changed
pub SpaceMoves-refl : (h : Heap) (space : List (Option ℕ)) → SpaceMoves h h space space
SpaceMoves-refl h space = record { owners = λ others owned. owned; others = λ others other owned among page. refl; kept = refl }

-- two changes in a row
pub SpaceMoves-trans : (a b c : Heap) (first second third : List (Option ℕ))
    → SpaceMoves a b first second → SpaceMoves b c second third → SpaceMoves a c first third
SpaceMoves-trans a b c first second third one two = record {
  owners = λ others owned. two.owners others (one.owners others owned);
  others = λ others other owned among page. two.others others other (one.owners others owned) among page ∙ one.others others other owned among page;
  kept = two.kept ∙ ap (λ (h : Heap). record h { nodes = c.nodes; pages = c.pages; high = c.high }) one.kept;
}

-- a space's entry names a page that is counted
pub IsNamed-entry : (nodes : List (Option Node)) (pages : List (Option Page)) (space : List (Option ℕ)) (page : ℕ) (e : PageEntry)
    → IsCounted nodes pages → entry_at nodes space page ≡ e → IsNamed pages e
IsNamed-entry nodes pages space page entry.Unmapped counted is = tt
IsNamed-entry nodes pages space page entry.Zero counted is = tt
IsNamed-entry nodes pages space page (entry.Frame frame) counted is =
    subst (λ n. 0 < n) (sym (counted.counts frame)) (named_once nodes space page frame is)

-- an entry is taken away, and then what it named is named once less
module _ (old mid new : Heap) (space now : List (Option ℕ)) (page : ℕ)
    (turns : PageTurns old.nodes mid.nodes space now page (entry_at old.nodes space page) entry.Unmapped)
    (first : mid ≡ record old { nodes = mid.nodes }) (e : PageEntry) (is : e ≡ entry_at old.nodes space page)
    (counts : (frame : ℕ) → count_at new.pages frame + names_page frame e ≡ count_at mid.pages frame)
    (named : AllNamed mid.pages → AllNamed new.pages) (stay : FramesStay mid.pages new.pages)
    (second : new ≡ record mid { pages = new.pages }) where
  pages_same : mid.pages ≡ old.pages
  pages_same = ap (λ h. h.pages) first

  turned : PageTurns old.nodes new.nodes space now page (entry_at old.nodes space page) entry.Unmapped
  turned = subst (λ nodes. PageTurns old.nodes nodes space now page (entry_at old.nodes space page) entry.Unmapped) (sym (ap (λ h. h.nodes) second)) turns

  frames_stay : FramesStay old.pages new.pages
  frames_stay = subst (λ pages. FramesStay pages new.pages) pages_same stay

  pub unmapped-moves : SpaceMoves old new space now
  unmapped-moves = SpaceMoves-turned old new space now page (entry_at old.nodes space page) entry.Unmapped turned
      (λ frame. omega (arith, counts frame, ap (names_page frame) is, ap (λ pages. count_at pages frame) pages_same))
      (λ before. named (subst AllNamed (sym pages_same) before))
      frames_stay
      (second ∙ ap (λ (h : Heap). record h { pages = new.pages }) first
      ∙ ap (λ (nodes : List (Option Node)). record old { nodes = nodes; pages = new.pages }) (sym (ap (λ h. h.nodes) second))
      ∙ ap (λ (high : ℕ). record old { nodes = new.nodes; pages = new.pages; high = high }) (sym (ap (λ h. h.high) second ∙ ap (λ h. h.high) first)))

  pub unmapped-others : (others : Owners) → IsOwned old (with_space space others) → (at : ℕ) → at ≢ page → content_at new now at ≡ content_at old space at
  unmapped-others others owned = content_others old new space now page (entry_at old.nodes space page) entry.Unmapped others turned unmapped-moves frames_stay owned
