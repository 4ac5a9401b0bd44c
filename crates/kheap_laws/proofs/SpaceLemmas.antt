-- How many entries name a page, after a change of the nodes, and what the pages' counts must then be.
use Rattle.std.proofs.Common.{◌≡◌, ◌≢◌, ℕ, ◌+◌, ◌*◌, ◌<◌, ◌≤◌, ◌/◌, List, [], ◌∷◌, Option, Some, None, length, set, cond, is_some, refl, sym, ap, ◌∙◌, ◌++◌, suc, inl, inr, arith}
use Rattle.std.proofs.lemmas.Bool.{cases_eq}
use Rattle.std.specs.Option.{option_map}
use Rattle.std.specs.List.{sum_by}
use Rattle.std.proofs.lemmas.List.Elements.{Contains-append_left, Contains-append_right}
use Rattle.std.proofs.lemmas.List.Sums.{sum_by-cons, sum_by-set}
use Rattle.kheap_slabs.specs.Objects.{object, InUse, count, put, without}
use Rattle.kheap_slabs.specs.declared.objects.Node.{Node}
use Rattle.kheap_slabs.specs.declared.objects.Page.{Page}
use Rattle.kheap_slabs.specs.declared.objects.PageEntry.{PageEntry}
use Rattle.kheap_slabs.specs.declared.objects.PageEntry.TheVariants as entry
use Rattle.kheap_slabs.specs.Heap.{Heap, IsWellFormed}
use Rattle.kheap_slabs.specs.Outside.{KeepsOutside}
use Rattle.kheap_slabs.specs.Keys.{Apart}
use Rattle.kheap_slabs.specs.Spaces.{is_mapped, mapped_count, keys_in, OwnsNodes, NamesNone, names_page, names_in, names_of, page_count, count_at, IsCounted, EntryChanges, CountRises, CountFalls, KeepsBytes}
use Rattle.kheap_slabs.proofs.ObjectLemmas.{InUse-within, put-within, object-put, object-put_other, object-without, object-without_other}

-- a change of the nodes of one space leaves those of another
pub OwnsNodes-apart : (changed : List ℕ) (old new : List (Option Node)) (space : List (Option ℕ)) → KeepsOutside changed old new → Apart changed (keys_in space) → OwnsNodes old space → OwnsNodes new space
OwnsNodes-apart changed old new space kept apart owns = record {
  used = λ key there. rw (kept key (λ here. apart key here there)) (owns.used key there);
  mapped = λ key node there is. owns.mapped key node there (sym (kept key (λ here. apart key here there)) ∙ is);
  once = owns.once;
}

-- a node in place of another takes that one's entries out of the count and puts its own in
pub names_of-put : (nodes : List (Option Node)) (key page : ℕ) (old new : Node) → object nodes key ≡ Some old → names_of (put nodes key new) page + names_in page (Some old) ≡ names_of nodes page + names_in page (Some new)
names_of-put nodes key page old new is =
    rw is at (sum_by-set (names_in page) nodes key (Some new) None (InUse-within nodes key (rw is refl)))

pub names_of-insert : (nodes : List (Option Node)) (key page : ℕ) (new : Node) → key < length nodes → object nodes key ≡ None → names_of (put nodes key new) page ≡ names_of nodes page + names_in page (Some new)
names_of-insert nodes key page new within vacant =
    omega (arith, rw vacant at (sum_by-set (names_in page) nodes key (Some new) None within))

pub names_of-without : (nodes : List (Option Node)) (key page : ℕ) (old : Node) → object nodes key ≡ Some old → names_of (without nodes key) page + names_in page (Some old) ≡ names_of nodes page
names_of-without nodes key page old is =
    omega (arith, rw is at (sum_by-set (names_in page) nodes key None None (InUse-within nodes key (rw is refl))))

-- a node comes under a key that was free, and each page's count grows by its entries that name the page
pub IsCounted-comes : (nodes : List (Option Node)) (pages changed : List (Option Page)) (key : ℕ) (node : Node) → object nodes key ≡ None → object (put nodes key node) key ≡ Some node → ((page : ℕ) → count_at changed page ≡ count_at pages page + names_in page (Some node)) → ((page : ℕ) → InUse changed page → 0 < count_at changed page) → IsCounted nodes pages → IsCounted (put nodes key node) changed
IsCounted-comes nodes pages changed key node vacant stored moved named counted = record {
  counts = λ page. omega (arith, names_of-insert nodes key page node (put-within nodes key node stored) vacant, moved page, counted.counts page);
  named = named;
}

-- a node goes, and each page's count falls by its entries that named the page
pub IsCounted-goes : (nodes : List (Option Node)) (pages changed : List (Option Page)) (key : ℕ) (node : Node) → object nodes key ≡ Some node → ((page : ℕ) → count_at changed page + names_in page (Some node) ≡ count_at pages page) → ((page : ℕ) → InUse changed page → 0 < count_at changed page) → IsCounted nodes pages → IsCounted (without nodes key) changed
IsCounted-goes nodes pages changed key node is moved named counted = record {
  counts = λ page. omega (arith, names_of-without nodes key page node is, moved page, counted.counts page);
  named = named;
}

-- a node is put in place of another, and each page's count moves by their entries
pub IsCounted-replaced : (nodes : List (Option Node)) (pages changed : List (Option Page)) (key : ℕ) (old new : Node) → object nodes key ≡ Some old → ((page : ℕ) → count_at changed page + names_in page (Some old) ≡ count_at pages page + names_in page (Some new)) → ((page : ℕ) → InUse changed page → 0 < count_at changed page) → IsCounted nodes pages → IsCounted (put nodes key new) changed
IsCounted-replaced nodes pages changed key old new is moved named counted = record {
  counts = λ page. omega (arith, names_of-put nodes key page old new is, moved page, counted.counts page);
  named = named;
}

-- an entry in place of another
pub names_of-entry : (old new : List (Option Node)) (was now : PageEntry) (page : ℕ) → EntryChanges old new was now → names_of new page + names_page page was ≡ names_of old page + names_page page now
names_of-entry old new was now page change =
    let moved = names_of-put old change.key page change.node change.changed change.is in
    let inner = rw change.was_there at (sum_by-set (names_page page) change.node.entries change.at now was change.within) in
    let same : names_in page (Some change.changed) ≡ sum_by (names_page page) (set change.node.entries change.at now) = ap (sum_by (names_page page)) change.written in
    rw change.stored (omega (arith, moved, inner, same))

-- and how many of the node's pages are mapped
pub mapped_count-entry : (old new : List (Option Node)) (was now : PageEntry) (change : EntryChanges old new was now) → mapped_count change.changed + cond (is_mapped was) 1 0 ≡ mapped_count change.node + cond (is_mapped now) 1 0
mapped_count-entry old new was now change =
    let inner = rw change.was_there at (sum_by-set (λ e. cond (is_mapped e) 1 0) change.node.entries change.at now was change.within) in
    let same : mapped_count change.changed ≡ sum_by (λ e. cond (is_mapped e) 1 0) (set change.node.entries change.at now) = ap (sum_by (λ e. cond (is_mapped e) 1 0)) change.written in
    omega (arith, inner, same)

names_page-none : (page : ℕ) (e : PageEntry) → NamesNone e → names_page page e ≡ 0
names_page-none page entry.Unmapped none = refl
names_page-none page entry.Zero none = refl
names_page-none page (entry.Frame key) none = absurd none

names_page-same : (page : ℕ) → names_page page (entry.Frame page) ≡ 1
names_page-same page = grind arith

names_page-other : (page key : ℕ) → page ≢ key → names_page page (entry.Frame key) ≡ 0
names_page-other page key differs = grind arith

-- an entry in place of another, where the counts of the pages move with it
pub IsCounted-moves : (old new : List (Option Node)) (pages changed : List (Option Page)) (was now : PageEntry) → EntryChanges old new was now → ((page : ℕ) → count_at changed page + names_page page was ≡ count_at pages page + names_page page now) → ((page : ℕ) → InUse changed page → 0 < count_at changed page) → IsCounted old pages → IsCounted new changed
IsCounted-moves old new pages changed was now change moved named counted = record {
  counts = λ page. omega (arith, names_of-entry old new was now page change, moved page, counted.counts page);
  named = named;
}

-- an entry that named no page names none still
pub IsCounted-stays : (old new : List (Option Node)) (pages : List (Option Page)) (was now : PageEntry) → EntryChanges old new was now → NamesNone was → NamesNone now → IsCounted old pages → IsCounted new pages
IsCounted-stays old new pages was now change none still counted =
    IsCounted-moves old new pages pages was now change (λ page. omega (arith, names_page-none page was none, names_page-none page now still)) counted.named counted

-- an entry that named no page names one from now on
pub IsCounted-names : (old new : List (Option Node)) (pages changed : List (Option Page)) (was : PageEntry) (page : ℕ) → EntryChanges old new was (entry.Frame page) → NamesNone was → CountRises pages changed page → IsCounted old pages → IsCounted new changed
IsCounted-names old new pages changed was page change none rises counted =
    IsCounted-moves old new pages changed was (entry.Frame page) change moved named counted
  where
    moved : (other : ℕ) → count_at changed other + names_page other was ≡ count_at pages other + names_page other (entry.Frame page)
    moved other = elim (cases_eq other page) [
      | inl e ↦ rw e (omega (arith, names_page-none page was none, names_page-same page, rises.more))
      | inr d ↦ omega (arith, names_page-none other was none, names_page-other other page d, ap page_count (rises.others other d))
    ]

    named : (other : ℕ) → InUse changed other → 0 < count_at changed other
    named other used = elim (cases_eq other page) [
      | inl e ↦ rw e (omega (arith, rises.more))
      | inr d ↦ rw (rises.others other d) (counted.named other (rw (← rises.others other d) used))
    ]

-- an entry that named a page names none from now on, and the page is gone where it was the last one
pub IsCounted-drops : (old new : List (Option Node)) (pages changed : List (Option Page)) (page : ℕ) (now : PageEntry) → EntryChanges old new (entry.Frame page) now → NamesNone now → CountFalls pages changed page → IsCounted old pages → IsCounted new changed
IsCounted-drops old new pages changed page now change none falls counted =
    IsCounted-moves old new pages changed (entry.Frame page) now change moved named counted
  where
    moved : (other : ℕ) → count_at changed other + names_page other (entry.Frame page) ≡ count_at pages other + names_page other now
    moved other = elim (cases_eq other page) [
      | inl e ↦ rw e (omega (arith, names_page-none page now none, names_page-same page, falls.less))
      | inr d ↦ omega (arith, names_page-none other now none, names_page-other other page d, ap page_count (falls.others other d))
    ]

    named : (other : ℕ) → InUse changed other → 0 < count_at changed other
    named other used = elim (cases_eq other page) [
      | inl e ↦ rw e (falls.left (rw e at used))
      | inr d ↦ rw (falls.others other d) (counted.named other (rw (← falls.others other d) used))
    ]

-- an entry that named one page names another from now on: that one's count rises, and the first one's falls
pub IsCounted-turns : (old new : List (Option Node)) (pages between changed : List (Option Page)) (page next : ℕ) → EntryChanges old new (entry.Frame page) (entry.Frame next) → CountRises pages between next → CountFalls between changed page → IsCounted old pages → IsCounted new changed
IsCounted-turns old new pages between changed page next change rises falls counted =
    IsCounted-moves old new pages changed (entry.Frame page) (entry.Frame next) change moved named counted
  where
    risen : (other : ℕ) → count_at between other ≡ count_at pages other + names_page other (entry.Frame next)
    risen other = elim (cases_eq other next) [
      | inl e ↦ rw e (omega (arith, names_page-same next, rises.more))
      | inr d ↦ omega (arith, names_page-other other next d, ap page_count (rises.others other d))
    ]

    fallen : (other : ℕ) → count_at changed other + names_page other (entry.Frame page) ≡ count_at between other
    fallen other = elim (cases_eq other page) [
      | inl e ↦ rw e (omega (arith, names_page-same page, falls.less))
      | inr d ↦ omega (arith, names_page-other other page d, ap page_count (falls.others other d))
    ]

    moved : (other : ℕ) → count_at changed other + names_page other (entry.Frame page) ≡ count_at pages other + names_page other (entry.Frame next)
    moved other = fallen other ∙ risen other

    in_between : (other : ℕ) → InUse between other → 0 < count_at between other
    in_between other used = elim (cases_eq other next) [
      | inl e ↦ rw e (omega (arith, rises.more))
      | inr d ↦ rw (rises.others other d) (counted.named other (rw (← rises.others other d) used))
    ]

    named : (other : ℕ) → InUse changed other → 0 < count_at changed other
    named other used = elim (cases_eq other page) [
      | inl e ↦ rw e (falls.left (rw e at used))
      | inr d ↦ rw (falls.others other d) (in_between other (rw (← falls.others other d) used))
    ]

names_page-most : (page : ℕ) (e : PageEntry) → names_page page e ≤ 1
names_page-most page entry.Unmapped = omega arith
names_page-most page entry.Zero = omega arith
names_page-most page (entry.Frame key) = grind arith

names_in-most : (page : ℕ) (entries : List PageEntry) → sum_by (names_page page) entries ≤ length entries
names_in-most page [] = omega arith
names_in-most page (e ∷ rest) =
    rw sum_by-cons (one_more (names_page page e) (sum_by (names_page page) rest) (length rest) (length (e ∷ rest)) (names_page-most page e) (names_in-most page rest) (omega arith))
  where
    one_more : (a b n m : ℕ) → a ≤ 1 → b ≤ n → m ≡ n + 1 → a + b ≤ m
    one_more a b n m first rest long = omega arith

names_of-most : (nodes : List (Option Node)) (page : ℕ) → ((key : ℕ) (node : Node) → object nodes key ≡ Some node → length node.entries ≡ 64) → names_of nodes page ≤ 64 * count nodes
names_of-most [] page whole = omega arith
names_of-most (first ∷ rest) page whole =
    let names = sum_by-cons (names_in page) first rest in
    let there = sum_by-cons (λ (o : Option Node). cond (is_some o) 1 0) first rest in
    together (names_in page first) (names_of rest page) (names_of (first ∷ rest) page) (cond (is_some first) 1 0) (count rest) (count (first ∷ rest)) names there (of_one first (λ node is. whole 0 node is)) (names_of-most rest page (λ key node is. whole (suc key) node is))
  where
    of_one : (o : Option Node) → ((node : Node) → o ≡ Some node → length node.entries ≡ 64) → names_in page o ≤ 64 * cond (is_some o) 1 0
    of_one None long = omega arith
    of_one (Some node) long = omega (arith, names_in-most page node.entries, long node refl)

    together : (a b c d e f : ℕ) → c ≡ a + b → f ≡ d + e → a ≤ 64 * d → b ≤ 64 * e → c ≤ 64 * f
    together a b c d e f names there one others = omega arith

-- no page is named by more entries than the heap has room for
pub IsCounted-most : (h : Heap) (page : ℕ) → IsWellFormed h → IsCounted h.nodes h.pages → count_at h.pages page ≤ h.heap / 8
IsCounted-most h page well counted =
    omega (arith, counted.counts page, names_of-most h.nodes page well.entries, well.live_within, well.high_within)

pub KeepsBytes-refl : (keys : List ℕ) (pages : List (Option Page)) → KeepsBytes keys pages pages
KeepsBytes-refl keys pages key outside = refl

pub KeepsBytes-trans : (first second : List ℕ) (a b c : List (Option Page)) → KeepsBytes first a b → KeepsBytes second b c → KeepsBytes (first ++ second) a c
KeepsBytes-trans first second a b c one two key outside =
    two key (λ there. outside (Contains-append_right first second key there)) ∙ one key (λ there. outside (Contains-append_left first second key there))

-- pages that are as they were have the bytes that they had
pub KeepsBytes-outside : (keys : List ℕ) (old new : List (Option Page)) → KeepsOutside keys old new → KeepsBytes keys old new
KeepsBytes-outside keys old new kept key outside = ap (option_map (λ page. page.bytes)) (kept key outside)

-- a page gets another count and keeps its bytes
pub KeepsBytes-count : (pages : List (Option Page)) (at : ℕ) (page written : Page) → object pages at ≡ Some page → written.bytes ≡ page.bytes → KeepsBytes [] pages (put pages at written)
KeepsBytes-count pages at page written is same key outside = elim (cases_eq key at) [
  | inl e ↦ rw (e, object-put pages at written (InUse-within pages at (rw is refl)), is, same) refl
  | inr d ↦ ap (option_map (λ page. page.bytes)) (object-put_other pages at key written d)
]

-- how a page's count rises and falls
pub CountRises-inserted : (pages : List (Option Page)) (key : ℕ) (page : Page) → object pages key ≡ None → object (put pages key page) key ≡ Some page → page.count ≡ 1 → CountRises pages (put pages key page) key
CountRises-inserted pages key page vacant stored first = record {
  more = rw (stored, vacant, first) refl;
  others = λ other differs. object-put_other pages key other page differs;
}

pub CountRises-set : (pages : List (Option Page)) (key : ℕ) (page written : Page) → object pages key ≡ Some page → written.count ≡ page.count + 1 → CountRises pages (put pages key written) key
CountRises-set pages key page written is more = record {
  more = rw (object-put pages key written (InUse-within pages key (rw is refl)), is) more;
  others = λ other differs. object-put_other pages key other written differs;
}

pub CountFalls-set : (pages : List (Option Page)) (key : ℕ) (page written : Page) → object pages key ≡ Some page → written.count + 1 ≡ page.count → 1 < page.count → CountFalls pages (put pages key written) key
CountFalls-set pages key page written is less shared =
    let stored = object-put pages key written (InUse-within pages key (rw is refl)) in
    record {
      less = rw (stored, is) less;
      left = λ used. rw stored (omega arith);
      others = λ other differs. object-put_other pages key other written differs;
    }

pub CountFalls-freed : (pages : List (Option Page)) (key : ℕ) (page : Page) → object pages key ≡ Some page → page.count ≡ 1 → CountFalls pages (without pages key) key
CountFalls-freed pages key page is last =
    let gone = object-without pages key (InUse-within pages key (rw is refl)) in
    record {
      less = rw (gone, is, last) refl;
      left = λ used. absurd (empty gone used);
      others = λ other differs. object-without_other pages key other differs;
    }
  where
    empty : object (without pages key) key ≡ None → InUse (without pages key) key → ⊥
    empty gone used = grind arith
