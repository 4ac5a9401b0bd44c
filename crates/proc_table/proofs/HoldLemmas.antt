-- A table that holds goes on holding, and leaves all others what they had.
use Rattle.std.proofs.Common.{◌≡◌, ◌⊎◌, ℕ, List, [], ◌∷◌, ◌++◌, Option, None, Some, is_some, refl, sym, ap, ◌∙◌, subst, inl, inr, arith, Contains}
use Rattle.std.specs.List.{AllByRecursion, filter_map}
use Rattle.std.proofs.lemmas.List.Elements.{Contains-append_left, Contains-append_right, Contains-append_cases}
use Rattle.kheap_slabs.specs.Objects.{object, InUse}
use Rattle.kheap_slabs.specs.declared.objects.Node.{Node}
use Rattle.kheap_slabs.specs.declared.objects.Page.{Page}
use Rattle.kheap_slabs.specs.declared.objects.Proc.{Proc}
use Rattle.kheap_slabs.specs.Heap.{Heap}
use Rattle.kheap_slabs.specs.Keys.{ChangesKeys}
use Rattle.kheap_slabs.specs.Owners.{Owners, IsOwned}
use Rattle.kheap_slabs.specs.Spaces.{keys_in}
use Rattle.kheap_laws.proofs.KeyLemmas.{contains_or_not}
use Rattle.kheap_laws.proofs.OwnerLemmas.{IsOwned-same}
use Rattle.page_space.specs.Contents.{content_at}
use Rattle.proc_table.specs.Moves.{MemoryStays, TableMoves}
use Rattle.proc_table.specs.Procs.{IsLight}
use Rattle.proc_table.specs.Table.{Holds, TableView, is_kept, keys_of, places_kept, processes, with_procs}
use Rattle.proc_table.proofs.PlaceLemmas.{AreBetween-filter, Follows, Misses, follows_keys, follows_procs, follows_stored}
use Rattle.proc_table.proofs.OwnLemmas.{all_filter_map, keys_left, nodes_named, same_nodes}

-- what each process becomes has its pid, is light, and has the nodes of the process, which are none where it goes
pub record Becomes (P : Proc → Type 0) (becomes : Proc → Option Proc) : Type 0 where
  pub pid : (proc now : Proc) → becomes proc ≡ Some now → now.pid ≡ proc.pid
  pub light : (proc now : Proc) → P proc → becomes proc ≡ Some now → IsLight now
  pub keys : (proc : Proc) → P proc → keys_left (becomes proc) ≡ keys_in proc.nodes

-- the pages of a space have what they had where nodes and pages are the same
pub content_kept : (old new : Heap) (space : List (Option ℕ)) (page : ℕ) → new.nodes ≡ old.nodes → new.pages ≡ old.pages → content_at new space page ≡ content_at old space page
content_kept old new space page nodes pages = rw (nodes, pages) refl

pub memory_kept : (old new : Heap) (procs : List Proc) → new.nodes ≡ old.nodes → new.pages ≡ old.pages → MemoryStays old new procs
memory_kept old new [] nodes pages = tt
memory_kept old new (proc ∷ procs) nodes pages = ((λ page. content_kept old new proc.nodes page nodes pages), memory_kept old new procs nodes pages)

pub memory_on : (a b c : Heap) (procs : List Proc) → MemoryStays a b procs → MemoryStays b c procs → MemoryStays a c procs
memory_on a b c [] one two = tt
memory_on a b c (proc ∷ procs) one two = ((λ page. two.0 page ∙ one.0 page), memory_on a b c procs one.1 two.1)

-- where its processes alone are others
pub procs_alone : (old new : Heap) → new ≡ record old { procs = new.procs } → new ≡ record old { procs = new.procs; nodes = new.nodes; pages = new.pages; high = new.high }
procs_alone old new kept =
    kept
    ∙ ap (λ (nodes : List (Option Node)). record old { procs = new.procs; nodes = nodes }) (sym (ap (λ (h : Heap). h.nodes) kept))
    ∙ ap (λ (pages : List (Option Page)). record old { procs = new.procs; nodes = new.nodes; pages = pages }) (sym (ap (λ (h : Heap). h.pages) kept))
    ∙ ap (λ (high : ℕ). record old { procs = new.procs; nodes = new.nodes; pages = new.pages; high = high }) (sym (ap (λ (h : Heap). h.high) kept))

pub procs_on : (old new : Heap) (procs : List (Option Proc)) → new ≡ record old { procs = procs; high = new.high }
    → new ≡ record old { procs = new.procs; nodes = new.nodes; pages = new.pages; high = new.high }
procs_on old new procs kept =
    kept
    ∙ ap (λ (procs : List (Option Proc)). record old { procs = procs; high = new.high }) (sym (ap (λ (h : Heap). h.procs) kept))
    ∙ ap (λ (nodes : List (Option Node)). record old { procs = new.procs; nodes = nodes; high = new.high }) (sym (ap (λ (h : Heap). h.nodes) kept))
    ∙ ap (λ (pages : List (Option Page)). record old { procs = new.procs; nodes = new.nodes; pages = pages; high = new.high }) (sym (ap (λ (h : Heap). h.pages) kept))

-- each process of a table becomes what it becomes
module _ (P : Proc → Type 0) (becomes : Proc → Option Proc) (sound : Becomes P becomes) (old new : Heap) (was : TableView) (holds : Holds old was)
    (all : AllByRecursion P (processes old was))
    (follows : Follows becomes old.procs new.procs was.listed)
    (missed : (key : ℕ) → Misses key was.listed → object new.procs key ≡ object old.procs key)
    (kept : new ≡ record old { procs = new.procs }) where
  abbrev pub now_kept : TableView
  now_kept = record was { listed = places_kept becomes old.procs was.listed }

  pub becomes-procs : processes new now_kept ≡ filter_map becomes (processes old was)
  becomes-procs = follows_procs becomes old.procs new.procs was.listed holds.stored follows

  owned_on : (others : Owners) → IsOwned old (with_procs (processes old was) others) → IsOwned new (with_procs (processes new now_kept) others)
  owned_on others owned =
      subst (λ procs. IsOwned new (with_procs procs others)) (sym becomes-procs)
      (IsOwned-same old new (with_procs (filter_map becomes (processes old was)) others)
      (ap (λ (h : Heap). h.nodes) kept) (ap (λ (h : Heap). h.pages) kept) (ap (λ (h : Heap). h.chunks) kept)
      (same_nodes old (with_procs (processes old was) others) (with_procs (filter_map becomes (processes old was)) others)
      (nodes_named P becomes (processes old was) others.spaces sound.keys all) refl owned))

  pub becomes-moves : TableMoves old was new now_kept
  becomes-moves = record {
    holds = record {
      stored = follows_stored becomes old.procs new.procs was.listed sound.pid holds.stored follows;
      rising = AreBetween-filter (is_kept becomes old.procs) was.listed 0 was.last holds.rising;
      light = subst (AllByRecursion IsLight) (sym becomes-procs) (all_filter_map P IsLight becomes (processes old was) sound.light all);
      owned = (holds.owned.0, owned_on holds.owned.0 holds.owned.1);
    };
    owners = owned_on;
    others = λ others other owned there page. content_kept old new other page (ap (λ (h : Heap). h.nodes) kept) (ap (λ (h : Heap). h.pages) kept);
    keys = follows_keys becomes old.procs new.procs was.listed follows missed;
    kept = procs_alone old new kept;
  }

-- two changes of keys in a row
not_used : (objects : List (Option Proc)) (key : ℕ) → (InUse objects key → ⊥) → object objects key ≡ None
not_used objects key unused = by_case (object objects key) refl
  where
    by_case : (o : Option Proc) → object objects key ≡ o → object objects key ≡ None
    by_case None is = is
    by_case (Some proc) is = absurd (unused (ap is_some is))

vacant_or_used : (objects : List (Option Proc)) (key : ℕ) → (object objects key ≡ None) ⊎ InUse objects key
vacant_or_used objects key = by_case (object objects key) refl
  where
    by_case : (o : Option Proc) → object objects key ≡ o → (object objects key ≡ None) ⊎ InUse objects key
    by_case None is = inl is
    by_case (Some proc) is = inr (ap is_some is)

pub keys_on : (a b c : List (Option Proc)) (one two three : List ℕ) → ChangesKeys a b one two → ChangesKeys b c two three → ChangesKeys a c one three
keys_on a b c one two three first second = record {
  outside = outside;
  fresh = fresh;
  left = λ key there used. left key there used (vacant_or_used b key);
}
  where
    not_first : (key : ℕ) → (Contains (one ++ three) key → ⊥) → (Contains two key → ⊥) → Contains (one ++ two) key → ⊥
    not_first key absent not_two there = elim (Contains-append_cases one two key there) [
      | inl in_one ↦ absent (Contains-append_left one three key in_one)
      | inr in_two ↦ not_two in_two
    ]

    not_second : (key : ℕ) → (Contains (one ++ three) key → ⊥) → (Contains two key → ⊥) → Contains (two ++ three) key → ⊥
    not_second key absent not_two there = elim (Contains-append_cases two three key there) [
      | inl in_two ↦ not_two in_two
      | inr in_three ↦ absent (Contains-append_right one three key in_three)
    ]

    in_two : (key : ℕ) → (Contains (one ++ three) key → ⊥) → Contains two key → object c key ≡ object a key
    in_two key absent there =
        let gone : object c key ≡ None = not_used c key (λ used. absent (Contains-append_right one three key (second.left key there used))) in
        elim (first.fresh key there) [
          | inl had ↦ absurd (absent (Contains-append_left one three key had))
          | inr vacant ↦ gone ∙ sym vacant
        ]

    outside : (key : ℕ) → (Contains (one ++ three) key → ⊥) → object c key ≡ object a key
    outside key absent = elim (contains_or_not two key) [
      | inl there ↦ in_two key absent there
      | inr not_two ↦ second.outside key (not_second key absent not_two) ∙ first.outside key (not_first key absent not_two)
    ]

    fresh_from : (key : ℕ) → object b key ≡ None → Contains one key ⊎ (object a key ≡ None)
    fresh_from key vacant = elim (contains_or_not one key) [
      | inl had ↦ inl had
      | inr not_one ↦ elim (contains_or_not two key) [
        | inl there ↦ first.fresh key there
        | inr not_two ↦ inr (sym (first.outside key (λ there. elim (Contains-append_cases one two key there) [ inl had ↦ not_one had | inr has ↦ not_two has ])) ∙ vacant)
      ]
    ]

    fresh : (key : ℕ) → Contains three key → Contains one key ⊎ (object a key ≡ None)
    fresh key there = elim (second.fresh key there) [
      | inl in_two ↦ first.fresh key in_two
      | inr vacant ↦ fresh_from key vacant
    ]

    not_either : (key : ℕ) → (Contains two key → ⊥) → (Contains three key → ⊥) → Contains (two ++ three) key → ⊥
    not_either key not_two not_three there = elim (Contains-append_cases two three key there) [ inl has ↦ not_two has | inr has ↦ not_three has ]

    left : (key : ℕ) → Contains one key → InUse c key → (object b key ≡ None) ⊎ InUse b key → Contains three key
    left key there used (inr between) = second.left key (first.left key there between) used
    left key there used (inl vacant) = elim (contains_or_not two key) [
      | inl has ↦ second.left key has used
      | inr not_two ↦ elim (contains_or_not three key) [
        | inl has ↦ has
        | inr not_three ↦ absurd (by_use (second.outside key (not_either key not_two not_three) ∙ vacant) used)
      ]
    ]
      where
        by_use : object c key ≡ None → InUse c key → ⊥
        by_use is used = grind arith

-- two changes of a table in a row
pub moves_on : (a b c : Heap) (first second third : TableView) → TableMoves a first b second → TableMoves b second c third → TableMoves a first c third
moves_on a b c first second third one two = record {
  holds = two.holds;
  owners = λ others owned. two.owners others (one.owners others owned);
  others = λ others other owned there page. two.others others other (one.owners others owned) there page ∙ one.others others other owned there page;
  keys = keys_on a.procs b.procs c.procs (keys_of first.listed) (keys_of second.listed) (keys_of third.listed) one.keys two.keys;
  kept = two.kept ∙ ap (λ (h : Heap). record h { procs = c.procs; nodes = c.nodes; pages = c.pages; high = c.high }) one.kept;
}

pub moves_same : (h : Heap) (kept : TableView) → Holds h kept → TableMoves h kept h kept
moves_same h kept holds = record {
  holds = holds;
  owners = λ others owned. owned;
  others = λ others other owned there page. refl;
  keys = record {
    outside = λ key absent. refl;
    fresh = λ key there. inl there;
    left = λ key there used. there;
  };
  kept = refl;
}
