-- Bytes are written in a page that one entry names.
use Rattle.std.proofs.Common.{◌≡◌, ◌≢◌, ℕ, ◌+◌, ◌<◌, is_some, List, Option, None, Some, length, replicate, refl, sym, ap, ◌∙◌, subst, inl, ⊎_elim}
use Rattle.std.specs.Option.{option_map}
use Rattle.std.proofs.lemmas.Bool.{cases_eq}
use Rattle.std.proofs.lemmas.List.{length-replicate}
use Rattle.posix_defs.specs.Memory.{Frames, zero_page, places_of}
use Rattle.kheap_slabs.specs.Objects.{object, InUse, put}
use Rattle.kheap_slabs.specs.Purse.{Purse}
use Rattle.kheap_slabs.specs.Pages.{with_bytes}
use Rattle.kheap_slabs.specs.declared.objects.Node.{Node}
use Rattle.kheap_slabs.specs.declared.objects.Page.{Page}
use Rattle.kheap_slabs.specs.declared.objects.PageEntry.{PageEntry}
use Rattle.kheap_slabs.specs.declared.objects.PageEntry.TheVariants as entry
use Rattle.kheap_slabs.specs.Heap.{Heap, IsWellFormed}
use Rattle.kheap_slabs.specs.Keys.{ChangesKeys}
use Rattle.kheap_slabs.specs.Owners.{Owners, with_space, IsOwned}
use Rattle.kheap_slabs.specs.Spaces.{IsCounted, count_at, page_count, keys_in, bytes_at}
use Rattle.kheap_slabs.proofs.ObjectLemmas.{InUse-within, object-put, object-put_other}
use Rattle.page_space.specs.Accounts.{HasPlaces, AreFrames, IsAccounted, AccountFollows}
use Rattle.page_space.specs.Changes.{NamesPage, OwnChanges}
use Rattle.page_space.specs.Contents.{content_of, content_at, SpaceMoves}
use Rattle.page_space.specs.Entries.{entry_at}
use Rattle.page_space.specs.Putting.{with_piece, PaysForFrames}
use Rattle.page_space.proofs.ChangeLemmas.{ChangesKeys-refl}
use Rattle.page_space.proofs.OwnLemmas.{alone_in_space, alone_of_all}

-- only pages changed, and they are counted as before
owned_with_pages : (h : Heap) (pages : List (Option Page)) (owners : Owners) → IsCounted h.nodes pages → IsOwned h owners → IsOwned (record h { pages = pages }) owners
owned_with_pages h pages owners counted owned = record { nodes = owned.nodes; mapped = owned.mapped; pages = counted; chunks = owned.chunks; queues = owned.queues }

module _ (old new : Heap) (space : List (Option ℕ)) (page key at : ℕ) (was : Page) (bytes : List ℕ) (others : Owners) (owned : IsOwned old (with_space space others))
    (long : (k : ℕ) (node : Node) → object old.nodes k ≡ Some node → length node.entries ≡ 64) (below : page < 256)
    (is : entry_at old.nodes space page ≡ entry.Frame key) (one : count_at old.pages key ≡ 1)
    (there : object old.pages key ≡ Some was) (written : new ≡ record old { pages = put old.pages key (with_bytes was at bytes) }) where
  abbrev pages : List (Option Page)
  pages = put old.pages key (with_bytes was at bytes)

  pages_are : new.pages ≡ pages
  pages_are = ap (λ h. h.pages) written

  nodes_are : new.nodes ≡ old.nodes
  nodes_are = ap (λ h. h.nodes) written

  now_there : object pages key ≡ Some (with_bytes was at bytes)
  now_there = object-put old.pages key (with_bytes was at bytes) (InUse-within old.pages key (ap is_some there))

  count_same : (k : ℕ) → count_at pages k ≡ count_at old.pages k
  count_same k = ⊎_elim
      (λ same. ap (count_at pages) same ∙ (ap page_count now_there ∙ (sym (ap page_count there) ∙ ap (count_at old.pages) (sym same))))
      (λ apart. ap page_count (object-put_other old.pages key k (with_bytes was at bytes) apart))
      (cases_eq k key)

  used_before : (k : ℕ) → InUse pages k → InUse old.pages k
  used_before k used = ⊎_elim
      (λ same. ap (λ j. is_some (object old.pages j)) same ∙ ap is_some there)
      (λ apart. sym (ap is_some (object-put_other old.pages key k (with_bytes was at bytes) apart)) ∙ used)
      (cases_eq k key)

  used_after : (k : ℕ) → InUse old.pages k → InUse pages k
  used_after k used = ⊎_elim
      (λ same. ap (λ j. is_some (object pages j)) same ∙ ap is_some now_there)
      (λ apart. ap is_some (object-put_other old.pages key k (with_bytes was at bytes) apart) ∙ used)
      (cases_eq k key)

  counted : IsCounted old.nodes pages
  counted = record {
    counts = λ k. count_same k ∙ owned.pages.counts k;
    named = λ k used. subst (λ n. 0 < n) (sym (count_same k)) (owned.pages.named k (used_before k used));
  }

  -- what an entry stands for that names another page, or none
  content_kept : (e : PageEntry) → (e ≡ entry.Frame key → ⊥) → content_of new.pages e ≡ content_of old.pages e
  content_kept entry.Unmapped apart = refl
  content_kept entry.Zero apart = refl
  content_kept (entry.Frame k) apart =
      ap (λ ps. bytes_at ps k) pages_are
      ∙ ap (option_map (λ p. p.bytes)) (object-put_other old.pages key k (with_bytes was at bytes) (λ same. apart (ap entry.Frame same)))

  kept_at : (other : List (Option ℕ)) (p : ℕ) → (entry_at old.nodes other p ≡ entry.Frame key → ⊥) → content_at new other p ≡ content_at old other p
  kept_at other p apart = ap (λ nodes. content_of new.pages (entry_at nodes other p)) nodes_are ∙ content_kept (entry_at old.nodes other p) apart

  pub write-moves : SpaceMoves old new space space
  write-moves = record {
    owners = λ some some_owned. subst (λ h. IsOwned h (with_space space some)) (sym written) (owned_with_pages old pages (with_space space some) counted some_owned);
    others = λ some other some_owned among p. kept_at other p (alone_of_all old space page key some some_owned long is one other among p);
    kept = written ∙ (ap (λ (ps : List (Option Page)). record old { pages = ps }) (sym pages_are)
        ∙ (ap (λ (nodes : List (Option Node)). record old { nodes = nodes; pages = new.pages }) (sym nodes_are)
        ∙ ap (λ (high : ℕ). record old { nodes = new.nodes; pages = new.pages; high = high }) (sym (ap (λ h. h.high) written))));
  }

  pub write-stays : (other : ℕ) → other ≢ page → content_at new space other ≡ content_at old space other
  write-stays other apart = kept_at space other (alone_in_space old space page key others owned long is one other apart)

  pub write-had : content_at old space page ≡ Some was.bytes
  write-had = ap (content_of old.pages) is ∙ ap (option_map (λ p. p.bytes)) there

  pub write-put : content_at new space page ≡ Some (with_piece was.bytes at bytes)
  write-put = ap (λ nodes. content_of new.pages (entry_at nodes space page)) nodes_are
      ∙ (ap (content_of new.pages) is ∙ (ap (λ ps. bytes_at ps key) pages_are ∙ ap (option_map (λ p. p.bytes)) now_there))

  pub write-own : OwnChanges old new space space
  write-own = record {
    nodes = subst (λ nodes. ChangesKeys old.nodes nodes (keys_in space) (keys_in space)) (sym nodes_are) (ChangesKeys-refl old.nodes (keys_in space));
    stay = λ k used apart. ap (λ ps. object ps k) pages_are
        ∙ object-put_other old.pages key k (with_bytes was at bytes) (λ same. apart (page, below, is ∙ ap entry.Frame (sym same)));
    fresh = λ k named. inl (subst (λ nodes. NamesPage nodes space k) nodes_are named);
  }

  pub write-account : AccountFollows old new space space (λ frames pid. frames)
  write-account number before pid accounted = record {
    renumbered = number;
    accounted = record {
      numbers = subst (λ ps. AreFrames number ps before) (sym pages_are) (record {
        counts = λ k used. accounted.numbers.counts k (used_before k used) ∙ sym (count_same k);
        made = λ k used. accounted.numbers.made k (used_before k used);
        once = λ k other used other_used. accounted.numbers.once k other (used_before k used) (used_before other other_used);
        found = λ frame some. let found = accounted.numbers.found frame some in (found.0, used_after found.0 found.1, found.2);
      });
      places = subst (λ nodes. HasPlaces number nodes space (places_of before pid)) (sym nodes_are) accounted.places;
      made = accounted.made;
      whole = accounted.whole;
    };
    others = λ some other places some_owned among placed. subst (λ nodes. HasPlaces number nodes other places) (sym nodes_are) placed;
    kept = λ other apart. refl;
    pids = refl;
  }

-- nothing is paid where no frame is made
pub PaysForFrames-none : (h : Heap) (purse : Purse) (space : List (Option ℕ)) (change : Frames → ℕ → Frames)
    → ((number : ℕ → ℕ) (frames : Frames) (pid : ℕ) → IsAccounted h number frames pid space → change frames pid ≡ frames)
    → PaysForFrames h purse purse space change
PaysForFrames-none h purse space change same = record {
  pages_alone = refl;
  each = λ number frames pid accounted. ap (λ (f : Frames). purse.left.page + f.made) (sym (same number frames pid accounted));
}

pub zero_long : length zero_page ≡ 4096
unfolding zero_page
zero_long = length-replicate {A = ℕ} 4096 0

pub zero_page_is : zero_page ≡ replicate 4096 0
unfolding zero_page
zero_page_is = refl

-- a page has 4096 bytes
pub content_long : (h : Heap) (space : List (Option ℕ)) (page : ℕ) (had : List ℕ) → IsWellFormed h → content_at h space page ≡ Some had → length had ≡ 4096
content_long h space page had well is = by (entry_at h.nodes space page) is
  where
    some_same : (a b : List ℕ) → Some a ≡ Some b → a ≡ b
    some_same a b same = cc

    none_some : (a : List ℕ) → None ≡ Some a → ⊥
    none_some a same = cc

    in_page : (frame : ℕ) (p : Option Page) → object h.pages frame ≡ p → option_map (λ q. q.bytes) p ≡ Some had → length had ≡ 4096
    in_page frame None there same = absurd (none_some had same)
    in_page frame (Some p) there same = ap length (sym (some_same p.bytes had same)) ∙ well.page_bytes frame p there

    by : (e : PageEntry) → content_of h.pages e ≡ Some had → length had ≡ 4096
    by entry.Unmapped same = absurd (none_some had same)
    by entry.Zero same = ap length (sym (some_same zero_page had same)) ∙ zero_long
    by (entry.Frame frame) same = in_page frame (object h.pages frame) refl same
