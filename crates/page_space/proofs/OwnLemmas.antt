-- A mapped page gets a frame that no other page names, and bytes are written in it.
use Rattle.std.proofs.Common.{◌≡◌, ◌≢◌, ℕ, ◌+◌, ◌/◌, ◌%◌, ◌<◌, ◌≤◌, true, cond, is_some, List, Option, None, Some, length, set, refl, sym, ap, ◌∙◌, subst, ⊎_elim, arith}
use Rattle.std.specs.List.{Contains}
use Rattle.std.specs.Option.{option_map}
use Rattle.std.proofs.lemmas.Bool.{cases_eq, eq-eqb, ne_eqb, false≢true}
use Rattle.kheap_slabs.specs.Objects.{object, InUse, put}
use Rattle.kheap_slabs.specs.declared.objects.Node.{Node}
use Rattle.kheap_slabs.specs.declared.objects.Page.{Page}
use Rattle.kheap_slabs.specs.declared.objects.PageEntry.{PageEntry}
use Rattle.kheap_slabs.specs.declared.objects.PageEntry.TheVariants as entry
use Rattle.kheap_slabs.specs.Heap.{Heap}
use Rattle.kheap_slabs.specs.Owners.{Owners, with_space, IsOwned}
use Rattle.kheap_slabs.specs.Spaces.{OwnsNodes, count_at, page_count, names_page, names_of, bytes_at}
use Rattle.kheap_slabs.proofs.ObjectLemmas.{object_of, object-put_other}
use Rattle.kheap_laws.proofs.OwnerLemmas.{IsOwned-space}
use Rattle.posix_defs.specs.Memory as account
use Rattle.page_space.specs.Accounts.{AccountFollows}
use Rattle.page_space.specs.Changes.{OwnChanges}
use Rattle.page_space.specs.Entries.{key_of, entry_at, PageTurns}
use Rattle.page_space.specs.Contents.{content_of, content_at, SpaceMoves}
use Rattle.page_space.specs.Frames.{IsNamed, AllNamed, FramesStay}
use Rattle.page_space.proofs.AccountLemmas.{account-fresh}
use Rattle.page_space.proofs.ChangeLemmas.{OwnChanges-turned}
use Rattle.kheap_laws.proofs.KeyPlaces.{key_there}
use Rattle.page_space.proofs.MoveLemmas.{counted_used, named_once, IsNamed-entry, SpaceMoves-turned, content_others, other_entries}
use Rattle.page_space.proofs.TurnLemmas.{entry_none, turn-set, mapped_set}

-- an entry that names a page names this one or another
names_same : (page : ℕ) → names_page page (entry.Frame page) ≡ 1
names_same page = ap {B = ℕ} (λ b. cond b 1 0) (eq-eqb page page refl)

names_other : (page key : ℕ) → page ≢ key → names_page page (entry.Frame key) ≡ 0
names_other page key apart = ap {B = ℕ} (λ b. cond b 1 0) (ne_eqb key page (λ same. apart (sym same)))

-- what a counted entry names isn't a page that isn't there
names_vacant : (pages : List (Option Page)) (key : ℕ) (e : PageEntry) → IsNamed pages e → object pages key ≡ None → names_page key e ≡ 0
names_vacant pages key entry.Unmapped named vacant = refl
names_vacant pages key entry.Zero named vacant = refl
names_vacant pages key (entry.Frame frame) named vacant =
    names_other key frame (λ same.
    let none : count_at pages frame ≡ 0 = ap (count_at pages) (sym same) ∙ ap page_count vacant in
    omega (arith, named))

-- an entry stays counted where no count falls
IsNamed-more : (old new : List (Option Page)) (e : PageEntry) → ((key : ℕ) → count_at old key ≤ count_at new key) → IsNamed old e → IsNamed new e
IsNamed-more old new entry.Unmapped more named = tt
IsNamed-more old new entry.Zero more named = tt
IsNamed-more old new (entry.Frame key) more named = omega (arith, more key)

-- a page is put under a key that was free
module _ (pages : List (Option Page)) (key : ℕ) (page : Page) (vacant : object pages key ≡ None) (stored : object (put pages key page) key ≡ Some page) (one : page.count ≡ 1) where
  count_made : (frame : ℕ) → count_at (put pages key page) frame ≡ count_at pages frame + names_page frame (entry.Frame key)
  count_made frame = ⊎_elim
      (λ same. subst (λ f. count_at (put pages key page) f ≡ count_at pages f + names_page f (entry.Frame key)) (sym same)
      (omega (arith, ap page_count stored, ap page_count vacant, names_same key, one)))
      (λ apart. omega (arith, ap page_count (object-put_other pages key frame page apart), names_other frame key apart))
      (cases_eq frame key)

  named_made : AllNamed pages → AllNamed (put pages key page)
  named_made named frame used = ⊎_elim
      (λ same. subst (λ f. 0 < count_at (put pages key page) f) (sym same) (omega (arith, ap page_count stored, one)))
      (λ apart. omega (
        arith,
        ap page_count (object-put_other pages key frame page apart),
        named frame (subst (λ o. is_some o ≡ true) (object-put_other pages key frame page apart) used),
      ))
      (cases_eq frame key)

  other_made : (frame : ℕ) → InUse pages frame → frame ≢ key
  other_made frame used same = false≢true (sym (ap is_some (ap (object pages) same ∙ vacant)) ∙ used)

-- a mapped page gets a new frame with given bytes in place of what it had
module _ (a b c d : Heap) (space : List (Option ℕ)) (page key : ℕ) (was : PageEntry) (fresh : Page)
    (first : b ≡ record a { pages = put a.pages key fresh; high = b.high }) (vacant : object a.pages key ≡ None) (stored : object b.pages key ≡ Some fresh) (one : fresh.count ≡ 1)
    (turns : PageTurns b.nodes c.nodes space space page (entry_at b.nodes space page) (entry.Frame key)) (second : c ≡ record b { nodes = c.nodes })
    (is : was ≡ entry_at a.nodes space page)
    (counts : (frame : ℕ) → count_at d.pages frame + names_page frame was ≡ count_at c.pages frame)
    (rest : (k : ℕ) → names_page k was ≡ 0 → object d.pages k ≡ object c.pages k) (below : page < 256)
    (named : AllNamed c.pages → AllNamed d.pages) (stay : FramesStay c.pages d.pages) (third : d ≡ record c { pages = d.pages })
    (others : Owners) (owned : IsOwned a (with_space space others)) where
  abbrev made : List (Option Page)
  made = put a.pages key fresh

  b_pages : b.pages ≡ made
  b_pages = ap (λ h. h.pages) first

  c_pages : c.pages ≡ made
  c_pages = ap (λ h. h.pages) second ∙ b_pages

  b_nodes : b.nodes ≡ a.nodes
  b_nodes = ap (λ h. h.nodes) first

  d_nodes : d.nodes ≡ c.nodes
  d_nodes = ap (λ h. h.nodes) third

  there : object made key ≡ Some fresh
  there = subst (λ pages. object pages key ≡ Some fresh) b_pages stored

  was_named : IsNamed a.pages was
  was_named = IsNamed-entry a.nodes a.pages space page was owned.pages (sym is)

  turned : PageTurns a.nodes d.nodes space space page was (entry.Frame key)
  turned =
      subst (λ e. PageTurns a.nodes d.nodes space space page e (entry.Frame key)) (sym is)
      (subst (λ nodes. PageTurns nodes d.nodes space space page (entry_at nodes space page) (entry.Frame key)) b_nodes
      (subst (λ nodes. PageTurns b.nodes nodes space space page (entry_at b.nodes space page) (entry.Frame key)) (sym d_nodes) turns))

  all_counts : (frame : ℕ) → count_at d.pages frame + names_page frame was ≡ count_at a.pages frame + names_page frame (entry.Frame key)
  all_counts frame = counts frame ∙ (ap (λ pages. count_at pages frame) c_pages ∙ count_made a.pages key fresh vacant there one frame)

  stays : FramesStay a.pages d.pages
  stays frame used left =
      let apart : frame ≢ key = other_made a.pages key fresh vacant there one frame used in
      let kept : object c.pages frame ≡ object a.pages frame = ap (λ pages. object pages frame) c_pages ∙ object-put_other a.pages key frame fresh apart in
      stay frame (ap is_some kept ∙ used) left ∙ ap (option_map (λ p. p.bytes)) kept

  pub fresh-moves : SpaceMoves a d space space
  fresh-moves = SpaceMoves-turned a d space space page was (entry.Frame key) turned all_counts
      (λ before. named (subst AllNamed (sym c_pages) (named_made a.pages key fresh vacant there one before)))
      stays
      (third ∙ (ap (λ (h : Heap). record h { pages = d.pages }) second ∙ (ap (λ (h : Heap). record h { nodes = c.nodes; pages = d.pages }) first
      ∙ (ap (λ (nodes : List (Option Node)). record a { nodes = nodes; pages = d.pages; high = b.high }) (sym d_nodes)
      ∙ ap (λ (high : ℕ). record a { nodes = d.nodes; pages = d.pages; high = high }) (sym (ap (λ h. h.high) third ∙ ap (λ h. h.high) second))))))

  -- the new frame is named once
  pub fresh-alone : count_at d.pages key ≡ 1
  fresh-alone = omega (arith, all_counts key, names_same key, names_vacant a.pages key was was_named vacant, ap page_count vacant)

  fresh-bytes : bytes_at d.pages key ≡ Some fresh.bytes
  fresh-bytes =
      stay key (ap is_some (ap (λ pages. object pages key) c_pages ∙ there)) (counted_used d.pages key (omega (arith, fresh-alone)))
      ∙ ap (option_map (λ p. p.bytes)) (ap (λ pages. object pages key) c_pages ∙ there)

  -- and has in all pages what it had, if the bytes are those of the page
  pub fresh-stays : content_at a space page ≡ Some fresh.bytes → (at : ℕ) → content_at d space at ≡ content_at a space at
  fresh-stays had at = ⊎_elim
      (λ same. ap (λ p. content_at d space p) same ∙ (ap (content_of d.pages) turned.after ∙ (fresh-bytes ∙ (sym had ∙ ap (λ p. content_at a space p) (sym same)))))
      (λ apart. content_others a d space space page was (entry.Frame key) others turned fresh-moves stays owned at apart)
      (cases_eq at page)

  pub fresh-own : OwnChanges a d space space
  fresh-own = OwnChanges-turned a d space space page was (entry.Frame key) below turned
      (λ k none used. rest k none ∙ (ap (λ pages. object pages k) c_pages ∙ object-put_other a.pages key k fresh (other_made a.pages key fresh vacant there one k used)))
      (λ k same. ap (object a.pages) (same_frame k same) ∙ vacant)
    where
      same_frame : (k : ℕ) → entry.Frame key ≡ entry.Frame k → k ≡ key
      same_frame k same = cc

  pub fresh-account : AccountFollows a d space space (λ frames pid. account.fresh_at frames pid page)
  fresh-account = account-fresh a d space space page key was turned below all_counts owned.pages (let after = fresh-moves.owners others owned in after.pages) vacant

-- a frame that one entry of all names: no other page of the space has it, and no page of another space
module _ (h : Heap) (space : List (Option ℕ)) (page frame : ℕ) (others : Owners) (owned : IsOwned h (with_space space others))
    (long : (key : ℕ) (node : Node) → object h.nodes key ≡ Some node → length node.entries ≡ 64)
    (is : entry_at h.nodes space page ≡ entry.Frame frame) (one : count_at h.pages frame ≡ 1) where
  owns : OwnsNodes h.nodes space
  owns = IsOwned-space h others space owned

  -- the nodes without this entry
  cleared : (nodes : List (Option Node)) × PageTurns h.nodes nodes space space page (entry_at h.nodes space page) entry.Zero
  cleared = by (key_of space page) refl
    where
      unequal : entry.Unmapped ≡ entry.Frame frame → ⊥
      unequal same = cc

      by : (key : Option ℕ) → key_of space page ≡ key → (nodes : List (Option Node)) × PageTurns h.nodes nodes space space page (entry_at h.nodes space page) entry.Zero
      by None none = absurd (unequal (sym (entry_none h.nodes space page none) ∙ is))
      by (Some key) named =
          let found = object_of h.nodes key (owns.used key (key_there space (page / 64) key named)) in
          let within : page % 64 < length found.0.entries = omega (arith, long key found.0 found.1) in
          let changed : Node = record { entries = set found.0.entries (page % 64) entry.Zero } in (
            put h.nodes key changed,
            turn-set h.nodes space page key owns named found.0 changed entry.Zero found.1 within refl
                (mapped_set found.0.entries (page % 64) entry.Zero within refl),
          )

  none_left : names_of cleared.0 frame ≡ 0
  none_left = let turned = cleared.1 in omega (arith, turned.names frame, ap (names_page frame) is, names_same frame, one, owned.pages.counts frame)

  pub alone_in_space : (other : ℕ) → other ≢ page → entry_at h.nodes space other ≡ entry.Frame frame → ⊥
  alone_in_space other apart same =
      let turned = cleared.1 in
      let some : 0 < names_of cleared.0 frame = named_once cleared.0 space other frame (turned.others other apart ∙ same) in
      omega (arith, none_left)

  pub alone_of_all : (other : List (Option ℕ)) → Contains others.spaces other → (at : ℕ) → entry_at h.nodes other at ≡ entry.Frame frame → ⊥
  alone_of_all other among at same =
      let turned = cleared.1 in
      let kept : entry_at cleared.0 other at ≡ entry_at h.nodes other at =
      other_entries h (record h { nodes = cleared.0 }) space space others other turned.keys owned among at in
      let some : 0 < names_of cleared.0 frame = named_once cleared.0 other at frame (kept ∙ same) in
      omega (arith, none_left)
