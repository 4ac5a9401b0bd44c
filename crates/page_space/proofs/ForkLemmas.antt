-- A space that gets the pages of another one after another.
use Rattle.std.proofs.Common.{◌≡◌, ◌≢◌, ℕ, zero, suc, ◌+◌, ◌-◌, ◌/◌, ◌<◌, ◌≤◌, Bool, true, false, cond, is_some, IsSome, List, [], ◌∷◌, Option, None, Some, get_or, replicate, refl, sym, ap, ◌∙◌, subst, ⊎_elim, arith}
use Rattle.std.proofs.lemmas.Bool.{cases_eq, false≢true, true≢false}
use Rattle.kabi_types.specs.declared.classes.Class.TheVariants as class
use Rattle.kabi_types.specs.Counts.{with_count}
use Rattle.kheap_slabs.specs.Objects.{count, object, InUse}
use Rattle.kheap_slabs.specs.Purse.{Purse}
use Rattle.kheap_slabs.specs.declared.objects.Page.{Page}
use Rattle.kheap_slabs.specs.declared.objects.PageEntry.{PageEntry}
use Rattle.kheap_slabs.specs.declared.objects.PageEntry.TheVariants as entry
use Rattle.kheap_slabs.specs.Heap.{Heap}
use Rattle.kheap_slabs.specs.Owners.{Owners, with_space, IsOwned}
use Rattle.kheap_slabs.specs.Paid.{IsPaid, PaysExactly, TakesNothing}
use Rattle.kheap_slabs.specs.Spaces.{is_mapped, keys_in, OwnsNodes, count_at, names_page}
use Rattle.kheap_laws.proofs.OwnerLemmas.{first_there, IsOwned-space, IsOwned-space_to_front, IsOwned-space_joins}
use Rattle.kheap_laws.proofs.PaidLemmas.{IsPaid-refl, IsPaid-trans, IsPaid-nothing}
use Rattle.page_space.specs.Entries.{key_of, entry_at, PageTurns}
use Rattle.page_space.specs.Contents.{content_of, content_at, SpaceMoves, IsForked}
use Rattle.page_space.specs.Frames.{AllNamed, FramesStay}
use Rattle.page_space.specs.Changes.{OwnForks}
use Rattle.page_space.proofs.ChangeLemmas.{OwnForks-none, OwnForks-more}
use Rattle.page_space.proofs.ForkAccount.{AccountForksTo, AccountForksTo-none, AccountForksTo-unmapped, AccountForksTo-more}
use Rattle.page_space.proofs.MoveLemmas.{counted_used, IsNamed-entry, other_entries, SpaceMoves-turned, content_others}
use Rattle.page_space.proofs.TurnLemmas.{entry_none}

-- So far the pages up to this one are in the new space, and of its nodes no more are paid for than groups were entered.
pub record IsForking (old : Heap) (before : Purse) (new : Heap) (after : Purse) (of now : List (Option ℕ)) (page : ℕ) : Type 0 where
  pub forked : IsForked old before new after of now page
  pub left : before.left.node ≤ after.left.node + page / 64 + cond (is_some (key_of now page)) 1 0
  pub account : AccountForksTo old new of now page
  pub own : OwnForks old new of now

-- where there is nothing there is nothing at any place
pub none_there : (n at : ℕ) → get_or {A = Option ℕ} (replicate n None) at None ≡ None
none_there zero zero = refl
none_there zero (suc at) = refl
none_there (suc n) zero = refl
none_there (suc n) (suc at) = none_there n at

-- nothing is in it yet
pub IsForking-none : (h : Heap) (purse : Purse) (of empty : List (Option ℕ)) → keys_in empty ≡ [] → ((page : ℕ) → key_of empty page ≡ None)
    → IsForking h purse h purse of empty 0
IsForking-none h purse of empty none free = record {
  forked = record {
    owners = λ others owned. IsOwned-space_joins h (with_space of others) empty none owned;
    others = λ others other owned among page. refl;
    same = λ page below. absurd (omega arith);
    rest = λ page from. entry_none h.nodes empty page (free page);
    kept = refl;
    paid = IsPaid-refl h purse;
    exact = refl;
    spent = refl;
  };
  left = omega arith;
  account = AccountForksTo-none h of empty (λ page. entry_none h.nodes empty page (free page));
  own = OwnForks-none h of empty none;
}

-- a page that isn't mapped
pub IsForking-unmapped : (old : Heap) (before : Purse) (mid : Heap) (between : Purse) (of now : List (Option ℕ)) (others : Owners) (page : ℕ) → IsForking old before mid between of now page
    → IsOwned old (with_space of others) → page < 256 → entry_at mid.nodes of page ≡ entry.Unmapped → IsForking old before mid between of now (page + 1)
IsForking-unmapped old before mid between of now others page forking owned low unmapped = record {
  forked = record {
    owners = forking.forked.owners;
    others = forking.forked.others;
    same = λ at below. ⊎_elim
        (λ here. ap (λ p. content_at mid now p) here
        ∙ (ap (content_of mid.pages) (forking.forked.rest page (omega arith) ∙ sym unmapped)
        ∙ (forking.forked.others others of owned (first_there of others.spaces) page
        ∙ ap (λ p. content_at old of p) (sym here))))
        (λ apart. forking.forked.same at (omega arith))
        (cases_eq at page);
    rest = λ at from. forking.forked.rest at (omega arith);
    kept = forking.forked.kept;
    paid = forking.forked.paid;
    exact = forking.forked.exact;
    spent = forking.forked.spent;
  };
  left = ⊎_elim
      (λ same. omega (arith, forking.left, ap {B = ℕ} (λ g. cond (is_some (get_or now g None)) 1 0) same))
      (λ next. omega (arith, forking.left, at_most (key_of now page)))
      (cases_eq ((page + 1) / 64) (page / 64));
  account = AccountForksTo-unmapped old mid of now page forking.account low unmapped;
  own = forking.own;
}
  where
    at_most : (key : Option ℕ) → cond (is_some key) 1 0 ≤ 1
    at_most None = omega arith
    at_most (Some key) = omega arith

skipped : (old : Heap) (before : Purse) (mid : Heap) (between : Purse) (of now : List (Option ℕ)) (others : Owners) (page count : ℕ) → IsForking old before mid between of now page
    → IsOwned old (with_space of others) → ((other : ℕ) → page ≤ other → other < page + count → entry_at mid.nodes of other ≡ entry.Unmapped)
    → page + count ≤ 256 → IsForking old before mid between of now (page + count)
skipped old before mid between of now others page zero forking owned unmapped within =
    subst (λ (end : ℕ). IsForking old before mid between of now end) (omega arith) forking
skipped old before mid between of now others page (suc count) forking owned unmapped within =
    subst (λ (end : ℕ). IsForking old before mid between of now end) (omega arith)
    (IsForking-unmapped old before mid between of now others (page + count)
    (skipped old before mid between of now others page count forking owned (λ other above below. unmapped other above (omega arith)) (omega arith))
    owned (omega arith) (unmapped (page + count) (omega arith) (omega arith)))

-- pages that aren't mapped are passed over
pub IsForking-skip : (old : Heap) (before : Purse) (mid : Heap) (between : Purse) (of now : List (Option ℕ)) (others : Owners) (page next : ℕ) → IsForking old before mid between of now page
    → IsOwned old (with_space of others) → ((other : ℕ) → page ≤ other → other < next → entry_at mid.nodes of other ≡ entry.Unmapped)
    → page ≤ next → next ≤ 256 → IsForking old before mid between of now next
IsForking-skip old before mid between of now others page next forking owned unmapped rises within =
    subst (λ (end : ℕ). IsForking old before mid between of now end) (omega arith)
    (skipped old before mid between of now others page (next - page) forking owned (λ other above below. unmapped other above (omega arith)) (omega arith))

pub unmapped_is : (e : PageEntry) → is_mapped e ≡ false → e ≡ entry.Unmapped
unmapped_is entry.Unmapped none = refl
unmapped_is entry.Zero none = absurd (true≢false none)
unmapped_is (entry.Frame key) none = absurd (true≢false none)

-- the space behind the one in front may stand there itself
pub IsOwned-second_to_front : (h : Heap) (one other : List (Option ℕ)) (others : Owners) → IsOwned h (with_space one (with_space other others)) → IsOwned h (with_space other (with_space one others))
IsOwned-second_to_front h one other others owned =
    IsOwned-space_to_front h (with_space one (with_space other others)) other (one ∷ others.spaces)
    (record { before = one ∷ []; after = others.spaces; whole_is = refl; rest_is = refl }) owned

pub OwnsNodes-second : (h : Heap) (one other : List (Option ℕ)) (others : Owners) → IsOwned h (with_space one (with_space other others)) → OwnsNodes h.nodes other
OwnsNodes-second h one other others owned =
    IsOwned-space h (with_space one others) other (IsOwned-second_to_front h one other others owned)

-- there is a node left for the next page
pub fork_left : (old : Heap) (before : Purse) (mid : Heap) (between : Purse) (of now : List (Option ℕ)) (page : ℕ) → IsForking old before mid between of now page
    → page < 256 → 4 ≤ before.left.node → key_of now page ≡ None → 0 < between.left.node
fork_left old before mid between of now page forking below four none =
    let no_more : ◌≡◌ {A = ℕ} (cond (is_some (key_of now page)) 1 0) 0 = rw none refl in
    omega (arith, forking.left, no_more)

-- a mapped page: its entry is shared, and the new space gets it
module _ (old mid between_heap new : Heap) (before between after : Purse) (of now then : List (Option ℕ)) (others : Owners) (page : ℕ) (e : PageEntry)
    (forking : IsForking old before mid between of now page) (owned : IsOwned old (with_space of others)) (below : page < 256)
    (is : e ≡ entry_at mid.nodes of page) (mapped : is_mapped e ≡ true)
    (counts : (frame : ℕ) → count_at between_heap.pages frame ≡ count_at mid.pages frame + names_page frame e)
    (named : AllNamed mid.pages → AllNamed between_heap.pages) (stay : FramesStay mid.pages between_heap.pages)
    (rest : (key : ℕ) → names_page key e ≡ 0 → object between_heap.pages key ≡ object mid.pages key)
    (shared : between_heap ≡ record mid { pages = between_heap.pages }) (takes : TakesNothing mid between_heap)
    (turns : PageTurns between_heap.nodes new.nodes now then page entry.Unmapped e)
    (kept : new ≡ record between_heap { nodes = new.nodes; high = new.high }) (paid : IsPaid between_heap between new after) (exact : PaysExactly class.Node between_heap between new after)
    (spent : after ≡ record between { left = with_count between.left class.Node (between.left.node - cond (is_some (key_of now page)) 0 1) }) where
  abbrev with_of : Owners
  with_of = with_space of others

  nodes_same : between_heap.nodes ≡ mid.nodes
  nodes_same = ap (λ h. h.nodes) shared

  pages_same : new.pages ≡ between_heap.pages
  pages_same = ap (λ h. h.pages) kept

  turned : PageTurns mid.nodes new.nodes now then page entry.Unmapped e
  turned = subst (λ nodes. PageTurns nodes new.nodes now then page entry.Unmapped e) nodes_same turns

  stays : FramesStay mid.pages new.pages
  stays = subst (λ pages. FramesStay mid.pages pages) (sym pages_same) stay

  moves : SpaceMoves mid new now then
  moves = SpaceMoves-turned mid new now then page entry.Unmapped e turned
      (λ frame. omega (arith, counts frame, ap (λ pages. count_at pages frame) pages_same))
      (λ was. subst AllNamed (sym pages_same) (named was))
      stays
      (kept ∙ (ap (λ (h : Heap). record h { nodes = new.nodes; high = new.high }) shared
      ∙ ap (λ (pages : List (Option Page)). record mid { nodes = new.nodes; pages = pages; high = new.high }) (sym pages_same)))

  owned_now : IsOwned mid (with_space now with_of)
  owned_now = forking.forked.owners others owned

  others_stay : (at : ℕ) → at ≢ page → content_at new then at ≡ content_at mid now at
  others_stay = content_others mid new now then page entry.Unmapped e with_of turned moves stays owned_now

  -- the page of the new space has the entry that the other's has, which has what it had
  page_same : content_at new then page ≡ content_at old of page
  page_same =
      ap (content_of new.pages) (turned.after ∙ is)
      ∙ (ap (content_of new.pages) (sym of_entry)
      ∙ (moves.others with_of of owned_now (first_there of others.spaces) page
      ∙ forking.forked.others others of owned (first_there of others.spaces) page))
    where
      of_entry : entry_at new.nodes of page ≡ entry_at mid.nodes of page
      of_entry = other_entries mid new now then with_of of turned.keys owned_now (first_there of others.spaces) page

  there : IsSome (key_of then page)
  there = by (key_of then page) refl
    where
      by : (key : Option ℕ) → key_of then page ≡ key → is_some (key_of then page) ≡ true
      by None none = absurd (false≢true (ap is_mapped (sym (entry_none new.nodes then page none) ∙ turned.after) ∙ mapped))
      by (Some key) some = ap is_some some

  -- the shared page was there and is there
  named_used : (key : ℕ) → e ≡ entry.Frame key → InUse mid.pages key
  named_used key same = counted_used mid.pages key (IsNamed-entry mid.nodes mid.pages of page (entry.Frame key) owned_now.pages (sym is ∙ same))

  still_used : (key : ℕ) → e ≡ entry.Frame key → InUse new.pages key
  still_used key same = counted_used new.pages key
      (omega (arith, IsNamed-entry mid.nodes mid.pages of page (entry.Frame key) owned_now.pages (sym is ∙ same), counts key, ap (λ pages. count_at pages key) pages_same))

  node_count : after.left.node ≡ between.left.node - cond (is_some (key_of now page)) 0 1
  node_count = ap (λ p. p.left.node) spent

  left_by : (key_of now page ≡ None → 0 < between.left.node) → (key : Option ℕ) → key_of now page ≡ key → before.left.node ≤ after.left.node + page / 64 + 1
  left_by some None none =
      let one : ◌≡◌ {A = ℕ} (cond (is_some (key_of now page)) 0 1) 1 = rw none refl in
      let no_more : ◌≡◌ {A = ℕ} (cond (is_some (key_of now page)) 1 0) 0 = rw none refl in
      omega (arith, node_count, one, no_more, forking.left, some none)
  left_by some (Some key) named_key =
      let no_cost : ◌≡◌ {A = ℕ} (cond (is_some (key_of now page)) 0 1) 0 = rw named_key refl in
      let had : ◌≡◌ {A = ℕ} (cond (is_some (key_of now page)) 1 0) 1 = rw named_key refl in
      omega (arith, node_count, no_cost, had, forking.left)

  pub IsForking-more : (key_of now page ≡ None → 0 < between.left.node) → IsForking old before new after of then (page + 1)
  IsForking-more some = record {
    forked = record {
      owners = λ others' owned'. moves.owners (with_space of others') (forking.forked.owners others' owned');
      others = λ others' other owned' among at.
          moves.others (with_space of others') other (forking.forked.owners others' owned') among at ∙ forking.forked.others others' other owned' among at;
      same = λ at under. ⊎_elim
          (λ here. ap (λ p. content_at new then p) here ∙ (page_same ∙ ap (λ p. content_at old of p) (sym here)))
          (λ apart. others_stay at apart ∙ forking.forked.same at (omega arith))
          (cases_eq at page);
      rest = λ at from. turned.others at (λ here. omega arith) ∙ forking.forked.rest at (omega arith);
      kept = moves.kept ∙ ap (λ (h : Heap). record h { nodes = new.nodes; pages = new.pages; high = new.high }) forking.forked.kept;
      paid = IsPaid-trans old before mid between new after forking.forked.paid
          (IsPaid-trans mid between between_heap between new after (IsPaid-nothing mid between_heap between between takes refl refl) paid);
      exact = exact ∙ ap (λ nodes. count nodes + between.left.node) nodes_same ∙ forking.forked.exact;
      spent = spent
          ∙ (ap (λ (p : Purse). record p { left = with_count p.left class.Node (between.left.node - cond (is_some (key_of now page)) 0 1) }) forking.forked.spent
          ∙ ap (λ (n : ℕ). record before { left = with_count before.left class.Node n }) (sym node_count));
    };
    left = ⊎_elim
        (λ same.
        let key_there : ◌≡◌ {A = ℕ} (cond (is_some (key_of then (page + 1))) 1 0) 1 =
        ap {A = Bool} {B = ℕ} (λ b. cond b 1 0) (ap (λ g. is_some (get_or then g None)) same ∙ there) in
        omega (arith, key_there, left_by some (key_of now page) refl))
        (λ next. omega (arith, left_by some (key_of now page) refl))
        (cases_eq ((page + 1) / 64) (page / 64));
    account = AccountForksTo-more old mid new of now then others page e forking.account below forking.forked.owners owned is turned
        (λ frame. omega (arith, counts frame, ap (λ pages. count_at pages frame) pages_same))
        owned_now.pages (let after_moves = moves.owners with_of owned_now in after_moves.pages)
        (IsNamed-entry mid.nodes mid.pages of page e owned_now.pages (sym is));
    own = OwnForks-more old mid new of now then page e forking.own (IsOwned-space old others of owned) below turned.keys is
        (λ key none. ap (λ pages. object pages key) pages_same ∙ rest key none)
        (λ key same. stays key (named_used key same) (still_used key same));
  }
