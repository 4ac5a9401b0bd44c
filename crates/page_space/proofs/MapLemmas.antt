-- Which pages of a space are mapped, and pages that are mapped one after another.
use Rattle.std.proofs.Common.{◌≡◌, ◌≢◌, ◌==◌, ℕ, ◌+◌, ◌-◌, ◌/◌, ◌<◌, ◌≤◌, Bool, true, false, cond, is_some, IsSome, MatchBool, List, Option, None, Some, length, get_or, refl, sym, ap, ◌∙◌, subst, inl, inr, ⊎_elim, arith}
use Rattle.std.specs.Option.{option_map}
use Rattle.std.proofs.lemmas.Bool.{cases_lt, cases_eq, cond-false, ne_eqb, false≢true}
use Rattle.kabi_types.specs.declared.classes.Class.TheVariants as class
use Rattle.posix_defs.specs.Memory.{Memory, zero_page, with_pages, Zero, is_mapped as is_mapped_in, is_mapped_range, lowest_free_run, lowest_run}
use Rattle.posix_defs.specs.Needs.{pages_touched, nodes_for}
use Rattle.kabi_types.specs.Counts.{with_count}
use Rattle.kheap_slabs.specs.Purse.{Purse}
use Rattle.kheap_slabs.specs.declared.objects.Page.{Page}
use Rattle.kheap_slabs.specs.declared.objects.PageEntry.{PageEntry}
use Rattle.kheap_slabs.specs.declared.objects.PageEntry.TheVariants as entry
use Rattle.kheap_slabs.specs.Objects.{object}
use Rattle.kheap_slabs.specs.Heap.{Heap}
use Rattle.kheap_slabs.specs.Owners.{with_space, IsOwned}
use Rattle.kheap_slabs.specs.Paid.{IsPaid, PaysExactly}
use Rattle.kheap_slabs.specs.Spaces.{is_mapped, IsCounted, count_at, bytes_at}
use Rattle.kheap_laws.proofs.PaidLemmas.{IsPaid-refl, IsPaid-trans}
use Rattle.page_space.specs.Accounts.{turned_at, AccountFollows}
use Rattle.page_space.specs.Changes.{OwnChanges}
use Rattle.page_space.specs.Entries.{key_of, entry_at, is_mapped_at, PageTurns}
use Rattle.page_space.specs.Contents.{content_of, content_at, StandsFor, IsOwnedWith, SpaceMoves, IsFilled}
use Rattle.page_space.specs.Frames.{FramesStay}
use Rattle.page_space.specs.Runs.{IsMappedRun, HasUnmapped}
use Rattle.page_space.proofs.AccountLemmas.{account-known, AccountFollows-unranged, AccountFollows-ranged}
use Rattle.page_space.proofs.ChangeLemmas.{OwnChanges-refl, OwnChanges-trans, OwnChanges-turned}
use Rattle.page_space.proofs.ClearLemmas.{page_at-inside, page_at-below, page_at-above}
use Rattle.page_space.proofs.MoveLemmas.{named_once, counted_used, SpaceMoves-turned, SpaceMoves-refl, SpaceMoves-trans, content_others}
use Rattle.page_space.proofs.RunLemmas.{all_pass, one_fails, lowest_free_run-same}
use Rattle.page_space.proofs.TurnLemmas.{entry_none}

-- a page has bytes exactly where it is mapped
pub content_mapped : (h : Heap) (space : List (Option ℕ)) (page : ℕ) → IsCounted h.nodes h.pages → is_some (content_at h space page) ≡ is_mapped_at h.nodes space page
content_mapped h space page counted = of (entry_at h.nodes space page) refl
  where
    bytes_there : (frame : ℕ) → is_some (object h.pages frame) ≡ true → is_some (content_of h.pages (entry.Frame frame)) ≡ true
    bytes_there frame used = some (object h.pages frame) used
      where
        some : (page : Option Page) → is_some page ≡ true → is_some (option_map (λ p. p.bytes) page) ≡ true
        some None used = used
        some (Some p) used = refl

    of : (e : PageEntry) → entry_at h.nodes space page ≡ e → is_some (content_of h.pages e) ≡ is_mapped e
    of entry.Unmapped is = refl
    of entry.Zero is = refl
    of (entry.Frame frame) is =
        bytes_there frame (counted_used h.pages frame (subst (λ n. 0 < n) (sym (counted.counts frame)) (named_once h.nodes space page frame is)))

-- the memory that a space stands for is mapped where the space is
pub mapped_same : (h : Heap) (space : List (Option ℕ)) (memory : Memory) → IsCounted h.nodes h.pages → StandsFor h space memory
    → (page : ℕ) → page < 256 → is_mapped_at h.nodes space page ≡ is_mapped_in memory page
mapped_same h space memory counted stands page below = sym (content_mapped h space page counted) ∙ ap is_some (stands page below)

-- whether a range of bytes is mapped
pub range_mapped : (h : Heap) (space : List (Option ℕ)) (memory : Memory) (addr n : ℕ) → IsCounted h.nodes h.pages → StandsFor h space memory
    → addr + n ≤ 1048576 → n ≢ 0 → (mapped : Bool)
    → MatchBool mapped (IsMappedRun (is_mapped_at h.nodes space) (addr / 4096) ((addr + n - 1) / 4096 + 1)) (HasUnmapped (is_mapped_at h.nodes space) (addr / 4096) ((addr + n - 1) / 4096 + 1))
    → mapped ≡ is_mapped_range memory addr n
range_mapped h space memory addr n counted stands within some true all =
    sym (all_pass (is_mapped_in memory) (addr / 4096) (pages_touched addr n)
    (λ page above below. sym (mapped_same h space memory counted stands page (omega (arith, touched))) ∙ all page above (omega (arith, touched))))
  where
    touched : pages_touched addr n ≡ (addr + n - 1) / 4096 - addr / 4096 + 1
    touched = cond-false (n == 0) 0 ((addr + n - 1) / 4096 - addr / 4096 + 1) (ne_eqb n 0 some)
range_mapped h space memory addr n counted stands within some false one =
    sym (one_fails (is_mapped_in memory) (addr / 4096) (pages_touched addr n) one.0 one.1 (omega (arith, touched, one.2))
    (sym (mapped_same h space memory counted stands one.0 (omega (arith, one.2))) ∙ one.3))
  where
    touched : pages_touched addr n ≡ (addr + n - 1) / 4096 - addr / 4096 + 1
    touched = cond-false (n == 0) 0 ((addr + n - 1) / 4096 - addr / 4096 + 1) (ne_eqb n 0 some)

-- So far the pages up to this one are mapped. Of the nodes that could be needed no more are paid for than groups were
-- entered, and the last page's group has its node.
pub record IsFilling (old : Heap) (before : Purse) (new : Heap) (after : Purse) (space now : List (Option ℕ)) (first page : ℕ) : Type 0 where
  pub filled : IsFilled old before new after space now first page
  pub fresh : page ≡ first → before.left.node ≤ after.left.node
  pub begun : first < page → before.left.node + first / 64 ≤ after.left.node + (page - 1) / 64 + 1
  pub there : first < page → IsSome (key_of now (page - 1))

pub IsFilling-none : (h : Heap) (purse : Purse) (space : List (Option ℕ)) (first : ℕ) → IsFilling h purse h purse space space first first
IsFilling-none h purse space first = record {
  filled = record {
    moves = SpaceMoves-refl h space;
    zeros = λ page from below. absurd (omega arith);
    stays = λ page outside. refl;
    entries = λ page from. refl;
    own = OwnChanges-refl h space;
    account = AccountFollows-unranged h space first Zero;
    paid = IsPaid-refl h purse;
    exact = refl;
    spent = refl;
  };
  fresh = λ same. omega arith;
  begun = λ some. absurd (omega arith);
  there = λ some. absurd (omega arith);
}

-- there is a node for the next page, or one left to pay for it
pub node_left : (old : Heap) (before : Purse) (mid : Heap) (between : Purse) (space now : List (Option ℕ)) (first page end : ℕ)
    → IsFilling old before mid between space now first page → first ≤ page → page < end → end ≤ 256
    → nodes_for (end - first) ≤ before.left.node → key_of now page ≡ None → 0 < between.left.node
node_left old before mid between space now first page end filling from below within left none =
    ⊎_elim
    (λ same. omega (arith, filling.fresh same))
    (λ apart.
    let some : first < page = omega arith in
    let new_group : page / 64 ≢ (page - 1) / 64 = λ same. false≢true (ap is_some (sym none ∙ ap (λ g. get_or now g None) same) ∙ filling.there some) in
    omega (arith, filling.begun some))
    (cases_eq page first)

-- one page more
module _ (old mid new : Heap) (before between after : Purse) (space now then : List (Option ℕ)) (first page : ℕ)
    (filling : IsFilling old before mid between space now first page) (from : first ≤ page) (below : page < 256) (owned : IsOwnedWith old space)
    (turns : PageTurns mid.nodes new.nodes now then page entry.Unmapped entry.Zero)
    (kept : new ≡ record mid { nodes = new.nodes; high = new.high }) (paid : IsPaid mid between new after) (exact : PaysExactly class.Node mid between new after)
    (spent : after ≡ record between { left = with_count between.left class.Node (between.left.node - cond (is_some (key_of now page)) 0 1) }) where
  pages_same : new.pages ≡ mid.pages
  pages_same = ap (λ h. h.pages) kept

  stay : FramesStay mid.pages new.pages
  stay = λ key was is. ap (λ pages. bytes_at pages key) pages_same

  moves : SpaceMoves mid new now then
  moves = SpaceMoves-turned mid new now then page entry.Unmapped entry.Zero turns
      (λ frame. omega (arith, ap (λ pages. count_at pages frame) pages_same))
      (λ named key used. subst (λ pages. 0 < count_at pages key) (sym pages_same) (named key (subst (λ pages. is_some (object pages key) ≡ true) pages_same used)))
      stay
      (kept ∙ ap (λ (pages : List (Option Page)). record mid { nodes = new.nodes; pages = pages; high = new.high }) (sym pages_same))

  owned_mid : IsOwned mid (with_space now owned.0)
  owned_mid = let before_moves = filling.filled.moves in before_moves.owners owned.0 owned.1

  account : AccountFollows mid new now then (λ frames pid. turned_at frames pid page Zero)
  account = account-known mid new now then page entry.Unmapped entry.Zero turns below
      (λ frame. omega (arith, ap (λ pages. count_at pages frame) pages_same)) owned_mid.pages (let after_moves = moves.owners owned.0 owned_mid in after_moves.pages) tt

  own : OwnChanges mid new now then
  own = OwnChanges-turned mid new now then page entry.Unmapped entry.Zero below turns
      (λ key none used. ap (λ pages. object pages key) pages_same) (λ key same. absurd (not_frame key same))
    where
      not_frame : (key : ℕ) → entry.Zero ≡ entry.Frame key → ⊥
      not_frame key same = cc

  others_stay : (at : ℕ) → at ≢ page → content_at new then at ≡ content_at mid now at
  others_stay = content_others mid new now then page entry.Unmapped entry.Zero owned.0 turns moves stay (let before_moves = filling.filled.moves in before_moves.owners owned.0 owned.1)

  named : IsSome (key_of then page)
  named = of (key_of then page) refl
    where
      unequal : entry.Unmapped ≡ entry.Zero → ⊥
      unequal same = cc

      of : (key : Option ℕ) → key_of then page ≡ key → is_some (key_of then page) ≡ true
      of None is = absurd (unequal (sym (entry_none new.nodes then page is) ∙ turns.after))
      of (Some key) is = ap is_some is

  node_count : after.left.node ≡ between.left.node - cond (is_some (key_of now page)) 0 1
  node_count = ap (λ p. p.left.node) spent

  begun_by : (key_of now page ≡ None → 0 < between.left.node) → (key : Option ℕ) → key_of now page ≡ key
      → before.left.node + first / 64 ≤ after.left.node + (page + 1 - 1) / 64 + 1
  begun_by left (Some key) is =
      let paid_none : ◌≡◌ {A = ℕ} (cond (is_some (key_of now page)) 0 1) 0 = rw is refl in
      ⊎_elim
      (λ same. omega (arith, node_count, paid_none, filling.fresh same))
      (λ apart. let more : first < page = omega arith in omega (arith, node_count, paid_none, filling.begun more))
      (cases_eq page first)
  begun_by left None is =
      let paid_one : ◌≡◌ {A = ℕ} (cond (is_some (key_of now page)) 0 1) 1 = rw is refl in
      ⊎_elim
      (λ same. omega (arith, node_count, paid_one, filling.fresh same, left is))
      (λ apart.
      let more : first < page = omega arith in
      let new_group : page / 64 ≢ (page - 1) / 64 = λ same. false≢true (ap is_some (sym is ∙ ap (λ g. get_or now g None) same) ∙ filling.there more) in
      omega (arith, node_count, paid_one, filling.begun more, left is))
      (cases_eq page first)

  pub IsFilling-more : (key_of now page ≡ None → 0 < between.left.node) → IsFilling old before new after space then first (page + 1)
  IsFilling-more left = record {
    filled = record {
      moves = SpaceMoves-trans old mid new space now then filling.filled.moves moves;
      zeros = λ at above below. ⊎_elim
          (λ same. ap (λ p. content_at new then p) same ∙ ap (content_of new.pages) turns.after)
          (λ apart. others_stay at apart ∙ filling.filled.zeros at above (omega arith))
          (cases_eq at page);
      stays = λ at outside.
          let apart : at ≢ page = λ same. ⊎_elim (λ below. omega arith) (λ above. omega arith) outside in
          others_stay at apart ∙ filling.filled.stays at (⊎_elim inl (λ above. inr (omega arith)) outside);
      entries = λ at above. turns.others at (λ same. omega arith) ∙ filling.filled.entries at (omega arith);
      own = OwnChanges-trans old mid new space now then filling.filled.own own;
      account = AccountFollows-ranged old mid new space now then first page Zero filling.filled.moves filling.filled.account account from below;
      paid = IsPaid-trans old before mid between new after filling.filled.paid paid;
      exact = exact ∙ filling.filled.exact;
      spent = spent
          ∙ (ap (λ (p : Purse). record p { left = with_count p.left class.Node (between.left.node - cond (is_some (key_of now page)) 0 1) }) filling.filled.spent
          ∙ ap (λ (n : ℕ). record before { left = with_count before.left class.Node n }) (sym node_count));
    };
    fresh = λ same. absurd (omega arith);
    begun = λ some. begun_by left (key_of now page) refl;
    there = λ some. subst (λ p. IsSome (key_of then p)) (omega arith) named;
  }

-- the memory of a space with the new pages
pub StandsFor-filled : (old : Heap) (before : Purse) (new : Heap) (after : Purse) (space now : List (Option ℕ)) (first count : ℕ) (memory : Memory)
    → first + count ≤ 256 → length memory ≡ 256 → IsFilled old before new after space now first (first + count)
    → StandsFor old space memory → StandsFor new now (with_pages memory first count)
StandsFor-filled old before new after space now first count memory within len filled stands page below =
    ⊎_elim
    (λ under. filled.stays page (inl under) ∙ (stands page below ∙ sym (page_at-below memory first count (Some zero_page) (omega arith) page under)))
    (λ from. ⊎_elim
    (λ inside. filled.zeros page from inside ∙ sym (page_at-inside memory first count (Some zero_page) (omega arith) page from inside))
    (λ above. filled.stays page (inr above) ∙ (stands page below ∙ sym (page_at-above memory first count (Some zero_page) (omega arith) page above)))
    (cases_lt page (first + count)))
    (cases_lt page first)

-- the run that the space finds is the one that its memory has
pub run_same : (h : Heap) (space : List (Option ℕ)) (memory : Memory) (pages : ℕ) → IsCounted h.nodes h.pages → StandsFor h space memory
    → lowest_run memory pages ≡ lowest_free_run (is_mapped_at h.nodes space) pages
run_same h space memory pages counted stands =
    sym (lowest_free_run-same (is_mapped_at h.nodes space) (is_mapped_in memory) (mapped_same h space memory counted stands) pages)
