-- One page of a space turns to another entry, and the account follows.
use Rattle.std.proofs.Common.{◌≡◌, ◌⊎◌, ℕ, ◌+◌, ◌-◌, ◌<◌, ◌≤◌, cond, eqb, is_some, List, Option, None, Some, length, set, refl, sym, ap, ◌∙◌, subst, inl, inr, ⊎_elim, arith}
use Rattle.std.proofs.lemmas.List.{get_or-set_same, get_or-set_other, length-set}
use Rattle.std.proofs.lemmas.Bool.{cases_eq, eq-eqb, ne_eqb, false≢true, cond-true, cond-false}
use Rattle.posix_defs.specs.ByPid.{with_pid}
use Rattle.posix_defs.specs.Memory.{Frames, Place, Places, places_of, place_at, with_places, with_range, names_frame, namings}
use Rattle.posix_defs.specs.Memory as account
use Rattle.kheap_slabs.specs.Objects.{object, InUse}
use Rattle.kheap_slabs.specs.declared.objects.Page.{Page}
use Rattle.kheap_slabs.specs.declared.objects.PageEntry.{PageEntry}
use Rattle.kheap_slabs.specs.declared.objects.PageEntry.TheVariants as entry
use Rattle.kheap_slabs.specs.Heap.{Heap}
use Rattle.kheap_slabs.specs.Owners.{Owners, with_space, IsOwned}
use Rattle.kheap_slabs.specs.Spaces.{count_at, page_count, names_page, IsCounted}
use Rattle.page_space.specs.Accounts.{place_of, HasPlaces, IsAccounted, AccountMoves, AccountFollows, turned_at}
use Rattle.page_space.specs.Changes.{OwnChanges}
use Rattle.page_space.specs.Contents.{SpaceMoves}
use Rattle.page_space.specs.Entries.{entry_at, PageTurns}
use Rattle.page_space.specs.Frames.{IsNamed}
use Rattle.page_space.proofs.MoveLemmas.{IsNamed-entry, counted_used, other_entries}
use Rattle.page_space.proofs.PlaceLemmas.{framed, places_of-with, places_of-other, length-with_pid, namings-turned, ranged-none, ranged-more, turned-same}
use Rattle.page_space.proofs.ChangeLemmas.{OwnChanges-turned}

pub used_or_not : (pages : List (Option Page)) (key : ℕ) → InUse pages key ⊎ (object pages key ≡ None)
used_or_not pages key = by (object pages key) refl
  where
    by : (page : Option Page) → object pages key ≡ page → InUse pages key ⊎ (object pages key ≡ None)
    by None is = inr is
    by (Some page) is = inl (ap is_some is)

not_used : (pages : List (Option Page)) (key : ℕ) → object pages key ≡ None → InUse pages key → ⊥
not_used pages key vacant used = false≢true (sym (ap is_some vacant) ∙ used)

-- what an entry names is there if the entry is counted
names_used : (pages : List (Option Page)) (key : ℕ) (e : PageEntry) → IsNamed pages e → 0 < names_page key e → 0 < count_at pages key
names_used pages key entry.Unmapped named some = absurd (omega arith)
names_used pages key entry.Zero named some = absurd (omega arith)
names_used pages key (entry.Frame other) named some =
    ⊎_elim (λ same. subst (λ k. 0 < count_at pages k) same named)
    (λ apart. let none : names_page key (entry.Frame other) ≡ 0 = cond-false (eqb other key) 1 0 (ne_eqb other key apart) in absurd (omega arith))
    (cases_eq other key)

-- The page of one key at most is new, and its number is that of the next frame; all others keep their numbers.
module _ (old new : Heap) (space now : List (Option ℕ)) (page key : ℕ) (was is : PageEntry)
    (turns : PageTurns old.nodes new.nodes space now page was is) (below : page < 256)
    (counts : (frame : ℕ) → count_at new.pages frame + names_page frame was ≡ count_at old.pages frame + names_page frame is)
    (counted : IsCounted old.nodes old.pages) (recounted : IsCounted new.nodes new.pages)
    (number renumbered : ℕ → ℕ) (before : Frames) (pid made : ℕ)
    (same : (k : ℕ) → InUse old.pages k → renumbered k ≡ number k)
    (fresh : (k : ℕ) → InUse new.pages k → InUse old.pages k ⊎ ((k ≡ key) × (renumbered k ≡ before.made) × (before.made < made)))
    (more : before.made ≤ made)
    (accounted : IsAccounted old number before pid space) where
  abbrev had : Places
  had = places_of before pid

  abbrev has : Places
  has = set had page (place_of renumbered is)

  abbrev pub accounted_after : Frames
  accounted_after = framed (with_pid before.places pid has) made

  agree : (e : PageEntry) → IsNamed old.pages e → place_of renumbered e ≡ place_of number e
  agree entry.Unmapped named = refl
  agree entry.Zero named = refl
  agree (entry.Frame k) named = ap account.Frame (same k (counted_used old.pages k named))

  old_or_new : (k : ℕ) → InUse old.pages k ⊎ InUse new.pages k → InUse old.pages k ⊎ ((k ≡ key) × (renumbered k ≡ before.made))
  old_or_new k known = ⊎_elim inl (λ used. ⊎_elim inl (λ new_one. inr (new_one.0, new_one.1)) (fresh k used)) known

  -- no two pages that were or are there have one number
  known_once : (one other : ℕ) → InUse old.pages one ⊎ InUse new.pages one → InUse old.pages other ⊎ InUse new.pages other
      → renumbered one ≡ renumbered other → one ≡ other
  known_once one other known_one known_other equal =
      ⊎_elim
      (λ old_one. ⊎_elim
      (λ old_other. accounted.numbers.once one other old_one old_other (sym (same one old_one) ∙ (equal ∙ same other old_other)))
      (λ new_other. let low = accounted.numbers.made one old_one in absurd (omega (arith, low, same one old_one, equal, new_other.1)))
      (old_or_new other known_other))
      (λ new_one. ⊎_elim
      (λ old_other. let low = accounted.numbers.made other old_other in absurd (omega (arith, low, same other old_other, equal, new_one.1)))
      (λ new_other. new_one.0 ∙ sym new_other.0)
      (old_or_new other known_other))
      (old_or_new one known_one)

  -- an entry names a page where its place names the page's frame
  names_same : (k : ℕ) (e : PageEntry) → InUse old.pages k ⊎ InUse new.pages k → IsNamed old.pages e ⊎ IsNamed new.pages e
      → names_frame (renumbered k) (place_of renumbered e) ≡ names_page k e
  names_same k entry.Unmapped known named = refl
  names_same k entry.Zero known named = refl
  names_same k (entry.Frame other) known named =
      ⊎_elim
      (λ equal. cond-true (eqb (renumbered other) (renumbered k)) 1 0 (eq-eqb (renumbered other) (renumbered k) (ap renumbered equal))
      ∙ sym (cond-true (eqb other k) 1 0 (eq-eqb other k equal)))
      (λ apart. cond-false (eqb (renumbered other) (renumbered k)) 1 0 (ne_eqb (renumbered other) (renumbered k) (λ equal. apart (known_once other k known_other known equal)))
      ∙ sym (cond-false (eqb other k) 1 0 (ne_eqb other k apart)))
      (cases_eq other k)
    where
      known_other : InUse old.pages other ⊎ InUse new.pages other
      known_other = ⊎_elim (λ counted_old. inl (counted_used old.pages other counted_old)) (λ counted_new. inr (counted_used new.pages other counted_new)) named

  was_named : IsNamed old.pages was
  was_named = IsNamed-entry old.nodes old.pages space page was counted turns.before

  is_named : IsNamed new.pages is
  is_named = IsNamed-entry new.nodes new.pages now page is recounted turns.after

  inside : page < length had
  inside = omega (arith, accounted.whole)

  was_placed : place_at had page ≡ place_of renumbered was
  was_placed = accounted.places page below ∙ (ap (place_of number) turns.before ∙ sym (agree was was_named))

  named_follow : (frame : ℕ) → namings accounted_after.places frame + names_frame frame (place_of renumbered was)
      ≡ namings before.places frame + names_frame frame (place_of renumbered is)
  named_follow frame =
      ap (λ p. namings accounted_after.places frame + names_frame frame p) (sym was_placed)
      ∙ namings-turned before.places before.made pid page frame (place_of renumbered is) accounted.made.0 accounted.made.1 inside

  none_yet : namings before.places before.made ≡ 0
  none_yet = ⊎_elim (λ none. none)
      (λ some.
      let found = accounted.numbers.found before.made (omega arith) in
      let low = accounted.numbers.made found.0 found.1 in
      absurd (omega (arith, low, found.2)))
      (cases_eq (namings before.places before.made) 0)

  counts_after : (k : ℕ) → InUse new.pages k → namings accounted_after.places (renumbered k) ≡ count_at new.pages k
  counts_after k used = ⊎_elim
      (λ old_one. omega (
        arith,
        named_follow (renumbered k),
        names_same k was (inr used) (inl was_named),
        names_same k is (inr used) (inr is_named),
        counts k,
        ap (namings before.places) (same k old_one),
        accounted.numbers.counts k old_one,
      ))
      (λ vacant. ⊎_elim
      (λ old_one. absurd (not_used old.pages k vacant old_one))
      (λ new_one. omega (
        arith,
        named_follow (renumbered k),
        names_same k was (inr used) (inl was_named),
        names_same k is (inr used) (inr is_named),
        counts k,
        ap (namings before.places) new_one.1,
        none_yet,
        ap page_count vacant,
      ))
      (fresh k used))
      (used_or_not old.pages k)

  found_after : (frame : ℕ) → 0 < namings accounted_after.places frame → (k : ℕ) × InUse new.pages k × (renumbered k ≡ frame)
  found_after frame some = ⊎_elim
      (λ none. by_entry is refl none)
      (λ before_some.
      let found = accounted.numbers.found frame (omega arith) in
      let is_frame : renumbered found.0 ≡ frame = same found.0 found.1 ∙ found.2 in
      let known : InUse old.pages found.0 ⊎ InUse new.pages found.0 = inl found.1 in
      let left : 0 < count_at new.pages found.0 = omega (
        arith,
        named_follow frame,
        ap (λ f. names_frame f (place_of renumbered was)) is_frame,
        ap (λ f. names_frame f (place_of renumbered is)) is_frame,
        names_same found.0 was known (inl was_named),
        names_same found.0 is known (inr is_named),
        counts found.0,
        ap (namings before.places) found.2,
        accounted.numbers.counts found.0 found.1,
      ) in
      (found.0, counted_used new.pages found.0 left, is_frame))
      (cases_eq (namings before.places frame) 0)
    where
      by_entry : (e : PageEntry) → is ≡ e → namings before.places frame ≡ 0 → (k : ℕ) × InUse new.pages k × (renumbered k ≡ frame)
      by_entry entry.Unmapped equal none = absurd (omega (arith, named_follow frame, ap (λ e. names_frame frame (place_of renumbered e)) equal))
      by_entry entry.Zero equal none = absurd (omega (arith, named_follow frame, ap (λ e. names_frame frame (place_of renumbered e)) equal))
      by_entry (entry.Frame k) equal none = ⊎_elim
          (λ here. (k, counted_used new.pages k (subst (IsNamed new.pages) equal is_named), here))
          (λ apart. absurd (omega (
            arith,
            named_follow frame,
            ap (λ e. names_frame frame (place_of renumbered e)) equal,
            cond-false {A = ℕ} (eqb (renumbered k) frame) 1 0 (ne_eqb (renumbered k) frame apart),
          )))
          (cases_eq (renumbered k) frame)

  has_now : places_of accounted_after pid ≡ has
  has_now = places_of-with before.places made pid has accounted.made.0 accounted.made.1

  has_places : HasPlaces renumbered new.nodes now has
  has_places at low = ⊎_elim
      (λ here. ap (place_at has) here ∙ (get_or-set_same had page (place_of renumbered is) account.Unmapped inside
      ∙ (ap (place_of renumbered) (sym turns.after) ∙ ap (λ p. place_of renumbered (entry_at new.nodes now p)) (sym here))))
      (λ apart. get_or-set_other had page at (place_of renumbered is) account.Unmapped apart
      ∙ (accounted.places at low ∙ (sym (agree (entry_at old.nodes space at) (IsNamed-entry old.nodes old.pages space at (entry_at old.nodes space at) counted refl))
      ∙ ap (place_of renumbered) (sym (turns.others at apart)))))
      (cases_eq at page)

  made_after : (k : ℕ) → InUse new.pages k → renumbered k < made
  made_after k used = ⊎_elim
      (λ old_one. let low = accounted.numbers.made k old_one in omega (arith, low, same k old_one))
      (λ new_one. omega (arith, new_one.1, new_one.2))
      (fresh k used)

  pub account-turned : AccountMoves old new space now number before accounted_after pid
  account-turned = record {
    renumbered = renumbered;
    accounted = record {
      numbers = record {
        counts = counts_after;
        made = made_after;
        once = λ one other used_one used_other. known_once one other (inr used_one) (inr used_other);
        found = found_after;
      };
      places = subst (HasPlaces renumbered new.nodes now) (sym has_now) has_places;
      made = (accounted.made.0, subst (λ n. pid ≤ n) (sym (length-with_pid before.places pid has)) accounted.made.1);
      whole = ap length has_now ∙ (length-set had page (place_of renumbered is) ∙ accounted.whole);
    };
    others = λ others other places owned among placed at low.
        placed at low
        ∙ (sym (agree (entry_at old.nodes other at) (IsNamed-entry old.nodes old.pages other at (entry_at old.nodes other at) counted refl))
        ∙ ap (place_of renumbered) (sym (other_entries old new space now others other turns.keys owned among at)));
    kept = λ other apart. places_of-other before.places made before.made pid other has apart;
    pids = length-with_pid before.places pid has;
  }

-- a page turns to an entry that names no new page
module _ (old new : Heap) (space now : List (Option ℕ)) (page : ℕ) (was is : PageEntry)
    (turns : PageTurns old.nodes new.nodes space now page was is) (below : page < 256)
    (counts : (frame : ℕ) → count_at new.pages frame + names_page frame was ≡ count_at old.pages frame + names_page frame is)
    (counted : IsCounted old.nodes old.pages) (recounted : IsCounted new.nodes new.pages) (named : IsNamed old.pages is) where
  stays_used : (k : ℕ) → InUse new.pages k → InUse old.pages k
  stays_used k used = counted_used old.pages k (⊎_elim
      (λ none. let some : 0 < names_page k is = omega (arith, counts k, recounted.named k used) in names_used old.pages k is named some)
      (λ some. omega arith)
      (cases_eq (count_at old.pages k) 0))

  pub account-known : (number : ℕ → ℕ) (before : Frames) (pid : ℕ) → IsAccounted old number before pid space
      → AccountMoves old new space now number before (turned_at before pid page (place_of number is)) pid
  account-known number before pid accounted =
      account-turned old new space now page 0 was is turns below counts counted recounted number number before pid before.made
      (λ k used. refl) (λ k used. inl (stays_used k used)) (omega arith) accounted

-- a page turns to one that is new
module _ (old new : Heap) (space now : List (Option ℕ)) (page key : ℕ) (was : PageEntry)
    (turns : PageTurns old.nodes new.nodes space now page was (entry.Frame key)) (below : page < 256)
    (counts : (frame : ℕ) → count_at new.pages frame + names_page frame was ≡ count_at old.pages frame + names_page frame (entry.Frame key))
    (counted : IsCounted old.nodes old.pages) (recounted : IsCounted new.nodes new.pages) (vacant : object old.pages key ≡ None) where
  pub account-fresh : (number : ℕ → ℕ) (before : Frames) (pid : ℕ) → IsAccounted old number before pid space
      → AccountMoves old new space now number before (account.fresh_at before pid page) pid
  account-fresh number before pid accounted =
      subst (λ place. AccountMoves old new space now number before (framed (with_pid before.places pid (set (places_of before pid) page place)) (before.made + 1)) pid)
      (ap account.Frame (cond-true (eqb key key) before.made (number key) (eq-eqb key key refl)))
      (account-turned old new space now page key was (entry.Frame key) turns below counts counted recounted number (λ k. cond (eqb k key) before.made (number k)) before pid (before.made + 1)
      (λ k used. cond-false (eqb k key) before.made (number k) (ne_eqb k key (λ same. not_used old.pages key vacant (subst (InUse old.pages) same used))))
      (λ k used. ⊎_elim
      (λ here. inr (here, cond-true (eqb k key) before.made (number k) (eq-eqb k key here), omega arith))
      (λ apart. inl (counted_used old.pages k (let none : names_page k (entry.Frame key) ≡ 0 = cond-false (eqb key k) 1 0 (ne_eqb key k (λ same. apart (sym same))) in
      omega (arith, counts k, none, recounted.named k used))))
      (cases_eq k key))
      (omega arith) accounted)

-- nothing changes
pub AccountFollows-refl : (h : Heap) (space : List (Option ℕ)) → AccountFollows h h space space (λ frames pid. frames)
AccountFollows-refl h space number before pid accounted = record {
  renumbered = number;
  accounted = accounted;
  others = λ others other places owned among placed. placed;
  kept = λ other apart. refl;
  pids = refl;
}

-- two changes in a row
pub AccountFollows-trans : (a b c : Heap) (first second third : List (Option ℕ)) (f g : Frames → ℕ → Frames)
    → SpaceMoves a b first second → AccountFollows a b first second f → AccountFollows b c second third g
    → AccountFollows a c first third (λ frames pid. g (f frames pid) pid)
AccountFollows-trans a b c first second third f g moves one two number before pid accounted =
    let mid = one number before pid accounted in
    let next = two mid.renumbered (f before pid) pid mid.accounted in
    record {
      renumbered = next.renumbered;
      accounted = next.accounted;
      others = λ others other places owned among placed.
          next.others others other places (moves.owners others owned) among (mid.others others other places owned among placed);
      kept = λ other apart. next.kept other apart ∙ mid.kept other apart;
      pids = next.pids ∙ mid.pids;
    }

-- a range of a process's places turns, page by page
pub AccountFollows-unranged : (h : Heap) (space : List (Option ℕ)) (first : ℕ) (place : Place)
    → AccountFollows h h space space (λ frames pid. with_places frames pid (with_range (places_of frames pid) first (first - first) place))
AccountFollows-unranged h space first place number before pid accounted =
    let none : first - first ≡ 0 = omega arith in
    let same : with_places before pid (with_range (places_of before pid) first (first - first) place) ≡ before =
    ap (λ n. with_places before pid (with_range (places_of before pid) first n place)) none ∙ ranged-none before pid first place in
    subst (λ after. AccountMoves h h space space number before after pid) (sym same) (AccountFollows-refl h space number before pid accounted)

pub AccountFollows-ranged : (old mid new : Heap) (space now then : List (Option ℕ)) (first page : ℕ) (place : Place)
    → SpaceMoves old mid space now
    → AccountFollows old mid space now (λ frames pid. with_places frames pid (with_range (places_of frames pid) first (page - first) place))
    → AccountFollows mid new now then (λ frames pid. turned_at frames pid page place) → first ≤ page → page < 256
    → AccountFollows old new space then (λ frames pid. with_places frames pid (with_range (places_of frames pid) first (page + 1 - first) place))
AccountFollows-ranged old mid new space now then first page place moves so_far next from below number before pid accounted =
    let range : Frames → ℕ → ℕ → Frames = λ frames pid n. with_places frames pid (with_range (places_of frames pid) first n place) in
    let at : first + (page - first) ≡ page = omega arith in
    let more : (page - first) + 1 ≡ page + 1 - first = omega arith in
    let same : turned_at (range before pid (page - first)) pid page place ≡ range before pid (page + 1 - first) =
    ap (λ p. turned_at (range before pid (page - first)) pid p place) (sym at)
    ∙ (ranged-more before pid first (page - first) place accounted.made.0 accounted.made.1 (omega (arith, accounted.whole))
    ∙ ap (range before pid) more) in
    subst (λ after. AccountMoves old new space then number before after pid) same
    (AccountFollows-trans old mid new space now then (λ frames pid. range frames pid (page - first)) (λ frames pid. turned_at frames pid page place) moves so_far next number before pid accounted)

-- a page that has this entry already
pub AccountFollows-unmapped : (h : Heap) (space : List (Option ℕ)) (page : ℕ) → page < 256 → entry_at h.nodes space page ≡ entry.Unmapped
    → AccountFollows h h space space (λ frames pid. turned_at frames pid page account.Unmapped)
AccountFollows-unmapped h space page below is number before pid accounted =
    subst (λ after. AccountMoves h h space space number before after pid)
    (sym (turned-same before pid page account.Unmapped (accounted.places page below ∙ ap (place_of number) is)))
    (AccountFollows-refl h space number before pid accounted)

-- an entry is taken away, and then what it named is named once less
module _ (old mid new : Heap) (space now : List (Option ℕ)) (page : ℕ) (below : page < 256)
    (turns : PageTurns old.nodes mid.nodes space now page (entry_at old.nodes space page) entry.Unmapped)
    (first : mid ≡ record old { nodes = mid.nodes }) (e : PageEntry) (is : e ≡ entry_at old.nodes space page)
    (counts : (frame : ℕ) → count_at new.pages frame + names_page frame e ≡ count_at mid.pages frame)
    (others_stay : (key : ℕ) → names_page key e ≡ 0 → object new.pages key ≡ object mid.pages key)
    (second : new ≡ record mid { pages = new.pages })
    (others : Owners) (owned : IsOwned old (with_space space others)) (moves : SpaceMoves old new space now) where
  turned : PageTurns old.nodes new.nodes space now page (entry_at old.nodes space page) entry.Unmapped
  turned = subst (λ nodes. PageTurns old.nodes nodes space now page (entry_at old.nodes space page) entry.Unmapped) (sym (ap (λ h. h.nodes) second)) turns

  pages_same : mid.pages ≡ old.pages
  pages_same = ap (λ h. h.pages) first

  pub unmapped-account : AccountFollows old new space now (λ frames pid. turned_at frames pid page account.Unmapped)
  unmapped-account = account-known old new space now page (entry_at old.nodes space page) entry.Unmapped turned below
      (λ frame. omega (arith, counts frame, ap (names_page frame) is, ap (λ pages. count_at pages frame) pages_same))
      owned.pages (let after = moves.owners others owned in after.pages) tt

  pub unmapped-own : OwnChanges old new space now
  unmapped-own = OwnChanges-turned old new space now page (entry_at old.nodes space page) entry.Unmapped below turned
      (λ key none used. others_stay key (ap (names_page key) is ∙ none) ∙ ap (λ pages. object pages key) pages_same)
      (λ key same. absurd (not_frame key same))
    where
      not_frame : (key : ℕ) → entry.Unmapped ≡ entry.Frame key → ⊥
      not_frame key same = cc
