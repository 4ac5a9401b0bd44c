-- The account of a space that gets the pages of another one after another.
use Rattle.std.proofs.Common.{◌≡◌, ◌≢◌, ℕ, ◌+◌, ◌<◌, ◌≤◌, List, [], ◌∷◌, ◌++◌, Option, length, set, sym, ap, ◌∙◌, subst, ⊎_elim, arith}
use Rattle.std.proofs.lemmas.Bool.{cases_eq}
use Rattle.std.proofs.lemmas.List.{ext_get_or, get_or-set_same, get_or-set_other, length-set, length-append}
use Rattle.std.proofs.lemmas.List.Elements.{Contains-append_right}
use Rattle.posix_defs.specs.ByPid.{with_pid}
use Rattle.posix_defs.specs.Memory.{Frames, Place, Places, place_at, places_of, no_places, namings, after_fork}
use Rattle.posix_defs.specs.Memory as account
use Rattle.kheap_slabs.specs.declared.objects.PageEntry.{PageEntry}
use Rattle.kheap_slabs.specs.declared.objects.PageEntry.TheVariants as entry
use Rattle.kheap_slabs.specs.Heap.{Heap}
use Rattle.kheap_slabs.specs.Owners.{Owners, with_space, IsOwned}
use Rattle.kheap_slabs.specs.Spaces.{count_at, names_page, IsCounted}
use Rattle.kheap_laws.proofs.OwnerLemmas.{first_there}
use Rattle.page_space.specs.Accounts.{place_of, HasPlaces, AreFrames, IsAccounted, AccountForks, AccountMoves, turned_at}
use Rattle.page_space.specs.Entries.{entry_at, PageTurns}
use Rattle.page_space.specs.Frames.{IsNamed}
use Rattle.page_space.proofs.AccountLemmas.{account-known}
use Rattle.page_space.proofs.PlaceLemmas.{framed, places_of-last, places_of-earlier, with_pid-last, namings-last, no_place, length-no_places}

-- the account with a youngest process that has these places
abbrev pub with_youngest : Frames → Places → Frames
with_youngest before places = framed (before.places ++ places ∷ []) before.made

-- so far the youngest process has what its parent has at the pages up to one, and nothing behind it
pub record ForkedSoFar (old new : Heap) (of now : List (Option ℕ)) (number : ℕ → ℕ) (before : Frames) (parent page : ℕ) : Type 0 where
  pub places : Places
  pub whole : length places ≡ 256
  pub same : (at : ℕ) → at < page → at < 256 → place_at places at ≡ place_at (places_of before parent) at
  pub rest : (at : ℕ) → page ≤ at → at < 256 → place_at places at ≡ account.Unmapped
  pub forks : AccountForks old new of now number before (with_youngest before places) parent

-- by whichever account the parent's space is its own
abbrev pub AccountForksTo : Heap → Heap → List (Option ℕ) → List (Option ℕ) → ℕ → Type 0
AccountForksTo old new of now page =
    (number : ℕ → ℕ) (before : Frames) (parent : ℕ) → IsAccounted old number before parent of → ForkedSoFar old new of now number before parent page

-- numbers stay where the youngest process names nothing
AreFrames-youngest : (h : Heap) (number : ℕ → ℕ) (before : Frames) → AreFrames number h.pages before → AreFrames number h.pages (with_youngest before no_places)
AreFrames-youngest h number before are = record {
  counts = λ key used. namings-last before.places (number key) ∙ are.counts key used;
  made = are.made;
  once = are.once;
  found = λ frame some. are.found frame (omega (arith, namings-last before.places frame));
}

pub AccountForksTo-none : (h : Heap) (of empty : List (Option ℕ)) → ((page : ℕ) → entry_at h.nodes empty page ≡ entry.Unmapped) → AccountForksTo h h of empty 0
AccountForksTo-none h of empty free number before parent accounted =
    let after : Frames = with_youngest before no_places in
    let last : places_of after (length before.places + 1) ≡ no_places = places_of-last before.places before.made no_places in
    let earlier : places_of after parent ≡ places_of before parent = places_of-earlier before.places before.made before.made parent no_places accounted.made.1 in
    record {
      places = no_places;
      whole = length-no_places;
      same = λ at below within. absurd (omega arith);
      rest = λ at from within. no_place at within;
      forks = record {
        renumbered = number;
        child = record {
          numbers = AreFrames-youngest h number before accounted.numbers;
          places = λ at below. ap (λ p. place_at p at) last ∙ (no_place at below ∙ ap (place_of number) (sym (free at)));
          made = (omega arith, omega (arith, length-append before.places (no_places ∷ [])));
          whole = ap length last ∙ length-no_places;
        };
        parent_too = record {
          numbers = AreFrames-youngest h number before accounted.numbers;
          places = λ at below. ap (λ p. place_at p at) earlier ∙ accounted.places at below;
          made = (accounted.made.0, omega (arith, accounted.made.1, length-append before.places (no_places ∷ [])));
          whole = ap length earlier ∙ accounted.whole;
        };
        others = λ others other places owned among placed. placed;
        kept = λ other within. places_of-earlier before.places before.made before.made other no_places within;
      };
    }

-- what the account says of a page of the parent
parent_placed : (old mid : Heap) (of now : List (Option ℕ)) (number : ℕ → ℕ) (before : Frames) (parent page : ℕ)
    → (so_far : ForkedSoFar old mid of now number before parent page) → parent ≤ length before.places → page < 256
    → place_at (places_of before parent) page ≡ place_of so_far.forks.renumbered (entry_at mid.nodes of page)
parent_placed old mid of now number before parent page so_far within below =
    let forks = so_far.forks in
    let parents = forks.parent_too in
    ap (λ p. place_at p page) (sym (forks.kept parent within)) ∙ parents.places page below

-- a page that isn't mapped
pub AccountForksTo-unmapped : (old mid : Heap) (of now : List (Option ℕ)) (page : ℕ) → AccountForksTo old mid of now page → page < 256
    → entry_at mid.nodes of page ≡ entry.Unmapped → AccountForksTo old mid of now (page + 1)
AccountForksTo-unmapped old mid of now page forked low unmapped number before parent accounted =
    let so_far = forked number before parent accounted in
    let renumbered : ℕ → ℕ = so_far.forks.renumbered in
    record {
      places = so_far.places;
      whole = so_far.whole;
      same = λ at below within. ⊎_elim
          (λ here. ap (place_at so_far.places) here ∙ (so_far.rest page (omega arith) low
          ∙ (ap (place_of renumbered) (sym unmapped) ∙ (sym (parent_placed old mid of now number before parent page so_far accounted.made.1 low)
          ∙ ap (place_at (places_of before parent)) (sym here)))))
          (λ apart. so_far.same at (omega arith) within)
          (cases_eq at page);
      rest = λ at from within. so_far.rest at (omega arith) within;
      forks = so_far.forks;
    }

-- a mapped page
module _ (old mid new : Heap) (of now then : List (Option ℕ)) (others : Owners) (page : ℕ) (e : PageEntry)
    (forked : AccountForksTo old mid of now page) (low : page < 256)
    (owners : (some : Owners) → IsOwned old (with_space of some) → IsOwned mid (with_space now (with_space of some)))
    (owned : IsOwned old (with_space of others))
    (is : e ≡ entry_at mid.nodes of page) (turns : PageTurns mid.nodes new.nodes now then page entry.Unmapped e)
    (counts : (frame : ℕ) → count_at new.pages frame + names_page frame entry.Unmapped ≡ count_at mid.pages frame + names_page frame e)
    (counted : IsCounted mid.nodes mid.pages) (recounted : IsCounted new.nodes new.pages) (named : IsNamed mid.pages e) where
  pub AccountForksTo-more : AccountForksTo old new of then (page + 1)
  AccountForksTo-more number before parent accounted =
      let so_far = forked number before parent accounted in
      let forks = so_far.forks in
      let youngest : ℕ = length before.places + 1 in
      let mid_frames : Frames = with_youngest before so_far.places in
      let place : Place = place_of forks.renumbered e in
      let places : Places = set so_far.places page place in
      let after : Frames = with_youngest before places in
      let child_had : places_of mid_frames youngest ≡ so_far.places = places_of-last before.places before.made so_far.places in
      let same_frames : turned_at mid_frames youngest page place ≡ after =
      ap (λ had. framed (with_pid mid_frames.places youngest (set had page place)) before.made) child_had
      ∙ ap (λ l. framed l before.made) (with_pid-last before.places so_far.places places) in
      let moved : AccountMoves mid new now then forks.renumbered mid_frames after youngest =
      subst (λ frames. AccountMoves mid new now then forks.renumbered mid_frames frames youngest) same_frames
      (account-known mid new now then page entry.Unmapped e turns low counts counted recounted named forks.renumbered mid_frames youngest forks.child) in
      let parents = forks.parent_too in
      let older : parent ≢ youngest = λ equal. omega (arith, accounted.made.1) in
      let owned_mid : IsOwned mid (with_space now (with_space of others)) = owners others owned in
      record {
        places = places;
        whole = length-set so_far.places page place ∙ so_far.whole;
        same = λ at below within. ⊎_elim
            (λ here. ap (place_at places) here ∙ (get_or-set_same so_far.places page place account.Unmapped (omega (arith, so_far.whole))
            ∙ (ap (place_of forks.renumbered) is ∙ (sym (parent_placed old mid of now number before parent page so_far accounted.made.1 low)
            ∙ ap (place_at (places_of before parent)) (sym here)))))
            (λ apart. get_or-set_other so_far.places page at place account.Unmapped apart ∙ so_far.same at (omega arith) within)
            (cases_eq at page);
        rest = λ at from within. get_or-set_other so_far.places page at place account.Unmapped (λ here. omega arith) ∙ so_far.rest at (omega arith) within;
        forks = record {
          renumbered = moved.renumbered;
          child = moved.accounted;
          parent_too = record {
            numbers = moved.accounted.numbers;
            places = subst (HasPlaces moved.renumbered new.nodes of) (sym (moved.kept parent older))
                (moved.others (with_space of others) of (places_of mid_frames parent) owned_mid (first_there of others.spaces) parents.places);
            made = (accounted.made.0, omega (arith, accounted.made.1, length-append before.places (places ∷ [])));
            whole = ap length (moved.kept parent older) ∙ parents.whole;
          };
          others = λ some other at owned_some among placed.
              moved.others (with_space of some) other at (owners some owned_some) (Contains-append_right (of ∷ []) some.spaces other among)
              (forks.others some other at owned_some among placed);
          kept = λ other within. moved.kept other (λ equal. omega arith) ∙ forks.kept other within;
        };
      }

-- all pages are there
pub AccountForks-all : (old new : Heap) (of now : List (Option ℕ)) → AccountForksTo old new of now 256
    → (number : ℕ → ℕ) (before : Frames) (parent : ℕ) → IsAccounted old number before parent of
    → AccountForks old new of now number before (after_fork before parent) parent
AccountForks-all old new of now forked number before parent accounted =
    let so_far = forked number before parent accounted in
    let same : so_far.places ≡ places_of before parent =
    ext_get_or account.Unmapped so_far.places (places_of before parent) (so_far.whole ∙ sym accounted.whole)
    (λ at within. so_far.same at (omega (arith, so_far.whole)) (omega (arith, so_far.whole))) in
    subst (λ places. AccountForks old new of now number before (with_youngest before places) parent) same so_far.forks
