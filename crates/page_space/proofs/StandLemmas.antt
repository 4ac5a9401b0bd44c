-- Spaces that stand for memories as another one changes, and lists of calls.
use Rattle.std.proofs.Common.{◌≡◌, ◌≢◌, ℕ, zero, suc, ◌+◌, ◌<◌, ◌≤◌, List, [], ◌∷◌, Option, length, refl, sym, ap, ◌∙◌, subst, ⊎_elim, arith}
use Rattle.std.specs.List.{Contains}
use Rattle.std.proofs.lemmas.List.Elements.{Contains-append_cases, Contains-append_right}
use Rattle.posix_defs.specs.Memory.{Memory, Frames, Place, place_at, places_of, stored, after_put}
use Rattle.posix_defs.specs.Memory as account
use Rattle.kheap_slabs.specs.Purse.{Purse}
use Rattle.kheap_slabs.specs.declared.objects.PageEntry.{PageEntry}
use Rattle.kheap_slabs.specs.declared.objects.PageEntry.TheVariants as entry
use Rattle.kheap_slabs.specs.Heap.{Heap}
use Rattle.kheap_slabs.specs.Owners.{Owners, with_space, IsOwned}
use Rattle.kheap_laws.proofs.OwnerLemmas.{first_there, IsOwned-space_to_front}
use Rattle.page_space.specs.Accounts.{place_of, HasPlaces, AreFrames, OthersAccounted, AccountMoves, AccountForks, AccountLeaves}
use Rattle.page_space.specs.Contents.{content_at, StandsFor, SpaceMoves, SpaceLeaves, IsForked}
use Rattle.page_space.specs.Entries.{entry_at}
use Rattle.page_space.specs.Putting.{Puts}
use Rattle.page_space.specs.Sequences.{Moment, IsCall, AreCalls}
use Rattle.page_space.specs.Sequences as call
use Rattle.page_space.specs.Standing.{HoldsMemory}
use Rattle.page_space.proofs.MoveLemmas.{counted_used, IsNamed-entry}
use Rattle.page_space.proofs.StoreLemmas.{length-stored}

-- a space that isn't touched
still_holds : (old new : Heap) (space : List (Option ℕ)) (number renumbered : ℕ → ℕ) (before after : Frames) (others : Owners) (other : List (Option ℕ)) (its : ℕ) (memory : Memory)
    → IsOwned old (with_space space others) → Contains others.spaces other
    → ((page : ℕ) → content_at new other page ≡ content_at old other page)
    → OthersAccounted old new space number renumbered → AreFrames renumbered new.pages after
    → places_of after its ≡ places_of before its → length before.places ≤ length after.places
    → HoldsMemory old number before its other memory → HoldsMemory new renumbered after its other memory
still_holds old new space number renumbered before after others other its memory owned among same others_accounted numbers kept more holds =
    let account = holds.account in
    record {
      bytes = λ page below. same page ∙ holds.bytes page below;
      pages = holds.pages;
      account = record {
        numbers = numbers;
        places = subst (HasPlaces renumbered new.nodes other) (sym kept) (others_accounted others other (places_of before its) owned among account.places);
        made = (account.made.0, omega (arith, account.made.1));
        whole = ap length kept ∙ account.whole;
      };
    }

pub holds_while_another_changes : (old new : Heap) (space now : List (Option ℕ)) (number : ℕ → ℕ) (before after : Frames) (pid : ℕ) (others : Owners) (other : List (Option ℕ)) (its : ℕ) (memory : Memory)
    → SpaceMoves old new space now → (moved : AccountMoves old new space now number before after pid)
    → IsOwned old (with_space space others) → Contains others.spaces other → its ≢ pid
    → HoldsMemory old number before its other memory → HoldsMemory new moved.renumbered after its other memory
holds_while_another_changes old new space now number before after pid others other its memory moves moved owned among apart holds =
    still_holds old new space number moved.renumbered before after others other its memory owned among (moves.others others other owned among)
    moved.others moved.accounted.numbers (moved.kept its apart) (omega (arith, moved.pids)) holds

pub holds_while_another_leaves : (old new : Heap) (space : List (Option ℕ)) (number : ℕ → ℕ) (before after : Frames) (pid : ℕ) (others : Owners) (other : List (Option ℕ)) (its : ℕ) (memory : Memory)
    → SpaceLeaves old new space → (left : AccountLeaves old new space number before after pid)
    → IsOwned old (with_space space others) → Contains others.spaces other → its ≢ pid
    → HoldsMemory old number before its other memory → HoldsMemory new left.renumbered after its other memory
holds_while_another_leaves old new space number before after pid others other its memory leaves left owned among apart holds =
    still_holds old new space number left.renumbered before after others other its memory owned among (leaves.others others other owned among)
    left.others left.numbers (left.kept its apart) (omega (arith, left.pids)) holds

pub holds_while_another_forks : (old : Heap) (paying : Purse) (new : Heap) (paid : Purse) (of now : List (Option ℕ)) (number : ℕ → ℕ) (before after : Frames) (parent : ℕ) (others : Owners) (other : List (Option ℕ)) (its : ℕ) (memory : Memory)
    → IsForked old paying new paid of now 256 → (forks : AccountForks old new of now number before after parent)
    → IsOwned old (with_space of others) → Contains others.spaces other
    → HoldsMemory old number before its other memory → HoldsMemory new forks.renumbered after its other memory
holds_while_another_forks old paying new paid of now number before after parent others other its memory forked forks owned among holds =
    let child = forks.child in
    let made = holds.account.made in
    still_holds old new of number forks.renumbered before after others other its memory owned among
    (forked.others others other owned (Contains-append_right (of ∷ []) others.spaces other among))
    forks.others child.numbers (forks.kept its made.1) (omega (arith, child.made.1)) holds

-- what a call leaves in its own space
pub holds_after_change : (old new : Heap) (space now : List (Option ℕ)) (number : ℕ → ℕ) (before after : Frames) (pid : ℕ) (memory : Memory)
    → (moved : AccountMoves old new space now number before after pid) → StandsFor new now memory → length memory ≡ 256
    → HoldsMemory new moved.renumbered after pid now memory
holds_after_change old new space now number before after pid memory moved stands long = record { bytes = stands; pages = long; account = moved.accounted }

pub holds_after_put : (old : Heap) (paying : Purse) (new : Heap) (paid : Purse) (space : List (Option ℕ)) (addr : ℕ) (bytes : List ℕ) (number : ℕ → ℕ) (frames : Frames) (pid : ℕ) (memory : Memory)
    → (puts : Puts old paying new paid space addr bytes) → (holds : HoldsMemory old number frames pid space memory)
    → (moved : AccountMoves old new space space number frames (after_put frames pid addr (length bytes)) pid)
    × HoldsMemory new moved.renumbered (after_put frames pid addr (length bytes)) pid space (stored memory addr bytes)
holds_after_put old paying new paid space addr bytes number frames pid memory puts holds =
    let moved = puts.account number frames pid holds.account in
    (moved, record { bytes = puts.memory memory holds.pages holds.bytes; pages = length-stored memory addr bytes ∙ holds.pages; account = moved.accounted })

pub holds_after_fork : (old : Heap) (paying : Purse) (new : Heap) (paid : Purse) (of now : List (Option ℕ)) (number : ℕ → ℕ) (before after : Frames) (parent : ℕ) (memory : Memory) (others : Owners)
    → IsForked old paying new paid of now 256 → (forks : AccountForks old new of now number before after parent)
    → IsOwned old (with_space of others) → HoldsMemory old number before parent of memory
    → HoldsMemory new forks.renumbered after (length before.places + 1) now memory × HoldsMemory new forks.renumbered after parent of memory
holds_after_fork old paying new paid of now number before after parent memory others forked forks owned holds = (
  record { bytes = λ page below. forked.same page below ∙ holds.bytes page below; pages = holds.pages; account = forks.child },
  record {
    bytes = λ page below. forked.others others of owned (first_there of others.spaces) page ∙ holds.bytes page below;
    pages = holds.pages;
    account = forks.parent_too;
  },
)

-- two entries name one page where their places name one frame
module _ (h : Heap) (number : ℕ → ℕ) (frames : Frames) (owners : Owners) (pid its : ℕ) (one other : List (Option ℕ)) (memory memory' : Memory) (page at : ℕ)
    (owned : IsOwned h owners) (holds : HoldsMemory h number frames pid one memory) (holds' : HoldsMemory h number frames its other memory') (below : page < 256) (below' : at < 256) where
  place_of_one : place_at (places_of frames pid) page ≡ place_of number (entry_at h.nodes one page)
  place_of_one = holds.account.places page below

  place_of_other : place_at (places_of frames its) at ≡ place_of number (entry_at h.nodes other at)
  place_of_other = holds'.account.places at below'

  names_frame_of : (e : PageEntry) (frame : ℕ) → place_of number e ≡ account.Frame frame → (key : ℕ) × (e ≡ entry.Frame key) × (number key ≡ frame)
  names_frame_of entry.Unmapped frame same = absurd (unequal same)
    where
      unequal : account.Unmapped ≡ account.Frame frame → ⊥
      unequal same = cc
  names_frame_of entry.Zero frame same = absurd (unequal same)
    where
      unequal : account.Zero ≡ account.Frame frame → ⊥
      unequal same = cc
  names_frame_of (entry.Frame key) frame same = (key, refl, of_frame (number key) same)
    where
      of_frame : (n : ℕ) → account.Frame n ≡ account.Frame frame → n ≡ frame
      of_frame n equal = cc

  pub one_frame : (key : ℕ) × (entry_at h.nodes one page ≡ entry.Frame key) × (entry_at h.nodes other at ≡ entry.Frame key)
      → (frame : ℕ) × (place_at (places_of frames pid) page ≡ account.Frame frame) × (place_at (places_of frames its) at ≡ account.Frame frame)
  one_frame shared = (number shared.0, place_of_one ∙ ap (place_of number) shared.1, place_of_other ∙ ap (place_of number) shared.2)

  pub one_page : (frame : ℕ) × (place_at (places_of frames pid) page ≡ account.Frame frame) × (place_at (places_of frames its) at ≡ account.Frame frame)
      → (key : ℕ) × (entry_at h.nodes one page ≡ entry.Frame key) × (entry_at h.nodes other at ≡ entry.Frame key)
  one_page shared =
      let first = names_frame_of (entry_at h.nodes one page) shared.0 (sym place_of_one ∙ shared.1) in
      let second = names_frame_of (entry_at h.nodes other at) shared.0 (sym place_of_other ∙ shared.2) in
      let numbers = holds.account.numbers in
      let same : second.0 ≡ first.0 = numbers.once second.0 first.0
      (counted_used h.pages second.0 (IsNamed-entry h.nodes h.pages other at (entry.Frame second.0) owned.pages second.1))
      (counted_used h.pages first.0 (IsNamed-entry h.nodes h.pages one page (entry.Frame first.0) owned.pages first.1))
      (second.2 ∙ sym first.2) in
      (first.0, first.1, second.1 ∙ ap entry.Frame same)

-- owners own before and after a call, so at each moment of a list of calls
owned_after : {before after : Moment} → IsCall before after → IsOwned before.heap before.owners → IsOwned after.heap after.owners
owned_after (call.changes old new space now others moves) owned = moves.owners others owned
owned_after (call.forks old new before after of now others forked) owned = forked.owners others owned
owned_after (call.goes old new space others leaves) owned = leaves.owners others owned
owned_after (call.turns_to h owners space rest split) owned = IsOwned-space_to_front h owners space rest split owned

pub owned_throughout : (rest : List Moment) (first : Moment) → AreCalls first rest → IsOwned first.heap first.owners
    → (moment : Moment) → Contains (first ∷ rest) moment → IsOwned moment.heap moment.owners
owned_throughout [] first calls owned moment among = subst (λ m. IsOwned m.heap m.owners) (only among) owned
  where
    only : Contains (first ∷ []) moment → first ≡ moment
    only (zero, within, is) = is
    only (suc at, within, is) = absurd (omega arith)
owned_throughout (next ∷ rest) first calls owned moment among = ⊎_elim
    (λ here. subst (λ m. IsOwned m.heap m.owners) (only here) owned)
    (λ behind. owned_throughout rest next calls.1 (owned_after calls.0 owned) moment behind)
    (Contains-append_cases (first ∷ []) (next ∷ rest) moment among)
  where
    only : Contains (first ∷ []) moment → first ≡ moment
    only (zero, within, is) = is
    only (suc at, within, is) = absurd (omega arith)
