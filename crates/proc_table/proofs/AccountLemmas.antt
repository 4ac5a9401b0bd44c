-- The account of all processes, where one of them changes.
use Rattle.std.proofs.Common.{◌≡◌, ◌≢◌, ◌⊎◌, ℕ, zero, suc, ◌+◌, ◌/◌, ◌%◌, ◌<◌, ◌≤◌, ◌==◌, Bool, true, false, cond, not, List, [], ◌∷◌, ◌++◌, filter, length, map, replicate, Option, None, Some, refl, sym, ap, ◌∙◌, subst, inl, inr, arith, Contains, length-append}
use Rattle.std.specs.List.{AllByRecursion, filter_map, cons_option}
use Rattle.std.proofs.lemmas.Bool.{cases_lt}
use Rattle.std.proofs.lemmas.Bool.Decides.{eqb_tells}
use Rattle.std.proofs.lemmas.List.{get_or-replicate, get_or_past, length-replicate}
use Rattle.std.proofs.lemmas.List.FromFn.{fill_by_all}
use Rattle.kheap_slabs.specs.declared.objects.Node.{Node}
use Rattle.kheap_slabs.specs.declared.objects.Proc.{Proc}
use Rattle.kheap_slabs.specs.Heap.{Heap}
use Rattle.kheap_slabs.specs.Owners.{with_space, IsOwned}
use Rattle.kheap_slabs.specs.Spaces.{keys_in}
use Rattle.kheap_laws.proofs.OwnerLemmas.{IsOwned-space_to_front}
use Rattle.page_space.specs.Accounts.{AccountForks, AreFrames, HasPlaces, IsAccounted, OthersAccounted, place_of}
use Rattle.page_space.specs.Entries.{entry_under}
use Rattle.posix_defs.specs.Memory.{Frames, Places, Unmapped, after_fork, no_places, places_of}
use Rattle.proc_table.specs.Accounting.{HasAccount, IsPlaced}
use Rattle.proc_table.specs.Changes.{is_other, with_nodes}
use Rattle.proc_table.specs.Procs.{proc_of}
use Rattle.proc_table.specs.Table.{AreBetween, AreStored, Holds, TableView, processes, procs_at, with_procs}
use Rattle.proc_table.specs.declared.places.Place.{Place}
use Rattle.proc_table.proofs.FamilyLemmas.{proc_has_pid}
use Rattle.proc_table.proofs.MemoryLemmas.{none_under}
use Rattle.proc_table.proofs.OwnLemmas.{AreRising, HasOut, all_append, all_filter, all_filter_map, all_weaker, has_it, has_out, others_above, rising_procs, with_nodes-above}
use Rattle.proc_table.proofs.PlaceLemmas.{IsAt, eqb_same, some_same, stored_is}

-- two facts of each
pub all_both : {X : Type 0} (P Q : X → Type 0) (xs : List X) → AllByRecursion P xs → AllByRecursion Q xs → AllByRecursion (λ x. P x × Q x) xs
all_both P Q [] one other = tt
all_both P Q (x ∷ xs) one other = ((one.0, other.0), all_both P Q xs one.1 other.1)

-- pids are within those that were given
between_most : (places : List Place) (before last : ℕ) → AreBetween before places last → before ≤ last
between_most [] before last rising = rising
between_most (place ∷ places) before last rising = omega (arith, rising.0, between_most places place.pid last rising.1)

pub pids_within : (objects : List (Option Proc)) (places : List Place) (before last : ℕ) → AreStored objects places → AreBetween before places last
    → AllByRecursion (λ proc. (before < proc.pid) × (proc.pid ≤ last)) (procs_at objects places)
pids_within objects [] before last stored rising = tt
pids_within objects (place ∷ places) before last stored rising =
    by_case (stored_is objects place stored.0) (pids_within objects places place.pid last stored.1 rising.1) (between_most places place.pid last rising.1)
  where
    by_case : IsAt objects place → AllByRecursion (λ proc. (place.pid < proc.pid) × (proc.pid ≤ last)) (procs_at objects places) → place.pid ≤ last
        → AllByRecursion (λ proc. (before < proc.pid) × (proc.pid ≤ last)) (procs_at objects (place ∷ places))
    by_case at rest most =
        subst (λ o. AllByRecursion (λ proc. (before < proc.pid) × (proc.pid ≤ last)) (cons_option o (procs_at objects places))) (sym at.is) (
          let e : at.proc.pid ≡ place.pid = at.pid in (omega (arith, rising.0), omega arith),
          all_weaker (λ proc. (place.pid < proc.pid) × (proc.pid ≤ last)) (λ proc. (before < proc.pid) × (proc.pid ≤ last)) (procs_at objects places)
              (λ proc within. (omega (arith, rising.0, within.0), within.1)) rest,
        )

-- what all others have and one has, all have
pub all_joined : (Q : Proc → Type 0) (procs : List Proc) (before pid : ℕ) (proc : Proc) → AreRising before procs → proc_of procs pid ≡ Some proc
    → AllByRecursion Q (filter (is_other pid) procs) → Q proc → AllByRecursion Q procs
all_joined Q [] before pid proc rising is others own = tt
all_joined Q (first ∷ procs) before pid proc rising is others own = by_case (eqb_tells first.pid pid) (all_joined Q procs first.pid pid proc rising.1)
  where
    by_case : (((first.pid == pid) ≡ true) × (first.pid ≡ pid)) ⊎ (((first.pid == pid) ≡ false) × (first.pid ≢ pid))
        → (proc_of procs pid ≡ Some proc → AllByRecursion Q (filter (is_other pid) procs) → Q proc → AllByRecursion Q procs) → AllByRecursion Q (first ∷ procs)
    by_case (inl same) rest = (
      subst Q (some_same (proc_of (first ∷ procs) pid) proc first is (ap (λ b. cond b (Some first) (proc_of procs pid)) same.0)) own,
      subst (AllByRecursion Q)
          (ap (λ b. cond (not b) (first ∷ filter (is_other pid) procs) (filter (is_other pid) procs)) same.0 ∙ others_above procs first.pid pid rising.1 (let e = same.1 in omega arith)) others,
    )
    by_case (inr other) rest =
        let all : AllByRecursion Q (first ∷ filter (is_other pid) procs) =
        subst (AllByRecursion Q) (ap (λ b. cond (not b) (first ∷ filter (is_other pid) procs) (filter (is_other pid) procs)) other.0) others in
        (all.0, rest (sym (ap (λ b. cond b (Some first) (proc_of procs pid)) other.0) ∙ is) all.1 own)

-- and so where that one has other nodes
pub all_turned : (Q : Proc → Type 0) (procs : List Proc) (before pid : ℕ) (proc : Proc) (nodes : List (Option ℕ)) → AreRising before procs → proc_of procs pid ≡ Some proc
    → AllByRecursion Q (filter (is_other pid) procs) → Q (record proc { nodes = nodes }) → AllByRecursion Q (map (with_nodes pid nodes) procs)
all_turned Q [] before pid proc nodes rising is others own = tt
all_turned Q (first ∷ procs) before pid proc nodes rising is others own = by_case (eqb_tells first.pid pid) (all_turned Q procs first.pid pid proc nodes rising.1)
  where
    by_case : (((first.pid == pid) ≡ true) × (first.pid ≡ pid)) ⊎ (((first.pid == pid) ≡ false) × (first.pid ≢ pid))
        → (proc_of procs pid ≡ Some proc → AllByRecursion Q (filter (is_other pid) procs) → Q (record proc { nodes = nodes }) → AllByRecursion Q (map (with_nodes pid nodes) procs))
        → AllByRecursion Q (map (with_nodes pid nodes) (first ∷ procs))
    by_case (inl same) rest = (
      subst Q (sym (ap (λ b. cond b (record first { nodes = nodes }) first) same.0))
          (subst (λ p. Q (record p { nodes = nodes })) (some_same (proc_of (first ∷ procs) pid) proc first is (ap (λ b. cond b (Some first) (proc_of procs pid)) same.0)) own),
      subst (AllByRecursion Q)
          (ap (λ b. cond (not b) (first ∷ filter (is_other pid) procs) (filter (is_other pid) procs)) same.0 ∙ others_above procs first.pid pid rising.1 (let e = same.1 in omega arith)
          ∙ sym (with_nodes-above procs first.pid pid nodes rising.1 (let e = same.1 in omega arith))) others,
    )
    by_case (inr other) rest =
        let all : AllByRecursion Q (first ∷ filter (is_other pid) procs) =
        subst (AllByRecursion Q) (ap (λ b. cond (not b) (first ∷ filter (is_other pid) procs) (filter (is_other pid) procs)) other.0) others in (
          subst Q (sym (ap (λ b. cond b (record first { nodes = nodes }) first) other.0)) all.0,
          rest (sym (ap (λ b. cond b (Some first) (proc_of procs pid)) other.0) ∙ is) all.1 own,
        )

-- who is none of those that changed their nodes is none of the others
pub none_turned : (procs : List Proc) (pid : ℕ) (nodes : List (Option ℕ)) (q : ℕ) → proc_of (map (with_nodes pid nodes) procs) q ≡ None → proc_of procs q ≡ None
none_turned [] pid nodes q none = refl
none_turned (proc ∷ procs) pid nodes q none =
    by_case (proc.pid == q) refl (ap (λ n. cond (n == q) (Some (with_nodes pid nodes proc)) (proc_of (map (with_nodes pid nodes) procs) q)) (same_pid (proc.pid == pid))) (none_turned procs pid nodes q)
  where
    same_pid : (b : Bool) → proc.pid ≡ (cond b (record proc { nodes = nodes }) proc).pid
    same_pid true = refl
    same_pid false = refl

    by_case : (b : Bool) → (proc.pid == q) ≡ b
        → cond (proc.pid == q) (Some (with_nodes pid nodes proc)) (proc_of (map (with_nodes pid nodes) procs) q) ≡ proc_of (map (with_nodes pid nodes) (proc ∷ procs)) q
        → (proc_of (map (with_nodes pid nodes) procs) q ≡ None → proc_of procs q ≡ None) → cond (proc.pid == q) (Some proc) (proc_of procs q) ≡ None
    by_case true is here rest = absurd (let found : Some (with_nodes pid nodes proc) ≡ None = sym (ap (λ b. cond b (Some (with_nodes pid nodes proc)) (proc_of (map (with_nodes pid nodes) procs) q)) is) ∙ here ∙ none in cc)
    by_case false is here rest =
        ap (λ b. cond b (Some proc) (proc_of procs q)) is
        ∙ rest (sym (ap (λ b. cond b (Some (with_nodes pid nodes proc)) (proc_of (map (with_nodes pid nodes) procs) q)) is) ∙ here ∙ none)

-- a space without nodes has nothing by any account
pub empty_places : (number : ℕ → ℕ) (nodes : List (Option Node)) (space : List (Option ℕ)) → keys_in space ≡ [] → HasPlaces number nodes space no_places
unfolding no_places
empty_places number nodes space none page below =
    get_or-replicate 256 page Unmapped Unmapped below ∙ sym (ap (λ key. place_of number (entry_under nodes key (page % 64))) (none_under space (page / 64) none))

pub only_places : (number : ℕ → ℕ) (nodes : List (Option Node)) (space : List (Option ℕ)) (places : Places) → keys_in space ≡ [] → length places ≡ 256 → HasPlaces number nodes space places → places ≡ no_places
unfolding no_places
only_places number nodes space places none whole has =
    fill_by_all (λ page. Unmapped) places 256 Unmapped whole (λ page below. has page below ∙ ap (λ key. place_of number (entry_under nodes key (page % 64))) (none_under space (page / 64) none))
    ∙ sym (fill_by_all (λ page. Unmapped) (replicate 256 Unmapped) 256 Unmapped (length-replicate 256 Unmapped) (λ page below. get_or-replicate 256 page Unmapped Unmapped below))

pub whole_none : length no_places ≡ 256
unfolding no_places
whole_none = length-replicate 256 Unmapped

-- The account of a process that is there.
pub accounted_of : (h : Heap) (kept : TableView) (frames : Frames) (pid : ℕ) (proc : Proc) → Holds h kept → (has : HasAccount h kept frames) → proc_of (processes h kept) pid ≡ Some proc
    → IsAccounted h has.number frames pid proc.nodes
accounted_of h kept frames pid proc holds has there =
    let placed : IsPlaced has.number h.nodes frames proc = has_it (IsPlaced has.number h.nodes frames) (processes h kept) pid proc has.placed there in
    let own : proc.pid ≡ pid = proc_has_pid (processes h kept) pid proc there in
    let within : (0 < proc.pid) × (proc.pid ≤ kept.last) = has_it (λ p. (0 < p.pid) × (p.pid ≤ kept.last)) (processes h kept) pid proc (pids_within h.procs kept.listed 0 kept.last holds.stored holds.rising) there in
    let made : length frames.places ≡ kept.last = has.made in
    record {
      numbers = has.numbers;
      places = subst (λ n. HasPlaces has.number h.nodes proc.nodes (places_of frames n)) own placed.places;
      made = (omega (arith, within.0), omega (arith, within.1));
      whole = subst (λ n. length (places_of frames n) ≡ 256) own placed.whole;
    }

-- Of the others the account says what it said, by other numbers.
module _ (old new : Heap) (was : TableView) (before after : Frames) (pid : ℕ) (proc : Proc) (renumbered : ℕ → ℕ)
    (holds : Holds old was) (has : HasAccount old was before) (there : proc_of (processes old was) pid ≡ Some proc)
    (others : OthersAccounted old new proc.nodes has.number renumbered)
    (kept : (other : ℕ) → other ≢ pid → other ≤ length before.places → places_of after other ≡ places_of before other) where
  out : HasOut (processes old was) pid proc.nodes holds.owned.0.spaces
  out = has_out (processes old was) 0 pid proc holds.owned.0.spaces (rising_procs old.procs was.listed 0 was.last holds.stored holds.rising) there

  in_hand : IsOwned old (with_space proc.nodes (record holds.owned.0 { spaces = out.spaces }))
  in_hand = IsOwned-space_to_front old (with_procs (processes old was) holds.owned.0) proc.nodes out.spaces out.out holds.owned.1

  apart : (procs : List Proc) → AllByRecursion (λ p. p.pid ≢ pid) (filter (is_other pid) procs)
  apart [] = tt
  apart (first ∷ procs) = by_case (eqb_tells first.pid pid) (apart procs)
    where
      by_case : (((first.pid == pid) ≡ true) × (first.pid ≡ pid)) ⊎ (((first.pid == pid) ≡ false) × (first.pid ≢ pid))
          → AllByRecursion (λ p. p.pid ≢ pid) (filter (is_other pid) procs) → AllByRecursion (λ p. p.pid ≢ pid) (filter (is_other pid) (first ∷ procs))
      by_case (inl same) rest =
          subst (AllByRecursion (λ p. p.pid ≢ pid)) (sym (ap (λ b. cond (not b) (first ∷ filter (is_other pid) procs) (filter (is_other pid) procs)) same.0)) rest
      by_case (inr other) rest =
          subst (AllByRecursion (λ p. p.pid ≢ pid)) (sym (ap (λ b. cond (not b) (first ∷ filter (is_other pid) procs) (filter (is_other pid) procs)) other.0)) (other.1, rest)

  pub others_placed : AllByRecursion (IsPlaced renumbered new.nodes after) (filter (is_other pid) (processes old was))
  others_placed =
      all_weaker (λ p. (IsPlaced has.number old.nodes before p × ((0 < p.pid) × (p.pid ≤ was.last))) × (Contains out.spaces p.nodes × (p.pid ≢ pid)))
      (IsPlaced renumbered new.nodes after) (filter (is_other pid) (processes old was))
      (λ p facts.
      let same : places_of after p.pid ≡ places_of before p.pid = kept p.pid facts.1.1 (let made : length before.places ≡ was.last = has.made in let most = facts.0.1.1 in omega arith) in
      record {
        places = subst (HasPlaces renumbered new.nodes p.nodes) (sym same)
            (others (record holds.owned.0 { spaces = out.spaces }) p.nodes (places_of before p.pid) in_hand facts.1.0 (let placed = facts.0.0 in placed.places));
        whole = ap length same ∙ (let placed = facts.0.0 in placed.whole);
      })
      (all_both (λ p. IsPlaced has.number old.nodes before p × ((0 < p.pid) × (p.pid ≤ was.last))) (λ p. Contains out.spaces p.nodes × (p.pid ≢ pid)) (filter (is_other pid) (processes old was))
      (all_filter (λ p. IsPlaced has.number old.nodes before p × ((0 < p.pid) × (p.pid ≤ was.last))) (is_other pid) (processes old was)
      (all_both (IsPlaced has.number old.nodes before) (λ p. (0 < p.pid) × (p.pid ≤ was.last)) (processes old was) has.placed
      (pids_within old.procs was.listed 0 was.last holds.stored holds.rising)))
      (all_both (λ p. Contains out.spaces p.nodes) (λ p. p.pid ≢ pid) (filter (is_other pid) (processes old was)) out.others_in (apart (processes old was))))

-- Where one process has another space, the account is what it says of that one, and of the others what it said.
pub turned_account : (old mid new : Heap) (kept : TableView) (before after : Frames) (pid : ℕ) (proc : Proc) (now : List (Option ℕ)) (renumbered : ℕ → ℕ)
    → Holds old kept → (has : HasAccount old kept before) → proc_of (processes old kept) pid ≡ Some proc
    → OthersAccounted old mid proc.nodes has.number renumbered → ((other : ℕ) → other ≢ pid → places_of after other ≡ places_of before other)
    → AreFrames renumbered mid.pages after → HasPlaces renumbered mid.nodes now (places_of after pid) → length (places_of after pid) ≡ 256
    → length after.places ≡ length before.places
    → processes new kept ≡ map (with_nodes pid now) (processes old kept) → new.nodes ≡ mid.nodes → new.pages ≡ mid.pages
    → HasAccount new kept after
turned_account old mid new kept before after pid proc now renumbered holds has there others same numbers places whole pids procs nodes pages = record {
  number = renumbered;
  numbers = subst (λ p. AreFrames renumbered p after) (sym pages) numbers;
  placed = subst (AllByRecursion (IsPlaced renumbered new.nodes after)) (sym procs)
      (subst (λ n. AllByRecursion (IsPlaced renumbered n after) (map (with_nodes pid now) (processes old kept))) (sym nodes)
      (all_turned (IsPlaced renumbered mid.nodes after) (processes old kept) 0 pid proc now (rising_procs old.procs kept.listed 0 kept.last holds.stored holds.rising) there
      (others_placed old mid kept before after pid proc renumbered holds has there others (λ other apart within. same other apart))
      (record {
        places = subst (λ n. HasPlaces renumbered mid.nodes now (places_of after n)) (sym own) places;
        whole = subst (λ n. length (places_of after n) ≡ 256) (sym own) whole;
      })));
  gone = λ q none. gone q (none_turned (processes old kept) pid now q (ap (λ procs. proc_of procs q) (sym procs) ∙ none)) (eqb_tells q pid);
  made = pids ∙ has.made;
}
  where
    own : proc.pid ≡ pid
    own = proc_has_pid (processes old kept) pid proc there

    gone : (q : ℕ) → proc_of (processes old kept) q ≡ None → (((q == pid) ≡ true) × (q ≡ pid)) ⊎ (((q == pid) ≡ false) × (q ≢ pid)) → places_of after q ≡ no_places
    gone q none (inl itself) = absurd (let is : proc_of (processes old kept) q ≡ Some proc = ap (proc_of (processes old kept)) itself.1 ∙ there in let no = none in cc)
    gone q none (inr other) = same q other.1 ∙ has.gone q none

-- who is none of those that became something either wasn't there or went
pub none_kept : (becomes : Proc → Option Proc) (procs : List Proc) (q : ℕ) → ((proc now : Proc) → becomes proc ≡ Some now → now.pid ≡ proc.pid)
    → proc_of (filter_map becomes procs) q ≡ None → (proc_of procs q ≡ None) ⊎ ((proc : Proc) × (proc_of procs q ≡ Some proc) × (becomes proc ≡ None))
none_kept becomes [] q same none = inl refl
none_kept becomes (proc ∷ procs) q same none = by_case (becomes proc) refl (proc.pid == q) refl none (none_kept becomes procs q same)
  where
    by_case : (o : Option Proc) → becomes proc ≡ o → (b : Bool) → (proc.pid == q) ≡ b → proc_of (cons_option o (filter_map becomes procs)) q ≡ None
        → (proc_of (filter_map becomes procs) q ≡ None → (proc_of procs q ≡ None) ⊎ ((proc : Proc) × (proc_of procs q ≡ Some proc) × (becomes proc ≡ None)))
        → (cond (proc.pid == q) (Some proc) (proc_of procs q) ≡ None) ⊎ ((one : Proc) × (cond (proc.pid == q) (Some proc) (proc_of procs q) ≡ Some one) × (becomes one ≡ None))
    by_case None is true own none rest = inr (proc, ap (λ b. cond b (Some proc) (proc_of procs q)) own, is)
    by_case None is false own none rest = rw own (rest none)
    by_case (Some now) is true own none rest =
        let found : Some now ≡ None = sym (ap (λ b. cond b (Some now) (proc_of (filter_map becomes procs) q)) (ap (λ n. n == q) (same proc now is) ∙ own)) ∙ none in
        absurd (cc)
    by_case (Some now) is false own none rest =
        rw own (rest (sym (ap (λ b. cond b (Some now) (proc_of (filter_map becomes procs) q)) (ap (λ n. n == q) (same proc now is) ∙ own)) ∙ none))

-- Where each process goes or keeps its pid and its nodes, and nodes and pages are the same, so is the account.
pub becomes_account : (P : Proc → Type 0) (becomes : Proc → Option Proc) (old new : Heap) (was now : TableView) (frames : Frames)
    → ((proc now : Proc) → becomes proc ≡ Some now → now.pid ≡ proc.pid) → ((proc now : Proc) → P proc → becomes proc ≡ Some now → now.nodes ≡ proc.nodes)
    → ((proc : Proc) → P proc → becomes proc ≡ None → keys_in proc.nodes ≡ []) → AllByRecursion P (processes old was)
    → processes new now ≡ filter_map becomes (processes old was) → now.last ≡ was.last → new.nodes ≡ old.nodes → new.pages ≡ old.pages
    → HasAccount old was frames → HasAccount new now frames
becomes_account P becomes old new was now frames pids spaces empty all procs last nodes pages has = record {
  number = has.number;
  numbers = subst (λ p. AreFrames has.number p frames) (sym pages) has.numbers;
  placed = subst (AllByRecursion (IsPlaced has.number new.nodes frames)) (sym procs)
      (subst (λ n. AllByRecursion (IsPlaced has.number n frames) (filter_map becomes (processes old was))) (sym nodes)
      (all_filter_map (λ proc. P proc × IsPlaced has.number old.nodes frames proc) (IsPlaced has.number old.nodes frames) becomes (processes old was) keeps
      (all_both P (IsPlaced has.number old.nodes frames) (processes old was) all has.placed)));
  gone = λ q none. gone q (none_kept becomes (processes old was) q pids (ap (λ procs. proc_of procs q) (sym procs) ∙ none));
  made = has.made ∙ sym last;
}
  where
    keeps : (proc now : Proc) → P proc × IsPlaced has.number old.nodes frames proc → becomes proc ≡ Some now → IsPlaced has.number old.nodes frames now
    keeps proc now placed is = record {
      places = subst (λ n. HasPlaces has.number old.nodes now.nodes (places_of frames n)) (sym (pids proc now is))
          (subst (λ space. HasPlaces has.number old.nodes space (places_of frames proc.pid)) (sym (spaces proc now placed.0 is)) (let its = placed.1 in its.places));
      whole = ap (λ n. length (places_of frames n)) (pids proc now is) ∙ (let its = placed.1 in its.whole);
    }

    nothing : (q : ℕ) (proc : Proc) → proc.pid ≡ q → IsPlaced has.number old.nodes frames proc → keys_in proc.nodes ≡ [] → places_of frames q ≡ no_places
    nothing q proc own placed none = ap (places_of frames) (sym own) ∙ only_places has.number old.nodes proc.nodes (places_of frames proc.pid) none placed.whole placed.places

    gone : (q : ℕ) → (proc_of (processes old was) q ≡ None) ⊎ ((proc : Proc) × (proc_of (processes old was) q ≡ Some proc) × (becomes proc ≡ None)) → places_of frames q ≡ no_places
    gone q (inl none) = has.gone q none
    gone q (inr (proc, there, goes)) =
        nothing q proc (proc_has_pid (processes old was) q proc there) (has_it (IsPlaced has.number old.nodes frames) (processes old was) q proc has.placed there)
        (empty proc (has_it P (processes old was) q proc all there) goes)

-- who is none of more is none of fewer
pub none_more : (procs : List Proc) (child : Proc) (q : ℕ) → proc_of (procs ++ child ∷ []) q ≡ None → (proc_of procs q ≡ None) × (child.pid ≢ q)
none_more [] child q none = (refl, λ own. let found : Some child ≡ None = sym (ap (λ b. cond b (Some child) None) (eqb_same child.pid q own)) ∙ none in cc)
none_more (proc ∷ procs) child q none = by_case (proc.pid == q) refl none (none_more procs child q)
  where
    by_case : (b : Bool) → (proc.pid == q) ≡ b → cond b (Some proc) (proc_of (procs ++ child ∷ []) q) ≡ None → (proc_of (procs ++ child ∷ []) q ≡ None → (proc_of procs q ≡ None) × (child.pid ≢ q))
        → (cond (proc.pid == q) (Some proc) (proc_of procs q) ≡ None) × (child.pid ≢ q)
    by_case true is none rest = absurd (cc)
    by_case false is none rest = let found = rest none in (ap (λ b. cond b (Some proc) (proc_of procs q)) is ∙ found.0, found.1)

places_past : (frames : Frames) (q : ℕ) → length frames.places < q → places_of frames q ≡ no_places
places_past frames zero past = absurd (omega arith)
places_past frames (suc i) past = get_or_past frames.places i no_places (omega arith)

-- A child has the places of its parent.
pub forked_has_account : (old mid new : Heap) (was now : TableView) (before : Frames) (pid : ℕ) (parent child : Proc) (nodes : List (Option ℕ))
    → Holds old was → (has : HasAccount old was before) → proc_of (processes old was) pid ≡ Some parent
    → AccountForks old mid parent.nodes nodes has.number before (after_fork before pid) pid
    → child.pid ≡ was.last + 1 → child.nodes ≡ nodes → now.last ≡ child.pid
    → processes new now ≡ processes old was ++ child ∷ [] → new.nodes ≡ mid.nodes → new.pages ≡ mid.pages
    → HasAccount new now (after_fork before pid)
forked_has_account old mid new was now before pid parent child nodes holds has there forks child_pid child_nodes last procs same_nodes same_pages = record {
  number = forks.renumbered;
  numbers = subst (λ p. AreFrames forks.renumbered p (after_fork before pid)) (sym same_pages) forks.child.numbers;
  placed = subst (AllByRecursion (IsPlaced forks.renumbered new.nodes (after_fork before pid))) (sym procs)
      (subst (λ n. AllByRecursion (IsPlaced forks.renumbered n (after_fork before pid)) (processes old was ++ child ∷ [])) (sym same_nodes)
      (all_append (IsPlaced forks.renumbered mid.nodes (after_fork before pid)) (processes old was) (child ∷ [])
      (all_joined (IsPlaced forks.renumbered mid.nodes (after_fork before pid)) (processes old was) 0 pid parent (rising_procs old.procs was.listed 0 was.last holds.stored holds.rising) there
      (others_placed old mid was before (after_fork before pid) pid parent forks.renumbered holds has there forks.others (λ other apart within. forks.kept other within))
      parent_placed)
      (child_placed, tt)));
  gone = λ q none. gone q (none_more (processes old was) child q (ap (λ procs. proc_of procs q) (sym procs) ∙ none)) (cases_lt q (length before.places + 1));
  made = length-append before.places (places_of before pid ∷ []) ∙ ap (λ n. n + 1) has.made ∙ sym (last ∙ child_pid);
}
  where
    own : parent.pid ≡ pid
    own = proc_has_pid (processes old was) pid parent there

    parent_placed : IsPlaced forks.renumbered mid.nodes (after_fork before pid) parent
    parent_placed = record {
      places = subst (λ n. HasPlaces forks.renumbered mid.nodes parent.nodes (places_of (after_fork before pid) n)) (sym own) forks.parent_too.places;
      whole = ap (λ n. length (places_of (after_fork before pid) n)) own ∙ forks.parent_too.whole;
    }

    youngest : child.pid ≡ length before.places + 1
    youngest = child_pid ∙ ap (λ n. n + 1) (sym has.made)

    child_placed : IsPlaced forks.renumbered mid.nodes (after_fork before pid) child
    child_placed = record {
      places = subst (λ n. HasPlaces forks.renumbered mid.nodes child.nodes (places_of (after_fork before pid) n)) (sym youngest)
          (subst (λ space. HasPlaces forks.renumbered mid.nodes space (places_of (after_fork before pid) (length before.places + 1))) (sym child_nodes) forks.child.places);
      whole = ap (λ n. length (places_of (after_fork before pid) n)) youngest ∙ forks.child.whole;
    }

    gone : (q : ℕ) → (proc_of (processes old was) q ≡ None) × (child.pid ≢ q) → (q < length before.places + 1) ⊎ (length before.places + 1 ≤ q) → places_of (after_fork before pid) q ≡ no_places
    gone q none (inl within) = forks.kept q (omega arith) ∙ has.gone q none.0
    gone q none (inr past) = places_past (after_fork before pid) q (beyond q (λ same. none.1 (youngest ∙ sym same)) past (length-append before.places (places_of before pid ∷ [])))
      where
        beyond : (q : ℕ) → q ≢ length before.places + 1 → length before.places + 1 ≤ q → length (before.places ++ places_of before pid ∷ []) ≡ length before.places + 1 → length (before.places ++ places_of before pid ∷ []) < q
        beyond q apart past len = omega arith
