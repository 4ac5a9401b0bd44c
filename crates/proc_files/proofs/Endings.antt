-- A process closes several numbers, one after another.
use Rattle.std.proofs.Common.{◌≡◌, ◌≢◌, ℕ, zero, suc, ◌+◌, ◌-◌, ◌<◌, ◌≤◌, Bool, true, false, cond, List, [], ◌∷◌, set, get_or, length, replicate, Option, None, Some, is_none, is_some, refl, ap, sym, ◌∙◌, arith, inl, inr}
use Rattle.std.specs.Prelude.{slice_index_or, slice_set}
use Rattle.std.specs.List.{filter, list_all, list_any, range_with_len}
use Rattle.std.specs.Option.{option_map}
use Rattle.std.proofs.lemmas.Bool.{cases_eq, cases_lt, false≢true}
use Rattle.std.proofs.lemmas.List.{ext_get_or, get_or-set_other, get_or_past, length-replicate, set-get_or}
use Rattle.kheap_slabs.specs.Objects.{object}
use Rattle.kheap_slabs.specs.declared.objects.Descriptor.{Descriptor as HeldDescriptor}
use Rattle.kheap_slabs.specs.declared.objects.Proc.{Proc}
use Rattle.kheap_slabs.specs.Heap.{Heap, IsWellFormed}
use Rattle.kheap_slabs.specs.Leaves.{group_of, no_row, place_of, row_at}
use Rattle.kheap_laws.proofs.LeafLemmas.{numbers_by-leaf, numbers_by-length}
use Rattle.open_laws.specs.Open.{descriptor_by}
use Rattle.open_laws.specs.Placed.{Numbers}
use Rattle.posix_defs.specs.Files.Closing.{after_close, after_closes, after_exec_of}
use Rattle.posix_defs.specs.Files.Descriptors.{has_cloexec, is_cloexec}
use Rattle.posix_defs.specs.Files.State.{Files, descriptors_of}
use Rattle.kabi_types.specs.Arguments.{most_descriptors}
use Rattle.desc_table.specs.Copying.{no_leaves}
use Rattle.proc_table.specs.Procs.{OpensNone, numbers_in}
use Rattle.proc_table.specs.Table.{TableView, key_of}
use Rattle.proc_table.proofs.NumberLemmas.{none_numbers}
use Rattle.proc_table.proofs.PlaceLemmas.{some_same}
use Rattle.proc_numbers.specs.Having.{AreListed, HaveOpen, places_in}
use Rattle.proc_numbers.specs.Naming.{named_at, places_of}
use Rattle.proc_numbers.proofs.AllClose.{end_of_none}
use Rattle.proc_numbers.proofs.Listing.{found_before, put_same}
use Rattle.proc_numbers.proofs.NumberCloses.{unopened}
use Rattle.proc_numbers.proofs.NumberNames.{descriptor_at_is}
use Rattle.proc_numbers.proofs.PlacedLeaves.{none_opens}
use Rattle.proc_files.specs.Closing.{ChangesHolding, ClosesHolding, with_locks_of}
use Rattle.proc_files.proofs.Changing.{holding_closed, holding_then}
use Rattle.proc_files.proofs.Finding.{IsAt}
use Rattle.proc_files.specs.Ending.{ClosesEach, ClosesIf, ClosesMarked, closed_each, closed_where, goes_at_exec, has_mark}

-- ---- in the machine

-- those that a test picks, up to one more
where_more : (test : ℕ → Bool) (files : Files) (pid a n : ℕ) → after_closes files pid (filter test (range_with_len a (suc n)))
    ≡ cond (test (a + n)) (after_close (after_closes files pid (filter test (range_with_len a n))) pid (a + n)) (after_closes files pid (filter test (range_with_len a n)))
where_more test files pid a zero =
    by_test (test a) ∙ ap (λ k. cond (test k) (after_close files pid k) files) (let e : a ≡ a + 0 = omega arith in e)
  where
    by_test : (b : Bool) → after_closes files pid (cond b (a ∷ []) []) ≡ cond b (after_close files pid a) files
    by_test true = refl
    by_test false = refl
where_more test files pid a (suc n) =
    first (test a) (filter test (range_with_len (a + 1) (suc n)))
    ∙ where_more test (cond (test a) (after_close files pid a) files) pid (a + 1) n
    ∙ ap (λ k. cond (test k) (after_close (after_closes (cond (test a) (after_close files pid a) files) pid (filter test (range_with_len (a + 1) n))) pid k)
    (after_closes (cond (test a) (after_close files pid a) files) pid (filter test (range_with_len (a + 1) n)))) (let e : a + 1 + n ≡ a + suc n = omega arith in e)
    ∙ ap (λ f. cond (test (a + suc n)) (after_close f pid (a + suc n)) f) (sym (first (test a) (filter test (range_with_len (a + 1) n))))
  where
    first : (b : Bool) (rest : List ℕ) → after_closes files pid (cond b (a ∷ rest) rest) ≡ after_closes (cond b (after_close files pid a) files) pid rest
    first true rest = refl
    first false rest = refl

pub where_is : (test : ℕ → Bool) (files : Files) (pid n : ℕ) → after_closes files pid (filter test (range_with_len 0 n)) ≡ closed_where test files pid n
where_is test files pid zero = refl
where_is test files pid (suc n) =
    where_more test files pid 0 n
    ∙ ap (λ k. cond (test k) (after_close (after_closes files pid (filter test (range_with_len 0 n))) pid k) (after_closes files pid (filter test (range_with_len 0 n)))) (let e : 0 + n ≡ n = omega arith in e)
    ∙ ap (λ f. cond (test n) (after_close f pid n) f) (where_is test files pid n)

where_same : (one other : ℕ → Bool) (files : Files) (pid n : ℕ) → ((fd : ℕ) → fd < n → one fd ≡ other fd) → closed_where one files pid n ≡ closed_where other files pid n
where_same one other files pid zero same = refl
where_same one other files pid (suc n) same =
    ap (λ f. cond (one n) (after_close f pid n) f) (where_same one other files pid n (λ fd below. same fd (omega (arith, below))))
    ∙ ap (λ b. cond b (after_close (closed_where other files pid n) pid n) (closed_where other files pid n)) (same n (omega arith))

all_picked : (xs : List ℕ) → filter (λ fd. true) xs ≡ xs
all_picked [] = refl
all_picked (x ∷ xs) = ap (λ rest. x ∷ rest) (all_picked xs)

-- all numbers
pub end_is : (test : ℕ → Bool) (files : Files) (pid : ℕ) → ((fd : ℕ) → fd < most_descriptors → test fd ≡ true) → closed_where test files pid most_descriptors ≡ closed_each files pid
unfolding closed_each
end_is test files pid all =
    where_same test (λ fd. true) files pid most_descriptors all ∙ sym (where_is (λ fd. true) files pid most_descriptors) ∙ ap (after_closes files pid) (all_picked (range_with_len 0 most_descriptors))

-- those that `exec` closes
mark_is : (number : ℕ → ℕ) (o : Option HeldDescriptor) → has_mark o ≡ has_cloexec (option_map (descriptor_by number) o)
mark_is number None = refl
mark_is number (Some held) = refl

pub exec_is : (test : ℕ → Bool) (numbers : Numbers) (h : Heap) (kept : TableView) (files : Files) (pid : ℕ) → ((fd : ℕ) → fd < most_descriptors → test fd ≡ goes_at_exec (places_of h kept pid) fd)
    → HaveOpen numbers h kept files → closed_where test files pid most_descriptors ≡ after_exec_of files pid
unfolding after_exec_of
exec_is test numbers h kept files pid picks have =
    where_same test (is_cloexec (descriptors_of files pid)) files pid most_descriptors
    (λ fd below. picks fd below ∙ mark_is numbers.descs (named_at h kept pid fd) ∙ sym (ap has_cloexec (descriptor_at_is numbers h kept files pid have fd)))
    ∙ sym (where_is (is_cloexec (descriptors_of files pid)) files pid most_descriptors)

-- ---- in the heap

-- nothing changes
unchanged : (h : Heap) (kept : TableView) (pid : ℕ) → IsAt h kept pid → ChangesHolding h h kept pid
unchanged h kept pid it = record {
  key = it.key;
  proc = it.proc;
  now = it.proc;
  named = it.named;
  there = it.there;
  same = refl;
  procs = sym (ap (slice_set h.procs it.key) (sym it.there) ∙ set-get_or h.procs it.key None);
  beside = refl;
}

pub not_marked : (h : Heap) (kept : TableView) (pid fd : ℕ) → IsAt h kept pid → ClosesIf h h kept pid fd false
unfolding unchanged
not_marked h kept pid fd it = record { changes = unchanged h kept pid it; becomes = refl }

pub marked_closes : (old new : Heap) (kept : TableView) (pid fd : ℕ) → ClosesHolding (with_locks_of old new) new kept pid fd → ClosesIf old new kept pid fd true
unfolding holding_closed
marked_closes old new kept pid fd closes =
    let one = closes.closes in
    record { changes = holding_closed old new kept pid fd closes; becomes = ap (λ (h : Heap). numbers_in h one.now) closes.caches ∙ one.numbers }

pub marked_begins : (h : Heap) (kept : TableView) (pid : ℕ) (test : ℕ → Bool) → IsAt h kept pid → ClosesMarked h h kept pid test 0
unfolding unchanged
marked_begins h kept pid test it = record { changes = unchanged h kept pid it; closed = λ fd below. absurd (omega (arith, below)); fewer = λ fd none. none }

emptied : {X : Type 0} (xs : List (Option X)) (i : ℕ) → get_or (set xs i None) i None ≡ None
emptied [] i = refl
emptied (x ∷ xs) zero = refl
emptied (x ∷ xs) (suc i) = emptied xs i

pub marked_more : (old mid new : Heap) (kept : TableView) (pid fd : ℕ) (test : ℕ → Bool) → ClosesMarked old mid kept pid test fd → ClosesIf mid new kept pid fd (test fd) → ClosesMarked old new kept pid test (suc fd)
marked_more old mid new kept pid fd test first second =
    let same_key : second.changes.key ≡ first.changes.key = some_same (key_of kept.listed pid) second.changes.key first.changes.key second.changes.named first.changes.named in
    let at : object mid.procs first.changes.key ≡ Some first.changes.now =
    ap (λ objects. object objects first.changes.key) first.changes.procs
    ∙ put_same old.procs first.changes.key first.changes.proc first.changes.now first.changes.there (ap (λ (p : Proc). p.pid) first.changes.same) in
    let same_proc : second.changes.proc ≡ first.changes.now = some_same (object mid.procs first.changes.key) second.changes.proc first.changes.now (ap (object mid.procs) (sym same_key) ∙ second.changes.there) at in
    let becomes : numbers_in new second.changes.now ≡ cond (test fd) (slice_set (numbers_in mid first.changes.now) fd None) (numbers_in mid first.changes.now) =
    second.becomes ∙ ap (λ (p : Proc). cond (test fd) (slice_set (numbers_in mid p) fd None) (numbers_in mid p)) same_proc in
    record {
      changes = holding_then old mid new kept pid first.changes second.changes;
      closed = λ n below picked. ap (λ places. slice_index_or places n None) becomes ∙ elim (cases_eq n fd) [
        | inl same ↦
            ap (λ b. slice_index_or (cond b (slice_set (numbers_in mid first.changes.now) fd None) (numbers_in mid first.changes.now)) n None) (sym (ap test same) ∙ picked)
            ∙ ap (λ k. slice_index_or (slice_set (numbers_in mid first.changes.now) fd None) k None) same ∙ emptied (numbers_in mid first.changes.now) fd
        | inr apart ↦ by_test (test fd) n apart (first.closed n (omega (arith, below, apart)) picked)
      ];
      fewer = λ n none. ap (λ places. slice_index_or places n None) becomes ∙ elim (cases_eq n fd) [
        | inl same ↦ here (test fd) n same (first.fewer n none)
        | inr apart ↦ by_test (test fd) n apart (first.fewer n none)
      ];
    }
  where
    by_test : (b : Bool) (n : ℕ) → n ≢ fd → slice_index_or (numbers_in mid first.changes.now) n None ≡ None
        → slice_index_or (cond b (slice_set (numbers_in mid first.changes.now) fd None) (numbers_in mid first.changes.now)) n None ≡ None
    by_test true n apart none = get_or-set_other (numbers_in mid first.changes.now) fd n None None apart ∙ none
    by_test false n apart none = none

    here : (b : Bool) (n : ℕ) → n ≡ fd → slice_index_or (numbers_in mid first.changes.now) n None ≡ None
        → slice_index_or (cond b (slice_set (numbers_in mid first.changes.now) fd None) (numbers_in mid first.changes.now)) n None ≡ None
    here true n same none = ap (λ k. slice_index_or (slice_set (numbers_in mid first.changes.now) fd None) k None) same ∙ emptied (numbers_in mid first.changes.now) fd
    here false n same none = none

-- a number that isn't open is none of the process's in its Proc either
none_at : (h : Heap) (kept : TableView) (pid key fd : ℕ) (proc : Proc) → AreListed h kept → key_of kept.listed pid ≡ Some key → object h.procs key ≡ Some proc → named_at h kept pid fd ≡ None
    → slice_index_or (numbers_in h proc) fd None ≡ None
none_at h kept pid key fd proc listed named there none =
    sym (ap (λ o. slice_index_or (places_in (numbers_in h) o) fd None) (found_before h.procs key proc proc there refl kept.listed pid listed.stored named)) ∙ none

-- and stays so
pub closed_rest : (old new : Heap) (kept : TableView) (pid fd below : ℕ) (test : ℕ → Bool) → AreListed old kept → AreListed new kept → ClosesMarked old new kept pid test below → named_at old kept pid fd ≡ None
    → named_at new kept pid fd ≡ None
closed_rest old new kept pid fd below test listed then it none =
    let at : object new.procs it.changes.key ≡ Some it.changes.now =
    ap (λ objects. object objects it.changes.key) it.changes.procs ∙ put_same old.procs it.changes.key it.changes.proc it.changes.now it.changes.there (ap (λ (p : Proc). p.pid) it.changes.same) in
    ap (λ o. slice_index_or (places_in (numbers_in new) o) fd None) (found_before new.procs it.changes.key it.changes.now it.changes.now at refl kept.listed pid then.stored it.changes.named)
    ∙ it.fewer fd (none_at old kept pid it.changes.key fd it.changes.proc listed it.changes.named it.changes.there none)

pub each_closed : (old new : Heap) (kept : TableView) (pid below : ℕ) (test : ℕ → Bool) → ((fd : ℕ) → fd < most_descriptors → test fd ≡ true) → IsWellFormed new → AreListed old kept → AreListed new kept
    → ((fd : ℕ) → below ≤ fd → named_at old kept pid fd ≡ None) → ClosesMarked old new kept pid test below → ClosesEach old new kept pid
each_closed old new kept pid below test all whole listed then rest it =
    let at : object new.procs it.changes.key ≡ Some it.changes.now =
    ap (λ objects. object objects it.changes.key) it.changes.procs ∙ put_same old.procs it.changes.key it.changes.proc it.changes.now it.changes.there (ap (λ (p : Proc). p.pid) it.changes.same) in
    record {
      changes = it.changes;
      none = none_opens new kept pid it.changes.key it.changes.now whole then it.changes.named at (λ fd within. elim (cases_lt fd below) [
        | inl less ↦ it.closed fd less (all fd within)
        | inr least ↦ it.fewer fd (none_at old kept pid it.changes.key fd it.changes.proc listed it.changes.named it.changes.there (rest fd least))
      ]);
    }

-- ---- the numbers behind those that are looked at

either : {X : Type 0} (b : Bool) (x y : X) → x ≡ y → cond b x y ≡ y
either true x y same = same
either false x y same = refl

behind : (test : ℕ → Bool) (files : Files) (pid below n : ℕ)
    → ((fd : ℕ) → below ≤ fd → cond (test fd) (after_close (closed_where test files pid below) pid fd) (closed_where test files pid below) ≡ closed_where test files pid below)
    → closed_where test files pid (n + below) ≡ closed_where test files pid below
behind test files pid below zero same = ap (closed_where test files pid) (let none : 0 + below ≡ below = omega arith in none)
behind test files pid below (suc n) same =
    ap (closed_where test files pid) (let next : suc n + below ≡ suc (n + below) = omega arith in next)
    ∙ ap (λ f. cond (test (n + below)) (after_close f pid (n + below)) f) (behind test files pid below n same) ∙ same (n + below) (omega arith)

-- where they aren't open, closing them changes nothing
pub where_rest : (test : ℕ → Bool) (files : Files) (pid below : ℕ) → below ≤ most_descriptors
    → ((fd : ℕ) → below ≤ fd → cond (test fd) (after_close (closed_where test files pid below) pid fd) (closed_where test files pid below) ≡ closed_where test files pid below)
    → closed_where test files pid below ≡ closed_where test files pid most_descriptors
where_rest test files pid below within same =
    sym (behind test files pid below (most_descriptors - below) same) ∙ ap (closed_where test files pid) (let all : most_descriptors - below + below ≡ most_descriptors = omega (arith, within) in all)

pub end_rest : (numbers : Numbers) (old new : Heap) (kept : TableView) (files : Files) (pid below : ℕ) (test : ℕ → Bool) → ((fd : ℕ) → fd < most_descriptors → test fd ≡ true) → below ≤ most_descriptors
    → AreListed old kept → AreListed new kept → ((fd : ℕ) → below ≤ fd → named_at old kept pid fd ≡ None) → ClosesMarked old new kept pid test below → HaveOpen numbers new kept (closed_where test files pid below)
    → closed_where test files pid below ≡ closed_each files pid
end_rest numbers old new kept files pid below test all within listed then rest it have =
    where_rest test files pid below within
    (λ fd least. either (test fd) (after_close (closed_where test files pid below) pid fd) (closed_where test files pid below)
    (unopened numbers new kept (closed_where test files pid below) pid fd (closed_rest old new kept pid fd below test listed then it (rest fd least)) have))
    ∙ end_is test files pid all

pub exec_rest : (test : ℕ → Bool) (numbers : Numbers) (h : Heap) (kept : TableView) (files : Files) (pid below : ℕ) → below ≤ most_descriptors
    → ((fd : ℕ) → fd < below → test fd ≡ goes_at_exec (places_of h kept pid) fd) → ((fd : ℕ) → below ≤ fd → test fd ≡ false) → ((fd : ℕ) → below ≤ fd → named_at h kept pid fd ≡ None)
    → HaveOpen numbers h kept files → closed_where test files pid below ≡ after_exec_of files pid
exec_rest test numbers h kept files pid below within picks others rest have =
    where_rest test files pid below within
    (λ fd least. ap (λ b. cond b (after_close (closed_where test files pid below) pid fd) (closed_where test files pid below)) (others fd least))
    ∙ exec_is test numbers h kept files pid
    (λ fd most. elim (cases_lt fd below) [
      | inl less ↦ picks fd less
      | inr least ↦ others fd least ∙ sym (ap has_mark (rest fd least))
    ]) have

-- ---- where nothing is open

pub each_none : (h : Heap) (kept : TableView) (pid : ℕ) (it : IsAt h kept pid) → OpensNone it.proc → ClosesEach h h kept pid
unfolding unchanged
each_none h kept pid it none = record { changes = unchanged h kept pid it; none = none }

nothing_in : (n i : ℕ) → get_or (replicate {A = Option HeldDescriptor} n None) i None ≡ None
nothing_in zero i = refl
nothing_in (suc n) zero = refl
nothing_in (suc n) (suc i) = nothing_in n i

pub ends_same : (numbers : Numbers) (h : Heap) (kept : TableView) (files : Files) (pid : ℕ) (it : IsAt h kept pid) → OpensNone it.proc → HaveOpen numbers h kept files → closed_each files pid ≡ files
unfolding closed_each
ends_same numbers h kept files pid it none have =
    end_of_none numbers h kept files pid (λ fd. ap (λ places. slice_index_or places fd None) (it.places ∙ none_numbers h it.proc none) ∙ nothing_in most_descriptors fd) have

-- it has none of the first ones and no Leaf
pub none_here : (proc : Proc) → length proc.descriptors ≡ 32 → length proc.leaves ≡ 3 → list_all is_none proc.descriptors ≡ true → list_any is_some proc.leaves ≡ false → OpensNone proc
none_here proc long three all none = (
  ext_get_or None proc.descriptors no_row (long ∙ sym (length-replicate {A = Option HeldDescriptor} 32 None)) (λ i within. all_none proc.descriptors all i ∙ sym (nothing_in 32 i)),
  no_more proc.leaves three none,
)
  where
    all_none : (places : List (Option HeldDescriptor)) → list_all is_none places ≡ true → (fd : ℕ) → get_or places fd None ≡ None
    all_none [] all fd = refl
    all_none (None ∷ places) all zero = refl
    all_none (Some place ∷ places) all zero = absurd (false≢true all)
    all_none (None ∷ places) all (suc fd) = all_none places all fd
    all_none (Some place ∷ places) all (suc fd) = absurd (false≢true all)

    no_more : (keys : List (Option ℕ)) → length keys ≡ 3 → list_any is_some keys ≡ false → keys ≡ no_leaves
    no_more [] three none = absurd (omega (arith, three))
    no_more (one ∷ []) three none = absurd (omega (arith, three))
    no_more (one ∷ two ∷ []) three none = absurd (omega (arith, three))
    no_more (None ∷ None ∷ None ∷ []) three none = refl
    no_more (Some key ∷ two ∷ last ∷ []) three none = absurd (false≢true (sym none))
    no_more (None ∷ Some key ∷ last ∷ []) three none = absurd (false≢true (sym none))
    no_more (None ∷ None ∷ Some key ∷ []) three none = absurd (false≢true (sym none))
    no_more (one ∷ two ∷ last ∷ more ∷ keys) three none = absurd (omega (arith, three))

-- and so none of its numbers behind the first ones is open, where it has no Leaf
pub rest_none : (h : Heap) (proc : Proc) (fd : ℕ) → IsWellFormed h → length proc.descriptors ≡ 32 → length proc.leaves ≡ 3 → list_any is_some proc.leaves ≡ false → 32 ≤ fd
    → slice_index_or (numbers_in h proc) fd None ≡ None
rest_none h proc fd whole long three none least = elim (cases_lt fd 128) [
  | inl most ↦
      numbers_by-leaf h.leaves proc.descriptors proc.leaves fd whole.leaf_rows long three least most
      ∙ (ap (λ k. slice_index_or (row_at h.leaves k) (place_of fd) None) (without (group_of fd) proc.leaves none) ∙ nothing_in 32 (place_of fd))
  | inr past ↦ get_or_past (numbers_in h proc) fd None (let many = numbers_by-length h.leaves proc.descriptors proc.leaves whole.leaf_rows long three in omega (arith, many, past))
]
  where
    without : (i : ℕ) (keys : List (Option ℕ)) → list_any is_some keys ≡ false → slice_index_or keys i None ≡ None
    without i [] none = refl
    without zero (None ∷ keys) none = refl
    without (suc i) (None ∷ keys) none = without i keys none
    without i (Some key ∷ keys) none = absurd (false≢true (sym none))
