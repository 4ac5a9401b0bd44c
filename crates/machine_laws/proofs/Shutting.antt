-- What a step leaves of the descriptors of all processes.
use Rattle.std.proofs.Common.{◌≡◌, ◌≢◌, ℕ, zero, suc, ◌+◌, ◌<◌, ◌≤◌, pos, Bool, true, false, cond, List, [], ◌∷◌, length, replicate, Option, None, Some, unwrap_or, refl, ap, sym, ◌∙◌, subst, ◌⊎◌, inl, inr, arith}
use Rattle.std.specs.List.{filter, range_with_len}
use Rattle.std.proofs.lemmas.Bool.Decides.{eqb_tells}
use Rattle.std.proofs.lemmas.List.{get_or-set_same, get_or-set_other, get_or_past, length-set}
use Rattle.std.proofs.lemmas.Option.{slice_get_past}
use Rattle.kabi_types.specs.Arguments.{most_descriptors}
use Rattle.posix_defs.specs.ByPid.{at_pid, with_pid}
use Rattle.posix_defs.specs.Ending.{closed_by}
use Rattle.posix_defs.specs.Files.Descriptors.{Descriptor, Descriptors, descriptor_at, is_cloexec, is_named, none_open, with_descriptor}
use Rattle.posix_defs.specs.Files.Descriptions.{Target, OnNode, OnPipe, OnSocket, Access, Description, description_at, with_description}
use Rattle.posix_defs.specs.Files.State.{Files, descriptors_of, node_of, with_descriptions, with_open, with_opening}
use Rattle.posix_defs.specs.Files.Closing.{after_all_end, after_close, after_closes, after_end_of, after_ends_of, after_exec_of, all_numbers, close_in, description_gone, gone_in, released, target_closed}
use Rattle.kern_laws.proofs.Bareness.{none_open_at}
use Rattle.kern_laws.proofs.TablePlaces.{below_or_not}
use Rattle.machine_laws.proofs.FifoPlaces.{left_holds, node_holds}
use Rattle.machine_laws.proofs.Places.{not_some, opener_made, others_after, own_after}

-- as many processes, each with as many numbers, and as many that may wait for the other side of a FIFO; and of another process than this, where nothing was open nothing is
pub record Shuts (pid : ℕ) (old new : Files) : Type 0 where
  pub counted : length new.descriptors ≡ length old.descriptors
  pub openings : length new.openings ≡ length old.openings
  pub places : ((who : ℕ) → length (descriptors_of old who) ≡ most_descriptors) → (who : ℕ) → length (descriptors_of new who) ≡ most_descriptors
  pub shut : (who : ℕ) → who ≢ pid → descriptors_of old who ≡ none_open → descriptors_of new who ≡ none_open

-- the same descriptors, whatever else changes
pub same_of : (old new : Files) → new.descriptors ≡ old.descriptors → (who : ℕ) → descriptors_of new who ≡ descriptors_of old who
same_of old new same who = ap (λ list. unwrap_or (at_pid list who) none_open) same

pub shuts_same : (pid : ℕ) (old new : Files) → new.descriptors ≡ old.descriptors → length new.openings ≡ length old.openings → Shuts pid old new
shuts_same pid old new same openings = record {
  counted = ap (λ list. length list) same;
  openings = openings;
  places = λ each who. ap (λ list. length list) (same_of old new same who) ∙ each who;
  shut = λ who apart none. same_of old new same who ∙ none;
}

pub shuts_on : (pid : ℕ) (old between new : Files) → Shuts pid old between → Shuts pid between new → Shuts pid old new
shuts_on pid old between new one two = record {
  counted = two.counted ∙ one.counted;
  openings = two.openings ∙ one.openings;
  places = λ each. two.places (one.places each);
  shut = λ who apart none. two.shut who apart (one.shut who apart none);
}

pub length_with : {X : Type 0} (xs : List X) (pid : ℕ) (x : X) → length (with_pid xs pid x) ≡ length xs
length_with xs zero x = refl
length_with xs (suc i) x = length-set xs i x

-- who was not made has nothing open
pub past_open : (files : Files) (pid : ℕ) → length files.descriptors < pid → descriptors_of files pid ≡ none_open
past_open files zero h = refl
past_open files (suc i) h = ap (λ found. unwrap_or found none_open) (slice_get_past files.descriptors i (omega arith))

pub none_open_length : length none_open ≡ most_descriptors
unfolding none_open
none_open_length = refl

-- ---- one descriptor changes

pub open_shuts : (files : Files) (pid fd : ℕ) (descriptor : Option Descriptor) → Shuts pid files (with_open files pid fd descriptor)
open_shuts files pid fd descriptor = record { counted = counted; openings = refl; places = places; shut = shut }
  where
    counted : length (with_open files pid fd descriptor).descriptors ≡ length files.descriptors
    counted = length_with files.descriptors pid (with_descriptor (descriptors_of files pid) fd descriptor)

    own : ((who : ℕ) → length (descriptors_of files who) ≡ most_descriptors) → (0 < pid) ⊎ (pid ≡ 0) → length (descriptors_of (with_open files pid fd descriptor) pid) ≡ most_descriptors
    own each (inr none) = subst (λ p. length (descriptors_of (with_open files pid fd descriptor) p) ≡ most_descriptors) (sym none) none_open_length
    own each (inl made) = elim (below_or_not (length files.descriptors) pid) [
      | inl h ↦ ap (λ list. length list) (past_open (with_open files pid fd descriptor) pid (subst (λ n. n < pid) (sym counted) h)) ∙ none_open_length
      | inr h ↦ ap (λ list. length list) (own_after files pid fd descriptor made h) ∙ length-set (descriptors_of files pid) fd descriptor ∙ each pid
    ]

    positive : (n : ℕ) → (0 < n) ⊎ (n ≡ 0)
    positive zero = inr refl
    positive (suc n) = inl (omega arith)

    places : ((who : ℕ) → length (descriptors_of files who) ≡ most_descriptors) → (who : ℕ) → length (descriptors_of (with_open files pid fd descriptor) who) ≡ most_descriptors
    places each who = elim (eqb_tells who pid) [
      | inl alike ↦ subst (λ p. length (descriptors_of (with_open files pid fd descriptor) p) ≡ most_descriptors) (sym alike.1) (own each (positive pid))
      | inr apart ↦ ap (λ list. length list) (others_after files pid who fd descriptor apart.1) ∙ each who
    ]

    shut : (who : ℕ) → who ≢ pid → descriptors_of files who ≡ none_open → descriptors_of (with_open files pid fd descriptor) who ≡ none_open
    shut who apart none = others_after files pid who fd descriptor apart ∙ none

-- ---- closing

-- what goes with a descriptor is none of the descriptors
pub target_same : (files : Files) (access : Access) (target : Target) → (target_closed files access target).descriptors ≡ files.descriptors
target_same files access (OnNode number) = node_holds (λ left. left.descriptors ≡ files.descriptors) files number refl (λ tree. refl)
target_same files access (OnPipe place) = left_holds (λ left. left.descriptors ≡ files.descriptors) _ (node_of files (OnPipe place)) refl (λ tree. refl)
target_same files access (OnSocket place) = refl

-- nor who waits for the other side of a FIFO
pub target_openings : (files : Files) (access : Access) (target : Target) → (target_closed files access target).openings ≡ files.openings
target_openings files access (OnNode number) = node_holds (λ left. left.openings ≡ files.openings) files number refl (λ tree. refl)
target_openings files access (OnPipe place) = left_holds (λ left. left.openings ≡ files.openings) _ (node_of files (OnPipe place)) refl (λ tree. refl)
target_openings files access (OnSocket place) = refl

pub released_openings : (files : Files) (place : ℕ) → (released files place).openings ≡ files.openings
released_openings files place = go (is_named files.descriptors place)
  where
    gone : (o : Option Description) → (gone_in files place o).openings ≡ files.openings
    gone None = refl
    gone (Some description) = target_openings (with_descriptions files (with_description files.descriptions place None)) description.access description.target

    go : (b : Bool) → (cond b files (description_gone files place)).openings ≡ files.openings
    go true = refl
    go false = gone (description_at files.descriptions place)

pub released_same : (files : Files) (place : ℕ) → (released files place).descriptors ≡ files.descriptors
released_same files place = go (is_named files.descriptors place)
  where
    gone : (o : Option Description) → (gone_in files place o).descriptors ≡ files.descriptors
    gone None = refl
    gone (Some description) = target_same (with_descriptions files (with_description files.descriptions place None)) description.access description.target

    go : (b : Bool) → (cond b files (description_gone files place)).descriptors ≡ files.descriptors
    go true = refl
    go false = gone (description_at files.descriptions place)

pub close_shuts : (pid : ℕ) (files : Files) (who fd : ℕ) → Shuts pid files (after_close files who fd)
close_shuts pid files who fd = go (descriptor_at (descriptors_of files who) fd) refl
  where
    some : (descriptor : Descriptor) → descriptor_at (descriptors_of files who) fd ≡ Some descriptor → Shuts pid files (released (with_open files who fd None) descriptor.description)
    some descriptor held = record {
      counted = ap (λ list. length list) same ∙ changed.counted;
      openings = ap (λ list. length list) (released_openings (with_open files who fd None) descriptor.description);
      places = λ each other. ap (λ list. length list) (same_of (with_open files who fd None) (released (with_open files who fd None) descriptor.description) same other) ∙ changed.places each other;
      shut = λ other apart none. same_of (with_open files who fd None) (released (with_open files who fd None) descriptor.description) same other ∙ shut other none;
    }
      where
        same : (released (with_open files who fd None) descriptor.description).descriptors ≡ (with_open files who fd None).descriptors
        same = released_same (with_open files who fd None) descriptor.description

        changed : Shuts who files (with_open files who fd None)
        changed = open_shuts files who fd None

        shut : (other : ℕ) → descriptors_of files other ≡ none_open → descriptors_of (with_open files who fd None) other ≡ none_open
        shut other none = elim (eqb_tells other who) [
          | inl alike ↦ absurd (not_some (ap (λ list. descriptor_at list fd) (sym (ap (descriptors_of files) alike.1) ∙ none) ∙ none_open_at fd) held)
          | inr apart ↦ others_after files who other fd None apart.1 ∙ none
        ]

    go : (o : Option Descriptor) → descriptor_at (descriptors_of files who) fd ≡ o → Shuts pid files (close_in files who fd o)
    go None held = shuts_same pid files files refl refl
    go (Some descriptor) held = shuts_on pid files (released (with_open files who fd None) descriptor.description) (close_in files who fd (Some descriptor)) (some descriptor held) (shuts_same pid _ _ refl refl)

closes_shut : (pid : ℕ) (files : Files) (who : ℕ) (fds : List ℕ) → Shuts pid files (after_closes files who fds)
closes_shut pid files who [] = shuts_same pid files files refl refl
closes_shut pid files who (fd ∷ fds) = shuts_on pid files (after_close files who fd) (after_closes (after_close files who fd) who fds)
    (close_shuts pid files who fd) (closes_shut pid (after_close files who fd) who fds)

pub exec_shuts : (pid : ℕ) (files : Files) (who : ℕ) → Shuts pid files (after_exec_of files who)
unfolding after_exec_of
exec_shuts pid files who = closes_shut pid files who (filter (is_cloexec (descriptors_of files who)) all_numbers)

end_shuts : (pid : ℕ) (files : Files) (who : ℕ) → Shuts pid files (after_end_of files who)
unfolding after_end_of
end_shuts pid files who = shuts_on pid files (after_closes files who all_numbers) (with_opening (after_closes files who all_numbers) who None) (closes_shut pid files who all_numbers)
    (shuts_same pid _ _ refl (length_with (after_closes files who all_numbers).openings who None))

ends_shut : (pid : ℕ) (files : Files) (pids : List ℕ) → Shuts pid files (after_ends_of files pids)
ends_shut pid files [] = shuts_same pid files files refl refl
ends_shut pid files (who ∷ pids) = shuts_on pid files (after_end_of files who) (after_ends_of (after_end_of files who) pids)
    (end_shuts pid files who) (ends_shut pid (after_end_of files who) pids)

pub closed_shuts : (pid : ℕ) (files : Files) (who : ℕ) → Shuts pid files (closed_by files who)
closed_shuts pid files zero = end_shuts pid files zero
closed_shuts pid files (suc zero) = ends_shut pid files (range_with_len 1 (length files.descriptors))
closed_shuts pid files (suc (suc who)) = end_shuts pid files (suc (suc who))

-- ---- all of a process

-- what is set to nothing is nothing, also behind the end
set_none : (descriptors : Descriptors) (fd : ℕ) → descriptor_at (with_descriptor descriptors fd None) fd ≡ None
set_none descriptors fd = elim (below_or_not fd (length descriptors)) [
  | inl h ↦ get_or-set_same descriptors fd None None h
  | inr h ↦ get_or_past (with_descriptor descriptors fd None) fd None (subst (λ n. n ≤ fd) (sym (length-set descriptors fd None)) h)
]

-- a number that is closed isn't open, and neither is one that wasn't
pub close_one : (files : Files) (pid fd other : ℕ) → (other ≡ fd) ⊎ (descriptor_at (descriptors_of files pid) other ≡ None)
    → descriptor_at (descriptors_of (after_close files pid fd) pid) other ≡ None
close_one files pid fd other which = go (descriptor_at (descriptors_of files pid) fd) refl
  where
    there : (o : Option Descriptor) → descriptor_at (descriptors_of files pid) fd ≡ o → o ≡ None → descriptor_at (descriptors_of files pid) other ≡ None
    there o held none = elim which [ inl same ↦ ap (descriptor_at (descriptors_of files pid)) same ∙ held ∙ none | inr shut ↦ shut ]

    changed : descriptor_at (with_descriptor (descriptors_of files pid) fd None) other ≡ None
    changed = elim (eqb_tells other fd) [
      | inl alike ↦ subst (λ at. descriptor_at (with_descriptor (descriptors_of files pid) fd None) at ≡ None) (sym alike.1) (set_none (descriptors_of files pid) fd)
      | inr apart ↦ get_or-set_other (descriptors_of files pid) fd other None None apart.1 ∙ elim which [ inl same ↦ absurd (apart.1 same) | inr shut ↦ shut ]
    ]

    go : (o : Option Descriptor) → descriptor_at (descriptors_of files pid) fd ≡ o → descriptor_at (descriptors_of (close_in files pid fd o) pid) other ≡ None
    go None held = there None held refl
    go (Some descriptor) held = let made = opener_made files pid (pos fd) descriptor held in
        ap (λ list. descriptor_at list other) (same_of (with_open files pid fd None) (released (with_open files pid fd None) descriptor.description) (released_same (with_open files pid fd None) descriptor.description) pid
        ∙ own_after files pid fd None made.0 made.1) ∙ changed

closes_range : (count from : ℕ) (files : Files) (pid : ℕ) → ((other : ℕ) → other < from → descriptor_at (descriptors_of files pid) other ≡ None)
    → (other : ℕ) → other < from + count → descriptor_at (descriptors_of (after_closes files pid (range_with_len from count)) pid) other ≡ None
closes_range zero from files pid before other h = before other (omega arith)
closes_range (suc count) from files pid before other h =
    closes_range count (from + 1) (after_close files pid from) pid (λ k below. close_one files pid from k (at_or_before k below)) other (omega arith)
  where
    at_or_before : (k : ℕ) → k < from + 1 → (k ≡ from) ⊎ (descriptor_at (descriptors_of files pid) k ≡ None)
    at_or_before k below = elim (below_or_not k from) [ inl h ↦ inr (before k h) | inr h ↦ inl (omega arith) ]

all_none : (n : ℕ) (descriptors : Descriptors) → length descriptors ≡ n → ((i : ℕ) → i < n → descriptor_at descriptors i ≡ None) → descriptors ≡ replicate n None
all_none zero [] same each = refl
all_none zero (x ∷ xs) same each = absurd (omega arith)
all_none (suc n) [] same each = absurd (omega arith)
all_none (suc n) (x ∷ xs) same each = ap (λ first. first ∷ xs) (each 0 (omega arith)) ∙ ap (λ rest. None ∷ rest) (all_none n xs (omega arith) (λ i h. each (suc i) (omega arith)))

none_where : (descriptors : Descriptors) → length descriptors ≡ most_descriptors → ((i : ℕ) → i < most_descriptors → descriptor_at descriptors i ≡ None) → descriptors ≡ none_open
unfolding none_open
none_where descriptors same each = all_none most_descriptors descriptors same each

numbers_shut : (files : Files) (pid i : ℕ) → i < most_descriptors → descriptor_at (descriptors_of (after_end_of files pid) pid) i ≡ None
unfolding after_end_of
numbers_shut files pid i h = closes_range most_descriptors 0 files pid (λ other below. absurd (omega arith)) i (omega arith)

pub end_none : (files : Files) (pid : ℕ) → ((who : ℕ) → length (descriptors_of files who) ≡ most_descriptors) → descriptors_of (after_end_of files pid) pid ≡ none_open
end_none files pid each = none_where (descriptors_of (after_end_of files pid) pid) (let shuts = end_shuts pid files pid in shuts.places each pid) (numbers_shut files pid)

-- ---- all processes

ends_range : (count from : ℕ) (files : Files) → ((who : ℕ) → length (descriptors_of files who) ≡ most_descriptors) → ((who : ℕ) → who < from → descriptors_of files who ≡ none_open)
    → (who : ℕ) → who < from + count → descriptors_of (after_ends_of files (range_with_len from count)) who ≡ none_open
ends_range zero from files each before who h = before who (omega arith)
ends_range (suc count) from files each before who h =
    ends_range count (from + 1) (after_end_of files from) (let shuts = end_shuts from files from in shuts.places each) (λ k below. own_or_before k below) who (omega arith)
  where
    own_or_before : (k : ℕ) → k < from + 1 → descriptors_of (after_end_of files from) k ≡ none_open
    own_or_before k below = elim (eqb_tells k from) [
      | inl alike ↦ subst (λ p. descriptors_of (after_end_of files from) p ≡ none_open) (sym alike.1) (end_none files from each)
      | inr apart ↦ let shuts = end_shuts from files from in shuts.shut k apart.1 (before k (let other : k ≢ from = apart.1 in omega arith))
    ]

pub all_none_open : (files : Files) → ((who : ℕ) → length (descriptors_of files who) ≡ most_descriptors) → (who : ℕ) → descriptors_of (after_all_end files) who ≡ none_open
all_none_open files each who = elim (below_or_not (length files.descriptors) who) [
  | inl h ↦ let shuts = ends_shut 0 files (range_with_len 1 (length files.descriptors)) in past_open (after_all_end files) who (subst (λ n. n < who) (sym shuts.counted) h)
  | inr h ↦ ends_range (length files.descriptors) 1 files each (λ k below. first k below) who (omega arith)
]
  where
    first : (k : ℕ) → k < 1 → descriptors_of files k ≡ none_open
    first zero below = refl
    first (suc k) below = absurd (omega arith)
