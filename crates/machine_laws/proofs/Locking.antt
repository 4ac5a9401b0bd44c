-- In every machine that is reached nobody holds what another can't let it hold, and who holds some of a file has it open.
use Rattle.std.proofs.Common.{◌≡◌, ◌≢◌, ℕ, zero, suc, ◌<◌, ◌≤◌, ◌+◌, ◌==◌, ℤ, pos, negsuc, Bool, true, false, cond, List, [], ◌∷◌, ◌++◌, length, Option, None, Some, refl, ap, sym, ◌∙◌, subst, inl, inr, arith}
use Rattle.std.specs.List.{filter, range_with_len}
use Rattle.std.proofs.lemmas.Bool.Decides.{eqb_tells}
use Rattle.std.proofs.lemmas.List.{get_or-set_same, get_or-set_other}
use Rattle.std.proofs.lemmas.List.Folds.{list_any_at}
use Rattle.kabi_types.specs.Arguments.{count_of}
use Rattle.kabi_types.specs.declared.calls.Call.{Call}
use Rattle.kabi_types.specs.declared.scripts.Script.{Script}
use Rattle.posix_defs.specs.Ending.{closed_by}
use Rattle.posix_defs.specs.Locks.{Request, after_set, ranges_of}
use Rattle.posix_defs.specs.Pipe.{unopened, with_end}
use Rattle.posix_defs.specs.Plain.{Plain, call_of}
use Rattle.posix_defs.specs.Files.Closing.{after_close, after_closes, after_end_of, after_ends_of, after_exec_of, all_numbers, close_in, description_gone, gone_in, released}
use Rattle.posix_defs.specs.Files.Descriptors.{Descriptor, Two, descriptor_at, is_cloexec, is_named, lowest_free, two_lowest_free, with_descriptor}
use Rattle.posix_defs.specs.Files.Descriptions.{Description, OnNode, access_of, description_at, may_write, with_description}
use Rattle.posix_defs.specs.Files.State.{Files, HalfOpen, described_as, descriptors_of, file_of_target, is_number, let_go, opened_as, opened_file, pipe_at, with_descriptions, with_heir, with_locks, with_open, with_opening, with_openings, with_pipe, with_pipes}
use Rattle.posix_defs.specs.Files.Whole.{has_open, opens_by}
use Rattle.posix_defs.specs.Calls.Opened.{Opened, opened_at}
use Rattle.posix_defs.specs.Calls.OnDescriptors.{cloexec_set}
use Rattle.posix_defs.specs.Calls.OnLocks.{is_clear}
use Rattle.kern_laws.proofs.Bareness.{none_open_at}
use Rattle.kern_laws.proofs.TablePlaces.{below_or_not}
use Rattle.machine_laws.specs.FileSteps as step
use Rattle.machine_laws.specs.FileSteps.{ArePlaces, IsStep}
use Rattle.machine_laws.specs.Reached.{IsReached}
use Rattle.machine_laws.proofs.Inductions.{answers_keep, by_induction}
use Rattle.machine_laws.proofs.Items.{pushed_front}
use Rattle.machine_laws.proofs.LockLists.{AreHeldApart, going_apart, held_before, key, nobody_holds, none_of_it, ranges_set_others, setting_apart}
use Rattle.machine_laws.proofs.Naming.{are_free, by_named, target_descriptions}
use Rattle.machine_laws.proofs.Places.{free_at, naming, not_some, opener_made, others_after, own_after, some_same, there_within}
use Rattle.machine_laws.proofs.SharedOffsets.{stay_open}
use Rattle.machine_laws.proofs.Shutting.{close_one, length_with, past_open, released_same, same_of}

-- ---- who has a file open

-- A number of the process is open on the file.
pub record OpensFile (files : Files) (pid number : ℕ) : Type 0 where
  pub fd : ℕ
  pub descriptor : Descriptor
  pub held : descriptor_at (descriptors_of files pid) fd ≡ Some descriptor
  pub file : opened_file (description_at files.descriptions descriptor.description) ≡ Some number

pub has_it_open : (files : Files) (pid number : ℕ) → OpensFile files pid number → has_open files pid number ≡ true
has_it_open files pid number opens = list_any_at (opens_by files number) (descriptors_of files pid) opens.fd None
    (there_within (descriptors_of files pid) opens.fd opens.descriptor opens.held) (ap (opens_by files number) opens.held ∙ by (opened_file (description_at files.descriptions opens.descriptor.description)) opens.file)
  where
    itself : (n : ℕ) → (n == n) ≡ true
    itself n = elim (eqb_tells n n) [ inl alike ↦ alike.0 | inr apart ↦ absurd (apart.1 refl) ]

    by : (o : Option ℕ) → o ≡ Some number → is_number number o ≡ true
    by o is = ap (is_number number) is ∙ itself number

-- Whatever a number was open on it is open on still.
record StaysOpen (old new : Files) : Type 0 where
  held : (pid fd : ℕ) (descriptor : Descriptor) → descriptor_at (descriptors_of old pid) fd ≡ Some descriptor
      → (now : Descriptor) × (descriptor_at (descriptors_of new pid) fd ≡ Some now) × (now.description ≡ descriptor.description)
  there : (place : ℕ) (was : Description) → description_at old.descriptions place ≡ Some was
      → (now : Description) × (description_at new.descriptions place ≡ Some now) × (now.target ≡ was.target)

opens_still : (old new : Files) (pid number : ℕ) → StaysOpen old new → OpensFile old pid number → OpensFile new pid number
opens_still old new pid number stays opens = go (description_at old.descriptions opens.descriptor.description) refl opens.file
  where
    kept : (now : Descriptor) × (descriptor_at (descriptors_of new pid) opens.fd ≡ Some now) × (now.description ≡ opens.descriptor.description)
    kept = stays.held pid opens.fd opens.descriptor opens.held

    go : (o : Option Description) → description_at old.descriptions opens.descriptor.description ≡ o → opened_file o ≡ Some number → OpensFile new pid number
    go None is file = absurd (not_some refl file)
    go (Some was) is file = let now = stays.there opens.descriptor.description was is in record {
      fd = opens.fd;
      descriptor = kept.0;
      held = kept.1;
      file = ap (λ place. opened_file (description_at new.descriptions place)) kept.2 ∙ ap opened_file now.1 ∙ ap file_of_target now.2 ∙ file;
    }

stays_on : (old between new : Files) → StaysOpen old between → StaysOpen between new → StaysOpen old new
stays_on old between new one two = record {
  held = λ pid fd descriptor is. let first = one.held pid fd descriptor is in let second = two.held pid fd first.0 first.1 in (second.0, second.1, second.2 ∙ first.2);
  there = λ place was is. let first = one.there place was is in let second = two.there place first.0 first.1 in (second.0, second.1, second.2 ∙ first.2);
}

stays_same : (old new : Files) → new.descriptors ≡ old.descriptors → new.descriptions ≡ old.descriptions → StaysOpen old new
stays_same old new descriptors descriptions = record {
  held = λ pid fd descriptor is. (descriptor, ap (λ list. descriptor_at list fd) (same_of old new descriptors pid) ∙ is, refl);
  there = λ place was is. (was, ap (λ list. description_at list place) descriptions ∙ is, refl);
}

-- a number changes, and names the same if it named something
number_stays : (files : Files) (pid fd : ℕ) (descriptor : Option Descriptor)
    → ((was : Descriptor) → descriptor_at (descriptors_of files pid) fd ≡ Some was → (now : Descriptor) × (descriptor ≡ Some now) × (now.description ≡ was.description))
    → StaysOpen files (with_open files pid fd descriptor)
number_stays files pid fd descriptor same = record { held = held; there = λ place was is. (was, is, refl) }
  where
    own : (other : ℕ) (was : Descriptor) → descriptor_at (descriptors_of files pid) other ≡ Some was
        → (now : Descriptor) × (descriptor_at (descriptors_of (with_open files pid fd descriptor) pid) other ≡ Some now) × (now.description ≡ was.description)
    own other was is = let made = opener_made files pid (pos other) was is in elim (eqb_tells other fd) [
      | inr apart ↦ (was, ap (λ list. descriptor_at list other) (own_after files pid fd descriptor made.0 made.1) ∙ get_or-set_other (descriptors_of files pid) fd other descriptor None apart.1 ∙ is, refl)
      | inl alike ↦ let at = ap (descriptor_at (descriptors_of files pid)) (sym alike.1) ∙ is in let now = same was at in (
        now.0,
        ap (λ list. descriptor_at list other) (own_after files pid fd descriptor made.0 made.1) ∙ ap (descriptor_at (with_descriptor (descriptors_of files pid) fd descriptor)) alike.1
            ∙ get_or-set_same (descriptors_of files pid) fd descriptor None (there_within (descriptors_of files pid) fd was at) ∙ now.1,
        now.2,
      )
    ]

    held : (who other : ℕ) (was : Descriptor) → descriptor_at (descriptors_of files who) other ≡ Some was
        → (now : Descriptor) × (descriptor_at (descriptors_of (with_open files pid fd descriptor) who) other ≡ Some now) × (now.description ≡ was.description)
    held who other was is = elim (eqb_tells who pid) [
      | inr apart ↦ (was, ap (λ list. descriptor_at list other) (others_after files pid who fd descriptor apart.1) ∙ is, refl)
      | inl alike ↦ subst (λ w. (now : Descriptor) × (descriptor_at (descriptors_of (with_open files pid fd descriptor) w) other ≡ Some now) × (now.description ≡ was.description)) (sym alike.1)
          (own other was (ap (λ w. descriptor_at (descriptors_of files w) other) (sym alike.1) ∙ is))
    ]

-- a number that was free names something
free_stays : (files : Files) (pid fd : ℕ) (descriptor : Option Descriptor) → descriptor_at (descriptors_of files pid) fd ≡ None → StaysOpen files (with_open files pid fd descriptor)
free_stays files pid fd descriptor free = number_stays files pid fd descriptor (λ was is. absurd (not_some free is))

opened_stays : (files : Files) (pid fd : ℕ) (cloexec : Bool) (description : Description) → descriptor_at (descriptors_of files pid) fd ≡ None
    → StaysOpen files (opened_as files pid fd cloexec description)
opened_stays files pid fd cloexec description free = record {
  held = number.held;
  there = λ place was is. (was, pushed_front files.descriptions (Some description) place was is, refl);
}
  where
    number : StaysOpen files (with_open files pid fd (Some (record { description = length files.descriptions; cloexec = cloexec })))
    number = free_stays files pid fd (Some (record { description = length files.descriptions; cloexec = cloexec })) free

described_stays : (files : Files) (place : ℕ) (was now : Description) → description_at files.descriptions place ≡ Some was → now.target ≡ was.target
    → StaysOpen files (described_as files place now)
described_stays files place was now is target = record { held = λ pid fd descriptor held. (descriptor, held, refl); there = there }
  where
    there : (other : ℕ) (before : Description) → description_at files.descriptions other ≡ Some before
        → (after : Description) × (description_at (with_description files.descriptions place (Some now)) other ≡ Some after) × (after.target ≡ before.target)
    there other before at = elim (eqb_tells other place) [
      | inr apart ↦ (before, get_or-set_other files.descriptions place other (Some now) None apart.1 ∙ at, refl)
      | inl alike ↦ (
        now,
        ap (description_at (with_description files.descriptions place (Some now))) alike.1 ∙ get_or-set_same files.descriptions place (Some now) None (there_within files.descriptions place was is),
        target ∙ ap (λ d. d.target) (some_same (description_at files.descriptions place) was before is (ap (description_at files.descriptions) (sym alike.1) ∙ at)),
      )
    ]

heir_stays : (files : Files) (parent : ℕ) → StaysOpen files (with_heir files parent)
heir_stays files parent = record {
  held = λ pid fd descriptor is. let made = opener_made files pid (pos fd) descriptor is in (descriptor, ap (λ list. descriptor_at list fd) (stay_open files parent pid made.1) ∙ is, refl);
  there = λ place was is. (was, is, refl);
}

-- another number of the process is as free as before
still_free : (files : Files) (pid fd other : ℕ) (descriptor : Option Descriptor) → other ≢ fd → descriptor_at (descriptors_of files pid) other ≡ None
    → descriptor_at (descriptors_of (with_open files pid fd descriptor) pid) other ≡ None
still_free files zero fd other descriptor apart free = none_open_at other
still_free files (suc i) fd other descriptor apart free = elim (below_or_not (length files.descriptors) (suc i)) [
  | inr made ↦ ap (λ list. descriptor_at list other) (own_after files (suc i) fd descriptor (omega arith) made) ∙ get_or-set_other (descriptors_of files (suc i)) fd other descriptor None apart ∙ free
  | inl past ↦ ap (λ list. descriptor_at list other)
      (past_open (with_open files (suc i) fd descriptor) (suc i) (subst (λ n. n < suc i) (sym (length_with files.descriptors (suc i) (with_descriptor (descriptors_of files (suc i)) fd descriptor))) past))
      ∙ none_open_at other
]

-- ---- what locks keep

-- Locks are held apart, and who holds some of a file has it open.
pub record Locked (files : Files) : Type 0 where
  pub apart : AreHeldApart files.locks
  pub opened : (pid number : ℕ) → ranges_of files.locks pid number ≢ [] → OpensFile files pid number

relocked : (old new : Files) → Locked old → StaysOpen old new → new.locks ≡ old.locks → Locked new
relocked old new locked stays same = record {
  apart = subst AreHeldApart (sym same) locked.apart;
  opened = λ pid number some. opens_still old new pid number stays (locked.opened pid number (subst (λ locks. ranges_of locks pid number ≢ []) same some));
}

-- ---- closing

-- a description that is named stays where another is let go
released_keeps : (files : Files) (place other : ℕ) → is_named files.descriptors other ≡ true → description_at (released files place).descriptions other ≡ description_at files.descriptions other
released_keeps files place other named = go (is_named files.descriptors place) refl
  where
    apart : is_named files.descriptors place ≡ false → other ≢ place
    apart none same = no (sym none ∙ ap (is_named files.descriptors) (sym same) ∙ named)
      where
        no : false ≡ true → ⊥
        no e = cc

    gone : is_named files.descriptors place ≡ false → (o : Option Description) → description_at (gone_in files place o).descriptions other ≡ description_at files.descriptions other
    gone none None = refl
    gone none (Some description) =
        ap (λ list. description_at list other) (target_descriptions (with_descriptions files (with_description files.descriptions place None)) description.access description.target)
        ∙ get_or-set_other files.descriptions place other None None (apart none)

    go : (b : Bool) → is_named files.descriptors place ≡ b → description_at (cond b files (description_gone files place)).descriptions other ≡ description_at files.descriptions other
    go true is = refl
    go false is = gone is (description_at files.descriptions place)

module _ (files : Files) (pid fd : ℕ) (descriptor : Descriptor) (is : descriptor_at (descriptors_of files pid) fd ≡ Some descriptor) where
  abbrev file : Option ℕ
  file = opened_file (description_at files.descriptions descriptor.description)

  -- what another number names stays
  others_open : (who number : ℕ) (opens : OpensFile files who number) → descriptor_at (descriptors_of (with_open files pid fd None) who) opens.fd ≡ Some opens.descriptor
      → OpensFile (close_in files pid fd (Some descriptor)) who number
  others_open who number opens held = record {
    fd = opens.fd;
    descriptor = opens.descriptor;
    held = ap (λ list. descriptor_at list opens.fd)
        (same_of (with_open files pid fd None) (released (with_open files pid fd None) descriptor.description) (released_same (with_open files pid fd None) descriptor.description) who) ∙ held;
    file = ap opened_file (released_keeps (with_open files pid fd None) descriptor.description opens.descriptor.description
        (by_named (with_open files pid fd None) opens.descriptor.description (record { who = who; fd = opens.fd; descriptor = opens.descriptor; held = held; names = refl }))) ∙ opens.file;
  }

  open_still : (who number : ℕ) → ranges_of (let_go files.locks pid file) who number ≢ [] → OpensFile files who number → OpensFile (close_in files pid fd (Some descriptor)) who number
  open_still who number some opens = elim (eqb_tells who pid) [
    | inr apart ↦ others_open who number opens (ap (λ list. descriptor_at list opens.fd) (others_after files pid who fd None apart.1) ∙ opens.held)
    | inl alike ↦ own alike.1
  ]
    where
      own : who ≡ pid → OpensFile (close_in files pid fd (Some descriptor)) who number
      own this = elim (eqb_tells opens.fd fd) [
        | inr apart ↦ let made = opener_made files who (pos opens.fd) opens.descriptor opens.held in others_open who number opens
            (ap (λ w. descriptor_at (descriptors_of (with_open files w fd None) who) opens.fd) (sym this)
            ∙ ap (λ list. descriptor_at list opens.fd) (own_after files who fd None made.0 made.1)
            ∙ get_or-set_other (descriptors_of files who) fd opens.fd None None apart.1 ∙ opens.held)
        | inl here ↦ absurd (some (ap (λ w. ranges_of (let_go files.locks pid file) w number) this ∙ none_of_it files.locks pid file number (same_file here.1)))
      ]
        where
          same_file : opens.fd ≡ fd → file ≡ Some number
          same_file here = ap (λ (d : Descriptor). opened_file (description_at files.descriptions d.description))
              (some_same (descriptor_at (descriptors_of files pid) fd) descriptor opens.descriptor is
              (ap (λ w. descriptor_at (descriptors_of files w) fd) (sym this) ∙ ap (descriptor_at (descriptors_of files who)) (sym here) ∙ opens.held)) ∙ opens.file

close_locked : (files : Files) (pid fd : ℕ) → Locked files → Locked (after_close files pid fd)
close_locked files pid fd locked = go (descriptor_at (descriptors_of files pid) fd) refl
  where
    go : (o : Option Descriptor) → descriptor_at (descriptors_of files pid) fd ≡ o → Locked (close_in files pid fd o)
    go None is = locked
    go (Some descriptor) is = record {
      apart = going_apart files.locks locked.apart pid (opened_file (description_at files.descriptions descriptor.description));
      opened = λ who number some. open_still files pid fd descriptor is who number some
          (locked.opened who number (held_before files.locks pid (opened_file (description_at files.descriptions descriptor.description)) who number some));
    }

closes_locked : (files : Files) (pid : ℕ) (fds : List ℕ) → Locked files → Locked (after_closes files pid fds)
closes_locked files pid [] locked = locked
closes_locked files pid (fd ∷ fds) locked = closes_locked (after_close files pid fd) pid fds (close_locked files pid fd locked)

exec_locked : (files : Files) (pid : ℕ) → Locked files → Locked (after_exec_of files pid)
unfolding after_exec_of
exec_locked files pid locked = closes_locked files pid (filter (is_cloexec (descriptors_of files pid)) all_numbers) locked

end_locked : (files : Files) (pid : ℕ) → Locked files → Locked (after_end_of files pid)
unfolding after_end_of
end_locked files pid locked = relocked (after_closes files pid all_numbers) (with_opening (after_closes files pid all_numbers) pid None) (closes_locked files pid all_numbers locked)
    (stays_same _ _ refl refl) refl

ends_locked : (files : Files) (pids : List ℕ) → Locked files → Locked (after_ends_of files pids)
ends_locked files [] locked = locked
ends_locked files (pid ∷ pids) locked = ends_locked (after_end_of files pid) pids (end_locked files pid locked)

pub closed_locked : (files : Files) (pid : ℕ) → Locked files → Locked (closed_by files pid)
closed_locked files zero locked = end_locked files zero locked
closed_locked files (suc zero) locked = ends_locked files (range_with_len 1 (length files.descriptors)) locked
closed_locked files (suc (suc pid)) locked = end_locked files (suc (suc pid)) locked

-- what the descriptor of a call is open on is open
pub opens_it : (plain : Plain) (pid : ℕ) (fd : ℤ) (opened : Opened) (number : ℕ) → opened_at plain.files pid fd ≡ Some opened → opened.is.target ≡ OnNode number → OpensFile plain.files pid number
opens_it plain pid (pos fd) opened number named target = let naming_it = naming plain.files pid (pos fd) opened named in record {
  fd = fd;
  descriptor = naming_it.descriptor;
  held = naming_it.held;
  file = ap (λ place. opened_file (description_at plain.files.descriptions place)) naming_it.place ∙ ap opened_file naming_it.there ∙ ap file_of_target target;
}
opens_it plain pid (negsuc n) opened number named target = let naming_it = naming plain.files pid (negsuc n) opened named in absurd (not_some refl naming_it.held)

-- ---- steps

module _ (plain : Plain) (pid : ℕ) (call : Call) (next : Files) (locked : Locked plain.files) where
  by : (after : Files) → next ≡ after → Locked after → Locked next
  by after is holds = subst Locked (sym is) holds

  stays : (after : Files) → next ≡ after → StaysOpen plain.files after → after.locks ≡ plain.files.locks → Locked next
  stays after is kept locks = by after is (relocked plain.files after locked kept locks)

  same : (after : Files) → next ≡ after → after.descriptors ≡ plain.files.descriptors → after.descriptions ≡ plain.files.descriptions → after.locks ≡ plain.files.locks → Locked next
  same after is descriptors descriptions locks = stays after is (stays_same plain.files after descriptors descriptions) locks

  -- a description is opened, whatever else changes before beside descriptors and descriptions
  one : (files : Files) (fd : ℕ) (cloexec : Bool) (description : Description) → files.descriptors ≡ plain.files.descriptors → files.descriptions ≡ plain.files.descriptions
      → lowest_free (descriptors_of plain.files pid) ≡ Some fd → StaysOpen plain.files (opened_as files pid fd cloexec description)
  one files fd cloexec description descriptors descriptions lowest = let free = free_at (descriptors_of plain.files pid) 0 fd lowest in
      stays_on plain.files files (opened_as files pid fd cloexec description) (stays_same plain.files files descriptors descriptions)
      (opened_stays files pid fd cloexec description (ap (λ list. descriptor_at list fd) (same_of plain.files files descriptors pid) ∙ free.1))

  waited : (files : Files) (openings : List (Option HalfOpen)) → StaysOpen plain.files files → StaysOpen plain.files (with_openings files openings)
  waited files openings kept = stays_on plain.files files (with_openings files openings) kept (stays_same files (with_openings files openings) refl refl)

  two_stay : (files : Files) (two : Two) (first_is second_is : Description) → files.descriptors ≡ plain.files.descriptors → files.descriptions ≡ plain.files.descriptions
      → two_lowest_free (descriptors_of plain.files pid) ≡ Some two → StaysOpen plain.files (opened_as (opened_as files pid two.first false first_is) pid two.second false second_is)
  two_stay files two first_is second_is descriptors descriptions lowest = let free = are_free (descriptors_of plain.files pid) two lowest in
      let second = free_at (descriptors_of plain.files pid) (two.first + 1) two.second free.second in
      stays_on plain.files (opened_as files pid two.first false first_is) (opened_as (opened_as files pid two.first false first_is) pid two.second false second_is)
      (one files two.first false first_is descriptors descriptions free.first)
      (opened_stays (opened_as files pid two.first false first_is) pid two.second false second_is
      (still_free files pid two.first two.second (Some (record { description = length files.descriptions; cloexec = false })) (apart second.2)
      (ap (λ list. descriptor_at list two.second) (same_of plain.files files descriptors pid) ∙ second.1)))
    where
      apart : two.first + 1 ≤ two.second → two.second ≢ two.first
      apart h e = absurd (omega arith)

  described : (files : Files) (fd : ℤ) (opened : Opened) (now : Description) → opened_at plain.files pid fd ≡ Some opened → now.target ≡ opened.is.target → files.descriptors ≡ plain.files.descriptors
      → files.descriptions ≡ plain.files.descriptions → StaysOpen plain.files (described_as files opened.place now)
  described files fd opened now named target descriptors descriptions = let naming_it = naming plain.files pid fd opened named in
      stays_on plain.files files (described_as files opened.place now) (stays_same plain.files files descriptors descriptions)
      (described_stays files opened.place opened.is now (ap (λ list. description_at list opened.place) descriptions ∙ naming_it.there) target)

  marked : (fd : ℕ) (cloexec : Bool) → StaysOpen plain.files (with_open plain.files pid fd (cloexec_set cloexec (descriptor_at (descriptors_of plain.files pid) fd)))
  marked fd cloexec = number_stays plain.files pid fd (cloexec_set cloexec (descriptor_at (descriptors_of plain.files pid) fd))
      (λ was is. (record was { cloexec = cloexec }, ap (cloexec_set cloexec) is, refl))

  sets : (fd : ℤ) (opened : Opened) (number : ℕ) (asked : Request) → opened_at plain.files pid fd ≡ Some opened → opened.is.target ≡ OnNode number → ArePlaces asked
      → is_clear plain.files.locks pid number asked ≡ true → Locked (with_locks plain.files (after_set plain.files.locks pid number asked))
  sets fd opened number asked named target places clear = record { apart = setting_apart plain.files.locks locked.apart pid number asked places clear; opened = opened_after }
    where
      still : (who node : ℕ) → OpensFile plain.files who node → OpensFile (with_locks plain.files (after_set plain.files.locks pid number asked)) who node
      still who node opens = opens_still plain.files (with_locks plain.files (after_set plain.files.locks pid number asked)) who node (stays_same _ _ refl refl) opens

      opened_after : (who node : ℕ) → ranges_of (after_set plain.files.locks pid number asked) who node ≢ [] → OpensFile (with_locks plain.files (after_set plain.files.locks pid number asked)) who node
      opened_after who node some = still who node (elim (key pid number who node) [
        | inl this ↦ subst (λ w. OpensFile plain.files w node) (sym this.0) (subst (OpensFile plain.files pid) (sym this.1) (opens_it plain pid fd opened number named target))
        | inr others ↦ locked.opened who node (λ none. some (ranges_set_others plain.files.locks pid number _ who node others ∙ none))
      ])

  step_locked : {goes_on : Bool} → IsStep plain pid call goes_on next → Locked next
  step_locked (step.stays is) = same _ is refl refl refl
  step_locked (step.shares fd opened from to named free is) = let free_it = free_at (descriptors_of plain.files pid) from to free in stays _ is (free_stays plain.files pid to _ free_it.1) refl
  step_locked (step.shares_over fd to opened named may apart is) = by _ is (relocked (after_close plain.files pid (count_of to)) _ (close_locked plain.files pid (count_of to) locked)
      (free_stays (after_close plain.files pid (count_of to)) pid (count_of to) _ (close_one plain.files pid (count_of to) (count_of to) (inl refl))) refl)
  step_locked (step.marks fd opened cloexec named is) = stays _ is (marked (count_of fd) cloexec) refl
  step_locked (step.closes fd opened named is) = by _ is (close_locked plain.files pid (count_of fd) locked)
  step_locked (step.describes fd opened description named target access between is) = stays _ is (described plain.files fd opened description named target refl refl) refl
  step_locked (step.opens path flags fd found which free led other is) = stays _ is (one _ fd _ _ refl refl free) refl
  step_locked (step.writes fd addr n done opened number at offset written reaches wrote is) = stays _ is (described _ fd opened _ reaches.named refl refl refl) refl
  step_locked (step.writes_at fd addr n opened number at written reaches wrote is) = same _ is refl refl refl
  step_locked (step.resizes fd opened number size tree reaches sized is) = same _ is refl refl refl
  step_locked (step.makes path made_it which led is) = same _ is refl refl refl
  step_locked (step.makes_fifo path made_it which led is) = same _ is refl refl refl
  step_locked (step.removes path tree which led is) = same _ is refl refl refl
  step_locked (step.links old new tree which led is) = same _ is refl refl refl
  step_locked (step.unlinks path left which led is) = same _ is refl refl refl
  step_locked (step.renames old new left which led is) = same _ is refl refl refl
  step_locked (step.pipes two free is) = stays _ is (two_stay _ two _ _ refl refl free) refl
  step_locked (step.takes fd addr n opened place k which named on may moves is) = same _ is refl refl refl
  step_locked (step.puts fd addr n done opened place k which named on may moves is) = same _ is refl refl refl
  step_locked (step.joins path flags fd place found openings opens at may is) = stays _ is
      (waited _ openings (one (with_pipe plain.files place (Some (with_end (pipe_at plain.files place) (may_write (access_of flags))))) fd _ _ refl refl opens.free)) refl
  step_locked (step.begins path flags fd found openings opens at may is) = stays _ is
      (waited _ openings (one (with_pipes plain.files (plain.files.pipes ++ Some (with_end (unopened found.0) (may_write (access_of flags))) ∷ [])) fd _ _ refl refl opens.free)) refl
  step_locked (step.meets path flags opening which begun is) = same _ is refl refl refl
  step_locked (step.sockets fd free is) = stays _ is (one _ fd _ _ refl refl free) refl
  step_locked (step.pairs two free is) = stays _ is (two_stay _ two _ _ refl refl free) refl
  step_locked (step.binds fd path opened place made_it which named on fine led is) = same _ is refl refl refl
  step_locked (step.listens fd opened place named on fine is) = same _ is refl refl refl
  step_locked (step.shuts fd how opened place named on fine is) = same _ is refl refl refl
  step_locked (step.connects fd opened place number listener named on fine listening room is) = same _ is refl refl refl
  step_locked (step.accepts fd opened place to taken named on free first is) = stays _ is (one _ to _ _ refl refl free) refl
  step_locked (step.receives fd addr n opened place k which named on moves is) = same _ is refl refl refl
  step_locked (step.sends fd addr n done opened place k which named on moves is) = same _ is refl refl refl
  step_locked (step.locks fd opened number asked setting named target is_file places clear is) = by _ is (sets fd opened number asked named target places clear)
  step_locked (step.starts is) = by _ is (exec_locked plain.files pid locked)
  step_locked (step.forks which is) = stays _ is (heir_stays plain.files pid) refl
  step_locked (step.ends_caller over ending is) = by _ is (closed_locked plain.files pid locked)
  step_locked (step.ends_other who ending is) = by _ is (closed_locked plain.files who locked)

-- ---- every machine

pub reached_locked : (script : Script) (plain : Plain) → IsReached script plain → Locked plain.files
reached_locked script plain reached = by_induction script (λ plain. Locked plain.files) (record {
  boot = record { apart = nobody_holds; opened = λ pid number some. absurd (some refl) };
  answer = λ plain pid reached locked alive. answers_keep Locked script plain pid (call_of script plain pid) (λ goes_on next stepped. step_locked plain pid (call_of script plain pid) next locked stepped);
  refuse = λ plain pid reached locked. locked;
  kill = λ plain pid status reached locked. closed_locked plain.files pid locked;
}) reached
