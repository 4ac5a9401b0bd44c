-- What holds of files through each way of closing, where it holds through the going of one description.
use Rattle.std.proofs.Common.{◌≡◌, ◌≢◌, ℕ, zero, suc, Bool, true, false, cond, List, [], ◌∷◌, length, Option, None, Some, refl}
use Rattle.std.specs.List.{range_with_len, filter}
use Rattle.posix_defs.specs.Ending.{closed_by}
use Rattle.posix_defs.specs.Locks.{Locks}
use Rattle.posix_defs.specs.Files.Descriptors.{Descriptor, descriptor_at, is_named, is_cloexec}
use Rattle.posix_defs.specs.Files.Descriptions.{Description, description_at, with_description}
use Rattle.posix_defs.specs.Files.State.{Files, descriptors_of, with_descriptions, with_locks, with_open, with_opening}
use Rattle.posix_defs.specs.Files.Closing.{after_close, after_closes, after_end_of, after_ends_of, after_exec_of, all_numbers, close_in, description_gone, gone_in, released, target_closed, unlocked_by}

-- the files after a description has gone, which was open on something
abbrev pub without : Files → ℕ → Description → Files
without files place description = target_closed (with_descriptions files (with_description files.descriptions place None)) description.access description.target

-- It holds still when such a process closes a descriptor, when it waits for no other side of a FIFO any more, when a description goes
-- that nobody names, and whatever locks are held.
pub record IsClosedUnder (Who : ℕ → Type 0) (Holds : Files → Type 0) : Type 0 where
  pub shut : (files : Files) (pid fd : ℕ) → Who pid → Holds files → Holds (with_open files pid fd None)
  pub wakes : (files : Files) (pid : ℕ) → Who pid → Holds files → Holds (with_opening files pid None)
  pub gone : (files : Files) (place : ℕ) (description : Description) → Holds files → description_at files.descriptions place ≡ Some description
      → is_named files.descriptors place ≡ false → Holds (without files place description)
  pub unlocks : (files : Files) (locks : Locks) → Holds files → Holds (with_locks files locks)

-- whoever closes
abbrev pub anybody : ℕ → Type 0
anybody pid = Unit {0}

module _ (Who : ℕ → Type 0) (Holds : Files → Type 0) (closed : IsClosedUnder Who Holds) where
  released_holds : (files : Files) (place : ℕ) → Holds files → Holds (released files place)
  released_holds files place holds = go (is_named files.descriptors place) refl
    where
      gone : (o : Option Description) → description_at files.descriptions place ≡ o → is_named files.descriptors place ≡ false → Holds (gone_in files place o)
      gone None is none = holds
      gone (Some description) is none = closed.gone files place description holds is none

      go : (b : Bool) → is_named files.descriptors place ≡ b → Holds (cond b files (description_gone files place))
      go true is = holds
      go false is = gone (description_at files.descriptions place) refl is

  pub close_holds : (files : Files) (pid fd : ℕ) → Who pid → Holds files → Holds (after_close files pid fd)
  close_holds files pid fd who holds = go (descriptor_at (descriptors_of files pid) fd)
    where
      go : (o : Option Descriptor) → Holds (close_in files pid fd o)
      go None = holds
      go (Some descriptor) = closed.unlocks (released (with_open files pid fd None) descriptor.description) (unlocked_by files pid (description_at files.descriptions descriptor.description))
          (released_holds (with_open files pid fd None) descriptor.description (closed.shut files pid fd who holds))

  pub closes_hold : (files : Files) (pid : ℕ) (fds : List ℕ) → Who pid → Holds files → Holds (after_closes files pid fds)
  closes_hold files pid [] who holds = holds
  closes_hold files pid (fd ∷ fds) who holds = closes_hold (after_close files pid fd) pid fds who (close_holds files pid fd who holds)

  pub exec_holds : (files : Files) (pid : ℕ) → Who pid → Holds files → Holds (after_exec_of files pid)
  unfolding after_exec_of
  exec_holds files pid who holds = closes_hold files pid (filter (is_cloexec (descriptors_of files pid)) all_numbers) who holds

  pub end_holds : (files : Files) (pid : ℕ) → Who pid → Holds files → Holds (after_end_of files pid)
  unfolding after_end_of
  end_holds files pid who holds = closed.wakes (after_closes files pid all_numbers) pid who (closes_hold files pid all_numbers who holds)

  -- one that isn't the first ends alone
  pub one_end_holds : (files : Files) (pid : ℕ) → pid ≢ 1 → Who pid → Holds files → Holds (closed_by files pid)
  one_end_holds files zero other who holds = end_holds files zero who holds
  one_end_holds files (suc zero) other who holds = absurd (other refl)
  one_end_holds files (suc (suc pid)) other who holds = end_holds files (suc (suc pid)) who holds

  ends_hold : (files : Files) (pids : List ℕ) → ((pid : ℕ) → Who pid) → Holds files → Holds (after_ends_of files pids)
  ends_hold files [] all holds = holds
  ends_hold files (pid ∷ pids) all holds = ends_hold (after_end_of files pid) pids all (end_holds files pid (all pid) holds)

  pub closed_by_holds : (files : Files) (pid : ℕ) → ((pid : ℕ) → Who pid) → Holds files → Holds (closed_by files pid)
  closed_by_holds files zero all holds = end_holds files zero (all zero) holds
  closed_by_holds files (suc zero) all holds = ends_hold files (range_with_len 1 (length files.descriptors)) all holds
  closed_by_holds files (suc (suc pid)) all holds = end_holds files (suc (suc pid)) (all (suc (suc pid))) holds
