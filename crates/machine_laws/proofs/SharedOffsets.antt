-- Two descriptors that name one description share its offset.
use Rattle.std.proofs.Common.{◌≡◌, ℕ, zero, suc, ◌+◌, ◌<◌, ◌≤◌, ◌==◌, ℤ, pos, negsuc, ◌+ℤ◌, nat_lt, false, [], ◌∷◌, length, Option, None, Some, slice_set, unwrap_or, refl, ap, sym, ◌∙◌, subst, arith}
use Rattle.std.proofs.lemmas.List.{get_or-set_same, get_or-set_other}
use Rattle.kabi_types.specs.Arguments.{argument_fault, count_of}
use Rattle.kabi_types.specs.declared.calls.Call.TheVariants as calls
use Rattle.kabi_types.specs.declared.errnos.Errno.{Errno}
use Rattle.kabi_types.specs.declared.scripts.Script.{Script}
use Rattle.posix_defs.specs.Answer.{Answer}
use Rattle.posix_defs.specs.Forking.{is_full}
use Rattle.posix_defs.specs.Machine.{machine, unless_wrong}
use Rattle.posix_defs.specs.Memory.{is_mapped_range}
use Rattle.posix_defs.specs.PathCalls.{read_node}
use Rattle.posix_defs.specs.Plain.{Plain, last_pid}
use Rattle.posix_defs.specs.Process.{memory_of}
use Rattle.posix_defs.specs.Files.Descriptors.{descriptor_of, lowest_free, lowest_free_from, none_open}
use Rattle.posix_defs.specs.Files.Descriptions.{Target, OnNode, OnPipe, OnSocket, Description, at_offset, may_read}
use Rattle.posix_defs.specs.Files.State.{Files, described_as, descriptors_of, with_heir}
use Rattle.posix_defs.specs.Calls.Opened.{Opened, answer_on, on_open, opened_at, opened_by}
use Rattle.posix_defs.specs.Calls.OnDescriptors.{controlled, dup, duplicated, fcntl, shared_at}
use Rattle.posix_defs.specs.Calls.OnFiles.{greatest_offset, is_between_entries, lseek, origin, seek_target, seek_to}
use Rattle.posix_defs.specs.Calls.Reading.{is_directory_target, read, read_target}
use Rattle.kern_laws.proofs.EnabledEvents.{get_behind}
use Rattle.kern_laws.proofs.TablePlaces.{get_front}
use Rattle.machine_laws.specs.Sharing.{InheritsTold, SeesTold, SharesTold}
use Rattle.machine_laws.proofs.Places.{IsNaming, free_at, names_there, naming, not_some, opened_same, opener_made, own_after, there_within}
use Rattle.machine_laws.proofs.PipeQueues.{choose}

-- ---- dup

-- a number that was free names what another names, which names it still
shared_names : (files : Files) (pid : ℕ) (fd : ℤ) (opened : Opened) (from to : ℕ) → opened_at files pid fd ≡ Some opened → lowest_free_from (descriptors_of files pid) from ≡ Some to
    → (opened_at files pid (pos to) ≡ None) × (opened_at (shared_at files pid opened to) pid (pos to) ≡ Some opened) × (opened_at (shared_at files pid opened to) pid fd ≡ Some opened)
shared_names files pid fd opened from to is lowest = (ap (opened_by files) free.1, there, still fd is named.held)
  where
    named : IsNaming files pid fd opened
    named = naming files pid fd opened is

    made : (0 < pid) × (pid ≤ length files.descriptors)
    made = opener_made files pid fd named.descriptor named.held

    free : (to < length (descriptors_of files pid)) × (descriptor_of (descriptors_of files pid) (pos to) ≡ None) × (from ≤ to)
    free = free_at (descriptors_of files pid) from to lowest

    after : descriptors_of (shared_at files pid opened to) pid ≡ slice_set (descriptors_of files pid) to (Some (record { description = opened.place; cloexec = false }))
    after = own_after files pid to (Some (record { description = opened.place; cloexec = false })) made.0 made.1

    there : opened_at (shared_at files pid opened to) pid (pos to) ≡ Some opened
    there = names_there (shared_at files pid opened to) pid (pos to) (record { description = opened.place; cloexec = false }) opened.place opened.is
        (ap (λ descriptors. descriptor_of descriptors (pos to)) after ∙ get_or-set_same (descriptors_of files pid) to (Some (record { description = opened.place; cloexec = false })) None free.0) refl named.there

    still : (fd : ℤ) → opened_at files pid fd ≡ Some opened → descriptor_of (descriptors_of files pid) fd ≡ Some named.descriptor → opened_at (shared_at files pid opened to) pid fd ≡ Some opened
    still (negsuc n) is held = is
    still (pos number) is held = ap (opened_by (shared_at files pid opened to)) (ap (λ descriptors. descriptor_of descriptors (pos number)) after
        ∙ get_or-set_other (descriptors_of files pid) to number (Some (record { description = opened.place; cloexec = false })) None
        (λ same. not_some (ap (λ k. descriptor_of (descriptors_of files pid) (pos k)) same ∙ free.1) held))
        ∙ opened_same files (shared_at files pid opened to) (descriptor_of (descriptors_of files pid) (pos number)) refl ∙ is

module _ (script : Script) (plain : Plain) (pid : ℕ) (fd : ℤ) (opened : Opened) (named : opened_at plain.files pid fd ≡ Some opened) where
  -- what is answered on a descriptor that is open
  on_it : (Holds : Answer → Type 0) (given : Opened → Answer) → Holds (given opened) → Holds (on_open script plain pid fd given)
  on_it Holds given rest = subst (λ o. Holds (answer_on script plain pid given o)) (sym named) rest

  duplicate_shares : (from : ℕ) (o : Option ℕ) → lowest_free_from (descriptors_of plain.files pid) from ≡ o → SharesTold plain pid fd opened (duplicated script plain pid opened o)
  duplicate_shares from None lowest = tt
  duplicate_shares from (Some to) lowest = shared_names plain.files pid fd opened from to named lowest

  dup_shares : SharesTold plain pid fd opened (dup script plain pid fd)
  unfolding dup
  dup_shares = on_it (SharesTold plain pid fd opened) _ (duplicate_shares 0 (lowest_free (descriptors_of plain.files pid)) refl)

  fcntl_shares : (from : ℤ) → SharesTold plain pid fd opened (fcntl script plain pid fd (pos 0) from)
  unfolding fcntl
  fcntl_shares from = on_it (SharesTold plain pid fd opened) (controlled script plain pid (count_of fd) (count_of (pos 0)) from)
      (duplicate_shares (count_of from) (lowest_free_from (descriptors_of plain.files pid) (count_of from)) refl)

  pub shares : SharesTold plain pid fd opened (machine script plain pid (calls.Dup fd))
  shares = go (argument_fault (calls.Dup fd))
    where
      go : (fault : Option Errno) → SharesTold plain pid fd opened (unless_wrong script plain pid fault (dup script plain pid fd))
      go None = dup_shares
      go (Some e) = tt

  pub shares_from : (from : ℤ) → SharesTold plain pid fd opened (machine script plain pid (calls.Fcntl fd (pos 0) from))
  shares_from from = go (argument_fault (calls.Fcntl fd (pos 0) from))
    where
      go : (fault : Option Errno) → SharesTold plain pid fd opened (unless_wrong script plain pid fault (fcntl script plain pid fd (pos 0) from))
      go None = fcntl_shares from
      go (Some e) = tt

-- ---- fork

-- the child's descriptors are its parent's, which stay
pub heirs_open : (files : Files) (parent child : ℕ) → child ≡ suc (length files.descriptors) → descriptors_of (with_heir files parent) child ≡ descriptors_of files parent
heirs_open files parent child last = ap (descriptors_of (with_heir files parent)) last
    ∙ ap (λ found. unwrap_or found none_open) (get_behind files.descriptors (descriptors_of files parent) [])

pub stay_open : (files : Files) (parent pid : ℕ) → pid ≤ length files.descriptors → descriptors_of (with_heir files parent) pid ≡ descriptors_of files pid
stay_open files parent zero within = refl
stay_open files parent (suc i) within = ap (λ found. unwrap_or found none_open) (get_front files.descriptors (descriptors_of files parent ∷ []) i (omega arith))

pub inherits : (script : Script) (plain : Plain) (pid : ℕ) → length plain.files.descriptors ≡ last_pid plain → pid ≤ last_pid plain
    → InheritsTold plain pid (machine script plain pid calls.Fork)
inherits script plain pid counted made = choose (InheritsTold plain pid) (is_full plain) _ _ (λ full. tt) (λ room fd. (
  ap (λ descriptors. opened_by (with_heir plain.files pid) (descriptor_of descriptors fd)) (heirs_open plain.files pid (last_pid plain + 1) (omega arith))
      ∙ opened_same plain.files (with_heir plain.files pid) (descriptor_of (descriptors_of plain.files pid) fd) refl,
  ap (λ descriptors. opened_by (with_heir plain.files pid) (descriptor_of descriptors fd)) (stay_open plain.files pid pid (omega arith))
      ∙ opened_same plain.files (with_heir plain.files pid) (descriptor_of (descriptors_of plain.files pid) fd) refl,
))

-- ---- lseek and read

-- a description that becomes another is seen by whoever names it
seen : (files : Files) (pid : ℕ) (fd : ℤ) (opened : Opened) (description : Description) → opened_at files pid fd ≡ Some opened
    → opened_at (described_as files opened.place description) pid fd ≡ Some (record { place = opened.place; is = description })
seen files pid fd opened description is = names_there (described_as files opened.place description) pid fd named.descriptor opened.place description named.held named.place
    (get_or-set_same files.descriptions opened.place (Some description) None (there_within files.descriptions opened.place opened.is named.there))
  where
    named : IsNaming files pid fd opened
    named = naming files pid fd opened is

module _ (script : Script) (plain : Plain) (pid other : ℕ) (fd to : ℤ) (opened : Opened)
    (named : opened_at plain.files pid fd ≡ Some opened) (also : opened_at plain.files other to ≡ Some opened) where
  sought_at : (offset : ℕ) (from : ℕ) (told : ℕ) → offset ≡ from + told
      → opened_at (described_as plain.files opened.place (at_offset opened.is offset)) other to ≡ Some (record { place = opened.place; is = at_offset opened.is (from + told) })
  sought_at offset from told same = seen plain.files other to opened (at_offset opened.is offset) also
      ∙ ap (λ k. Some (record { place = opened.place; is = at_offset opened.is k })) same

  seeks : (number : ℕ) (place : ℤ) → SeesTold other to opened 0 (seek_to script plain pid opened number place)
  seeks number (negsuc n) = tt
  seeks number (pos offset) = choose (SeesTold other to opened 0) (nat_lt greatest_offset offset) _ _ (λ far. tt) (λ near.
      choose (SeesTold other to opened 0) (is_between_entries plain.files.tree number offset) _ _ (λ between. tt) (λ right. sought_at offset 0 offset (omega arith)))

  seek_sees : (offset whence : ℤ) → SeesTold other to opened 0 (lseek script plain pid fd offset whence)
  unfolding lseek
  seek_sees offset whence = on_it script plain pid fd opened named (SeesTold other to opened 0) _ (go opened.is.target)
    where
      go : (target : Target) → SeesTold other to opened 0 (seek_target script plain pid opened offset (count_of whence) target)
      go (OnNode number) = seeks number (pos (origin plain.files.tree opened number (count_of whence)) +ℤ offset)
      go (OnPipe place) = tt
      go (OnSocket place) = tt

  pub sought : (offset whence : ℤ) → SeesTold other to opened 0 (machine script plain pid (calls.Lseek fd offset whence))
  sought offset whence = go (argument_fault (calls.Lseek fd offset whence))
    where
      go : (fault : Option Errno) → SeesTold other to opened 0 (unless_wrong script plain pid fault (lseek script plain pid fd offset whence))
      go None = seek_sees offset whence
      go (Some e) = tt

  abbrev Sees : Answer → Type 0
  Sees given = SeesTold other to opened opened.is.offset given

  module _ (addr n : ℤ) (number : ℕ) (on : opened.is.target ≡ OnNode number) where
    target_sees : Sees (read_target script plain pid opened addr (count_of n) opened.is.target)
    target_sees = subst (λ target. Sees (read_target script plain pid opened addr (count_of n) target)) (sym on)
        (sought_at (opened.is.offset + length (read_node plain.files.tree number opened.is.offset (count_of n))) opened.is.offset
        (length (read_node plain.files.tree number opened.is.offset (count_of n))) refl)

    read_sees : Sees (read script plain pid fd addr n)
    unfolding read
    read_sees = on_it script plain pid fd opened named Sees _
        (choose Sees (may_read opened.is.access) _ _ (λ may.
        choose Sees (is_directory_target plain.files.tree opened.is.target) _ _ (λ yes. tt) (λ no.
        choose Sees (is_mapped_range (memory_of plain.table pid) (count_of addr) (count_of n)) _ _ (λ mapped.
        choose Sees (count_of n == 0) _ _ (λ none. unmoved) (λ some. target_sees)) (λ unmapped. tt))) (λ no. tt))
      where
        unmoved : opened_at plain.files other to ≡ Some (record { place = opened.place; is = at_offset opened.is (opened.is.offset + 0) })
        unmoved = also ∙ ap (λ k. Some (record { place = opened.place; is = at_offset opened.is k })) (let e : opened.is.offset ≡ opened.is.offset + 0 = omega arith in e)

    pub read_on : Sees (machine script plain pid (calls.Read fd addr n))
    read_on = go (argument_fault (calls.Read fd addr n))
      where
        go : (fault : Option Errno) → Sees (unless_wrong script plain pid fault (read script plain pid fd addr n))
        go None = read_sees
        go (Some e) = tt
