-- What a call that reads a node is answered, by what its number names.
use Rattle.std.proofs.Common.{◌≡◌, ◌≢◌, ℕ, ◌==◌, ℤ, pos, Bool, true, false, cond, None, Some, refl, ap, ◌∙◌, eq-eqb, ne_eqb}
use Rattle.kabi_types.specs.Arguments.{count_of}
use Rattle.kabi_types.specs.declared.errnos.Errno.{Errno}
use Rattle.kabi_types.specs.declared.errnos.Errno.TheVariants.{EBADF, EFAULT, EISDIR, ENOTDIR, ESPIPE}
use Rattle.kabi_types.specs.declared.replies.Reply.TheVariants.{Val}
use Rattle.kabi_types.specs.declared.scripts.Script.{Script}
use Rattle.kheap_slabs.specs.declared.objects.Target.{Target}
use Rattle.kheap_slabs.specs.declared.objects.Target.TheVariants as target
use Rattle.open_laws.specs.Described.{access_in, inode_in, target_in}
use Rattle.open_laws.specs.Placed.{Numbers}
use Rattle.posix_defs.specs.Answer.{Answer, failed, replied}
use Rattle.posix_defs.specs.Calls.Opened.{Opened, answer_on, if_readable, opened_at}
use Rattle.posix_defs.specs.Calls.Reading.{is_directory_target, list_directory, list_target, pread, pread_target, put, read, read_file, read_target, readdir}
use Rattle.posix_defs.specs.Files.Descriptions.{may_read}
use Rattle.posix_defs.specs.Memory.{is_mapped_range}
use Rattle.posix_defs.specs.PathCalls.{read_node}
use Rattle.posix_defs.specs.Plain.{Plain}
use Rattle.posix_defs.specs.Process.{memory_of}
use Rattle.posix_defs.specs.Tree.{is_directory}
use Rattle.proc_numbers.specs.Found.{opened_in}
use Rattle.proc_numbers.specs.declared.lookups.Found.{Found}
use Rattle.proc_numbers.proofs.MayMove.{isnt_open, may_be_read}
use Rattle.proc_numbers.proofs.ReadCall.{of_opened, read_asks}

-- an answer that goes by three tests
pub three : (answer : Bool → Bool → Bool → Answer) (a b c x y z : Bool) → a ≡ x → b ≡ y → c ≡ z → answer a b c ≡ answer x y z
three answer a b c x y z p q r = ap (λ t. answer t b c) p ∙ ap (λ t. answer x t c) q ∙ ap (answer x y) r

-- what is answered by whether a node is a directory, its bytes are mapped, and none are asked for
abbrev pub by_tests : Script → Plain → ℕ → Errno → Answer → Bool → Bool → Bool → Answer
by_tests script plain pid errno answer directory mapped none =
    cond directory (failed script plain pid errno) (cond mapped (cond none (replied script plain pid (Val (pos 0))) answer) (failed script plain pid EFAULT))

module _ (script : Script) (numbers : Numbers) (plain : Plain) (pid : ℕ) (fd addr n : ℤ) where
  abbrev pub is_mapped : Bool
  is_mapped = is_mapped_range (memory_of plain.table pid) (count_of addr) (count_of n)

  -- ---- read

  pub read_closed : opened_at plain.files pid fd ≡ None → read script plain pid fd addr n ≡ failed script plain pid EBADF
  read_closed none =
      read_asks script numbers plain pid fd addr n
      ∙ isnt_open script numbers plain pid fd (of_opened script numbers plain pid fd addr n) (λ opened. if_readable script plain pid opened (of_opened script numbers plain pid fd addr n opened)) none

  -- ---- pread

  abbrev of_pread : ℤ → Opened → Answer
  of_pread at opened = pread_target script plain pid addr n (count_of at) opened.is.target

  pub pread_closed : (at : ℤ) → opened_at plain.files pid fd ≡ None → pread script plain pid fd addr n at ≡ failed script plain pid EBADF
  unfolding pread
  pread_closed at none = isnt_open script numbers plain pid fd (of_pread at) (λ opened. if_readable script plain pid opened (of_pread at opened)) none

  -- ---- readdir

  pub readdir_closed : opened_at plain.files pid fd ≡ None → readdir script plain pid fd addr n ≡ failed script plain pid EBADF
  unfolding readdir
  readdir_closed none = ap (answer_on script plain pid (λ opened. list_target script plain pid opened addr n opened.is.target)) none

  module _ (it : Found) (found : opened_at plain.files pid fd ≡ Some (opened_in numbers it)) where
    pub read_denied : may_read (access_in it.desc.access) ≡ false → read script plain pid fd addr n ≡ failed script plain pid EBADF
    read_denied denied = read_asks script numbers plain pid fd addr n ∙ may_be_read script numbers plain pid fd (of_opened script numbers plain pid fd addr n) it found false denied

    pub pread_denied : (at : ℤ) → may_read (access_in it.desc.access) ≡ false → pread script plain pid fd addr n at ≡ failed script plain pid EBADF
    unfolding pread
    pread_denied at denied = may_be_read script numbers plain pid fd (of_pread at) it found false denied

    pread_is : (at : ℤ) → may_read (access_in it.desc.access) ≡ true → pread script plain pid fd addr n at ≡ pread_target script plain pid addr n (count_of at) (target_in numbers it.desc.target)
    unfolding pread
    pread_is at may = may_be_read script numbers plain pid fd (of_pread at) it found true may

    pub pread_refused : (at : ℤ) → may_read (access_in it.desc.access) ≡ true → inode_in it.desc.target ≡ None → pread script plain pid fd addr n at ≡ failed script plain pid ESPIPE
    pread_refused at may none = pread_is at may ∙ by_target it.desc.target none
      where
        by_target : (what : Target) → inode_in what ≡ None → pread_target script plain pid addr n (count_of at) (target_in numbers what) ≡ failed script plain pid ESPIPE
        by_target (target.Inode number) none = cc
        by_target (target.Pipe key) none = refl
        by_target (target.Sock key) none = refl

    readdir_is : readdir script plain pid fd addr n ≡ list_target script plain pid (opened_in numbers it) addr n (target_in numbers it.desc.target)
    unfolding readdir
    readdir_is = ap (answer_on script plain pid (λ opened. list_target script plain pid opened addr n opened.is.target)) found

    pub readdir_refused : inode_in it.desc.target ≡ None → readdir script plain pid fd addr n ≡ failed script plain pid ENOTDIR
    readdir_refused none = readdir_is ∙ by_target it.desc.target none
      where
        by_target : (what : Target) → inode_in what ≡ None → list_target script plain pid (opened_in numbers it) addr n (target_in numbers what) ≡ failed script plain pid ENOTDIR
        by_target (target.Inode number) none = cc
        by_target (target.Pipe key) none = refl
        by_target (target.Sock key) none = refl

    module _ (node : ℕ) (on : it.desc.target ≡ target.Inode node) where
      -- ---- on a node

      on_target : Target → Answer
      on_target what =
          by_tests script plain pid EISDIR (read_target script plain pid (opened_in numbers it) addr (count_of n) (target_in numbers what))
          (is_directory_target plain.files.tree (target_in numbers what)) is_mapped (count_of n == 0)

      read_is : may_read (access_in it.desc.access) ≡ true → read script plain pid fd addr n
          ≡ by_tests script plain pid EISDIR (read_file script plain pid (opened_in numbers it) node addr (count_of n)) (is_directory plain.files.tree node) is_mapped (count_of n == 0)
      unfolding on_target
      read_is may =
          read_asks script numbers plain pid fd addr n ∙ may_be_read script numbers plain pid fd (of_opened script numbers plain pid fd addr n) it found true may
          ∙ ap on_target on

      read_so : (directory mapped none : Bool) → may_read (access_in it.desc.access) ≡ true → is_directory plain.files.tree node ≡ directory → is_mapped ≡ mapped → (count_of n == 0) ≡ none
          → read script plain pid fd addr n ≡ by_tests script plain pid EISDIR (read_file script plain pid (opened_in numbers it) node addr (count_of n)) directory mapped none
      read_so directory mapped none may p q r =
          read_is may
          ∙ three (by_tests script plain pid EISDIR (read_file script plain pid (opened_in numbers it) node addr (count_of n))) (is_directory plain.files.tree node) is_mapped (count_of n == 0) directory mapped none p q r

      pub read_directory : may_read (access_in it.desc.access) ≡ true → is_directory plain.files.tree node ≡ true → read script plain pid fd addr n ≡ failed script plain pid EISDIR
      read_directory may dir = read_so true is_mapped (count_of n == 0) may dir refl refl

      pub read_unmapped : may_read (access_in it.desc.access) ≡ true → is_directory plain.files.tree node ≡ false → is_mapped ≡ false → read script plain pid fd addr n ≡ failed script plain pid EFAULT
      read_unmapped may dir unmapped = read_so false false (count_of n == 0) may dir unmapped refl

      pub read_nothing : may_read (access_in it.desc.access) ≡ true → is_directory plain.files.tree node ≡ false → is_mapped ≡ true → count_of n ≡ 0
          → read script plain pid fd addr n ≡ replied script plain pid (Val (pos 0))
      read_nothing may dir mapped none = read_so false true true may dir mapped (eq-eqb (count_of n) 0 none)

      pub read_goes : may_read (access_in it.desc.access) ≡ true → is_directory plain.files.tree node ≡ false → is_mapped ≡ true → count_of n ≢ 0
          → read script plain pid fd addr n ≡ read_file script plain pid (opened_in numbers it) node addr (count_of n)
      read_goes may dir mapped some = read_so false true false may dir mapped (ne_eqb (count_of n) 0 some)

      module _ (at : ℤ) where
        abbrev pread_put : Answer
        pread_put = put script plain pid addr (read_node plain.files.tree node (count_of at) (count_of n))

        pread_so : (directory mapped none : Bool) → may_read (access_in it.desc.access) ≡ true → is_directory plain.files.tree node ≡ directory → is_mapped ≡ mapped → (count_of n == 0) ≡ none
            → pread script plain pid fd addr n at ≡ by_tests script plain pid EISDIR pread_put directory mapped none
        pread_so directory mapped none may p q r =
            pread_is at may ∙ ap (λ what. pread_target script plain pid addr n (count_of at) (target_in numbers what)) on
            ∙ three (by_tests script plain pid EISDIR pread_put) (is_directory plain.files.tree node) is_mapped (count_of n == 0) directory mapped none p q r

        pub pread_directory : may_read (access_in it.desc.access) ≡ true → is_directory plain.files.tree node ≡ true → pread script plain pid fd addr n at ≡ failed script plain pid EISDIR
        pread_directory may dir = pread_so true is_mapped (count_of n == 0) may dir refl refl

        pub pread_unmapped : may_read (access_in it.desc.access) ≡ true → is_directory plain.files.tree node ≡ false → is_mapped ≡ false → pread script plain pid fd addr n at ≡ failed script plain pid EFAULT
        pread_unmapped may dir unmapped = pread_so false false (count_of n == 0) may dir unmapped refl

        pub pread_nothing : may_read (access_in it.desc.access) ≡ true → is_directory plain.files.tree node ≡ false → is_mapped ≡ true → count_of n ≡ 0
            → pread script plain pid fd addr n at ≡ replied script plain pid (Val (pos 0))
        pread_nothing may dir mapped none = pread_so false true true may dir mapped (eq-eqb (count_of n) 0 none)

        pub pread_goes : may_read (access_in it.desc.access) ≡ true → is_directory plain.files.tree node ≡ false → is_mapped ≡ true → count_of n ≢ 0
            → pread script plain pid fd addr n at ≡ put script plain pid addr (read_node plain.files.tree node (count_of at) (count_of n))
        pread_goes may dir mapped some = pread_so false true false may dir mapped (ne_eqb (count_of n) 0 some)

      readdir_so : (directory mapped : Bool) → is_directory plain.files.tree node ≡ directory → is_mapped ≡ mapped
          → readdir script plain pid fd addr n
          ≡ cond directory (cond mapped (list_directory script plain pid (opened_in numbers it) node addr (count_of n)) (failed script plain pid EFAULT)) (failed script plain pid ENOTDIR)
      readdir_so directory mapped p q =
          readdir_is ∙ ap (λ what. list_target script plain pid (opened_in numbers it) addr n (target_in numbers what)) on
          ∙ ap (λ d. cond d (cond is_mapped (list_directory script plain pid (opened_in numbers it) node addr (count_of n)) (failed script plain pid EFAULT)) (failed script plain pid ENOTDIR)) p
          ∙ ap (λ m. cond directory (cond m (list_directory script plain pid (opened_in numbers it) node addr (count_of n)) (failed script plain pid EFAULT)) (failed script plain pid ENOTDIR)) q

      pub readdir_file : is_directory plain.files.tree node ≡ false → readdir script plain pid fd addr n ≡ failed script plain pid ENOTDIR
      readdir_file file = readdir_so false is_mapped file refl

      pub readdir_unmapped : is_directory plain.files.tree node ≡ true → is_mapped ≡ false → readdir script plain pid fd addr n ≡ failed script plain pid EFAULT
      readdir_unmapped dir unmapped = readdir_so true false dir unmapped

      pub readdir_goes : is_directory plain.files.tree node ≡ true → is_mapped ≡ true
          → readdir script plain pid fd addr n ≡ list_directory script plain pid (opened_in numbers it) node addr (count_of n)
      readdir_goes dir mapped = readdir_so true true dir mapped
