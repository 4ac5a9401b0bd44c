-- What a call that writes a node is answered, by what its number names.
use Rattle.std.proofs.Common.{◌≡◌, ◌≢◌, ℕ, ◌==◌, ℤ, pos, Bool, true, false, cond, None, Some, refl, ap, ◌∙◌, eq-eqb, ne_eqb}
use Rattle.kabi_types.specs.Arguments.{count_of}
use Rattle.kabi_types.specs.declared.errnos.Errno.TheVariants.{EBADF, EFAULT, EINVAL, EISDIR, ESPIPE}
use Rattle.kabi_types.specs.declared.replies.Reply.TheVariants.{Val}
use Rattle.kabi_types.specs.declared.scripts.Script.{Script}
use Rattle.kheap_slabs.specs.declared.objects.Target.{Target}
use Rattle.kheap_slabs.specs.declared.objects.Target.TheVariants as target
use Rattle.open_laws.specs.Described.{access_in, inode_in, target_in}
use Rattle.open_laws.specs.Placed.{Numbers}
use Rattle.posix_defs.specs.Answer.{Answer, failed, replied}
use Rattle.posix_defs.specs.Calls.OnFiles.{ftruncate, resized_to, truncate_target}
use Rattle.posix_defs.specs.Calls.Opened.{Opened, answer_on, if_writable, opened_at}
use Rattle.posix_defs.specs.Calls.Reading.{of_bytes}
use Rattle.posix_defs.specs.Calls.Writing.{bytes_left, pwrite, pwrite_target, write_ignoring, write_file, write_target, wrote_at}
use Rattle.posix_defs.specs.Files.Descriptions.{may_write}
use Rattle.posix_defs.specs.Plain.{Plain}
use Rattle.posix_defs.specs.Tree.{is_directory}
use Rattle.posix_defs.specs.TreeChanges.{resize, write as tree_write}
use Rattle.proc_numbers.specs.Found.{opened_in}
use Rattle.proc_numbers.specs.declared.lookups.Found.{Found}
use Rattle.proc_numbers.proofs.MayMove.{isnt_open, may_be_written}
use Rattle.proc_files.proofs.ReadAnswers.{by_tests, is_mapped, three}

module _ (script : Script) (numbers : Numbers) (plain : Plain) (pid : ℕ) (fd addr n : ℤ) where
  abbrev mapped_so : Bool
  mapped_so = is_mapped script numbers plain pid fd addr n

  abbrev of_write : Opened → Answer
  of_write opened = of_bytes script plain pid addr n (write_target script plain pid opened addr (count_of n) 0 opened.is.target)

  pub write_closed : opened_at plain.files pid fd ≡ None → write_ignoring script plain pid fd addr n 0 ≡ failed script plain pid EBADF
  unfolding write_ignoring
  write_closed none = isnt_open script numbers plain pid fd of_write (λ opened. if_writable script plain pid opened (of_write opened)) none

  abbrev of_pwrite : ℤ → Opened → Answer
  of_pwrite at opened = pwrite_target script plain pid addr n (count_of at) opened.is.target

  pub pwrite_closed : (at : ℤ) → opened_at plain.files pid fd ≡ None → pwrite script plain pid fd addr n at ≡ failed script plain pid EBADF
  unfolding pwrite
  pwrite_closed at none = isnt_open script numbers plain pid fd (of_pwrite at) (λ opened. if_writable script plain pid opened (of_pwrite at opened)) none

  module _ (it : Found) (found : opened_at plain.files pid fd ≡ Some (opened_in numbers it)) where
    pub write_denied : may_write (access_in it.desc.access) ≡ false → write_ignoring script plain pid fd addr n 0 ≡ failed script plain pid EBADF
    unfolding write_ignoring
    write_denied denied = may_be_written script numbers plain pid fd of_write it found false denied

    write_is : may_write (access_in it.desc.access) ≡ true
        → write_ignoring script plain pid fd addr n 0 ≡ of_bytes script plain pid addr n (write_target script plain pid (opened_in numbers it) addr (count_of n) 0 (target_in numbers it.desc.target))
    unfolding write_ignoring
    write_is may = may_be_written script numbers plain pid fd of_write it found true may

    pub pwrite_denied : (at : ℤ) → may_write (access_in it.desc.access) ≡ false → pwrite script plain pid fd addr n at ≡ failed script plain pid EBADF
    unfolding pwrite
    pwrite_denied at denied = may_be_written script numbers plain pid fd (of_pwrite at) it found false denied

    pwrite_is : (at : ℤ) → may_write (access_in it.desc.access) ≡ true → pwrite script plain pid fd addr n at ≡ pwrite_target script plain pid addr n (count_of at) (target_in numbers it.desc.target)
    unfolding pwrite
    pwrite_is at may = may_be_written script numbers plain pid fd (of_pwrite at) it found true may

    pub pwrite_refused : (at : ℤ) → may_write (access_in it.desc.access) ≡ true → inode_in it.desc.target ≡ None → pwrite script plain pid fd addr n at ≡ failed script plain pid ESPIPE
    pwrite_refused at may none = pwrite_is at may ∙ by_target it.desc.target none
      where
        by_target : (what : Target) → inode_in what ≡ None → pwrite_target script plain pid addr n (count_of at) (target_in numbers what) ≡ failed script plain pid ESPIPE
        by_target (target.Inode number) none = cc
        by_target (target.Pipe key) none = refl
        by_target (target.Sock key) none = refl

    module _ (node : ℕ) (on : it.desc.target ≡ target.Inode node) where
      abbrev writes : Answer
      writes = write_file script plain pid (opened_in numbers it) node (bytes_left plain pid addr (count_of n) 0)

      write_so : (mapped none : Bool) → may_write (access_in it.desc.access) ≡ true → mapped_so ≡ mapped → (count_of n == 0) ≡ none
          → write_ignoring script plain pid fd addr n 0 ≡ by_tests script plain pid EISDIR writes false mapped none
      write_so mapped none may q r =
          write_is may ∙ ap (λ what. of_bytes script plain pid addr n (write_target script plain pid (opened_in numbers it) addr (count_of n) 0 (target_in numbers what))) on
          ∙ three (by_tests script plain pid EISDIR writes) false mapped_so (count_of n == 0) false mapped none refl q r

      pub write_unmapped : may_write (access_in it.desc.access) ≡ true → mapped_so ≡ false → write_ignoring script plain pid fd addr n 0 ≡ failed script plain pid EFAULT
      write_unmapped may unmapped = write_so false (count_of n == 0) may unmapped refl

      pub write_nothing : may_write (access_in it.desc.access) ≡ true → mapped_so ≡ true → count_of n ≡ 0 → write_ignoring script plain pid fd addr n 0 ≡ replied script plain pid (Val (pos 0))
      write_nothing may mapped none = write_so true true may mapped (eq-eqb (count_of n) 0 none)

      pub write_goes : may_write (access_in it.desc.access) ≡ true → mapped_so ≡ true → count_of n ≢ 0
          → write_ignoring script plain pid fd addr n 0 ≡ write_file script plain pid (opened_in numbers it) node (bytes_left plain pid addr (count_of n) 0)
      write_goes may mapped some = write_so true false may mapped (ne_eqb (count_of n) 0 some)

      module _ (at : ℤ) where
        abbrev pwrites : Answer
        pwrites = wrote_at script plain pid (tree_write plain.files.tree node (count_of at) (bytes_left plain pid addr (count_of n) 0))

        pwrite_so : (directory mapped none : Bool) → may_write (access_in it.desc.access) ≡ true → is_directory plain.files.tree node ≡ directory → mapped_so ≡ mapped → (count_of n == 0) ≡ none
            → pwrite script plain pid fd addr n at ≡ by_tests script plain pid EISDIR pwrites directory mapped none
        pwrite_so directory mapped none may p q r =
            pwrite_is at may ∙ ap (λ what. pwrite_target script plain pid addr n (count_of at) (target_in numbers what)) on
            ∙ three (by_tests script plain pid EISDIR pwrites) (is_directory plain.files.tree node) mapped_so (count_of n == 0) directory mapped none p q r

        pub pwrite_directory : may_write (access_in it.desc.access) ≡ true → is_directory plain.files.tree node ≡ true → pwrite script plain pid fd addr n at ≡ failed script plain pid EISDIR
        pwrite_directory may dir = pwrite_so true mapped_so (count_of n == 0) may dir refl refl

        pub pwrite_unmapped : may_write (access_in it.desc.access) ≡ true → is_directory plain.files.tree node ≡ false → mapped_so ≡ false → pwrite script plain pid fd addr n at ≡ failed script plain pid EFAULT
        pwrite_unmapped may dir unmapped = pwrite_so false false (count_of n == 0) may dir unmapped refl

        pub pwrite_nothing : may_write (access_in it.desc.access) ≡ true → is_directory plain.files.tree node ≡ false → mapped_so ≡ true → count_of n ≡ 0
            → pwrite script plain pid fd addr n at ≡ replied script plain pid (Val (pos 0))
        pwrite_nothing may dir mapped none = pwrite_so false true true may dir mapped (eq-eqb (count_of n) 0 none)

        pub pwrite_goes : may_write (access_in it.desc.access) ≡ true → is_directory plain.files.tree node ≡ false → mapped_so ≡ true → count_of n ≢ 0
            → pwrite script plain pid fd addr n at ≡ wrote_at script plain pid (tree_write plain.files.tree node (count_of at) (bytes_left plain pid addr (count_of n) 0))
        pwrite_goes may dir mapped some = pwrite_so false true false may dir mapped (ne_eqb (count_of n) 0 some)

-- ---- ftruncate

module _ (script : Script) (numbers : Numbers) (plain : Plain) (pid : ℕ) (fd size : ℤ) where
  pub ftruncate_closed : opened_at plain.files pid fd ≡ None → ftruncate script plain pid fd size ≡ failed script plain pid EBADF
  unfolding ftruncate
  ftruncate_closed none = ap (answer_on script plain pid (λ opened. truncate_target script plain pid opened (count_of size) opened.is.target)) none

  module _ (it : Found) (found : opened_at plain.files pid fd ≡ Some (opened_in numbers it)) where
    ftruncate_is : ftruncate script plain pid fd size ≡ truncate_target script plain pid (opened_in numbers it) (count_of size) (target_in numbers it.desc.target)
    unfolding ftruncate
    ftruncate_is = ap (answer_on script plain pid (λ opened. truncate_target script plain pid opened (count_of size) opened.is.target)) found

    pub ftruncate_refused : inode_in it.desc.target ≡ None → ftruncate script plain pid fd size ≡ failed script plain pid EINVAL
    ftruncate_refused none = ftruncate_is ∙ by_target it.desc.target none
      where
        by_target : (what : Target) → inode_in what ≡ None → truncate_target script plain pid (opened_in numbers it) (count_of size) (target_in numbers what) ≡ failed script plain pid EINVAL
        by_target (target.Inode number) none = cc
        by_target (target.Pipe key) none = refl
        by_target (target.Sock key) none = refl

    module _ (node : ℕ) (on : it.desc.target ≡ target.Inode node) where
      ftruncate_so : (directory may : Bool) → is_directory plain.files.tree node ≡ directory → may_write (access_in it.desc.access) ≡ may
          → ftruncate script plain pid fd size
          ≡ cond directory (failed script plain pid EINVAL) (cond may (resized_to script plain pid (resize plain.files.tree node (count_of size))) (failed script plain pid EBADF))
      ftruncate_so directory may p q =
          ftruncate_is ∙ ap (λ what. truncate_target script plain pid (opened_in numbers it) (count_of size) (target_in numbers what)) on
          ∙ ap
          (λ d. cond d (failed script plain pid EINVAL)
          (cond (may_write (access_in it.desc.access)) (resized_to script plain pid (resize plain.files.tree node (count_of size))) (failed script plain pid EBADF))) p
          ∙ ap (λ w. cond directory (failed script plain pid EINVAL) (cond w (resized_to script plain pid (resize plain.files.tree node (count_of size))) (failed script plain pid EBADF))) q

      pub ftruncate_directory : is_directory plain.files.tree node ≡ true → ftruncate script plain pid fd size ≡ failed script plain pid EINVAL
      ftruncate_directory dir = ftruncate_so true (may_write (access_in it.desc.access)) dir refl

      pub ftruncate_denied : is_directory plain.files.tree node ≡ false → may_write (access_in it.desc.access) ≡ false → ftruncate script plain pid fd size ≡ failed script plain pid EBADF
      ftruncate_denied file denied = ftruncate_so false false file denied

      pub ftruncate_goes : is_directory plain.files.tree node ≡ false → may_write (access_in it.desc.access) ≡ true
          → ftruncate script plain pid fd size ≡ resized_to script plain pid (resize plain.files.tree node (count_of size))
      ftruncate_goes file may = ftruncate_so false true file may
