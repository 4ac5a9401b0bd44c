-- What the machine answers to `pipe`, and which files it has then.
use Rattle.std.proofs.Common.{◌≡◌, ℕ, ◌+◌, ◌++◌, false, [], ◌∷◌, length, None, Some, refl, sym, ap, ◌∙◌, arith, length-append}
use Rattle.std.specs.Option.{option_and_then, option_map}
use Rattle.kabi_types.specs.declared.errnos.Errno.TheVariants.{EMFILE}
use Rattle.kabi_types.specs.declared.replies.Reply.TheVariants.{Pair}
use Rattle.kabi_types.specs.declared.scripts.Script.{Script}
use Rattle.posix_defs.specs.Answer.{failed, replied}
use Rattle.posix_defs.specs.Calls.OnPipes.{pipe, piped, piped_under}
use Rattle.posix_defs.specs.Files.Descriptions.{OnPipe, ReadOnly, WriteOnly, new_description}
use Rattle.posix_defs.specs.Files.Descriptors.{Descriptors, and_next, lowest_free_from, two_lowest_free}
use Rattle.posix_defs.specs.Files.State.{Files, descriptors_of, with_descriptions, with_open, with_pipes}
use Rattle.posix_defs.specs.Pipe.{new_pipe}
use Rattle.posix_defs.specs.Plain.{Plain, with_files}

module _ (descriptors : Descriptors) where
  pub none_free : lowest_free_from descriptors 0 ≡ None → two_lowest_free descriptors ≡ None
  none_free none = ap (option_and_then (and_next descriptors)) none

  pub one_free : (first : ℕ) → lowest_free_from descriptors 0 ≡ Some first → lowest_free_from descriptors (first + 1) ≡ None → two_lowest_free descriptors ≡ None
  one_free first some none =
      ap (option_and_then (and_next descriptors)) some ∙ ap (option_map (λ second. record { first = first; second = second })) none

  pub two_free : (first second : ℕ) → lowest_free_from descriptors 0 ≡ Some first → lowest_free_from descriptors (first + 1) ≡ Some second
      → two_lowest_free descriptors ≡ Some (record { first = first; second = second })
  two_free first second some more =
      ap (option_and_then (and_next descriptors)) some ∙ ap (option_map (λ second. record { first = first; second = second })) more

-- the machine with a pipe and the descriptions of its ends, and with the descriptors of both
abbrev pub with_both : Files → ℕ → ℕ → ℕ → ℕ → ℕ → Files
with_both files pid first second reading writing =
    with_open
    (with_open
    (with_descriptions (with_pipes files (files.pipes ++ Some new_pipe ∷ []))
    ((files.descriptions ++ Some (new_description (OnPipe (length files.pipes)) ReadOnly) ∷ []) ++ Some (new_description (OnPipe (length files.pipes)) WriteOnly) ∷ []))
    pid first (Some (record { description = reading; cloexec = false })))
    pid second (Some (record { description = writing; cloexec = false }))

pub piped_so : (files : Files) (pid first second reading writing : ℕ) → reading ≡ length files.descriptions → writing ≡ length files.descriptions + 1
    → piped files pid (record { first = first; second = second }) ≡ with_both files pid first second reading writing
piped_so files pid first second reading writing one other =
    ap (λ place. with_both files pid first second (length files.descriptions) place)
    (let more = length-append files.descriptions (Some (new_description (OnPipe (length files.pipes)) ReadOnly) ∷ []) in
    let single : length (Some (new_description (OnPipe (length files.pipes)) ReadOnly) ∷ []) ≡ 1 = refl in
    let same : length (files.descriptions ++ Some (new_description (OnPipe (length files.pipes)) ReadOnly) ∷ []) ≡ writing = omega (arith, more, single, other) in same)
    ∙ ap (λ place. with_both files pid first second place writing) (sym one)

module _ (script : Script) (plain : Plain) (pid : ℕ) where
  pub pipe_fails : two_lowest_free (descriptors_of plain.files pid) ≡ None → pipe script plain pid ≡ failed script plain pid EMFILE
  unfolding pipe
  pipe_fails none = ap (piped_under script plain pid) none

  pub pipe_makes : (first second : ℕ) → two_lowest_free (descriptors_of plain.files pid) ≡ Some (record { first = first; second = second })
      → pipe script plain pid ≡ replied script (with_files plain (piped plain.files pid (record { first = first; second = second }))) pid (Pair first second)
  unfolding pipe
  pipe_makes first second some = ap (piped_under script plain pid) some
