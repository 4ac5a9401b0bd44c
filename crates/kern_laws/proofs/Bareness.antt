-- Nothing open stays nothing open where a process ends, and where one is made.
use Rattle.std.proofs.Common.{◌≡◌, ℕ, zero, suc, List, [], ◌∷◌, ◌++◌, length, replicate, Option, None, refl, ap, sym, ◌∙◌, subst, slice_get, slice_index_or, unwrap_or}
use Rattle.std.specs.List.{range_with_len}
use Rattle.kabi_types.specs.Arguments.{most_descriptors}
use Rattle.posix_defs.specs.Plain.{Plain}
use Rattle.posix_defs.specs.Ending.{closed_by, die}
use Rattle.posix_defs.specs.Files.Descriptors.{Descriptor, Descriptors, descriptor_at, none_open}
use Rattle.posix_defs.specs.Files.State.{Files, boot_files, descriptors_of, with_heir, with_opening}
use Rattle.posix_defs.specs.Files.Closing.{after_close, after_closes, after_end_of, after_ends_of, all_numbers, close_in}
use Rattle.posix_defs.specs.Files.Bare.{IsBare}

-- ---- closing

none_within : (count fd : ℕ) → slice_index_or (replicate {A = Option Descriptor} count None) fd None ≡ None
none_within zero fd = refl
none_within (suc count) zero = refl
none_within (suc count) (suc fd) = none_within count fd

-- no number is open where none is
pub none_open_at : (fd : ℕ) → descriptor_at none_open fd ≡ None
unfolding none_open
none_open_at fd = none_within most_descriptors fd

-- so closing changes nothing
close_unopened : (files : Files) (pid fd : ℕ) → descriptors_of files pid ≡ none_open → after_close files pid fd ≡ files
close_unopened files pid fd none = ap (close_in files pid fd) (ap (λ descriptors. descriptor_at descriptors fd) none ∙ none_open_at fd)

closes_unopened : (files : Files) (pid : ℕ) (fds : List ℕ) → descriptors_of files pid ≡ none_open → after_closes files pid fds ≡ files
closes_unopened files pid [] none = refl
closes_unopened files pid (fd ∷ fds) none =
    ap (λ closed. after_closes closed pid fds) (close_unopened files pid fd none) ∙ closes_unopened files pid fds none

pub end_unopened : (files : Files) (pid : ℕ) → descriptors_of files pid ≡ none_open → after_end_of files pid ≡ with_opening files pid None
unfolding after_end_of
end_unopened files pid none = ap (λ closed. with_opening closed pid None) (closes_unopened files pid all_numbers none)

-- a process that ends has nothing to close
end_bare : (files : Files) (pid : ℕ) → IsBare files → IsBare (after_end_of files pid)
end_bare files pid bare = subst IsBare (sym (end_unopened files pid (bare.descriptors pid))) (record {
  descriptors = bare.descriptors;
  descriptions = bare.descriptions;
  tree = bare.tree;
  pipes = bare.pipes;
  sockets = bare.sockets;
  locks = bare.locks;
})

ends_bare : (files : Files) (pids : List ℕ) → IsBare files → IsBare (after_ends_of files pids)
ends_bare files [] bare = bare
ends_bare files (pid ∷ pids) bare = ends_bare (after_end_of files pid) pids (end_bare files pid bare)

pub closed_by_bare : (files : Files) (pid : ℕ) → IsBare files → IsBare (closed_by files pid)
closed_by_bare files zero bare = end_bare files zero bare
closed_by_bare files (suc zero) bare = ends_bare files (range_with_len 1 (length files.descriptors)) bare
closed_by_bare files (suc (suc n)) bare = end_bare files (suc (suc n)) bare

pub die_bare : (plain : Plain) (pid status : ℕ) → IsBare plain.files → IsBare (die plain pid status).files
die_bare plain pid status bare = closed_by_bare plain.files pid bare

-- ---- a child, and the first process

one_more : (xs : List Descriptors) (other : Descriptors) (n : ℕ) → other ≡ none_open → ((k : ℕ) → unwrap_or (slice_get xs k) none_open ≡ none_open)
    → unwrap_or (slice_get (xs ++ other ∷ []) n) none_open ≡ none_open
one_more [] other zero same each = same
one_more [] other (suc n) same each = refl
one_more (x ∷ xs) other zero same each = each 0
one_more (x ∷ xs) other (suc n) same each = one_more xs other n same (λ k. each (suc k))

pub heir_bare : (files : Files) (pid : ℕ) → IsBare files → IsBare (with_heir files pid)
heir_bare files pid bare = record {
  descriptors = each;
  descriptions = bare.descriptions;
  tree = bare.tree;
  pipes = bare.pipes;
  sockets = bare.sockets;
  locks = bare.locks;
}
  where
    each : (other : ℕ) → descriptors_of (with_heir files pid) other ≡ none_open
    each zero = refl
    each (suc n) = one_more files.descriptors (descriptors_of files pid) n (bare.descriptors pid) (λ k. bare.descriptors (suc k))

pub boot_bare : (blocks : ℕ) → IsBare (boot_files blocks)
boot_bare blocks = record { descriptors = each; descriptions = refl; tree = refl; pipes = refl; sockets = refl; locks = refl }
  where
    each : (pid : ℕ) → descriptors_of (boot_files blocks) pid ≡ none_open
    each zero = refl
    each (suc zero) = refl
    each (suc (suc n)) = refl
