-- Paths and what they lead to, by POSIX's pathname resolution.
use Rattle.std.specs.Prelude.{ℕ, ◌≡◌, ◌⊎◌, ◌&&◌, not, Bool, true, if◌then◌else◌, List, [], ◌∷◌, length, slice_index, ◌-◌, Option, None, Some, Result, Ok, Err}
use Rattle.std.specs.Str.{bytes_eq}
use Rattle.kabi_types.specs.PathParts.{is_slash, components}
use Rattle.kabi_types.specs.declared.errnos.Errno.{Errno}
use Rattle.kabi_types.specs.declared.errnos.Errno.TheVariants.{ENOENT, ENOTDIR}
use Rattle.posix_defs.specs.declared.walked.Walked.{Walked}
use Rattle.posix_defs.specs.declared.walked.Walked.TheVariants as walked
use Rattle.posix_defs.specs.DiskContents.{own_name, parent_name}
use Rattle.posix_defs.specs.Tree.{Tree, root, is_directory, parent_at, found}

-- the path begins at the root
abbrev pub is_absolute : List ℕ → Bool
is_absolute path = is_slash (slice_index path 0)

-- a slash stands at the end
abbrev pub ends_in_slash : List ℕ → Bool
ends_in_slash path = is_slash (slice_index path (length path - 1))

-- a directory among what was found: the way goes on there
abbrev pub on_from : Tree → Option ℕ → Result ℕ Errno
on_from tree None = Err ENOENT
on_from tree (Some number) = if is_directory tree number then Ok number else Err ENOTDIR

-- the directory that a component leads to from another, where a further one follows: `.` stays, `..` goes to the parent
abbrev pub step : Tree → ℕ → List ℕ → Result ℕ Errno
step tree dir name =
    if bytes_eq name own_name then Ok dir
    else if bytes_eq name parent_name then Ok (parent_at tree dir)
    else on_from tree (found tree dir name)

-- what the last name of a path leads to: a slash behind it asks for a directory, or for a name that is free
abbrev pub name_leads : Tree → ℕ → List ℕ → Bool → Option ℕ → Walked
name_leads tree dir name slashed None = walked.Free dir name slashed
name_leads tree dir name slashed (Some number) =
    if slashed && not (is_directory tree number) then walked.Fail ENOTDIR else walked.Named dir name number slashed

-- what the last component leads to
abbrev pub last_leads : Tree → ℕ → List ℕ → Bool → Walked
last_leads tree dir name slashed =
    if bytes_eq name own_name then walked.Node dir
    else if bytes_eq name parent_name then walked.Node (parent_at tree dir)
    else name_leads tree dir name slashed (found tree dir name)

-- on with the directory that a component led to, or its fault
abbrev pub go_on : Result ℕ Errno → (ℕ → Walked) → Walked
go_on (Ok to) on = on to
go_on (Err errno) on = walked.Fail errno

-- what components lead to, one after another
abbrev pub leads : Tree → Bool → ℕ → List (List ℕ) → Walked
leads tree slashed dir [] = walked.Node dir
leads tree slashed dir (name ∷ []) = last_leads tree dir name slashed
leads tree slashed dir (name ∷ next ∷ names) = go_on (step tree dir name) (λ to. leads tree slashed to (next ∷ names))

-- where a path begins
abbrev pub begins_at : ℕ → List ℕ → ℕ
begins_at start path = if is_absolute path then root else start

-- what a path leads to from a working directory
abbrev pub resolve : Tree → ℕ → List ℕ → Walked
resolve tree start path = leads tree (ends_in_slash path) (begins_at start path) (components path)

-- where a path leads is there: a directory, a name of a directory with its node, or a free name of one
abbrev pub IsLed : Tree → Walked → Type 0
IsLed tree (walked.Node number) = is_directory tree number ≡ true
IsLed tree (walked.Named parent name number slashed) =
    (is_directory tree parent ≡ true) × (found tree parent name ≡ Some number) × (slashed ≡ true → is_directory tree number ≡ true)
IsLed tree (walked.Free parent name slashed) = (is_directory tree parent ≡ true) × (found tree parent name ≡ None)
IsLed tree (walked.Fail errno) = (errno ≡ ENOENT) ⊎ (errno ≡ ENOTDIR)

-- the last name of a path, where it leads to one
abbrev pub last_name : Walked → Option (List ℕ)
last_name (walked.Node _) = None
last_name (walked.Named _ name _ _) = Some name
last_name (walked.Free _ name _) = Some name
last_name (walked.Fail _) = None
