-- What is asked of a tree of directories on the way along a path.
use Rattle.std.specs.Prelude.{ℕ, Bool, true, if◌then◌else◌, List, [], ◌∷◌, ◌++◌, Option, None, Some, Result, Ok, Err}
use Rattle.std.specs.Str.{bytes_eq}
use Rattle.kabi_types.specs.declared.errnos.Errno.{Errno}
use Rattle.posix_defs.specs.DiskContents.{own_name, parent_name}
use Rattle.posix_defs.specs.Tree.{Tree, found}
use Rattle.kabi_types.specs.PathParts.{components}
use Rattle.posix_defs.specs.Paths.{ends_in_slash, begins_at, step}

-- one question
pub data Query : Type 0 where
  -- the inode of a node
  AskNode : ℕ → Query
  -- the node under a name of a directory
  AskName : ℕ → List ℕ → Query
  -- the parent of a directory
  AskParent : ℕ → Query

-- whether what was found is a directory
abbrev pub asks_kind : Option ℕ → List Query
asks_kind None = []
asks_kind (Some number) = AskNode number ∷ []

-- what one component asks; `kind` where it has to be a directory
abbrev pub component_asks : Tree → ℕ → List ℕ → Bool → List Query
component_asks tree dir name kind =
    if bytes_eq name own_name then []
    else if bytes_eq name parent_name then AskParent dir ∷ []
    else AskName dir name ∷ (if kind then asks_kind (found tree dir name) else [])

-- and what is asked behind it, where the way goes on
abbrev pub then_asks : Result ℕ Errno → (ℕ → List Query) → List Query
then_asks (Ok to) on = on to
then_asks (Err errno) on = []

-- what components ask, one after another
abbrev pub asks : Tree → Bool → ℕ → List (List ℕ) → List Query
asks tree slashed dir [] = []
asks tree slashed dir (name ∷ []) = component_asks tree dir name slashed
asks tree slashed dir (name ∷ next ∷ names) = component_asks tree dir name true ++ then_asks (step tree dir name) (λ to. asks tree slashed to (next ∷ names))

-- what a path asks: each name once, and the kind of what it leads to where that has to be a directory
abbrev pub queries_of : Tree → ℕ → List ℕ → List Query
queries_of tree start path = asks tree (ends_in_slash path) (begins_at start path) (components path)
