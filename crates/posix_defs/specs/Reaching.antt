-- What a call has to do with nodes of the tree: which it reaches, which name it leaves in the caches, and which walks read
-- nothing.
use Rattle.std.specs.Prelude.{ℕ, ◌==◌, ◌≡◌, ◌&&◌, ◌||◌, ℤ, not, Bool, true, false, if◌then◌else◌, List, [], ◌∷◌, map, length, Option, None, Some, is_some, is_none}
use Rattle.std.specs.List.{list_any, range_with_len}
use Rattle.std.specs.Option.{option_and_then, option_map_or}
use Rattle.std.specs.Str.{bytes_eq}
use Rattle.kabi_types.specs.Arguments.{argument_fault}
use Rattle.kabi_types.specs.PathParts.{components}
use Rattle.kabi_types.specs.declared.calls.Call.{Call}
use Rattle.kabi_types.specs.declared.calls.Call.TheVariants as call
use Rattle.kabi_types.specs.declared.replies.Reply.{Reply}
use Rattle.kabi_types.specs.declared.replies.Reply.TheVariants as reply
use Rattle.posix_defs.specs.declared.turner.Turned.{Turned}
use Rattle.posix_defs.specs.declared.turner.Turned.TheVariants as turned
use Rattle.posix_defs.specs.declared.walked.Walked.{Walked}
use Rattle.posix_defs.specs.declared.walked.Walked.TheVariants as walked
use Rattle.posix_defs.specs.DiskContents.{own_name, parent_name}
use Rattle.posix_defs.specs.Tree.{Tree, found}
use Rattle.posix_defs.specs.Paths.{begins_at, resolve}
use Rattle.posix_defs.specs.Process.{directory_of}
use Rattle.posix_defs.specs.Plain.{Plain}
use Rattle.posix_defs.specs.Files.Descriptions.{description_at, has_flag, o_creat, o_trunc}
use Rattle.posix_defs.specs.Files.State.{Files, node_of, opened_node, opening_at}
use Rattle.posix_defs.specs.Calls.Opened.{Opened, opened_at}
use Rattle.posix_defs.specs.World.{Kept, is_in}

-- ---- what a call names

-- the paths among its operands
abbrev pub paths_of : Call → List (List ℕ)
paths_of (call.Exec path) = path ∷ []
paths_of (call.OpenFile path flags) = path ∷ []
paths_of (call.Stat path) = path ∷ []
paths_of (call.Chdir path) = path ∷ []
paths_of (call.Mkdir path) = path ∷ []
paths_of (call.Rmdir path) = path ∷ []
paths_of (call.Unlink path) = path ∷ []
paths_of (call.Link old new) = old ∷ new ∷ []
paths_of (call.Rename old new) = old ∷ new ∷ []
paths_of (call.Bind fd path) = path ∷ []
paths_of (call.Connect fd path) = path ∷ []
paths_of (call.Mkfifo path) = path ∷ []
paths_of _ = []

-- the descriptors among its operands
abbrev pub descriptors_in : Call → List ℤ
descriptors_in (call.Close fd) = fd ∷ []
descriptors_in (call.Dup fd) = fd ∷ []
descriptors_in (call.Dup2 fd to) = fd ∷ to ∷ []
descriptors_in (call.Fcntl fd cmd arg) = fd ∷ []
descriptors_in (call.Read fd addr n) = fd ∷ []
descriptors_in (call.Write fd addr n done) = fd ∷ []
descriptors_in (call.Pread fd addr n at) = fd ∷ []
descriptors_in (call.Pwrite fd addr n at) = fd ∷ []
descriptors_in (call.Lseek fd offset whence) = fd ∷ []
descriptors_in (call.Readdir fd addr n) = fd ∷ []
descriptors_in (call.Ftruncate fd length) = fd ∷ []
descriptors_in (call.Fstat fd) = fd ∷ []
descriptors_in (call.Bind fd path) = fd ∷ []
descriptors_in (call.Listen fd) = fd ∷ []
descriptors_in (call.Connect fd path) = fd ∷ []
descriptors_in (call.Accept fd) = fd ∷ []
descriptors_in (call.Shutdown fd how) = fd ∷ []
descriptors_in (call.Setlk fd kind start length) = fd ∷ []
descriptors_in (call.Setlkw fd kind start length) = fd ∷ []
descriptors_in (call.Getlk fd kind start length) = fd ∷ []
descriptors_in (call.Poll timeout entries) = map (λ entry. entry.fd) entries
descriptors_in _ = []

-- ---- which calls reach a node

-- what is open is a node, a FIFO too; false where nothing is open
abbrev pub is_on_node : Files → Option Opened → Bool
is_on_node files None = false
is_on_node files (Some opened) = is_some (node_of files opened.is.target)

-- a process's call names a path, or a descriptor that is open on a node
abbrev pub names_node : Files → ℕ → Call → Bool
names_node files pid call = not (length (paths_of call) == 0) || list_any (λ fd. is_on_node files (opened_at files pid fd)) (descriptors_in call)

-- the description of this place was open on a node, and is there no more
abbrev pub ends_at : Files → Files → ℕ → Bool
ends_at old new place = is_some (opened_node old (description_at old.descriptions place)) && is_none (description_at new.descriptions place)

-- some description of a node has gone
abbrev pub ends_node : Files → Files → Bool
ends_node old new = list_any (ends_at old new) (range_with_len 0 (length old.descriptions))

-- a call without a fault in its operands names a node, or a description of one goes with it
abbrev pub reaches_node : Plain → ℕ → Call → Plain → Bool
reaches_node old pid call new =
    (is_none (argument_fault call) && names_node old.files pid call) || ends_node old.files new.files

-- ---- what is left in the caches

-- the path whose last name a process's call leaves there; an open that has made its end of a FIFO already walks no path
abbrev pub path_to_leave : Plain → ℕ → Call → Option (List ℕ)
path_to_leave plain pid (call.Stat path) = Some path
path_to_leave plain pid (call.OpenFile path flags) = if is_some (opening_at plain.files pid) then None else Some path
path_to_leave plain pid (call.Chdir path) = Some path
path_to_leave plain pid (call.Exec path) = Some path
path_to_leave plain pid (call.Connect fd path) = Some path
path_to_leave plain pid _ = None

-- the last name that a walk leads to, with its directory
abbrev pub last_of : Walked → Option (ℕ × List ℕ)
last_of (walked.Node _) = None
last_of (walked.Named dir name _ _) = Some (dir, name)
last_of (walked.Free dir name _) = Some (dir, name)
last_of (walked.Fail _) = None

-- the name that a process's call leaves there, if it succeeds
abbrev pub name_to_leave : Plain → ℕ → Call → Option (ℕ × List ℕ)
name_to_leave plain pid call =
    option_and_then (λ path. last_of (resolve plain.files.tree (directory_of plain.table pid) path)) (path_to_leave plain pid call)

-- the reply isn't a failure
abbrev pub is_reply : Reply → Bool
is_reply (reply.Fail _) = false
is_reply _ = true

-- the call is over, and has not failed
abbrev pub has_succeeded : Turned → Bool
has_succeeded (turned.Done reply) = is_reply reply
has_succeeded _ = false

-- the name is one of these
abbrev pub has_name : List (ℕ × List ℕ) → ℕ → List ℕ → Bool
has_name names dir name = list_any (λ kept. kept.0 == dir && bytes_eq kept.1 name) names

-- the name is kept, and its node with it
abbrev pub IsLeft : Tree → Kept → Option (ℕ × List ℕ) → Type 0
IsLeft tree kept None = Unit {0}
IsLeft tree kept (Some there) =
    (has_name kept.names there.0 there.1 ≡ true) × ((node : ℕ) → found tree there.0 there.1 ≡ Some node → is_in node kept.vnodes ≡ true)

-- ---- which walks read nothing

-- the path of a call that does no more than walk it: of a stat, of a chdir, of a connect, and of an open that neither makes nor
-- empties a file
abbrev pub path_to_walk : Call → Option (List ℕ)
path_to_walk (call.Stat path) = Some path
path_to_walk (call.Chdir path) = Some path
path_to_walk (call.Connect fd path) = Some path
path_to_walk (call.OpenFile path flags) = if has_flag flags o_creat || has_flag flags o_trunc then None else Some path
path_to_walk _ = None

-- the name leads to a node that is kept, and the way is known from there on
abbrev pub knows_on : Kept → (ℕ → Bool) → Option ℕ → Bool
knows_on kept on None = false
knows_on kept on (Some number) = is_in number kept.vnodes && on number

-- from a directory on no component is `..`, and each one's name and node is kept
abbrev pub knows : Tree → Kept → ℕ → List (List ℕ) → Bool
knows tree kept dir [] = true
knows tree kept dir (name ∷ names) =
    if bytes_eq name own_name then knows tree kept dir names
    else (if bytes_eq name parent_name then false
    else has_name kept.names dir name && knows_on kept (λ number. knows tree kept number names) (found tree dir name))

-- a process's call walks a path of which all that it asks for is kept
abbrev pub knows_way : Plain → Kept → ℕ → Call → Bool
knows_way plain kept pid call =
    option_map_or (λ path. knows plain.files.tree kept (begins_at (directory_of plain.table pid) path) (components path)) (path_to_walk call) false
