-- What the plain machine knows of files: what each process has open and in which open of a FIFO it sleeps, and what there is of
-- descriptions, pipes, sockets, locks and the tree. Each part changes by one named update.
use Rattle.std.specs.Prelude.{ℕ, ◌==◌, Bool, false, List, [], ◌∷◌, ◌++◌, length, Option, None, Some, unwrap_or, slice_index_or, slice_set}
use Rattle.std.specs.List.{list_any}
use Rattle.std.specs.Option.{option_and_then}
use Rattle.posix_defs.specs.ByPid.{at_pid, with_pid}
use Rattle.posix_defs.specs.Locks.{Locks, without}
use Rattle.posix_defs.specs.Pipe.{Pipe, fifo_of, new_pipe}
use Rattle.posix_defs.specs.Sockets.{Sockets}
use Rattle.posix_defs.specs.Tree.{Tree, new_tree}
use Rattle.posix_defs.specs.Files.Descriptors.{Descriptor, Descriptors, none_open, with_descriptor}
use Rattle.posix_defs.specs.Files.Descriptions.{Target, OnNode, OnPipe, OnSocket, Description, Descriptions, with_description}

-- An open of a FIFO that has made its end, and waits for the other side: the descriptor that it will tell, and how often the other
-- side had been opened by then.
pub record HalfOpen : Type 0 where
  pub fd : ℕ
  pub seen : ℕ

-- What each process has open, and what there is of descriptions, the tree, pipes, sockets and locks.
pub record Files : Type 0 where
  -- of each process ever made; one that has ended has none open
  pub descriptors : List Descriptors
  -- of each process ever made the open of a FIFO that waits, if it sleeps in one
  pub openings : List (Option HalfOpen)
  pub descriptions : Descriptions
  pub tree : Tree
  -- every pipe that was made, by its place; none once all its ends are closed
  pub pipes : List (Option Pipe)
  pub sockets : Sockets
  pub locks : Locks

-- ---- one part

-- the files with other descriptors
abbrev pub with_descriptors : Files → List Descriptors → Files
with_descriptors files descriptors = record files { descriptors = descriptors }

-- the files with other opens of FIFOs that wait
abbrev pub with_openings : Files → List (Option HalfOpen) → Files
with_openings files openings = record files { openings = openings }

-- the files with other descriptions
abbrev pub with_descriptions : Files → Descriptions → Files
with_descriptions files descriptions = record files { descriptions = descriptions }

-- the files with another tree
abbrev pub with_tree : Files → Tree → Files
with_tree files tree = record files { tree = tree }

-- the files with other pipes
abbrev pub with_pipes : Files → List (Option Pipe) → Files
with_pipes files pipes = record files { pipes = pipes }

-- the files with other sockets
abbrev pub with_sockets : Files → Sockets → Files
with_sockets files sockets = record files { sockets = sockets }

-- the files with other locks
abbrev pub with_locks : Files → Locks → Files
with_locks files locks = record files { locks = locks }

-- ---- descriptors

-- the descriptors of a process
abbrev pub descriptors_of : Files → ℕ → Descriptors
descriptors_of files pid = unwrap_or (at_pid files.descriptors pid) none_open

-- a process has another descriptor, or none, at a number
abbrev pub with_open : Files → ℕ → ℕ → Option Descriptor → Files
with_open files pid fd descriptor =
    with_descriptors files (with_pid files.descriptors pid (with_descriptor (descriptors_of files pid) fd descriptor))

-- ---- descriptions

-- the description of a place becomes another
abbrev pub described_as : Files → ℕ → Description → Files
described_as files place description = with_descriptions files (with_description files.descriptions place (Some description))

-- a new description, named by a descriptor of a process
abbrev pub opened_as : Files → ℕ → ℕ → Bool → Description → Files
opened_as files pid fd cloexec description =
    with_descriptions (with_open files pid fd (Some (record { description = length files.descriptions; cloexec = cloexec })))
    (files.descriptions ++ Some description ∷ [])

-- the pipe of a place, if it is there
abbrev pub pipe_there : Files → ℕ → Option Pipe
pipe_there files place = slice_index_or files.pipes place None

-- the node of what a description is open on, if it has one; an end of a FIFO's pipe has that of the FIFO
abbrev pub node_of : Files → Target → Option ℕ
node_of files (OnNode number) = Some number
node_of files (OnPipe place) = option_and_then fifo_of (pipe_there files place)
node_of files (OnSocket place) = None

-- the node that a description opens
abbrev pub opened_node : Files → Option Description → Option ℕ
opened_node files None = None
opened_node files (Some description) = node_of files description.target

-- the node of a file or a directory that a description is open on; none of a pipe's end and of a socket
abbrev pub file_of_target : Target → Option ℕ
file_of_target (OnNode number) = Some number
file_of_target (OnPipe place) = None
file_of_target (OnSocket place) = None

-- the same of a description that may be there
abbrev pub opened_file : Option Description → Option ℕ
opened_file None = None
opened_file (Some description) = file_of_target description.target

-- there is a number, and it is this one
abbrev pub is_number : ℕ → Option ℕ → Bool
is_number number None = false
is_number number (Some other) = other == number

-- some description opens this node
abbrev pub opens : Files → ℕ → Bool
opens files number = list_any (λ description. is_number number (opened_node files description)) files.descriptions

-- these numbers, and before them one more, if there is one
abbrev pub beside : Option ℕ → List ℕ → List ℕ
beside None numbers = numbers
beside (Some number) numbers = number ∷ numbers

-- the nodes that these descriptions open, each as often as it is opened
abbrev pub nodes_among : Files → Descriptions → List ℕ
nodes_among files [] = []
nodes_among files (description ∷ descriptions) = beside (opened_node files description) (nodes_among files descriptions)

-- the nodes that descriptions open, as often as they are opened
abbrev pub opened_nodes : Files → List ℕ
opened_nodes files = nodes_among files files.descriptions

-- ---- pipes

-- the pipe of a place where one is
abbrev pub pipe_at : Files → ℕ → Pipe
pipe_at files place = unwrap_or (pipe_there files place) new_pipe

-- the pipe of a place becomes another, or goes
abbrev pub with_pipe : Files → ℕ → Option Pipe → Files
with_pipe files place pipe = with_pipes files (slice_set files.pipes place pipe)

-- ---- opens of FIFOs that wait

-- the open of a FIFO that a process sleeps in, if it sleeps in one
abbrev pub opening_at : Files → ℕ → Option HalfOpen
opening_at files pid = unwrap_or (at_pid files.openings pid) None

-- a process sleeps in such an open, or in none
abbrev pub with_opening : Files → ℕ → Option HalfOpen → Files
with_opening files pid opening = with_openings files (with_pid files.openings pid opening)

-- ---- record locks

-- the locks without those of a process of a file, if it is one
abbrev pub let_go : Locks → ℕ → Option ℕ → Locks
let_go locks pid None = locks
let_go locks pid (Some number) = without locks pid number

-- ---- at the beginning

-- the first process has nothing open, nobody holds a lock, and the tree is that of a new disk
abbrev pub boot_files : ℕ → Files
boot_files blocks =
    record { descriptors = none_open ∷ []; openings = None ∷ []; descriptions = []; tree = new_tree blocks; pipes = []; sockets = []; locks = [] }

-- a child has open what its parent has open; the descriptions are the same ones, it sleeps in no open and holds no lock
abbrev pub with_heir : Files → ℕ → Files
with_heir files parent =
    with_openings (with_descriptors files (files.descriptors ++ descriptors_of files parent ∷ [])) (files.openings ++ None ∷ [])
