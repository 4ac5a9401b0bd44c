-- A description of a node or of an end of a FIFO is made, and the place that the machine has for it.
use Rattle.std.specs.Prelude.{ℕ, ◌<◌, ◌≡◌, ℤ, pos, true, false, not, if◌then◌else◌, [], ◌∷◌, ◌++◌, length, None, Some, Result, Ok, Err}
use Rattle.kabi_types.specs.declared.errnos.Errno.{Errno}
use Rattle.kabi_types.specs.declared.replies.Reply.TheVariants.{Val}
use Rattle.kabi_types.specs.declared.scripts.Script.{Script}
use Rattle.kheap_slabs.specs.Objects.{object, put}
use Rattle.kheap_slabs.specs.declared.objects.Access.{Access as HeldAccess}
use Rattle.kheap_slabs.specs.declared.objects.Access.TheVariants as mode
use Rattle.kheap_slabs.specs.declared.objects.Desc.{Desc}
use Rattle.kheap_slabs.specs.declared.objects.Proc.{Proc}
use Rattle.kheap_slabs.specs.declared.objects.Target.{Target}
use Rattle.kheap_slabs.specs.Heap.{Heap}
use Rattle.memfs_ops.specs.FileTree.{Stands, TreeView, one_more}
use Rattle.open_laws.specs.Described.{target_in}
use Rattle.open_laws.specs.Owned.{HasItsOwners}
use Rattle.open_laws.specs.Placed.{Numbers, numbered}
use Rattle.posix_defs.specs.Answer.{Answer, failed, replied}
use Rattle.posix_defs.specs.Calls.OnFiles.{description_on, fifo_waits}
use Rattle.posix_defs.specs.Calls.Writing.{did_part}
use Rattle.posix_defs.specs.Files.Descriptions.{Access, Description, ReadOnly, access_of, has_flag, may_write, o_append, o_nonblock}
use Rattle.posix_defs.specs.Files.State.{Files, with_descriptions, with_opening}
use Rattle.posix_defs.specs.PathCalls.{is_fifo, is_socket}
use Rattle.posix_defs.specs.Pipe.{Pipe, opens_of}
use Rattle.posix_defs.specs.Plain.{Plain, with_files}
use Rattle.posix_defs.specs.Tree.{Tree, is_directory, is_in_use, links_at}
use Rattle.proc_numbers.specs.PipeOpening.{KeepsNumbers}
use Rattle.proc_table.specs.Opening.{half_in}
use Rattle.proc_table.specs.Procs.{proc_of}
use Rattle.proc_table.specs.Table.{TableView, processes}
use Rattle.proc_numbers.specs.Having.{HaveOpen}
use Rattle.proc_files.specs.Holders.{AreOpenNodes, HoldDirectories, holders}
use Rattle.proc_files.specs.Holding.{HoldFiles}
use Rattle.proc_files.specs.declared.opening.Opened.{Opened}
use Rattle.proc_files.specs.declared.opening.Opened.TheVariants as opened

-- ---- a new Desc

-- the access mode that the two lowest bits of the flags of `open` ask for
abbrev pub mode_of : ℤ → HeldAccess
mode_of bits = if has_flag bits 2 then mode.Both else (if has_flag bits 1 then mode.Write else mode.Read)

-- a new Desc of a target, at its beginning, as the flags ask, which one descriptor names
abbrev pub desc_on : Target → ℤ → Desc
desc_on what flags = record {
  target = what;
  offset = 0;
  access = mode_of flags;
  flags = record { append = has_flag flags o_append; nonblock = has_flag flags o_nonblock };
  count = 1;
}

-- the numbers once a Desc is made: its description has the place behind all that were
abbrev pub with_desc : Numbers → Files → ℕ → Numbers
with_desc numbers files key = record numbers { descs = numbered numbers.descs key (length files.descriptions) }

-- one description more, which no descriptor names
abbrev pub described_more : Files → Description → Files
described_more files description = with_descriptions files (files.descriptions ++ Some description ∷ [])

-- The heap has a Desc of a target under a key that was free.
pub record MakesDesc (old new : Heap) (key : ℕ) (what : Target) (flags : ℤ) : Type 0 where
  pub vacant : object old.descs key ≡ None
  pub within : key < length old.descs
  pub kept : new ≡ record old { descs = put old.descs key (desc_on what flags); high = new.high }

-- A Desc of a target is wanting: with it all that is open has its owners, but for the descriptor that will name it.
abbrev pub WantsDesc : Heap → Target → ℤ → Type 0
WantsDesc h what flags = (next : Heap) (key : ℕ) → MakesDesc h next key what flags → HasItsOwners next (key ∷ [])

-- with it heap and table have these files open with a description more, which no descriptor names
abbrev pub HaveWanting : Numbers → Heap → TableView → Files → Target → ℤ → Type 0
HaveWanting numbers h kept files what flags =
    (next : Heap) (key : ℕ) → MakesDesc h next key what flags
    → HaveOpen (with_desc numbers files key) next kept (described_more files (description_on (target_in numbers what) flags))

-- ---- what an open came to

-- the machine's answer, where its files are these but for an open that waits
abbrev pub opened_answer : Script → Plain → Files → ℕ → Result Opened Errno → Answer
opened_answer script plain files pid (Ok (opened.Over fd)) = replied script (with_files plain files) pid (Val (pos fd))
opened_answer script plain files pid (Ok (opened.Waits opening)) = did_part (with_files plain (with_opening files pid (Some (half_in opening)))) pid 1
opened_answer script plain files pid (Err errno) = failed script (with_files plain files) pid errno

-- The machine's answer is what an open came to, and heap, table and tree stand for the files then, where what is new has numbers. Of who
-- waits they don't say yet that it does.
pub record AnswersOpening (numbers : Numbers) (others : ℕ → ℕ) (old new : Heap) (kept : TableView) (fs : TreeView) (script : Script) (plain : Plain) (pid : ℕ)
    (answer : Answer) (came : Result Opened Errno) : Type 0 where
  pub now : Numbers
  pub keeps : KeepsNumbers old numbers now
  pub files : Files
  pub answers : answer ≡ opened_answer script plain files pid came
  pub holds : HoldFiles now others new kept fs files

-- what was opened of a FIFO, by the flags, where this is its pipe: its number is told, or the other side is waited for
abbrev pub end_came : Pipe → ℤ → ℕ → Opened
end_came pipe flags fd =
    if fifo_waits pipe flags then opened.Waits (record { fd = fd; seen = opens_of pipe (not (may_write (access_of flags))) }) else opened.Over fd

-- ---- a node that the tree has led to

-- A node of the next tree may be open for this access, and each node in use is of the kind that it was. A FIFO has a name, is none of
-- those without a number, and the tree is the same.
pub record LeadsTo (tree next : Tree) (node : ℕ) (access : Access) : Type 0 where
  pub used : (number : ℕ) → is_in_use tree number ≡ true → is_in_use next number ≡ true
  pub directories : (number : ℕ) → is_in_use tree number ≡ true → is_directory next number ≡ is_directory tree number
  pub sockets : (number : ℕ) → is_in_use tree number ≡ true → is_socket next number ≡ is_socket tree number
  pub fifos : (number : ℕ) → is_in_use tree number ≡ true → is_fifo next number ≡ is_fifo tree number
  pub there : is_in_use next node ≡ true
  pub unnamed : is_socket next node ≡ false
  pub reads : is_directory next node ≡ true → access ≡ ReadOnly
  pub fifo : is_fifo next node ≡ true → (next ≡ tree) × (0 < links_at tree node) × (0 < node)

-- Heap and table have files open, and the tree stands for the one to which an open has led, in which one more holds the node that it led
-- to.
pub record HasLed (numbers : Numbers) (others : ℕ → ℕ) (h : Heap) (kept : TableView) (fs : TreeView) (files : Files) (next : Tree) (node : ℕ) (flags : ℤ) : Type 0 where
  pub opened : HaveOpen numbers h kept files
  pub nodes : AreOpenNodes files
  pub beside : HoldDirectories others files.tree
  pub leads : LeadsTo files.tree next node (access_of flags)
  pub stands : Stands h fs next (one_more (holders others files) node)

-- they do for some files
pub record HasLedSome (h : Heap) (kept : TableView) (fs : TreeView) (node : ℕ) (flags : ℤ) : Type 0 where
  pub numbers : Numbers
  pub others : ℕ → ℕ
  pub files : Files
  pub next : Tree
  pub led : HasLed numbers others h kept fs files next node flags

-- Heap and table have these files open, where what is new has numbers.
pub record HaveAnew (numbers : Numbers) (old new : Heap) (kept : TableView) (files : Files) : Type 0 where
  pub now : Numbers
  pub keeps : KeepsNumbers old numbers now
  pub have : HaveOpen now new kept files

-- Heap, table and tree stand for some files, in which a process works in a directory.
pub record WorksSomewhere (h : Heap) (kept : TableView) (fs : TreeView) (pid : ℕ) : Type 0 where
  pub numbers : Numbers
  pub others : ℕ → ℕ
  pub files : Files
  pub proc : Proc
  pub hold : HoldFiles numbers others h kept fs files
  pub found : proc_of (processes h kept) pid ≡ Some proc
  pub directory : is_directory files.tree proc.cwd ≡ true
