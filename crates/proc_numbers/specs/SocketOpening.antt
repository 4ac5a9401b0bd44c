-- The places that the machine has for what is new, and what a call that makes something is answered.
use Rattle.std.specs.Prelude.{ℕ, ◌≡◌, ◌+◌, ◌++◌, [], ◌∷◌, length, Option, None, Some, Result, Ok, Err, pos}
use Rattle.kabi_types.specs.declared.scripts.Script.{Script}
use Rattle.kabi_types.specs.declared.errnos.Errno.{Errno}
use Rattle.kabi_types.specs.declared.replies.Reply.TheVariants.{Fail, Val}
use Rattle.kheap_slabs.specs.Objects.{InUse, object}
use Rattle.kheap_slabs.specs.Heap.{Heap}
use Rattle.open_laws.specs.Placed.{Numbers, numbered}
use Rattle.posix_defs.specs.Answer.{Answer, Blocked}
use Rattle.posix_defs.specs.Calls.OnSockets.{description_of}
use Rattle.posix_defs.specs.Files.State.{Files, with_descriptions, with_sockets}
use Rattle.posix_defs.specs.Plain.{Plain}
use Rattle.posix_defs.specs.Sockets.{with_pair}
use Rattle.proc_table.specs.Table.{TableView}
use Rattle.proc_numbers.specs.Having.{HaveOpen}
use Rattle.proc_numbers.specs.PipeOpening.{AnswersAnew, KeepsNumbers}

-- ---- numbers

-- the numbers once a Desc is made: its description has the place behind all that were
abbrev pub with_desc : Numbers → Files → ℕ → Numbers
with_desc numbers files key = record numbers { descs = numbered numbers.descs key (length files.descriptions) }

-- the numbers once a socket is made
abbrev pub with_sock : Numbers → Files → ℕ → Numbers
with_sock numbers files key = record numbers { socks = numbered numbers.socks key (length files.sockets) }

-- the numbers once two are made
abbrev pub with_socks : Numbers → Files → ℕ → ℕ → Numbers
with_socks numbers files one other = record numbers {
  socks = numbered (numbered numbers.socks one (length files.sockets)) other (length files.sockets + 1);
}

-- ---- descriptions

-- one description more, of a socket, which no descriptor names
abbrev pub described_more : Files → ℕ → Files
described_more files place = with_descriptions files (files.descriptions ++ Some (description_of place) ∷ [])

-- A Desc is made, and heap and table have open what these files say, where its description is the last of those.
pub record OpensMore (numbers : Numbers) (old new : Heap) (kept : TableView) (files next : Files) : Type 0 where
  pub key : ℕ
  pub vacant : object old.descs key ≡ None
  pub stands : HaveOpen (with_desc numbers files key) new kept next

-- the files with two new sockets that are each other's peers, and a description of each
abbrev pub with_both : Files → Files
with_both files =
    described_more (described_more (with_sockets files (with_pair files.sockets (length files.sockets) (length files.sockets + 1))) (length files.sockets)) (length files.sockets + 1)

-- Both are made, and heap and table have them open, each description at its place.
pub record OpensBoth (numbers : Numbers) (old new : Heap) (kept : TableView) (files : Files) (one other : ℕ) : Type 0 where
  pub now : Numbers
  pub keeps : KeepsNumbers old numbers now
  pub stands : HaveOpen now new kept (with_both files)
  pub at_one : now.descs one ≡ length files.descriptions
  pub at_other : now.descs other ≡ length files.descriptions + 1

-- ---- answers

-- An accept has this answer of the machine: the number by which a socket was taken, that it would have to wait, or a fault.
abbrev pub Accepts : Numbers → Heap → Heap → TableView → Script → Plain → ℕ → Answer → Result (Option ℕ) Errno → Type 0
Accepts numbers old new kept script plain pid answer (Ok (Some fd)) = AnswersAnew numbers old new kept script plain pid answer (Val (pos fd))
Accepts numbers old new kept script plain pid answer (Ok None) = answer ≡ Blocked
Accepts numbers old new kept script plain pid answer (Err errno) = AnswersAnew numbers old new kept script plain pid answer (Fail errno)

-- this holds unless a socket was taken
abbrev pub UnlessTaken : Result (Option ℕ) Errno → Type 0 → Type 0
UnlessTaken (Ok (Some fd)) Holds = Unit {0}
UnlessTaken (Ok None) Holds = Holds
UnlessTaken (Err errno) Holds = Holds

-- and this where one was
abbrev pub IfTaken : Result (Option ℕ) Errno → Type 0 → Type 0
IfTaken (Ok (Some fd)) Holds = Holds
IfTaken (Ok None) Holds = Unit {0}
IfTaken (Err errno) Holds = Unit {0}

-- each socket that was in use is in use still
abbrev pub StillUsed : Heap → Heap → Type 0
StillUsed old new = (key : ℕ) → InUse old.socks key → InUse new.socks key
