-- What the caller of a call on names of sockets is answered, and which files heap, table, tree and names stand for then.
use Rattle.std.specs.Prelude.{ℕ, ◌≡◌, List, Option}
use Rattle.kabi_types.specs.declared.scripts.Script.{Script}
use Rattle.kabi_types.specs.declared.replies.Reply.{Reply}
use Rattle.kheap_slabs.specs.Heap.{Heap}
use Rattle.lock_table.specs.Chain.{HoldsLocks}
use Rattle.memfs_ops.specs.FileTree.{TreeView}
use Rattle.open_laws.specs.Placed.{Numbers}
use Rattle.posix_defs.specs.Answer.{Answer, replied}
use Rattle.posix_defs.specs.Files.State.{Files}
use Rattle.posix_defs.specs.Plain.{Plain, with_files}
use Rattle.proc_numbers.specs.PipeOpening.{KeepsNumbers}
use Rattle.proc_table.specs.Table.{TableView}
use Rattle.proc_files.specs.NameHolding.{HoldNames}

-- The machine's answer is this reply; of the machine only files are others, for which heap, table, tree and names stand.
pub record AnswersNaming (numbers : Numbers) (others : ℕ → ℕ) (h : Heap) (kept : TableView) (fs : TreeView) (names : List (Option ℕ)) (script : Script) (plain : Plain)
    (pid : ℕ) (answer : Answer) (reply : Reply) : Type 0 where
  pub files : Files
  pub replies : answer ≡ replied script (with_files plain files) pid reply
  pub holds : HoldNames numbers others h kept fs names files

-- The same where locks may have gone: where the chain that began so had those of the machine, the one that begins so now has those of
-- the files.
pub record AnswersClosing (numbers : Numbers) (others : ℕ → ℕ) (old new : Heap) (was now : Option ℕ) (kept : TableView) (fs : TreeView) (names : List (Option ℕ)) (script : Script)
    (plain : Plain) (pid : ℕ) (answer : Answer) (reply : Reply) : Type 0 where
  pub answers : AnswersNaming numbers others new kept fs names script plain pid answer reply
  pub locks : HoldsLocks old.locks was plain.files.locks → HoldsLocks new.locks now answers.files.locks

-- The same where a socket may have been made, which has a number then; what was there keeps the one that it had.
pub record AnswersConnecting (numbers : Numbers) (others : ℕ → ℕ) (old new : Heap) (kept : TableView) (fs : TreeView) (names : List (Option ℕ)) (script : Script) (plain : Plain)
    (pid : ℕ) (answer : Answer) (reply : Reply) : Type 0 where
  pub now : Numbers
  pub keeps : KeepsNumbers old numbers now
  pub answers : AnswersNaming now others new kept fs names script plain pid answer reply

-- of the heap the objects of the three caches, sockets and their bytes alone are others
abbrev pub NamesChange : Heap → Heap → Type 0
NamesChange old new =
    new ≡ record old { vnodes = new.vnodes; names = new.names; blocks = new.blocks; chunks = new.chunks; socks = new.socks; high = new.high }
