-- What the caller of a call on a node is answered, and which files heap, table and tree stand for then.
use Rattle.std.specs.Prelude.{ℕ, ◌≡◌, ℤ, false}
use Rattle.kabi_types.specs.declared.scripts.Script.{Script}
use Rattle.kabi_types.specs.declared.replies.Reply.{Reply}
use Rattle.kheap_slabs.specs.Heap.{Heap}
use Rattle.memfs_ops.specs.FileTree.{TreeView}
use Rattle.open_laws.specs.Placed.{Numbers}
use Rattle.posix_defs.specs.Answer.{Answer, replied}
use Rattle.posix_defs.specs.Calls.Opened.{opened_at}
use Rattle.posix_defs.specs.Files.State.{Files}
use Rattle.posix_defs.specs.Plain.{Plain, with_files}
use Rattle.posix_defs.specs.Reaching.{is_on_node}
use Rattle.proc_table.specs.Table.{TableView}
use Rattle.proc_numbers.specs.Having.{HaveOpen}
use Rattle.proc_files.specs.Holding.{HoldFiles}

-- The machine's answer is this reply; of the machine only files are others, for which heap, table and tree stand.
pub record AnswersHolding (numbers : Numbers) (others : ℕ → ℕ) (h : Heap) (kept : TableView) (fs : TreeView) (script : Script) (plain : Plain) (pid : ℕ)
    (answer : Answer) (reply : Reply) : Type 0 where
  pub files : Files
  pub replies : answer ≡ replied script (with_files plain files) pid reply
  pub holds : HoldFiles numbers others h kept fs files

-- where a number isn't open on a node, the tree of files is as it was
abbrev pub StaysOffNodes : Heap → TableView → ℕ → ℤ → TreeView → TreeView → Type 0
StaysOffNodes h kept pid fd was is =
    (numbers : Numbers) (files : Files) → HaveOpen numbers h kept files → is_on_node files (opened_at files pid fd) ≡ false → is ≡ was
