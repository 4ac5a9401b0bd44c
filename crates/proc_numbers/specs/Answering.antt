-- What the caller of a call on descriptors is answered, and which machine heap and table stand for then.
use Rattle.std.specs.Prelude.{ℕ, ◌≡◌, ◌==◌, ℤ, pos, Bool, if◌then◌else◌, Option, None, Result, Ok, Err}
use Rattle.kabi_types.specs.Arguments.{count_of}
use Rattle.kabi_types.specs.declared.errnos.Errno.{Errno}
use Rattle.kabi_types.specs.declared.replies.Reply.{Reply}
use Rattle.kabi_types.specs.declared.replies.StatInfo.{StatInfo}
use Rattle.kabi_types.specs.declared.replies.Reply.TheVariants.{Fail, Pair, Stat, Val}
use Rattle.kabi_types.specs.declared.scripts.Script.{Script}
use Rattle.kheap_slabs.specs.Heap.{Heap}
use Rattle.open_laws.specs.Placed.{Numbers}
use Rattle.posix_defs.specs.Answer.{Answer, replied}
use Rattle.posix_defs.specs.Files.Descriptions.{Description}
use Rattle.posix_defs.specs.Files.State.{Files}
use Rattle.posix_defs.specs.Plain.{Plain, with_files}
use Rattle.proc_table.specs.Table.{TableView}
use Rattle.proc_numbers.specs.Having.{HaveOpen, node_closed}
use Rattle.proc_numbers.specs.Naming.{named_at}

-- The machine's answer is this reply; of the machine only files are others, and heap and table have open what it says then.
pub record Answers (numbers : Numbers) (h : Heap) (kept : TableView) (script : Script) (plain : Plain) (pid : ℕ) (answer : Answer) (reply : Reply) : Type 0 where
  pub files : Files
  pub replies : answer ≡ replied script (with_files plain files) pid reply
  pub stands : HaveOpen numbers h kept files

-- ---- replies

-- a value, or an error
abbrev pub value_of : Result ℕ Errno → Reply
value_of (Ok value) = Val (pos value)
value_of (Err errno) = Fail errno

-- 0, or an error
abbrev pub zero_of : {X : Type 0} → Result X Errno → Reply
zero_of (Ok done) = Val (pos 0)
zero_of (Err errno) = Fail errno

-- two values, or an error
abbrev pub pair_of : Result (ℕ × ℕ) Errno → Reply
pair_of (Ok made) = Pair made.0 made.1
pair_of (Err errno) = Fail errno

-- what a description is open on, or an error
abbrev pub stat_of : Result StatInfo Errno → Reply
stat_of (Ok info) = Stat info
stat_of (Err errno) = Fail errno

-- ---- nodes

-- the node whose pin is to be dropped where a number names the description of another: that of the description that goes
abbrev pub node_replaced : Heap → TableView → ℕ → ℤ → ℤ → Option ℕ
node_replaced h kept pid fd to =
    if count_of fd == count_of to then None else node_closed h (named_at h kept pid (count_of to))

-- ---- flags

-- the same description with other flags
abbrev pub with_flags : Description → Bool → Bool → Description
with_flags description append nonblock = record description { append = append; nonblock = nonblock }
