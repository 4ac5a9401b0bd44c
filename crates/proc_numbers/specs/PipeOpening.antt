-- A new pipe, and the places that the machine has for what is new.
use Rattle.std.specs.Prelude.{ℕ, ◌≡◌, ◌≢◌, ◌+◌, ◌<◌, false, IsSome, [], length, None}
use Rattle.kabi_types.specs.declared.scripts.Script.{Script}
use Rattle.kabi_types.specs.declared.replies.Reply.{Reply}
use Rattle.kheap_slabs.specs.Objects.{InUse, object, put}
use Rattle.kheap_slabs.specs.declared.objects.Access.{Access}
use Rattle.kheap_slabs.specs.declared.objects.Access.TheVariants as mode
use Rattle.kheap_slabs.specs.declared.objects.Desc.{Desc}
use Rattle.kheap_slabs.specs.declared.objects.Target.TheVariants as target
use Rattle.kheap_slabs.specs.Heap.{Heap}
use Rattle.kheap_slabs.specs.Owners.{OwnsItsObjects}
use Rattle.pipe_ends.specs.Standing.{StandsFor}
use Rattle.open_laws.specs.Placed.{Numbers, numbered}
use Rattle.posix_defs.specs.Answer.{Answer}
use Rattle.posix_defs.specs.Files.State.{Files}
use Rattle.posix_defs.specs.Pipe.{new_pipe}
use Rattle.posix_defs.specs.Plain.{Plain}
use Rattle.open_laws.specs.Owned.{HasItsOwners}
use Rattle.proc_table.specs.Table.{TableView, key_of}
use Rattle.proc_numbers.specs.Having.{AreListed}
use Rattle.proc_numbers.specs.Answering.{Answers}

-- a new description of an end of a pipe, which one descriptor names
abbrev pub end_of : ℕ → Access → Desc
end_of pipe access = record {
  target = target.Pipe pipe;
  offset = 0;
  access = access;
  flags = record { append = false; nonblock = false };
  count = 1;
}

-- A pipe is made, with a Desc for each of its ends; every other object is as before.
pub record PipeOpens (old new : Heap) (pipe reading writing : ℕ) : Type 0 where
  pub vacant : object old.pipes pipe ≡ None
  pub stands : StandsFor new pipe new_pipe 0
  pub pipes : (other : ℕ) → other ≢ pipe → object new.pipes other ≡ object old.pipes other
  pub free : object old.descs reading ≡ None
  pub also_free : object (put old.descs reading (end_of pipe mode.Read)) writing ≡ None
  pub within : reading < length old.descs
  pub also_within : writing < length old.descs
  pub descs : new.descs ≡ put (put old.descs reading (end_of pipe mode.Read)) writing (end_of pipe mode.Write)
  pub objects : OwnsItsObjects new
  pub beside : new ≡ record old { descs = new.descs; pipes = new.pipes; high = new.high }

-- the numbers once they are made: what is new has the places behind all that were
abbrev pub with_ends : Numbers → Files → ℕ → ℕ → ℕ → Numbers
with_ends numbers files pipe reading writing = record numbers {
  descs = numbered (numbered numbers.descs reading (length files.descriptions)) writing (length files.descriptions + 1);
  pipes = numbered numbers.pipes pipe (length files.pipes);
}

-- Each object that was in use has the number that it had.
pub record KeepsNumbers (old : Heap) (before after : Numbers) : Type 0 where
  pub descs : (key : ℕ) → InUse old.descs key → after.descs key ≡ before.descs key
  pub pipes : (key : ℕ) → InUse old.pipes key → after.pipes key ≡ before.pipes key
  pub socks : (key : ℕ) → InUse old.socks key → after.socks key ≡ before.socks key
  pub frames : after.frames ≡ before.frames

-- The machine's answer is this reply, and heap and table have open what it says then, where what is new has numbers.
pub record AnswersAnew (numbers : Numbers) (old new : Heap) (kept : TableView) (script : Script) (plain : Plain) (pid : ℕ) (answer : Answer) (reply : Reply) : Type 0 where
  pub now : Numbers
  pub keeps : KeepsNumbers old numbers now
  pub answers : Answers now new kept script plain pid answer reply

-- A process is there, whose calls on descriptors may be made: the table's processes stand in it, and what is open has its owners.
pub record CanOpen (h : Heap) (kept : TableView) (pid : ℕ) : Type 0 where
  pub listed : AreListed h kept
  pub owners : HasItsOwners h []
  pub there : IsSome (key_of kept.listed pid)
