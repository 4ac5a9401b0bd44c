-- What a call that reads bytes of a file or a directory leaves cached, and what it reads of the disk.
use Rattle.std.specs.Prelude.{ℕ, ℤ}
use Rattle.kabi_types.specs.Arguments.{count_of}
use Rattle.kabi_types.specs.declared.calls.Call.{Call}
use Rattle.kabi_types.specs.declared.calls.Call.TheVariants as call
use Rattle.kabi_types.specs.declared.replies.Reply.TheVariants as reply
use Rattle.kheap_slabs.specs.declared.objects.Desc.{Desc}
use Rattle.posix_defs.specs.declared.turner.Turned.{Turned}
use Rattle.posix_defs.specs.declared.turner.Turned.TheVariants as turned
use Rattle.proc_files.specs.Reading.{KeepsRead, SavesRead}
use Rattle.store_objects.specs.declared.objects.Objects.{Objects}

-- how many bytes a call told that it read
abbrev pub told_count : Turned → ℕ
told_count (turned.Done (reply.Val count)) = count_of count
told_count _ = 0

-- Where the blocks are cached by which so many bytes are reached of the node that a number is open on, nothing was read; and the
-- block of the last of them is cached now. They begin at a place that the description tells.
pub record AreBytesCached (old : Objects) (pid : ℕ) (fd : ℤ) (at : Desc → ℕ) (count : ℕ) (new : Objects) : Type 0 where
  pub saved : SavesRead old.heap old.procs pid fd old.tree new.tree at count
  pub last : KeepsRead old.heap old.procs pid fd old.tree new.tree at count

-- so it is of each call that reads bytes of a node; of the others nothing is said
abbrev pub ReadsCached : Objects → ℕ → Call → Turned → Objects → Type 0
ReadsCached old pid (call.Read fd addr n) told new = AreBytesCached old pid fd (λ desc. desc.offset) (told_count told) new
ReadsCached old pid (call.Pread fd addr n at) told new = AreBytesCached old pid fd (λ desc. count_of at) (told_count told) new
ReadsCached old pid (call.Readdir fd addr n) told new = AreBytesCached old pid fd (λ desc. desc.offset) (told_count told) new
ReadsCached old pid _ told new = Unit {0}
