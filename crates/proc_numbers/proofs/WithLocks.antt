-- Locks are beside what is open: whichever there are, what is open is the same.
use Rattle.std.proofs.Common.{◌≡◌, ℕ, Option, None, Some, refl}
use Rattle.kheap_slabs.specs.Heap.{Heap}
use Rattle.open_laws.specs.Placed.{Numbers}
use Rattle.posix_defs.specs.Files.Closing.{after_close, close_in}
use Rattle.posix_defs.specs.Files.Descriptors.{Descriptor, descriptor_at}
use Rattle.posix_defs.specs.Files.State.{Files, descriptors_of, with_locks}
use Rattle.posix_defs.specs.Locks.{Locks}
use Rattle.proc_table.specs.Table.{TableView}
use Rattle.proc_numbers.specs.Closed.{locks_left, locks_without, without_in, without_number}
use Rattle.proc_numbers.specs.Having.{HaveOpen}

-- a close is what it leaves of what is open, with the locks that stay
pub close_is : (files : Files) (pid fd : ℕ) → after_close files pid fd ≡ with_locks (without_number files pid fd) (locks_left files pid fd)
close_is files pid fd = by_descriptor (descriptor_at (descriptors_of files pid) fd)
  where
    by_descriptor : (o : Option Descriptor) → close_in files pid fd o ≡ with_locks (without_in files pid fd o) (locks_without files pid o)
    by_descriptor None = refl
    by_descriptor (Some descriptor) = refl

pub have_locked : (numbers : Numbers) (h : Heap) (kept : TableView) (files : Files) (locks : Locks) → HaveOpen numbers h kept files → HaveOpen numbers h kept (with_locks files locks)
have_locked numbers h kept files locks have = record {
  list = have.list;
  opened = record {
    described = have.opened.described;
    descriptions = have.opened.descriptions;
    piped = have.opened.piped;
    socketed = have.opened.socketed;
  };
  descriptors = record {
    each = have.descriptors.each;
    made = have.descriptors.made;
    openings = have.descriptors.openings;
  };
}
