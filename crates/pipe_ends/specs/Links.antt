-- How the pipes of FIFOs stand one behind another.
use Rattle.std.specs.Prelude.{◌≡◌, ◌≢◌, ◌⊎◌, ◌-◌, ◌==◌, ◌&&◌, ℕ, Bool, List, Option, None, Some, if◌then◌else◌}
use Rattle.kheap_slabs.specs.Objects.{object, put}
use Rattle.kheap_slabs.specs.declared.objects.Pipe.{Pipe}
use Rattle.kheap_slabs.specs.Heap.{Heap}

-- the node of a FIFO, the key of the next FIFO's pipe, and of each side how many ends there are and how often it was opened
pub record Link : Type 0 where
  pub node : ℕ
  pub next : Option ℕ
  pub readers : ℕ
  pub writers : ℕ
  pub read_opens : ℕ
  pub write_opens : ℕ

-- what a pipe has of that
abbrev pub link_in : Pipe → Link
link_in pipe = record {
  node = pipe.node;
  next = pipe.next;
  readers = pipe.readers;
  writers = pipe.writers;
  read_opens = pipe.read_opens;
  write_opens = pipe.write_opens;
}

-- the same, if it is a FIFO's
abbrev pub link_of : Option Pipe → Option Link
link_of None = None
link_of (Some pipe) = if pipe.node == 0 then None else Some (link_in pipe)

-- the link of a key, if that is the key of a FIFO's pipe
abbrev pub link_at : Heap → ℕ → Option Link
link_at h key = link_of (object h.pipes key)

-- the pipes of FIFOs are those that they were, and stand as they stood
abbrev pub KeepsLinks : Heap → Heap → Type 0
KeepsLinks old new = (key : ℕ) → link_at new key ≡ link_at old key

-- one end of a side is closed
abbrev pub link_less : Bool → Link → Link
link_less writing link = if writing then record link { writers = link.writers - 1 } else record link { readers = link.readers - 1 }

-- with the last end the pipe goes
abbrev pub while_ended : Link → Option Link
while_ended link = if link.readers == 0 && link.writers == 0 then None else Some link

abbrev pub link_closed : Bool → Option Link → Option Link
link_closed writing None = None
link_closed writing (Some link) = while_ended (link_less writing link)

-- One end of a pipe is closed; every other pipe of a FIFO is as it was.
pub record ClosesLink (old new : Heap) (key : ℕ) (writing : Bool) : Type 0 where
  pub here : link_at new key ≡ link_closed writing (link_at old key)
  pub others : (other : ℕ) → other ≢ key → link_at new other ≡ link_at old other

-- One pipe stands before another one, or before none, and nothing else is other than before.
pub record Relinks (old new : Heap) : Type 0 where
  pub key : ℕ
  pub pipe : Pipe
  pub next : Option ℕ
  pub there : object old.pipes key ≡ Some pipe
  pub now : new ≡ record old { pipes = put old.pipes key (record pipe { next = next }) }

-- at most one pipe does
abbrev pub AreRelinked : Heap → Heap → Type 0
AreRelinked old new = (new ≡ old) ⊎ Relinks old new
