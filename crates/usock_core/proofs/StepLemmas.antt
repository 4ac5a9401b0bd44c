-- What each step leaves.
use Rattle.std.proofs.Common.{◌≡◌, ◌≢◌, ℕ, ◌<◌, List, drop, length, None, Some, refl, sym, ap, ◌∙◌, arith}
use Rattle.kheap_slabs.specs.Objects.{object, put, without}
use Rattle.kheap_slabs.specs.declared.objects.Sock.{Sock}
use Rattle.kheap_slabs.specs.declared.objects.QueueParts.{QueueParts}
use Rattle.kheap_slabs.specs.Heap.{Heap}
use Rattle.kheap_slabs.specs.Owners.{OwnsItsObjects}
use Rattle.kheap_slabs.specs.Queues.{empty_queue}
use Rattle.kheap_slabs.proofs.ObjectLemmas.{InUse-within, put-within, length-put, length-without, object-put_other, object-without_other}
use Rattle.kheap_laws.proofs.TableLemmas.{OwnsItsObjects-sock_comes}
use Rattle.posix_defs.specs.QueuePlace.{QueuePlace, after_take, at_front}
use Rattle.posix_defs.specs.Sockets.{socket_at}
use Rattle.chunk_queue.specs.Chained.{place_of, OnlyChunks, Turns as QueueTurns}
use Rattle.chunk_queue.specs.Held.{SockTurns, SockGoes}
use Rattle.chunk_queue.proofs.HeldLemmas.{HasBytes-same, HasBytes-none, sock_turns, sock_goes}
use Rattle.chunk_queue.proofs.StepLemmas.{Turns-none, Turns-as, taken_all}
use Rattle.usock_core.specs.Steps.{Becomes, Comes, Goes, Turns}
use Rattle.usock_core.proofs.StandingLemmas.{table_update, found, kept_through, kept_added}

-- a queue turns in its chunks, and its socket gets it
pub becomes_by : (old mid new : Heap) (key : ℕ) (sock now : Sock) (next : List ℕ → List ℕ) → OwnsItsObjects old → object old.socks key ≡ Some sock → OnlyChunks old mid → QueueTurns old mid sock.queue now.queue next → ((bytes : List ℕ) → sock.queue.len ≡ length bytes → now.queue.len ≡ length (next bytes)) → object new.socks key ≡ Some now → new ≡ record mid { socks = put mid.socks key now } → Becomes old new key now next
becomes_by old mid new key sock now next is there only turns long stored put_in = record {
  owns = turned.owns;
  others = record {
    kept = kept_through old mid new mid.chunks old.socks mid.high (put mid.socks key now) only put_in;
    pipes = turned.pipes;
  };
  stored = stored;
  kept = others;
  table = λ sockets socket table shape bytes.
      let was = found old sockets key sock table there in
      table_update old new key sockets (Some socket) table within lengths (rw stored (record {
        shape = shape;
        bytes = rw bytes (turned.bytes (socket_at sockets key).bytes was.kept.bytes);
        len = long (socket_at sockets key).bytes was.kept.len ∙ ap length (sym bytes);
      })) others turned.socks;
}
  where
    turned : SockTurns old new key sock.queue now.queue next
    turned = sock_turns old mid new key sock now next is there only turns stored put_in

    socks : new.socks ≡ put old.socks key now
    socks = ap (λ (h : Heap). h.socks) put_in ∙ ap (λ (h : Heap). put h.socks key now) only

    within : key < length old.socks
    within = InUse-within old.socks key (rw there refl)

    lengths : length new.socks ≡ length old.socks
    lengths = ap length socks ∙ length-put old.socks key now

    others : (other : ℕ) → other ≢ key → object new.socks other ≡ object old.socks other
    others other differs = ap (λ list. object list other) socks ∙ object-put_other old.socks key other now differs

-- a socket gets another form and keeps its queue
pub becomes_same : (old new : Heap) (key : ℕ) (sock now : Sock) → OwnsItsObjects old → object old.socks key ≡ Some sock → now.queue ≡ sock.queue → object new.socks key ≡ Some now → new ≡ record old { socks = put old.socks key now } → Becomes old new key now (λ bytes. bytes)
becomes_same old new key sock now is there same stored put_in =
    becomes_by old old new key sock now (λ bytes. bytes) is there refl (rw same (Turns-as old old sock.queue sock.queue (drop 0) (λ bytes. bytes) (λ bytes. refl) (Turns-none old sock.queue))) (λ bytes len. ap (λ (q : QueueParts). q.len) same ∙ len) stored put_in

pub comes_by : (old new : Heap) (key : ℕ) (now : Sock) → OwnsItsObjects old → object old.socks key ≡ None → object new.socks key ≡ Some now → now.queue ≡ empty_queue → new ≡ record old { socks = put old.socks key now; high = new.high } → Comes old new key now
comes_by old new key now is vacant stored empty put_in = record {
  owns = OwnsItsObjects-sock_comes old new key now vacant stored empty put_in is;
  others = record {
    kept = kept_added old new (put old.socks key now) put_in;
    pipes = λ other pipe bytes there has. HasBytes-same old new pipe.queue bytes chunks has;
  };
  vacant = vacant;
  within = within;
  stored = stored;
  kept = others;
  table = λ sockets socket table shape bytes.
      table_update old new key sockets (Some socket) table within lengths (rw stored (record {
        shape = shape;
        bytes = rw (empty, bytes) (HasBytes-none new);
        len = ap (λ (q : QueueParts). q.len) empty ∙ ap length (sym bytes);
      })) others (λ other differs sock bytes there has. HasBytes-same old new sock.queue bytes chunks has);
}
  where
    socks : new.socks ≡ put old.socks key now
    socks = ap (λ (h : Heap). h.socks) put_in

    chunks : new.chunks ≡ old.chunks
    chunks = ap (λ (h : Heap). h.chunks) put_in

    within : key < length old.socks
    within = put-within old.socks key now (ap (λ list. object list key) (sym socks) ∙ stored)

    lengths : length new.socks ≡ length old.socks
    lengths = ap length socks ∙ length-put old.socks key now

    others : (other : ℕ) → other ≢ key → object new.socks other ≡ object old.socks other
    others other differs = ap (λ list. object list other) socks ∙ object-put_other old.socks key other now differs

pub goes_by : (old mid new : Heap) (key : ℕ) (sock : Sock) (now : QueueParts) (next : List ℕ → List ℕ) → OwnsItsObjects old → object old.socks key ≡ Some sock → OnlyChunks old mid → QueueTurns old mid sock.queue now next → now.len ≡ 0 → object new.socks key ≡ None → new ≡ record mid { socks = without mid.socks key } → Goes old new key
goes_by old mid new key sock now next is there only turns none gone taken = record {
  owns = goes.owns;
  others = record {
    kept = kept_through old mid new mid.chunks old.socks mid.high (without mid.socks key) only taken;
    pipes = goes.pipes;
  };
  gone = gone;
  kept = others;
  table = λ sockets table. table_update old new key sockets None table within lengths (rw gone tt) others goes.socks;
}
  where
    goes : SockGoes old new key sock.queue
    goes = sock_goes old mid new key sock now next is there only turns none taken

    socks : new.socks ≡ without old.socks key
    socks = ap (λ (h : Heap). h.socks) taken ∙ ap (λ (h : Heap). without h.socks key) only

    within : key < length old.socks
    within = InUse-within old.socks key (rw there refl)

    lengths : length new.socks ≡ length old.socks
    lengths = ap length socks ∙ length-without old.socks key

    others : (other : ℕ) → other ≢ key → object new.socks other ≡ object old.socks other
    others other differs = ap (λ list. object list other) socks ∙ object-without_other old.socks key other differs

-- a queue turns in its chunks, and a socket that had the same one gets it
pub turns_by : (old mid new : Heap) (key : ℕ) (before sock : Sock) (parts : QueueParts) (next : List ℕ → List ℕ) (place : QueuePlace) → OwnsItsObjects old → object old.socks key ≡ Some before → OnlyChunks old mid → QueueTurns old mid before.queue parts next → place_of parts ≡ place → ((bytes : List ℕ) → before.queue.len ≡ length bytes → place.len ≡ length (next bytes)) → object new.socks key ≡ Some (record sock { queue = parts }) → new ≡ record mid { socks = put mid.socks key (record sock { queue = parts }) } → Turns old new key sock next place
turns_by old mid new key before sock parts next place is there only turns place_is long stored put_in = record {
  now = record sock { queue = parts };
  same = refl;
  place_is = place_is;
  becomes = becomes_by old mid new key before (record sock { queue = parts }) next is there only turns (λ bytes len. ap (λ (q : QueuePlace). q.len) place_is ∙ long bytes len) stored put_in;
}

pub all_taken : (parts : QueueParts) → after_take (place_of parts) parts.len ≡ at_front
all_taken parts = taken_all (place_of parts) parts.len (omega arith)
