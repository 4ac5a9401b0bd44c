-- The owners of a heap after one process, pipe or socket is put in or taken out.
use Rattle.std.proofs.Common.{◌≡◌, ℕ, zero, suc, List, [], ◌∷◌, ◌++◌, Option, Some, None, map, refl, sym, ap, ◌∙◌, append_assoc}
use Rattle.std.proofs.lemmas.List.{set-set, set-get_or, map-append}
use Rattle.kheap_slabs.specs.Objects.{object, put, without}
use Rattle.kheap_slabs.specs.declared.objects.Pipe.{Pipe}
use Rattle.kheap_slabs.specs.declared.objects.Proc.{Proc}
use Rattle.kheap_slabs.specs.declared.objects.QueueParts.{QueueParts}
use Rattle.kheap_slabs.specs.declared.objects.Sock.{Sock}
use Rattle.kheap_slabs.specs.Heap.{Heap}
use Rattle.kheap_slabs.specs.Keys.{Splits}
use Rattle.kheap_slabs.specs.Queues.{OwnedQueue, empty_queue, fresh_queue}
use Rattle.kheap_slabs.specs.Owners.{Owners, each_of, AreOwnersOf, SameOwners, HasSpaceOut, HasQueueOut, OwnsItsObjects, spaces_of, pipe_queues, sock_queues}
use Rattle.kheap_slabs.specs.Spaces.{keys_in}
use Rattle.kheap_laws.proofs.OwnerLemmas.{IsOwned-space_to_front, IsOwned-space_from_front, IsOwned-queue_to_front, IsOwned-queue_from_front, IsOwned-space_joins, IsOwned-space_leaves, IsOwned-queue_joins, IsOwned-queue_leaves, IsOwned-same}

module _ {X : Type 0} where
  -- what is put and taken out again leaves nothing
  pub without-put : (objects : List (Option X)) (key : ℕ) (value : X) → without (put objects key value) key ≡ without objects key
  without-put objects key value = set-set objects key (Some value) None

  pub put-put : (objects : List (Option X)) (key : ℕ) (first second : X) → put (put objects key first) key second ≡ put objects key second
  put-put objects key first second = set-set objects key (Some first) (Some second)

  -- where nothing is, nothing is taken out
  pub without-vacant : (objects : List (Option X)) (key : ℕ) → object objects key ≡ None → without objects key ≡ objects
  without-vacant objects key vacant = rw vacant at (set-get_or objects key None)

  module _ {Y : Type 0} where
    -- what one object has stands among what all have, and the others keep their order
    pub each_of-splits : (f : X → Y) (objects : List (Option X)) (key : ℕ) (value : X) → object objects key ≡ Some value → Splits (each_of f objects) (f value) (each_of f (without objects key))
    each_of-splits f [] key value is = absurd (cc)
    each_of-splits f (None ∷ rest) zero value is = absurd (cc)
    each_of-splits f (Some x ∷ rest) zero value is = record { before = []; after = each_of f rest; whole_is = cc; rest_is = refl }
    each_of-splits f (None ∷ rest) (suc key) value is = each_of-splits f rest key value is
    each_of-splits f (Some x ∷ rest) (suc key) value is =
        let behind = each_of-splits f rest key value is in
        record { before = f x ∷ behind.before; after = behind.after; whole_is = ap (λ items. f x ∷ items) behind.whole_is; rest_is = ap (λ items. f x ∷ items) behind.rest_is }

    -- what all have is the same where one object becomes another that has the same
    pub each_of-put : (f : X → Y) (objects : List (Option X)) (key : ℕ) (was now : X) → object objects key ≡ Some was → f now ≡ f was → each_of f (put objects key now) ≡ each_of f objects
    each_of-put f [] key was now is same = absurd (cc)
    each_of-put f (None ∷ rest) zero was now is same = absurd (cc)
    each_of-put f (Some x ∷ rest) zero was now is same = let one : x ≡ was = cc in ap (λ first. first ∷ each_of f rest) (same ∙ ap f (sym one))
    each_of-put f (None ∷ rest) (suc key) was now is same = each_of-put f rest key was now is same
    each_of-put f (Some x ∷ rest) (suc key) was now is same = ap (λ items. f x ∷ items) (each_of-put f rest key was now is same)

  -- what maps to two parts is in two parts
  record Parts {Y : Type 0} (f : X → Y) (items : List X) (front back : List Y) : Type 0 where
    first : List X
    second : List X
    is : items ≡ first ++ second
    first_is : map f first ≡ front
    second_is : map f second ≡ back

  map-parts : {Y : Type 0} (f : X → Y) (items : List X) (front back : List Y) → map f items ≡ front ++ back → Parts f items front back
  map-parts f items [] back is = record { first = []; second = items; is = refl; first_is = refl; second_is = is }
  map-parts f [] (y ∷ front) back is = absurd (cc)
  map-parts f (x ∷ items) (y ∷ front) back is =
      let rest = map-parts f items front back (cc) in
      record { first = x ∷ rest.first; second = rest.second; is = ap (λ xs. x ∷ xs) rest.is; first_is = let e = rest.first_is in cc; second_is = rest.second_is }

-- one owner moves to the front of the others
pub SameOwners-spaces : (owners : Owners) (space : List (Option ℕ)) (rest : List (List (Option ℕ))) → Splits owners.spaces space rest → SameOwners owners (record owners { spaces = space ∷ rest })
SameOwners-spaces owners space rest split = record {
  there = λ h owned. IsOwned-space_to_front h owners space rest split owned;
  back = λ h owned. IsOwned-space_from_front h owners space rest split owned;
}

pub SameOwners-queues : (owners : Owners) (queue : OwnedQueue) (rest : List OwnedQueue) → Splits owners.queues queue rest → SameOwners owners (record owners { queues = queue ∷ rest })
SameOwners-queues owners queue rest split = record {
  there = λ h owned. IsOwned-queue_to_front h owners queue rest split owned;
  back = λ h owned. IsOwned-queue_from_front h owners queue rest split owned;
}

-- a process's space is taken out of the owners of the heap, and put back among them
pub AreOwnersOf-proc_out : (h : Heap) (owners : Owners) (key : ℕ) (process : Proc) → object h.procs key ≡ Some process → AreOwnersOf h owners → (rest : Owners) × HasSpaceOut h (record h { procs = without h.procs key }) owners process.nodes rest
AreOwnersOf-proc_out h owners key process is are = (
  record owners { spaces = spaces_of (without h.procs key) },
  record {
    owners_are = are;
    rest_are = record { spaces = refl; queues = are.queues };
    same = SameOwners-spaces owners process.nodes (spaces_of (without h.procs key)) (rw are.spaces (each_of-splits (λ (p : Proc). p.nodes) h.procs key process is));
  },
)

pub AreOwnersOf-proc_back : (h : Heap) (rest : Owners) (key : ℕ) (process : Proc) → object h.procs key ≡ Some process → AreOwnersOf (record h { procs = without h.procs key }) rest → (owners : Owners) × HasSpaceOut h (record h { procs = without h.procs key }) owners process.nodes rest
AreOwnersOf-proc_back h rest key process is are = (
  record rest { spaces = spaces_of h.procs },
  record {
    owners_are = record { spaces = refl; queues = are.queues };
    rest_are = are;
    same = SameOwners-spaces (record rest { spaces = spaces_of h.procs }) process.nodes rest.spaces (rw are.spaces (each_of-splits (λ (p : Proc). p.nodes) h.procs key process is));
  },
)

-- queues whose parts stand among others split in the same way
record QueuesSplit (queues : List OwnedQueue) (parts : QueueParts) (others : List QueueParts) : Type 0 where
  queue : OwnedQueue
  rest : List OwnedQueue
  parts_are : queue.parts ≡ parts
  rest_are : map (λ (one : OwnedQueue). one.parts) rest ≡ others
  split : Splits queues queue rest

queues-split : (queues : List OwnedQueue) (parts : QueueParts) (all others : List QueueParts) → map (λ (one : OwnedQueue). one.parts) queues ≡ all → Splits all parts others → QueuesSplit queues parts others
queues-split queues parts all others are split = from_parts (map-parts (λ (one : OwnedQueue). one.parts) queues split.before (parts ∷ split.after) (are ∙ split.whole_is))
  where
    at : (first second : List OwnedQueue) → queues ≡ first ++ second → map (λ (one : OwnedQueue). one.parts) first ≡ split.before → map (λ (one : OwnedQueue). one.parts) second ≡ parts ∷ split.after → QueuesSplit queues parts others
    at first [] is front back = absurd (cc)
    at first (queue ∷ second) is front back = record {
      queue = queue;
      rest = first ++ second;
      parts_are = cc;
      rest_are = let tail : map (λ (one : OwnedQueue). one.parts) second ≡ split.after = cc in map-append (λ (one : OwnedQueue). one.parts) first second ∙ rw (front, tail) (sym split.rest_is);
      split = record { before = first; after = second; whole_is = is; rest_is = refl };
    }

    from_parts : Parts (λ (one : OwnedQueue). one.parts) queues split.before (parts ∷ split.after) → QueuesSplit queues parts others
    from_parts found = at found.first found.second found.is found.first_is found.second_is

-- a queue is put among others where its parts stand
record QueuesJoin (queue : OwnedQueue) (rest : List OwnedQueue) (all : List QueueParts) : Type 0 where
  queues : List OwnedQueue
  are : map (λ (one : OwnedQueue). one.parts) queues ≡ all
  split : Splits queues queue rest

queues-join : (queue : OwnedQueue) (rest : List OwnedQueue) (all others : List QueueParts) → map (λ (one : OwnedQueue). one.parts) rest ≡ others → Splits all queue.parts others → QueuesJoin queue rest all
queues-join queue rest all others are split = from_parts (map-parts (λ (one : OwnedQueue). one.parts) rest split.before split.after (are ∙ split.rest_is))
  where
    from_parts : Parts (λ (one : OwnedQueue). one.parts) rest split.before split.after → QueuesJoin queue rest all
    from_parts found = record {
      queues = found.first ++ queue ∷ found.second;
      are = map-append (λ (one : OwnedQueue). one.parts) found.first (queue ∷ found.second) ∙ rw (found.first_is, found.second_is) (sym split.whole_is);
      split = record { before = found.first; after = found.second; whole_is = refl; rest_is = found.is };
    }

-- the queue of a pipe, or of a socket, among all queues of a heap
pipe-splits : (h : Heap) (key : ℕ) (pipe : Pipe) → object h.pipes key ≡ Some pipe → Splits (pipe_queues h.pipes ++ sock_queues h.socks) pipe.queue (pipe_queues (without h.pipes key) ++ sock_queues h.socks)
pipe-splits h key pipe is =
    let split = each_of-splits (λ (p : Pipe). p.queue) h.pipes key pipe is in
    record {
      before = split.before;
      after = split.after ++ sock_queues h.socks;
      whole_is = ap (λ items. items ++ sock_queues h.socks) split.whole_is ∙ append_assoc split.before (pipe.queue ∷ split.after) (sock_queues h.socks);
      rest_is = ap (λ items. items ++ sock_queues h.socks) split.rest_is ∙ append_assoc split.before split.after (sock_queues h.socks);
    }

sock-splits : (h : Heap) (key : ℕ) (sock : Sock) → object h.socks key ≡ Some sock → Splits (pipe_queues h.pipes ++ sock_queues h.socks) sock.queue (pipe_queues h.pipes ++ sock_queues (without h.socks key))
sock-splits h key sock is =
    let split = each_of-splits (λ (s : Sock). s.queue) h.socks key sock is in
    record {
      before = pipe_queues h.pipes ++ split.before;
      after = split.after;
      whole_is = ap (λ items. pipe_queues h.pipes ++ items) split.whole_is ∙ sym (append_assoc (pipe_queues h.pipes) split.before (sock.queue ∷ split.after));
      rest_is = ap (λ items. pipe_queues h.pipes ++ items) split.rest_is ∙ sym (append_assoc (pipe_queues h.pipes) split.before split.after);
    }

-- a pipe's queue is taken out of the owners of the heap, and put back among them
pub AreOwnersOf-pipe_out : (h : Heap) (owners : Owners) (key : ℕ) (pipe : Pipe) → object h.pipes key ≡ Some pipe → AreOwnersOf h owners → (queue : OwnedQueue) × (rest : Owners) × (queue.parts ≡ pipe.queue) × HasQueueOut h (record h { pipes = without h.pipes key }) owners queue rest
AreOwnersOf-pipe_out h owners key pipe is are =
    let found = queues-split owners.queues pipe.queue _ _ are.queues (pipe-splits h key pipe is) in (
      found.queue,
      record owners { queues = found.rest },
      found.parts_are,
      record {
        owners_are = are;
        rest_are = record { spaces = are.spaces; queues = found.rest_are };
        same = SameOwners-queues owners found.queue found.rest found.split;
      },
    )

pub AreOwnersOf-pipe_back : (h : Heap) (rest : Owners) (key : ℕ) (pipe : Pipe) (queue : OwnedQueue) → object h.pipes key ≡ Some pipe → queue.parts ≡ pipe.queue → AreOwnersOf (record h { pipes = without h.pipes key }) rest → (owners : Owners) × HasQueueOut h (record h { pipes = without h.pipes key }) owners queue rest
AreOwnersOf-pipe_back h rest key pipe queue is parts are =
    let found = queues-join queue rest.queues _ _ are.queues (rw parts (pipe-splits h key pipe is)) in (
      record rest { queues = found.queues },
      record {
        owners_are = record { spaces = are.spaces; queues = found.are };
        rest_are = are;
        same = SameOwners-queues (record rest { queues = found.queues }) queue rest.queues found.split;
      },
    )

-- and a socket's
pub AreOwnersOf-sock_out : (h : Heap) (owners : Owners) (key : ℕ) (sock : Sock) → object h.socks key ≡ Some sock → AreOwnersOf h owners → (queue : OwnedQueue) × (rest : Owners) × (queue.parts ≡ sock.queue) × HasQueueOut h (record h { socks = without h.socks key }) owners queue rest
AreOwnersOf-sock_out h owners key sock is are =
    let found = queues-split owners.queues sock.queue _ _ are.queues (sock-splits h key sock is) in (
      found.queue,
      record owners { queues = found.rest },
      found.parts_are,
      record {
        owners_are = are;
        rest_are = record { spaces = are.spaces; queues = found.rest_are };
        same = SameOwners-queues owners found.queue found.rest found.split;
      },
    )

pub AreOwnersOf-sock_back : (h : Heap) (rest : Owners) (key : ℕ) (sock : Sock) (queue : OwnedQueue) → object h.socks key ≡ Some sock → queue.parts ≡ sock.queue → AreOwnersOf (record h { socks = without h.socks key }) rest → (owners : Owners) × HasQueueOut h (record h { socks = without h.socks key }) owners queue rest
AreOwnersOf-sock_back h rest key sock queue is parts are =
    let found = queues-join queue rest.queues _ _ are.queues (rw parts (sock-splits h key sock is)) in (
      record rest { queues = found.queues },
      record {
        owners_are = record { spaces = are.spaces; queues = found.are };
        rest_are = are;
        same = SameOwners-queues (record rest { queues = found.queues }) queue rest.queues found.split;
      },
    )

-- what the owners of a heap are when one object came or went, and all else is the same
AreOwnersOf-along : (old new : Heap) (owners : Owners) → spaces_of new.procs ≡ spaces_of old.procs → pipe_queues new.pipes ≡ pipe_queues old.pipes → sock_queues new.socks ≡ sock_queues old.socks → AreOwnersOf old owners → AreOwnersOf new owners
AreOwnersOf-along old new owners spaces pipes socks are = record {
  spaces = are.spaces ∙ sym spaces;
  queues = are.queues ∙ rw (pipes, socks) refl;
}

gone_again : {X Y : Type 0} (f : X → Y) (old new : List (Option X)) (key : ℕ) (value : X) → object old key ≡ None → new ≡ put old key value → each_of f (without new key) ≡ each_of f old
gone_again f old new key value vacant is = rw (is, without-put old key value, without-vacant old key vacant) refl

pub OwnsItsObjects-proc_comes : (old new : Heap) (key : ℕ) (process : Proc) → object old.procs key ≡ None → object new.procs key ≡ Some process → keys_in process.nodes ≡ [] → new ≡ record old { procs = put old.procs key process; high = new.high } → OwnsItsObjects old → OwnsItsObjects new
OwnsItsObjects-proc_comes old new key process vacant stored none is owns =
    let rest = AreOwnersOf-along old (record new { procs = without new.procs key }) owns.0 (gone_again (λ (p : Proc). p.nodes) old.procs new.procs key process vacant (ap (λ (h : Heap). h.procs) is)) (ap (λ (h : Heap). pipe_queues h.pipes) is) (ap (λ (h : Heap). sock_queues h.socks) is) owns.1 in
    let found = AreOwnersOf-proc_back new owns.0 key process stored rest in
    let same = IsOwned-same old new owns.0 (ap (λ (h : Heap). h.nodes) is) (ap (λ (h : Heap). h.pages) is) (ap (λ (h : Heap). h.chunks) is) owns.2 in
    (found.0, found.1.owners_are, found.1.same.back new (IsOwned-space_joins new owns.0 process.nodes none same))

pub OwnsItsObjects-pipe_comes : (old new : Heap) (key : ℕ) (pipe : Pipe) → object old.pipes key ≡ None → object new.pipes key ≡ Some pipe → pipe.queue ≡ empty_queue → new ≡ record old { pipes = put old.pipes key pipe; high = new.high } → OwnsItsObjects old → OwnsItsObjects new
OwnsItsObjects-pipe_comes old new key pipe vacant stored none is owns =
    let rest = AreOwnersOf-along old (record new { pipes = without new.pipes key }) owns.0 (ap (λ (h : Heap). spaces_of h.procs) is) (gone_again (λ (p : Pipe). p.queue) old.pipes new.pipes key pipe vacant (ap (λ (h : Heap). h.pipes) is)) (ap (λ (h : Heap). sock_queues h.socks) is) owns.1 in
    let found = AreOwnersOf-pipe_back new owns.0 key pipe fresh_queue stored (sym none) rest in
    let same = IsOwned-same old new owns.0 (ap (λ (h : Heap). h.nodes) is) (ap (λ (h : Heap). h.pages) is) (ap (λ (h : Heap). h.chunks) is) owns.2 in
    (found.0, found.1.owners_are, found.1.same.back new (IsOwned-queue_joins new owns.0 same))

pub OwnsItsObjects-sock_comes : (old new : Heap) (key : ℕ) (sock : Sock) → object old.socks key ≡ None → object new.socks key ≡ Some sock → sock.queue ≡ empty_queue → new ≡ record old { socks = put old.socks key sock; high = new.high } → OwnsItsObjects old → OwnsItsObjects new
OwnsItsObjects-sock_comes old new key sock vacant stored none is owns =
    let rest = AreOwnersOf-along old (record new { socks = without new.socks key }) owns.0 (ap (λ (h : Heap). spaces_of h.procs) is) (ap (λ (h : Heap). pipe_queues h.pipes) is) (gone_again (λ (s : Sock). s.queue) old.socks new.socks key sock vacant (ap (λ (h : Heap). h.socks) is)) owns.1 in
    let found = AreOwnersOf-sock_back new owns.0 key sock fresh_queue stored (sym none) rest in
    let same = IsOwned-same old new owns.0 (ap (λ (h : Heap). h.nodes) is) (ap (λ (h : Heap). h.pages) is) (ap (λ (h : Heap). h.chunks) is) owns.2 in
    (found.0, found.1.owners_are, found.1.same.back new (IsOwned-queue_joins new owns.0 same))

pub OwnsItsObjects-proc_goes : (old new : Heap) (key : ℕ) (process : Proc) → object old.procs key ≡ Some process → keys_in process.nodes ≡ [] → new ≡ record old { procs = without old.procs key } → OwnsItsObjects old → OwnsItsObjects new
OwnsItsObjects-proc_goes old new key process there none is owns =
    let found = AreOwnersOf-proc_out old owns.0 key process there owns.1 in
    let left = IsOwned-space_leaves old found.0 process.nodes none (found.1.same.there old owns.2) in
    (found.0, rw is found.1.rest_are, IsOwned-same old new found.0 (ap (λ (h : Heap). h.nodes) is) (ap (λ (h : Heap). h.pages) is) (ap (λ (h : Heap). h.chunks) is) left)

pub OwnsItsObjects-pipe_goes : (old new : Heap) (key : ℕ) (pipe : Pipe) → object old.pipes key ≡ Some pipe → pipe.queue.len ≡ 0 → new ≡ record old { pipes = without old.pipes key } → OwnsItsObjects old → OwnsItsObjects new
OwnsItsObjects-pipe_goes old new key pipe there none is owns =
    let found = AreOwnersOf-pipe_out old owns.0 key pipe there owns.1 in
    let left = IsOwned-queue_leaves old found.1 found.0 (ap (λ (q : QueueParts). q.len) found.2 ∙ none) (found.3.same.there old owns.2) in
    (found.1, rw is found.3.rest_are, IsOwned-same old new found.1 (ap (λ (h : Heap). h.nodes) is) (ap (λ (h : Heap). h.pages) is) (ap (λ (h : Heap). h.chunks) is) left)

pub OwnsItsObjects-sock_goes : (old new : Heap) (key : ℕ) (sock : Sock) → object old.socks key ≡ Some sock → sock.queue.len ≡ 0 → new ≡ record old { socks = without old.socks key } → OwnsItsObjects old → OwnsItsObjects new
OwnsItsObjects-sock_goes old new key sock there none is owns =
    let found = AreOwnersOf-sock_out old owns.0 key sock there owns.1 in
    let left = IsOwned-queue_leaves old found.1 found.0 (ap (λ (q : QueueParts). q.len) found.2 ∙ none) (found.3.same.there old owns.2) in
    (found.1, rw is found.3.rest_are, IsOwned-same old new found.1 (ap (λ (h : Heap). h.nodes) is) (ap (λ (h : Heap). h.pages) is) (ap (λ (h : Heap). h.chunks) is) left)

-- where what owns and what is owned are the same, all own what they owned
pub OwnsItsObjects-along : (old new : Heap) → spaces_of new.procs ≡ spaces_of old.procs → pipe_queues new.pipes ≡ pipe_queues old.pipes → sock_queues new.socks ≡ sock_queues old.socks → new.nodes ≡ old.nodes → new.pages ≡ old.pages → new.chunks ≡ old.chunks → OwnsItsObjects old → OwnsItsObjects new
OwnsItsObjects-along old new spaces pipes socks nodes pages chunks owns = (owns.0, AreOwnersOf-along old new owns.0 spaces pipes socks owns.1, IsOwned-same old new owns.0 nodes pages chunks owns.2)

-- and so where a process, a pipe or a socket becomes another that owns the same
pub OwnsItsObjects-proc_set : (old new : Heap) (key : ℕ) (was now : Proc) → object old.procs key ≡ Some was → now.nodes ≡ was.nodes → new ≡ record old { procs = put old.procs key now } → OwnsItsObjects old → OwnsItsObjects new
OwnsItsObjects-proc_set old new key was now there same is owns = rw is (OwnsItsObjects-along old (record old { procs = put old.procs key now }) (each_of-put (λ (p : Proc). p.nodes) old.procs key was now there same) refl refl refl refl refl owns)

pub OwnsItsObjects-pipe_set : (old new : Heap) (key : ℕ) (was now : Pipe) → object old.pipes key ≡ Some was → now.queue ≡ was.queue → new ≡ record old { pipes = put old.pipes key now } → OwnsItsObjects old → OwnsItsObjects new
OwnsItsObjects-pipe_set old new key was now there same is owns = rw is (OwnsItsObjects-along old (record old { pipes = put old.pipes key now }) refl (each_of-put (λ (p : Pipe). p.queue) old.pipes key was now there same) refl refl refl refl owns)

pub OwnsItsObjects-sock_set : (old new : Heap) (key : ℕ) (was now : Sock) → object old.socks key ≡ Some was → now.queue ≡ was.queue → new ≡ record old { socks = put old.socks key now } → OwnsItsObjects old → OwnsItsObjects new
OwnsItsObjects-sock_set old new key was now there same is owns = rw is (OwnsItsObjects-along old (record old { socks = put old.socks key now }) refl refl (each_of-put (λ (s : Sock). s.queue) old.socks key was now there same) refl refl refl owns)
