-- The bytes of one queue among those of all pipes and sockets of a heap.
use Rattle.std.proofs.Common.{◌≡◌, ◌⊎◌, inl, inr, ℕ, zero, suc, ◌<◌, List, [], ◌∷◌, ◌++◌, Option, None, Some, map, slice_index_or, take, drop, refl, sym, ap, subst, ◌∙◌, arith, Contains}
use Rattle.std.proofs.lemmas.List.Elements.{Contains-append_left, Contains-append_right, Contains-append_cases}
use Rattle.kheap_slabs.specs.Objects.{object, put, without}
use Rattle.kheap_slabs.specs.declared.objects.Chunk.{Chunk}
use Rattle.kheap_slabs.specs.declared.objects.Pipe.{Pipe}
use Rattle.kheap_slabs.specs.declared.objects.QueueParts.{QueueParts}
use Rattle.kheap_slabs.specs.declared.objects.Sock.{Sock}
use Rattle.kheap_slabs.specs.Heap.{Heap}
use Rattle.kheap_slabs.specs.Owners.{Owners, with_queue, each_of, spaces_of, pipe_queues, sock_queues, IsOwned, AreOwnersOf, OwnsItsObjects}
use Rattle.kheap_slabs.specs.Queues.{OwnedQueue, OwnsChunks, IsChain, last_of, empty_queue}
use Rattle.kheap_slabs.proofs.ObjectLemmas.{object-without_other}
use Rattle.kheap_laws.proofs.OwnerLemmas.{IsOwned-queues_apart, IsOwned-same, IsOwned-queue_leaves, first_there}
use Rattle.kheap_laws.proofs.QueueLemmas.{OwnsChunks-kept, OwnsChunks-none, OwnsChunks-fresh}
use Rattle.kheap_laws.proofs.TableLemmas.{without-put, each_of-splits, AreOwnersOf-pipe_out, AreOwnersOf-pipe_back, AreOwnersOf-sock_out, AreOwnersOf-sock_back}
use Rattle.chunk_queue.specs.Chained.{bytes_of, owned, unread, Becomes, Turns, OnlyChunks, IsQueueIn}
use Rattle.chunk_queue.specs.Held.{HasBytes, KeepsChunksBut, PipeTurns, SockTurns, PipeGoes, SockGoes}
use Rattle.chunk_queue.proofs.JoinedLemmas.{joined-same}
use Rattle.chunk_queue.proofs.StepLemmas.{owns}

-- a first key leads along one chain
pub IsChain-unique : (chunks : List (Option Chunk)) (first : Option ℕ) (one other : List ℕ) → IsChain chunks first one → IsChain chunks first other → one ≡ other
IsChain-unique chunks first [] [] a b = refl
IsChain-unique chunks first [] (key ∷ other) a b = absurd (let starts = b.0 in cc)
IsChain-unique chunks first (key ∷ one) [] a b = absurd (let starts = a.0 in cc)
IsChain-unique chunks first (key ∷ one) (key2 ∷ other) a b =
    let starts : Some key ≡ Some key2 = sym a.0 ∙ b.0 in
    let named : key ≡ key2 = cc in
    let chunk : Some a.1 ≡ Some b.1 = sym a.2 ∙ ap (object chunks) named ∙ b.2 in
    let same : a.1 ≡ b.1 = cc in
    let next : IsChain chunks a.1.next other = rw same b.3 in
    let behind = IsChain-unique chunks a.1.next one other a.3 next in
    cc

-- a queue has one list of bytes
pub HasBytes-one : (h : Heap) (parts : QueueParts) (keys bytes : List ℕ) → OwnsChunks h.chunks (owned parts keys) → HasBytes h parts bytes → unread h.chunks (owned parts keys) ≡ bytes
HasBytes-one h parts keys bytes mine has =
    ap (λ list. unread h.chunks (owned parts list)) (IsChain-unique h.chunks parts.first keys has.keys mine.chain has.owns.chain) ∙ has.has

-- where the objects of a queue's chunks are the same it has the same bytes
pub HasBytes-kept : (old new : Heap) (parts : QueueParts) (keys bytes : List ℕ) → OwnsChunks old.chunks (owned parts keys) → ((key : ℕ) → Contains keys key → object new.chunks key ≡ object old.chunks key) → HasBytes old parts bytes → HasBytes new parts bytes
HasBytes-kept old new parts keys bytes mine same has = record {
  keys = keys;
  owns = OwnsChunks-kept old.chunks new.chunks (owned parts keys) same mine;
  has = ap (λ list. take parts.len (drop parts.place list)) (joined-same old.chunks new.chunks keys (λ key there. ap bytes_of (same key there))) ∙ HasBytes-one old parts keys bytes mine has;
}

-- a queue of others keeps its bytes where one queue changes
pub others_keep : (old new : Heap) (keys : List ℕ) (queue now : QueueParts) (rest : Owners) (bytes : List ℕ) → IsOwned old (with_queue (owned queue keys) rest) → Becomes old new keys now rest bytes → (other : OwnedQueue) (kept : List ℕ) → Contains rest.queues other → HasBytes old other.parts kept → HasBytes new other.parts kept
others_keep old new keys queue now rest bytes is becomes other kept there has =
    let mine : OwnsChunks old.chunks (owned other.parts other.chunks) = is.queues other (Contains-append_right (owned queue keys ∷ []) rest.queues other there) in
    HasBytes-kept old new other.parts other.chunks kept mine (λ key among. becomes.changes.outside key (λ changed. apart key among (Contains-append_cases keys becomes.now_keys key changed))) has
  where
    apart : (key : ℕ) → Contains other.chunks key → Contains keys key ⊎ Contains becomes.now_keys key → ⊥
    apart key among (inl had) = IsOwned-queues_apart old rest (owned queue keys) other is there key had among
    apart key among (inr has) = IsOwned-queues_apart new rest (owned now becomes.now_keys) other becomes.is_owned there key has among

-- the chunks of others are as they were where one queue changes
pub chunks_keep : (old new : Heap) (keys : List ℕ) (queue now : QueueParts) (rest : Owners) (bytes : List ℕ) → IsOwned old (with_queue (owned queue keys) rest) → Becomes old new keys now rest bytes → KeepsChunksBut old.chunks new.chunks queue
chunks_keep old new keys queue now rest bytes is becomes mine owned_by key used outside =
    becomes.changes.outside key (λ changed. apart (Contains-append_cases keys becomes.now_keys key changed))
  where
    same : keys ≡ mine
    same = IsChain-unique old.chunks queue.first keys mine (owns old keys queue rest is).chain owned_by.chain

    had : Contains keys key → ⊥
    had there = outside (rw (← same) there)

    apart : Contains keys key ⊎ Contains becomes.now_keys key → ⊥
    apart (inl there) = had there
    apart (inr there) = elim (becomes.changes.fresh key there) [
      | inl before ↦ had before
      | inr vacant ↦ let none : object old.chunks key ≡ None = vacant in grind arith
    ]

-- what has the parts of an object's queue is among the queues
each_of-contains : {X Y : Type 0} (f : X → Y) (objects : List (Option X)) (key : ℕ) (value : X) → object objects key ≡ Some value → Contains (each_of f objects) (f value)
each_of-contains f objects key value is =
    let split = each_of-splits f objects key value is in
    rw split.whole_is (Contains-append_right split.before (f value ∷ split.after) (f value) (first_there (f value) split.after))

of_parts : (queues : List OwnedQueue) (parts : QueueParts) → Contains (map (λ (one : OwnedQueue). one.parts) queues) parts → (queue : OwnedQueue) × Contains queues queue × (queue.parts ≡ parts)
of_parts [] parts there = absurd (omega (arith, there.1))
of_parts (queue ∷ rest) parts there = elim (Contains-append_cases (queue.parts ∷ []) (map (λ (one : OwnedQueue). one.parts) rest) parts there) [
  | inl it ↦ (queue, first_there queue rest, here it.0 it.1 it.2)
  | inr behind ↦
      let found = of_parts rest parts behind in
      (found.0, Contains-append_right (queue ∷ []) rest found.0 found.1, found.2)
]
  where
    here : (at : ℕ) → at < 1 → slice_index_or (queue.parts ∷ []) at parts ≡ parts → queue.parts ≡ parts
    here zero within is = is
    here (suc at) within is = absurd (omega arith)

-- a pipe's queue is in hand beside those of the others, and a socket's
pub pipe_out : (h : Heap) (key : ℕ) (pipe : Pipe) → object h.pipes key ≡ Some pipe → OwnsItsObjects h → (keys : List ℕ) × (rest : Owners) × AreOwnersOf (record h { pipes = without h.pipes key }) rest × IsOwned h (with_queue (owned pipe.queue keys) rest)
pipe_out h key pipe there is =
    let out = AreOwnersOf-pipe_out h is.0 key pipe there is.1 in
    let mine : IsOwned h (with_queue (owned out.0.parts out.0.chunks) out.1) = out.3.same.there h is.2 in
    (out.0.chunks, out.1, out.3.rest_are, subst (λ (p : QueueParts). IsOwned h (with_queue (owned p out.0.chunks) out.1)) out.2 mine)

pub sock_out : (h : Heap) (key : ℕ) (sock : Sock) → object h.socks key ≡ Some sock → OwnsItsObjects h → (keys : List ℕ) × (rest : Owners) × AreOwnersOf (record h { socks = without h.socks key }) rest × IsOwned h (with_queue (owned sock.queue keys) rest)
sock_out h key sock there is =
    let out = AreOwnersOf-sock_out h is.0 key sock there is.1 in
    let mine : IsOwned h (with_queue (owned out.0.parts out.0.chunks) out.1) = out.3.same.there h is.2 in
    (out.0.chunks, out.1, out.3.rest_are, subst (λ (p : QueueParts). IsOwned h (with_queue (owned p out.0.chunks) out.1)) out.2 mine)

pub pipe_queue_in : (h : Heap) (key : ℕ) (pipe : Pipe) → object h.pipes key ≡ Some pipe → OwnsItsObjects h → IsQueueIn h pipe.queue
pipe_queue_in h key pipe there is = let out = pipe_out h key pipe there is in (out.0, out.1, out.3)

pub sock_queue_in : (h : Heap) (key : ℕ) (sock : Sock) → object h.socks key ≡ Some sock → OwnsItsObjects h → IsQueueIn h sock.queue
sock_queue_in h key sock there is = let out = sock_out h key sock there is in (out.0, out.1, out.3)

pub pipe_back : (h : Heap) (key : ℕ) (pipe : Pipe) (keys : List ℕ) (rest : Owners) → object h.pipes key ≡ Some pipe → AreOwnersOf (record h { pipes = without h.pipes key }) rest → IsOwned h (with_queue (owned pipe.queue keys) rest) → OwnsItsObjects h
pipe_back h key pipe keys rest there are is =
    let back = AreOwnersOf-pipe_back h rest key pipe (owned pipe.queue keys) there refl are in
    (back.0, back.1.owners_are, back.1.same.back h is)

pub sock_back : (h : Heap) (key : ℕ) (sock : Sock) (keys : List ℕ) (rest : Owners) → object h.socks key ≡ Some sock → AreOwnersOf (record h { socks = without h.socks key }) rest → IsOwned h (with_queue (owned sock.queue keys) rest) → OwnsItsObjects h
sock_back h key sock keys rest there are is =
    let back = AreOwnersOf-sock_back h rest key sock (owned sock.queue keys) there refl are in
    (back.0, back.1.owners_are, back.1.same.back h is)

-- the queue of every pipe and every socket is one of the owners'
pub pipe_among : (h : Heap) (rest : Owners) (key : ℕ) (pipe : Pipe) → object h.pipes key ≡ Some pipe → AreOwnersOf h rest → (queue : OwnedQueue) × Contains rest.queues queue × (queue.parts ≡ pipe.queue)
pipe_among h rest key pipe there are =
    of_parts rest.queues pipe.queue (rw are.queues (Contains-append_left (pipe_queues h.pipes) (sock_queues h.socks) pipe.queue (each_of-contains (λ (p : Pipe). p.queue) h.pipes key pipe there)))

pub sock_among : (h : Heap) (rest : Owners) (key : ℕ) (sock : Sock) → object h.socks key ≡ Some sock → AreOwnersOf h rest → (queue : OwnedQueue) × Contains rest.queues queue × (queue.parts ≡ sock.queue)
sock_among h rest key sock there are =
    of_parts rest.queues sock.queue (rw are.queues (Contains-append_right (pipe_queues h.pipes) (sock_queues h.socks) sock.queue (each_of-contains (λ (s : Sock). s.queue) h.socks key sock there)))

-- a heap with the same chunks has the same bytes
pub HasBytes-same : (old new : Heap) (parts : QueueParts) (bytes : List ℕ) → new.chunks ≡ old.chunks → HasBytes old parts bytes → HasBytes new parts bytes
HasBytes-same old new parts bytes same has = record {
  keys = has.keys;
  owns = rw same has.owns;
  has = rw same has.has;
}

both_same : {X : Type 0} {a b c d : List X} → a ≡ b → c ≡ d → a ++ c ≡ b ++ d
both_same one other = cc

-- the queue of a pipe turns, and the pipe gets it
pub pipe_turns : (old mid new : Heap) (key : ℕ) (pipe now : Pipe) (next : List ℕ → List ℕ) → OwnsItsObjects old → object old.pipes key ≡ Some pipe → OnlyChunks old mid → Turns old mid pipe.queue now.queue next → object new.pipes key ≡ Some now → new ≡ record mid { pipes = put mid.pipes key now } → PipeTurns old new key pipe.queue now.queue next
pipe_turns old mid new key pipe now next is there only turns stored put_in = record {
  owns = pipe_back new key now becomes.now_keys out.1 stored rest_are owned_now;
  bytes = λ bytes has. HasBytes-same mid new now.queue (next bytes) chunks (record {
    keys = becomes.now_keys;
    owns = owns mid becomes.now_keys now.queue out.1 becomes.is_owned;
    has = becomes.has ∙ ap next (HasBytes-one old pipe.queue out.0 bytes (owns old out.0 pipe.queue out.1 out.3) has);
  });
  chunks = λ mine owned_by other used outside. ap (λ list. object list other) chunks ∙ chunks_keep old mid out.0 pipe.queue now.queue out.1 (next (unread old.chunks (owned pipe.queue out.0))) out.3 becomes mine owned_by other used outside;
  pipes = λ other differs that bytes at has.
      let among = pipe_among (record old { pipes = without old.pipes key }) out.1 other that (object-without_other old.pipes key other differs ∙ at) out.2 in
      stays among.0 that.queue bytes among.1 among.2 has;
  socks = λ other that bytes at has.
      let among = sock_among (record old { pipes = without old.pipes key }) out.1 other that at out.2 in
      stays among.0 that.queue bytes among.1 among.2 has;
}
  where
    out : (keys : List ℕ) × (rest : Owners) × AreOwnersOf (record old { pipes = without old.pipes key }) rest × IsOwned old (with_queue (owned pipe.queue keys) rest)
    out = pipe_out old key pipe there is

    becomes : Becomes old mid out.0 now.queue out.1 (next (unread old.chunks (owned pipe.queue out.0)))
    becomes = turns out.0 out.1 out.3

    chunks : new.chunks ≡ mid.chunks
    chunks = ap (λ (h : Heap). h.chunks) put_in

    owned_now : IsOwned new (with_queue (owned now.queue becomes.now_keys) out.1)
    owned_now = IsOwned-same mid new (with_queue (owned now.queue becomes.now_keys) out.1) (ap (λ (h : Heap). h.nodes) put_in) (ap (λ (h : Heap). h.pages) put_in) chunks becomes.is_owned

    rest_are : AreOwnersOf (record new { pipes = without new.pipes key }) out.1
    rest_are = record {
      spaces = out.2.spaces ∙ sym (ap (λ (h : Heap). spaces_of h.procs) put_in ∙ ap (λ (h : Heap). spaces_of h.procs) only);
      queues = out.2.queues ∙ sym (both_same (ap (λ (h : Heap). pipe_queues (without h.pipes key)) put_in ∙ ap pipe_queues (without-put mid.pipes key now) ∙ ap (λ (h : Heap). pipe_queues (without h.pipes key)) only) (ap (λ (h : Heap). sock_queues h.socks) put_in ∙ ap (λ (h : Heap). sock_queues h.socks) only));
    }

    stays : (other : OwnedQueue) (parts : QueueParts) (bytes : List ℕ) → Contains out.1.queues other → other.parts ≡ parts → HasBytes old parts bytes → HasBytes new parts bytes
    stays other parts bytes among same has =
        let was : HasBytes old other.parts bytes = rw same has in
        let kept = others_keep old mid out.0 pipe.queue now.queue out.1 (next (unread old.chunks (owned pipe.queue out.0))) out.3 becomes other bytes among was in
        HasBytes-same mid new parts bytes chunks (rw (← same) kept)

-- the queue of a socket turns, and the socket gets it
pub sock_turns : (old mid new : Heap) (key : ℕ) (sock now : Sock) (next : List ℕ → List ℕ) → OwnsItsObjects old → object old.socks key ≡ Some sock → OnlyChunks old mid → Turns old mid sock.queue now.queue next → object new.socks key ≡ Some now → new ≡ record mid { socks = put mid.socks key now } → SockTurns old new key sock.queue now.queue next
sock_turns old mid new key sock now next is there only turns stored put_in = record {
  owns = sock_back new key now becomes.now_keys out.1 stored rest_are owned_now;
  bytes = λ bytes has. HasBytes-same mid new now.queue (next bytes) chunks (record {
    keys = becomes.now_keys;
    owns = owns mid becomes.now_keys now.queue out.1 becomes.is_owned;
    has = becomes.has ∙ ap next (HasBytes-one old sock.queue out.0 bytes (owns old out.0 sock.queue out.1 out.3) has);
  });
  chunks = λ mine owned_by other used outside. ap (λ list. object list other) chunks ∙ chunks_keep old mid out.0 sock.queue now.queue out.1 (next (unread old.chunks (owned sock.queue out.0))) out.3 becomes mine owned_by other used outside;
  pipes = λ other that bytes at has.
      let among = pipe_among (record old { socks = without old.socks key }) out.1 other that at out.2 in
      stays among.0 that.queue bytes among.1 among.2 has;
  socks = λ other differs that bytes at has.
      let among = sock_among (record old { socks = without old.socks key }) out.1 other that (object-without_other old.socks key other differs ∙ at) out.2 in
      stays among.0 that.queue bytes among.1 among.2 has;
}
  where
    out : (keys : List ℕ) × (rest : Owners) × AreOwnersOf (record old { socks = without old.socks key }) rest × IsOwned old (with_queue (owned sock.queue keys) rest)
    out = sock_out old key sock there is

    becomes : Becomes old mid out.0 now.queue out.1 (next (unread old.chunks (owned sock.queue out.0)))
    becomes = turns out.0 out.1 out.3

    chunks : new.chunks ≡ mid.chunks
    chunks = ap (λ (h : Heap). h.chunks) put_in

    owned_now : IsOwned new (with_queue (owned now.queue becomes.now_keys) out.1)
    owned_now = IsOwned-same mid new (with_queue (owned now.queue becomes.now_keys) out.1) (ap (λ (h : Heap). h.nodes) put_in) (ap (λ (h : Heap). h.pages) put_in) chunks becomes.is_owned

    rest_are : AreOwnersOf (record new { socks = without new.socks key }) out.1
    rest_are = record {
      spaces = out.2.spaces ∙ sym (ap (λ (h : Heap). spaces_of h.procs) put_in ∙ ap (λ (h : Heap). spaces_of h.procs) only);
      queues = out.2.queues ∙ sym (both_same (ap (λ (h : Heap). pipe_queues h.pipes) put_in ∙ ap (λ (h : Heap). pipe_queues h.pipes) only) (ap (λ (h : Heap). sock_queues (without h.socks key)) put_in ∙ ap sock_queues (without-put mid.socks key now) ∙ ap (λ (h : Heap). sock_queues (without h.socks key)) only));
    }

    stays : (other : OwnedQueue) (parts : QueueParts) (bytes : List ℕ) → Contains out.1.queues other → other.parts ≡ parts → HasBytes old parts bytes → HasBytes new parts bytes
    stays other parts bytes among same has =
        let was : HasBytes old other.parts bytes = rw same has in
        let kept = others_keep old mid out.0 sock.queue now.queue out.1 (next (unread old.chunks (owned sock.queue out.0))) out.3 becomes other bytes among was in
        HasBytes-same mid new parts bytes chunks (rw (← same) kept)

-- the queue of a pipe is emptied, and the pipe goes
pub pipe_goes : (old mid new : Heap) (key : ℕ) (pipe : Pipe) (now : QueueParts) (next : List ℕ → List ℕ) → OwnsItsObjects old → object old.pipes key ≡ Some pipe → OnlyChunks old mid → Turns old mid pipe.queue now next → now.len ≡ 0 → new ≡ record mid { pipes = without mid.pipes key } → PipeGoes old new key pipe.queue
pipe_goes old mid new key pipe now next is there only turns none taken = record {
  owns = (out.1, rest_are, owned_now);
  chunks = λ mine owned_by other used outside. ap (λ list. object list other) chunks ∙ chunks_keep old mid out.0 pipe.queue now out.1 (next (unread old.chunks (owned pipe.queue out.0))) out.3 becomes mine owned_by other used outside;
  pipes = λ other differs that bytes at has.
      let among = pipe_among (record old { pipes = without old.pipes key }) out.1 other that (object-without_other old.pipes key other differs ∙ at) out.2 in
      stays among.0 that.queue bytes among.1 among.2 has;
  socks = λ other that bytes at has.
      let among = sock_among (record old { pipes = without old.pipes key }) out.1 other that at out.2 in
      stays among.0 that.queue bytes among.1 among.2 has;
}
  where
    out : (keys : List ℕ) × (rest : Owners) × AreOwnersOf (record old { pipes = without old.pipes key }) rest × IsOwned old (with_queue (owned pipe.queue keys) rest)
    out = pipe_out old key pipe there is

    becomes : Becomes old mid out.0 now out.1 (next (unread old.chunks (owned pipe.queue out.0)))
    becomes = turns out.0 out.1 out.3

    chunks : new.chunks ≡ mid.chunks
    chunks = ap (λ (h : Heap). h.chunks) taken

    owned_now : IsOwned new out.1
    owned_now = IsOwned-same mid new out.1 (ap (λ (h : Heap). h.nodes) taken) (ap (λ (h : Heap). h.pages) taken) chunks (IsOwned-queue_leaves mid out.1 (owned now becomes.now_keys) none becomes.is_owned)

    rest_are : AreOwnersOf new out.1
    rest_are = record {
      spaces = out.2.spaces ∙ sym (ap (λ (h : Heap). spaces_of h.procs) taken ∙ ap (λ (h : Heap). spaces_of h.procs) only);
      queues = out.2.queues ∙ sym (both_same (ap (λ (h : Heap). pipe_queues h.pipes) taken ∙ ap (λ (h : Heap). pipe_queues (without h.pipes key)) only) (ap (λ (h : Heap). sock_queues h.socks) taken ∙ ap (λ (h : Heap). sock_queues h.socks) only));
    }

    stays : (other : OwnedQueue) (parts : QueueParts) (bytes : List ℕ) → Contains out.1.queues other → other.parts ≡ parts → HasBytes old parts bytes → HasBytes new parts bytes
    stays other parts bytes among same has =
        let was : HasBytes old other.parts bytes = rw same has in
        let kept = others_keep old mid out.0 pipe.queue now out.1 (next (unread old.chunks (owned pipe.queue out.0))) out.3 becomes other bytes among was in
        HasBytes-same mid new parts bytes chunks (rw (← same) kept)

-- the queue of a socket is emptied, and the socket goes
pub sock_goes : (old mid new : Heap) (key : ℕ) (sock : Sock) (now : QueueParts) (next : List ℕ → List ℕ) → OwnsItsObjects old → object old.socks key ≡ Some sock → OnlyChunks old mid → Turns old mid sock.queue now next → now.len ≡ 0 → new ≡ record mid { socks = without mid.socks key } → SockGoes old new key sock.queue
sock_goes old mid new key sock now next is there only turns none taken = record {
  owns = (out.1, rest_are, owned_now);
  chunks = λ mine owned_by other used outside. ap (λ list. object list other) chunks ∙ chunks_keep old mid out.0 sock.queue now out.1 (next (unread old.chunks (owned sock.queue out.0))) out.3 becomes mine owned_by other used outside;
  pipes = λ other that bytes at has.
      let among = pipe_among (record old { socks = without old.socks key }) out.1 other that at out.2 in
      stays among.0 that.queue bytes among.1 among.2 has;
  socks = λ other differs that bytes at has.
      let among = sock_among (record old { socks = without old.socks key }) out.1 other that (object-without_other old.socks key other differs ∙ at) out.2 in
      stays among.0 that.queue bytes among.1 among.2 has;
}
  where
    out : (keys : List ℕ) × (rest : Owners) × AreOwnersOf (record old { socks = without old.socks key }) rest × IsOwned old (with_queue (owned sock.queue keys) rest)
    out = sock_out old key sock there is

    becomes : Becomes old mid out.0 now out.1 (next (unread old.chunks (owned sock.queue out.0)))
    becomes = turns out.0 out.1 out.3

    chunks : new.chunks ≡ mid.chunks
    chunks = ap (λ (h : Heap). h.chunks) taken

    owned_now : IsOwned new out.1
    owned_now = IsOwned-same mid new out.1 (ap (λ (h : Heap). h.nodes) taken) (ap (λ (h : Heap). h.pages) taken) chunks (IsOwned-queue_leaves mid out.1 (owned now becomes.now_keys) none becomes.is_owned)

    rest_are : AreOwnersOf new out.1
    rest_are = record {
      spaces = out.2.spaces ∙ sym (ap (λ (h : Heap). spaces_of h.procs) taken ∙ ap (λ (h : Heap). spaces_of h.procs) only);
      queues = out.2.queues ∙ sym (both_same (ap (λ (h : Heap). pipe_queues h.pipes) taken ∙ ap (λ (h : Heap). pipe_queues h.pipes) only) (ap (λ (h : Heap). sock_queues h.socks) taken ∙ ap (λ (h : Heap). sock_queues (without h.socks key)) only));
    }

    stays : (other : OwnedQueue) (parts : QueueParts) (bytes : List ℕ) → Contains out.1.queues other → other.parts ≡ parts → HasBytes old parts bytes → HasBytes new parts bytes
    stays other parts bytes among same has =
        let was : HasBytes old other.parts bytes = rw same has in
        let kept = others_keep old mid out.0 sock.queue now out.1 (next (unread old.chunks (owned sock.queue out.0))) out.3 becomes other bytes among was in
        HasBytes-same mid new parts bytes chunks (rw (← same) kept)

pub HasBytes-some : (h : Heap) (parts : QueueParts) → IsQueueIn h parts → (bytes : List ℕ) × HasBytes h parts bytes
HasBytes-some h parts is = (unread h.chunks (owned parts is.0), record { keys = is.0; owns = owns h is.0 parts is.1 is.2; has = refl })

pub HasBytes-unique : (h : Heap) (parts : QueueParts) (first second : List ℕ) → HasBytes h parts first → HasBytes h parts second → first ≡ second
HasBytes-unique h parts first second one other = sym one.has ∙ HasBytes-one h parts one.keys second one.owns other

pub HasBytes-none : (h : Heap) → HasBytes h empty_queue []
HasBytes-none h = record { keys = []; owns = OwnsChunks-fresh h.chunks; has = refl }

abbrev parts_with : Option ℕ → Option ℕ → ℕ → ℕ → QueueParts
parts_with first last place len = record { first = first; last = last; place = place; len = len }

all_none : (first last : Option ℕ) (place len : ℕ) → first ≡ None → last ≡ None → place ≡ 0 → len ≡ 0 → parts_with first last place len ≡ empty_queue
all_none first last place len a b c d = rw (a, b, c, d) refl

-- a queue without bytes has no chunks, and so no first and no last
pub emptied : (h : Heap) (parts : QueueParts) → IsQueueIn h parts → parts.len ≡ 0 → parts ≡ empty_queue
emptied h parts is none =
    let mine = owns h is.0 parts is.1 is.2 in
    let no_keys = OwnsChunks-none h.chunks (owned parts is.0) mine none in
    let first : parts.first ≡ None = subst (λ (keys : List ℕ). IsChain h.chunks parts.first keys) no_keys mine.chain in
    let last : parts.last ≡ None = mine.last ∙ ap last_of no_keys in
    all_none parts.first parts.last parts.place parts.len first last (mine.empty none) none
