-- What a change of the chunks leaves of the queues.
use Rattle.std.proofs.Common.{◌≡◌, ◌≢◌, ℕ, ◌+◌, ◌*◌, ◌<◌, ◌≤◌, ◌/◌, List, [], ◌∷◌, ◌++◌, Option, Some, None, length, refl, sym, ◌∙◌, inl, inr, arith, Contains, length-append}
use Rattle.std.proofs.lemmas.Bool.{cases_eq}
use Rattle.slab.proofs.SlabLemmas.{Contains-cons, Contains-cons_cases}
use Rattle.kheap_slabs.specs.Objects.{object, InUse, put}
use Rattle.kheap_slabs.specs.declared.objects.Chunk.{Chunk}
use Rattle.kheap_slabs.specs.declared.objects.QueueParts.{QueueParts}
use Rattle.kheap_slabs.specs.Outside.{KeepsOutside}
use Rattle.kheap_slabs.specs.Keys.{Apart, IsOnce}
use Rattle.kheap_slabs.specs.Queues.{OwnedQueue, fresh_queue, IsChain, last_of, OwnsChunks, QueueBegins, QueueGrows, QueueShrinks}
use Rattle.kheap_slabs.proofs.ObjectLemmas.{InUse-within, object-put, object-put_other}
use Rattle.kheap_laws.proofs.OnceLemmas.{Contains-single, IsOnce-tail, IsOnce-head, IsOnce-push}

module _ {X : Type 0} where
  -- what changed outside some keys is the same at each of these
  pub KeepsOutside-apart : (changed keys : List ℕ) (old new : List (Option X)) → KeepsOutside changed old new → Apart changed keys → (key : ℕ) → Contains keys key → object new key ≡ object old key
  KeepsOutside-apart changed keys old new kept apart key there = kept key (λ here. apart key here there)

pub IsChain-kept : (old new : List (Option Chunk)) (first : Option ℕ) (keys : List ℕ) → ((key : ℕ) → Contains keys key → object new key ≡ object old key) → IsChain old first keys → IsChain new first keys
IsChain-kept old new first [] same chain = chain
IsChain-kept old new first (key ∷ rest) same chain =
    (chain.0, chain.1, same key (0, omega arith, refl) ∙ chain.2, IsChain-kept old new chain.1.next rest (λ other there. same other (Contains-cons key other rest there)) chain.3)

-- the chunks' bytes don't count for the chain
pub IsChain-same_links : (old new : List (Option Chunk)) (first : Option ℕ) (keys : List ℕ) → ((key : ℕ) (chunk : Chunk) → Contains keys key → object old key ≡ Some chunk → (other : Chunk) × (object new key ≡ Some other) × (other.next ≡ chunk.next)) → IsChain old first keys → IsChain new first keys
IsChain-same_links old new first [] same chain = chain
IsChain-same_links old new first (key ∷ rest) same chain =
    let written = same key chain.1 (0, omega arith, refl) chain.2 in
    (chain.0, written.0, written.1, rw written.2 (IsChain-same_links old new chain.1.next rest (λ other chunk there. same other chunk (Contains-cons key other rest there)) chain.3))

-- each chunk of a chain is in use
pub IsChain-used : (chunks : List (Option Chunk)) (first : Option ℕ) (keys : List ℕ) → IsChain chunks first keys → (key : ℕ) → Contains keys key → InUse chunks key
IsChain-used chunks first [] chain key there = absurd (omega (arith, there.1))
IsChain-used chunks first (head ∷ rest) chain key there = elim (Contains-cons_cases head key rest there) [
  | inl same ↦ rw (← same, chain.2) refl
  | inr behind ↦ IsChain-used chunks chain.1.next rest chain.3 key behind
]

-- a key that names nothing is in no chain
pub IsChain-vacant : (chunks : List (Option Chunk)) (first : Option ℕ) (keys : List ℕ) (key : ℕ) → IsChain chunks first keys → object chunks key ≡ None → Contains keys key → ⊥
IsChain-vacant chunks first keys key chain vacant there =
    let used = IsChain-used chunks first keys chain key there in
    grind arith

last_there : (key : ℕ) (keys : List ℕ) → last_of keys ≡ Some key → Contains keys key
last_there key [] is = absurd (cc)
last_there key (only ∷ []) is = (0, omega arith, grind arith)
last_there key (head ∷ other ∷ rest) is = Contains-cons head key (other ∷ rest) (last_there key (other ∷ rest) is)

last-push : (keys : List ℕ) (key : ℕ) → last_of (keys ++ key ∷ []) ≡ Some key
last-push [] key = refl
last-push (only ∷ []) key = refl
last-push (head ∷ other ∷ rest) key = last-push (other ∷ rest) key

-- a chain with one chunk more: the last one is linked to the new one, which has no next
pub IsChain-push : (old new : List (Option Chunk)) (first : Option ℕ) (keys : List ℕ) (last key : ℕ) (linked added : Chunk) → IsChain old first keys → IsOnce keys → last_of keys ≡ Some last → object new last ≡ Some linked → linked.next ≡ Some key → object new key ≡ Some added → added.next ≡ None → ((other : ℕ) → Contains keys other → other ≢ last → object new other ≡ object old other) → IsChain new first (keys ++ key ∷ [])
IsChain-push old new first [] last key linked added chain once ends stored link stored_added no_next same = absurd (cc)
IsChain-push old new first (only ∷ []) last key linked added chain once ends stored link stored_added no_next same =
    let is : only ≡ last = grind arith in
    (chain.0, linked, rw is stored, (link, added, stored_added, no_next))
IsChain-push old new first (head ∷ other ∷ rest) last key linked added chain once ends stored link stored_added no_next same =
    let behind = last_there last (other ∷ rest) ends in
    let differs : head ≢ last = λ e. IsOnce-head head (other ∷ rest) once (rw e behind) in (
      chain.0,
      chain.1,
      same head (0, omega arith, refl) differs ∙ chain.2,
      IsChain-push old new chain.1.next (other ∷ rest) last key linked added chain.3 (IsOnce-tail head (other ∷ rest) once) ends stored link stored_added no_next (λ k there d. same k (Contains-cons head k (other ∷ rest) there) d),
    )

-- a chain without its first chunk
pub IsChain-drop : (old new : List (Option Chunk)) (first : Option ℕ) (key : ℕ) (rest : List ℕ) (chunk : Chunk) → IsChain old first (key ∷ rest) → object old key ≡ Some chunk → ((other : ℕ) → Contains rest other → object new other ≡ object old other) → IsChain new chunk.next rest
IsChain-drop old new first key rest chunk chain is same =
    let named : chain.1 ≡ chunk = grind (arith, chain.2) in
    IsChain-kept old new chunk.next rest same (rw (← named) chain.3)

pub OwnsChunks-kept : (old new : List (Option Chunk)) (queue : OwnedQueue) → ((key : ℕ) → Contains queue.chunks key → object new key ≡ object old key) → OwnsChunks old queue → OwnsChunks new queue
OwnsChunks-kept old new queue same owns = record {
  chain = IsChain-kept old new queue.parts.first queue.chunks same owns.chain;
  last = owns.last;
  once = owns.once;
  place = owns.place;
  enough = owns.enough;
  needed = owns.needed;
  empty = owns.empty;
}

-- a change of the chunks of one queue leaves those of another
pub OwnsChunks-apart : (changed : List ℕ) (old new : List (Option Chunk)) (queue : OwnedQueue) → KeepsOutside changed old new → Apart changed queue.chunks → OwnsChunks old queue → OwnsChunks new queue
OwnsChunks-apart changed old new queue kept apart = OwnsChunks-kept old new queue (KeepsOutside-apart changed queue.chunks old new kept apart)

-- a chunk gets other bytes and keeps its next
pub OwnsChunks-written : (old : List (Option Chunk)) (queue : OwnedQueue) (at : ℕ) (chunk written : Chunk) → object old at ≡ Some chunk → written.next ≡ chunk.next → OwnsChunks old queue → OwnsChunks (put old at written) queue
OwnsChunks-written old queue at chunk written is next owns = record {
  chain = IsChain-same_links old (put old at written) queue.parts.first queue.chunks (λ key other there was. linked key other was) owns.chain;
  last = owns.last;
  once = owns.once;
  place = owns.place;
  enough = owns.enough;
  needed = owns.needed;
  empty = owns.empty;
}
  where
    linked : (key : ℕ) (other : Chunk) → object old key ≡ Some other → (now : Chunk) × (object (put old at written) key ≡ Some now) × (now.next ≡ other.next)
    linked key other was = elim (cases_eq key at) [
      | inl same ↦ (
          let one : other ≡ chunk = let here : object old at ≡ Some other = rw (← same) was in grind arith in
          (written, rw same (object-put old at written (InUse-within old at (rw is refl))), rw one next)
          )
      | inr differs ↦ (other, object-put_other old at key written differs ∙ was, refl)
    ]

-- a queue without bytes has no chunk
pub OwnsChunks-none : (chunks : List (Option Chunk)) (queue : OwnedQueue) → OwnsChunks chunks queue → queue.parts.len ≡ 0 → queue.chunks ≡ []
OwnsChunks-none chunks queue owns none = none_of queue.chunks (omega (arith, owns.needed, owns.empty none))
  where
    none_of : (keys : List ℕ) → 512 * length keys < 512 → keys ≡ []
    none_of [] few = refl
    none_of (key ∷ rest) few = absurd (omega (arith, few))

-- a queue of n bytes has at most n / 512 + 2 chunks
pub OwnsChunks-most : (chunks : List (Option Chunk)) (queue : OwnedQueue) → OwnsChunks chunks queue → length queue.chunks ≤ queue.parts.len / 512 + 2
OwnsChunks-most chunks queue owns = omega (arith, owns.needed, owns.place)

pub OwnsChunks-fresh : (chunks : List (Option Chunk)) → OwnsChunks chunks fresh_queue
OwnsChunks-fresh chunks = record {
  chain = refl;
  last = refl;
  once = λ i j before within same. omega arith;
  place = omega arith;
  enough = omega arith;
  needed = omega arith;
  empty = λ none. refl;
}

-- a queue without chunks that gets its first
pub OwnsChunks-begin : (new : List (Option Chunk)) (queue : QueueParts) (key : ℕ) → QueueBegins new queue key → OwnsChunks new (record { parts = queue; chunks = key ∷ [] })
OwnsChunks-begin new queue key begins = record {
  chain = (begins.first, begins.added, begins.stored, begins.no_next);
  last = begins.last;
  once = λ i j before within same. omega arith;
  place = omega (arith, begins.place);
  enough = omega (arith, begins.place, begins.most);
  needed = omega (arith, begins.some);
  empty = λ none. begins.place;
}

-- a queue whose chunks are full gets one more at its end
pub OwnsChunks-push : (old new : List (Option Chunk)) (queue : OwnedQueue) (grown : QueueParts) (key : ℕ) → OwnsChunks old queue → QueueGrows old new queue grown key → OwnsChunks new (record { parts = grown; chunks = queue.chunks ++ key ∷ [] })
OwnsChunks-push old new queue grown key owns grows =
    let absent = IsChain-vacant old queue.parts.first queue.chunks key owns.chain grows.vacant in
    record {
      chain = rw grows.first (IsChain-push old new queue.parts.first queue.chunks grows.end key grows.linked grows.added owns.chain owns.once (sym owns.last ∙ grows.end_is) grows.linked_is grows.link grows.added_is grows.no_next (λ other there differs. grows.outside other (neither other there differs)));
      last = grows.last ∙ sym (last-push queue.chunks key);
      once = IsOnce-push queue.chunks key owns.once absent;
      place = rw grows.place owns.place;
      enough = rw length-append (omega (arith, grows.within));
      needed = rw length-append (omega (arith, grows.above));
      empty = λ none. grows.place ∙ owns.empty (omega (arith, grows.longer));
    }
  where
    neither : (other : ℕ) → Contains queue.chunks other → other ≢ grows.end → Contains (grows.end ∷ key ∷ []) other → ⊥
    neither other there differs named = elim (Contains-cons_cases grows.end other (key ∷ []) named) [
      | inl same ↦ differs (sym same)
      | inr behind ↦ IsChain-vacant old queue.parts.first queue.chunks key owns.chain grows.vacant (rw (Contains-single key other behind) there)
    ]

-- a queue gives its first chunk back
pub OwnsChunks-drop : (old new : List (Option Chunk)) (queue shorter : QueueParts) (key : ℕ) (rest : List ℕ) → OwnsChunks old (record { parts = queue; chunks = key ∷ rest }) → QueueShrinks old new shorter key rest → OwnsChunks new (record { parts = shorter; chunks = rest })
OwnsChunks-drop old new queue shorter key rest owns shrinks = record {
  chain = rw shrinks.first (IsChain-drop old new queue.first key rest shrinks.chunk owns.chain shrinks.is (λ other there. shrinks.outside other (λ named. IsOnce-head key rest owns.once (rw (Contains-single key other named) there))));
  last = shrinks.last;
  once = IsOnce-tail key rest owns.once;
  place = shrinks.place;
  enough = shrinks.enough;
  needed = shrinks.needed;
  empty = shrinks.empty;
}
