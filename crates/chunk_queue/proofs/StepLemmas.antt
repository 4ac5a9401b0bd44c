-- The steps of a queue: bytes go behind the others into its last chunk or into a new one, and from its front.
use Rattle.std.proofs.Common.{◌≡◌, ◌≢◌, ◌⊎◌, ◌==◌, true, false, zero, suc, ℕ, ◌+◌, ◌-◌, ◌*◌, ◌%◌, ◌/◌, ◌<◌, ◌≤◌, List, [], ◌∷◌, ◌++◌, Option, None, Some, IsSome, length, take, drop, refl, sym, ap, ◌∙◌, append_assoc, inl, inr, arith, Contains, length-append, length-drop}
use Rattle.std.proofs.lemmas.Bool.{cases_eq, cases_lt}
use Rattle.std.proofs.Math.Seq.{drop-append-add, take-add}
use Rattle.std.proofs.lemmas.Bool.Decides.{nat_tests}
use Rattle.std.specs.Prelude.{nat_le}
use Rattle.std.proofs.lemmas.List.{take_at, drop-drop, drop_at, drop_all, length-take, length-take-le, append-nil, take-append-drop, take-take, take-append-le, drop-append-le}
use Rattle.std.proofs.lemmas.List.Elements.{Contains-append_left, Contains-append_right, Contains-append_cases, Contains-push}
use Rattle.kabi_types.specs.declared.classes.Class.TheVariants as class
use Rattle.kabi_types.specs.Counts.{with_count}
use Rattle.kheap_slabs.specs.Objects.{object, InUse, put, without}
use Rattle.kheap_slabs.specs.Purse.{Purse}
use Rattle.kheap_slabs.specs.declared.objects.Chunk.{Chunk}
use Rattle.kheap_slabs.specs.declared.objects.QueueParts.{QueueParts}
use Rattle.kheap_slabs.specs.Heap.{Heap, IsWellFormed}
use Rattle.kheap_slabs.specs.Keys.{ChangesKeys}
use Rattle.kheap_slabs.specs.Owners.{Owners, with_queue, IsOwned, QueueChanges}
use Rattle.kheap_slabs.specs.Queues.{OwnsChunks, empty_queue, last_of}
use Rattle.kheap_slabs.proofs.ObjectLemmas.{InUse-within, object-put, object-put_other, object-without, object-without_other}
use Rattle.kheap_laws.proofs.OnceLemmas.{Contains-single, IsOnce-head, IsOnce-apart}
use Rattle.kheap_laws.proofs.OutsideLemmas.{KeepsOutside-without}
use Rattle.kheap_laws.proofs.KeyLemmas.{contains_or_not}
use Rattle.kheap_laws.proofs.OwnerLemmas.{IsOwned-queue_changes, first_there}
use Rattle.kheap_laws.proofs.QueueLemmas.{IsChain-used, OwnsChunks-written, OwnsChunks-fresh, OwnsChunks-drop, OwnsChunks-push, OwnsChunks-begin, IsChain-vacant}
use Rattle.posix_defs.specs.QueuePlace.{QueuePlace, chunks_of, after_take, at_front}
use Rattle.chunk_queue.specs.Chained.{bytes_of, joined, owned, unread, Becomes, Turns, OnlyChunks, PaysChunks, IsQueueIn, place_of}
use Rattle.chunk_queue.proofs.JoinedLemmas.{Contains-cons, Contains-cons_cases, joined-append, joined-same, length-joined, last_split, unread_grows, unread_shrinks}

-- what a queue among others owns
pub owns : (h : Heap) (keys : List ℕ) (parts : QueueParts) (owners : Owners) → IsOwned h (with_queue (owned parts keys) owners) → OwnsChunks h.chunks (owned parts keys)
owns h keys parts owners is = is.queues (owned parts keys) (first_there (owned parts keys) owners.queues)

-- a change of a queue's chunks, and the bytes that it then has
becomes : (old new : Heap) (keys now_keys : List ℕ) (parts now : QueueParts) (owners : Owners) (bytes : List ℕ) → QueueChanges old new (owned parts keys) (owned now now_keys) → unread new.chunks (owned now now_keys) ≡ bytes → IsOwned old (with_queue (owned parts keys) owners) → Becomes old new keys now owners bytes
becomes old new keys now_keys parts now owners bytes changes has is = record {
  now_keys = now_keys;
  is_owned = IsOwned-queue_changes old new owners (owned parts keys) (owned now now_keys) changes is;
  has = has;
  changes = changes.chunks;
}

ChangesKeys-same : (chunks : List (Option Chunk)) (keys : List ℕ) → ChangesKeys chunks chunks keys keys
ChangesKeys-same chunks keys = record {
  outside = λ key outside. refl;
  fresh = λ key here. inl here;
  left = λ key here used. here;
}

-- some bytes of the first chunk are passed, and others of it are left
pub passes_some : (h : Heap) (keys : List ℕ) (parts : QueueParts) (owners : Owners) (count : ℕ) → count < parts.len → parts.place + count < 512 → IsOwned h (with_queue (owned parts keys) owners) → Becomes h h keys (record parts { place = parts.place + count; len = parts.len - count }) owners (drop count (unread h.chunks (owned parts keys)))
passes_some h keys parts owners count some within is =
    let mine = owns h keys parts owners is in
    becomes h h keys keys parts (record parts { place = parts.place + count; len = parts.len - count }) owners (drop count (unread h.chunks (owned parts keys))) (record {
      chunks = ChangesKeys-same h.chunks keys;
      owns = record {
        chain = mine.chain;
        last = mine.last;
        once = mine.once;
        place = within;
        enough = omega (arith, mine.enough);
        needed = omega (arith, mine.needed);
        empty = λ none. absurd (omega (arith, none));
      };
      nodes = refl;
      pages = refl;
    }) (unread_shrinks (joined h.chunks keys) parts.place parts.len count (omega arith)) is

pub gone_is_free : {X : Type 0} (objects : List (Option X)) (key : ℕ) → InUse objects key → InUse (without objects key) key → ⊥
gone_is_free objects key there used = let none = object-without objects key (InUse-within objects key there) in grind arith

-- all bytes are passed, and the one chunk that is left goes back
pub passes_all : (old new : Heap) (keys : List ℕ) (parts : QueueParts) (owners : Owners) (first : ℕ) → parts.first ≡ Some first → parts.place + parts.len ≤ 512 → 0 < parts.len → new.chunks ≡ without old.chunks first → new.nodes ≡ old.nodes → new.pages ≡ old.pages → IsOwned old (with_queue (owned parts keys) owners) → Becomes old new keys empty_queue owners (drop parts.len (unread old.chunks (owned parts keys)))
passes_all old new [] parts owners first is within some chunks nodes pages has = absurd (let mine = owns old [] parts owners has in omega (arith, mine.enough))
passes_all old new (key ∷ other ∷ rest) parts owners first is within some chunks nodes pages has = absurd (let mine = owns old (key ∷ other ∷ rest) parts owners has in omega (arith, mine.needed))
passes_all old new (key ∷ []) parts owners first is within some chunks nodes pages has =
    let mine = owns old (key ∷ []) parts owners has in
    let named : key ≡ first = let there = mine.chain.0 in cc in
    let used : InUse old.chunks first = rw (← named, mine.chain.2) refl in
    becomes old new (key ∷ []) [] parts empty_queue owners (drop parts.len (unread old.chunks (owned parts (key ∷ [])))) (record {
      chunks = rw chunks (record {
        outside = λ k outside. object-without_other old.chunks first k (λ same. outside (0, omega arith, named ∙ sym same));
        fresh = λ k here. absurd (omega (arith, here.1));
        left = λ k here there. absurd (gone k used (Contains-cons_cases key k [] here) there);
      });
      owns = OwnsChunks-fresh new.chunks;
      nodes = nodes;
      pages = pages;
    }) (sym (drop_all parts.len (unread old.chunks (owned parts (key ∷ []))) (rw length-take (omega arith)))) has
  where
    gone : (k : ℕ) → InUse old.chunks first → (key ≡ k) ⊎ Contains [] k → InUse (without old.chunks first) k → ⊥
    gone k used (inl same) there = let named : k ≡ first = let start = (owns old (key ∷ []) parts owners has).chain.0 in cc in gone_is_free old.chunks first used (rw named at there)
    gone k used (inr none) there = omega (arith, none.1)

-- all unread bytes of the first chunk are passed, which goes back, and others are left
pub passes_chunk : (old new : Heap) (keys : List ℕ) (parts : QueueParts) (owners : Owners) (first : ℕ) (chunk : Chunk) (count : ℕ) → length chunk.bytes ≡ 512 → parts.first ≡ Some first → object old.chunks first ≡ Some chunk → parts.place + count ≡ 512 → count < parts.len → new.chunks ≡ without old.chunks first → new.nodes ≡ old.nodes → new.pages ≡ old.pages → IsOwned old (with_queue (owned parts keys) owners) → Becomes old new keys (record parts { first = chunk.next; place = 0; len = parts.len - count }) owners (drop count (unread old.chunks (owned parts keys)))
passes_chunk old new [] parts owners first chunk count long is stored whole some chunks nodes pages has = absurd (let mine = owns old [] parts owners has in omega (arith, mine.enough))
passes_chunk old new (key ∷ []) parts owners first chunk count long is stored whole some chunks nodes pages has = absurd (let mine = owns old (key ∷ []) parts owners has in omega (arith, mine.enough))
passes_chunk old new (key ∷ other ∷ rest) parts owners first chunk count long is stored whole some chunks nodes pages has =
    let mine = owns old (key ∷ other ∷ rest) parts owners has in
    let named : key ≡ first = let there = mine.chain.0 in cc in
    let used : InUse old.chunks first = rw stored refl in
    let apart : (k : ℕ) → Contains (other ∷ rest) k → k ≢ first = λ k there same. IsOnce-head key (other ∷ rest) mine.once (rw (named ∙ sym same) there) in
    let kept : joined new.chunks (other ∷ rest) ≡ joined old.chunks (other ∷ rest) = ap (λ list. joined list (other ∷ rest)) chunks ∙ joined-same old.chunks (without old.chunks first) (other ∷ rest) (λ k there. ap bytes_of (object-without_other old.chunks first k (apart k there))) in
    let front : bytes_of (object old.chunks key) ≡ chunk.bytes = rw (named, stored) refl in
    let passed : drop (parts.place + count) (joined old.chunks (key ∷ other ∷ rest)) ≡ joined old.chunks (other ∷ rest) = rw (whole, front) (drop_at chunk.bytes (joined old.chunks (other ∷ rest)) 512 long) in
    becomes old new (key ∷ other ∷ rest) (other ∷ rest) parts (record parts { first = chunk.next; place = 0; len = parts.len - count }) owners (drop count (unread old.chunks (owned parts (key ∷ other ∷ rest)))) (record {
      chunks = rw chunks (record {
        outside = λ k outside. object-without_other old.chunks first k (λ same. outside (0, omega arith, named ∙ sym same));
        fresh = λ k here. inl (Contains-cons key k (other ∷ rest) here);
        left = λ k here there. stays k used (Contains-cons_cases key k (other ∷ rest) here) there;
      });
      owns = OwnsChunks-drop old.chunks new.chunks parts (record parts { first = chunk.next; place = 0; len = parts.len - count }) key (other ∷ rest) mine (record {
        chunk = chunk;
        is = rw named stored;
        outside = rw (chunks, named) (KeepsOutside-without old.chunks first);
        first = refl;
        last = mine.last;
        place = omega arith;
        enough = omega (arith, mine.enough);
        needed = omega (arith, mine.needed);
        empty = λ none. refl;
      });
      nodes = nodes;
      pages = pages;
    }) (ap (take (parts.len - count)) (kept ∙ sym passed) ∙ unread_shrinks (joined old.chunks (key ∷ other ∷ rest)) parts.place parts.len count (omega arith)) has
  where
    stays : (k : ℕ) → InUse old.chunks first → (key ≡ k) ⊎ Contains (other ∷ rest) k → InUse (without old.chunks first) k → Contains (other ∷ rest) k
    stays k used (inl same) there = absurd (let named : k ≡ first = let start = (owns old (key ∷ other ∷ rest) parts owners has).chain.0 in cc in gone_is_free old.chunks first used (rw named at there))
    stays k used (inr behind) there = behind

-- the first chunk of a queue is in use
pub first_used : (h : Heap) (keys : List ℕ) (parts : QueueParts) (owners : Owners) (first : ℕ) → parts.first ≡ Some first → IsOwned h (with_queue (owned parts keys) owners) → InUse h.chunks first
first_used h [] parts owners first is has = absurd (let none = (owns h [] parts owners has).chain in cc)
first_used h (key ∷ rest) parts owners first is has =
    let mine = owns h (key ∷ rest) parts owners has in
    let named : key ≡ first = let there = mine.chain.0 in cc in
    rw (← named, mine.chain.2) refl

-- where the unread bytes end: in the last chunk, or at its end
ends_in_last : (place len keys front at k : ℕ) → keys ≡ front + 1 → place + len ≤ 512 * keys → 512 * keys < place + len + 512 → at ≡ (place + len) % 512 → 0 < at → place + len ≡ 512 * front + at
ends_in_last place len keys front at k more enough needed is some = omega arith

ends_at_full : (place len keys : ℕ) → place + len ≤ 512 * keys → 512 * keys < place + len + 512 → (place + len) % 512 ≡ 0 → place + len ≡ 512 * keys
ends_at_full place len keys enough needed full = omega arith

-- the bytes of a chunk from a place on
abbrev pub with_bytes : Chunk → ℕ → List ℕ → Chunk
with_bytes chunk at bytes = record chunk { bytes = take at chunk.bytes ++ (bytes ++ drop (at + length bytes) chunk.bytes) }

-- bytes go into the last chunk, which has room for them
pub fills_last : (old new : Heap) (keys : List ℕ) (parts : QueueParts) (owners : Owners) (last at : ℕ) (chunk : Chunk) (bytes : List ℕ) → IsWellFormed old → parts.last ≡ Some last → object old.chunks last ≡ Some chunk → at ≡ (parts.place + parts.len) % 512 → 0 < at → at + length bytes ≤ 512 → new.chunks ≡ put old.chunks last (with_bytes chunk at bytes) → new.nodes ≡ old.nodes → new.pages ≡ old.pages → IsOwned old (with_queue (owned parts keys) owners) → Becomes old new keys (record parts { len = parts.len + length bytes }) owners (unread old.chunks (owned parts keys) ++ bytes)
fills_last old new keys parts owners last at chunk bytes well ends stored at_is some fits chunks nodes pages has =
    let mine = owns old keys parts owners has in
    let split = last_split keys last (sym mine.last ∙ ends) in
    let front = split.0 in
    let long : length keys ≡ length front + 1 = ap length split.1 ∙ length-append front (last ∷ []) in
    let start = ends_in_last parts.place parts.len (length keys) (length front) at 0 long mine.enough mine.needed at_is some in
    let within = InUse-within old.chunks last (rw stored refl) in
    let once = rw split.1 at mine.once in
    let apart : (k : ℕ) → Contains front k → k ≢ last = λ k there same. IsOnce-apart front (last ∷ []) once k there (rw same (first_there last [])) in
    let mine_last : Contains keys last = rw split.1 (Contains-push front last) in
    let in_front : (k : ℕ) → Contains front k → InUse old.chunks k = λ k there. IsChain-used old.chunks parts.first keys mine.chain k (rw split.1 (Contains-append_left front (last ∷ []) k there)) in
    let whole = well.chunk_bytes last chunk stored in
    let before = joined old.chunks front ++ take at chunk.bytes in
    let measured : length before ≡ parts.place + parts.len =
    length-append (joined old.chunks front) (take at chunk.bytes) ∙ sum_of (length (joined old.chunks front)) (length (take at chunk.bytes)) (length front) at (parts.place + parts.len) (length-joined old.chunks front in_front well.chunk_bytes) (length-take-le at chunk.bytes (omega (arith, whole))) start in
    let was : joined old.chunks keys ≡ before ++ drop at chunk.bytes =
    ap (joined old.chunks) split.1 ∙ joined-append old.chunks front (last ∷ []) ∙ ap (λ list. joined old.chunks front ++ list) (one old.chunks last chunk stored ∙ sym (take-append-drop at chunk.bytes)) ∙ sym (append_assoc (joined old.chunks front) (take at chunk.bytes) (drop at chunk.bytes)) in
    let same : joined new.chunks front ≡ joined old.chunks front = ap (λ list. joined list front) chunks ∙ joined-same old.chunks (put old.chunks last (with_bytes chunk at bytes)) front (λ k there. ap bytes_of (object-put_other old.chunks last k (with_bytes chunk at bytes) (apart k there))) in
    let is_now : joined new.chunks keys ≡ before ++ (bytes ++ drop (at + length bytes) chunk.bytes) =
    ap (joined new.chunks) split.1 ∙ joined-append new.chunks front (last ∷ []) ∙ ap (λ list. list ++ joined new.chunks (last ∷ [])) same
    ∙ ap (λ list. joined old.chunks front ++ list) (one new.chunks last (with_bytes chunk at bytes) (ap (λ list. object list last) chunks ∙ object-put old.chunks last (with_bytes chunk at bytes) within))
    ∙ sym (append_assoc (joined old.chunks front) (take at chunk.bytes) (bytes ++ drop (at + length bytes) chunk.bytes)) in
    let written = OwnsChunks-written old.chunks (owned parts keys) last chunk (with_bytes chunk at bytes) stored refl mine in
    becomes old new keys keys parts (record parts { len = parts.len + length bytes }) owners (unread old.chunks (owned parts keys) ++ bytes) (record {
      chunks = rw chunks (record {
        outside = λ k outside. object-put_other old.chunks last k (with_bytes chunk at bytes) (λ it. outside (Contains-append_left keys keys k (rw it mine_last)));
        fresh = λ k here. inl here;
        left = λ k here used. here;
      });
      owns = rw chunks (record {
        chain = written.chain;
        last = mine.last;
        once = mine.once;
        place = mine.place;
        enough = omega (arith, start, long, fits);
        needed = omega (arith, mine.needed);
        empty = λ none. mine.empty (omega (arith, none));
      });
      nodes = nodes;
      pages = pages;
    }) (ap (λ list. take (parts.len + length bytes) (drop parts.place list)) is_now ∙ unread_grows before (drop at chunk.bytes) bytes (drop (at + length bytes) chunk.bytes) parts.place parts.len measured ∙ ap (λ list. take parts.len (drop parts.place list) ++ bytes) (sym was)) has
  where
    one : (chunks : List (Option Chunk)) (key : ℕ) (chunk : Chunk) → object chunks key ≡ Some chunk → joined chunks (key ∷ []) ≡ chunk.bytes
    one chunks key chunk is = rw is (append-nil chunk.bytes)

    sum_of : (a b front at end : ℕ) → a ≡ 512 * front → b ≡ at → end ≡ 512 * front + at → a + b ≡ end
    sum_of a b front at end one other is = omega arith

-- the last chunk of a queue is in use
pub last_used : (h : Heap) (keys : List ℕ) (parts : QueueParts) (owners : Owners) (last : ℕ) → parts.last ≡ Some last → IsOwned h (with_queue (owned parts keys) owners) → InUse h.chunks last
last_used h keys parts owners last is has =
    let mine = owns h keys parts owners has in
    let split = last_split keys last (sym mine.last ∙ is) in
    IsChain-used h.chunks parts.first keys mine.chain last (rw split.1 (Contains-push split.0 last))

-- a queue without a last chunk has none
no_chunks : (keys : List ℕ) → last_of keys ≡ None → keys ≡ []
no_chunks [] none = refl
no_chunks (only ∷ []) none = absurd (cc)
no_chunks (head ∷ other ∷ rest) none = absurd (let none_behind = no_chunks (other ∷ rest) none in cc)

one_chunk : (chunks : List (Option Chunk)) (key : ℕ) (chunk : Chunk) → object chunks key ≡ Some chunk → joined chunks (key ∷ []) ≡ chunk.bytes
one_chunk chunks key chunk is = rw is (append-nil chunk.bytes)

-- a queue without chunks gets its first
pub begins : (old new : Heap) (keys : List ℕ) (parts : QueueParts) (owners : Owners) (key : ℕ) (added : Chunk) (bytes behind : List ℕ) → parts.last ≡ None → object old.chunks key ≡ None → object new.chunks key ≡ Some added → added.next ≡ None → added.bytes ≡ bytes ++ behind → 0 < length bytes → length bytes ≤ 512 → new.chunks ≡ put old.chunks key added → new.nodes ≡ old.nodes → new.pages ≡ old.pages → IsOwned old (with_queue (owned parts keys) owners) → Becomes old new keys (record { first = Some key; last = Some key; place = parts.place; len = parts.len + length bytes }) owners (unread old.chunks (owned parts keys) ++ bytes)
begins old new keys parts owners key added bytes behind ends vacant stored no_next bytes_are some fits chunks nodes pages has =
    let mine = owns old keys parts owners has in
    let none = no_chunks keys (sym mine.last ∙ ends) in
    let empty : parts.place + parts.len ≡ 0 = let enough = mine.enough in let short : length keys ≡ 0 = ap length none in omega arith in
    let place : parts.place ≡ 0 = omega arith in
    let len : parts.len ≡ 0 = omega arith in
    let now : QueueParts = record { first = Some key; last = Some key; place = parts.place; len = parts.len + length bytes } in
    becomes old new keys (key ∷ []) parts now owners (unread old.chunks (owned parts keys) ++ bytes) (record {
      chunks = rw chunks (record {
        outside = λ k outside. object-put_other old.chunks key k added (λ same. outside (Contains-append_right keys (key ∷ []) k (rw same (first_there key []))));
        fresh = λ k here. inr (new_key k (Contains-cons_cases key k [] here));
        left = λ k here used. absurd (omega (arith, here.1, ap length none));
      });
      owns = OwnsChunks-begin new.chunks now key (record {
        added = added;
        stored = stored;
        no_next = no_next;
        first = refl;
        last = refl;
        place = place;
        some = omega arith;
        most = omega arith;
      });
      nodes = nodes;
      pages = pages;
    }) (rw (place, len, one_chunk new.chunks key added stored, bytes_are) (unread_grows [] [] bytes behind 0 0 refl)) has
  where
    new_key : (k : ℕ) → (key ≡ k) ⊎ Contains [] k → object old.chunks k ≡ None
    new_key k (inl same) = rw (← same) vacant
    new_key k (inr none) = absurd (omega (arith, none.1))

-- a queue whose chunks are full gets one more
pub grows : (old new : Heap) (keys : List ℕ) (parts : QueueParts) (owners : Owners) (last key : ℕ) (before added : Chunk) (bytes behind : List ℕ) → IsWellFormed old → parts.last ≡ Some last → object old.chunks last ≡ Some before → object old.chunks key ≡ None → object (put old.chunks key added) key ≡ Some added → added.next ≡ None → added.bytes ≡ bytes ++ behind → 0 < length bytes → length bytes ≤ 512 → (parts.place + parts.len) % 512 ≡ 0 → new.chunks ≡ put (put old.chunks key added) last (record before { next = Some key }) → new.nodes ≡ old.nodes → new.pages ≡ old.pages → IsOwned old (with_queue (owned parts keys) owners) → Becomes old new keys (record { first = parts.first; last = Some key; place = parts.place; len = parts.len + length bytes }) owners (unread old.chunks (owned parts keys) ++ bytes)
grows old new keys parts owners last key before added bytes behind well ends stored vacant put_there no_next bytes_are some fits full chunks nodes pages has =
    let mine = owns old keys parts owners has in
    let end = ends_at_full parts.place parts.len (length keys) mine.enough mine.needed full in
    let split = last_split keys last (sym mine.last ∙ ends) in
    let mine_last : Contains keys last = rw split.1 (Contains-push split.0 last) in
    let apart : (k : ℕ) → Contains keys k → k ≢ key = λ k there same. IsChain-vacant old.chunks parts.first keys key mine.chain vacant (rw same at there) in
    let linked : Chunk = record before { next = Some key } in
    let used : InUse (put old.chunks key added) last = rw (object-put_other old.chunks key last added (apart last mine_last), stored) refl in
    let linked_is : object new.chunks last ≡ Some linked = ap (λ list. object list last) chunks ∙ object-put (put old.chunks key added) last linked (InUse-within (put old.chunks key added) last used) in
    let added_is : object new.chunks key ≡ Some added = ap (λ list. object list key) chunks ∙ object-put_other (put old.chunks key added) last key linked (λ same. apart last mine_last (sym same)) ∙ put_there in
    let other_is : (k : ℕ) → k ≢ last → k ≢ key → object new.chunks k ≡ object old.chunks k = λ k one two. ap (λ list. object list k) chunks ∙ object-put_other (put old.chunks key added) last k linked one ∙ object-put_other old.chunks key k added two in
    let same : joined new.chunks keys ≡ joined old.chunks keys = joined-same old.chunks new.chunks keys (λ k there. elim (cases_eq k last) [
      | inl it ↦ rw (it, linked_is, stored) refl
      | inr differs ↦ ap bytes_of (other_is k differs (apart k there))
    ]) in
    let measured : length (joined old.chunks keys) ≡ parts.place + parts.len = length-joined old.chunks keys (IsChain-used old.chunks parts.first keys mine.chain) well.chunk_bytes ∙ sym end in
    let now : QueueParts = record { first = parts.first; last = Some key; place = parts.place; len = parts.len + length bytes } in
    let is_now : joined new.chunks (keys ++ key ∷ []) ≡ joined old.chunks keys ++ (bytes ++ behind) =
    joined-append new.chunks keys (key ∷ []) ∙ ap (λ list. list ++ joined new.chunks (key ∷ [])) same ∙ ap (λ list. joined old.chunks keys ++ list) (one_chunk new.chunks key added added_is ∙ bytes_are) in
    becomes old new keys (keys ++ key ∷ []) parts now owners (unread old.chunks (owned parts keys) ++ bytes) (record {
      chunks = record {
        outside = λ k outside. other_is k (λ it. outside (Contains-append_left keys (keys ++ key ∷ []) k (rw it mine_last))) (λ it. outside (Contains-append_right keys (keys ++ key ∷ []) k (rw it (Contains-push keys key))));
        fresh = λ k here. new_key k (Contains-append_cases keys (key ∷ []) k here);
        left = λ k here there. Contains-append_left keys (key ∷ []) k here;
      };
      owns = OwnsChunks-push old.chunks new.chunks (owned parts keys) now key mine (record {
        end = last;
        linked = linked;
        added = added;
        end_is = ends;
        linked_is = linked_is;
        link = refl;
        vacant = vacant;
        added_is = added_is;
        no_next = no_next;
        outside = λ k outside. other_is k (λ it. outside (rw it (first_there last (key ∷ [])))) (λ it. outside (Contains-cons last k (key ∷ []) (rw it (first_there key []))));
        first = refl;
        last = refl;
        place = refl;
        longer = omega arith;
        above = omega (arith, end, some);
        within = omega (arith, end, fits);
      });
      nodes = nodes;
      pages = pages;
    }) (ap (λ list. take (parts.len + length bytes) (drop parts.place list)) is_now ∙ unread_grows (joined old.chunks keys) [] bytes behind parts.place parts.len measured ∙ ap (λ list. take parts.len (drop parts.place list) ++ bytes) (append-nil (joined old.chunks keys))) has
  where
    new_key : (k : ℕ) → Contains keys k ⊎ Contains (key ∷ []) k → Contains keys k ⊎ (object old.chunks k ≡ None)
    new_key k (inl there) = inl there
    new_key k (inr it) = inr (rw (← Contains-single key k it) vacant)

-- a chunk in use stays in use where another comes
pub used_still : (chunks : List (Option Chunk)) (key last : ℕ) (added : Chunk) → object chunks key ≡ None → InUse chunks last → InUse (put chunks key added) last
used_still chunks key last added vacant used = elim (cases_eq last key) [
  | inl same ↦ absurd (unused (rw same at used))
  | inr differs ↦ rw (object-put_other chunks key last added differs) used
]
  where
    unused : InUse chunks key → ⊥
    unused there = grind arith

-- two changes of chunks alone
pub only_chunks : (old mid new : Heap) (first second : List (Option Chunk)) (high : ℕ) → mid ≡ record old { chunks = first; high = high } → new ≡ record mid { chunks = second } → OnlyChunks old new
only_chunks old mid new first second high one two = rw (two, one) refl

-- a chunk in use was there before another came
pub was_there : (chunks : List (Option Chunk)) (key last : ℕ) (added before : Chunk) → object chunks key ≡ None → InUse chunks last → object (put chunks key added) last ≡ Some before → object chunks last ≡ Some before
was_there chunks key last added before vacant used is = elim (cases_eq last key) [
  | inl same ↦ absurd (unused (rw same at used))
  | inr differs ↦ sym (object-put_other chunks key last added differs) ∙ is
]
  where
    unused : InUse chunks key → ⊥
    unused there = grind arith

-- a queue without a last chunk is empty
pub empty_without_last : (h : Heap) (keys : List ℕ) (parts : QueueParts) (owners : Owners) → parts.last ≡ None → IsOwned h (with_queue (owned parts keys) owners) → parts.place + parts.len ≡ 0
empty_without_last h keys parts owners ends has =
    let mine = owns h keys parts owners has in
    let short : length keys ≡ 0 = ap length (no_chunks keys (sym mine.last ∙ ends)) in
    none (parts.place + parts.len) (length keys) mine.enough short
  where
    none : (n k : ℕ) → n ≤ 512 * k → k ≡ 0 → n ≡ 0
    none n k most is_zero = omega arith

-- how many chunks bytes take that are there
pub chunks_some : (place len : ℕ) → 0 < len → chunks_of (record { place = place; len = len }) ≡ (place + len + 511) / 512
chunks_some place zero some = absurd (omega (arith, some))
chunks_some place (suc n) some = rw (not_none (suc n) some) refl
  where
    not_none : (k : ℕ) → 0 < k → (k == 0) ≡ false
    not_none k more = grind (arith, nat_tests)

-- bytes that fit into the last chunk make none
pub chunks_filled : (place len count : ℕ) → (len ≡ 0 → place ≡ 0) → 0 < (place + len) % 512 → (place + len) % 512 + count ≤ 512 → chunks_of (record { place = place; len = len + count }) ≡ chunks_of (record { place = place; len = len })
chunks_filled place zero count front begun fits = absurd (let none = front refl in omega arith)
chunks_filled place (suc n) count front begun fits =
    chunks_some place (suc n + count) (omega arith) ∙ same (place + suc n) (place + (suc n + count)) count (omega arith) begun fits ∙ sym (chunks_some place (suc n) (omega arith))
  where
    same : (a b count : ℕ) → b ≡ a + count → 0 < a % 512 → a % 512 + count ≤ 512 → (b + 511) / 512 ≡ (a + 511) / 512
    same a b count is begun fits = omega arith

-- the bytes that a chunk has from the queue's place on are unread ones
pub front_bytes : (h : Heap) (keys : List ℕ) (parts : QueueParts) (owners : Owners) (first : ℕ) (chunk : Chunk) (count : ℕ) → length chunk.bytes ≡ 512 → parts.first ≡ Some first → object h.chunks first ≡ Some chunk → count ≤ parts.len → parts.place + count ≤ 512 → IsOwned h (with_queue (owned parts keys) owners) → take count (drop parts.place chunk.bytes) ≡ take count (unread h.chunks (owned parts keys))
front_bytes h [] parts owners first chunk count long is stored there within has = absurd (let none = (owns h [] parts owners has).chain in cc)
front_bytes h (key ∷ rest) parts owners first chunk count long is stored there within has =
    let mine = owns h (key ∷ rest) parts owners has in
    let named : key ≡ first = let start = mine.chain.0 in cc in
    let front : bytes_of (object h.chunks key) ≡ chunk.bytes = rw (named, stored) refl in
    let left = drop-append-le parts.place chunk.bytes (joined h.chunks rest) (omega (arith, long, within)) in
    let enough : count ≤ length (drop parts.place chunk.bytes) = rw length-drop (omega (arith, long, within)) in
    rw front (sym (take-take count parts.len (drop parts.place (chunk.bytes ++ joined h.chunks rest)) there ∙ ap (take count) left ∙ take-append-le count (drop parts.place chunk.bytes) (joined h.chunks rest) enough))

-- a queue with bytes has a first chunk
pub first_there_is : (h : Heap) (keys : List ℕ) (parts : QueueParts) (owners : Owners) → parts.first ≡ None → IsOwned h (with_queue (owned parts keys) owners) → parts.len ≡ 0
first_there_is h [] parts owners none has = let mine = owns h [] parts owners has in omega (arith, mine.enough)
first_there_is h (key ∷ rest) parts owners none has = absurd (let some = (owns h (key ∷ rest) parts owners has).chain.0 in cc)

-- two changes of a queue's chunks, one after the other
pub ChangesKeys-trans : (a b c : List (Option Chunk)) (first second third : List ℕ) → ChangesKeys a b first second → ChangesKeys b c second third → ChangesKeys a c first third
ChangesKeys-trans a b c first second third one two = record {
  outside = λ key outside. elim (contains_or_not second key) [
    | inl between ↦ both_free key (fresh_then key between outside) (gone key between outside)
    | inr apart ↦ two.outside key (λ named. neither second third key apart (λ there. outside (Contains-append_right first third key there)) named) ∙ one.outside key (λ named. neither first second key (λ there. outside (Contains-append_left first third key there)) apart named)
  ];
  fresh = λ key here. elim (two.fresh key here) [
    | inl between ↦ one.fresh key between
    | inr vacant ↦ was_vacant key vacant (contains_or_not first key)
  ];
  left = λ key there used. elim (contains_or_not second key) [
    | inl between ↦ two.left key between used
    | inr apart ↦ elim (contains_or_not third key) [
      | inl here ↦ here
      | inr away ↦ absurd (apart (one.left key there (rw (← two.outside key (λ named. neither second third key apart away named)) used)))
    ]
  ];
}
  where
    neither : (left right : List ℕ) (key : ℕ) → (Contains left key → ⊥) → (Contains right key → ⊥) → Contains (left ++ right) key → ⊥
    neither left right key here_not there_not named = elim (Contains-append_cases left right key named) [
      | inl there ↦ here_not there
      | inr there ↦ there_not there
    ]

    fresh_then : (key : ℕ) → Contains second key → (Contains (first ++ third) key → ⊥) → object a key ≡ None
    fresh_then key between outside = elim (one.fresh key between) [
      | inl there ↦ absurd (outside (Contains-append_left first third key there))
      | inr vacant ↦ vacant
    ]

    gone : (key : ℕ) → Contains second key → (Contains (first ++ third) key → ⊥) → InUse c key → ⊥
    gone key between outside used = outside (Contains-append_right first third key (two.left key between used))

    none_there : (o : Option Chunk) → (IsSome o → ⊥) → o ≡ None
    none_there None unused = refl
    none_there (Some chunk) unused = absurd (unused refl)

    both_free : (key : ℕ) → object a key ≡ None → (InUse c key → ⊥) → object c key ≡ object a key
    both_free key vacant unused = none_there (object c key) unused ∙ sym vacant

    was_vacant : (key : ℕ) → object b key ≡ None → Contains first key ⊎ (Contains first key → ⊥) → Contains first key ⊎ (object a key ≡ None)
    was_vacant key vacant (inl there) = inl there
    was_vacant key vacant (inr absent) = elim (contains_or_not second key) [
      | inl between ↦ one.fresh key between
      | inr apart ↦ inr (sym (one.outside key (λ named. neither first second key absent apart named)) ∙ vacant)
    ]

-- two turns of a queue, one after the other
pub Turns-trans : (old mid new : Heap) (first second third : QueueParts) (f g : List ℕ → List ℕ) → Turns old mid first second f → Turns mid new second third g → Turns old new first third (λ bytes. g (f bytes))
Turns-trans old mid new first second third f g one two keys owners is =
    let begun = one keys owners is in
    let done = two begun.now_keys owners begun.is_owned in
    record {
      now_keys = done.now_keys;
      is_owned = done.is_owned;
      has = done.has ∙ ap g begun.has;
      changes = ChangesKeys-trans old.chunks mid.chunks new.chunks keys begun.now_keys done.now_keys begun.changes done.changes;
    }

-- a turn told in another way
pub Turns-as : (old new : Heap) (first second : QueueParts) (f g : List ℕ → List ℕ) → ((bytes : List ℕ) → f bytes ≡ g bytes) → Turns old new first second f → Turns old new first second g
Turns-as old new first second f g same turns keys owners is =
    let done = turns keys owners is in
    record {
      now_keys = done.now_keys;
      is_owned = done.is_owned;
      has = done.has ∙ same (unread old.chunks (owned first keys));
      changes = done.changes;
    }

pub OnlyChunks-trans : (old mid new : Heap) (first second : List (Option Chunk)) (high then : ℕ) → mid ≡ record old { chunks = first; high = high } → new ≡ record mid { chunks = second; high = then } → new ≡ record old { chunks = second; high = then }
OnlyChunks-trans old mid new first second high then one two = rw one at two

pub PaysChunks-trans : (first second third : Purse) → PaysChunks first second → PaysChunks second third → PaysChunks first third
PaysChunks-trans first second third one two =
    two ∙ ap (λ (p : Purse). record p { left = with_count p.left class.Chunk third.left.chunk }) one

-- a full queue gets one more chunk by a piece
pub chunks_grown : (place len count : ℕ) → (len ≡ 0 → place ≡ 0) → (place + len) % 512 ≡ 0 → 0 < count → count ≤ 512 → chunks_of (record { place = place; len = len + count }) ≡ chunks_of (record { place = place; len = len }) + 1
chunks_grown place zero count front full some fits =
    let none = front refl in
    chunks_some place (0 + count) (omega arith) ∙ one (place + (0 + count)) (omega arith) (omega arith)
  where
    one : (n : ℕ) → 0 < n → n ≤ 512 → (n + 511) / 512 ≡ 1
    one n more most = omega arith
chunks_grown place (suc n) count front full some fits =
    chunks_some place (suc n + count) (omega arith) ∙ more (place + suc n) (place + (suc n + count)) count (omega arith) full some fits ∙ ap (λ (k : ℕ). k + 1) (sym (chunks_some place (suc n) (omega arith)))
  where
    more : (a b count : ℕ) → b ≡ a + count → a % 512 ≡ 0 → 0 < count → count ≤ 512 → (b + 511) / 512 ≡ (a + 511) / 512 + 1
    more a b count is full some fits = omega arith

-- a queue is one of the heap's still
pub still_in : (old new : Heap) (first second : QueueParts) (f : List ℕ → List ℕ) → Turns old new first second f → IsQueueIn old first → IsQueueIn new second
still_in old new first second f turns is = let done = turns is.0 is.1 is.2 in (done.now_keys, is.1, done.is_owned)

-- a queue with a chunk has bytes
pub some_bytes : (h : Heap) (keys : List ℕ) (parts : QueueParts) (owners : Owners) (first : ℕ) → parts.first ≡ Some first → IsOwned h (with_queue (owned parts keys) owners) → 0 < parts.len
some_bytes h [] parts owners first is has = absurd (let none = (owns h [] parts owners has).chain in cc)
some_bytes h (key ∷ rest) parts owners first is has =
    let mine = owns h (key ∷ rest) parts owners has in
    more parts.place parts.len (length rest) (omega (arith, mine.needed)) mine.empty
  where
    more : (place len n : ℕ) → 0 < place + len → (len ≡ 0 → place ≡ 0) → 0 < len
    more place zero n sum front = absurd (let none = front refl in omega arith)
    more place (suc len) n sum front = omega arith

-- a queue whose bytes were all taken has none
pub Turns-empty : (old new : Heap) (first second : QueueParts) (f : List ℕ → List ℕ) → second.len ≡ 0 → Turns old new first second f → Turns old new first second (λ bytes. [])
Turns-empty old new first second f none turns keys owners is =
    let done = turns keys owners is in
    record {
      now_keys = done.now_keys;
      is_owned = done.is_owned;
      has = ap (λ (n : ℕ). take n (drop second.place (joined new.chunks done.now_keys))) none;
      changes = done.changes;
    }

abbrev at : ℕ → ℕ → QueuePlace
at place len = record { place = place; len = len }

le_true : (a b : ℕ) → a ≤ b → nat_le a b ≡ true
le_true a b le = grind (arith, nat_tests)

le_false : (a b : ℕ) → b < a → nat_le a b ≡ false
le_false a b lt = grind (arith, nat_tests)

-- how many bytes are left when some are taken, and where the queue is when all are
pub len_taken : (queue : QueuePlace) (n : ℕ) → (after_take queue n).len ≡ queue.len - n
len_taken queue n = elim (cases_lt n queue.len) [
  | inl some ↦ rw (le_false queue.len n some) refl
  | inr all ↦ rw (le_true queue.len n all) (omega arith)
]

pub taken_all : (queue : QueuePlace) (n : ℕ) → queue.len ≤ n → after_take queue n ≡ at_front
taken_all queue n all = rw (le_true queue.len n all) refl

both : (p q k l : ℕ) → p ≡ q → k ≡ l → at p k ≡ at q l
both p q k l one other = rw (one, other) refl

pub minus_zero : (n : ℕ) → n - 0 ≡ n
minus_zero n = omega arith

-- bytes taken in two steps
pub taken_twice : (queue : QueuePlace) (a b : ℕ) → after_take (after_take queue a) b ≡ after_take queue (a + b)
taken_twice queue a b = elim (cases_lt a queue.len) [
  | inl some ↦ elim (cases_lt (a + b) queue.len) [
    | inl more ↦ rw (le_false queue.len a some, le_false queue.len (a + b) more, le_false (queue.len - a) b (omega arith)) (both (((queue.place + a) % 512 + b) % 512) ((queue.place + (a + b)) % 512) (queue.len - a - b) (queue.len - (a + b)) (omega arith) (omega arith))
    | inr rest ↦ rw (le_false queue.len a some, le_true queue.len (a + b) rest, le_true (queue.len - a) b (omega arith)) refl
  ]
  | inr all ↦ rw (le_true queue.len a all, le_true queue.len (a + b) (omega arith), le_true 0 b (omega arith)) refl
]

-- nothing was taken yet
pub taken_none : (h : Heap) (keys : List ℕ) (parts : QueueParts) (owners : Owners) → IsOwned h (with_queue (owned parts keys) owners) → place_of parts ≡ after_take (place_of parts) 0
taken_none h keys parts owners has =
    let mine = owns h keys parts owners has in
    elim (cases_lt 0 parts.len) [
      | inl some ↦ rw (le_false parts.len 0 some) (both parts.place ((parts.place + 0) % 512) parts.len (parts.len - 0) (omega (arith, mine.place)) (omega arith))
      | inr none ↦ (
          let len : parts.len ≡ 0 = omega arith in
          rw (le_true parts.len 0 none, len, mine.empty len) refl
          )
    ]

pub Turns-none : (h : Heap) (parts : QueueParts) → Turns h h parts parts (drop 0)
Turns-none h parts keys owners is = record {
  now_keys = keys;
  is_owned = is;
  has = refl;
  changes = ChangesKeys-same h.chunks keys;
}

-- what stands in a buffer after one more piece
pub out_joins : (before out after bytes behind : List ℕ) (done next : ℕ) → done ≤ next → next ≤ length before → length out ≡ length before → out ≡ take done bytes ++ drop done before → behind ≡ drop done bytes → after ≡ take done out ++ (take (next - done) behind ++ drop next out) → after ≡ take next bytes ++ drop next before
out_joins before out after bytes behind done next more within same is behind_is stands =
    let measured : length (take done bytes) + length (drop done before) ≡ length before = sym (length-append (take done bytes) (drop done before)) ∙ sym (ap length is) ∙ same in
    let long : length (take done bytes) ≡ done = from (length (take done bytes)) (length (drop done before)) (length before) done measured (length-drop done before) (omega arith) in
    let front : take done out ≡ take done bytes = ap (take done) is ∙ take_at (take done bytes) (drop done before) done long in
    let back : drop next out ≡ drop next before =
    ap (drop next) is ∙ ap (λ (n : ℕ). drop n (take done bytes ++ drop done before)) (sum (length (take done bytes)) done next long more) ∙ drop-append-add (take done bytes) (drop done before) (next - done)
    ∙ drop-drop (next - done) done before ∙ ap (λ (n : ℕ). drop n before) (whole done next more) in
    let middle : take done bytes ++ take (next - done) (drop done bytes) ≡ take next bytes = sym (take-add done (next - done) bytes) ∙ ap (λ (n : ℕ). take n bytes) (whole done next more) in
    stands ∙ rw (front, back, behind_is) (sym (append_assoc (take done bytes) (take (next - done) (drop done bytes)) (drop next before)) ∙ ap (λ list. list ++ drop next before) middle)
  where
    whole : (done next : ℕ) → done ≤ next → done + (next - done) ≡ next
    whole done next more = omega arith

    sum : (n done next : ℕ) → n ≡ done → done ≤ next → next ≡ n + (next - done)
    sum n done next long more = omega arith

    from : (a b n done : ℕ) → a + b ≡ n → b ≡ n - done → done ≤ n → a ≡ done
    from a b n done sum rest within = omega arith

-- bytes that are put make no more chunks than they begin
pub chunks_put : (place len n : ℕ) → place < 512 → (len ≡ 0 → place ≡ 0) → 0 < n → chunks_of (record { place = place; len = len + n }) ≤ chunks_of (record { place = place; len = len }) + (n + 511) / 512
chunks_put place zero n within front some =
    let none = front refl in
    rw (none, chunks_some 0 (0 + n) (omega arith)) (omega arith)
chunks_put place (suc k) n within front some =
    rw (chunks_some place (suc k + n) (omega arith), chunks_some place (suc k) (omega arith)) (both_parts (place + suc k) (place + (suc k + n)) n (omega arith))
  where
    both_parts : (a b n : ℕ) → b ≡ a + n → (b + 511) / 512 ≤ (a + 511) / 512 + (n + 511) / 512
    both_parts a b n sum = omega arith

-- a full queue has more chunks with more bytes
pub chunks_more : (place len n : ℕ) → (len ≡ 0 → place ≡ 0) → (place + len) % 512 ≡ 0 → 0 < n → chunks_of (record { place = place; len = len }) < chunks_of (record { place = place; len = len + n })
chunks_more place zero n front full some = rw (chunks_some place (0 + n) (omega arith)) (omega (arith, some))
chunks_more place (suc k) n front full some =
    rw (chunks_some place (suc k) (omega arith), chunks_some place (suc k + n) (omega arith)) (above (place + suc k) (place + (suc k + n)) n (omega arith) full some)
  where
    above : (a b n : ℕ) → b ≡ a + n → a % 512 ≡ 0 → 0 < n → (a + 511) / 512 < (b + 511) / 512
    above a b n sum full some = omega arith
