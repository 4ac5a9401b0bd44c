-- One owner of a heap's objects moves, comes, goes or changes what it owns, and all others own what they did.
use Rattle.std.proofs.Common.{◌≡◌, ◌≢◌, ◌⊎◌, ℕ, zero, suc, ◌<◌, ◌/◌, List, [], ◌∷◌, ◌++◌, Option, Some, None, map, replicate, mul-zero, length, get_or, set, refl, sym, ap, ◌∙◌, inl, inr, arith, Contains}
use Rattle.std.proofs.lemmas.Bool.{cases_eq, cases_lt}
use Rattle.std.proofs.lemmas.List.{get_or-replicate, get_or_past, length-replicate}
use Rattle.std.proofs.lemmas.List.Folds.{sum_by-replicate}
use Rattle.std.proofs.lemmas.List.Elements.{Contains-append_left, Contains-append_right, Contains-append_cases}
use Rattle.std.specs.List.{concat}
use Rattle.slab.proofs.SlabLemmas.{Contains-cons, Contains-cons_cases}
use Rattle.kabi_types.specs.Class.{size}
use Rattle.kabi_types.specs.declared.classes.Class.TheVariants as class
use Rattle.kheap_slabs.specs.Objects.{object, InUse, put, without}
use Rattle.kheap_slabs.specs.declared.objects.Chunk.{Chunk}
use Rattle.kheap_slabs.specs.declared.objects.Node.{Node}
use Rattle.kheap_slabs.specs.Heap.{Heap, empty_heap}
use Rattle.kheap_slabs.specs.Keys.{IsOnce, Apart, AreKeysOf, Splits}
use Rattle.kheap_slabs.specs.Queues.{OwnedQueue, fresh_queue}
use Rattle.kheap_slabs.specs.Spaces.{mapped_count, keys_in, OwnsNodes, names_in, page_count, IsCounted}
use Rattle.kheap_slabs.specs.Owners.{Owners, with_space, with_queue, node_keys, chunk_keys, IsOwned, SpaceChanges, QueueChanges, OwnsItsObjects, spaces_of, pipe_queues, sock_queues}
use Rattle.kheap_slabs.proofs.ObjectLemmas.{InUse-within, InUse-put, put-within, object-put, object-put_other, object-without, object-without_other}
use Rattle.kheap_laws.proofs.OnceLemmas.{IsOnce-head, IsOnce-tail, IsOnce-cons, IsOnce-left, IsOnce-apart}
use Rattle.kheap_laws.proofs.KeyLemmas.{contains_or_not, Splits-to_front, Splits-from_front, AreKeysOf-to_front, AreKeysOf-from_front, ChangesKeys-apart, AreKeysOf-changes, IsOnce-swap}
use Rattle.kheap_laws.proofs.QueueLemmas.{IsChain-used, OwnsChunks-apart, OwnsChunks-none, OwnsChunks-fresh, OwnsChunks-written}

-- one space moves to the front, and back to its place
pub IsOwned-space_to_front : (h : Heap) (owners : Owners) (space : List (Option ℕ)) (rest : List (List (Option ℕ))) → Splits owners.spaces space rest → IsOwned h owners → IsOwned h (record owners { spaces = space ∷ rest })
IsOwned-space_to_front h owners space rest split owned = record {
  nodes = AreKeysOf-to_front h.nodes keys_in owners.spaces space rest split owned.nodes;
  mapped = owned.mapped;
  pages = owned.pages;
  chunks = owned.chunks;
  queues = owned.queues;
}

pub IsOwned-space_from_front : (h : Heap) (owners : Owners) (space : List (Option ℕ)) (rest : List (List (Option ℕ))) → Splits owners.spaces space rest → IsOwned h (record owners { spaces = space ∷ rest }) → IsOwned h owners
IsOwned-space_from_front h owners space rest split owned = record {
  nodes = AreKeysOf-from_front h.nodes keys_in owners.spaces space rest split owned.nodes;
  mapped = owned.mapped;
  pages = owned.pages;
  chunks = owned.chunks;
  queues = owned.queues;
}

-- one queue moves to the front, and back to its place
pub IsOwned-queue_to_front : (h : Heap) (owners : Owners) (queue : OwnedQueue) (rest : List OwnedQueue) → Splits owners.queues queue rest → IsOwned h owners → IsOwned h (record owners { queues = queue ∷ rest })
IsOwned-queue_to_front h owners queue rest split owned = record {
  nodes = owned.nodes;
  mapped = owned.mapped;
  pages = owned.pages;
  chunks = AreKeysOf-to_front h.chunks (λ (one : OwnedQueue). one.chunks) owners.queues queue rest split owned.chunks;
  queues = λ one there. owned.queues one (Splits-from_front owners.queues queue rest split one there);
}

pub IsOwned-queue_from_front : (h : Heap) (owners : Owners) (queue : OwnedQueue) (rest : List OwnedQueue) → Splits owners.queues queue rest → IsOwned h (record owners { queues = queue ∷ rest }) → IsOwned h owners
IsOwned-queue_from_front h owners queue rest split owned = record {
  nodes = owned.nodes;
  mapped = owned.mapped;
  pages = owned.pages;
  chunks = AreKeysOf-from_front h.chunks (λ (one : OwnedQueue). one.chunks) owners.queues queue rest split owned.chunks;
  queues = λ one there. owned.queues one (Splits-to_front owners.queues queue rest split one there);
}

-- a space without nodes comes and goes
pub IsOwned-space_joins : (h : Heap) (owners : Owners) (space : List (Option ℕ)) → keys_in space ≡ [] → IsOwned h owners → IsOwned h (with_space space owners)
IsOwned-space_joins h owners space none owned = record {
  nodes = rw none owned.nodes;
  mapped = owned.mapped;
  pages = owned.pages;
  chunks = owned.chunks;
  queues = owned.queues;
}

pub IsOwned-space_leaves : (h : Heap) (owners : Owners) (space : List (Option ℕ)) → keys_in space ≡ [] → IsOwned h (with_space space owners) → IsOwned h owners
IsOwned-space_leaves h owners space none owned = record {
  nodes = rw none at owned.nodes;
  mapped = owned.mapped;
  pages = owned.pages;
  chunks = owned.chunks;
  queues = owned.queues;
}

-- a queue without bytes comes and goes
pub IsOwned-queue_joins : (h : Heap) (owners : Owners) → IsOwned h owners → IsOwned h (with_queue fresh_queue owners)
IsOwned-queue_joins h owners owned = record {
  nodes = owned.nodes;
  mapped = owned.mapped;
  pages = owned.pages;
  chunks = owned.chunks;
  queues = λ one there. elim (Contains-cons_cases fresh_queue one owners.queues there) [
    | inl same ↦ rw (← same) (OwnsChunks-fresh h.chunks)
    | inr behind ↦ owned.queues one behind
  ];
}

pub first_there : {Y : Type 0} (first : Y) (rest : List Y) → Contains (first ∷ rest) first
first_there first rest = (0, omega arith, refl)

pub IsOwned-queue_leaves : (h : Heap) (owners : Owners) (queue : OwnedQueue) → queue.parts.len ≡ 0 → IsOwned h (with_queue queue owners) → IsOwned h owners
IsOwned-queue_leaves h owners queue empty owned =
    let none = OwnsChunks-none h.chunks queue (owned.queues queue (first_there queue owners.queues)) empty in
    record {
      nodes = owned.nodes;
      mapped = owned.mapped;
      pages = owned.pages;
      chunks = rw none at owned.chunks;
      queues = λ one there. owned.queues one (Contains-cons queue one owners.queues there);
    }

-- the space in front owns what it says, and shares no node with another
pub IsOwned-space : (h : Heap) (owners : Owners) (space : List (Option ℕ)) → IsOwned h (with_space space owners) → OwnsNodes h.nodes space
IsOwned-space h owners space owned = record {
  used = λ key there. owned.nodes.used key (Contains-append_left (keys_in space) (node_keys owners.spaces) key there);
  mapped = λ key node there is. owned.mapped key node is;
  once = IsOnce-left (keys_in space) (node_keys owners.spaces) owned.nodes.once;
}

pub Contains-concat : {Y : Type 0} (f : Y → List ℕ) (items : List Y) (one : Y) (key : ℕ) → Contains items one → Contains (f one) key → Contains (concat (map f items)) key
Contains-concat f [] one key there here = absurd (omega (arith, there.1))
Contains-concat f (first ∷ rest) one key there here = elim (Contains-cons_cases first one rest there) [
  | inl same ↦ Contains-append_left (f first) (concat (map f rest)) key (rw same here)
  | inr behind ↦ Contains-append_right (f first) (concat (map f rest)) key (Contains-concat f rest one key behind here)
]

pub IsOwned-spaces_apart : (h : Heap) (owners : Owners) (space other : List (Option ℕ)) → IsOwned h (with_space space owners) → Contains owners.spaces other → Apart (keys_in space) (keys_in other)
IsOwned-spaces_apart h owners space other owned there key here also =
    IsOnce-apart (keys_in space) (node_keys owners.spaces) owned.nodes.once key here (Contains-concat keys_in owners.spaces other key there also)

pub IsOwned-queues_apart : (h : Heap) (owners : Owners) (queue other : OwnedQueue) → IsOwned h (with_queue queue owners) → Contains owners.queues other → Apart queue.chunks other.chunks
IsOwned-queues_apart h owners queue other owned there key here also =
    IsOnce-apart queue.chunks (chunk_keys owners.queues) owned.chunks.once key here (Contains-concat (λ (one : OwnedQueue). one.chunks) owners.queues other key there also)

-- one space changes its nodes, and the pages are counted
pub IsOwned-space_changes : (old new : Heap) (owners : Owners) (space now : List (Option ℕ)) → SpaceChanges old new space now → IsOwned old (with_space space owners) → IsOwned new (with_space now owners)
IsOwned-space_changes old new owners space now changes owned = record {
  nodes = AreKeysOf-changes old.nodes new.nodes (keys_in space) (keys_in now) (node_keys owners.spaces) owned.nodes changes.nodes changes.owns.used changes.owns.once;
  mapped = λ key node is. elim (contains_or_not (keys_in now) key) [
    | inl mine ↦ changes.owns.mapped key node mine is
    | inr other ↦ owned.mapped key node (sym (changes.nodes.outside key (λ named. neither key other (rw is refl) named)) ∙ is)
  ];
  pages = changes.pages;
  chunks = rw changes.chunks owned.chunks;
  queues = λ one there. rw changes.chunks (owned.queues one there);
}
  where
    neither : (key : ℕ) → (Contains (keys_in now) key → ⊥) → InUse new.nodes key → Contains (keys_in space ++ keys_in now) key → ⊥
    neither key other used named = elim (Contains-append_cases (keys_in space) (keys_in now) key named) [
      | inl had ↦ other (changes.nodes.left key had used)
      | inr has ↦ other has
    ]

-- what the node of a key is after one is put under a key
node_after : (nodes : List (Option Node)) (at : ℕ) (value : Node) (key : ℕ) (node : Node) → at < length nodes → object (put nodes at value) key ≡ Some node → ((key ≡ at) × (node ≡ value)) ⊎ ((key ≢ at) × (object nodes key ≡ Some node))
node_after nodes at value key node within is = elim (cases_eq key at) [
  | inl same ↦ (
      let stored = object-put nodes at value within in
      let named : object (put nodes at value) at ≡ Some node = rw same at is in
      let one : node ≡ value = grind arith in
      inl (same, one)
      )
  | inr differs ↦ inr (differs, sym (object-put_other nodes at key value differs) ∙ is)
]

-- a space changes one of its nodes
pub SpaceChanges-sets : (old new : Heap) (owners : Owners) (space : List (Option ℕ)) (key : ℕ) (node : Node) → Contains (keys_in space) key → 0 < mapped_count node → new.nodes ≡ put old.nodes key node → new.chunks ≡ old.chunks → IsCounted new.nodes new.pages → IsOwned old (with_space space owners) → SpaceChanges old new space space
SpaceChanges-sets old new owners space key node there mapped nodes chunks counted owned =
    let owns = IsOwned-space old owners space owned in
    let within = InUse-within old.nodes key (owns.used key there) in
    record {
      nodes = rw nodes (record {
        outside = λ other outside. object-put_other old.nodes key other node (λ same. outside (Contains-append_left (keys_in space) (keys_in space) other (rw same there)));
        fresh = λ other mine. inl mine;
        left = λ other mine used. mine;
      });
      owns = rw nodes (record {
        used = λ other mine. InUse-put old.nodes key node other (owns.used key there) (owns.used other mine);
        mapped = λ other found mine is. elim (node_after old.nodes key node other found within is) [
          | inl it ↦ rw it.1 mapped
          | inr before ↦ owns.mapped other found mine before.1
        ];
        once = owns.once;
      });
      pages = counted;
      chunks = chunks;
    }

-- a space gets a node under a key that was free
pub SpaceChanges-comes : (old new : Heap) (owners : Owners) (space now : List (Option ℕ)) (key : ℕ) (node : Node) → Splits (keys_in now) key (keys_in space) → object old.nodes key ≡ None → object new.nodes key ≡ Some node → 0 < mapped_count node → new.nodes ≡ put old.nodes key node → new.chunks ≡ old.chunks → IsCounted new.nodes new.pages → IsOwned old (with_space space owners) → SpaceChanges old new space now
SpaceChanges-comes old new owners space now key node split vacant stored mapped nodes chunks counted owned =
    let owns = IsOwned-space old owners space owned in
    let within = put-within old.nodes key node (sym (ap (λ list. object list key) nodes) ∙ stored) in
    let absent : Contains (keys_in space) key → ⊥ = λ there. unused vacant (owns.used key there) in
    record {
      nodes = rw nodes (record {
        outside = λ other outside. object-put_other old.nodes key other node (λ same. outside (Contains-append_right (keys_in space) (keys_in now) other (rw same (Splits-from_front (keys_in now) key (keys_in space) split key (first_there key (keys_in space))))));
        fresh = λ other there. elim (Contains-cons_cases key other (keys_in space) (Splits-to_front (keys_in now) key (keys_in space) split other there)) [
          | inl same ↦ inr (rw (← same) vacant)
          | inr mine ↦ inl mine
        ];
        left = λ other mine used. Splits-from_front (keys_in now) key (keys_in space) split other (Contains-cons key other (keys_in space) mine);
      });
      owns = rw nodes (record {
        used = λ other there. elim (Contains-cons_cases key other (keys_in space) (Splits-to_front (keys_in now) key (keys_in space) split other there)) [
          | inl same ↦ rw (← same, object-put old.nodes key node within) refl
          | inr mine ↦ rw (object-put_other old.nodes key other node (λ same. absent (rw same at mine))) (owns.used other mine)
        ];
        mapped = λ other found there is. elim (node_after old.nodes key node other found within is) [
          | inl it ↦ rw it.1 mapped
          | inr before ↦ owned.mapped other found before.1
        ];
        once = rw split.whole_is (IsOnce-swap (key ∷ []) split.before split.after (IsOnce-cons key (split.before ++ split.after) (λ there. absent (rw split.rest_is there)) (rw split.rest_is at owns.once)));
      });
      pages = counted;
      chunks = chunks;
    }
  where
    unused : object old.nodes key ≡ None → InUse old.nodes key → ⊥
    unused vacant used = grind arith

-- a space gives a node back
pub SpaceChanges-goes : (old new : Heap) (owners : Owners) (space now : List (Option ℕ)) (key : ℕ) → Splits (keys_in space) key (keys_in now) → new.nodes ≡ without old.nodes key → new.chunks ≡ old.chunks → IsCounted new.nodes new.pages → IsOwned old (with_space space owners) → SpaceChanges old new space now
SpaceChanges-goes old new owners space now key split nodes chunks counted owned =
    let owns = IsOwned-space old owners space owned in
    let mine = Splits-from_front (keys_in space) key (keys_in now) split key (first_there key (keys_in now)) in
    let within = InUse-within old.nodes key (owns.used key mine) in
    let once : IsOnce (key ∷ keys_in now) = rw split.rest_is (IsOnce-swap split.before (key ∷ []) split.after (rw split.whole_is at owns.once)) in
    let differs : (other : ℕ) → Contains (keys_in now) other → other ≢ key = λ other there same. IsOnce-head key (keys_in now) once (rw same at there) in
    let had : (other : ℕ) → Contains (keys_in now) other → Contains (keys_in space) other = λ other there. Splits-from_front (keys_in space) key (keys_in now) split other (Contains-cons key other (keys_in now) there) in
    record {
      nodes = rw nodes (record {
        outside = λ other outside. object-without_other old.nodes key other (λ same. outside (Contains-append_left (keys_in space) (keys_in now) other (rw same mine)));
        fresh = λ other there. inl (had other there);
        left = λ other there used. elim (Contains-cons_cases key other (keys_in now) (Splits-to_front (keys_in space) key (keys_in now) split other there)) [
          | inl same ↦ absurd (gone (object-without old.nodes key within) (rw (← same) at used))
          | inr behind ↦ behind
        ];
      });
      owns = rw nodes (record {
        used = λ other there. rw (object-without_other old.nodes key other (differs other there)) (owns.used other (had other there));
        mapped = λ other found there is. owns.mapped other found (had other there) (sym (object-without_other old.nodes key other (differs other there)) ∙ is);
        once = IsOnce-tail key (keys_in now) once;
      });
      pages = counted;
      chunks = chunks;
    }
  where
    gone : object (without old.nodes key) key ≡ None → InUse (without old.nodes key) key → ⊥
    gone none used = grind arith

-- the keys of a space where one of its places is filled, and where one is cleared
pub keys_in-filled : (space : List (Option ℕ)) (place key : ℕ) → place < length space → get_or space place None ≡ None → Splits (keys_in (set space place (Some key))) key (keys_in space)
keys_in-filled [] place key within none = absurd (omega (arith, within))
keys_in-filled (None ∷ rest) zero key within none = record { before = []; after = keys_in rest; whole_is = refl; rest_is = refl }
keys_in-filled (Some other ∷ rest) zero key within none = absurd (cc)
keys_in-filled (None ∷ rest) (suc place) key within none = keys_in-filled rest place key (omega arith) none
keys_in-filled (Some other ∷ rest) (suc place) key within none =
    let behind = keys_in-filled rest place key (omega arith) none in
    record { before = other ∷ behind.before; after = behind.after; whole_is = ap (λ keys. other ∷ keys) behind.whole_is; rest_is = ap (λ keys. other ∷ keys) behind.rest_is }

pub keys_in-cleared : (space : List (Option ℕ)) (place key : ℕ) → get_or space place None ≡ Some key → Splits (keys_in space) key (keys_in (set space place None))
keys_in-cleared [] place key some = absurd (cc)
keys_in-cleared (None ∷ rest) zero key some = absurd (cc)
keys_in-cleared (Some other ∷ rest) zero key some = record { before = []; after = keys_in rest; whole_is = cc; rest_is = refl }
keys_in-cleared (None ∷ rest) (suc place) key some = keys_in-cleared rest place key some
keys_in-cleared (Some other ∷ rest) (suc place) key some =
    let behind = keys_in-cleared rest place key some in
    record { before = other ∷ behind.before; after = behind.after; whole_is = ap (λ keys. other ∷ keys) behind.whole_is; rest_is = ap (λ keys. other ∷ keys) behind.rest_is }

-- one queue changes its chunks
pub IsOwned-queue_changes : (old new : Heap) (owners : Owners) (queue now : OwnedQueue) → QueueChanges old new queue now → IsOwned old (with_queue queue owners) → IsOwned new (with_queue now owners)
IsOwned-queue_changes old new owners queue now changes owned =
    let apart = ChangesKeys-apart old.chunks new.chunks queue.chunks now.chunks (chunk_keys owners.queues) owned.chunks changes.chunks in
    record {
      nodes = rw changes.nodes owned.nodes;
      mapped = λ key node is. owned.mapped key node (rw changes.nodes at is);
      pages = rw (changes.nodes, changes.pages) owned.pages;
      chunks = AreKeysOf-changes old.chunks new.chunks queue.chunks now.chunks (chunk_keys owners.queues) owned.chunks changes.chunks (IsChain-used new.chunks now.parts.first now.chunks changes.owns.chain) changes.owns.once;
      queues = λ one there. elim (Contains-cons_cases now one owners.queues there) [
        | inl same ↦ rw (← same) changes.owns
        | inr behind ↦ OwnsChunks-apart (queue.chunks ++ now.chunks) old.chunks new.chunks one changes.chunks.outside (λ key named there. apart key named (Contains-concat (λ (one : OwnedQueue). one.chunks) owners.queues one key behind there)) (owned.queues one (Contains-cons queue one owners.queues behind))
      ];
    }

-- a chunk of some queue gets other bytes and keeps its next
pub IsOwned-chunk_written : (old new : Heap) (owners : Owners) (at : ℕ) (chunk written : Chunk) → object old.chunks at ≡ Some chunk → written.next ≡ chunk.next → new.chunks ≡ put old.chunks at written → new.nodes ≡ old.nodes → new.pages ≡ old.pages → IsOwned old owners → IsOwned new owners
IsOwned-chunk_written old new owners at chunk written is next chunks nodes pages owned = record {
  nodes = rw nodes owned.nodes;
  mapped = λ key node there. owned.mapped key node (rw nodes at there);
  pages = rw (nodes, pages) owned.pages;
  chunks = rw chunks (record {
    used = λ key there. InUse-put old.chunks at written key (rw is refl) (owned.chunks.used key there);
    listed = λ key used. owned.chunks.listed key (was_in_use key used);
    once = owned.chunks.once;
  });
  queues = λ one there. rw chunks (OwnsChunks-written old.chunks one at chunk written is next (owned.queues one there));
}
  where
    was_in_use : (key : ℕ) → InUse (put old.chunks at written) key → InUse old.chunks key
    was_in_use key used = elim (cases_eq key at) [
      | inl same ↦ rw (same, is) refl
      | inr differs ↦ rw (object-put_other old.chunks at key written differs) at used
    ]

-- what doesn't touch nodes, pages and chunks leaves the owners
pub IsOwned-same : (old new : Heap) (owners : Owners) → new.nodes ≡ old.nodes → new.pages ≡ old.pages → new.chunks ≡ old.chunks → IsOwned old owners → IsOwned new owners
IsOwned-same old new owners nodes pages chunks owned = record {
  nodes = rw nodes owned.nodes;
  mapped = λ key node is. owned.mapped key node (rw nodes at is);
  pages = rw (nodes, pages) owned.pages;
  chunks = rw chunks owned.chunks;
  queues = λ one there. rw chunks (owned.queues one there);
}

no_spaces : (limit : ℕ) → spaces_of (replicate limit None) ≡ []
no_spaces zero = refl
no_spaces (suc limit) = no_spaces limit

no_pipes : (limit : ℕ) → pipe_queues (replicate limit None) ≡ []
no_pipes zero = refl
no_pipes (suc limit) = no_pipes limit

no_socks : (limit : ℕ) → sock_queues (replicate limit None) ≡ []
no_socks zero = refl
no_socks (suc limit) = no_socks limit

vacant : (X : Type 0) (limit key : ℕ) → object (replicate {A = Option X} limit None) key ≡ None
vacant X limit key = elim (cases_lt key limit) [
  | inl lt ↦ get_or-replicate limit key None None lt
  | inr le ↦ get_or_past _ key None (rw length-replicate le)
]

unused : (X : Type 0) (limit key : ℕ) → InUse (replicate {A = Option X} limit None) key → ⊥
unused X limit key used = let none = vacant X limit key in grind arith

no_node : (limit key : ℕ) (node : Node) → object (replicate {A = Option Node} limit None) key ≡ Some node → ⊥
no_node limit key node is = unused Node limit key (rw is refl)

empty_heap-counted : (nodes pages : ℕ) → IsCounted (replicate nodes None) (replicate pages None)
empty_heap-counted nodes pages = record {
  counts = λ page. ap page_count (vacant _ pages page) ∙ sym (sum_by-replicate (names_in page) nodes None ∙ mul-zero nodes);
  named = λ page used. absurd (unused _ pages page used);
}

no_keys : (X : Type 0) (limit : ℕ) → AreKeysOf (replicate {A = Option X} limit None) []
no_keys X limit = record {
  used = λ key there. absurd (omega (arith, there.1));
  listed = λ key used. absurd (unused X limit key used);
  once = λ i j before within same. omega arith;
}

pub empty_heap-owned : (heap : ℕ) → OwnsItsObjects (empty_heap heap)
empty_heap-owned heap = (
  record { spaces = []; queues = [] },
  record { spaces = sym (no_spaces (heap / size class.Proc)); queues = rw (no_pipes (heap / size class.Pipe), no_socks (heap / size class.Sock)) refl },
  record {
    nodes = no_keys Node (heap / size class.Node);
    mapped = λ key node is. absurd (no_node (heap / size class.Node) key node is);
    pages = empty_heap-counted (heap / size class.Node) (heap / size class.Page);
    chunks = no_keys Chunk (heap / size class.Chunk);
    queues = λ one there. absurd (omega (arith, there.1));
  },
)
