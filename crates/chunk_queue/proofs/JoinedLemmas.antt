-- The joined bytes of chunks, and what is unread of them.
use Rattle.std.proofs.Common.{◌≡◌, ◌⊎◌, inl, inr, ℕ, ◌+◌, ◌-◌, ◌*◌, ◌≤◌, List, [], ◌∷◌, ◌++◌, Option, Some, length, take, drop, refl, sym, ap, ◌∙◌, append_assoc, arith, Contains, length-append, length-drop}
use Rattle.std.proofs.lemmas.List.{take_at, drop-append-le, drop-drop, drop-take}
use Rattle.std.proofs.Math.Seq.{take-append-add}
use Rattle.std.proofs.lemmas.List.Elements.{Contains-append_right, Contains-append_cases}
use Rattle.kheap_slabs.specs.Objects.{object, InUse}
use Rattle.kheap_slabs.specs.declared.objects.Chunk.{Chunk}
use Rattle.kheap_slabs.specs.Queues.{last_of}
use Rattle.kheap_slabs.proofs.ObjectLemmas.{object_of}
use Rattle.kheap_laws.proofs.OnceLemmas.{Contains-single}
use Rattle.chunk_queue.specs.Chained.{bytes_of, joined}

-- what stands behind the first key, and where a key stands
pub Contains-cons : (first key : ℕ) (rest : List ℕ) → Contains rest key → Contains (first ∷ rest) key
Contains-cons first key rest there = Contains-append_right (first ∷ []) rest key there

pub Contains-cons_cases : (first key : ℕ) (rest : List ℕ) → Contains (first ∷ rest) key → (first ≡ key) ⊎ Contains rest key
Contains-cons_cases first key rest there = elim (Contains-append_cases (first ∷ []) rest key there) [
  | inl it ↦ inl (Contains-single first key it)
  | inr behind ↦ inr behind
]

pub joined-append : (chunks : List (Option Chunk)) (front back : List ℕ) → joined chunks (front ++ back) ≡ joined chunks front ++ joined chunks back
joined-append chunks [] back = refl
joined-append chunks (key ∷ front) back =
    ap (λ list. bytes_of (object chunks key) ++ list) (joined-append chunks front back) ∙ sym (append_assoc (bytes_of (object chunks key)) (joined chunks front) (joined chunks back))

pub joined-same : (old new : List (Option Chunk)) (keys : List ℕ) → ((key : ℕ) → Contains keys key → bytes_of (object new key) ≡ bytes_of (object old key)) → joined new keys ≡ joined old keys
joined-same old new [] same = refl
joined-same old new (key ∷ rest) same =
    let here = same key (0, omega arith, refl) in
    let behind = joined-same old new rest (λ other there. same other (Contains-cons key other rest there)) in
    cc

pub length-joined : (chunks : List (Option Chunk)) (keys : List ℕ) → ((key : ℕ) → Contains keys key → InUse chunks key) → ((key : ℕ) (chunk : Chunk) → object chunks key ≡ Some chunk → length chunk.bytes ≡ 512) → length (joined chunks keys) ≡ 512 * length keys
length-joined chunks [] used long = refl
length-joined chunks (key ∷ rest) used long =
    let named = object_of chunks key (used key (0, omega arith, refl)) in
    let here : length (bytes_of (object chunks key)) ≡ 512 = rw named.1 (long key named.0 named.1) in
    let behind = length-joined chunks rest (λ other there. used other (Contains-cons key other rest there)) long in
    rw length-append (omega arith)

-- the chunks before the last one
pub last_split : (keys : List ℕ) (last : ℕ) → last_of keys ≡ Some last → (front : List ℕ) × (keys ≡ front ++ last ∷ [])
last_split [] last is = absurd (cc)
last_split (only ∷ []) last is = ([], let same : only ≡ last = cc in ap (λ key. key ∷ []) same)
last_split (head ∷ other ∷ rest) last is =
    let behind = last_split (other ∷ rest) last is in
    (head ∷ behind.0, ap (λ keys. head ∷ keys) behind.1)

-- bytes that are written where the unread ones end are unread behind them
pub unread_grows : (before rest bytes behind : List ℕ) (place len : ℕ) → length before ≡ place + len → take (len + length bytes) (drop place (before ++ (bytes ++ behind))) ≡ take len (drop place (before ++ rest)) ++ bytes
unread_grows before rest bytes behind place len long =
    let there : length (drop place before) ≡ len = length-drop place before ∙ omega (arith, long) in
    let new : drop place (before ++ (bytes ++ behind)) ≡ drop place before ++ (bytes ++ behind) = drop-append-le place before (bytes ++ behind) (omega (arith, long)) in
    let old : drop place (before ++ rest) ≡ drop place before ++ rest = drop-append-le place before rest (omega (arith, long)) in
    let grown : take (len + length bytes) (drop place before ++ (bytes ++ behind)) ≡ drop place before ++ take (length bytes) (bytes ++ behind) =
    ap (λ (n : ℕ). take (n + length bytes) (drop place before ++ (bytes ++ behind))) (sym there) ∙ take-append-add (drop place before) (bytes ++ behind) (length bytes) in
    ap (take (len + length bytes)) new ∙ grown ∙ ap (λ list. drop place before ++ list) (take_at bytes behind (length bytes) refl)
    ∙ ap (λ list. list ++ bytes) (sym (ap (take len) old ∙ take_at (drop place before) rest len there))

-- what is left when some of the unread bytes are taken
pub unread_shrinks : (all : List ℕ) (place len count : ℕ) → count ≤ len → take (len - count) (drop (place + count) all) ≡ drop count (take len (drop place all))
unread_shrinks all place len count fits =
    ap (take (len - count)) (sym (drop-drop count place all)) ∙ sym (drop-take count (len - count) (drop place all))
    ∙ ap (λ (n : ℕ). drop count (take n (drop place all))) (rest fits)
  where
    rest : count ≤ len → count + (len - count) ≡ len
    rest fits = omega arith
