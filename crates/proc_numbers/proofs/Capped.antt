-- A write and a read of a pipe move no more than its 4096 bytes, whatever they are asked.
use Rattle.std.proofs.Common.{◌≡◌, ◌≢◌, ◌⊎◌, ℕ, zero, suc, ◌+◌, ◌-◌, ◌/◌, ◌<◌, ◌≤◌, ◌==◌, Bool, true, false, cond, min, ltb, leb, List, ◌∷◌, ◌++◌, map, take, length, Option, refl, ap, sym, subst, ◌∙◌, arith, ne_eqb, inl, inr}
use Rattle.std.specs.Prelude.{nat_le}
use Rattle.std.specs.List.{range_with_len}
use Rattle.std.proofs.lemmas.Bool.Decides.{eqb_tells, leb_tells}
use Rattle.std.proofs.lemmas.List.FromFn.{length-map-range_with_len}
use Rattle.kabi_types.specs.declared.errnos.Errno.TheVariants.{EAGAIN, EPIPE}
use Rattle.chunk_queue.specs.Moving.{UnlessMoved, moved_by, moving_of}
use Rattle.chunk_queue.specs.declared.moved.Moved.{Moved}
use Rattle.chunk_queue.specs.declared.moved.Moved.TheVariants as moved
use Rattle.kheap_slabs.specs.declared.objects.Chunk.{Chunk}
use Rattle.kheap_slabs.specs.declared.objects.Pipe.{Pipe as HeldPipe}
use Rattle.kheap_slabs.specs.Heap.{Heap}
use Rattle.page_space.specs.Contents.{SpaceMoves}
use Rattle.pipe_ends.specs.Standing.{LeavesOthers}
use Rattle.posix_defs.specs.Memory.{Memory, byte_at, loaded}
use Rattle.posix_defs.specs.Needs.{pages_touched}
use Rattle.posix_defs.specs.Pipe.{Moving, Moves, Blocks, Fails, Pipe, after_write, free_in, not_now, pipe_read, pipe_write}
use Rattle.proc_numbers.specs.PipeMoving.{UnlessMoves, moved_in}
use Rattle.proc_numbers.proofs.RightBytes.{loaded_at}

-- ---- writes

-- what a write of more than 512 bytes with m left comes to, by the room
long_write : Pipe → Bool → ℕ → Moving
long_write pipe nonblock m = cond (nat_le m (free_in pipe)) (Moves m) (cond (free_in pipe == 0) (not_now nonblock) (Moves (free_in pipe)))

all_room : (pipe : Pipe) (nonblock : Bool) (m : ℕ) → 4096 < m → long_write pipe nonblock 4096 ≡ long_write pipe nonblock m
unfolding long_write
all_room pipe nonblock m more =
    whole (leb_tells 4096 (free_in pipe))
    ∙ sym (ap (λ b. cond b (Moves m) (cond (free_in pipe == 0) (not_now nonblock) (Moves (free_in pipe)))) (too_many (leb_tells m (free_in pipe))))
  where
    too_many : (((leb m (free_in pipe)) ≡ true) × (m ≤ free_in pipe)) ⊎ (((leb m (free_in pipe)) ≡ false) × (free_in pipe < m)) → leb m (free_in pipe) ≡ false
    too_many (inl fits) = absurd (let f : m ≤ free_in pipe = fits.1 in omega (arith, f, more))
    too_many (inr none) = none.0

    whole : (((leb 4096 (free_in pipe)) ≡ true) × (4096 ≤ free_in pipe)) ⊎ (((leb 4096 (free_in pipe)) ≡ false) × (free_in pipe < 4096))
        → cond (leb 4096 (free_in pipe)) (Moves 4096) (cond (free_in pipe == 0) (not_now nonblock) (Moves (free_in pipe)))
        ≡ cond (free_in pipe == 0) (not_now nonblock) (Moves (free_in pipe))
    whole (inl fits) =
        let f : 4096 ≤ free_in pipe = fits.1 in
        let is : free_in pipe ≡ 4096 = omega (arith, f) in
        ap (λ b. cond b (Moves 4096) (cond (free_in pipe == 0) (not_now nonblock) (Moves (free_in pipe)))) fits.0
        ∙ ap Moves (sym is)
        ∙ sym (ap (λ b. cond b (not_now nonblock) (Moves (free_in pipe))) (ne_eqb (free_in pipe) 0 (λ none. omega (arith, f, none))))
    whole (inr part) = ap (λ b. cond b (Moves 4096) (cond (free_in pipe == 0) (not_now nonblock) (Moves (free_in pipe)))) part.0

pub write_capped : (pipe : Pipe) (nonblock : Bool) (n m : ℕ) → m ≤ n → pipe_write pipe nonblock n (min m 4096) ≡ pipe_write pipe nonblock n m
unfolding long_write
write_capped pipe nonblock n m part = elim (leb_tells m 4096) [
  | inl few ↦ ap (pipe_write pipe nonblock n) (let f : m ≤ 4096 = few.1 in let e : min m 4096 ≡ m = omega (arith, f) in e)
  | inr many ↦
      let more : 4096 < m = many.1 in
      ap (pipe_write pipe nonblock n) (let e : min m 4096 ≡ 4096 = omega (arith, more) in e)
      ∙ capped more
]
  where
    capped : 4096 < m → pipe_write pipe nonblock n 4096 ≡ pipe_write pipe nonblock n m
    capped more = elim (leb_tells n 512) [
      | inl few ↦ absurd (let f : n ≤ 512 = few.1 in omega (arith, f, part, more))
      | inr many ↦
          ap (λ b. cond (pipe.readers == 0) (Fails EPIPE) (cond b (cond (nat_le n (free_in pipe)) (Moves 4096) (not_now nonblock)) (long_write pipe nonblock 4096))) many.0
          ∙ ap (cond (pipe.readers == 0) (Fails EPIPE)) (all_room pipe nonblock m more)
          ∙ sym (ap (λ b. cond (pipe.readers == 0) (Fails EPIPE) (cond b (cond (nat_le n (free_in pipe)) (Moves m) (not_now nonblock)) (long_write pipe nonblock m))) many.0)
    ]

-- a write moves no more than are left
pub write_within : (pipe : Pipe) (nonblock : Bool) (n m : ℕ) → moved_in (pipe_write pipe nonblock n m) ≤ m
write_within pipe nonblock n m = by_readers (pipe.readers == 0)
  where
    waits : (b : Bool) → moved_in (cond b (Fails EAGAIN) Blocks) ≤ m
    waits true = omega arith
    waits false = omega arith

    by_whole : (b : Bool) → moved_in (cond b (Moves m) (not_now nonblock)) ≤ m
    by_whole true = omega arith
    by_whole false = waits nonblock

    by_free : (b : Bool) → free_in pipe < m → moved_in (cond b (not_now nonblock) (Moves (free_in pipe))) ≤ m
    by_free true less = waits nonblock
    by_free false less = omega (arith, less)

    by_room : (((leb m (free_in pipe)) ≡ true) × (m ≤ free_in pipe)) ⊎ (((leb m (free_in pipe)) ≡ false) × (free_in pipe < m))
        → moved_in (cond (nat_le m (free_in pipe)) (Moves m) (cond (free_in pipe == 0) (not_now nonblock) (Moves (free_in pipe)))) ≤ m
    by_room (inl fits) = subst (λ b. moved_in (cond b (Moves m) (cond (free_in pipe == 0) (not_now nonblock) (Moves (free_in pipe)))) ≤ m) (sym fits.0) (omega arith)
    by_room (inr part) = subst (λ b. moved_in (cond b (Moves m) (cond (free_in pipe == 0) (not_now nonblock) (Moves (free_in pipe)))) ≤ m) (sym part.0) (by_free (free_in pipe == 0) part.1)

    by_size : (b : Bool) → moved_in (cond b (cond (nat_le n (free_in pipe)) (Moves m) (not_now nonblock)) (cond (nat_le m (free_in pipe)) (Moves m) (cond (free_in pipe == 0) (not_now nonblock) (Moves (free_in pipe))))) ≤ m
    by_size true = by_whole (nat_le n (free_in pipe))
    by_size false = by_room (leb_tells m (free_in pipe))

    by_readers : (b : Bool) → moved_in (cond b (Fails EPIPE) (cond (nat_le n 512) (cond (nat_le n (free_in pipe)) (Moves m) (not_now nonblock)) (cond (nat_le m (free_in pipe)) (Moves m) (cond (free_in pipe == 0) (not_now nonblock) (Moves (free_in pipe)))))) ≤ m
    by_readers true = omega arith
    by_readers false = by_size (nat_le n 512)

-- the first k of some bytes are the first k of more of them
range_taken : {X : Type 0} (f : ℕ → X) (a k n : ℕ) → k ≤ n → take k (map f (range_with_len a n)) ≡ map f (range_with_len a k)
range_taken f a zero n less = refl
range_taken f a (suc k) zero less = absurd (omega (arith, less))
range_taken f a (suc k) (suc n) less = ap (λ rest. f a ∷ rest) (range_taken f (a + 1) k n (omega (arith, less)))

pub loaded_taken : (memory : Memory) (a k n : ℕ) → k ≤ n → take k (loaded memory a n) ≡ loaded memory a k
loaded_taken memory a k n less = range_taken (byte_at memory) a k n less

-- as many bytes go as the answer says
pub moved_same : (answer : Moved) → moved_by answer ≡ moved_in (moving_of answer)
moved_same (moved.Bytes count) = refl
moved_same moved.Blocked = refl
moved_same (moved.Fault errno) = refl

pub unless_moves : (answer : Moved) (moving : Moving) (P Q : Type 0) → moving_of answer ≡ moving → (P → Q) → UnlessMoved answer P → UnlessMoves moving Q
unless_moves answer moving P Q is gives refused = subst (λ m. UnlessMoves m Q) is (go answer refused)
  where
    go : (a : Moved) → UnlessMoved a P → UnlessMoves (moving_of a) Q
    go (moved.Bytes count) none = tt
    go moved.Blocked holds = gives holds
    go (moved.Fault errno) holds = gives holds

-- ---- reads

-- a read asked for more than a pipe has gets the same
pub read_capped : (pipe : Pipe) (nonblock : Bool) (n : ℕ) → length pipe.bytes ≤ 4096 → pipe_read pipe nonblock (min n 4096) ≡ pipe_read pipe nonblock n
read_capped pipe nonblock n within =
    ap (λ m. cond (ltb 0 (length pipe.bytes)) (Moves m) (cond (pipe.writers == 0) (Moves 0) (not_now nonblock)))
    (let e : min (min n 4096) (length pipe.bytes) ≡ min n (length pipe.bytes) = omega (arith, within) in e)

-- and moves no more than it is asked for
pub read_within : (pipe : Pipe) (nonblock : Bool) (n k : ℕ) → pipe_read pipe nonblock n ≡ Moves k → k ≤ n
read_within pipe nonblock n k is = by_bytes (ltb 0 (length pipe.bytes)) is
  where
    moves_so : (a b : ℕ) → Moves a ≡ Moves b → a ≡ b
    moves_so a b e = cc

    waits : (b : Bool) → cond b (Fails EAGAIN) Blocks ≡ Moves k → ⊥
    waits true e = cc
    waits false e = cc

    by_writers : (b : Bool) → cond b (Moves 0) (not_now nonblock) ≡ Moves k → k ≤ n
    by_writers true e = let none = moves_so 0 k e in omega (arith, none)
    by_writers false e = absurd (waits nonblock e)

    by_bytes : (b : Bool) → cond b (Moves (min n (length pipe.bytes))) (cond (pipe.writers == 0) (Moves 0) (not_now nonblock)) ≡ Moves k → k ≤ n
    by_bytes true e = let taken = moves_so (min n (length pipe.bytes)) k e in omega (arith, taken)
    by_bytes false e = by_writers (pipe.writers == 0) e

-- what isn't a pipe's nor a space's is as it was
pub beside_both : (old mid new : Heap) (key : ℕ) (space now : List (Option ℕ)) → LeavesOthers old mid key → SpaceMoves mid new space now
    → new ≡ record old { nodes = new.nodes; pages = new.pages; pipes = new.pipes; chunks = new.chunks; high = new.high }
beside_both old mid new key space now others moves =
    moves.kept
    ∙ ap (λ (h : Heap). record h { nodes = new.nodes; pages = new.pages; high = new.high }) others.kept
    ∙ ap (λ (p : List (Option HeldPipe)). record old { nodes = new.nodes; pages = new.pages; pipes = p; chunks = mid.chunks; high = new.high }) (sym (ap (λ (h : Heap). h.pipes) moves.kept))
    ∙ ap (λ (c : List (Option Chunk)). record old { nodes = new.nodes; pages = new.pages; pipes = new.pipes; chunks = c; high = new.high }) (sym (ap (λ (h : Heap). h.chunks) moves.kept))

pub beside_none : (old new : Heap) → new ≡ old → new ≡ record old { nodes = new.nodes; pages = new.pages; pipes = new.pipes; chunks = new.chunks; high = new.high }
beside_none old new same = subst (λ (h : Heap). h ≡ record old { nodes = h.nodes; pages = h.pages; pipes = h.pipes; chunks = h.chunks; high = h.high }) (sym same) refl

-- fewer bytes from the same address on touch no more pages
pub touched_fewer : (a k n : ℕ) → k ≤ n → pages_touched a k ≤ pages_touched a n
touched_fewer a k n less = go (eqb_tells k 0) (eqb_tells n 0)
  where
    longer : 0 < k → (a + k - 1) / 4096 - a / 4096 + 1 ≤ (a + n - 1) / 4096 - a / 4096 + 1
    longer some = omega (arith, less, some)

    go : (((k == 0) ≡ true) × (k ≡ 0)) ⊎ (((k == 0) ≡ false) × (k ≢ 0)) → (((n == 0) ≡ true) × (n ≡ 0)) ⊎ (((n == 0) ≡ false) × (n ≢ 0)) → pages_touched a k ≤ pages_touched a n
    go (inl none) other = subst (λ b. cond b 0 ((a + k - 1) / 4096 - a / 4096 + 1) ≤ pages_touched a n) (sym none.0) (omega arith)
    go (inr some) (inl none) = absurd (some.1 (let z = none.1 in omega (arith, z, less)))
    go (inr some) (inr more) =
        subst (λ b. cond b 0 ((a + k - 1) / 4096 - a / 4096 + 1) ≤ pages_touched a n) (sym some.0)
        (subst (λ b. (a + k - 1) / 4096 - a / 4096 + 1 ≤ cond b 0 ((a + n - 1) / 4096 - a / 4096 + 1)) (sym more.0) (longer (positive k some.1)))
      where
        positive : (m : ℕ) → m ≢ 0 → 0 < m
        positive zero some = absurd (some refl)
        positive (suc m) some = omega arith

-- ---- the bytes of a write

-- Of the n - done bytes that are left at most 4096 were copied, from where they begin.
module _ (pipe : Pipe) (nonblock : Bool) (n done start rest : ℕ) (memory : Memory) (bytes : List ℕ) (len : ℕ) (bytes_are : bytes ≡ loaded memory rest len) (len_is : len ≡ min (n - done) 4096)
    (begins : done < n → rest ≡ start + done) (answer : Moved) (moves : moving_of answer ≡ pipe_write pipe nonblock n (length bytes)) where
  long : length bytes ≡ len
  long = ap length bytes_are ∙ length-map-range_with_len (byte_at memory) rest len

  -- as many go as of all that are left
  pub put_answer : moving_of answer ≡ pipe_write pipe nonblock n (n - done)
  put_answer = moves ∙ ap (pipe_write pipe nonblock n) (long ∙ len_is) ∙ write_capped pipe nonblock n (n - done) (omega arith)

  same_count : moved_by answer ≡ moved_in (pipe_write pipe nonblock n (n - done))
  same_count = moved_same answer ∙ ap moved_in put_answer

  few : moved_by answer ≤ len
  few = subst (λ m. m ≤ len) (sym (moved_same answer ∙ ap moved_in moves)) (subst (λ l. moved_in (pipe_write pipe nonblock n (length bytes)) ≤ l) long (write_within pipe nonblock n (length bytes)))

  same_bytes : take (moved_by answer) bytes ≡ take (moved_by answer) (loaded memory (start + done) (n - done))
  same_bytes =
      ap (take (moved_by answer)) bytes_are
      ∙ loaded_taken memory rest (moved_by answer) len few
      ∙ loaded_at memory rest (start + done) (moved_by answer) (λ some. begins (let f = few in let l = len_is in omega (arith, f, l, some)))
      ∙ sym (loaded_taken memory (start + done) (moved_by answer) (n - done) (let f = few in let l = len_is in omega (arith, f, l)))

  -- and they are the same ones
  pub put_bytes : after_write pipe bytes (moved_by answer) ≡ after_write pipe (loaded memory (start + done) (n - done)) (moved_in (pipe_write pipe nonblock n (n - done)))
  put_bytes =
      ap (λ list. record pipe { bytes = pipe.bytes ++ list }) same_bytes
      ∙ ap (λ k. after_write pipe (loaded memory (start + done) (n - done)) k) same_count
