-- Bytes that were taken out of a pipe are put in memory.
use Rattle.std.proofs.Common.{◌≡◌, ℕ, zero, suc, ◌+◌, ◌<◌, ◌≤◌, Bool, List, [], ◌∷◌, ◌++◌, take, drop, length, length-append, min, Option, refl, ap, sym, subst, ◌∙◌, arith}
use Rattle.std.proofs.lemmas.List.{length-take-le}
use Rattle.kheap_laws.proofs.PaidLemmas.{IsPaid-nothing, IsPaid-trans, TakesNothing-bytes}
use Rattle.kheap_slabs.specs.Purse.{Purse, left_bytes}
use Rattle.kheap_slabs.specs.Heap.{Heap, live_bytes}
use Rattle.kheap_slabs.specs.Owners.{OwnsItsObjects, with_space}
use Rattle.kheap_slabs.specs.Paid.{CanPay, IsPaid, TakesNothing}
use Rattle.page_space.specs.Contents.{IsOwnedWith}
use Rattle.page_space.specs.Putting.{Puts}
use Rattle.pipe_ends.specs.Standing.{LeavesOthers, StandsFor as PipeStandsFor, account}
use Rattle.posix_defs.specs.Pipe.{Moves, Pipe, after_read, pipe_read}
use Rattle.posix_defs.specs.QueuePlace.{after_take}
use Rattle.proc_numbers.specs.PipeMoving.{ReadsPipe}
use Rattle.proc_numbers.proofs.Capped.{read_capped, read_within}
use Rattle.proc_numbers.proofs.Taking.{read_moves}
use Rattle.proc_numbers.proofs.Turning.{spaces_own}

-- the first k are those that were read
taken_back : (k : ℕ) (xs ys : List ℕ) → k ≤ length xs → take k (take k xs ++ ys) ≡ take k xs
taken_back zero xs ys within = refl
taken_back (suc k) [] ys within = absurd (omega (arith, within))
taken_back (suc k) (x ∷ xs) ys within = ap (λ rest. x ∷ rest) (taken_back k xs ys (omega (arith, within)))

-- the space is owned still
pub owned_mid : (old mid : Heap) (key : ℕ) (space : List (Option ℕ)) → LeavesOthers old mid key → OwnsItsObjects mid → IsOwnedWith old space → IsOwnedWith mid space
owned_mid old mid key space others owns is = (record is.0 { queues = owns.0.queues }, spaces_own old mid key others (with_space space is.0) is.1 owns)

-- and the purse can pay as it could
pub pays_mid : (old mid : Heap) (purse : Purse) → TakesNothing old mid → CanPay old purse → CanPay mid purse
pays_mid old mid purse takes room =
    let fewer = TakesNothing-bytes old mid takes in
    let same = takes.heap in
    let r : live_bytes old + left_bytes purse ≤ old.heap = room in
    omega (arith, fewer, same, r)

pub paid_both : (old mid : Heap) (before : Purse) (new : Heap) (after : Purse) → TakesNothing old mid → IsPaid mid before new after → IsPaid old before new after
paid_both old mid before new after takes paid = IsPaid-trans old before mid before new after (IsPaid-nothing old mid before before takes refl refl) paid

-- how a read that was answered so many bytes is answered by a pipe, whose 4096 bytes are all that can come
module _ (pipe : Pipe) (nonblock : Bool) (n count : ℕ) (within : length pipe.bytes ≤ 4096) (answer : Moves count ≡ pipe_read pipe nonblock (min n 4096)) where
  pub answer_is : Moves count ≡ pipe_read pipe nonblock n
  answer_is = answer ∙ read_capped pipe nonblock n within

  pub count_within : count ≤ n
  count_within = read_within pipe nonblock n count (sym answer_is)

  pub count_few : count ≤ min n 4096
  count_few = read_within pipe nonblock (min n 4096) count (sym answer)

  -- the bytes that came stand in the room for them
  pub out_long : (was out : List ℕ) → 0 < n → out ≡ take count pipe.bytes ++ drop count was → count ≤ length out
  out_long was out some is =
      let there = (read_moves pipe nonblock n count some (sym answer_is)).0 in
      let all = ap length is ∙ length-append (take count pipe.bytes) (drop count was) in
      let taken = length-take-le count pipe.bytes there in
      omega (arith, all, taken)

  -- what was put in memory
  module _ (some : 0 < n) (old : Heap) (before : Purse) (mid new : Heap) (after : Purse) (space : List (Option ℕ)) (key start at : ℕ) (was out : List ℕ) (others : LeavesOthers old mid key)
      (takes : TakesNothing old mid) (owned : OwnsItsObjects mid)
      (stands : PipeStandsFor mid key (after_read pipe count) (after_take (account pipe at) count).place)
      (out_is : out ≡ take count pipe.bytes ++ drop count was)
      (puts : Puts mid before new after space start (take count out)) where
    pub reads_so : (k : ℕ) → pipe_read pipe nonblock n ≡ Moves k → ReadsPipe old before new after space key start pipe at k
    reads_so k is =
        let same : count ≡ k = moves_same count k (answer_is ∙ is) in
        subst (ReadsPipe old before new after space key start pipe at) same (record {
          mid = mid;
          others = others;
          takes = takes;
          owned = owned;
          stands = stands;
          puts = subst (Puts mid before new after space start)
              (ap (take count) out_is ∙ taken_back count pipe.bytes (drop count was) (read_moves pipe nonblock n count some (sym answer_is)).0) puts;
        })
      where
        moves_same : (a b : ℕ) → Moves a ≡ Moves b → a ≡ b
        moves_same a b e = cc
