-- Objects that have a queue each, by their places: what the change, the going and the coming of one leave of the queues and of the
-- sum of their chunks.
use Rattle.std.proofs.Common.{◌≡◌, ◌⊎◌, ℕ, ◌+◌, ◌-◌, ◌^◌, ◌<◌, ◌≤◌, List, [], ◌∷◌, ◌++◌, length, get_or, set, Option, None, Some, Result, Ok, Err, ap, sym, ◌∙◌, subst, arith}
use Rattle.std.specs.Prelude.{OnErr, OnOk}
use Rattle.std.specs.Option.{option_map}
use Rattle.std.proofs.lemmas.List.{length-map, length-set, length_push, map-set, map_push}
use Rattle.std.proofs.lemmas.List.Sums.{get_or-le-sum_by, sum_by-set, sum_by_push}
use Rattle.std.proofs.lemmas.Option.{none-some, same_Some}
use Rattle.plain_bytes.specs.Unread.{IsQueue, Unread, nothing, taken_by}
use Rattle.plain_bytes.specs.Many.{AreKept, AreQueues, Fade, Follow, all_taken, queue_at, queues_of, taken_in}
use Rattle.plain_bytes.proofs.PlaceLemmas.{at_mapped}
use Rattle.plain_bytes.proofs.ManyLemmas.{fade_gone, fade_pushed, fade_set, is_within, queues_pushed, queues_set, taken_most}

module _ {X : Type 0} (queue : X → Unread) (there : List (Option X)) where
  -- the sum of chunks has room for some more
  pub chunks_fit : (chunks : ℕ) → AreKept queue there chunks → chunks + 9 < 2 ^ 64
  chunks_fit chunks are =
      omega (arith, taken_most (queues_of queue there) are.queues, are.sum, are.few, length-map there (option_map queue))

  -- ---- at the place of one

  module _ (place : ℕ) (old : X) (here : get_or there place None ≡ Some old) where
    pub queue_here : queue_at (queues_of queue there) place ≡ Some (queue old)
    queue_here = at_mapped queue there place ∙ ap (option_map queue) here

    pub is_made : place < length (queues_of queue there)
    is_made = is_within (queues_of queue there) place (queue old) queue_here

    -- its queue is one
    pub is_queue : (chunks : ℕ) → AreKept queue there chunks → IsQueue (queue old)
    is_queue chunks are = are.queues place (queue old) queue_here

    taken_here : taken_in (get_or (queues_of queue there) place None) ≡ taken_by (queue old)
    taken_here = ap taken_in queue_here

    -- the sum has its chunks
    pub has_chunks : (chunks : ℕ) → AreKept queue there chunks → taken_by (queue old) ≤ chunks
    has_chunks chunks are = omega (arith, get_or-le-sum_by taken_in (queues_of queue there) place None is_made, taken_here, are.sum)

    sum_after : (o : Option Unread) → all_taken (set (queues_of queue there) place o) + taken_by (queue old) ≡ all_taken (queues_of queue there) + taken_in o
    sum_after o =
        ap (λ n. all_taken (set (queues_of queue there) place o) + n) (sym taken_here) ∙ sum_by-set taken_in (queues_of queue there) place o None is_made

    -- ---- it changes

    queues_put : (now : X) → queues_of queue (set there place (Some now)) ≡ set (queues_of queue there) place (Some (queue now))
    queues_put now = map-set (option_map queue) there place (Some now)

    -- and its front with it
    pub follow_put : (now : X) → AreQueues (queues_of queue there) → Follow (queues_of queue there) (set (queues_of queue there) place (Some (queue now)))
        → Follow (queues_of queue there) (queues_of queue (set there place (Some now)))
    follow_put now queues follow = subst (Follow (queues_of queue there)) (sym (queues_put now)) follow

    -- it keeps its bytes and their front, or loses all
    pub fade_put : (now : X) → (queue now ≡ queue old) ⊎ (queue now ≡ nothing) → Fade (queues_of queue there) (queues_of queue (set there place (Some now)))
    fade_put now so = subst (Fade (queues_of queue there)) (sym (queues_put now)) (fade_set (queues_of queue there) place (queue old) (queue now) queue_here so)

    pub kept_put : (chunks : ℕ) (now : X) → AreKept queue there chunks → IsQueue (queue now)
        → AreKept queue (set there place (Some now)) ((chunks - taken_by (queue old)) + taken_by (queue now))
    kept_put chunks now are is =
        let same : all_taken (queues_of queue (set there place (Some now))) ≡ all_taken (set (queues_of queue there) place (Some (queue now))) = ap all_taken (queues_put now) in
        record {
          queues = subst AreQueues (sym (queues_put now))
              (queues_set (queues_of queue there) place (Some (queue now)) are.queues (λ q h. subst IsQueue (same_Some (queue now) q h) is));
          sum = omega (arith, same, sum_after (Some (queue now)), are.sum, has_chunks chunks are);
          few = omega (arith, length-set there place (Some now), are.few);
        }

    -- the same, with the sum as it is told before and after
    pub kept_turned : (now : X) (chunks before after : ℕ) → AreKept queue there chunks → IsQueue (queue now)
        → before ≡ taken_by (queue old) → after ≡ taken_by (queue now) → AreKept queue (set there place (Some now)) ((chunks - before) + after)
    kept_turned now chunks before after are is was will =
        subst (λ n. AreKept queue (set there place (Some now)) ((chunks - n) + after)) (sym was)
        (subst (λ n. AreKept queue (set there place (Some now)) ((chunks - taken_by (queue old)) + n)) (sym will) (kept_put chunks now are is))

    -- the same where its queue stays
    pub kept_same : (chunks : ℕ) (now : X) → AreKept queue there chunks → queue now ≡ queue old → AreKept queue (set there place (Some now)) chunks
    kept_same chunks now are same =
        let taken : taken_by (queue now) ≡ taken_by (queue old) = ap taken_by same in
        subst (AreKept queue (set there place (Some now))) (omega (arith, taken, has_chunks chunks are))
        (kept_put chunks now are (subst IsQueue (sym same) (is_queue chunks are)))

    -- ---- it goes

    queues_gone : queues_of queue (set there place None) ≡ set (queues_of queue there) place None
    queues_gone = map-set (option_map queue) there place None

    pub fade_out : Fade (queues_of queue there) (queues_of queue (set there place None))
    fade_out = subst (Fade (queues_of queue there)) (sym queues_gone) (fade_gone (queues_of queue there) place)

    pub kept_gone : (chunks : ℕ) → AreKept queue there chunks → AreKept queue (set there place None) (chunks - taken_by (queue old))
    kept_gone chunks are =
        let same : all_taken (queues_of queue (set there place None)) ≡ all_taken (set (queues_of queue there) place None) = ap all_taken queues_gone in
        record {
          queues = subst AreQueues (sym queues_gone) (queues_set (queues_of queue there) place None are.queues (λ q h. absurd (none-some q h)));
          sum = omega (arith, same, sum_after None, are.sum, has_chunks chunks are);
          few = omega (arith, length-set there place None, are.few);
        }

  -- ---- a new one comes behind the others

  module _ (new : X) (empty : queue new ≡ nothing) where
    queues_added : queues_of queue (there ++ Some new ∷ []) ≡ queues_of queue there ++ Some nothing ∷ []
    queues_added = map_push (option_map queue) there (Some new) ∙ ap (λ q. queues_of queue there ++ Some q ∷ []) empty

    pub fade_added : Fade (queues_of queue there) (queues_of queue (there ++ Some new ∷ []))
    fade_added = subst (Fade (queues_of queue there)) (sym queues_added) (fade_pushed (queues_of queue there))

    pub kept_added : (chunks : ℕ) → AreKept queue there chunks → length there + 1 < 2 ^ 32 → AreKept queue (there ++ Some new ∷ []) chunks
    kept_added chunks are few =
        let same : all_taken (queues_of queue (there ++ Some new ∷ [])) ≡ all_taken (queues_of queue there ++ Some nothing ∷ []) = ap all_taken queues_added in
        let sum : all_taken (queues_of queue there ++ Some nothing ∷ []) ≡ all_taken (queues_of queue there) + 0 = sum_by_push taken_in (queues_of queue there) (Some nothing) in
        record {
          queues = subst AreQueues (sym queues_added) (queues_pushed (queues_of queue there) are.queues);
          sum = omega (arith, same, sum, are.sum);
          few = omega (arith, length_push there (Some new), few);
        }

    -- also where the host had no memory for it
    pub kept_pushed : {E : Type 0} (result : Result ℕ E) (left : List (Option X)) (chunks : ℕ) → OnOk result (left ≡ there ++ Some new ∷ [])
        → OnErr result (left ≡ there) → AreKept queue there chunks → length there + 1 < 2 ^ 32 → AreKept queue left chunks
    kept_pushed (Ok place) left chunks ok err are few = subst (λ l. AreKept queue l chunks) (sym ok) (kept_added chunks are few)
    kept_pushed (Err error) left chunks ok err are few = subst (λ l. AreKept queue l chunks) (sym err) are
