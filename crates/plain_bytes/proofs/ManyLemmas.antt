-- Many queues: what stands at a place, after one has changed, and the sum of their chunks.
use Rattle.std.proofs.Common.{◌≡◌, ◌⊎◌, ℕ, zero, suc, ◌*◌, ◌<◌, ◌≤◌, List, [], ◌∷◌, ◌++◌, length, get_or, set, map, Option, None, Some, refl, ap, sym, ◌∙◌, subst, inl, inr, arith}
use Rattle.std.specs.List.{range_with_len, sum_by}
use Rattle.std.proofs.lemmas.Bool.{cases_eq, cases_lt}
use Rattle.std.proofs.lemmas.Bool.Decides.{nat_tests}
use Rattle.std.proofs.lemmas.List.{get_or-map, get_or-set_same, get_or-set_other, get_or_append_left, get_or_past, get_or_push, length-map, length-set, length_push, same_lists, set_past}
use Rattle.std.proofs.lemmas.List.FromFn.{get_or-map-range_with_len, length-map-range_with_len}
use Rattle.std.proofs.lemmas.List.Sums.{sum-map, sum_by-cons}
use Rattle.std.proofs.lemmas.Option.{none-some, same_Some}
use Rattle.posix_defs.specs.Account.{chunks_taken, front_after}
use Rattle.posix_defs.specs.QueuePlace.{chunks_of}
use Rattle.plain_bytes.specs.Unread.{IsQueue, Unread, nothing, taken_by}
use Rattle.plain_bytes.specs.Many.{AreQueues, Fade, Follow, all_taken, front_in, fronts, length_in, lengths, queue_at, taken_in}

-- ---- what stands at a place

length_at : (queues : List (Option Unread)) (place : ℕ) → get_or (lengths queues) place 0 ≡ length_in (queue_at queues place)
length_at [] place = refl
length_at (queue ∷ rest) zero = refl
length_at (queue ∷ rest) (suc place) = length_at rest place

front_at : (queues : List (Option Unread)) (place : ℕ) → get_or (fronts queues) place 0 ≡ front_in (queue_at queues place)
front_at [] place = refl
front_at (queue ∷ rest) zero = refl
front_at (queue ∷ rest) (suc place) = front_at rest place

-- something stands only where a place was made
pub is_within : (queues : List (Option Unread)) (place : ℕ) (queue : Unread) → queue_at queues place ≡ Some queue → place < length queues
is_within queues place queue h = elim (cases_lt place (length queues)) [
  | inl lt ↦ lt
  | inr le ↦ absurd (none-some queue (sym (get_or_past queues place None le) ∙ h))
]

-- ---- fronts

same_front : (n front : ℕ) → (n ≡ 0 → front ≡ 0) → front_after n n front ≡ front
same_front n front empty = grind (arith, nat_tests)

no_front : (before n front now : ℕ) → n ≡ 0 → now ≡ 0 → front_after before n front ≡ now
no_front before n front now none at = grind (arith, nat_tests)

-- a queue that stays keeps its front
stays : (queue : Option Unread) → ((q : Unread) → queue ≡ Some q → IsQueue q) → front_after (length_in queue) (length_in queue) (front_in queue) ≡ front_in queue
stays None is = refl
stays (Some q) is = same_front (length q.bytes) q.front (is q refl).empty

-- where the fronts follow at each place they all do
pub follow_each : (old new : List (Option Unread))
    → ((place : ℕ) → place < length new
    → front_after (length_in (queue_at old place)) (length_in (queue_at new place)) (front_in (queue_at old place)) ≡ front_in (queue_at new place))
    → Follow old new
follow_each old new each =
    let moved : ℕ → ℕ = λ place. front_after (get_or (lengths old) place 0) (get_or (lengths new) place 0) (get_or (fronts old) place 0) in
    let many : length (fronts new) ≡ length new = length-map new front_in in
    let long : length (lengths new) ≡ length new = length-map new length_in in
    same_lists _ _ (many ∙ sym long ∙ sym (length-map-range_with_len moved 0 (length (lengths new)))) (λ k none lt.
    let within : k < length new = omega (arith, lt, many) in
    get_or-map front_in new k None none within ∙ sym (each k within)
    ∙ ap (λ n. front_after n (length_in (queue_at new k)) (front_in (queue_at old k))) (sym (length_at old k))
    ∙ ap (λ n. front_after (get_or (lengths old) k 0) n (front_in (queue_at old k))) (sym (length_at new k))
    ∙ ap (λ n. front_after (get_or (lengths old) k 0) (get_or (lengths new) k 0) n) (sym (front_at old k))
    ∙ sym (get_or-map-range_with_len moved 0 (length (lengths new)) k k none (omega (arith, within, long)) (omega arith)))

-- one queue changes, and its front with it
pub follow_set : (queues : List (Option Unread)) (place : ℕ) (queue now : Unread) → AreQueues queues → queue_at queues place ≡ Some queue
    → now.front ≡ front_after (length queue.bytes) (length now.bytes) queue.front → Follow queues (set queues place (Some now))
follow_set queues place queue now are there moved = follow_each queues (set queues place (Some now)) (λ k lt. elim (cases_eq k place) [
  | inl same ↦
      let old : queue_at queues k ≡ Some queue = ap (queue_at queues) same ∙ there in
      let new : queue_at (set queues place (Some now)) k ≡ Some now =
      ap (queue_at (set queues place (Some now))) same ∙ get_or-set_same queues place (Some now) None (is_within queues place queue there) in
      ap (λ o. front_after (length_in o) (length_in (queue_at (set queues place (Some now)) k)) (front_in o)) old
      ∙ ap (λ o. front_after (length queue.bytes) (length_in o) queue.front) new ∙ sym moved ∙ sym (ap front_in new)
  | inr differs ↦
      let other : queue_at (set queues place (Some now)) k ≡ queue_at queues k = get_or-set_other queues place k (Some now) None differs in
      ap (λ o. front_after (length_in (queue_at queues k)) (length_in o) (front_in (queue_at queues k))) other
      ∙ stays (queue_at queues k) (are k) ∙ sym (ap front_in other)
])

-- queues that lose their bytes
pub follow_fade : (old new : List (Option Unread)) → AreQueues old → Fade old new → Follow old new
follow_fade old new are fade = follow_each old new (λ k lt. elim (fade.each k) [
  | inl same ↦
      ap (λ o. front_after (length_in (queue_at old k)) (length_in o) (front_in (queue_at old k))) same
      ∙ stays (queue_at old k) (are k) ∙ sym (ap front_in same)
  | inr gone ↦ no_front (length_in (queue_at old k)) (length_in (queue_at new k)) (front_in (queue_at old k)) (front_in (queue_at new k)) gone.0 gone.1
])

-- ---- all stay queues

pub queues_set : (queues : List (Option Unread)) (place : ℕ) (now : Option Unread) → AreQueues queues → ((queue : Unread) → now ≡ Some queue → IsQueue queue)
    → AreQueues (set queues place now)
queues_set queues place now are is other queue there = elim (cases_eq other place) [
  | inl same ↦ elim (cases_lt place (length queues)) [
    | inl lt ↦ is queue (sym (get_or-set_same queues place now None lt) ∙ subst (λ p. queue_at (set queues place now) p ≡ Some queue) same there)
    | inr le ↦ are other queue (subst (λ xs. queue_at xs other ≡ Some queue) (set_past queues place now le) there)
  ]
  | inr differs ↦ are other queue (sym (get_or-set_other queues place other now None differs) ∙ there)
]

nothing_is : IsQueue nothing
nothing_is = record { front = omega arith; empty = λ none. refl; room = omega arith }

pub queues_pushed : (queues : List (Option Unread)) → AreQueues queues → AreQueues (queues ++ Some nothing ∷ [])
queues_pushed queues are place queue there = elim (cases_lt place (length queues)) [
  | inl lt ↦ are place queue (sym (get_or_append_left queues (Some nothing ∷ []) None place lt) ∙ there)
  | inr le ↦ elim (cases_eq (length queues) place) [
    | inl same ↦ subst IsQueue (same_Some nothing queue (sym (get_or_push queues (Some nothing) None place same) ∙ there)) nothing_is
    | inr differs ↦
        absurd (none-some queue (sym (get_or_past (queues ++ Some nothing ∷ []) place None (omega (arith, le, differs, length_push queues (Some nothing)))) ∙ there))
  ]
]

-- ---- the sum of chunks

taken_is : (queue : Option Unread) → chunks_of (record { place = front_in queue; len = length_in queue }) ≡ taken_in queue
taken_is None = refl
taken_is (Some queue) = refl

pub taken_all : (queues : List (Option Unread)) → all_taken queues ≡ chunks_taken (lengths queues) (fronts queues)
taken_all queues =
    let taken : ℕ → ℕ = λ place. chunks_of (record { place = get_or (fronts queues) place 0; len = get_or (lengths queues) place 0 }) in
    let long : length (lengths queues) ≡ length queues = length-map queues length_in in
    let same : map taken_in queues ≡ map taken (range_with_len 0 (length (lengths queues))) =
    same_lists _ _ (length-map queues taken_in ∙ sym long ∙ sym (length-map-range_with_len taken 0 (length (lengths queues)))) (λ k none lt.
    let within : k < length queues = omega (arith, lt, length-map queues taken_in) in
    get_or-map taken_in queues k None none within ∙ sym (taken_is (queue_at queues k))
    ∙ ap (λ n. chunks_of (record { place = n; len = length_in (queue_at queues k) })) (sym (front_at queues k))
    ∙ ap (λ n. chunks_of (record { place = get_or (fronts queues) k 0; len = n })) (sym (length_at queues k))
    ∙ sym (get_or-map-range_with_len taken 0 (length (lengths queues)) k k none (omega (arith, within, long)) (omega arith))) in
    sym (sum-map taken_in queues) ∙ ap (sum_by (λ n. n)) same

taken_few : (queue : Unread) → IsQueue queue → taken_by queue ≤ 9
taken_few queue is = let front = is.front in let room = is.room in grind (arith, nat_tests)

few_in : (queue : Option Unread) → ((q : Unread) → queue ≡ Some q → IsQueue q) → taken_in queue ≤ 9
few_in None is = omega arith
few_in (Some queue) is = taken_few queue (is queue refl)

pub taken_most : (queues : List (Option Unread)) → AreQueues queues → all_taken queues ≤ 9 * length queues
taken_most [] are = omega arith
taken_most (queue ∷ rest) are =
    omega (arith, sum_by-cons taken_in queue rest, few_in queue (are 0), taken_most rest (λ place q there. are (suc place) q there))

-- ---- queues that go and come

pub fade_gone : (queues : List (Option Unread)) (place : ℕ) → Fade queues (set queues place None)
fade_gone queues place = record {
  longer = omega (arith, length-set queues place None);
  each = λ k. elim (cases_eq k place) [
    | inl same ↦ elim (cases_lt place (length queues)) [
      | inl lt ↦
          let none : queue_at (set queues place None) k ≡ None = ap (queue_at (set queues place None)) same ∙ get_or-set_same queues place None None lt in
          inr (ap length_in none, ap front_in none)
      | inr le ↦ inl (ap (λ xs. queue_at xs k) (set_past queues place None le))
    ]
    | inr differs ↦ inl (get_or-set_other queues place k None None differs)
  ];
}

pub fade_pushed : (queues : List (Option Unread)) → Fade queues (queues ++ Some nothing ∷ [])
fade_pushed queues = record {
  longer = omega (arith, length_push queues (Some nothing));
  each = λ k. elim (cases_lt k (length queues)) [
    | inl lt ↦ inl (get_or_append_left queues (Some nothing ∷ []) None k lt)
    | inr le ↦ elim (cases_eq (length queues) k) [
      | inl same ↦
          let new : queue_at (queues ++ Some nothing ∷ []) k ≡ Some nothing = get_or_push queues (Some nothing) None k same in
          inr (ap length_in new, ap front_in new)
      | inr differs ↦
          inl (get_or_past (queues ++ Some nothing ∷ []) k None (omega (arith, le, differs, length_push queues (Some nothing))) ∙ sym (get_or_past queues k None le))
    ]
  ];
}

pub fade_set : (queues : List (Option Unread)) (place : ℕ) (old now : Unread) → queue_at queues place ≡ Some old → (now ≡ old) ⊎ (now ≡ nothing)
    → Fade queues (set queues place (Some now))
fade_set queues place old now there so = record {
  longer = omega (arith, length-set queues place (Some now));
  each = λ k. elim (cases_eq k place) [
    | inl same ↦
        let new : queue_at (set queues place (Some now)) k ≡ Some now =
        ap (queue_at (set queues place (Some now))) same ∙ get_or-set_same queues place (Some now) None (is_within queues place old there) in
        elim so [
          | inl stays ↦ inl (new ∙ ap Some stays ∙ sym there ∙ ap (queue_at queues) (sym same))
          | inr goes ↦ let none : queue_at (set queues place (Some now)) k ≡ Some nothing = new ∙ ap Some goes in inr (ap length_in none, ap front_in none)
        ]
    | inr differs ↦ inl (get_or-set_other queues place k (Some now) None differs)
  ];
}

pub fade_same : (queues : List (Option Unread)) → Fade queues queues
fade_same queues = record { longer = omega arith; each = λ k. inl refl }

pub fade_further : (old middle new : List (Option Unread)) → Fade old middle → Fade middle new → Fade old new
fade_further old middle new first second = record {
  longer = let one : length old ≤ length middle = first.longer in let two : length middle ≤ length new = second.longer in omega arith;
  each = λ k. elim (second.each k) [
    | inl same ↦ elim (first.each k) [
      | inl before ↦ inl (same ∙ before)
      | inr gone ↦ inr (ap length_in same ∙ gone.0, ap front_in same ∙ gone.1)
    ]
    | inr gone ↦ inr gone
  ];
}
