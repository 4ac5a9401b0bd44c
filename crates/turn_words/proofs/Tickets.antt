-- As many tickets are out as there are numbers for them, and no two are the same: so each number is some view's.
use Rattle.std.proofs.Common.{◌≡◌, ◌≢◌, ℕ, zero, suc, ◌+◌, ◌<◌, ◌≤◌, ◌⊎◌, Bool, true, false, cond, eqb, List, [], ◌∷◌, length, refl, sym, ap, ◌∙◌, inl, inr, ⊎_elim, arith}
use Rattle.std.proofs.lemmas.Bool.Decides.{eqb_tells}
use mathlib.Core.Logic.{dite}
use mathlib.Core.Option.{some}
use native.Mathlib.Decide.{ℕ_discrete}
use lib.ListN.{get_elem?}
use Rattle.turn_words.specs.declared.items.Item.{Item}
use Rattle.turn_words.specs.declared.rule.TurnView.{TurnView}
use Rattle.turn_words.specs.Rule.{total, waiting}
use Rattle.turn_words.specs.Laws.{EachTicketStandsInOneView}
use Rattle.turn_words.proofs.Counts.{total_below}
use Rattle.turn_words.proofs.Held.{decide}

-- what isn't at least 1 is nothing
fewer : (rest here : ℕ) → here ≡ 1 → (1 ≤ rest → ⊥) → here + rest ≤ 1
fewer zero here is none_of = omega arith
fewer (suc rest) here is none_of = absurd (none_of (omega arith))

module _ {T : Type 0} where
  -- 1 for a view with this ticket
  abbrev has_number : ℕ → TurnView T → ℕ
  has_number n v = cond v.has_ticket (cond (eqb v.ticket n) 1 0) 0

  -- 1 for a view with one of k tickets, from n on
  abbrev is_among : ℕ → ℕ → TurnView T → ℕ
  is_among n zero v = 0
  is_among n (suc k) v = has_number n v + is_among (suc n) k v

  has_or_not : (n : ℕ) (v : TurnView T) → ((has_number n v ≡ 1) × (v.has_ticket ≡ true) × (v.ticket ≡ n)) ⊎ (has_number n v ≡ 0)
  has_or_not n v = ⊎_elim
      (λ (has : v.has_ticket ≡ true). ⊎_elim
      (λ is. inl (ap (λ (b : Bool). cond b (cond (eqb v.ticket n) 1 0) 0) has ∙ ap (λ (b : Bool). cond b 1 0) is.0, has, is.1))
      (λ not. inr (ap (λ (b : Bool). cond b (cond (eqb v.ticket n) 1 0) 0) has ∙ ap (λ (b : Bool). cond b 1 0) not.0))
      (eqb_tells v.ticket n))
      (λ (free : v.has_ticket ≡ false). inr (ap (λ (b : Bool). cond b (cond (eqb v.ticket n) 1 0) 0) free))
      (decide v.has_ticket)

  has_it : (n : ℕ) (v : TurnView T) → v.has_ticket ≡ true → v.ticket ≡ n → has_number n v ≡ 1
  has_it n v has is = ⊎_elim
      (λ (h : (has_number n v ≡ 1) × (v.has_ticket ≡ true) × (v.ticket ≡ n)). h.0)
      (λ (none_of : has_number n v ≡ 0). ⊎_elim
      (λ same. ap (λ (b : Bool). cond b (cond (eqb v.ticket n) 1 0) 0) has ∙ ap (λ (b : Bool). cond b 1 0) same.0)
      (λ other. absurd (other.1 is))
      (eqb_tells v.ticket n))
      (has_or_not n v)

  -- who counts has the ticket
  somebody : (n : ℕ) (views : List (TurnView T)) → 1 ≤ total (has_number n) views → (by : ℕ) × (v : TurnView T) × (get_elem? views by ≡ some v) × (v.has_ticket ≡ true) × (v.ticket ≡ n)
  somebody n [] one = absurd (omega arith)
  somebody n (x ∷ views) one = ⊎_elim
      (λ (h : (has_number n x ≡ 1) × (x.has_ticket ≡ true) × (x.ticket ≡ n)). (zero, x, refl, h.1, h.2))
      (λ (none_of : has_number n x ≡ 0). let r = somebody n views (omega arith) in (suc r.0, r.1, r.2, r.3, r.4))
      (has_or_not n x)

  -- no two views with one ticket
  abbrev AreDistinct : List (TurnView T) → Type 0
  AreDistinct views = (by other : ℕ) (v w : TurnView T) → by ≢ other → get_elem? views by ≡ some v → get_elem? views other ≡ some w → v.has_ticket ≡ true → w.has_ticket ≡ true → v.ticket ≢ w.ticket

  one_at_most : (n : ℕ) (views : List (TurnView T)) → AreDistinct views → total (has_number n) views ≤ 1
  one_at_most n [] apart = omega arith
  one_at_most n (x ∷ views) apart = ⊎_elim
      (λ (h : (has_number n x ≡ 1) × (x.has_ticket ≡ true) × (x.ticket ≡ n)).
      let others : (1 ≤ total (has_number n) views) → ⊥ =
      λ some_more. let r = somebody n views some_more in apart zero (suc r.0) x r.1 (λ e. omega arith) refl r.2 h.1 r.3 (h.2 ∙ sym r.4) in
      let counts = h.0 in
      fewer (total (has_number n) views) (has_number n x) counts others)
      (λ (none_of : has_number n x ≡ 0).
      let r = one_at_most n views (λ by other v w ne e f. apart (suc by) (suc other) v w (λ q. ne (omega arith)) e f) in
      omega arith)
      (has_or_not n x)

  total_sum : (f g : TurnView T → ℕ) (views : List (TurnView T)) → total (λ v. f v + g v) views ≡ total f views + total g views
  total_sum f g [] = omega arith
  total_sum f g (x ∷ views) = let r = total_sum f g views in omega arith

  split_among : (n k : ℕ) (views : List (TurnView T)) → total (is_among n (suc k)) views ≡ total (has_number n) views + total (is_among (suc n) k) views
  split_among n k views = total_sum (has_number n) (is_among (suc n) k) views

  none_among : (n : ℕ) (views : List (TurnView T)) → total (is_among n zero) views ≡ 0
  none_among n [] = refl
  none_among n (x ∷ views) = let r = none_among n views in omega arith

  so_many_at_most : (n k : ℕ) (views : List (TurnView T)) → AreDistinct views → total (is_among n k) views ≤ k
  so_many_at_most n zero views apart = let r = none_among n views in omega arith
  so_many_at_most n (suc k) views apart =
      let a = split_among n k views in
      let b = one_at_most n views apart in
      let c = so_many_at_most (suc n) k views apart in
      omega arith

  -- of k numbers one is counted apart
  without_one : (n k t : ℕ) (views : List (TurnView T)) → AreDistinct views → n ≤ t → t < n + k → total (is_among n k) views + 1 ≤ total (has_number t) views + k
  without_one n zero t views apart low high = absurd (omega arith)
  without_one n (suc k) t views apart low high =
      let a = split_among n k views in
      dite (ℕ_discrete t n)
      (λ (is : t ≡ n).
      let b = so_many_at_most (suc n) k views apart in
      let c : total (has_number t) views ≡ total (has_number n) views = ap (λ (m : ℕ). total (has_number m) views) is in
      omega arith)
      (λ (other : t ≢ n).
      let b = one_at_most n views apart in
      let c = without_one (suc n) k t views apart (omega arith) (omega arith) in
      omega arith)

  is_counted : (n k : ℕ) (v : TurnView T) → v.has_ticket ≡ true → n ≤ v.ticket → v.ticket < n + k → 1 ≤ is_among n k v
  is_counted n zero v has low high = absurd (omega arith)
  is_counted n (suc k) v has low high = dite (ℕ_discrete v.ticket n)
      (λ (is : v.ticket ≡ n). let a = has_it n v has is in omega arith)
      (λ (other : v.ticket ≢ n). let a = is_counted (suc n) k v has (omega arith) (omega arith) in omega arith)

  waits_among : (n k : ℕ) (v : TurnView T) → (v.has_ticket ≡ true → (n ≤ v.ticket) × (v.ticket < n + k)) → waiting v ≤ is_among n k v
  waits_among n k v range = ⊎_elim
      (λ (has : v.has_ticket ≡ true). let r = range has in let a = is_counted n k v has r.0 r.1 in let b : waiting v ≡ 1 = ap (λ (b : Bool). cond b 1 0) has in omega arith)
      (λ (free : v.has_ticket ≡ false). let b : waiting v ≡ 0 = ap (λ (b : Bool). cond b 1 0) free in omega arith)
      (decide v.has_ticket)

module _ {T : Type 0} (stands : T → List Item → Type 0) where
  pub each_ticket : EachTicketStandsInOneView stands
  each_ticket history s r n low high =
      let views = s.views in
      let many : ℕ = total waiting views in
      let first : ℕ = length history in
      let apart : AreDistinct views = λ by other v w ne e f. (r.apart by other v w ne e f).tickets in
      let all = total_below waiting (is_among first many) views (λ by v at. waits_among first many v (r.tickets by v at)) in
      let rest = without_one first many n views apart low high in
      let found = somebody n views (omega arith) in (
        found.0,
        (found.1, found.2, found.3, found.4),
        λ other w there has is. dite (ℕ_discrete other found.0)
            (λ (same : other ≡ found.0). same)
            (λ (ne : other ≢ found.0). absurd (apart other found.0 w found.1 ne there found.2 has found.3 (is ∙ sym found.4))),
      )
