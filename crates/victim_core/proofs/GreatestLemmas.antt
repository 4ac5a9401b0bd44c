-- The machine's own choice among weights by rising pid is the victim.
use Rattle.std.proofs.Common.{◌≡◌, ◌≢◌, ◌==◌, ◌⊎◌, ℕ, ◌<◌, ◌≤◌, Bool, true, not, cond, leb, filter, List, [], ◌∷◌, Some, refl, sym, ap, ◌∙◌, subst, inl, inr, ⊎_elim, arith}
use Rattle.std.specs.List.{All, Contains}
use Rattle.std.proofs.lemmas.List.Elements.{All-head, All-tail, All-cons, All-nil, All-filter, All-weaker, All-contains, All-contains_itself, Contains-append_left, Contains-append_right, Contains-append_cases, filter_passes}
use Rattle.std.proofs.lemmas.Bool.{cond_both, leb-true, leb-false, eq-eqb, both_ways, not-true, ne_eqb, not_from_false, cases_lt}
use Rattle.kabi_types.specs.declared.classes.Weight.{Weight}
use Rattle.kabi_types.specs.declared.scripts.Policy.{Policy}
use Rattle.posix_defs.specs.Victim.{score_of, greatest, pid_of_greatest}
use Rattle.victim_core.specs.Victims.{IsVictim, StandsBehind, RisesByPid}

-- the other scores less, or the same and its pid is no higher
abbrev IsLess : Policy → Weight → Weight → Type 0
IsLess policy best w = (score_of policy w < score_of policy best) ⊎ ((score_of policy w ≡ score_of policy best) × (w.pid ≤ best.pid))

-- what is less than a weight that is less than the best, is less than the best
less-trans : (policy : Policy) (best v w : Weight) → IsLess policy best v
    → score_of policy w ≤ score_of policy v → w.pid ≤ v.pid → IsLess policy best w
less-trans policy best v w less score pid =
    ⊎_elim
    (λ below. inl (omega arith))
    (λ same. ⊎_elim
    (λ under. inl (omega arith))
    (λ equal. inr (equal ∙ same.0, omega arith))
    (at_most (score_of policy w) (score_of policy v) score))
    less
  where
    at_most : (m n : ℕ) → m ≤ n → (m < n) ⊎ (m ≡ n)
    at_most m n h = ⊎_elim inl (λ le. inr (omega arith)) (cases_lt m n)

-- the greatest of a weight and those behind it, whose pids are higher
record IsGreatest (policy : Policy) (w : Weight) (weights : List Weight) (best : Weight) : Type 0 where
  first : IsLess policy best w
  others : All (IsLess policy best) weights
  among : Contains (w ∷ weights) best

there : (w : Weight) (weights : List Weight) → Contains (w ∷ weights) w
there w weights = Contains-append_left (w ∷ []) weights w (0, omega arith, refl)

greatest-is : (policy : Policy) (w : Weight) (weights : List Weight) → All (λ v. w.pid < v.pid) weights → RisesByPid weights
    → IsGreatest policy w weights (greatest policy w weights)
greatest-is policy w [] above rises = record {
  first = inr (refl, omega arith);
  others = All-nil (IsLess policy w);
  among = there w [];
}
greatest-is policy w (v ∷ weights) above rises =
    let Best : Weight → Type 0 = λ next. IsGreatest policy w (v ∷ weights) (greatest policy next weights) in
    let higher : w.pid < v.pid = All-head (λ u. w.pid < u.pid) v weights above in
    cond_both (leb (score_of policy w) (score_of policy v)) v w Best
    (λ at_least.
    let best = greatest-is policy v weights rises.0 rises.1 in
    record {
      first = less-trans policy (greatest policy v weights) v w best.first (leb-true (score_of policy w) (score_of policy v) at_least) (omega arith);
      others = All-cons (IsLess policy (greatest policy v weights)) v weights best.first best.others;
      among = Contains-append_right (w ∷ []) (v ∷ weights) (greatest policy v weights) best.among;
    })
    (λ less.
    let best = greatest-is policy w weights (All-tail (λ u. w.pid < u.pid) v weights above) rises.1 in
    let below : score_of policy v < score_of policy w = leb-false (score_of policy w) (score_of policy v) less in
    record {
      first = best.first;
      others = All-cons (IsLess policy (greatest policy w weights)) v weights
          (⊎_elim (λ under. inl (omega arith)) (λ same. inl (omega arith)) best.first) best.others;
      among = past (greatest policy w weights) best.among;
    })
  where
    past : (best : Weight) → Contains (w ∷ weights) best → Contains (w ∷ v ∷ weights) best
    past best found =
        ⊎_elim
        (λ here. Contains-append_left (w ∷ []) (v ∷ weights) best here)
        (λ later. Contains-append_right (w ∷ v ∷ []) weights best later)
        (Contains-append_cases (w ∷ []) weights best found)

-- a weight that passes stays among those that pass
All-filtered : (p : Weight → Bool) (weights : List Weight) → All (λ w. p w ≡ true → Contains (filter p weights) w) weights
All-filtered p [] = All-nil (λ w. p w ≡ true → Contains [] w)
All-filtered p (v ∷ weights) =
    let rest = filter p weights in
    let Kept : Weight → Type 0 = λ w. p w ≡ true → Contains (filter p (v ∷ weights)) w in
    All-cons Kept v weights
    (λ passes. subst (λ b. Contains (cond b (v ∷ rest) rest) v) (sym passes) (there v rest))
    (All-weaker (λ w. p w ≡ true → Contains rest w) Kept
    (λ w kept passes. cond_both (p v) (v ∷ rest) rest (λ found. Contains found w)
    (λ _. Contains-append_right (v ∷ []) rest w (kept passes))
    (λ _. kept passes))
    weights (All-filtered p weights))

Contains-filter : (p : Weight → Bool) (weights : List Weight) (w : Weight) → p w ≡ true → Contains weights w → Contains (filter p weights) w
Contains-filter p weights w passes found =
    All-contains (λ v. p v ≡ true → Contains (filter p weights) v) weights w (All-filtered p weights) found passes

RisesByPid-filter : (p : Weight → Bool) (weights : List Weight) → RisesByPid weights → RisesByPid (filter p weights)
RisesByPid-filter p [] rises = tt
RisesByPid-filter p (w ∷ weights) rises =
    cond_both (p w) (w ∷ filter p weights) (filter p weights) RisesByPid
    (λ passes. (All-filter p (λ v. w.pid < v.pid) weights rises.0, RisesByPid-filter p weights rises.1))
    (λ fails. RisesByPid-filter p weights rises.1)

-- of weights that have the victim's and none of the first process, the greatest has its pid
named : (policy : Policy) (weights : List Weight) (pid : ℕ) (victim : IsVictim policy weights pid) (rest : List Weight)
    → RisesByPid rest → All (Contains weights) rest → All (λ w. w.pid ≢ 1) rest → Contains rest victim.weight
    → pid_of_greatest policy rest ≡ Some pid
named policy weights pid victim [] rises within others found = absurd (omega (arith, found.1))
named policy weights pid victim (w ∷ rest) rises within others found =
    let best = greatest policy w rest in
    let known = greatest-is policy w rest rises.0 rises.1 in
    let less : IsLess policy best victim.weight =
    All-contains (IsLess policy best) (w ∷ rest) victim.weight (All-cons (IsLess policy best) w rest known.first known.others) found in
    let inside : Contains weights best = All-contains (Contains weights) (w ∷ rest) best within known.among in
    let other : best.pid ≢ 1 = All-contains (λ v. v.pid ≢ 1) (w ∷ rest) best others known.among in
    let behind : StandsBehind policy victim.weight best = All-contains (StandsBehind policy victim.weight) weights best victim.greatest inside in
    let same : best.pid ≡ victim.weight.pid =
    ⊎_elim
    (λ under. ⊎_elim (λ over. omega arith) (λ equal. omega arith) (behind other))
    (λ alike. ⊎_elim (λ over. omega arith) (λ equal. omega arith) (behind other))
    less in
    ap Some (same ∙ victim.of_pid)

pub victim-named : (policy : Policy) (weights : List Weight) (pid : ℕ) → RisesByPid weights → IsVictim policy weights pid
    → pid_of_greatest policy (filter (λ w. not (w.pid == 1)) weights) ≡ Some pid
victim-named policy weights pid rises victim =
    let p : Weight → Bool = λ w. not (w.pid == 1) in
    named policy weights pid victim (filter p weights)
    (RisesByPid-filter p weights rises)
    (All-filter p (Contains weights) weights (All-contains_itself weights))
    (All-weaker (λ w. p w ≡ true) (λ w. w.pid ≢ 1) (λ w passes first. both_ways (w.pid == 1) (not-true (w.pid == 1) passes) (eq-eqb w.pid 1 first)) (filter p weights) (filter_passes p weights))
    (Contains-filter p weights victim.weight (not_from_false (victim.weight.pid == 1) (ne_eqb victim.weight.pid 1 (λ first. victim.not_first (sym victim.of_pid ∙ first)))) victim.there)
