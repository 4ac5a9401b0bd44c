-- One weight more is looked at.
use Rattle.std.proofs.Common.{◌≡◌, ◌≢◌, ◌==◌, ◌&&◌, ◌∙◌, ◌↔◌, cond, ltb, is_some, IsNone, ℕ, List, [], ◌∷◌, ◌++◌, Option, None, Some, refl, sym, inl, inr, ⊎_elim, arith}
use Rattle.std.specs.List.{All}
use Rattle.std.proofs.lemmas.List.Elements.{All-push, All-weaker, All-contains, Contains-push, Contains-append_left}
use Rattle.std.proofs.lemmas.Bool.{true≢false, false≢true, cond_both, ltb-true, ltb-false, eqb-true, eqb-false, and_parts, and_cases, cases_eq}
use Rattle.kabi_types.specs.declared.classes.Weight.{Weight}
use Rattle.kabi_types.specs.declared.scripts.Policy.{Policy}
use Rattle.posix_defs.specs.Victim.{score_of}
use Rattle.victim_core.specs.declared.best.Best.{Best}
use Rattle.victim_core.specs.Victims.{IsVictim, StandsBehind}
use Rattle.victim_core.specs.Judging.{IsJudged, better_of}

-- the first process's weight changes nothing
pub judged_past_first : (policy : Policy) (seen : List Weight) (w : Weight) (best : Option Best)
    → w.pid ≡ 1 → IsJudged policy seen best → IsJudged policy (seen ++ w ∷ []) best
judged_past_first policy seen w None first known = All-push (λ v. v.pid ≡ 1) seen w known first
judged_past_first policy seen w (Some best) first known = (
  record {
    weight = known.0.weight;
    there = Contains-append_left seen (w ∷ []) known.0.weight known.0.there;
    of_pid = known.0.of_pid;
    not_first = known.0.not_first;
    greatest = All-push (StandsBehind policy known.0.weight) seen w known.0.greatest (λ other. absurd (other first));
  },
  known.1,
)

-- a weight that those before stand behind is the best from now on
taken : (policy : Policy) (seen : List Weight) (w : Weight) (pid : ℕ) → pid ≡ w.pid → w.pid ≢ 1 → All (StandsBehind policy w) seen
    → IsVictim policy (seen ++ w ∷ []) pid
taken policy seen w pid named other behind = record {
  weight = w;
  there = Contains-push seen w;
  of_pid = sym named;
  not_first = λ first. other (sym named ∙ first);
  greatest = All-push (StandsBehind policy w) seen w behind (λ not_first. inr (refl, omega arith));
}

-- one that stands behind the best so far leaves it
kept : (policy : Policy) (seen : List Weight) (w : Weight) (pid : ℕ) (victim : IsVictim policy seen pid)
    → StandsBehind policy victim.weight w → IsVictim policy (seen ++ w ∷ []) pid
kept policy seen w pid victim behind = record {
  weight = victim.weight;
  there = Contains-append_left seen (w ∷ []) victim.weight victim.there;
  of_pid = victim.of_pid;
  not_first = victim.not_first;
  greatest = All-push (StandsBehind policy victim.weight) seen w victim.greatest behind;
}

-- what stands behind a weight stands behind one that it stands behind itself
behind-trans : (policy : Policy) (u v w : Weight) → u.pid ≢ 1 → StandsBehind policy w v
    → v.pid ≢ 1 → StandsBehind policy v u → StandsBehind policy w u
behind-trans policy u v w not_first after not_v before =
    λ _. ⊎_elim
    (λ less. ⊎_elim (λ more. inl (omega arith)) (λ same. inl (omega arith)) (after not_v))
    (λ same. ⊎_elim (λ more. inl (omega arith)) (λ equal. inr (omega arith, omega arith)) (after not_v))
    (before not_first)

module _ (policy : Policy) (seen : List Weight) (w : Weight) (other : w.pid ≢ 1) where
  -- against the best so far, the weight takes its place or stands behind it
  against : (best next : Best) → next.score ≡ score_of policy w → next.pid ≡ w.pid
      → IsJudged policy seen (Some best) → IsJudged policy (seen ++ w ∷ []) (Some (better_of (Some best) next))
  unfolding kept taken
  against best next scored named known =
      let victim = known.0 in
      let Known : Best → Type 0 = λ b. IsJudged policy (seen ++ w ∷ []) (Some b) in
      let not_first : victim.weight.pid ≢ 1 = λ first. victim.not_first (sym victim.of_pid ∙ first) in
      let stays : StandsBehind policy victim.weight w → Known best = λ behind. (kept policy seen w best.pid victim behind, known.1) in
      let falls : StandsBehind policy w victim.weight → Known next = λ after.
      (taken policy seen w next.pid named other (All-weaker (StandsBehind policy victim.weight) (StandsBehind policy w) (λ u before not_u. behind-trans policy u victim.weight w not_u after not_first before not_u) seen victim.greatest), scored) in
      cond_both (ltb next.score best.score) best (cond ((next.score == best.score) && ltb next.pid best.pid) best next) Known
      (λ less. stays (λ _. inl (omega (arith, ltb-true next.score best.score less, known.1))))
      (λ more. cond_both ((next.score == best.score) && ltb next.pid best.pid) best next Known
      (λ both. let parts = and_parts (next.score == best.score) (ltb next.pid best.pid) both in
      stays (λ _. inr (omega (arith, eqb-true next.score best.score parts.0, known.1), omega (arith, ltb-true next.pid best.pid parts.1, victim.of_pid))))
      (λ not_both. ⊎_elim
      (λ unequal. falls (λ _. inl (omega (arith, ltb-false next.score best.score more, eqb-false next.score best.score unequal, known.1))))
      (λ lower. falls (λ _. ⊎_elim
      (λ equal. inr (omega (arith, known.1), omega (arith, ltb-false next.pid best.pid lower, victim.of_pid)))
      (λ unequal. inl (omega (arith, ltb-false next.score best.score more, known.1)))
      (cases_eq next.score best.score)))
      (and_cases (next.score == best.score) (ltb next.pid best.pid) not_both)))

  -- another process's weight
  pub judged_past : (best : Option Best) (next : Best) → next.score ≡ score_of policy w → next.pid ≡ w.pid
      → IsJudged policy seen best → IsJudged policy (seen ++ w ∷ []) (Some (better_of best next))
  unfolding taken
  judged_past None next scored named first =
      (taken policy seen w next.pid named other (All-weaker (λ v. v.pid ≡ 1) (StandsBehind policy w) (λ v is_first not_first. absurd (not_first is_first)) seen first), scored)
  judged_past (Some best) next scored named known = against best next scored named known

-- a best one is known exactly where a process other than the first is there
pub none_judged : (policy : Policy) (weights : List Weight) (best : Option Best) (result : Option ℕ)
    → IsJudged policy weights best → is_some result ≡ is_some best → IsNone result ↔ All (λ w. w.pid ≡ 1) weights
none_judged policy weights None None first same = (λ none. first, λ all. refl)
none_judged policy weights None (Some pid) first same = absurd (true≢false same)
none_judged policy weights (Some best) None known same = absurd (false≢true same)
none_judged policy weights (Some best) (Some pid) known same =
    (λ none. absurd (true≢false none), λ all. absurd (known.0.not_first (sym known.0.of_pid ∙ All-contains (λ w. w.pid ≡ 1) weights known.0.weight all known.0.there)))
