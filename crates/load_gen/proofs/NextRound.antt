-- One more round of a script.
use Rattle.std.proofs.Common.{◌≡◌, ℕ, ◌+◌, ◌*◌, ◌%◌, ◌≤◌, ◌==◌, Bool, true, false, if◌then◌else◌, List, ◌++◌, length, sym, ap, ◌∙◌, arith, add-one, length-append, lit≤}
use Rattle.kabi_types.specs.declared.scripts.Statement.{Statement}
use Rattle.posix_defs.specs.Generator.{next_state, state_after, choice_of}
use Rattle.posix_defs.specs.Generated.{round, round_of, rounds_to}

-- the state of the generator behind it
pub state_further : (n i state next : ℕ) → state ≡ state_after n i → next ≡ next_state state → next ≡ state_after n (i + 1)
state_further n i state next before is = is ∙ ap next_state before ∙ sym (ap (state_after n) (add-one i))

-- its statements stand behind those before it
pub rounds_further : (n i state : ℕ) (body new : List Statement) → body ≡ rounds_to n i → state ≡ state_after n (i + 1)
    → new ≡ body ++ round i state (length body) → new ≡ rounds_to n (i + 1)
rounds_further n i state body new before chosen is =
    is ∙ ap (λ b. b ++ round i state (length b)) before
    ∙ ap (λ s. rounds_to n i ++ round i s (length (rounds_to n i))) (chosen ∙ ap (state_after n) (add-one i))
    ∙ sym (ap (rounds_to n) (add-one i))

either : (test : Bool) (xs ys : List Statement) → length xs ≤ 8 → length ys ≤ 8 → length (if test then xs else ys) ≤ 8
either true xs ys short other = short
either false xs ys other short = short

-- a round has at most 8 statements
few : (which i q w at : ℕ) → length (round_of which i q w at) ≤ 8
few which i q w at =
    either (which == 0) _ _ (lit≤ tt)
    (either (which == 1) _ _ (lit≤ tt)
    (either (which == 2) _ _ (lit≤ tt)
    (either (which == 3) _ _ (lit≤ tt)
    (either (which == 4) _ _ (lit≤ tt) (either (which == 5) _ _ (lit≤ tt) (either (which == 6) _ _ (lit≤ tt) (lit≤ tt)))))))

-- so many rounds have at most so many
pub short_further : (i state : ℕ) (body new : List Statement) → length body ≤ 1 + 8 * i → new ≡ body ++ round i state (length body)
    → length new ≤ 1 + 8 * (i + 1)
short_further i state body new short is =
    let whole : length new ≡ length body + length (round i state (length body)) = ap length is ∙ length-append body (round i state (length body)) in
    let one : length (round i state (length body)) ≤ 8 = few (choice_of state % 8) i (i % 16) (state % 20000) (length body) in
    omega arith
