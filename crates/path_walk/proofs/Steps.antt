-- One component on: where the rest of a path leads, and what it asks.
use Rattle.std.proofs.Common.{◌≡◌, ℕ, Bool, true, List, [], ◌∷◌, ◌++◌, Result, Ok, ap, subst}
use Rattle.kabi_types.specs.declared.errnos.Errno.{Errno}
use Rattle.posix_defs.specs.Asking.{AskedInTurn}
use Rattle.posix_defs.specs.Tree.{Tree}
use Rattle.posix_defs.specs.Paths.{go_on, leads, step}
use Rattle.posix_defs.specs.Queries.{asks, component_asks, then_asks}

-- questions after questions
pub asked_append : {Thing Question : Type 0} (asked : Thing → Question → Thing → Type 0) (first second third : Thing) (xs ys : List Question)
    → AskedInTurn asked first xs second → AskedInTurn asked second ys third → AskedInTurn asked first (xs ++ ys) third
asked_append {Thing} {Question} asked first second third [] ys none rest = subst (λ (thing : Thing). AskedInTurn asked thing ys third) none rest
asked_append asked first second third (x ∷ xs) ys some rest = (some.0, some.1, asked_append asked some.0 second third xs ys some.2 rest)

pub leads_on : (tree : Tree) (slashed : Bool) (dir to : ℕ) (name next : List ℕ) (names : List (List ℕ)) → step tree dir name ≡ Ok to
    → leads tree slashed dir (name ∷ next ∷ names) ≡ leads tree slashed to (next ∷ names)
leads_on tree slashed dir to name next names is = ap (λ (r : Result ℕ Errno). go_on r (λ n. leads tree slashed n (next ∷ names))) is

pub asks_on : (tree : Tree) (slashed : Bool) (dir to : ℕ) (name next : List ℕ) (names : List (List ℕ)) → step tree dir name ≡ Ok to
    → asks tree slashed dir (name ∷ next ∷ names) ≡ component_asks tree dir name true ++ asks tree slashed to (next ∷ names)
asks_on tree slashed dir to name next names is =
    ap (λ (r : Result ℕ Errno). component_asks tree dir name true ++ then_asks r (λ n. asks tree slashed n (next ∷ names))) is
