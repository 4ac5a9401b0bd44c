-- The victim of a kill is a live process, and not the first.
use Rattle.std.proofs.Common.{◌≡◌, ◌≢◌, ℕ, suc, ◌+◌, ◌==◌, ◌&&◌, not, Bool, true, false, cond, List, [], ◌∷◌, Option, None, Some, slice_get, unwrap_or, refl, sym, subst, arith, inl, inr}
use Rattle.std.specs.Prelude.{nat_le}
use Rattle.std.proofs.lemmas.Bool.Decides.{eqb_tells}
use Rattle.kabi_types.specs.declared.classes.Weight.{Weight}
use Rattle.kabi_types.specs.declared.scripts.Policy.{Policy}
use Rattle.posix_defs.specs.Process.{Process, Table, is_alive, is_alive_in}
use Rattle.posix_defs.specs.Plain.{Plain}
use Rattle.posix_defs.specs.World.{Account}
use Rattle.posix_defs.specs.Victim.{greatest, pid_of_greatest, score_of, victim_of, weight_of, weights_from}

-- a weight is that of a live process, not the first, among those from a pid on
abbrev IsOf : ℕ → Table → Weight → Type 0
IsOf first table w = (i : ℕ) × (w.pid ≡ first + i) × (is_alive_in (unwrap_or (slice_get table i) None) ≡ true) × (w.pid ≢ 1)

abbrev AreOf : ℕ → Table → List Weight → Type 0
AreOf first table [] = Unit {0}
AreOf first table (w ∷ ws) = IsOf first table w × AreOf first table ws

later : (first : ℕ) (there : Option Process) (table : Table) (ws : List Weight) → AreOf (first + 1) table ws → AreOf first (there ∷ table) ws
later first there table [] are = tt
later first there table (w ∷ ws) are =
    let found = are.0 in
    ((suc found.0, (let e : w.pid ≡ first + 1 + found.0 = found.1 in omega arith), found.2, found.3), later first there table ws are.1)

all_of : (plain : Plain) (account : Account) (first : ℕ) (table : Table) → AreOf first table (weights_from plain account first table)
all_of plain account first [] = tt
all_of plain account first (there ∷ table) = go (is_alive_in there) refl (first == 1) refl (later first there table (weights_from plain account (first + 1) table) (all_of plain account (first + 1) table))
  where
    apart : (first == 1) ≡ false → first ≢ 1
    apart e same = elim (eqb_tells first 1) [ inl is ↦ (let f = is.0 in cc) | inr is ↦ is.1 same ]

    go : (b : Bool) → is_alive_in there ≡ b → (c : Bool) → (first == 1) ≡ c → AreOf first (there ∷ table) (weights_from plain account (first + 1) table)
        → AreOf first (there ∷ table) (cond (b && not c) (weight_of plain account first ∷ weights_from plain account (first + 1) table) (weights_from plain account (first + 1) table))
    go true alive false other are = ((0, omega arith, alive, apart other), are)
    go true alive true other are = are
    go false alive false other are = are
    go false alive true other are = are

greatest_of : (policy : Policy) (first : ℕ) (table : Table) (w : Weight) (ws : List Weight) → IsOf first table w → AreOf first table ws
    → IsOf first table (greatest policy w ws)
greatest_of policy first table w [] is are = is
greatest_of policy first table w (v ∷ ws) is are = greatest_of policy first table (cond (nat_le (score_of policy w) (score_of policy v)) v w) ws
    (one (nat_le (score_of policy w) (score_of policy v))) are.1
  where
    one : (b : Bool) → IsOf first table (cond b v w)
    one true = are.0
    one false = is

chosen_of : (policy : Policy) (table : Table) (ws : List Weight) (pid : ℕ) → AreOf 1 table ws → pid_of_greatest policy ws ≡ Some pid
    → (is_alive table pid ≡ true) × (pid ≢ 1)
chosen_of policy table [] pid are e = ((cc), (cc))
chosen_of policy table (w ∷ ws) pid are e =
    let is = greatest_of policy 1 table w ws are.0 are.1 in
    let best = greatest policy w ws in
    let same : best.pid ≡ pid = (cc) in
    let place : pid ≡ suc is.0 = (let k : best.pid ≡ 1 + is.0 = is.1 in omega arith) in
    (subst (λ p. is_alive table p ≡ true) (sym place) is.2, subst (λ p. p ≢ 1) same is.3)

pub victim_lives : (policy : Policy) (plain : Plain) (account : Account) (pid : ℕ) → victim_of policy plain account ≡ Some pid
    → (is_alive plain.table pid ≡ true) × (pid ≢ 1)
victim_lives policy plain account pid e = chosen_of policy plain.table (weights_from plain account 1 plain.table) pid (all_of plain account 1 plain.table) e
