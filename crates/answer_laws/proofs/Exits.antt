-- Whom a parent is told of has ended.
use Rattle.std.proofs.Common.{◌≡◌, ℕ, suc, ◌+◌, ℤ, Bool, true, false, cond, [], ◌∷◌, Option, None, Some, refl, ap, sym, arith, slice_get, unwrap_or}
use Rattle.std.specs.Option.{option_or}
use Rattle.posix_defs.specs.Process.{Process, Table, Alive, Ended, Status, is_alive_in, runs}
use Rattle.posix_defs.specs.Waiting.{Exited, exited_from, exited_in, has_ended, matches, wait_status}

some_same : {X : Type 0} (o : Option X) (x y : X) → o ≡ Some x → o ≡ Some y → x ≡ y
some_same o x y e f = cc

-- who is told to a parent has ended
pub exited_has_ended : (parent : ℕ) (which : ℤ) (first : ℕ) (table : Table) (exited : Exited) → exited_from parent which first table ≡ Some exited
    → (i : ℕ) × (exited.pid ≡ first + i) × (is_alive_in (unwrap_or (slice_get table i) None) ≡ false)
exited_has_ended parent which first [] exited e = cc
exited_has_ended parent which first (there ∷ table) exited e =
    go (cond (matches parent which first there) (exited_in first there) None) refl (exited_has_ended parent which (first + 1) table exited) e
  where
    later : (found : (i : ℕ) × (exited.pid ≡ first + 1 + i) × (is_alive_in (unwrap_or (slice_get table i) None) ≡ false))
        → (i : ℕ) × (exited.pid ≡ first + i) × (is_alive_in (unwrap_or (slice_get (there ∷ table) i) None) ≡ false)
    later found = (suc found.0, (let k : exited.pid ≡ first + 1 + found.0 = found.1 in omega arith), found.2)

    dead : (status : Status) → has_ended status ≡ true → runs status ≡ false
    dead Alive e = cc
    dead (Ended status) e = refl

    this : (o : Option Process) (one : Exited) → exited_in first o ≡ Some one → (one.pid ≡ first) × (is_alive_in o ≡ false)
    this None one e = cc
    this (Some process) one e = ended (has_ended process.status) refl e
      where
        ended : (b : Bool) → has_ended process.status ≡ b → cond b (Some (record { pid = first; status = wait_status process.status })) None ≡ Some one
            → (one.pid ≡ first) × (is_alive_in (Some process) ≡ false)
        ended true is f = (ap (λ x. x.pid) (some_same (Some one) one (record { pid = first; status = wait_status process.status }) refl (sym f)), dead process.status is)
        ended false is f = cc

    matching : (b : Bool) (one : Exited) → cond b (exited_in first there) None ≡ Some one → (one.pid ≡ first) × (is_alive_in there ≡ false)
    matching true one e = this there one e
    matching false one e = cc

    go : (o : Option Exited) → cond (matches parent which first there) (exited_in first there) None ≡ o
        → (exited_from parent which (first + 1) table ≡ Some exited
        → (i : ℕ) × (exited.pid ≡ first + 1 + i) × (is_alive_in (unwrap_or (slice_get table i) None) ≡ false))
        → option_or o (exited_from parent which (first + 1) table) ≡ Some exited
        → (i : ℕ) × (exited.pid ≡ first + i) × (is_alive_in (unwrap_or (slice_get (there ∷ table) i) None) ≡ false)
    go None is others e = later (others e)
    go (Some one) is others e = let found = matching (matches parent which first there) one is in
        let same : one ≡ exited = some_same (Some one) one exited refl e in
        (0, (let k : one.pid ≡ first = found.0 in let j : one.pid ≡ exited.pid = ap (λ x. x.pid) same in omega arith), found.1)
