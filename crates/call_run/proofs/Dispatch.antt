-- The dispatch over all calls.
use Rattle.std.proofs.Common.{◌≡◌, ℕ, ℤ, Option, None, Some, ap, sym, ◌∙◌, subst, w64}
use Rattle.kabi_types.specs.Arguments.{argument_fault}
use Rattle.kabi_types.specs.declared.calls.Call.{Call}
use Rattle.kabi_types.specs.declared.calls.Call.TheVariants as call
use mir.Val.{of_z, to_z}
use Rattle.kabi_types.specs.declared.errnos.Errno.{Errno}
use Rattle.kabi_types.specs.declared.scripts.Script.{Script}
use Rattle.posix_defs.specs.Answer.{Answer, failed}
use Rattle.posix_defs.specs.Machine.{answer_to, machine, unless_wrong}
use Rattle.posix_defs.specs.Plain.{Plain}
use Rattle.posix_defs.specs.Reaching.{path_to_leave}
use Rattle.posix_defs.specs.declared.turner.Turned.{Turned}
use Rattle.store_objects.specs.declared.objects.Objects.{Objects}
use Rattle.store_objects.specs.Standing.{Performs}
use Rattle.store_objects.specs.Walking.{Reaches, Serves}
use Rattle.call_run.proofs.Reaching.{served, unnamed_served}
use Rattle.call_run.specs.Families.{HasDone, number_of}

-- a wrong operand is told
pub wrong_told : (script : Script) (plain : Plain) (pid : ℕ) (fault : Option Errno) (errno : Errno) (answer : Answer) → fault ≡ Some errno
    → unless_wrong script plain pid fault answer ≡ failed script plain pid errno
wrong_told script plain pid fault errno answer is = ap (λ f. unless_wrong script plain pid f answer) is

-- a call is answered as the machine answers it where no operand is wrong
abbrev pub PerformsCall : Script → Objects → ℕ → Call → Turned → Objects → Type 0
PerformsCall script old pid which told new = Performs script old pid which (λ plain. answer_to script plain pid which) told new

abbrev pub ServesCall : Script → Objects → ℕ → Call → Turned → Objects → Type 0
ServesCall script old pid which told new = Serves script old pid which (λ plain. answer_to script plain pid which) told new

-- ---- operands are handed on as numbers of 64 bits

module _ {which : Call} where
  pub spelt_one : (of : ℤ → Call) {a : ℤ} → which ≡ of a → to_z w64 (of_z w64 a) ≡ a → which ≡ of (to_z w64 (of_z w64 a))
  spelt_one of is one = is ∙ ap of (sym one)

  pub spelt_two : (of : ℤ → ℤ → Call) {a b : ℤ} → which ≡ of a b → to_z w64 (of_z w64 a) ≡ a → to_z w64 (of_z w64 b) ≡ b
      → which ≡ of (to_z w64 (of_z w64 a)) (to_z w64 (of_z w64 b))
  spelt_two of {a} {b} is one other = is ∙ ap (λ z. of z b) (sym one) ∙ ap (of (to_z w64 (of_z w64 a))) (sym other)

  pub spelt_three : (of : ℤ → ℤ → ℤ → Call) {a b c : ℤ} → which ≡ of a b c → to_z w64 (of_z w64 a) ≡ a → to_z w64 (of_z w64 b) ≡ b → to_z w64 (of_z w64 c) ≡ c
      → which ≡ of (to_z w64 (of_z w64 a)) (to_z w64 (of_z w64 b)) (to_z w64 (of_z w64 c))
  spelt_three of {a} {b} {c} is one other third =
      spelt_two (λ x y. of x y c) is one other ∙ ap (of (to_z w64 (of_z w64 a)) (to_z w64 (of_z w64 b))) (sym third)

  pub spelt_four : (of : ℤ → ℤ → ℤ → ℤ → Call) {a b c d : ℤ} → which ≡ of a b c d → to_z w64 (of_z w64 a) ≡ a → to_z w64 (of_z w64 b) ≡ b → to_z w64 (of_z w64 c) ≡ c
      → to_z w64 (of_z w64 d) ≡ d → which ≡ of (to_z w64 (of_z w64 a)) (to_z w64 (of_z w64 b)) (to_z w64 (of_z w64 c)) (to_z w64 (of_z w64 d))
  spelt_four of {a} {b} {c} {d} is one other third fourth =
      spelt_three (λ x y z. of x y z d) is one other third ∙ ap (of (to_z w64 (of_z w64 a)) (to_z w64 (of_z w64 b)) (to_z w64 (of_z w64 c))) (sym fourth)

-- ---- the number is handed on as it was found

module _ {which : Call} {n : ℤ} (names : (fd : ℤ) → number_of which ≡ Some fd → n ≡ fd) where
  pub numbered : {that : Call} {a : ℤ} → which ≡ that → number_of that ≡ Some a → number_of which ≡ Some n
  numbered {a} is has = ap number_of is ∙ has ∙ ap Some (sym (names a (ap number_of is ∙ has)))

  pub named_one : (of : ℤ → Call) {a : ℤ} → which ≡ of a → number_of (of a) ≡ Some a → which ≡ of n
  named_one of {a} is has = is ∙ ap of (sym (names a (ap number_of is ∙ has)))

  pub named_two : (of : ℤ → ℤ → Call) {a b : ℤ} → which ≡ of a b → number_of (of a b) ≡ Some a → to_z w64 (of_z w64 b) ≡ b → which ≡ of n (to_z w64 (of_z w64 b))
  named_two of {b} is has = spelt_one (of n) (named_one (λ x. of x b) is has)

  pub named_three : (of : ℤ → ℤ → ℤ → Call) {a b c : ℤ} → which ≡ of a b c → number_of (of a b c) ≡ Some a → to_z w64 (of_z w64 b) ≡ b → to_z w64 (of_z w64 c) ≡ c
      → which ≡ of n (to_z w64 (of_z w64 b)) (to_z w64 (of_z w64 c))
  named_three of {b} {c} is has = spelt_two (of n) (named_one (λ x. of x b c) is has)

  pub named_four : (of : ℤ → ℤ → ℤ → ℤ → Call) {a b c d : ℤ} → which ≡ of a b c d → number_of (of a b c d) ≡ Some a → to_z w64 (of_z w64 b) ≡ b → to_z w64 (of_z w64 c) ≡ c
      → to_z w64 (of_z w64 d) ≡ d → which ≡ of n (to_z w64 (of_z w64 b)) (to_z w64 (of_z w64 c)) (to_z w64 (of_z w64 d))
  named_four of {b} {c} {d} is has = spelt_three (of n) (named_one (λ x. of x b c d) is has)

-- ---- what a call does that is another, spelt in other words

module _ {script : Script} {old new : Objects} {pid : ℕ} {which that : Call} {told : Turned} (is : which ≡ that) where
  pub serves_that : ServesCall script old pid that told new → ServesCall script old pid which told new
  serves_that does = subst (λ w. ServesCall script old pid w told new) (sym is) does

  -- where it keeps what is kept, but for the last name of a path
  pub reaches_that : Reaches script old pid that (λ plain. answer_to script plain pid that) told new → ServesCall script old pid which told new
  reaches_that does = serves_that (served script old new pid that told (λ plain. answer_to script plain pid that) does)

  -- and where it keeps all that, and leaves no name
  pub performs_that : ((plain : Plain) → path_to_leave plain pid that ≡ None) → PerformsCall script old pid that told new → ServesCall script old pid which told new
  performs_that unnamed does = serves_that (unnamed_served script old new pid that told (λ plain. answer_to script plain pid that) unnamed does)

-- ---- what is done

-- as much is moved before as the write says
pub done_is : (which : Call) (fd addr n : ℤ) (done moved : ℕ) → which ≡ call.Write fd addr n done → HasDone which moved → moved ≡ done
done_is which fd addr n done moved is has = subst (λ w. HasDone w moved) is has

-- a right call is answered as the machine answers it
pub serves_right : (script : Script) (old new : Objects) (pid : ℕ) (which : Call) (told : Turned) → argument_fault which ≡ None
    → ServesCall script old pid which told new → Serves script old pid which (λ plain. machine script plain pid which) told new
serves_right script old new pid which told right does =
    subst (λ fault. Serves script old pid which (λ plain. unless_wrong script plain pid fault (answer_to script plain pid which)) told new) (sym right) does
