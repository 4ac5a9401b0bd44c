-- What a purse has that was made for a call on files.
use Rattle.std.proofs.Common.{◌≡◌, ℕ, ◌≤◌, ℤ, Option, None, is_some, cond, ap, subst, arith}
use Rattle.kabi_types.specs.Arguments.{argument_fault, count_of}
use Rattle.kabi_types.specs.declared.calls.Call.{Call}
use Rattle.kabi_types.specs.declared.classes.Need.{Need}
use Rattle.kabi_types.specs.declared.errnos.Errno.{Errno}
use Rattle.posix_defs.specs.Needs.{need_of, objects_of, pages_touched}
use Rattle.posix_defs.specs.Sizes.{no_need}

-- a call whose operands are right needs the objects that it may make
pub need_right : (which : Call) → argument_fault which ≡ None → need_of which ≡ objects_of which
unfolding need_of
need_right which right = ap (λ (fault : Option Errno). cond (is_some fault) no_need (objects_of which)) right

-- what holds of some numbers holds of the same
pub of_two : (P : ℤ → ℤ → Type 0) (a b x y : ℤ) → a ≡ x → b ≡ y → P a b → P x y
of_two P a b x y first second holds = subst (λ n. P n y) first (subst (P a) second holds)

pub of_three : (P : ℤ → ℤ → ℤ → Type 0) (a b c x y z : ℤ) → a ≡ x → b ≡ y → c ≡ z → P a b c → P x y z
of_three P a b c x y z first second third holds = subst (λ n. P n y z) first (subst (λ n. P a n z) second (subst (λ n. P a b n) third holds))

-- so a purse of its need has as many pages as the bytes from an address on touch, by whatever names these are called
pub pages_for : (had : ℕ) (addr n as_addr as_n : ℤ) (which : Call) → addr ≡ as_addr → n ≡ as_n → argument_fault which ≡ None → had ≡ (need_of which).page
    → (objects_of which).page ≡ pages_touched (count_of addr) (count_of n) → pages_touched (count_of as_addr) (count_of as_n) ≤ had
pages_for had addr n as_addr as_n which first second right needed is =
    of_two (λ a b. pages_touched (count_of a) (count_of b) ≤ had) addr n as_addr as_n first second
    (let all : (need_of which).page ≡ (objects_of which).page = ap (λ (need : Need). need.page) (need_right which right) in omega arith)
