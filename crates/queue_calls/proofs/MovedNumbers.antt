-- What numbers the operands of a call that moves bytes are.
use Rattle.std.proofs.Common.{◌≡◌, ◌≤◌, ◌&&◌, ℤ, pos, negsuc, Bool, true, false, None, Some, refl, sym, subst, ◌∙◌, inl, inr}
use Rattle.std.specs.Prelude.{nat_le}
use Rattle.std.specs.Option.{option_or}
use Rattle.std.proofs.lemmas.Bool.Decides.{leb_tells}
use Rattle.kabi_types.specs.Arguments.{count_of, invalid_unless, moved_fault, range_fault}
use Rattle.kabi_types.specs.declared.errnos.Errno.TheVariants.{EINVAL}

-- what holds of three numbers holds of the same three
pub of_three : (P : ℤ → ℤ → ℤ → Type 0) (a b c x y z : ℤ) → a ≡ x → b ≡ y → c ≡ z → P a b c → P x y z
of_three P a b c x y z first second third holds = subst (λ n. P n y z) first (subst (λ n. P a n z) second (subst (λ n. P a b n) third holds))

-- a call that may move bytes may move no more than 32767
pub count_few : (addr n : ℤ) → moved_fault 0 addr n ≡ None → count_of n ≤ 32767
count_few addr (pos n) fault = within (nat_le 0 n) (nat_le n 32767) refl fault
  where
    within : (least few : Bool) → nat_le n 32767 ≡ few → option_or (invalid_unless (least && few)) (range_fault addr n) ≡ None → n ≤ 32767
    within true true is none = elim (leb_tells n 32767) [
      | inl less ↦ less.1
      | inr more ↦ absurd (let g : true ≡ false = sym is ∙ more.0 in cc)
    ]
    within true false is none = cc
    within false few is none = cc
count_few addr (negsuc n) fault = absurd (let g : Some EINVAL ≡ None = fault in cc)
