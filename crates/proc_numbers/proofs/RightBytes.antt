-- What numbers the operands of a read and a write are, where they are right, and that a range without bytes is the same wherever it
-- begins.
use Rattle.std.proofs.Common.{◌≡◌, ℕ, zero, suc, ◌<◌, ◌≤◌, ◌&&◌, ℤ, pos, negsuc, Bool, true, false, None, Some, refl, ap, sym, ◌∙◌, arith, inl, inr, w64}
use Rattle.std.specs.Prelude.{nat_le}
use Rattle.std.specs.Int.{cast_unsigned}
use Rattle.std.specs.Option.{option_or}
use Rattle.std.proofs.lemmas.Bool.Decides.{leb_tells}
use Rattle.kabi_types.specs.Arguments.{count_of, invalid_unless, moved_fault, range_fault}
use Rattle.kabi_types.specs.declared.errnos.Errno.TheVariants.{EINVAL}
use Rattle.posix_defs.specs.Memory.{Memory, is_mapped_range, loaded}
use Rattle.posix_defs.specs.Needs.{pages_touched}

pub moved_bytes : (addr n : ℤ) (v : ℕ) → moved_fault 0 addr n ≡ None → v ≡ cast_unsigned w64 n
    → (v ≡ count_of n) × (count_of n ≤ 32767) × (range_fault addr (count_of n) ≡ None)
moved_bytes addr (pos n) v fault e = within (nat_le 0 n) (nat_le n 32767) refl fault
  where
    within : (least few : Bool) → nat_le n 32767 ≡ few → option_or (invalid_unless (least && few)) (range_fault addr n) ≡ None
        → (v ≡ n) × (n ≤ 32767) × (range_fault addr n ≡ None)
    within true true is none = elim (leb_tells n 32767) [
      | inl less ↦ (e, less.1, none)
      | inr more ↦ absurd (let g : true ≡ false = sym is ∙ more.0 in cc)
    ]
    within true false is none = cc
    within false few is none = cc
moved_bytes addr (negsuc n) v fault e = absurd (let g : Some EINVAL ≡ None = fault in cc)

-- what no range without bytes tells apart is the same where the start of all others is the same
starts_alike : {X : Type 0} (f : ℕ → ℕ → X) → ((a b : ℕ) → f a 0 ≡ f b 0) → (start at n : ℕ) → (0 < n → start ≡ at) → f start n ≡ f at n
starts_alike f none start at zero is = none start at
starts_alike f none start at (suc n) is = ap (λ a. f a (suc n)) (is (omega arith))

pub mapped_at : (memory : Memory) (start at n : ℕ) → (0 < n → start ≡ at) → is_mapped_range memory start n ≡ is_mapped_range memory at n
mapped_at memory start at n is = starts_alike (is_mapped_range memory) (λ a b. refl) start at n is

pub touched_at : (start at n : ℕ) → (0 < n → start ≡ at) → pages_touched start n ≡ pages_touched at n
touched_at start at n is = starts_alike pages_touched (λ a b. refl) start at n is

pub loaded_at : (memory : Memory) (start at n : ℕ) → (0 < n → start ≡ at) → loaded memory start n ≡ loaded memory at n
loaded_at memory start at n is = starts_alike (loaded memory) (λ a b. refl) start at n is
