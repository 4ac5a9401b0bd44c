-- What the operands of a call ask for.
use Rattle.std.proofs.Common.{◌≡◌, ℕ, zero, suc, ◌+◌, ◌-◌, ◌≤◌, ◌&&◌, ℤ, Bool, true, false, cond, nat_lt, Option, None, Some, is_none, refl, ap, sym, ◌∙◌, subst, arith}
use Rattle.std.specs.Option.{option_or}
use Rattle.std.proofs.lemmas.Bool.{ltb-false, ne_eqb}
use Rattle.kabi_types.specs.Arguments.{argument_fault, count_of, greatest_place, invalid_unless, is_from, is_within, last_place, locked_fault}
use Rattle.kabi_types.specs.declared.calls.Call.TheVariants as call
use Rattle.kabi_types.specs.declared.errnos.Errno.{Errno}
use Rattle.kabi_types.specs.declared.errnos.Errno.TheVariants.{EOVERFLOW}
use Rattle.posix_defs.specs.Calls.OnLocks.{kind_asked, request_of, wanted_by, wanted_on}
use Rattle.posix_defs.specs.Calls.Opened.{opened_at}
use Rattle.posix_defs.specs.Files.State.{Files}
use Rattle.posix_defs.specs.Locks.{Request}
use Rattle.lock_calls.specs.Claiming.{right_request}

rest_none : (b : Bool) (rest : Option Errno) → option_or (invalid_unless b) rest ≡ None → rest ≡ None
rest_none true rest e = e
rest_none false rest e = cc

none_over : (b : Bool) → cond b (Some EOVERFLOW) None ≡ None → b ≡ false
none_over true e = cc
none_over false e = refl

-- right operands end at a place that there is
ends_within : (most : ℕ) (kind start length : ℤ) → locked_fault most kind start length ≡ None → count_of start + (count_of length - 1) ≤ greatest_place
ends_within most kind start length right =
    ltb-false greatest_place (count_of start + (count_of length - 1))
    (none_over (nat_lt greatest_place (count_of start + (count_of length - 1)))
    (rest_none (is_within 0 most kind && (is_from 0 start && is_from 0 length)) (cond (nat_lt greatest_place (count_of start + (count_of length - 1))) (Some EOVERFLOW) None) right))

in_order : (start length : ℕ) → start + (length - 1) ≤ greatest_place → (start ≤ last_place start length) × (last_place start length ≤ greatest_place)
in_order start zero fits = (omega (arith, fits), omega arith)
in_order start (suc n) fits = (omega (arith, fits, last), omega (arith, fits, last))
  where
    last : last_place start (suc n) ≡ start + n
    last = ap (λ b. cond b greatest_place (start + suc n - 1)) (ne_eqb (suc n) 0 (λ same. omega (arith, same))) ∙ omega arith

-- so the places from their start to their last one are places
pub right_places : (most : ℕ) (kind start length : ℤ) → locked_fault most kind start length ≡ None
    → (count_of start ≤ last_place (count_of start) (count_of length)) × (last_place (count_of start) (count_of length) ≤ greatest_place)
right_places most kind start length right = in_order (count_of start) (count_of length) (ends_within most kind start length right)

-- of another kind than F_RDLCK and F_WRLCK nothing is asked for but to let go
pub other_kind : (kind : ℕ) → (kind ≡ 0 → ⊥) → (kind ≡ 1 → ⊥) → None ≡ kind_asked kind
other_kind zero none one = absurd (none refl)
other_kind (suc zero) none one = absurd (one refl)
other_kind (suc (suc kind)) none one = refl

-- ---- operands are handed on as numbers of 64 bits

pub of_four : (P : ℤ → ℤ → ℤ → ℤ → Type 0) (a b c d x y z w : ℤ) → a ≡ x → b ≡ y → c ≡ z → d ≡ w → P a b c d → P x y z w
of_four P a b c d x y z w first second third fourth holds =
    subst (λ n. P n y z w) first (subst (λ n. P a n z w) second (subst (λ n. P a b n w) third (subst (λ n. P a b c n) fourth holds)))

-- ---- operands that are right

module _ (fd kind start length : ℤ) where
  pub right_so : (asked : Request) → Some asked ≡ right_request fd kind start length
      → (is_none (argument_fault (call.Setlkw fd kind start length)) ≡ true) × (asked ≡ request_of kind start length)
  right_so asked e = go (is_none (argument_fault (call.Setlkw fd kind start length))) e
    where
      go : (b : Bool) → Some asked ≡ cond b (Some (request_of kind start length)) None → (b ≡ true) × (asked ≡ request_of kind start length)
      go true same = (refl, cc)
      go false none = cc

  pub wrong_so : None ≡ right_request fd kind start length → is_none (argument_fault (call.Setlkw fd kind start length)) ≡ false
  wrong_so e = go (is_none (argument_fault (call.Setlkw fd kind start length))) e
    where
      go : (b : Bool) → None ≡ cond b (Some (request_of kind start length)) None → b ≡ false
      go true some = cc
      go false none = refl

  module _ (files : Files) (pid : ℕ) where
    -- by whatever name the number goes on what they ask for
    pub same_wanted : (asked : Request) (on : ℤ) → on ≡ fd → Some asked ≡ right_request fd kind start length
        → wanted_on files asked (opened_at files pid on) ≡ wanted_on files (request_of kind start length) (opened_at files pid fd)
    same_wanted asked on same e =
        let right = right_so asked e in
        ap (λ n. wanted_on files asked (opened_at files pid n)) same ∙ ap (λ it. wanted_on files it (opened_at files pid fd)) right.1

    pub right_wanted : (asked : Request) (on : ℤ) → on ≡ fd → Some asked ≡ right_request fd kind start length
        → wanted_on files asked (opened_at files pid on) ≡ wanted_by files pid (call.Setlkw fd kind start length)
    right_wanted asked on same e =
        let right = right_so asked e in
        same_wanted asked on same e ∙ sym (ap (λ b. cond b (wanted_on files (request_of kind start length) (opened_at files pid fd)) None) right.0)

    pub wrong_wanted : None ≡ right_request fd kind start length → None ≡ wanted_by files pid (call.Setlkw fd kind start length)
    wrong_wanted e = sym (ap (λ b. cond b (wanted_on files (request_of kind start length) (opened_at files pid fd)) None) (wrong_so e))
