-- What numbers right operands are.
use Rattle.std.proofs.Common.{◌≡◌, ◌≢◌, ℕ, ◌+◌, ◌-◌, ◌/◌, ◌%◌, ◌<◌, ◌≤◌, ◌==◌, ◌&&◌, ◌||◌, ℤ, pos, negsuc, Bool, true, false, cond, Option, None, Some, refl, ap, sym, ◌∙◌, arith, inl, inr, w64}
use Rattle.std.specs.Prelude.{nat_le}
use Rattle.std.specs.Int.{cast_unsigned}
use Rattle.std.specs.Option.{option_or}
use Rattle.std.proofs.lemmas.Bool.Decides.{eqb_tells, leb_tells}
use Rattle.kabi_types.specs.Arguments.{argument_fault, count_of, invalid_unless, is_from, is_page_range, lie_in_space, page_size, range_fault}
use Rattle.kabi_types.specs.declared.errnos.Errno.{Errno}
use Rattle.kabi_types.specs.declared.errnos.Errno.TheVariants.{EFAULT, EINVAL}
use Rattle.kabi_types.specs.declared.calls.Call.TheVariants as call
use Rattle.posix_defs.specs.Needs.{pages_touched}

right : (b : Bool) → invalid_unless b ≡ None → b ≡ true
right true e = refl
right false e = cc

both : (a b : Bool) → (a && b) ≡ true → (a ≡ true) × (b ≡ true)
both true b e = (refl, e)
both false b e = cc

divides : (a n : ℕ) → a % 4096 ≡ 0 → 1 ≤ n → (n + 4096 - 1) / 4096 ≡ (a + n - 1) / 4096 - a / 4096 + 1
divides a n even some = omega arith

touched_is : (a n : ℕ) → n ≢ 0 → pages_touched a n ≡ (a + n - 1) / 4096 - a / 4096 + 1
touched_is a n some = elim (eqb_tells n 0) [
  | inl none ↦ absurd (some none.1)
  | inr other ↦ ap (λ b. cond b 0 ((a + n - 1) / 4096 - a / 4096 + 1)) other.0
]

-- The pages that `munmap` unmaps, where its operands are right.
pub munmap_pages : (addr length : ℤ) (u v : ℕ) → argument_fault (call.Munmap addr length) ≡ None → u ≡ cast_unsigned w64 addr → v ≡ cast_unsigned w64 length
    → (u / 4096 ≡ count_of addr / page_size) × ((v + 4096 - 1) / 4096 ≡ pages_touched (count_of addr) (count_of length))
munmap_pages (pos a) (pos n) u v fault e f =
    let tests = both (nat_le 1 n) (is_page_range (pos a) (pos n)) (right (is_from 1 (pos n) && is_page_range (pos a) (pos n)) fault) in
    let range = both (a % 4096 == 0) (nat_le (a + n) 1048576) tests.1 in
    let some : 1 ≤ n = elim (leb_tells 1 n) [ inl less ↦ less.1 | inr more ↦ absurd (let g : true ≡ false = sym tests.0 ∙ more.0 in cc) ] in
    let even : a % 4096 ≡ 0 = elim (eqb_tells (a % 4096) 0) [ inl same ↦ same.1 | inr other ↦ absurd (let g : true ≡ false = sym range.0 ∙ other.0 in cc) ] in
    (ap (λ k. k / 4096) e, ap (λ k. (k + 4096 - 1) / 4096) f ∙ divides a n even some ∙ sym (touched_is a n (omega arith)))
munmap_pages (pos a) (negsuc n) u v fault e f = absurd (let g : false ≡ true = right false fault in cc)
munmap_pages (negsuc a) (pos n) u v fault e f =
    absurd (let tests = both (nat_le 1 n) false (right (nat_le 1 n && false) fault) in let g : false ≡ true = tests.1 in cc)
munmap_pages (negsuc a) (negsuc n) u v fault e f = absurd (let g : false ≡ true = right false fault in cc)

-- The bytes that `mmap` maps, where its operand is right.
pub mmap_bytes : (length : ℤ) (v : ℕ) → argument_fault (call.Mmap length) ≡ None → v ≡ cast_unsigned w64 length → v ≡ count_of length
mmap_bytes (pos n) v fault e = e
mmap_bytes (negsuc n) v fault e = absurd (let g : false ≡ true = right false fault in cc)

-- Where a range of some bytes begins that lies in the address space.
pub right_range : (addr : ℤ) (n u : ℕ) → range_fault addr n ≡ None → 0 < n → u ≡ cast_unsigned w64 addr → (u ≡ count_of addr) × (u + n ≤ 1048576)
right_range addr n u fault some e = elim (eqb_tells n 0) [
  | inl none ↦ absurd (let z : n ≡ 0 = none.1 in omega arith)
  | inr other ↦ from_here addr (lies (lie_in_space addr n) (ap (λ b. fault_if b (lie_in_space addr n)) (sym other.0) ∙ fault)) e
]
  where
    fault_if : Bool → Bool → Option Errno
    fault_if none inside = cond (none || inside) None (Some EFAULT)

    lies : (b : Bool) → cond b None (Some EFAULT) ≡ None → b ≡ true
    lies true e = refl
    lies false e = cc

    from_here : (addr : ℤ) → lie_in_space addr n ≡ true → u ≡ cast_unsigned w64 addr → (u ≡ count_of addr) × (u + n ≤ 1048576)
    from_here (pos a) inside e = elim (leb_tells (a + n) 1048576) [
      | inl less ↦ (e, (let l : a + n ≤ 1048576 = less.1 in let same : u ≡ a = e in omega arith))
      | inr more ↦ absurd (let g : true ≡ false = sym inside ∙ more.0 in cc)
    ]
    from_here (negsuc a) inside e = absurd (let g : false ≡ true = inside in cc)

-- How many bytes `load` takes, where its operands are right.
pub load_bytes : (addr count : ℤ) (v : ℕ) → argument_fault (call.Load addr count) ≡ None → v ≡ cast_unsigned w64 count
    → (v ≡ count_of count) × (count_of count ≤ 64) × (range_fault addr (count_of count) ≡ None)
load_bytes addr (pos n) v fault e = within (nat_le 0 n) (nat_le n 64) refl fault
  where
    within : (least few : Bool) → nat_le n 64 ≡ few → option_or (invalid_unless (least && few)) (range_fault addr n) ≡ None
        → (v ≡ n) × (n ≤ 64) × (range_fault addr n ≡ None)
    within true true is none = elim (leb_tells n 64) [
      | inl less ↦ (e, less.1, none)
      | inr more ↦ absurd (let g : true ≡ false = sym is ∙ more.0 in cc)
    ]
    within true false is none = cc
    within false few is none = cc
load_bytes addr (negsuc n) v fault e = absurd (let g : Some EINVAL ≡ None = fault in cc)
