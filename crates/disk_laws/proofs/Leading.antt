-- Pointers and the blocks that they lead to, seen from both ends.
use Rattle.std.proofs.Common.{◌≡◌, ◌≢◌, ℕ, zero, suc, ◌+◌, ◌-◌, ◌*◌, ◌/◌, ◌%◌, ◌<◌, ◌≤◌, ◌↔◌, cond, ltb, inl, inr, Option, Some, sym, ap, subst, ◌∙◌, arith}
use Rattle.std.specs.Prelude.{MatchOption}
use Rattle.std.proofs.lemmas.Bool.{cases_lt, lt-ltb, le-ltb, cond-true, cond-false}
use Rattle.posix_defs.specs.DiskFormat.{leads_to, pointers_beside}
use Rattle.posix_defs.specs.SoundDisk.{Way, block_of_run, run_of, way_to}
use Rattle.disk_laws.proofs.FreeBlocks.{way_behind, way_within, leads_behind}

-- a pointer of a block of pointers other than the double block, that leads to a block of bytes
abbrev LedBy : ℕ → Way → Type 0
LedBy index way = (way.block ≢ 1) × (way.at < 256) × (leads_to way.block way.at ≡ index)

not_double : (run : ℕ) → block_of_run run ≢ 1
not_double zero = λ e. omega (arith, e)
not_double (suc run) = λ e. omega (arith, e)

pub led : (index : ℕ) → MatchOption (way_to index) (index < 10) (λ way. (way.block ≢ 1) × (way.at < 256) × (leads_to way.block way.at ≡ index))
led index = elim (cases_lt index 10) [
  | inl first ↦ subst (λ (way : Option Way). MatchOption way (index < 10) (LedBy index)) (sym (way_within index first)) first
  | inr past ↦
      let at : ℕ = (index - 10) % 256 in
      let there : leads_to (block_of_run (run_of index)) at ≡ index = leads_behind (run_of index) at ∙ (let whole : 10 + 256 * run_of index + at ≡ index = omega (arith, past) in whole) in
      subst (λ (way : Option Way). MatchOption way (index < 10) (LedBy index)) (sym (way_behind index past)) (not_double (run_of index), omega arith, there)
]

way_in_run : (run at : ℕ) → at < 256 → way_to (10 + 256 * run + at) ≡ Some (record { block = block_of_run run; at = at })
way_in_run run at lt =
    let index : ℕ = 10 + 256 * run + at in
    let here : run_of index ≡ run = omega (arith, lt) in
    let there : (index - 10) % 256 ≡ at = omega (arith, lt) in
    let way : ℕ → ℕ → Way = λ r k. record { block = block_of_run r; at = k } in
    way_behind index (omega arith) ∙ ap (λ (r : ℕ). Some (way r ((index - 10) % 256))) here ∙ ap (λ (k : ℕ). Some (way run k)) there

pub led_back : (block at : ℕ) → block ≢ 1 → at < 256 → way_to (leads_to block at) ≡ Some (record { block = block; at = at })
led_back zero at other lt = let is : leads_to zero at ≡ 10 + 256 * 0 + at = omega arith in ap way_to is ∙ way_in_run 0 at lt
led_back (suc zero) at other lt = absurd (omega (arith, other))
led_back (suc (suc run)) at other lt = let is : leads_to (suc (suc run)) at ≡ 10 + 256 * suc run + at = omega arith in ap way_to is ∙ way_in_run (suc run) at lt

-- a node has a block of pointers just where the first that it leads to is one of the node's
pub had : (blocks block : ℕ) → (block < pointers_beside blocks) ↔ (leads_to block 0 < blocks)
had blocks zero = (λ lt. omega (arith, lt), λ lt. omega (arith, lt))
had blocks (suc zero) = (λ lt. omega (arith, lt), λ lt. omega (arith, lt))
had blocks (suc (suc block)) = (λ lt. omega (arith, lt), λ lt. omega (arith, lt))

pub double_leads : (at : ℕ) → leads_to 1 at ≡ leads_to (at + 2) 0
double_leads at = let next : at + 2 ≡ suc (suc at) = omega arith in let here : leads_to 1 at ≡ leads_to (suc (suc at)) 0 = omega arith in here ∙ ap (λ (n : ℕ). leads_to n 0) (sym next)

-- so many blocks of bytes take one where the inode can't name them all, and further ones where that one can't either
abbrev first_taken : ℕ → ℕ
first_taken blocks = cond (ltb 10 blocks) 1 0

abbrev further_taken : ℕ → ℕ
further_taken blocks = cond (ltb 266 blocks) (1 + (blocks - 266 + 255) / 256) 0

first_is : (blocks : ℕ) → 10 < blocks → first_taken blocks ≡ 1
first_is blocks many = cond-true (ltb 10 blocks) _ _ (lt-ltb 10 blocks many)

no_first : (blocks : ℕ) → blocks ≤ 10 → first_taken blocks ≡ 0
no_first blocks few = cond-false (ltb 10 blocks) _ _ (le-ltb 10 blocks few)

further_are : (blocks : ℕ) → 266 < blocks → further_taken blocks ≡ 1 + (blocks - 266 + 255) / 256
further_are blocks far = cond-true (ltb 266 blocks) _ _ (lt-ltb 266 blocks far)

none_further : (blocks : ℕ) → blocks ≤ 266 → further_taken blocks ≡ 0
none_further blocks near = cond-false (ltb 266 blocks) _ _ (le-ltb 266 blocks near)

pub said : (blocks : ℕ) → pointers_beside blocks ≡ cond (ltb 10 blocks) 1 0 + cond (ltb 266 blocks) (1 + (blocks - 266 + 255) / 256) 0
said blocks = elim (cases_lt 266 blocks) [
  | inl far ↦ omega (arith, first_is blocks (omega (arith, far)), further_are blocks far, far)
  | inr near ↦ elim (cases_lt 10 blocks) [
    | inl many ↦ omega (arith, first_is blocks many, none_further blocks near, many, near)
    | inr few ↦ omega (arith, no_first blocks few, none_further blocks near, few)
  ]
]
