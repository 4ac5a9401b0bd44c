-- What a memory has at its pages after bytes were stored in it.
use Rattle.std.proofs.Common.{◌≡◌, ◌≢◌, ℕ, suc, ◌+◌, ◌-◌, ◌/◌, ◌%◌, ◌==◌, ◌<◌, ◌≤◌, List, [], ◌∷◌, Option, None, Some, length, is_some, slice_set, refl, ap, sym, ◌∙◌, subst, ◌⊎◌, inl, inr, arith}
use Rattle.std.specs.Option.{option_map}
use Rattle.std.proofs.lemmas.Bool.{cond-false, ne_eqb}
use Rattle.std.proofs.lemmas.Bool.Decides.{eqb_tells}
use Rattle.std.proofs.lemmas.List.{get_or-set_same, get_or-set_other, get_or_past, length-set}
use Rattle.posix_defs.specs.Memory.{Memory, is_mapped, page_at, stored, with_byte}
use Rattle.posix_defs.specs.Needs.{pages_touched}
use Rattle.kern_laws.proofs.TablePlaces.{below_or_not}

pub length_stored : (memory : Memory) (addr : ℕ) (bytes : List ℕ) → length (stored memory addr bytes) ≡ length memory
length_stored memory addr [] = refl
length_stored memory addr (byte ∷ bytes) = length_stored (with_byte memory addr byte) (addr + 1) bytes
    ∙ length-set memory (addr / 4096) (option_map (λ had. slice_set had (addr % 4096) byte) (page_at memory (addr / 4096)))

-- a page in which no byte is put
pub stored_elsewhere : (memory : Memory) (addr : ℕ) (bytes : List ℕ) (page : ℕ) → ((i : ℕ) → i < length bytes → page ≢ (addr + i) / 4096)
    → page_at (stored memory addr bytes) page ≡ page_at memory page
stored_elsewhere memory addr [] page apart = refl
stored_elsewhere memory addr (byte ∷ bytes) page apart =
    stored_elsewhere (with_byte memory addr byte) (addr + 1) bytes page (λ i less same. apart (suc i) (omega arith) (same ∙ ap (λ (at : ℕ). at / 4096) (let e : addr + 1 + i ≡ addr + suc i = omega arith in e)))
    ∙ get_or-set_other memory (addr / 4096) page _ None (λ same. apart 0 (omega arith) (same ∙ ap (λ (at : ℕ). at / 4096) (let e : addr ≡ addr + 0 = omega arith in e)))

-- what is mapped stays mapped
byte_mapped : (memory : Memory) (addr byte page : ℕ) → is_mapped (with_byte memory addr byte) page ≡ is_mapped memory page
byte_mapped memory addr byte page = elim (eqb_tells page (addr / 4096)) [
  | inr apart ↦ ap is_some (get_or-set_other memory (addr / 4096) page _ None apart.1)
  | inl alike ↦ ap (is_mapped (with_byte memory addr byte)) alike.1 ∙ here ∙ sym (ap (is_mapped memory) alike.1)
]
  where
    keeps : (o : Option (List ℕ)) → is_some (option_map (λ had. slice_set had (addr % 4096) byte) o) ≡ is_some o
    keeps None = refl
    keeps (Some had) = refl

    here : is_mapped (with_byte memory addr byte) (addr / 4096) ≡ is_mapped memory (addr / 4096)
    here = elim (below_or_not (addr / 4096) (length memory)) [
      | inl h ↦ ap is_some (get_or-set_same memory (addr / 4096) _ None h) ∙ keeps (page_at memory (addr / 4096))
      | inr h ↦ ap is_some (get_or_past (with_byte memory addr byte) (addr / 4096) None (subst (λ n. n ≤ addr / 4096) (sym (length-set memory (addr / 4096) _)) h))
          ∙ sym (ap is_some (get_or_past memory (addr / 4096) None h))
    ]

pub stored_mapped : (memory : Memory) (addr : ℕ) (bytes : List ℕ) (page : ℕ) → is_mapped (stored memory addr bytes) page ≡ is_mapped memory page
stored_mapped memory addr [] page = refl
stored_mapped memory addr (byte ∷ bytes) page = stored_mapped (with_byte memory addr byte) (addr + 1) bytes page ∙ byte_mapped memory addr byte page

-- the pages that a range of bytes touches have all of them
pub within_touched : (addr n page i : ℕ) → (page < addr / 4096) ⊎ (addr / 4096 + pages_touched addr n ≤ page) → i < n → page ≢ (addr + i) / 4096
within_touched addr n page i (inl below) less same = omega arith
within_touched addr n page i (inr above) less same =
    let touched : pages_touched addr n ≡ (addr + n - 1) / 4096 - addr / 4096 + 1 =
    cond-false (n == 0) 0 ((addr + n - 1) / 4096 - addr / 4096 + 1) (ne_eqb n 0 (λ none. omega arith)) in
    omega (arith, touched)
