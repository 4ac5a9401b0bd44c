-- A list of programs has one of a name exactly where the test finds it.
use Rattle.std.proofs.Common.{◌≡◌, ℕ, suc, Bool, true, false, ◌||◌, List, [], ◌∷◌, refl, ap, ◌∙◌}
use Rattle.std.specs.Str.{bytes_eq}
use Rattle.std.proofs.lemmas.List.Folds.{list_any_at}
use Rattle.std.proofs.lemmas.Option.{get_or_from_slice_get, slice_get_within}
use Rattle.std.proofs.lemmas.Slice.Eq.{bytes_eq-Decides}
use Rattle.kabi_types.specs.declared.scripts.Program.{Program}
use Rattle.posix_defs.specs.ValidScript.{HasProgram}
use Rattle.script_read.specs.Drafting.{has_program}

pub found_program : (name : List ℕ) (programs : List Program) → has_program name programs ≡ true → HasProgram programs name
found_program name [] e = absurd (let wrong : false ≡ true = e in cc)
found_program name (p ∷ programs) e = go (bytes_eq p.name name) refl e (λ is. found_program name programs is)
  where
    go : (here : Bool) → bytes_eq p.name name ≡ here → (here || has_program name programs) ≡ true
        → (has_program name programs ≡ true → HasProgram programs name) → HasProgram (p ∷ programs) name
    go true is e more = record { at = 0; program = p; is_there = refl; is_named = (bytes_eq-Decides p.name name).0 is }
    go false is e more =
        let found = more e in
        record { at = suc found.at; program = found.program; is_there = found.is_there; is_named = found.is_named }

pub program_found : (name : List ℕ) (programs : List Program) → HasProgram programs name → has_program name programs ≡ true
program_found name programs has =
    list_any_at (λ p. bytes_eq p.name name) programs has.at has.program (slice_get_within programs has.at has.program has.is_there)
    ((bytes_eq-Decides _ name).1 (ap (λ p. p.name) (get_or_from_slice_get programs has.at has.program has.program has.is_there) ∙ has.is_named))
