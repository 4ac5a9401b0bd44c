-- What was noted last of a run.
use Rattle.std.proofs.Common.{◌≡◌, ◌-◌, ◌<◌, List, [], ◌∷◌, ◌++◌, length, Some, slice_get, ap, ◌∙◌, arith, length-append}
use Rattle.kabi_types.specs.declared.entries.Noted.{Noted}
use Rattle.kern_laws.proofs.EnabledEvents.{get_behind}

longer : (run front : List Noted) (noted : Noted) → run ≡ front ++ noted ∷ [] → length run - 1 ≡ length front
longer run front noted is =
    let many : length run ≡ length (front ++ noted ∷ []) = ap length is in omega (arith, length-append front (noted ∷ []))

-- a run that ends so isn't empty
pub some_noted : (run front : List Noted) (noted : Noted) → run ≡ front ++ noted ∷ [] → 0 < length run
some_noted run front noted is =
    let many : length run ≡ length (front ++ noted ∷ []) = ap length is in omega (arith, length-append front (noted ∷ []))

last_found : (run front : List Noted) (noted : Noted) → run ≡ front ++ noted ∷ [] → slice_get run (length run - 1) ≡ Some noted
last_found run front noted is =
    ap (slice_get run) (longer run front noted is) ∙ ap (λ r. slice_get r (length front)) is ∙ get_behind front noted []

-- and its last is this
pub noted_last : (run front : List Noted) (noted last : Noted) → run ≡ front ++ noted ∷ [] → Some last ≡ slice_get run (length run - 1) → noted ≡ last
noted_last run front noted last is found =
    let same : Some last ≡ Some noted = found ∙ last_found run front noted is in
    cc
