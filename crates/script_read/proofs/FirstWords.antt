-- What a line says is told by its first word: where it is the one that is asked for, and where it is none so far.
use Rattle.std.proofs.Common.{◌≡◌, Bool, true, false, ap, ◌∙◌}
use Rattle.std.specs.Prelude.{if◌then◌else◌}

pub taken : {A : Type 0} (this other : A) (asked : Bool) → true ≡ asked → this ≡ (if asked then this else other)
taken this other asked is = ap (λ a. if a then this else other) is

pub passed : {A : Type 0} (this other said : A) (asked : Bool) → false ≡ asked → said ≡ other → said ≡ (if asked then this else other)
passed this other said asked is_none is = is ∙ ap (λ a. if a then this else other) is_none
