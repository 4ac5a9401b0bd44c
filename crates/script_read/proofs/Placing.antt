-- How far labels are noted, and statements placed.
use Rattle.std.proofs.Common.{◌≡◌, ℕ, Bool, true, false, List, [], ◌∷◌, ◌++◌, Option, None, Some, Result, Ok, Err, refl, sym}
use Rattle.std.specs.Prelude.{if◌then◌else◌}
use Rattle.std.specs.Str.{bytes_eq}
use Rattle.std.specs.Prelude.{reverse}
use Rattle.std.proofs.lemmas.List.{reverse-append}
use Rattle.kabi_types.specs.declared.scripts.FaultKind.{FaultKind}
use Rattle.kabi_types.specs.declared.scripts.ScriptFault.{ScriptFault}
use Rattle.kabi_types.specs.declared.scripts.Statement.{Statement}
use Rattle.posix_defs.specs.declared.said.Spoken.{Spoken}
use Rattle.posix_defs.specs.declared.said.Spoken.TheVariants as spoken
use Rattle.posix_defs.specs.ScriptValues.{or_else}
use Rattle.script_read.specs.LabelPlaces.{place_in, noted_in, before}

noted_first : (name label : List ℕ) (at : ℕ) (rest : Option ℕ) (same : Bool)
    → or_else (if same then Some at else None) rest ≡ (if same then Some at else rest)
noted_first name label at rest true = refl
noted_first name label at rest false = refl

-- a line that is noted, and the lines behind it
pub noted_before : (name : List ℕ) (said : Result Spoken FaultKind) (at : ℕ) (old rest : Option ℕ)
    → or_else (noted_in name said at old) rest ≡ or_else old (place_in at name said rest)
noted_before name (Ok (spoken.Label label)) at None rest = noted_first name label at rest (bytes_eq label name)
noted_before name (Ok (spoken.Label label)) at (Some place) rest = refl
noted_before name (Ok (spoken.Whole _)) at None rest = refl
noted_before name (Ok (spoken.Whole _)) at (Some place) rest = refl
noted_before name (Ok (spoken.If _ _ _ _)) at None rest = refl
noted_before name (Ok (spoken.If _ _ _ _)) at (Some place) rest = refl
noted_before name (Ok (spoken.Jump _)) at None rest = refl
noted_before name (Ok (spoken.Jump _)) at (Some place) rest = refl
noted_before name (Ok (spoken.Loop _ _)) at None rest = refl
noted_before name (Ok (spoken.Loop _ _)) at (Some place) rest = refl
noted_before name (Err kind) at None rest = refl
noted_before name (Err kind) at (Some place) rest = refl

pub or_nothing : (place : Option ℕ) → or_else place None ≡ place
or_nothing None = refl
or_nothing (Some place) = refl

-- what was read from the last line on, of which the first fault is told
abbrev pub told : Option ScriptFault → List Statement → Result (List Statement) ScriptFault
told None body = Ok body
told (Some fault) body = Err fault

pub told_before : (line : ℕ) (statement : Statement) (fault : Option ScriptFault) (body : List Statement)
    → before line (Ok statement) (told fault body) ≡ told fault (statement ∷ body)
told_before line statement None body = refl
told_before line statement (Some fault) body = refl

-- what is read last stands first
pub turned : (statement : Statement) (body : List Statement) → statement ∷ reverse body ≡ reverse (body ++ statement ∷ [])
turned statement body = sym (reverse-append body (statement ∷ []))
