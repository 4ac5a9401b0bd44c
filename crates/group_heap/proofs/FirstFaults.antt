-- A fault stands at a line that the text has.
use Rattle.std.proofs.Common.{ℕ, ◌+◌, ◌≤◌, ◌==◌, List, [], ◌∷◌, ◌++◌, length, None, Some, Err, subst, arith}
use Rattle.std.specs.List.{slice_split}
use Rattle.std.proofs.lemmas.List.Splits.{length-slice_split}
use Rattle.std.proofs.lemmas.List.Sums.{count_by-le-length}
use Rattle.kabi_types.specs.declared.scripts.FaultKind.{FaultKind}
use Rattle.kabi_types.specs.declared.scripts.ScriptFault.{ScriptFault}
use Rattle.posix_defs.specs.ScriptParts.{Line, Lines, Part, Alone, Program, Parts}
use Rattle.posix_defs.specs.ScriptParts as parts
use Rattle.posix_defs.specs.ScriptFaults.{HasFault, PartFault}
use Rattle.posix_defs.specs.ScriptFaults as faults
use Rattle.posix_defs.specs.ScriptText.{ReadsParts, ReadsText}
use Rattle.posix_defs.specs.ScriptText as text

-- no line has a greater number
abbrev UpTo : ℕ → List Line → Type 0
UpTo most [] = Unit {0}
UpTo most (line ∷ lines) = (line.number ≤ most) × UpTo most lines

abbrev PartUpTo : ℕ → Part → Type 0
PartUpTo most (Alone line) = line.number ≤ most
PartUpTo most (Program first name None) = first.number ≤ most
PartUpTo most (Program first name (Some body)) = (first.number ≤ most) × UpTo most body

abbrev PartsUpTo : ℕ → List Part → Type 0
PartsUpTo most [] = Unit {0}
PartsUpTo most (part ∷ parts) = PartUpTo most part × PartsUpTo most parts

numbered : (most number : ℕ) (texts : List (List ℕ)) (lines : List Line) → Lines number texts lines → number + length texts ≤ most + 1 → UpTo most lines
numbered most number texts lines (parts.none number') few = tt
numbered most number texts lines (parts.more number' first texts' words lines' said rest) few =
    (omega (arith, few), numbered most (number + 1) texts' lines' rest (omega (arith, few)))

in_front : (most : ℕ) (xs ys : List Line) → UpTo most (xs ++ ys) → UpTo most xs
in_front most [] ys all = tt
in_front most (x ∷ xs) ys all = (all.0, in_front most xs ys all.1)

behind : (most : ℕ) (xs ys : List Line) → UpTo most (xs ++ ys) → UpTo most ys
behind most [] ys all = all
behind most (x ∷ xs) ys all = behind most xs ys all.1

parted : (most : ℕ) (lines : List Line) (all : List Part) → Parts lines all → UpTo most lines → PartsUpTo most all
parted most lines all parts.nothing up = tt
parted most lines all (parts.alone line lines' all' none rest) up = (up.0, parted most lines' all' rest up.1)
parted most lines all (parts.program first last name body lines' all' begun within ends rest) up =
    ((up.0, in_front most body (last ∷ lines') up.1), parted most lines' all' rest (behind most body (last ∷ lines') up.1).1)
parted most lines all (parts.unended first name lines' begun within) up = (up.0, tt)

part_behind : (most : ℕ) (above : List Part) (here : Part) (below : List Part) → PartsUpTo most (above ++ here ∷ below) → PartUpTo most here
part_behind most [] here below up = up.0
part_behind most (part ∷ above) here below up = part_behind most above here below up.1

part_fault : (most : ℕ) (above : List Part) (here : Part) (line : ℕ) (kind : FaultKind) → PartFault above here line kind → PartUpTo most here → line ≤ most
part_fault most above here line kind (faults.unsaid line' kind' is) up = up
part_fault most above here line kind (faults.set_twice line' said is twice) up = up
part_fault most above here line kind (faults.one_too_many first name None many) up = up
part_fault most above here line kind (faults.one_too_many first name (Some body) many) up = up.0
part_fault most above here line kind (faults.named_twice first name None twice) up = up
part_fault most above here line kind (faults.named_twice first name (Some body) twice) up = up.0
part_fault most above here line kind (faults.unended first name) up = up
part_fault most above here line kind (faults.within first line' name before after kind' wrong) up = (behind most before (line' ∷ after) up.1).0

has_fault : (most : ℕ) (all : List Part) (line : ℕ) (kind : FaultKind) → HasFault all line kind → PartsUpTo most all → line ≤ most
has_fault most all line kind has up = part_fault most has.above has.here line kind has.is_wrong (part_behind most has.above has.here has.below (subst (PartsUpTo most) has.parts_are up))

parts_fault : (most : ℕ) (all : List Part) (fault : ScriptFault) → ReadsParts all (Err fault) → PartsUpTo most all → fault.line ≤ most
parts_fault most all fault (text.faulty fault' has first) up = has_fault most all fault.line fault.what has up
parts_fault most all fault (text.no_init clean none) up = omega arith

-- the lines of a text are one more than its bytes at most
few_lines : (bytes : List ℕ) → 1 + length (slice_split (λ byte. byte == 10) bytes) ≤ length bytes + 1 + 1
few_lines bytes = omega (arith, length-slice_split (λ byte. byte == 10) bytes, count_by-le-length (λ byte. byte == 10) bytes)

pub fault_line : (bytes : List ℕ) (fault : ScriptFault) → ReadsText bytes (Err fault) → fault.line ≤ length bytes + 1
fault_line bytes fault (text.too_long bytes' long) = omega arith
fault_line bytes fault (text.reads bytes' lines all outcome short numbers falls reads) =
    parts_fault (length bytes + 1) all fault reads (parted (length bytes + 1) lines all falls (numbered (length bytes + 1) 1 _ lines numbers (few_lines bytes)))
