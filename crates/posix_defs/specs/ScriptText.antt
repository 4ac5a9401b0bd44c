-- A whole text as a script, or the fault that it has.
use Rattle.std.specs.Prelude.{ℕ, ◌≤◌, ◌<◌, ◌≡◌, true, false, ◌==◌, List, length, Result, Ok, Err, codes}
use Rattle.std.specs.List.{slice_split}
use Rattle.kabi_types.specs.declared.scripts.FaultKind.{FaultKind}
use Rattle.kabi_types.specs.declared.scripts.FaultKind.TheVariants.{NoInit, TooLong}
use Rattle.kabi_types.specs.declared.scripts.Script.{Script}
use Rattle.kabi_types.specs.declared.scripts.ScriptFault.{ScriptFault}
use Rattle.posix_defs.specs.ScriptParts.{Line, Lines, Part, Parts}
use Rattle.posix_defs.specs.ScriptFaults.{HasFault, IsToldBefore, has_program}
use Rattle.posix_defs.specs.ScriptMeaning.{script_of}

-- the most bytes that a script may have
abbrev pub most_bytes : ℕ
most_bytes = 1048576

-- the fault of a text as a whole
abbrev pub at_line_0 : FaultKind → Result Script ScriptFault
at_line_0 kind = Err (record { line = 0; what = kind })

-- no line is at fault
abbrev pub IsClean : List Part → Type 0
IsClean parts = (line : ℕ) (kind : FaultKind) → HasFault parts line kind → ⊥

-- A text of these parts reads as a script, or has this fault: of all faults that its lines have, the one on the first
-- line, and on it the one with the least number.
pub data ReadsParts (parts : List Part) : Result Script ScriptFault → Type 0 where
  faulty : (fault : ScriptFault) → HasFault parts fault.line fault.what
      → ((line : ℕ) (kind : FaultKind) → HasFault parts line kind → IsToldBefore fault line kind) → ReadsParts parts (Err fault)
  no_init : IsClean parts → has_program (codes "init") parts ≡ false → ReadsParts parts (at_line_0 NoInit)
  clean : IsClean parts → has_program (codes "init") parts ≡ true → ReadsParts parts (Ok (script_of parts))

-- The text reads as a script, or has this fault.
pub data ReadsText : List ℕ → Result Script ScriptFault → Type 0 where
  too_long : (text : List ℕ) → most_bytes < length text → ReadsText text (at_line_0 TooLong)
  reads : (text : List ℕ) (lines : List Line) (parts : List Part) (outcome : Result Script ScriptFault) → length text ≤ most_bytes
      → Lines 1 (slice_split (λ byte. byte == 10) text) lines → Parts lines parts → ReadsParts parts outcome → ReadsText text outcome
