-- What the functions that read a text of groups give, in their own shapes.
use Rattle.std.specs.Prelude.{ℕ, ⊤, ◌≡◌, List, Result, Ok, Err}
use Rattle.kabi_types.specs.declared.scripts.FaultKind.{FaultKind}
use Rattle.kabi_types.specs.declared.scripts.Script.{Script}
use Rattle.kabi_types.specs.declared.scripts.ScriptFault.{ScriptFault}
use Rattle.posix_defs.specs.declared.said.Word.{Word}
use Rattle.posix_defs.specs.ScriptText.{ReadsText}
use Rattle.posix_defs.specs.ScriptValues.{◌>>=◌}
use Rattle.posix_defs.specs.ScriptWords.{LineWords}
use Rattle.group_heap.specs.declared.faults.GroupFault.{GroupFault}
use Rattle.group_heap.specs.declared.faults.GroupFault.TheVariants as fault
use Rattle.group_heap.specs.Texts.{fault_at, fault_behind}

-- A reader of groups answered this, unless memory ran out.
abbrev pub Outcome : {X Y : Type 0} → (X → Y) → Result X GroupFault → (Result Y ScriptFault → Type 0) → Type 0
Outcome view (Ok x) is = is (Ok (view x))
Outcome view (Err (fault.Bad what)) is = is (Err what)
Outcome view (Err fault.Memory) is = ⊤

-- what the words of a line say, or why they say nothing that may stand there
abbrev pub SaysBy : {A : Type 0} → (List Word → Result A FaultKind) → List ℕ → Result A FaultKind → Type 0
SaysBy reads line said = (words : Result (List Word) FaultKind) × LineWords line words × ((words >>= reads) ≡ said)

-- the fault of a line, at its number
abbrev pub told_at : {A : Type 0} → ℕ → Result A FaultKind → Result A ScriptFault
told_at line (Ok a) = Ok a
told_at line (Err kind) = fault_at line kind

-- the same with the line's number
abbrev pub SaysAt : {A : Type 0} → (List Word → Result A FaultKind) → ℕ → List ℕ → Result A ScriptFault → Type 0
SaysAt {A} reads line text outcome = (said : Result A FaultKind) × SaysBy reads text said × (outcome ≡ told_at line said)

-- the fault of a text that stands behind this line
abbrev pub told_behind : ℕ → Result Script ScriptFault → Result Script ScriptFault
told_behind line (Ok script) = Ok script
told_behind line (Err fault) = Err (fault_behind line fault)

-- the text that stands behind this line reads so
abbrev pub ReadsBehind : ℕ → List ℕ → Result Script ScriptFault → Type 0
ReadsBehind line text outcome = (read : Result Script ScriptFault) × ReadsText text read × (outcome ≡ told_behind line read)
