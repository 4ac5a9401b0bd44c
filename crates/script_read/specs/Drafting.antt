-- How the reader goes on from line to line: what is set so far, the program that is open, and what one more line adds.
use Rattle.std.specs.Prelude.{ℕ, ◌+◌, ◌≡◌, Bool, ◌==◌, if◌then◌else◌, List, [], ◌∷◌, ◌++◌, length, Option, None, Some, Result, Ok, Err, codes}
use Rattle.std.specs.List.{list_any}
use Rattle.std.specs.Str.{bytes_eq}
use Rattle.kabi_types.specs.declared.scripts.Chooser.{Chooser}
use Rattle.kabi_types.specs.declared.scripts.Chooser.TheVariants.{Plain}
use Rattle.kabi_types.specs.declared.scripts.FaultKind.{FaultKind}
use Rattle.kabi_types.specs.declared.scripts.FaultKind.TheVariants.{OutOfRange, TwiceDefined, Unended, NoInit}
use Rattle.kabi_types.specs.declared.scripts.Policy.{Policy}
use Rattle.kabi_types.specs.declared.scripts.Policy.TheVariants.{Heaviest}
use Rattle.kabi_types.specs.declared.scripts.Program.{Program}
use Rattle.kabi_types.specs.declared.scripts.Script.{Script}
use Rattle.kabi_types.specs.declared.scripts.ScriptFault.{ScriptFault}
use Rattle.kabi_types.specs.declared.scripts.Statement.{Statement}
use Rattle.posix_defs.specs.declared.said.AtTop.{AtTop}
use Rattle.posix_defs.specs.declared.said.AtTop.TheVariants as top
use Rattle.posix_defs.specs.declared.said.InProgram.{InProgram}
use Rattle.posix_defs.specs.declared.said.InProgram.TheVariants as inside
use Rattle.posix_defs.specs.declared.said.Setting.{Setting}
use Rattle.posix_defs.specs.declared.said.Setting.TheVariants as setting
use Rattle.posix_defs.specs.declared.said.Stated.{Stated}
use Rattle.posix_defs.specs.declared.said.Word.{Word}
use Rattle.posix_defs.specs.ScriptWords.{LineWords}
use Rattle.posix_defs.specs.ScriptValues.{with, ◌>>=◌}
use Rattle.posix_defs.specs.ScriptLines.{said_at_top, said_in_program}
use Rattle.posix_defs.specs.ScriptMeaning.{or_default}
use Rattle.posix_defs.specs.ScriptFaults.{most_programs}
use Rattle.script_read.specs.LabelPlaces.{placed_body}

-- what is set so far, and the programs that have ended
pub record Draft : Type 0 where
  pub heap : Option ℕ
  pub disk : Option ℕ
  pub steps : Option ℕ
  pub policy : Option Policy
  pub chooser : Option Chooser
  pub programs : List Program

-- the program that is open: the number of its line, its name, and what its lines say so far
pub record Opened : Type 0 where
  pub line : ℕ
  pub name : List ℕ
  pub said : List Stated

pub record State : Type 0 where
  pub draft : Draft
  pub opened : Option Opened

abbrev pub nothing_set : Draft
nothing_set = record { heap = None; disk = None; steps = None; policy = None; chooser = None; programs = [] }

abbrev pub at_start : State
at_start = record { draft = nothing_set; opened = None }

-- a line is at fault
abbrev pub fault_at : {A : Type 0} → ℕ → FaultKind → Result A ScriptFault
fault_at line kind = Err (record { line = line; what = kind })

abbrev pub at_line : {A : Type 0} → ℕ → Result A FaultKind → Result A ScriptFault
at_line line (Ok a) = Ok a
at_line line (Err kind) = fault_at line kind

-- a setting may stand once
abbrev pub once : {A : Type 0} → Option A → A → Result (Option A) FaultKind
once None said = Ok (Some said)
once (Some _) said = Err TwiceDefined

abbrev pub with_setting : Draft → Setting → Result Draft FaultKind
with_setting draft (setting.Heap n) = with (λ o. record draft { heap = o }) (once draft.heap n)
with_setting draft (setting.Disk n) = with (λ o. record draft { disk = o }) (once draft.disk n)
with_setting draft (setting.Steps n) = with (λ o. record draft { steps = o }) (once draft.steps n)
with_setting draft (setting.Victims p) = with (λ o. record draft { policy = o }) (once draft.policy p)
with_setting draft (setting.Choosing c) = with (λ o. record draft { chooser = o }) (once draft.chooser c)

abbrev pub has_program : List ℕ → List Program → Bool
has_program name programs = list_any (λ program. bytes_eq program.name name) programs

-- a program may begin: there are 64 at most, and no two of one name
abbrev pub may_begin : Draft → List ℕ → Result (Unit {0}) FaultKind
may_begin draft name =
    if length draft.programs == most_programs then Err OutOfRange
    else if has_program name draft.programs then Err TwiceDefined
    else Ok tt

abbrev pub begin : Draft → ℕ → List ℕ → Result Opened FaultKind
begin draft line name = with (λ _. record { line = line; name = name; said = [] }) (may_begin draft name)

abbrev pub outside : Draft → State
outside draft = record { draft = draft; opened = None }

abbrev pub within : Draft → Opened → State
within draft opened = record { draft = draft; opened = Some opened }

-- a line outside programs
abbrev pub step_at_top : Draft → ℕ → AtTop → Result State FaultKind
step_at_top draft line top.Silent = Ok (outside draft)
step_at_top draft line (top.Sets said) = with outside (with_setting draft said)
step_at_top draft line (top.Begins name) = with (within draft) (begin draft line name)

abbrev pub with_line : Opened → Stated → Opened
with_line opened stated = record opened { said = opened.said ++ stated ∷ [] }

-- the open program has these statements
abbrev pub with_program : Draft → List ℕ → List Statement → Draft
with_program draft name body = record draft { programs = draft.programs ++ record { name = name; body = body } ∷ [] }

abbrev pub closed : Draft → List ℕ → Result (List Statement) ScriptFault → Result State ScriptFault
closed draft name (Ok body) = Ok (outside (with_program draft name body))
closed draft name (Err fault) = Err fault

-- A line of a program. Its fault is told where the program ends, since a program without an end is at fault before it.
abbrev pub step_in_program : Draft → Opened → ℕ → Result InProgram FaultKind → Result State ScriptFault
step_in_program draft opened line (Err kind) = Ok (within draft (with_line opened (record { line = line; said = Err kind })))
step_in_program draft opened line (Ok inside.Silent) = Ok (within draft opened)
step_in_program draft opened line (Ok (inside.Says said)) = Ok (within draft (with_line opened (record { line = line; said = Ok said })))
step_in_program draft opened line (Ok inside.Ends) = closed draft opened.name (placed_body opened.said)

-- what the words of a line outside programs add
abbrev pub top_added : Draft → ℕ → Result (List Word) FaultKind → Result State FaultKind
top_added draft line words = words >>= said_at_top >>= step_at_top draft line

abbrev pub step_from : Draft → Option Opened → ℕ → Result (List Word) FaultKind → Result State ScriptFault
step_from draft None line words = at_line line (top_added draft line words)
step_from draft (Some opened) line words = step_in_program draft opened line (words >>= said_in_program)

-- what a line adds
abbrev pub step : State → ℕ → Result (List Word) FaultKind → Result State ScriptFault
step state line words = step_from state.draft state.opened line words

abbrev pub drafted_script : Draft → Script
drafted_script draft = record {
  heap = or_default 65536 draft.heap;
  disk = or_default 64 draft.disk;
  steps = or_default 1000 draft.steps;
  policy = or_default Heaviest draft.policy;
  chooser = or_default Plain draft.chooser;
  programs = draft.programs;
}

abbrev pub finish_from : Draft → Option Opened → Result Script ScriptFault
finish_from draft None = if has_program (codes "init") draft.programs then Ok (drafted_script draft) else fault_at 0 NoInit
finish_from draft (Some opened) = fault_at opened.line Unended

-- the end of the text
abbrev pub finish : State → Result Script ScriptFault
finish state = finish_from state.draft state.opened

-- From a state on, and a line number, these lines read as a script, or have this fault.
pub data Reads : State → ℕ → List (List ℕ) → Result Script ScriptFault → Type 0 where
  ended : (state : State) (line : ℕ) → Reads state line [] (finish state)
  goes_on : (state next : State) (line : ℕ) (first : List ℕ) (lines : List (List ℕ)) (words : Result (List Word) FaultKind) (outcome : Result Script ScriptFault)
      → LineWords first words → step state line words ≡ Ok next → Reads next (line + 1) lines outcome → Reads state line (first ∷ lines) outcome
  stops : (state : State) (line : ℕ) (first : List ℕ) (lines : List (List ℕ)) (words : Result (List Word) FaultKind) (fault : ScriptFault)
      → LineWords first words → step state line words ≡ Err fault → Reads state line (first ∷ lines) (Err fault)
