-- The script that a text without a fault says, by its parts.
use Rattle.std.specs.Prelude.{ℕ, ◌+◌, Bool, false, if◌then◌else◌, List, [], ◌∷◌, map, Option, None, Some, Result, Ok, Err}
use Rattle.std.specs.List.{filter_map}
use Rattle.std.specs.Str.{bytes_eq}
use Rattle.kabi_types.specs.declared.scripts.Chooser.{Chooser}
use Rattle.kabi_types.specs.declared.scripts.Chooser.TheVariants.{Plain}
use Rattle.kabi_types.specs.declared.scripts.FaultKind.{FaultKind}
use Rattle.kabi_types.specs.declared.scripts.Policy.{Policy}
use Rattle.kabi_types.specs.declared.scripts.Policy.TheVariants.{Heaviest}
use Rattle.kabi_types.specs.declared.scripts.Program.{Program}
use Rattle.kabi_types.specs.declared.scripts.Script.{Script}
use Rattle.kabi_types.specs.declared.scripts.Statement.{Statement}
use Rattle.kabi_types.specs.declared.scripts.Statement.TheVariants as statement
use Rattle.posix_defs.specs.declared.said.AtTop.{AtTop}
use Rattle.posix_defs.specs.declared.said.AtTop.TheVariants as top
use Rattle.posix_defs.specs.declared.said.InProgram.{InProgram}
use Rattle.posix_defs.specs.declared.said.InProgram.TheVariants as inside
use Rattle.posix_defs.specs.declared.said.Setting.{Setting}
use Rattle.posix_defs.specs.declared.said.Setting.TheVariants as setting
use Rattle.posix_defs.specs.declared.said.Spoken.{Spoken}
use Rattle.posix_defs.specs.declared.said.Spoken.TheVariants as spoken
use Rattle.posix_defs.specs.ScriptParts.{Line, Part, Alone, Program as Begun, top_of, inside_of}

-- the statement that a line of a program says; None where it says nothing, or is at fault
abbrev pub spoken_in : Result InProgram FaultKind → Option Spoken
spoken_in (Ok (inside.Says said)) = Some said
spoken_in (Ok inside.Silent) = None
spoken_in (Ok inside.Ends) = None
spoken_in (Err _) = None

-- the statement that a line says in a program; None where it says nothing, or is at fault
abbrev pub spoken_by : Line → Option Spoken
spoken_by line = spoken_in (inside_of line)

-- the statements that the lines of a program say
abbrev pub spoken_of : List Line → List Spoken
spoken_of lines = filter_map spoken_by lines

-- the name of the label that a statement is
abbrev pub label_of : Spoken → Option (List ℕ)
label_of (spoken.Label name) = Some name
label_of (spoken.Whole _) = None
label_of (spoken.If _ _ _ _) = None
label_of (spoken.Jump _) = None
label_of (spoken.Loop _ _) = None

-- there is a name, and it is this one
abbrev pub is_named : List ℕ → Option (List ℕ) → Bool
is_named name None = false
is_named name (Some other) = bytes_eq other name

-- the number of the first label of this name among statements, which are counted from 0
abbrev pub label_place : List ℕ → List Spoken → ℕ
label_place name [] = 0
label_place name (said ∷ rest) = if is_named name (label_of said) then 0 else label_place name rest + 1

-- a statement among these: where it names a label, it gets the label's place
abbrev pub statement_of : List Spoken → Spoken → Statement
statement_of program (spoken.Whole said) = said
statement_of program (spoken.If left test right label) = statement.If left test right (label_place label program)
statement_of program (spoken.Jump label) = statement.Jump (label_place label program)
statement_of program (spoken.Label name) = statement.Label name
statement_of program (spoken.Loop register label) = statement.Loop register (label_place label program)

-- the statements of a program, by its lines
abbrev pub body_said : List Line → List Statement
body_said lines = map (statement_of (spoken_of lines)) (spoken_of lines)

-- the program that a part is; None for a line outside programs, and for a program without an end
abbrev pub program_in : Part → Option Program
program_in (Alone _) = None
program_in (Begun _ name (Some lines)) = Some (record { name = name; body = body_said lines })
program_in (Begun _ name None) = None

-- the programs of a text, in their order
abbrev pub programs_of : List Part → List Program
programs_of parts = filter_map program_in parts

-- the setting that a line outside programs says; None where it says something else or nothing, or is at fault
abbrev pub setting_said : Result AtTop FaultKind → Option Setting
setting_said (Ok (top.Sets said)) = Some said
setting_said (Ok (top.Begins _)) = None
setting_said (Ok top.Silent) = None
setting_said (Err _) = None

-- the setting that a part is, if it is one
abbrev pub setting_in : Part → Option Setting
setting_in (Alone line) = setting_said (top_of line)
setting_in (Begun _ _ _) = None

-- the settings of a text, in their order
abbrev pub settings_of : List Part → List Setting
settings_of parts = filter_map setting_in parts

-- the heap in bytes, where this sets it
abbrev pub heap_in : Setting → Option ℕ
heap_in (setting.Heap n) = Some n
heap_in _ = None

-- the blocks of the disk, where this sets them
abbrev pub disk_in : Setting → Option ℕ
disk_in (setting.Disk n) = Some n
disk_in _ = None

-- how many steps a run has at most, where this sets it
abbrev pub steps_in : Setting → Option ℕ
steps_in (setting.Steps n) = Some n
steps_in _ = None

-- by which policy the victim is found, where this sets it
abbrev pub policy_in : Setting → Option Policy
policy_in (setting.Victims policy) = Some policy
policy_in _ = None

-- who chooses the events, where this sets it
abbrev pub chooser_in : Setting → Option Chooser
chooser_in (setting.Choosing chooser) = Some chooser
chooser_in _ = None

-- the first where there is one, else the next
abbrev pub or_next : {A : Type 0} → Option A → Option A → Option A
or_next None next = next
or_next (Some a) next = Some a

-- what the first of these settings gives that gives it
abbrev pub first_of : {A : Type 0} → (Setting → Option A) → List Setting → Option A
first_of gives [] = None
first_of gives (said ∷ settings) = or_next (gives said) (first_of gives settings)

-- what was given, else the default
abbrev pub or_default : {A : Type 0} → A → Option A → A
or_default default None = default
or_default default (Some a) = a

-- the settings by their lines, the defaults where none stands; the programs in their order
abbrev pub script_of : List Part → Script
script_of parts = let settings = settings_of parts in record {
  heap = or_default 65536 (first_of heap_in settings);
  disk = or_default 64 (first_of disk_in settings);
  steps = or_default 1000 (first_of steps_in settings);
  policy = or_default Heaviest (first_of policy_in settings);
  chooser = or_default Plain (first_of chooser_in settings);
  programs = programs_of parts;
}
