-- What the reader answers to lines is what their parts mean.
use Rattle.std.proofs.Common.{◌≡◌, ℕ, suc, ◌+◌, ◌<◌, ◌≤◌, Bool, true, false, ◌==◌, ◌||◌, List, [], ◌∷◌, ◌++◌, length, Option, None, Some, Result, Ok, Err, refl, sym, ap, ◌∙◌, append_assoc, append-nil, arith}
use Rattle.std.specs.Prelude.{⊤, nat_le, if◌then◌else◌, is_some}
use Rattle.std.specs.Str.{bytes_eq}
use Rattle.std.proofs.lemmas.List.{length-append}
use Rattle.std.proofs.lemmas.List.Elements.{filter_map-append}
use Rattle.std.proofs.lemmas.List.Folds.{list_any-append}
use Rattle.std.specs.List.{cons_option}
use Rattle.kabi_types.specs.declared.scripts.FaultKind.{FaultKind}
use Rattle.kabi_types.specs.declared.scripts.FaultKind.TheVariants.{OutOfRange, TwiceDefined, Unended}
use Rattle.kabi_types.specs.declared.scripts.Chooser.{Chooser}
use Rattle.kabi_types.specs.declared.scripts.Policy.{Policy}
use Rattle.kabi_types.specs.declared.scripts.Program.{Program}
use Rattle.kabi_types.specs.declared.scripts.Script.{Script}
use Rattle.kabi_types.specs.declared.scripts.ScriptFault.{ScriptFault}
use Rattle.posix_defs.specs.declared.said.AtTop.{AtTop}
use Rattle.posix_defs.specs.declared.said.AtTop.TheVariants as top
use Rattle.posix_defs.specs.declared.said.InProgram.{InProgram}
use Rattle.posix_defs.specs.declared.said.InProgram.TheVariants as inside
use Rattle.posix_defs.specs.declared.said.Setting.{Setting}
use Rattle.posix_defs.specs.declared.said.Setting.TheVariants as setting
use Rattle.posix_defs.specs.ScriptValues.{◌>>=◌, with}
use Rattle.posix_defs.specs.ScriptParts.{Line, top_of, inside_of, name_begun, is_ending, ends, Part, Alone, Program as Begun}
use Rattle.posix_defs.specs.ScriptMeaning.{or_next, program_in, programs_of, setting_said, setting_in, settings_of, first_of, is_named, heap_in, disk_in, steps_in, policy_in, chooser_in, body_said}
use Rattle.posix_defs.specs.ScriptFaults.{most_programs, how_many, has_program, name_of, is_set_in}
use Rattle.script_read.specs.LabelPlaces as reader
use Rattle.script_read.specs.Drafting.{Draft, Opened, State, fault_at, at_line, once, with_setting, may_begin, begin, outside, within, step_at_top, step_in_program, finish_from, finish, step}
use Rattle.script_read.specs.Drafting as draft
use Rattle.script_parse.proofs.OneReading.{lines_step}
use Rattle.script_parse.proofs.LinePlaces.{stated_by, stated_of, stated_append}
use Rattle.script_parse.proofs.Bodies.{wrong_in}
use Rattle.script_parse.proofs.FirstFaults.{body_answered, answered}
use Rattle.script_parse.proofs.PartFaults.{fault_of, top_fault, program_fault, part_fault, wrong_parts}
use Rattle.script_parse.proofs.TextParts.{machine, Open, with_line, closed, parts_behind, parts_from}

-- the reader's draft, by settings and programs
abbrev draft_by : List Setting → List Program → Draft
draft_by settings programs = record {
  heap = first_of heap_in settings;
  disk = first_of disk_in settings;
  steps = first_of steps_in settings;
  policy = first_of policy_in settings;
  chooser = first_of chooser_in settings;
  programs = programs;
}

abbrev pub draft_of : List Part → Draft
draft_of parts = draft_by (settings_of parts) (programs_of parts)

draft_more : (above : List Part) (part : Part)
    → draft_of (above ++ part ∷ []) ≡ draft_by (settings_of above ++ cons_option (setting_in part) []) (programs_of above ++ cons_option (program_in part) [])
draft_more above part =
    ap (λ s. draft_by s (programs_of (above ++ part ∷ []))) (filter_map-append setting_in above (part ∷ []))
    ∙ ap (draft_by (settings_of above ++ cons_option (setting_in part) [])) (filter_map-append program_in above (part ∷ []))

-- a line outside programs that sets nothing
draft_alone : (above : List Part) (line : Line) → setting_in (Alone line) ≡ None → draft_of (above ++ Alone line ∷ []) ≡ draft_of above
draft_alone above line none =
    draft_more above (Alone line)
    ∙ ap (λ s. draft_by (settings_of above ++ cons_option s []) (programs_of above ++ [])) none
    ∙ ap (λ s. draft_by s (programs_of above ++ [])) (append-nil (settings_of above)) ∙ ap (draft_by (settings_of above)) (append-nil (programs_of above))

draft_set : (above : List Part) (line : Line) (said : Setting) → setting_in (Alone line) ≡ Some said
    → draft_of (above ++ Alone line ∷ []) ≡ draft_by (settings_of above ++ said ∷ []) (programs_of above)
draft_set above line said is =
    draft_more above (Alone line)
    ∙ ap (λ s. draft_by (settings_of above ++ cons_option s []) (programs_of above ++ [])) is
    ∙ ap (draft_by (settings_of above ++ said ∷ [])) (append-nil (programs_of above))

draft_program : (above : List Part) (first : Line) (name : List ℕ) (body : List Line)
    → draft_of (above ++ Begun first name (Some body) ∷ []) ≡ draft.with_program (draft_of above) name (body_said body)
draft_program above first name body =
    draft_more above (Begun first name (Some body))
    ∙ ap (λ s. draft_by s (programs_of above ++ record { name = name; body = body_said body } ∷ [])) (append-nil (settings_of above))

first_kept : {A : Type 0} (gives : Setting → Option A) (settings : List Setting) (said : Setting) → gives said ≡ None
    → first_of gives (settings ++ said ∷ []) ≡ first_of gives settings
first_kept gives [] said none = ap (λ o. or_next o None) none
first_kept gives (first ∷ settings) said none = ap (or_next (gives first)) (first_kept gives settings said none)

given_by : {A : Type 0} (gives : Setting → Option A) (settings : List Setting) (said : Setting) (a : A) (found : Option A)
    → or_next found (first_of gives settings) ≡ None → (first_of gives settings ≡ None → first_of gives (settings ++ said ∷ []) ≡ Some a)
    → or_next found (first_of gives (settings ++ said ∷ [])) ≡ Some a
given_by gives settings said a None none more = more none
given_by gives settings said a (Some other) none more = let wrong : true ≡ false = ap is_some none in absurd cc

first_given : {A : Type 0} (gives : Setting → Option A) (settings : List Setting) (said : Setting) (a : A) → gives said ≡ Some a
    → first_of gives settings ≡ None → first_of gives (settings ++ said ∷ []) ≡ Some a
first_given gives [] said a is none = ap (λ o. or_next o None) is
first_given gives (first ∷ settings) said a is none = given_by gives settings said a (gives first) none (first_given gives settings said a is)

-- A setting changes the reader's draft as one more line does; a second of its kind is at fault.
abbrev IsSet : List Setting → List Program → Setting → Bool → Type 0
IsSet settings programs said true = with_setting (draft_by settings programs) said ≡ Err TwiceDefined
IsSet settings programs said false = with_setting (draft_by settings programs) said ≡ Ok (draft_by (settings ++ said ∷ []) programs)

set_heap : (settings : List Setting) (programs : List Program) (n : ℕ) (found : Option ℕ) → first_of heap_in settings ≡ found
    → IsSet settings programs (setting.Heap n) (is_some found)
set_heap settings programs n (Some other) is = ap (λ o. with (λ h. record (draft_by settings programs) { heap = h }) (once o n)) is
set_heap settings programs n None is =
    let said : Setting = setting.Heap n in
    let heap : first_of heap_in (settings ++ said ∷ []) ≡ Some n = first_given heap_in settings said n refl is in
    let disk : first_of disk_in (settings ++ said ∷ []) ≡ first_of disk_in settings = first_kept disk_in settings said refl in
    let steps : first_of steps_in (settings ++ said ∷ []) ≡ first_of steps_in settings = first_kept steps_in settings said refl in
    let policy : first_of policy_in (settings ++ said ∷ []) ≡ first_of policy_in settings = first_kept policy_in settings said refl in
    let chooser : first_of chooser_in (settings ++ said ∷ []) ≡ first_of chooser_in settings = first_kept chooser_in settings said refl in
    let same : record (draft_by settings programs) { heap = Some n } ≡ draft_by (settings ++ said ∷ []) programs = cc in
    ap (λ o. with (λ h. record (draft_by settings programs) { heap = h }) (once o n)) is ∙ ap Ok same

set_disk : (settings : List Setting) (programs : List Program) (n : ℕ) (found : Option ℕ) → first_of disk_in settings ≡ found
    → IsSet settings programs (setting.Disk n) (is_some found)
set_disk settings programs n (Some other) is = ap (λ o. with (λ h. record (draft_by settings programs) { disk = h }) (once o n)) is
set_disk settings programs n None is =
    let said : Setting = setting.Disk n in
    let heap : first_of heap_in (settings ++ said ∷ []) ≡ first_of heap_in settings = first_kept heap_in settings said refl in
    let disk : first_of disk_in (settings ++ said ∷ []) ≡ Some n = first_given disk_in settings said n refl is in
    let steps : first_of steps_in (settings ++ said ∷ []) ≡ first_of steps_in settings = first_kept steps_in settings said refl in
    let policy : first_of policy_in (settings ++ said ∷ []) ≡ first_of policy_in settings = first_kept policy_in settings said refl in
    let chooser : first_of chooser_in (settings ++ said ∷ []) ≡ first_of chooser_in settings = first_kept chooser_in settings said refl in
    let same : record (draft_by settings programs) { disk = Some n } ≡ draft_by (settings ++ said ∷ []) programs = cc in
    ap (λ o. with (λ h. record (draft_by settings programs) { disk = h }) (once o n)) is ∙ ap Ok same

set_steps : (settings : List Setting) (programs : List Program) (n : ℕ) (found : Option ℕ) → first_of steps_in settings ≡ found
    → IsSet settings programs (setting.Steps n) (is_some found)
set_steps settings programs n (Some other) is = ap (λ o. with (λ h. record (draft_by settings programs) { steps = h }) (once o n)) is
set_steps settings programs n None is =
    let said : Setting = setting.Steps n in
    let heap : first_of heap_in (settings ++ said ∷ []) ≡ first_of heap_in settings = first_kept heap_in settings said refl in
    let disk : first_of disk_in (settings ++ said ∷ []) ≡ first_of disk_in settings = first_kept disk_in settings said refl in
    let steps : first_of steps_in (settings ++ said ∷ []) ≡ Some n = first_given steps_in settings said n refl is in
    let policy : first_of policy_in (settings ++ said ∷ []) ≡ first_of policy_in settings = first_kept policy_in settings said refl in
    let chooser : first_of chooser_in (settings ++ said ∷ []) ≡ first_of chooser_in settings = first_kept chooser_in settings said refl in
    let same : record (draft_by settings programs) { steps = Some n } ≡ draft_by (settings ++ said ∷ []) programs = cc in
    ap (λ o. with (λ h. record (draft_by settings programs) { steps = h }) (once o n)) is ∙ ap Ok same

set_policy : (settings : List Setting) (programs : List Program) (p : Policy) (found : Option Policy) → first_of policy_in settings ≡ found
    → IsSet settings programs (setting.Victims p) (is_some found)
set_policy settings programs p (Some other) is = ap (λ o. with (λ h. record (draft_by settings programs) { policy = h }) (once o p)) is
set_policy settings programs p None is =
    let said : Setting = setting.Victims p in
    let heap : first_of heap_in (settings ++ said ∷ []) ≡ first_of heap_in settings = first_kept heap_in settings said refl in
    let disk : first_of disk_in (settings ++ said ∷ []) ≡ first_of disk_in settings = first_kept disk_in settings said refl in
    let steps : first_of steps_in (settings ++ said ∷ []) ≡ first_of steps_in settings = first_kept steps_in settings said refl in
    let policy : first_of policy_in (settings ++ said ∷ []) ≡ Some p = first_given policy_in settings said p refl is in
    let chooser : first_of chooser_in (settings ++ said ∷ []) ≡ first_of chooser_in settings = first_kept chooser_in settings said refl in
    let same : record (draft_by settings programs) { policy = Some p } ≡ draft_by (settings ++ said ∷ []) programs = cc in
    ap (λ o. with (λ h. record (draft_by settings programs) { policy = h }) (once o p)) is ∙ ap Ok same

set_chooser : (settings : List Setting) (programs : List Program) (c : Chooser) (found : Option Chooser) → first_of chooser_in settings ≡ found
    → IsSet settings programs (setting.Choosing c) (is_some found)
set_chooser settings programs c (Some other) is = ap (λ o. with (λ h. record (draft_by settings programs) { chooser = h }) (once o c)) is
set_chooser settings programs c None is =
    let said : Setting = setting.Choosing c in
    let heap : first_of heap_in (settings ++ said ∷ []) ≡ first_of heap_in settings = first_kept heap_in settings said refl in
    let disk : first_of disk_in (settings ++ said ∷ []) ≡ first_of disk_in settings = first_kept disk_in settings said refl in
    let steps : first_of steps_in (settings ++ said ∷ []) ≡ first_of steps_in settings = first_kept steps_in settings said refl in
    let policy : first_of policy_in (settings ++ said ∷ []) ≡ first_of policy_in settings = first_kept policy_in settings said refl in
    let chooser : first_of chooser_in (settings ++ said ∷ []) ≡ Some c = first_given chooser_in settings said c refl is in
    let same : record (draft_by settings programs) { chooser = Some c } ≡ draft_by (settings ++ said ∷ []) programs = cc in
    ap (λ o. with (λ h. record (draft_by settings programs) { chooser = h }) (once o c)) is ∙ ap Ok same

set_said : (settings : List Setting) (programs : List Program) (said : Setting) → IsSet settings programs said (is_set_in settings said)
set_said settings programs (setting.Heap n) = set_heap settings programs n (first_of heap_in settings) refl
set_said settings programs (setting.Disk n) = set_disk settings programs n (first_of disk_in settings) refl
set_said settings programs (setting.Steps n) = set_steps settings programs n (first_of steps_in settings) refl
set_said settings programs (setting.Victims p) = set_policy settings programs p (first_of policy_in settings) refl
set_said settings programs (setting.Choosing c) = set_chooser settings programs c (first_of chooser_in settings) refl

-- The reader's programs are those of these parts, and no more than there may be.
pub record Matches (above : List Part) : Type 0 where
  pub count : how_many above ≡ length (programs_of above)
  pub named : (name : List ℕ) → has_program name above ≡ draft.has_program name (programs_of above)
  pub few : how_many above ≤ most_programs

pub nothing_above : Matches []
nothing_above = record { count = refl; named = λ name. refl; few = omega arith }

how_append : (above below : List Part) → how_many (above ++ below) ≡ how_many above + how_many below
how_append [] below = let same : how_many below ≡ 0 + how_many below = omega arith in same
how_append (Alone line ∷ above) below = how_append above below
how_append (Begun first name body ∷ above) below =
    let same : suc (how_many above + how_many below) ≡ suc (how_many above) + how_many below = omega arith in ap suc (how_append above below) ∙ same

has_append : (name : List ℕ) (above below : List Part) → has_program name (above ++ below) ≡ (has_program name above || has_program name below)
has_append name above below = list_any-append (λ part. is_named name (name_of part)) above below

has_program_append : (name : List ℕ) (first second : List Program)
    → draft.has_program name (first ++ second) ≡ (draft.has_program name first || draft.has_program name second)
has_program_append name first second = list_any-append (λ program. bytes_eq program.name name) first second

pub matches_alone : (above : List Part) (line : Line) → Matches above → Matches (above ++ Alone line ∷ [])
matches_alone above line old =
    let same : programs_of (above ++ Alone line ∷ []) ≡ programs_of above = filter_map-append program_in above (Alone line ∷ []) ∙ append-nil (programs_of above) in
    let many : how_many (above ++ Alone line ∷ []) ≡ how_many above + 0 = how_append above (Alone line ∷ []) in record {
      count = omega (arith, many, old.count, ap length same);
      named = λ name. has_append name above (Alone line ∷ []) ∙ ap (λ b. b || false) (old.named name)
          ∙ sym (has_program_append name (programs_of above) []) ∙ ap (draft.has_program name) (append-nil (programs_of above) ∙ sym same);
      few = omega (arith, many, old.few);
    }

pub matches_program : (above : List Part) (first : Line) (name : List ℕ) (body : List Line) → nat_le most_programs (how_many above) ≡ false → Matches above
    → Matches (above ++ Begun first name (Some body) ∷ [])
matches_program above first name body room old =
    let more : Program = record { name = name; body = body_said body } in
    let same : programs_of (above ++ Begun first name (Some body) ∷ []) ≡ programs_of above ++ more ∷ [] = filter_map-append program_in above (Begun first name (Some body) ∷ []) in
    let many : how_many (above ++ Begun first name (Some body) ∷ []) ≡ how_many above + 1 = how_append above (Begun first name (Some body) ∷ []) in
    let less : how_many above < most_programs = grind (arith, room) in record {
      count = omega (arith, many, old.count, ap length same, length-append (programs_of above) (more ∷ []));
      named = λ other. has_append other above (Begun first name (Some body) ∷ []) ∙ ap (λ b. b || (bytes_eq name other || false)) (old.named other)
          ∙ sym (has_program_append other (programs_of above) (more ∷ [])) ∙ ap (draft.has_program other) (sym same);
      few = omega (arith, many, less);
    }

-- the first fault of the parts that follow, or what all of them say
abbrev pub told_of : Option ScriptFault → Result Script ScriptFault → Result Script ScriptFault
told_of None rest = rest
told_of (Some fault) rest = Err fault

abbrev pub result : List Part → List Part → Result Script ScriptFault
result above parts = told_of (wrong_parts above parts) (finish_from (draft_of (above ++ parts)) None)

result_on : (above : List Part) (part : Part) (parts : List Part) → part_fault above part ≡ None
    → result (above ++ part ∷ []) parts ≡ result above (part ∷ parts)
result_on above part parts is =
    ap (λ p. told_of (wrong_parts (above ++ part ∷ []) parts) (finish_from (draft_of p) None)) (append_assoc above (part ∷ []) parts)
    ∙ ap (λ f. told_of (or_next f (wrong_parts (above ++ part ∷ []) parts)) (finish_from (draft_of (above ++ part ∷ parts)) None)) (sym is)

result_stops : (above : List Part) (part : Part) (parts : List Part) (fault : ScriptFault) → part_fault above part ≡ Some fault
    → Err fault ≡ result above (part ∷ parts)
result_stops above part parts fault is =
    ap (λ f. told_of (or_next f (wrong_parts (above ++ part ∷ []) parts)) (finish_from (draft_of (above ++ part ∷ parts)) None)) (sym is)

-- where the reader stands
abbrev pub opened_of : Open → Opened
opened_of current = record { line = current.first.number; name = current.name; said = stated_of current.body }

abbrev pub state_of : List Part → Option Open → State
state_of above None = outside (draft_of above)
state_of above (Some current) = within (draft_of above) (opened_of current)

-- the open program may stand here
abbrev pub MayOpen : List Part → Option Open → Type 0
MayOpen above None = ⊤
MayOpen above (Some current) = (nat_le most_programs (how_many above) ≡ false) × (has_program current.name above ≡ false)

-- The reader goes on from here as the parts say.
abbrev pub Follows : List Line → Type 0
Follows lines = (above : List Part) (current : Option Open) → Matches above → MayOpen above current
    → machine (state_of above current) lines ≡ result above (parts_from current lines)

abbrev go_on : List Line → Result State ScriptFault → Result Script ScriptFault
go_on lines next = lines_step (λ state. machine state lines) next

-- a line outside programs

silent_top : (above : List Part) (line : Line) (lines : List Line) → setting_in (Alone line) ≡ None → part_fault above (Alone line) ≡ None → Matches above
    → Follows lines → machine (state_of above None) lines ≡ result above (Alone line ∷ parts_from None lines)
silent_top above line lines none clean old follows =
    ap (λ d. machine (outside d) lines) (sym (draft_alone above line none))
    ∙ follows (above ++ Alone line ∷ []) None (matches_alone above line old) tt ∙ result_on above (Alone line) (parts_from None lines) clean

set_top : (above : List Part) (line : Line) (lines : List Line) (said : Setting) (again : Bool) → top_of line ≡ Ok (top.Sets said)
    → is_set_in (settings_of above) said ≡ again → IsSet (settings_of above) (programs_of above) said again → Matches above → Follows lines
    → go_on lines (at_line line.number (with outside (with_setting (draft_of above) said))) ≡ result above (Alone line ∷ parts_from None lines)
set_top above line lines said true says again is old follows =
    ap (λ d. go_on lines (at_line line.number (with outside d))) is
    ∙ result_stops above (Alone line) (parts_from None lines) (fault_of line.number TwiceDefined)
    (ap (top_fault above line.number) says ∙ ap (λ b. if b then Some (fault_of line.number TwiceDefined) else None) again)
set_top above line lines said false says again is old follows =
    ap (λ d. go_on lines (at_line line.number (with outside d))) is
    ∙ ap (λ d. machine (outside d) lines) (sym (draft_set above line said (ap setting_said says)))
    ∙ follows (above ++ Alone line ∷ []) None (matches_alone above line old) tt
    ∙ result_on above (Alone line) (parts_from None lines)
    (ap (top_fault above line.number) says ∙ ap (λ b. if b then Some (fault_of line.number TwiceDefined) else None) again)

-- The first part is the program that is open, however it goes on.
record Begins (current : Open) (lines : List Line) : Type 0 where
  pub body : Option (List Line)
  pub rest : List Part
  pub parts_are : parts_from (Some current) lines ≡ Begun current.first current.name body ∷ rest

begins_by : (current : Open) (line : Line) (lines : List Line) (ending : Bool) → ends line ≡ ending → Begins (with_line current line) lines
    → Begins current (line ∷ lines)
begins_by current line lines true is more = record {
  body = Some current.body;
  rest = parts_from None lines;
  parts_are = ap (λ b. if b then closed current ∷ parts_from None lines else parts_from (Some (with_line current line)) lines) is;
}
begins_by current line lines false is more = record {
  body = more.body;
  rest = more.rest;
  parts_are = ap (λ b. if b then closed current ∷ parts_from None lines else parts_from (Some (with_line current line)) lines) is ∙ more.parts_are;
}

begins_with : (lines : List Line) (current : Open) → Begins current lines
begins_with [] current = record { body = None; rest = []; parts_are = refl }
begins_with (line ∷ lines) current = begins_by current line lines (ends line) refl (begins_with lines (with_line current line))

program_wrong : (above : List Part) (current : Open) (lines : List Line) (kind : FaultKind) (full again : Bool)
    → nat_le most_programs (how_many above) ≡ full → has_program current.name above ≡ again
    → ((body : Option (List Line)) → program_fault full again current.first.number body ≡ Some (fault_of current.first.number kind))
    → Err (fault_of current.first.number kind) ≡ result above (parts_from (Some current) lines)
program_wrong above current lines kind full again is_full is_again wrong =
    let first = begins_with lines current in
    result_stops above (Begun current.first current.name first.body) first.rest (fault_of current.first.number kind)
    (ap (λ b. program_fault b (has_program current.name above) current.first.number first.body) is_full
    ∙ ap (λ b. program_fault full b current.first.number first.body) is_again ∙ wrong first.body)
    ∙ ap (result above) (sym first.parts_are)

-- what becomes of a program that a line begins, by whether it may
abbrev began : List Part → Line → List ℕ → List Line → Result (Unit {0}) FaultKind → Result Script ScriptFault
began above line name lines may =
    go_on lines (at_line line.number (with (within (draft_of above)) (with (λ _. record { line = line.number; name = name; said = [] }) may)))

begin_by : (above : List Part) (line : Line) (lines : List Line) (name : List ℕ) (full again : Bool) → nat_le most_programs (how_many above) ≡ full
    → has_program name above ≡ again → Matches above → Follows lines
    → began above line name lines (if full then Err OutOfRange else if again then Err TwiceDefined else Ok tt)
    ≡ result above (parts_from (Some (record { first = line; name = name; body = [] })) lines)
begin_by above line lines name true again is_full is_again old follows =
    program_wrong above (record { first = line; name = name; body = [] }) lines OutOfRange true again is_full is_again (λ body. refl)
begin_by above line lines name false true is_full is_again old follows =
    program_wrong above (record { first = line; name = name; body = [] }) lines TwiceDefined false true is_full is_again (λ body. refl)
begin_by above line lines name false false is_full is_again old follows =
    follows above (Some (record { first = line; name = name; body = [] })) old (is_full, is_again)

full_same : (count many most : ℕ) → many ≡ count → many ≤ most → (count == most) ≡ nat_le most many
full_same count many most same few = grind (arith, same, few)

begin_top : (above : List Part) (line : Line) (lines : List Line) (name : List ℕ) → Matches above → Follows lines
    → go_on lines (at_line line.number (with (within (draft_of above)) (begin (draft_of above) line.number name)))
    ≡ result above (parts_from (Some (record { first = line; name = name; body = [] })) lines)
begin_top above line lines name old follows =
    ap (λ b. began above line name lines (if b then Err OutOfRange else if draft.has_program name (programs_of above) then Err TwiceDefined else Ok tt))
    (full_same (length (programs_of above)) (how_many above) most_programs old.count old.few)
    ∙ ap (λ b. began above line name lines (if nat_le most_programs (how_many above) then Err OutOfRange else if b then Err TwiceDefined else Ok tt))
    (sym (old.named name))
    ∙ begin_by above line lines name (nat_le most_programs (how_many above)) (has_program name above) refl refl old follows

top_line : (above : List Part) (line : Line) (lines : List Line) (told : Result AtTop FaultKind) → top_of line ≡ told → Matches above → Follows lines
    → go_on lines (at_line line.number (told >>= step_at_top (draft_of above) line.number))
    ≡ result above (parts_behind line (name_begun told) (λ current. parts_from current lines))
top_line above line lines (Err kind) tells old follows =
    result_stops above (Alone line) (parts_from None lines) (fault_of line.number kind) (ap (top_fault above line.number) tells)
top_line above line lines (Ok top.Silent) tells old follows =
    silent_top above line lines (ap setting_said tells) (ap (top_fault above line.number) tells) old follows
top_line above line lines (Ok (top.Sets said)) tells old follows =
    set_top above line lines said (is_set_in (settings_of above) said) tells refl (set_said (settings_of above) (programs_of above) said) old follows
top_line above line lines (Ok (top.Begins name)) tells old follows = begin_top above line lines name old follows

-- a line of a program

more_stated : (current : Open) (line : Line) (told : Result InProgram FaultKind) → inside_of line ≡ told
    → stated_of (with_line current line).body ≡ stated_of current.body ++ cons_option (stated_by line.number told) []
more_stated current line told is =
    stated_append current.body (line ∷ []) ∙ ap (λ t. stated_of current.body ++ cons_option (stated_by line.number t) []) is

inside_on : (above : List Part) (current : Open) (line : Line) (lines : List Line) (told : Result InProgram FaultKind) → inside_of line ≡ told
    → is_ending told ≡ false → Matches above → MayOpen above (Some current) → Follows lines
    → machine (within (draft_of above) (record (opened_of current) { said = stated_of current.body ++ cons_option (stated_by line.number told) [] })) lines
    ≡ result above (if is_ending told then closed current ∷ parts_from None lines else parts_from (Some (with_line current line)) lines)
inside_on above current line lines told is on old may follows =
    ap (λ s. machine (within (draft_of above) (record (opened_of current) { said = s })) lines) (sym (more_stated current line told is))
    ∙ follows above (Some (with_line current line)) old may
    ∙ ap (λ b. result above (if b then closed current ∷ parts_from None lines else parts_from (Some (with_line current line)) lines)) (sym on)

closed_fault : (above : List Part) (current : Open) (found : Option ScriptFault) → MayOpen above (Some current) → wrong_in [] current.body ≡ found
    → part_fault above (closed current) ≡ found
closed_fault above current found may is =
    ap (λ b. program_fault b (has_program current.name above) current.first.number (Some current.body)) may.0
    ∙ ap (λ b. program_fault false b current.first.number (Some current.body)) may.1 ∙ is

close_by : (above : List Part) (current : Open) (lines : List Line) (found : Option ScriptFault) → wrong_in [] current.body ≡ found
    → answered found current.body → Matches above → MayOpen above (Some current) → Follows lines
    → go_on lines (draft.closed (draft_of above) current.name (reader.placed_body (stated_of current.body)))
    ≡ result above (closed current ∷ parts_from None lines)
close_by above current lines (Some fault) is answer old may follows =
    ap (λ b. go_on lines (draft.closed (draft_of above) current.name b)) answer
    ∙ result_stops above (closed current) (parts_from None lines) fault (closed_fault above current (Some fault) may is)
close_by above current lines None is answer old may follows =
    ap (λ b. go_on lines (draft.closed (draft_of above) current.name b)) answer
    ∙ ap (λ d. machine (outside d) lines) (sym (draft_program above current.first current.name current.body))
    ∙ follows (above ++ closed current ∷ []) None (matches_program above current.first current.name current.body may.0 old) tt
    ∙ result_on above (closed current) (parts_from None lines) (closed_fault above current None may is)

inside_line : (above : List Part) (current : Open) (line : Line) (lines : List Line) (told : Result InProgram FaultKind) → inside_of line ≡ told
    → Matches above → MayOpen above (Some current) → Follows lines
    → go_on lines (step_in_program (draft_of above) (opened_of current) line.number told)
    ≡ result above (if is_ending told then closed current ∷ parts_from None lines else parts_from (Some (with_line current line)) lines)
inside_line above current line lines (Err kind) is old may follows = inside_on above current line lines (Err kind) is refl old may follows
inside_line above current line lines (Ok inside.Silent) is old may follows =
    ap (λ s. machine (within (draft_of above) (record (opened_of current) { said = s })) lines) (sym (append-nil (stated_of current.body)))
    ∙ inside_on above current line lines (Ok inside.Silent) is refl old may follows
inside_line above current line lines (Ok (inside.Says said)) is old may follows =
    inside_on above current line lines (Ok (inside.Says said)) is refl old may follows
inside_line above current line lines (Ok inside.Ends) is old may follows =
    close_by above current lines (wrong_in [] current.body) refl (body_answered current.body) old may follows

unended_here : (above : List Part) (current : Open) → MayOpen above (Some current)
    → Err (fault_of current.first.number Unended) ≡ result above (Begun current.first current.name None ∷ [])
unended_here above current may =
    result_stops above (Begun current.first current.name None) [] (fault_of current.first.number Unended)
    (ap (λ b. program_fault b (has_program current.name above) current.first.number None) may.0
    ∙ ap (λ b. program_fault false b current.first.number None) may.1)

pub follows : (lines : List Line) → Follows lines
follows [] above None old may = ap (λ p. finish_from (draft_of p) None) (sym (append-nil above))
follows [] above (Some current) old may = unended_here above current may
follows (line ∷ lines) above None old may = top_line above line lines (top_of line) refl old (follows lines)
follows (line ∷ lines) above (Some current) old may = inside_line above current line lines (inside_of line) refl old may (follows lines)
