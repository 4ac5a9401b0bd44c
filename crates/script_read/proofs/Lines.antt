-- How far a text is read.
use Rattle.std.proofs.Common.{◌≡◌, ℕ, ◌+◌, ◌≤◌, ◌==◌, Bool, false, List, [], ◌∷◌, ◌++◌, length, Option, None, Some, Result, Ok, Err, refl, sym, ap, ◌∙◌, subst, arith}
use Rattle.std.specs.List.{All, slice_split}
use Rattle.std.specs.Prelude.{MatchResult}
use Rattle.std.specs.Result.{IsErrAnd}
use Rattle.std.proofs.lemmas.List.{length-append}
use Rattle.std.proofs.lemmas.List.Splits.{slice_split_at, slice_split_none}
use Rattle.kabi_types.specs.declared.scripts.FaultKind.{FaultKind}
use Rattle.kabi_types.specs.declared.scripts.Script.{Script}
use Rattle.kabi_types.specs.declared.scripts.ScriptFault.{ScriptFault}
use Rattle.script_read.specs.declared.parse_error.ParseError.{ParseError}
use Rattle.script_read.specs.declared.parse_error.ParseError.TheVariants as error
use Rattle.posix_defs.specs.declared.said.AtTop.{AtTop}
use Rattle.posix_defs.specs.declared.said.AtTop.TheVariants as top
use Rattle.posix_defs.specs.declared.said.InProgram.{InProgram}
use Rattle.posix_defs.specs.declared.said.InProgram.TheVariants as inside
use Rattle.posix_defs.specs.declared.said.Word.{Word}
use Rattle.script_read.specs.Reading.{Outcome, TakesLine, lines_in}
use Rattle.posix_defs.specs.ScriptLines.{said_at_top, said_in_program}
use Rattle.script_read.specs.LabelPlaces.{placed_body}
use Rattle.posix_defs.specs.ScriptValues.{with, ◌>>=◌}
use Rattle.script_words.proofs.Told.{err_is}
use Rattle.script_read.specs.Drafting.{Draft, Opened, State, Reads, ended, goes_on, stops, at_start, at_line, closed, finish, may_begin, outside, step, step_at_top, step_in_program, with_setting, within, drafted_script}

abbrev is_newline : ℕ → Bool
is_newline byte = byte == 10

-- the lines of a text
abbrev pub lines : List ℕ → List (List ℕ)
lines text = slice_split is_newline text

-- whatever the rest reads as, the whole reads as
abbrev pub ReadTo : List ℕ → State → ℕ → List ℕ → Type 0
ReadTo text state line rest = (outcome : Result Script ScriptFault) → Reads state line (lines rest) outcome → Reads at_start 1 (lines text) outcome

first_line : (rest first next : List ℕ) → rest ≡ first ++ (10 ∷ next) → All (λ byte. is_newline byte ≡ false) first → lines rest ≡ first ∷ lines next
first_line rest first next is plain = ap lines is ∙ slice_split_at is_newline first 10 next plain refl

pub read_more : (text rest first next : List ℕ) (state state' : State) (line : ℕ) → ReadTo text state line rest
    → rest ≡ first ++ (10 ∷ next) → All (λ byte. is_newline byte ≡ false) first → TakesLine state line first (Ok state') → ReadTo text state' (line + 1) next
read_more text rest first next state state' line to is plain takes outcome reads =
    to outcome (subst (λ ls. Reads state line ls outcome) (sym (first_line rest first next is plain))
    (goes_on state state' line first (lines next) takes.0 outcome takes.1 (sym takes.2) reads))

pub read_fault : (text rest first next : List ℕ) (state : State) (line : ℕ) (fault : ScriptFault) → ReadTo text state line rest
    → rest ≡ first ++ (10 ∷ next) → All (λ byte. is_newline byte ≡ false) first → TakesLine state line first (Err fault) → Reads at_start 1 (lines text) (Err fault)
read_fault text rest first next state line fault to is plain takes =
    to (Err fault) (subst (λ ls. Reads state line ls (Err fault)) (sym (first_line rest first next is plain))
    (stops state line first (lines next) takes.0 fault takes.1 (sym takes.2)))

last_line : (rest : List ℕ) → All (λ byte. is_newline byte ≡ false) rest → lines rest ≡ rest ∷ []
last_line rest plain = slice_split_none is_newline rest plain

pub read_last : (text rest : List ℕ) (state state' : State) (line : ℕ) → ReadTo text state line rest → All (λ byte. is_newline byte ≡ false) rest
    → TakesLine state line rest (Ok state') → Reads at_start 1 (lines text) (finish state')
read_last text rest state state' line to plain takes =
    to (finish state') (subst (λ ls. Reads state line ls (finish state')) (sym (last_line rest plain))
    (goes_on state state' line rest [] takes.0 (finish state') takes.1 (sym takes.2) (ended state' (line + 1))))

pub read_last_fault : (text rest : List ℕ) (state : State) (line : ℕ) (fault : ScriptFault) → ReadTo text state line rest
    → All (λ byte. is_newline byte ≡ false) rest → TakesLine state line rest (Err fault) → Reads at_start 1 (lines text) (Err fault)
read_last_fault text rest state line fault to plain takes =
    to (Err fault) (subst (λ ls. Reads state line ls (Err fault)) (sym (last_line rest plain)) (stops state line rest [] takes.0 fault takes.1 (sym takes.2)))

-- how many lines of the open program a state has, and a line at fault none
abbrev counted : {F : Type 0} → Result State F → ℕ
counted (Ok state) = lines_in state
counted (Err fault) = 0

counted_at_line : (line : ℕ) (next : Result State FaultKind) → counted (at_line line next) ≡ counted next
counted_at_line line (Ok state) = refl
counted_at_line line (Err kind) = refl

set_counts : (draft : Result Draft FaultKind) → counted (with outside draft) ≡ 0
set_counts (Ok draft) = refl
set_counts (Err kind) = refl

begin_counts : (draft : Draft) (line : ℕ) (name : List ℕ) (may : Result (Unit {0}) FaultKind)
    → counted (with (within draft) (with (λ _. record { line = line; name = name; said = [] }) may)) ≡ 0
begin_counts draft line name (Ok _) = refl
begin_counts draft line name (Err kind) = refl

top_counts : (draft : Draft) (line : ℕ) (said : Result AtTop FaultKind) → counted (said >>= step_at_top draft line) ≡ 0
top_counts draft line (Ok top.Silent) = refl
top_counts draft line (Ok (top.Sets setting)) = set_counts (with_setting draft setting)
top_counts draft line (Ok (top.Begins name)) = begin_counts draft line name (may_begin draft name)
top_counts draft line (Err kind) = refl

closed_counts : (draft : Draft) (opened : Opened) → counted (closed draft opened.name (placed_body opened.said)) ≤ length opened.said + 1
closed_counts draft opened = omega (arith, none (placed_body opened.said))
  where
    none : (body : _) → counted (closed draft opened.name body) ≡ 0
    none (Ok body) = refl
    none (Err fault) = refl

program_counts : (draft : Draft) (opened : Opened) (line : ℕ) (said : Result InProgram FaultKind)
    → counted (step_in_program draft opened line said) ≤ length opened.said + 1
program_counts draft opened line (Ok inside.Silent) = omega arith
program_counts draft opened line (Ok (inside.Says said)) = omega (arith, length-append opened.said (record { line = line; said = Ok said } ∷ []))
program_counts draft opened line (Ok inside.Ends) = closed_counts draft opened
program_counts draft opened line (Err kind) = omega (arith, length-append opened.said (record { line = line; said = Err kind } ∷ []))

step_counts : (draft : Draft) (opened : Option Opened) (line : ℕ) (words : Result (List Word) FaultKind)
    → counted (step (record { draft = draft; opened = opened }) line words) ≤ lines_in (record { draft = draft; opened = opened }) + 1
step_counts draft None line words =
    omega (arith, counted_at_line line (words >>= said_at_top >>= step_at_top draft line), top_counts draft line (words >>= said_at_top))
step_counts draft (Some opened) line words = program_counts draft opened line (words >>= said_in_program)

-- a line adds one to the lines of the open program at most
pub one_line : (state state' : State) (line : ℕ) (first : List ℕ) → TakesLine state line first (Ok state') → lines_in state' ≤ lines_in state + 1
one_line state state' line first takes = omega (arith, ap counted takes.2, step_counts state.draft state.opened line takes.0)

-- where reading a line failed, so did reading the text
pub failed : {X Z : Type 0} (view : X → State) (show : Z → Script) (text : List ℕ) (state : State) (line : ℕ) (first : List ℕ) (error : ParseError)
    → Outcome view (Err error) (TakesLine state line first)
    → ((fault : ScriptFault) → TakesLine state line first (Err fault) → Reads at_start 1 (lines text) (Err fault))
    → Outcome show (Err error) (Reads at_start 1 (lines text))
failed view show text state line first (error.Bad fault) told reads = reads fault told
failed view show text state line first error.Memory told reads = tt

pub outcome_is : {A : Type 0} (P Q : Result A ScriptFault → Type 0) (answer : Result A ParseError) → ((o : Result A ScriptFault) → P o → Q o)
    → Outcome (λ a. a) answer P → Outcome (λ a. a) answer Q
outcome_is P Q (Ok a) goes told = goes (Ok a) told
outcome_is P Q (Err (error.Bad fault)) goes told = goes (Err fault) told
outcome_is P Q (Err error.Memory) goes told = tt

-- what stands at the end of the text
pub finished : (text : List ℕ) (state : State) (may : Result (Unit {0}) ScriptFault) (answer : Result (Unit {0}) ParseError)
    → MatchResult may (λ _. finish state ≡ Ok (drafted_script state.draft)) (λ fault. finish state ≡ Err fault)
    → MatchResult may (λ x. answer ≡ Ok x) (λ fault. IsErrAnd answer (λ e. e ≡ error.Bad fault))
    → Reads at_start 1 (lines text) (finish state) → Outcome (λ _. drafted_script state.draft) answer (Reads at_start 1 (lines text))
finished text state (Ok _) answer ends is reads =
    subst (λ a. Outcome (λ _. drafted_script state.draft) a (Reads at_start 1 (lines text))) (sym is) (subst (Reads at_start 1 (lines text)) ends reads)
finished text state (Err fault) answer ends is reads =
    subst (λ a. Outcome (λ _. drafted_script state.draft) a (Reads at_start 1 (lines text))) (sym (err_is (error.Bad fault) answer is))
    (subst (Reads at_start 1 (lines text)) ends reads)
