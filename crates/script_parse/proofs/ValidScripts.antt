-- A script that is read keeps the promises of every script.
use Rattle.std.proofs.Common.{nat_le, ◌≡◌, ◌≢◌, ◌<◌, ◌≤◌, ◌+◌, ℕ, zero, suc, Bool, true, false, ◌==◌, ◌||◌, List, [], ◌∷◌, ◌++◌, length, Option, None, Some, IfSome, Result, Ok, Err, IfOk, slice_get, refl, sym, ap, ◌∙◌, subst, arith}
use Rattle.std.specs.Prelude.{⊤, codes}
use Rattle.std.specs.List.{AllByRecursion, slice_split}
use Rattle.std.specs.Str.{bytes_eq}
use Rattle.std.proofs.lemmas.List.{length-append}
use Rattle.std.proofs.lemmas.List.Splits.{length-slice_split}
use Rattle.std.proofs.lemmas.List.Sums.{count_by-le-length}
use Rattle.std.proofs.lemmas.Slice.Eq.{bytes_eq-Decides}
use Rattle.kabi_types.specs.declared.scripts.Chooser.TheVariants.{Plain}
use Rattle.kabi_types.specs.declared.scripts.FaultKind.{FaultKind}
use Rattle.kabi_types.specs.declared.scripts.Program.{Program}
use Rattle.kabi_types.specs.declared.scripts.Script.{Script}
use Rattle.kabi_types.specs.declared.scripts.ScriptFault.{ScriptFault}
use Rattle.kabi_types.specs.declared.scripts.Statement.{Statement}
use Rattle.posix_defs.specs.declared.said.AtTop.{AtTop}
use Rattle.posix_defs.specs.declared.said.AtTop.TheVariants as top
use Rattle.posix_defs.specs.declared.said.InProgram.{InProgram}
use Rattle.posix_defs.specs.declared.said.InProgram.TheVariants as inside
use Rattle.posix_defs.specs.declared.said.Setting.{Setting}
use Rattle.posix_defs.specs.declared.said.Setting.TheVariants as setting
use Rattle.posix_defs.specs.declared.said.Stated.{Stated}
use Rattle.posix_defs.specs.declared.said.Word.{Word}
use Rattle.posix_defs.specs.ScriptValues.{◌>>=◌, is_name}
use Rattle.posix_defs.specs.ScriptLines.{said_at_top, said_in_program}
use Rattle.posix_defs.specs.ValidScript.{IsProgram, IsChooser, AreApart, IsValid}
use Rattle.script_read.specs.declared.parse_error.ParseError.{ParseError}
use Rattle.script_read.specs.LabelPlaces.{placed_body}
use Rattle.script_read.specs.Reading.{Outcome}
use Rattle.script_read.specs.Drafting.{Draft, Opened, State, at_start, at_line, once, with_setting, has_program, may_begin, begin, outside, within, step_at_top, with_line, with_program, closed, step_in_program, step_from, drafted_script, finish_from, Reads, ended, goes_on, stops}
use Rattle.posix_defs.specs.ScriptMeaning.{or_default}
use Rattle.posix_defs.specs.ScriptText.{most_bytes, ReadsText}
use Rattle.script_parse.proofs.OneReading.{lines_have, lines_read, reading_by}
use Rattle.script_parse.proofs.TextReads.{reads_as}
use Rattle.script_parse.proofs.Holds.{when, with_holds, then_holds, all_append}
use Rattle.script_parse.proofs.ValidWords.{IsTextWord, line_bytes}
use Rattle.script_parse.proofs.ValidLines.{IsSpoken, IsInside, inside_fits, IsSetting, IsTop, top_fits}
use Rattle.script_parse.proofs.NamedPrograms.{found_program}
use Rattle.script_parse.proofs.ValidPrograms.{AreStated, IsRead, program_fits}

-- what the settings and programs so far promise
record IsDraft (draft : Draft) : Type 0 where
  heap : IfSome draft.heap (λ n. (8192 ≤ n) × (n ≤ 8388608))
  disk : IfSome draft.disk (λ n. (16 ≤ n) × (n ≤ 4096))
  steps : IfSome draft.steps (λ n. (1 ≤ n) × (n ≤ 100000))
  chooser : IfSome draft.chooser IsChooser
  most : length draft.programs ≤ 64
  programs : AllByRecursion IsProgram draft.programs
  apart : AreApart draft.programs

-- what the open program promises where the line of this number is next
record IsOpened (draft : Draft) (line : ℕ) (opened : Opened) : Type 0 where
  name : is_name opened.name ≡ true
  fresh : has_program opened.name draft.programs ≡ false
  room : length draft.programs < 64
  stated : AreStated opened.said
  lines : length opened.said + 2 ≤ line

record IsState (line : ℕ) (state : State) : Type 0 where
  draft : IsDraft state.draft
  opened : IfSome state.opened (IsOpened state.draft line)

state_outside : (line : ℕ) (draft : Draft) → IsDraft draft → IsState line (outside draft)
state_outside line draft is = record { draft = is; opened = tt }

-- settings

once_holds : {A : Type 0} (P : A → Type 0) (slot : Option A) (said : A) → P said → IfOk (once slot said) (λ o. IfSome o P)
once_holds P None said is = is
once_holds P (Some old) said is = tt

setting_fits : (draft : Draft) (said : Setting) → IsDraft draft → IsSetting said → IfOk (with_setting draft said) IsDraft
setting_fits draft (setting.Heap n) is fits =
    with_holds (λ o. IfSome o (λ n. (8192 ≤ n) × (n ≤ 8388608))) IsDraft (λ o. record draft { heap = o }) (once draft.heap n)
    (λ o of. record { heap = of; disk = is.disk; steps = is.steps; chooser = is.chooser; most = is.most; programs = is.programs; apart = is.apart })
    (once_holds (λ n. (8192 ≤ n) × (n ≤ 8388608)) draft.heap n fits)
setting_fits draft (setting.Disk n) is fits =
    with_holds (λ o. IfSome o (λ n. (16 ≤ n) × (n ≤ 4096))) IsDraft (λ o. record draft { disk = o }) (once draft.disk n)
    (λ o of. record { heap = is.heap; disk = of; steps = is.steps; chooser = is.chooser; most = is.most; programs = is.programs; apart = is.apart })
    (once_holds (λ n. (16 ≤ n) × (n ≤ 4096)) draft.disk n fits)
setting_fits draft (setting.Steps n) is fits =
    with_holds (λ o. IfSome o (λ n. (1 ≤ n) × (n ≤ 100000))) IsDraft (λ o. record draft { steps = o }) (once draft.steps n)
    (λ o of. record { heap = is.heap; disk = is.disk; steps = of; chooser = is.chooser; most = is.most; programs = is.programs; apart = is.apart })
    (once_holds (λ n. (1 ≤ n) × (n ≤ 100000)) draft.steps n fits)
setting_fits draft (setting.Victims p) is fits =
    with_holds (λ o. IfSome o (λ _. ⊤)) IsDraft (λ o. record draft { policy = o }) (once draft.policy p)
    (λ o of. record { heap = is.heap; disk = is.disk; steps = is.steps; chooser = is.chooser; most = is.most; programs = is.programs; apart = is.apart })
    (once_holds (λ _. ⊤) draft.policy p tt)
setting_fits draft (setting.Choosing c) is fits =
    with_holds (λ o. IfSome o IsChooser) IsDraft (λ o. record draft { chooser = o }) (once draft.chooser c)
    (λ o of. record { heap = is.heap; disk = is.disk; steps = is.steps; chooser = of; most = is.most; programs = is.programs; apart = is.apart })
    (once_holds IsChooser draft.chooser c fits)

-- a program begins

begun_fits : (draft : Draft) (line : ℕ) (name : List ℕ) → 1 ≤ line → IsDraft draft → is_name name ≡ true → IfOk (begin draft line name) (IsOpened draft (line + 1))
begun_fits draft line name some is named =
    with_holds (λ _. (length draft.programs < 64) × (has_program name draft.programs ≡ false)) (IsOpened draft (line + 1))
    (λ _. record { line = line; name = name; said = [] }) (may_begin draft name)
    (λ _ may. record { name = named; fresh = may.1; room = may.0; stated = tt; lines = omega (arith, some) }) may_fit
  where
    may_fit : IfOk (may_begin draft name) (λ _. (length draft.programs < 64) × (has_program name draft.programs ≡ false))
    may_fit =
        when (λ r. IfOk r (λ _. (length draft.programs < 64) × (has_program name draft.programs ≡ false))) (length draft.programs == 64) _ _ (λ _. tt)
        (λ room. when (λ r. IfOk r (λ _. (length draft.programs < 64) × (has_program name draft.programs ≡ false))) (has_program name draft.programs) _ _ (λ _. tt)
        (λ fresh. (grind (arith, room, is.most), fresh)))

top_steps : (draft : Draft) (line : ℕ) (said : AtTop) → 1 ≤ line → IsDraft draft → IsTop said → IfOk (step_at_top draft line said) (IsState (line + 1))
top_steps draft line top.Silent some is fits = state_outside (line + 1) draft is
top_steps draft line (top.Sets said) some is fits =
    with_holds IsDraft (IsState (line + 1)) outside (with_setting draft said) (λ d of. state_outside (line + 1) d of) (setting_fits draft said is fits)
top_steps draft line (top.Begins name) some is fits =
    with_holds (IsOpened draft (line + 1)) (IsState (line + 1)) (within draft) (begin draft line name) (λ o of. record { draft = is; opened = of })
    (begun_fits draft line name some is fits)

-- a program goes on

line_added : (draft : Draft) (opened : Opened) (line : ℕ) (stated : Stated) → IsDraft draft → IsOpened draft line opened → IfOk stated.said IsSpoken
    → IsState (line + 1) (within draft (with_line opened stated))
line_added draft opened line stated is going fits = record {
  draft = is;
  opened = record {
    name = going.name;
    fresh = going.fresh;
    room = going.room;
    stated = all_append (λ s. IfOk s.said IsSpoken) opened.said (stated ∷ []) going.stated (fits, tt);
    lines = omega (arith, going.lines, length-append opened.said (stated ∷ []));
  };
}

-- what holds of each element, and of one more
one_more : {X : Type 0} (P : X → Type 0) (xs : List X) (x : X) (i : ℕ) → IfSome (slice_get xs i) P → P x → IfSome (slice_get (xs ++ x ∷ []) i) P
one_more P [] x zero each last = last
one_more P [] x (suc i) each last = tt
one_more P (y ∷ xs) x zero each last = each
one_more P (y ∷ xs) x (suc i) each last = one_more P xs x i each last

apart_more : (programs : List Program) (last : Program) → AreApart programs → ((a : ℕ) → IfSome (slice_get programs a) (λ p. p.name ≢ last.name))
    → AreApart (programs ++ last ∷ [])
apart_more [] last apart other zero zero before = absurd (omega (arith, before))
apart_more [] last apart other zero (suc b) before = tt
apart_more [] last apart other (suc a) b before = tt
apart_more (p ∷ programs) last apart other zero zero before = absurd (omega (arith, before))
apart_more (p ∷ programs) last apart other zero (suc b) before =
    one_more (λ q. p.name ≢ q.name) programs last b (apart zero (suc b) (omega arith)) (other zero)
apart_more (p ∷ programs) last apart other (suc a) zero before = absurd (omega (arith, before))
apart_more (p ∷ programs) last apart other (suc a) (suc b) before =
    apart_more programs last (λ x y less. apart (suc x) (suc y) (omega (arith, less))) (λ x. other (suc x)) a b (omega (arith, before))

-- where no program has a name, each has another
none_named : (name : List ℕ) (programs : List Program) (a : ℕ) → has_program name programs ≡ false → IfSome (slice_get programs a) (λ p. p.name ≢ name)
none_named name [] a none = tt
none_named name (p ∷ programs) zero none =
    λ same. let yes : bytes_eq p.name name ≡ true = (bytes_eq-Decides p.name name).1 same in
    let wrong : true ≡ false = sym (ap (λ b. b || has_program name programs) yes) ∙ none in cc
none_named name (p ∷ programs) (suc a) none = none_named name programs a (behind (bytes_eq p.name name) none)
  where
    behind : (here : Bool) → (here || has_program name programs) ≡ false → has_program name programs ≡ false
    behind true e = absurd (let wrong : true ≡ false = e in cc)
    behind false e = e

added_fits : (draft : Draft) (opened : Opened) (line : ℕ) (body : List Statement) → line ≤ 1048577 → IsDraft draft → IsOpened draft line opened
    → IsRead opened.said body → IsDraft (with_program draft opened.name body)
added_fits draft opened line body few is going read =
    let last : Program = record { name = opened.name; body = body } in
    let last_is : IsProgram last = record { name = going.name; short = omega (arith, few, going.lines, read.count); body = read.each } in
    record {
      heap = is.heap;
      disk = is.disk;
      steps = is.steps;
      chooser = is.chooser;
      most = omega (arith, going.room, length-append draft.programs (last ∷ []));
      programs = all_append IsProgram draft.programs (last ∷ []) is.programs (last_is, tt);
      apart = apart_more draft.programs last is.apart (λ a. none_named opened.name draft.programs a going.fresh);
    }

closed_fits : (draft : Draft) (opened : Opened) (line : ℕ) (said : Result (List Statement) ScriptFault) → line ≤ 1048577 → IsDraft draft → IsOpened draft line opened
    → IfOk said (IsRead opened.said) → IfOk (closed draft opened.name said) (IsState (line + 1))
closed_fits draft opened line (Ok body) few is going read = state_outside (line + 1) _ (added_fits draft opened line body few is going read)
closed_fits draft opened line (Err fault) few is going read = tt

program_steps : (draft : Draft) (opened : Opened) (line : ℕ) (said : Result InProgram FaultKind) → line ≤ 1048577 → IsDraft draft → IsOpened draft line opened
    → IfOk said IsInside → IfOk (step_in_program draft opened line said) (IsState (line + 1))
program_steps draft opened line (Err kind) few is going fits = line_added draft opened line (record { line = line; said = Err kind }) is going tt
program_steps draft opened line (Ok inside.Silent) few is going fits = record {
  draft = is;
  opened = record { name = going.name; fresh = going.fresh; room = going.room; stated = going.stated; lines = omega (arith, going.lines) };
}
program_steps draft opened line (Ok (inside.Says said)) few is going fits = line_added draft opened line (record { line = line; said = Ok said }) is going fits
program_steps draft opened line (Ok inside.Ends) few is going fits = closed_fits draft opened line (placed_body opened.said) few is going (program_fits opened.said going.stated)

-- a line of the text

at_line_holds : {A : Type 0} (P : A → Type 0) (line : ℕ) (said : Result A FaultKind) → IfOk said P → IfOk (at_line line said) P
at_line_holds P line (Ok a) is = is
at_line_holds P line (Err kind) is = tt

step_fits : (draft : Draft) (opened : Option Opened) (line : ℕ) (words : Result (List Word) FaultKind) → 1 ≤ line → line ≤ 1048577 → IsDraft draft
    → IfSome opened (IsOpened draft line) → IfOk words (AllByRecursion IsTextWord) → IfOk (step_from draft opened line words) (IsState (line + 1))
step_fits draft None line words some few is going bytes =
    at_line_holds (IsState (line + 1)) line (words >>= said_at_top >>= step_at_top draft line)
    (then_holds IsTop (IsState (line + 1)) (words >>= said_at_top) (step_at_top draft line)
    (then_holds (AllByRecursion IsTextWord) IsTop words said_at_top bytes (λ w _. top_fits w)) (λ said fits. top_steps draft line said some is fits))
step_fits draft (Some opened) line words some few is going bytes =
    program_steps draft opened line (words >>= said_in_program) few is going
    (then_holds (AllByRecursion IsTextWord) IsInside words said_in_program bytes inside_fits)

-- the whole text

or_default_holds : {A : Type 0} (P : A → Type 0) (default : A) (said : Option A) → P default → IfSome said P → P (or_default default said)
or_default_holds P default None is holds = is
or_default_holds P default (Some a) is holds = holds

script_fits : (draft : Draft) → IsDraft draft → has_program (codes "init") draft.programs ≡ true → IsValid (drafted_script draft)
script_fits draft is init =
    let heap = or_default_holds (λ n. (8192 ≤ n) × (n ≤ 8388608)) 65536 draft.heap (omega arith, omega arith) is.heap in
    let disk = or_default_holds (λ n. (16 ≤ n) × (n ≤ 4096)) 64 draft.disk (omega arith, omega arith) is.disk in
    let steps = or_default_holds (λ n. (1 ≤ n) × (n ≤ 100000)) 1000 draft.steps (omega arith, omega arith) is.steps in
    record {
      least_heap = heap.0;
      most_heap = heap.1;
      least_disk = disk.0;
      most_disk = disk.1;
      least_steps = steps.0;
      most_steps = steps.1;
      chooser = or_default_holds IsChooser Plain draft.chooser tt is.chooser;
      most_programs = is.most;
      programs = is.programs;
      apart = is.apart;
      init = found_program (codes "init") draft.programs init;
    }

finish_fits : (draft : Draft) (opened : Option Opened) → IsDraft draft → IfOk (finish_from draft opened) IsValid
finish_fits draft None is = when (λ r. IfOk r IsValid) (has_program (codes "init") draft.programs) _ _ (λ init. script_fits draft is init) (λ _. tt)
finish_fits draft (Some opened) is = tt

reads_fit : (state : State) (line : ℕ) (lines : List (List ℕ)) (outcome : Result Script ScriptFault) → Reads state line lines outcome → 1 ≤ line
    → line + length lines ≤ 1048578 → IsState line state → IfOk outcome IsValid
reads_fit _ _ _ _ (ended state line) some few is = finish_fits state.draft state.opened is.draft
reads_fit _ _ _ _ (goes_on state next line first lines words outcome says steps rest) some few is =
    reads_fit next (line + 1) lines outcome rest (omega arith) (omega (arith, few))
    (subst (λ r. IfOk r (IsState (line + 1))) steps
    (step_fits state.draft state.opened line words some (omega (arith, few)) is.draft is.opened (line_bytes first words says)))
reads_fit _ _ _ _ (stops state line first lines words fault says steps) some few is = tt

start_fits : IsState 1 at_start
start_fits = record {
  draft = record { heap = tt; disk = tt; steps = tt; chooser = tt; most = omega arith; programs = tt; apart = λ a b before. tt };
  opened = tt;
}

reading_valid : (text : List ℕ) (within : Bool) → nat_le (length text) most_bytes ≡ within → IfOk (reading_by within text) IsValid
reading_valid text false is = tt
reading_valid text true is =
    let lines = slice_split (λ byte. byte == 10) text in
    let short : length text ≤ most_bytes = grind (arith, is) in
    reads_fit at_start 1 lines (lines_read at_start 1 lines) (lines_have at_start 1 lines) (omega arith)
    (omega (arith, short, length-slice_split (λ byte. byte == 10) text, count_by-le-length (λ byte. byte == 10) text)) start_fits

-- a text that reads as a script reads as one that keeps the promises
pub reads_valid : (text : List ℕ) (outcome : Result Script ScriptFault) → ReadsText text outcome → IfOk outcome IsValid
reads_valid text outcome says =
    subst (λ r. IfOk r IsValid) (reads_as text outcome says) (reading_valid text (nat_le (length text) most_bytes) refl)

pub parsed_valid : (text : List ℕ) (result : Result Script ParseError) → Outcome (λ script. script) result (ReadsText text) → IfOk result IsValid
parsed_valid text (Ok script) says = reads_valid text (Ok script) says
parsed_valid text (Err error) says = tt
