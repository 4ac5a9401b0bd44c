-- The canonical text of a script that keeps its promises reads as that script.
use Rattle.std.proofs.Common.{append-nil, ◌≡◌, ◌≢◌, ◌≤◌, ◌+◌, ℕ, zero, suc, false, List, [], ◌∷◌, ◌++◌, map, length, Option, None, Some, IfSome, slice_get, Result, Ok, Err, refl, sym, ap, ◌∙◌, subst, arith}
use Rattle.std.specs.Prelude.{◌||◌, if◌then◌else◌, codes}
use Rattle.std.specs.List.{AllByRecursion, flat_map}
use Rattle.std.specs.Str.{bytes_eq}
use Rattle.std.proofs.lemmas.Bool.{false_from_ne_true}
use Rattle.std.proofs.lemmas.List.{append_assoc, length-append, map-append}
use Rattle.std.proofs.lemmas.Slice.Eq.{bytes_eq-Decides}
use Rattle.std.proofs.lemmas.Str.{IsUtf8-nil}
use Rattle.kabi_types.specs.declared.scripts.Chooser.{Chooser}
use Rattle.kabi_types.specs.declared.scripts.Chooser.TheVariants.{Plain, Choices, Seed}
use Rattle.kabi_types.specs.declared.scripts.Program.{Program}
use Rattle.kabi_types.specs.declared.scripts.Script.{Script}
use Rattle.kabi_types.specs.declared.scripts.ScriptFault.{ScriptFault}
use Rattle.kabi_types.specs.declared.scripts.FaultKind.TheVariants.{NoInit}
use Rattle.kabi_types.specs.declared.scripts.Statement.{Statement}
use Rattle.posix_defs.specs.declared.said.AtTop.TheVariants as top
use Rattle.posix_defs.specs.declared.said.Setting.{Setting}
use Rattle.posix_defs.specs.declared.said.Setting.TheVariants as setting
use Rattle.posix_defs.specs.declared.said.Word.{Word}
use Rattle.posix_defs.specs.declared.said.Word.TheVariants.{Bare}
use Rattle.posix_defs.specs.ScriptWords.{spelled, nothing}
use Rattle.posix_defs.specs.ScriptValues.{with}
use Rattle.posix_defs.specs.ScriptLines.{said_at_top}
use Rattle.posix_defs.specs.Canonical.{number_word, policy_text, words_text, statement_words, program_lines, chooser_lines, script_lines, canonical}
use Rattle.posix_defs.specs.ValidScript.{IsProgram, IsChooser, AreApart, IsStatement, IsValid}
use Rattle.posix_defs.specs.ScriptText.{ReadsText}
use Rattle.script_read.specs.Drafting.{Draft, nothing_set, at_start, has_program, outside, fault_at, with_setting, drafted_script, finish, Reads, ended, goes_on}
use Rattle.script_parse.proofs.Holds.{all_append}
use Rattle.script_parse.proofs.TextReads.{text_means, reads_as}
use Rattle.script_parse.proofs.ValidScripts.{reads_valid}
use Rattle.script_parse.proofs.PrintedWords.{IsLine, lines_split}
use Rattle.script_parse.proofs.PrintedStatements.{AreNamed, heap_read, disk_read, steps_read, policy_read, choosing_read, seed_read, number_line, policy_line, choices_line, program_line, end_line, statement_line}
use Rattle.script_parse.proofs.NamedPrograms.{program_found}
use Rattle.script_parse.proofs.PrintedPrograms.{one_line, top_steps, program_reads, labels_named}

-- the programs

-- with these programs behind those that were read
abbrev With : Draft → List Program → Draft
With draft programs = record draft { programs = programs }

-- where no program of a list has a name, a further one may have it
none_has : (name : List ℕ) (programs : List Program) → ((a : ℕ) → IfSome (slice_get programs a) (λ p. p.name ≢ name)) → has_program name programs ≡ false
none_has name [] other = refl
none_has name (p ∷ programs) other =
    ap (λ b. b || has_program name programs) (false_from_ne_true (bytes_eq p.name name) (λ yes. other 0 ((bytes_eq-Decides p.name name).0 yes)))
    ∙ none_has name programs (λ a. other (suc a))

behind_get : (done : List Program) (p : Program) (rest : List Program) → slice_get (done ++ p ∷ rest) (length done) ≡ Some p
behind_get [] p rest = refl
behind_get (d ∷ done) p rest = behind_get done p rest

-- the programs before one have other names
apart_front : (done : List Program) (p : Program) (rest : List Program) → AreApart (done ++ p ∷ rest) → (a : ℕ) → IfSome (slice_get done a) (λ q. q.name ≢ p.name)
apart_front [] p rest apart a = tt
apart_front (d ∷ done) p rest apart zero =
    subst (λ found. IfSome found (λ second. d.name ≢ second.name)) (behind_get done p rest) (apart 0 (suc (length done)) (omega arith))
apart_front (d ∷ done) p rest apart (suc a) = apart_front done p rest (λ x y less. apart (suc x) (suc y) (omega (arith, less))) a

programs_read : (draft : Draft) (done programs : List Program) (line : ℕ) (lines : List (List ℕ)) (outcome : Result Script ScriptFault) → AllByRecursion IsProgram programs
    → length done + length programs ≤ 64 → AreApart (done ++ programs)
    → ((last : ℕ) → Reads (outside (With draft (done ++ programs))) last lines outcome)
    → Reads (outside (With draft done)) line (map words_text (flat_map program_lines programs) ++ lines) outcome
programs_read draft done [] line lines outcome all few apart rest =
    subst (λ ps. Reads (outside (With draft ps)) line lines outcome) (append-nil done) (rest line)
programs_read draft done (p ∷ programs) line lines outcome all few apart rest =
    let texts = map words_text (flat_map program_lines programs) in
    let regroup : done ++ p ∷ programs ≡ (done ++ p ∷ []) ++ programs = sym (append_assoc done (p ∷ []) programs) in
    let next = line + length (program_lines p) in
    let behind : Reads (outside (With draft (done ++ p ∷ []))) next (texts ++ lines) outcome =
    programs_read draft (done ++ p ∷ []) programs next lines outcome all.1 (omega (arith, few, length-append done (p ∷ [])))
    (subst AreApart regroup apart) (λ last. subst (λ ps. Reads (outside (With draft ps)) last lines outcome) regroup (rest last)) in
    let joined : map words_text (program_lines p) ++ (texts ++ lines) ≡ map words_text (program_lines p ++ flat_map program_lines programs) ++ lines =
    sym (append_assoc (map words_text (program_lines p)) texts lines)
    ∙ ap (λ l. l ++ lines) (sym (map-append words_text (program_lines p) (flat_map program_lines programs))) in
    subst (λ l. Reads (outside (With draft done)) line l outcome) joined
    (program_reads (With draft done) p line (texts ++ lines) outcome all.0 (omega (arith, few)) (none_has p.name done (apart_front done p programs apart)) behind)

-- the settings

abbrev given : Chooser → Option Chooser
given Plain = None
given (Choices choices) = Some (Choices choices)
given (Seed seed) = Some (Seed seed)

abbrev Set : Script → Option Chooser → List Program → Draft
Set script chooser programs =
    record { heap = Some script.heap; disk = Some script.disk; steps = Some script.steps; policy = Some script.policy; chooser = chooser; programs = programs }

-- a line that sets something
sets : (draft next : Draft) (line : ℕ) (words : List Word) (said : Setting) (lines : List (List ℕ)) (outcome : Result Script ScriptFault) → IsLine words
    → said_at_top words ≡ Ok (top.Sets said) → with_setting draft said ≡ Ok next → Reads (outside next) (line + 1) lines outcome
    → Reads (outside draft) line (words_text words ∷ lines) outcome
sets draft next line words said lines outcome is says set rest =
    one_line (outside draft) (outside next) line words lines outcome is
    (top_steps draft (outside next) line words (top.Sets said) says (ap (λ r. with outside r) set)) rest

chooser_reads : (script : Script) (chooser : Chooser) (line : ℕ) (lines : List (List ℕ)) (outcome : Result Script ScriptFault) → IsChooser chooser
    → ((last : ℕ) → Reads (outside (Set script (given chooser) [])) last lines outcome)
    → Reads (outside (Set script None [])) line (map words_text (chooser_lines chooser) ++ lines) outcome
chooser_reads script Plain line lines outcome is rest = rest line
chooser_reads script (Choices choices) line lines outcome is rest =
    sets (Set script None []) (Set script (Some (Choices choices)) []) line (Bare (codes "choices") ∷ map number_word choices) (setting.Choosing (Choices choices))
    lines outcome (choices_line choices is) (choosing_read choices is) refl (rest (line + 1))
chooser_reads script (Seed seed) line lines outcome is rest =
    sets (Set script None []) (Set script (Some (Seed seed)) []) line (Bare (codes "seed") ∷ number_word seed ∷ []) (setting.Choosing (Seed seed))
    lines outcome (number_line (codes "seed") seed refl (omega (arith, is))) (seed_read seed is) refl (rest (line + 1))

pub settings_read : (script : Script) (lines : List (List ℕ)) (outcome : Result Script ScriptFault) → IsValid script → Reads (outside (Set script None [])) 5 lines outcome
    → Reads at_start 1 (words_text (Bare (codes "heap") ∷ number_word script.heap ∷ []) ∷ words_text (Bare (codes "disk") ∷ number_word script.disk ∷ [])
    ∷ words_text (Bare (codes "steps") ∷ number_word script.steps ∷ []) ∷ words_text (Bare (codes "policy") ∷ Bare (policy_text script.policy) ∷ []) ∷ lines) outcome
settings_read script lines outcome is rest =
    let heap : Draft = record nothing_set { heap = Some script.heap } in
    let disk : Draft = record heap { disk = Some script.disk } in
    let steps : Draft = record disk { steps = Some script.steps } in
    sets nothing_set heap 1 (Bare (codes "heap") ∷ number_word script.heap ∷ []) (setting.Heap script.heap) _ outcome
    (number_line (codes "heap") script.heap refl (omega (arith, is.most_heap))) (heap_read script.heap is.least_heap is.most_heap) refl
    (sets heap disk 2 (Bare (codes "disk") ∷ number_word script.disk ∷ []) (setting.Disk script.disk) _ outcome
    (number_line (codes "disk") script.disk refl (omega (arith, is.most_disk))) (disk_read script.disk is.least_disk is.most_disk) refl
    (sets disk steps 3 (Bare (codes "steps") ∷ number_word script.steps ∷ []) (setting.Steps script.steps) _ outcome
    (number_line (codes "steps") script.steps refl (omega (arith, is.most_steps))) (steps_read script.steps is.least_steps is.most_steps) refl
    (sets steps (Set script None []) 4 (Bare (codes "policy") ∷ Bare (policy_text script.policy) ∷ []) (setting.Victims script.policy) lines outcome
    (policy_line script.policy) (policy_read script.policy) refl rest)))

-- the whole text

-- what is set is what the script has
set_all : (script : Script) (chooser : Chooser) → script.chooser ≡ chooser → drafted_script (Set script (given chooser) script.programs) ≡ script
set_all script Plain is = ap (λ c. record script { chooser = c }) (sym is)
set_all script (Choices choices) is = ap (λ c. record script { chooser = c }) (sym is)
set_all script (Seed seed) is = ap (λ c. record script { chooser = c }) (sym is)

-- behind the last newline stands nothing
last_read : (script : Script) (line : ℕ) → IsValid script → Reads (outside (Set script (given script.chooser) script.programs)) line ([] ∷ []) (Ok script)
last_read script line is =
    let draft = Set script (given script.chooser) script.programs in
    let finished : finish (outside draft) ≡ Ok script =
    ap (λ b. if b then Ok (drafted_script draft) else fault_at 0 NoInit) (program_found (codes "init") script.programs is.init)
    ∙ ap Ok (set_all script script.chooser refl) in
    goes_on (outside draft) (outside draft) line [] [] (Ok []) (Ok script) (spelled [] [] IsUtf8-nil refl nothing) refl
    (subst (Reads (outside draft) (line + 1) []) finished (ended (outside draft) (line + 1)))

script_reads : (script : Script) → IsValid script → Reads at_start 1 (map words_text (script_lines script) ++ [] ∷ []) (Ok script)
script_reads script is =
    let chosen = map words_text (chooser_lines script.chooser) in
    let texts = map words_text (flat_map program_lines script.programs) in
    let joined : chosen ++ (texts ++ [] ∷ []) ≡ map words_text (chooser_lines script.chooser ++ flat_map program_lines script.programs) ++ [] ∷ [] =
    sym (append_assoc chosen texts ([] ∷ [])) ∙ ap (λ l. l ++ [] ∷ []) (sym (map-append words_text (chooser_lines script.chooser) (flat_map program_lines script.programs))) in
    settings_read script _ (Ok script) is
    (subst (λ l. Reads (outside (Set script None [])) 5 l (Ok script)) joined
    (chooser_reads script script.chooser 5 (texts ++ [] ∷ []) (Ok script) is.chooser
    (λ line. programs_read (Set script (given script.chooser) []) [] script.programs line ([] ∷ []) (Ok script) is.programs (omega (arith, is.most_programs)) is.apart
    (λ last. last_read script last is))))

-- every line that is printed is one of words

statements_lines : (body : List Statement) (statements : List Statement) → AreNamed body
    → ((i : ℕ) → IfSome (slice_get statements i) (λ s. (at : ℕ) × IsStatement body at s)) → AllByRecursion IsLine (map (statement_words body) statements)
statements_lines body [] named each = tt
statements_lines body (s ∷ statements) named each =
    let here = each 0 in (statement_line body here.0 s named here.1, statements_lines body statements named (λ i. each (suc i)))

one_program_lines : (program : Program) → IsProgram program → AllByRecursion IsLine (program_lines program)
one_program_lines program is = (
  program_line program.name is.name,
  all_append IsLine (map (statement_words program.body) program.body) ((Bare (codes "end") ∷ []) ∷ [])
      (statements_lines program.body program.body (labels_named program.body is.body) (λ i. somewhere i (slice_get program.body i) (is.body i))) (end_line, tt),
)
  where
    somewhere : (i : ℕ) (found : Option Statement) → IfSome found (IsStatement program.body i) → IfSome found (λ s. (at : ℕ) × IsStatement program.body at s)
    somewhere i None fits = tt
    somewhere i (Some s) fits = (i, fits)

all_programs_lines : (programs : List Program) → AllByRecursion IsProgram programs → AllByRecursion IsLine (flat_map program_lines programs)
all_programs_lines [] all = tt
all_programs_lines (p ∷ programs) all = all_append IsLine (program_lines p) (flat_map program_lines programs) (one_program_lines p all.0) (all_programs_lines programs all.1)

all_chooser_lines : (chooser : Chooser) → IsChooser chooser → AllByRecursion IsLine (chooser_lines chooser)
all_chooser_lines Plain is = tt
all_chooser_lines (Choices choices) is = (choices_line choices is, tt)
all_chooser_lines (Seed seed) is = (number_line (codes "seed") seed refl (omega (arith, is)), tt)

all_lines : (script : Script) → IsValid script → AllByRecursion IsLine (script_lines script)
all_lines script is = (
  number_line (codes "heap") script.heap refl (omega (arith, is.most_heap)),
  (
    number_line (codes "disk") script.disk refl (omega (arith, is.most_disk)),
    (
      number_line (codes "steps") script.steps refl (omega (arith, is.most_steps)),
      (
        policy_line script.policy,
        all_append IsLine (chooser_lines script.chooser) (flat_map program_lines script.programs) (all_chooser_lines script.chooser is.chooser)
            (all_programs_lines script.programs is.programs),
      ),
    ),
  ),
)

-- the canonical text of a script reads as that script
pub canonical_reads : (script : Script) → IsValid script → length (canonical script) ≤ 1048576 → ReadsText (canonical script) (Ok script)
canonical_reads script is short =
    text_means (canonical script) (Ok script) short
    (subst (λ lines. Reads at_start 1 lines (Ok script)) (sym (lines_split (script_lines script) (all_lines script is))) (script_reads script is))

-- the script that is read, or another
abbrev read_or : Script → Result Script ScriptFault → Script
read_or other (Ok script) = script
read_or other (Err fault) = other

-- what the canonical text of a script that was read reads as is that script
pub printed_again : (text : List ℕ) (script again : Script) → ReadsText text (Ok script) → length (canonical script) ≤ 1048576
    → ReadsText (canonical script) (Ok again) → again ≡ script
printed_again text script again says short other =
    ap (read_or again)
    (sym (reads_as (canonical script) (Ok again) other) ∙ reads_as (canonical script) (Ok script) (canonical_reads script (reads_valid text (Ok script) says) short))
