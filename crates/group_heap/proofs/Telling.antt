-- What is told of groups that have run, and that it keeps the headline.
use Rattle.std.proofs.Common.{◌≡◌, ℕ, ◌<◌, ◌+◌, cond, List, [], ◌∷◌, ◌++◌, length, map, take, get_or, count_by, refl, sym, ap, ◌∙◌, subst, append_assoc}
use Rattle.std.specs.List.{AllByRecursion, fold}
use Rattle.std.proofs.lemmas.List.{length-map, map_more}
use Rattle.kabi_types.specs.declared.scripts.Script.{Script}
use Rattle.kabi_types.specs.declared.entries.End.{End}
use Rattle.kabi_types.specs.declared.entries.Noted.{Noted}
use Rattle.kern_core.specs.RunOver.{HasEndedOver}
use Rattle.kern_tasks.specs.View.{CoreView}
use Rattle.posix_defs.specs.CoreRun.{peak_of}
use Rattle.posix_defs.specs.CoreState.{charged_in}
use Rattle.posix_defs.specs.Lines.{end_line, event_lines, report}
use Rattle.posix_defs.specs.ValidScript.{IsValid}
use Rattle.run_report.proofs.Telling.{reported}
use Rattle.run_report.specs.Reports.{IsReport}
use Rattle.posix_defs.specs.World.{World}
use Rattle.run_report.proofs.Headlines.{keeps_headline}
use Rattle.group_heap.specs.declared.groups.Group.{Group}
use Rattle.group_heap.specs.declared.groups.GroupEnd.{GroupEnd}
use Rattle.group_heap.specs.declared.groups.GroupEnd.TheVariants as end
use Rattle.group_heap.specs.declared.lists.Section.{Section}
use Rattle.group_heap.specs.Reports.{IsGroupReport, KeepsEach, KeepsGroups, KeepsSection, TellsEach, TellsSection, Told, all_lines, end_line_groups, is_refused, report_groups, told_lines}
use Rattle.group_heap.specs.Reports as spec
use Rattle.group_heap.specs.Runs.{IsDone, Says, TellsRun, section_of, sections_of}
use Rattle.group_heap.specs.Telling.{told_by, told_each, told_of}

pub lines_more : (told : List Told) (next : Told) → all_lines (told ++ next ∷ []) ≡ all_lines told ++ told_lines next
lines_more [] next = append_nil (told_lines next)
  where
    append_nil : (xs : List ℕ) → xs ++ [] ≡ xs
    append_nil [] = refl
    append_nil (x ∷ xs) = ap (λ ys. x ∷ ys) (append_nil xs)
lines_more (first ∷ told) next = ap (λ ls. told_lines first ++ ls) (lines_more told next) ∙ sym (append_assoc (told_lines first) (all_lines told) (told_lines next))

-- one group more is told behind those before it
pub told_take_more : {T : Type 0} (groups : List (Group T)) (index : ℕ) (group : Group T) → index < length groups → group ≡ get_or groups index group
    → all_lines (told_each (take (index + 1) groups)) ≡ all_lines (told_each (take index groups)) ++ told_lines (told_of group)
told_take_more groups index group below is =
    ap all_lines (map_more told_of groups index group below ∙ ap (λ g. map told_of (take index groups) ++ told_of g ∷ []) (sym is))
    ∙ lines_more (told_each (take index groups)) (told_of group)

-- those that were refused are as many as are told so
pub refused_told : {T : Type 0} (groups : List (Group T)) → count_by (λ group. is_refused (told_of group)) groups ≡ count_by is_refused (told_each groups)
refused_told groups = counted groups 0
  where
    counted : {T : Type 0} (groups : List (Group T)) (n : ℕ) → fold (λ a group. a + cond (is_refused (told_of group)) 1 0) n groups ≡ fold (λ a told. a + cond (is_refused told) 1 0) n (told_each groups)
    counted [] n = refl
    counted (group ∷ groups) n = counted groups (n + cond (is_refused (told_of group)) 1 0)

pub report_is : {T : Type 0} (groups : List (Group T)) (text front line : List ℕ) (refused : ℕ) → text ≡ front ++ line → front ≡ all_lines (told_each groups)
    → line ≡ end_line_groups (length groups) refused → refused ≡ count_by (λ group. is_refused (told_of group)) groups → text ≡ report_groups (told_each groups)
report_is groups text front line refused whole told ends counted =
    let long : length groups ≡ length (told_each groups) = sym (length-map groups told_of) in
    whole ∙ ap (λ t. t ++ line) told
    ∙ ap (λ l. all_lines (told_each groups) ++ l) (ends ∙ ap (λ n. end_line_groups n refused) long ∙ ap (end_line_groups (length (told_each groups))) (counted ∙ refused_told groups))

-- the report of the core's run is the report of a run
pub run_report : {T : Type 0} (stands_for : T → World → Type 0) (marks high : T → ℕ) (script : Script) (core : CoreView T) (how : End) (text : List ℕ)
    → TellsRun stands_for marks high script core how text → IsReport stands_for marks high script core.store how text
run_report stands_for marks high script core how text tells =
    reported stands_for marks high script core how core.run (charged_in tells.ended.state) (peak_of core.run) tells.ended.state.world.reads text tells.ended tells.steps refl
    tells.ended.is_at.charged refl refl tells.text_is

-- what is told of a core at its end is the report of its run
pub tells_run : {T : Type 0} (stands_for : T → World → Type 0) (marks high : T → ℕ) (script : Script) (core : CoreView T) (how : End) (told : List Noted) (charged peak reads : ℕ) (text : List ℕ)
    → (ended : HasEndedOver stands_for marks high script core how) → core.steps ≡ script.steps → told ≡ core.run
    → charged ≡ core.charged → peak ≡ peak_of core.run → reads ≡ ended.state.world.reads
    → text ≡ event_lines 1 told ++ end_line how (length told) charged peak reads → TellsRun stands_for marks high script core how text
tells_run stands_for marks high script core how told charged peak reads text ended all is charged_is peak_is reads_is text_is = record {
  steps = all;
  ended = ended;
  text_is = text_is
      ∙ ap (λ events. event_lines 1 events ++ end_line how (length events) charged peak reads) is
      ∙ ap (λ n. event_lines 1 core.run ++ end_line how (length core.run) n peak reads) (charged_is ∙ sym ended.is_at.charged)
      ∙ ap (λ n. event_lines 1 core.run ++ end_line how (length core.run) (charged_in ended.state) n reads) peak_is
      ∙ ap (λ n. report core.run how (charged_in ended.state) n) reads_is;
}

module _ {T : Type 0} (stands_for : T → World → Type 0) (marks high : T → ℕ) (whole : ℕ) where
  tells_by : (group : Group T) (outcome : GroupEnd) → Says stands_for marks high whole group outcome
      → TellsSection stands_for marks high whole (section_of group) (told_by group outcome)
  tells_by group end.NotRun says = absurd says
  tells_by group (end.Refused heap) says = spec.refused (subst (λ h. whole < h) says.0 says.1)
  tells_by group (end.Ran how) says = spec.ran group.core.store how group.text says.0 (run_report stands_for marks high group.script group.core how group.text says.1)

  tells_each : (groups : List (Group T)) → AllByRecursion (IsDone stands_for marks high whole) groups
      → TellsEach stands_for marks high whole (sections_of groups) (told_each groups)
  tells_each [] done = spec.none
  tells_each (group ∷ groups) done =
      spec.more (section_of group) (told_of group) (sections_of groups) (told_each groups) (tells_by group group.outcome done.0) (tells_each groups done.1)

  pub is_report : (groups : List (Group T)) (text : List ℕ) → text ≡ report_groups (told_each groups) → AllByRecursion (IsDone stands_for marks high whole) groups
      → IsGroupReport stands_for marks high whole (sections_of groups) text
  is_report groups text is done = record { told = told_each groups; tells = tells_each groups done; text_is = is }

  keeps_one : (section : Section) (told : Told) → IsValid section.script → TellsSection stands_for marks high whole section told → KeepsSection stands_for marks high whole section told
  keeps_one section told valid (spec.refused above) = spec.refused above
  keeps_one section told valid (spec.ran store how report within is) =
      spec.ran store how report within (keeps_headline stands_for marks high section.script store how report valid is)

  keeps_each : (sections : List Section) (told : List Told) → AllByRecursion (λ section. IsValid section.script) sections
      → TellsEach stands_for marks high whole sections told → KeepsEach stands_for marks high whole sections told
  keeps_each sections told valid spec.none = spec.none
  keeps_each sections told valid (spec.more section one sections' rest tells others) =
      spec.more section one sections' rest (keeps_one section one valid.0 tells) (keeps_each sections' rest valid.1 others)

  pub keeps_groups : (sections : List Section) (text : List ℕ) → AllByRecursion (λ section. IsValid section.script) sections
      → IsGroupReport stands_for marks high whole sections text → KeepsGroups stands_for marks high whole sections text
  keeps_groups sections text valid is = record { told = is.told; keeps = keeps_each sections is.told valid is.tells; text_is = is.text_is }
