-- What becomes of a text of groups, and that what is written of them keeps the headline.
use Rattle.std.proofs.Common.{◌≡◌, ℕ, ◌+◌, ◌<◌, ◌⊎◌, List, [], ◌∷◌, ◌++◌, length, take, get_or, Option, Some, Ok, Err, inl, inr, refl, sym, ap, ◌∙◌, subst}
use Rattle.std.specs.List.{AllByRecursion, slice_get}
use Rattle.std.proofs.lemmas.List.{map-append, take_more}
use Rattle.std.proofs.lemmas.Option.{slice_get-get_or}
use Rattle.kabi_types.specs.declared.scripts.ScriptFault.{ScriptFault}
use Rattle.call_run.specs.Stores.{StoreView}
use Rattle.group_heap.proofs.Running.{sections_kept}
use Rattle.group_heap.proofs.Telling.{keeps_groups}
use Rattle.group_heap.proofs.ValidSections.{groups_valid}
use Rattle.group_heap.specs.declared.groups.Group.{Group}
use Rattle.group_heap.specs.declared.lists.Section.{Section}
use Rattle.group_heap.specs.Reports.{IsGroupReport}
use Rattle.group_heap.specs.Runs.{EachBecomes, IsDone, section_of, sections_of}
use Rattle.group_heap.specs.Texts.{Groups, ReadsGroups}
use Rattle.posix_defs.specs.Lines.{fault_line}
use Rattle.kres_tool.specs.declared.groups.Grouping.{Grouping}
use Rattle.kres_tool.specs.declared.groups.Grouping.TheVariants as grouping
use Rattle.kres_tool.specs.declared.statuses.Status.{Status}
use Rattle.kres_tool.specs.declared.statuses.Status.TheVariants as status
use Rattle.kres_tool.specs.Groups.{AnswersGroups, HasGroupsReadAs, IsGroupsReadAs, IsReportOf, SaysGroups}
use Rattle.kres_tool.specs.Groups as answer
use Rattle.kres_tool.specs.Headline.{GroupsKeep, HasGrouped}
use Rattle.kres_tool.specs.Read.{HasTaken}
use Rattle.kres_tool.specs.Run.{high, marks, stands}
use Rattle.kres_tool.specs.Tool.{AnsweredGroups, AnswersGroupsSource, FaultEnds, GroupsEnd, Input, ListEnds, Output}

-- what a text says is read of the source that had it
pub groups_read_as : (it : Grouping) (text : List ℕ) (old new : Option (List ℕ)) (faults faults' : ℕ) → HasTaken text old new → faults' ≡ faults → SaysGroups text it
    → IsGroupsReadAs it old new faults faults'
groups_read_as (grouping.Groups groups) text old new faults faults' taken no_fault says =
    (record { text = text; taken = taken; no_fault = no_fault; reads = says.0 }, says.1)
groups_read_as (grouping.Bad fault) text old new faults faults' taken no_fault says = record { text = text; taken = taken; no_fault = no_fault; reads = says }
groups_read_as grouping.Broken text old new faults faults' taken no_fault says = absurd says

reported : (i : Input) (groups : Groups) (whole : List ℕ) → HasGroupsReadAs (Ok groups) i.left i.left' i.takes i.takes' → IsReportOf groups whole
    → AnswersGroupsSource i whole status.Finished
reported i groups whole read is = record { text = read.text; taken = read.taken; no_fault = read.no_fault; answers = answer.AnswersGroups.reports groups read.reads is }

-- groups that were read are reported
pub list_ends : (i : Input) (o : Output) (groups : Groups) (st : Status) → HasGroupsReadAs (Ok groups) i.left i.left' i.takes i.takes' → ListEnds o groups st → GroupsEnd i o st
list_ends i o groups status.Finished read (whole, is, wrote) = (whole, reported i groups whole read is, wrote)
list_ends i o groups status.WriteFault read (whole, is, broke) = (whole, status.Finished, reported i groups whole read is, broke)
list_ends i o groups status.Memory read ends = ends
list_ends i o groups status.BadScript read ends = absurd ends
list_ends i o groups status.Usage read ends = absurd ends
list_ends i o groups status.Starved read ends = absurd ends
list_ends i o groups status.AllAsleep read ends = absurd ends
list_ends i o groups status.Spent read ends = absurd ends
list_ends i o groups status.ReadFault read ends = absurd ends

refused : (i : Input) (fault : ScriptFault) → HasGroupsReadAs (Err fault) i.left i.left' i.takes i.takes' → AnswersGroupsSource i (fault_line fault) status.BadScript
refused i fault read = record { text = read.text; taken = read.taken; no_fault = read.no_fault; answers = answer.AnswersGroups.refuses fault read.reads refl }

-- a text with a fault
pub groups_fault_ends : (i : Input) (o : Output) (fault : ScriptFault) (st : Status) → HasGroupsReadAs (Err fault) i.left i.left' i.takes i.takes' → FaultEnds o fault st → GroupsEnd i o st
groups_fault_ends i o fault status.BadScript read wrote = (fault_line fault, refused i fault read, wrote)
groups_fault_ends i o fault status.WriteFault read broke = (fault_line fault, status.BadScript, refused i fault read, broke)
groups_fault_ends i o fault status.Memory read same = same
groups_fault_ends i o fault status.Finished read ends = absurd ends
groups_fault_ends i o fault status.Usage read ends = absurd ends
groups_fault_ends i o fault status.Starved read ends = absurd ends
groups_fault_ends i o fault status.AllAsleep read ends = absurd ends
groups_fault_ends i o fault status.Spent read ends = absurd ends
groups_fault_ends i o fault status.ReadFault read ends = absurd ends

told : (text whole : List ℕ) (st : Status) → AnswersGroups text whole st → (st ≡ status.BadScript) ⊎ ((groups : Groups) × ReadsGroups text (Ok groups) × IsReportOf groups whole)
told text whole _ (answer.AnswersGroups.refuses fault why is) = inl refl
told text whole _ (answer.AnswersGroups.reports groups says is) = inr (groups, says, is)

grouped : (i : Input) (o : Output) → AnsweredGroups i o status.Finished → HasGrouped i o
grouped i o (whole, source, wrote) =
    elim (told source.text whole status.Finished source.answers) [
      | inl bad ↦ absurd (let wrong : status.Finished ≡ status.BadScript = bad in cc)
      | inr found ↦ record {
        groups = found.0;
        read = record { text = source.text; taken = source.taken; no_fault = source.no_fault; reads = found.1 };
        whole = whole;
        wrote = wrote;
        keeps = keeps_groups stands marks high found.0.whole found.0.sections whole (groups_valid source.text found.0 found.1) found.2;
      }
    ]

pub groups_keep : (i : Input) (o : Output) (st : Status) → GroupsEnd i o st → GroupsKeep i o st
groups_keep i o status.Finished ends = grouped i o ends
groups_keep i o status.BadScript ends = tt
groups_keep i o status.Usage ends = tt
groups_keep i o status.Starved ends = tt
groups_keep i o status.AllAsleep ends = tt
groups_keep i o status.Spent ends = tt
groups_keep i o status.ReadFault ends = tt
groups_keep i o status.WriteFault ends = tt
groups_keep i o status.Memory ends = tt

-- a section more, by the group that was booted for it
pub sections_more : {T : Type 0} (groups : List (Group T)) (sections : List Section) (place : ℕ) (group : Group T) → place < length sections
    → sections_of groups ≡ take place sections
    → ((section : Section) → slice_get sections place ≡ Some section → group.name ≡ section.name)
    → ((section : Section) → slice_get sections place ≡ Some section → group.script ≡ section.script)
    → sections_of (groups ++ group ∷ []) ≡ take (place + 1) sections
sections_more groups sections place group within so_far named scripted =
    let section = get_or sections place (section_of group) in
    let there = slice_get-get_or sections place (section_of group) within in
    let same : section_of group ≡ section =
    ap (λ n. record { name = n; script = group.script }) (named section there) ∙ ap (λ s. record { name = section.name; script = s }) (scripted section there) in
    map-append section_of groups (group ∷ [])
    ∙ ap (λ before. before ++ section_of group ∷ []) so_far
    ∙ ap (λ s. take place sections ++ s ∷ []) same
    ∙ sym (take_more sections place (section_of group) within)

-- groups that have run are reported by the names and scripts that they had
pub report_of : {X : Type 0} (whole : ℕ) (booted ran : List (Group StoreView)) (text : List ℕ) → length ran ≡ length booted
    → EachBecomes stands marks high whole booted ran ⊎ ((ran ≡ booted) × X) → AllByRecursion (IsDone stands marks high whole) ran
    → ((n : ℕ) → AllByRecursion (IsDone stands marks high n) ran → IsGroupReport stands marks high n (sections_of ran) text)
    → IsGroupReport stands marks high whole (sections_of booted) text
report_of whole booted ran text long becomes done tells =
    subst (λ sections. IsGroupReport stands marks high whole sections text)
    (elim becomes [
      | inl each ↦ sections_kept stands marks high whole booted ran long each
      | inr same ↦ ap sections_of same.0
    ])
    (tells whole done)
