-- What is read and written where groups are run.
use Rattle.std.specs.Prelude.{ℕ, ◌≡◌, ◌≤◌, List, Option, Result, Ok, Err}
use Rattle.std.specs.List.{AllByRecursion}
use Rattle.kabi_types.specs.declared.scripts.ScriptFault.{ScriptFault}
use Rattle.group_heap.specs.Reports.{IsGroupReport}
use Rattle.group_heap.specs.Texts.{Groups, ReadsGroups}
use Rattle.kio_ports.specs.Faults.{HasRisen}
use Rattle.posix_defs.specs.Lines.{fault_line}
use Rattle.posix_defs.specs.ValidScript.{IsValid}
use Rattle.kres_tool.specs.declared.groups.Grouping.{Grouping}
use Rattle.kres_tool.specs.declared.groups.Grouping.TheVariants as grouping
use Rattle.kres_tool.specs.declared.statuses.Status.{Status}
use Rattle.kres_tool.specs.declared.statuses.Status.TheVariants.{Finished, BadScript}
use Rattle.kres_tool.specs.Read.{HasTaken}
use Rattle.kres_tool.specs.Run.{high, marks, stands}

-- The source had a text of groups that says this, and no take failed.
pub record HasGroupsReadAs (outcome : Result Groups ScriptFault) (old new : Option (List ℕ)) (faults faults' : ℕ) : Type 0 where
  pub text : List ℕ
  pub taken : HasTaken text old new
  pub no_fault : faults' ≡ faults
  pub reads : ReadsGroups text outcome

-- The whole has its range, and the scripts of all sections are valid.
pub record AreFit (groups : Groups) : Type 0 where
  pub whole : (8192 ≤ groups.whole) × (groups.whole ≤ 8388608)
  pub valid : AllByRecursion (λ section. IsValid section.script) groups.sections

-- the text says these groups, which may run, or has this fault
abbrev pub SaysGroups : List ℕ → Grouping → Type 0
SaysGroups text (grouping.Groups groups) = ReadsGroups text (Ok groups) × AreFit groups
SaysGroups text (grouping.Bad fault) = ReadsGroups text (Err fault)
SaysGroups text grouping.Broken = ⊥

-- groups were read, which may run, or a text with a fault; or a take failed
abbrev pub IsGroupsReadAs : Grouping → Option (List ℕ) → Option (List ℕ) → ℕ → ℕ → Type 0
IsGroupsReadAs (grouping.Groups groups) old new faults faults' = HasGroupsReadAs (Ok groups) old new faults faults' × AreFit groups
IsGroupsReadAs (grouping.Bad fault) old new faults faults' = HasGroupsReadAs (Err fault) old new faults faults'
IsGroupsReadAs grouping.Broken old new faults faults' = HasRisen faults faults'

-- the report of groups over the store's kind
abbrev pub IsReportOf : Groups → List ℕ → Type 0
IsReportOf groups whole = IsGroupReport stands marks high groups.whole groups.sections whole

-- The text is answered by this one, with this status: the line of its fault, or the report of its groups.
pub data AnswersGroups (text whole : List ℕ) : Status → Type 0 where
  refuses : (fault : ScriptFault) → ReadsGroups text (Err fault) → whole ≡ fault_line fault → AnswersGroups text whole BadScript
  reports : (groups : Groups) → ReadsGroups text (Ok groups) → IsReportOf groups whole → AnswersGroups text whole Finished
