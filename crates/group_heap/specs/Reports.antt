-- The report of groups, and when it is that of these sections.
use Rattle.std.specs.Prelude.{ℕ, ◌≡◌, ◌<◌, ◌≤◌, Bool, true, false, List, [], ◌∷◌, ◌++◌, length, codes, count_by, decimal}
use Rattle.kabi_types.specs.declared.entries.End.{End}
use Rattle.posix_defs.specs.Lines.{newline}
use Rattle.posix_defs.specs.World.{World}
use Rattle.run_report.specs.Headline.{KeepsHeadline}
use Rattle.run_report.specs.Reports.{IsReport}
use Rattle.group_heap.specs.declared.lists.Section.{Section}

-- what is told of a group by its name and its heap in bytes: that it was refused, or the report of its run
pub data Told : Type 0 where
  Refused : List ℕ → ℕ → Told
  Ran : List ℕ → ℕ → List ℕ → Told

-- what stands behind a group's name in its line, whether it was refused or not
abbrev pub line_end : Bool → ℕ → List ℕ
line_end true heap = codes " refused heap " ++ decimal heap ++ newline
line_end false heap = codes " heap " ++ decimal heap ++ newline

abbrev pub told_lines : Told → List ℕ
told_lines (Refused name heap) = codes "group " ++ name ++ line_end true heap
told_lines (Ran name heap report) = codes "group " ++ name ++ line_end false heap ++ report

abbrev pub is_refused : Told → Bool
is_refused (Refused _ _) = true
is_refused (Ran _ _ _) = false

abbrev pub all_lines : List Told → List ℕ
all_lines [] = []
all_lines (told ∷ rest) = told_lines told ++ all_lines rest

-- how many groups there are, and how many of them were refused
abbrev pub end_line_groups : ℕ → ℕ → List ℕ
end_line_groups groups refused = codes "end groups " ++ decimal groups ++ codes " refused " ++ decimal refused ++ newline

-- the report of groups: what is told of each, in their order, and the end line
abbrev pub report_groups : List Told → List ℕ
report_groups told = all_lines told ++ end_line_groups (length told) (count_by is_refused told)

module _ {T : Type 0} (stands_for : T → World → Type 0) (marks high : T → ℕ) (whole : ℕ) where
  -- What is told of a group: that it was refused, where its heap is above the whole; else the report of a run of its own script.
  pub data TellsSection (section : Section) : Told → Type 0 where
    refused : whole < section.script.heap → TellsSection section (Refused section.name section.script.heap)
    ran : (store : T) (end : End) (report : List ℕ) → section.script.heap ≤ whole → IsReport stands_for marks high section.script store end report
        → TellsSection section (Ran section.name section.script.heap report)

  -- the same of each group, in their order
  pub data TellsEach : List Section → List Told → Type 0 where
    none : TellsEach [] []
    more : (section : Section) (told : Told) (sections : List Section) (rest : List Told) → TellsSection section told → TellsEach sections rest
        → TellsEach (section ∷ sections) (told ∷ rest)

  -- The text is the report of groups of these sections under this whole.
  pub record IsGroupReport (sections : List Section) (text : List ℕ) : Type 0 where
    pub told : List Told
    pub tells : TellsEach sections told
    pub text_is : text ≡ report_groups told

  -- What is told of a group that ran keeps the headline for its own script, whatever the others are.
  pub data KeepsSection (section : Section) : Told → Type 0 where
    refused : whole < section.script.heap → KeepsSection section (Refused section.name section.script.heap)
    ran : (store : T) (end : End) (report : List ℕ) → section.script.heap ≤ whole → KeepsHeadline stands_for marks high section.script store end report
        → KeepsSection section (Ran section.name section.script.heap report)

  pub data KeepsEach : List Section → List Told → Type 0 where
    none : KeepsEach [] []
    more : (section : Section) (told : Told) (sections : List Section) (rest : List Told) → KeepsSection section told → KeepsEach sections rest
        → KeepsEach (section ∷ sections) (told ∷ rest)

  -- The text is such a report, of which each part keeps the headline.
  pub record KeepsGroups (sections : List Section) (text : List ℕ) : Type 0 where
    pub told : List Told
    pub keeps : KeepsEach sections told
    pub text_is : text ≡ report_groups told
