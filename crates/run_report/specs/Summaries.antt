-- The summary of a run of a generated script.
use Rattle.std.specs.Prelude.{ℕ, ◌≡◌, ◌++◌, Bool, true, false, List, Option, Some, codes, count_by, decimal}
use Rattle.kabi_types.specs.declared.replies.Reply.TheVariants.{Fail}
use Rattle.kabi_types.specs.declared.entries.End.{End}
use Rattle.kabi_types.specs.declared.entries.Entry.{Entry}
use Rattle.kabi_types.specs.declared.entries.Entry.TheVariants as entry
use Rattle.kabi_types.specs.declared.entries.Noted.{Noted}
use Rattle.kabi_types.specs.declared.scripts.Script.{Script}
use Rattle.posix_defs.specs.Lines.{end_text, newline}
use Rattle.posix_defs.specs.World.{World}
use Rattle.run_report.specs.Headline.{KeepsHeadline}
use Rattle.run_report.specs.Reports.{IsReport}

-- A call was answered, by an errno or not. One that was refused wasn't.
abbrev pub answers : Option Entry → Bool
answers (Some (entry.Done _ _ _)) = true
answers _ = false

-- a call was answered by an errno
abbrev pub fails : Option Entry → Bool
fails (Some (entry.Done _ _ (Fail _))) = true
fails _ = false

-- the line of so many rounds: how many calls of the run were answered, how many of these by an errno, and how the run ended
abbrev pub summary_line : ℕ → List Noted → End → List ℕ
summary_line rounds run end =
    codes "load " ++ decimal rounds ++ codes " calls " ++ decimal (count_by (λ noted. answers noted.entry) run)
    ++ codes " failed " ++ decimal (count_by (λ noted. fails noted.entry) run) ++ codes " end " ++ end_text end ++ newline

-- The text is the summary of a run that has a report, which isn't told.
pub record IsSummary {T : Type 0} (stands_for : T → World → Type 0) (marks high : T → ℕ) (script : Script) (store : T) (end : End) (rounds : ℕ) (text : List ℕ) : Type 0 where
  pub report : List ℕ
  pub is : IsReport stands_for marks high script store end report
  pub text_is : text ≡ summary_line rounds is.run end

-- The text sums up a run whose report keeps the headline.
pub record KeepsSummary {T : Type 0} (stands_for : T → World → Type 0) (marks high : T → ℕ) (script : Script) (store : T) (end : End) (rounds : ℕ) (text : List ℕ) : Type 0 where
  pub report : List ℕ
  pub keeps : KeepsHeadline stands_for marks high script store end report
  pub told : text ≡ summary_line rounds keeps.run end
