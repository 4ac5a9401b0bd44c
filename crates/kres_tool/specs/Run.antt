-- A run of the store: by the core, or by workers.
use Rattle.std.specs.Prelude.{ℕ, ◌≡◌, List, Option, Some}
use Rattle.kabi_types.specs.declared.calls.Call.{Call}
use Rattle.kabi_types.specs.declared.entries.End.{End}
use Rattle.kabi_types.specs.declared.entries.Entry.{Entry}
use Rattle.kabi_types.specs.declared.scripts.Script.{Script}
use Rattle.posix_defs.specs.declared.turner.Turned.{Turned}
use Rattle.posix_defs.specs.Generated.{generated}
use Rattle.posix_defs.specs.World.{World}
use Rattle.file_calls.specs.Bytes.{ReadsCached}
use Rattle.call_run.specs.Stores.{Stands, StoreView}
use Rattle.run_report.specs.Histories.{report_threads}
use Rattle.run_report.specs.Reports.{IsReport}
use Rattle.run_report.specs.Summaries.{IsSummary}
use Rattle.work_crew.specs.Whole.{IsWhole}
use Rattle.kres_tool.specs.declared.statuses.Status.{Status}
use Rattle.kres_tool.specs.Status.{status_of}

-- what a store stands for, what a turn says of it beside that, how often its heap was marked, and the most that was in use between the
-- last two marks
abbrev pub stands : StoreView → World → Type 0
stands = Stands

abbrev pub beside : StoreView → ℕ → Call → Turned → StoreView → Type 0
beside = λ old pid call told new. ReadsCached old.objects pid call told new.objects

abbrev pub marks : StoreView → ℕ
marks store = store.objects.heap.marks

abbrev pub high : StoreView → ℕ
high store = store.objects.heap.last_high

-- The text is the report of a run of the script, the status is that of its end, and the store that is handed out is the one
-- that was left: its processes, its account, what it keeps and its reads are those of the world in which the run ended.
pub record IsRunOf (script : Script) (whole : List ℕ) (handed : Option StoreView) (status : Status) : Type 0 where
  pub end : End
  pub store : StoreView
  pub handed_is : handed ≡ Some store
  pub same : store.script ≡ script
  pub report : IsReport stands marks high script store end whole
  pub status_is : status ≡ status_of end

-- The text sums up the run of the generated script of so many rounds, the status is that of its end, and the store that is handed out
-- is the one that was left.
pub record IsLoadOf (rounds : ℕ) (whole : List ℕ) (handed : Option StoreView) (status : Status) : Type 0 where
  pub end : End
  pub store : StoreView
  pub handed_is : handed ≡ Some store
  pub same : store.script ≡ generated rounds
  pub summary : IsSummary stands marks high (generated rounds) store end rounds whole
  pub status_is : status ≡ status_of end

-- The text is the report of a history of the script's run by workers, the status is that of its end, and the store that is handed out
-- is the one that was left. What is told as charged is what is live in it and the reserve, and the reads are its world's.
pub record IsThreadsRunOf (script : Script) (whole : List ℕ) (handed : Option StoreView) (status : Status) : Type 0 where
  pub entries : List Entry
  pub end : End
  pub bytes : ℕ
  pub store : StoreView
  pub handed_is : handed ≡ Some store
  pub same : store.script ≡ script
  pub run : IsWhole stands (λ s. s.script) beside script script.steps entries end bytes store
  pub text_is : whole ≡ report_threads entries end bytes run.closes.world.reads
  pub status_is : status ≡ status_of end
