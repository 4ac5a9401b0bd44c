-- What is told of a run that has ended.
use Rattle.std.proofs.Common.{◌≡◌, ℕ, ◌++◌, List, Some, length, refl, ap, sym, ◌∙◌, subst}
use Rattle.kabi_types.specs.declared.entries.End.{End}
use Rattle.kabi_types.specs.declared.entries.Noted.{Noted}
use Rattle.kabi_types.specs.declared.scripts.Script.{Script}
use Rattle.kern_tasks.specs.View.{CoreView}
use Rattle.kern_core.specs.RunOver.{HasEndedOver, IsRunOver}
use Rattle.posix_defs.specs.CoreState.{charged_in}
use Rattle.posix_defs.specs.CoreRun.{peak_of}
use Rattle.posix_defs.specs.Ends.{end_of}
use Rattle.posix_defs.specs.Lines.{end_line, event_lines, report}
use Rattle.posix_defs.specs.World.{World}
use Rattle.run_report.specs.Reports.{IsReport}
use Rattle.run_report.specs.Summaries.{IsSummary, summary_line}

module _ {T : Type 0} (stands_for : T → World → Type 0) (marks high : T → ℕ) where
  -- what is told of the core's last state is the report of its run
  pub reported : (script : Script) (core : CoreView T) (end : End) (told : List Noted) (charged peak reads : ℕ) (text : List ℕ)
      → (ended : HasEndedOver stands_for marks high script core end) → core.steps ≡ script.steps → told ≡ core.run
      → charged ≡ core.charged → peak ≡ peak_of core.run → reads ≡ ended.state.world.reads
      → text ≡ event_lines 1 told ++ end_line end (length told) charged peak reads → IsReport stands_for marks high script core.store end text
  reported script core end told charged peak reads text ended all is charged_is peak_is reads_is text_is = record {
    run = core.run;
    state = ended.state;
    runs = subst (λ n. IsRunOver stands_for marks high script n core.run ended.state core.store) all ended.runs;
    ends = subst (λ n. end_of script n (length core.run) ended.state ≡ Some end) all ended.ends;
    text_is = text_is
        ∙ ap (λ events. event_lines 1 events ++ end_line end (length events) charged peak reads) is
        ∙ ap (λ n. event_lines 1 core.run ++ end_line end (length core.run) n peak reads) (charged_is ∙ sym ended.is_at.charged)
        ∙ ap (λ n. event_lines 1 core.run ++ end_line end (length core.run) (charged_in ended.state) n reads) peak_is
        ∙ ap (λ n. report core.run end (charged_in ended.state) n) reads_is;
  }

  -- and the summary of that run is that of a run that has a report
  pub summed : (script : Script) (core : CoreView T) (end : End) (told : List Noted) (rounds : ℕ) (text : List ℕ)
      → HasEndedOver stands_for marks high script core end → core.steps ≡ script.steps → told ≡ core.run → text ≡ summary_line rounds told end
      → IsSummary stands_for marks high script core.store end rounds text
  unfolding reported
  summed script core end told rounds text ended all is text_is = record {
    report = event_lines 1 core.run ++ end_line end (length core.run) core.charged (peak_of core.run) ended.state.world.reads;
    is = reported script core end core.run core.charged (peak_of core.run) ended.state.world.reads _ ended all refl refl refl refl refl;
    text_is = text_is ∙ ap (λ run. summary_line rounds run end) is;
  }
