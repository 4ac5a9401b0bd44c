-- Why what `sim` and `load` have written keeps the headline.
use Rattle.std.proofs.Common.{◌≡◌, ◌≤◌, ◌⊎◌, List, ℕ, Option, Ok, inl, inr, refl}
use Rattle.kabi_types.specs.declared.scripts.Script.{Script}
use Rattle.call_run.specs.Stores.{StoreView}
use Rattle.posix_defs.specs.ScriptText.{ReadsText}
use Rattle.posix_defs.specs.Generated.{generated}
use Rattle.run_report.proofs.Headlines.{keeps_headline, keeps_summary}
use Rattle.script_laws.proofs.GeneratedScripts.{generated_valid}
use Rattle.script_parse.proofs.ValidScripts.{reads_valid}
use Rattle.kres_tool.specs.declared.commands.Task.TheVariants.{Sim}
use Rattle.kres_tool.specs.declared.statuses.Status.{Status}
use Rattle.kres_tool.specs.declared.statuses.Status.TheVariants as status
use Rattle.kres_tool.specs.Headline.{HasLoaded, HasSimulated, LoadKeeps, SimKeeps}
use Rattle.kres_tool.specs.Run.{IsRunOf, high, marks, stands}
use Rattle.kres_tool.specs.Tool.{Answered, AnswersText, Input, LoadEnds, Loaded, Output, TaskEnds, makes, refuses}
use Rattle.kres_tool.specs.Words.{most_rounds}

-- what answers a text but the line of its fault is the report of a run
told : (text whole : List ℕ) (handed : Option StoreView) (st : Status) → AnswersText text whole Sim handed st
    → (st ≡ status.BadScript) ⊎ ((script : Script) × ReadsText text (Ok script) × IsRunOf script whole handed st)
told text whole handed _ (refuses fault why is none) = inl refl
told text whole handed _ (makes script st said ran) = inr (script, said, ran)

simulated : (i : Input) (o : Output) (handed : Option StoreView) (st : Status) → Answered i o handed Sim st
    → (st ≡ status.BadScript → ⊥) → HasSimulated i o handed st
simulated i o handed st answered other =
    let source = answered.1 in
    elim (told source.text answered.0 handed st source.answers) [
      | inl bad ↦ absurd (other bad)
      | inr found ↦
          let ran = found.2 in
          record {
            script = found.0;
            read = record { text = source.text; taken = source.taken; no_fault = source.no_fault; reads = found.1 };
            whole = answered.0;
            wrote = answered.2;
            end = ran.end;
            status_is = ran.status_is;
            store = ran.store;
            handed_is = ran.handed_is;
            same = ran.same;
            keeps = keeps_headline stands marks high found.0 ran.store ran.end answered.0 (reads_valid source.text (Ok found.0) found.1) ran.report;
          }
    ]

pub sim_keeps : (i : Input) (o : Output) (handed : Option StoreView) (st : Status) → TaskEnds i o handed Sim st → SimKeeps i o handed st
sim_keeps i o handed status.Finished ends = simulated i o handed status.Finished ends (λ same. (cc))
sim_keeps i o handed status.Starved ends = simulated i o handed status.Starved ends (λ same. (cc))
sim_keeps i o handed status.AllAsleep ends = simulated i o handed status.AllAsleep ends (λ same. (cc))
sim_keeps i o handed status.Spent ends = simulated i o handed status.Spent ends (λ same. (cc))
sim_keeps i o handed status.BadScript ends = tt
sim_keeps i o handed status.Usage ends = tt
sim_keeps i o handed status.ReadFault ends = tt
sim_keeps i o handed status.WriteFault ends = tt
sim_keeps i o handed status.Memory ends = tt

loaded : (o : Output) (rounds : ℕ) (handed : Option StoreView) (st : Status) → rounds ≤ most_rounds → Loaded o handed rounds st → HasLoaded o rounds handed st
loaded o rounds handed st few (whole, is, wrote) = record {
  whole = whole;
  wrote = wrote;
  end = is.end;
  status_is = is.status_is;
  store = is.store;
  handed_is = is.handed_is;
  same = is.same;
  keeps = keeps_summary stands marks high (generated rounds) is.store is.end rounds whole (generated_valid rounds few) is.summary;
}

pub load_keeps : (o : Output) (rounds : ℕ) (handed : Option StoreView) (st : Status) → rounds ≤ most_rounds → LoadEnds o handed rounds st → LoadKeeps o rounds handed st
load_keeps o rounds handed status.Finished few ends = loaded o rounds handed status.Finished few ends
load_keeps o rounds handed status.Starved few ends = loaded o rounds handed status.Starved few ends
load_keeps o rounds handed status.AllAsleep few ends = loaded o rounds handed status.AllAsleep few ends
load_keeps o rounds handed status.Spent few ends = loaded o rounds handed status.Spent few ends
load_keeps o rounds handed status.BadScript few ends = tt
load_keeps o rounds handed status.Usage few ends = tt
load_keeps o rounds handed status.ReadFault few ends = tt
load_keeps o rounds handed status.WriteFault few ends = tt
load_keeps o rounds handed status.Memory few ends = tt
