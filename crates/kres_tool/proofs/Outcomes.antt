-- What a command ends with, from what was read, answered and put.
use Rattle.std.proofs.Common.{◌≡◌, ℕ, ◌≤◌, List, length, Option, None, Some, Result, Ok, Err, IfOk, string_bytes, refl, sym, ◌∙◌, subst}
use Rattle.kabi_types.specs.declared.entries.End.{End}
use Rattle.kabi_types.specs.declared.entries.End.TheVariants as end
use Rattle.kabi_types.specs.declared.scripts.Script.{Script}
use Rattle.kabi_types.specs.declared.scripts.ScriptFault.{ScriptFault}
use Rattle.posix_defs.specs.Canonical.{canonical}
use Rattle.posix_defs.specs.Generated.{generated}
use Rattle.posix_defs.specs.Lines.{fault_line}
use Rattle.posix_defs.specs.ScriptText.{ReadsText, reads, too_long}
use Rattle.call_run.specs.Stores.{StoreView}
use Rattle.run_report.specs.Reports.{IsReport}
use Rattle.run_report.specs.Summaries.{IsSummary}
use Rattle.run_report.specs.declared.runs.Reported.{Reported}
use Rattle.kres_tool.specs.declared.commands.Task.{Task}
use Rattle.kres_tool.specs.declared.commands.Task.TheVariants as task
use Rattle.kres_tool.specs.declared.statuses.Status.{Status}
use Rattle.kres_tool.specs.declared.statuses.Status.TheVariants as status
use Rattle.kres_tool.specs.Run.{IsLoadOf, IsRunOf, high, marks, stands}
use Rattle.kres_tool.specs.Status.{status_of}
use Rattle.kres_tool.specs.Read.{HasReadAs, HasTaken, IsReadAs, Says}
use Rattle.kres_tool.specs.declared.reading.Reading.{Reading}
use Rattle.kres_tool.specs.declared.reading.Reading.TheVariants as reading
use Rattle.kres_tool.specs.Tool.{Input, Output, AnswersText, refuses, makes, AnswersSource, Broke, FaultEnds, HandsOut, LoadEnds, Makes, ScriptEnds, TextEnds, Wrote, whole_text, beginning, ends_so, wants_memory, TaskEnds}

-- a run's report was written
reported : (i : Input) (o : Output) (asked : Task) (whole : List ℕ) (handed : Option StoreView) (e : End)
    → AnswersSource i asked whole handed (status_of e) → Wrote o whole → TaskEnds i o handed asked (status_of e)
reported i o asked whole handed end.Finished source wrote = (whole, source, wrote)
reported i o asked whole handed (end.Starved _ _) source wrote = (whole, source, wrote)
reported i o asked whole handed end.AllAsleep source wrote = (whole, source, wrote)
reported i o asked whole handed end.Spent source wrote = (whole, source, wrote)

made : (i : Input) (o : Output) (asked : Task) (script : Script) (whole : List ℕ) (handed : Option StoreView) (st : Status)
    → Makes asked script whole handed st → AnswersSource i asked whole handed st → Wrote o whole → TaskEnds i o handed asked st
made i o task.Sim script whole handed st ran source wrote =
    subst (TaskEnds i o handed task.Sim) (sym ran.status_is)
    (reported i o task.Sim whole handed ran.end (subst (AnswersSource i task.Sim whole handed) ran.status_is source) wrote)
made i o (task.Threads workers) script whole handed st ran source wrote =
    subst (TaskEnds i o handed (task.Threads workers)) (sym ran.status_is)
    (reported i o (task.Threads workers) whole handed ran.end (subst (AnswersSource i (task.Threads workers) whole handed) ran.status_is source) wrote)
made i o task.Print script whole handed st printed source wrote =
    subst (TaskEnds i o handed task.Print) (sym printed.2)
    (whole, subst (AnswersSource i task.Print whole handed) printed.2 source, wrote)

written : (i : Input) (o : Output) (asked : Task) (text whole : List ℕ) (handed : Option StoreView) (st : Status)
    → AnswersText text whole asked handed st → AnswersSource i asked whole handed st → Wrote o whole → TaskEnds i o handed asked st
written i o asked text whole handed _ (refuses fault said is none) source wrote = (whole, source, wrote)
written i o asked text whole handed _ (makes script st said made_so) source wrote = made i o asked script whole handed st made_so source wrote

-- what was read is answered, whole or in part
pub task_handed : (i : Input) (o : Output) (asked : Task) (whole : List ℕ) (store handed : Option StoreView) (st told : Status)
    → AnswersSource i asked whole store st → HandsOut o whole store st handed told → TaskEnds i o handed asked told
task_handed i o asked whole store _ st _ source (whole_text wrote) = written i o asked source.text whole store st source.answers source wrote
task_handed i o asked whole store _ st _ source (beginning broke) = (whole, store, st, source, broke, refl)

-- where the sink failed no store is handed out
pub nothing_handed : (o : Output) (whole : List ℕ) (store handed : Option StoreView) (st : Status) → handed ≡ None
    → Broke o whole → HandsOut o whole store st handed status.WriteFault
nothing_handed o whole store handed st none broke = subst (λ h. HandsOut o whole store st h status.WriteFault) (sym none) (beginning broke)

-- what a text says that was taken
pub read_as : (it : Reading) (text : List ℕ) (old new : Option (List ℕ)) (faults faults' : ℕ) → HasTaken text old new → faults' ≡ faults → Says text it
    → IsReadAs it old new faults faults'
read_as (reading.Script script) text old new faults faults' taken no_fault says =
    (record { text = text; taken = taken; no_fault = no_fault; reads = says.0 }, says.1)
read_as (reading.Bad fault) text old new faults faults' taken no_fault says = record { text = text; taken = taken; no_fault = no_fault; reads = says }
read_as reading.Broken text old new faults faults' taken no_fault says = absurd says

-- what becomes of a script becomes of the source that had it
pub script_ends : (i : Input) (o : Output) (asked : Task) (script : Script) (handed : Option StoreView) (st : Status)
    → HasReadAs (Ok script) i.left i.left' i.takes i.takes' → ScriptEnds o asked script handed st → TaskEnds i o handed asked st
script_ends i o asked script handed _ read (ends_so whole store st told made_so put) =
    task_handed i o asked whole store handed st told
    (record { text = read.text; taken = read.taken; no_fault = read.no_fault; answers = makes script st read.reads made_so }) put
script_ends i o asked script handed _ read (wants_memory same none) = (same, none)

-- the line of a fault answers the source that had it
refused : (i : Input) (asked : Task) (fault : ScriptFault) → HasReadAs (Err fault) i.left i.left' i.takes i.takes'
    → AnswersSource i asked (fault_line fault) None status.BadScript
refused i asked fault read = record { text = read.text; taken = read.taken; no_fault = read.no_fault; answers = refuses fault read.reads refl refl }

-- a text that is no script
pub fault_ends : (i : Input) (o : Output) (asked : Task) (fault : ScriptFault) (handed : Option StoreView) (st : Status)
    → HasReadAs (Err fault) i.left i.left' i.takes i.takes' → handed ≡ None → FaultEnds o fault st → TaskEnds i o handed asked st
fault_ends i o asked fault handed status.BadScript read none wrote =
    subst (λ h. TaskEnds i o h asked status.BadScript) (sym none) (fault_line fault, refused i asked fault read, wrote)
fault_ends i o asked fault handed status.WriteFault read none broke = (fault_line fault, None, status.BadScript, refused i asked fault read, broke, none)
fault_ends i o asked fault handed status.Memory read none same = (same, none)
fault_ends i o asked fault handed status.Finished read none ends = absurd ends
fault_ends i o asked fault handed status.Usage read none ends = absurd ends
fault_ends i o asked fault handed status.Starved read none ends = absurd ends
fault_ends i o asked fault handed status.AllAsleep read none ends = absurd ends
fault_ends i o asked fault handed status.Spent read none ends = absurd ends
fault_ends i o asked fault handed status.ReadFault read none ends = absurd ends

-- a text that says a script isn't too long
pub says_short : (text : List ℕ) (script : Script) → ReadsText text (Ok script) → length text ≤ 1048576
says_short text script says = short_of text (Ok script) says
  where
    short_of : (text : List ℕ) (outcome : Result Script ScriptFault) → ReadsText text outcome → IfOk outcome (λ _. length text ≤ 1048576)
    short_of _ _ (too_long text long) = tt
    short_of _ _ (reads text lines parts (Ok script) short are_lines are_parts read) = short
    short_of _ _ (reads text lines parts (Err fault) short are_lines are_parts read) = tt

-- a script that is printed
pub print_ends : (o : Output) (script : Script) (handed : Option StoreView) (st : Status) → handed ≡ None → TextEnds o (canonical script) st
    → ScriptEnds o task.Print script handed st
print_ends o script handed status.Finished none wrote =
    ends_so (canonical script) None status.Finished status.Finished (refl, refl, refl)
    (subst (λ h. HandsOut o (canonical script) None status.Finished h status.Finished) (sym none) (whole_text wrote))
print_ends o script handed status.WriteFault none broke =
    ends_so (canonical script) None status.Finished status.WriteFault (refl, refl, refl)
    (nothing_handed o (canonical script) None handed status.Finished none broke)
print_ends o script handed status.Memory none same = wants_memory same none
print_ends o script handed status.BadScript none ends = absurd ends
print_ends o script handed status.Usage none ends = absurd ends
print_ends o script handed status.Starved none ends = absurd ends
print_ends o script handed status.AllAsleep none ends = absurd ends
print_ends o script handed status.Spent none ends = absurd ends
print_ends o script handed status.ReadFault none ends = absurd ends

-- the run that is reported was that of the store that is handed out
pub run_handed : {E : Type 0} (script : Script) (store : StoreView) (handed : Option StoreView) (reported : Result Reported E)
    → store.script ≡ script → handed ≡ Some store → IfOk reported (λ it. IsReport stands marks high script store it.end (string_bytes it.text))
    → IfOk reported (λ it. IsRunOf script (string_bytes it.text) handed (status_of it.end))
run_handed script store handed (Ok it) same is report =
    record { end = it.end; store = store; handed_is = is; same = same; report = report; status_is = refl }
run_handed script store handed (Err _) same is report = tt

-- and so is the one that is summed up
pub load_handed : {E : Type 0} (rounds : ℕ) (script : Script) (store : StoreView) (handed : Option StoreView) (summed : Result Reported E) → script ≡ generated rounds
    → store.script ≡ script → handed ≡ Some store → IfOk summed (λ it. IsSummary stands marks high script store it.end rounds (string_bytes it.text))
    → IfOk summed (λ it. IsLoadOf rounds (string_bytes it.text) handed (status_of it.end))
load_handed rounds script store handed (Ok it) is_script same is summary =
    record {
      end = it.end;
      store = store;
      handed_is = is;
      same = same ∙ is_script;
      summary = subst (λ s. IsSummary stands marks high s store it.end rounds (string_bytes it.text)) is_script summary;
      status_is = refl;
    }
load_handed rounds script store handed (Err _) is_script same is summary = tt

-- a summary was written
summed : (o : Output) (rounds : ℕ) (whole : List ℕ) (handed : Option StoreView) (e : End) → IsLoadOf rounds whole handed (status_of e) → Wrote o whole
    → LoadEnds o handed rounds (status_of e)
summed o rounds whole handed end.Finished is wrote = (whole, is, wrote)
summed o rounds whole handed (end.Starved _ _) is wrote = (whole, is, wrote)
summed o rounds whole handed end.AllAsleep is wrote = (whole, is, wrote)
summed o rounds whole handed end.Spent is wrote = (whole, is, wrote)

-- whole or in part
pub load_ends : (o : Output) (rounds : ℕ) (whole : List ℕ) (store handed : Option StoreView) (st told : Status) → IsLoadOf rounds whole store st
    → HandsOut o whole store st handed told → LoadEnds o handed rounds told
load_ends o rounds whole store _ st _ is (whole_text wrote) =
    subst (LoadEnds o store rounds) (sym is.status_is) (summed o rounds whole store is.end (subst (IsLoadOf rounds whole store) is.status_is is) wrote)
load_ends o rounds whole store _ st _ is (beginning broke) = (whole, store, st, is, broke, refl)
