-- Why the tool answers as it does, and when its answer is the end of what it was asked for.
use Rattle.std.specs.Prelude.{ℕ, ◌≡◌, ◌⊎◌, true, List, Option, Some, Ok, Err, String}
use Rattle.kabi_types.specs.declared.scripts.Script.{Script}
use Rattle.kabi_types.specs.declared.scripts.ScriptFault.{ScriptFault}
use Rattle.call_run.specs.Stores.{StoreView}
use Rattle.group_heap.specs.Texts.{Groups as Groups', ReadsGroups}
use Rattle.kio_ports.specs.Faults.{HasRisen}
use Rattle.posix_defs.specs.Canonical.{canonical}
use Rattle.posix_defs.specs.Generated.{generated}
use Rattle.posix_defs.specs.Lines.{fault_line}
use Rattle.posix_defs.specs.PriceText.{table_text}
use Rattle.posix_defs.specs.ScriptText.{ReadsText}
use Rattle.kres_tool.specs.declared.commands.Command.{Command}
use Rattle.kres_tool.specs.declared.commands.Command.TheVariants.{OnScript, Table, Gen, Load, Groups}
use Rattle.kres_tool.specs.declared.commands.Task.{Task}
use Rattle.kres_tool.specs.declared.statuses.Status.{Status}
use Rattle.kres_tool.specs.declared.statuses.Status.TheVariants.{Finished, BadScript, Usage, Starved, AllAsleep, Spent, ReadFault, WriteFault, Memory}
use Rattle.kres_tool.specs.Read.{HasTaken}
use Rattle.kres_tool.specs.Run.{IsLoadOf}
use Rattle.kres_tool.specs.Groups.{IsReportOf}
use Rattle.kres_tool.specs.Tool.{AnswersGroupsSource, AnswersSource, Broke, CommandEnds, Input, Loaded, Makes, Output, Wrote, runs, usage_line}
use Rattle.kres_tool.specs.Words.{Asks}

-- The text that was taken says a script, and what the task makes of it was written whole.
pub record TellsEnd (i : Input) (o : Output) (handed : Option StoreView) (asked : Task) (status : Status) : Type 0 where
  pub text : List ℕ
  pub taken : HasTaken text i.left i.left'
  pub script : Script
  pub says : ReadsText text (Ok script)
  pub whole : List ℕ
  pub makes : Makes asked script whole handed status
  pub wrote : Wrote o whole

-- The text that was taken is no script for a fault, and the line that tells it was written.
pub record TellsFault (i : Input) (o : Output) : Type 0 where
  pub text : List ℕ
  pub taken : HasTaken text i.left i.left'
  pub fault : ScriptFault
  pub has : ReadsText text (Err fault)
  pub wrote : Wrote o (fault_line fault)

-- The text that was taken says no groups for a fault, and the line that tells it was written.
pub record TellsGroupsFault (i : Input) (o : Output) : Type 0 where
  pub text : List ℕ
  pub taken : HasTaken text i.left i.left'
  pub fault : ScriptFault
  pub has : ReadsGroups text (Err fault)
  pub wrote : Wrote o (fault_line fault)

-- what is to be written for a command
abbrev pub IsDueFor : Input → Command → List ℕ → Type 0
IsDueFor i (OnScript asked) whole = (store : Option StoreView) × (status : Status) × AnswersSource i asked whole store status
IsDueFor i Table whole = whole ≡ table_text
IsDueFor i (Gen rounds) whole = whole ≡ canonical (generated rounds)
IsDueFor i (Load rounds) whole = (store : Option StoreView) × (status : Status) × IsLoadOf rounds whole store status
IsDueFor i (Groups workers) whole = (status : Status) × AnswersGroupsSource i whole status

module _ {A : Type 0} (words : List (String A)) where
  -- the words are no command
  abbrev pub AskNothing : Type 0
  AskNothing = (command : Command) → Asks words command → ⊥

  -- what is to be written for these words
  abbrev pub IsDue : Input → List ℕ → Type 0
  IsDue i whole = ((command : Command) × Asks words command × IsDueFor i command whole) ⊎ (AskNothing × (whole ≡ usage_line))

  -- a script was to be run, and the end of its run was told; or a generated one was
  abbrev pub EndsRun : Input → Output → Option StoreView → Status → Type 0
  EndsRun i o handed status =
      ((asked : Task) × Asks words (OnScript asked) × (runs asked ≡ true) × TellsEnd i o handed asked status)
      ⊎ ((rounds : ℕ) × Asks words (Load rounds) × Loaded o handed rounds status)

  -- a script was to be read
  abbrev pub AskTask : Type 0
  AskTask = (asked : Task) × Asks words (OnScript asked)

  -- groups were to be read
  abbrev pub AskGroups : Type 0
  AskGroups = (workers : ℕ) × Asks words (Groups workers)

  -- Why the tool answers this. A run's end is told by the report of the run, and so is a fault by its line. A stream has failed only
  -- where its count rose: of the source while a script was to be read, and then nothing is written; of the sink while it was put
  -- what was due, and it has a proper beginning of that. Want of memory is told for a command alone, and with nothing written.
  abbrev pub HasCause : Input → Output → Option StoreView → Status → Type 0
  HasCause i o handed Finished = (command : Command) × Asks words command × CommandEnds i o handed command Finished
  HasCause i o handed BadScript = (AskTask × TellsFault i o) ⊎ (AskGroups × TellsGroupsFault i o)
  HasCause i o handed Usage = AskNothing × Wrote o usage_line × i.untouched
  HasCause i o handed Starved = EndsRun i o handed Starved
  HasCause i o handed AllAsleep = EndsRun i o handed AllAsleep
  HasCause i o handed Spent = EndsRun i o handed Spent
  HasCause i o handed ReadFault = (AskTask ⊎ AskGroups) × HasRisen i.takes i.takes' × o.untouched
  HasCause i o handed WriteFault = HasRisen o.puts o.puts' × ((whole : List ℕ) × IsDue i whole × Broke o whole)
  HasCause i o handed Memory = (command : Command) × Asks words command × o.untouched

-- All that the source has says this script.
pub record HasScript (i : Input) (script : Script) : Type 0 where
  pub text : List ℕ
  pub there : i.left ≡ Some text
  pub says : ReadsText text (Ok script)

-- All that the source has says these groups.
pub record HasGroups (i : Input) (groups : Groups') : Type 0 where
  pub text : List ℕ
  pub there : i.left ≡ Some text
  pub says : ReadsGroups text (Ok groups)

-- no put failed
abbrev pub NoPutFailed : Output → Type 0
NoPutFailed o = HasRisen o.puts o.puts' → ⊥

-- and no take
abbrev pub NothingFailed : Input → Output → Type 0
NothingFailed i o = (HasRisen i.takes i.takes' → ⊥) × NoPutFailed o

-- what the task makes of the script was written whole; or there was no memory
abbrev pub IsDone : Output → Option StoreView → Task → Script → Status → Type 0
IsDone o handed asked script status = ((whole : List ℕ) × Makes asked script whole handed status × Wrote o whole) ⊎ (status ≡ Memory)

-- a text was written whole, and this is the status; or there was no memory
abbrev pub IsTold : Output → List ℕ → Status → Status → Type 0
IsTold o whole wanted status = ((status ≡ wanted) × Wrote o whole) ⊎ (status ≡ Memory)

-- the whole report of these groups was written; or there was no memory
abbrev pub AreReported : Output → Groups' → Status → Type 0
AreReported o groups status = ((status ≡ Finished) × ((whole : List ℕ) × IsReportOf groups whole × Wrote o whole)) ⊎ (status ≡ Memory)

-- Where no stream fails, what was asked for is done to its end, but for want of memory: a script that is there is run to the end of
-- its run, or printed; groups that are there are run, and their report is written whole; a text that needs no script is written whole, and so is the summary of a generated script's run. Words that ask for nothing are always told so.
pub record Completes {A : Type 0} (words : List (String A)) (i : Input) (o : Output) (handed : Option StoreView) (status : Status) : Type 0 where
  pub scripts : (asked : Task) (script : Script) → Asks words (OnScript asked) → HasScript i script → NothingFailed i o
      → IsDone o handed asked script status
  pub table : Asks words Table → NoPutFailed o → IsTold o table_text Finished status
  pub gen : (rounds : ℕ) → Asks words (Gen rounds) → NoPutFailed o → IsTold o (canonical (generated rounds)) Finished status
  pub load : (rounds : ℕ) → Asks words (Load rounds) → NoPutFailed o → Loaded o handed rounds status ⊎ (status ≡ Memory)
  pub groups : (workers : ℕ) (groups : Groups') → Asks words (Groups workers) → HasGroups i groups → NothingFailed i o → AreReported o groups status
  pub others : AskNothing words → NoPutFailed o → (status ≡ Usage) × Wrote o usage_line
