-- What the tool answers to its words, and what it writes.
use Rattle.std.specs.Prelude.{ℕ, ◌≡◌, ◌<◌, Bool, true, false, List, length, take, Option, None, Result, Ok, Err, String, codes}
use Rattle.std.specs.Io.KnownBytes.{Appends}
use Rattle.kabi_types.specs.declared.scripts.Script.{Script}
use Rattle.kabi_types.specs.declared.scripts.ScriptFault.{ScriptFault}
use Rattle.call_run.specs.Stores.{StoreView}
use Rattle.group_heap.specs.Texts.{Groups as Groups'}
use Rattle.kio_ports.specs.declared.failed.Failed.{Failed}
use Rattle.kio_ports.specs.Faults.{HasRisen}
use Rattle.kio_ports.specs.Offers.{PutsAll}
use Rattle.posix_defs.specs.Canonical.{canonical}
use Rattle.posix_defs.specs.Generated.{generated}
use Rattle.posix_defs.specs.Lines.{fault_line}
use Rattle.posix_defs.specs.PriceText.{table_text}
use Rattle.posix_defs.specs.ScriptText.{ReadsText}
use Rattle.kres_tool.specs.declared.commands.Command.{Command}
use Rattle.kres_tool.specs.declared.commands.Command.TheVariants.{OnScript, Table, Gen, Load, Groups}
use Rattle.kres_tool.specs.declared.commands.Task.{Task}
use Rattle.kres_tool.specs.declared.commands.Task.TheVariants as task
use Rattle.kres_tool.specs.declared.statuses.Status.{Status}
use Rattle.kres_tool.specs.declared.statuses.Status.TheVariants.{Finished, BadScript, Usage, Starved, AllAsleep, Spent, ReadFault, WriteFault, Memory}
use Rattle.kres_tool.specs.Groups.{AnswersGroups, IsReportOf}
use Rattle.kres_tool.specs.Read.{HasTaken}
use Rattle.kres_tool.specs.Run.{IsLoadOf, IsRunOf, IsThreadsRunOf}
use Rattle.kres_tool.specs.Words.{Asks}

-- what is written where the words aren't the program's
abbrev pub usage_line : List ℕ
usage_line = codes "usage: kres sim | threads W | print | table | gen N | load N | groups W\n"

-- The source before and after: the bytes that it has left, where it tells them, how many takes have failed, and that
-- nothing was asked of it.
pub record Input : Type 1 where
  pub left : Option (List ℕ)
  pub left' : Option (List ℕ)
  pub takes : ℕ
  pub takes' : ℕ
  pub untouched : Type 0

-- The sink before and after: the bytes that it holds, where it tells them, how many puts have failed, which texts were
-- offered to it, each put all that was left of it, whole or to a put that failed, and that nothing was.
pub record Output : Type 1 where
  pub held : Option (List ℕ)
  pub held' : Option (List ℕ)
  pub puts : ℕ
  pub puts' : ℕ
  pub offered : List ℕ → Bool → Type 0
  pub untouched : Type 0

module _ {S : Type 0} (left : S → Option (List ℕ)) (faults : S → ℕ) where
  -- from one source to the next
  abbrev pub input : S → S → Input
  input old new = record {
    left = left old;
    left' = left new;
    takes = faults old;
    takes' = faults new;
    untouched = new ≡ old;
  }

module _ {K : Type 0} (held : K → Option (List ℕ)) (faults : K → ℕ) (gives : K → List ℕ → Result ℕ Failed → K → Type 0) where
  -- from one sink to the next
  abbrev pub output : K → K → Output
  output old new = record {
    held = held old;
    held' = held new;
    puts = faults old;
    puts' = faults new;
    offered = λ text whole. PutsAll gives old text whole new;
    untouched = new ≡ old;
  }

-- What a task makes of a script: the report of its run, with that end's status and the store as it was left; the same of a
-- run by workers; or the script in its canonical form.
abbrev pub Makes : Task → Script → List ℕ → Option StoreView → Status → Type 0
Makes task.Sim script whole handed status = IsRunOf script whole handed status
Makes (task.Threads _) script whole handed status = IsThreadsRunOf script whole handed status
Makes task.Print script whole handed status = (whole ≡ canonical script) × (handed ≡ None) × (status ≡ Finished)

-- the task runs its script
abbrev pub runs : Task → Bool
runs task.Sim = true
runs (task.Threads _) = true
runs task.Print = false

-- The text is answered by this one, with this store and this status: the line of its fault, where it is no script, or what
-- the task makes of its script.
pub data AnswersText (text whole : List ℕ) (asked : Task) (handed : Option StoreView) : Status → Type 0 where
  refuses : (fault : ScriptFault) → ReadsText text (Err fault) → whole ≡ fault_line fault → handed ≡ None
      → AnswersText text whole asked handed BadScript
  makes : (script : Script) (status : Status) → ReadsText text (Ok script) → Makes asked script whole handed status
      → AnswersText text whole asked handed status

-- What was read, to its end or to the byte that is too many, is answered so.
pub record AnswersSource (i : Input) (asked : Task) (whole : List ℕ) (handed : Option StoreView) (status : Status) : Type 0 where
  pub text : List ℕ
  pub taken : HasTaken text i.left i.left'
  pub no_fault : i.takes' ≡ i.takes
  pub answers : AnswersText text whole asked handed status

-- the whole text was written, and no put failed
abbrev pub Wrote : Output → List ℕ → Type 0
Wrote o whole = Appends o.held o.held' whole × o.offered whole true × (o.puts' ≡ o.puts)

-- The sink failed, and holds a proper beginning of the text.
pub record Broke (o : Output) (whole : List ℕ) : Type 0 where
  pub count : ℕ
  pub less : count < length whole
  pub begun : Appends o.held o.held' (take count whole)
  pub offered : o.offered whole false
  pub fault : HasRisen o.puts o.puts'

-- the sink got the whole text, or it failed
abbrev pub HasPut : {X E : Type 0} → Output → List ℕ → Result X E → Type 0
HasPut o whole (Ok _) = Wrote o whole
HasPut o whole (Err _) = Broke o whole

-- The sink got the whole text, and the store is handed out with its status; or it failed, and none is.
pub data HandsOut (o : Output) (whole : List ℕ) (store : Option StoreView) (status : Status) : Option StoreView → Status → Type 0 where
  whole_text : Wrote o whole → HandsOut o whole store status store status
  beginning : Broke o whole → HandsOut o whole store status None WriteFault

-- What a task may end with where it has its script: what it makes of it was put, or there was no memory to make it.
pub data ScriptEnds (o : Output) (asked : Task) (script : Script) (handed : Option StoreView) : Status → Type 0 where
  ends_so : (whole : List ℕ) (store : Option StoreView) (status told : Status) → Makes asked script whole store status
      → HandsOut o whole store status handed told → ScriptEnds o asked script handed told
  wants_memory : o.untouched → handed ≡ None → ScriptEnds o asked script handed Memory

-- what may become of the line of a fault
abbrev pub FaultEnds : Output → ScriptFault → Status → Type 0
FaultEnds o fault BadScript = Wrote o (fault_line fault)
FaultEnds o fault WriteFault = Broke o (fault_line fault)
FaultEnds o fault Memory = o.untouched
FaultEnds o fault _ = ⊥

-- what was read is answered whole, with this store and this status
abbrev pub Answered : Input → Output → Option StoreView → Task → Status → Type 0
Answered i o handed asked status = (whole : List ℕ) × AnswersSource i asked whole handed status × Wrote o whole

-- What a task may end with. A store is handed out with an end alone.
abbrev pub TaskEnds : Input → Output → Option StoreView → Task → Status → Type 0
TaskEnds i o handed asked Finished = Answered i o handed asked Finished
TaskEnds i o handed asked BadScript = Answered i o handed asked BadScript
TaskEnds i o handed asked Usage = ⊥
TaskEnds i o handed asked Starved = Answered i o handed asked Starved
TaskEnds i o handed asked AllAsleep = Answered i o handed asked AllAsleep
TaskEnds i o handed asked Spent = Answered i o handed asked Spent
TaskEnds i o handed asked ReadFault = HasRisen i.takes i.takes' × o.untouched × (handed ≡ None)
TaskEnds i o handed asked WriteFault =
    (whole : List ℕ) × (store : Option StoreView) × (status : Status) × AnswersSource i asked whole store status × Broke o whole × (handed ≡ None)
TaskEnds i o handed asked Memory = o.untouched × (handed ≡ None)

-- what may become of a text that needs no script
abbrev pub TextEnds : Output → List ℕ → Status → Type 0
TextEnds o whole Finished = Wrote o whole
TextEnds o whole WriteFault = Broke o whole
TextEnds o whole Memory = o.untouched
TextEnds o whole _ = ⊥

-- the summary of the generated script's run was written whole, with this store and this status
abbrev pub Loaded : Output → Option StoreView → ℕ → Status → Type 0
Loaded o handed rounds status = (whole : List ℕ) × IsLoadOf rounds whole handed status × Wrote o whole

-- What a run of a generated script may end with. A store is handed out with an end alone.
abbrev pub LoadEnds : Output → Option StoreView → ℕ → Status → Type 0
LoadEnds o handed rounds Finished = Loaded o handed rounds Finished
LoadEnds o handed rounds Starved = Loaded o handed rounds Starved
LoadEnds o handed rounds AllAsleep = Loaded o handed rounds AllAsleep
LoadEnds o handed rounds Spent = Loaded o handed rounds Spent
LoadEnds o handed rounds WriteFault = (whole : List ℕ) × (store : Option StoreView) × (status : Status) × IsLoadOf rounds whole store status × Broke o whole × (handed ≡ None)
LoadEnds o handed rounds Memory = o.untouched × (handed ≡ None)
LoadEnds o handed rounds _ = ⊥

-- What may become of the report of groups that were read.
abbrev pub ListEnds : Output → Groups' → Status → Type 0
ListEnds o groups Finished = (whole : List ℕ) × IsReportOf groups whole × Wrote o whole
ListEnds o groups WriteFault = (whole : List ℕ) × IsReportOf groups whole × Broke o whole
ListEnds o groups Memory = o.untouched
ListEnds o groups _ = ⊥

-- What was read, to its end or to the byte that is too many, is answered so where groups are run.
pub record AnswersGroupsSource (i : Input) (whole : List ℕ) (status : Status) : Type 0 where
  pub text : List ℕ
  pub taken : HasTaken text i.left i.left'
  pub no_fault : i.takes' ≡ i.takes
  pub answers : AnswersGroups text whole status

-- what was read is answered whole, with this status
abbrev pub AnsweredGroups : Input → Output → Status → Type 0
AnsweredGroups i o status = (whole : List ℕ) × AnswersGroupsSource i whole status × Wrote o whole

-- What a run of groups may end with, whatever the ends of the groups are.
abbrev pub GroupsEnd : Input → Output → Status → Type 0
GroupsEnd i o Finished = AnsweredGroups i o Finished
GroupsEnd i o BadScript = AnsweredGroups i o BadScript
GroupsEnd i o ReadFault = HasRisen i.takes i.takes' × o.untouched
GroupsEnd i o WriteFault = (whole : List ℕ) × (status : Status) × AnswersGroupsSource i whole status × Broke o whole
GroupsEnd i o Memory = o.untouched
GroupsEnd i o _ = ⊥

-- what a command may end with: `table` writes the price list, `gen` the generated script in its canonical form, and
-- `load` the summary of its run; `groups` hands no store out
abbrev pub CommandEnds : Input → Output → Option StoreView → Command → Status → Type 0
CommandEnds i o handed (OnScript asked) status = TaskEnds i o handed asked status
CommandEnds i o handed Table status = TextEnds o table_text status × (handed ≡ None)
CommandEnds i o handed (Gen rounds) status = TextEnds o (canonical (generated rounds)) status × (handed ≡ None)
CommandEnds i o handed (Load rounds) status = LoadEnds o handed rounds status
CommandEnds i o handed (Groups workers) status = GroupsEnd i o status × (handed ≡ None)

-- what other words may end with
abbrev pub OthersEnd : Output → Status → Type 0
OthersEnd o Usage = Wrote o usage_line
OthersEnd o WriteFault = Broke o usage_line
OthersEnd o _ = ⊥

-- What the tool does on these words: what they ask for, or the line that says which words there are. Only what reads a
-- script or groups touches the source.
pub record Obeys {A : Type 0} (words : List (String A)) (i : Input) (o : Output) (handed : Option StoreView) (status : Status) : Type 0 where
  pub commands : (command : Command) → Asks words command → CommandEnds i o handed command status
  pub others : ((command : Command) → Asks words command → ⊥) → OthersEnd o status × (handed ≡ None)
  pub untouched : ((task : Task) → Asks words (OnScript task) → ⊥) → ((workers : ℕ) → Asks words (Groups workers) → ⊥) → i.untouched
