-- What is so of a report that `sim` has written, and of one of `threads`.
use Rattle.std.specs.Prelude.{ℕ, ⊤, ◌≡◌, ◌+◌, ◌*◌, ◌≤◌, List, String, length, take, slice_get, Option, Some, Ok}
use Rattle.kabi_types.specs.declared.entries.End.{End}
use Rattle.kabi_types.specs.declared.entries.End.TheVariants as end
use Rattle.kabi_types.specs.declared.entries.Entry.{Entry}
use Rattle.kabi_types.specs.declared.scripts.Script.{Script}
use Rattle.posix_defs.specs.Generated.{generated}
use Rattle.posix_defs.specs.History.{IsRun, Past}
use Rattle.posix_defs.specs.World.{World, base, pins}
use Rattle.call_run.specs.Stores.{StoreView}
use Rattle.group_heap.specs.Reports.{KeepsGroups}
use Rattle.group_heap.specs.Texts.{Groups as Groups'}
use Rattle.run_report.specs.Headline.{EntryKeeps, KeepsHeadline}
use Rattle.run_report.specs.Histories.{report_threads}
use Rattle.run_report.specs.Summaries.{KeepsSummary}
use Rattle.kern_shared.specs.Led.{IsLed}
use Rattle.work_crew.specs.Whole.{MayEnd}
use Rattle.kres_tool.specs.declared.commands.Command.TheVariants.{OnScript, Load, Groups}
use Rattle.kres_tool.specs.declared.commands.Task.TheVariants.{Sim, Threads}
use Rattle.kres_tool.specs.declared.statuses.Status.{Status}
use Rattle.kres_tool.specs.declared.statuses.Status.TheVariants.{Finished, Starved, AllAsleep, Spent}
use Rattle.kres_tool.specs.Causes.{Completes, HasCause}
use Rattle.kres_tool.specs.Groups.{HasGroupsReadAs}
use Rattle.kres_tool.specs.Read.{HasReadAs}
use Rattle.kres_tool.specs.Run.{beside, high, marks, stands}
use Rattle.kres_tool.specs.Status.{status_of}
use Rattle.kres_tool.specs.Tool.{Input, Obeys, Output, Wrote}
use Rattle.kres_tool.specs.Words.{Asks}

-- The source had the text of a script, and the sink got the whole report of a run of it, which ended as the status says. The
-- run keeps the headline, and its store is handed out.
pub record HasSimulated (i : Input) (o : Output) (handed : Option StoreView) (status : Status) : Type 0 where
  pub script : Script
  pub read : HasReadAs (Ok script) i.left i.left' i.takes i.takes'
  pub whole : List ℕ
  pub wrote : Wrote o whole
  pub end : End
  pub status_is : status ≡ status_of end
  pub store : StoreView
  pub handed_is : handed ≡ Some store
  pub same : store.script ≡ script
  pub keeps : KeepsHeadline stands marks high script store end whole

-- where the status is an end's
abbrev pub SimKeeps : Input → Output → Option StoreView → Status → Type 0
SimKeeps i o handed Finished = HasSimulated i o handed Finished
SimKeeps i o handed Starved = HasSimulated i o handed Starved
SimKeeps i o handed AllAsleep = HasSimulated i o handed AllAsleep
SimKeeps i o handed Spent = HasSimulated i o handed Spent
SimKeeps i o handed _ = ⊤

-- The sink got the summary of a run of the generated script of so many rounds, which ended as the status says. The run keeps the
-- headline, and its store is handed out.
pub record HasLoaded (o : Output) (rounds : ℕ) (handed : Option StoreView) (status : Status) : Type 0 where
  pub whole : List ℕ
  pub wrote : Wrote o whole
  pub end : End
  pub status_is : status ≡ status_of end
  pub store : StoreView
  pub handed_is : handed ≡ Some store
  pub same : store.script ≡ generated rounds
  pub keeps : KeepsSummary stands marks high (generated rounds) store end rounds whole

-- where the status is an end's
abbrev pub LoadKeeps : Output → ℕ → Option StoreView → Status → Type 0
LoadKeeps o rounds handed Finished = HasLoaded o rounds handed Finished
LoadKeeps o rounds handed Starved = HasLoaded o rounds handed Starved
LoadKeeps o rounds handed AllAsleep = HasLoaded o rounds handed AllAsleep
LoadKeeps o rounds handed Spent = HasLoaded o rounds handed Spent
LoadKeeps o rounds handed _ = ⊤

-- no name and no block is kept, and of the nodes just those that have to be
pub record KeepsNoMore (world : World) : Type 0 where
  pub names : length world.kept.names ≡ 0
  pub blocks : length world.kept.blocks ≡ 0
  pub vnodes : length world.kept.vnodes ≡ pins world.plain

-- where the run starved
abbrev pub IsBareWhere : End → World → Type 0
IsBareWhere (end.Starved _ _) world = KeepsNoMore world
IsBareWhere _ world = ⊤

-- The text tells a history, and an end that it allows. The history is a legal one of the machine, which has unlimited memory, of at
-- most as many entries as the script has steps. A call is refused exactly where its bound is above the room, and no other is answered
-- ENOMEM. The store went through the history, entry by entry, each by its definition, also in what is kept and read; it stands for where
-- that has led. What is told as charged is at most the heap, and made up of the reserve, what the machine takes by itself, and what is
-- kept: names, blocks, and nodes, those among them that have to be. Where the run starved no other is.
pub record TellsHistory (script : Script) (store : StoreView) (end : End) (text : List ℕ) : Type 0 where
  pub entries : List Entry
  pub charged : ℕ
  pub past : Past
  pub world : World
  pub told : text ≡ report_threads entries end charged world.reads
  pub legal : IsRun script entries past
  pub few : length entries ≤ script.steps
  pub allowed : MayEnd script script.steps entries past end
  pub each : (i : ℕ) (added : Entry) → slice_get entries i ≡ Some added → EntryKeeps script (take i entries) added
  pub left : stands store world
  pub went : IsLed stands beside script entries world store
  pub machine : world.plain ≡ past.plain
  pub account : world.account ≡ past.account
  pub within : charged ≤ script.heap
  pub made_up : charged ≡ 2176 + base past.plain past.account
      + 64 * length world.kept.names + 1088 * length world.kept.blocks + 128 * length world.kept.vnodes
  pub pinned : pins past.plain ≤ length world.kept.vnodes
  pub bare : IsBareWhere end world

-- The source had the text of a script, and the sink got the whole report of a history of it by workers, with the end that the status
-- says. Its store is handed out.
pub record HasThreaded (i : Input) (o : Output) (handed : Option StoreView) (status : Status) : Type 0 where
  pub script : Script
  pub read : HasReadAs (Ok script) i.left i.left' i.takes i.takes'
  pub whole : List ℕ
  pub wrote : Wrote o whole
  pub end : End
  pub status_is : status ≡ status_of end
  pub store : StoreView
  pub handed_is : handed ≡ Some store
  pub same : store.script ≡ script
  pub tells : TellsHistory script store end whole

-- where the status is an end's
abbrev pub ThreadsKeep : Input → Output → Option StoreView → Status → Type 0
ThreadsKeep i o handed Finished = HasThreaded i o handed Finished
ThreadsKeep i o handed Starved = HasThreaded i o handed Starved
ThreadsKeep i o handed AllAsleep = HasThreaded i o handed AllAsleep
ThreadsKeep i o handed Spent = HasThreaded i o handed Spent
ThreadsKeep i o handed _ = ⊤

-- The source had a text of groups, and the sink got their whole report, of which each part keeps the headline for its own script.
pub record HasGrouped (i : Input) (o : Output) : Type 0 where
  pub groups : Groups'
  pub read : HasGroupsReadAs (Ok groups) i.left i.left' i.takes i.takes'
  pub whole : List ℕ
  pub wrote : Wrote o whole
  pub keeps : KeepsGroups stands marks high groups.whole groups.sections whole

-- where all was written
abbrev pub GroupsKeep : Input → Output → Status → Type 0
GroupsKeep i o Finished = HasGrouped i o
GroupsKeep i o _ = ⊤

-- What the tool does on these words, and what is so of each report that it has written of a run, by the core or by workers, of groups,
-- and of each summary. Its answer
-- has its cause, and where nothing fails it is the end of what was asked for.
pub record ObeysAndKeeps {A : Type 0} (words : List (String A)) (i : Input) (o : Output) (handed : Option StoreView) (status : Status) : Type 0 where
  pub obeys : Obeys words i o handed status
  pub headline : Asks words (OnScript Sim) → SimKeeps i o handed status
  pub threads : (workers : ℕ) → Asks words (OnScript (Threads workers)) → ThreadsKeep i o handed status
  pub loads : (rounds : ℕ) → Asks words (Load rounds) → LoadKeeps o rounds handed status
  pub groups : (workers : ℕ) → Asks words (Groups workers) → GroupsKeep i o status
  pub causes : HasCause words i o handed status
  pub complete : Completes words i o handed status
