-- Why each answer has its cause, and why a script that is there is done to its end.
use Rattle.std.proofs.Common.{◌≡◌, ℕ, ◌+◌, ◌≤◌, ◌⊎◌, true, List, ◌++◌, length, Option, None, Some, Ok, Err, inl, inr, refl, sym, ap, ◌∙◌, subst, arith, length-append, append-nil}
use Rattle.std.specs.Prelude.{String, []}
use Rattle.kabi_types.specs.declared.entries.End.{End}
use Rattle.kabi_types.specs.declared.entries.End.TheVariants as end
use Rattle.kabi_types.specs.declared.scripts.Script.{Script}
use Rattle.kabi_types.specs.declared.scripts.ScriptFault.{ScriptFault}
use Rattle.call_run.specs.Stores.{StoreView}
use Rattle.group_heap.proofs.OneReading.{groups_once}
use Rattle.group_heap.specs.Texts.{Groups as Groups', ReadsGroups}
use Rattle.group_heap.specs.Texts as group_texts
use Rattle.posix_defs.specs.Lines.{fault_line}
use Rattle.posix_defs.specs.ScriptText.{ReadsText}
use Rattle.script_parse.proofs.TextReads.{reads_as}
use Rattle.kres_tool.specs.declared.commands.Command.{Command}
use Rattle.kres_tool.specs.declared.commands.Command.TheVariants.{OnScript, Table, Gen, Load, Groups}
use Rattle.kres_tool.specs.declared.commands.Task.{Task}
use Rattle.kres_tool.specs.declared.commands.Task.TheVariants as task
use Rattle.kres_tool.specs.declared.statuses.Status.{Status}
use Rattle.kres_tool.specs.declared.statuses.Status.TheVariants as status
use Rattle.kres_tool.specs.Causes.{AreReported, Completes, EndsRun, HasCause, HasGroups, HasScript, IsDone, IsTold, NoPutFailed, NothingFailed, TellsEnd, TellsFault, TellsGroupsFault}
use Rattle.kres_tool.specs.Groups.{AnswersGroups, IsReportOf}
use Rattle.kres_tool.specs.Groups as group_answers
use Rattle.kres_tool.specs.Read.{HasTaken}
use Rattle.kres_tool.specs.Status.{status_of}
use Rattle.kres_tool.specs.Tool.{Answered, AnsweredGroups, AnswersText, CommandEnds, GroupsEnd, Input, LoadEnds, Loaded, Makes, Obeys, OthersEnd, Output, TaskEnds, TextEnds, Wrote, makes, refuses, runs, usage_line}
use Rattle.kres_tool.specs.Words.{Asks}
use Rattle.kres_tool.proofs.Outcomes.{says_short}

-- ---- causes

-- what answers a text is the line of its fault, or what the task makes of its script
answer_is : (text whole : List ℕ) (asked : Task) (handed : Option StoreView) (st : Status) → AnswersText text whole asked handed st
    → ((st ≡ status.BadScript) × ((fault : ScriptFault) × ReadsText text (Err fault) × (whole ≡ fault_line fault)))
    ⊎ ((script : Script) × ReadsText text (Ok script) × Makes asked script whole handed st)
answer_is text whole asked handed _ (refuses fault why is none) = inl (refl, (fault, why, is))
answer_is text whole asked handed _ (makes script st says so) = inr (script, says, so)

-- no run ends as a bad script
not_bad : (e : End) → status.BadScript ≡ status_of e → ⊥
not_bad end.Finished is = cc
not_bad (end.Starved pid need) is = cc
not_bad end.AllAsleep is = cc
not_bad end.Spent is = cc

makes_no_fault : (asked : Task) (script : Script) (whole : List ℕ) (handed : Option StoreView) → Makes asked script whole handed status.BadScript → ⊥
makes_no_fault task.Sim script whole handed so = not_bad so.end so.status_is
makes_no_fault (task.Threads workers) script whole handed so = not_bad so.end so.status_is
makes_no_fault task.Print script whole handed so = let wrong : status.BadScript ≡ status.Finished = so.2 in cc

-- what ends otherwise than finished is run
is_run : (asked : Task) (script : Script) (whole : List ℕ) (handed : Option StoreView) (st : Status) → Makes asked script whole handed st
    → (st ≡ status.Finished → ⊥) → runs asked ≡ true
is_run task.Sim script whole handed st so other = refl
is_run (task.Threads workers) script whole handed st so other = refl
is_run task.Print script whole handed st so other = absurd (other so.2)

tells_fault : (i : Input) (o : Output) (handed : Option StoreView) (asked : Task) → Answered i o handed asked status.BadScript → TellsFault i o
tells_fault i o handed asked (whole, source, wrote) =
    elim (answer_is source.text whole asked handed status.BadScript source.answers) [
      | inl bad ↦ record { text = source.text; taken = source.taken; fault = bad.1.0; has = bad.1.1; wrote = subst (Wrote o) bad.1.2 wrote }
      | inr said ↦ absurd (makes_no_fault asked said.0 whole handed said.2)
    ]

tells_end : (i : Input) (o : Output) (handed : Option StoreView) (asked : Task) (st : Status) → Answered i o handed asked st → (st ≡ status.BadScript → ⊥)
    → TellsEnd i o handed asked st
tells_end i o handed asked st (whole, source, wrote) other =
    elim (answer_is source.text whole asked handed st source.answers) [
      | inl bad ↦ absurd (other bad.0)
      | inr said ↦ record { text = source.text; taken = source.taken; script = said.0; says = said.1; whole = whole; makes = said.2; wrote = wrote }
    ]

-- what answers a text of groups is the line of its fault, or their report
groups_answer_is : (text whole : List ℕ) (st : Status) → AnswersGroups text whole st
    → ((st ≡ status.BadScript) × ((fault : ScriptFault) × ReadsGroups text (Err fault) × (whole ≡ fault_line fault)))
    ⊎ ((st ≡ status.Finished) × ((groups : Groups') × ReadsGroups text (Ok groups) × IsReportOf groups whole))
groups_answer_is text whole _ (group_answers.AnswersGroups.refuses fault why is) = inl (refl, (fault, why, is))
groups_answer_is text whole _ (group_answers.AnswersGroups.reports groups says is) = inr (refl, (groups, says, is))

tells_groups_fault : (i : Input) (o : Output) → AnsweredGroups i o status.BadScript → TellsGroupsFault i o
tells_groups_fault i o (whole, source, wrote) =
    elim (groups_answer_is source.text whole status.BadScript source.answers) [
      | inl bad ↦ record { text = source.text; taken = source.taken; fault = bad.1.0; has = bad.1.1; wrote = subst (Wrote o) bad.1.2 wrote }
      | inr said ↦ absurd (let wrong : status.BadScript ≡ status.Finished = said.0 in cc)
    ]

module _ {A : Type 0} (words : List (String A)) where
  ends_run : (i : Input) (o : Output) (handed : Option StoreView) (asked : Task) (st : Status) → Asks words (OnScript asked) → Answered i o handed asked st
      → (st ≡ status.BadScript → ⊥) → (st ≡ status.Finished → ⊥) → EndsRun words i o handed st
  ends_run i o handed asked st asks answered other going =
      let told = tells_end i o handed asked st answered other in
      inl (asked, asks, is_run asked told.script told.whole handed st told.makes going, told)

  task_cause : (i : Input) (o : Output) (handed : Option StoreView) (asked : Task) (st : Status) → Asks words (OnScript asked) → TaskEnds i o handed asked st
      → HasCause words i o handed st
  task_cause i o handed asked status.Finished asks ends = (OnScript asked, asks, ends)
  task_cause i o handed asked status.BadScript asks ends = inl ((asked, asks), tells_fault i o handed asked ends)
  task_cause i o handed asked status.Usage asks ends = absurd ends
  task_cause i o handed asked status.Starved asks ends = ends_run i o handed asked status.Starved asks ends (λ is. (cc)) (λ is. (cc))
  task_cause i o handed asked status.AllAsleep asks ends = ends_run i o handed asked status.AllAsleep asks ends (λ is. (cc)) (λ is. (cc))
  task_cause i o handed asked status.Spent asks ends = ends_run i o handed asked status.Spent asks ends (λ is. (cc)) (λ is. (cc))
  task_cause i o handed asked status.ReadFault asks (risen, untouched, none) = (inl (asked, asks), risen, untouched)
  task_cause i o handed asked status.WriteFault asks (whole, store, st, source, broke, none) =
      (broke.fault, (whole, inl (OnScript asked, asks, (store, st, source)), broke))
  task_cause i o handed asked status.Memory asks (untouched, none) = (OnScript asked, asks, untouched)

  table_cause : (i : Input) (o : Output) (handed : Option StoreView) (st : Status) → Asks words Table → CommandEnds i o handed Table st → HasCause words i o handed st
  table_cause i o handed status.Finished asks ends = (Table, asks, ends)
  table_cause i o handed status.BadScript asks ends = absurd ends.0
  table_cause i o handed status.Usage asks ends = absurd ends.0
  table_cause i o handed status.Starved asks ends = absurd ends.0
  table_cause i o handed status.AllAsleep asks ends = absurd ends.0
  table_cause i o handed status.Spent asks ends = absurd ends.0
  table_cause i o handed status.ReadFault asks ends = absurd ends.0
  table_cause i o handed status.WriteFault asks (broke, none) = (broke.fault, (_, inl (Table, asks, refl), broke))
  table_cause i o handed status.Memory asks (untouched, none) = (Table, asks, untouched)

  gen_cause : (i : Input) (o : Output) (handed : Option StoreView) (rounds : ℕ) (st : Status) → Asks words (Gen rounds) → CommandEnds i o handed (Gen rounds) st
      → HasCause words i o handed st
  gen_cause i o handed rounds status.Finished asks ends = (Gen rounds, asks, ends)
  gen_cause i o handed rounds status.BadScript asks ends = absurd ends.0
  gen_cause i o handed rounds status.Usage asks ends = absurd ends.0
  gen_cause i o handed rounds status.Starved asks ends = absurd ends.0
  gen_cause i o handed rounds status.AllAsleep asks ends = absurd ends.0
  gen_cause i o handed rounds status.Spent asks ends = absurd ends.0
  gen_cause i o handed rounds status.ReadFault asks ends = absurd ends.0
  gen_cause i o handed rounds status.WriteFault asks (broke, none) = (broke.fault, (_, inl (Gen rounds, asks, refl), broke))
  gen_cause i o handed rounds status.Memory asks (untouched, none) = (Gen rounds, asks, untouched)

  load_cause : (i : Input) (o : Output) (handed : Option StoreView) (rounds : ℕ) (st : Status) → Asks words (Load rounds) → LoadEnds o handed rounds st
      → HasCause words i o handed st
  load_cause i o handed rounds status.Finished asks ends = (Load rounds, asks, ends)
  load_cause i o handed rounds status.BadScript asks ends = absurd ends
  load_cause i o handed rounds status.Usage asks ends = absurd ends
  load_cause i o handed rounds status.Starved asks ends = inr (rounds, asks, ends)
  load_cause i o handed rounds status.AllAsleep asks ends = inr (rounds, asks, ends)
  load_cause i o handed rounds status.Spent asks ends = inr (rounds, asks, ends)
  load_cause i o handed rounds status.ReadFault asks ends = absurd ends
  load_cause i o handed rounds status.WriteFault asks (whole, store, st, is, broke, none) = (broke.fault, (whole, inl (Load rounds, asks, (store, st, is)), broke))
  load_cause i o handed rounds status.Memory asks (untouched, none) = (Load rounds, asks, untouched)

  groups_cause : (i : Input) (o : Output) (handed : Option StoreView) (workers : ℕ) (st : Status) → Asks words (Groups workers) → CommandEnds i o handed (Groups workers) st
      → HasCause words i o handed st
  groups_cause i o handed workers status.Finished asks ends = (Groups workers, asks, ends)
  groups_cause i o handed workers status.BadScript asks ends = inr ((workers, asks), tells_groups_fault i o ends.0)
  groups_cause i o handed workers status.Usage asks ends = absurd ends.0
  groups_cause i o handed workers status.Starved asks ends = absurd ends.0
  groups_cause i o handed workers status.AllAsleep asks ends = absurd ends.0
  groups_cause i o handed workers status.Spent asks ends = absurd ends.0
  groups_cause i o handed workers status.ReadFault asks ends = (inr (workers, asks), ends.0.0, ends.0.1)
  groups_cause i o handed workers status.WriteFault asks ends =
      let it = ends.0 in (it.3.fault, (it.0, inl (Groups workers, asks, (it.1, it.2)), it.3))
  groups_cause i o handed workers status.Memory asks ends = (Groups workers, asks, ends.0)

  -- of words that are a command
  pub command_cause : (i : Input) (o : Output) (handed : Option StoreView) (command : Command) (st : Status) → Asks words command
      → CommandEnds i o handed command st → HasCause words i o handed st
  command_cause i o handed (OnScript asked) st asks ends = task_cause i o handed asked st asks ends
  command_cause i o handed Table st asks ends = table_cause i o handed st asks ends
  command_cause i o handed (Gen rounds) st asks ends = gen_cause i o handed rounds st asks ends
  command_cause i o handed (Load rounds) st asks ends = load_cause i o handed rounds st asks ends
  command_cause i o handed (Groups workers) st asks ends = groups_cause i o handed workers st asks ends

  -- and of others
  pub others_cause : (i : Input) (o : Output) (handed : Option StoreView) (st : Status) → ((command : Command) → Asks words command → ⊥) → OthersEnd o st
      → i.untouched → HasCause words i o handed st
  others_cause i o handed status.Usage none wrote untouched = (none, wrote, untouched)
  others_cause i o handed status.WriteFault none broke untouched = (broke.fault, (_, inr (none, refl), broke))
  others_cause i o handed status.Finished none ends untouched = absurd ends
  others_cause i o handed status.BadScript none ends untouched = absurd ends
  others_cause i o handed status.Starved none ends untouched = absurd ends
  others_cause i o handed status.AllAsleep none ends untouched = absurd ends
  others_cause i o handed status.Spent none ends untouched = absurd ends
  others_cause i o handed status.ReadFault none ends untouched = absurd ends
  others_cause i o handed status.Memory none ends untouched = absurd ends

-- ---- completeness

-- a source that has no more than a script may have was read to its end
took_all : (text got : List ℕ) (left' : Option (List ℕ)) → HasTaken got (Some text) left' → length text ≤ 1048576 → got ≡ text
took_all text got None taken short = absurd taken.taken
took_all text got (Some rest) taken short =
    let is : text ≡ got ++ rest = taken.taken in
    elim taken.whole [
      | inl long ↦ absurd (let sum : length text ≡ length got + length rest = ap length is ∙ length-append got rest in omega arith)
      | inr ended ↦ let none : rest ≡ [] = ended in sym (is ∙ ap (λ tail. got ++ tail) none ∙ append-nil got)
    ]

-- a text says one script
says_one : (text : List ℕ) (script other : Script) → ReadsText text (Ok script) → ReadsText text (Ok other) → script ≡ other
says_one text script other says too = let same = sym (reads_as text (Ok script) says) ∙ reads_as text (Ok other) too in cc

-- and has no fault
has_none : (text : List ℕ) (script : Script) (fault : ScriptFault) → ReadsText text (Ok script) → ReadsText text (Err fault) → ⊥
has_none text script fault says has = let same = sym (reads_as text (Err fault) has) ∙ reads_as text (Ok script) says in cc

-- so what answers it is what the task makes of its script
makes_it : (text whole : List ℕ) (asked : Task) (handed : Option StoreView) (st : Status) (script : Script) → AnswersText text whole asked handed st
    → ReadsText text (Ok script) → Makes asked script whole handed st
makes_it text whole asked handed _ script (refuses fault has is none) says = absurd (has_none text script fault says has)
makes_it text whole asked handed _ script (makes other st said so) says =
    subst (λ s. Makes asked s whole handed st) (says_one text other script said says) so

answered_done : (i : Input) (o : Output) (handed : Option StoreView) (asked : Task) (script : Script) (st : Status) → Answered i o handed asked st
    → HasScript i script → IsDone o handed asked script st
answered_done i o handed asked script st (whole, source, wrote) there =
    let same : source.text ≡ there.text =
    took_all there.text source.text i.left' (subst (λ left. HasTaken source.text left i.left') there.there source.taken) (says_short there.text script there.says) in
    inl (
      whole,
      makes_it there.text whole asked handed st script (subst (λ text. AnswersText text whole asked handed st) same source.answers) there.says,
      wrote,
    )

task_done : (i : Input) (o : Output) (handed : Option StoreView) (asked : Task) (script : Script) (st : Status) → TaskEnds i o handed asked st
    → HasScript i script → NothingFailed i o → IsDone o handed asked script st
task_done i o handed asked script status.Finished ends there none = answered_done i o handed asked script status.Finished ends there
task_done i o handed asked script status.BadScript ends there none = answered_done i o handed asked script status.BadScript ends there
task_done i o handed asked script status.Usage ends there none = absurd ends
task_done i o handed asked script status.Starved ends there none = answered_done i o handed asked script status.Starved ends there
task_done i o handed asked script status.AllAsleep ends there none = answered_done i o handed asked script status.AllAsleep ends there
task_done i o handed asked script status.Spent ends there none = answered_done i o handed asked script status.Spent ends there
task_done i o handed asked script status.ReadFault ends there none = absurd (none.0 ends.0)
task_done i o handed asked script status.WriteFault (whole, store, st, source, broke, nothing) there none = absurd (none.1 broke.fault)
task_done i o handed asked script status.Memory ends there none = inr refl

-- groups that are there are reported
groups_short : (text : List ℕ) (groups : Groups') → ReadsGroups text (Ok groups) → length text ≤ 1048576
groups_short text groups (group_texts.ReadsGroups.reads outcome short says) = short

groups_answered : (i : Input) (o : Output) (groups : Groups') (st : Status) → AnsweredGroups i o st → HasGroups i groups → AreReported o groups st
groups_answered i o groups st (whole, source, wrote) there =
    let same : source.text ≡ there.text =
    took_all there.text source.text i.left' (subst (λ left. HasTaken source.text left i.left') there.there source.taken) (groups_short there.text groups there.says) in
    elim (groups_answer_is there.text whole st (subst (λ text. AnswersGroups text whole st) same source.answers)) [
      | inl bad ↦ absurd (let wrong : Err bad.1.0 ≡ Ok groups = groups_once there.text (Err bad.1.0) (Ok groups) bad.1.1 there.says in cc)
      | inr said ↦
          let once = groups_once there.text (Ok said.1.0) (Ok groups) said.1.1 there.says in
          let alike : said.1.0 ≡ groups = cc in
          inl (said.0, (whole, subst (λ g. IsReportOf g whole) alike said.1.2, wrote))
    ]

groups_done : (i : Input) (o : Output) (groups : Groups') (st : Status) → GroupsEnd i o st → HasGroups i groups → NothingFailed i o → AreReported o groups st
groups_done i o groups status.Finished ends there none = groups_answered i o groups status.Finished ends there
groups_done i o groups status.BadScript ends there none = groups_answered i o groups status.BadScript ends there
groups_done i o groups status.ReadFault ends there none = absurd (none.0 ends.0)
groups_done i o groups status.WriteFault (whole, st, source, broke) there none = absurd (none.1 broke.fault)
groups_done i o groups status.Memory ends there none = inr refl
groups_done i o groups status.Usage ends there none = absurd ends
groups_done i o groups status.Starved ends there none = absurd ends
groups_done i o groups status.AllAsleep ends there none = absurd ends
groups_done i o groups status.Spent ends there none = absurd ends

text_done : (o : Output) (whole : List ℕ) (st : Status) → TextEnds o whole st → NoPutFailed o → IsTold o whole status.Finished st
text_done o whole status.Finished wrote none = inl (refl, wrote)
text_done o whole status.WriteFault broke none = absurd (none broke.fault)
text_done o whole status.Memory untouched none = inr refl
text_done o whole status.BadScript ends none = absurd ends
text_done o whole status.Usage ends none = absurd ends
text_done o whole status.Starved ends none = absurd ends
text_done o whole status.AllAsleep ends none = absurd ends
text_done o whole status.Spent ends none = absurd ends
text_done o whole status.ReadFault ends none = absurd ends

load_done : (o : Output) (handed : Option StoreView) (rounds : ℕ) (st : Status) → LoadEnds o handed rounds st → NoPutFailed o → Loaded o handed rounds st ⊎ (st ≡ status.Memory)
load_done o handed rounds status.Finished ends none = inl ends
load_done o handed rounds status.Starved ends none = inl ends
load_done o handed rounds status.AllAsleep ends none = inl ends
load_done o handed rounds status.Spent ends none = inl ends
load_done o handed rounds status.WriteFault (whole, store, st, is, broke, nothing) none = absurd (none broke.fault)
load_done o handed rounds status.Memory ends none = inr refl
load_done o handed rounds status.BadScript ends none = absurd ends
load_done o handed rounds status.Usage ends none = absurd ends
load_done o handed rounds status.ReadFault ends none = absurd ends

others_done : (o : Output) (st : Status) → OthersEnd o st → NoPutFailed o → (st ≡ status.Usage) × Wrote o usage_line
others_done o status.Usage wrote none = (refl, wrote)
others_done o status.WriteFault broke none = absurd (none broke.fault)
others_done o status.Finished ends none = absurd ends
others_done o status.BadScript ends none = absurd ends
others_done o status.Starved ends none = absurd ends
others_done o status.AllAsleep ends none = absurd ends
others_done o status.Spent ends none = absurd ends
others_done o status.ReadFault ends none = absurd ends
others_done o status.Memory ends none = absurd ends

-- who obeys completes
pub completes : {A : Type 0} (words : List (String A)) (i : Input) (o : Output) (handed : Option StoreView) (st : Status) → Obeys words i o handed st
    → Completes words i o handed st
completes words i o handed st obeys = record {
  scripts = λ asked script asks there none. task_done i o handed asked script st (obeys.commands (OnScript asked) asks) there none;
  table = λ asks none. let ends = obeys.commands Table asks in text_done o _ st ends.0 none;
  gen = λ rounds asks none. let ends = obeys.commands (Gen rounds) asks in text_done o _ st ends.0 none;
  load = λ rounds asks none. load_done o handed rounds st (obeys.commands (Load rounds) asks) none;
  groups = λ workers groups asks there none. let ends = obeys.commands (Groups workers) asks in groups_done i o groups st ends.0 there none;
  others = λ nothing none. let ends = obeys.others nothing in others_done o st ends.0 none;
}
