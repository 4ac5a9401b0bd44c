-- Why what `threads` has written tells a history.
use Rattle.std.proofs.Common.{◌≡◌, ℕ, ◌+◌, ◌*◌, ◌^◌, ◌<◌, ◌≤◌, ◌⊎◌, true, false, List, length, Option, Some, Result, Ok, Err, IfOk, string_bytes, ap, ◌∙◌, subst, inl, inr, refl, arith}
use Rattle.kabi_types.specs.declared.entries.End.{End}
use Rattle.kabi_types.specs.declared.entries.End.TheVariants as end
use Rattle.kabi_types.specs.declared.entries.Entry.{Entry}
use Rattle.kabi_types.specs.declared.scripts.Script.{Script}
use Rattle.posix_defs.specs.History.{Past}
use Rattle.posix_defs.specs.Licence.{can_evict_any}
use Rattle.posix_defs.specs.ScriptText.{ReadsText}
use Rattle.posix_defs.specs.Sizes.{reserve}
use Rattle.posix_defs.specs.World.{MayKeep, World, base, cached, live_of, pins}
use Rattle.kern_laws.proofs.Caches.{all_pinned, pins_kept}
use Rattle.turn_words.specs.declared.items.Item.{Item}
use Rattle.kern_shared.specs.Picks.{EndsAs}
use Rattle.kern_shared.specs.Shared.{has_starved}
use Rattle.call_run.specs.Stores.{StoreView}
use Rattle.run_report.specs.Histories.{report_threads}
use Rattle.run_report.specs.declared.runs.Reported.{Reported}
use Rattle.run_report.proofs.Headlines.{entry_keeps}
use Rattle.work_crew.specs.Whole.{IsWhole}
use Rattle.kres_tool.specs.declared.commands.Task.TheVariants as task
use Rattle.kres_tool.specs.declared.statuses.Status.{Status}
use Rattle.kres_tool.specs.declared.statuses.Status.TheVariants as status
use Rattle.kres_tool.specs.Headline.{HasThreaded, IsBareWhere, KeepsNoMore, TellsHistory, ThreadsKeep}
use Rattle.kres_tool.specs.Run.{IsThreadsRunOf, beside, stands}
use Rattle.kres_tool.specs.Status.{status_of}
use Rattle.kres_tool.specs.Tool.{Answered, AnswersText, Input, Output, TaskEnds, makes, refuses}

-- what workers have left, with an end that stands
abbrev pub IsLeft : Script → ℕ → List Entry → Option End → ℕ → StoreView → Type 0
IsLeft script steps entries found charged store = (which : End) × (found ≡ Some which) × IsWhole stands (λ s. s.script) beside script steps entries which charged store

-- of an option that is known there is one value
one_end : (found : Option End) (which other : End) → found ≡ Some which → found ≡ Some other → which ≡ other
one_end found which other is too = cc

-- the report of what they have left, where there was memory for it
pub ran_by_threads : {E : Type 0} (script booted : Script) (store : StoreView) (handed : Option StoreView) (entries : List Entry) (found : Option End) (charged : ℕ) (reported : Result Reported E)
    → booted ≡ script → handed ≡ Some store → IfOk reported (λ it. found ≡ Some it.end)
    → IfOk reported (λ it. (world : World) → stands store world → string_bytes it.text ≡ report_threads entries it.end charged world.reads)
    → IsLeft booted script.steps entries found charged store → IfOk reported (λ it. IsThreadsRunOf script (string_bytes it.text) handed (status_of it.end))
ran_by_threads script booted store handed entries found charged (Err _) same is ends text_is left = tt
ran_by_threads script booted store handed entries found charged (Ok it) same is ends text_is left =
    let run : IsWhole stands (λ s. s.script) beside script script.steps entries it.end charged store =
    subst (λ s. IsWhole stands (λ v. v.script) beside s script.steps entries it.end charged store) same
    (subst (λ e. IsWhole stands (λ v. v.script) beside booted script.steps entries e charged store) (one_end found left.0 it.end left.1 ends) left.2) in
    record {
      entries = entries;
      end = it.end;
      bytes = charged;
      store = store;
      handed_is = is;
      same = run.closes.named;
      run = run;
      text_is = text_is run.closes.world run.closes.stands;
      status_is = refl;
    }

-- an end stands, and there are few entries
pub has_end : (script booted : Script) (store : StoreView) (entries : List Entry) (found : Option End) (charged : ℕ) → IsLeft booted script.steps entries found charged store
    → (which : End) × (found ≡ Some which)
has_end script booted store entries found charged left = (left.0, left.1)

pub few_entries : (script booted : Script) (store : StoreView) (entries : List Entry) (found : Option End) (charged : ℕ) → script.steps ≤ 100000
    → IsLeft booted script.steps entries found charged store → length entries < 2 ^ 32
few_entries script booted store entries found charged most left = let few : length entries ≤ script.steps = left.2.few in omega arith

-- parts of a charge
parts : (charged own own' names blocks vnodes : ℕ) → charged ≡ own + (names * 64 + blocks * 1088 + vnodes * 128) + 2176 → own ≡ own'
    → charged ≡ 2176 + own' + 64 * names + 1088 * blocks + 128 * vnodes
parts charged own own' names blocks vnodes is same = omega arith

-- what is charged at the end is made up so
made_up : (world : World) (past : Past) (charged : ℕ) → world.plain ≡ past.plain → world.account ≡ past.account → charged ≡ live_of world + reserve
    → charged ≡ 2176 + base past.plain past.account + 64 * length world.kept.names + 1088 * length world.kept.blocks + 128 * length world.kept.vnodes
made_up world past charged plain account is =
    parts charged (base world.plain world.account) (base past.plain past.account) (length world.kept.names) (length world.kept.blocks) (length world.kept.vnodes) is
    (ap (λ p. base p world.account) plain ∙ ap (λ a. base past.plain a) account)

cancelled : (own kept pinned : ℕ) → own + kept ≡ own + pinned → kept ≡ pinned
cancelled own kept pinned same = omega arith

-- where all that is kept takes what so many nodes take, and as many nodes are kept at least, nothing else is
no_more : (names blocks vnodes pinned : ℕ) → names * 64 + blocks * 1088 + vnodes * 128 ≡ 128 * pinned → pinned ≤ vnodes
    → (names ≡ 0) × (blocks ≡ 0) × (vnodes ≡ pinned)
no_more names blocks vnodes pinned same many = (omega arith, omega arith, omega arith)

keeps_no_more : (world : World) → MayKeep world.plain world.kept → can_evict_any world ≡ false → KeepsNoMore world
keeps_no_more world may none =
    let all : cached world.kept ≡ 128 * pins world.plain =
    cancelled (base world.plain world.account) (cached world.kept) (128 * pins world.plain) (all_pinned world may none) in
    let found = no_more (length world.kept.names) (length world.kept.blocks) (length world.kept.vnodes) (pins world.plain) all (pins_kept world.plain world.kept may) in
    record { names = found.0; blocks = found.1; vnodes = found.2 }

-- where the run starved nothing could be evicted
bare_where : (script : Script) (steps : ℕ) (items : List Item) (past : Past) (which : End) (world : World) → EndsAs script steps items past (Some which)
    → MayKeep world.plain world.kept → (has_starved items ≡ true → can_evict_any world ≡ false) → IsBareWhere which world
bare_where script steps items past end.Finished world ends may bare = tt
bare_where script steps items past end.AllAsleep world ends may bare = tt
bare_where script steps items past end.Spent world ends may bare = tt
bare_where script steps items past (end.Starved pid need) world ends may bare = keeps_no_more world may (bare ends.2)

-- what is reported of a run by workers
tells_history : (script : Script) (whole : List ℕ) (handed : Option StoreView) (st : Status) (ran : IsThreadsRunOf script whole handed st)
    → TellsHistory script ran.store ran.end whole
tells_history script whole handed st ran =
    let run = ran.run in
    let closes = run.closes in
    let world = closes.world in
    record {
      entries = ran.entries;
      charged = ran.bytes;
      past = run.past;
      world = world;
      told = ran.text_is;
      legal = run.run;
      few = run.few;
      allowed = run.allowed;
      each = entry_keeps script ran.entries run.past run.run;
      left = closes.stands;
      went = closes.led;
      machine = closes.plain;
      account = closes.account;
      within = closes.within;
      made_up = made_up world run.past ran.bytes closes.plain closes.account closes.charged;
      pinned = subst (λ p. pins p ≤ length world.kept.vnodes) closes.plain (pins_kept world.plain world.kept closes.may_keep);
      bare = bare_where script script.steps run.items run.past ran.end world closes.ends closes.may_keep closes.bare;
    }

-- what answers a text but the line of its fault is the report of a run by workers
told : (text whole : List ℕ) (handed : Option StoreView) (workers : ℕ) (st : Status) → AnswersText text whole (task.Threads workers) handed st
    → (st ≡ status.BadScript) ⊎ ((script : Script) × ReadsText text (Ok script) × IsThreadsRunOf script whole handed st)
told text whole handed workers _ (refuses fault why is none) = inl refl
told text whole handed workers _ (makes script st said ran) = inr (script, said, ran)

threaded : (i : Input) (o : Output) (handed : Option StoreView) (workers : ℕ) (st : Status) → Answered i o handed (task.Threads workers) st
    → (st ≡ status.BadScript → ⊥) → HasThreaded i o handed st
threaded i o handed workers st answered other =
    let source = answered.1 in
    elim (told source.text answered.0 handed workers st source.answers) [
      | inl bad ↦ absurd (other bad)
      | inr found ↦
          let ran = found.2 in
          record {
            script = found.0;
            read = record { text = source.text; taken = source.taken; no_fault = source.no_fault; reads = found.1 };
            whole = answered.0;
            wrote = answered.2;
            end = ran.end;
            status_is = ran.status_is;
            store = ran.store;
            handed_is = ran.handed_is;
            same = ran.same;
            tells = tells_history found.0 answered.0 handed st ran;
          }
    ]

pub threads_keep : (i : Input) (o : Output) (handed : Option StoreView) (workers : ℕ) (st : Status) → TaskEnds i o handed (task.Threads workers) st → ThreadsKeep i o handed st
threads_keep i o handed workers status.Finished ends = threaded i o handed workers status.Finished ends (λ same. (cc))
threads_keep i o handed workers status.Starved ends = threaded i o handed workers status.Starved ends (λ same. (cc))
threads_keep i o handed workers status.AllAsleep ends = threaded i o handed workers status.AllAsleep ends (λ same. (cc))
threads_keep i o handed workers status.Spent ends = threaded i o handed workers status.Spent ends (λ same. (cc))
threads_keep i o handed workers status.BadScript ends = tt
threads_keep i o handed workers status.Usage ends = tt
threads_keep i o handed workers status.ReadFault ends = tt
threads_keep i o handed workers status.WriteFault ends = tt
threads_keep i o handed workers status.Memory ends = tt
