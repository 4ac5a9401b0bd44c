-- Why what a report tells keeps the headline.
use Rattle.std.proofs.Common.{◌≡◌, ℕ, zero, suc, ◌≤◌, not, List, [], ◌∷◌, ◌++◌, take, Some, slice_get, ◌⊎◌, inl, inr, refl, ap, sym, subst, arith}
use Rattle.kabi_types.specs.declared.entries.End.{End}
use Rattle.kabi_types.specs.declared.entries.Entry.{Entry}
use Rattle.kabi_types.specs.declared.entries.Entry.TheVariants as entry
use Rattle.kabi_types.specs.declared.entries.Event.{Event}
use Rattle.kabi_types.specs.declared.entries.Event.TheVariants.{Ask, Admit, Turn, Wake, Abandon, Evict, Kill}
use Rattle.kabi_types.specs.declared.entries.Noted.{Noted}
use Rattle.kabi_types.specs.declared.scripts.Script.{Script}
use Rattle.posix_defs.specs.Sizes.{fixed}
use Rattle.posix_defs.specs.Plain.{call_of}
use Rattle.posix_defs.specs.World.{World}
use Rattle.posix_defs.specs.CoreState.{CoreState, charged_in}
use Rattle.posix_defs.specs.CoreEvent.{StepsBy}
use Rattle.posix_defs.specs.CoreRun.{entries_of, peak_of}
use Rattle.posix_defs.specs.Enabled.{MayKill}
use Rattle.posix_defs.specs.History.{IsRun, MayFollow, Past}
use Rattle.posix_defs.specs.History as history
use Rattle.posix_defs.specs.ValidScript.{IsValid}
use Rattle.kern_laws.proofs.Charged.{charged_within}
use Rattle.kern_laws.proofs.Errors.{never_wants}
use Rattle.kern_laws.proofs.Legal.{legal, licensed}
use Rattle.kern_laws.proofs.LivingVictim.{victim_lives}
use Rattle.kern_core.specs.RunOver.{IsRunOver, boots, goes_on}
use Rattle.kern_core.proofs.PickedRuns.{is_picked, is_stood_for}
use Rattle.run_report.specs.Headline.{EntryKeeps, EventKeeps, IsLastResort, KeepsHeadline, KeepsToRoom}
use Rattle.run_report.specs.Reports.{IsReport}
use Rattle.run_report.specs.Summaries.{IsSummary, KeepsSummary}

-- an item of a list that grew by one is of the list before, or the last one
before_or_last : {X : Type 0} (xs : List X) (x y : X) (i : ℕ) → slice_get (xs ++ x ∷ []) i ≡ Some y
    → ((slice_get xs i ≡ Some y) × (take i (xs ++ x ∷ []) ≡ take i xs)) ⊎ ((x ≡ y) × (take i (xs ++ x ∷ []) ≡ xs))
before_or_last [] x y zero is = inr ((cc), refl)
before_or_last [] x y (suc i) is = cc
before_or_last (z ∷ xs) x y zero is = inl (is, refl)
before_or_last (z ∷ xs) x y (suc i) is = elim (before_or_last xs x y i is) [
  | inl found ↦ inl (found.0, ap (λ zs. z ∷ zs) found.1)
  | inr found ↦ inr (found.0, ap (λ zs. z ∷ zs) found.1)
]

-- what is noted as charged is what is charged then
noted_charge : (script : Script) (old : CoreState) (event : Event) (noted : Noted) (new : CoreState) → StepsBy script old event noted new → noted.charged ≡ charged_in new
noted_charge script old (Ask pid) noted new step = elim step [ inl asks ↦ ap (λ n. n.charged) asks.noted_so | inr refuses ↦ ap (λ n. n.charged) refuses.noted_so ]
noted_charge script old (Admit pid) noted new step = ap (λ n. n.charged) step.noted_so
noted_charge script old (Turn pid) noted new step = ap (λ n. n.charged) step.noted_so
noted_charge script old (Wake pid) noted new step = ap (λ n. n.charged) step.noted_so
noted_charge script old (Abandon pid) noted new step = ap (λ n. n.charged) step.noted_so
noted_charge script old (Evict what) noted new step = ap (λ n. n.charged) step.noted_so
noted_charge script old (Kill pid) noted new step = ap (λ n. n.charged) step.noted_so

last_resort : (script : Script) (s : CoreState) (pid : ℕ) → MayKill script s pid → IsLastResort script s pid
last_resort script s pid may =
    let licence = licensed script s may.licensed in
    let victim = victim_lives script.policy s.world.plain s.world.account pid may.victim in
    record {
      in_vain = licence.3;
      admitted = ap not licence.0;
      fitting = licence.1;
      evictable = licence.2;
      victim = may.victim;
      other = victim.1;
      alive = victim.0;
    }

-- a process that is killed was the last resort
kills_last : (script : Script) (old : CoreState) (event : Event) (noted : Noted) (new : CoreState) (pid : ℕ) → StepsBy script old event noted new
    → event ≡ Kill pid → IsLastResort script old pid
kills_last script old (Ask _) noted new pid step is = absurd (cc)
kills_last script old (Admit _) noted new pid step is = absurd (cc)
kills_last script old (Turn _) noted new pid step is = absurd (cc)
kills_last script old (Wake _) noted new pid step is = absurd (cc)
kills_last script old (Abandon _) noted new pid step is = absurd (cc)
kills_last script old (Evict _) noted new pid step is = absurd (cc)
kills_last script old (Kill killed) noted new pid step is =
    let same : killed ≡ pid = (cc) in
    subst (IsLastResort script old) same (last_resort script old killed step.enabled)

module _ {T : Type 0} (stands_for : T → World → Type 0) (marks high : T → ℕ) (script : Script) (enough : fixed ≤ script.heap) where
  -- each event of a run keeps within the heap, and kills nobody but as the last resort
  event_keeps : (run : List Noted) (s : CoreState) (store : T) → IsRunOver stands_for marks high script script.steps run s store
      → (i : ℕ) (noted : Noted) → slice_get run i ≡ Some noted → EventKeeps stands_for marks high script (take i run) noted
  event_keeps _ _ _ (boots store stands) i noted is = absurd (cc)
  event_keeps _ _ _ (goes_on run old new before after last runs no_end chosen step stands within) i noted is = elim (before_or_last run last noted i is) [
    | inl found ↦ subst (λ earlier. EventKeeps stands_for marks high script earlier noted) (sym found.1) (event_keeps run old before runs i noted found.0)
    | inr found ↦
        let charge = noted_charge script old last.event last new step in
        let more = goes_on run old new before after last runs no_end chosen step stands within in
        let ran = is_picked more in
        subst (λ earlier. EventKeeps stands_for marks high script earlier noted) (sym found.1)
        (subst (EventKeeps stands_for marks high script run) found.0 record {
          old = old;
          store = before;
          led = runs;
          new = new;
          store' = after;
          leads = more;
          steps = step;
          charged = charge;
          within = subst (λ n. n ≤ script.heap) (sym charge) (charged_within ran enough);
          inside = within;
          licensed = λ pid kills. kills_last script old last.event last new pid step kills;
        })
  ]

-- an answer that the machine allows keeps to the room
keeps_to_room : (script : Script) (past next : Past) (added : Entry) → MayFollow script past added next → KeepsToRoom script past added
keeps_to_room script past next (entry.Done pid _ reply) follows =
    (follows.may_run.fits_ever, never_wants script past.plain follows.plain pid (call_of script past.plain pid) reply follows.answers)
keeps_to_room script past next (entry.Part _ _ _) follows = follows.may_run.fits_ever
keeps_to_room script past next (entry.Refused _ _ _) follows = (follows.is_bound, follows.never_fits)
keeps_to_room script past next (entry.Slept _ _) follows = follows.may_run.fits_ever
keeps_to_room script past next (entry.Ended _ _ _) follows = follows.may_run.fits_ever
keeps_to_room script past next (entry.Gone _ _) follows = tt
keeps_to_room script past next (entry.Killed _ _ _ _) follows = tt
keeps_to_room script past next (entry.Evicted _) follows = tt

-- each entry of a legal history is allowed there, and keeps to the room
pub entry_keeps : (script : Script) (told : List Entry) (past : Past) → IsRun script told past
    → (i : ℕ) (added : Entry) → slice_get told i ≡ Some added → EntryKeeps script (take i told) added
entry_keeps script _ _ history.boots i added is = absurd (cc)
entry_keeps script _ _ (history.goes_on told past next last before follows) i added is = elim (before_or_last told last added i is) [
  | inl found ↦ subst (λ earlier. EntryKeeps script earlier added) (sym found.1) (entry_keeps script told past before i added found.0)
  | inr found ↦
      subst (λ earlier. EntryKeeps script earlier added) (sym found.1)
      (subst (EntryKeeps script told) found.0 record {
        past = past;
        led = before;
        next = next;
        follows = follows;
        room = keeps_to_room script past next last follows;
      })
]

-- the peak is the greatest charge that is told, or what is charged at boot
peak_within : (heap : ℕ) (run : List Noted) → fixed ≤ heap → ((i : ℕ) (noted : Noted) → slice_get run i ≡ Some noted → noted.charged ≤ heap) → peak_of run ≤ heap
peak_within heap [] enough each = enough
peak_within heap (noted ∷ run) enough each =
    let first : noted.charged ≤ heap = each 0 noted refl in
    let rest : peak_of run ≤ heap = peak_within heap run enough (λ i later is. each (suc i) later is) in
    omega arith

-- a report of a valid script's run keeps the headline
pub keeps_headline : {T : Type 0} (stands_for : T → World → Type 0) (marks high : T → ℕ) (script : Script) (store : T) (end : End) (text : List ℕ)
    → IsValid script → IsReport stands_for marks high script store end text → KeepsHeadline stands_for marks high script store end text
keeps_headline stands_for marks high script store end text valid it =
    let enough : fixed ≤ script.heap = (let least : 8192 ≤ script.heap = valid.least_heap in omega arith) in
    let ran = is_picked it.runs in
    let found = legal ran in
    let events = event_keeps stands_for marks high script enough it.run it.state store it.runs in
    record {
      run = it.run;
      state = it.state;
      told = it.text_is;
      went = it.runs;
      ended = it.ends;
      left = is_stood_for it.runs;
      charged = charged_within ran enough;
      peak = peak_within script.heap it.run enough (λ i noted is. (events i noted is).within);
      events = events;
      past = found.past;
      legal = found.is_run;
      machine = found.plain_is;
      account = found.account_is;
      entries = entry_keeps script (entries_of it.run) found.past found.is_run;
    }

-- and so does the run that a summary sums up
pub keeps_summary : {T : Type 0} (stands_for : T → World → Type 0) (marks high : T → ℕ) (script : Script) (store : T) (end : End) (rounds : ℕ) (text : List ℕ)
    → IsValid script → IsSummary stands_for marks high script store end rounds text → KeepsSummary stands_for marks high script store end rounds text
unfolding keeps_headline
keeps_summary stands_for marks high script store end rounds text valid it =
    record { report = it.report; keeps = keeps_headline stands_for marks high script store end it.report valid it.is; told = it.text_is }
