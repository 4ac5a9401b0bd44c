-- The entries of every run of the core are a legal history.
use Rattle.std.proofs.Common.{◌≡◌, ◌≢◌, ℕ, zero, suc, ◌+◌, ◌-◌, ◌<◌, ◌≤◌, ◌==◌, not, ◌&&◌, ◌||◌, cond, Bool, true, false, List, [], ◌∷◌, ◌++◌, filter, Option, None, Some, is_some, slice_get, refl, ap, sym, ◌∙◌, subst, arith, ◌⊎◌, inl, inr}
use Rattle.std.specs.List.{cons_option, list_any}
use borrow.Author.Tests.{eqb-true, eq-eqb}
use Rattle.std.proofs.lemmas.Bool.Decides.{nat_tests}
use Rattle.std.proofs.lemmas.List.Sums.{sum_by-cons}
use Rattle.std.specs.Option.{option_to_list}
use Rattle.std.proofs.lemmas.List.{append-nil, length-set}
use Rattle.kabi_types.specs.Call.{kind_of}
use Rattle.kabi_types.specs.declared.entries.Entry.{Entry}
use Rattle.kabi_types.specs.declared.entries.Entry.TheVariants as entry
use Rattle.kabi_types.specs.declared.errnos.Errno.TheVariants.{ENOMEM}
use Rattle.kabi_types.specs.declared.replies.Reply.{Reply}
use Rattle.kabi_types.specs.declared.replies.Reply.TheVariants.{Fail}
use Rattle.kabi_types.specs.declared.entries.Event.{Event}
use Rattle.kabi_types.specs.declared.entries.Event.TheVariants.{Ask, Admit, Turn, Wake, Abandon, Evict, Kill}
use Rattle.kabi_types.specs.declared.entries.Noted.{Noted}
use Rattle.kabi_types.specs.declared.scripts.Script.{Script}
use Rattle.posix_defs.specs.declared.phases.Asked.{Asked}
use Rattle.posix_defs.specs.declared.phases.Phase.{Phase}
use Rattle.posix_defs.specs.declared.phases.Phase.TheVariants.{User, Waiting, Admitted, Asleep, Stranded, Dead}
use Rattle.posix_defs.specs.declared.phases.Task.{Task}
use Rattle.posix_defs.specs.declared.turner.Turned.{Turned}
use Rattle.posix_defs.specs.declared.turner.Turned.TheVariants as turned
use Rattle.posix_defs.specs.Needs.{bound, need_of}
use Rattle.posix_defs.specs.Sizes.{reserve, room}
use Rattle.posix_defs.specs.Process.{is_alive}
use Rattle.posix_defs.specs.Plain.{Plain, answered, call_of, last_pid}
use Rattle.posix_defs.specs.Ending.{die}
use Rattle.posix_defs.specs.Machine.{machine, would_block}
use Rattle.posix_defs.specs.World.{live_of}
use Rattle.posix_defs.specs.Victim.{victim_of}
use Rattle.posix_defs.specs.Turn.{Tells, account_after}
use Rattle.posix_defs.specs.CoreState.{CoreState, asked_by, boot_state, charged_in, fits, held, is_admitted, is_waiting, lives, none_admitted, phase_in, phase_of, reserved_in, some_fits, some_wait_in_vain, waits_and_fits, with_phase_in}
use Rattle.posix_defs.specs.Licence.{can_evict_any, is_licensed}
use Rattle.posix_defs.specs.Enabled.{IsIn}
use Rattle.posix_defs.specs.CoreEvent.{StepsBy, Refuses, Turns, KillsOne, born, buried, entry_of, phase_after, refusal, EvictsOne}
use Rattle.posix_defs.specs.SoundTasks.{AreRising, IsSound}
use Rattle.posix_defs.specs.CoreRun.{IsRunBy, boots, goes_on, entries_of}
use Rattle.posix_defs.specs.History as history
use Rattle.posix_defs.specs.History.{Past, IsRun, MayFollow, MayRun, boot_past, had_turn, is_among, is_up, moves_on, others, still_asleep, AreCovered, fills_after, one_more}
use Rattle.kern_laws.proofs.EnabledEvents.{phase_behind}
use Rattle.kern_laws.proofs.Nexts.{IsNext, die_next}
use Rattle.kern_laws.proofs.Tasks.{found_fits, phase_front, phase_other, phase_own, phase_without}
use Rattle.kern_laws.proofs.BuriedTasks.{phase_buried}
use Rattle.kern_laws.proofs.Sounds.{is_sound, own_left}
use Rattle.kern_laws.specs.Filled.{AreFilled}
use Rattle.kern_laws.proofs.Followed.{eviction_leads, filled_turn, kill_leads, killed_legal, past_evicted, past_killed, past_refused, refused_legal, sleepers_told, turn_legal}
use Rattle.kabi_types.specs.declared.entries.Cached.{Cached}

-- who sleeps in a history sleeps in the core, or has ended
abbrev pub SleepsOrDied : CoreState → ℕ → Type 0
SleepsOrDied s pid = IsIn s pid Asleep ⊎ (lives s pid ≡ false)

pub record Sleeper (script : Script) (s : CoreState) (pid : ℕ) : Type 0 where
  pub made : pid ≤ last_pid s.world.plain
  pub blocks : would_block script s.world.plain pid ≡ true
  pub phase : SleepsOrDied s pid

-- A run of entries that stands for the same machine, and who sleeps in it.
pub record StandsFor (script : Script) (entries : List Entry) (s : CoreState) : Type 0 where
  pub past : Past
  pub is_run : IsRun script entries past
  pub plain_is : past.plain ≡ s.world.plain
  pub account_is : past.account ≡ s.world.account
  pub sleepers : (pid : ℕ) → is_among pid past.asleep ≡ true → Sleeper script s pid
  pub filled : AreFilled s.world.kept past

append-cons_option : {X : Type 0} (o : Option X) (xs ys : List X) → cons_option o xs ++ ys ≡ cons_option o (xs ++ ys)
append-cons_option None xs ys = refl
append-cons_option (Some x) xs ys = refl

cons_option-nil : {X : Type 0} (o : Option X) → cons_option o [] ≡ option_to_list o
cons_option-nil None = refl
cons_option-nil (Some x) = refl

-- an event adds its entry, if it has one
entries_more : (run : List Noted) (noted : Noted) → entries_of (run ++ noted ∷ []) ≡ entries_of run ++ option_to_list noted.entry
entries_more [] noted = cons_option-nil noted.entry
entries_more (first ∷ run) noted = ap (cons_option first.entry) (entries_more run noted) ∙ sym (append-cons_option first.entry (entries_of run) (option_to_list noted.entry))

-- two pids are one or they aren't
same_or_not : (a b : ℕ) → (a ≡ b) ⊎ (a ≢ b)
same_or_not a b = go (a == b) refl
  where
    apart : (a == b) ≡ false → a ≢ b
    apart e same = let f : (a == b) ≡ true = eq-eqb a b same in cc

    go : (t : Bool) → (a == b) ≡ t → (a ≡ b) ⊎ (a ≢ b)
    go true e = inl (eqb-true a b e)
    go false e = inr (apart e)

-- who is among some of a list
among_filter : (f : ℕ → Bool) (pids : List ℕ) (pid : ℕ) → is_among pid (filter f pids) ≡ true → (f pid ≡ true) × (is_among pid pids ≡ true)
among_filter f [] pid e = cc
among_filter f (p ∷ pids) pid e = go (λ found. among_filter f pids pid found) (f p) refl (p == pid) refl e
  where
    go : (is_among pid (filter f pids) ≡ true → (f pid ≡ true) × (is_among pid pids ≡ true)) → (k : Bool) → f p ≡ k → (b : Bool) → (p == pid) ≡ b
        → is_among pid (cond k (p ∷ filter f pids) (filter f pids)) ≡ true → (f pid ≡ true) × ((b || is_among pid pids) ≡ true)
    go rest true fp true same e = (ap f (sym (eqb-true p pid same)) ∙ fp, refl)
    go rest true fp false same e =
        let found = rest (subst (λ b. (b || is_among pid (filter f pids)) ≡ true) same e) in found
    go rest false fp true same e = let found = rest e in (found.0, refl)
    go rest false fp false same e = rest e

not_equal_pids : (a b : ℕ) → not (a == b) ≡ true → a ≢ b
not_equal_pids a b e same = go (a == b) (eq-eqb a b same) e
  where
    go : (t : Bool) → t ≡ true → not t ≡ true → ⊥
    go true p q = cc
    go false p q = cc

among_others : (pid other : ℕ) (pids : List ℕ) → is_among other (others pid pids) ≡ true → (other ≢ pid) × (is_among other pids ≡ true)
among_others pid other pids e =
    let found = among_filter (λ p. not (p == pid)) pids other e in (not_equal_pids other pid found.0, found.1)

-- whose phase stays, but of the process that an event is of
abbrev Frame : CoreState → CoreState → ℕ → Type 0
Frame old new pid = (other : ℕ) → other ≢ pid → other ≤ last_pid old.world.plain → SleepsOrDied old other → SleepsOrDied new other

-- one task in another phase, in the same machine or in one where the same are alive
phase_frame : (old new : CoreState) (pid : ℕ) (phase : Phase) → new.tasks ≡ with_phase_in old.tasks pid phase
    → new.world.plain.table ≡ old.world.plain.table → Frame old new pid
phase_frame old new pid phase tasks table other apart made sleeps = elim sleeps [
  | inl asleep ↦ inl (record { asked = asleep.asked; is = ap (λ ts. phase_in ts other) tasks ∙ phase_other old.tasks pid other phase apart ∙ asleep.is })
  | inr died ↦ inr (ap (λ t. is_alive t other) table ∙ died)
]

-- an event that adds no entry leaves the machine
silent : (script : Script) (run : List Noted) (noted : Noted) (old new : CoreState) (pid : ℕ) → noted.entry ≡ None
    → new.world ≡ old.world → Frame old new pid → (Sleeper script old pid → SleepsOrDied new pid)
    → StandsFor script (entries_of run) old → StandsFor script (entries_of (run ++ noted ∷ [])) new
silent script run noted old new pid none world frame own stands = record {
  past = stands.past;
  is_run = subst (λ entries. IsRun script entries stands.past) (sym (entries_more run noted ∙ ap (λ o. entries_of run ++ option_to_list o) none ∙ append-nil (entries_of run))) stands.is_run;
  plain_is = stands.plain_is ∙ sym (ap (λ w. w.plain) world);
  account_is = stands.account_is ∙ sym (ap (λ w. w.account) world);
  sleepers = λ other found. let before = stands.sleepers other found in record {
    made = subst (λ w. other ≤ last_pid w.plain) (sym world) before.made;
    blocks = ap (λ w. would_block script w.plain other) world ∙ before.blocks;
    phase = elim (same_or_not other pid) [
      | inl same ↦ subst (SleepsOrDied new) (sym same) (own (subst (Sleeper script old) same before))
      | inr apart ↦ frame other apart before.made before.phase
    ];
  };
  filled = subst (λ w. AreFilled w.kept stands.past) (sym world) stands.filled;
}

-- who is in another phase, and alive, doesn't sleep
not_asleep : (script : Script) (s : CoreState) (pid : ℕ) → Sleeper script s pid → lives s pid ≡ true → ((asked : Asked) → phase_of s pid ≢ Asleep asked) → ⊥
not_asleep script s pid sleeper alive other = elim sleeper.phase [
  | inl asleep ↦ other asleep.asked asleep.is
  | inr died ↦ (let e = alive in cc)
]

-- who sleeps by what was told slept before, or sleeps now
from_told : (told : Turned) (pid other : ℕ) (asleep : List ℕ) → is_among other (sleepers_told told pid asleep) ≡ true
    → ((other ≡ pid) × ((asked : Asked) → phase_after asked told ≡ Asleep asked)) ⊎ (is_among other asleep ≡ true)
from_told (turned.Done _) pid other asleep e = inr (among_others pid other asleep e).1
from_told (turned.Part _) pid other asleep e = go (pid == other) refl e
  where
    go : (b : Bool) → (pid == other) ≡ b → (b || is_among other (others pid asleep)) ≡ true
        → ((other ≡ pid) × ((asked : Asked) → Asleep asked ≡ Asleep asked)) ⊎ (is_among other asleep ≡ true)
    go true same e = inl (sym (eqb-true pid other same), λ asked. refl)
    go false same e = inr (among_others pid other asleep e).1
from_told turned.Sleep pid other asleep e = go (pid == other) refl e
  where
    go : (b : Bool) → (pid == other) ≡ b → (b || is_among other asleep) ≡ true
        → ((other ≡ pid) × ((asked : Asked) → Asleep asked ≡ Asleep asked)) ⊎ (is_among other asleep ≡ true)
    go true same e = inl (sym (eqb-true pid other same), λ asked. refl)
    go false same e = inr e
from_told (turned.Ended _) pid other asleep e = inr (among_others pid other asleep e).1
from_told turned.Gone pid other asleep e = inr e

-- whoever slept and is alive behind a change of the machine sleeps still
left_frame : (old new : CoreState) (pid : ℕ) (tasks : List Task) (behind : List Task) → IsNext old.world.plain new.world.plain pid
    → ((other : ℕ) (phase : Phase) → other ≢ pid → phase_in old.tasks other ≡ phase → phase_in tasks other ≡ phase)
    → new.tasks ≡ buried new.world.plain tasks ++ behind → Frame old new pid
left_frame old new pid tasks behind next same after other apart made sleeps = go (is_alive new.world.plain.table other) refl
  where
    slept : is_alive new.world.plain.table other ≡ true → IsIn old other Asleep → IsIn new other Asleep
    slept alive asleep = record {
      asked = asleep.asked;
      is = ap (λ ts. phase_in ts other) after
          ∙ phase_front (buried new.world.plain tasks) behind other (Asleep asleep.asked)
          (phase_buried new.world.plain tasks other (Asleep asleep.asked) alive (same other (Asleep asleep.asked) apart asleep.is) refl) (λ e. (cc));
    }

    go : (b : Bool) → is_alive new.world.plain.table other ≡ b → SleepsOrDied new other
    go false e = inr e
    go true e = elim sleeps [
      | inl asleep ↦ inl (slept e asleep)
      | inr died ↦ absurd (let lived : is_alive old.world.plain.table other ≡ true = next.revived other made e in let d = died in cc)
    ]

-- who isn't asleep is up
is_awake : (script : Script) (s : CoreState) (past : Past) (pid : ℕ) → ((other : ℕ) → is_among other past.asleep ≡ true → Sleeper script s other)
    → lives s pid ≡ true → ((asked : Asked) → phase_of s pid ≢ Asleep asked) → is_up past pid ≡ true
is_awake script s past pid sleepers alive other = go (is_among pid past.asleep) refl
  where
    go : (b : Bool) → is_among pid past.asleep ≡ b → not b ≡ true
    go true e = absurd (not_asleep script s pid (sleepers pid e) alive other)
    go false e = refl

step_turn : (script : Script) (run : List Noted) (old : CoreState) (pid : ℕ) (noted : Noted) (new : CoreState) → Turns script old pid noted new
    → IsSound script old → StandsFor script (entries_of run) old → StandsFor script (entries_of (run ++ noted ∷ [])) new
step_turn script run old pid noted new step sound stands =
    let past = stands.past in
    let asked = step.enabled.asked in
    let phase = phase_after (asked_by script new.world.plain pid) step.told in
    let same = sym stands.plain_is in
    let fits = found_fits script old.world.plain old.tasks pid (Admitted asked) sound.each step.enabled.is (λ e. (cc)) in
    let own = own_left script old.world.plain new.world.plain pid asked step.told phase sound.made fits.phase.0 fits.made fits.phase.1 step.answers.answer refl in
    let bounded : bound (call_of script old.world.plain pid) ≤ room script.heap =
    subst (λ a. a.bound ≤ room script.heap) fits.phase.1.same fits.phase.1.fits_ever in
    let up = is_awake script old past pid stands.sleepers fits.phase.0 (λ a e. different step.enabled.is e) in
    let leads = turn_legal script past pid step.told new.world.plain
    (subst (λ p. is_alive p.table pid ≡ true) same fits.phase.0) up
    (subst (λ p. bound (call_of script p pid) ≤ room script.heap) same bounded)
    (subst (λ p. Tells (machine script p pid (call_of script p pid)) p step.told new.world.plain) same step.answers.answer) in
    let added : noted.entry ≡ Some (entry_of pid (kind_of (call_of script past.plain pid)) step.told) =
    ap (λ n. n.entry) step.noted_so ∙ ap (λ a. Some (entry_of pid a.kind step.told)) fits.phase.1.same
    ∙ ap (λ p. Some (entry_of pid (kind_of (call_of script p pid)) step.told)) same in
    record {
      past = leads.next;
      is_run = subst (λ entries. IsRun script entries leads.next) (sym (entries_more run noted ∙ ap (λ o. entries_of run ++ option_to_list o) added))
          (history.goes_on (entries_of run) past leads.next (entry_of pid (kind_of (call_of script past.plain pid)) step.told) stands.is_run leads.follows);
      plain_is = leads.plain_is;
      account_is = leads.account_is
          ∙ ap (λ p. account_after past.account p pid (call_of script p pid) (machine script p pid (call_of script p pid))) stands.plain_is
          ∙ ap (λ a. account_after a old.world.plain pid (call_of script old.world.plain pid) (machine script old.world.plain pid (call_of script old.world.plain pid))) stands.account_is
          ∙ sym step.answers.account;
      sleepers = λ other found. sleeps own.0 leads.asleep up other found;
      filled = filled_turn past leads.next old.world.kept new.world.kept (need_of (call_of script old.world.plain pid)) stands.filled
          (leads.filled ∙ ap (λ p. fills_after past.filled (need_of (call_of script p pid))) stands.plain_is) leads.evicted
          step.answers.names step.answers.blocks step.answers.vnodes;
    }
  where
    different : {a b : Asked} → phase_of old pid ≡ Admitted a → phase_of old pid ≡ Asleep b → ⊥
    different e f = cc

    not_up : is_up stands.past pid ≡ true → is_among pid stands.past.asleep ≡ true → ⊥
    not_up up e = go (is_among pid stands.past.asleep) up e
      where
        go : (b : Bool) → not b ≡ true → b ≡ true → ⊥
        go true u e = cc
        go false u e = cc

    own_phase : (asked : Asked) → phase_after (asked_by script new.world.plain pid) step.told ≡ Asleep asked → SleepsOrDied new pid
    own_phase a is = go (is_alive new.world.plain.table pid) refl
      where
        go : (b : Bool) → is_alive new.world.plain.table pid ≡ b → SleepsOrDied new pid
        go false e = inr e
        go true e = inl (record {
          asked = a;
          is = ap (λ ts. phase_in ts pid) step.tasks
              ∙ phase_front (buried new.world.plain (with_phase_in old.tasks pid (phase_after (asked_by script new.world.plain pid) step.told)))
              (born (last_pid old.world.plain + 1) (last_pid new.world.plain - last_pid old.world.plain)) pid (Asleep a)
              (phase_buried new.world.plain (with_phase_in old.tasks pid (phase_after (asked_by script new.world.plain pid) step.told)) pid (Asleep a) e
              (phase_own old.tasks pid (Admitted step.enabled.asked) (phase_after (asked_by script new.world.plain pid) step.told) step.enabled.is (λ e. (cc)) ∙ is) refl) (λ e. (cc));
        })

    sleeps : IsNext old.world.plain new.world.plain pid → {asleep : List ℕ} → asleep ≡ still_asleep script new.world.plain (sleepers_told step.told pid stands.past.asleep)
        → is_up stands.past pid ≡ true → (other : ℕ) → is_among other asleep ≡ true → Sleeper script new other
    sleeps next asleep_is up other found =
        let among = among_filter (would_block script new.world.plain) (sleepers_told step.told pid stands.past.asleep) other
        (subst (λ pids. is_among other pids ≡ true) asleep_is found) in
        elim (from_told step.told pid other stands.past.asleep among.1) [
          | inl now ↦ record {
            made = let there = found_fits script old.world.plain old.tasks pid (Admitted step.enabled.asked) sound.each step.enabled.is (λ e. (cc)) in
                let h : pid ≤ last_pid old.world.plain = there.made in let k : last_pid old.world.plain ≤ last_pid new.world.plain = next.more in
                let same : other ≡ pid = now.0 in omega arith;
            blocks = among.0;
            phase = subst (SleepsOrDied new) (sym now.0) (own_phase (asked_by script new.world.plain pid) (now.1 (asked_by script new.world.plain pid)));
          }
          | inr before ↦
              let sleeper = stands.sleepers other before in
              let apart : other ≢ pid = λ same. not_up up (subst (λ p. is_among p stands.past.asleep ≡ true) same before) in
              record {
                made = let h : other ≤ last_pid old.world.plain = sleeper.made in let k : last_pid old.world.plain ≤ last_pid new.world.plain = next.more in omega arith;
                blocks = among.0;
                phase = left_frame old new pid (with_phase_in old.tasks pid (phase_after (asked_by script new.world.plain pid) step.told))
                    (born (last_pid old.world.plain + 1) (last_pid new.world.plain - last_pid old.world.plain)) next
                    (λ q p apart is. phase_other old.tasks pid q (phase_after (asked_by script new.world.plain pid) step.told) apart ∙ is)
                    step.tasks other apart sleeper.made sleeper.phase;
              }
        ]

answered_last : (script : Script) (plain : Plain) (pid : ℕ) (reply : Reply) → last_pid (answered script plain pid reply) ≡ last_pid plain
answered_last script plain zero reply = refl
answered_last script plain (suc i) reply = length-set plain.controls i _

step_refused : (script : Script) (run : List Noted) (old : CoreState) (pid : ℕ) (noted : Noted) (new : CoreState) → Refuses script old pid noted new
    → IsSound script old → StandsFor script (entries_of run) old → StandsFor script (entries_of (run ++ noted ∷ [])) new
step_refused script run old pid noted new step sound stands =
    let past = stands.past in
    let same = sym stands.plain_is in
    let after = answered script past.plain pid (Fail ENOMEM) in
    let next : Past = past_refused script past pid in
    let alive = (found_fits script old.world.plain old.tasks pid User sound.each step.enabled (λ e. (cc))).phase in
    let added : noted.entry ≡ Some (refusal pid (asked_by script past.plain pid)) =
    ap (λ n. n.entry) step.noted_so ∙ ap (λ p. Some (refusal pid (asked_by script p pid))) same in
    let plain : after ≡ new.world.plain = ap (λ p. answered script p pid (Fail ENOMEM)) stands.plain_is ∙ sym (ap (λ s. s.world.plain) step.after) in
    record {
      past = next;
      is_run = subst (λ entries. IsRun script entries next) (sym (entries_more run noted ∙ ap (λ o. entries_of run ++ option_to_list o) added))
          (history.goes_on (entries_of run) past next (refusal pid (asked_by script past.plain pid)) stands.is_run
          (refused_legal script past pid (subst (λ p. is_alive p.table pid ≡ true) same alive)
          (subst (λ p. room script.heap < (asked_by script p pid).bound) same step.never_fits)));
      plain_is = plain;
      account_is = stands.account_is ∙ sym (ap (λ s. s.world.account) step.after);
      sleepers = λ other found.
          let among = among_filter (would_block script after) (others pid past.asleep) other found in
          let before = among_others pid other past.asleep among.1 in
          let sleeper = stands.sleepers other before.1 in
          record {
            made = subst (λ p. other ≤ last_pid p) plain
                (let kept : last_pid after ≡ last_pid old.world.plain = refused_last script old pid new step plain in
                let h : other ≤ last_pid old.world.plain = sleeper.made in omega arith);
            blocks = subst (λ p. would_block script p other ≡ true) plain among.0;
            phase = phase_frame old new pid User (ap (λ s. s.tasks) step.after) (ap (λ s. s.world.plain.table) step.after) other before.0 sleeper.made sleeper.phase;
          };
      filled = subst (λ k. AreFilled k next) (sym (ap (λ s. s.world.kept) step.after))
          (record { names = stands.filled.names; blocks = stands.filled.blocks; vnodes = stands.filled.vnodes });
    }
  where
    refused_last : (script : Script) (old : CoreState) (pid : ℕ) (new : CoreState) (step : Refuses script old pid noted new) {after : Plain} → after ≡ new.world.plain
        → last_pid after ≡ last_pid old.world.plain
    refused_last script old pid new step e =
        ap last_pid e ∙ ap (λ s. last_pid s.world.plain) step.after ∙ answered_last script old.world.plain pid (Fail ENOMEM)

-- what a filter finds first stands in the list behind a front
filtered_first : (f : Task → Bool) (tasks : List Task) (task : Task) → slice_get (filter f tasks) 0 ≡ Some task
    → (before : List Task) × (rest : List Task) × (tasks ≡ before ++ task ∷ rest)
filtered_first f [] task e = cc
filtered_first f (first ∷ tasks) task e = go (filtered_first f tasks task) (f first) e
  where
    go : (slice_get (filter f tasks) 0 ≡ Some task → (before : List Task) × (rest : List Task) × (tasks ≡ before ++ task ∷ rest)) → (b : Bool)
        → slice_get (cond b (first ∷ filter f tasks) (filter f tasks)) 0 ≡ Some task
        → (before : List Task) × (rest : List Task) × (first ∷ tasks ≡ before ++ task ∷ rest)
    go later true e = ([], tasks, (let same : first ≡ task = (cc) in ap (λ t. t ∷ tasks) same))
    go later false e = let found = later e in (first ∷ found.0, found.1, ap (λ ts. first ∷ ts) found.2)

both : (a b : Bool) → (a && b) ≡ true → (a ≡ true) × (b ≡ true)
both true true e = (refl, refl)
both true false e = cc
both false b e = cc

not_true : (a : Bool) → not a ≡ true → a ≡ false
not_true true e = cc
not_true false e = refl

-- nothing is in reserve where none is admitted
none_reserved : (tasks : List Task) → list_any (λ task. is_admitted task.phase) tasks ≡ false → reserved_in tasks ≡ 0
none_reserved [] e = refl
none_reserved (task ∷ tasks) e =
    sum_by-cons (λ t. held t.phase) task tasks ∙ go task.phase e (none_reserved tasks)
  where
    go : (phase : Phase) → (is_admitted phase || list_any (λ task. is_admitted task.phase) tasks) ≡ false
        → (list_any (λ task. is_admitted task.phase) tasks ≡ false → reserved_in tasks ≡ 0) → held phase + reserved_in tasks ≡ 0
    go User e rest = let none : reserved_in tasks ≡ 0 = rest e in omega arith
    go (Waiting a) e rest = let none : reserved_in tasks ≡ 0 = rest e in omega arith
    go (Admitted a) e rest = cc
    go (Asleep a) e rest = let none : reserved_in tasks ≡ 0 = rest e in omega arith
    go (Stranded a) e rest = cc
    go Dead e rest = let none : reserved_in tasks ≡ 0 = rest e in omega arith

-- what no task of a list passes, none of it passes
any_within : (f : Task → Bool) (before rest : List Task) (task : Task) → list_any f (before ++ task ∷ rest) ≡ false → f task ≡ false
any_within f [] rest task e = go (f task) e
  where
    go : (b : Bool) → (b || list_any f rest) ≡ false → b ≡ false
    go true e = cc
    go false e = refl
any_within f (first ∷ before) rest task e = any_within f before rest task (go (f first) e)
  where
    go : (b : Bool) → (b || list_any f (before ++ task ∷ rest)) ≡ false → list_any f (before ++ task ∷ rest) ≡ false
    go true e = cc
    go false e = e

-- the heap has no room for the call
abbrev fits_now : Script → CoreState → Asked → Bool
fits_now script s asked = fits script s asked

too_full : (script : Script) (s : CoreState) (asked : Asked) → reserved_in s.tasks ≡ 0 → fits script s asked ≡ false
    → script.heap < live_of s.world + reserve + asked.bound
too_full script s asked none unfit = let more : script.heap < charged_in s + asked.bound = grind (arith, nat_tests) in omega arith

-- of a licence: nothing is admitted, no call that waits fits, and nothing can be evicted
pub licensed : (script : Script) (s : CoreState) → is_licensed script s ≡ true
    → (list_any (λ task. is_admitted task.phase) s.tasks ≡ false) × (some_fits script s ≡ false) × (can_evict_any s.world ≡ false) × (some_wait_in_vain script s ≡ true)
licensed script s e =
    let a = both (some_wait_in_vain script s && none_admitted s && not (can_evict_any s.world) && not (some_fits script s)) (is_some (victim_of script.policy s.world.plain s.world.account)) e in
    let b = both (some_wait_in_vain script s && none_admitted s && not (can_evict_any s.world)) (not (some_fits script s)) a.0 in
    let c = both (some_wait_in_vain script s && none_admitted s) (not (can_evict_any s.world)) b.0 in
    let d = both (some_wait_in_vain script s) (none_admitted s) c.0 in
    (not_true _ d.1, not_true _ b.1, not_true _ c.1, d.0)

step_killed : (script : Script) (run : List Noted) (old : CoreState) (pid : ℕ) (noted : Noted) (new : CoreState) → KillsOne script old pid noted new
    → IsSound script old → StandsFor script (entries_of run) old → StandsFor script (entries_of (run ++ noted ∷ [])) new
step_killed script run old pid noted new step sound stands =
    let past = stands.past in
    let same = sym stands.plain_is in
    let waits = filtered_first (λ task. is_waiting task.phase) old.tasks (record { pid = step.waiter; phase = Waiting step.asked }) step.lowest in
    let phase : phase_of old step.waiter ≡ Waiting step.asked =
    ap (λ ts. phase_in ts step.waiter) waits.2
    ∙ phase_behind 0 waits.0 (record { pid = step.waiter; phase = Waiting step.asked }) waits.1 (subst (AreRising 0) waits.2 sound.rising) in
    let fits = found_fits script old.world.plain old.tasks step.waiter (Waiting step.asked) sound.each phase (λ e. (cc)) in
    let up = is_awake script old past step.waiter stands.sleepers fits.phase.0 (λ a e. different phase e) in
    let licence = licensed script old step.enabled.licensed in
    let next : Past = past_killed script past pid in
    let leads = kill_leads script past old.world pid new.world stands.plain_is stands.account_is stands.filled step.kills in
    let asks : step.asked.bound ≡ bound (call_of script past.plain step.waiter) =
    ap (λ a. a.bound) fits.phase.1.same ∙ ap (λ p. bound (call_of script p step.waiter)) same in
    let told = entry.Killed pid step.waiter step.asked.bound (live_of old.world) in
    let unfit : fits_now script old step.asked ≡ false =
    any_within (λ task. waits_and_fits script old task.phase) waits.0 waits.1 (record { pid = step.waiter; phase = Waiting step.asked })
    (subst (λ ts. list_any (λ task. waits_and_fits script old task.phase) ts ≡ false) waits.2 licence.1) in
    let none : reserved_in old.tasks ≡ 0 = none_reserved old.tasks licence.0 in
    let full : script.heap < live_of old.world + reserve + step.asked.bound = too_full script old step.asked none unfit in
    record {
      past = next;
      is_run = subst (λ entries. IsRun script entries next)
          (sym (entries_more run noted ∙ ap (λ n. entries_of run ++ option_to_list n.entry) step.noted_so))
          (history.goes_on (entries_of run) past next told stands.is_run
          (subst (λ n. MayFollow script past (entry.Killed pid step.waiter n (live_of old.world)) next) (sym asks)
          (killed_legal script past old.world pid step.waiter (sym stands.plain_is) (sym stands.account_is) sound.may_keep licence.2
          (ap (λ p. victim_of script.policy p past.account) stands.plain_is ∙ ap (victim_of script.policy old.world.plain) stands.account_is ∙ step.enabled.victim)
          (subst (λ p. is_alive p.table step.waiter ≡ true) same fits.phase.0) up
          (subst (λ n. n ≤ room script.heap) asks fits.phase.1.fits_ever)
          (subst (λ n. script.heap < live_of old.world + reserve + n) asks full))));
      plain_is = leads.plain_is;
      account_is = leads.account_is;
      sleepers = λ other found.
          let among = among_filter (would_block script (die past.plain pid 9)) (others pid past.asleep) other found in
          let before = among_others pid other past.asleep among.1 in
          let sleeper = stands.sleepers other before.1 in
          let next : IsNext old.world.plain new.world.plain pid = subst (λ p. IsNext old.world.plain p pid) (sym step.kills.plain) (die_next old.world.plain pid pid 9 sound.made) in
          record {
            made = let h : other ≤ last_pid old.world.plain = sleeper.made in let k : last_pid old.world.plain ≤ last_pid new.world.plain = next.more in omega arith;
            blocks = subst (λ p. would_block script p other ≡ true) leads.plain_is among.0;
            phase = left_frame old new pid old.tasks [] next (λ q p apart is. is)
                (step.tasks ∙ sym (append-nil (buried new.world.plain old.tasks))) other before.0 sleeper.made sleeper.phase;
          };
      filled = leads.filled;
    }
  where
    different : {a b : Asked} → phase_of old step.waiter ≡ Waiting a → phase_of old step.waiter ≡ Asleep b → ⊥
    different e f = cc

step_evicted : (script : Script) (run : List Noted) (old : CoreState) (what : Cached) (noted : Noted) (new : CoreState) → EvictsOne script old what noted new
    → IsSound script old → StandsFor script (entries_of run) old → StandsFor script (entries_of (run ++ noted ∷ [])) new
step_evicted script run old what noted new step sound stands =
    let past = stands.past in
    let evicts = step.evicts in
    let next : Past = past_evicted script past what in
    let leads = eviction_leads script past old.world what new.world sound.may_keep stands.filled evicts in
    record {
      past = next;
      is_run = subst (λ entries. IsRun script entries next)
          (sym (entries_more run noted ∙ ap (λ n. entries_of run ++ option_to_list n.entry) step.noted_so))
          (history.goes_on (entries_of run) past next (entry.Evicted what) stands.is_run leads.follows);
      plain_is = stands.plain_is ∙ sym evicts.plain;
      account_is = stands.account_is ∙ sym evicts.account;
      sleepers = λ other found.
          let among = among_filter (would_block script past.plain) past.asleep other found in
          let sleeper = stands.sleepers other among.1 in
          record {
            made = subst (λ p. other ≤ last_pid p) (sym evicts.plain) sleeper.made;
            blocks = ap (λ p. would_block script p other) evicts.plain ∙ sleeper.blocks;
            phase = elim sleeper.phase [
              | inl asleep ↦ inl (record { asked = asleep.asked; is = ap (λ ts. phase_in ts other) step.tasks ∙ asleep.is })
              | inr died ↦ inr (ap (λ p. is_alive p.table other) evicts.plain ∙ died)
            ];
          };
      filled = leads.filled;
    }

-- one event further
step_legal : (script : Script) (run : List Noted) (old : CoreState) (event : Event) (noted : Noted) (new : CoreState) → StepsBy script old event noted new
    → IsSound script old → StandsFor script (entries_of run) old → StandsFor script (entries_of (run ++ noted ∷ [])) new
step_legal script run old (Ask pid) noted new step sound stands = elim step [
  | inl asks ↦
      let fits = found_fits script old.world.plain old.tasks pid User sound.each asks.enabled (λ e. (cc)) in
      silent script run noted old new pid (ap (λ n. n.entry) asks.noted_so) (ap (λ s. s.world) asks.after)
      (phase_frame old new pid (Waiting (asked_by script old.world.plain pid)) (ap (λ s. s.tasks) asks.after) (ap (λ s. s.world.plain.table) asks.after))
      (λ sleeper. absurd (not_asleep script old pid sleeper fits.phase (λ a e. user_apart asks.enabled e))) stands
  | inr refuses ↦ step_refused script run old pid noted new refuses sound stands
]
  where
    user_apart : {p : Phase} {b : Asked} → p ≡ User → p ≡ Asleep b → ⊥
    user_apart e f = cc
step_legal script run old (Admit pid) noted new step sound stands =
    let asked = step.enabled.waits.asked in
    let fits = found_fits script old.world.plain old.tasks pid (Waiting asked) sound.each step.enabled.waits.is (λ e. (cc)) in
    silent script run noted old new pid (ap (λ n. n.entry) step.noted_so) (ap (λ s. s.world) step.after)
    (phase_frame old new pid (Admitted asked) (ap (λ s. s.tasks) step.after) (ap (λ s. s.world.plain.table) step.after))
    (λ sleeper. absurd (not_asleep script old pid sleeper fits.phase.0 (λ a e. waiting_apart step.enabled.waits.is e))) stands
  where
    waiting_apart : {p : Phase} {a b : Asked} → p ≡ Waiting a → p ≡ Asleep b → ⊥
    waiting_apart e f = cc
step_legal script run old (Turn pid) noted new step sound stands = step_turn script run old pid noted new step sound stands
step_legal script run old (Wake pid) noted new step sound stands =
    let asked = step.enabled.sleeps.asked in
    silent script run noted old new pid (ap (λ n. n.entry) step.noted_so) (ap (λ s. s.world) step.after)
    (phase_frame old new pid (Waiting asked) (ap (λ s. s.tasks) step.after) (ap (λ s. s.world.plain.table) step.after))
    (λ sleeper. absurd (let e = sleeper.blocks in let f = step.enabled.ready in cc)) stands
step_legal script run old (Abandon pid) noted new step sound stands =
    let asked = step.enabled.asked in
    let fits = found_fits script old.world.plain old.tasks pid (Stranded asked) sound.each step.enabled.is (λ e. (cc)) in
    silent script run noted old new pid (ap (λ n. n.entry) step.noted_so) (ap (λ s. s.world) step.after)
    (λ other apart made sleeps. elim sleeps [
      | inl asleep ↦ inl (record { asked = asleep.asked; is = ap (λ s. phase_in s.tasks other) step.after ∙ phase_without old.tasks pid other apart ∙ asleep.is })
      | inr died ↦ inr (ap (λ s. lives s other) step.after ∙ died)
    ])
    (λ sleeper. inr (ap (λ s. lives s pid) step.after ∙ fits.phase.0)) stands
step_legal script run old (Evict what) noted new step sound stands = step_evicted script run old what noted new step sound stands
step_legal script run old (Kill pid) noted new step sound stands = step_killed script run old pid noted new step sound stands

-- nobody sleeps at boot
nobody_sleeps : (script : Script) (pid : ℕ) → is_among pid [] ≡ true → Sleeper script (boot_state script) pid
nobody_sleeps script pid e = cc

-- the entries of a run are legal, and lead to the same machine
pub legal : {rule : ℕ → CoreState → Event → Type 0} {script : Script} {steps : ℕ} {run : List Noted} {s : CoreState} → IsRunBy rule script steps run s
    → StandsFor script (entries_of run) s
legal {script = script} boots = record { past = boot_past script; is_run = history.boots; plain_is = refl; account_is = refl; sleepers = nobody_sleeps script; filled = record { names = omega arith; blocks = omega arith; vnodes = omega arith } }
legal {script = script} (goes_on run old new noted before ends follows step) =
    step_legal script run old noted.event noted new step (is_sound before) (legal before)
