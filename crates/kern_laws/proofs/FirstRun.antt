-- The worked example's run, and two that are none.
use Rattle.std.proofs.Common.{◌≡◌, ℕ, ◌+◌, ◌<◌, ◌≤◌, pos, [], ◌∷◌, Option, None, Some, refl, ap, ◌∙◌, subst, arith, inl, inr}
use Rattle.kabi_types.specs.declared.entries.End.TheVariants.{Finished}
use Rattle.kabi_types.specs.declared.calls.CallKind.TheVariants as kind
use Rattle.kabi_types.specs.declared.entries.Entry.{Entry}
use Rattle.kabi_types.specs.declared.entries.Entry.TheVariants as entry
use Rattle.kabi_types.specs.declared.entries.Event.TheVariants.{Ask, Admit, Turn}
use Rattle.kabi_types.specs.declared.replies.Reply.TheVariants.{Val}
use Rattle.posix_defs.specs.declared.phases.Asked.{Asked}
use Rattle.posix_defs.specs.declared.phases.Phase.TheVariants.{User, Waiting, Admitted}
use Rattle.posix_defs.specs.declared.turner.Turned.TheVariants as turned
use Rattle.posix_defs.specs.Memory.{no_places}
use Rattle.posix_defs.specs.Needs.{bound}
use Rattle.posix_defs.specs.Files.Descriptors.{none_open}
use Rattle.posix_defs.specs.Files.Closing.{after_end_of}
use Rattle.posix_defs.specs.Plain.{answered, boot_plain, call_of}
use Rattle.posix_defs.specs.Ending.{die}
use Rattle.posix_defs.specs.CoreState.{CoreState, boot_state, charged_in, with_phase}
use Rattle.posix_defs.specs.CoreEvent.{Asks, Steps, entry_of}
use Rattle.posix_defs.specs.CoreRun.{IsCoreRun, boots, goes_on}
use Rattle.posix_defs.specs.FirstScript.{first_script, first_run, first_report, pid_run, noted}
use Rattle.std.specs.Fmt.{digits}
use Rattle.posix_defs.specs.Lines.{report}
use Rattle.posix_defs.specs.Machine.{machine}
use Rattle.posix_defs.specs.Turn.{Tells}
use Rattle.kern_laws.proofs.LastStep.{at_boot, last_step}

-- what the process asks for
abbrev for_pid : Asked
for_pid = record { kind = kind.Getpid; bound = 0 }

abbrev for_exit : Asked
for_exit = record { kind = kind.Exit; bound = 0 }

-- the states of the run, one event after another
abbrev told_pid : CoreState → CoreState
told_pid s = record { world = record s.world { plain = answered first_script s.world.plain 1 (Val (pos 1)) }; tasks = record { pid = 1; phase = User } ∷ [] }

abbrev has_exited : CoreState → CoreState
has_exited s = record { world = record s.world { plain = die s.world.plain 1 0 }; tasks = [] }

abbrev after_one : CoreState
after_one = with_phase (boot_state first_script) 1 (Waiting for_pid)

abbrev after_two : CoreState
after_two = with_phase after_one 1 (Admitted for_pid)

abbrev after_three : CoreState
after_three = told_pid after_two

abbrev after_four : CoreState
after_four = with_phase after_three 1 (Waiting for_exit)

abbrev after_five : CoreState
after_five = with_phase after_four 1 (Admitted for_exit)

abbrev pub after_six : CoreState
after_six = has_exited after_five

always_fits : 0 ≤ 5376
always_fits = omega arith

asks_pid : Steps first_script (boot_state first_script) (noted (Ask 1) kind.Getpid None 2816) after_one
unfolding bound no_places none_open
asks_pid = inl (record { enabled = refl; fits_ever = always_fits; after = refl; noted_so = refl })

has_room : 2816 + 0 ≤ 8192
has_room = omega arith

admits_pid : Steps first_script after_one (noted (Admit 1) kind.Getpid None 2816) after_two
unfolding no_places none_open
admits_pid = record { enabled = record { waits = record { asked = for_pid; is = refl }; room = has_room }; after = refl; noted_so = refl }

grows_by : (n k : ℕ) → n ≤ n + k
grows_by n k = omega arith

falls_to : (n k : ℕ) → 128 ≤ 640 + k
falls_to n k = omega arith

tells_pid : Steps first_script after_two (noted (Turn 1) kind.Getpid (Some (entry.Done 1 kind.Getpid (Val (pos 1)))) 2816) after_three
unfolding no_places none_open
tells_pid = record {
  enabled = record { asked = for_pid; is = refl };
  told = turned.Done (Val (pos 1));
  answers = record { answer = (refl, refl); account = refl; may_keep = record { names = tt; blocks = tt; vnodes = (tt, tt); pinned = λ node e. e; true_names = tt; on_disk = tt; in_use = (refl, tt) }; live = grows_by 640 _; names = grows_by 0 _; blocks = grows_by 0 _; vnodes = grows_by 1 _; reads = grows_by 0 0; untouched = λ _. (refl, refl); left = λ _. tt; known = λ _. refl };
  tasks = refl;
  noted_so = refl;
}

asks_exit : Steps first_script after_three (noted (Ask 1) kind.Exit None 2816) after_four
unfolding bound no_places none_open
asks_exit = inl (record { enabled = refl; fits_ever = always_fits; after = refl; noted_so = refl })

admits_exit : Steps first_script after_four (noted (Admit 1) kind.Exit None 2816) after_five
unfolding no_places none_open
admits_exit = record { enabled = record { waits = record { asked = for_exit; is = refl }; room = has_room }; after = refl; noted_so = refl }

exits : Steps first_script after_five (noted (Turn 1) kind.Exit (Some (entry.Ended 1 kind.Exit 0)) 2304) after_six
unfolding no_places none_open after_end_of
exits = record {
  enabled = record { asked = for_exit; is = refl };
  told = turned.Ended 0;
  answers = record { answer = (refl, refl); account = refl; may_keep = record { names = tt; blocks = tt; vnodes = (tt, tt); pinned = λ node e. e; true_names = tt; on_disk = tt; in_use = (refl, tt) }; live = falls_to 0 _; names = grows_by 0 _; blocks = grows_by 0 _; vnodes = grows_by 1 _; reads = grows_by 0 0; untouched = λ _. (refl, refl); left = λ _. tt; known = λ _. refl };
  tasks = refl;
  noted_so = refl;
}

pub first_is_run : IsCoreRun first_script 1000 first_run after_six
unfolding no_places none_open after_end_of
first_is_run = goes_on _ _ _ _ (goes_on _ _ _ _ (goes_on _ _ _ _ (goes_on _ _ _ _ (goes_on _ _ _ _ (goes_on [] _ _ _ boots refl tt asks_pid) refl tt admits_pid) refl tt tells_pid) refl tt asks_exit) refl tt admits_exit) refl tt exits

two_is_not_one : ◌≡◌ {A = ℕ} 2 1 → ⊥
two_is_not_one e = omega arith

one_more_is_not : ◌≡◌ {A = ℕ} 2817 2816 → ⊥
one_more_is_not e = omega arith

-- the number that an entry tells
value_in : Option Entry → ℕ
value_in (Some (entry.Done _ _ (Val (pos n)))) = n
value_in _ = 0

-- from boot the process asks, and is not refused
first_asks : (charged : ℕ) (s : CoreState) → Steps first_script (boot_state first_script) (noted (Ask 1) kind.Getpid None charged) s
    → Asks first_script (boot_state first_script) 1 (noted (Ask 1) kind.Getpid None charged) s
unfolding bound
first_asks charged s step = elim step [
  | inl asks ↦ asks
  | inr refuses ↦ absurd (let above : 5376 < 0 = refuses.never_fits in omega arith)
]

pub no_other_pid : (s : CoreState) → IsCoreRun first_script 1000 (pid_run 2816 (pos 2)) s → ⊥
unfolding value_in
no_other_pid s run =
    let third = last_step run (noted (Ask 1) kind.Getpid None 2816 ∷ noted (Admit 1) kind.Getpid None 2816 ∷ []) _ refl in
    let second = last_step third.1 (noted (Ask 1) kind.Getpid None 2816 ∷ []) _ refl in
    let first = last_step second.1 [] _ refl in
    let asks = first_asks 2816 second.0 (subst (λ t. Steps first_script t (noted (Ask 1) kind.Getpid None 2816) second.0) (at_boot first.1 refl) first.2) in
    let plain : third.0.world.plain ≡ boot_plain first_script =
    ap (λ t. t.world.plain) second.2.after ∙ ap (λ t. t.world.plain) asks.after in
    let tells = subst (λ p. Tells (machine first_script p 1 (call_of first_script p 1)) p third.2.told s.world.plain) plain third.2.answers.answer in
    two_is_not_one
    (ap (λ n. value_in n.entry) third.2.noted_so
    ∙ ap (λ told. value_in (Some (entry_of 1 third.2.enabled.asked.kind told))) tells.0)

pub no_other_charge : (s : CoreState) → IsCoreRun first_script 1000 (pid_run 2817 (pos 1)) s → ⊥
unfolding no_places none_open
no_other_charge s run =
    let third = last_step run (noted (Ask 1) kind.Getpid None 2817 ∷ noted (Admit 1) kind.Getpid None 2816 ∷ []) _ refl in
    let second = last_step third.1 (noted (Ask 1) kind.Getpid None 2817 ∷ []) _ refl in
    let first = last_step second.1 [] _ refl in
    let asks = first_asks 2817 second.0 (subst (λ t. Steps first_script t (noted (Ask 1) kind.Getpid None 2817) second.0) (at_boot first.1 refl) first.2) in
    one_more_is_not (ap (λ n. n.charged) asks.noted_so ∙ ap charged_in asks.after)

-- the run's report
pub first_reported : report first_run Finished 2304 0 ≡ first_report
unfolding digits
first_reported = refl
