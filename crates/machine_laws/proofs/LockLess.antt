-- Where nobody holds a lock nobody does afterwards, unless one is asked for; and who has ended holds none.
use Rattle.std.proofs.Common.{◌≡◌, ℕ, zero, suc, ℤ, Bool, true, false, cond, List, [], ◌∷◌, length, Option, None, Some, Result, Ok, Err, refl, ap, sym, ◌∙◌}
use Rattle.std.specs.List.{filter, range_with_len}
use Rattle.kabi_types.specs.Arguments.{count_of, locked_fault}
use Rattle.kabi_types.specs.declared.calls.Call.{Call}
use Rattle.kabi_types.specs.declared.calls.Call.TheVariants as calls
use Rattle.kabi_types.specs.declared.errnos.Errno.{Errno}
use Rattle.kabi_types.specs.declared.errnos.Errno.TheVariants.{EAGAIN, EDEADLK}
use Rattle.kabi_types.specs.declared.scripts.Script.{Script}
use Rattle.kabi_types.specs.declared.ranges.Range.{Range}
use Rattle.posix_defs.specs.Answer.{Answer, Blocked, failed}
use Rattle.posix_defs.specs.Ending.{closed_by, die}
use Rattle.posix_defs.specs.Locks.{Locks, ranges_of, without}
use Rattle.posix_defs.specs.Machine.{machine, unless_wrong}
use Rattle.posix_defs.specs.Plain.{Plain}
use Rattle.posix_defs.specs.Process.{is_alive}
use Rattle.posix_defs.specs.Files.Closing.{after_close, after_closes, after_end_of, after_ends_of, after_exec_of, all_numbers, close_in}
use Rattle.posix_defs.specs.Files.Descriptors.{Descriptor, descriptor_at, is_cloexec}
use Rattle.posix_defs.specs.Files.Descriptions.{description_at}
use Rattle.posix_defs.specs.Files.State.{Files, descriptors_of, let_go, opened_file}
use Rattle.posix_defs.specs.Calls.Opened.{Opened, answer_on, opened_at}
use Rattle.posix_defs.specs.Calls.OnLocks.{circles, claimed, granted, granted_or, is_clear, request_of, setlk, setlkw}
use Rattle.kern_laws.proofs.Bareness.{none_open_at}
use Rattle.machine_laws.specs.FileSteps as step
use Rattle.machine_laws.specs.FileSteps.{IsStep, LeadsTo, is_setting}
use Rattle.machine_laws.specs.Placed.{IsPlaced}
use Rattle.machine_laws.specs.Reached.{IsReached}
use Rattle.machine_laws.specs.WithoutLocks.{minds_no_lock}
use Rattle.machine_laws.proofs.Inductions.{answers_keep}
use Rattle.machine_laws.proofs.Locking.{OpensFile, reached_locked}
use Rattle.machine_laws.proofs.Items.{true_false}
use Rattle.machine_laws.proofs.Places.{not_some}
use Rattle.machine_laws.proofs.Reaches.{reached_keeps}

-- ---- who has ended

pub ended_holds_none : (script : Script) (plain : Plain) → IsReached script plain → (pid number : ℕ) → is_alive plain.table pid ≡ false → ranges_of plain.files.locks pid number ≡ []
ended_holds_none script plain reached pid number dead = go (ranges_of plain.files.locks pid number) refl
  where
    some : (range : Range) (ranges : List Range) → range ∷ ranges ≡ [] → ⊥
    some range ranges e = cc

    has_none : OpensFile plain.files pid number → ⊥
    has_none opens = let placed : IsPlaced plain = (reached_keeps reached).0 in let places = placed.places in
        not_some (ap (λ list. descriptor_at list opens.fd) (places.ended pid dead) ∙ none_open_at opens.fd) opens.held

    go : (ranges : List Range) → ranges_of plain.files.locks pid number ≡ ranges → ranges ≡ []
    go [] is = refl
    go (range ∷ ranges) is = absurd (has_none (let locked = reached_locked script plain reached in locked.opened pid number (λ none. some range ranges (sym is ∙ none))))

-- ---- nobody holds a lock

abbrev HasNone : Files → Type 0
HasNone files = files.locks ≡ []

let_go_none : (locks : Locks) (pid : ℕ) (file : Option ℕ) → locks ≡ [] → let_go locks pid file ≡ []
let_go_none locks pid None none = none
let_go_none locks pid (Some number) none = ap (λ list. without list pid number) none

close_none : (files : Files) (pid fd : ℕ) → HasNone files → HasNone (after_close files pid fd)
close_none files pid fd none = go (descriptor_at (descriptors_of files pid) fd)
  where
    go : (o : Option Descriptor) → HasNone (close_in files pid fd o)
    go None = none
    go (Some descriptor) = let_go_none files.locks pid (opened_file (description_at files.descriptions descriptor.description)) none

closes_none : (files : Files) (pid : ℕ) (fds : List ℕ) → HasNone files → HasNone (after_closes files pid fds)
closes_none files pid [] none = none
closes_none files pid (fd ∷ fds) none = closes_none (after_close files pid fd) pid fds (close_none files pid fd none)

exec_none : (files : Files) (pid : ℕ) → HasNone files → HasNone (after_exec_of files pid)
unfolding after_exec_of
exec_none files pid none = closes_none files pid (filter (is_cloexec (descriptors_of files pid)) all_numbers) none

end_none : (files : Files) (pid : ℕ) → HasNone files → HasNone (after_end_of files pid)
unfolding after_end_of
end_none files pid none = closes_none files pid all_numbers none

ends_none : (files : Files) (pids : List ℕ) → HasNone files → HasNone (after_ends_of files pids)
ends_none files [] none = none
ends_none files (pid ∷ pids) none = ends_none (after_end_of files pid) pids (end_none files pid none)

closed_none : (files : Files) (pid : ℕ) → HasNone files → HasNone (closed_by files pid)
closed_none files zero none = end_none files zero none
closed_none files (suc zero) none = ends_none files (range_with_len 1 (length files.descriptors)) none
closed_none files (suc (suc pid)) none = end_none files (suc (suc pid)) none

module _ (plain : Plain) (pid : ℕ) (call : Call) (next : Files) (none : HasNone plain.files) (other : is_setting call ≡ false) where
  same : (after : Files) → next ≡ after → after.locks ≡ plain.files.locks → HasNone next
  same after is locks = ap (λ files. files.locks) is ∙ locks ∙ none

  by : (after : Files) → next ≡ after → HasNone after → HasNone next
  by after is holds = ap (λ files. files.locks) is ∙ holds

  step_none : {goes_on : Bool} → IsStep plain pid call goes_on next → HasNone next
  step_none (step.stays is) = same _ is refl
  step_none (step.shares fd opened from to named free is) = same _ is refl
  step_none (step.shares_over fd to opened named may apart is) = by _ is (close_none plain.files pid (count_of to) none)
  step_none (step.marks fd opened cloexec named is) = same _ is refl
  step_none (step.closes fd opened named is) = by _ is (close_none plain.files pid (count_of fd) none)
  step_none (step.describes fd opened description named target access between is) = same _ is refl
  step_none (step.opens path flags fd found which free led apart is) = same _ is refl
  step_none (step.writes fd addr n done opened number at offset written reaches wrote is) = same _ is refl
  step_none (step.writes_at fd addr n opened number at written reaches wrote is) = same _ is refl
  step_none (step.resizes fd opened number size tree reaches sized is) = same _ is refl
  step_none (step.makes path made which led is) = same _ is refl
  step_none (step.makes_fifo path made which led is) = same _ is refl
  step_none (step.removes path tree which led is) = same _ is refl
  step_none (step.links old new tree which led is) = same _ is refl
  step_none (step.unlinks path left which led is) = same _ is refl
  step_none (step.renames old new left which led is) = same _ is refl
  step_none (step.pipes two free is) = same _ is refl
  step_none (step.takes fd addr n opened place k which named on may moves is) = same _ is refl
  step_none (step.puts fd addr n done opened place k which named on may moves is) = same _ is refl
  step_none (step.joins path flags fd place found openings opens at may is) = same _ is refl
  step_none (step.begins path flags fd found openings opens at may is) = same _ is refl
  step_none (step.meets path flags opening which begun is) = same _ is refl
  step_none (step.sockets fd free is) = same _ is refl
  step_none (step.pairs two free is) = same _ is refl
  step_none (step.binds fd path opened place made which named on fine led is) = same _ is refl
  step_none (step.listens fd opened place named on fine is) = same _ is refl
  step_none (step.shuts fd how opened place named on fine is) = same _ is refl
  step_none (step.connects fd opened place number listener named on fine listening room is) = same _ is refl
  step_none (step.accepts fd opened place to taken named on free first is) = same _ is refl
  step_none (step.receives fd addr n opened place k which named on moves is) = same _ is refl
  step_none (step.sends fd addr n done opened place k which named on moves is) = same _ is refl
  step_none (step.locks fd opened number asked sets named target is_file places clear is) = absurd (true_false (is_setting call) sets other)
  step_none (step.starts is) = by _ is (exec_none plain.files pid none)
  step_none (step.forks which is) = same _ is refl
  step_none (step.ends_caller over ending is) = by _ is (closed_none plain.files pid none)
  step_none (step.ends_other who ending is) = by _ is (closed_none plain.files who none)

asks_for_none : (call : Call) → minds_no_lock call ≡ true → is_setting call ≡ false
asks_for_none (calls.Setlk fd kind start size) e = absurd (true_false false e refl)
asks_for_none (calls.Setlkw fd kind start size) e = absurd (true_false false e refl)
asks_for_none (calls.Getlk fd kind start size) e = absurd (true_false false e refl)
asks_for_none _ e = refl

pub stays_lockless : (script : Script) (plain : Plain) (pid : ℕ) (call : Call) → plain.files.locks ≡ [] → minds_no_lock call ≡ true
    → LeadsTo (λ next. next.files.locks ≡ []) (machine script plain pid call)
stays_lockless script plain pid call none minds = answers_keep HasNone script plain pid call (λ goes_on next stepped. step_none plain pid call next none (asks_for_none call minds) stepped)

pub die_lockless : (plain : Plain) (pid status : ℕ) → plain.files.locks ≡ [] → (die plain pid status).files.locks ≡ []
die_lockless plain pid status none = closed_none plain.files pid none

-- where nobody holds a lock nothing is in the way
pub nothing_in_way : (script : Script) (plain : Plain) (pid : ℕ) (fd kind start size : ℤ) → plain.files.locks ≡ []
    → machine script plain pid (calls.Setlkw fd kind start size) ≡ machine script plain pid (calls.Setlk fd kind start size)
unfolding setlk setlkw
nothing_in_way script plain pid fd kind start size none = go (locked_fault 2 kind start size)
  where
    granted_both : (number : ℕ) (one two : Answer) → granted_or script plain pid (request_of kind start size) one (Ok number) ≡ granted_or script plain pid (request_of kind start size) two (Ok number)
    granted_both number one two = let clear : is_clear plain.files.locks pid number (request_of kind start size) ≡ true = ap (λ list. is_clear list pid number (request_of kind start size)) none in
        ap (λ b. cond b (granted script plain pid number (request_of kind start size)) one) clear ∙ sym (ap (λ b. cond b (granted script plain pid number (request_of kind start size)) two) clear)

    claims : (one two : Answer) (r : Result ℕ Errno) → granted_or script plain pid (request_of kind start size) one r ≡ granted_or script plain pid (request_of kind start size) two r
    claims one two (Err e) = refl
    claims one two (Ok number) = granted_both number one two

    on : (one two : Answer) (o : Option Opened) → answer_on script plain pid (λ opened. granted_or script plain pid (request_of kind start size) one (claimed plain.files opened (request_of kind start size).kind)) o
        ≡ answer_on script plain pid (λ opened. granted_or script plain pid (request_of kind start size) two (claimed plain.files opened (request_of kind start size).kind)) o
    on one two None = refl
    on one two (Some opened) = claims one two (claimed plain.files opened (request_of kind start size).kind)

    go : (fault : Option Errno) → unless_wrong script plain pid fault (setlkw script plain pid fd kind start size) ≡ unless_wrong script plain pid fault (setlk script plain pid fd kind start size)
    go None = on (cond (circles script plain pid) (failed script plain pid EDEADLK) Blocked) (failed script plain pid EAGAIN) (opened_at plain.files pid fd)
    go (Some e) = refl
