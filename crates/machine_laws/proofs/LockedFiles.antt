-- In every machine that is reached nobody holds places of a directory.
use Rattle.std.proofs.Common.{◌≡◌, ◌≢◌, ℕ, zero, suc, Bool, true, false, List, [], ◌∷◌, length, replicate, Option, None, Some, refl, ap, sym, ◌∙◌, subst, inl, inr}
use Rattle.std.specs.List.{filter, list_any, range_with_len}
use Rattle.kabi_types.specs.Arguments.{argument_fault, count_of, most_descriptors}
use Rattle.kabi_types.specs.declared.calls.Call.{Call}
use Rattle.kabi_types.specs.declared.errnos.Errno.{Errno}
use Rattle.kabi_types.specs.declared.scripts.Script.{Script}
use Rattle.posix_defs.specs.Ending.{closed_by}
use Rattle.posix_defs.specs.Locks.{Locks, Request, after_set, ranges_of, stops}
use Rattle.posix_defs.specs.Machine.{answer_to, machine, unless_wrong}
use Rattle.posix_defs.specs.Plain.{Plain, call_of, control_of}
use Rattle.posix_defs.specs.Process.{is_alive}
use Rattle.posix_defs.specs.Tree.{is_directory}
use Rattle.posix_defs.specs.Files.Closing.{after_close, after_closes, after_end_of, after_ends_of, after_exec_of, all_numbers, close_in}
use Rattle.posix_defs.specs.Files.Descriptors.{Descriptor, descriptor_at, is_cloexec, none_open}
use Rattle.posix_defs.specs.Files.Descriptions.{Target, OnNode, OnPipe, OnSocket, Description, description_at}
use Rattle.posix_defs.specs.Files.State.{Files, descriptors_of, file_of_target, opened_file, with_locks}
use Rattle.posix_defs.specs.Files.Whole.{AreLocks, HasPlaces, has_open, opens_by}
use Rattle.machine_laws.specs.FileSteps as step
use Rattle.machine_laws.specs.FileSteps.{IsStep, LeadsTo}
use Rattle.machine_laws.specs.Piped.{ArePiped}
use Rattle.machine_laws.specs.Reached.{IsReached}
use Rattle.machine_laws.specs.Texts.{HasTexts}
use Rattle.machine_laws.proofs.Inductions.{by_induction}
use Rattle.machine_laws.proofs.Joining.{Joined, joined_holds}
use Rattle.machine_laws.proofs.Keeping.{Whole, reached_whole}
use Rattle.machine_laws.proofs.Leading.{steps_lead}
use Rattle.machine_laws.proofs.LockLists.{held_before, key, ranges_set_others, stopper_holds}
use Rattle.machine_laws.proofs.Locking.{Locked, OpensFile, has_it_open, opens_it, reached_locked}
use Rattle.machine_laws.proofs.Openers.{by_opener, node_in}
use Rattle.machine_laws.proofs.Piping.{reached_piped}
use Rattle.machine_laws.proofs.Places.{not_some, some_same}
use Rattle.machine_laws.proofs.Rooting.{Rooted}
use Rattle.machine_laws.proofs.Stepping.{step_of}
use Rattle.machine_laws.proofs.StepsKeep.{After, closed_after, step_after}

-- ---- closing

-- who holds some of a file afterwards held some of it before
abbrev HeldBefore : Files → Files → Type 0
HeldBefore old new = (who number : ℕ) → ranges_of new.locks who number ≢ [] → ranges_of old.locks who number ≢ []

close_held : (files : Files) (pid fd : ℕ) → HeldBefore files (after_close files pid fd)
close_held files pid fd = go (descriptor_at (descriptors_of files pid) fd)
  where
    go : (o : Option Descriptor) → HeldBefore files (close_in files pid fd o)
    go None = λ who number some. some
    go (Some descriptor) = λ who number some. held_before files.locks pid (opened_file (description_at files.descriptions descriptor.description)) who number some

closes_held : (files : Files) (pid : ℕ) (fds : List ℕ) → HeldBefore files (after_closes files pid fds)
closes_held files pid [] = λ who number some. some
closes_held files pid (fd ∷ fds) = λ who number some. close_held files pid fd who number (closes_held (after_close files pid fd) pid fds who number some)

exec_held : (files : Files) (pid : ℕ) → HeldBefore files (after_exec_of files pid)
unfolding after_exec_of
exec_held files pid = closes_held files pid (filter (is_cloexec (descriptors_of files pid)) all_numbers)

end_held : (files : Files) (pid : ℕ) → HeldBefore files (after_end_of files pid)
unfolding after_end_of
end_held files pid = closes_held files pid all_numbers

ends_held : (files : Files) (pids : List ℕ) → HeldBefore files (after_ends_of files pids)
ends_held files [] = λ who number some. some
ends_held files (pid ∷ pids) = λ who number some. end_held files pid who number (ends_held (after_end_of files pid) pids who number some)

closed_held : (files : Files) (pid : ℕ) → HeldBefore files (closed_by files pid)
closed_held files zero = end_held files zero
closed_held files (suc zero) = ends_held files (range_with_len 1 (length files.descriptors))
closed_held files (suc (suc pid)) = end_held files (suc (suc pid))

-- ---- who has a file open

-- a description that is open on the node
record IsOn (files : Files) (number : ℕ) : Type 0 where
  place : ℕ
  description : Description
  is : description_at files.descriptions place ≡ Some description
  on : description.target ≡ OnNode number

is_on : (files : Files) (pid number : ℕ) → OpensFile files pid number → IsOn files number
is_on files pid number opens_it = go (description_at files.descriptions opens_it.descriptor.description) refl opens_it.file
  where
    target_is : (target : Target) → file_of_target target ≡ Some number → target ≡ OnNode number
    target_is (OnNode other) e = ap OnNode (some_same (Some other) other number refl e)
    target_is (OnPipe place) e = absurd (not_some refl e)
    target_is (OnSocket place) e = absurd (not_some refl e)

    go : (o : Option Description) → description_at files.descriptions opens_it.descriptor.description ≡ o → opened_file o ≡ Some number → IsOn files number
    go None is e = absurd (not_some refl e)
    go (Some description) is e = record { place = opens_it.descriptor.description; description = description; is = is; on = target_is description.target e }

-- what somebody has open stays no directory
stays_no_directory : (plain : Plain) (next : Files) (pid number : ℕ) → Rooted plain.files.descriptions plain.files.tree plain.files.sockets plain.files.pipes → After plain next
    → OpensFile plain.files pid number → is_directory plain.files.tree number ≡ false → is_directory next.tree number ≡ false
stays_no_directory plain next pid number rooted after opens_it none = let it = is_on plain.files pid number opens_it in let opened = rooted.nodes it.place number it.description it.is it.on in
    after.kinds number (by_opener plain.files number (record { place = it.place; description = it.description; is = it.is; on = ap (node_in plain.files.pipes) it.on })) opened.used opened.socket none

-- ---- steps

-- nobody holds places of a directory
abbrev HoldFiles : Files → Type 0
HoldFiles files = (pid number : ℕ) → ranges_of files.locks pid number ≢ [] → is_directory files.tree number ≡ false

-- who holds some of a file afterwards had it open, and it was no directory
abbrev HadFile : Files → Files → Type 0
HadFile old new = (who number : ℕ) → ranges_of new.locks who number ≢ [] → OpensFile old who number × (is_directory old.tree number ≡ false)

module _ (plain : Plain) (pid : ℕ) (call : Call) (next : Files) (locked : Locked plain.files) (files_alone : HoldFiles plain.files) where
  held : (who number : ℕ) → ranges_of plain.files.locks who number ≢ [] → OpensFile plain.files who number × (is_directory plain.files.tree number ≡ false)
  held who number some = (locked.opened who number some, files_alone who number some)

  same : (after : Files) → next ≡ after → after.locks ≡ plain.files.locks → HadFile plain.files next
  same after is locks who number some = held who number (subst (λ (locks : Locks). ranges_of locks who number ≢ []) (ap (λ files. files.locks) is ∙ locks) some)

  by : (after : Files) → next ≡ after → HeldBefore plain.files after → HadFile plain.files next
  by after is before who number some = held who number (before who number (subst (λ (files : Files). ranges_of files.locks who number ≢ []) is some))

  step_file : {goes_on : Bool} → IsStep plain pid call goes_on next → HadFile plain.files next
  step_file (step.stays is) = same _ is refl
  step_file (step.shares fd opened from to named free is) = same _ is refl
  step_file (step.shares_over fd to opened named may apart is) = by _ is (close_held plain.files pid (count_of to))
  step_file (step.marks fd opened cloexec named is) = same _ is refl
  step_file (step.closes fd opened named is) = by _ is (close_held plain.files pid (count_of fd))
  step_file (step.describes fd opened description named target access between is) = same _ is refl
  step_file (step.opens path flags fd found which free led other is) = same _ is refl
  step_file (step.writes fd addr n done opened number at offset written reaches wrote is) = same _ is refl
  step_file (step.writes_at fd addr n opened number at written reaches wrote is) = same _ is refl
  step_file (step.resizes fd opened number size tree reaches sized is) = same _ is refl
  step_file (step.makes path made which led is) = same _ is refl
  step_file (step.makes_fifo path made which led is) = same _ is refl
  step_file (step.removes path tree which led is) = same _ is refl
  step_file (step.links old new tree which led is) = same _ is refl
  step_file (step.unlinks path left which led is) = same _ is refl
  step_file (step.renames old new left which led is) = same _ is refl
  step_file (step.pipes two free is) = same _ is refl
  step_file (step.takes fd addr n opened place k which named on may moves is) = same _ is refl
  step_file (step.puts fd addr n done opened place k which named on may moves is) = same _ is refl
  step_file (step.joins path flags fd place found openings opens_it at may is) = same _ is refl
  step_file (step.begins path flags fd found openings opens_it at may is) = same _ is refl
  step_file (step.meets path flags opening which begun is) = same _ is refl
  step_file (step.sockets fd free is) = same _ is refl
  step_file (step.pairs two free is) = same _ is refl
  step_file (step.binds fd path opened place made which named on fine led is) = same _ is refl
  step_file (step.listens fd opened place named on fine is) = same _ is refl
  step_file (step.shuts fd how opened place named on fine is) = same _ is refl
  step_file (step.connects fd opened place number listener named on fine listening room is) = same _ is refl
  step_file (step.accepts fd opened place to taken named on free first is) = same _ is refl
  step_file (step.receives fd addr n opened place k which named on moves is) = same _ is refl
  step_file (step.sends fd addr n done opened place k which named on moves is) = same _ is refl
  step_file (step.locks fd opened number asked sets named target is_file places clear is) = λ who node some. set_file who node (subst (λ (files : Files). ranges_of files.locks who node ≢ []) is some)
    where
      set_file : HadFile plain.files (with_locks plain.files (after_set plain.files.locks pid number asked))
      set_file who node some = elim (key pid number who node) [
        | inl this ↦ subst (λ w. OpensFile plain.files w node × (is_directory plain.files.tree node ≡ false)) (sym this.0)
            (subst (λ n. OpensFile plain.files pid n × (is_directory plain.files.tree n ≡ false)) (sym this.1) (opens_it plain pid fd opened number named target, is_file))
        | inr others ↦ held who node (λ none. some (ranges_set_others plain.files.locks pid number _ who node others ∙ none))
      ]
  step_file (step.starts is) = by _ is (exec_held plain.files pid)
  step_file (step.forks which is) = same _ is refl
  step_file (step.ends_caller over ending is) = by _ is (closed_held plain.files pid)
  step_file (step.ends_other who ending is) = by _ is (closed_held plain.files who)

-- ---- every machine

module _ (script : Script) (texts : HasTexts script) (plain : Plain) (reached : IsReached script plain) (files_alone : HoldFiles plain.files) where
  whole : Whole plain
  whole = reached_whole script texts plain reached

  locked : Locked plain.files
  locked = reached_locked script plain reached

  joined : Joined plain.files.descriptions plain.files.sockets
  joined = joined_holds script plain reached

  piped : ArePiped plain.files.descriptions plain.files.pipes
  piped = reached_piped script plain reached

  answer_files : (pid : ℕ) → is_alive plain.table pid ≡ true → LeadsTo (λ next. HoldFiles next.files) (machine script plain pid (call_of script plain pid))
  answer_files pid alive = go (argument_fault (call_of script plain pid)) refl
    where
      go : (fault : Option Errno) → argument_fault (call_of script plain pid) ≡ fault → LeadsTo (λ next. HoldFiles next.files) (machine script plain pid (call_of script plain pid))
      go (Some errno) is = subst (LeadsTo (λ next. HoldFiles next.files)) (sym (ap (λ f. unless_wrong script plain pid f (answer_to script plain pid (call_of script plain pid))) is)) files_alone
      go None is = steps_lead plain pid (call_of script plain pid) (λ next. HoldFiles next.files) follows (machine script plain pid (call_of script plain pid)) (step_of script plain pid (call_of script plain pid))
        where
          follows : (goes_on : Bool) (next : Plain) → IsStep plain pid (call_of script plain pid) goes_on next.files → HoldFiles next.files
          follows goes_on next stepped who number some = let had = step_file plain pid (call_of script plain pid) next.files locked files_alone stepped who number some in
              stays_no_directory plain next.files who number whole.rooted
              (step_after plain pid (call_of script plain pid) next.files whole.rooted whole.pipes joined piped (whole.memory pid) (whole.directories pid alive) is
              (λ path here. texts.paths (control_of plain pid) path here) stepped) had.0 had.1

  kill_files : (pid : ℕ) → HoldFiles (closed_by plain.files pid)
  kill_files pid who number some = let before = closed_held plain.files pid who number some in
      stays_no_directory plain (closed_by plain.files pid) who number whole.rooted (closed_after plain whole.rooted whole.pipes joined piped pid) (locked.opened who number before) (files_alone who number before)

reached_files : (script : Script) → HasTexts script → (plain : Plain) → IsReached script plain → HoldFiles plain.files
reached_files script texts plain reached = by_induction script (λ plain. HoldFiles plain.files) (record {
  boot = λ pid number some. absurd (some refl);
  answer = λ before pid reached_it files_alone alive. answer_files script texts before reached_it files_alone pid alive;
  refuse = λ before pid reached_it files_alone. files_alone;
  kill = λ before pid status reached_it files_alone. kill_files script texts before reached_it files_alone pid;
}) reached

pub are_locks : (script : Script) → HasTexts script → (plain : Plain) → IsReached script plain → AreLocks plain.files
are_locks script texts plain reached = let locked = reached_locked script plain reached in let apart = locked.apart in record {
  canonical = apart.canonical;
  apart = apart.apart;
  opened = λ pid number some. has_it_open plain.files pid number (locked.opened pid number some);
  files = reached_files script texts plain reached;
}

-- no number of who has none is open on a file
none_opens : (files : Files) (number k : ℕ) → list_any (opens_by files number) (replicate k None) ≡ false
none_opens files number zero = refl
none_opens files number (suc k) = none_opens files number k

opens_none : (files : Files) (pid number : ℕ) → descriptors_of files pid ≡ none_open → has_open files pid number ≡ false
unfolding none_open
opens_none files pid number none = ap (list_any (opens_by files number)) none ∙ none_opens files number most_descriptors

-- who stops another is alive
pub stopper_lives : (plain : Plain) (pid number by : ℕ) (asked : Request) → AreLocks plain.files → HasPlaces plain → stops plain.files.locks pid number asked by ≡ true
    → is_alive plain.table by ≡ true
stopper_lives plain pid number by asked locks places stopped = go (is_alive plain.table by) refl
  where
    go : (b : Bool) → is_alive plain.table by ≡ b → b ≡ true
    go true is = refl
    go false is = sym (opens_none plain.files by number (places.ended by is)) ∙ locks.opened by number (stopper_holds plain.files.locks pid number by asked stopped)
