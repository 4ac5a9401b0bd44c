-- Whatever a call is answered, each process has its numbers of descriptors, and one that has ended has none open.
use Rattle.std.proofs.Common.{◌≡◌, ◌≢◌, ℕ, zero, suc, ◌+◌, ◌<◌, ◌≤◌, ℤ, pos, Bool, true, false, cond, List, [], ◌∷◌, ◌++◌, length, map, Option, None, Some, refl, ap, sym, ◌∙◌, subst, inl, inr, arith, length-append}
use Rattle.std.proofs.lemmas.Bool.Decides.{eqb_tells}
use Rattle.std.proofs.lemmas.List.{length-map}
use Rattle.kabi_types.specs.Arguments.{count_of, most_descriptors}
use Rattle.kabi_types.specs.declared.calls.Call.{Call}
use Rattle.kabi_types.specs.declared.calls.Call.TheVariants as calls
use Rattle.kabi_types.specs.declared.replies.Reply.{Reply}
use Rattle.kabi_types.specs.declared.replies.Reply.TheVariants.{Fail, Val}
use Rattle.kabi_types.specs.declared.errnos.Errno.TheVariants.{EAGAIN}
use Rattle.kabi_types.specs.declared.scripts.Script.{Script}
use Rattle.posix_defs.specs.Answer.{Answer, failed, replied}
use Rattle.posix_defs.specs.ByPid.{with_pid}
use Rattle.posix_defs.specs.Control as program
use Rattle.posix_defs.specs.Ending.{closed_by, die, die_in, leaves, left_behind, ended_as}
use Rattle.posix_defs.specs.Forking.{child_of, is_full, with_child}
use Rattle.posix_defs.specs.Memory.{no_memory}
use Rattle.posix_defs.specs.Plain.{Plain, answered, boot_plain, control_of, last_pid}
use Rattle.posix_defs.specs.Machine.{machine}
use Rattle.posix_defs.specs.Process.{Alive, Process, Table, is_alive, is_alive_in, process_at, with_directory, working_in}
use Rattle.posix_defs.specs.Files.Descriptors.{none_open}
use Rattle.posix_defs.specs.Files.Descriptions.{Description}
use Rattle.posix_defs.specs.Files.State.{Files, HalfOpen, boot_files, descriptors_of, opened_as, with_heir, with_open, with_openings}
use Rattle.posix_defs.specs.Files.Whole.{HasPlaces}
use Rattle.kern_laws.proofs.Families.{others_live, alive_there}
use Rattle.kern_laws.proofs.Remembering.{alive_ignoring, alive_still}
use Rattle.kern_laws.proofs.TablePlaces.{at_end, below_or_not, same_in_front, was_made, with_other, with_same}
use Rattle.machine_laws.specs.FileSteps as step
use Rattle.machine_laws.specs.FileSteps.{IsStep, LeadsTo, MayWait, Steps}
use Rattle.machine_laws.specs.Placed.{IsPlaced}
use Rattle.answer_laws.specs.Shapes as shape
use Rattle.answer_laws.specs.Shapes.{HasShape}
use Rattle.answer_laws.proofs.Shapes.{machine_shape}
use Rattle.machine_laws.proofs.SharedOffsets.{heirs_open, stay_open}
use Rattle.machine_laws.proofs.Shutting.{Shuts, all_none_open, close_shuts, closed_shuts, end_none, exec_shuts, length_with, none_open_length, open_shuts, past_open, shuts_on, shuts_same}
use Rattle.machine_laws.proofs.Stepping.{step_of}

true_false : (b : Bool) → b ≡ true → b ≡ false → ⊥
true_false b one two = cc

-- the call is `fork`
abbrev is_fork : Call → Bool
is_fork calls.Fork = true
is_fork _ = false

fork_is : (call : Call) → is_fork call ≡ true → call ≡ calls.Fork
fork_is calls.Fork is = refl
fork_is _ is = absurd (true_false false is refl)

-- ---- steps

module _ (plain : Plain) (pid : ℕ) (call : Call) (next : Files) (no_fork : call ≢ calls.Fork) where
  same : (after : Files) → next ≡ after → after.descriptors ≡ plain.files.descriptors → length after.openings ≡ length plain.files.openings → Shuts pid plain.files next
  same after is stays as_many = shuts_same pid plain.files next (ap (λ files. files.descriptors) is ∙ stays) (ap (λ files. length files.openings) is ∙ as_many)

  by : (after : Files) → next ≡ after → Shuts pid plain.files after → Shuts pid plain.files next
  by after is shuts = subst (Shuts pid plain.files) (sym is) shuts

  -- a description is opened, whatever else changes before
  opens_one : (files : Files) (fd : ℕ) (cloexec : Bool) (description : Description) → files.descriptors ≡ plain.files.descriptors → length files.openings ≡ length plain.files.openings
      → Shuts pid plain.files (opened_as files pid fd cloexec description)
  opens_one files fd cloexec description stays as_many = shuts_on pid plain.files files (opened_as files pid fd cloexec description) (shuts_same pid plain.files files stays as_many)
      (shuts_on pid files (with_open files pid fd (Some (record { description = length files.descriptions; cloexec = cloexec }))) (opened_as files pid fd cloexec description)
      (open_shuts files pid fd (Some (record { description = length files.descriptions; cloexec = cloexec }))) (shuts_same pid _ _ refl refl))

  opens_another : (files : Files) (fd : ℕ) (cloexec : Bool) (description : Description) → Shuts pid plain.files files
      → Shuts pid plain.files (opened_as files pid fd cloexec description)
  opens_another files fd cloexec description shuts = shuts_on pid plain.files files (opened_as files pid fd cloexec description) shuts
      (shuts_on pid files (with_open files pid fd (Some (record { description = length files.descriptions; cloexec = cloexec }))) (opened_as files pid fd cloexec description)
      (open_shuts files pid fd (Some (record { description = length files.descriptions; cloexec = cloexec }))) (shuts_same pid _ _ refl refl))

  -- the same, and who waits for the other side of a FIFO is another
  waited : (files : Files) (openings : List (Option HalfOpen)) → Shuts pid plain.files files → length openings ≡ length plain.files.openings → Shuts pid plain.files (with_openings files openings)
  waited files openings shuts as_many = shuts_on pid plain.files files (with_openings files openings) shuts (shuts_same pid _ _ refl (as_many ∙ sym shuts.openings))

  as_many : {flags : ℤ} {fd number : ℕ} (openings : List (Option HalfOpen)) → MayWait plain.files pid flags fd number openings → length openings ≡ length plain.files.openings
  as_many openings (step.goes over is) = ap (λ list. length list) is
  as_many openings (step.waits still is) = ap (λ list. length list) is ∙ length_with plain.files.openings pid _

  pub step_shuts : {goes_on : Bool} → IsStep plain pid call goes_on next → Shuts pid plain.files next
  step_shuts (step.stays is) = same _ is refl refl
  step_shuts (step.shares fd opened from to named free is) = by _ is (open_shuts plain.files pid to _)
  step_shuts (step.shares_over fd to opened named may apart is) = by _ is (shuts_on pid plain.files _ _ (close_shuts pid plain.files pid (count_of to)) (open_shuts _ pid (count_of to) _))
  step_shuts (step.marks fd opened cloexec named is) = by _ is (open_shuts plain.files pid (count_of fd) _)
  step_shuts (step.closes fd opened named is) = by _ is (close_shuts pid plain.files pid (count_of fd))
  step_shuts (step.describes fd opened description named target access between is) = same _ is refl refl
  step_shuts (step.opens path flags fd found which free led other is) = by _ is (opens_one _ fd _ _ refl refl)
  step_shuts (step.writes fd addr n done opened number at offset written reaches wrote is) = same _ is refl refl
  step_shuts (step.writes_at fd addr n opened number at written reaches wrote is) = same _ is refl refl
  step_shuts (step.resizes fd opened number size tree reaches sized is) = same _ is refl refl
  step_shuts (step.makes path made which led is) = same _ is refl refl
  step_shuts (step.makes_fifo path made which led is) = same _ is refl refl
  step_shuts (step.removes path tree which led is) = same _ is refl refl
  step_shuts (step.links old new tree which led is) = same _ is refl refl
  step_shuts (step.unlinks path left which led is) = same _ is refl refl
  step_shuts (step.renames old new left which led is) = same _ is refl refl
  step_shuts (step.pipes two free is) = by _ is (opens_another _ two.second _ _ (opens_one _ two.first _ _ refl refl))
  step_shuts (step.takes fd addr n opened place k which named on may moves is) = same _ is refl refl
  step_shuts (step.puts fd addr n done opened place k which named on may moves is) = same _ is refl refl
  step_shuts (step.joins path flags fd place found openings opens at may is) = by _ is (waited _ openings (opens_one _ fd _ _ refl refl) (as_many openings may))
  step_shuts (step.begins path flags fd found openings opens at may is) = by _ is (waited _ openings (opens_one _ fd _ _ refl refl) (as_many openings may))
  step_shuts (step.meets path flags opening which begun is) = same _ is refl (length_with plain.files.openings pid None)
  step_shuts (step.sockets fd free is) = by _ is (opens_one _ fd _ _ refl refl)
  step_shuts (step.pairs two free is) = by _ is (opens_another _ two.second _ _ (opens_one _ two.first _ _ refl refl))
  step_shuts (step.binds fd path opened place made which named on fine led is) = same _ is refl refl
  step_shuts (step.listens fd opened place named on fine is) = same _ is refl refl
  step_shuts (step.shuts fd how opened place named on fine is) = same _ is refl refl
  step_shuts (step.connects fd opened place number listener named on fine listening room is) = same _ is refl refl
  step_shuts (step.accepts fd opened place to taken named on free first is) = by _ is (opens_one _ to _ _ refl refl)
  step_shuts (step.receives fd addr n opened place k which named on moves is) = same _ is refl refl
  step_shuts (step.sends fd addr n done opened place k which named on moves is) = same _ is refl refl
  step_shuts (step.locks fd opened number asked sets named_so target is_file places clear is) = same _ is refl refl
  step_shuts (step.starts is) = by _ is (exec_shuts pid plain.files pid)
  step_shuts (step.forks which is) = absurd (no_fork which)
  step_shuts (step.ends_caller over ending is) = by _ is (closed_shuts pid plain.files pid)
  step_shuts (step.ends_other who ending is) = by _ is (closed_shuts pid plain.files who)

-- ---- answers

-- who is dead afterwards was dead before, and the caller lives
placed_on : (plain next : Plain) (pid : ℕ) → IsPlaced plain → is_alive plain.table pid ≡ true
    → length next.table ≡ length plain.table → last_pid next ≡ last_pid plain → ((who : ℕ) → is_alive next.table who ≡ false → is_alive plain.table who ≡ false)
    → Shuts pid plain.files next.files → IsPlaced next
placed_on plain next pid placed alive tables controls dead shuts = record {
  counted = tables ∙ placed.counted ∙ sym controls;
  places = record {
    counted = shuts.counted ∙ before.counted ∙ sym controls;
    places = shuts.places before.places;
    openings = shuts.openings ∙ before.openings ∙ sym controls;
    ended = λ who gone. shuts.shut who (λ is. true_false (is_alive plain.table who) (ap (is_alive plain.table) is ∙ alive) (dead who gone)) (before.ended who (dead who gone));
  };
}
  where
    before : HasPlaces plain
    before = placed.places

-- a process ends
pub die_placed : (plain : Plain) (pid status : ℕ) → IsPlaced plain → IsPlaced (die plain pid status)
die_placed plain pid status placed = record {
  counted = table_length pid ∙ placed.counted;
  places = record {
    counted = (let shuts = closed_shuts pid plain.files pid in shuts.counted) ∙ before.counted;
    places = (let shuts = closed_shuts pid plain.files pid in shuts.places before.places);
    openings = (let shuts = closed_shuts pid plain.files pid in shuts.openings) ∙ before.openings;
    ended = ended pid;
  };
}
  where
    before : HasPlaces plain
    before = placed.places

    left_length : (pid : ℕ) → length (leaves plain.table pid status) ≡ length plain.table
    left_length pid = length_with (map (left_behind pid) plain.table) pid (ended_as status (process_at plain.table pid)) ∙ length-map plain.table (left_behind pid)

    table_length : (pid : ℕ) → length (die_in plain.table pid status) ≡ length plain.table
    table_length zero = left_length zero
    table_length (suc zero) = length-map plain.table (λ _. None)
    table_length (suc (suc n)) = left_length (suc (suc n))

    -- nobody else dies with one that isn't the first
    dead : (pid who : ℕ) → who ≢ pid → is_alive (leaves plain.table pid status) who ≡ false → is_alive plain.table who ≡ false
    dead pid who apart gone = go (is_alive plain.table who) refl
      where
        go : (b : Bool) → is_alive plain.table who ≡ b → is_alive plain.table who ≡ false
        go false is = is
        go true is = absurd (true_false (is_alive (leaves plain.table pid status) who) (others_live plain.table pid who status is apart) gone)

    one : (pid who : ℕ) → is_alive (leaves plain.table pid status) who ≡ false → descriptors_of (closed_by plain.files pid) pid ≡ none_open → descriptors_of (closed_by plain.files pid) who ≡ none_open
    one pid who gone own = elim (eqb_tells who pid) [
      | inl alike ↦ ap (descriptors_of (closed_by plain.files pid)) alike.1 ∙ own
      | inr apart ↦ let shuts = closed_shuts pid plain.files pid in shuts.shut who apart.1 (before.ended who (dead pid who apart.1 gone))
    ]

    ended : (pid who : ℕ) → is_alive (die_in plain.table pid status) who ≡ false → descriptors_of (closed_by plain.files pid) who ≡ none_open
    ended zero who gone = one zero who gone refl
    ended (suc zero) who gone = all_none_open plain.files before.places who
    ended (suc (suc n)) who gone = one (suc (suc n)) who gone (end_none plain.files (suc (suc n)) before.places)

-- a process in another directory is as alive as before
pub alive_moved : (table : Table) (pid directory who : ℕ) → is_alive table pid ≡ true → is_alive (with_directory table pid directory) who ≡ is_alive table who
alive_moved table pid directory who alive = elim (eqb_tells who pid) [
  | inl alike ↦ ap (is_alive (with_directory table pid directory)) alike.1 ∙ own ∙ sym (ap (is_alive table) alike.1)
  | inr apart ↦ ap is_alive_in (with_other table pid who (working_in directory (process_at table pid)) apart.1)
]
  where
    there : (process : Process) × (process_at table pid ≡ Some process) × (process.status ≡ Alive)
    there = alive_there table pid alive

    made : (0 < pid) × (pid ≤ length table)
    made = was_made table pid there.0 there.1

    lives : (o : Option Process) → is_alive_in (working_in directory o) ≡ is_alive_in o
    lives None = refl
    lives (Some process) = refl

    own : is_alive (with_directory table pid directory) pid ≡ is_alive table pid
    own = ap is_alive_in (with_same table pid (working_in directory (process_at table pid)) made.0 made.1) ∙ lives (process_at table pid)

-- who was waited for was dead
alive_reaped : (table : Table) (child who : ℕ) → is_alive table child ≡ false → is_alive (with_pid table child None) who ≡ false → is_alive table who ≡ false
alive_reaped table child who ended gone = elim (eqb_tells who child) [
  | inl alike ↦ ap (is_alive table) alike.1 ∙ ended
  | inr apart ↦ sym (ap is_alive_in (with_other table child who None apart.1)) ∙ gone
]

-- a child is made
fork_placed : (script : Script) (plain : Plain) (pid : ℕ) (said : Reply) → IsPlaced plain → is_alive plain.table pid ≡ true
    → IsPlaced (answered script (with_child script plain pid) pid said)
fork_placed script plain pid said placed alive = record {
  counted = more plain.table plain.controls _ _ placed.counted ∙ sym (length_with (plain.controls ++ program.after script (control_of plain pid) (Val (pos 0)) ∷ []) pid _);
  places = record {
    counted = more plain.files.descriptors plain.controls _ _ before.counted ∙ sym (length_with (plain.controls ++ program.after script (control_of plain pid) (Val (pos 0)) ∷ []) pid _);
    places = λ who. ap (λ list. length list) refl ∙ each who;
    openings = more plain.files.openings plain.controls _ _ before.openings ∙ sym (length_with (plain.controls ++ program.after script (control_of plain pid) (Val (pos 0)) ∷ []) pid _);
    ended = ended;
  };
}
  where
    before : HasPlaces plain
    before = placed.places

    more : {X Y : Type 0} (xs : List X) (ys : List Y) (x : X) (y : Y) → length xs ≡ length ys → length (xs ++ x ∷ []) ≡ length (ys ++ y ∷ [])
    more xs ys x y same = length-append xs (x ∷ []) ∙ ap (λ n. n + 1) same ∙ sym (length-append ys (y ∷ []))

    longer : length (with_heir plain.files pid).descriptors ≡ length plain.files.descriptors + 1
    longer = length-append plain.files.descriptors (descriptors_of plain.files pid ∷ [])

    -- a pid is of before, the child's, or of nobody
    each_of : (Holds : ℕ → Type 0) → ((who : ℕ) → who ≤ length plain.files.descriptors → Holds who) → Holds (suc (length plain.files.descriptors))
        → ((who : ℕ) → length (with_heir plain.files pid).descriptors < who → Holds who) → (who : ℕ) → Holds who
    each_of Holds old child nobody who = elim (below_or_not (length plain.files.descriptors) who) [
      | inr h ↦ old who h
      | inl h ↦ elim (below_or_not (length plain.files.descriptors + 1) who) [
        | inl beyond ↦ nobody who (subst (λ n. n < who) (sym longer) beyond)
        | inr last ↦ subst Holds (let e : suc (length plain.files.descriptors) ≡ who = omega arith in e) child
      ]
    ]

    each : (who : ℕ) → length (descriptors_of (with_heir plain.files pid) who) ≡ most_descriptors
    each = each_of (λ who. length (descriptors_of (with_heir plain.files pid) who) ≡ most_descriptors)
        (λ who old. ap (λ list. length list) (stay_open plain.files pid who old) ∙ before.places who)
        (ap (λ list. length list) (heirs_open plain.files pid (suc (length plain.files.descriptors)) refl) ∙ before.places pid)
        (λ who beyond. ap (λ list. length list) (past_open (with_heir plain.files pid) who beyond) ∙ none_open_length)

    born : (o : Option Process) → is_alive_in (child_of pid o) ≡ is_alive_in o
    born None = refl
    born (Some process) = refl

    as_many : length plain.files.descriptors ≡ length plain.table
    as_many = before.counted ∙ sym placed.counted

    ended : (who : ℕ) → is_alive (plain.table ++ child_of pid (process_at plain.table pid) ∷ []) who ≡ false → descriptors_of (with_heir plain.files pid) who ≡ none_open
    ended = each_of (λ who. is_alive (plain.table ++ child_of pid (process_at plain.table pid) ∷ []) who ≡ false → descriptors_of (with_heir plain.files pid) who ≡ none_open)
        (λ who old gone. stay_open plain.files pid who old ∙ before.ended who
        (sym (ap is_alive_in (same_in_front plain.table (child_of pid (process_at plain.table pid)) who (omega arith))) ∙ gone))
        (λ gone. absurd (true_false (is_alive (plain.table ++ child_of pid (process_at plain.table pid) ∷ []) (suc (length plain.table)))
        (ap is_alive_in (at_end plain.table (child_of pid (process_at plain.table pid))) ∙ born (process_at plain.table pid) ∙ alive)
        (ap (λ n. is_alive (plain.table ++ child_of pid (process_at plain.table pid) ∷ []) (suc n)) (sym as_many) ∙ gone)))
        (λ who beyond gone. past_open (with_heir plain.files pid) who beyond)

-- a control that goes on changes nothing of it
pub answered_placed : (script : Script) (plain : Plain) (pid : ℕ) (said : Reply) → IsPlaced plain → IsPlaced (answered script plain pid said)
answered_placed script plain pid said placed = record {
  counted = placed.counted ∙ sym (length_with plain.controls pid _);
  places = record { counted = before.counted ∙ sym (length_with plain.controls pid _); places = before.places; openings = before.openings ∙ sym (length_with plain.controls pid _); ended = before.ended };
}
  where
    before : HasPlaces plain
    before = placed.places

module _ (script : Script) (plain : Plain) (pid : ℕ) (placed : IsPlaced plain) (alive : is_alive plain.table pid ≡ true) where
  -- of a call that isn't a fork, by its shape and its step
  by_shape : (call : Call) → call ≢ calls.Fork → (given : Answer) → Steps plain pid call given → HasShape script plain pid call given → LeadsTo IsPlaced given
  by_shape call no_fork given stepped (shape.blocks may is) = subst (LeadsTo IsPlaced) (sym is) tt
  by_shape call no_fork given stepped (shape.fails errno other is) = subst (LeadsTo IsPlaced) (sym is)
      (placed_on plain _ pid placed alive refl (length_with plain.controls pid _) (λ who gone. gone) (shuts_same pid _ _ refl refl))
  by_shape call no_fork given stepped (shape.tells files said is_said is) = subst (LeadsTo IsPlaced) (sym is)
      (placed_on plain _ pid placed alive refl (length_with plain.controls pid _) (λ who gone. gone)
      (step_shuts plain pid call files no_fork (subst (Steps plain pid call) is stepped)))
  by_shape call no_fork given stepped (shape.puts files memory said is_said what is) = subst (LeadsTo IsPlaced) (sym is)
      (placed_on plain _ pid placed alive (length_with plain.table pid _) (length_with plain.controls pid _) (λ who gone. sym (alive_still plain.table pid who memory) ∙ gone)
      (step_shuts plain pid call files no_fork (subst (Steps plain pid call) is stepped)))
  by_shape call no_fork given stepped (shape.moves path directory called led is) = subst (LeadsTo IsPlaced) (sym is)
      (placed_on plain _ pid placed alive (length_with plain.table pid _) (length_with plain.controls pid _) (λ who gone. sym (alive_moved plain.table pid directory who alive) ∙ gone) (shuts_same pid _ _ refl refl))
  by_shape call no_fork given stepped (shape.disposes signal disposition ignores before called is) = subst (LeadsTo IsPlaced) (sym is)
      (placed_on plain _ pid placed alive (length_with plain.table pid _) (length_with plain.controls pid _) (λ who gone. sym (alive_ignoring plain.table pid who ignores) ∙ gone) (shuts_same pid _ _ refl refl))
  by_shape call no_fork given stepped (shape.parts files moved part is) = subst (LeadsTo IsPlaced) (sym is)
      (placed_on plain _ pid placed alive refl (length_with plain.controls pid _) (λ who gone. gone)
      (step_shuts plain pid call files no_fork (subst (Steps plain pid call) is stepped)))
  by_shape call no_fork given stepped (shape.awaits files begun is) = subst (LeadsTo IsPlaced) (sym is)
      (placed_on plain _ pid placed alive refl (length_with plain.controls pid _) (λ who gone. gone)
      (step_shuts plain pid call files no_fork (subst (Steps plain pid call) is stepped)))
  by_shape call no_fork given stepped (shape.starts place is) = subst (LeadsTo IsPlaced) (sym is)
      (placed_on plain _ pid placed alive (length_with plain.table pid _) (length_with plain.controls pid _) (λ who gone. sym (alive_still plain.table pid who no_memory) ∙ gone) (exec_shuts pid plain.files pid))
  by_shape call no_fork given stepped (shape.forks is) = subst (LeadsTo IsPlaced) (sym is) (fork_placed script plain pid (Val (pos (last_pid plain + 1))) placed alive)
  by_shape call no_fork given stepped (shape.reaps child status ended is) = subst (LeadsTo IsPlaced) (sym is)
      (placed_on plain _ pid placed alive (length_with plain.table child None) (length_with plain.controls pid _) (λ who gone. alive_reaped plain.table child who ended gone) (shuts_same pid _ _ refl refl))
  by_shape call no_fork given stepped (shape.ends status is) = subst (LeadsTo IsPlaced) (sym is) (die_placed plain pid status placed)
  by_shape call no_fork given stepped (shape.ends_another target signal called first own lives is) = subst (LeadsTo IsPlaced) (sym is)
      (answered_placed script (die plain target (count_of signal)) pid (Val (pos 0)) (die_placed plain target (count_of signal) placed))

  fork_on : LeadsTo IsPlaced (machine script plain pid calls.Fork)
  fork_on = go (is_full plain)
    where
      go : (b : Bool) → LeadsTo IsPlaced (cond b (failed script plain pid EAGAIN) (replied script (with_child script plain pid) pid (Val (pos (last_pid plain + 1)))))
      go true = answered_placed script plain pid (Fail EAGAIN) placed
      go false = fork_placed script plain pid (Val (pos (last_pid plain + 1))) placed alive

  pub answers_placed : (call : Call) → LeadsTo IsPlaced (machine script plain pid call)
  answers_placed call = go (is_fork call) refl
    where
      go : (b : Bool) → is_fork call ≡ b → LeadsTo IsPlaced (machine script plain pid call)
      go true is = subst (λ which. LeadsTo IsPlaced (machine script plain pid which)) (sym (fork_is call is)) fork_on
      go false is = by_shape call (λ same. true_false (is_fork call) (ap is_fork same) is) (machine script plain pid call) (step_of script plain pid call) (machine_shape script plain pid call)

-- at the beginning the first process is alone
pub boot_placed : (script : Script) → IsPlaced (boot_plain script)
boot_placed script = record {
  counted = refl;
  places = record { counted = refl; places = each; openings = refl; ended = ended };
}
  where
    each : (who : ℕ) → length (descriptors_of (boot_files script.disk) who) ≡ most_descriptors
    each zero = none_open_length
    each (suc zero) = none_open_length
    each (suc (suc n)) = none_open_length

    ended : (who : ℕ) → is_alive (boot_plain script).table who ≡ false → descriptors_of (boot_files script.disk) who ≡ none_open
    ended zero gone = refl
    ended (suc zero) gone = refl
    ended (suc (suc n)) gone = refl
