-- Where there is no FIFO there is none behind any call but `mkfifo`, and each call answers as if there could be none.
use Rattle.std.proofs.Common.{◌≡◌, ◌≢◌, ℕ, zero, suc, ◌||◌, ℤ, Bool, true, false, cond, List, [], ◌∷◌, ◌++◌, map, Option, None, Some, unwrap_or, slice_get, slice_index_or, slice_set, Result, Ok, Err, refl, ap, sym, ◌∙◌, subst}
use Rattle.std.specs.Prelude.{replicate}
use Rattle.kabi_types.specs.Arguments.{argument_fault, count_of}
use Rattle.kabi_types.specs.declared.calls.Call.{Call}
use Rattle.kabi_types.specs.declared.calls.Call.TheVariants as calls
use Rattle.kabi_types.specs.declared.calls.CallKind.{CallKind}
use Rattle.kabi_types.specs.declared.calls.CallKind.TheVariants as kind
use Rattle.kabi_types.specs.declared.errnos.Errno.{Errno}
use Rattle.kabi_types.specs.declared.errnos.Errno.TheVariants.{EACCES}
use Rattle.kabi_types.specs.declared.replies.Reply.TheVariants.{Stat}
use Rattle.kabi_types.specs.declared.scripts.Control.{Control}
use Rattle.kabi_types.specs.declared.scripts.Program.{Program}
use Rattle.kabi_types.specs.declared.scripts.Script.{Script}
use Rattle.kabi_types.specs.declared.scripts.Statement.{Statement}
use Rattle.kabi_types.specs.declared.scripts.Statement.TheVariants as statement
use Rattle.posix_defs.specs.Answer.{replied}
use Rattle.posix_defs.specs.ByPid.{at_pid}
use Rattle.posix_defs.specs.Ending.{die}
use Rattle.posix_defs.specs.Machine.{answer_to, machine, unless_wrong}
use Rattle.posix_defs.specs.PathCalls.{bytes_in, exec_found, is_fifo, is_fifo_kind, is_socket, kind_in, node_led, open_path, program_of, unless}
use Rattle.posix_defs.specs.Paths.{resolve}
use Rattle.posix_defs.specs.TreeChanges.{closed}
use Rattle.posix_defs.specs.Pipe.{Pipe, after_close, after_read, after_write, new_pipe}
use Rattle.posix_defs.specs.Made.{made}
use Rattle.posix_defs.specs.Control as program
use Rattle.posix_defs.specs.Control.{call_at, settled, statement_of, statements_of, value_of}
use Rattle.posix_defs.specs.Plain.{Plain, boot_plain, call_of, control_of}
use Rattle.posix_defs.specs.Process.{directory_of}
use Rattle.posix_defs.specs.Tree.{Tree, is_directory, new_tree, node_at}
use Rattle.posix_defs.specs.Files.Descriptors.{lowest_free}
use Rattle.posix_defs.specs.Files.Descriptions.{Target, OnNode, OnPipe, OnSocket, Access, Description, may_write, with_description}
use Rattle.posix_defs.specs.Files.State.{Files, HalfOpen, boot_files, descriptors_of, node_of, opening_at, opens, pipe_at, with_descriptions, with_opening, with_openings, with_pipe, with_tree}
use Rattle.posix_defs.specs.Files.Closing.{after_closes, after_end_of, all_numbers, left_fifo, target_closed}
use Rattle.posix_defs.specs.Calls.Opened.{Opened, answer_on, opened_at}
use Rattle.posix_defs.specs.Calls.OnFiles.{end_info, fstat, info_of, open_at, open_by, open_fifo, open_file, open_node, opened_node_as, opening_of}
use Rattle.posix_defs.specs.Calls.OnNames.{is_busy}
use Rattle.posix_defs.specs.Calls.Starting.{exec, starts}
use Rattle.posix_defs.specs.Calls.Writing.{bytes_left}
use Rattle.machine_laws.specs.FileSteps as step
use Rattle.machine_laws.specs.FileSteps.{IsStep, LeadsTo, OpensEnd}
use Rattle.machine_laws.specs.WithoutFifos.{HasNoFifo, LacksMkfifo, calls_mkfifo, is_mkfifo, answer_without, info_before, machine_without, node_before, open_before, opened_before, program_before}
use Rattle.machine_laws.proofs.Closings.{IsClosedUnder, anybody, close_holds, closed_by_holds, closes_hold, exec_holds}
use Rattle.machine_laws.proofs.FifoPlaces.{closed_fifo, fifo_in, pushed_fifos, same_fifos}
use Rattle.machine_laws.proofs.FifosMade.{NoFifos, OkIs, TreeOf, bind_free, closed_free, link_path_free, mkdir_free, open_free, rename_free, resize_free, rmdir_free, unlink_path_free, write_free}
use Rattle.machine_laws.specs.Reached.{IsReached}
use Rattle.machine_laws.proofs.Inductions.{answers_keep, by_induction}
use Rattle.machine_laws.proofs.Items.{true_false}
use Rattle.machine_laws.proofs.Places.{not_some}

-- ---- nobody waits

-- who is asked for among these waits for nothing
abbrev NoneAt : List (Option HalfOpen) → Type 0
NoneAt openings = (pid : ℕ) → unwrap_or (at_pid openings pid) None ≡ None

-- the same by places
none_by : (openings : List (Option HalfOpen)) → ((i : ℕ) → unwrap_or (slice_get openings i) None ≡ None) → NoneAt openings
none_by openings each zero = refl
none_by openings each (suc i) = each i

one_more : (openings : List (Option HalfOpen)) → ((i : ℕ) → unwrap_or (slice_get openings i) None ≡ None) → (i : ℕ) → unwrap_or (slice_get (openings ++ None ∷ []) i) None ≡ None
one_more [] each zero = refl
one_more [] each (suc i) = refl
one_more (x ∷ xs) each zero = each zero
one_more (x ∷ xs) each (suc i) = one_more xs (λ j. each (suc j)) i

set_none : (openings : List (Option HalfOpen)) (place : ℕ) → unwrap_or (slice_get openings place) None ≡ None → slice_set openings place None ≡ openings
set_none [] place none = refl
set_none (x ∷ xs) zero none = ap (λ first. first ∷ xs) (sym none)
set_none (x ∷ xs) (suc i) none = ap (λ rest. x ∷ rest) (set_none xs i none)

-- who waits for nothing waits for nothing again: nothing changes
pub stays_none : (files : Files) (pid : ℕ) → opening_at files pid ≡ None → with_opening files pid None ≡ files
stays_none files zero none = refl
stays_none files (suc i) none = ap (with_openings files) (set_none files.openings i none)

-- ---- closing

-- a pipe with one end less is no FIFO's still
closed_none : (files : Files) (other : ℕ) (writing : Bool) → ((place : ℕ) → node_of files (OnPipe place) ≡ None) → (place : ℕ)
    → fifo_in (slice_set files.pipes other (after_close (unwrap_or (slice_index_or files.pipes other None) new_pipe) writing)) place ≡ None
closed_none files other writing none place = go (fifo_in left place) refl
  where
    left : List (Option Pipe)
    left = slice_set files.pipes other (after_close (unwrap_or (slice_index_or files.pipes other None) new_pipe) writing)

    go : (o : Option ℕ) → fifo_in left place ≡ o → fifo_in left place ≡ None
    go None is = is
    go (Some number) is = absurd (not_some (none place) (closed_fifo files.pipes other writing place number is))

pub closes_free : IsClosedUnder anybody HasNoFifo
closes_free = record {
  shut = λ files pid fd who none. record { tree = none.tree; pipes = none.pipes; openings = none.openings };
  wakes = λ files pid who none. subst HasNoFifo (sym (stays_none files pid (none.openings pid))) none;
  gone = λ files place description none is unnamed. gone files place description none description.target;
  unlocks = λ files locks none. record { tree = none.tree; pipes = none.pipes; openings = none.openings };
}
  where
    gone : (files : Files) (place : ℕ) (description : Description) → HasNoFifo files → (target : Target)
        → HasNoFifo (target_closed (with_descriptions files (with_description files.descriptions place None)) description.access target)
    gone files place description none (OnNode number) = go (opens (with_descriptions files (with_description files.descriptions place None)) number)
      where
        go : (b : Bool) → HasNoFifo (cond b (with_descriptions files (with_description files.descriptions place None))
            (with_tree (with_descriptions files (with_description files.descriptions place None)) (closed files.tree number)))
        go true = record { tree = none.tree; pipes = none.pipes; openings = none.openings }
        go false = record { tree = closed_free files.tree number none.tree; pipes = none.pipes; openings = none.openings }
    gone files place description none (OnPipe other) = subst (λ o. HasNoFifo (left_fifo (with_pipe (with_descriptions files (with_description files.descriptions place None)) other
        (after_close (pipe_at files other) (may_write description.access))) o)) (sym (none.pipes other))
        (record { tree = none.tree; pipes = closed_none files other (may_write description.access) none.pipes; openings = none.openings })
    gone files place description none (OnSocket other) = record { tree = none.tree; pipes = none.pipes; openings = none.openings }

-- ---- each step

module _ (plain : Plain) (pid : ℕ) (call : Call) (next : Files) (none : HasNoFifo plain.files) where
  by : (after : Files) → next ≡ after → HasNoFifo after → HasNoFifo next
  by after is holds = subst HasNoFifo (sym is) holds

  -- neither the tree nor pipes nor who waits changes
  same : (after : Files) → next ≡ after → after.tree ≡ plain.files.tree → after.pipes ≡ plain.files.pipes → after.openings ≡ plain.files.openings → HasNoFifo next
  same after is tree pipes openings = by after is (record {
    tree = λ number. ap (λ t. is_fifo t number) tree ∙ none.tree number;
    pipes = λ place. ap (λ list. fifo_in list place) pipes ∙ none.pipes place;
    openings = λ who. ap (λ list. unwrap_or (at_pid list who) None) openings ∙ none.openings who;
  })

  -- the tree changes
  treed : (after : Files) → next ≡ after → NoFifos after.tree → after.pipes ≡ plain.files.pipes → after.openings ≡ plain.files.openings → HasNoFifo next
  treed after is tree pipes openings = by after is (record {
    tree = tree;
    pipes = λ place. ap (λ list. fifo_in list place) pipes ∙ none.pipes place;
    openings = λ who. ap (λ list. unwrap_or (at_pid list who) None) openings ∙ none.openings who;
  })

  -- pipes change
  piped : (after : Files) → next ≡ after → after.tree ≡ plain.files.tree → ((place : ℕ) → fifo_in after.pipes place ≡ fifo_in plain.files.pipes place) → after.openings ≡ plain.files.openings → HasNoFifo next
  piped after is tree pipes openings = by after is (record {
    tree = λ number. ap (λ t. is_fifo t number) tree ∙ none.tree number;
    pipes = λ place. pipes place ∙ none.pipes place;
    openings = λ who. ap (λ list. unwrap_or (at_pid list who) None) openings ∙ none.openings who;
  })

  no_end : {A : Type 0} (path : List ℕ) (flags : ℤ) (fd : ℕ) (there : ℕ × Tree) → OpensEnd plain pid call path flags fd there → A
  no_end path flags fd there opens = absurd (true_false (is_fifo there.1 there.0) opens.fifo
      (let tree : OkIs TreeOf (Ok there) = subst (OkIs TreeOf) opens.led (open_free plain.files.tree (directory_of plain.table pid) path (opening_of flags) none.tree) in tree there.0))

  pub step_free : {goes_on : Bool} → ((path : List ℕ) → call ≢ calls.Mkfifo path) → IsStep plain pid call goes_on next → HasNoFifo next
  step_free other (step.stays is) = same _ is refl refl refl
  step_free other (step.shares fd opened from to named free is) = same _ is refl refl refl
  step_free other (step.shares_over fd to opened named may differ is) = by _ is (let closed = close_holds anybody HasNoFifo closes_free plain.files pid (count_of to) tt none in
      record { tree = closed.tree; pipes = closed.pipes; openings = closed.openings })
  step_free other (step.marks fd opened cloexec named is) = same _ is refl refl refl
  step_free other (step.closes fd opened named is) = by _ is (close_holds anybody HasNoFifo closes_free plain.files pid (count_of fd) tt none)
  step_free other (step.describes fd opened description named target access between is) = same _ is refl refl refl
  step_free other (step.opens path flags fd there which free led apart is) = treed _ is (subst (OkIs TreeOf) led (open_free plain.files.tree (directory_of plain.table pid) path (opening_of flags) none.tree)) refl refl
  step_free other (step.writes fd addr n done opened number at offset written reaches wrote is) = treed _ is (subst (OkIs TreeOf) wrote (write_free plain.files.tree number at (bytes_left plain pid addr (count_of n) done) none.tree)) refl refl
  step_free other (step.writes_at fd addr n opened number at written reaches wrote is) = treed _ is (subst (OkIs TreeOf) wrote (write_free plain.files.tree number at (bytes_left plain pid addr (count_of n) 0) none.tree)) refl refl
  step_free other (step.resizes fd opened number size tree reaches sized is) = treed _ is (subst (OkIs NoFifos) sized (resize_free plain.files.tree number size none.tree)) refl refl
  step_free other (step.makes path made which led is) = treed _ is (subst (OkIs TreeOf) led (mkdir_free plain.files.tree (directory_of plain.table pid) path none.tree)) refl refl
  step_free other (step.makes_fifo path made which led is) = absurd (other path which)
  step_free other (step.removes path tree which led is) = treed _ is (subst (OkIs NoFifos) led (rmdir_free plain.files.tree (directory_of plain.table pid) path (is_busy plain) none.tree)) refl refl
  step_free other (step.links old new tree which led is) = treed _ is (subst (OkIs NoFifos) led (link_path_free plain.files.tree (directory_of plain.table pid) old new none.tree)) refl refl
  step_free other (step.unlinks path left which led is) = treed _ is (subst (OkIs TreeOf) led (unlink_path_free plain.files.tree (directory_of plain.table pid) path (opens plain.files) none.tree)) refl refl
  step_free other (step.renames old new left which led is) = treed _ is (subst (OkIs TreeOf) led (rename_free plain.files.tree (directory_of plain.table pid) old new (opens plain.files) (is_busy plain) none.tree)) refl refl
  step_free other (step.pipes free_two free is) = piped _ is refl (pushed_fifos plain.files.pipes new_pipe refl) refl
  step_free other (step.takes fd addr n opened place k which named on may moves is) = piped _ is refl (same_fifos plain.files.pipes place (after_read (pipe_at plain.files place) k) refl) refl
  step_free other (step.puts fd addr n done opened place k which named on may moves is) = piped _ is refl
      (same_fifos plain.files.pipes place (after_write (pipe_at plain.files place) (bytes_left plain pid addr (count_of n) done) k) refl) refl
  step_free other (step.joins path flags fd place there openings opens_it at waits_so is) = no_end path flags fd there opens_it
  step_free other (step.begins path flags fd there openings opens_it at waits_so is) = no_end path flags fd there opens_it
  step_free other (step.meets path flags opening which begun is) = by _ is (subst HasNoFifo (sym (stays_none plain.files pid (none.openings pid))) none)
  step_free other (step.sockets fd free is) = same _ is refl refl refl
  step_free other (step.pairs free_two free is) = same _ is refl refl refl
  step_free other (step.binds fd path opened place made which named on fine led is) = treed _ is (subst (OkIs TreeOf) led (bind_free plain.files.tree (directory_of plain.table pid) path none.tree)) refl refl
  step_free other (step.listens fd opened place named on fine is) = same _ is refl refl refl
  step_free other (step.shuts fd how opened place named on fine is) = same _ is refl refl refl
  step_free other (step.connects fd opened place number listener named on fine listening room is) = same _ is refl refl refl
  step_free other (step.accepts fd opened place to taken named on free first is) = same _ is refl refl refl
  step_free other (step.receives fd addr n opened place k which named on moves is) = same _ is refl refl refl
  step_free other (step.sends fd addr n done opened place k which named on moves is) = same _ is refl refl refl
  step_free other (step.locks fd opened number asked sets named_so target is_file places clear is) = same _ is refl refl refl
  step_free other (step.starts is) = by _ is (exec_holds anybody HasNoFifo closes_free plain.files pid tt none)
  step_free other (step.forks which is) = by _ is (record { tree = none.tree; pipes = none.pipes; openings = none_by (plain.files.openings ++ None ∷ []) (one_more plain.files.openings (λ i. none.openings (suc i))) })
  step_free other (step.ends_caller over ending is) = by _ is (closed_by_holds anybody HasNoFifo closes_free plain.files pid (λ who. tt) none)
  step_free other (step.ends_other dead ending is) = by _ is (closed_by_holds anybody HasNoFifo closes_free plain.files dead (λ who. tt) none)

-- ---- all machines

pub boot_free : (script : Script) → HasNoFifo (boot_plain script).files
boot_free script = record { tree = tree; pipes = λ place. refl; openings = none_by (boot_files script.disk).openings first }
  where
    none_among : (k i : ℕ) → is_fifo_kind (kind_in (slice_index_or (replicate k None) i None)) ≡ false
    none_among zero i = refl
    none_among (suc k) zero = refl
    none_among (suc k) (suc i) = none_among k i

    tree : (number : ℕ) → is_fifo (new_tree script.disk) number ≡ false
    tree zero = refl
    tree (suc zero) = refl
    tree (suc (suc n)) = none_among _ n

    first : (i : ℕ) → unwrap_or (slice_get (boot_files script.disk).openings i) None ≡ None
    first zero = refl
    first (suc i) = refl

pub stays_free : (script : Script) (plain : Plain) (pid : ℕ) (call : Call) → HasNoFifo plain.files → ((path : List ℕ) → call ≢ calls.Mkfifo path)
    → LeadsTo (λ next. HasNoFifo next.files) (machine script plain pid call)
stays_free script plain pid call none other = answers_keep HasNoFifo script plain pid call (λ goes_on next stepped. step_free plain pid call next none other stepped)

pub killed_free : (plain : Plain) (pid status : ℕ) → HasNoFifo plain.files → HasNoFifo (die plain pid status).files
killed_free plain pid status none = closed_by_holds anybody HasNoFifo closes_free plain.files pid (λ who. tt) none

-- what a script without `mkfifo` calls is another call
other_made : (which : CallKind) (numbers : List ℤ) (texts : List (List ℕ)) (done : ℕ) (path : List ℕ) → is_mkfifo which ≡ false → made which numbers texts done ≢ calls.Mkfifo path
other_made kind.Mkfifo numbers texts done path e f = cc
other_made _ numbers texts done path e f = cc

other_call : (script : Script) → LacksMkfifo script → (control : Control) (path : List ℕ) → program.call_of script control ≢ calls.Mkfifo path
other_call script lacks control path = go (settled script control) (statement_of script (settled script control)) refl
  where
    found : (here : Control) (o : Option Program) (there : Statement) → slice_get script.programs here.program ≡ o → slice_get (statements_of o) here.place ≡ Some there → calls_mkfifo there ≡ false
    found here None there is e = absurd (not_some refl e)
    found here (Some it) there is e = lacks here.program here.place it there is e

    go : (here : Control) (o : Option Statement) → statement_of script here ≡ o → call_at here o ≢ calls.Mkfifo path
    go here None is e = cc
    go here (Some (statement.Invoke which operands texts first second)) is e =
        other_made which (map (value_of here) operands) texts here.done path (found here (slice_get script.programs here.program) (statement.Invoke which operands texts first second) refl is) e
    go here (Some (statement.Set register value)) is e = cc
    go here (Some (statement.Add register value)) is e = cc
    go here (Some (statement.If left test right place)) is e = cc
    go here (Some (statement.Jump place)) is e = cc
    go here (Some (statement.Label name)) is e = cc
    go here (Some (statement.Loop register place)) is e = cc

pub reached_free : (script : Script) (plain : Plain) → LacksMkfifo script → IsReached script plain → HasNoFifo plain.files
reached_free script plain lacks reached = by_induction script (λ plain. HasNoFifo plain.files) (record {
  boot = boot_free script;
  answer = λ plain pid before none alive. stays_free script plain pid (call_of script plain pid) none (other_call script lacks (control_of plain pid));
  refuse = λ plain pid before none. none;
  kill = λ plain pid status before none. killed_free plain pid status none;
}) reached

pub same_nodes : (files : Files) (target : Target) → HasNoFifo files → node_of files target ≡ node_before target
same_nodes files (OnNode number) none = refl
same_nodes files (OnPipe place) none = none.pipes place
same_nodes files (OnSocket place) none = refl

pub same_closed : (files : Files) (access : Access) (place : ℕ) → HasNoFifo files
    → target_closed files access (OnPipe place) ≡ with_pipe files place (after_close (pipe_at files place) (may_write access))
same_closed files access place none = ap (left_fifo (with_pipe files place (after_close (pipe_at files place) (may_write access)))) (none.pipes place)

pub same_ended : (files : Files) (pid : ℕ) → HasNoFifo files → after_end_of files pid ≡ after_closes files pid all_numbers
unfolding after_end_of
same_ended files pid none = let closed : HasNoFifo (after_closes files pid all_numbers) = closes_hold anybody HasNoFifo closes_free files pid all_numbers tt none in
    stays_none (after_closes files pid all_numbers) pid (closed.openings pid)

-- ---- as before

module _ (script : Script) (plain : Plain) (pid : ℕ) (none : HasNoFifo plain.files) where
  same_open : (path : List ℕ) (flags : ℤ) → open_file script plain pid path flags ≡ open_before script plain pid path flags (lowest_free (descriptors_of plain.files pid))
  unfolding open_file
  same_open path flags = ap (open_by script plain pid path flags) (none.openings pid) ∙ at (lowest_free (descriptors_of plain.files pid))
    where
      opened : (fd : ℕ) (r : Result (ℕ × Tree) Errno) → OkIs TreeOf r → opened_node_as script plain pid flags fd r ≡ opened_before script plain pid flags fd r
      opened fd (Ok there) tree = ap (λ b. cond b (open_fifo script plain pid flags fd there.0) (open_node script plain pid flags fd there.0 there.1)) (tree there.0)
      opened fd (Err e) tree = refl

      at : (o : Option ℕ) → open_at script plain pid path flags o ≡ open_before script plain pid path flags o
      at None = refl
      at (Some fd) = opened fd (open_path plain.files.tree (directory_of plain.table pid) path (opening_of flags)) (open_free plain.files.tree (directory_of plain.table pid) path (opening_of flags) none.tree)

  same_fstat : (fd : ℤ) → fstat script plain pid fd ≡ answer_without script plain pid (calls.Fstat fd)
  unfolding fstat
  same_fstat fd = go (opened_at plain.files pid fd)
    where
      info : (target : Target) → info_of plain.files target ≡ info_before plain.files.tree target
      info (OnNode number) = refl
      info (OnPipe place) = ap (end_info plain.files.tree) (none.pipes place)
      info (OnSocket place) = refl

      go : (o : Option Opened) → answer_on script plain pid (λ opened. replied script plain pid (Stat (info_of plain.files opened.is.target))) o
          ≡ answer_on script plain pid (λ opened. replied script plain pid (Stat (info_before plain.files.tree opened.is.target))) o
      go None = refl
      go (Some opened) = ap (λ told. replied script plain pid (Stat told)) (info opened.is.target)

  same_exec : (path : List ℕ) → exec script plain pid path ≡ answer_without script plain pid (calls.Exec path)
  unfolding exec
  same_exec path = ap (starts script plain pid) (go (node_led (resolve plain.files.tree (directory_of plain.table pid) path)))
    where
      two : (a b c : Bool) → c ≡ false → (a || b || c) ≡ (a || b)
      two true b c e = refl
      two false true c e = refl
      two false false c e = e

      go : (found : Result ℕ Errno) → exec_found plain.files.tree script.programs found ≡ program_before plain.files.tree script.programs found
      go (Ok number) = ap (λ b. unless b EACCES (program_of script.programs (bytes_in (node_at plain.files.tree number))))
          (two (is_directory plain.files.tree number) (is_socket plain.files.tree number) (is_fifo plain.files.tree number) (none.tree number))
      go (Err e) = refl

  same_answer : (call : Call) → answer_to script plain pid call ≡ answer_without script plain pid call
  same_answer (calls.OpenFile path flags) = same_open path flags
  same_answer (calls.Fstat fd) = same_fstat fd
  same_answer (calls.Exec path) = same_exec path
  same_answer _ = refl

  pub same_machine : (call : Call) → machine script plain pid call ≡ machine_without script plain pid call
  same_machine call = ap (unless_wrong script plain pid (argument_fault call)) (same_answer call)
