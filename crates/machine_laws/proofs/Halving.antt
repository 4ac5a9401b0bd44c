-- Who has done a part of a call stands at a write to a pipe or a socket, or at the open of a FIFO, in which he waits for the other side.
use Rattle.std.proofs.Common.{◌≡◌, ◌≢◌, ℕ, zero, suc, ◌+◌, ◌-◌, ◌<◌, ◌≤◌, ◌==◌, ◌&&◌, ◌||◌, not, ℤ, pos, negsuc, Bool, true, false, cond, List, [], ◌∷◌, ◌++◌, length, Option, None, Some, is_some, unwrap_or, slice_get, slice_index_or, slice_set, refl, ap, sym, ◌∙◌, subst, inl, inr, arith}
use Rattle.std.proofs.lemmas.Bool.Decides.{eqb_tells}
use Rattle.std.proofs.lemmas.List.{get_or-set_same, get_or-set_other}
use Rattle.std.proofs.lemmas.Option.{slice_get_past}
use Rattle.kabi_types.specs.Arguments.{argument_fault, count_of}
use Rattle.kabi_types.specs.declared.calls.Call.{Call}
use Rattle.kabi_types.specs.declared.calls.Call.TheVariants as calls
use Rattle.kabi_types.specs.declared.errnos.Errno.{Errno}
use Rattle.kabi_types.specs.declared.errnos.Errno.TheVariants.{EAGAIN, ENOMEM, EPERM, ESRCH}
use Rattle.kabi_types.specs.declared.replies.Reply.{Reply}
use Rattle.kabi_types.specs.declared.replies.Reply.TheVariants.{Fail, Val, Waited}
use Rattle.kabi_types.specs.declared.scripts.Control.{Control}
use Rattle.kabi_types.specs.declared.scripts.Script.{Script}
use Rattle.posix_defs.specs.Answer.{Answer, Ended, failed, replied}
use Rattle.posix_defs.specs.ByPid.{at_pid, with_pid}
use Rattle.posix_defs.specs.Control as program
use Rattle.posix_defs.specs.Ending.{closed_by, die}
use Rattle.posix_defs.specs.Forking.{child_of, is_full, with_child}
use Rattle.posix_defs.specs.Killing.{is_asking, is_ended_by, kill, sent_to, struck}
use Rattle.posix_defs.specs.Killing as killing
use Rattle.posix_defs.specs.Machine.{machine, unless_wrong}
use Rattle.posix_defs.specs.Made.{further}
use Rattle.posix_defs.specs.Memory.{no_memory}
use Rattle.posix_defs.specs.MemoryCalls.{remembered}
use Rattle.posix_defs.specs.Plain.{Plain, answered, at_start, boot_plain, call_of, control_of, last_pid, with_control, with_files, with_table}
use Rattle.posix_defs.specs.Process.{Process, is_alive, is_alive_in, process_at, with_directory, with_ignores}
use Rattle.posix_defs.specs.Files.Descriptors.{Descriptor, descriptor_at, descriptor_of, is_named}
use Rattle.posix_defs.specs.Pipe.{Pipe, after_close as after_close_pipe, after_read, after_write, new_pipe, opens_of, unopened, with_end, without_reader, without_writer}
use Rattle.posix_defs.specs.Files.Descriptions.{Target, OnNode, OnPipe, OnSocket, Description, Descriptions, access_of, description_at, has_flag, may_write, o_cloexec, with_description}
use Rattle.posix_defs.specs.Files.State.{Files, HalfOpen, descriptors_of, node_of, opened_as, opening_at, pipe_at, pipe_there, with_descriptions, with_heir, with_open, with_opening, with_openings, with_pipe, with_pipes}
use Rattle.posix_defs.specs.Waiting.{reaped}
use Rattle.posix_defs.specs.Files.Closing.{after_close, after_exec_of, target_closed}
use Rattle.posix_defs.specs.Files.Whole.{HasPlaces, IsHalfOpen, is_half_open, is_open, is_queue, is_queue_in, is_write_of}
use Rattle.posix_defs.specs.Calls.Opened.{Opened, opened_at, opened_by}
use Rattle.posix_defs.specs.Calls.OnFiles.{description_on, end_awaits, end_opened, fifo_at, fifo_pipe, fifo_there}
use Rattle.posix_defs.specs.Calls.Starting.{started}
use Rattle.posix_defs.specs.Calls.Writing.{bytes_left}
use Rattle.kern_laws.proofs.Families.{alive_there}
use Rattle.kern_laws.proofs.Nexts.{at_other, at_own}
use Rattle.kern_laws.proofs.Remembering.{alive_ignoring, alive_still}
use Rattle.kern_laws.proofs.TablePlaces.{below_or_not, get_front, get_set_same, is_gone, same_in_front, was_made, with_other}
use Rattle.answer_laws.proofs.GoingOn.{call_part}
use Rattle.machine_laws.specs.FileSteps as step
use Rattle.machine_laws.specs.FileSteps.{IsStep, LeadsTo, MayWait, Steps, may_end_other}
use Rattle.machine_laws.specs.Piped.{ArePiped, IsEnd, pipe_in}
use Rattle.machine_laws.specs.Placed.{IsPlaced}
use Rattle.machine_laws.specs.Reached.{IsReached}
use Rattle.answer_laws.specs.Shapes as shape
use Rattle.answer_laws.specs.Shapes.{HasShape, IsBegun, IsPart}
use Rattle.machine_laws.proofs.Naming.{by_named, target_descriptions}
use Rattle.machine_laws.proofs.Places.{free_at, naming, names_there, not_some, opened_same, others_after, own_after, some_same, there_within}
use Rattle.machine_laws.proofs.Placing.{alive_moved}
use Rattle.machine_laws.proofs.Reaches.{reached_keeps}
use Rattle.answer_laws.proofs.Shapes.{machine_shape}
use Rattle.machine_laws.proofs.SharedOffsets.{stay_open}
use Rattle.machine_laws.proofs.Shutting.{same_of, target_openings, target_same}
use Rattle.machine_laws.proofs.Stepping.{end_at, end_openings, step_of}
use Rattle.machine_laws.proofs.FifoPlaces.{IsFifoAt, fifo_at_is, left_holds, node_holds, not_zero}
use Rattle.machine_laws.proofs.Piping.{answers_piped, die_piped, reached_piped}
use Rattle.machine_laws.proofs.Piping.{closes as piped_closes}
use Rattle.machine_laws.proofs.Closings.{IsClosedUnder, anybody, close_holds, exec_holds, one_end_holds, without}
use Rattle.machine_laws.proofs.Inductions.{by_induction}
use Rattle.machine_laws.proofs.Items.{changed_is, pushed_front, some_is, true_false}
use Rattle.machine_laws.proofs.Surviving.{survives}

-- ---- where a process stands

-- a process's call is a write to what a descriptor of its has open, a pipe or a socket
record AtQueue (files : Files) (who : ℕ) (call : Call) : Type 0 where
  fd : ℤ
  addr : ℤ
  n : ℤ
  done : ℕ
  opened : Opened
  which : call ≡ calls.Write fd addr n done
  named : opened_at files who fd ≡ Some opened
  queue : is_queue opened.is.target ≡ true

at_queue : (files : Files) (who : ℕ) (call : Call) → is_write_of files who call ≡ true → AtQueue files who call
at_queue files who (calls.Write fd addr n done) e = go (opened_at files who fd) refl e
  where
    go : (o : Option Opened) → opened_at files who fd ≡ o → is_queue_in o ≡ true → AtQueue files who (calls.Write fd addr n done)
    go None is f = absurd (true_false false f refl)
    go (Some opened) is f = record { fd = fd; addr = addr; n = n; done = done; opened = opened; which = refl; named = is; queue = f }
at_queue files who _ e = absurd (true_false false e refl)

queue_at : (files : Files) (who : ℕ) (call : Call) → AtQueue files who call → is_write_of files who call ≡ true
queue_at files who call at = ap (is_write_of files who) at.which ∙ ap is_queue_in at.named ∙ at.queue

-- ---- what others have open

-- what a process has open it has open still, on the same, for the same
record KeepsOpen (old new : Files) (who : ℕ) : Type 0 where
  each : (fd : ℤ) (opened : Opened) → opened_at old who fd ≡ Some opened
      → (now : Opened) × (opened_at new who fd ≡ Some now) × (now.is.target ≡ opened.is.target) × (now.is.access ≡ opened.is.access)

still_writes : (old new : Files) (who : ℕ) (call : Call) → KeepsOpen old new who → is_write_of old who call ≡ true → is_write_of new who call ≡ true
still_writes old new who call keeps stood = let at = at_queue old who call stood in let now = keeps.each at.fd at.opened at.named in
    queue_at new who call (record { fd = at.fd; addr = at.addr; n = at.n; done = at.done; opened = now.0; which = at.which; named = now.1; queue = ap is_queue now.2 ∙ at.queue })

-- ---- FIFOs

-- a pipe is that of the same FIFO, and each side was opened as often, or more often
record SameFifo (was now : Pipe) : Type 0 where
  node : now.node ≡ was.node
  opens : (writing : Bool) → opens_of was writing ≤ opens_of now writing

same_fifo : (pipe : Pipe) → SameFifo pipe pipe
same_fifo pipe = record { node = refl; opens = λ writing. omega arith }

-- pipes that are there still
abbrev KeepsPipes : Files → Files → Type 0
KeepsPipes old new = (place : ℕ) (was now : Pipe) → pipe_there old place ≡ Some was → pipe_there new place ≡ Some now → SameFifo was now

-- what others leave of pipes, and of the open that a process waits in
record KeepsWaits (old new : Files) (who : ℕ) : Type 0 where
  pipes : KeepsPipes old new
  opening : opening_at new who ≡ opening_at old who

pipes_same : (old new : Files) → new.pipes ≡ old.pipes → KeepsPipes old new
pipes_same old new same place was now one two =
    subst (SameFifo was) (some_same (pipe_there old place) was now one (sym (ap (λ list. slice_index_or list place None) same) ∙ two)) (same_fifo was)

waits_same : (old new : Files) (who : ℕ) → new.pipes ≡ old.pipes → new.openings ≡ old.openings → KeepsWaits old new who
waits_same old new who pipes openings = record { pipes = pipes_same old new pipes; opening = ap (λ list. unwrap_or (at_pid list who) None) openings }

-- ---- where a process stands

pub data Stands (files : Files) (who : ℕ) (call : Call) : Type 0 where
  at_write : is_write_of files who call ≡ true → Stands files who call
  at_open : is_open call ≡ true → (opening : HalfOpen) → opening_at files who ≡ Some opening → IsHalfOpen files who opening → Stands files who call

pub stands_half : (files : Files) (who : ℕ) (call : Call) → Stands files who call → (is_write_of files who call || is_half_open files who call) ≡ true
stands_half files who call (at_write e) = ap (λ b. b || is_half_open files who call) e
stands_half files who call (at_open opens opening waits half) =
    ap (λ b. is_write_of files who call || b) (ap (λ b. b && is_some (opening_at files who)) opens ∙ ap is_some waits) ∙ or_true (is_write_of files who call)
  where
    or_true : (b : Bool) → (b || true) ≡ true
    or_true true = refl
    or_true false = refl

no_open_writes : (files : Files) (who : ℕ) (call : Call) → is_write_of files who call ≡ true → is_open call ≡ true → ⊥
no_open_writes files who (calls.OpenFile path flags) e f = true_false false e refl
no_open_writes files who _ e f = true_false false f refl

pub stands_open : (script : Script) (plain : Plain) (pid : ℕ) (opening : HalfOpen) → is_open (call_of script plain pid) ≡ true → opening_at plain.files pid ≡ Some opening
    → Stands plain.files pid (call_of script plain pid) → IsHalfOpen plain.files pid opening
stands_open script plain pid opening opens is (at_write e) = absurd (no_open_writes plain.files pid (call_of script plain pid) e opens)
stands_open script plain pid opening opens is (at_open same other waits half) = subst (IsHalfOpen plain.files pid) (some_same (opening_at plain.files pid) other opening waits is) half

-- a pipe with a node is there
with_node_there : (o : Option Pipe) → (unwrap_or o new_pipe).node ≢ 0 → (pipe : Pipe) × (o ≡ Some pipe)
with_node_there None some = absurd (some refl)
with_node_there (Some pipe) some = (pipe, refl)

waits_still : (old new : Files) (who : ℕ) (opening : HalfOpen) → KeepsOpen old new who → KeepsPipes old new → ArePiped new.descriptions new.pipes → IsHalfOpen old who opening → IsHalfOpen new who opening
waits_still old new who opening keeps pipes piped half = record {
  opened = now.0;
  named = now.1;
  place = half.place;
  target = target;
  fifo = λ none. half.fifo (ap (λ p. p.node) was_at ∙ sym same.node ∙ sym (ap (λ p. p.node) now_at) ∙ none);
  seen = (let before : opening.seen ≤ opens_of (pipe_at old half.place) (not (may_write half.opened.is.access)) = half.seen in
      let more : opens_of was.0 (not (may_write half.opened.is.access)) ≤ opens_of now_pipe.0 (not (may_write half.opened.is.access)) = same.opens (not (may_write half.opened.is.access)) in
      let first : opens_of (pipe_at old half.place) (not (may_write half.opened.is.access)) ≡ opens_of was.0 (not (may_write half.opened.is.access)) = ap (λ p. opens_of p (not (may_write half.opened.is.access))) was_at in
      let last : opens_of (pipe_at new half.place) (not (may_write now.0.is.access)) ≡ opens_of now_pipe.0 (not (may_write half.opened.is.access)) =
      ap (λ p. opens_of p (not (may_write now.0.is.access))) now_at ∙ ap (λ a. opens_of now_pipe.0 (not (may_write a))) now.3 in omega arith);
}
  where
    now : (now : Opened) × (opened_at new who (pos opening.fd) ≡ Some now) × (now.is.target ≡ half.opened.is.target) × (now.is.access ≡ half.opened.is.access)
    now = keeps.each (pos opening.fd) half.opened half.named

    target : now.0.is.target ≡ OnPipe half.place
    target = now.2 ∙ half.target

    was : (pipe : Pipe) × (pipe_there old half.place ≡ Some pipe)
    was = with_node_there (pipe_there old half.place) half.fifo

    was_at : pipe_at old half.place ≡ was.0
    was_at = ap (λ o. unwrap_or o new_pipe) was.1

    end : IsEnd new.pipes now.0.is.access (OnPipe half.place)
    end = let naming_it = naming new who (pos opening.fd) now.0 now.1 in subst (IsEnd new.pipes now.0.is.access) target (piped.ends now.0.place now.0.is naming_it.there)

    now_pipe : (pipe : Pipe) × (pipe_there new half.place ≡ Some pipe)
    now_pipe = some_is (pipe_there new half.place) end.0

    now_at : pipe_at new half.place ≡ now_pipe.0
    now_at = ap (λ o. unwrap_or o new_pipe) now_pipe.1

    same : SameFifo was.0 now_pipe.0
    same = pipes half.place was.0 now_pipe.0 was.1 now_pipe.1

stands_still : (old new : Files) (who : ℕ) (call : Call) → KeepsOpen old new who → KeepsWaits old new who → ArePiped new.descriptions new.pipes → Stands old who call → Stands new who call
stands_still old new who call keeps waits piped (at_write e) = at_write (still_writes old new who call keeps e)
stands_still old new who call keeps waits piped (at_open opens opening is half) = at_open opens opening (waits.opening ∙ is) (waits_still old new who opening keeps waits.pipes piped half)

keeps_by : (old new : Files) (who : ℕ) → descriptors_of new who ≡ descriptors_of old who
    → ((fd : ℤ) (descriptor : Descriptor) (description : Description) → descriptor_of (descriptors_of old who) fd ≡ Some descriptor → description_at old.descriptions descriptor.description ≡ Some description
    → (now : Description) × (description_at new.descriptions descriptor.description ≡ Some now) × (now.target ≡ description.target) × (now.access ≡ description.access)) → KeepsOpen old new who
keeps_by old new who same stay = record { each = each }
  where
    each : (fd : ℤ) (opened : Opened) → opened_at old who fd ≡ Some opened
        → (now : Opened) × (opened_at new who fd ≡ Some now) × (now.is.target ≡ opened.is.target) × (now.is.access ≡ opened.is.access)
    each fd opened is = let naming_it = naming old who fd opened is in
        let now = stay fd naming_it.descriptor opened.is naming_it.held (ap (description_at old.descriptions) naming_it.place ∙ naming_it.there) in (
          record { place = opened.place; is = now.0 },
          names_there new who fd naming_it.descriptor opened.place now.0 (ap (λ list. descriptor_of list fd) same ∙ naming_it.held) naming_it.place (ap (description_at new.descriptions) (sym naming_it.place) ∙ now.1),
          now.2,
          now.3,
        )

keeps_same : (old new : Files) (who : ℕ) → descriptors_of new who ≡ descriptors_of old who → new.descriptions ≡ old.descriptions → KeepsOpen old new who
keeps_same old new who same descriptions = keeps_by old new who same (λ fd descriptor description held is. (description, ap (λ list. description_at list descriptor.description) descriptions ∙ is, refl, refl))

keeps_on : (old between new : Files) (who : ℕ) → KeepsOpen old between who → KeepsOpen between new who → KeepsOpen old new who
keeps_on old between new who one two = record {
  each = λ fd opened is. let first = one.each fd opened is in let second = two.each fd first.0 first.1 in (second.0, second.1, second.2 ∙ first.2, second.3 ∙ first.3);
}

module _ (files : Files) (pid who : ℕ) (apart : who ≢ pid) where
  other_keeps : (fd : ℕ) (descriptor : Option Descriptor) → KeepsOpen files (with_open files pid fd descriptor) who
  other_keeps fd descriptor = keeps_same files (with_open files pid fd descriptor) who (others_after files pid who fd descriptor apart) refl

  opened_keeps : (fd : ℕ) (cloexec : Bool) (description : Description) → KeepsOpen files (opened_as files pid fd cloexec description) who
  opened_keeps fd cloexec description = keeps_by files (opened_as files pid fd cloexec description) who (others_after files pid who fd (Some (record { description = length files.descriptions; cloexec = cloexec })) apart)
      (λ at descriptor before held is. (before, pushed_front files.descriptions (Some description) descriptor.description before is, refl, refl))

-- a description is open on the same still
described_keeps : (files new : Files) (who place : ℕ) (was now : Description) → description_at files.descriptions place ≡ Some was → now.target ≡ was.target → now.access ≡ was.access
    → descriptors_of new who ≡ descriptors_of files who → new.descriptions ≡ with_description files.descriptions place (Some now) → KeepsOpen files new who
described_keeps files new who place was now there target access same descriptions = keeps_by files new who same (λ fd descriptor description held is. at descriptor.description description is)
  where
    at : (other : ℕ) (description : Description) → description_at files.descriptions other ≡ Some description
        → (after : Description) × (description_at new.descriptions other ≡ Some after) × (after.target ≡ description.target) × (after.access ≡ description.access)
    at other description is = elim (eqb_tells other place) [
      | inl alike ↦ (
        now,
        ap (λ list. description_at list other) descriptions ∙ ap (description_at (with_description files.descriptions place (Some now))) alike.1
            ∙ get_or-set_same files.descriptions place (Some now) None (there_within files.descriptions place was there),
        target ∙ ap (λ d. d.target) (some_same (description_at files.descriptions other) was description (ap (description_at files.descriptions) alike.1 ∙ there) is),
        access ∙ ap (λ d. d.access) (some_same (description_at files.descriptions other) was description (ap (description_at files.descriptions) alike.1 ∙ there) is),
      )
      | inr apart ↦ (description, ap (λ list. description_at list other) descriptions ∙ get_or-set_other files.descriptions place other (Some now) None apart.1 ∙ is, refl, refl)
    ]

-- ---- others close

-- what one process names is as it was
record StaysNamed (old : Files) (who : ℕ) (files : Files) : Type 0 where
  same : descriptors_of files who ≡ descriptors_of old who
  stay : (fd : ℕ) (descriptor : Descriptor) → descriptor_at (descriptors_of old who) fd ≡ Some descriptor
      → description_at files.descriptions descriptor.description ≡ description_at old.descriptions descriptor.description

named_closed : (old : Files) (who : ℕ) → IsClosedUnder (λ pid. who ≢ pid) (StaysNamed old who)
named_closed old who = record {
  shut = λ files pid fd apart stays. record { same = others_after files pid who fd None apart ∙ stays.same; stay = stays.stay };
  wakes = λ files pid apart stays. record { same = stays.same; stay = stays.stay };
  gone = gone;
  unlocks = λ files locks stays. record { same = stays.same; stay = stays.stay };
}
  where
    gone : (files : Files) (place : ℕ) (description : Description) → StaysNamed old who files → description_at files.descriptions place ≡ Some description
        → is_named files.descriptors place ≡ false → StaysNamed old who (without files place description)
    gone files place description stays is none = record {
      same = same_of files (without files place description) (target_same (record files { descriptions = with_description files.descriptions place None }) description.access description.target) who ∙ stays.same;
      stay = λ fd descriptor held. ap (λ list. description_at list descriptor.description) (target_descriptions (record files { descriptions = with_description files.descriptions place None }) description.access description.target)
          ∙ get_or-set_other files.descriptions place descriptor.description None None (apart fd descriptor held) ∙ stays.stay fd descriptor held;
    }
      where
        apart : (fd : ℕ) (descriptor : Descriptor) → descriptor_at (descriptors_of old who) fd ≡ Some descriptor → descriptor.description ≢ place
        apart fd descriptor held same_place = true_false (is_named files.descriptors place)
            (by_named files place (record { who = who; fd = fd; descriptor = descriptor; held = ap (λ list. descriptor_at list fd) stays.same ∙ held; names = same_place })) none

stays_now : (files : Files) (who : ℕ) → StaysNamed files who files
stays_now files who = record { same = refl; stay = λ fd descriptor held. refl }

keeps_named : (old new : Files) (who : ℕ) → StaysNamed old who new → KeepsOpen old new who
keeps_named old new who stays = keeps_by old new who stays.same at
  where
    at : (fd : ℤ) (descriptor : Descriptor) (description : Description) → descriptor_of (descriptors_of old who) fd ≡ Some descriptor → description_at old.descriptions descriptor.description ≡ Some description
        → (now : Description) × (description_at new.descriptions descriptor.description ≡ Some now) × (now.target ≡ description.target) × (now.access ≡ description.access)
    at (pos fd) descriptor description held is = (description, stays.stay fd descriptor held ∙ is, refl, refl)
    at (negsuc n) descriptor description held is = absurd (not_some refl held)

-- ---- pipes and opens that wait, where others close

-- a pipe that is there was there before
abbrev EachWas : List (Option Pipe) → List (Option Pipe) → Type 0
EachWas old new = (place : ℕ) (now : Pipe) → pipe_in new place ≡ Some now → (was : Pipe) × (pipe_in old place ≡ Some was) × SameFifo was now

fifo_on : (one two three : Pipe) → SameFifo one two → SameFifo two three → SameFifo one three
fifo_on one two three first second = record {
  node = second.node ∙ first.node;
  opens = λ writing. let a : opens_of one writing ≤ opens_of two writing = first.opens writing in let b : opens_of two writing ≤ opens_of three writing = second.opens writing in omega arith;
}

-- a pipe with one end less
left_fifo_same : (pipe now : Pipe) (writing : Bool) → after_close_pipe pipe writing ≡ Some now → SameFifo pipe now
left_fifo_same pipe now true is = go (pipe.readers == 0) (pipe.writers - 1 == 0) is
  where
    same : SameFifo pipe (without_writer pipe)
    same = record { node = refl; opens = λ writing. omega arith }

    go : (a b : Bool) → cond (a && b) None (Some (without_writer pipe)) ≡ Some now → SameFifo pipe now
    go true true e = absurd (not_some refl e)
    go true false e = subst (SameFifo pipe) (some_same (Some (without_writer pipe)) (without_writer pipe) now refl e) same
    go false b e = subst (SameFifo pipe) (some_same (Some (without_writer pipe)) (without_writer pipe) now refl e) same
left_fifo_same pipe now false is = go (pipe.readers - 1 == 0) (pipe.writers == 0) is
  where
    same : SameFifo pipe (without_reader pipe)
    same = record { node = refl; opens = λ writing. omega arith }

    go : (a b : Bool) → cond (a && b) None (Some (without_reader pipe)) ≡ Some now → SameFifo pipe now
    go true true e = absurd (not_some refl e)
    go true false e = subst (SameFifo pipe) (some_same (Some (without_reader pipe)) (without_reader pipe) now refl e) same
    go false b e = subst (SameFifo pipe) (some_same (Some (without_reader pipe)) (without_reader pipe) now refl e) same

abbrev PipedFrom : Files → Files → Type 0
PipedFrom old files = ArePiped files.descriptions files.pipes × EachWas old.pipes files.pipes

piped_closed : (old : Files) → IsClosedUnder anybody (PipedFrom old)
piped_closed old = record {
  shut = λ files pid fd who holds. holds;
  wakes = λ files pid who holds. holds;
  unlocks = λ files locks holds. holds;
  gone = λ files place description holds is none. (piped_closes.gone files place description holds.0 is none, gone files place description holds is description.target refl);
}
  where
    gone : (files : Files) (place : ℕ) (description : Description) → PipedFrom old files → description_at files.descriptions place ≡ Some description → (target : Target) → description.target ≡ target
        → EachWas old.pipes (target_closed (with_descriptions files (with_description files.descriptions place None)) description.access target).pipes
    gone files place description holds is (OnNode number) on = node_holds (λ after. EachWas old.pipes after.pipes) (with_descriptions files (with_description files.descriptions place None)) number holds.1 (λ tree. holds.1)
    gone files place description holds is (OnPipe p) on = left_holds (λ after. EachWas old.pipes after.pipes) _ (node_of files (OnPipe p)) each (λ tree. each)
      where
        end : IsEnd files.pipes description.access (OnPipe p)
        end = subst (IsEnd files.pipes description.access) on (holds.0.ends place description is)

        here : (pipe : Pipe) × (pipe_in files.pipes p ≡ Some pipe)
        here = some_is (pipe_in files.pipes p) end.0

        each : EachWas old.pipes (slice_set files.pipes p (after_close_pipe (pipe_at files p) (may_write description.access)))
        each other now e = elim (changed_is files.pipes p (after_close_pipe (pipe_at files p) (may_write description.access)) other now e) [
          | inl before ↦ holds.1 other now before.1
          | inr same ↦ let was = holds.1 p here.0 here.1 in (
            was.0,
            ap (pipe_in old.pipes) same.0 ∙ was.1,
            fifo_on was.0 here.0 now was.2 (left_fifo_same here.0 now (may_write description.access) (ap (λ o. after_close_pipe (unwrap_or o new_pipe) (may_write description.access)) (sym here.1) ∙ same.1)),
          )
        ]
    gone files place description holds is (OnSocket number) on = holds.1

pipes_from : (old new : Files) → PipedFrom old new → KeepsPipes old new
pipes_from old new from place was now one two = let before = from.1 place now two in
    subst (λ p. SameFifo p now) (some_same (pipe_in old.pipes place) before.0 was before.1 one) before.2

from_now : (files : Files) → ArePiped files.descriptions files.pipes → PipedFrom files files
from_now files piped = (piped, λ place now is. (now, is, same_fifo now))

-- who waits in an open waits in it still, where another closes
pub opening_closed : (old : Files) (who : ℕ) → IsClosedUnder (λ pid. who ≢ pid) (λ files. opening_at files who ≡ opening_at old who)
opening_closed old who = record {
  shut = λ files pid fd apart same. same;
  wakes = λ files pid apart same. ap (λ o. unwrap_or o None) (at_other files.openings pid who None apart) ∙ same;
  unlocks = λ files locks same. same;
  gone = λ files place description same is none. ap (λ list. unwrap_or (at_pid list who) None)
      (target_openings (with_descriptions files (with_description files.descriptions place None)) description.access description.target) ∙ same;
}

-- ---- steps

module _ (plain : Plain) (pid : ℕ) (call : Call) (next : Files) (who : ℕ) (apart : who ≢ pid) (no_fork : call ≢ calls.Fork) (no_other : may_end_other call ≡ false)
    (piped : ArePiped plain.files.descriptions plain.files.pipes) where
  waits_by : (after : Files) → next ≡ after → KeepsWaits plain.files after who → KeepsWaits plain.files next who
  waits_by after is keeps = subst (λ files. KeepsWaits plain.files files who) (sym is) keeps

  unwaited : (after : Files) → next ≡ after → after.pipes ≡ plain.files.pipes → after.openings ≡ plain.files.openings → KeepsWaits plain.files next who
  unwaited after is pipes openings = waits_by after is (waits_same plain.files after who pipes openings)

  -- one pipe becomes another, of the same FIFO
  moved : (place : ℕ) (now : Pipe) → SameFifo (pipe_at plain.files place) now → (after : Files) → after.pipes ≡ slice_set plain.files.pipes place (Some now) → KeepsPipes plain.files after
  moved place now same after is at was there one two = elim (changed_is plain.files.pipes place (Some now) at there (sym (ap (λ list. slice_index_or list at None) is) ∙ two)) [
    | inl before ↦ subst (SameFifo was) (some_same (pipe_there plain.files at) was there one before.1) (same_fifo was)
    | inr here ↦ subst (SameFifo was) (some_same (Some now) now there refl here.1)
        (subst (λ p. SameFifo p now) (ap (λ o. unwrap_or o new_pipe) (ap (pipe_there plain.files) (sym here.0) ∙ one)) same)
  ]

  -- one more is made
  pushed : (new : Pipe) (after : Files) → after.pipes ≡ plain.files.pipes ++ Some new ∷ [] → KeepsPipes plain.files after
  pushed new after is at was there one two = subst (SameFifo was)
      (some_same (pipe_in (plain.files.pipes ++ Some new ∷ []) at) was there (pushed_front plain.files.pipes (Some new) at was one) (sym (ap (λ list. slice_index_or list at None) is) ∙ two)) (same_fifo was)

  pushed_waits : (after : Files) → next ≡ after → (new : Pipe) → after.pipes ≡ plain.files.pipes ++ Some new ∷ [] → opening_at after who ≡ opening_at plain.files who → KeepsWaits plain.files next who
  pushed_waits after is new pipes opening = waits_by after is (record { pipes = pushed new after pipes; opening = opening })

  moved_waits : (after : Files) → next ≡ after → (place : ℕ) (now : Pipe) → SameFifo (pipe_at plain.files place) now → after.pipes ≡ slice_set plain.files.pipes place (Some now)
      → opening_at after who ≡ opening_at plain.files who → KeepsWaits plain.files next who
  moved_waits after is place now same pipes opening = waits_by after is (record { pipes = moved place now same after pipes; opening = opening })

  others_wait : {flags : ℤ} {fd number : ℕ} (openings : List (Option HalfOpen)) → MayWait plain.files pid flags fd number openings → unwrap_or (at_pid openings who) None ≡ opening_at plain.files who
  others_wait openings (step.goes over is) = ap (λ list. unwrap_or (at_pid list who) None) is
  others_wait openings (step.waits still is) = ap (λ list. unwrap_or (at_pid list who) None) is ∙ ap (λ o. unwrap_or o None) (at_other plain.files.openings pid who _ apart)

  closed_waits : (fd : ℕ) → KeepsWaits plain.files (after_close plain.files pid fd) who
  closed_waits fd = record {
    pipes = pipes_from plain.files (after_close plain.files pid fd) (close_holds anybody (PipedFrom plain.files) (piped_closed plain.files) plain.files pid fd tt (from_now plain.files piped));
    opening = close_holds (λ other. who ≢ other) (λ files. opening_at files who ≡ opening_at plain.files who) (opening_closed plain.files who) plain.files pid fd apart refl;
  }

  exec_waits : KeepsWaits plain.files (after_exec_of plain.files pid) who
  exec_waits = record {
    pipes = pipes_from plain.files (after_exec_of plain.files pid) (exec_holds anybody (PipedFrom plain.files) (piped_closed plain.files) plain.files pid tt (from_now plain.files piped));
    opening = exec_holds (λ other. who ≢ other) (λ files. opening_at files who ≡ opening_at plain.files who) (opening_closed plain.files who) plain.files pid apart refl;
  }

  end_opens : (pipe : Pipe) (writing : Bool) → SameFifo pipe (with_end pipe writing)
  end_opens pipe true = record { node = refl; opens = opens }
    where
      opens : (writing : Bool) → opens_of pipe writing ≤ opens_of (with_end pipe true) writing
      opens true = omega arith
      opens false = omega arith
  end_opens pipe false = record { node = refl; opens = opens }
    where
      opens : (writing : Bool) → opens_of pipe writing ≤ opens_of (with_end pipe false) writing
      opens true = omega arith
      opens false = omega arith

  step_waits : IsStep plain pid call true next → KeepsWaits plain.files next who
  step_waits (step.stays is) = unwaited _ is refl refl
  step_waits (step.shares fd opened from to named free is) = unwaited _ is refl refl
  step_waits (step.shares_over fd to opened named may differ is) = waits_by _ is (let closed = closed_waits (count_of to) in record { pipes = closed.pipes; opening = closed.opening })
  step_waits (step.marks fd opened cloexec named is) = unwaited _ is refl refl
  step_waits (step.closes fd opened named is) = waits_by _ is (closed_waits (count_of fd))
  step_waits (step.describes fd opened description named target access between is) = unwaited _ is refl refl
  step_waits (step.opens path flags fd found which free led other is) = unwaited _ is refl refl
  step_waits (step.writes fd addr n done opened number at offset written reaches wrote is) = unwaited _ is refl refl
  step_waits (step.writes_at fd addr n opened number at written reaches wrote is) = unwaited _ is refl refl
  step_waits (step.resizes fd opened number size tree reaches sized is) = unwaited _ is refl refl
  step_waits (step.makes path made which led is) = unwaited _ is refl refl
  step_waits (step.makes_fifo path made which led is) = unwaited _ is refl refl
  step_waits (step.removes path tree which led is) = unwaited _ is refl refl
  step_waits (step.links old new tree which led is) = unwaited _ is refl refl
  step_waits (step.unlinks path left which led is) = unwaited _ is refl refl
  step_waits (step.renames old new left which led is) = unwaited _ is refl refl
  step_waits (step.pipes free_two free is) = pushed_waits _ is new_pipe refl refl
  step_waits (step.takes fd addr n opened place k which named on may moves is) = moved_waits _ is place (after_read (pipe_at plain.files place) k) (record { node = refl; opens = λ writing. omega arith }) refl refl
  step_waits (step.puts fd addr n done opened place k which named on may moves is) = moved_waits _ is place (after_write (pipe_at plain.files place) (bytes_left plain pid addr (count_of n) done) k)
      (record { node = refl; opens = λ writing. omega arith }) refl refl
  step_waits (step.joins path flags fd place found openings opens at may is) = moved_waits _ is place (with_end (pipe_at plain.files place) (may_write (access_of flags)))
      (end_opens (pipe_at plain.files place) (may_write (access_of flags))) refl (others_wait openings may)
  step_waits (step.begins path flags fd found openings opens at may is) = pushed_waits _ is (with_end (unopened found.0) (may_write (access_of flags))) refl (others_wait openings may)
  step_waits (step.meets path flags opening which begun is) = waits_by _ is (record {
    pipes = pipes_same plain.files (with_opening plain.files pid None) refl;
    opening = ap (λ o. unwrap_or o None) (at_other plain.files.openings pid who None apart);
  })
  step_waits (step.sockets fd free is) = unwaited _ is refl refl
  step_waits (step.pairs free_two free is) = unwaited _ is refl refl
  step_waits (step.binds fd path opened place made which named on fine led is) = unwaited _ is refl refl
  step_waits (step.listens fd opened place named on fine is) = unwaited _ is refl refl
  step_waits (step.shuts fd how opened place named on fine is) = unwaited _ is refl refl
  step_waits (step.connects fd opened place number listener named on fine listening room is) = unwaited _ is refl refl
  step_waits (step.accepts fd opened place to taken named on free first is) = unwaited _ is refl refl
  step_waits (step.receives fd addr n opened place k which named on moves is) = unwaited _ is refl refl
  step_waits (step.sends fd addr n done opened place k which named on moves is) = unwaited _ is refl refl
  step_waits (step.locks fd opened number asked sets named_so target is_file places clear is) = unwaited _ is refl refl
  step_waits (step.starts is) = waits_by _ is exec_waits
  step_waits (step.forks which is) = absurd (no_fork which)
  step_waits (step.ends_caller over ending is) = absurd (true_false true refl over)
  step_waits (step.ends_other dead ending is) = absurd (true_false (may_end_other call) ending no_other)

module _ (plain : Plain) (pid : ℕ) (call : Call) (next : Files) (who : ℕ) (apart : who ≢ pid) (no_fork : call ≢ calls.Fork) (no_other : may_end_other call ≡ false) where
  by : (after : Files) → next ≡ after → KeepsOpen plain.files after who → KeepsOpen plain.files next who
  by after is keeps = subst (λ files. KeepsOpen plain.files files who) (sym is) keeps

  same : (after : Files) → next ≡ after → after.descriptors ≡ plain.files.descriptors → after.descriptions ≡ plain.files.descriptions → KeepsOpen plain.files next who
  same after is descriptors descriptions = by after is (keeps_same plain.files after who (same_of plain.files after descriptors who) descriptions)

  -- opened where neither descriptors nor descriptions changed before
  one : (files : Files) (fd : ℕ) (cloexec : Bool) (description : Description) → files.descriptors ≡ plain.files.descriptors → files.descriptions ≡ plain.files.descriptions
      → KeepsOpen plain.files (opened_as files pid fd cloexec description) who
  one files fd cloexec description descriptors descriptions = keeps_on plain.files files (opened_as files pid fd cloexec description) who
      (keeps_same plain.files files who (same_of plain.files files descriptors who) descriptions) (opened_keeps files pid who apart fd cloexec description)

  two : (files : Files) (first second : ℕ) (first_is second_is : Description) → files.descriptors ≡ plain.files.descriptors → files.descriptions ≡ plain.files.descriptions
      → KeepsOpen plain.files (opened_as (opened_as files pid first false first_is) pid second false second_is) who
  two files first second first_is second_is descriptors descriptions =
      keeps_on plain.files (opened_as files pid first false first_is) (opened_as (opened_as files pid first false first_is) pid second false second_is) who
      (one files first false first_is descriptors descriptions) (opened_keeps (opened_as files pid first false first_is) pid who apart second false second_is)

  -- who waits for the other side of a FIFO is another
  waited : (files : Files) (openings : List (Option HalfOpen)) → KeepsOpen plain.files files who → KeepsOpen plain.files (with_openings files openings) who
  waited files openings keeps = keeps_on plain.files files (with_openings files openings) who keeps (keeps_same files (with_openings files openings) who refl refl)

  closes : (fd : ℕ) → KeepsOpen plain.files (after_close plain.files pid fd) who
  closes fd = keeps_named plain.files (after_close plain.files pid fd) who
      (close_holds (λ other. who ≢ other) (StaysNamed plain.files who) (named_closed plain.files who) plain.files pid fd apart (stays_now plain.files who))

  described : (fd : ℤ) (opened : Opened) (now : Description) (after : Files) → opened_at plain.files pid fd ≡ Some opened → now.target ≡ opened.is.target → now.access ≡ opened.is.access
      → after.descriptors ≡ plain.files.descriptors → after.descriptions ≡ with_description plain.files.descriptions opened.place (Some now) → KeepsOpen plain.files after who
  described fd opened now after named target access descriptors descriptions = let naming_it = naming plain.files pid fd opened named in
      described_keeps plain.files after who opened.place opened.is now naming_it.there target access (same_of plain.files after descriptors who) descriptions

  step_keeps : IsStep plain pid call true next → KeepsOpen plain.files next who
  step_keeps (step.stays is) = same _ is refl refl
  step_keeps (step.shares fd opened from to named free is) = by _ is (other_keeps plain.files pid who apart to _)
  step_keeps (step.shares_over fd to opened named may differ is) = by _ is (keeps_on plain.files (after_close plain.files pid (count_of to)) _ who (closes (count_of to))
      (other_keeps (after_close plain.files pid (count_of to)) pid who apart (count_of to) _))
  step_keeps (step.marks fd opened cloexec named is) = by _ is (other_keeps plain.files pid who apart (count_of fd) _)
  step_keeps (step.closes fd opened named is) = by _ is (closes (count_of fd))
  step_keeps (step.describes fd opened description named target access between is) = by _ is (described fd opened description _ named target access refl refl)
  step_keeps (step.opens path flags fd found which free led other is) = by _ is (one _ fd _ _ refl refl)
  step_keeps (step.writes fd addr n done opened number at offset written reaches wrote is) = by _ is (described fd opened _ _ reaches.named refl refl refl refl)
  step_keeps (step.writes_at fd addr n opened number at written reaches wrote is) = same _ is refl refl
  step_keeps (step.resizes fd opened number size tree reaches sized is) = same _ is refl refl
  step_keeps (step.makes path made which led is) = same _ is refl refl
  step_keeps (step.makes_fifo path made which led is) = same _ is refl refl
  step_keeps (step.removes path tree which led is) = same _ is refl refl
  step_keeps (step.links old new tree which led is) = same _ is refl refl
  step_keeps (step.unlinks path left which led is) = same _ is refl refl
  step_keeps (step.renames old new left which led is) = same _ is refl refl
  step_keeps (step.pipes free_two free is) = by _ is (two _ free_two.first free_two.second _ _ refl refl)
  step_keeps (step.takes fd addr n opened place k which named on may moves is) = same _ is refl refl
  step_keeps (step.puts fd addr n done opened place k which named on may moves is) = same _ is refl refl
  step_keeps (step.joins path flags fd place found openings opens at may is) = by _ is (waited _ openings (one (with_pipe plain.files place (Some (with_end (pipe_at plain.files place) (may_write (access_of flags))))) fd _ _ refl refl))
  step_keeps (step.begins path flags fd found openings opens at may is) = by _ is (waited _ openings (one (with_pipes plain.files (plain.files.pipes ++ Some (with_end (unopened found.0) (may_write (access_of flags))) ∷ [])) fd _ _ refl refl))
  step_keeps (step.meets path flags opening which begun is) = same _ is refl refl
  step_keeps (step.sockets fd free is) = by _ is (one _ fd _ _ refl refl)
  step_keeps (step.pairs free_two free is) = by _ is (two _ free_two.first free_two.second _ _ refl refl)
  step_keeps (step.binds fd path opened place made which named on fine led is) = same _ is refl refl
  step_keeps (step.listens fd opened place named on fine is) = same _ is refl refl
  step_keeps (step.shuts fd how opened place named on fine is) = same _ is refl refl
  step_keeps (step.connects fd opened place number listener named on fine listening room is) = same _ is refl refl
  step_keeps (step.accepts fd opened place to taken named on free first is) = by _ is (one _ to _ _ refl refl)
  step_keeps (step.receives fd addr n opened place k which named on moves is) = same _ is refl refl
  step_keeps (step.sends fd addr n done opened place k which named on moves is) = same _ is refl refl
  step_keeps (step.locks fd opened number asked sets named_so target is_file places clear is) = same _ is refl refl
  step_keeps (step.starts is) = by _ is (keeps_named plain.files _ who
      (exec_holds (λ other. who ≢ other) (StaysNamed plain.files who) (named_closed plain.files who) plain.files pid apart (stays_now plain.files who)))
  step_keeps (step.forks which is) = absurd (no_fork which)
  step_keeps (step.ends_caller over ending is) = absurd (true_false true refl over)
  step_keeps (step.ends_other dead ending is) = absurd (true_false (may_end_other call) ending no_other)

-- ---- controls

-- who has a control of which nothing is done has nothing done, whether he was made or not
none_done : (plain : Plain) (pid : ℕ) (control : Control) → control.done ≡ 0 → (control_of (with_control plain pid control) pid).done ≡ 0
none_done plain zero control none = refl
none_done plain (suc i) control none = elim (below_or_not i (length plain.controls)) [
  | inl h ↦ ap (λ found. (unwrap_or found (at_start 0)).done) (get_set_same plain.controls i control h) ∙ none
  | inr h ↦ ap (λ found. (unwrap_or found (at_start 0)).done) (slice_get_past (with_pid plain.controls (suc i) control) i
      (subst (λ n. n ≤ i) (sym (length_set plain.controls i)) h))
]
  where
    length_set : (controls : List Control) (i : ℕ) → length (with_pid controls (suc i) control) ≡ length controls
    length_set [] i = refl
    length_set (x ∷ xs) zero = refl
    length_set (x ∷ xs) (suc i) = ap (λ n. suc n) (length_set xs i)

other_control : (plain : Plain) (pid who : ℕ) (control : Control) → who ≢ pid → control_of (with_control plain pid control) who ≡ control_of plain who
other_control plain pid who control apart = ap (λ found. unwrap_or found (at_start 0)) (at_other plain.controls pid who control apart)

-- ---- answers

-- pipes count their ends
abbrev Counted : Plain → Type 0
Counted plain = ArePiped plain.files.descriptions plain.files.pipes

abbrev pub Half : Script → Plain → Type 0
Half script plain = (who : ℕ) → is_alive plain.table who ≡ true → 0 < (control_of plain who).done → Stands plain.files who (call_of script plain who)

-- what becomes of all others, where one goes on or ends
record Others (plain next : Plain) (pid : ℕ) : Type 0 where
  control : (who : ℕ) → who ≢ pid → is_alive next.table who ≡ true → control_of next who ≡ control_of plain who
  lived : (who : ℕ) → who ≢ pid → is_alive next.table who ≡ true → is_alive plain.table who ≡ true
  opened : (who : ℕ) → who ≢ pid → is_alive next.table who ≡ true → KeepsOpen plain.files next.files who
  waits : (who : ℕ) → who ≢ pid → is_alive next.table who ≡ true → KeepsWaits plain.files next.files who
  counts : ArePiped next.files.descriptions next.files.pipes

half_on : (script : Script) (plain next : Plain) (pid : ℕ) → Half script plain → Others plain next pid
    → (is_alive next.table pid ≡ true → 0 < (control_of next pid).done → Stands next.files pid (call_of script next pid)) → Half script next
half_on script plain next pid half others own who alive some = elim (eqb_tells who pid) [
  | inl same ↦ subst (λ p. Stands next.files p (call_of script next p)) (sym same.1)
      (own (subst (λ p. is_alive next.table p ≡ true) same.1 alive) (subst (λ p. 0 < (control_of next p).done) same.1 some))
  | inr apart ↦ subst (λ c. Stands next.files who (program.call_of script c)) (sym (others.control who apart.1 alive))
      (stands_still plain.files next.files who (call_of script plain who) (others.opened who apart.1 alive) (others.waits who apart.1 alive) others.counts
      (half who (others.lived who apart.1 alive) (subst (λ c. 0 < c.done) (others.control who apart.1 alive) some)))
]

-- who goes on behind a call has nothing done of the next
nothing_done : (script : Script) (plain : Plain) (pid : ℕ) (said : Reply) → 0 < (control_of (answered script plain pid said) pid).done → ⊥
nothing_done script plain pid said some =
    let none : (control_of (answered script plain pid said) pid).done ≡ 0 = none_done plain pid (program.after script (control_of plain pid) said) refl in omega arith

-- the caller goes on, after something that left the controls
answered_half : (script : Script) (plain base : Plain) (pid : ℕ) (said : Reply) → Half script plain → base.controls ≡ plain.controls
    → ((who : ℕ) → who ≢ pid → is_alive base.table who ≡ true → is_alive plain.table who ≡ true)
    → ((who : ℕ) → who ≢ pid → is_alive base.table who ≡ true → KeepsOpen plain.files base.files who) → ((who : ℕ) → who ≢ pid → is_alive base.table who ≡ true → KeepsWaits plain.files base.files who)
    → ArePiped base.files.descriptions base.files.pipes → Half script (answered script base pid said)
answered_half script plain base pid said half controls lived opened waits counts = half_on script plain (answered script base pid said) pid half (record {
  control = λ who apart alive. other_control base pid who (program.after script (control_of base pid) said) apart ∙ ap (λ list. unwrap_or (at_pid list who) (at_start 0)) controls;
  lived = lived;
  opened = opened;
  waits = waits;
  counts = counts;
}) (λ alive some. absurd (nothing_done script base pid said some))

-- a process ends
die_half : (script : Script) (plain : Plain) (pid status : ℕ) → ArePiped plain.files.descriptions plain.files.pipes → Half script plain → Half script (die plain pid status)
die_half script plain pid status piped half who alive some = let was = survives plain.table pid status who alive in
    let from : PipedFrom plain.files (closed_by plain.files pid) = one_end_holds anybody (PipedFrom plain.files) (piped_closed plain.files) plain.files pid was.not_first tt (from_now plain.files piped) in
    stands_still plain.files (closed_by plain.files pid) who (call_of script plain who)
    (keeps_named plain.files (closed_by plain.files pid) who
    (one_end_holds (λ other. who ≢ other) (StaysNamed plain.files who) (named_closed plain.files who) plain.files pid was.not_first was.apart (stays_now plain.files who)))
    (record {
      pipes = pipes_from plain.files (closed_by plain.files pid) from;
      opening = one_end_holds (λ other. who ≢ other) (λ files. opening_at files who ≡ opening_at plain.files who) (opening_closed plain.files who) plain.files pid was.not_first was.apart refl;
    }) from.0
    (half who was.alive some)

-- ---- kill

kill_is : (script : Script) (plain : Plain) (pid : ℕ) (Holds : Answer → Type 0) → ((e : Errno) → Holds (failed script plain pid e)) → Holds (replied script plain pid (Val (pos 0)))
    → ((status : ℕ) → Holds (Ended status (die plain pid status))) → ((target status : ℕ) → Holds (replied script (die plain target status) pid (Val (pos 0)))) → (target signal : ℤ) → Holds (kill script plain pid target signal)
kill_is script plain pid Holds fails says ends others (negsuc n) signal = fails ESRCH
kill_is script plain pid Holds fails says ends others (pos target) signal = go (process_at plain.table target)
  where
    strikes : (own : Bool) → Holds (cond own (Ended (count_of signal) (die plain pid (count_of signal))) (replied script (die plain target (count_of signal)) pid (Val (pos 0))))
    strikes true = ends (count_of signal)
    strikes false = others target (count_of signal)

    lives : (b : Bool) → Holds (cond b (struck script plain pid target (count_of signal)) (replied script plain pid (Val (pos 0))))
    lives true = strikes (target == pid)
    lives false = says

    first : (process : Process) (b : Bool) → Holds (cond b (failed script plain pid EPERM) (killing.ends script plain pid target (count_of signal) process))
    first process true = fails EPERM
    first process false = lives (is_ended_by (count_of signal) process)

    asks : (process : Process) (b : Bool) → Holds (cond b (replied script plain pid (Val (pos 0))) (cond (target == 1) (failed script plain pid EPERM) (killing.ends script plain pid target (count_of signal) process)))
    asks process true = says
    asks process false = first process (target == 1)

    go : (o : Option Process) → Holds (sent_to script plain pid target signal o)
    go None = fails ESRCH
    go (Some process) = asks process (is_asking signal)

-- ---- a caller's answer

-- the call is `fork`
abbrev is_fork : Call → Bool
is_fork calls.Fork = true
is_fork _ = false

fork_is : (call : Call) → is_fork call ≡ true → call ≡ calls.Fork
fork_is calls.Fork is = refl
fork_is _ is = absurd (true_false false is refl)

module _ (script : Script) (plain : Plain) (pid : ℕ) (half : Half script plain) (placed : IsPlaced plain) (piped : ArePiped plain.files.descriptions plain.files.pipes)
    (alive : is_alive plain.table pid ≡ true) where
  still : (said : Reply) → Half script (answered script plain pid said)
  still said = answered_half script plain plain pid said half refl (λ who apart lives. lives) (λ who apart lives. keeps_same plain.files plain.files who refl refl)
      (λ who apart lives. waits_same plain.files plain.files who refl refl) piped

  dies_on : (target status : ℕ) (said : Reply) → Half script (answered script (die plain target status) pid said)
  dies_on target status said = answered_half script (die plain target status) (die plain target status) pid said (die_half script plain target status piped half) refl (λ who apart lives. lives) (λ who apart lives. keeps_same _ _ who refl refl)
      (λ who apart lives. waits_same _ _ who refl refl) (die_piped plain target status piped)

  -- a child has nothing done
  forks_on : (said : Reply) → Half script (answered script (with_child script plain pid) pid said)
  forks_on said who lives some = elim (eqb_tells who pid) [
    | inl same ↦ absurd (nothing_done script (with_child script plain pid) pid said (subst (λ p. 0 < (control_of (answered script (with_child script plain pid) pid said) p).done) same.1 some))
    | inr apart ↦ elim (below_or_not (last_pid plain) who) [
      | inl new ↦ absurd (let none : (control_of (with_child script plain pid) who).done ≡ 0 = past_done who new in
          let is : (control_of (answered script (with_child script plain pid) pid said) who).done ≡ (control_of (with_child script plain pid) who).done =
          ap (λ c. c.done) (other_control (with_child script plain pid) pid who (program.after script (control_of (with_child script plain pid) pid) said) apart.1) in omega arith)
      | inr old ↦ subst (λ c. Stands (with_heir plain.files pid) who (program.call_of script c)) (sym (as_before who apart.1 old))
          (stands_still plain.files (with_heir plain.files pid) who (call_of script plain who)
          (keeps_same plain.files (with_heir plain.files pid) who (stay_open plain.files pid who (subst (λ n. who ≤ n) (sym placed_is.counted) old)) refl)
          (record { pipes = pipes_same plain.files (with_heir plain.files pid) refl; opening = opening_front who (subst (λ n. who ≤ n) (sym placed_is.openings) old) }) piped
          (half who (sym (ap is_alive_in (same_in_front plain.table (child_of pid (process_at plain.table pid)) who (subst (λ n. who ≤ n) (sym placed.counted) old))) ∙ lives)
          (subst (λ c. 0 < c.done) (as_before who apart.1 old) some)))
    ]
  ]
    where
      placed_is : HasPlaces plain
      placed_is = placed.places

      opening_front : (other : ℕ) → other ≤ length plain.files.openings → opening_at (with_heir plain.files pid) other ≡ opening_at plain.files other
      opening_front zero h = refl
      opening_front (suc i) h = ap (λ o. unwrap_or o None) (get_front plain.files.openings (None ∷ []) i (omega arith))

      born : Control
      born = program.after script (control_of plain pid) (Val (pos 0))

      past : (controls : List Control) (i : ℕ) → length controls ≤ i → (unwrap_or (slice_get (controls ++ born ∷ []) i) (at_start 0)).done ≡ 0
      past [] zero h = refl
      past [] (suc i) h = refl
      past (x ∷ xs) zero h = absurd (omega arith)
      past (x ∷ xs) (suc i) h = past xs i (omega arith)

      past_done : (other : ℕ) → last_pid plain < other → (control_of (with_child script plain pid) other).done ≡ 0
      past_done zero h = refl
      past_done (suc i) h = past plain.controls i (omega arith)

      in_front : (other : ℕ) → other ≤ last_pid plain → control_of (with_child script plain pid) other ≡ control_of plain other
      in_front zero h = refl
      in_front (suc i) h = ap (λ found. unwrap_or found (at_start 0)) (get_front plain.controls (born ∷ []) i (omega arith))

      as_before : (other : ℕ) → other ≢ pid → other ≤ last_pid plain → control_of (answered script (with_child script plain pid) pid said) other ≡ control_of plain other
      as_before other apart h = other_control (with_child script plain pid) pid other (program.after script (control_of (with_child script plain pid) pid) said) apart ∙ in_front other h

  -- who is alive after one was waited for was alive before
  lives_reaped : (child who : ℕ) → is_alive (with_pid plain.table child None) who ≡ true → is_alive plain.table who ≡ true
  lives_reaped child who lives = elim (eqb_tells who child) [
    | inl same ↦ absurd (true_false (is_alive (with_pid plain.table child None) who) lives
        (ap (is_alive (with_pid plain.table child None)) same.1 ∙ ap is_alive_in (is_gone plain.table child)))
    | inr apart ↦ sym (ap is_alive_in (with_other plain.table child who None apart.1)) ∙ lives
  ]

  -- the caller was made
  made_own : (0 < pid) × (pid ≤ last_pid plain)
  made_own = let there = alive_there plain.table pid alive in let made = was_made plain.table pid there.0 there.1 in (made.0, subst (λ n. pid ≤ n) placed.counted made.1)

  own_is : (files : Files) (p : ℕ) → 0 < p → p ≤ last_pid plain → (control : Control) → control_of (with_control (with_files plain files) p control) p ≡ control
  own_is files zero h within control = absurd (omega arith)
  own_is files (suc i) h within control = ap (λ found. unwrap_or found (at_start 0)) (get_set_same plain.controls i control (omega arith))

  -- a part of a write is done
  part_on : (call : Call) (files : Files) (moved : ℕ) → call_of script plain pid ≡ call → IsPart plain pid call files → ((who : ℕ) → who ≢ pid → KeepsOpen plain.files files who)
      → ((who : ℕ) → who ≢ pid → KeepsWaits plain.files files who) → ArePiped files.descriptions files.pipes → Half script (with_control (with_files plain files) pid (program.after_part (control_of plain pid) moved))
  part_on call files moved asked part others waits counts = half_on script plain (with_control (with_files plain files) pid (program.after_part (control_of plain pid) moved)) pid half (record {
    control = λ who apart lives. other_control (with_files plain files) pid who (program.after_part (control_of plain pid) moved) apart;
    lived = λ who apart lives. lives;
    opened = λ who apart lives. others who apart;
    waits = λ who apart lives. waits who apart;
    counts = counts;
  }) (λ own_lives some. at_write (queue_at files pid (call_of script (with_control (with_files plain files) pid (program.after_part (control_of plain pid) moved)) pid) (record {
    fd = part.fd;
    addr = part.addr;
    n = part.n;
    done = part.done + moved;
    opened = part.opened;
    which = ap (program.call_of script) own_control ∙ call_part script (control_of plain pid) moved ∙ ap (further moved) (asked ∙ part.which);
    named = ap (λ list. opened_by files (descriptor_of list part.fd)) (same_of plain.files files part.descriptors pid)
        ∙ opened_same plain.files files (descriptor_of (descriptors_of plain.files pid) part.fd) part.descriptions ∙ part.named;
    queue = part.queue;
  })))
    where
      own_control : control_of (with_control (with_files plain files) pid (program.after_part (control_of plain pid) moved)) pid ≡ program.after_part (control_of plain pid) moved
      own_control = own_is files pid made_own.0 made_own.1 (program.after_part (control_of plain pid) moved)

  -- an open of a FIFO has made its end
  awaits_on : (call : Call) (files : Files) → call_of script plain pid ≡ call → IsBegun plain pid call files → ((who : ℕ) → who ≢ pid → KeepsOpen plain.files files who)
      → ((who : ℕ) → who ≢ pid → KeepsWaits plain.files files who) → ArePiped files.descriptions files.pipes → Half script (with_control (with_files plain files) pid (program.after_part (control_of plain pid) 1))
  awaits_on call files asked begun others waits counts = half_on script plain (with_control (with_files plain files) pid (program.after_part (control_of plain pid) 1)) pid half (record {
    control = λ who apart lives. other_control (with_files plain files) pid who (program.after_part (control_of plain pid) 1) apart;
    lived = λ who apart lives. lives;
    opened = λ who apart lives. others who apart;
    waits = λ who apart lives. waits who apart;
    counts = counts;
  }) (λ own_lives some. at_open (ap is_open (ap (program.call_of script) own_control ∙ call_part script (control_of plain pid) 1 ∙ ap (further 1) (asked ∙ begun.which)))
      opening (ap (λ files. opening_at files pid) begun.is ∙ own_opening) (subst (λ files. IsHalfOpen files pid opening) (sym begun.is) (own_end (fifo_at plain.files begun.there.0) refl)))
    where
      own_control : control_of (with_control (with_files plain files) pid (program.after_part (control_of plain pid) 1)) pid ≡ program.after_part (control_of plain pid) 1
      own_control = own_is files pid made_own.0 made_own.1 (program.after_part (control_of plain pid) 1)

      places : HasPlaces plain
      places = placed.places

      writing : Bool
      writing = may_write (access_of begun.flags)

      opening : HalfOpen
      opening = record { fd = begun.fd; seen = opens_of (fifo_pipe plain.files begun.there.0) (not writing) }

      own_opening : opening_at (end_awaits plain.files pid begun.flags begun.fd begun.there.0) pid ≡ Some opening
      own_opening = ap (λ o. unwrap_or o None) (at_own (end_opened plain.files pid begun.flags begun.fd begun.there.0).openings pid (Some opening) made_own.0
          (subst (λ list. pid ≤ length list) (sym (end_openings plain.files pid begun.flags begun.fd begun.there.0)) (subst (λ n. pid ≤ n) (sym places.openings) made_own.1)))

      free : (begun.fd < length (descriptors_of plain.files pid)) × (descriptor_at (descriptors_of plain.files pid) begun.fd ≡ None) × (0 ≤ begun.fd)
      free = free_at (descriptors_of plain.files pid) 0 begun.fd begun.free

      -- what the descriptor names
      named : (between : Files) (description : Description) → between.descriptors ≡ plain.files.descriptors
          → opened_at (opened_as between pid begun.fd (has_flag begun.flags o_cloexec) description) pid (pos begun.fd) ≡ Some (record { place = length between.descriptions; is = description })
      named between description same = names_there (opened_as between pid begun.fd (has_flag begun.flags o_cloexec) description) pid (pos begun.fd) new (length between.descriptions) description
          (ap (λ list. descriptor_at list begun.fd) (own_after between pid begun.fd (Some new) made_own.0
          (subst (λ list. pid ≤ length list) (sym same) (subst (λ n. pid ≤ n) (sym places.counted) made_own.1)))
          ∙ get_or-set_same (descriptors_of between pid) begun.fd (Some new) None (subst (λ list. begun.fd < length list) (sym (same_of plain.files between same pid)) free.0))
          refl (last_is between.descriptions)
        where
          new : Descriptor
          new = record { description = length between.descriptions; cloexec = has_flag begun.flags o_cloexec }

          last_is : (xs : Descriptions) → description_at (xs ++ Some description ∷ []) (length xs) ≡ Some description
          last_is [] = refl
          last_is (x ∷ xs) = last_is xs

      other_side : (pipe : Pipe) (writing : Bool) → opens_of (with_end pipe writing) (not writing) ≡ opens_of pipe (not writing)
      other_side pipe true = refl
      other_side pipe false = refl

      node_of_end : (pipe : Pipe) (writing : Bool) → (with_end pipe writing).node ≡ pipe.node
      node_of_end pipe true = refl
      node_of_end pipe false = refl

      number_is : begun.there.0 ≢ 0
      number_is = not_zero begun.there.1 begun.there.0 begun.fifo

      own_end : (at : Option ℕ) → fifo_at plain.files begun.there.0 ≡ at → IsHalfOpen (with_opening (end_at plain.files pid begun.flags begun.fd begun.there.0 at) pid (Some opening)) pid opening
      own_end (Some place) is = record {
        opened = record { place = length plain.files.descriptions; is = description_on (OnPipe place) begun.flags };
        named = named (with_pipe plain.files place (Some (with_end (pipe_at plain.files place) writing))) (description_on (OnPipe place) begun.flags) refl;
        place = place;
        target = refl;
        fifo = λ none. number_is (sym fifo.of ∙ sym (ap (λ p. p.node) was_at) ∙ sym (node_of_end (pipe_at plain.files place) writing) ∙ sym (ap (λ p. p.node) now_at) ∙ none);
        seen = (let first : opens_of (fifo_pipe plain.files begun.there.0) (not writing) ≡ opens_of (pipe_at plain.files place) (not writing) =
            ap (λ at. opens_of (fifo_there plain.files begun.there.0 at) (not writing)) is in
            let last : opens_of (unwrap_or (slice_index_or (slice_set plain.files.pipes place (Some (with_end (pipe_at plain.files place) writing))) place None) new_pipe) (not writing) ≡ opens_of (pipe_at plain.files place) (not writing) =
            ap (λ p. opens_of p (not writing)) now_at ∙ other_side (pipe_at plain.files place) writing in omega arith);
      }
        where
          fifo : IsFifoAt plain.files.pipes begun.there.0 place
          fifo = fifo_at_is plain.files begun.there.0 place is

          was_at : pipe_at plain.files place ≡ fifo.pipe
          was_at = ap (λ o. unwrap_or o new_pipe) fifo.is

          now_at : unwrap_or (slice_index_or (slice_set plain.files.pipes place (Some (with_end (pipe_at plain.files place) writing))) place None) new_pipe ≡ with_end (pipe_at plain.files place) writing
          now_at = ap (λ o. unwrap_or o new_pipe) (get_or-set_same plain.files.pipes place (Some (with_end (pipe_at plain.files place) writing)) None (there_within plain.files.pipes place fifo.pipe fifo.is))
      own_end None is = record {
        opened = record { place = length plain.files.descriptions; is = description_on (OnPipe (length plain.files.pipes)) begun.flags };
        named = named (with_pipes plain.files (plain.files.pipes ++ Some (with_end (unopened begun.there.0) writing) ∷ [])) (description_on (OnPipe (length plain.files.pipes)) begun.flags) refl;
        place = length plain.files.pipes;
        target = refl;
        fifo = λ none. number_is (sym (node_of_end (unopened begun.there.0) writing) ∙ sym (ap (λ p. p.node) now_at) ∙ none);
        seen = (let first : opens_of (fifo_pipe plain.files begun.there.0) (not writing) ≡ opens_of (unopened begun.there.0) (not writing) =
            ap (λ at. opens_of (fifo_there plain.files begun.there.0 at) (not writing)) is in
            let last : opens_of (unwrap_or (slice_index_or (plain.files.pipes ++ Some (with_end (unopened begun.there.0) writing) ∷ []) (length plain.files.pipes) None) new_pipe) (not writing) ≡ opens_of (unopened begun.there.0) (not writing) =
            ap (λ p. opens_of p (not writing)) now_at ∙ other_side (unopened begun.there.0) writing in omega arith);
      }
        where
          last_pipe : (xs : List (Option Pipe)) → slice_index_or (xs ++ Some (with_end (unopened begun.there.0) writing) ∷ []) (length xs) None ≡ Some (with_end (unopened begun.there.0) writing)
          last_pipe [] = refl
          last_pipe (x ∷ xs) = last_pipe xs

          now_at : unwrap_or (slice_index_or (plain.files.pipes ++ Some (with_end (unopened begun.there.0) writing) ∷ []) (length plain.files.pipes) None) new_pipe ≡ with_end (unopened begun.there.0) writing
          now_at = ap (λ o. unwrap_or o new_pipe) (last_pipe plain.files.pipes)

  by_shape : (call : Call) → call_of script plain pid ≡ call → call ≢ calls.Fork → may_end_other call ≡ false → (given : Answer) → Steps plain pid call given → LeadsTo Counted given
      → HasShape script plain pid call given → LeadsTo (Half script) given
  by_shape call asked no_fork no_other given stepped counted (shape.blocks may is) = subst (LeadsTo (Half script)) (sym is) tt
  by_shape call asked no_fork no_other given stepped counted (shape.fails errno other is) = subst (LeadsTo (Half script)) (sym is) (still (Fail errno))
  by_shape call asked no_fork no_other given stepped counted (shape.tells files said is_said is) = subst (LeadsTo (Half script)) (sym is)
      (answered_half script plain (with_files plain files) pid said half refl (λ who apart lives. lives)
      (λ who apart lives. step_keeps plain pid call files who apart no_fork no_other (subst (Steps plain pid call) is stepped))
      (λ who apart lives. step_waits plain pid call files who apart no_fork no_other piped (subst (Steps plain pid call) is stepped)) (subst (LeadsTo Counted) is counted))
  by_shape call asked no_fork no_other given stepped counted (shape.puts files memory said is_said what is) = subst (LeadsTo (Half script)) (sym is)
      (answered_half script plain (remembered (with_files plain files) pid memory) pid said half refl (λ who apart lives. sym (alive_still plain.table pid who memory) ∙ lives)
      (λ who apart lives. step_keeps plain pid call files who apart no_fork no_other (subst (Steps plain pid call) is stepped))
      (λ who apart lives. step_waits plain pid call files who apart no_fork no_other piped (subst (Steps plain pid call) is stepped)) (subst (LeadsTo Counted) is counted))
  by_shape call asked no_fork no_other given stepped counted (shape.moves path directory called led is) = subst (LeadsTo (Half script)) (sym is)
      (answered_half script plain (with_table plain (with_directory plain.table pid directory)) pid (Val (pos 0)) half refl (λ who apart lives. sym (alive_moved plain.table pid directory who alive) ∙ lives)
      (λ who apart lives. keeps_same plain.files plain.files who refl refl)
      (λ who apart lives. waits_same plain.files plain.files who refl refl) piped)
  by_shape call asked no_fork no_other given stepped counted (shape.disposes signal disposition ignores before called is) = subst (LeadsTo (Half script)) (sym is)
      (answered_half script plain (with_table plain (with_ignores plain.table pid ignores)) pid (Val (pos before)) half refl (λ who apart lives. sym (alive_ignoring plain.table pid who ignores) ∙ lives)
      (λ who apart lives. keeps_same plain.files plain.files who refl refl)
      (λ who apart lives. waits_same plain.files plain.files who refl refl) piped)
  by_shape call asked no_fork no_other given stepped counted (shape.parts files moved part is) = subst (LeadsTo (Half script)) (sym is)
      (part_on call files moved asked part (λ who apart. step_keeps plain pid call files who apart no_fork no_other (subst (Steps plain pid call) is stepped))
      (λ who apart. step_waits plain pid call files who apart no_fork no_other piped (subst (Steps plain pid call) is stepped)) (subst (LeadsTo Counted) is counted))
  by_shape call asked no_fork no_other given stepped counted (shape.awaits files begun is) = subst (LeadsTo (Half script)) (sym is)
      (awaits_on call files asked begun (λ who apart. step_keeps plain pid call files who apart no_fork no_other (subst (Steps plain pid call) is stepped))
      (λ who apart. step_waits plain pid call files who apart no_fork no_other piped (subst (Steps plain pid call) is stepped)) (subst (LeadsTo Counted) is counted))
  by_shape call asked no_fork no_other given stepped counted (shape.starts place is) = subst (LeadsTo (Half script)) (sym is)
      (half_on script plain (started script plain pid place) pid half (record {
        control = λ who apart lives. other_control (with_files (remembered plain pid no_memory) (after_exec_of plain.files pid)) pid who
            (program.restarted (program.settled script (control_of plain pid)) place) apart;
        lived = λ who apart lives. sym (alive_still plain.table pid who no_memory) ∙ lives;
        opened = λ who apart lives. keeps_named plain.files (after_exec_of plain.files pid) who
            (exec_holds (λ other. who ≢ other) (StaysNamed plain.files who) (named_closed plain.files who) plain.files pid apart (stays_now plain.files who));
        waits = λ who apart lives. exec_waits plain pid call (after_exec_of plain.files pid) who apart no_fork no_other piped;
        counts = (exec_holds anybody (PipedFrom plain.files) (piped_closed plain.files) plain.files pid tt (from_now plain.files piped)).0;
      }) (λ own_lives some. absurd (
      let none : (control_of (started script plain pid place) pid).done ≡ 0 =
      none_done (with_files (remembered plain pid no_memory) (after_exec_of plain.files pid)) pid (program.restarted (program.settled script (control_of plain pid)) place) refl in omega arith)))
  by_shape call asked no_fork no_other given stepped counted (shape.forks is) = subst (LeadsTo (Half script)) (sym is) (forks_on (Val (pos (last_pid plain + 1))))
  by_shape call asked no_fork no_other given stepped counted (shape.reaps child status ended is) = subst (LeadsTo (Half script)) (sym is)
      (answered_half script plain (reaped plain child) pid (Waited child status) half refl (λ who apart lives. lives_reaped child who lives) (λ who apart lives. keeps_same plain.files plain.files who refl refl)
      (λ who apart lives. waits_same plain.files plain.files who refl refl) piped)
  by_shape call asked no_fork no_other given stepped counted (shape.ends status is) = subst (LeadsTo (Half script)) (sym is) (die_half script plain pid status piped half)
  by_shape call asked no_fork no_other given stepped counted (shape.ends_another target signal called first own lives is) = subst (LeadsTo (Half script)) (sym is) (dies_on target (count_of signal) (Val (pos 0)))

  -- ---- the call that may end another, and `fork`

  ends_on : (call : Call) → may_end_other call ≡ true → LeadsTo (Half script) (machine script plain pid call)
  ends_on (calls.Kill target signal) is = go (argument_fault (calls.Kill target signal))
    where
      go : (fault : Option Errno) → LeadsTo (Half script) (unless_wrong script plain pid fault (kill script plain pid target signal))
      go (Some e) = still (Fail e)
      go None = kill_is script plain pid (LeadsTo (Half script)) (λ e. still (Fail e)) (still (Val (pos 0))) (λ status. die_half script plain pid status piped half) (λ dead status. dies_on dead status (Val (pos 0))) target signal
  ends_on _ is = absurd (true_false false is refl)

  fork_on : LeadsTo (Half script) (machine script plain pid calls.Fork)
  fork_on = go (is_full plain)
    where
      go : (b : Bool) → LeadsTo (Half script) (cond b (failed script plain pid EAGAIN) (replied script (with_child script plain pid) pid (Val (pos (last_pid plain + 1)))))
      go true = still (Fail EAGAIN)
      go false = forks_on (Val (pos (last_pid plain + 1)))

  answers_half : LeadsTo (Half script) (machine script plain pid (call_of script plain pid))
  answers_half = go (may_end_other (call_of script plain pid)) refl (is_fork (call_of script plain pid)) refl
    where
      go : (ends : Bool) → may_end_other (call_of script plain pid) ≡ ends → (forks : Bool) → is_fork (call_of script plain pid) ≡ forks → LeadsTo (Half script) (machine script plain pid (call_of script plain pid))
      go true ending forks is = ends_on (call_of script plain pid) ending
      go false ending true is = subst (λ which. LeadsTo (Half script) (machine script plain pid which)) (sym (fork_is (call_of script plain pid) is)) fork_on
      go false ending false is = by_shape (call_of script plain pid) refl (λ same. true_false (is_fork (call_of script plain pid)) (ap is_fork same) is) ending (machine script plain pid (call_of script plain pid))
          (step_of script plain pid (call_of script plain pid)) (answers_piped script plain pid (call_of script plain pid) piped) (machine_shape script plain pid (call_of script plain pid))

-- ---- every machine

boot_half : (script : Script) → Half script (boot_plain script)
boot_half script zero alive some = absurd (omega arith)
boot_half script (suc zero) alive some = absurd (omega arith)
boot_half script (suc (suc n)) alive some = absurd (omega arith)

pub reached_half : (script : Script) (plain : Plain) → IsReached script plain → Half script plain
reached_half script plain reached = by_induction script (Half script) (record {
  boot = boot_half script;
  answer = λ before pid reached half alive. let kept = reached_keeps reached in answers_half script before pid half kept.0 (reached_piped script before reached) alive;
  refuse = λ before pid reached half. answered_half script before before pid (Fail ENOMEM) half refl (λ who apart lives. lives) (λ who apart lives. keeps_same before.files before.files who refl refl)
      (λ who apart lives. waits_same before.files before.files who refl refl) (reached_piped script before reached);
  kill = λ before pid status reached half. die_half script before pid status (reached_piped script before reached) half;
}) reached
