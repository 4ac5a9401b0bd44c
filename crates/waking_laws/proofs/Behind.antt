-- What is left of a process behind another's turn: itself by any, and all that it waits for by one that moves bytes of something else.
use Rattle.std.proofs.Common.{◌≡◌, ◌≢◌, ℕ, ◌≤◌, ◌||◌, ℤ, pos, negsuc, not, Bool, true, false, List, [], ◌∷◌, length, Option, None, Some, is_some, refl, ap, sym, ◌∙◌, subst, arith}
use Rattle.std.specs.List.{list_any}
use Rattle.std.specs.Option.{option_map}
use Rattle.kabi_types.specs.declared.calls.Call.{Call}
use Rattle.kabi_types.specs.declared.errnos.Errno.{Errno}
use Rattle.kabi_types.specs.declared.replies.Reply.TheVariants as reply
use Rattle.kabi_types.specs.declared.scripts.Script.{Script}
use Rattle.kern_laws.proofs.Bareness.{none_open_at}
use Rattle.kern_laws.proofs.Errors.{fails_alone}
use Rattle.kern_laws.proofs.Families.{alive_there}
use Rattle.kern_laws.proofs.TablePlaces.{was_made}
use Rattle.machine_laws.proofs.Alone.{answers_leave_alone}
use Rattle.machine_laws.proofs.Reaches.{reached_keeps}
use Rattle.machine_laws.specs.Described.{AreDescribed}
use Rattle.machine_laws.specs.FileSteps.{LeadsTo}
use Rattle.machine_laws.specs.Own.{IsLeftAlone, KeepsOwn}
use Rattle.machine_laws.specs.Placed.{IsPlaced}
use Rattle.machine_laws.specs.Reached.{IsReached}
use Rattle.posix_defs.specs.Answer.{Answer, Blocked, Done, Ended, Part}
use Rattle.posix_defs.specs.Calls.Opened.{Opened, opened_at, opened_by}
use Rattle.posix_defs.specs.Control as program
use Rattle.posix_defs.specs.Files.Descriptions.{Description, Target, OnNode, OnPipe, OnSocket, description_at}
use Rattle.posix_defs.specs.Files.Descriptors.{Descriptor, descriptor_of, none_open}
use Rattle.posix_defs.specs.Files.State.{Files, descriptors_of}
use Rattle.posix_defs.specs.Machine.{machine}
use Rattle.posix_defs.specs.Plain.{Plain, call_of, last_pid}
use Rattle.posix_defs.specs.Process.{is_alive, is_alive_in}
use Rattle.posix_defs.specs.Turn.{Tells, TurnsTo, TurnsWhere}
use Rattle.posix_defs.specs.World.{World}
use Rattle.posix_defs.specs.declared.turner.Turned.{Turned}
use Rattle.posix_defs.specs.declared.turner.Turned.TheVariants as turned
use Rattle.waking_laws.specs.Waking.{Lasts, StaysAsItWas, StaysItself, awaited, gives_number, is_apart, meet, moves_through, no_fifo, no_lock, passes_by, target_at, wakes_nobody}
use Rattle.waking_laws.proofs.Moving.{IsMoved, LastsTo, moves_answer}
use Rattle.waking_laws.proofs.OwnNumbers.{leaves_numbers}
use Rattle.waking_laws.proofs.Passing.{both_true, none_held, nothing_changed}
use Rattle.waking_laws.proofs.QuietCalls.{IsQuiet, QuietIf, quiet_answer}
use Rattle.waking_laws.proofs.Seeing.{SeesQueue, SeesQueues, blocks_alike}
use Rattle.waking_laws.proofs.Staying.{is_there, itself, same_targets, sees}

-- ---- itself

-- a process whose own is kept
left_itself : (script : Script) (who : ℕ) (old new : Plain) → AreDescribed old.files → KeepsOwn who old new → is_alive old.table who ≡ true → is_alive new.table who ≡ true
    → StaysItself script who old new
left_itself script who old new described own alive still = record {
  lives = still ∙ sym alive;
  asks = ap (program.call_of script) own.control;
  opens = λ fd. go fd (descriptor_of (descriptors_of old.files who) fd) refl;
}
  where
    target : Option Opened → Option Target
    target opened = option_map (λ (it : Opened). it.is.target) opened

    some : (fd : ℤ) (was : Opened) → opened_at old.files who fd ≡ Some was → target_at new.files who fd ≡ target_at old.files who fd
    some fd was is =
        let kept = own.names fd was is in
        ap target kept.1 ∙ ap Some (let still = kept.2 in still.target) ∙ sym (ap target is)

    there : (fd : ℤ) (descriptor : Descriptor) → descriptor_of (descriptors_of old.files who) fd ≡ Some descriptor → (o : Option Description)
        → description_at old.files.descriptions descriptor.description ≡ o → is_some o ≡ true → target_at new.files who fd ≡ target_at old.files who fd
    there fd descriptor held None is e = cc
    there fd descriptor held (Some description) is e =
        some fd (record { place = descriptor.description; is = description })
        (ap (opened_by old.files) held ∙ ap (option_map (λ (it : Description). record { place = descriptor.description; is = it })) is)

    go : (fd : ℤ) (o : Option Descriptor) → descriptor_of (descriptors_of old.files who) fd ≡ o → target_at new.files who fd ≡ target_at old.files who fd
    go fd None is =
        ap target (ap (λ list. opened_by new.files (descriptor_of list fd)) own.numbers ∙ ap (opened_by new.files) is)
        ∙ sym (ap target (ap (opened_by old.files) is))
    go fd (Some descriptor) is = there fd descriptor is _ refl (is_there who old.files described fd descriptor is)

same_itself : (script : Script) (who : ℕ) (old new : Plain) → new ≡ old → StaysItself script who old new
same_itself script who old new same = subst (StaysItself script who old) (sym same) (record { lives = refl; asks = refl; opens = λ fd. refl })

module _ (script : Script) (old : Plain) (pid who : ℕ) (reached : IsReached script old) (lives : is_alive old.table pid ≡ true) (apart : who ≢ pid)
    (alive : is_alive old.table who ≡ true) where
  abbrev Alone : Plain → Type 0
  Alone next = is_alive next.table who ≡ true → IsLeftAlone pid who old next

  behind : (next new : Plain) → new ≡ next → Alone next → is_alive new.table who ≡ true → StaysItself script who old new
  behind next new same alone still =
      let left : IsLeftAlone pid who old next = alone (sym (ap (λ (plain : Plain). is_alive plain.table who) same) ∙ still) in
      left_itself script who old new (reached_keeps reached).1 (subst (KeepsOwn who old) (sym same) left.own) alive still

  itself_by : (given : Answer) (told : Turned) (new : Plain) → Tells given old told new → LeadsTo Alone given → is_alive new.table who ≡ true → StaysItself script who old new
  itself_by Blocked told new tells alone still = same_itself script who old new tells.1
  itself_by (Done said next) told new tells alone still = behind next new tells.1 alone still
  itself_by (Part moved next) told new tells alone still = behind next new tells.1 alone still
  itself_by (Ended status next) told new tells alone still = behind next new tells.1 alone still

pub stays_itself : (script : Script) (old new : World) (pid who : ℕ) (which : Call) (told : Turned) → IsReached script old.plain
    → TurnsTo script old pid which told new → who ≢ pid → is_alive old.plain.table who ≡ true → is_alive new.plain.table who ≡ true
    → StaysItself script who old.plain new.plain
stays_itself script old new pid who which told reached turns apart alive still = go (is_alive old.plain.table pid) refl turns
  where
    go : (lives : Bool) → is_alive old.plain.table pid ≡ lives → TurnsWhere lives script old pid which told new → StaysItself script who old.plain new.plain
    go true is answers = itself_by script old.plain pid who reached is apart alive (machine script old.plain pid which) told new.plain answers.answer
        (answers_leave_alone script old.plain reached pid who which is apart alive) still
    go false is over = same_itself script who old.plain new.plain (ap (λ (world : World). world.plain) over.1)

-- ---- what it waits for

-- a queue that bytes were moved of is none of these
module _ (old new : Files) (target : Option Target)
    (pipes : (place : ℕ) → meet target (Some (OnPipe place)) ≡ false → SeesQueue old new (Some (OnPipe place)))
    (sockets : (place : ℕ) → meet target (Some (OnSocket place)) ≡ false → SeesQueue old new (Some (OnSocket place))) where
  one : (other : Option Target) → meet target other ≡ false → SeesQueue old new other
  one None e = tt
  one (Some (OnNode number)) e = tt
  one (Some (OnPipe place)) e = pipes place e
  one (Some (OnSocket place)) e = sockets place e

  first : (a b : Bool) → not (a || b) ≡ true → a ≡ false
  first false b e = refl
  first true b e = cc

  rest : (a b : Bool) → not (a || b) ≡ true → not b ≡ true
  rest false b e = e
  rest true b e = cc

  apart_sees : (who : ℕ) (fds : List ℤ) → not (list_any (λ other. meet target (target_at old who other)) fds) ≡ true → SeesQueues who old new fds
  apart_sees who [] e = tt
  apart_sees who (fd ∷ fds) e = (one (target_at old who fd) (first _ (list_any (λ other. meet target (target_at old who other)) fds) e), apart_sees who fds (rest (meet target (target_at old who fd)) _ e))

module _ (script : Script) (old : Plain) (pid who : ℕ) (reached : IsReached script old) (lives : is_alive old.table pid ≡ true) (apart : who ≢ pid)
    (alive : is_alive old.table who ≡ true) (fd : ℤ) where
  moved_so : (new : Plain) → (is_alive new.table who ≡ true → IsLeftAlone pid who old new) → IsMoved (target_at old.files pid fd) pid who old new
      → new.files.locks ≡ [] → is_apart script old who pid fd ≡ true → StaysAsItWas script who old new
  moved_so new alone moved none other =
      let left : IsLeftAlone pid who old new = alone (ap is_alive_in (let kin = moved.kin in kin.itself) ∙ alive) in
      let own : KeepsOwn who old new = left.own in
      let described : AreDescribed old.files = (reached_keeps reached).1 in
      record {
        itself = itself who old new described own.control own.numbers moved.described moved.kin own.waits moved.opens script;
        waits = blocks_alike script who old new (sees who old new described own.control own.numbers moved.described moved.kin own.waits moved.opens (sym moved.locks ∙ none, none))
            (apart_sees old.files new.files (target_at old.files pid fd) moved.pipes moved.sockets who (awaited (call_of script old who)) other);
      }

  moved_by : (given : Answer) (told : Turned) (new : Plain) → Tells given old told new → LeadsTo (λ next. is_alive next.table who ≡ true → IsLeftAlone pid who old next) given
      → Lasts told → LastsTo (IsMoved (target_at old.files pid fd) pid who old) given → new.files.locks ≡ [] → is_apart script old who pid fd ≡ true → StaysAsItWas script who old new
  moved_by Blocked told new tells alone lasts moved none other = nothing_changed script who old new tells.1
  moved_by (Done said next) told new tells alone lasts moved none other = subst (StaysAsItWas script who old) (sym tells.1)
      (moved_so next alone moved (ap (λ (plain : Plain). plain.files.locks) (sym tells.1) ∙ none) other)
  moved_by (Part count next) told new tells alone lasts moved none other = subst (StaysAsItWas script who old) (sym tells.1)
      (moved_so next alone moved (ap (λ (plain : Plain). plain.files.locks) (sym tells.1) ∙ none) other)
  moved_by (Ended status next) told new tells alone lasts moved none other = absurd (lasts status tells.0)

pub moved_apart : (script : Script) (old new : World) (pid who : ℕ) (fd : ℤ) (which : Call) (told : Turned) → IsReached script old.plain
    → TurnsTo script old pid which told new → moves_through which ≡ Some fd → Lasts told → no_lock new.plain.files ≡ true → who ≢ pid → is_alive old.plain.table who ≡ true
    → is_apart script old.plain who pid fd ≡ true → StaysAsItWas script who old.plain new.plain
moved_apart script old new pid who fd which told reached turns moves lasts none apart alive other = go (is_alive old.plain.table pid) refl turns
  where
    go : (lives : Bool) → is_alive old.plain.table pid ≡ lives → TurnsWhere lives script old pid which told new → StaysAsItWas script who old.plain new.plain
    go true is answers = moved_by script old.plain pid who reached is apart alive fd (machine script old.plain pid which) told new.plain answers.answer
        (answers_leave_alone script old.plain reached pid who which is apart alive) lasts (moves_answer script old.plain pid who apart which fd moves) (none_held new.plain.files none) other
    go false is over = nothing_changed script who old.plain new.plain (ap (λ (world : World). world.plain) over.1)

-- who is alive stays so behind a turn that moves bytes
pub moved_lives : (script : Script) (old new : World) (pid who : ℕ) (fd : ℤ) (which : Call) (told : Turned) → TurnsTo script old pid which told new
    → moves_through which ≡ Some fd → Lasts told → who ≢ pid → is_alive old.plain.table who ≡ true → is_alive new.plain.table who ≡ true
moved_lives script old new pid who fd which told turns moves lasts apart alive = go (is_alive old.plain.table pid) refl turns
  where
    target : Option Target
    target = target_at old.plain.files pid fd

    by : (given : Answer) → Tells given old.plain told new.plain → LastsTo (IsMoved target pid who old.plain) given → is_alive new.plain.table who ≡ true
    by Blocked tells moved = ap (λ (plain : Plain). is_alive plain.table who) tells.1 ∙ alive
    by (Done said next) tells moved = ap (λ (plain : Plain). is_alive plain.table who) tells.1 ∙ ap is_alive_in (let kin = moved.kin in kin.itself) ∙ alive
    by (Part count next) tells moved = ap (λ (plain : Plain). is_alive plain.table who) tells.1 ∙ ap is_alive_in (let kin = moved.kin in kin.itself) ∙ alive
    by (Ended status next) tells moved = absurd (lasts status tells.0)

    go : (lives : Bool) → is_alive old.plain.table pid ≡ lives → TurnsWhere lives script old pid which told new → is_alive new.plain.table who ≡ true
    go true is answers = by (machine script old.plain pid which) answers.answer (moves_answer script old.plain pid who apart which fd moves)
    go false is over = ap (λ (world : World). is_alive world.plain.table who) over.1 ∙ alive

-- ---- its own numbers

-- no process has the number 0
none_is_zero : (script : Script) (plain : Plain) (pid : ℕ) → is_alive plain.table pid ≡ true → 0 ≢ pid
none_is_zero script plain pid alive same = dead (subst (λ n. is_alive plain.table n ≡ true) (sym same) alive)
  where
    dead : is_alive plain.table 0 ≡ true → ⊥
    dead e = cc

own_by : (old : Plain) (pid : ℕ) (target : Option Target) (given : Answer) (told : Turned) (new : Plain) → AreDescribed old.files → Tells given old told new
    → Lasts told → LastsTo (IsMoved target pid 0 old) given → (fd : ℤ) → target_at new.files pid fd ≡ target_at old.files pid fd
own_by old pid target Blocked told new described tells lasts moved fd = ap (λ (plain : Plain). target_at plain.files pid fd) tells.1
own_by old pid target (Done said next) told new described tells lasts moved fd =
    ap (λ (plain : Plain). target_at plain.files pid fd) tells.1 ∙ same_targets pid old.files next.files moved.numbers moved.described described fd
own_by old pid target (Part count next) told new described tells lasts moved fd =
    ap (λ (plain : Plain). target_at plain.files pid fd) tells.1 ∙ same_targets pid old.files next.files moved.numbers moved.described described fd
own_by old pid target (Ended status next) told new described tells lasts moved fd = absurd (lasts status tells.0)

pub own_kept : (script : Script) (old new : World) (pid : ℕ) (fd number : ℤ) (which : Call) (told : Turned) → IsReached script old.plain
    → TurnsTo script old pid which told new → moves_through which ≡ Some number → Lasts told → target_at new.plain.files pid fd ≡ target_at old.plain.files pid fd
own_kept script old new pid fd number which told reached turns moves lasts = go (is_alive old.plain.table pid) refl turns
  where
    go : (lives : Bool) → is_alive old.plain.table pid ≡ lives → TurnsWhere lives script old pid which told new → target_at new.plain.files pid fd ≡ target_at old.plain.files pid fd
    go true is answers =
        own_by old.plain pid (target_at old.plain.files pid number) (machine script old.plain pid which) told new.plain (reached_keeps reached).1 answers.answer lasts
        (moves_answer script old.plain pid 0 (none_is_zero script old.plain pid is) which number moves) fd
    go false is over = ap (λ (world : World). target_at world.plain.files pid fd) over.1

module _ (script : Script) (old : Plain) (pid : ℕ) (reached : IsReached script old) (lives : is_alive old.table pid ≡ true) where
  unchanged : (new : Plain) → new.files ≡ old.files → (fd : ℤ) → target_at new.files pid fd ≡ target_at old.files pid fd
  unchanged new same fd = ap (λ files. target_at files pid fd) same

  slept : (given : Answer) (new : Plain) → Tells given old turned.Sleep new → new ≡ old
  slept Blocked new tells = tells.1
  slept (Done said next) new tells = cc
  slept (Part moved next) new tells = cc
  slept (Ended status next) new tells = cc

  gone : (given : Answer) (new : Plain) → Tells given old turned.Gone new → new ≡ old
  gone Blocked new tells = tells.1
  gone (Done said next) new tells = cc
  gone (Part moved next) new tells = cc
  gone (Ended status next) new tells = cc

  failed : (which : Call) (given : Answer) (errno : Errno) (new : Plain) → machine script old pid which ≡ given → Tells given old (turned.Done (reply.Fail errno)) new → new.files ≡ old.files
  failed which Blocked errno new is tells = ap (λ (plain : Plain). plain.files) tells.1
  failed which (Done (reply.Fail other) next) errno new is tells = ap (λ (plain : Plain). plain.files) (tells.1 ∙ fails_alone script old pid which other next is)
  failed which (Done said next) errno new is tells = cc
  failed which (Part moved next) errno new is tells = cc
  failed which (Ended status next) errno new is tells = cc

  made : pid ≤ length old.files.descriptors
  made =
      let there = alive_there old.table pid lives in
      let placed : IsPlaced old = (reached_keeps reached).0 in
      let h : pid ≤ length old.table = (let it = was_made old.table pid there.0 there.1 in it.1) in
      let c : length old.table ≡ last_pid old = placed.counted in
      let d : length old.files.descriptors ≡ last_pid old = (let places = placed.places in places.counted) in omega arith

  left : (which : Call) (next new : Plain) → wakes_nobody (no_fifo new.files) which ≡ true → new ≡ next → descriptors_of next.files pid ≡ descriptors_of old.files pid → QuietIf 0 old which next
      → (fd : ℤ) → target_at new.files pid fd ≡ target_at old.files pid fd
  left which next new e same numbers quiet fd =
      ap (λ (plain : Plain). target_at plain.files pid fd) same
      ∙ same_targets pid old.files next.files numbers
      (let it : IsQuiet 0 old next = quiet (ap (λ (plain : Plain). wakes_nobody (no_fifo plain.files) which) (sym same) ∙ e) in let files = it.files in files.described) (reached_keeps reached).1 fd

  left_by : (which : Call) (given : Answer) (told : Turned) (new : Plain) → wakes_nobody (no_fifo new.files) which ≡ true → Tells given old told new
      → LeadsTo (λ next. descriptors_of next.files pid ≡ descriptors_of old.files pid) given
      → LeadsTo (QuietIf 0 old which) given → (fd : ℤ) → target_at new.files pid fd ≡ target_at old.files pid fd
  left_by which Blocked told new e tells numbers quiet fd = unchanged new (ap (λ (plain : Plain). plain.files) tells.1) fd
  left_by which (Done said next) told new e tells numbers quiet fd = left which next new e tells.1 numbers quiet fd
  left_by which (Part moved next) told new e tells numbers quiet fd = left which next new e tells.1 numbers quiet fd
  left_by which (Ended status next) told new e tells numbers quiet fd = left which next new e tells.1 numbers quiet fd

  quietly : (which : Call) (told : Turned) (new : Plain) → wakes_nobody (no_fifo new.files) which ≡ true → gives_number which ≡ false → Tells (machine script old pid which) old told new
      → (fd : ℤ) → target_at new.files pid fd ≡ target_at old.files pid fd
  quietly which told new e f tells fd =
      left_by which (machine script old pid which) told new e tells (leaves_numbers script old pid made (no_fifo new.files) which e f)
      (quiet_answer script old pid 0 (none_is_zero script old pid lives) (omega arith) which) fd

  passed_so : (which : Call) (told : Turned) (new : Plain) → passes_by (no_fifo new.files) (no_lock new.files) which told ≡ true → gives_number which ≡ false → Tells (machine script old pid which) old told new
      → (fd : ℤ) → target_at new.files pid fd ≡ target_at old.files pid fd
  passed_so which turned.Sleep new e f tells fd = unchanged new (ap (λ (plain : Plain). plain.files) (slept _ new tells)) fd
  passed_so which turned.Gone new e f tells fd = unchanged new (ap (λ (plain : Plain). plain.files) (gone _ new tells)) fd
  passed_so which (turned.Done (reply.Fail errno)) new e f tells fd = unchanged new (failed which _ errno new refl tells) fd
  passed_so which (turned.Done (reply.Val value)) new e f tells fd = quietly which _ new (both_true (no_lock new.files) (wakes_nobody (no_fifo new.files) which) e).1 f tells fd
  passed_so which (turned.Done said) new e f tells fd = quietly which (turned.Done said) new (both_true (no_lock new.files) (wakes_nobody (no_fifo new.files) which) e).1 f tells fd
  passed_so which (turned.Part moved) new e f tells fd = cc
  passed_so which (turned.Ended status) new e f tells fd = cc

pub own_passed : (script : Script) (old new : World) (pid : ℕ) (fd : ℤ) (which : Call) (told : Turned) → IsReached script old.plain
    → TurnsTo script old pid which told new → passes_by (no_fifo new.plain.files) (no_lock new.plain.files) which told ≡ true → gives_number which ≡ false
    → target_at new.plain.files pid fd ≡ target_at old.plain.files pid fd
own_passed script old new pid fd which told reached turns passes none = go (is_alive old.plain.table pid) refl turns
  where
    go : (lives : Bool) → is_alive old.plain.table pid ≡ lives → TurnsWhere lives script old pid which told new → target_at new.plain.files pid fd ≡ target_at old.plain.files pid fd
    go true is answers = passed_so script old.plain pid reached is which told new.plain passes none answers.answer fd
    go false is over = ap (λ (world : World). target_at world.plain.files pid fd) over.1

-- ---- who has ended

-- has nothing open
pub ended_has_none : (script : Script) (plain : Plain) (pid : ℕ) (fd : ℤ) → IsReached script plain → is_alive plain.table pid ≡ false → target_at plain.files pid fd ≡ None
ended_has_none script plain pid fd reached dead = ap (λ list. target (opened_by plain.files (descriptor_of list fd))) none ∙ go fd
  where
    target : Option Opened → Option Target
    target opened = option_map (λ (it : Opened). it.is.target) opened

    none : descriptors_of plain.files pid ≡ none_open
    none = let placed : IsPlaced plain = (reached_keeps reached).0 in let places = placed.places in places.ended pid dead

    go : (fd : ℤ) → target (opened_by plain.files (descriptor_of none_open fd)) ≡ None
    go (negsuc n) = refl
    go (pos n) = ap (λ held. target (opened_by plain.files held)) (none_open_at n)
