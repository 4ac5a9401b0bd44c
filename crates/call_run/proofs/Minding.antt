-- What is kept in mind of sleepers is so behind a turn too.
use Rattle.std.proofs.Common.{◌≡◌, ◌≢◌, ℕ, suc, zero, ◌||◌, ◌<◌, ℤ, not, Bool, true, false, List, [], ◌∷◌, map, replicate, Option, None, Some, slice_get, slice_set, length, refl, ap, sym, ◌∙◌, subst, inl, inr, arith}
use Rattle.std.specs.List.{AllByRecursion, list_any}
use Rattle.std.specs.Option.{option_and_then}
use Rattle.std.proofs.lemmas.Bool.Decides.{eqb_tells}
use Rattle.kabi_types.specs.declared.calls.Call.{Call}
use Rattle.kabi_types.specs.declared.errnos.Errno.TheVariants.{ENOMEM}
use Rattle.kabi_types.specs.declared.replies.Reply.TheVariants as reply
use Rattle.kabi_types.specs.declared.scripts.Script.{Script}
use Rattle.kern_laws.proofs.Nexts.{AnswerGoes, posix_goes}
use Rattle.kern_laws.proofs.TablePlaces.{get_set_other, get_set_same}
use Rattle.machine_laws.proofs.Reaches.{reached_keeps}
use Rattle.machine_laws.specs.Placed.{IsPlaced}
use Rattle.machine_laws.specs.Reached.{IsReached}
use Rattle.posix_defs.specs.Answer.{Answer, Blocked, Done, Ended, Part}
use Rattle.posix_defs.specs.Control as program
use Rattle.posix_defs.specs.Machine.{blocks, machine, would_block}
use Rattle.posix_defs.specs.Plain.{Plain, call_of, control_of, with_control}
use Rattle.posix_defs.specs.Process.{is_alive}
use Rattle.posix_defs.specs.Relief.{refused_in}
use Rattle.posix_defs.specs.Turn.{Tells, TurnsTo, TurnsWhere}
use Rattle.posix_defs.specs.World.{World}
use Rattle.posix_defs.specs.declared.turner.Turned.{Turned}
use Rattle.posix_defs.specs.declared.turner.Turned.TheVariants as turned
use Rattle.store_objects.specs.declared.objects.Objects.{Objects}
use Rattle.store_objects.specs.Standing.{StandsFor}
use Rattle.waking_laws.specs.Waking.{StaysAsItWas, StaysItself, awaited, gives_number, is_apart, meet, moves_through, no_fifo, no_lock, passes_by, target_at, wakes_nobody}
use Rattle.waking_laws.proofs.Behind.{moved_apart, moved_lives, own_kept, own_passed, stays_itself}
use Rattle.waking_laws.proofs.Passing.{came_further, passed_by}
use Rattle.call_run.specs.declared.sleepers.Came.{Came}
use Rattle.call_run.specs.declared.sleepers.Came.TheVariants as came
use Rattle.call_run.specs.declared.sleepers.Channel.{Channel}
use Rattle.call_run.specs.declared.sleepers.Sleeper.{Sleeper}
use Rattle.call_run.specs.declared.sleepers.Stirs.TheVariants.{Nobody, Through}
use Rattle.call_run.specs.Sleepers.{AreMinded, AreNear, HasBegun, IsApartAt, IsBehind, IsChannel, IsDoubted, IsNear, IsOf, IsPassed, IsToldApart, IsTrulyTold, KnowsChannels, StandsAsleep, begun, came_of, channel_at, has_stood, is_anew, is_known, is_learned, is_near, lain, stirs_by, stirs_of, told_of, with_sleeper, without}
use Rattle.call_run.proofs.Asking.{near_pid}
use Rattle.call_run.proofs.Telling.{each_other, each_with, each_without, none_without}

-- ---- lists

each_all : (P : Sleeper → Type 0) (told : List Sleeper) → ((sleeper : Sleeper) → P sleeper) → AllByRecursion P told
each_all P [] all = tt
each_all P (sleeper ∷ told) all = (all sleeper, each_all P told all)

each_map : (P Q : Sleeper → Type 0) (told : List Sleeper) → ((sleeper : Sleeper) → P sleeper → Q sleeper) → AllByRecursion P told → AllByRecursion Q told
each_map P Q [] f all = tt
each_map P Q (sleeper ∷ told) f all = (f sleeper all.0, each_map P Q told f all.1)

each_and : (P Q : Sleeper → Type 0) (told : List Sleeper) → AllByRecursion P told → AllByRecursion Q told → AllByRecursion (λ sleeper. P sleeper × Q sleeper) told
each_and P Q [] p q = tt
each_and P Q (sleeper ∷ told) p q = ((p.0, q.0), each_and P Q told p.1 q.1)

-- ---- no channels

pub minded_alone : (script : Script) (plain : Plain) (told : List Sleeper) (channels : List (Option Channel)) → ((place : ℕ) → channel_at channels place ≡ None)
    → AllByRecursion (IsTrulyTold script plain) told → AreMinded script plain told channels
minded_alone script plain told channels none truly = record {
  each = truly;
  apart = each_all (KnowsChannels script plain channels) told (λ sleeper place. subst (IsApartAt script plain sleeper place) (sym (none place)) tt);
  known = λ place. subst (IsChannel script plain told) (sym (none place)) tt;
}

-- where nobody is told of, that is so of any world
pub nobody_minded : (script : Script) (plain : Plain) (told : List Sleeper) (channels : List (Option Channel)) → told ≡ [] → AreMinded script plain told channels
nobody_minded script plain told channels none =
    subst (λ ts. AreMinded script plain ts channels) (sym none) (record { each = tt; apart = tt; known = λ place. any (channel_at channels place) })
  where
    any : (found : Option Channel) → IsChannel script plain [] found
    any None = tt
    any (Some channel) = tt

-- ---- by pids

-- where a channel has begun the pids are the same
pub begun_same : (P : ℕ → Type 0) (channel : Option Channel) (pid : ℕ) (fd : ℤ) (place : ℕ) (old new : List Sleeper) → HasBegun channel pid fd place old new
    → AllByRecursion (λ sleeper. P sleeper.pid) old → AllByRecursion (λ sleeper. P sleeper.pid) new
begun_same P channel pid fd place old new (has_stood is) all = all
begun_same P channel pid fd place old new is_anew all = mapped old all
  where
    mapped : (ts : List Sleeper) → AllByRecursion (λ sleeper. P sleeper.pid) ts → AllByRecursion (λ sleeper. P sleeper.pid) (map (begun place) ts)
    mapped [] every = tt
    mapped (t ∷ ts) every = (every.0, mapped ts every.1)

-- and where those who are near were asked
pub near_same : (P : ℕ → Type 0) (script : Script) (objects : Objects) (pid : ℕ) (fd : ℤ) (channel : ℕ) (near : Bool) (old new : List Sleeper)
    → AreNear script objects pid fd channel old new near → AllByRecursion (λ sleeper. P sleeper.pid) old → AllByRecursion (λ sleeper. P sleeper.pid) new
near_same P script objects pid fd channel near [] [] asked all = tt
near_same P script objects pid fd channel near [] (one ∷ new) asked all = absurd asked
near_same P script objects pid fd channel near (was ∷ old) [] asked all = absurd asked
near_same P script objects pid fd channel near (was ∷ old) (one ∷ new) asked all =
    (subst P (sym (near_pid script objects pid fd channel was one asked.0.0 asked.0.1)) all.0, near_same P script objects pid fd channel near old new asked.1 all.1)

-- ---- what a process waits for has to do with what it had before

-- Behind a turn a number is open on what it was, and so are all of a process, which makes the same call.
pub apart_same : (script : Script) (who pid : ℕ) (fd : ℤ) (old new : Plain) → target_at new.files pid fd ≡ target_at old.files pid fd → StaysItself script who old new
    → is_apart script new who pid fd ≡ is_apart script old who pid fd
apart_same script who pid fd old new target itself =
    ap (λ which. not (list_any (λ other. meet (target_at new.files pid fd) (target_at new.files who other)) (awaited which))) itself.asks
    ∙ ap not (any_same (awaited (call_of script old who)))
  where
    one : (other : ℤ) → meet (target_at new.files pid fd) (target_at new.files who other) ≡ meet (target_at old.files pid fd) (target_at old.files who other)
    one other =
        ap (λ t. meet t (target_at new.files who other)) target ∙ ap (meet (target_at old.files pid fd)) (itself.opens other)

    any_same : (fds : List ℤ) → list_any (λ other. meet (target_at new.files pid fd) (target_at new.files who other)) fds
        ≡ list_any (λ other. meet (target_at old.files pid fd) (target_at old.files who other)) fds
    any_same [] = refl
    any_same (other ∷ fds) =
        ap (λ b. b || list_any (λ n. meet (target_at new.files pid fd) (target_at new.files who n)) fds) (one other)
        ∙ ap (λ rest. meet (target_at old.files pid fd) (target_at old.files who other) || rest) (any_same fds)

-- A channel's process is alive behind the turn too, and its number open on what it was.
pub record Stays (old new : Plain) (channel : Channel) : Type 0 where
  pub lives : is_alive new.table channel.pid ≡ true
  pub target : target_at new.files channel.pid channel.fd ≡ target_at old.files channel.pid channel.fd

-- What is kept in mind stays so where each of whom it is stays as he was, and each channel's process too.
pub carried : (script : Script) (old new : Plain) (told : List Sleeper) (channels : List (Option Channel)) → AreMinded script old told channels
    → AllByRecursion (λ sleeper. StaysAsItWas script sleeper.pid old new) told
    → ((channel : Channel) → is_alive old.table channel.pid ≡ true → Stays old new channel) → AreMinded script new told channels
carried script old new [] channels minded stay through = record { each = tt; apart = tt; known = λ place. none (channel_at channels place) }
  where
    none : (found : Option Channel) → IsChannel script new [] found
    none None = tt
    none (Some it) = tt
carried script old new (sleeper ∷ rest) channels minded stay through = record {
  each =
      each_map (λ one. IsTrulyTold script old one × StaysAsItWas script one.pid old new) (IsTrulyTold script new) (sleeper ∷ rest)
      (λ one it. record { alive = it.1.itself.lives ∙ it.0.alive; blocks = it.1.waits ∙ it.0.blocks })
      (each_and (IsTrulyTold script old) (λ one. StaysAsItWas script one.pid old new) (sleeper ∷ rest) minded.each stay);
  apart =
      each_map (λ one. StaysAsItWas script one.pid old new × KnowsChannels script old channels one) (KnowsChannels script new channels) (sleeper ∷ rest)
      (λ one it place. knows one it.0 place (channel_at channels place) (minded.known place) (it.1 place))
      (each_and (λ one. StaysAsItWas script one.pid old new) (KnowsChannels script old channels) (sleeper ∷ rest) stay minded.apart);
  known = λ place. channel (channel_at channels place) (minded.known place);
}
  where
    knows : (one : Sleeper) → StaysAsItWas script one.pid old new → (place : ℕ) (found : Option Channel) → IsChannel script old (sleeper ∷ rest) found
        → IsApartAt script old one place found → IsApartAt script new one place found
    knows one stays place None known was = tt
    knows one stays place (Some it) known was = λ told_apart.
        let there = through it known.0 in
        apart_same script one.pid it.pid it.fd old new there.target stays.itself ∙ was told_apart

    channel : (found : Option Channel) → IsChannel script old (sleeper ∷ rest) found → IsChannel script new (sleeper ∷ rest) found
    channel None known = tt
    channel (Some it) known =
        let there = through it known.0 in (
          there.lives,
          λ all.
              each_map (λ one. StaysAsItWas script one.pid old new × (is_apart script old one.pid it.pid it.fd ≡ true)) (λ one. is_apart script new one.pid it.pid it.fd ≡ true) (sleeper ∷ rest)
              (λ one both. apart_same script one.pid it.pid it.fd old new there.target both.0.itself ∙ both.1)
              (each_and (λ one. StaysAsItWas script one.pid old new) (λ one. is_apart script old one.pid it.pid it.fd ≡ true) (sleeper ∷ rest) stay (known.1 all)),
        )

-- ---- what a turn came to

-- whom it stirs says what it was
pub nobody_passes : (empty : Bool) (which : Call) (told : Turned) → stirs_of empty which (came_of told) ≡ Nobody → passes_by empty true which told ≡ true
nobody_passes empty which turned.Sleep e = refl
nobody_passes empty which turned.Gone e = refl
nobody_passes empty which (turned.Done (reply.Fail errno)) e = refl
nobody_passes empty which (turned.Done said) e = by_done (moves_through which) (wakes_nobody empty which) e
  where
    by_done : (through : Option ℤ) (nobody : Bool) → stirs_by through nobody ≡ Nobody → nobody ≡ true
    by_done (Some fd) nobody f = cc
    by_done None true f = refl
    by_done None false f = cc
nobody_passes empty which (turned.Part moved) e = by_part (moves_through which) e
  where
    by_part : {X : Type 0} (through : Option ℤ) → stirs_by through false ≡ Nobody → X
    by_part (Some fd) f = cc
    by_part None f = cc
nobody_passes empty which (turned.Ended status) e = cc

-- through which number it moved bytes
through_moves : (through : Option ℤ) (nobody : Bool) (fd : ℤ) → stirs_by through nobody ≡ Through fd → through ≡ Some fd
through_moves (Some number) nobody fd e = cc
through_moves None true fd e = cc
through_moves None false fd e = cc

pub moves_so : (which : Call) (told : Turned) (fd : ℤ) → stirs_of false which (came_of told) ≡ Through fd
    → (moves_through which ≡ Some fd) × ((status : ℕ) → told ≡ turned.Ended status → ⊥)
moves_so which turned.Sleep fd e = cc
moves_so which turned.Gone fd e = cc
moves_so which (turned.Done (reply.Fail errno)) fd e = cc
moves_so which (turned.Done said) fd e = (through_moves (moves_through which) (wakes_nobody false which) fd e, λ status f. (cc))
moves_so which (turned.Part moved) fd e = (through_moves (moves_through which) false fd e, λ status f. (cc))
moves_so which (turned.Ended status) fd e = cc

-- whether a FIFO is open has no part in it
pub through_so : (empty : Bool) (which : Call) (how : Came) (fd : ℤ) → stirs_of empty which how ≡ Through fd → stirs_of false which how ≡ Through fd
through_so empty which came.Nothing fd e = e
through_so empty which came.Sleep fd e = e
through_so empty which came.Part fd e = e
through_so empty which came.Done fd e = go (moves_through which) e
  where
    go : (through : Option ℤ) → stirs_by through (wakes_nobody empty which) ≡ Through fd → stirs_by through (wakes_nobody false which) ≡ Through fd
    go (Some number) f = f
    go None f = absurd (none (wakes_nobody empty which) f)
      where
        none : (nobody : Bool) → stirs_by None nobody ≡ Through fd → ⊥
        none true g = cc
        none false g = cc
through_so empty which came.End fd e = e

-- a turn that passes by doesn't end its process
pub passes_lasts : (empty free : Bool) (which : Call) (told : Turned) → passes_by empty free which told ≡ true → (status : ℕ) → told ≡ turned.Ended status → ⊥
passes_lasts empty free which turned.Sleep e status f = cc
passes_lasts empty free which turned.Gone e status f = cc
passes_lasts empty free which (turned.Done said) e status f = cc
passes_lasts empty free which (turned.Part moved) e status f = cc
passes_lasts empty free which (turned.Ended other) e status f = cc

-- a process lives on behind its own turn, unless that ended it
pub mover_lives : (script : Script) (old new : World) (pid : ℕ) (which : Call) (told : Turned) → IsReached script old.plain → TurnsTo script old pid which told new
    → ((status : ℕ) → told ≡ turned.Ended status → ⊥) → is_alive old.plain.table pid ≡ true → is_alive new.plain.table pid ≡ true
mover_lives script old new pid which told reached turns lasts alive =
    let answers = subst (λ b. TurnsWhere b script old pid which told new) alive turns in
    let placed : IsPlaced old.plain = (reached_keeps reached).0 in
    go (machine script old.plain pid which) answers.answer (posix_goes script old.plain pid which placed.counted alive)
  where
    go : (answer : Answer) → Tells answer old.plain told new.plain → AnswerGoes old.plain pid answer → is_alive new.plain.table pid ≡ true
    go Blocked tells goes = ap (λ (plain : Plain). is_alive plain.table pid) tells.1 ∙ alive
    go (Done said next) tells goes = ap (λ (plain : Plain). is_alive plain.table pid) tells.1 ∙ goes.1
    go (Part moved next) tells goes = ap (λ (plain : Plain). is_alive plain.table pid) tells.1 ∙ goes.1
    go (Ended status next) tells goes = absurd (lasts status tells.0)

-- ---- a turn that passes by

module _ (script : Script) (old new : World) (pid : ℕ) (which : Call) (told : Turned) (reached : IsReached script old.plain) (turns : TurnsTo script old pid which told new)
    (passes : passes_by (no_fifo new.plain.files) (no_lock new.plain.files) which told ≡ true) (sleepers : List Sleeper) (channels : List (Option Channel)) (minded : AreMinded script old.plain sleepers channels)
    (up : told_of sleepers pid ≡ None) where
  stay_passed : AllByRecursion (λ sleeper. StaysAsItWas script sleeper.pid old.plain new.plain) sleepers
  stay_passed =
      each_map (λ sleeper. IsTrulyTold script old.plain sleeper × (sleeper.pid ≢ pid)) (λ sleeper. StaysAsItWas script sleeper.pid old.plain new.plain) sleepers
      (λ sleeper it. passed_by script old new pid sleeper.pid which told reached turns passes it.1 it.0.alive)
      (each_and (IsTrulyTold script old.plain) (λ sleeper. sleeper.pid ≢ pid) sleepers minded.each (each_other sleepers pid up))

  -- it is told truly of all
  pub passed_truly : AllByRecursion (IsTrulyTold script new.plain) sleepers
  passed_truly =
      each_map (λ sleeper. IsTrulyTold script old.plain sleeper × StaysAsItWas script sleeper.pid old.plain new.plain) (IsTrulyTold script new.plain) sleepers
      (λ sleeper it. record { alive = it.1.itself.lives ∙ it.0.alive; blocks = it.1.waits ∙ it.0.blocks })
      (each_and (IsTrulyTold script old.plain) (λ sleeper. StaysAsItWas script sleeper.pid old.plain new.plain) sleepers minded.each stay_passed)

  through_passed : gives_number which ≡ false → (channel : Channel) → is_alive old.plain.table channel.pid ≡ true → Stays old.plain new.plain channel
  through_passed keeps channel alive = elim (eqb_tells channel.pid pid) [
    | inl same ↦ record {
      lives =
          ap (is_alive new.plain.table) same.1
          ∙ mover_lives script old new pid which told reached turns (passes_lasts (no_fifo new.plain.files) (no_lock new.plain.files) which told passes) (ap (is_alive old.plain.table) (sym same.1) ∙ alive);
      target =
          ap (λ n. target_at new.plain.files n channel.fd) same.1 ∙ own_passed script old new pid channel.fd which told reached turns passes keeps
          ∙ sym (ap (λ n. target_at old.plain.files n channel.fd) same.1);
    }
    | inr other ↦
        let stays = passed_by script old new pid channel.pid which told reached turns passes other.1 alive in
        record { lives = stays.itself.lives ∙ alive; target = stays.itself.opens channel.fd }
  ]

  pub passed_minded : gives_number which ≡ false → AreMinded script new.plain sleepers channels
  passed_minded keeps = carried script old.plain new.plain sleepers channels minded stay_passed (through_passed keeps)

-- ---- a turn that moves bytes

module _ (script : Script) (old new : World) (pid : ℕ) (fd : ℤ) (which : Call) (told : Turned) (reached : IsReached script old.plain)
    (turns : TurnsTo script old pid which told new) (moves : moves_through which ≡ Some fd) (lasts : (status : ℕ) → told ≡ turned.Ended status → ⊥)
    (free : no_lock new.plain.files ≡ true) (mover : is_alive old.plain.table pid ≡ true) where
  other_lives : (who : ℕ) → who ≢ pid → is_alive old.plain.table who ≡ true → is_alive new.plain.table who ≡ true
  other_lives who apart alive = moved_lives script old new pid who fd which told turns moves lasts apart alive

  other_itself : (who : ℕ) → who ≢ pid → is_alive old.plain.table who ≡ true → StaysItself script who old.plain new.plain
  other_itself who apart alive = stays_itself script old new pid who which told reached turns apart alive (other_lives who apart alive)

  other_apart : (who : ℕ) → who ≢ pid → is_alive old.plain.table who ≡ true → is_apart script old.plain who pid fd ≡ true → StaysAsItWas script who old.plain new.plain
  other_apart who apart alive is = moved_apart script old new pid who fd which told reached turns moves lasts free apart alive is

  own_target : (number : ℤ) → target_at new.plain.files pid number ≡ target_at old.plain.files pid number
  own_target number = own_kept script old new pid number fd which told reached turns moves lasts

  pub mover_still : is_alive new.plain.table pid ≡ true
  mover_still = mover_lives script old new pid which told reached turns lasts mover

  through_moved : (channel : Channel) → is_alive old.plain.table channel.pid ≡ true → Stays old.plain new.plain channel
  through_moved channel alive = elim (eqb_tells channel.pid pid) [
    | inl same ↦ record {
      lives = ap (is_alive new.plain.table) same.1 ∙ mover_still;
      target =
          ap (λ n. target_at new.plain.files n channel.fd) same.1 ∙ own_target channel.fd ∙ sym (ap (λ n. target_at old.plain.files n channel.fd) same.1);
    }
    | inr other ↦
        let stays = other_itself channel.pid other.1 alive in
        record { lives = stays.lives ∙ alive; target = stays.opens channel.fd }
  ]

  -- what one waits for is apart from it behind the turn just where it was
  here_same : (who : ℕ) → who ≢ pid → is_alive old.plain.table who ≡ true → is_apart script new.plain who pid fd ≡ is_apart script old.plain who pid fd
  here_same who apart alive = apart_same script who pid fd old.plain new.plain (own_target fd) (other_itself who apart alive)

  module _ (sleepers : List Sleeper) (channels : List (Option Channel)) (minded : AreMinded script old.plain sleepers channels) (up : told_of sleepers pid ≡ None) where
    -- where all are apart from it nothing is to be done
    pub all_passed : (place : ℕ) → IsPassed (channel_at channels place) pid fd → AreMinded script new.plain sleepers channels
    all_passed place is = go sleepers refl (minded.known place)
      where
        stay : AllByRecursion (λ sleeper. is_apart script old.plain sleeper.pid is.it.pid is.it.fd ≡ true) sleepers → AllByRecursion (λ sleeper. StaysAsItWas script sleeper.pid old.plain new.plain) sleepers
        stay all =
            each_map (λ sleeper. (IsTrulyTold script old.plain sleeper × (sleeper.pid ≢ pid)) × (is_apart script old.plain sleeper.pid is.it.pid is.it.fd ≡ true))
            (λ sleeper. StaysAsItWas script sleeper.pid old.plain new.plain) sleepers
            (λ sleeper it.
            other_apart sleeper.pid it.0.1 it.0.0.alive
            (ap (λ n. is_apart script old.plain sleeper.pid n fd) (sym is.same_pid) ∙ ap (is_apart script old.plain sleeper.pid is.it.pid) (sym is.same_fd) ∙ it.1))
            (each_and (λ sleeper. IsTrulyTold script old.plain sleeper × (sleeper.pid ≢ pid)) (λ sleeper. is_apart script old.plain sleeper.pid is.it.pid is.it.fd ≡ true) sleepers
            (each_and (IsTrulyTold script old.plain) (λ sleeper. sleeper.pid ≢ pid) sleepers minded.each (each_other sleepers pid up)) all)

        go : (ts : List Sleeper) → sleepers ≡ ts → IsChannel script old.plain sleepers (channel_at channels place) → AreMinded script new.plain sleepers channels
        go [] same known = carried script old.plain new.plain sleepers channels minded (subst (AllByRecursion (λ sleeper. StaysAsItWas script sleeper.pid old.plain new.plain)) (sym same) tt) through_moved
        go (sleeper ∷ rest) same known =
            let here : IsChannel script old.plain (sleeper ∷ rest) (Some is.it) = subst (λ ts. IsChannel script old.plain ts (Some is.it)) same (subst (IsChannel script old.plain sleepers) is.there known) in
            carried script old.plain new.plain sleepers channels minded
            (stay (subst (AllByRecursion (λ one. is_apart script old.plain one.pid is.it.pid is.it.fd ≡ true)) (sym same) (here.1 is.all_apart))) through_moved

    -- ---- those who aren't apart are asked

    -- What is known of a sleeper before, of whom it may not be told that he is apart from the channel, unless it stood there.
    record Begun (place : ℕ) (sleeper : Sleeper) : Type 0 where
      truly : IsTrulyTold script old.plain sleeper
      other : sleeper.pid ≢ pid
      here : IsToldApart sleeper place → is_apart script old.plain sleeper.pid pid fd ≡ true
      there : (at : ℕ) → at ≢ place → IsApartAt script old.plain sleeper at (channel_at channels at)

    module _ (place : ℕ) where
      stood_so : IsOf (channel_at channels place) pid fd → (sleeper : Sleeper) → IsTrulyTold script old.plain sleeper × (sleeper.pid ≢ pid) × KnowsChannels script old.plain channels sleeper → Begun place sleeper
      stood_so is sleeper it = record {
        truly = it.0;
        other = it.1;
        here = λ told_apart.
            ap (λ n. is_apart script old.plain sleeper.pid n fd) (sym is.same_pid) ∙ ap (is_apart script old.plain sleeper.pid is.it.pid) (sym is.same_fd)
            ∙ subst (IsApartAt script old.plain sleeper place) is.there (it.2 place) told_apart;
        there = λ at apart. it.2 at;
      }

      -- no longer told
      untold : (apart : List Bool) → slice_get (slice_set apart place false) place ≡ Some true → ⊥
      untold apart e = go apart place e
        where
          go : (bs : List Bool) (at : ℕ) → slice_get (slice_set bs at false) at ≡ Some true → ⊥
          go [] at f = cc
          go (b ∷ bs) zero f = cc
          go (b ∷ bs) (suc at) f = go bs at f

      apart_still : (found : Option Channel) (sleeper : Sleeper) (at : ℕ) → at ≢ place → IsApartAt script old.plain sleeper at found → IsApartAt script old.plain (begun place sleeper) at found
      apart_still None sleeper at other was = tt
      apart_still (Some it) sleeper at other was = λ told_apart. was (sym (get_set_other sleeper.apart place at false other) ∙ told_apart)

      anew_so : (sleeper : Sleeper) → IsTrulyTold script old.plain sleeper × (sleeper.pid ≢ pid) × KnowsChannels script old.plain channels sleeper → Begun place (begun place sleeper)
      anew_so sleeper it = record {
        truly = record { alive = it.0.alive; blocks = it.0.blocks };
        other = it.1;
        here = λ told_apart. absurd (untold sleeper.apart told_apart);
        there = λ at apart. apart_still (channel_at channels at) sleeper at apart (it.2 at);
      }

      all_known : AllByRecursion (λ sleeper. IsTrulyTold script old.plain sleeper × (sleeper.pid ≢ pid) × KnowsChannels script old.plain channels sleeper) sleepers
      all_known = triple sleepers minded.each (each_other sleepers pid up) minded.apart
        where
          triple : (ts : List Sleeper) → AllByRecursion (IsTrulyTold script old.plain) ts → AllByRecursion (λ sleeper. sleeper.pid ≢ pid) ts → AllByRecursion (KnowsChannels script old.plain channels) ts
              → AllByRecursion (λ sleeper. IsTrulyTold script old.plain sleeper × (sleeper.pid ≢ pid) × KnowsChannels script old.plain channels sleeper) ts
          triple [] a b c = tt
          triple (t ∷ ts) a b c = ((a.0, b.0, c.0), triple ts a.1 b.1 c.1)

      map_all : (P Q : Sleeper → Type 0) (f : Sleeper → Sleeper) (ts : List Sleeper) → ((t : Sleeper) → P t → Q (f t)) → AllByRecursion P ts → AllByRecursion Q (map f ts)
      map_all P Q f [] step all = tt
      map_all P Q f (t ∷ ts) step all = (step t all.0, map_all P Q f ts step all.1)

      all_begun : (middle : List Sleeper) → HasBegun (channel_at channels place) pid fd place sleepers middle → AllByRecursion (Begun place) middle
      all_begun middle (has_stood is) = each_map (λ sleeper. IsTrulyTold script old.plain sleeper × (sleeper.pid ≢ pid) × KnowsChannels script old.plain channels sleeper) (Begun place) sleepers (stood_so is) all_known
      all_begun middle is_anew = map_all (λ sleeper. IsTrulyTold script old.plain sleeper × (sleeper.pid ≢ pid) × KnowsChannels script old.plain channels sleeper) (Begun place) (begun place) sleepers anew_so all_known

      -- behind the turn
      -- it is told truly of each, and he is apart from what he is told to be apart from
      record Looked (objects : Objects) (near : Bool) (old_one one : Sleeper) : Type 0 where
        same : one.pid ≡ old_one.pid
        truly : IsTrulyTold script new.plain one
        here : IsToldApart one place → is_apart script new.plain one.pid pid fd ≡ true
        there : (at : ℕ) → at ≢ place → (channel : Channel) → channel_at channels at ≡ Some channel → Stays old.plain new.plain channel
            → IsToldApart one at → is_apart script new.plain one.pid channel.pid channel.fd ≡ true
        quiet : near ≡ false → is_apart script new.plain one.pid pid fd ≡ true

      true_false : {X : Type 0} {b : Bool} → b ≡ true → b ≡ false → X
      true_false e f = cc

      from_there : (sleeper : Sleeper) → Begun place sleeper → (at : ℕ) → at ≢ place → (channel : Channel) → channel_at channels at ≡ Some channel → Stays old.plain new.plain channel
          → IsToldApart sleeper at → is_apart script new.plain sleeper.pid channel.pid channel.fd ≡ true
      from_there sleeper begun at apart channel is stays told_apart =
          apart_same script sleeper.pid channel.pid channel.fd old.plain new.plain stays.target (other_itself sleeper.pid begun.other begun.truly.alive)
          ∙ subst (IsApartAt script old.plain sleeper at) is (begun.there at apart) told_apart

      module _ (objects : Objects) (stands : StandsFor script objects new) (reaches : IsReached script new.plain) where
        alive_behind : (sleeper : Sleeper) → Begun place sleeper → is_alive new.plain.table sleeper.pid ≡ true
        alive_behind sleeper begun = other_lives sleeper.pid begun.other begun.truly.alive

        still : (sleeper : Sleeper) → Begun place sleeper → is_apart script old.plain sleeper.pid pid fd ≡ true → IsTrulyTold script new.plain sleeper
        still sleeper begun apart =
            let stays = other_apart sleeper.pid begun.other begun.truly.alive apart in
            record { alive = alive_behind sleeper begun; blocks = stays.waits ∙ begun.truly.blocks }

        looked_by : (near : Bool) (sleeper one : Sleeper) (b : Bool) → Begun place sleeper → IsNear script objects pid fd place sleeper one b → (b ≡ true → near ≡ true)
            → Looked objects near sleeper one
        looked_by near sleeper one b begun (is_known of told_apart) more =
            let was = begun.here told_apart in record {
              same = refl;
              truly = still of begun was;
              here = λ _. here_same of.pid begun.other begun.truly.alive ∙ was;
              there = from_there of begun;
              quiet = λ _. here_same of.pid begun.other begun.truly.alive ∙ was;
            }
        looked_by near sleeper one b begun (is_learned of apart) more =
            let now = apart new stands (alive_behind of begun) in
            let was = still of begun (sym (here_same of.pid begun.other begun.truly.alive) ∙ now) in record {
              same = refl;
              truly = record { alive = alive_behind of begun; blocks = was.blocks };
              here = λ _. now;
              there = λ at other channel is stays told_apart.
                  from_there of begun at other channel is stays (sym (get_set_other of.apart place at true other) ∙ told_apart);
              quiet = λ _. now;
            }
        looked_by near sleeper one b begun (is_near of blocks apart blocked) more = record {
          same = refl;
          truly = record { alive = alive_behind of begun; blocks = blocked new stands reaches (alive_behind of begun) };
          here = λ told_apart. absurd (apart told_apart);
          there = from_there of begun;
          quiet = λ none. true_false (more refl) none;
        }

        looked : (near : Bool) (sleeper one : Sleeper) → Begun place sleeper → (b : Bool) × IsNear script objects pid fd place sleeper one b × (b ≡ true → near ≡ true) → Looked objects near sleeper one
        looked near sleeper one begun it = looked_by near sleeper one it.0 begun it.1 it.2

        module _ (near : Bool) where
          -- so it is of all
          all_looked : (middle after : List Sleeper) → AllByRecursion (Begun place) middle → AreNear script objects pid fd place middle after near
              → (P : Sleeper → Type 0) → ((sleeper one : Sleeper) → Looked objects near sleeper one → P one) → AllByRecursion P after
          all_looked [] [] begun asked P from = tt
          all_looked [] (one ∷ after) begun asked P from = absurd asked
          all_looked (sleeper ∷ middle) [] begun asked P from = absurd asked
          all_looked (sleeper ∷ middle) (one ∷ after) begun asked P from =
              (from sleeper one (looked near sleeper one begun.0 asked.0), all_looked middle after begun.1 asked.1 P from)

          -- a channel there
          abbrev opened : Option Channel
          opened = Some (record { pid = pid; fd = fd; all_apart = not near })

          at_place : place < length channels → channel_at (slice_set channels place opened) place ≡ opened
          at_place within = ap (option_and_then (λ channel. channel)) (get_set_same channels place opened within)

          at_other : (at : ℕ) → at ≢ place → channel_at (slice_set channels place opened) at ≡ channel_at channels at
          at_other at apart = ap (option_and_then (λ channel. channel)) (get_set_other channels place at opened apart)

          not_near : not near ≡ true → near ≡ false
          not_near e = go near e
            where
              go : (b : Bool) → not b ≡ true → b ≡ false
              go false f = refl
              go true f = cc

          module _ (first : Sleeper) (rest : List Sleeper) (some : sleepers ≡ first ∷ rest) where
            channel_lives : (at : ℕ) (channel : Channel) → channel_at channels at ≡ Some channel → is_alive old.plain.table channel.pid ≡ true
            channel_lives at channel is =
                let known : IsChannel script old.plain (first ∷ rest) (Some channel) =
                subst (λ ts. IsChannel script old.plain ts (Some channel)) some (subst (IsChannel script old.plain sleepers) is (minded.known at)) in
                known.0

            all_of : (at : ℕ) (channel : Channel) → channel_at channels at ≡ Some channel → channel.all_apart ≡ true
                → AllByRecursion (λ one. is_apart script old.plain one.pid channel.pid channel.fd ≡ true) sleepers
            all_of at channel is all =
                let known : IsChannel script old.plain (first ∷ rest) (Some channel) =
                subst (λ ts. IsChannel script old.plain ts (Some channel)) some (subst (IsChannel script old.plain sleepers) is (minded.known at)) in
                subst (AllByRecursion (λ one. is_apart script old.plain one.pid channel.pid channel.fd ≡ true)) (sym some) (known.1 all)

            module _ (middle after : List Sleeper) (began : HasBegun (channel_at channels place) pid fd place sleepers middle)
                (asked : AreNear script objects pid fd place middle after near) (within : place < length channels) where
              knows : (sleeper one : Sleeper) → Looked objects near sleeper one → KnowsChannels script new.plain (slice_set channels place opened) one
              knows sleeper one it at = elim (eqb_tells at place) [
                | inl same ↦
                    subst (IsApartAt script new.plain one at) (sym (ap (channel_at (slice_set channels place opened)) same.1 ∙ at_place within))
                    (λ told_apart. it.here (subst (IsToldApart one) same.1 told_apart))
                | inr other ↦ subst (IsApartAt script new.plain one at) (sym (at_other at other.1)) (go (channel_at channels at) refl other.1)
              ]
                where
                  go : (found : Option Channel) → channel_at channels at ≡ found → at ≢ place → IsApartAt script new.plain one at found
                  go None is apart = tt
                  go (Some channel) is apart = it.there at apart channel is (through_moved channel (channel_lives at channel is))

              here_channel : (ts : List Sleeper) → AllByRecursion (λ one. near ≡ false → is_apart script new.plain one.pid pid fd ≡ true) ts → IsChannel script new.plain ts opened
              here_channel [] quiet = tt
              here_channel (one ∷ ts) quiet =
                  (mover_still, (λ all. each_map (λ t. near ≡ false → is_apart script new.plain t.pid pid fd ≡ true) (λ t. is_apart script new.plain t.pid pid fd ≡ true) (one ∷ ts) (λ t apart. apart (not_near all)) quiet))

              there_channel : (at : ℕ) (found : Option Channel) → channel_at channels at ≡ found → IsChannel script new.plain after found
              there_channel at None is = tt
              there_channel at (Some channel) is = go after (λ all. still all)
                where
                  stays : Stays old.plain new.plain channel
                  stays = through_moved channel (channel_lives at channel is)

                  P : ℕ → Type 0
                  P n = (n ≢ pid) × (is_alive old.plain.table n ≡ true) × (is_apart script old.plain n channel.pid channel.fd ≡ true)

                  three : channel.all_apart ≡ true → AllByRecursion (λ one. P one.pid) sleepers
                  three all = join sleepers (each_other sleepers pid up) minded.each (all_of at channel is all)
                    where
                      join : (ts : List Sleeper) → AllByRecursion (λ one. one.pid ≢ pid) ts → AllByRecursion (IsTrulyTold script old.plain) ts
                          → AllByRecursion (λ one. is_apart script old.plain one.pid channel.pid channel.fd ≡ true) ts → AllByRecursion (λ one. P one.pid) ts
                      join [] a b d = tt
                      join (t ∷ ts) a b d = ((a.0, b.0.alive, d.0), join ts a.1 b.1 d.1)

                  still : channel.all_apart ≡ true → AllByRecursion (λ one. is_apart script new.plain one.pid channel.pid channel.fd ≡ true) after
                  still all =
                      each_map (λ one. P one.pid) (λ one. is_apart script new.plain one.pid channel.pid channel.fd ≡ true) after
                      (λ one it. apart_same script one.pid channel.pid channel.fd old.plain new.plain stays.target (other_itself one.pid it.0 it.1) ∙ it.2)
                      (near_same P script objects pid fd place near middle after asked (begun_same P (channel_at channels place) pid fd place sleepers middle began (three all)))

                  go : (ts : List Sleeper) → (channel.all_apart ≡ true → AllByRecursion (λ one. is_apart script new.plain one.pid channel.pid channel.fd ≡ true) ts)
                      → IsChannel script new.plain ts (Some channel)
                  go [] apart = tt
                  go (one ∷ ts) apart = (stays.lives, apart)

              -- what is kept in mind is so
              pub near_minded : AreMinded script new.plain after (slice_set channels place opened)
              near_minded = record {
                each = all_looked middle after (all_begun middle began) asked (IsTrulyTold script new.plain) (λ sleeper one it. it.truly);
                apart = all_looked middle after (all_begun middle began) asked (KnowsChannels script new.plain (slice_set channels place opened)) knows;
                known = λ at. elim (eqb_tells at place) [
                  | inl same ↦
                      subst (IsChannel script new.plain after) (sym (ap (channel_at (slice_set channels place opened)) same.1 ∙ at_place within))
                      (here_channel after (all_looked middle after (all_begun middle began) asked (λ one. near ≡ false → is_apart script new.plain one.pid pid fd ≡ true) (λ sleeper one it. it.quiet)))
                  | inr other ↦ subst (IsChannel script new.plain after) (sym (at_other at other.1)) (there_channel at (channel_at channels at) refl)
                ];
              }

-- ---- somebody falls asleep, or gets up

-- a channel of whose process it is known that it lives
channel_on : (script : Script) (plain : Plain) (ts : List Sleeper) (channel : Channel) → is_alive plain.table channel.pid ≡ true
    → (channel.all_apart ≡ true → AllByRecursion (λ one. is_apart script plain one.pid channel.pid channel.fd ≡ true) ts) → IsChannel script plain ts (Some channel)
channel_on script plain [] channel alive all = tt
channel_on script plain (one ∷ ts) channel alive all = (alive, all)

-- the others
pub minded_without : (script : Script) (plain : Plain) (told : List Sleeper) (channels : List (Option Channel)) (pid : ℕ) → AreMinded script plain told channels
    → AreMinded script plain (without told pid) channels
minded_without script plain told channels pid minded = record {
  each = each_without (IsTrulyTold script plain) told pid minded.each;
  apart = each_without (KnowsChannels script plain channels) told pid minded.apart;
  known = λ place. go told (channel_at channels place) (minded.known place);
}
  where
    go : (ts : List Sleeper) (found : Option Channel) → IsChannel script plain ts found → IsChannel script plain (without ts pid) found
    go ts None known = tt
    go [] (Some channel) known = tt
    go (one ∷ ts) (Some channel) known =
        channel_on script plain (without (one ∷ ts) pid) channel known.0
        (λ all. each_without (λ t. is_apart script plain t.pid channel.pid channel.fd ≡ true) (one ∷ ts) pid (known.1 all))

-- channels of which it isn't known any more that all are apart from them
module _ (script : Script) (plain : Plain) (told : List Sleeper) (channels changed : List (Option Channel)) (minded : AreMinded script plain told channels)
    (doubts : (place : ℕ) → IsDoubted told (channel_at channels place) (channel_at changed place)) where
  knows_still : (one : Sleeper) → KnowsChannels script plain channels one → KnowsChannels script plain changed one
  knows_still one knew place = go (channel_at channels place) (channel_at changed place) (doubts place) (knew place)
    where
      go : (was found : Option Channel) → IsDoubted told was found → IsApartAt script plain one place was → IsApartAt script plain one place found
      go was None doubt apart = tt
      go was (Some channel) doubt apart = λ told_apart.
          let before : IsApartAt script plain one place (Some doubt.0) = subst (IsApartAt script plain one place) doubt.1 apart in
          ap (λ (it : Channel). is_apart script plain one.pid it.pid it.fd) doubt.2 ∙ before told_apart

  channels_still : (ts : List Sleeper) (place : ℕ) → IsChannel script plain ts (channel_at changed place)
  channels_still ts place = go (channel_at channels place) (channel_at changed place) (doubts place) (minded.known place)
    where
      alive : (list : List Sleeper) → list ≢ [] → (it : Channel) → IsChannel script plain list (Some it) → is_alive plain.table it.pid ≡ true
      alive [] some it known = absurd (some refl)
      alive (one ∷ list) some it known = known.0

      never : {X : Type 0} {b : Bool} → b ≡ true → b ≡ false → X
      never e f = cc

      go : (was found : Option Channel) → IsDoubted told was found → IsChannel script plain told was → IsChannel script plain ts found
      go was None doubt known = tt
      go was (Some channel) doubt known =
          channel_on script plain ts channel
          (ap (λ (it : Channel). is_alive plain.table it.pid) doubt.2 ∙ alive told doubt.3 doubt.0 (subst (IsChannel script plain told) doubt.1 known))
          (λ all. never all (ap (λ (it : Channel). it.all_apart) doubt.2))

  pub doubted_minded : AreMinded script plain told changed
  doubted_minded = record {
    each = minded.each;
    apart = each_map (KnowsChannels script plain channels) (KnowsChannels script plain changed) told knows_still minded.apart;
    known = channels_still told;
  }

  none_true : (n place : ℕ) → slice_get (replicate n false) place ≡ Some true → ⊥
  none_true zero place e = cc
  none_true (suc n) zero e = cc
  none_true (suc n) (suc place) e = none_true n place e

  pub lain_minded : (pid : ℕ) (blocks : Bool) → is_alive plain.table pid ≡ true → would_block script plain pid ≡ blocks
      → AreMinded script plain (with_sleeper told (lain pid blocks)) changed
  lain_minded pid blocks alive blocked = record {
    each = each_with (IsTrulyTold script plain) told (lain pid blocks) (record { alive = alive; blocks = blocked }) minded.each;
    apart =
        each_with (KnowsChannels script plain changed) told (lain pid blocks) (λ place. fresh place (channel_at changed place))
        (each_map (KnowsChannels script plain channels) (KnowsChannels script plain changed) told knows_still minded.apart);
    known = channels_still (with_sleeper told (lain pid blocks));
  }
    where
      fresh : (place : ℕ) (found : Option Channel) → IsApartAt script plain (lain pid blocks) place found
      fresh place None = tt
      fresh place (Some channel) = λ told_apart. absurd (none_true 32 place told_apart)

-- whose call was refused has come further, and sleeps no more; so it is where no lock is held
pub refused_minded : (script : Script) (world : World) (pid : ℕ) (told : List Sleeper) (channels : List (Option Channel)) → IsReached script world.plain → no_lock world.plain.files ≡ true
    → AreMinded script world.plain told channels → AreMinded script (refused_in script world pid).plain (without told pid) channels
refused_minded script world pid told channels reached free minded =
    let others = without told pid in
    carried script world.plain (with_control world.plain pid (program.after script (control_of world.plain pid) (reply.Fail ENOMEM))) others channels
    (minded_without script world.plain told channels pid minded)
    (each_map (λ one. IsTrulyTold script world.plain one × (one.pid ≢ pid))
    (λ one. StaysAsItWas script one.pid world.plain (with_control world.plain pid (program.after script (control_of world.plain pid) (reply.Fail ENOMEM)))) others
    (λ one it. came_further script world.plain pid one.pid (program.after script (control_of world.plain pid) (reply.Fail ENOMEM)) reached it.1 free)
    (each_and (IsTrulyTold script world.plain) (λ one. one.pid ≢ pid) others (each_without (IsTrulyTold script world.plain) told pid minded.each) (each_other others pid (none_without told pid))))
    (λ channel alive. record { lives = alive; target = refl })

-- a call that would block leaves the machine, and its process alive
pub stands_asleep : (script : Script) (objects : Objects) (old new : World) (pid : ℕ) (which : Call) (told : Turned) (sleepers : List Sleeper) (channels : List (Option Channel))
    → IsBehind script objects old new pid which told sleepers channels → came_of told ≡ came.Sleep → StandsAsleep script new pid sleepers channels
stands_asleep script objects old new pid which told sleepers channels behind came_is = go (is_alive old.plain.table pid) refl behind.turns
  where
    is_sleep : (t : Turned) → came_of t ≡ came.Sleep → t ≡ turned.Sleep
    is_sleep turned.Sleep e = refl
    is_sleep turned.Gone e = cc
    is_sleep (turned.Done (reply.Fail errno)) e = cc
    is_sleep (turned.Done said) e = cc
    is_sleep (turned.Part moved) e = cc
    is_sleep (turned.Ended status) e = cc

    asleep : told ≡ turned.Sleep
    asleep = is_sleep told came_is

    gone : turned.Gone ≡ turned.Sleep → ⊥
    gone e = cc

    by : (answer : Answer) → machine script old.plain pid (call_of script old.plain pid) ≡ answer → Tells answer old.plain told new.plain → is_alive old.plain.table pid ≡ true
        → StandsAsleep script new pid sleepers channels
    by Blocked is tells alive = record {
      minded = subst (λ (plain : Plain). AreMinded script plain sleepers channels) (sym tells.1) behind.minded;
      alive = ap (λ (plain : Plain). is_alive plain.table pid) tells.1 ∙ alive;
      blocks = ap (λ (plain : Plain). would_block script plain pid) tells.1 ∙ ap blocks is;
    }
    by (Done said next) is tells alive = absurd (other_than (sym tells.0 ∙ asleep))
      where
        other_than : turned.Done said ≡ turned.Sleep → ⊥
        other_than e = cc
    by (Part moved next) is tells alive = absurd (other_than (sym tells.0 ∙ asleep))
      where
        other_than : turned.Part moved ≡ turned.Sleep → ⊥
        other_than e = cc
    by (Ended status next) is tells alive = absurd (other_than (sym tells.0 ∙ asleep))
      where
        other_than : turned.Ended status ≡ turned.Sleep → ⊥
        other_than e = cc

    go : (lives : Bool) → is_alive old.plain.table pid ≡ lives → TurnsWhere lives script old pid which told new → StandsAsleep script new pid sleepers channels
    go true is answers =
        by (machine script old.plain pid (call_of script old.plain pid)) refl
        (subst (λ w. Tells (machine script old.plain pid w) old.plain told new.plain) (behind.own is) answers.answer) is
    go false is over = absurd (gone (sym over.0 ∙ asleep))

-- ---- behind a turn

-- a process with the number 0 never lives
pub alive_some : (plain : Plain) (pid : ℕ) → is_alive plain.table pid ≡ true → 0 < pid
alive_some plain zero alive = absurd (dead alive)
  where
    dead : is_alive plain.table 0 ≡ true → ⊥
    dead e = cc
alive_some plain (suc pid) alive = omega arith

-- who moved bytes was alive
pub mover_was : (script : Script) (old new : World) (pid : ℕ) (fd : ℤ) (which : Call) (told : Turned) → TurnsTo script old pid which told new
    → stirs_of false which (came_of told) ≡ Through fd → is_alive old.plain.table pid ≡ true
mover_was script old new pid fd which told turns stirs = go (is_alive old.plain.table pid) refl turns
  where
    gone : stirs_of false which (came_of turned.Gone) ≡ Through fd → ⊥
    gone e = cc

    go : (lives : Bool) → is_alive old.plain.table pid ≡ lives → TurnsWhere lives script old pid which told new → is_alive old.plain.table pid ≡ true
    go true is answers = is
    go false is over = absurd (gone (ap (λ t. stirs_of false which (came_of t)) (sym over.0) ∙ stirs))

-- a process of whose call a part was done lives
pub part_lives : (script : Script) (objects : Objects) (old new : World) (pid : ℕ) (which : Call) (told : Turned) (sleepers : List Sleeper) (channels : List (Option Channel))
    → IsBehind script objects old new pid which told sleepers channels → came.Part ≡ came_of told → is_alive new.plain.table pid ≡ true
part_lives script objects old new pid which told sleepers channels behind came_is = go (is_alive old.plain.table pid) refl behind.turns
  where
    gone : came.Part ≡ came_of turned.Gone → ⊥
    gone e = cc

    lasts : (t : Turned) → came.Part ≡ came_of t → (status : ℕ) → t ≡ turned.Ended status → ⊥
    lasts t e status is = ended (e ∙ ap came_of is)
      where
        ended : came.Part ≡ came.End → ⊥
        ended f = cc

    go : (lives : Bool) → is_alive old.plain.table pid ≡ lives → TurnsWhere lives script old pid which told new → is_alive new.plain.table pid ≡ true
    go true is answers = mover_lives script old new pid which told behind.reached behind.turns (lasts told came_is) is
    go false is over = absurd (gone (came_is ∙ ap came_of over.0))

module _ (script : Script) (objects : Objects) (old new : World) (pid : ℕ) (which : Call) (told : Turned) (sleepers : List Sleeper) (channels : List (Option Channel))
    (behind : IsBehind script objects old new pid which told sleepers channels) where
  -- the process gets up
  pub up_behind : (others : List Sleeper) (same : List (Option Channel)) → others ≡ without sleepers pid → same ≡ channels → IsBehind script objects old new pid which told others same
  up_behind others same others_are same_are = record {
    reached = behind.reached;
    minded =
        subst (λ ts. AreMinded script old.plain ts same) (sym others_are)
        (subst (AreMinded script old.plain (without sleepers pid)) (sym same_are) (minded_without script old.plain sleepers channels pid behind.minded));
    own = behind.own;
    turns = behind.turns;
    stands = behind.stands;
    reaches = behind.reaches;
  }

  module _ (up : told_of sleepers pid ≡ None) where
    by_none : no_lock new.plain.files ≡ true → stirs_of (no_fifo new.plain.files) which (came_of told) ≡ Nobody → passes_by (no_fifo new.plain.files) (no_lock new.plain.files) which told ≡ true
    by_none free stirs = subst (λ b. passes_by (no_fifo new.plain.files) b which told ≡ true) (sym free) (nobody_passes (no_fifo new.plain.files) which told stirs)

    -- nobody is stirred
    pub nobody_stirred : no_lock new.plain.files ≡ true → stirs_of (no_fifo new.plain.files) which (came_of told) ≡ Nobody → gives_number which ≡ false → AreMinded script new.plain sleepers channels
    nobody_stirred free stirs keeps =
        passed_minded script old new pid which told behind.reached behind.turns (by_none free stirs) sleepers channels behind.minded up keeps

    pub nobody_forgotten : (none : List (Option Channel)) → ((place : ℕ) → channel_at none place ≡ None) → no_lock new.plain.files ≡ true → stirs_of (no_fifo new.plain.files) which (came_of told) ≡ Nobody → AreMinded script new.plain sleepers none
    nobody_forgotten none are_none free stirs =
        minded_alone script new.plain sleepers none are_none
        (passed_truly script old new pid which told behind.reached behind.turns (by_none free stirs) sleepers channels behind.minded up)

    module _ (fd : ℤ) (stirs : stirs_of false which (came_of told) ≡ Through fd) where
      mover : is_alive old.plain.table pid ≡ true
      mover = mover_was script old new pid fd which told behind.turns stirs

      -- the process lives on, and so do those who sleep
      pub touched_lives : is_alive new.plain.table pid ≡ true
      touched_lives =
          let so = moves_so which told fd stirs in
          mover_lives script old new pid which told behind.reached behind.turns so.1 mover

      pub sleepers_live : AllByRecursion (λ sleeper. is_alive new.plain.table sleeper.pid ≡ true) sleepers
      sleepers_live =
          let so = moves_so which told fd stirs in
          each_map (λ sleeper. IsTrulyTold script old.plain sleeper × (sleeper.pid ≢ pid)) (λ sleeper. is_alive new.plain.table sleeper.pid ≡ true) sleepers
          (λ sleeper it. moved_lives script old new pid sleeper.pid fd which told behind.turns so.0 so.1 it.1 it.0.alive)
          (each_and (IsTrulyTold script old.plain) (λ sleeper. sleeper.pid ≢ pid) sleepers behind.minded.each (each_other sleepers pid up))

      pub touched_passed : no_lock new.plain.files ≡ true → (place : ℕ) → IsPassed (channel_at channels place) pid fd → AreMinded script new.plain sleepers channels
      touched_passed free place is =
          let so = moves_so which told fd stirs in
          all_passed script old new pid fd which told behind.reached behind.turns so.0 so.1 free mover sleepers channels behind.minded up place is

      pub touched_near : no_lock new.plain.files ≡ true → (place : ℕ) (near : Bool) (first : Sleeper) (rest : List Sleeper) → sleepers ≡ first ∷ rest → (middle after : List Sleeper)
          → HasBegun (channel_at channels place) pid fd place sleepers middle → AreNear script objects pid fd place middle after near → place < length channels
          → AreMinded script new.plain after (slice_set channels place (Some (record { pid = pid; fd = fd; all_apart = not near })))
      touched_near free place near first rest some middle after began asked within =
          let so = moves_so which told fd stirs in
          near_minded script old new pid fd which told behind.reached behind.turns so.0 so.1 free mover sleepers channels behind.minded up place objects behind.stands behind.reaches near first rest some middle after
          began asked within
