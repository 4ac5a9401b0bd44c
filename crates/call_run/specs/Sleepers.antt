-- What the store keeps in mind of the calls that sleep.
use Rattle.std.specs.Prelude.{ℕ, ◌≡◌, ◌==◌, ◌+◌, ◌<◌, ◌≢◌, ℤ, nat_lt, not, Bool, true, false, if◌then◌else◌, List, [], ◌∷◌, Option, None, Some, slice_get, slice_index_or, slice_set, remove, replicate, filter, map}
use Rattle.std.specs.List.{AllByRecursion}
use Rattle.std.specs.Option.{option_and_then}
use Rattle.kabi_types.specs.declared.calls.Call.{Call}
use Rattle.kabi_types.specs.declared.scripts.Script.{Script}
use Rattle.machine_laws.specs.Reached.{IsReached}
use Rattle.posix_defs.specs.Machine.{would_block}
use Rattle.posix_defs.specs.Minding.{is_among}
use Rattle.posix_defs.specs.Plain.{Plain, call_of}
use Rattle.posix_defs.specs.Process.{is_alive}
use Rattle.posix_defs.specs.Turn.{TurnsTo}
use Rattle.posix_defs.specs.World.{World}
use Rattle.posix_defs.specs.declared.turner.Turned.{Turned}
use Rattle.posix_defs.specs.declared.turner.Turned.TheVariants as turned
use Rattle.store_objects.specs.Standing.{StandsFor}
use Rattle.store_objects.specs.declared.objects.Objects.{Objects}
use Rattle.waking_laws.specs.Waking.{is_apart, is_failure, moves_through, wakes_nobody}
use Rattle.call_run.specs.declared.sleepers.Came.{Came}
use Rattle.call_run.specs.declared.sleepers.Came.TheVariants as came
use Rattle.call_run.specs.declared.sleepers.Channel.{Channel}
use Rattle.call_run.specs.declared.sleepers.Sleeper.{Sleeper}
use Rattle.call_run.specs.declared.sleepers.Stirs.{Stirs}
use Rattle.call_run.specs.declared.sleepers.Stirs.TheVariants.{Nobody, Through, Everybody}

-- ---- whom a turn may have woken, or kept from going on

-- by a call that was done, or a part of it: those who wait for what it moved bytes of; nobody; or who knows whom
abbrev pub stirs_by : Option ℤ → Bool → Stirs
stirs_by (Some fd) nobody = Through fd
stirs_by None nobody = if nobody then Nobody else Everybody

-- what a turn came to: one that failed did nothing
abbrev pub came_of : Turned → Came
came_of turned.Sleep = came.Sleep
came_of turned.Gone = came.Nothing
came_of (turned.Done said) = if is_failure said then came.Nothing else came.Done
came_of (turned.Part moved) = came.Part
came_of (turned.Ended status) = came.End

-- by what the turn came to, and whether no FIFO is open behind it
abbrev pub stirs_of : Bool → Call → Came → Stirs
stirs_of no_fifo which came.Nothing = Nobody
stirs_of no_fifo which came.Sleep = Nobody
stirs_of no_fifo which came.Part = stirs_by (moves_through which) false
stirs_of no_fifo which came.Done = stirs_by (moves_through which) (wakes_nobody no_fifo which)
stirs_of no_fifo which came.End = Everybody

-- the turn left its call asleep
abbrev pub is_sleep : Turned → Bool
is_sleep turned.Sleep = true
is_sleep (turned.Part moved) = true
is_sleep _ = false

-- ---- what is told

-- what is told of a process, if anything is
abbrev pub told_of : List Sleeper → ℕ → Option Bool
told_of [] pid = None
told_of (sleeper ∷ told) pid = if sleeper.pid == pid then Some sleeper.blocks else told_of told pid

abbrev pub is_so : Option Bool → Bool
is_so (Some blocks) = blocks
is_so None = false

-- it is kept in mind of a process that its next call would block
abbrev pub is_settled : List Sleeper → ℕ → Bool
is_settled told pid = is_so (told_of told pid)

-- who is told stands by rising pid, above this one
abbrev pub AreRising : ℕ → List Sleeper → Type 0
AreRising least [] = Unit {0}
AreRising least (sleeper ∷ told) = (least < sleeper.pid) × AreRising sleeper.pid told

-- how many of them are below a pid: where a process stands, or would
abbrev pub place_in : List Sleeper → ℕ → ℕ
place_in [] pid = 0
place_in (sleeper ∷ told) pid = if nat_lt sleeper.pid pid then place_in told pid + 1 else 0

abbrev pub is_at : Option Sleeper → ℕ → Bool
is_at None pid = false
is_at (Some sleeper) pid = sleeper.pid == pid

-- a process stands at a place
abbrev pub stands_in : List Sleeper → ℕ → ℕ → Bool
stands_in told place pid = is_at (slice_get told place) pid

-- the others
abbrev pub without : List Sleeper → ℕ → List Sleeper
without told pid = filter (λ sleeper. not (sleeper.pid == pid)) told

-- who falls asleep isn't told to be apart from anything
abbrev pub lain : ℕ → Bool → Sleeper
lain pid blocks = record { pid = pid; blocks = blocks; apart = replicate 32 false }

-- among those who rise by pid one more
abbrev pub with_sleeper : List Sleeper → Sleeper → List Sleeper
with_sleeper [] new = new ∷ []
with_sleeper (sleeper ∷ told) new = if nat_lt sleeper.pid new.pid then sleeper ∷ with_sleeper told new else new ∷ sleeper ∷ told

-- ---- who is named

-- Beside those who were named each is of whom it is kept in mind anew, or no more, that his call would block.
abbrev pub NamesMore : List Sleeper → List ℕ → List Sleeper → List ℕ → Type 0
NamesMore old named new more = (who : ℕ) → is_among more who ≡ false → (is_among named who ≡ false) × (is_settled new who ≡ is_settled old who)

-- the same of one sleeper
abbrev pub NamesOne : List ℕ → Sleeper → Sleeper → List ℕ → Type 0
NamesOne named old new more = (who : ℕ) → is_among more who ≡ false → (is_among named who ≡ false) × (who ≡ old.pid → new.blocks ≡ old.blocks)

-- of whom nothing was told nothing is
abbrev pub AreFewer : List Sleeper → List Sleeper → Type 0
AreFewer old new = (who : ℕ) → told_of old who ≡ None → told_of new who ≡ None

-- ---- channels

-- the channel of a place, if there is one
abbrev pub channel_at : List (Option Channel) → ℕ → Option Channel
channel_at channels place = option_and_then (λ channel. channel) (slice_get channels place)

-- it is that of this number of this process
pub record IsOf (channel : Option Channel) (pid : ℕ) (fd : ℤ) : Type 0 where
  pub it : Channel
  pub there : channel ≡ Some it
  pub same_pid : it.pid ≡ pid
  pub same_fd : it.fd ≡ fd

-- it is told of the sleeper that he is apart from what stands at this place
abbrev pub IsToldApart : Sleeper → ℕ → Type 0
IsToldApart sleeper place = slice_get sleeper.apart place ≡ Some true

-- It is that of this number of this process, and all sleepers are told to be apart from it.
pub record IsPassed (channel : Option Channel) (pid : ℕ) (fd : ℤ) : Type 0 where
  pub it : Channel
  pub there : channel ≡ Some it
  pub same_pid : it.pid ≡ pid
  pub same_fd : it.fd ≡ fd
  pub all_apart : it.all_apart ≡ true

-- the same channel, but that it isn't told to have all apart from it
abbrev pub doubted : Option Channel → Option Channel
doubted None = None
doubted (Some channel) = Some (record channel { all_apart = false })

-- it isn't told of the sleeper that he is apart from what stands at this place
abbrev pub begun : ℕ → Sleeper → Sleeper
begun place sleeper = record sleeper { apart = slice_set sleeper.apart place false }

-- there is no such channel, or what the sleeper waits for has nothing to do with what its number is open on, where that is told
abbrev pub IsApartAt : Script → Plain → Sleeper → ℕ → Option Channel → Type 0
IsApartAt script plain sleeper place None = Unit {0}
IsApartAt script plain sleeper place (Some channel) =
    IsToldApart sleeper place → is_apart script plain sleeper.pid channel.pid channel.fd ≡ true

-- Where somebody sleeps a channel's process is alive, and all are apart from it where that is told.
abbrev pub IsChannel : Script → Plain → List Sleeper → Option Channel → Type 0
IsChannel script plain told None = Unit {0}
IsChannel script plain [] (Some channel) = Unit {0}
IsChannel script plain (sleeper ∷ told) (Some channel) =
    (is_alive plain.table channel.pid ≡ true)
    × (channel.all_apart ≡ true → AllByRecursion (λ one. is_apart script plain one.pid channel.pid channel.fd ≡ true) (sleeper ∷ told))

-- ---- what is known of sleepers is what the machine says

-- A sleeper is alive, and his next call would block exactly where that is told.
pub record IsTrulyTold (script : Script) (plain : Plain) (sleeper : Sleeper) : Type 0 where
  pub alive : is_alive plain.table sleeper.pid ≡ true
  pub blocks : would_block script plain sleeper.pid ≡ sleeper.blocks

-- he is apart from what he is told to be apart from
abbrev pub KnowsChannels : Script → Plain → List (Option Channel) → Sleeper → Type 0
KnowsChannels script plain channels sleeper = (place : ℕ) → IsApartAt script plain sleeper place (channel_at channels place)

pub record AreMinded (script : Script) (plain : Plain) (told : List Sleeper) (channels : List (Option Channel)) : Type 0 where
  pub each : AllByRecursion (IsTrulyTold script plain) told
  pub apart : AllByRecursion (KnowsChannels script plain channels) told
  pub known : (place : ℕ) → IsChannel script plain told (channel_at channels place)

-- so it is in every world that the objects stand for
abbrev pub AreTrulyTold : Script → Objects → List Sleeper → Type 0
AreTrulyTold script objects told = (world : World) → StandsFor script objects world → IsReached script world.plain → AllByRecursion (IsTrulyTold script world.plain) told

-- Sleepers stand by rising pid, and where none may be open there is no channel.
pub record AreKeptAsleep (told : List Sleeper) (channels : List (Option Channel)) (is_open : Bool) : Type 0 where
  pub rising : AreRising 0 told
  pub closed : is_open ≡ false → (place : ℕ) → channel_at channels place ≡ None

-- ---- what changes

-- any sleeper
abbrev pub any_sleeper : Sleeper
any_sleeper = lain 0 false

-- Who stands at a place was asked again, and lives; or he has ended, and is forgotten.
pub data IsLookedAt (script : Script) (objects : Objects) (old : List Sleeper) (place : ℕ) : List Sleeper → Type 0 where
  is_asked : (sleeper : Sleeper) → sleeper.pid ≡ (slice_index_or old place any_sleeper).pid
      → ((world : World) → StandsFor script objects world → IsReached script world.plain → IsTrulyTold script world.plain sleeper) → IsLookedAt script objects old place (slice_set old place sleeper)
  is_gone : IsLookedAt script objects old place (remove old place)

-- A sleeper is told to be apart from the channel at this place, or learns it; or he was asked again.
pub data IsNear (script : Script) (objects : Objects) (pid : ℕ) (fd : ℤ) (channel : ℕ) : Sleeper → Sleeper → Bool → Type 0 where
  is_known : (sleeper : Sleeper) → IsToldApart sleeper channel → IsNear script objects pid fd channel sleeper sleeper false
  is_learned : (sleeper : Sleeper)
      → ((world : World) → StandsFor script objects world → is_alive world.plain.table sleeper.pid ≡ true → is_apart script world.plain sleeper.pid pid fd ≡ true)
      → IsNear script objects pid fd channel sleeper (record sleeper { apart = slice_set sleeper.apart channel true }) false
  is_near : (sleeper : Sleeper) (blocks : Bool) → (IsToldApart sleeper channel → ⊥)
      → ((world : World) → StandsFor script objects world → IsReached script world.plain → is_alive world.plain.table sleeper.pid ≡ true → would_block script world.plain sleeper.pid ≡ blocks)
      → IsNear script objects pid fd channel sleeper (record sleeper { blocks = blocks }) true

-- so it is of all, and none was asked again, unless that is said
abbrev pub AreNear : Script → Objects → ℕ → ℤ → ℕ → List Sleeper → List Sleeper → Bool → Type 0
AreNear script objects pid fd channel [] [] near = Unit {0}
AreNear script objects pid fd channel (old ∷ olds) (new ∷ news) near =
    ((one : Bool) × IsNear script objects pid fd channel old new one × (one ≡ true → near ≡ true)) × AreNear script objects pid fd channel olds news near
AreNear script objects pid fd channel _ _ near = ⊥

-- The channel at a place is that of a number, or it isn't told of anybody that he is apart from it.
pub data HasBegun (channel : Option Channel) (pid : ℕ) (fd : ℤ) (place : ℕ) (old : List Sleeper) : List Sleeper → Type 0 where
  has_stood : IsOf channel pid fd → HasBegun channel pid fd place old old
  is_anew : HasBegun channel pid fd place old (map (begun place) old)

-- it is gone; or it is the same, but that it isn't told to have all apart from it, and somebody slept
abbrev pub IsDoubted : List Sleeper → Option Channel → Option Channel → Type 0
IsDoubted told old None = Unit {0}
IsDoubted told old (Some new) = (channel : Channel) × (old ≡ Some channel) × (new ≡ record channel { all_apart = false }) × (told ≢ [])

-- What is kept in mind is so of a world, in which a process's next call would block.
pub record StandsAsleep (script : Script) (world : World) (pid : ℕ) (told : List Sleeper) (channels : List (Option Channel)) : Type 0 where
  pub minded : AreMinded script world.plain told channels
  pub alive : is_alive world.plain.table pid ≡ true
  pub blocks : would_block script world.plain pid ≡ true

-- The objects stand for a world to which a turn has led from one of which what is kept in mind was so.
pub record IsBehind (script : Script) (objects : Objects) (old new : World) (pid : ℕ) (call : Call) (told : Turned) (sleepers : List Sleeper) (channels : List (Option Channel)) : Type 0 where
  pub reached : IsReached script old.plain
  pub minded : AreMinded script old.plain sleepers channels
  -- who is alive makes the call at which he stands
  pub own : is_alive old.plain.table pid ≡ true → call ≡ call_of script old.plain pid
  pub turns : TurnsTo script old pid call told new
  pub stands : StandsFor script objects new
  pub reaches : IsReached script new.plain
