-- What the laws of shared histories say.
use Rattle.std.specs.Prelude.{◌≡◌, ℕ, ◌+◌, ◌<◌, ◌≤◌, true, false, List, [], ◌∷◌, ◌++◌, length}
use Rattle.kabi_types.specs.declared.scripts.Script.{Script}
use Rattle.posix_defs.specs.History.{Past, IsRun, is_among, is_up}
use Rattle.posix_defs.specs.Needs.{bound}
use Rattle.posix_defs.specs.Plain.{call_of, control_of, last_pid}
use Rattle.posix_defs.specs.Process.{is_alive}
use Rattle.posix_defs.specs.Sizes.{reserve}
use Rattle.posix_defs.specs.World.{World, MayKeep, live_of}
use Rattle.turn_words.specs.declared.items.Item.{Item}
use Rattle.turn_words.specs.Items.{is_given, noted}
use Rattle.kern_shared.specs.Shared.{IsOver, IsShared, MayShare, StarvesStill, has_starved, is_turn, times_gone}

-- what holds of every shared history and of where it has led
abbrev pub OfEach : (Script → ℕ → List Item → Past → Type 0) → Type 0
OfEach Holds = (script : Script) (steps : ℕ) (items : List Item) (past : Past) → IsShared script steps items past → Holds script steps items past

-- what holds of every item that may come next
abbrev pub OfNext : (Script → ℕ → List Item → Past → Item → Past → Type 0) → Type 0
OfNext Holds =
    (script : Script) (steps : ℕ) (items : List Item) (past next : Past) (added : Item) → IsShared script steps items past
    → MayShare script steps items past added next → Holds script steps items past added next

abbrev pub EntriesAreARun : Type 0
EntriesAreARun = OfEach (λ script steps items past. IsRun script (noted items) past × (length (noted items) ≤ steps))

abbrev pub HeldAreUp : Type 0
HeldAreUp = OfEach (λ script steps items past. (pid : ℕ) → is_given pid items ≡ true → is_up past pid ≡ true)

abbrev pub HeldWereMade : Type 0
HeldWereMade = OfEach (λ script steps items past. (pid : ℕ) → is_given pid items ≡ true → (0 < pid) × (pid ≤ last_pid past.plain))

abbrev pub ControlsStand : Type 0
ControlsStand = OfNext (λ script steps items past added next.
    (pid : ℕ) → is_given pid items ≡ true → is_given pid (items ++ added ∷ []) ≡ true → control_of next.plain pid ≡ control_of past.plain pid)

abbrev pub HeldAreNotGivenUp : Type 0
HeldAreNotGivenUp = OfEach (λ script steps items past. (pid : ℕ) → is_given pid items ≡ true → is_among pid past.gone ≡ false)

abbrev pub GivenUpOnce : Type 0
GivenUpOnce = OfEach (λ script steps items past. (pid : ℕ) → times_gone pid (noted items) ≤ 1)

abbrev pub OverStaysOver : Type 0
OverStaysOver = OfNext (λ script steps items past added next. IsOver script steps items past → IsOver script steps (items ++ added ∷ []) next)

-- at boot, and behind each item, if it isn't a turn behind a Starved
abbrev pub StarvedStands : Type 0
StarvedStands = OfNext (λ script steps items past added next.
    (is_turn added ≡ true → has_starved items ≡ false) → StarvesStill script items past → StarvesStill script (items ++ added ∷ []) next)

-- a live process's call with its bound beside all live bytes within the heap
abbrev pub NoRoomWhereStarved : Type 0
NoRoomWhereStarved =
    (script : Script) (items : List Item) (past : Past) (world : World) (pid : ℕ) → StarvesStill script items past
    → world.plain ≡ past.plain → world.account ≡ past.account → MayKeep world.plain world.kept → is_alive past.plain.table pid ≡ true
    → live_of world + reserve + bound (call_of script past.plain pid) ≤ script.heap → has_starved items ≡ false
