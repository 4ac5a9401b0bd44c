-- Shared histories: the lists of items that a kernel of several threads may have.
use Rattle.std.specs.Prelude.{◌≡◌, ℕ, ◌+◌, ◌*◌, ◌<◌, ◌≤◌, ◌==◌, ◌||◌, ◌&&◌, not, ◌⊎◌, Bool, true, false, cond, List, [], ◌∷◌, ◌++◌, length}
use Rattle.kabi_types.specs.declared.entries.Entry.{Entry}
use Rattle.kabi_types.specs.declared.entries.Entry.TheVariants as entry
use Rattle.kabi_types.specs.declared.scripts.Script.{Script}
use Rattle.kabi_types.specs.Class.{size}
use Rattle.kabi_types.specs.declared.classes.Class.TheVariants as class
use Rattle.posix_defs.specs.History.{Past, MayFollow, boot_past, is_up}
use Rattle.posix_defs.specs.Machine.{would_block}
use Rattle.posix_defs.specs.Needs.{bound}
use Rattle.posix_defs.specs.Plain.{call_of}
use Rattle.posix_defs.specs.Process.{is_alive}
use Rattle.posix_defs.specs.Sizes.{reserve, room}
use Rattle.posix_defs.specs.World.{base, pins}
use Rattle.kern_laws.specs.Sleeping.{is_of, sleeps_by}
use Rattle.turn_words.specs.declared.items.Item.{Item}
use Rattle.turn_words.specs.declared.items.Item.TheVariants.{Noted, Cleared, Given, Back, Starved, Live, Quiet}
use Rattle.turn_words.specs.Items.{is_given, noted}

-- whether a process dozes after some more entries, where it did or didn't before them: the last entry of it decides
abbrev pub dozes_after : ℕ → Bool → List Entry → Bool
dozes_after pid before [] = before
dozes_after pid before (e ∷ entries) = dozes_after pid (cond (is_of pid e) (sleeps_by pid e) before) entries

-- a process dozes: the last entry of it says that its call slept or did a part
abbrev pub dozes : ℕ → List Entry → Bool
dozes pid entries = dozes_after pid false entries

-- a process that dozes and whose call would block now
abbrev pub sleeps_on : Script → List Item → Past → ℕ → Bool
sleeps_on script items past pid = dozes pid (noted items) && would_block script past.plain pid

-- a process that may be given to a pass: it is alive, given to none, and doesn't sleep
abbrev pub is_free : Script → List Item → Past → ℕ → Bool
is_free script items past pid = is_alive past.plain.table pid && not (is_given pid items) && not (sleeps_on script items past pid)

-- no pass holds a process
abbrev pub NobodyHeld : List Item → Type 0
NobodyHeld items = (pid : ℕ) → is_given pid items ≡ false

-- a pass holds a process that is alive
abbrev pub SomeLiveHeld : List Item → Past → Type 0
SomeLiveHeld items past = (pid : ℕ) × (is_given pid items ≡ true) × (is_alive past.plain.table pid ≡ true)

-- the answer Starved was given
abbrev pub is_starved : Item → Bool
is_starved (Noted _) = false
is_starved (Cleared _ _) = false
is_starved (Given _) = false
is_starved (Back _) = false
is_starved Starved = true
is_starved (Live _) = false
is_starved Quiet = false

abbrev pub has_starved : List Item → Bool
has_starved [] = false
has_starved (x ∷ items) = is_starved x || has_starved items

-- every process that is alive sleeps
abbrev pub AllAsleep : Script → List Item → Past → Type 0
AllAsleep script items past = (pid : ℕ) → is_alive past.plain.table pid ≡ true → sleeps_on script items past pid ≡ true

-- the run is over: Starved was answered, or all steps are used up, or no pass holds a process and the first has ended or all sleep
abbrev pub IsOver : Script → ℕ → List Item → Past → Type 0
IsOver script steps items past =
    (has_starved items ≡ true) ⊎ ((length (noted items) ≡ steps) ⊎ (NobodyHeld items × ((is_alive past.plain.table 1 ≡ false) ⊎ AllAsleep script items past)))

-- the lowest process that is free, while the run isn't over
pub record MayGive (script : Script) (steps : ℕ) (items : List Item) (past : Past) (pid : ℕ) : Type 0 where
  pub free : is_free script items past pid ≡ true
  pub lowest : (other : ℕ) → other < pid → is_free script items past other ≡ false
  pub goes_on : IsOver script steps items past → ⊥

-- The first process is alone and up, and its call, which the heap might give, doesn't fit with nothing left to evict.
pub record Starves (script : Script) (past : Past) : Type 0 where
  pub alive : is_alive past.plain.table 1 ≡ true
  pub alone : (other : ℕ) → is_alive past.plain.table other ≡ true → other ≡ 1
  pub up : is_up past 1 ≡ true
  pub fits_ever : bound (call_of script past.plain 1) ≤ room script.heap
  pub too_much : script.heap < base past.plain past.account + size class.Vnode * pins past.plain + reserve + bound (call_of script past.plain 1)

-- who an entry comes from: one of a process from the pass that holds it, a kill where a live process is held. An eviction is no
-- such entry, since it comes with the live bytes before it
abbrev pub MayNote : List Item → Past → Entry → Type 0
MayNote items past (entry.Done pid _ _) = is_given pid items ≡ true
MayNote items past (entry.Part pid _ _) = is_given pid items ≡ true
MayNote items past (entry.Refused pid _ _) = is_given pid items ≡ true
MayNote items past (entry.Slept pid _) = is_given pid items ≡ true
MayNote items past (entry.Ended pid _ _) = is_given pid items ≡ true
MayNote items past (entry.Gone pid _) = is_given pid items ≡ true
MayNote items past (entry.Killed _ _ _ _) = SomeLiveHeld items past
MayNote items past (entry.Evicted _) = ⊥

-- the item may come next, and leads there
abbrev pub MayShare : Script → ℕ → List Item → Past → Item → Past → Type 0
MayShare script steps items past (Noted e) next = (length (noted items) < steps) × MayNote items past e × MayFollow script past e next
MayShare script steps items past (Cleared what live) next = (length (noted items) < steps) × SomeLiveHeld items past × MayFollow script past (entry.Evicted what) next
MayShare script steps items past (Given pid) next = MayGive script steps items past pid × (next ≡ past)
MayShare script steps items past (Back pid) next = (is_given pid items ≡ true) × (next ≡ past)
MayShare script steps items past Starved next = (is_given 1 items ≡ true) × Starves script past × (next ≡ past)
MayShare script steps items past (Live n) next = next ≡ past
MayShare script steps items past Quiet next = ⊥

-- The items of a shared run from boot, one after another, and what they have led to.
pub data IsShared (script : Script) (steps : ℕ) : List Item → Past → Type 0 where
  starts : IsShared script steps [] (boot_past script)
  goes_on : (items : List Item) (past next : Past) (added : Item) → IsShared script steps items past → MayShare script steps items past added next
      → IsShared script steps (items ++ added ∷ []) next

-- the item is the turn of a live process's call
abbrev pub is_turn : Item → Bool
is_turn (Noted (entry.Done _ _ _)) = true
is_turn (Noted (entry.Part _ _ _)) = true
is_turn (Noted (entry.Slept _ _)) = true
is_turn (Noted (entry.Ended _ _ _)) = true
is_turn _ = false

-- where Starved was answered the first process still is as it was told then
abbrev pub StarvesStill : Script → List Item → Past → Type 0
StarvesStill script items past = has_starved items ≡ true → Starves script past

-- how often an entry gives up the call of a process
abbrev pub gives_up : ℕ → Entry → Bool
gives_up pid (entry.Gone other _) = other == pid
gives_up pid _ = false

abbrev pub times_gone : ℕ → List Entry → ℕ
times_gone pid [] = 0
times_gone pid (e ∷ entries) = cond (gives_up pid e) 1 0 + times_gone pid entries
