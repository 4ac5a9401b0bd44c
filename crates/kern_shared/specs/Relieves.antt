-- How calls that wait are helped in a shared run, by the items so far, where they have led to, and the charge word.
use Rattle.std.specs.Prelude.{◌≡◌, ◌≢◌, ℕ, ◌+◌, ◌*◌, ◌<◌, ◌≤◌, true, List, length}
use Rattle.kabi_types.specs.declared.entries.Entry.TheVariants as entry
use Rattle.kabi_types.specs.declared.scripts.Script.{Script}
use Rattle.kabi_types.specs.Class.{size}
use Rattle.kabi_types.specs.declared.classes.Class.TheVariants as class
use Rattle.kern_events.specs.declared.reliefs.Relief.{Relief}
use Rattle.kern_events.specs.declared.reliefs.Relief.TheVariants as relief
use Rattle.posix_defs.specs.History.{Past}
use Rattle.posix_defs.specs.Needs.{bound}
use Rattle.posix_defs.specs.Plain.{call_of}
use Rattle.posix_defs.specs.Process.{is_alive}
use Rattle.posix_defs.specs.Sizes.{reserve, room}
use Rattle.posix_defs.specs.World.{base, pins}
use Rattle.turn_words.specs.declared.items.Item.{Item}
use Rattle.turn_words.specs.declared.items.Item.TheVariants.{Noted, Cleared, Starved, Live, Quiet}
use Rattle.turn_words.specs.Items.{is_given, noted}

-- A pass holds the process, and the heap might give its call.
pub record IsAsked (script : Script) (items : List Item) (past : Past) (pid : ℕ) : Type 0 where
  pub given : is_given pid items ≡ true
  pub fits_ever : bound (call_of script past.plain pid) ≤ room script.heap

-- such a call of a live process waits
abbrev pub Waits : Script → List Item → Past → ℕ → Type 0
Waits script items past pid = IsAsked script items past pid × (is_alive past.plain.table pid ≡ true)

-- and such a call, of a live process or of one that has ended, fits beside what is charged
abbrev pub IsFitting : Script → List Item → Past → ℕ → ℕ → Type 0
IsFitting script items past word pid = IsAsked script items past pid × (word + bound (call_of script past.plain pid) ≤ script.heap)

-- Some call waits, and none fits, while steps are left.
pub record IsStuck (script : Script) (steps : ℕ) (items : List Item) (past : Past) (word : ℕ) : Type 0 where
  pub below : length (noted items) < steps
  pub waits : (pid : ℕ) × Waits script items past pid
  pub unfit : (pid : ℕ) → IsFitting script items past word pid → ⊥

-- A call of a live process that waits and doesn't fit beside what is live, while steps are left.
pub record WaitsInVain (script : Script) (steps : ℕ) (items : List Item) (past : Past) (waiter need live : ℕ) : Type 0 where
  pub below : length (noted items) < steps
  pub waits : Waits script items past waiter
  pub is_need : need ≡ bound (call_of script past.plain waiter)
  pub full : script.heap < live + reserve + need

-- the lowest that waits
abbrev pub IsFirst : Script → List Item → Past → ℕ → Type 0
IsFirst script items past pid = Waits script items past pid × ((other : ℕ) → other < pid → Waits script items past other → ⊥)

-- The first case that holds, with the word, and the item that is passed on. Spent where all steps are used up; NoneWaiting where no
-- call waits; Fits with the lowest call that fits; Outstanding where more is charged than what is live and the reserve; else
-- something goes from a cache, the victim is killed for the lowest call that waits, or nothing helps the first process.
abbrev pub Relieves : Script → ℕ → List Item → Past → ℕ → Relief → Item → Type 0
Relieves script steps items past word relief.Spent x = (length (noted items) ≡ steps) × (x ≡ Quiet)
Relieves script steps items past word relief.NoneWaiting x = (length (noted items) < steps) × ((pid : ℕ) → Waits script items past pid → ⊥) × (x ≡ Quiet)
Relieves script steps items past word (relief.Fits pid) x =
    (length (noted items) < steps) × ((other : ℕ) × Waits script items past other) × IsFitting script items past word pid
    × ((other : ℕ) → other < pid → IsFitting script items past word other → ⊥) × (x ≡ Quiet)
Relieves script steps items past word (relief.Outstanding charged live) x =
    IsStuck script steps items past word × (charged ≡ word) × (word ≢ live + reserve) × (x ≡ Live live)
Relieves script steps items past word (relief.Evicted what) x =
    IsStuck script steps items past word × ((live : ℕ) × (word ≡ live + reserve) × (x ≡ Cleared what live))
Relieves script steps items past word (relief.Killed pid) x =
    IsStuck script steps items past word
    × ((waiter : ℕ) × (need : ℕ) × (live : ℕ) × IsFirst script items past waiter × (word ≡ live + reserve) × (x ≡ Noted (entry.Killed pid waiter need live)))
Relieves script steps items past word relief.Starved x =
    IsStuck script steps items past word × (word ≡ base past.plain past.account + size class.Vnode * pins past.plain + reserve) × (x ≡ Starved)

-- what frees heap for a call that waits in vain, and the item that is passed on
abbrev pub Frees : Past → ℕ → ℕ → ℕ → Relief → Item → Type 0
Frees past waiter need live (relief.Evicted what) x = x ≡ Cleared what live
Frees past waiter need live (relief.Killed pid) x = x ≡ Noted (entry.Killed pid waiter need live)
Frees past waiter need live relief.Starved x = (live ≡ base past.plain past.account + size class.Vnode * pins past.plain) × (x ≡ Starved)
Frees past waiter need live _ x = ⊥
