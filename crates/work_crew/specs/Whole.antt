-- What came of a whole run by workers.
use Rattle.std.specs.Prelude.{◌≡◌, ℕ, ◌≤◌, ◌&&◌, true, false, List, length, Some}
use Rattle.kabi_types.specs.declared.calls.Call.{Call}
use Rattle.kabi_types.specs.declared.entries.End.{End}
use Rattle.kabi_types.specs.declared.entries.End.TheVariants as end
use Rattle.kabi_types.specs.declared.entries.Entry.{Entry}
use Rattle.kabi_types.specs.declared.scripts.Script.{Script}
use Rattle.posix_defs.specs.declared.turner.Turned.{Turned}
use Rattle.posix_defs.specs.History.{IsRun, Past}
use Rattle.posix_defs.specs.Machine.{would_block}
use Rattle.posix_defs.specs.Needs.{bound}
use Rattle.posix_defs.specs.Plain.{call_of}
use Rattle.posix_defs.specs.Process.{is_alive}
use Rattle.posix_defs.specs.World.{World}
use Rattle.turn_words.specs.declared.items.Item.{Item}
use Rattle.kern_shared.specs.Closing.{Closes}
use Rattle.kern_shared.specs.Shared.{IsOver, IsShared, Starves, dozes}

-- An end that a closed history allows, by its entries and by where they have led. Finished, and no other, where the first process has
-- ended; AllAsleep where of every live process the last entry says that its call slept or did a part, and the call would block; Starved
-- where the first process is alone with a call that doesn't fit with nothing left to evict; Spent where all steps are used up.
abbrev pub MayEnd : Script → ℕ → List Entry → Past → End → Type 0
MayEnd script steps entries past end.Finished = is_alive past.plain.table 1 ≡ false
MayEnd script steps entries past end.AllAsleep =
    (is_alive past.plain.table 1 ≡ true) × ((pid : ℕ) → is_alive past.plain.table pid ≡ true → (dozes pid entries && would_block script past.plain pid) ≡ true)
MayEnd script steps entries past (end.Starved pid need) = (pid ≡ 1) × (need ≡ bound (call_of script past.plain 1)) × Starves script past
MayEnd script steps entries past end.Spent = (is_alive past.plain.table 1 ≡ true) × (length entries ≡ steps)

module _ {T : Type 0} (stands_for : T → World → Type 0) (script_of : T → Script) (beside : T → ℕ → Call → Turned → T → Type 0) where
  -- The entries are a legal history of the machine, of at most so many steps, and the end is one that they allow. They are what a
  -- shared history notes that is over; the store went through it and stands for where it has led, and what is charged is what is live
  -- there and the reserve.
  pub record IsWhole (script : Script) (steps : ℕ) (entries : List Entry) (end : End) (bytes : ℕ) (store : T) : Type 0 where
    pub items : List Item
    pub past : Past
    pub shared : IsShared script steps items past
    pub over : IsOver script steps items past
    pub closes : Closes stands_for script_of beside script steps items past entries (Some end) bytes store
    pub run : IsRun script entries past
    pub few : length entries ≤ steps
    pub allowed : MayEnd script steps entries past end
