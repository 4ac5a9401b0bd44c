-- What a pick answers, by the items so far and where they have led to.
use Rattle.std.specs.Prelude.{◌≡◌, ℕ, ◌<◌, Bool, true, false, List, length, Option, None, Some}
use Rattle.kabi_types.specs.declared.entries.End.{End}
use Rattle.kabi_types.specs.declared.entries.End.TheVariants as end
use Rattle.kabi_types.specs.declared.scripts.Script.{Script}
use Rattle.posix_defs.specs.History.{Past}
use Rattle.posix_defs.specs.Needs.{bound}
use Rattle.posix_defs.specs.Plain.{call_of}
use Rattle.posix_defs.specs.Process.{is_alive}
use Rattle.turn_words.specs.declared.items.Item.{Item}
use Rattle.turn_words.specs.declared.items.Item.TheVariants.{Given, Quiet}
use Rattle.turn_words.specs.Items.{noted}
use Rattle.kern_shared.specs.declared.picks.Picked.{Picked}
use Rattle.kern_shared.specs.declared.picks.Picked.TheVariants as picked
use Rattle.kern_shared.specs.Shared.{AllAsleep, IsOver, MayGive, Starves, has_starved, is_free}

-- a test tells whether this holds
abbrev pub Says : Bool → Type 0 → Type 0
Says true P = P
Says false P = P → ⊥

-- the first process is alive, and some live process doesn't sleep
pub record IsBusy (script : Script) (items : List Item) (past : Past) : Type 0 where
  pub alive : is_alive past.plain.table 1 ≡ true
  pub awake : AllAsleep script items past → ⊥

-- The end that stands: the first process has ended; else all that are alive sleep; else all steps are used up; else Starved was
-- answered, which the first process's need is told with. None where none of them does.
abbrev pub EndsAs : Script → ℕ → List Item → Past → Option End → Type 0
EndsAs script steps items past (Some end.Finished) = is_alive past.plain.table 1 ≡ false
EndsAs script steps items past (Some end.AllAsleep) = (is_alive past.plain.table 1 ≡ true) × AllAsleep script items past
EndsAs script steps items past (Some end.Spent) = IsBusy script items past × (length (noted items) ≡ steps)
EndsAs script steps items past (Some (end.Starved pid need)) =
    IsBusy script items past × (length (noted items) < steps) × (has_starved items ≡ true) × Starves script past × (pid ≡ 1) × (need ≡ bound (call_of script past.plain 1))
EndsAs script steps items past None = IsBusy script items past × (length (noted items) < steps) × (has_starved items ≡ false)

-- whether the run is over, and with which end
abbrev pub IsOverAs : Script → ℕ → List Item → Past → Option End → Type 0
IsOverAs script steps items past (Some which) = IsOver script steps items past × EndsAs script steps items past (Some which)
IsOverAs script steps items past None = IsOver script steps items past → ⊥

-- the lowest process that is free, if there is one
abbrev pub IsLowestFree : Script → List Item → Past → Option ℕ → Type 0
IsLowestFree script items past (Some pid) = (is_free script items past pid ≡ true) × ((other : ℕ) → other < pid → is_free script items past other ≡ false)
IsLowestFree script items past None = (pid : ℕ) → is_free script items past pid ≡ false

-- the lowest free process is given with its call; Idle where none is free and the run isn't over; Over where it is
abbrev pub Picks : Script → ℕ → List Item → Past → Picked → Type 0
Picks script steps items past (picked.Run pid call) = MayGive script steps items past pid × (call ≡ call_of script past.plain pid)
Picks script steps items past picked.Idle = (IsOver script steps items past → ⊥) × ((pid : ℕ) → is_free script items past pid ≡ false)
Picks script steps items past (picked.Over which) = IsOver script steps items past × EndsAs script steps items past (Some which)

-- the item that a pick passes on
abbrev pub picked_item : Picked → Item
picked_item (picked.Run pid _) = Given pid
picked_item picked.Idle = Quiet
picked_item (picked.Over _) = Quiet
