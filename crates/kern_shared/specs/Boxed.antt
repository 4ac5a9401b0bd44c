-- What the box around the kernel's value keeps beside it: whether a pick that asks nobody may answer, and for which items something was
-- reserved.
use Rattle.std.specs.Prelude.{◌≡◌, ℕ, ◌+◌, ◌-◌, ◌≤◌, ◌==◌, nat_le, cond, Bool, true, false, List, [], ◌∷◌, length}
use Rattle.kabi_types.specs.declared.entries.Entry.{Entry}
use Rattle.kabi_types.specs.declared.entries.Entry.TheVariants as entry
use Rattle.kabi_types.specs.declared.scripts.Script.{Script}
use Rattle.posix_defs.specs.History.{Past}
use Rattle.posix_defs.specs.Sizes.{room}
use Rattle.turn_words.specs.declared.items.Item.{Item}
use Rattle.turn_words.specs.declared.items.Item.TheVariants.{Noted, Cleared, Given, Back, Starved, Live, Quiet}
use Rattle.turn_words.specs.Items.{entry_of}
use Rattle.kern_shared.specs.declared.picks.Picked.{Picked}
use Rattle.kern_shared.specs.declared.picks.Picked.TheVariants as picked
use Rattle.kern_shared.specs.Picks.{Picks}
use Rattle.kern_shared.specs.Shared.{IsShared}

-- no process was given, though the run isn't over
abbrev pub is_idle : Picked → Bool
is_idle (picked.Run _ _) = false
is_idle picked.Idle = true
is_idle (picked.Over _) = false

-- the item changes nothing of what a value stands for
abbrev pub is_quiet : Item → Bool
is_quiet (Noted _) = false
is_quiet (Cleared _ _) = false
is_quiet (Given _) = false
is_quiet (Back _) = false
is_quiet Starved = false
is_quiet (Live _) = false
is_quiet Quiet = true

-- after these items a pick is answered Idle: the run isn't over, and no process is free
abbrev pub IsIdle : Script → ℕ → List Item → Type 0
IsIdle script steps items = (past : Past) → IsShared script steps items past → Picks script steps items past picked.Idle

-- How often something was reserved for the call that an entry answers: once for one that had its turn, or was given up; for one that was
-- refused by its bound, which the heap can never give.
abbrev pub reserved_at : Script → Entry → ℕ
reserved_at script (entry.Done _ _ _) = 1
reserved_at script (entry.Part _ _ _) = 1
reserved_at script (entry.Refused _ _ need) = cond (nat_le need (room script.heap)) 1 0
reserved_at script (entry.Slept _ _) = 1
reserved_at script (entry.Ended _ _ _) = 1
reserved_at script (entry.Gone _ _) = 1
reserved_at script (entry.Killed _ _ _ _) = 0
reserved_at script (entry.Evicted _) = 0

-- How often for an item, where so many steps are left. A call that finds none left is given back.
abbrev pub reserved_by : Script → ℕ → Item → ℕ
reserved_by script left (Noted e) = reserved_at script e
reserved_by script left (Cleared _ _) = 0
reserved_by script left (Given _) = 0
reserved_by script left (Back _) = cond (left == 0) 1 0
reserved_by script left Starved = 0
reserved_by script left (Live _) = 0
reserved_by script left Quiet = 0

-- how often for all of these items, where so many steps were left before the first
abbrev pub times_reserved : Script → ℕ → List Item → ℕ
times_reserved script left [] = 0
times_reserved script left (x ∷ items) = reserved_by script left x + times_reserved script (left - length (entry_of x)) items

-- The value behind the box stands for these items; where a pick found nobody and nothing has changed since, the next one finds nobody either;
-- and the value's charge seat has reserved, or taken in from a pass, at most what the items tell.
pub record IsBoxed {S : Type 0} (stands : S → List Item → Type 0) (script : Script) (steps : ℕ) (state : S) (idle : Bool) (reserves : ℕ) (items : List Item) : Type 0 where
  pub value : stands state items
  pub nobody : idle ≡ true → IsIdle script steps items
  pub few : reserves ≤ times_reserved script steps items
