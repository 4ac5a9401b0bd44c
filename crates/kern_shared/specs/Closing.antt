-- What is left of a shared kernel that is closed, and what its passes are then.
use Rattle.std.specs.Prelude.{◌≡◌, ℕ, ◌+◌, ◌≤◌, true, false, List, [], ◌∷◌, ◌++◌, Option}
use Rattle.atomic_table.specs.Seated.{TableId}
use Rattle.kabi_types.specs.declared.calls.Call.{Call}
use Rattle.kabi_types.specs.declared.entries.End.{End}
use Rattle.kabi_types.specs.declared.entries.Entry.{Entry}
use Rattle.kabi_types.specs.declared.scripts.Script.{Script}
use Rattle.posix_defs.specs.declared.turner.Turned.{Turned}
use Rattle.posix_defs.specs.History.{Past}
use Rattle.posix_defs.specs.Licence.{can_evict_any}
use Rattle.posix_defs.specs.Sizes.{reserve}
use Rattle.posix_defs.specs.World.{MayKeep, World, live_of}
use Rattle.charge_words.specs.Names.{ChargeWord, SeatState as ChargeState}
use Rattle.turn_words.specs.declared.items.Item.{Item}
use Rattle.turn_words.specs.Items.{noted}
use Rattle.turn_words.specs.Seats.{SeatState as TurnState}
use Rattle.kern_shared.specs.Attends.{IsUnused}
use Rattle.kern_shared.specs.Led.{IsLed}
use Rattle.kern_shared.specs.Picks.{EndsAs}
use Rattle.kern_shared.specs.Shared.{has_starved}

-- a turn seat of these turns, which has no ticket
pub record IsFree {T : Type 0} (turns : TableId) (turn : TurnState T) : Type 0 where
  pub of_turns : turn.turns ≡ turns
  pub free : turn.known.has_ticket ≡ false

-- the seat of `boot`, which counts so many others
pub record IsFirst {T : Type 0} (others : ℕ) (turn : TurnState T) : Type 0 where
  pub boot : turn.known.is_boot ≡ true
  pub counts : turn.known.others ≡ others

-- a charge seat of this word, which holds nothing and has reserved nothing
pub record IsEmpty (charge : ChargeWord) (own : ChargeState) : Type 0 where
  pub of_charge : own.charge ≡ charge
  pub empty : own.known.holds ≡ 0
  pub unused : IsUnused own.known

-- there is a last one, and this holds of it and of those before it
abbrev pub HasLast : {X : Type 0} → (List X → X → Type 0) → List X → Type 0
HasLast {X} Holds all = (others : List X) × (last : X) × (all ≡ others ++ last ∷ []) × Holds others last

module _ {T : Type 0} (stands_for : T → World → Type 0) (script_of : T → Script) (beside : T → ℕ → Call → Turned → T → Type 0) where
  -- The history is the entries of these items, the end is the one that they lead to, if they do, and the store went through them and
  -- stands for where they have led. What is charged is what is live in it and the reserve, and lies within the heap. Where Starved was answered nothing is kept
  -- that can be evicted.
  pub record Closes (script : Script) (steps : ℕ) (items : List Item) (past : Past) (entries : List Entry) (end : Option End) (bytes : ℕ) (store : T) : Type 0 where
    pub history : entries ≡ noted items
    pub ends : EndsAs script steps items past end
    pub named : script_of store ≡ script
    pub world : World
    pub stands : stands_for store world
    pub led : IsLed stands_for beside script entries world store
    pub plain : world.plain ≡ past.plain
    pub account : world.account ≡ past.account
    pub may_keep : MayKeep world.plain world.kept
    pub charged : bytes ≡ live_of world + reserve
    pub within : bytes ≤ script.heap
    pub bare : has_starved items ≡ true → can_evict_any world ≡ false
