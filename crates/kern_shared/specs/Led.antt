-- How a store goes through the entries of a history: each leads it from a world to one that its definition allows.
use Rattle.std.specs.Prelude.{ℕ, ◌≡◌, List, [], ◌∷◌, ◌++◌}
use Rattle.kabi_types.specs.declared.calls.Call.{Call}
use Rattle.kabi_types.specs.declared.entries.Entry.{Entry}
use Rattle.kabi_types.specs.declared.entries.Entry.TheVariants as entry
use Rattle.kabi_types.specs.declared.scripts.Script.{Script}
use Rattle.posix_defs.specs.declared.turner.Turned.{Turned}
use Rattle.posix_defs.specs.declared.turner.Turned.TheVariants as turned
use Rattle.posix_defs.specs.Plain.{call_of}
use Rattle.posix_defs.specs.Relief.{Evicts, Kills, refused_in}
use Rattle.posix_defs.specs.Turn.{TurnsTo}
use Rattle.posix_defs.specs.World.{World, boot_world}

-- A process's own call had a turn, of which this was told: the world went on as a turn may leave it, and what a turn says beside worlds
-- is so of the store before it and the one after it.
pub record TurnsOver {T : Type 0} (beside : T → ℕ → Call → Turned → T → Type 0) (script : Script) (old : World) (before : T) (pid : ℕ) (told : Turned) (new : World) (after : T) : Type 0 where
  pub turns : TurnsTo script old pid (call_of script old.plain pid) told new
  pub says : beside before pid (call_of script old.plain pid) told after

-- what an entry does to a world and to the store that stands for it: a turn, a refusal, a kill or an eviction, and nothing where the call
-- of a process that has ended is given up
abbrev pub Leads : {T : Type 0} → (T → ℕ → Call → Turned → T → Type 0) → Script → World → T → Entry → World → T → Type 0
Leads beside script old before (entry.Done pid _ reply) new after = TurnsOver beside script old before pid (turned.Done reply) new after
Leads beside script old before (entry.Part pid _ moved) new after = TurnsOver beside script old before pid (turned.Part moved) new after
Leads beside script old before (entry.Refused pid _ _) new after = new ≡ refused_in script old pid
Leads beside script old before (entry.Slept pid _) new after = TurnsOver beside script old before pid turned.Sleep new after
Leads beside script old before (entry.Ended pid _ status) new after = TurnsOver beside script old before pid (turned.Ended status) new after
Leads beside script old before (entry.Gone _ _) new after = (new ≡ old) × (after ≡ before)
Leads beside script old before (entry.Killed pid _ _ _) new after = Kills old pid new
Leads beside script old before (entry.Evicted what) new after = Evicts old what new

-- The entries from boot, the world that they lead to, and the store then. After each entry the store stands for the world that the entry
-- leads to, and between two entries neither changes.
pub data IsLed {T : Type 0} (stands_for : T → World → Type 0) (beside : T → ℕ → Call → Turned → T → Type 0) (script : Script) : List Entry → World → T → Type 0 where
  starts : (store : T) → stands_for store (boot_world script) → IsLed stands_for beside script [] (boot_world script) store
  goes_on : (entries : List Entry) (old new : World) (before after : T) (e : Entry) → IsLed stands_for beside script entries old before
      → Leads beside script old before e new after → stands_for after new → IsLed stands_for beside script (entries ++ e ∷ []) new after
