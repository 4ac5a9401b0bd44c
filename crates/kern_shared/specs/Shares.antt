-- What the kernel's value keeps of a shared run, and when it stands for a list of items.
use Rattle.std.specs.Prelude.{◌≡◌, ℕ, ◌+◌, ◌<◌, ◌≤◌, ◌==◌, ◌&&◌, not, Bool, true, false, List, [], ◌∷◌, ◌++◌, filter, length, map, Some}
use Rattle.std.specs.List.{AllByRecursion}
use Rattle.kabi_types.specs.declared.calls.Call.{Call}
use Rattle.kabi_types.specs.declared.entries.Cached.{Cached}
use Rattle.kabi_types.specs.declared.entries.Cached.TheVariants as cached
use Rattle.kabi_types.specs.Call.{kind_of}
use Rattle.kabi_types.specs.declared.entries.Entry.{Entry}
use Rattle.kabi_types.specs.declared.entries.Entry.TheVariants as entry
use Rattle.kabi_types.specs.declared.scripts.Script.{Script}
use Rattle.kabi_types.specs.Class.{size}
use Rattle.kabi_types.specs.declared.classes.Class.{Class}
use Rattle.kabi_types.specs.declared.classes.Class.TheVariants as class
use Rattle.posix_defs.specs.declared.turner.Turned.{Turned}
use Rattle.posix_defs.specs.CoreEvent.{entry_of, refusal}
use Rattle.posix_defs.specs.CoreState.{asked_by}
use Rattle.posix_defs.specs.History.{Past, is_among}
use Rattle.posix_defs.specs.Licence.{can_evict_any}
use Rattle.posix_defs.specs.Needs.{bound}
use Rattle.posix_defs.specs.Plain.{Plain, call_of}
use Rattle.posix_defs.specs.Process.{is_alive}
use Rattle.posix_defs.specs.Relief.{Evicts, Kills, refused_in}
use Rattle.posix_defs.specs.Sizes.{fixed, reserve, room}
use Rattle.posix_defs.specs.Turn.{TurnsTo}
use Rattle.posix_defs.specs.Victim.{victim_of}
use Rattle.posix_defs.specs.World.{AreOnce, World, MayKeep, boot_world, can_evict, live_of}
use Rattle.kern_laws.specs.Filled.{AreFilled}
use Rattle.charge_words.specs.Names.{ChargeWord, SeatState}
use Rattle.turn_words.specs.declared.items.Item.{Item}
use Rattle.turn_words.specs.declared.items.Item.TheVariants.{Noted, Cleared, Given, Back, Starved, Live, Quiet}
use Rattle.turn_words.specs.Items.{is_given, noted}
use Rattle.kern_shared.specs.declared.held.Held.{Held}
use Rattle.kern_shared.specs.Led.{IsLed}
use Rattle.kern_shared.specs.Shared.{IsShared, MayGive, SomeLiveHeld, Starves, StarvesStill, dozes, has_starved}

-- the last of the items, or this where there is none
abbrev pub last_of : Item → List Item → Item
last_of x [] = x
last_of x (y ∷ items) = last_of y items

-- the class of what a cache keeps
abbrev pub class_of : Cached → Class
class_of cached.Name = class.Name
class_of cached.Block = class.Block
class_of cached.Vnode = class.Vnode

-- the caches that are emptied before this one keep nothing that may go
abbrev pub NothingBefore : World → Cached → Type 0
NothingBefore world cached.Name = Unit {0}
NothingBefore world cached.Block = can_evict world.plain world.kept cached.Name ≡ false
NothingBefore world cached.Vnode = (can_evict world.plain world.kept cached.Name ≡ false) × (can_evict world.plain world.kept cached.Block ≡ false)

-- what an item tells of the world behind it: Live its live bytes; Cleared those before it, and that the caches were emptied in order
abbrev pub IsTold : World → Item → Type 0
IsTold world (Live n) = live_of world ≡ n
IsTold world (Cleared what live) = (live_of world + size (class_of what) ≡ live) × NothingBefore world what
IsTold world _ = Unit {0}

-- The kernel's value: the store, the charge seat of what is live, how many entries there may be, the heap, the entries so far, the
-- processes that passes hold, the live processes that don't doze and those that do, and whether Starved was answered; and what there is room
-- for in each of the lists.
pub record KernelValue (T : Type 0) : Type 0 where
  pub store : T
  pub seat : SeatState
  pub steps : ℕ
  pub heap : ℕ
  pub history : List Entry
  pub held : List Held
  pub awake : List ℕ
  pub dozing : List ℕ
  pub starved : Bool
  pub entry_room : ℕ
  pub held_room : ℕ
  pub awake_room : ℕ
  pub dozing_room : ℕ

-- the pids of those that passes hold
abbrev pub pids_of : List Held → List ℕ
pids_of held = map (λ (h : Held). h.pid) held

-- those of other processes
abbrev pub without : ℕ → List Held → List Held
without pid held = filter (λ (h : Held). not (h.pid == pid)) held

-- who is held, once each, and what each one's call needs
pub record AreHeld (script : Script) (plain : Plain) (held : List Held) (items : List Item) : Type 0 where
  pub pids : (pid : ℕ) → is_among pid (pids_of held) ≡ is_given pid items
  pub once : AreOnce (pids_of held)
  pub bounds : AllByRecursion (λ (h : Held). h.bound ≡ bound (call_of script plain h.pid)) held

-- the live processes, once each: those that don't doze, and those that do
pub record ArePresent (plain : Plain) (awake dozing : List ℕ) (entries : List Entry) : Type 0 where
  pub awake_are : (pid : ℕ) → is_among pid awake ≡ (is_alive plain.table pid && not (dozes pid entries))
  pub dozing_are : (pid : ℕ) → is_among pid dozing ≡ (is_alive plain.table pid && dozes pid entries)
  pub awake_once : AreOnce awake
  pub dozing_once : AreOnce dozing

-- room for so many entries, one held process more, and two live ones more
pub record HasRoom (steps entry_room held_room awake_room dozing_room : ℕ) : Type 0 where
  pub entries : steps ≤ entry_room
  pub held : steps + 1 ≤ held_room
  pub awake : steps + 2 ≤ awake_room
  pub dozing : steps + 2 ≤ dozing_room

-- an entry of a held process is added, which no pass holds any more
abbrev pub with_entry : {T : Type 0} → KernelValue T → ℕ → Entry → KernelValue T
with_entry value pid e = record value { history = value.history ++ e ∷ []; held = without pid value.held }

-- what is kept before the first item
abbrev pub at_start : {T : Type 0} → T → SeatState → ℕ → ℕ → ℕ → ℕ → ℕ → ℕ → KernelValue T
at_start store seat steps heap entry_room held_room awake_room dozing_room = record {
  store = store;
  seat = seat;
  steps = steps;
  heap = heap;
  history = [];
  held = [];
  awake = 1 ∷ [];
  dozing = [];
  starved = false;
  entry_room = entry_room;
  held_room = held_room;
  awake_room = awake_room;
  dozing_room = dozing_room;
}

-- the victim's end, for a call that waits
abbrev pub killed_for : Script → Past → World → ℕ → ℕ → Entry
killed_for script past world pid waiter = entry.Killed pid waiter (bound (call_of script past.plain waiter)) (live_of world)

module _ {T : Type 0} (stands_for : T → World → Type 0) (script_of : T → Script) (beside : T → ℕ → Call → Turned → T → Type 0) where
  -- The value stands for these items: they are shared, it keeps what they say, its store went through their entries and stands for the
  -- world that they lead to, and its charge seat holds what is live in it and the reserve.
  pub record Shares (script : Script) (steps : ℕ) (charge : ChargeWord) (value : KernelValue T) (items : List Item) : Type 0 where
    pub past : Past
    pub world : World
    pub shared : IsShared script steps items past
    pub named : script_of value.store ≡ script
    pub stands : stands_for value.store world
    pub led : IsLed stands_for beside script value.history world value.store
    pub plain : world.plain ≡ past.plain
    pub account : world.account ≡ past.account
    pub may_keep : MayKeep world.plain world.kept
    pub filled : AreFilled world.kept past
    pub history : value.history ≡ noted items
    pub held : AreHeld script past.plain value.held items
    pub present : ArePresent past.plain value.awake value.dozing value.history
    pub starved : value.starved ≡ has_starved items
    pub still : StarvesStill script items past
    pub bare : has_starved items ≡ true → can_evict_any world ≡ false
    pub told : IsTold world (last_of Quiet items)
    pub of_charge : value.seat.charge ≡ charge
    pub boot : value.seat.known.is_boot ≡ true
    pub holds : value.seat.known.holds ≡ live_of world + reserve
    pub heap : charge.heap ≡ script.heap
    pub limit : value.steps ≡ steps
    pub same_heap : value.heap ≡ script.heap
    pub room : HasRoom steps value.entry_room value.held_room value.awake_room value.dozing_room

  -- before the first item, with the seat of a charge that was booted for the script's heap
  abbrev pub StandsAtBoot : Type 0
  StandsAtBoot =
      (store : T) (seat : SeatState) (steps heap entry_room held_room awake_room dozing_room : ℕ) → stands_for store (boot_world (script_of store))
      → seat.known.is_boot ≡ true → seat.known.holds ≡ fixed → seat.charge.heap ≡ (script_of store).heap → heap ≡ (script_of store).heap
      → HasRoom steps entry_room held_room awake_room dozing_room
      → Shares (script_of store) steps seat.charge (at_start store seat steps heap entry_room held_room awake_room dozing_room) []

  -- what holds of a value that stands for some items
  abbrev pub OfStanding : (Holds : (script : Script) (steps : ℕ) (charge : ChargeWord) (value : KernelValue T) (items : List Item) → Shares script steps charge value items → Type 0) → Type 0
  OfStanding Holds =
      (script : Script) (steps : ℕ) (charge : ChargeWord) (value : KernelValue T) (items : List Item) (shares : Shares script steps charge value items)
      → Holds script steps charge value items shares

  -- there is a process for each entry and one more at most, so the room for who is held is enough
  abbrev pub FewAreHeld : Type 0
  FewAreHeld = OfStanding (λ script steps charge value items shares. length value.held ≤ length value.history + 1)

  abbrev pub StandsBehindGiven : Type 0
  StandsBehindGiven = OfStanding (λ script steps charge value items shares.
      (h : Held) → MayGive script steps items shares.past h.pid → h.bound ≡ bound (call_of script shares.past.plain h.pid)
      → Shares script steps charge (record value { held = value.held ++ h ∷ [] }) (items ++ Given h.pid ∷ []))

  abbrev pub StandsBehindBack : Type 0
  StandsBehindBack = OfStanding (λ script steps charge value items shares.
      (pid : ℕ) → is_given pid items ≡ true
      → Shares script steps charge (record value { held = without pid value.held }) (items ++ Back pid ∷ []))

  abbrev pub StandsBehindLive : Type 0
  StandsBehindLive = OfStanding (λ script steps charge value items shares.
      Shares script steps charge value (items ++ Live (live_of shares.world) ∷ []))

  abbrev pub StandsBehindStarved : Type 0
  StandsBehindStarved = OfStanding (λ script steps charge value items shares.
      is_given 1 items ≡ true → Starves script shares.past → can_evict_any shares.world ≡ false
      → Shares script steps charge (record value { starved = true }) (items ++ Starved ∷ []))

  -- behind the Gone of a held process that has ended, which changes nothing else
  abbrev pub StandsBehindGone : Type 0
  StandsBehindGone = OfStanding (λ script steps charge value items shares.
      (pid : ℕ) → length value.history < steps → is_given pid items ≡ true → is_alive shares.past.plain.table pid ≡ false
      → Shares script steps charge (with_entry value pid (entry.Gone pid (kind_of (call_of script shares.past.plain pid))))
      (items ++ Noted (entry.Gone pid (kind_of (call_of script shares.past.plain pid))) ∷ []))

  -- behind a turn of a held live process's call: its bound lies beside what the value's seat holds, and that seat then holds what is
  -- live and the reserve; who is live is told anew
  abbrev pub StandsBehindTurn : Type 0
  StandsBehindTurn = OfStanding (λ script steps charge value items shares.
      (store : T) (seat : SeatState) (awake dozing : List ℕ) (after : World) (pid : ℕ) (told : Turned) → length value.history < steps → is_given pid items ≡ true
      → is_alive shares.past.plain.table pid ≡ true → bound (call_of script shares.past.plain pid) ≤ room script.heap
      → value.seat.known.holds + bound (call_of script shares.past.plain pid) ≤ script.heap
      → script_of store ≡ script → stands_for store after → TurnsTo script shares.world pid (call_of script shares.past.plain pid) told after
      → beside value.store pid (call_of script shares.past.plain pid) told store
      → seat.charge ≡ charge → seat.known.is_boot ≡ true → seat.known.holds ≡ live_of after + reserve
      → ArePresent after.plain awake dozing (value.history ++ entry_of pid (kind_of (call_of script shares.past.plain pid)) told ∷ [])
      → Shares script steps charge
      (record (with_entry value pid (entry_of pid (kind_of (call_of script shares.past.plain pid)) told)) {
        store = store;
        seat = seat;
        awake = awake;
        dozing = dozing;
      })
      (items ++ Noted (entry_of pid (kind_of (call_of script shares.past.plain pid)) told) ∷ []))

  -- where a live process's call was reserved beside what the value's seat holds
  abbrev pub ReservedBeforeStarved : Type 0
  ReservedBeforeStarved = OfStanding (λ script steps charge value items shares.
      (pid : ℕ) → is_alive shares.past.plain.table pid ≡ true
      → value.seat.known.holds + bound (call_of script shares.past.plain pid) ≤ script.heap → value.starved ≡ false)

  -- behind the refusal of a held live process's call, which the heap can never give: the store has answered it, and its seat stays
  abbrev pub StandsBehindRefused : Type 0
  StandsBehindRefused = OfStanding (λ script steps charge value items shares.
      (store : T) (awake dozing : List ℕ) (pid : ℕ) → length value.history < steps → is_given pid items ≡ true
      → is_alive shares.past.plain.table pid ≡ true → room script.heap < bound (call_of script shares.past.plain pid)
      → script_of store ≡ script → stands_for store (refused_in script shares.world pid)
      → ArePresent (refused_in script shares.world pid).plain awake dozing (value.history ++ refusal pid (asked_by script shares.past.plain pid) ∷ [])
      → Shares script steps charge
      (record (with_entry value pid (refusal pid (asked_by script shares.past.plain pid))) { store = store; awake = awake; dozing = dozing })
      (items ++ Noted (refusal pid (asked_by script shares.past.plain pid)) ∷ []))

  -- behind a kill for a held live process's call, which the heap might give, but not beside what is live with nothing left to evict
  abbrev pub StandsBehindKilled : Type 0
  StandsBehindKilled = OfStanding (λ script steps charge value items shares.
      (store : T) (seat : SeatState) (awake dozing : List ℕ) (after : World) (pid waiter : ℕ) → length value.history < steps
      → is_given waiter items ≡ true → is_alive shares.past.plain.table waiter ≡ true → bound (call_of script shares.past.plain waiter) ≤ room script.heap
      → script.heap < value.seat.known.holds + bound (call_of script shares.past.plain waiter) → can_evict_any shares.world ≡ false
      → victim_of script.policy shares.past.plain shares.past.account ≡ Some pid
      → script_of store ≡ script → stands_for store after → Kills shares.world pid after
      → seat.charge ≡ charge → seat.known.is_boot ≡ true → seat.known.holds ≡ live_of after + reserve
      → ArePresent after.plain awake dozing (value.history ++ killed_for script shares.past shares.world pid waiter ∷ [])
      → Shares script steps charge
      (record value {
        history = value.history ++ killed_for script shares.past shares.world pid waiter ∷ [];
        store = store;
        seat = seat;
        awake = awake;
        dozing = dozing;
      })
      (items ++ Noted (killed_for script shares.past shares.world pid waiter) ∷ []))

  -- behind an eviction where a live process is held, from the first of the three caches that can lose something
  abbrev pub StandsBehindCleared : Type 0
  StandsBehindCleared = OfStanding (λ script steps charge value items shares.
      (store : T) (seat : SeatState) (after : World) (what : Cached) → length value.history < steps → SomeLiveHeld items shares.past
      → NothingBefore shares.world what → can_evict shares.world.plain shares.world.kept what ≡ true
      → script_of store ≡ script → stands_for store after → Evicts shares.world what after
      → seat.charge ≡ charge → seat.known.is_boot ≡ true → seat.known.holds ≡ live_of after + reserve
      → Shares script steps charge (record value { history = value.history ++ entry.Evicted what ∷ []; store = store; seat = seat })
      (items ++ Cleared what (live_of shares.world) ∷ []))
