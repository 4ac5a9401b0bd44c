-- The kernel's value behind what frees heap, as it leaves it.
use Rattle.std.proofs.Common.{◌≡◌, ℕ, ◌+◌, ◌-◌, ◌*◌, ◌<◌, ◌≤◌, ◌||◌, Bool, true, false, cond, List, [], ◌∷◌, ◌++◌, length, Some, None, refl, ap, sym, ◌∙◌, subst, arith}
use Rattle.kabi_types.specs.declared.calls.Call.{Call}
use Rattle.kabi_types.specs.declared.entries.Cached.{Cached}
use Rattle.kabi_types.specs.declared.entries.Cached.TheVariants.{Name, Block, Vnode}
use Rattle.kabi_types.specs.declared.entries.Entry.{Entry}
use Rattle.kabi_types.specs.declared.entries.Entry.TheVariants as entry
use Rattle.kabi_types.specs.declared.scripts.Script.{Script}
use Rattle.kern_events.specs.Reliefs.{first_evictable}
use Rattle.posix_defs.specs.declared.turner.Turned.{Turned}
use Rattle.posix_defs.specs.History.{Past}
use Rattle.posix_defs.specs.Licence.{can_evict_any}
use Rattle.posix_defs.specs.Needs.{bound}
use Rattle.posix_defs.specs.Plain.{call_of, last_pid}
use Rattle.posix_defs.specs.Process.{is_alive}
use Rattle.posix_defs.specs.Relief.{Evicts, Kills}
use Rattle.posix_defs.specs.Sizes.{reserve, room}
use Rattle.posix_defs.specs.Victim.{victim_of}
use Rattle.posix_defs.specs.World.{World, base, can_evict, live_of, pins}
use Rattle.kern_laws.proofs.Caches.{all_pinned}
use Rattle.kern_laws.proofs.Followed.{kill_leads, killed_legal, past_killed}
use Rattle.kern_laws.proofs.Progress.{no_victim}
use Rattle.charge_words.specs.Names.{ChargeWord, SeatState}
use Rattle.turn_words.specs.declared.items.Item.{Item}
use Rattle.turn_words.specs.declared.items.Item.TheVariants.{Cleared, Noted, Starved}
use Rattle.turn_words.specs.Items.{is_given, noted}
use Rattle.kern_shared.specs.Lists.{awake_after, dozing_after}
use Rattle.kern_shared.specs.Relieves.{WaitsInVain}
use Rattle.kern_shared.specs.Shared.{IsShared, SomeLiveHeld}
use Rattle.kern_shared.specs.Shares.{KernelValue, NothingBefore, Shares, killed_for}
use Rattle.kern_shared.proofs.Keeping.{behind_starved}
use Rattle.kern_shared.proofs.OnePast.{one_past}
use Rattle.kern_shared.proofs.Runs.{held_up}
use Rattle.kern_shared.proofs.Turned.{present_then}
use Rattle.kern_shared.proofs.Turning.{behind_cleared, behind_killed}

-- the first cache that can lose something can
pub can_lose : (world : World) (what : Cached) → first_evictable world ≡ Some what → can_evict world.plain world.kept what ≡ true
can_lose world what e = go (can_evict world.plain world.kept Name) refl (can_evict world.plain world.kept Block) refl (can_evict world.plain world.kept Vnode) refl e
  where
    same : (which : Cached) → can_evict world.plain world.kept which ≡ true → Some which ≡ Some what → can_evict world.plain world.kept what ≡ true
    same which can e = subst (λ w. can_evict world.plain world.kept w ≡ true) (let is : which ≡ what = (cc) in is) can

    go : (a : Bool) → can_evict world.plain world.kept Name ≡ a → (b : Bool) → can_evict world.plain world.kept Block ≡ b → (c : Bool) → can_evict world.plain world.kept Vnode ≡ c
        → cond a (Some Name) (cond b (Some Block) (cond c (Some Vnode) None)) ≡ Some what → can_evict world.plain world.kept what ≡ true
    go true e b f c g h = same Name e h
    go false e true f c g h = same Block f h
    go false e false f true g h = same Vnode g h
    go false e false f false g h = cc

pub none_lost : (world : World) → first_evictable world ≡ None → can_evict_any world ≡ false
none_lost world e = go (can_evict world.plain world.kept Name) (can_evict world.plain world.kept Block) (can_evict world.plain world.kept Vnode) e
  where
    go : (a b c : Bool) → cond a (Some Name) (cond b (Some Block) (cond c (Some Vnode) None)) ≡ None → (a || b || c) ≡ false
    go true b c h = cc
    go false true c h = cc
    go false false true h = cc
    go false false false h = refl

-- the caches before the first that can lose something can't
pub nothing_before : (world : World) (what : Cached) → first_evictable world ≡ Some what → NothingBefore world what
nothing_before world what e = go (can_evict world.plain world.kept Name) refl (can_evict world.plain world.kept Block) refl (can_evict world.plain world.kept Vnode) e
  where
    same : (which : Cached) → NothingBefore world which → Some which ≡ Some what → NothingBefore world what
    same which before e = subst (NothingBefore world) (let is : which ≡ what = (cc) in is) before

    go : (a : Bool) → can_evict world.plain world.kept Name ≡ a → (b : Bool) → can_evict world.plain world.kept Block ≡ b → (c : Bool)
        → cond a (Some Name) (cond b (Some Block) (cond c (Some Vnode) None)) ≡ Some what → NothingBefore world what
    go true e b f c h = same Name tt h
    go false e true f c h = same Block e h
    go false e false f true h = same Vnode (e, f) h
    go false e false f false h = cc

-- what isn't live any more goes back
pub freed : (holds live after : ℕ) → holds ≡ live + reserve → after ≤ live → holds - (live - after) ≡ after + reserve
freed holds live after holds_is less = omega (arith, holds_is, less)

module _ {T : Type 0} (stands_for : T → World → Type 0) (script_of : T → Script) (beside : T → ℕ → Call → Turned → T → Type 0) where
  pub vain_here : (script : Script) (steps : ℕ) (charge : ChargeWord) (value : KernelValue T) (items : List Item) (s : Shares stands_for script_of beside script steps charge value items)
      (past : Past) → IsShared script steps items past → (waiter need live : ℕ) → WaitsInVain script steps items past waiter need live
      → WaitsInVain script steps items s.past waiter need live
  vain_here script steps charge value items s past shared waiter need live may =
      subst (λ p. WaitsInVain script steps items p waiter need live) (one_past script steps items past s.past shared s.shared) may

  -- the call doesn't fit beside what the store's seat holds
  pub full_beside : (script : Script) (steps : ℕ) (charge : ChargeWord) (value : KernelValue T) (items : List Item) (s : Shares stands_for script_of beside script steps charge value items)
      (waiter need live : ℕ) → live ≡ live_of s.world → WaitsInVain script steps items s.past waiter need live
      → script.heap < value.seat.known.holds + bound (call_of script s.past.plain waiter)
  full_beside script steps charge value items s waiter need live live_is may =
      let full : script.heap < live + 2176 + need = may.full in
      let held : value.seat.known.holds ≡ live_of s.world + 2176 = s.holds in
      let is : need ≡ bound (call_of script s.past.plain waiter) = may.is_need in
      omega (arith, full, held, live_is, is)

  pub victim_here : (script : Script) (steps : ℕ) (charge : ChargeWord) (value : KernelValue T) (items : List Item) (s : Shares stands_for script_of beside script steps charge value items)
      (pid : ℕ) → victim_of (script_of value.store).policy s.world.plain s.world.account ≡ Some pid → victim_of script.policy s.past.plain s.past.account ≡ Some pid
  victim_here script steps charge value items s pid victim =
      ap (λ p. victim_of script.policy p s.past.account) (sym s.plain) ∙ ap (victim_of script.policy s.world.plain) (sym s.account)
      ∙ ap (λ (sc : Script). victim_of sc.policy s.world.plain s.world.account) (sym s.named) ∙ victim

  pub victim_here_none : (script : Script) (steps : ℕ) (charge : ChargeWord) (value : KernelValue T) (items : List Item) (s : Shares stands_for script_of beside script steps charge value items)
      → victim_of (script_of value.store).policy s.world.plain s.world.account ≡ None → victim_of script.policy s.past.plain s.past.account ≡ None
  victim_here_none script steps charge value items s none =
      ap (λ p. victim_of script.policy p s.past.account) (sym s.plain) ∙ ap (victim_of script.policy s.world.plain) (sym s.account)
      ∙ ap (λ (sc : Script). victim_of sc.policy s.world.plain s.world.account) (sym s.named) ∙ none

  -- the entry of a kill, by the numbers at hand
  pub killed_is : (script : Script) (steps : ℕ) (charge : ChargeWord) (value : KernelValue T) (items : List Item) (s : Shares stands_for script_of beside script steps charge value items)
      (pid waiter need live : ℕ) → live ≡ live_of s.world → WaitsInVain script steps items s.past waiter need live
      → entry.Killed pid waiter need live ≡ killed_for script s.past s.world pid waiter
  killed_is script steps charge value items s pid waiter need live live_is may =
      ap (λ n. entry.Killed pid waiter n live) may.is_need ∙ ap (λ n. entry.Killed pid waiter (bound (call_of script s.past.plain waiter)) n) live_is

  -- the same kill, by the numbers at hand
  pub named_kill : (script : Script) (steps : ℕ) (charge : ChargeWord) (value : KernelValue T) (items : List Item) (s : Shares stands_for script_of beside script steps charge value items)
      (new : KernelValue T) (pid waiter need live : ℕ) → live ≡ live_of s.world → WaitsInVain script steps items s.past waiter need live
      → Shares stands_for script_of beside script steps charge new (items ++ Noted (killed_for script s.past s.world pid waiter) ∷ [])
      → Shares stands_for script_of beside script steps charge new (items ++ Noted (entry.Killed pid waiter need live) ∷ [])
  named_kill script steps charge value items s new pid waiter need live live_is may shares =
      subst (λ n. Shares stands_for script_of beside script steps charge new (items ++ Noted (entry.Killed pid waiter n live) ∷ [])) (sym may.is_need)
      (subst (λ n. Shares stands_for script_of beside script steps charge new (items ++ Noted (entry.Killed pid waiter (bound (call_of script s.past.plain waiter)) n) ∷ [])) (sym live_is) shares)

  pub named_clear : (script : Script) (steps : ℕ) (charge : ChargeWord) (value : KernelValue T) (items : List Item) (s : Shares stands_for script_of beside script steps charge value items)
      (new : KernelValue T) (what : Cached) (live : ℕ) → live ≡ live_of s.world
      → Shares stands_for script_of beside script steps charge new (items ++ Cleared what (live_of s.world) ∷ []) → Shares stands_for script_of beside script steps charge new (items ++ Cleared what live ∷ [])
  named_clear script steps charge value items s new what live live_is shares =
      subst (λ n. Shares stands_for script_of beside script steps charge new (items ++ Cleared what n ∷ [])) (sym live_is) shares

  -- an object went from a cache
  pub cleared_now : (script : Script) (steps : ℕ) (charge : ChargeWord) (value : KernelValue T) (items : List Item) (s : Shares stands_for script_of beside script steps charge value items)
      (store : T) (seat : SeatState) (after : World) (what : Cached) (history : List Entry) (entry_room : ℕ) → length (noted items) < steps → SomeLiveHeld items s.past
      → NothingBefore s.world what → can_evict s.world.plain s.world.kept what ≡ true → script_of store ≡ script → stands_for store after → Evicts s.world what after
      → seat.charge ≡ charge → seat.known.is_boot ≡ true → seat.known.holds ≡ live_of after + reserve
      → history ≡ value.history ++ entry.Evicted what ∷ [] → entry_room ≡ value.entry_room
      → Shares stands_for script_of beside script steps charge (record value { store = store; seat = seat; history = history; entry_room = entry_room })
      (items ++ Cleared what (live_of s.world) ∷ [])
  cleared_now script steps charge value items s store seat after what history entry_room below live_held before can named stands evicts of_charge boot holds history_is entries_same =
      subst (λ v. Shares stands_for script_of beside script steps charge v (items ++ Cleared what (live_of s.world) ∷ [])) (cc (history_is, entries_same))
      (behind_cleared stands_for script_of beside script steps charge value items s store seat after what (subst (λ l. length l < steps) (sym s.history) below) live_held before can
      named stands evicts of_charge boot holds)

  -- the victim was killed
  pub killed_now : (script : Script) (steps : ℕ) (charge : ChargeWord) (value : KernelValue T) (items : List Item) (s : Shares stands_for script_of beside script steps charge value items)
      (store : T) (seat : SeatState) (after : World) (pid waiter before : ℕ) (history : List Entry) (awake dozing : List ℕ) (entry_room awake_room dozing_room : ℕ)
      → length (noted items) < steps → is_given waiter items ≡ true → is_alive s.past.plain.table waiter ≡ true → bound (call_of script s.past.plain waiter) ≤ room script.heap
      → script.heap < value.seat.known.holds + bound (call_of script s.past.plain waiter) → can_evict_any s.world ≡ false
      → victim_of script.policy s.past.plain s.past.account ≡ Some pid → script_of store ≡ script → stands_for store after → Kills s.world pid after
      → seat.charge ≡ charge → seat.known.is_boot ≡ true → seat.known.holds ≡ live_of after + reserve → before ≡ last_pid s.world.plain
      → history ≡ value.history ++ killed_for script s.past s.world pid waiter ∷ []
      → awake ≡ awake_after after.plain pid false before value.awake → dozing ≡ dozing_after after.plain pid false value.dozing
      → entry_room ≡ value.entry_room → awake_room ≡ value.awake_room → dozing_room ≡ value.dozing_room
      → Shares stands_for script_of beside script steps charge (record value {
        store = store;
        seat = seat;
        history = history;
        awake = awake;
        dozing = dozing;
        entry_room = entry_room;
        awake_room = awake_room;
        dozing_room = dozing_room;
      }) (items ++ Noted (killed_for script s.past s.world pid waiter) ∷ [])
  killed_now script steps charge value items s store seat after pid waiter before history awake dozing entry_room awake_room dozing_room below given alive fits full bare victim
      named stands kills of_charge boot holds before_is history_is awake_is dozing_is entries_same awake_same dozing_same =
      let leads = kill_leads script s.past s.world pid after (sym s.plain) (sym s.account) s.filled kills in
      subst (λ v. Shares stands_for script_of beside script steps charge v (items ++ Noted (killed_for script s.past s.world pid waiter) ∷ []))
      (cc (history_is, awake_is, dozing_is, entries_same, awake_same, dozing_same))
      (behind_killed stands_for script_of beside script steps charge value items s store seat (awake_after after.plain pid false before value.awake) (dozing_after after.plain pid false value.dozing)
      after pid waiter (subst (λ l. length l < steps) (sym s.history) below) given alive fits full bare victim named stands kills of_charge boot holds
      (present_then stands_for script_of beside script steps charge value items s (past_killed script s.past pid) after.plain (killed_for script s.past s.world pid waiter) pid false before
      (killed_legal script s.past s.world pid waiter s.plain s.account s.may_keep bare victim alive (held_up script steps items s.past s.shared waiter given) fits
      (subst (λ n. script.heap < n + bound (call_of script s.past.plain waiter)) s.holds full))
      leads.plain_is (λ other. refl) (λ other same. refl) before_is))

  -- nothing helps the first process: nobody else is alive to be killed
  pub starves_now : (script : Script) (steps : ℕ) (charge : ChargeWord) (value : KernelValue T) (items : List Item) (s : Shares stands_for script_of beside script steps charge value items)
      (waiter : ℕ) → is_given waiter items ≡ true → is_alive s.past.plain.table waiter ≡ true → bound (call_of script s.past.plain waiter) ≤ room script.heap
      → script.heap < value.seat.known.holds + bound (call_of script s.past.plain waiter) → can_evict_any s.world ≡ false
      → victim_of script.policy s.past.plain s.past.account ≡ None
      → Shares stands_for script_of beside script steps charge (record value { starved = true }) (items ++ Starved ∷ [])
  starves_now script steps charge value items s waiter given alive fits full bare none =
      let first : waiter ≡ 1 = no_victim script.policy s.past.plain s.past.account waiter none alive in
      let given_one : is_given 1 items ≡ true = subst (λ (k : ℕ). is_given k items ≡ true) first given in
      let pinned : live_of s.world ≡ base s.past.plain s.past.account + 128 * pins s.past.plain =
      all_pinned s.world s.may_keep bare ∙ ap (λ p. base p s.world.account + 128 * pins p) s.plain ∙ ap (λ a. base s.past.plain a + 128 * pins s.past.plain) s.account in
      let full_one : script.heap < value.seat.known.holds + bound (call_of script s.past.plain 1) =
      subst (λ (k : ℕ). script.heap < value.seat.known.holds + bound (call_of script s.past.plain k)) first full in
      let held : value.seat.known.holds ≡ live_of s.world + 2176 = s.holds in
      behind_starved stands_for script_of beside script steps charge value items s given_one (record {
        alive = subst (λ (k : ℕ). is_alive s.past.plain.table k ≡ true) first alive;
        alone = λ other lives. no_victim script.policy s.past.plain s.past.account other none lives;
        up = held_up script steps items s.past s.shared 1 given_one;
        fits_ever = subst (λ (k : ℕ). bound (call_of script s.past.plain k) ≤ room script.heap) first fits;
        too_much = omega (arith, pinned, full_one, held);
      }) bare
