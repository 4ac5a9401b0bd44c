-- The kernel's value behind a turn of a held live process's call, as the turn leaves it.
use Rattle.std.proofs.Common.{◌≡◌, ℕ, ◌+◌, ◌-◌, ◌<◌, ◌≤◌, ◌==◌, ⊎_elim, cond, Bool, true, false, List, [], ◌∷◌, ◌++◌, length, refl, ap, sym, ◌∙◌, subst, arith}
use Rattle.std.specs.Prelude.{nat_le}
use Rattle.std.proofs.lemmas.Bool.Decides.{leb_tells}
use Rattle.kabi_types.specs.Call.{kind_of}
use Rattle.kabi_types.specs.declared.calls.Call.{Call}
use Rattle.kabi_types.specs.declared.calls.CallKind.{CallKind}
use Rattle.kabi_types.specs.declared.entries.Entry.{Entry}
use Rattle.kabi_types.specs.declared.entries.Entry.TheVariants as entry
use Rattle.kabi_types.specs.declared.errnos.Errno.TheVariants.{ENOMEM}
use Rattle.kabi_types.specs.declared.replies.Reply.TheVariants.{Fail}
use Rattle.kabi_types.specs.declared.scripts.Script.{Script}
use Rattle.posix_defs.specs.declared.turner.Turned.{Turned}
use Rattle.posix_defs.specs.declared.turner.Turned.TheVariants as turned
use Rattle.posix_defs.specs.CoreEvent.{entry_of}
use Rattle.posix_defs.specs.History.{MayFollow, Past}
use Rattle.posix_defs.specs.Needs.{bound}
use Rattle.posix_defs.specs.Plain.{Plain, answered, call_of, last_pid}
use Rattle.posix_defs.specs.Process.{is_alive}
use Rattle.posix_defs.specs.Relief.{refused_in}
use Rattle.posix_defs.specs.Sizes.{reserve, room}
use Rattle.posix_defs.specs.Turn.{Answers, TurnsTo, TurnsWhere}
use Rattle.posix_defs.specs.World.{World, live_of}
use Rattle.kern_laws.proofs.Followed.{TurnLeads, past_refused, refused_legal}
use Rattle.kern_laws.specs.Sleeping.{is_of, sleeps_by}
use Rattle.charge_words.specs.Names.{ChargeWord, SeatState}
use Rattle.charge_words.specs.declared.rule.ChargeView.{ChargeView}
use Rattle.turn_words.specs.declared.items.Item.{Item}
use Rattle.turn_words.specs.declared.items.Item.TheVariants.{Noted}
use Rattle.turn_words.specs.Items.{noted}
use Rattle.turn_words.proofs.Held.{contrary}
use Rattle.kern_shared.specs.declared.held.Held.{Held}
use Rattle.kern_shared.specs.declared.attends.Attended.{Attended}
use Rattle.kern_shared.specs.Attends.{HasReserved, HoldsCall, IsUnused, MayGiveUp, MayRefuse, MayTurn, TakesIn, TellsSpent, reserved_for, sleeps_told, told_item, told_of}
use Rattle.kern_shared.specs.Lists.{awake_after, dozing_after}
use Rattle.kern_shared.specs.Shared.{IsShared}
use Rattle.kern_shared.specs.Shares.{ArePresent, KernelValue, Shares, with_entry, without}
use Rattle.kern_shared.proofs.OnePast.{one_past}
use Rattle.kern_shared.proofs.Presence.{few_present, present_behind}
use Rattle.kern_shared.proofs.Runs.{entries_run}
use Rattle.kern_shared.proofs.Turning.{behind_gone, behind_refused, behind_turn, turn_of}

-- the item that a turn's answer passes on is its entry
pub told_entry : (pid : ℕ) (call : Call) (told : Turned) → told_item pid call (told_of told) ≡ Noted (entry_of pid (kind_of call) told)
told_entry pid call (turned.Done _) = refl
told_entry pid call (turned.Part _) = refl
told_entry pid call turned.Sleep = refl
told_entry pid call (turned.Ended _) = refl
told_entry pid call turned.Gone = refl

-- and it is neither Spent nor Short
pub tells_step : (steps : ℕ) (items : List Item) (told : Turned) → length (noted items) < steps → TellsSpent steps items (told_of told)
tells_step steps items (turned.Done _) below = below
tells_step steps items (turned.Part _) below = below
tells_step steps items turned.Sleep below = below
tells_step steps items (turned.Ended _) below = below
tells_step steps items turned.Gone below = below

entry_is_of : (pid : ℕ) (which : CallKind) (told : Turned) (other : ℕ) → is_of other (entry_of pid which told) ≡ (pid == other)
entry_is_of pid which (turned.Done _) other = refl
entry_is_of pid which (turned.Part _) other = refl
entry_is_of pid which turned.Sleep other = refl
entry_is_of pid which (turned.Ended _) other = refl
entry_is_of pid which turned.Gone other = refl

entry_sleeps : (pid : ℕ) (which : CallKind) (told : Turned) (other : ℕ) → (pid == other) ≡ true → sleeps_by other (entry_of pid which told) ≡ sleeps_told told
entry_sleeps pid which (turned.Done _) other same = refl
entry_sleeps pid which (turned.Part _) other same = same
entry_sleeps pid which turned.Sleep other same = same
entry_sleeps pid which (turned.Ended _) other same = refl
entry_sleeps pid which turned.Gone other same = refl

le_is : (n m : ℕ) → nat_le n m ≡ true → n ≤ m
le_is n m h = ⊎_elim (λ k. k.1) (λ k. contrary (nat_le n m) h k.0) (leb_tells n m)

le_is_not : (n m : ℕ) → nat_le n m ≡ false → m < n
le_is_not n m h = ⊎_elim (λ k. contrary (nat_le n m) k.0 h) (λ k. k.1) (leb_tells n m)

-- what was reserved for a call, where the heap might give it, and where it never can
pub reserved_is : (script : Script) (call : Call) (needed : ℕ) (fits : Bool) → needed ≡ bound call → fits ≡ nat_le needed (room script.heap) → fits ≡ true
    → reserved_for script call ≡ needed
reserved_is script call needed fits needed_is is told =
    ap (λ (n : ℕ). cond (nat_le n (room script.heap)) n 0) (sym needed_is) ∙ ap (λ (b : Bool). cond b needed 0) (sym is ∙ told)

pub reserved_none : (script : Script) (call : Call) (needed : ℕ) (fits : Bool) → needed ≡ bound call → fits ≡ nat_le needed (room script.heap) → fits ≡ false
    → reserved_for script call ≡ 0
reserved_none script call needed fits needed_is is told =
    ap (λ (n : ℕ). cond (nat_le n (room script.heap)) n 0) (sym needed_is) ∙ ap (λ (b : Bool). cond b needed 0) (sym is ∙ told)

-- where the heap can never give a call's bound nothing was reserved for it
pub unused_unfit : (script : Script) (call : Call) (own : ChargeView) (needed : ℕ) (fits : Bool) → needed ≡ bound call → fits ≡ nat_le needed (room script.heap) → fits ≡ false
    → HasReserved script call own → IsUnused own
unused_unfit script call own needed fits needed_is is told has = record {
  reserves = has.once ∙ ap (λ (n : ℕ). cond (nat_le n (room script.heap)) 1 0) (sym needed_is) ∙ ap (λ (b : Bool). cond b 1 0) (sym is ∙ told);
  raised = has.raised ∙ reserved_none script call needed fits needed_is is told;
}

-- what has reserved nothing adds nothing
pub takes_nothing : (seat own : ChargeView) → IsUnused own → TakesIn seat seat own
takes_nothing seat own unused =
    let reserves = unused.reserves in
    let raised = unused.raised in record { reserves = omega (arith, reserves); raised = omega (arith, raised) }

-- what isn't live goes back, and what is stays with the reserve
pub left_over : (holds all live needed after : ℕ) → holds ≡ live + needed + reserve → all ≡ live + needed → after ≤ live + needed → holds - (all - after) ≡ after + reserve
left_over holds all live needed after holds_is all_is most = omega (arith, holds_is, all_is, most)

-- a turn of a live process's call leaves no more live than its bound adds
pub most_live : (script : Script) (world : World) (pid : ℕ) (call : Call) (told : Turned) (after : World) → is_alive world.plain.table pid ≡ true
    → TurnsTo script world pid call told after → live_of after ≤ live_of world + bound call
most_live script world pid call told after alive turns =
    let answers : Answers script world pid call told after = subst (λ b. TurnsWhere b script world pid call told after) alive turns in answers.live

module _ {T : Type 0} (stands_for : T → World → Type 0) (script_of : T → Script) (beside : T → ℕ → Call → Turned → T → Type 0) where
  pub turn_here : (script : Script) (steps : ℕ) (charge : ChargeWord) (value : KernelValue T) (items : List Item) (s : Shares stands_for script_of beside script steps charge value items)
      (past : Past) → IsShared script steps items past → (pid : ℕ) (call : Call) → MayTurn script steps items past pid call → MayTurn script steps items s.past pid call
  turn_here script steps charge value items s past shared pid call may = subst (λ p. MayTurn script steps items p pid call) (one_past script steps items past s.past shared s.shared) may

  pub refuse_here : (script : Script) (steps : ℕ) (charge : ChargeWord) (value : KernelValue T) (items : List Item) (s : Shares stands_for script_of beside script steps charge value items)
      (past : Past) → IsShared script steps items past → (pid : ℕ) (call : Call) → MayRefuse script steps items past pid call → MayRefuse script steps items s.past pid call
  refuse_here script steps charge value items s past shared pid call may = subst (λ p. MayRefuse script steps items p pid call) (one_past script steps items past s.past shared s.shared) may

  -- the call of the past is the one that the store's process makes
  pub call_there : (script : Script) (steps : ℕ) (charge : ChargeWord) (value : KernelValue T) (items : List Item) (s : Shares stands_for script_of beside script steps charge value items)
      (pid : ℕ) (call : Call) → call ≡ call_of script s.past.plain pid → call ≡ call_of (script_of value.store) s.world.plain pid
  call_there script steps charge value items s pid call is = is ∙ ap (λ p. call_of script p pid) (sym s.plain) ∙ ap (λ sc. call_of sc s.world.plain pid) (sym s.named)

  -- what a held process's call may come to, by the tests
  pub give_up_may : (script : Script) (steps : ℕ) (charge : ChargeWord) (value : KernelValue T) (items : List Item) (s : Shares stands_for script_of beside script steps charge value items)
      (pid : ℕ) (call : Call) (which : CallKind) → HoldsCall script steps items pid call → is_alive s.past.plain.table pid ≡ false → which ≡ kind_of call → length (noted items) < steps
      → MayGiveUp script steps items s.past pid which
  give_up_may script steps charge value items s pid call which has ended is below =
      record { given = has.given; ended = ended; of_kind = is ∙ ap kind_of (has.is_call s.past s.shared); below = below }

  pub refuse_may : (script : Script) (steps : ℕ) (charge : ChargeWord) (value : KernelValue T) (items : List Item) (s : Shares stands_for script_of beside script steps charge value items)
      (pid : ℕ) (call : Call) (needed : ℕ) (fits : Bool) → HoldsCall script steps items pid call → is_alive s.past.plain.table pid ≡ true → needed ≡ bound call
      → fits ≡ nat_le needed (room script.heap) → fits ≡ false → length (noted items) < steps → MayRefuse script steps items s.past pid call
  refuse_may script steps charge value items s pid call needed fits has alive needed_is is told below = record {
    given = has.given;
    alive = alive;
    is_call = has.is_call s.past s.shared;
    never_fits = subst (λ n. room script.heap < n) needed_is (le_is_not needed (room script.heap) (sym is ∙ told));
    below = below;
  }

  pub turn_may : (script : Script) (steps : ℕ) (charge : ChargeWord) (value : KernelValue T) (items : List Item) (s : Shares stands_for script_of beside script steps charge value items)
      (pid : ℕ) (call : Call) (needed : ℕ) (fits : Bool) → HoldsCall script steps items pid call → is_alive s.past.plain.table pid ≡ true → needed ≡ bound call
      → fits ≡ nat_le needed (room script.heap) → fits ≡ true → length (noted items) < steps → MayTurn script steps items s.past pid call
  turn_may script steps charge value items s pid call needed fits has alive needed_is is told below = record {
    given = has.given;
    alive = alive;
    is_call = has.is_call s.past s.shared;
    fits = subst (λ n. n ≤ room script.heap) needed_is (le_is needed (room script.heap) (sym is ∙ told));
    below = below;
  }

  -- there is room for one entry more, and for the live processes behind it
  pub room_for_entry : (script : Script) (steps : ℕ) (charge : ChargeWord) (value : KernelValue T) (items : List Item) (s : Shares stands_for script_of beside script steps charge value items)
      → length (noted items) < steps → (length value.history < value.entry_room) × (length value.awake + 2 ≤ value.awake_room) × (length value.dozing + 1 ≤ value.dozing_room)
  room_for_entry script steps charge value items s below =
      let few = few_present script s.past (noted items) value.awake value.dozing (entries_run script steps items s.past s.shared)
      (subst (ArePresent s.past.plain value.awake value.dozing) s.history s.present) in
      let same : length value.history ≡ length (noted items) = ap length s.history in
      let up : length value.awake ≤ length (noted items) + 1 = few.0 in
      let down : length value.dozing ≤ length (noted items) + 1 = few.1 in
      let entries : steps ≤ value.entry_room = s.room.entries in
      let awake : steps + 2 ≤ value.awake_room = s.room.awake in
      let dozing : steps + 2 ≤ value.dozing_room = s.room.dozing in
      (omega (arith, same, below, entries), omega (arith, up, below, awake), omega (arith, down, below, dozing))

  -- who is live behind an entry of one process, as the lists tell anew
  pub present_then : (script : Script) (steps : ℕ) (charge : ChargeWord) (value : KernelValue T) (items : List Item) (s : Shares stands_for script_of beside script steps charge value items)
      (next : Past) (plain : Plain) (e : Entry) (pid : ℕ) (sleeps : Bool) (before : ℕ) → MayFollow script s.past e next → next.plain ≡ plain
      → ((other : ℕ) → is_of other e ≡ (pid == other)) → ((other : ℕ) → (pid == other) ≡ true → sleeps_by other e ≡ sleeps) → before ≡ last_pid s.world.plain
      → ArePresent plain (awake_after plain pid sleeps before value.awake) (dozing_after plain pid sleeps value.dozing) (value.history ++ e ∷ [])
  present_then script steps charge value items s next plain e pid sleeps before follows plain_is of slept before_is =
      subst (λ l. ArePresent plain (awake_after plain pid sleeps before value.awake) (dozing_after plain pid sleeps value.dozing) (l ++ e ∷ [])) (sym s.history)
      (subst (λ n. ArePresent plain (awake_after plain pid sleeps n value.awake) (dozing_after plain pid sleeps value.dozing) (noted items ++ e ∷ [])) (sym (before_is ∙ ap last_pid s.plain))
      (subst (λ p. ArePresent p (awake_after p pid sleeps (last_pid s.past.plain) value.awake) (dozing_after p pid sleeps value.dozing) (noted items ++ e ∷ [])) plain_is
      (present_behind script s.past next (noted items) e pid sleeps value.awake value.dozing (entries_run script steps items s.past s.shared) follows of slept
      (subst (ArePresent s.past.plain value.awake value.dozing) s.history s.present))))

  -- what was reserved with what was live before is enough for the turn, and what isn't live behind it is given back
  pub paid : (script : Script) (steps : ℕ) (charge : ChargeWord) (value : KernelValue T) (items : List Item) (s : Shares stands_for script_of beside script steps charge value items)
      (live needed holds heap : ℕ) → live ≡ live_of s.world → holds ≡ value.seat.known.holds + needed → value.seat.known.holds + needed ≤ heap → heap ≡ charge.heap
      → (holds ≡ live + needed + reserve) × (live_of s.world + needed + reserve ≤ script.heap) × (value.seat.known.holds + needed ≤ script.heap)
  paid script steps charge value items s live needed holds heap live_is holds_is within heap_is =
      let held : value.seat.known.holds ≡ live_of s.world + 2176 = s.holds in
      let same : charge.heap ≡ script.heap = s.heap in
      (omega (arith, live_is, holds_is, held), omega (arith, held, within, heap_is, same), omega (arith, within, heap_is, same))

  -- a kind by another name
  pub same_kind : (script : Script) (steps : ℕ) (charge : ChargeWord) (value : KernelValue T) (items : List Item) (pid : ℕ) (which other : CallKind) → which ≡ other
      → Shares stands_for script_of beside script steps charge value (items ++ Noted (entry.Gone pid which) ∷ [])
      → Shares stands_for script_of beside script steps charge value (items ++ Noted (entry.Gone pid other) ∷ [])
  same_kind script steps charge value items pid which other same s = subst (λ k. Shares stands_for script_of beside script steps charge value (items ++ Noted (entry.Gone pid k) ∷ [])) same s

  -- the call of a held process that has ended is given up
  pub given_up_now : (script : Script) (steps : ℕ) (charge : ChargeWord) (value : KernelValue T) (items : List Item) (s : Shares stands_for script_of beside script steps charge value items)
      (past : Past) → IsShared script steps items past → (pid : ℕ) (which : CallKind) (history : List Entry) (held : List Held) (entry_room held_room : ℕ)
      → MayGiveUp script steps items past pid which → history ≡ value.history ++ entry.Gone pid which ∷ [] → held ≡ without pid value.held
      → entry_room ≡ value.entry_room → held_room ≡ value.held_room
      → Shares stands_for script_of beside script steps charge (record value { history = history; held = held; entry_room = entry_room; held_room = held_room })
      (items ++ Noted (entry.Gone pid which) ∷ [])
  given_up_now script steps charge value items s past shared pid which history held entry_room held_room may history_is held_is entries_same held_same =
      subst (λ v. Shares stands_for script_of beside script steps charge v (items ++ Noted (entry.Gone pid which) ∷ []))
      (cc (history_is, held_is, entries_same, held_same))
      (subst (λ k. Shares stands_for script_of beside script steps charge (with_entry value pid (entry.Gone pid k)) (items ++ Noted (entry.Gone pid k) ∷ [])) (sym here.of_kind)
      (behind_gone stands_for script_of beside script steps charge value items s pid (subst (λ l. length l < steps) (sym s.history) here.below) here.given here.ended))
    where
      here : MayGiveUp script steps items s.past pid which
      here = subst (λ p. MayGiveUp script steps items p pid which) (one_past script steps items past s.past shared s.shared) may

  -- a held live process's call is refused
  pub refused_now : (script : Script) (steps : ℕ) (charge : ChargeWord) (value : KernelValue T) (items : List Item) (s : Shares stands_for script_of beside script steps charge value items)
      (past : Past) → IsShared script steps items past → (pid : ℕ) (call : Call) (store : T) (before : ℕ) (history : List Entry) (held : List Held) (awake dozing : List ℕ)
      (entry_room held_room awake_room dozing_room : ℕ) → MayRefuse script steps items past pid call → script_of store ≡ script → stands_for store (refused_in script s.world pid)
      → before ≡ last_pid s.world.plain
      → awake ≡ awake_after (refused_in script s.world pid).plain pid false before value.awake → dozing ≡ dozing_after (refused_in script s.world pid).plain pid false value.dozing
      → history ≡ value.history ++ entry.Refused pid (kind_of call) (bound call) ∷ [] → held ≡ without pid value.held
      → entry_room ≡ value.entry_room → held_room ≡ value.held_room → awake_room ≡ value.awake_room → dozing_room ≡ value.dozing_room
      → Shares stands_for script_of beside script steps charge (record value {
        store = store;
        history = history;
        held = held;
        awake = awake;
        dozing = dozing;
        entry_room = entry_room;
        held_room = held_room;
        awake_room = awake_room;
        dozing_room = dozing_room;
      }) (items ++ Noted (entry.Refused pid (kind_of call) (bound call)) ∷ [])
  refused_now script steps charge value items s past shared pid call store before history held awake dozing entry_room held_room awake_room dozing_room may
      named stands before_is awake_is dozing_is history_is held_is entries_same held_same awake_same dozing_same =
      subst (λ v. Shares stands_for script_of beside script steps charge v (items ++ Noted (entry.Refused pid (kind_of call) (bound call)) ∷ []))
      (cc (awake_is, dozing_is, history_is, held_is, entries_same, held_same, awake_same, dozing_same)) base
    where
      here : MayRefuse script steps items s.past pid call
      here = subst (λ p. MayRefuse script steps items p pid call) (one_past script steps items past s.past shared s.shared) may

      never : room script.heap < bound (call_of script s.past.plain pid)
      never = subst (λ k. room script.heap < bound k) here.is_call here.never_fits

      plain : (past_refused script s.past pid).plain ≡ (refused_in script s.world pid).plain
      plain = ap (λ p. answered script p pid (Fail ENOMEM)) (sym s.plain)

      present : ArePresent (refused_in script s.world pid).plain (awake_after (refused_in script s.world pid).plain pid false before value.awake)
          (dozing_after (refused_in script s.world pid).plain pid false value.dozing)
          (value.history ++ entry.Refused pid (kind_of (call_of script s.past.plain pid)) (bound (call_of script s.past.plain pid)) ∷ [])
      present = present_then script steps charge value items s (past_refused script s.past pid) (refused_in script s.world pid).plain
          (entry.Refused pid (kind_of (call_of script s.past.plain pid)) (bound (call_of script s.past.plain pid))) pid false before
          (refused_legal script s.past pid here.alive never) plain (λ other. refl) (λ other same. refl) before_is

      base : Shares stands_for script_of beside script steps charge (record (with_entry value pid (entry.Refused pid (kind_of call) (bound call))) {
        store = store;
        awake = awake_after (refused_in script s.world pid).plain pid false before value.awake;
        dozing = dozing_after (refused_in script s.world pid).plain pid false value.dozing;
      }) (items ++ Noted (entry.Refused pid (kind_of call) (bound call)) ∷ [])
      base = subst (λ k. Shares stands_for script_of beside script steps charge (record (with_entry value pid (entry.Refused pid (kind_of k) (bound k))) {
        store = store;
        awake = awake_after (refused_in script s.world pid).plain pid false before value.awake;
        dozing = dozing_after (refused_in script s.world pid).plain pid false value.dozing;
      }) (items ++ Noted (entry.Refused pid (kind_of k) (bound k)) ∷ [])) (sym here.is_call)
          (behind_refused stands_for script_of beside script steps charge value items s store
          (awake_after (refused_in script s.world pid).plain pid false before value.awake) (dozing_after (refused_in script s.world pid).plain pid false value.dozing) pid
          (subst (λ l. length l < steps) (sym s.history) here.below) here.given here.alive never named stands present)

  pub turned_now : (script : Script) (steps : ℕ) (charge : ChargeWord) (value : KernelValue T) (items : List Item) (s : Shares stands_for script_of beside script steps charge value items)
      (pid : ℕ) (told : Turned) (store : T) (seat : SeatState) (after : World) (before : ℕ) (history : List Entry) (held : List Held) (awake dozing : List ℕ)
      (entry_room held_room awake_room dozing_room : ℕ) (call : Call) (answer : Attended) → answer ≡ told_of told → MayTurn script steps items s.past pid call
      → value.seat.known.holds + bound call ≤ script.heap → script_of store ≡ script → stands_for store after → TurnsTo script s.world pid call told after
      → beside value.store pid call told store
      → seat.charge ≡ charge → seat.known.is_boot ≡ true → seat.known.holds ≡ live_of after + reserve → before ≡ last_pid s.world.plain
      → awake ≡ awake_after after.plain pid (sleeps_told told) before value.awake → dozing ≡ dozing_after after.plain pid (sleeps_told told) value.dozing
      → history ≡ value.history ++ entry_of pid (kind_of call) told ∷ [] → held ≡ without pid value.held
      → entry_room ≡ value.entry_room → held_room ≡ value.held_room → awake_room ≡ value.awake_room → dozing_room ≡ value.dozing_room
      → Shares stands_for script_of beside script steps charge (record value {
        store = store;
        seat = seat;
        history = history;
        held = held;
        awake = awake;
        dozing = dozing;
        entry_room = entry_room;
        held_room = held_room;
        awake_room = awake_room;
        dozing_room = dozing_room;
      }) (items ++ told_item pid call answer ∷ [])
  turned_now script steps charge value items s pid told store seat after before history held awake dozing entry_room held_room awake_room dozing_room call answer answer_is may
      reserved named stands turns said of_charge boot holds before_is awake_is dozing_is history_is held_is entries_same held_same awake_same dozing_same =
      subst (λ x. Shares stands_for script_of beside script steps charge new (items ++ x ∷ [])) (sym (ap (told_item pid call) answer_is ∙ told_entry pid call told))
      (subst (λ v. Shares stands_for script_of beside script steps charge v (items ++ Noted (entry_of pid (kind_of call) told) ∷ []))
      (cc (awake_is, dozing_is, history_is, held_is, entries_same, held_same, awake_same, dozing_same)) base)
    where
      new : KernelValue T
      new = record value {
        store = store;
        seat = seat;
        history = history;
        held = held;
        awake = awake;
        dozing = dozing;
        entry_room = entry_room;
        held_room = held_room;
        awake_room = awake_room;
        dozing_room = dozing_room;
      }

      own : Call
      own = call_of script s.past.plain pid

      turns_own : TurnsTo script s.world pid (call_of script s.past.plain pid) told after
      turns_own = subst (λ k. TurnsTo script s.world pid k told after) may.is_call turns

      fits_own : bound (call_of script s.past.plain pid) ≤ room script.heap
      fits_own = subst (λ k. bound k ≤ room script.heap) may.is_call may.fits

      leads : TurnLeads script s.past pid told after.plain
      leads = turn_of stands_for script_of beside script steps charge value items s after pid told may.given may.alive fits_own turns_own

      present : ArePresent after.plain (awake_after after.plain pid (sleeps_told told) before value.awake) (dozing_after after.plain pid (sleeps_told told) value.dozing)
          (value.history ++ entry_of pid (kind_of (call_of script s.past.plain pid)) told ∷ [])
      present = present_then script steps charge value items s leads.next after.plain (entry_of pid (kind_of (call_of script s.past.plain pid)) told) pid (sleeps_told told) before
          leads.follows leads.plain_is (entry_is_of pid (kind_of (call_of script s.past.plain pid)) told) (entry_sleeps pid (kind_of (call_of script s.past.plain pid)) told) before_is

      base : Shares stands_for script_of beside script steps charge (record (with_entry value pid (entry_of pid (kind_of call) told)) {
        store = store;
        seat = seat;
        awake = awake_after after.plain pid (sleeps_told told) before value.awake;
        dozing = dozing_after after.plain pid (sleeps_told told) value.dozing;
      }) (items ++ Noted (entry_of pid (kind_of call) told) ∷ [])
      base = subst (λ k. Shares stands_for script_of beside script steps charge (record (with_entry value pid (entry_of pid (kind_of k) told)) {
        store = store;
        seat = seat;
        awake = awake_after after.plain pid (sleeps_told told) before value.awake;
        dozing = dozing_after after.plain pid (sleeps_told told) value.dozing;
      }) (items ++ Noted (entry_of pid (kind_of k) told) ∷ [])) (sym may.is_call)
          (behind_turn stands_for script_of beside script steps charge value items s store seat
          (awake_after after.plain pid (sleeps_told told) before value.awake) (dozing_after after.plain pid (sleeps_told told) value.dozing) after pid told
          (subst (λ l. length l < steps) (sym s.history) may.below) may.given may.alive fits_own
          (subst (λ k. value.seat.known.holds + bound k ≤ script.heap) may.is_call reserved) named stands turns_own
          (subst (λ k. beside value.store pid k told store) may.is_call said) of_charge boot holds present)
