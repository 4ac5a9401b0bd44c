-- The kernel's value stands for what it stood for, with an entry behind it.
use Rattle.std.proofs.Common.{◌≡◌, ℕ, ◌+◌, ◌<◌, ◌≤◌, ◌==◌, ◌||◌, not, Bool, true, false, true≢false, List, [], ◌∷◌, ◌++◌, length, refl, ap, sym, ◌∙◌, subst, arith}
use Rattle.kabi_types.specs.Call.{kind_of}
use Rattle.kabi_types.specs.declared.calls.Call.{Call}
use Rattle.kabi_types.specs.declared.calls.CallKind.{CallKind}
use Rattle.kabi_types.specs.declared.entries.Cached.{Cached}
use Rattle.kabi_types.specs.declared.entries.Cached.TheVariants.{Name, Block, Vnode}
use Rattle.kabi_types.specs.declared.entries.Entry.TheVariants as entry
use Rattle.kabi_types.specs.declared.scripts.Script.{Script}
use Rattle.kabi_types.specs.Class.{size}
use Rattle.kabi_types.specs.declared.errnos.Errno.TheVariants.{ENOMEM}
use Rattle.kabi_types.specs.declared.replies.Reply.TheVariants.{Fail}
use Rattle.posix_defs.specs.declared.turner.Turned.{Turned}
use Rattle.posix_defs.specs.declared.turner.Turned.TheVariants as turned
use Rattle.posix_defs.specs.Answer.{Answer, Blocked, Done, Ended, Part}
use Rattle.posix_defs.specs.CoreEvent.{entry_of, refusal}
use Rattle.posix_defs.specs.CoreState.{asked_by}
use Rattle.posix_defs.specs.History.{Past, IsGone, MayFollow, moves_on, others}
use Rattle.posix_defs.specs.Licence.{can_evict_any}
use Rattle.posix_defs.specs.Machine.{machine}
use Rattle.posix_defs.specs.Needs.{bound, need_of}
use Rattle.posix_defs.specs.Plain.{Plain, answered, call_of}
use Rattle.posix_defs.specs.Process.{is_alive}
use Rattle.posix_defs.specs.Relief.{Evicts, refused_in}
use Rattle.posix_defs.specs.Sizes.{reserve, room}
use Rattle.posix_defs.specs.Turn.{Answers, Tells, TurnsTo, TurnsWhere, account_after}
use Rattle.posix_defs.specs.World.{Kept, World, MayKeep, base, cached, can_evict, live_of}
use Rattle.kern_laws.specs.Filled.{AreFilled}
use Rattle.kern_laws.proofs.Caches.{SizesAfter, sizes_left}
use Rattle.kern_laws.proofs.Followed.{TurnLeads, eviction_leads, filled_turn, kill_leads, killed_legal, past_evicted, past_killed, past_refused, refused_legal, turn_legal}
use Rattle.kern_laws.proofs.LivingVictim.{victim_lives}
use Rattle.charge_words.specs.Names.{ChargeWord, SeatState}
use Rattle.turn_words.specs.declared.items.Item.{Item}
use Rattle.turn_words.specs.declared.items.Item.TheVariants.{Cleared, Noted}
use Rattle.turn_words.specs.Items.{is_given, is_own_entry}
use Rattle.turn_words.proofs.Held.{contrary, not_true}
use Rattle.kern_shared.specs.Led.{Leads, TurnsOver, goes_on}
use Rattle.kern_shared.specs.Shared.{MayNote, MayShare, has_starved, is_turn}
use Rattle.kern_shared.specs.Shares.{ArePresent, KernelValue, NothingBefore, Shares, StandsBehindCleared, StandsBehindGone, StandsBehindKilled, StandsBehindRefused, StandsBehindTurn, class_of, killed_for, with_entry}
use Rattle.kern_shared.proofs.Behind.{behind, starved_same}
use Rattle.kern_shared.proofs.Holding.{held_less, held_still}
use Rattle.kern_shared.proofs.Keeping.{before_starved}
use Rattle.kern_shared.proofs.Presence.{present_gone, present_still}
use Rattle.kern_shared.proofs.Runs.{held_up}
use Rattle.kern_shared.proofs.Standing.{held_made, held_not_gone}

-- the entry is of the process, which is held
told_by_held : (items : List Item) (past : Past) (pid : ℕ) (which : CallKind) (told : Turned) → is_given pid items ≡ true → MayNote items past (entry_of pid which told)
told_by_held items past pid which (turned.Done _) is_held = is_held
told_by_held items past pid which (turned.Part _) is_held = is_held
told_by_held items past pid which turned.Sleep is_held = is_held
told_by_held items past pid which (turned.Ended _) is_held = is_held
told_by_held items past pid which turned.Gone is_held = is_held

-- an entry of a process's own is one of nobody else
only_own : (pid other : ℕ) (which : CallKind) (told : Turned) → is_own_entry other (entry_of pid which told) ≡ (pid == other)
only_own pid other which (turned.Done _) = refl
only_own pid other which (turned.Part _) = refl
only_own pid other which turned.Sleep = refl
only_own pid other which (turned.Ended _) = refl
only_own pid other which turned.Gone = refl

-- the objects of one cache more, in bytes
one_more_cached : (old new : Kept) (what : Cached) → SizesAfter old what new → cached new + size (class_of what) ≡ cached old
one_more_cached old new Name sizes = omega (arith, sizes.0, sizes.1, sizes.2)
one_more_cached old new Block sizes = omega (arith, sizes.0, sizes.1, sizes.2)
one_more_cached old new Vnode sizes = omega (arith, sizes.0, sizes.1, sizes.2)

-- an eviction frees an object of its class
frees_one : (old : World) (what : Cached) (new : World) → Evicts old what new → live_of new + size (class_of what) ≡ live_of old
frees_one old what new evicts =
    let same : base new.plain new.account ≡ base old.plain old.account = ap (λ p. base p new.account) evicts.plain ∙ ap (base old.plain) evicts.account in
    let less : cached new.kept + size (class_of what) ≡ cached old.kept =
    one_more_cached old.kept new.kept what (sizes_left old.plain old.kept what new.kept evicts.kept) in
    omega (arith, same, less)

-- and leaves those that were emptied before
still_before : (old : World) (what : Cached) (new : World) → Evicts old what new → NothingBefore old what → NothingBefore new what
still_before old Name new evicts before = tt
still_before old Block new evicts before = ap (λ k. not (length k.names == 0)) evicts.kept.2 ∙ before
still_before old Vnode new evicts before = (ap (λ k. not (length k.names == 0)) evicts.kept.3 ∙ before.0, ap (λ k. not (length k.blocks == 0)) evicts.kept.3 ∙ before.1)

-- nothing can be evicted where no cache can lose something
not_that : (world : World) (what : Cached) → can_evict world.plain world.kept what ≡ true → can_evict_any world ≡ false → ⊥
not_that world what can none = by_cache what can
  where
    three : (a b c : Bool) → (a || b || c) ≡ false → (a ≡ false) × (b ≡ false) × (c ≡ false)
    three true b c h = absurd (true≢false h)
    three false true c h = absurd (true≢false h)
    three false false c h = (refl, refl, h)

    of_all : (can_evict world.plain world.kept Name ≡ false) × (can_evict world.plain world.kept Block ≡ false) × (can_evict world.plain world.kept Vnode ≡ false)
    of_all = three (can_evict world.plain world.kept Name) (can_evict world.plain world.kept Block) (can_evict world.plain world.kept Vnode) none

    by_cache : (w : Cached) → can_evict world.plain world.kept w ≡ true → ⊥
    by_cache Name is = contrary (can_evict world.plain world.kept Name) is of_all.0
    by_cache Block is = contrary (can_evict world.plain world.kept Block) is of_all.1
    by_cache Vnode is = contrary (can_evict world.plain world.kept Vnode) is of_all.2

-- POSIX answers no call so that its process had ended before
never_gone : (given : Answer) (old new : Plain) → Tells given old turned.Gone new → ⊥
never_gone Blocked old new tells = cc
never_gone (Done reply next) old new tells = cc
never_gone (Part moved next) old new tells = cc
never_gone (Ended status next) old new tells = cc

-- a turn of a live process's call leads where its entry does
turn_leads : {T : Type 0} {beside : T → ℕ → Call → Turned → T → Type 0} (script : Script) (old : World) (before : T) (pid : ℕ) (which : CallKind) (told : Turned) (new : World) (after : T)
    → is_alive old.plain.table pid ≡ true → TurnsOver beside script old before pid told new after → Leads beside script old before (entry_of pid which told) new after
turn_leads script old before pid which (turned.Done _) new after alive over = over
turn_leads script old before pid which (turned.Part _) new after alive over = over
turn_leads script old before pid which turned.Sleep new after alive over = over
turn_leads script old before pid which (turned.Ended _) new after alive over = over
turn_leads script old before pid which turned.Gone new after alive over =
    let answers : Answers script old pid (call_of script old.plain pid) turned.Gone new =
    subst (λ b. TurnsWhere b script old pid (call_of script old.plain pid) turned.Gone new) alive over.turns in
    absurd (never_gone (machine script old.plain pid (call_of script old.plain pid)) old.plain new.plain answers.answer)

module _ {T : Type 0} (stands_for : T → World → Type 0) (script_of : T → Script) (beside : T → ℕ → Call → Turned → T → Type 0) where
  -- an entry of a turn or of a Gone, and what the store, its seat and who is live are then
  behind_told : (script : Script) (steps : ℕ) (charge : ChargeWord) (value : KernelValue T) (items : List Item) (s : Shares stands_for script_of beside script steps charge value items)
      (store : T) (seat : SeatState) (awake dozing : List ℕ) (after : World) (next : Past) (pid : ℕ) (told : Turned) (which : CallKind)
      → length value.history < steps → is_given pid items ≡ true → MayFollow script s.past (entry_of pid which told) next
      → (is_turn (Noted (entry_of pid which told)) ≡ true → has_starved items ≡ false)
      → script_of store ≡ script → stands_for store after → Leads beside script s.world value.store (entry_of pid which told) after store
      → after.plain ≡ next.plain → after.account ≡ next.account → MayKeep after.plain after.kept → AreFilled after.kept next
      → ArePresent after.plain awake dozing (value.history ++ entry_of pid which told ∷ [])
      → (has_starved items ≡ true → can_evict_any after ≡ false)
      → seat.charge ≡ charge → seat.known.is_boot ≡ true → seat.known.holds ≡ live_of after + reserve
      → Shares stands_for script_of beside script steps charge (record (with_entry value pid (entry_of pid which told)) { store = store; seat = seat; awake = awake; dozing = dozing })
      (items ++ Noted (entry_of pid which told) ∷ [])
  behind_told script steps charge value items s store seat awake dozing after next pid told which below is_held follows turns named stands leads plain account may_keep filled
      present bare of_charge boot holds =
      let e = entry_of pid which told in
      let may : MayShare script steps items s.past (Noted e) next =
      (subst (λ l. length l < steps) s.history below, told_by_held items s.past pid which told is_held, follows) in
      behind stands_for script_of beside script steps charge value (record (with_entry value pid e) { store = store; seat = seat; awake = awake; dozing = dozing }) items s (Noted e) (record {
        next = next;
        world = after;
        may = may;
        turns = turns;
        named = named;
        stands = stands;
        led = goes_on value.history s.world after value.store store e s.led leads stands;
        plain = plain;
        account = account;
        may_keep = may_keep;
        filled = filled;
        history = refl;
        held = held_less script steps items s.past next (Noted e) value.held pid s.shared may (λ other. only_own pid other which told) (λ other. refl) s.held;
        present = subst (λ p. ArePresent p awake dozing (value.history ++ e ∷ [])) plain present;
        starved = s.starved ∙ sym (starved_same items (Noted e) refl);
        bare = λ starved. bare (sym (starved_same items (Noted e) refl) ∙ starved);
        told = tt;
        of_charge = of_charge;
        boot = boot;
        holds = holds;
        limit = refl;
        same_heap = refl;
        room = s.room;
      })

  pub behind_gone : StandsBehindGone stands_for script_of beside
  behind_gone script steps charge value items s pid below is_held ended =
      let which = kind_of (call_of script s.past.plain pid) in
      let next : Past = record (moves_on script s.past s.past.plain s.past.account (others pid s.past.asleep)) { gone = pid ∷ s.past.gone } in
      let gone : IsGone script s.past pid which next = record {
        made = held_made script steps items s.past s.shared pid is_held;
        ended = ended;
        first = held_not_gone script steps items s.past s.shared pid is_held;
        of_kind = refl;
        leads = refl;
      } in
      behind_told script steps charge value items s value.store value.seat value.awake value.dozing s.world next pid turned.Gone which below is_held gone
      (λ turn. absurd (true≢false (sym turn))) s.named s.stands (refl, refl) s.plain s.account s.may_keep
      (record { names = s.filled.names; blocks = s.filled.blocks; vnodes = s.filled.vnodes })
      (subst (λ p. ArePresent p value.awake value.dozing (value.history ++ entry.Gone pid which ∷ [])) (sym s.plain) (present_gone s.past.plain value.awake value.dozing value.history pid which ended s.present))
      s.bare s.of_charge s.boot s.holds

  -- where a turn of a held live process's call leads the value's history
  pub turn_of : (script : Script) (steps : ℕ) (charge : ChargeWord) (value : KernelValue T) (items : List Item) (s : Shares stands_for script_of beside script steps charge value items)
      (after : World) (pid : ℕ) (told : Turned) → is_given pid items ≡ true → is_alive s.past.plain.table pid ≡ true → bound (call_of script s.past.plain pid) ≤ room script.heap
      → TurnsTo script s.world pid (call_of script s.past.plain pid) told after → TurnLeads script s.past pid told after.plain
  turn_of script steps charge value items s after pid told is_held alive fits turns =
      let lives : is_alive s.world.plain.table pid ≡ true = subst (λ (p : Plain). is_alive p.table pid ≡ true) (sym s.plain) alive in
      let answers : Answers script s.world pid (call_of script s.past.plain pid) told after =
      subst (λ b. TurnsWhere b script s.world pid (call_of script s.past.plain pid) told after) lives turns in
      turn_legal script s.past pid told after.plain alive (held_up script steps items s.past s.shared pid is_held) fits
      (subst (λ p. Tells (machine script p pid (call_of script s.past.plain pid)) p told after.plain) s.plain answers.answer)

  pub behind_turn : StandsBehindTurn stands_for script_of beside
  behind_turn script steps charge value items s store seat awake dozing after pid told below is_held alive fits reserved named stands turns said of_charge boot holds present =
      behind_told script steps charge value items s store seat awake dozing after leads.next pid told (kind_of call) below is_held leads.follows (λ _. none)
      named stands (turn_leads script s.world value.store pid (kind_of call) told after store lives over) (sym leads.plain_is) account answers.may_keep
      (filled_turn s.past leads.next s.world.kept after.kept (need_of call) s.filled leads.filled leads.evicted answers.names answers.blocks answers.vnodes)
      present (λ starved. contrary (has_starved items) starved none) of_charge boot holds
    where
      call : Call
      call = call_of script s.past.plain pid

      lives : is_alive s.world.plain.table pid ≡ true
      lives = subst (λ (p : Plain). is_alive p.table pid ≡ true) (sym s.plain) alive

      answers : Answers script s.world pid (call_of script s.past.plain pid) told after
      answers = subst (λ b. TurnsWhere b script s.world pid (call_of script s.past.plain pid) told after) lives turns

      over : TurnsOver beside script s.world value.store pid told after store
      over = record {
        turns = subst (λ p. TurnsTo script s.world pid (call_of script p pid) told after) (sym s.plain) turns;
        says = subst (λ p. beside value.store pid (call_of script p pid) told store) (sym s.plain) said;
      }

      none : has_starved items ≡ false
      none = sym s.starved ∙ before_starved stands_for script_of beside script steps charge value items s pid alive reserved

      leads : TurnLeads script s.past pid told after.plain
      leads = turn_of script steps charge value items s after pid told is_held alive fits turns

      account : after.account ≡ leads.next.account
      account = answers.account
          ∙ ap (λ a. account_after a s.world.plain pid (call_of script s.past.plain pid) (machine script s.world.plain pid (call_of script s.past.plain pid))) s.account
          ∙ ap (λ p. account_after s.past.account p pid (call_of script s.past.plain pid) (machine script p pid (call_of script s.past.plain pid))) s.plain
          ∙ sym leads.account_is

  pub behind_refused : StandsBehindRefused stands_for script_of beside
  behind_refused script steps charge value items s store awake dozing pid below is_held alive never named stands present =
      let e = refusal pid (asked_by script s.past.plain pid) in
      let next = past_refused script s.past pid in
      let may : MayShare script steps items s.past (Noted e) next =
      (subst (λ l. length l < steps) s.history below, is_held, refused_legal script s.past pid alive never) in
      let plain : (refused_in script s.world pid).plain ≡ next.plain = ap (λ p. answered script p pid (Fail ENOMEM)) s.plain in
      behind stands_for script_of beside script steps charge value (record (with_entry value pid e) { store = store; awake = awake; dozing = dozing }) items s (Noted e) (record {
        next = next;
        world = refused_in script s.world pid;
        may = may;
        turns = λ turn. absurd (true≢false (sym turn));
        named = named;
        stands = stands;
        led = goes_on value.history s.world (refused_in script s.world pid) value.store store e s.led refl stands;
        plain = plain;
        account = s.account;
        may_keep = record {
          names = s.may_keep.names;
          blocks = s.may_keep.blocks;
          vnodes = s.may_keep.vnodes;
          pinned = s.may_keep.pinned;
          true_names = s.may_keep.true_names;
          on_disk = s.may_keep.on_disk;
          in_use = s.may_keep.in_use;
        };
        filled = record { names = s.filled.names; blocks = s.filled.blocks; vnodes = s.filled.vnodes };
        history = refl;
        held = held_less script steps items s.past next (Noted e) value.held pid s.shared may (λ other. refl) (λ other. refl) s.held;
        present = subst (λ p. ArePresent p awake dozing (value.history ++ e ∷ [])) plain present;
        starved = s.starved ∙ sym (starved_same items (Noted e) refl);
        bare = λ starved. s.bare (sym (starved_same items (Noted e) refl) ∙ starved);
        told = tt;
        of_charge = s.of_charge;
        boot = s.boot;
        holds = s.holds;
        limit = refl;
        same_heap = refl;
        room = s.room;
      })

  pub behind_killed : StandsBehindKilled stands_for script_of beside
  behind_killed script steps charge value items s store seat awake dozing after pid waiter below is_held alive fits full bare victim named stands kills of_charge boot holds present =
      let e = killed_for script s.past s.world pid waiter in
      let next = past_killed script s.past pid in
      let follows : MayFollow script s.past e next =
      killed_legal script s.past s.world pid waiter s.plain s.account s.may_keep bare victim alive (held_up script steps items s.past s.shared waiter is_held) fits
      (subst (λ n. script.heap < n + bound (call_of script s.past.plain waiter)) s.holds full) in
      let may : MayShare script steps items s.past (Noted e) next = (subst (λ l. length l < steps) s.history below, (waiter, is_held, alive), follows) in
      let leads = kill_leads script s.past s.world pid after (sym s.plain) (sym s.account) s.filled kills in
      let lives = victim_lives script.policy s.past.plain s.past.account pid victim in
      let none : has_starved items ≡ false = not_true (has_starved items) (λ starved. lives.1 ((s.still starved).alone pid lives.0)) in
      behind stands_for script_of beside script steps charge value
      (record value { history = value.history ++ e ∷ []; store = store; seat = seat; awake = awake; dozing = dozing }) items s (Noted e) (record {
        next = next;
        world = after;
        may = may;
        turns = λ turn. absurd (true≢false (sym turn));
        named = named;
        stands = stands;
        led = goes_on value.history s.world after value.store store e s.led kills stands;
        plain = sym leads.plain_is;
        account = sym leads.account_is;
        may_keep = kills.may_keep;
        filled = leads.filled;
        history = refl;
        held = held_still script steps items s.past next (Noted e) value.held s.shared may (λ other. refl) s.held;
        present = subst (λ p. ArePresent p awake dozing (value.history ++ e ∷ [])) (sym leads.plain_is) present;
        starved = s.starved ∙ sym (starved_same items (Noted e) refl);
        bare = λ starved. contrary (has_starved items) (sym (starved_same items (Noted e) refl) ∙ starved) none;
        told = tt;
        of_charge = of_charge;
        boot = boot;
        holds = holds;
        limit = refl;
        same_heap = refl;
        room = s.room;
      })

  pub behind_cleared : StandsBehindCleared stands_for script_of beside
  behind_cleared script steps charge value items s store seat after what below live_held before can named stands evicts of_charge boot holds =
      let x = Cleared what (live_of s.world) in
      let next = past_evicted script s.past what in
      let leads = eviction_leads script s.past s.world what after s.may_keep s.filled evicts in
      let may : MayShare script steps items s.past x next = (subst (λ l. length l < steps) s.history below, live_held, leads.follows) in
      behind stands_for script_of beside script steps charge value (record value { history = value.history ++ entry.Evicted what ∷ []; store = store; seat = seat }) items s x (record {
        next = next;
        world = after;
        may = may;
        turns = λ turn. absurd (true≢false (sym turn));
        named = named;
        stands = stands;
        led = goes_on value.history s.world after value.store store (entry.Evicted what) s.led evicts stands;
        plain = evicts.plain ∙ s.plain;
        account = evicts.account ∙ s.account;
        may_keep = leads.may_keep;
        filled = leads.filled;
        history = refl;
        held = held_still script steps items s.past next x value.held s.shared may (λ other. refl) s.held;
        present = present_still s.past.plain value.awake value.dozing value.history (entry.Evicted what) (λ pid. refl) s.present;
        starved = s.starved ∙ sym (starved_same items x refl);
        bare = λ starved. absurd (not_that s.world what can (s.bare (sym (starved_same items x refl) ∙ starved)));
        told = (frees_one s.world what after evicts, still_before s.world what after evicts before);
        of_charge = of_charge;
        boot = boot;
        holds = holds;
        limit = refl;
        same_heap = refl;
        room = s.room;
      })
