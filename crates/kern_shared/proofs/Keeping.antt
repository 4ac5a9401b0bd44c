-- The kernel's value at boot, and with an item behind it that isn't an entry.
use Rattle.std.proofs.Common.{◌≡◌, ℕ, zero, suc, ◌+◌, ◌≤◌, ◌==◌, ◌||◌, ◌&&◌, Bool, true, false, true≢false, List, [], ◌∷◌, ◌++◌, length, refl, ap, sym, ◌∙◌, subst, arith, append-nil}
use Rattle.std.proofs.lemmas.Bool.{eqb-true}
use Rattle.std.proofs.lemmas.List.{length-map}
use Rattle.kabi_types.specs.declared.calls.Call.{Call}
use Rattle.kabi_types.specs.declared.entries.Entry.{Entry}
use Rattle.kabi_types.specs.declared.scripts.Script.{Script}
use Rattle.posix_defs.specs.declared.turner.Turned.{Turned}
use Rattle.posix_defs.specs.CoreRun.{IsCoreRun, boots}
use Rattle.posix_defs.specs.CoreState.{boot_state}
use Rattle.posix_defs.specs.History.{boot_past, is_among}
use Rattle.posix_defs.specs.Licence.{can_evict_any}
use Rattle.posix_defs.specs.Files.Descriptors.{none_open}
use Rattle.posix_defs.specs.Memory.{no_places}
use Rattle.posix_defs.specs.Needs.{bound}
use Rattle.posix_defs.specs.Plain.{boot_plain, call_of, last_pid}
use Rattle.posix_defs.specs.Process.{is_alive}
use Rattle.posix_defs.specs.Sizes.{fixed}
use Rattle.posix_defs.specs.World.{World, boot_world, live_of}
use Rattle.kern_laws.proofs.Sounds.{is_sound}
use Rattle.charge_words.specs.Names.{ChargeWord, SeatState}
use Rattle.turn_words.specs.declared.items.Item.{Item}
use Rattle.turn_words.specs.declared.items.Item.TheVariants.{Given, Back, Starved, Live}
use Rattle.turn_words.specs.Items.{entry_of, is_given, noted}
use Rattle.turn_words.proofs.Held.{not_true}
use Rattle.kern_shared.specs.declared.held.Held.{Held}
use Rattle.kern_shared.specs.Led.{starts as begins}
use Rattle.kern_shared.specs.Shared.{MayShare, has_starved, is_turn, starts}
use Rattle.kern_shared.specs.Shares.{AreHeld, FewAreHeld, HasRoom, IsTold, KernelValue, ReservedBeforeStarved, Shares, StandsAtBoot, StandsBehindBack, StandsBehindGiven, StandsBehindLive, StandsBehindStarved, at_start, pids_of, without}
use Rattle.kern_shared.proofs.Behind.{behind, starved_more, starved_same}
use Rattle.kern_shared.proofs.Holding.{held_less, held_more, held_still}
use Rattle.kern_shared.proofs.Pids.{few_among}
use Rattle.kern_shared.proofs.Runs.{entries_run}
use Rattle.kern_shared.proofs.Standing.{few_made, held_made}
use Rattle.kern_shared.proofs.Starving.{no_room}

-- the first process alone is alive at boot
one_present : (script : Script) (pid : ℕ) → is_among pid (1 ∷ []) ≡ (is_alive (boot_plain script).table pid && true)
one_present script zero = refl
one_present script (suc zero) = refl
one_present script (suc (suc n)) = ap (λ (b : Bool). b || false) (not_true (1 == suc (suc n)) (λ e. let same : 1 ≡ suc (suc n) = eqb-true 1 (suc (suc n)) e in absurd (omega arith)))

none_dozing : (b : Bool) → false ≡ (b && false)
none_dozing true = refl
none_dozing false = refl

module _ {T : Type 0} (stands_for : T → World → Type 0) (script_of : T → Script) (beside : T → ℕ → Call → Turned → T → Type 0) where
  pub at_boot : StandsAtBoot stands_for script_of beside
  unfolding no_places none_open
  at_boot store seat steps total entry_room held_room awake_room dozing_room stands boot holds heap same_heap room = record {
    past = boot_past (script_of store);
    world = boot_world (script_of store);
    shared = starts;
    named = refl;
    stands = stands;
    led = begins store stands;
    plain = refl;
    account = refl;
    may_keep = (let run : IsCoreRun (script_of store) 0 [] (boot_state (script_of store)) = boots in (is_sound run).may_keep);
    filled = record { names = omega arith; blocks = omega arith; vnodes = omega arith };
    history = refl;
    held = record { pids = λ pid. refl; once = tt; bounds = tt };
    present = record {
      awake_are = one_present (script_of store);
      dozing_are = λ pid. none_dozing (is_alive (boot_plain (script_of store)).table pid);
      awake_once = (tt, tt);
      dozing_once = tt;
    };
    starved = refl;
    still = λ starved. absurd (true≢false (sym starved));
    bare = λ starved. absurd (true≢false (sym starved));
    told = tt;
    of_charge = refl;
    boot = boot;
    holds = holds;
    heap = heap;
    limit = refl;
    same_heap = same_heap;
    room = room;
  }

  -- an item without an entry, which leaves the store, its seat and who is live
  quietly : (script : Script) (steps : ℕ) (charge : ChargeWord) (value : KernelValue T) (items : List Item) (s : Shares stands_for script_of beside script steps charge value items)
      (x : Item) (held : List Held) (starved : Bool) → MayShare script steps items s.past x s.past → entry_of x ≡ [] → is_turn x ≡ false
      → AreHeld script s.past.plain held (items ++ x ∷ []) → starved ≡ has_starved (items ++ x ∷ [])
      → IsTold s.world x → (has_starved (items ++ x ∷ []) ≡ true → can_evict_any s.world ≡ false)
      → Shares stands_for script_of beside script steps charge (record value { held = held; starved = starved }) (items ++ x ∷ [])
  quietly script steps charge value items s x held starved may none no_turn are answered tells bare =
      behind stands_for script_of beside script steps charge value (record value { held = held; starved = starved }) items s x (record {
        next = s.past;
        world = s.world;
        may = may;
        turns = λ turn. absurd (true≢false (sym turn ∙ no_turn));
        named = s.named;
        stands = s.stands;
        led = s.led;
        plain = s.plain;
        account = s.account;
        may_keep = s.may_keep;
        filled = s.filled;
        history = sym (ap (λ l. value.history ++ l) none ∙ append-nil value.history);
        held = are;
        present = s.present;
        starved = answered;
        bare = bare;
        told = tells;
        of_charge = s.of_charge;
        boot = s.boot;
        holds = s.holds;
        limit = refl;
        same_heap = refl;
        room = s.room;
      })

  pub behind_given : StandsBehindGiven stands_for script_of beside
  behind_given script steps charge value items s h may is_bound =
      quietly script steps charge value items s (Given h.pid) (value.held ++ h ∷ []) value.starved (may, refl) refl refl
      (held_more script items s.past value.held h may.free is_bound s.held)
      (s.starved ∙ sym (starved_same items (Given h.pid) refl)) tt
      (λ starved. s.bare (sym (starved_same items (Given h.pid) refl) ∙ starved))

  pub behind_back : StandsBehindBack stands_for script_of beside
  behind_back script steps charge value items s pid is_held =
      let may : MayShare script steps items s.past (Back pid) s.past = (is_held, refl) in
      quietly script steps charge value items s (Back pid) (without pid value.held) value.starved may refl refl
      (held_less script steps items s.past s.past (Back pid) value.held pid s.shared may (λ other. refl) (λ other. refl) s.held)
      (s.starved ∙ sym (starved_same items (Back pid) refl)) tt
      (λ starved. s.bare (sym (starved_same items (Back pid) refl) ∙ starved))

  pub behind_live : StandsBehindLive stands_for script_of beside
  behind_live script steps charge value items s =
      let n = live_of s.world in
      quietly script steps charge value items s (Live n) value.held value.starved refl refl refl
      (held_still script steps items s.past s.past (Live n) value.held s.shared refl (λ pid. refl) s.held)
      (s.starved ∙ sym (starved_same items (Live n) refl)) refl
      (λ starved. s.bare (sym (starved_same items (Live n) refl) ∙ starved))

  pub behind_starved : StandsBehindStarved stands_for script_of beside
  behind_starved script steps charge value items s is_held starves bare =
      let may : MayShare script steps items s.past Starved s.past = (is_held, starves, refl) in
      quietly script steps charge value items s Starved value.held true may refl refl
      (held_still script steps items s.past s.past Starved value.held s.shared may (λ pid. refl) s.held)
      (sym (starved_more items Starved ∙ or_true (has_starved items))) tt (λ _. bare)
    where
      or_true : (b : Bool) → (b || true) ≡ true
      or_true true = refl
      or_true false = refl

  pub before_starved : ReservedBeforeStarved stands_for script_of beside
  before_starved script steps charge value items s pid alive fits =
      s.starved ∙ no_room script items s.past s.world pid s.still s.plain s.account s.may_keep alive
      (subst (λ n. n + bound (call_of script s.past.plain pid) ≤ script.heap) s.holds fits)

  -- the same where the run has names of its own for what is at hand
  pub named_at_boot : (script : Script) (steps limit : ℕ) (charge : ChargeWord) (store : T) (seat : SeatState) (history : List Entry) (held : List Held) (awake dozing : List ℕ)
      (total entry_room held_room awake_room dozing_room : ℕ)
      → script ≡ script_of store → steps ≡ limit → charge ≡ seat.charge → history ≡ [] → held ≡ [] → awake ≡ 1 ∷ [] → dozing ≡ []
      → stands_for store (boot_world (script_of store)) → seat.known.is_boot ≡ true → seat.known.holds ≡ fixed → seat.charge.heap ≡ (script_of store).heap → total ≡ (script_of store).heap
      → HasRoom limit entry_room held_room awake_room dozing_room
      → Shares stands_for script_of beside script steps charge
      (record (at_start store seat limit total entry_room held_room awake_room dozing_room) { history = history; held = held; awake = awake; dozing = dozing }) []
  named_at_boot script steps limit charge store seat history held awake dozing total entry_room held_room awake_room dozing_room
      script_is steps_is charge_is history_is held_is awake_is dozing_is stands boot holds heap same_heap room =
      subst (λ sc. Shares stands_for script_of beside sc steps charge (value history held awake dozing) []) (sym script_is)
      (subst (λ n. Shares stands_for script_of beside (script_of store) n charge (value history held awake dozing) []) (sym steps_is)
      (subst (λ w. Shares stands_for script_of beside (script_of store) limit w (value history held awake dozing) []) (sym charge_is)
      (subst (λ l. Shares stands_for script_of beside (script_of store) limit seat.charge (value l held awake dozing) []) (sym history_is)
      (subst (λ l. Shares stands_for script_of beside (script_of store) limit seat.charge (value [] l awake dozing) []) (sym held_is)
      (subst (λ l. Shares stands_for script_of beside (script_of store) limit seat.charge (value [] [] l dozing) []) (sym awake_is)
      (subst (λ l. Shares stands_for script_of beside (script_of store) limit seat.charge (value [] [] (1 ∷ []) l) []) (sym dozing_is)
      (at_boot store seat limit total entry_room held_room awake_room dozing_room stands boot holds heap same_heap room)))))))
    where
      value : List Entry → List Held → List ℕ → List ℕ → KernelValue T
      value entries pids up sleepers =
          record (at_start store seat limit total entry_room held_room awake_room dozing_room) { history = entries; held = pids; awake = up; dozing = sleepers }

  -- another state of its charge seat that holds as much
  pub seated : (script : Script) (steps : ℕ) (charge : ChargeWord) (value : KernelValue T) (items : List Item) → Shares stands_for script_of beside script steps charge value items
      → (seat : SeatState) → seat.charge ≡ charge → seat.known.is_boot ≡ true → seat.known.holds ≡ value.seat.known.holds
      → Shares stands_for script_of beside script steps charge (record value { seat = seat }) items
  seated script steps charge value items s seat of_charge boot holds = record {
    past = s.past;
    world = s.world;
    shared = s.shared;
    named = s.named;
    stands = s.stands;
    led = s.led;
    plain = s.plain;
    account = s.account;
    may_keep = s.may_keep;
    filled = s.filled;
    history = s.history;
    held = s.held;
    present = s.present;
    starved = s.starved;
    still = s.still;
    bare = s.bare;
    told = s.told;
    of_charge = of_charge;
    boot = boot;
    holds = holds ∙ s.holds;
    heap = s.heap;
    limit = s.limit;
    same_heap = s.same_heap;
    room = s.room;
  }

  -- a process is taken back, in a list with the same room
  pub released : (script : Script) (steps : ℕ) (charge : ChargeWord) (value : KernelValue T) (pid : ℕ) (held : List Held) (held_room : ℕ)
      → held ≡ without pid value.held → held_room ≡ value.held_room
      → (items : List Item) → Shares stands_for script_of beside script steps charge value items → is_given pid items ≡ true
      → Shares stands_for script_of beside script steps charge (record value { held = held; held_room = held_room }) (items ++ Back pid ∷ [])
  released script steps charge value pid held held_room held_is room_is items s is_held =
      subst (λ l. Shares stands_for script_of beside script steps charge (record value { held = l; held_room = held_room }) (items ++ Back pid ∷ [])) (sym held_is)
      (subst (λ n. Shares stands_for script_of beside script steps charge (record value { held = without pid value.held; held_room = n }) (items ++ Back pid ∷ [])) (sym room_is)
      (behind_back script steps charge value items s pid is_held))

  pub few_held : FewAreHeld stands_for script_of beside
  few_held script steps charge value items s =
      let most : length (pids_of value.held) ≤ last_pid s.past.plain =
      few_among (pids_of value.held) (last_pid s.past.plain) s.held.once (λ pid among. held_made script steps items s.past s.shared pid (sym (s.held.pids pid) ∙ among)) in
      let many : last_pid s.past.plain ≤ length (noted items) + 1 = few_made script (noted items) s.past (entries_run script steps items s.past s.shared) in
      let same : length value.history ≡ length (noted items) = ap length s.history in
      let all : length (pids_of value.held) ≡ length value.held = length-map value.held (λ (h : Held). h.pid) in
      omega (arith, most, many, same, all)
