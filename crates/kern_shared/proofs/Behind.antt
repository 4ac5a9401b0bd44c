-- The kernel's value goes on with one more item.
use Rattle.std.proofs.Common.{◌≡◌, ℕ, ◌+◌, ◌||◌, Bool, true, false, List, [], ◌∷◌, ◌++◌, refl, ap, sym, ◌∙◌, subst}
use Rattle.kabi_types.specs.declared.calls.Call.{Call}
use Rattle.kabi_types.specs.declared.scripts.Script.{Script}
use Rattle.posix_defs.specs.declared.turner.Turned.{Turned}
use Rattle.posix_defs.specs.History.{Past}
use Rattle.posix_defs.specs.Licence.{can_evict_any}
use Rattle.posix_defs.specs.Sizes.{reserve}
use Rattle.posix_defs.specs.World.{MayKeep, World, live_of}
use Rattle.kern_laws.specs.Filled.{AreFilled}
use Rattle.charge_words.specs.Names.{ChargeWord}
use Rattle.turn_words.specs.declared.items.Item.{Item}
use Rattle.turn_words.specs.declared.items.Item.TheVariants.{Quiet}
use Rattle.turn_words.specs.Items.{entry_of}
use Rattle.turn_words.proofs.Notes.{noted_more}
use Rattle.kern_shared.specs.Led.{IsLed}
use Rattle.kern_shared.specs.Shared.{MayShare, goes_on, has_starved, is_starved, is_turn}
use Rattle.kern_shared.specs.Shares.{AreHeld, ArePresent, HasRoom, IsTold, KernelValue, Shares, last_of}
use Rattle.kern_shared.proofs.Starving.{starved_stands}

last_more : (d : Item) (items : List Item) (x : Item) → last_of d (items ++ x ∷ []) ≡ x
last_more d [] x = refl
last_more d (y ∷ items) x = last_more y items x

pub starved_more : (items : List Item) (x : Item) → has_starved (items ++ x ∷ []) ≡ (has_starved items || is_starved x)
starved_more [] x = one (is_starved x)
  where
    one : (b : Bool) → (b || false) ≡ b
    one true = refl
    one false = refl
starved_more (y ∷ items) x = ap (λ (b : Bool). is_starved y || b) (starved_more items x) ∙ three (is_starved y) (has_starved items) (is_starved x)
  where
    three : (a b c : Bool) → (a || (b || c)) ≡ ((a || b) || c)
    three true b c = refl
    three false b c = refl

or_false : (b c : Bool) → c ≡ false → (b || c) ≡ b
or_false true c is = refl
or_false false c is = is

-- another item than Starved leaves whether it was answered
pub starved_same : (items : List Item) (x : Item) → is_starved x ≡ false → has_starved (items ++ x ∷ []) ≡ has_starved items
starved_same items x is = starved_more items x ∙ or_false (has_starved items) (is_starved x) is

module _ {T : Type 0} (stands_for : T → World → Type 0) (script_of : T → Script) (beside : T → ℕ → Call → Turned → T → Type 0) where
  -- What has to be shown of one more item and of the value behind it.
  pub record IsBehind (script : Script) (steps : ℕ) (charge : ChargeWord) (old new : KernelValue T) (items : List Item) (past : Past) (x : Item) : Type 0 where
    pub next : Past
    pub world : World
    pub may : MayShare script steps items past x next
    pub turns : is_turn x ≡ true → has_starved items ≡ false
    pub named : script_of new.store ≡ script
    pub stands : stands_for new.store world
    pub led : IsLed stands_for beside script new.history world new.store
    pub plain : world.plain ≡ next.plain
    pub account : world.account ≡ next.account
    pub may_keep : MayKeep world.plain world.kept
    pub filled : AreFilled world.kept next
    pub history : new.history ≡ old.history ++ entry_of x
    pub held : AreHeld script next.plain new.held (items ++ x ∷ [])
    pub present : ArePresent next.plain new.awake new.dozing new.history
    pub starved : new.starved ≡ has_starved (items ++ x ∷ [])
    pub bare : has_starved (items ++ x ∷ []) ≡ true → can_evict_any world ≡ false
    pub told : IsTold world x
    pub of_charge : new.seat.charge ≡ charge
    pub boot : new.seat.known.is_boot ≡ true
    pub holds : new.seat.known.holds ≡ live_of world + reserve
    pub limit : new.steps ≡ old.steps
    pub same_heap : new.heap ≡ old.heap
    pub room : HasRoom steps new.entry_room new.held_room new.awake_room new.dozing_room

  pub behind : (script : Script) (steps : ℕ) (charge : ChargeWord) (old new : KernelValue T) (items : List Item) (s : Shares stands_for script_of beside script steps charge old items)
      (x : Item) → IsBehind script steps charge old new items s.past x → Shares stands_for script_of beside script steps charge new (items ++ x ∷ [])
  behind script steps charge old new items s x is = record {
    past = is.next;
    world = is.world;
    shared = goes_on items s.past is.next x s.shared is.may;
    named = is.named;
    stands = is.stands;
    led = is.led;
    plain = is.plain;
    account = is.account;
    may_keep = is.may_keep;
    filled = is.filled;
    history = is.history ∙ ap (λ l. l ++ entry_of x) s.history ∙ sym (noted_more items x);
    held = is.held;
    present = is.present;
    starved = is.starved;
    still = starved_stands script steps items s.past is.next x s.shared is.may is.turns s.still;
    bare = is.bare;
    told = subst (λ y. IsTold is.world y) (sym (last_more Quiet items x)) is.told;
    of_charge = is.of_charge;
    boot = is.boot;
    holds = is.holds;
    heap = s.heap;
    limit = is.limit ∙ s.limit;
    same_heap = is.same_heap ∙ s.same_heap;
    room = is.room;
  }
