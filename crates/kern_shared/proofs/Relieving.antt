-- How calls that wait are helped, by the searches among those that are held, and by the charge word.
use Rattle.std.proofs.Common.{◌≡◌, ℕ, ◌+◌, ◌-◌, ◌*◌, ◌<◌, ◌≤◌, ◌&&◌, ◌⊎◌, ⊎_elim, false, List, ◌∷◌, ◌++◌, [], length, Option, None, Some, ap, sym, ◌∙◌, subst, arith}
use Rattle.std.specs.Prelude.{nat_le}
use Rattle.std.proofs.lemmas.Bool.Decides.{leb_tells}
use Rattle.kabi_types.specs.declared.calls.Call.{Call}
use Rattle.kabi_types.specs.declared.scripts.Script.{Script}
use Rattle.kern_events.specs.declared.reliefs.Relief.{Relief}
use Rattle.kern_events.specs.declared.reliefs.Relief.TheVariants as relief
use Rattle.posix_defs.specs.declared.turner.Turned.{Turned}
use Rattle.posix_defs.specs.Licence.{can_evict_any}
use Rattle.posix_defs.specs.History.{Past}
use Rattle.posix_defs.specs.Needs.{bound}
use Rattle.posix_defs.specs.Plain.{Plain, call_of}
use Rattle.posix_defs.specs.Process.{is_alive}
use Rattle.posix_defs.specs.Sizes.{reserve, room}
use Rattle.posix_defs.specs.World.{World, base, live_of, pins}
use Rattle.kern_laws.proofs.Caches.{all_pinned}
use Rattle.charge_words.specs.Names.{ChargeWord}
use Rattle.turn_words.specs.declared.items.Item.{Item}
use Rattle.turn_words.specs.declared.items.Item.TheVariants.{Live}
use Rattle.turn_words.specs.Items.{noted}
use Rattle.kern_shared.specs.declared.held.Held.{Held}
use Rattle.kern_shared.specs.Lists.{AreNeeds, lowest}
use Rattle.kern_shared.specs.Relieves.{Frees, IsFirst, IsFitting, IsStuck, Relieves, Waits, WaitsInVain}
use Rattle.kern_shared.specs.Shares.{KernelValue, Shares, pids_of}
use Rattle.kern_shared.proofs.Helping.{first_fits, first_waits, none_fits, none_waits}
use Rattle.kern_shared.proofs.Keeping.{behind_live}

-- what frees heap for the first that waits is how calls that wait are helped
pub frees_relieves : (script : Script) (steps : ℕ) (items : List Item) (past : Past) (word waiter need live : ℕ) (result : Relief) (x : Item) → IsStuck script steps items past word
    → IsFirst script items past waiter → word ≡ live + reserve → Frees past waiter need live result x → Relieves script steps items past word result x
frees_relieves script steps items past word waiter need live relief.NoneWaiting x stuck first word_is frees = absurd frees
frees_relieves script steps items past word waiter need live (relief.Fits _) x stuck first word_is frees = absurd frees
frees_relieves script steps items past word waiter need live (relief.Outstanding _ _) x stuck first word_is frees = absurd frees
frees_relieves script steps items past word waiter need live (relief.Evicted what) x stuck first word_is frees = (stuck, (live, word_is, frees))
frees_relieves script steps items past word waiter need live (relief.Killed pid) x stuck first word_is frees = (stuck, (waiter, need, live, first, word_is, frees))
frees_relieves script steps items past word waiter need live relief.Starved x stuck first word_is frees = (stuck, word_is ∙ ap (λ n. n + reserve) frees.0, frees.1)
frees_relieves script steps items past word waiter need live relief.Spent x stuck first word_is frees = absurd frees

module _ {T : Type 0} (stands_for : T → World → Type 0) (script_of : T → Script) (beside : T → ℕ → Call → Turned → T → Type 0) where
  module _ (script : Script) (steps : ℕ) (charge : ChargeWord) (value : KernelValue T) (items : List Item) (s : Shares stands_for script_of beside script steps charge value items) where
    abbrev need : ℕ → ℕ
    need pid = bound (call_of script s.past.plain pid)

    -- what the searches among those that are held tell, by where the items have led to
    pub alive_found : (ever : ℕ) (slice : List Held) (found : Option ℕ) → slice ≡ value.held
        → ((world : World) (need : ℕ → ℕ) → stands_for value.store world → AreNeeds need slice
        → found ≡ lowest (λ pid. nat_le (need pid) ever && is_alive world.plain.table pid) None (pids_of slice))
        → found ≡ lowest (λ pid. nat_le (need pid) ever && is_alive s.past.plain.table pid) None (pids_of value.held)
    alive_found ever slice found same tells =
        subst (λ (p : Plain). found ≡ lowest (λ pid. nat_le (need pid) ever && is_alive p.table pid) None (pids_of value.held)) s.plain
        (subst (λ l. found ≡ lowest (λ pid. nat_le (need pid) ever && is_alive s.world.plain.table pid) None (pids_of l)) same
        (tells s.world need s.stands (subst (AreNeeds need) (sym same) s.held.bounds)))

    pub within_found : (most : ℕ) (slice : List Held) (found : Option ℕ) → slice ≡ value.held
        → ((need : ℕ → ℕ) → AreNeeds need slice → found ≡ lowest (λ pid. nat_le (need pid) most) None (pids_of slice))
        → found ≡ lowest (λ pid. nat_le (need pid) most) None (pids_of value.held)
    within_found most slice found same tells =
        subst (λ l. found ≡ lowest (λ pid. nat_le (need pid) most) None (pids_of l)) same (tells need (subst (AreNeeds need) (sym same) s.held.bounds))

    pub ever_is : (ever : ℕ) → ever ≡ value.heap - 2816 → ever ≡ room script.heap
    ever_is ever is = is ∙ ap (λ n. n - 2816) s.same_heap

    pub nobody_waits : (ever : ℕ) (found : Option ℕ) → ever ≡ value.heap - 2816
        → found ≡ lowest (λ pid. nat_le (need pid) ever && is_alive s.past.plain.table pid) None (pids_of value.held) → found ≡ None
        → (pid : ℕ) → Waits script items s.past pid → ⊥
    nobody_waits ever found is found_is none = none_waits script items s.past value.held s.held ever (ever_is ever is) (sym found_is ∙ none)

    pub lowest_waits : (ever : ℕ) (found : Option ℕ) (pid : ℕ) → ever ≡ value.heap - 2816
        → found ≡ lowest (λ pid. nat_le (need pid) ever && is_alive s.past.plain.table pid) None (pids_of value.held) → found ≡ Some pid
        → IsFirst script items s.past pid
    lowest_waits ever found pid is found_is some = first_waits script items s.past value.held s.held ever (ever_is ever is) pid (sym found_is ∙ some)

    pub word_within : (word : ℕ) (heap : ℕ) → word ≤ heap → heap ≡ charge.heap → word ≤ script.heap
    word_within word heap within is = let same : charge.heap ≡ script.heap = s.heap in omega (arith, within, is, same)

    pub least_is : (ever word most : ℕ) → (most ≤ ever) × (most ≤ value.heap - word) → (most ≤ ever) × (most ≤ script.heap - word)
    least_is ever word most least = (least.0, subst (λ n. most ≤ n - word) s.same_heap least.1)

    pub one_is : (ever word most : ℕ) → (most ≡ ever) ⊎ (most ≡ value.heap - word) → (most ≡ ever) ⊎ (most ≡ script.heap - word)
    one_is ever word most one = subst (λ n. (most ≡ ever) ⊎ (most ≡ n - word)) s.same_heap one

    pub lowest_fits : (ever word most : ℕ) (found : Option ℕ) (pid : ℕ) → ever ≡ value.heap - 2816 → word ≤ script.heap → (most ≤ ever) × (most ≤ value.heap - word)
        → (most ≡ ever) ⊎ (most ≡ value.heap - word) → found ≡ lowest (λ pid. nat_le (need pid) most) None (pids_of value.held) → found ≡ Some pid
        → IsFitting script items s.past word pid × ((other : ℕ) → other < pid → IsFitting script items s.past word other → ⊥)
    lowest_fits ever word most found pid is below least one found_is some =
        first_fits script items s.past value.held s.held ever (ever_is ever is) word most below (least_is ever word most least) (one_is ever word most one) pid (sym found_is ∙ some)

    pub nobody_fits : (ever word most : ℕ) (found : Option ℕ) → ever ≡ value.heap - 2816 → word ≤ script.heap → (most ≤ ever) × (most ≤ value.heap - word)
        → (most ≡ ever) ⊎ (most ≡ value.heap - word) → found ≡ lowest (λ pid. nat_le (need pid) most) None (pids_of value.held) → found ≡ None
        → (pid : ℕ) → IsFitting script items s.past word pid → ⊥
    nobody_fits ever word most found is below least one found_is none =
        none_fits script items s.past value.held s.held ever (ever_is ever is) word most below (least_is ever word most least) (one_is ever word most one) (sym found_is ∙ none)

    -- some call waits and none fits
    pub is_stuck : (ever word most : ℕ) (waits fits : Option ℕ) (waiter : ℕ) → length (noted items) < steps → ever ≡ value.heap - 2816 → word ≤ script.heap
        → (most ≤ ever) × (most ≤ value.heap - word) → (most ≡ ever) ⊎ (most ≡ value.heap - word)
        → waits ≡ lowest (λ pid. nat_le (need pid) ever && is_alive s.past.plain.table pid) None (pids_of value.held) → waits ≡ Some waiter
        → fits ≡ lowest (λ pid. nat_le (need pid) most) None (pids_of value.held) → fits ≡ None → IsStuck script steps items s.past word
    is_stuck ever word most waits fits waiter below is within least one waits_is some fits_is none = record {
      below = below;
      waits = (waiter, (lowest_waits ever waits waiter is waits_is some).0);
      unfit = nobody_fits ever word most fits is within least one fits_is none;
    }

    -- where all that is charged is live or the reserve, the first that waits has no room
    pub in_vain : (word waiter asked live : ℕ) → IsStuck script steps items s.past word → IsFirst script items s.past waiter → word ≡ live + reserve → asked ≡ need waiter
        → WaitsInVain script steps items s.past waiter asked live
    in_vain word waiter asked live stuck first word_is asked_is = record {
      below = stuck.below;
      waits = first.0;
      is_need = asked_is;
      full = ⊎_elim
          (λ h. absurd (stuck.unfit waiter (first.0.0, let fits = h.1 in let is : word ≡ live + 2176 = word_is in omega (arith, fits, is, asked_is))))
          (λ h. let more = h.1 in more)
          (leb_tells (live + reserve + asked) script.heap);
    }

    -- nothing can be evicted: what is live is what the processes, the files that are open and the queues have
    pub bare_live : (live : ℕ) → live ≡ live_of s.world → can_evict_any s.world ≡ false → live ≡ base s.past.plain s.past.account + 128 * pins s.past.plain
    bare_live live is bare = is ∙ all_pinned s.world s.may_keep bare ∙ ap (λ p. base p s.world.account + 128 * pins p) s.plain ∙ ap (λ a. base s.past.plain a + 128 * pins s.past.plain) s.account

    pub live_told : (live : ℕ) → live ≡ live_of s.world → Shares stands_for script_of beside script steps charge value (items ++ Live live ∷ [])
    live_told live is = subst (λ n. Shares stands_for script_of beside script steps charge value (items ++ Live n ∷ [])) (sym is) (behind_live stands_for script_of beside script steps charge value items s)
