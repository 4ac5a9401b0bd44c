-- What is left at the end.
use Rattle.std.proofs.Common.{◌≡◌, ℕ, ◌+◌, ◌≤◌, List, Option, ap, sym, ◌∙◌, subst, arith}
use Rattle.kabi_types.specs.declared.calls.Call.{Call}
use Rattle.kabi_types.specs.declared.entries.End.{End}
use Rattle.kabi_types.specs.declared.entries.Entry.{Entry}
use Rattle.kabi_types.specs.declared.scripts.Script.{Script}
use Rattle.posix_defs.specs.declared.turner.Turned.{Turned}
use Rattle.posix_defs.specs.History.{Past}
use Rattle.posix_defs.specs.World.{World, live_of}
use Rattle.charge_words.specs.Names.{ChargeWord}
use Rattle.turn_words.specs.declared.items.Item.{Item}
use Rattle.kern_shared.specs.Closing.{Closes}
use Rattle.kern_shared.specs.Led.{IsLed}
use Rattle.kern_shared.specs.Picks.{EndsAs}
use Rattle.kern_shared.specs.Shared.{IsShared}
use Rattle.kern_shared.specs.Shares.{KernelValue, Shares}
use Rattle.kern_shared.proofs.OnePast.{one_past}

-- the value's parts, by the items that it stands for
pub closed : {T : Type 0} (stands_for : T → World → Type 0) (script_of : T → Script) (beside : T → ℕ → Call → Turned → T → Type 0) (script : Script) (steps : ℕ) (charge : ChargeWord) (value : KernelValue T) (items : List Item)
    (s : Shares stands_for script_of beside script steps charge value items) (past : Past) → IsShared script steps items past → (entries : List Entry) (end : Option End) (live : ℕ)
    → entries ≡ value.history → EndsAs script steps items s.past end → live ≡ live_of s.world → value.seat.known.holds ≤ charge.heap
    → Closes stands_for script_of beside script steps items past entries end (live + 2176) value.store
closed stands_for script_of beside script steps charge value items s past shared entries end live entries_are ends live_is below =
    subst (λ p. Closes stands_for script_of beside script steps items p entries end (live + 2176) value.store) (one_past script steps items s.past past s.shared shared) (record {
      history = entries_are ∙ s.history;
      ends = ends;
      named = s.named;
      world = s.world;
      stands = s.stands;
      led = subst (λ l. IsLed stands_for beside script l s.world value.store) (sym entries_are) s.led;
      plain = s.plain;
      account = s.account;
      may_keep = s.may_keep;
      charged = ap (λ n. n + 2176) live_is;
      within = (let holds : value.seat.known.holds ≡ live_of s.world + 2176 = s.holds in let heap = s.heap in omega (arith, holds, live_is, below, heap));
      bare = s.bare;
    })
