-- Passes at boot.
use Rattle.std.proofs.Common.{◌≡◌, ℕ, false, List, [], None, refl, sym, subst}
use Rattle.atomic_table.specs.Seated.{TableId}
use Rattle.kabi_types.specs.declared.scripts.Script.{Script}
use Rattle.posix_defs.specs.History.{boot_past}
use Rattle.charge_words.specs.Names.{ChargeWord, SeatState as ChargeState}
use Rattle.turn_words.specs.Items.{Placed, heard}
use Rattle.turn_words.specs.Rule.{AreIn}
use Rattle.turn_words.specs.Seats.{SeatState as TurnState}
use Rattle.kern_shared.specs.Closing.{IsEmpty}
use Rattle.kern_shared.specs.Passes.{HoldsJust, IsAtRest}
use Rattle.kern_shared.specs.Shared.{IsShared, starts}

-- a pass that has seen nothing
pub rests_at_boot : {T : Type 0} (script : Script) (steps : ℕ) (charge : ChargeWord) (turns : TableId) (turn : TurnState T) (own : ChargeState) → turn.turns ≡ turns
    → turn.known.has_ticket ≡ false → turn.known.seen ≡ [] → turn.known.mine ≡ [] → IsEmpty charge own → IsAtRest script steps charge turns turn own None
rests_at_boot script steps charge turns turn own same free seen mine empty = record {
  of_turns = same;
  of_charge = empty.of_charge;
  free = free;
  empty = empty.empty;
  unused = empty.unused;
  shared = (boot_past script, subst (λ l. IsShared script steps (heard l) (boot_past script)) (sym seen) starts);
  mine = subst (λ (l : List Placed). AreIn l turn.known.seen) (sym mine) (tt, λ place x has. absurd has);
  holds = subst (λ (l : List Placed). HoldsJust None l) (sym mine) (λ pid. refl);
}
