-- What a worker of the tests keeps, step by step.
use Rattle.std.proofs.Common.{◌≡◌, ℕ, true, false, List, refl, ap, sym, ◌∙◌, subst}
use Rattle.std.specs.Prelude.{Option, None, Some}
use Rattle.atomic_table.specs.Seated.{TableId}
use Rattle.kabi_types.specs.declared.calls.Call.{Call}
use Rattle.kabi_types.specs.declared.scripts.Script.{Script}
use Rattle.charge_words.specs.Names.{ChargeWord, SeatState as ChargeState}
use Rattle.charge_words.specs.declared.rule.ChargeView.{ChargeView}
use Rattle.kern_events.specs.declared.reliefs.Relief.{Relief}
use Rattle.turn_words.specs.declared.items.Item.{Item}
use Rattle.turn_words.specs.Items.{heard}
use Rattle.turn_words.specs.Seats.{SeatState as TurnState}
use Rattle.kern_shared.specs.declared.attends.Attended.{Attended}
use Rattle.kern_shared.specs.declared.attends.Attended.TheVariants as attended
use Rattle.kern_shared.specs.declared.picks.Picked.{Picked}
use Rattle.kern_shared.specs.Attends.{HoldsCall}
use Rattle.kern_shared.specs.Passes.{AttendsTo, IsAtRest, PassesOn, PicksInTurn, RelievesInTurn, ReturnsInTurn, given_behind}
use Rattle.shared_trials.specs.Workers.{IsAsMany, Works, is_short, pid_of}

pub none_more : {T : Type 0} (turn : TurnState T) → IsAsMany turn turn
none_more turn = record { is_boot = refl; others = refl }

pub both_many : {T : Type 0} (first led last : TurnState T) → IsAsMany first led → IsAsMany led last → IsAsMany first last
both_many first led last one two = record { is_boot = two.is_boot ∙ one.is_boot; others = two.others ∙ one.others }

module _ {T : Type 0} (stands : T → List Item → Type 0) (script : Script) (steps : ℕ) (turn after : TurnState T) where
  passed_many : (taken : List Item) (x : Item) → PassesOn stands turn.known after.known taken x → IsAsMany turn after
  passed_many taken x passes = record { is_boot = passes.is_boot; others = passes.others }

  pub picked_many : (result : Picked) → PicksInTurn stands script steps turn.known after.known result → IsAsMany turn after
  picked_many result picks = passed_many _ _ picks.1

  pub relieved_many : (word : ℕ) (result : Relief) → RelievesInTurn stands script steps turn.known after.known word result → IsAsMany turn after
  relieved_many word result relieves = passed_many _ _ relieves.2

  pub returned_many : (pid : ℕ) → ReturnsInTurn stands script steps turn.known after.known pid → IsAsMany turn after
  returned_many pid returns = passed_many _ _ returns.1

  pub attended_many : (before own : ChargeView) (pid : ℕ) (call : Call) (result : Attended) → AttendsTo stands script steps turn after before own pid call result → IsAsMany turn after
  attended_many before own pid call (attended.Done _) turns = passed_many _ _ turns.1
  attended_many before own pid call (attended.Part _) turns = passed_many _ _ turns.1
  attended_many before own pid call attended.Refused turns = passed_many _ _ turns.1
  attended_many before own pid call attended.Sleep turns = passed_many _ _ turns.1
  attended_many before own pid call (attended.Short _ _) short = subst (λ (t : TurnState T). IsAsMany turn t) (sym short.still) (none_more turn)
  attended_many before own pid call (attended.Ended _) turns = passed_many _ _ turns.1
  attended_many before own pid call attended.Gone turns = passed_many _ _ turns.1
  attended_many before own pid call attended.Spent turns = passed_many _ _ turns.1

  pub short_still : (before own : ChargeView) (pid : ℕ) (call : Call) (result : Attended) → is_short result ≡ true → AttendsTo stands script steps turn after before own pid call result → after ≡ turn
  short_still before own pid call (attended.Done _) is turns = cc
  short_still before own pid call (attended.Part _) is turns = cc
  short_still before own pid call attended.Refused is turns = cc
  short_still before own pid call attended.Sleep is turns = cc
  short_still before own pid call (attended.Short _ _) is short = short.still
  short_still before own pid call (attended.Ended _) is turns = cc
  short_still before own pid call attended.Gone is turns = cc
  short_still before own pid call attended.Spent is turns = cc

short_behind : (given : Option ℕ) (result : Attended) → is_short result ≡ true → given_behind given result ≡ given
short_behind given (attended.Done _) is = cc
short_behind given (attended.Part _) is = cc
short_behind given attended.Refused is = cc
short_behind given attended.Sleep is = cc
short_behind given (attended.Short _ _) is = refl
short_behind given (attended.Ended _) is = cc
short_behind given attended.Gone is = cc
short_behind given attended.Spent is = cc

else_behind : (given : Option ℕ) (result : Attended) → is_short result ≡ false → given_behind given result ≡ None
else_behind given (attended.Done _) is = refl
else_behind given (attended.Part _) is = refl
else_behind given attended.Refused is = refl
else_behind given attended.Sleep is = refl
else_behind given (attended.Short _ _) is = cc
else_behind given (attended.Ended _) is = refl
else_behind given attended.Gone is = refl
else_behind given attended.Spent is = refl

module _ {T : Type 0} (script : Script) (steps : ℕ) (charge : ChargeWord) (turns : TableId) where
  -- nothing is held
  pub works_idle : (turn : TurnState T) (own : ChargeState) (given : Option ℕ) (held : Option (ℕ × Call)) → IsAtRest script steps charge turns turn own given → given ≡ None → held ≡ None
      → Works script steps charge turns turn own given held
  works_idle turn own given held rests none is = record {
    rests = rests;
    same = none ∙ sym (ap pid_of is);
    holds = λ pid call some. absurd (never pid call (sym is ∙ some));
  }
    where
      never : (pid : ℕ) (call : Call) → ◌≡◌ {A = Option (ℕ × Call)} None (Some (pid, call)) → ⊥
      never pid call e = cc

  -- this process is held with its call
  pub works_holding : (turn : TurnState T) (own : ChargeState) (given : Option ℕ) (held : Option (ℕ × Call)) (pid : ℕ) (call : Call) → IsAtRest script steps charge turns turn own given
      → given ≡ Some pid → held ≡ Some (pid, call) → HoldsCall script steps (heard turn.known.seen) pid call → Works script steps charge turns turn own given held
  works_holding turn own given held pid call rests some is holds = record {
    rests = rests;
    same = some ∙ sym (ap pid_of is);
    holds = λ other which same. subst (λ (h : ℕ × Call). HoldsCall script steps (heard turn.known.seen) h.0 h.1) (one pid call other which (sym is ∙ same)) holds;
  }
    where
      one : (pid : ℕ) (call : Call) (other : ℕ) (which : Call) → ◌≡◌ {A = Option (ℕ × Call)} (Some (pid, call)) (Some (other, which)) → ◌≡◌ {A = ℕ × Call} (pid, call) (other, which)
      one pid call other which e = cc

  -- behind an answer to its call
  pub works_short : (stands : T → List Item → Type 0) (turn after : TurnState T) (own new : ChargeState) (before view : ChargeView) (given now : Option ℕ) (held : Option (ℕ × Call)) (pid : ℕ) (call : Call) (result : Attended)
      → is_short result ≡ true → IsAtRest script steps charge turns after new now → now ≡ given_behind given result → given ≡ Some pid
      → AttendsTo stands script steps turn after before view pid call result → HoldsCall script steps (heard turn.known.seen) pid call → held ≡ Some (pid, call)
      → Works script steps charge turns after new now held
  works_short stands turn after own new before view given now held pid call result short rests behind some attends holds is =
      works_holding after new now held pid call rests (behind ∙ short_behind given result short ∙ some) is
      (subst (λ (t : TurnState T). HoldsCall script steps (heard t.known.seen) pid call) (sym (short_still stands script steps turn after before view pid call result short attends)) holds)

  pub works_else : (after : TurnState T) (new : ChargeState) (given now : Option ℕ) (held : Option (ℕ × Call)) (result : Attended)
      → is_short result ≡ false → IsAtRest script steps charge turns after new now → now ≡ given_behind given result → held ≡ None
      → Works script steps charge turns after new now held
  works_else after new given now held result other rests behind none = works_idle after new now held rests (behind ∙ else_behind given result other) none
