-- What each call of a kernel leaves of a pass that goes on.
use Rattle.std.proofs.Common.{◌≡◌, ℕ, true, false, List, [], ◌∷◌, ◌++◌, Option, None, Some, refl, ap, sym, ◌∙◌, subst, append_assoc, append-nil}
use Rattle.std.specs.Prelude.{IfSome}
use Rattle.kabi_types.specs.declared.calls.Call.{Call}
use Rattle.kabi_types.specs.declared.entries.End.{End}
use Rattle.kabi_types.specs.declared.scripts.Script.{Script}
use Rattle.kern_events.specs.declared.reliefs.Relief.{Relief}
use Rattle.posix_defs.specs.History.{Past}
use Rattle.charge_words.specs.declared.rule.ChargeView.{ChargeView}
use Rattle.turn_words.specs.declared.items.Item.{Item}
use Rattle.turn_words.specs.declared.items.Item.TheVariants.{Quiet}
use Rattle.turn_words.specs.declared.rule.TurnView.{TurnView}
use Rattle.turn_words.specs.Items.{heard}
use Rattle.turn_words.specs.Rule.{Told}
use Rattle.turn_words.specs.Seats.{SeatState as TurnState}
use Rattle.turn_words.proofs.Notes.{heard_more}
use Rattle.kern_shared.specs.declared.attends.Attended.{Attended}
use Rattle.kern_shared.specs.declared.attends.Attended.TheVariants as attended
use Rattle.kern_shared.specs.declared.picks.Picked.{Picked}
use Rattle.kern_shared.specs.declared.picks.Picked.TheVariants as picked
use Rattle.kern_shared.specs.Closing.{IsFirst}
use Rattle.kern_shared.specs.Passes.{AttendsTo, PassesOn, PicksInTurn, RelievesInTurn, ReturnsInTurn, given_behind}
use Rattle.kern_shared.specs.Picks.{Picks}
use Rattle.kern_shared.specs.Shared.{IsShared}
use Rattle.work_crew.specs.Working.{AnyValue, GoesOn, HasWorked, SawEnd, is_short}

-- the process isn't held behind any answer but Short, and behind that one it is
pub held_no_more : (given : Option ℕ) (result : Attended) → is_short result ≡ false → given_behind given result ≡ None
held_no_more given (attended.Done reply) h = refl
held_no_more given (attended.Part moved) h = refl
held_no_more given attended.Refused h = refl
held_no_more given attended.Sleep h = refl
held_no_more given (attended.Short charged need) h = cc
held_no_more given (attended.Ended status) h = refl
held_no_more given attended.Gone h = refl
held_no_more given attended.Spent h = refl

pub held_still : (given : Option ℕ) (result : Attended) → is_short result ≡ true → given_behind given result ≡ given
held_still given (attended.Short charged need) h = refl
held_still given (attended.Done reply) h = cc
held_still given (attended.Part moved) h = cc
held_still given attended.Refused h = cc
held_still given attended.Sleep h = cc
held_still given (attended.Ended status) h = cc
held_still given attended.Gone h = cc
held_still given attended.Spent h = cc

-- nothing was done
pub stays : {T : Type 0} (view : TurnView T) → GoesOn view view
stays view = record { is_boot = refl; others = refl; begins = ([], append-nil view.seen) }

-- one after the other
pub goes_further : {T : Type 0} (first second third : TurnView T) → GoesOn first second → GoesOn second third → GoesOn first third
goes_further first second third g h = record {
  is_boot = h.is_boot ∙ g.is_boot;
  others = h.others ∙ g.others;
  begins = (g.begins.0 ++ h.begins.0, sym (append_assoc first.seen g.begins.0 h.begins.0) ∙ ap (λ l. l ++ h.begins.0) g.begins.1 ∙ h.begins.1);
}

-- a worker leaves the seat of boot as it was
pub first_stays : {T : Type 0} (script : Script) (steps n : ℕ) (before after : TurnState T) → HasWorked script steps before.known after.known → IsFirst n before → IsFirst n after
first_stays script steps n before after worked first = record { boot = worked.goes_on.is_boot ∙ first.boot; counts = worked.goes_on.others ∙ first.counts }

module _ {T : Type 0} (stands : T → List Item → Type 0) where
  -- a turn was passed on
  by_turn : (before after : TurnView T) (taken : List Item) (x : Item) → PassesOn stands before after taken x → GoesOn before after
  by_turn before after taken x p = record {
    is_boot = p.is_boot;
    others = p.others;
    begins = (
      p.begins.0 ++ x ∷ [],
      sym (append_assoc before.seen p.begins.0 (x ∷ [])) ∙ ap (λ l. l ++ x ∷ []) p.begins.1 ∙ sym p.seen,
    );
  }

  any_value : (value : Option T) (items : List Item) → Told stands value items → Told AnyValue value items
  any_value None items told = told
  any_value (Some value) items told = tt

  any_turn : (before after : TurnView T) (taken : List Item) (x : Item) → PassesOn stands before after taken x → PassesOn AnyValue before after taken x
  any_turn before after taken x p = record {
    begins = p.begins;
    seen = p.seen;
    mine = p.mine;
    value = any_value after.value (heard after.seen) p.value;
    is_boot = p.is_boot;
    others = p.others;
  }

  module _ (script : Script) (steps : ℕ) where
    pub by_pick : (before after : TurnView T) (result : Picked) → PicksInTurn stands script steps before after result → GoesOn before after
    by_pick before after result h = by_turn before after h.0 _ h.1

    pub by_attend : (turn after : TurnState T) (before own : ChargeView) (pid : ℕ) (call : Call) (result : Attended)
        → AttendsTo stands script steps turn after before own pid call result → GoesOn turn.known after.known
    by_attend turn after before own pid call (attended.Short charged need) h = subst (λ (s : TurnState T). GoesOn turn.known s.known) (sym h.still) (stays turn.known)
    by_attend turn after before own pid call (attended.Done reply) h = by_turn turn.known after.known h.0 _ h.1
    by_attend turn after before own pid call (attended.Part moved) h = by_turn turn.known after.known h.0 _ h.1
    by_attend turn after before own pid call attended.Refused h = by_turn turn.known after.known h.0 _ h.1
    by_attend turn after before own pid call attended.Sleep h = by_turn turn.known after.known h.0 _ h.1
    by_attend turn after before own pid call (attended.Ended status) h = by_turn turn.known after.known h.0 _ h.1
    by_attend turn after before own pid call attended.Gone h = by_turn turn.known after.known h.0 _ h.1
    by_attend turn after before own pid call attended.Spent h = by_turn turn.known after.known h.0 _ h.1

    -- behind Short the pass has seen what it had seen
    pub short_stays : (turn after : TurnState T) (before own : ChargeView) (pid : ℕ) (call : Call) (result : Attended) → is_short result ≡ true
        → AttendsTo stands script steps turn after before own pid call result → after ≡ turn
    short_stays turn after before own pid call (attended.Short charged need) short h = h.still
    short_stays turn after before own pid call (attended.Done reply) short h = cc
    short_stays turn after before own pid call (attended.Part moved) short h = cc
    short_stays turn after before own pid call attended.Refused short h = cc
    short_stays turn after before own pid call attended.Sleep short h = cc
    short_stays turn after before own pid call (attended.Ended status) short h = cc
    short_stays turn after before own pid call attended.Gone short h = cc
    short_stays turn after before own pid call attended.Spent short h = cc

    pub by_relief : (before after : TurnView T) (word : ℕ) (result : Relief) → RelievesInTurn stands script steps before after word result → GoesOn before after
    by_relief before after word result h = by_turn before after h.0 h.1 h.2

    -- the same calls, where nothing is said of the values
    pub any_attend : (turn after : TurnState T) (before own : ChargeView) (pid : ℕ) (call : Call) (result : Attended)
        → AttendsTo stands script steps turn after before own pid call result → AttendsTo AnyValue script steps turn after before own pid call result
    any_attend turn after before own pid call (attended.Short charged need) h = record {
      still = h.still;
      needed = h.needed;
      fits_ever = h.fits_ever;
      within = h.within;
      too_much = h.too_much;
      loaded = h.loaded;
    }
    any_attend turn after before own pid call (attended.Done reply) h = (h.0, any_turn turn.known after.known h.0 _ h.1, h.2)
    any_attend turn after before own pid call (attended.Part moved) h = (h.0, any_turn turn.known after.known h.0 _ h.1, h.2)
    any_attend turn after before own pid call attended.Refused h = (h.0, any_turn turn.known after.known h.0 _ h.1, h.2)
    any_attend turn after before own pid call attended.Sleep h = (h.0, any_turn turn.known after.known h.0 _ h.1, h.2)
    any_attend turn after before own pid call (attended.Ended status) h = (h.0, any_turn turn.known after.known h.0 _ h.1, h.2)
    any_attend turn after before own pid call attended.Gone h = (h.0, any_turn turn.known after.known h.0 _ h.1, h.2)
    any_attend turn after before own pid call attended.Spent h = (h.0, any_turn turn.known after.known h.0 _ h.1, h.2)

    pub any_relief : (before after : TurnView T) (word : ℕ) (result : Relief) → RelievesInTurn stands script steps before after word result
        → RelievesInTurn AnyValue script steps before after word result
    any_relief before after word result h = (h.0, h.1, any_turn before after h.0 h.1 h.2, h.3)

    any_return : (before after : TurnView T) (pid : ℕ) → ReturnsInTurn stands script steps before after pid → ReturnsInTurn AnyValue script steps before after pid
    any_return before after pid h = (h.0, any_turn before after h.0 _ h.1)

    pub any_release : (before after : TurnView T) (given : Option ℕ) (pid : ℕ) → given ≡ Some pid → IfSome given (ReturnsInTurn stands script steps before after)
        → ReturnsInTurn AnyValue script steps before after pid
    any_release before after given pid is h = any_return before after pid (subst (λ o. IfSome o (ReturnsInTurn stands script steps before after)) is h)

    by_return : (before after : TurnView T) (pid : ℕ) → ReturnsInTurn stands script steps before after pid → GoesOn before after
    by_return before after pid h = by_turn before after h.0 _ h.1

    -- a process that was given is given back
    pub by_release : (before after : TurnView T) (given : Option ℕ) (pid : ℕ) → given ≡ Some pid → IfSome given (ReturnsInTurn stands script steps before after) → GoesOn before after
    by_release before after given pid is h = by_return before after pid (subst (λ o. IfSome o (ReturnsInTurn stands script steps before after)) is h)

    -- where a pick answers Over, the pass has seen the end
    pub sees_end : (before after : TurnView T) (which : End) → (past : Past) × IsShared script steps (heard after.seen) past
        → PicksInTurn stands script steps before after (picked.Over which) → SawEnd script steps after.seen
    sees_end before after which rests h =
        let same : heard after.seen ≡ heard h.0 = ap heard h.1.seen ∙ heard_more h.0 Quiet ∙ append-nil (heard h.0) in
        let picks : Picks script steps (heard after.seen) rests.0 (picked.Over which) =
        subst (λ l. IsShared script steps l rests.0 → Picks script steps l rests.0 (picked.Over which)) (sym same) (h.2 rests.0) rests.1 in
        record {
          end = which;
          past = rests.0;
          shared = rests.1;
          over = picks.0;
          stands = picks.1;
        }
