-- What a seat keeps beside its view.
use Rattle.std.proofs.Common.{◌≡◌, ℕ, ◌%◌, ◌^◌, Bool, true, false, cond, [], ◌∷◌, sym, ap, ◌∙◌, subst, eq-eqb}
use Rattle.std.specs.Prelude.{None}
use Rattle.turn_words.specs.Rule.{Mine, looking}
use Rattle.turn_words.specs.Seats.{IsSeat}
use Rattle.turn_words.proofs.Held.{contrary, not_true}

module _ {T : Type 0} where
  -- a value that was put isn't out
  pub put_not_out : (kept : ℕ) (me : Mine T) → IsSeat kept me → me.0.has_put ≡ true → me.0.is_out ≡ false
  put_not_out kept me seat put = not_true me.0.is_out (λ is. contrary me.0.has_put put (seat.out is).1)

  -- a seat without a ticket has no slot
  pub no_slot : (kept : ℕ) (me : Mine T) → IsSeat kept me → me.0.has_ticket ≡ false → me.1 ≡ []
  no_slot kept me seat free =
      let home : me.0.is_out ≡ false = not_true me.0.is_out (λ is. contrary me.0.has_ticket (seat.turn (seat.out is).0) free) in
      seat.slots ∙ ap (λ (b : Bool). cond b ((0, None) ∷ []) []) home

  -- the slot that is out is empty
  pub one_slot : (kept : ℕ) (me : Mine T) → IsSeat kept me → me.0.is_out ≡ true → me.1 ≡ (0, None) ∷ []
  one_slot kept me seat out = seat.slots ∙ ap (λ (b : Bool). cond b ((0, None) ∷ []) []) out

  -- a look leaves what the seat keeps
  pub looks_on : (kept : ℕ) (me after : Mine T) (word : ℕ) → IsSeat kept me → me.0.has_ticket ≡ true → after ≡ (looking me.0 word, me.1) → (me.0.has_turn ≡ true → word ≡ me.0.ticket % 2 ^ 64)
      → IsSeat kept after
  looks_on kept me after word seat has is still =
      let looked : IsSeat kept (looking me.0 word, me.1) = record {
        in_use = seat.in_use;
        turn = λ _. has;
        out = λ out. let known = seat.out out in (eq-eqb word (me.0.ticket % 2 ^ 64) (still known.0), known.1);
        put = λ put. eq-eqb word (me.0.ticket % 2 ^ 64) (still (seat.put put));
        slots = seat.slots;
        number = seat.number;
      } in
      subst (λ m. IsSeat kept m) (sym is) looked
