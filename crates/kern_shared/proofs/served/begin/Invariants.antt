use Rattle.std.proofs.Common.{◌≡◌, true, false}
use Rattle.kern_shared.proofs.served.begin.Given as goal

abbrev pub invariant-loop : goal.invariant-loop
invariant-loop g l =
    record {
      turns : l.seat.turns ≡ l.turns;
      ticket : l.seat.known.has_ticket ≡ true;
      out : l.seat.known.is_out ≡ false;
      put : l.seat.known.has_put ≡ false;
      seen : l.seat.known.seen ≡ l.fn.seat.known.seen;
      mine : l.seat.known.mine ≡ l.fn.seat.known.mine;
      is_boot : l.seat.known.is_boot ≡ l.fn.seat.known.is_boot;
      others : l.seat.known.others ≡ l.fn.seat.known.others;
    }
