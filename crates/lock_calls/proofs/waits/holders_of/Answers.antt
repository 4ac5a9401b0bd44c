use Rattle.std.proofs.Common.{◌≡◌, ◌+◌, ◌<◌, ◌≤◌, List, length, refl, ap, sym, ◌∙◌, subst, arith}
use Rattle.std.specs.Int.{bit_at}
use Rattle.proc_table.specs.declared.places.Place.{Place}
use Rattle.lock_calls.specs.Waiting.{bit_if, pid_at, stops_at}
use Rattle.lock_calls.proofs.Rows.{AreBits, all_bits, bit_left, bit_set, no_bits, place_pid, set_bit}
use Rattle.lock_calls.proofs.waits.holders_of.Goals as goal
use Rattle.lock_calls.proofs.waits.holders_of.Goals.{then-stops, else-stops}

pub loop-other-init : goal.loop-other-init
loop-other-init c = record { at = refl; bits = λ locks holds. no_bits (stops_at locks c.args.pid c.args.wanted.now) c.listed-other-items.result.now }

none : Place
none = record { pid = 0; key = 0 }

pub loop-other-preserved : goal.loop-other-preserved
unfolding none
loop-other-preserved c =
    let items = c.listed-other-items.result.now in
    let k = c.loop-other.other-index in
    let within : k < length items = (let test = c.loop-other-test.true in omega (arith, test)) in
    let few : length items ≤ 64 = c.listed-other-items.ensures.few in
    let at : c.loop-other.at ≡ k = c.loop-other.invariant.at in
    elim c.if-stops.branch [
      | then-stops w ↦ record {
        at = omega (arith, at);
        bits = λ locks holds.
            let set = bit_set (stops_at locks c.args.pid c.args.wanted.now) items k c.loop-other.holders _ (c.loop-other.invariant.bits locks holds) (place_pid items k none within)
            (omega (arith, within, few)) (sym (c.stops.ensures locks holds) ∙ w.if-stops.true) in
            subst (λ row. AreBits (stops_at locks c.args.pid c.args.wanted.now) items (k + 1) row) (sym (w.holders-is ∙ ap (set_bit c.loop-other.holders) at)) set;
      }
      | else-stops w ↦ record {
        at = omega (arith, at);
        bits = λ locks holds.
            let left = bit_left (stops_at locks c.args.pid c.args.wanted.now) items k c.loop-other.holders _ (c.loop-other.invariant.bits locks holds) (place_pid items k none within)
            (sym (c.stops.ensures locks holds) ∙ w.if-stops.false) in
            subst (λ row. AreBits (stops_at locks c.args.pid c.args.wanted.now) items (k + 1) row) (sym w.holders-is) left;
      }
    ]

pub returns : goal.returns
returns c = λ locks holds at.
    let items = c.listed-other-items.result.now in
    let past : length items ≤ c.loop-other.other-index = omega arith in
    subst (λ (places : List Place). bit_at c.loop-other.holders at ≡ bit_if (stops_at locks c.args.pid c.args.wanted.now (pid_at places at))) c.listed-other-items.ensures.places
    (all_bits (stops_at locks c.args.pid c.args.wanted.now) items c.loop-other.other-index c.loop-other.holders refl past (c.loop-other.invariant.bits locks holds) at)
