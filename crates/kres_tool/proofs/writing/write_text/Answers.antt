use Rattle.std.proofs.Common.{◌≡◌, ◌≤◌, ◌∙◌, ◌+◌, true, false, [], length, drop, length-drop, ap, sym, subst, arith, rules}
use borrow.Author.Tests.{eqb-true}
use Rattle.std.proofs.lemmas.List.{nil_from_length, take_rest}
use Rattle.kio_ports.specs.Offers.{PutsAll, broke, nothing_left, took}
use Rattle.kres_tool.proofs.Puts.{put_more, left_more}
use Rattle.kres_tool.proofs.writing.write_text.Goals as goal

pub loop-left-preserved : goal.loop-left-preserved
loop-left-preserved g c =
    let before = c.loop-left.invariant in
    let count = c.in_ok-count.count in
    let left = c.loop-left.left.now in
    let held = g.K.Sink.held in
    record {
      put = before.put + count;
      within =
          let fits : count ≤ length left = c.in_ok-count.ensures.fits in
          let size : length left ≡ length (drop before.put c.args.text.now) = ap length before.rest in
          omega (arith, size, length-drop before.put c.args.text.now);
      rest = left_more c.args.text.now left before.put count before.rest;
      held = put_more (held c.args.sink.now) (held c.loop-left.sink) (held c.put.new.self) c.args.text.now left before.put count
          before.rest before.held c.in_ok-count.ensures.appended;
      faults = c.in_ok-count.ensures.no_fault ∙ before.faults;
      offers = λ whole after rest.
          before.offers whole after
          (took c.loop-left.sink c.put.new.self after left count whole
          (subst (λ answer. g.K.Sink.put_gives c.loop-left.sink left answer c.put.new.self) c.in_ok-count.was c.put.ensures.offered)
          (subst (λ bytes. PutsAll g.K.Sink.put_gives c.put.new.self bytes whole after) (take_rest left count) rest));
    }

pub returns-in_err-count-clause-offered_part : goal.returns-in_err-count-clause-offered_part
returns-in_err-count-clause-offered_part g c =
    let left = c.loop-left.left.now in
    let gave : PutsAll g.K.Sink.put_gives c.args.sink.now c.args.text.now false c.put.new.self =
    c.loop-left.invariant.offers false c.put.new.self
    (broke c.loop-left.sink c.put.new.self left c.in_err-count.field-0.0
    (subst (λ answer. g.K.Sink.put_gives c.loop-left.sink left answer c.put.new.self) c.in_err-count.was c.put.ensures.offered)) in
    search rules

pub returns-clause-offered : goal.returns-clause-offered
returns-clause-offered g c =
    let left = c.loop-left.left.now in
    let none : left ≡ [] = nil_from_length left (eqb-true (length left) 0 (sym c.is_empty.ensures ∙ c.loop-left-test.false)) in
    c.loop-left.invariant.offers true c.loop-left.sink
    (subst (λ bytes. PutsAll g.K.Sink.put_gives c.loop-left.sink bytes true c.loop-left.sink) (sym none) (nothing_left c.loop-left.sink))
