use Rattle.std.proofs.Common.{◌≡◌, ◌+◌, ◌<◌, Bool, true, false, sym, subst, arith}
use Rattle.wait_graph.proofs.Told.{IsTold, IsTold-left, IsTold-none, IsTold-set}
use Rattle.wait_graph.proofs.circles.circling.Goals as goal
use Rattle.wait_graph.proofs.circles.circling.Goals.{then-circle, else-circle}

no_both : (b : Bool) → b ≡ true → b ≡ false → ⊥
no_both true is other = cc
no_both false is other = cc

pub loop-from-init : goal.loop-from-init
loop-from-init c = IsTold-none c.args.edges.now

pub loop-from-preserved : goal.loop-from-preserved
loop-from-preserved c =
    let edges = c.args.edges.now in
    let from = c.loop-from.from in
    let within : from < 64 = omega arith in
    elim c.if-circle.branch [
      | then-circle w ↦ subst (IsTold edges (from + 1)) (sym w.circling-is) (IsTold-set edges from c.loop-from.circling c.loop-from.invariant within (c.circle.ensures.0 w.if-circle.true))
      | else-circle w ↦ subst (IsTold edges (from + 1)) (sym w.circling-is) (IsTold-left edges from c.loop-from.circling c.loop-from.invariant (λ chain. no_both c.circle.result (c.circle.ensures.1 chain) w.if-circle.false))
    ]

pub returns : goal.returns
returns c = λ i within. c.loop-from.invariant.told i (omega (arith, within))
